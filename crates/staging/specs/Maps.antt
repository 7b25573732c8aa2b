-- What a contract sees of a map with a staged copy: two whole maps, as the levels MAIN and TOP of Bitcoin Core's `txgraph.h`
-- with its `StartStaging`, `CommitStaging` and `AbortStaging`.
use Rattle.std.specs.Prelude.{ℕ, Option, unwrap_or, refl}
use Rattle.std.specs.Coded.{Coded, code_by, coded×, coded_ℕ, coded_option}
use Rattle.std.specs.Ordering.{nat_cmp}
use Rattle.std.specs.FinMap as finmap
use Rattle.graphs.specs.declared.names.Level.{Level}
use Rattle.graphs.specs.declared.names.Level.TheVariants.{Main, Top}

-- a finite map from keys to values
abbrev pub Map : Type 0 → Type 0
Map V = finmap.FinMap nat_cmp V

-- the base map, the staged map where something is staged, and how many keys can be put or removed with no growth
pub record Maps (V : Type 0) : Type 0 where
  pub base : Map V
  pub top : Option (Map V)
  pub spare : ℕ

module _ {V : Type 0} where
  -- they are stored as the tuple of the fields
  abbrev pub maps_code : Coded V → Coded (Maps V)
  maps_code c =
      code_by (Map V × (Option (Map V) × ℕ))
      (coded× (finmap.code coded_ℕ c) (coded× (coded_option (finmap.code coded_ℕ c)) coded_ℕ))
      (λ m. (m.base, (m.top, m.spare))) (λ p. record { base = p.0; top = p.1.0; spare = p.1.1 }) (λ _. refl)

  -- the map of the top level: the staged one where something is staged, else the base
  abbrev pub top_of : Maps V → Map V
  top_of m = unwrap_or m.top m.base

  -- the map of a level
  abbrev pub map_of : Level → Maps V → Map V
  map_of Main m = m.base
  map_of Top m = top_of m
