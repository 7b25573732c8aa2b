-- What a contract sees of a book of names: the names, which of them share a cluster of main, and which are touched.
use Rattle.std.specs.Prelude.{◌≡◌, ◌≢◌, ℕ, zero, suc, Bool, true, Option, Some, unwrap_or, MatchOption, refl}
use Rattle.std.specs.Coded.{Coded, code_by, coded×, coded_ℕ, coded_option}
use Rattle.std.specs.Ordering.{nat_cmp}
use Rattle.std.specs.FinMap as finmap
use Rattle.std.specs.FinSet as set
use Rattle.node_pool.specs.Cycles.{Reaches}

-- ---- a table

-- from each name to the name after it
abbrev pub Steps : Type 0
Steps = finmap.FinMap nat_cmp ℕ

-- The live names; the name after each in ring 0, and in ring 1; how many names can be inserted with no growth, and how
-- many ever were. A number of a ring picks one of two partitions of the names into rings.
pub record Table : Type 0 where
  pub names : set.FinSet nat_cmp
  pub ring_0 : Steps
  pub ring_1 : Steps
  pub spare : ℕ
  pub issued : ℕ

-- a table is stored as the tuple of its fields
abbrev pub steps_code : Coded Steps
steps_code = finmap.code coded_ℕ coded_ℕ

abbrev pub table_code : Coded Table
table_code =
    code_by (set.FinSet nat_cmp × (Steps × (Steps × (ℕ × ℕ))))
    (coded× (set.code coded_ℕ) (coded× steps_code (coded× steps_code (coded× coded_ℕ coded_ℕ))))
    (λ b. (b.names, (b.ring_0, (b.ring_1, (b.spare, b.issued)))))
    (λ p. record { names = p.0; ring_0 = p.1.0; ring_1 = p.1.1.0; spare = p.1.1.1.0; issued = p.1.1.1.1 }) (λ _. refl)

-- whether a name is live
abbrev pub has : Table → ℕ → Bool
has table id = set.contains table.names id

abbrev pub IsNamed : Table → ℕ → Type 0
IsNamed table id = has table id ≡ true

-- the steps of ring r
abbrev pub steps_in : Table → ℕ → Steps
steps_in table zero = table.ring_0
steps_in table (suc r) = table.ring_1

-- the name after this one in its ring r: itself where it is alone, or isn't live
abbrev pub after : Table → ℕ → ℕ → ℕ
after table r id = unwrap_or (finmap.get (steps_in table r) id) id

-- b stands in the ring r of a: both are live, and steps lead from each to the other
pub record AreRung (table : Table) (r a b : ℕ) : Type 0 where
  pub from : IsNamed table a
  pub to : IsNamed table b
  pub steps : Reaches (after table r) a b
  pub back : Reaches (after table r) b a

-- ---- a book

-- The names with their rings, and one of the touched names.
pub record Ringed : Type 0 where
  pub book : Table
  pub touched : Option ℕ

abbrev pub ringed_code : Coded Ringed
ringed_code =
    code_by (Table × Option ℕ) (coded× table_code (coded_option coded_ℕ)) (λ r. (r.book, r.touched)) (λ p. record { book = p.0; touched = p.1 }) (λ _. refl)

-- two names share a cluster of main
abbrev pub ShareMain : Ringed → ℕ → ℕ → Type 0
ShareMain rings a b = AreRung rings.book 0 a b

-- a name is touched: it stands in the ring of the touched name that is kept
abbrev pub IsMarked : Ringed → ℕ → Type 0
IsMarked rings id = MatchOption rings.touched ⊥ (λ t. AreRung rings.book 1 t id)

-- A touched name that is kept is live, and every name that isn't touched is alone in ring 1.
pub record AreMarks (rings : Ringed) : Type 0 where
  pub live : (t : ℕ) → rings.touched ≡ Some t → IsNamed rings.book t
  pub alone : (a b : ℕ) → AreRung rings.book 1 a b → a ≢ b → IsMarked rings a
