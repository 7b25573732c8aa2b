-- The kin of a place.
use Rattle.std.specs.Prelude.{ℕ}
use Rattle.std.specs.Ordering.{nat_cmp}
use Rattle.std.specs.FinSet as set
use Rattle.graphs.specs.Closures.{Closure, ancestors_of, descendants_of}
use Rattle.graphs.specs.declared.names.Kin.{Kin}
use Rattle.graphs.specs.declared.names.Kin.TheVariants.{Ancestors, Descendants}

-- its ancestors, or its descendants
abbrev pub kin_of : Kin → Closure → ℕ → set.FinSet nat_cmp
kin_of Ancestors g p = ancestors_of g p
kin_of Descendants g p = descendants_of g p
