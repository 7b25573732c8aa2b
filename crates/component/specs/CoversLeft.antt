-- What a walk over parents has left, whichever width the cluster has.
use Rattle.std.specs.Prelude.{ℕ, List}
use Rattle.component.specs.declared.covers.Left.{Left}
use Rattle.component.specs.declared.covers.Left.TheVariants.{Narrow, Wide}

-- the parents that are still to come
abbrev pub covers_left : {W : ℕ} → Left W → List ℕ
covers_left (Narrow ids) = ids
covers_left (Wide ids) = ids
