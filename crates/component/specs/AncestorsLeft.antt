-- What a walk over ancestors has left, whichever width the cluster has.
use Rattle.std.specs.Prelude.{ℕ, List}
use Rattle.component.specs.declared.ancestors.Left.{Left}
use Rattle.component.specs.declared.ancestors.Left.TheVariants.{Narrow, Wide}

-- the ancestors that are still to come
abbrev pub ancestors_left : {W : ℕ} → Left W → List ℕ
ancestors_left (Narrow ids) = ids
ancestors_left (Wide ids) = ids
