-- That items are in key order has one proof at most, so a walk may keep it beside the trees that it searches.
use Rattle.std.specs.Prelude.{List, [], ◌∷◌}
use Rattle.std.specs.List.{AllByRecursion-prop}
use Rattle.std.specs.Ordering.{Ordering-set}
use mathlib.Core.HLevel.{×_prop, Unit-prop}
use Rattle.chunk_index.specs.declared.key.Key.{Key}
use Rattle.chunk_index.specs.Keys.{IsInOrder}

pub IsInOrder-prop : {A : Type 0} (key : A → Key) (xs : List A) → IsProp (IsInOrder key xs)
unfolding IsInOrder
IsInOrder-prop key [] = Unit-prop
IsInOrder-prop key (x ∷ xs) = ×_prop (AllByRecursion-prop _ (λ y. Ordering-set _ _) xs) (IsInOrder-prop key xs)
