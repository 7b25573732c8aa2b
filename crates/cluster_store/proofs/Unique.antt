-- There is one order of the parts of clusters.
use Rattle.std.proofs.Common.{◌≡◌, ℕ, List, [], ◌∷◌, Contains, sym, ap, ◌∙◌}
use Rattle.std.specs.declared.cmp.Ordering.TheVariants.{Less, Equal, Greater}
use Rattle.std.specs.Ordering.{ordering_reverse}
use Rattle.std.specs.Cmp.{tied_itself}
use Rattle.lists.proofs.Follows.{Follow, follow_once}
use Rattle.chunk_index.specs.declared.key.Key.{Key}
use Rattle.chunk_index.specs.KeyOrder.{key_cmp}
use Rattle.chunk_index.specs.KeyLaws.{key_cmp_total}
use Rattle.chunk_index.specs.Keys.{IsInOrder}
use Rattle.cluster_store.specs.Stores.{Numbered, key_at, IsOrdered}
use Rattle.cluster_store.proofs.Walks.{all_at}

less_not_greater : Less ≡ Greater → ⊥
less_not_greater e = cc

less_not_equal : Less ≡ Equal → ⊥
less_not_equal e = cc

module _ {A : Type 0} (key : A → Key) where
  pub both_before : (x y : A) → key_cmp (key x) (key y) ≡ Less → key_cmp (key y) (key x) ≡ Less → ⊥
  both_before x y p q = less_not_greater (sym q ∙ key_cmp_total.antisymm (key y) (key x) ∙ ap ordering_reverse p)

  pub before_itself : (x : A) → key_cmp (key x) (key x) ≡ Less → ⊥
  before_itself x p = less_not_equal (sym p ∙ tied_itself key_cmp_total (key x))

  pub behind_first : (x y : A) (xs : List A) → IsInOrder key (x ∷ xs) → Contains xs y → key_cmp (key x) (key y) ≡ Less
  unfolding IsInOrder
  behind_first x y xs order here = all_at (λ (z : A). key_cmp (key x) (key z) ≡ Less) xs y order.0 here

  pub rest_order : (x : A) (xs : List A) → IsInOrder key (x ∷ xs) → IsInOrder key xs
  unfolding IsInOrder
  rest_order x xs order = order.1

  follows : (xs : List A) → IsInOrder key xs → Follow (λ x y. key_cmp (key x) (key y) ≡ Less) xs
  follows [] order = tt
  follows (x ∷ xs) order = ((λ y here. behind_first x y xs order here), follows xs (rest_order x xs order))

  pub ordered_once : (xs ys : List A) → IsInOrder key xs → IsInOrder key ys
      → ((z : A) → Contains xs z → Contains ys z) → ((z : A) → Contains ys z → Contains xs z) → xs ≡ ys
  ordered_once xs ys first second = follow_once (λ x y. key_cmp (key x) (key y) ≡ Less) both_before xs ys (follows xs first) (follows ys second)

pub one_order : (clusters : Numbered) (a b : List (ℕ × ℕ)) → IsOrdered clusters a → IsOrdered clusters b → a ≡ b
one_order clusters a b first second =
    ordered_once (key_at clusters) a b first.sorted second.sorted
    (λ p here. (second.exact p).1 ((first.exact p).0 here)) (λ p here. (first.exact p).1 ((second.exact p).0 here))
