-- Lists with each entry once.
use Rattle.std.proofs.Common.{◌≡◌, ◌↔◌, List, [], ◌∷◌, Contains, inl, inr, ◌⊎◌, subst}
use Rattle.lists.specs.Distinct.{AreDistinct}
use Rattle.lists.proofs.Entries.{Contains-head, Contains-later, Contains-cases}
use Rattle.lists.proofs.Told.{told_in}

-- the entries of a list, each once
pub record IsOnce {A : Type 0} (xs list : List A) : Type 0 where
  pub once : AreDistinct list
  pub same : (x : A) → Contains list x ↔ Contains xs x

module _ {A : Type 0} (decide : (x y : A) → (x ≡ y) ⊎ (x ≡ y → ⊥)) where
  one_more : (x : A) (xs list : List A) → IsOnce xs list → Contains list x ⊎ (Contains list x → ⊥) → (more : List A) × IsOnce (x ∷ xs) more
  one_more x xs list is (inl there) = (
    list,
    record {
      once = is.once;
      same = λ y. (
        λ here. Contains-later x y xs ((is.same y).0 here),
        λ here. elim (Contains-cases x y xs here) [ inl same ↦ subst (Contains list) same there | inr later ↦ (is.same y).1 later ],
      );
    },
  )
  one_more x xs list is (inr none) = (
    x ∷ list,
    record {
      once = (none, is.once);
      same = λ y. (
        λ here. elim (Contains-cases x y list here) [
          | inl same ↦ subst (Contains (x ∷ xs)) same (Contains-head x xs)
          | inr later ↦ Contains-later x y xs ((is.same y).0 later)
        ],
        λ here. elim (Contains-cases x y xs here) [
          | inl same ↦ subst (Contains (x ∷ list)) same (Contains-head x list)
          | inr later ↦ Contains-later x y list ((is.same y).1 later)
        ],
      );
    },
  )

  pub listed_once : (xs : List A) → (list : List A) × IsOnce xs list
  listed_once [] = ([], record { once = tt; same = λ y. ((λ h. h), (λ h. h)) })
  listed_once (x ∷ xs) = let rest = listed_once xs in one_more x xs rest.0 rest.1 (told_in decide rest.0 x)
