-- One more change of a list of changes, the last of those that are left, is done.
use Rattle.std.proofs.Common.{false, true, ◌<◌, ◌↔◌, length, suc, get_or, take, drop, arith, ◌≡◌, ℕ, List, [], ◌∷◌, ◌++◌, map, Option, None, Some, IsSome, is_some, Contains, inl, inr, refl, sym, ap, ◌∙◌, subst, append_assoc}
use Rattle.std.proofs.lemmas.Bool.{cases_eq}
use Rattle.std.proofs.Math.Seq.{take-suc}
use Rattle.std.proofs.lemmas.List.{map-append, append-nil, take-append-drop, map-id}
use Rattle.std.proofs.lemmas.List.Elements.{Contains-append_left, Contains-push}
use Rattle.lists.specs.Distinct.{AreDistinct}
use Rattle.lists.proofs.Distinct.{distinct-append_left, distinct_apart}
use Rattle.lists.proofs.Entries.{Contains-head, Contains-later, Contains-cases, Contains-map, none_in_empty}
use Rattle.cluster_store.specs.Stores.{Stored}
use Rattle.cluster_store.specs.Kept.{Slots, at}
use Rattle.cluster_store.specs.Slots.{Writes, AreStored, Done}

module _ {X : Type 0} (number : X → ℕ) (f : X → Option Stored → Option Stored) where
  pub done_none : (slots : Slots) → Done number f [] slots slots
  done_none slots = record { each = λ x here. absurd (none_in_empty x here); others = λ m _. refl }

  pub done_more : (x : X) (xs : List X) (old cur new : Slots) → Done number f xs old cur → (Contains (map number xs) (number x) → ⊥)
      → Writes cur new (number x) (f x (at cur (number x))) → Done number f (x ∷ xs) old new
  done_more x xs old cur new done apart writes = record {
    each = λ y here. elim (Contains-cases x y xs here) [
      | inl same ↦ subst (λ (z : X). at new (number z) ≡ f z (at old (number z))) same (writes.changed ∙ ap (f x) (done.others (number x) apart))
      | inr later ↦
          writes.others (number y) (λ e. apart (subst (Contains (map number xs)) e (Contains-map number xs y later))) ∙ done.each y later
    ];
    others = λ m none.
        writes.others m (λ e. none (subst (Contains (map number (x ∷ xs))) (sym e) (Contains-head (number x) (map number xs))))
        ∙ done.others m (λ here. none (Contains-later (number x) m (map number xs) here));
  }

  -- what is left of a list, and what was done of it
  pub record IsHalf (all left : List X) (old cur : Slots) : Type 0 where
    pub past : List X
    pub split : all ≡ left ++ past
    pub done : Done number f past old cur

  pub half_begins : (all : List X) (slots : Slots) → IsHalf all all slots slots
  half_begins all slots = record { past = []; split = sym (append-nil all); done = done_none slots }

  pub half_ends : (all : List X) (old cur : Slots) → IsHalf all [] old cur → Done number f all old cur
  half_ends all old cur half = subst (λ (xs : List X). Done number f xs old cur) (sym half.split) half.done

  module _ (all left : List X) (x : X) (old cur : Slots) (there : AreStored (map number all) old) (half : IsHalf all (left ++ x ∷ []) old cur) where
    whole : map number all ≡ map number (left ++ x ∷ []) ++ map number half.past
    whole = ap (map number) half.split ∙ map-append number (left ++ x ∷ []) half.past

    split_on : all ≡ left ++ x ∷ half.past
    split_on = half.split ∙ append_assoc left (x ∷ []) half.past

    last_in : Contains (map number (left ++ x ∷ [])) (number x)
    last_in = Contains-map number (left ++ x ∷ []) x (Contains-push left x)

    pub half_apart : Contains (map number half.past) (number x) → ⊥
    half_apart here = distinct_apart (map number (left ++ x ∷ [])) (map number half.past) (number x) (subst AreDistinct whole there.once) last_in here

    pub half_same : at cur (number x) ≡ at old (number x)
    half_same = half.done.others (number x) half_apart

    pub half_there : IsSome (at cur (number x))
    half_there =
        ap is_some half_same
        ∙ there.there (number x) (subst (λ (ns : List ℕ). Contains ns (number x)) (sym whole)
        (Contains-append_left (map number (left ++ x ∷ [])) (map number half.past) (number x) last_in))

    pub half_next : (new : Slots) → Writes cur new (number x) (f x (at cur (number x))) → IsHalf all left old new
    half_next new writes = record {
      past = x ∷ half.past;
      split = split_on;
      done = done_more x half.past old cur new half.done half_apart writes;
    }

    -- the others that are left have other numbers
    pub half_alone : Contains (map number left) (number x) → ⊥
    half_alone here =
        distinct_apart (map number left) (number x ∷ []) (number x)
        (subst AreDistinct (map-append number left (x ∷ []))
        (distinct-append_left (map number (left ++ x ∷ [])) (map number half.past) (subst AreDistinct whole there.once)))
        here (Contains-head (number x) [])

-- ---- clusters under numbers, the last one and those before it

module _ {X : Type 0} (number : X → ℕ) (xs : List X) (y : X) (slots : Slots) (stored : AreStored (map number (xs ++ y ∷ [])) slots) where
  pub stored_front : AreStored (map number xs) slots
  stored_front = record {
    once = distinct-append_left (map number xs) (number y ∷ []) (subst AreDistinct (map-append number xs (y ∷ [])) stored.once);
    there = λ m here.
        stored.there m (subst (λ (ns : List ℕ). Contains ns m) (sym (map-append number xs (y ∷ [])))
        (Contains-append_left (map number xs) (number y ∷ []) m here));
  }

  pub stored_apart : Contains (map number xs) (number y) → ⊥
  stored_apart here =
      distinct_apart (map number xs) (number y ∷ []) (number y)
      (subst AreDistinct (map-append number xs (y ∷ [])) stored.once) here (Contains-head (number y) [])

  pub stored_last : IsSome (at slots (number y))
  stored_last = stored.there (number y) (Contains-map number (xs ++ y ∷ []) y (Contains-push xs y))

pub stored_part : {X : Type 0} (number : X → ℕ) (xs ys all : List X) (slots : Slots)
    → all ≡ xs ++ ys → AreStored (map number all) slots → AreStored (map number xs) slots
stored_part number xs ys all slots split stored =
    let whole : map number all ≡ map number xs ++ map number ys = ap (map number) split ∙ map-append number xs ys in
    record {
      once = distinct-append_left (map number xs) (map number ys) (subst AreDistinct whole stored.once);
      there = λ m here. stored.there m (subst (λ (ns : List ℕ). Contains ns m) (sym whole) (Contains-append_left (map number xs) (map number ys) m here));
    }

pub stored_same : (numbers : List ℕ) (slots : Slots) → AreStored numbers slots → AreStored (map (λ n. n) numbers) slots
stored_same numbers slots stored = subst (λ (ns : List ℕ). AreStored ns slots) (sym (map-id numbers)) stored

pub no_items : {X : Type 0} (xs : List X) → length xs ≡ 0 → xs ≡ []
no_items [] none = refl
no_items (x ∷ xs) none = absurd (omega arith)

pub nothing_left : {X Y : Type 0} (r : Option Y) (xs : List X) (n : ℕ) → IsSome r ↔ (0 < n) → n ≡ length xs → ((x : Y) → r ≡ Some x → ⊥) → xs ≡ []
nothing_left None xs n has long none =
    let some : 0 < n → ⊥ = λ below. (let no : false ≡ true = has.1 below in cc) in
    no_items xs (elim (cases_eq (length xs) 0) [ inl is ↦ is | inr other ↦ absurd (some (omega arith)) ])
nothing_left (Some x) xs n has long none = absurd (none x refl)

pub next_taken : {X : Type 0} (xs : List X) (i : ℕ) (x : X) → i < length xs → x ≡ get_or xs i x → take (suc i) xs ≡ take i xs ++ x ∷ []
next_taken {X = X} xs i x below here = take-suc xs i x below ∙ ap (λ (y : X). take i xs ++ y ∷ []) (sym here)

pub stored_at : {X : Type 0} (number : X → ℕ) (xs : List X) (i : ℕ) (x : X) (slots : Slots)
    → AreStored (map number xs) slots → i < length xs → x ≡ get_or xs i x
    → AreStored (map number (take i xs ++ x ∷ [])) slots
stored_at {X = X} number xs i x slots stored below here =
    stored_part number (take i xs ++ x ∷ []) (drop (suc i) xs) xs slots
    (sym (take-append-drop (suc i) xs) ∙ ap (λ (ys : List X). ys ++ drop (suc i) xs) (next_taken xs i x below here)) stored

pub none_taken : {X : Type 0} (xs : List X) → take 0 xs ≡ []
none_taken [] = refl
none_taken (x ∷ xs) = refl
