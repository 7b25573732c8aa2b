-- The transactions and pairs at some places.
use Rattle.std.proofs.Common.{◌≡◌, ℕ, ℤ, pos, ◌+◌, ◌-◌, ◌<◌, ◌≤◌, ◌⊎◌, inl, inr, Bool, true, false, List, [], ◌∷◌, ◌++◌, length, map, get_or, set, take, Option, Some, sym, ap, ◌∙◌, subst, arith}
use Rattle.std.specs.Prelude.{Contains}
use Rattle.std.proofs.lemmas.Bool.{cases_eq, cases_lt}
use Rattle.std.proofs.lemmas.List.{get_or_default, get_or-set_same, get_or-set_other, take_more}
use Rattle.std.proofs.lemmas.List.Elements.{Contains-get_or, Contains-push, Contains-push_cases, Contains-append_left}
use Rattle.std.proofs.lemmas.Option.{same_Some}
use Rattle.std.proofs.lemmas.Simd.{map-map}
use Rattle.lists.proofs.Entries.{Contains-map, map-Contains, map_along, none_in_empty}
use Rattle.graphs.specs.Certificates.{Txs}
use Rattle.links.specs.Links.{AreAmong, AreInRange, AreSame}
use Rattle.links.specs.Kept.{names_of}
use Rattle.links.specs.Leaving.{Adds}
use Rattle.places.specs.Places.{ArePlaces, AreSteps}
use Rattle.places.specs.Chains.{pair_at, IsLast}
use Rattle.links.specs.Walkers.{mark_at}
use Rattle.links.specs.Gathering.{tx_at, MarksMore, IsFrom, IsFromOne, AreInto, AreClosed}
use Rattle.places.proofs.Placing.{name_at}
use Rattle.links.proofs.Walking.{named_step}

-- ---- the first entries, one more

taken_cases : (xs : List ℕ) (k x : ℕ) → k < length xs → Contains (take (k + 1) xs) x → Contains (take k xs) x ⊎ (get_or xs k 0 ≡ x)
taken_cases xs k x low here =
    Contains-push_cases (take k xs) (get_or xs k 0) x (subst (λ (l : List ℕ). Contains l x) (take_more xs k 0 low) here)

taken_before : (xs : List ℕ) (k x : ℕ) → k < length xs → Contains (take k xs) x → Contains (take (k + 1) xs) x
taken_before xs k x low here =
    subst (λ (l : List ℕ). Contains l x) (sym (take_more xs k 0 low)) (Contains-append_left (take k xs) (get_or xs k 0 ∷ []) x here)

taken_last : (xs : List ℕ) (k : ℕ) → k < length xs → Contains (take (k + 1) xs) (get_or xs k 0)
taken_last xs k low =
    subst (λ (l : List ℕ). Contains l (get_or xs k 0)) (sym (take_more xs k 0 low)) (Contains-push (take k xs) (get_or xs k 0))

-- ---- marks

pub marks_next : (count : ℕ) (old mid : List Bool) (places : List ℕ) (k : ℕ) → MarksMore count old (take k places) mid → k < length places
    → get_or places k 0 < length mid → MarksMore count old (take (k + 1) places) (set mid (get_or places k 0) true)
marks_next count old mid places k more low inside p below =
    let place : ℕ = get_or places k 0 in
    elim (cases_eq p place) [
      | inl same ↦ (
        (λ _. inr (subst (λ (x : ℕ). Contains (take (k + 1) places) x) (sym same) (taken_last places k low))),
        (λ _. ap (mark_at (set mid place true)) same ∙ get_or-set_same mid place true false inside),
      )
      | inr other ↦
          let kept : mark_at (set mid place true) p ≡ mark_at mid p = get_or-set_other mid place p true false other in (
            (λ marked. elim ((more p below).0 (sym kept ∙ marked)) [
              | inl was ↦ inl was
              | inr here ↦ inr (taken_before places k p low here)
            ]),
            (λ either. kept ∙ (more p below).1 (elim either [
              | inl was ↦ inl was
              | inr here ↦ elim (taken_cases places k p low here) [
                | inl before ↦ inr before
                | inr same ↦ absurd (other (sym same))
              ]
            ])),
          )
    ]

-- ---- the pairs of the steps that lead from a place

-- The steps before `left` are still to be looked at, the last of them is from the place, and the pairs of the later ones were put.
pub record IsPut (steps pairs : List (ℕ × ℕ)) (place left : ℕ) (old new : List (ℕ × ℕ)) : Type 0 where
  pub below : left ≤ length steps
  pub into : 0 < left → (pair_at steps (left - 1)).1 ≡ place
  pub adds : Adds (λ a b. (k : ℕ) × (left ≤ k) × (k < length pairs) × ((pair_at steps k).1 ≡ place) × (◌≡◌ {A = ℕ × ℕ} (pair_at pairs k) (a, b))) old new

pub put_first : (steps pairs list : List (ℕ × ℕ)) (place left : ℕ) → length steps ≡ length pairs → IsLast steps place (length steps) left
    → IsPut steps pairs place left list list
put_first steps pairs list place left sized last = record {
  below = last.below;
  into = last.into;
  adds = λ a b. (
    (λ here. inl here),
    (λ either. elim either [
      | inl here ↦ here
      | inr (k, from, low, is, at) ↦ absurd (last.later k from (omega arith) is)
    ]),
  );
}

pub put_next : (steps pairs old mid new : List (ℕ × ℕ)) (place left next : ℕ) → length steps ≡ length pairs → IsPut steps pairs place left old mid
    → 0 < left → IsLast steps (pair_at steps (left - 1)).1 (left - 1) next → new ≡ mid ++ pair_at pairs (left - 1) ∷ []
    → IsPut steps pairs place next old new
put_next steps pairs old mid new place left next sized put some chain is =
    let x : ℕ × ℕ = pair_at pairs (left - 1) in
    let own : IsLast steps place (left - 1) next = subst (λ (q : ℕ). IsLast steps q (left - 1) next) (put.into some) chain in
    let short = own.below in
    let below = put.below in
    record {
      below = omega arith;
      into = own.into;
      adds = λ a b. (
        (λ here. elim (Contains-push_cases mid x (a, b) (subst (λ (l : List (ℕ × ℕ)). Contains {X = ℕ × ℕ} l (a, b)) is here)) [
          | inl there ↦ elim ((put.adds a b).0 there) [
            | inl was ↦ inl was
            | inr (k, from, low, leads, at) ↦ inr (k, omega arith, low, leads, at)
          ]
          | inr same ↦ inr (left - 1, short, omega arith, put.into some, same)
        ]),
        (λ either. subst (λ (l : List (ℕ × ℕ)). Contains {X = ℕ × ℕ} l (a, b)) (sym is) (elim either [
          | inl was ↦ Contains-append_left mid (x ∷ []) (a, b) ((put.adds a b).1 (inl was))
          | inr (k, from, low, leads, at) ↦ elim (cases_lt k left) [
            | inl less ↦ elim (cases_eq k (left - 1)) [
              | inl same ↦ subst (λ (y : ℕ × ℕ). Contains (mid ++ x ∷ []) y) (ap (pair_at pairs) (sym same) ∙ at) (Contains-push mid x)
              | inr other ↦ absurd (own.later k from (omega arith) leads)
            ]
            | inr more ↦ Contains-append_left mid (x ∷ []) (a, b) ((put.adds a b).1 (inr (k, more, low, leads, at)))
          ]
        ])),
      );
    }

pub put_all : (steps pairs old new : List (ℕ × ℕ)) (place left : ℕ) → IsPut steps pairs place left old new → left ≤ 0
    → Adds (IsFrom steps pairs place) old new
put_all steps pairs old new place left put none a b = (
  (λ here. elim ((put.adds a b).0 here) [
    | inl was ↦ inl was
    | inr (k, from, low, leads, at) ↦ inr (k, low, leads, at)
  ]),
  (λ either. (put.adds a b).1 (elim either [
    | inl was ↦ inl was
    | inr (k, low, leads, at) ↦ inr (k, omega arith, low, leads, at)
  ])),
)

-- ---- of several places

pub from_none : (steps pairs : List (ℕ × ℕ)) → Adds (IsFromOne steps pairs []) [] []
from_none steps pairs a b = (
  (λ here. inl here),
  (λ either. elim either [
    | inl here ↦ here
    | inr (place, here, leads) ↦ absurd (none_in_empty place here)
  ]),
)

pub from_next : (steps pairs old new : List (ℕ × ℕ)) (places : List ℕ) (k : ℕ) → k < length places
    → Adds (IsFromOne steps pairs (take k places)) [] old → Adds (IsFrom steps pairs (get_or places k 0)) old new
    → Adds (IsFromOne steps pairs (take (k + 1) places)) [] new
from_next steps pairs old new places k low first second a b = (
  (λ here. elim ((second a b).0 here) [
    | inl was ↦ elim ((first a b).0 was) [
      | inl none ↦ inl none
      | inr (place, there, leads) ↦ inr (place, taken_before places k place low there, leads)
    ]
    | inr leads ↦ inr (get_or places k 0, taken_last places k low, leads)
  ]),
  (λ either. (second a b).1 (elim either [
    | inl none ↦ inl ((first a b).1 (inl none))
    | inr (place, there, leads) ↦ elim (taken_cases places k place low there) [
      | inl before ↦ inl ((first a b).1 (inr (place, before, leads)))
      | inr same ↦ inr (subst (λ (x : ℕ). IsFrom steps pairs x a b) (sym same) leads)
    ]
  ])),
)

-- ---- by names

pub names_at : (txs : Txs) (places : List ℕ) → ((p : ℕ) → Contains places p → p < length txs)
    → names_of (map (tx_at txs) places) ≡ map (λ q. get_or (names_of txs) q 0) places
names_at txs places within =
    map-map (λ (tx : ℕ × ℤ × ℕ). tx.0) (tx_at txs) places
    ∙ map_along (λ (q : ℕ). (tx_at txs q).0) (λ (q : ℕ). get_or (names_of txs) q 0) places (λ q here. sym (name_at txs q (within q here)))

pub range_at : (txs : Txs) (places : List ℕ) → ((p : ℕ) → Contains places p → p < length txs) → AreInRange txs → AreInRange (map (tx_at txs) places)
range_at txs places within range id fee size here =
    let (place, there, is) = map-Contains (tx_at txs) places (id, fee, size) here in
    range id fee size (subst (λ (t : ℕ × ℤ × ℕ). Contains txs t) is (Contains-get_or txs place (0, pos 0, 0) (within place there)))

pub into_at : (names : List ℕ) (find : ℕ → Option ℕ) (pairs steps inner : List (ℕ × ℕ)) (places : List ℕ) → ArePlaces names find
    → AreSteps find pairs steps → ((p : ℕ) → Contains places p → p < length names) → Adds (IsFromOne steps pairs places) [] inner
    → AreInto (map (λ q. get_or names q 0) places) pairs inner
into_at names find pairs steps inner places h s within adds a b =
    let nm : ℕ → ℕ = λ q. get_or names q 0 in (
      (λ here. elim ((adds a b).0 here) [
        | inl none ↦ absurd (none_in_empty (a, b) none)
        | inr (place, there, from) ↦
            let (k, low, leads, at) = from in
            let own : nm place ≡ b = (h.sound b place (ap (λ (x : ℕ × ℕ). find x.1) (sym at) ∙ (s.ends k low).1 ∙ ap Some leads)).1 in (
              subst (λ (x : ℕ × ℕ). Contains pairs x) at (Contains-get_or pairs k (0, 0) low),
              subst (λ (x : ℕ). Contains (map nm places) x) own (Contains-map nm places place there),
            )
      ]),
      (λ both.
          let (k, low, at) = both.0 in
          let is : ◌≡◌ {A = ℕ × ℕ} (pair_at pairs k) (a, b) = get_or_default pairs k (0, 0) (a, b) low ∙ at in
          let (place, there, named) = map-Contains nm places b both.1 in
          let leads : (pair_at steps k).1 ≡ place =
          same_Some (pair_at steps k).1 place (sym (s.ends k low).1 ∙ ap (λ (x : ℕ × ℕ). find x.1) is ∙ ap find (sym named) ∙ h.complete place (within place there)) in
          (adds a b).1 (inr (place, there, (k, low, leads, is)))),
    )

pub among_at : (names : List ℕ) (find : ℕ → Option ℕ) (pairs steps inner : List (ℕ × ℕ)) (places : List ℕ) → ArePlaces names find
    → AreSteps find pairs steps → AreClosed (length names) steps places
    → AreInto (map (λ q. get_or names q 0) places) pairs inner → AreAmong (map (λ q. get_or names q 0) places) inner
among_at names find pairs steps inner places h s closed into a b here =
    let nm : ℕ → ℕ = λ q. get_or names q 0 in
    let (pair, below) = (into a b).0 here in
    let (p, q, step, first, second) = named_step find pairs steps s a b pair in
    let (place, there, named) = map-Contains nm places b below in
    let same : place ≡ q = same_Some place q (sym (h.complete place (closed.within place there)) ∙ ap find named ∙ second) in
    let above : Contains places p = closed.closed p q step (subst (λ (x : ℕ). Contains places x) same there) in
    (subst (λ (x : ℕ). Contains (map nm places) x) (h.sound a p first).1 (Contains-map nm places p above), below)

pub into_same : (names : List ℕ) (pairs inner new : List (ℕ × ℕ)) → AreInto names pairs inner → AreSame inner new → AreInto names pairs new
into_same names pairs inner new into same a b = ((λ here. (into a b).0 ((same a b).0 here)), (λ both. (same a b).1 ((into a b).1 both)))
