-- Lists of places, one for each place.
use Rattle.std.proofs.Common.{◌≡◌, ◌≢◌, ◌↔◌, ℕ, ◌+◌, ◌<◌, List, [], ◌∷◌, ◌++◌, length, set, map, take, get_or, inl, inr, sym, ap, ◌∙◌, subst, arith}
use Rattle.std.specs.Prelude.{Contains, Vec}
use Rattle.std.specs.declared.alloc.Global.{Global}
use Rattle.std.proofs.lemmas.Bool.{cases_eq, cases_lt}
use Rattle.std.proofs.lemmas.List.{map-set, map-append, length-map, length-set, length_push, get_or-set_same, get_or-set_other, get_or-map, get_or_push, get_or_past, get_or_append_left, take_more}
use Rattle.std.proofs.lemmas.List.Elements.{Contains-push, Contains-push_cases, Contains-append_left}
use Rattle.lists.proofs.Entries.{none_in_empty}
use Rattle.trimming.specs.Nets.{list_at, HasPut}

abbrev pub Lists : Type 0
Lists = List (Vec ℕ Global)

pub list_set_same : (lists : Lists) (at : ℕ) (list : Vec ℕ Global) → at < length lists → list_at (set lists at list) at ≡ list.items
list_set_same lists at list low =
    let sized = length-map lists (λ (v : Vec ℕ Global). v.items) in
    ap (λ (l : List (List ℕ)). get_or l at []) (map-set (λ (v : Vec ℕ Global). v.items) lists at list)
    ∙ get_or-set_same (map (λ (v : Vec ℕ Global). v.items) lists) at list.items [] (omega (arith, sized, low))

pub list_set_other : (lists : Lists) (at i : ℕ) (list : Vec ℕ Global) → i ≢ at → list_at (set lists at list) i ≡ list_at lists i
list_set_other lists at i list other =
    ap (λ (l : List (List ℕ)). get_or l i []) (map-set (λ (v : Vec ℕ Global). v.items) lists at list)
    ∙ get_or-set_other (map (λ (v : Vec ℕ Global). v.items) lists) at i list.items [] other

pub list_is : (lists : Lists) (at : ℕ) (d : Vec ℕ Global) → at < length lists → list_at lists at ≡ (get_or lists at d).items
list_is lists at d low = get_or-map (λ (v : Vec ℕ Global). v.items) lists at d [] low

-- one more entry of one list
pub put_has : (lists : Lists) (at place : ℕ) (old new : Vec ℕ Global) → at < length lists → old ≡ get_or lists at old → new.items ≡ old.items ++ place ∷ []
    → HasPut lists (set lists at new) at place
put_has lists at place old new low is more =
    let now : list_at (set lists at new) at ≡ list_at lists at ++ place ∷ [] =
    list_set_same lists at new low ∙ more ∙ ap (λ (l : List ℕ). l ++ place ∷ []) (ap (λ (v : Vec ℕ Global). v.items) is ∙ sym (list_is lists at old low)) in
    record {
      sized = length-set lists at new;
      exact = λ i x. elim (cases_eq i at) [
        | inl same ↦
            let here : list_at (set lists at new) i ≡ list_at lists i ++ place ∷ [] =
            ap (list_at (set lists at new)) same ∙ now ∙ ap (λ (k : ℕ). list_at lists k ++ place ∷ []) (sym same) in (
              λ has. elim (Contains-push_cases (list_at lists i) place x (subst (λ (l : List ℕ). Contains l x) here has)) [
                | inl before ↦ inl before
                | inr new ↦ inr (same, sym new)
              ],
              λ is. subst (λ (l : List ℕ). Contains l x) (sym here) (elim is [
                | inl before ↦ Contains-append_left (list_at lists i) (place ∷ []) x before
                | inr both ↦ subst (Contains (list_at lists i ++ place ∷ [])) (sym both.1) (Contains-push (list_at lists i) place)
              ]),
            )
        | inr other ↦
            let stays = list_set_other lists at i new other in (
              λ has. inl (subst (λ (l : List ℕ). Contains l x) stays has),
              λ is. elim is [
                | inl before ↦ subst (λ (l : List ℕ). Contains l x) (sym stays) before
                | inr both ↦ absurd (other both.0)
              ],
            )
      ];
    }

-- one more list, an empty one
pub empty_more : (lists : Lists) (new : Vec ℕ Global) → ((i x : ℕ) → Contains (list_at lists i) x → ⊥) → new.items ≡ []
    → (i x : ℕ) → Contains (list_at (lists ++ new ∷ []) i) x → ⊥
empty_more lists new none empty i x has =
    let items : Vec ℕ Global → List ℕ = λ v. v.items in
    let all : List (List ℕ) = map items lists in
    let more : map items (lists ++ new ∷ []) ≡ all ++ new.items ∷ [] = map-append items lists (new ∷ []) in
    let here : Contains (get_or (all ++ new.items ∷ []) i []) x = subst (λ (l : List (List ℕ)). Contains (get_or l i []) x) more has in
    elim (cases_lt i (length all)) [
      | inl less ↦ none i x (subst (λ (l : List ℕ). Contains l x) (get_or_append_left all (new.items ∷ []) [] i less) here)
      | inr past ↦ elim (cases_eq (length all) i) [
        | inl same ↦ none_in_empty x (subst (λ (l : List ℕ). Contains l x) (get_or_push all new.items [] i same ∙ empty) here)
        | inr beyond ↦ none_in_empty x (subst (λ (l : List ℕ). Contains l x)
            (get_or_past (all ++ new.items ∷ []) i [] (omega (arith, length_push all new.items, past, beyond))) here)
      ]
    ]

-- what a read of one list gives
pub list_read : (lists : Lists) (at : ℕ) (v : Vec ℕ Global) → at < length lists → v ≡ get_or lists at v → v.items ≡ list_at lists at
list_read lists at v low is = ap (λ (w : Vec ℕ Global). w.items) is ∙ sym (list_is lists at v low)

-- one more step is one more entry
pub steps_more : (old new : Lists) (steps : List (ℕ × ℕ)) (k : ℕ) (end start : ℕ × ℕ → ℕ)
    → k < length steps → HasPut old new (end (get_or steps k (0, 0))) (start (get_or steps k (0, 0)))
    → ((p q : ℕ × ℕ) → end p ≡ end q → start p ≡ start q → ◌≡◌ {A = ℕ × ℕ} p q)
    → ((p : ℕ × ℕ) → Contains (list_at old (end p)) (start p) ↔ Contains (take k steps) p)
    → (p : ℕ × ℕ) → Contains (list_at new (end p)) (start p) ↔ Contains (take (k + 1) steps) p
steps_more old new steps k end start low put apart exact p =
    let s : ℕ × ℕ = get_or steps k (0, 0) in
    let longer : take (k + 1) steps ≡ take k steps ++ s ∷ [] = take_more steps k (0, 0) low in (
      λ has. subst (λ (l : List (ℕ × ℕ)). Contains l p) (sym longer) (elim ((put.exact (end p) (start p)).0 has) [
        | inl before ↦ Contains-append_left (take k steps) (s ∷ []) p ((exact p).0 before)
        | inr both ↦ subst (Contains (take k steps ++ s ∷ [])) (sym (apart p s both.0 both.1)) (Contains-push (take k steps) s)
      ]),
      λ here. (put.exact (end p) (start p)).1 (elim (Contains-push_cases (take k steps) s p (subst (λ (l : List (ℕ × ℕ)). Contains l p) longer here)) [
        | inl before ↦ inl ((exact p).1 before)
        | inr same ↦ inr (ap end (sym same), ap start (sym same))
      ]),
    )
