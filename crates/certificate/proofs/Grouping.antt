-- Groups of places, found by walks along pairs.
use Rattle.std.proofs.Common.{◌≡◌, ◌≢◌, ◌⊎◌, ℕ, ◌-◌, ◌<◌, ◌≤◌, zero, suc, List, [], ◌∷◌, ◌++◌, length, inl, inr, refl, sym, ap, ◌∙◌, subst, arith, get_or, set, replicate, cond, nat_eq, map}
use Rattle.std.specs.Prelude.{Contains, ◌↔◌}
use Rattle.std.proofs.lemmas.Bool.{cases_eq, cases_lt}
use Rattle.std.proofs.lemmas.List.{get_or-set_same, get_or-set_other, length-set, length_push, get_or-replicate, length-replicate, get_or-map, length-map, get_or_default}
use Rattle.std.proofs.lemmas.List.Elements.{All-append, All-map, Contains-append_cases, Contains-append_left, Contains-append_right, Contains-push, Contains-push_cases}
use Rattle.std.proofs.lemmas.List.Sums.{sum_by-set}
use Rattle.lists.proofs.Cases.{swap}
use Rattle.lists.proofs.Entries.{Contains-head, Contains-later, Contains-cases, none_in_empty}
use Rattle.graphs.proofs.WalkLemmas.{connected_trans, AreConnected-sym}
use Rattle.graphs.specs.Graphs.{Trail, AreConnected}
use Rattle.places.specs.Chains.{pair_at, IsLast, AreWithin, turned}
use Rattle.certificate.specs.Groups.{AreGroups, GoBothWays, HasGroup, AreOfGroup, IsGrouping, GoesOn, work_of}
use Rattle.certificate.proofs.Searching.{contains_at, position_of}

-- ---- a place gets a group
here : (groups : List ℕ) (p own : ℕ) → p < length groups → get_or (set groups p own) p 0 ≡ own
here groups p own in' = get_or-set_same groups p own 0 in'

there : (groups : List ℕ) (p x own : ℕ) → x ≢ p → get_or (set groups p own) x 0 ≡ get_or groups x 0
there groups p x own ne = get_or-set_other groups p x own 0 ne

-- a place with a group isn't one without
apart : (count : ℕ) (groups : List ℕ) (p x : ℕ) → get_or groups p 0 ≡ count → HasGroup count groups x → x ≢ p
apart count groups p x none has e = has (ap (λ y. get_or groups y 0) e ∙ none)

pub reached : (steps : List (ℕ × ℕ)) (count : ℕ) (groups waiting : List ℕ) (p own : ℕ)
    → IsGrouping steps count groups waiting → p < count → get_or groups p 0 ≡ count → AreConnected steps own p
    → IsGrouping steps count (set groups p own) (waiting ++ (p ∷ []))
reached steps count groups waiting p own g in' none joined =
    let size = g.sized in
    let p_in : p < length groups = omega arith in
    record {
      sized = length-set groups p own ∙ g.sized;
      sound =
          λ x k has.
          elim (cases_eq x p) [
            | inl e ↦ subst (λ y. AreConnected steps (get_or (set groups p own) y 0) y) (sym e)
                (subst (λ v. AreConnected steps v p) (sym (here groups p own p_in)) joined)
            | inr ne ↦ subst (λ v. AreConnected steps v x) (sym (there groups p x own ne))
                (g.sound x k (λ e. has (there groups p x own ne ∙ e)))
          ];
      closed =
          λ k less has.
          elim (cases_eq (pair_at steps k).1 p) [
            | inl e ↦ inl (subst (λ y. Contains (waiting ++ (p ∷ [])) y) (sym e) (Contains-push waiting p))
            | inr ne ↦
                (let old : HasGroup count groups (pair_at steps k).1 = λ e. has (there groups p _ own ne ∙ e) in
                elim (g.closed k less old) [
                  | inl waits ↦ inl (Contains-append_left waiting (p ∷ []) _ waits)
                  | inr same ↦
                      (let other : (pair_at steps k).0 ≢ p = apart count groups p _ none (λ e. old (sym same ∙ e)) in
                      inr (there groups p _ own other ∙ same ∙ sym (there groups p _ own ne)))
                ])
          ];
    }

-- ---- work
abbrev weight_at : ℕ → ℕ → ℕ
weight_at count group = cond (nat_eq group count) 2 0

weight_none : (count group : ℕ) → group ≡ count → weight_at count group ≡ 2
weight_none count group e = grind (arith, e)

weight_some : (count group : ℕ) → group ≢ count → weight_at count group ≡ 0
weight_some count group ne = grind (arith, ne)

pub reached_less : (count : ℕ) (groups waiting : List ℕ) (p own : ℕ) → p < length groups → get_or groups p 0 ≡ count
    → own ≢ count → work_of count (set groups p own) (waiting ++ (p ∷ [])) < work_of count groups waiting
reached_less count groups waiting p own in' none some =
    let two : weight_at count (get_or groups p 0) ≡ 2 = weight_none count _ none in
    let no : weight_at count own ≡ 0 = weight_some count own some in
    let sums = sum_by-set (weight_at count) groups p own 0 in' in
    let long = length_push waiting p in
    omega arith

-- ---- all that pairs lead from to one place
-- The pairs before `left` are still to be looked at for the place, the last of them leads to it, and what was looked at
-- comes from places of its group.
pub record IsAround (steps : List (ℕ × ℕ)) (count from group left : ℕ)
    (groups waiting groups' waiting' : List ℕ) : Type 0 where
  pub grouping : IsGrouping steps count groups' (from ∷ waiting')
  pub together : AreOfGroup count groups' group (from ∷ waiting')
  pub some : group ≢ count
  pub kept : (place : ℕ) → HasGroup count groups place → get_or groups' place 0 ≡ get_or groups place 0
  pub below : left ≤ length steps
  pub into : 0 < left → (pair_at steps (left - 1)).1 ≡ from
  pub looked : (k : ℕ) → left ≤ k → k < length steps → (pair_at steps k).1 ≡ from
      → get_or groups' (pair_at steps k).0 0 ≡ group
  pub work : work_of count groups' waiting' ≤ work_of count groups waiting

pub around_first : (steps : List (ℕ × ℕ)) (count from group left : ℕ) (groups waiting : List ℕ) → from < count
    → get_or groups from 0 ≡ group → group ≢ count → IsGrouping steps count groups (from ∷ waiting)
    → AreOfGroup count groups group waiting → IsLast steps from (length steps) left
    → IsAround steps count from group left groups waiting groups waiting
around_first steps count from group left groups waiting in' is some g all last = record {
  grouping = g;
  together = λ x c. elim (Contains-cases from x waiting c)
      [ inl e ↦ subst (λ y. (y < count) × (get_or groups y 0 ≡ group)) e (in', is) | inr later ↦ all x later ];
  some = some;
  kept = λ x has. refl;
  below = last.below;
  into = last.into;
  looked = λ k low high e. absurd (last.later k low high e);
  work = omega arith;
}

-- the next pair
pub record IsNear (steps : List (ℕ × ℕ)) (count from left : ℕ) : Type 0 where
  pub within : left - 1 < length steps
  pub into : (pair_at steps (left - 1)).1 ≡ from
  pub near : (pair_at steps (left - 1)).0 < count

pub near_of : (steps : List (ℕ × ℕ)) (count from group left : ℕ) (groups waiting groups' waiting' : List ℕ)
    → AreWithin count steps → IsAround steps count from group left groups waiting groups' waiting' → 0 < left
    → IsNear steps count from left
near_of steps count from group left groups waiting groups' waiting' within a some =
    let low = a.below in
    let in' : left - 1 < length steps = omega arith in
    record { within = in'; into = a.into some; near = (within (left - 1) (0, 0) in').0 }

-- where the other end has a group, it is the same
same_group : (steps : List (ℕ × ℕ)) (count from group left : ℕ) (groups waiting groups' waiting' : List ℕ)
    → GoBothWays steps → IsAround steps count from group left groups waiting groups' waiting'
    → IsNear steps count from left
    → HasGroup count groups' (pair_at steps (left - 1)).0 → get_or groups' (pair_at steps (left - 1)).0 0 ≡ group
same_group steps count from group left groups waiting groups' waiting' both a next has =
    let near = (pair_at steps (left - 1)).0 in
    let edge : Contains {X = ℕ × ℕ} steps (near, from) =
    subst (λ x. Contains {X = ℕ × ℕ} steps (near, x)) next.into (contains_at steps (left - 1) next.within)
    in
    let (k, in', e) = position_of steps from near (both near from edge) in
    let there' : (pair_at steps k).1 ≡ near = ap (λ (x : ℕ × ℕ). x.1) e in
    let back : (pair_at steps k).0 ≡ from = ap (λ (x : ℕ × ℕ). x.0) e in
    elim (a.grouping.closed k in' (subst (λ x. HasGroup count groups' x) (sym there') has)) [
      | inl waits ↦ (a.together near (subst (λ x. Contains (from ∷ waiting') x) there' waits)).1
      | inr same ↦
          ap (λ x. get_or groups' x 0) (sym there') ∙ sym same ∙ ap (λ x. get_or groups' x 0) back
          ∙ (a.together from (Contains-head from waiting')).1
    ]

-- one pair more was looked at
looked_more : (steps : List (ℕ × ℕ)) (from group left before : ℕ) (groups : List ℕ)
    → (pair_at steps (left - 1)).1 ≡ from → IsLast steps (pair_at steps (left - 1)).1 (left - 1) before
    → get_or groups (pair_at steps (left - 1)).0 0 ≡ group
    → ((k : ℕ) → left ≤ k → k < length steps → (pair_at steps k).1 ≡ from → get_or groups (pair_at steps k).0 0 ≡ group)
    → (k : ℕ) → before ≤ k → k < length steps → (pair_at steps k).1 ≡ from → get_or groups (pair_at steps k).0 0 ≡ group
looked_more steps from group left before groups into link is old k low high e =
    elim (cases_lt k (left - 1)) [
      | inl less ↦ absurd (link.later k low less (e ∙ sym into))
      | inr more ↦
          elim (cases_eq k (left - 1)) [
            | inl same ↦ subst (λ x. get_or groups (pair_at steps x).0 0 ≡ group) (sym same) is
            | inr other ↦ old k (omega arith) high e
          ]
    ]

-- the other end had a group
pub around_had : (steps : List (ℕ × ℕ)) (count from group left before : ℕ) (groups waiting groups' waiting' : List ℕ)
    → GoBothWays steps → IsAround steps count from group left groups waiting groups' waiting'
    → IsNear steps count from left → IsLast steps (pair_at steps (left - 1)).1 (left - 1) before
    → HasGroup count groups' (pair_at steps (left - 1)).0
    → IsAround steps count from group before groups waiting groups' waiting'
around_had steps count from group left before groups waiting groups' waiting' both a next link has = record {
  grouping = a.grouping;
  together = a.together;
  some = a.some;
  kept = a.kept;
  below = (let low = link.below in let w = next.within in omega arith);
  into = λ h. link.into h ∙ next.into;
  looked = looked_more steps from group left before groups' next.into link
      (same_group steps count from group left groups waiting groups' waiting' both a next has) a.looked;
  work = a.work;
}

-- the other end had none
pub around_reached : (steps : List (ℕ × ℕ)) (count from group left before : ℕ)
    (groups waiting groups' waiting' : List ℕ) → IsAround steps count from group left groups waiting groups' waiting'
    → IsNear steps count from left → IsLast steps (pair_at steps (left - 1)).1 (left - 1) before
    → get_or groups' (pair_at steps (left - 1)).0 0 ≡ count
    → IsAround steps count from group before groups waiting (set groups' (pair_at steps (left - 1)).0 group)
    (waiting' ++ ((pair_at steps (left - 1)).0 ∷ []))
around_reached steps count from group left before groups waiting groups' waiting' a next link none =
    let near = (pair_at steps (left - 1)).0 in
    let size = a.grouping.sized in
    let near_in : near < length groups' = let n = next.near in omega arith in
    let first = a.together from (Contains-head from waiting') in
    let edge : Contains {X = ℕ × ℕ} steps (near, from) =
    subst (λ x. Contains {X = ℕ × ℕ} steps (near, x)) next.into (contains_at steps (left - 1) next.within)
    in
    let (n, trail) = a.grouping.sound from first.0 (λ e. a.some (sym first.1 ∙ e)) in
    let joined : AreConnected steps group near =
    (suc n, (from, subst (λ x. Trail steps x from n) first.1 trail, inr edge))
    in
    let is_here : get_or (set groups' near group) near 0 ≡ group = here groups' near group near_in in
    let stays : (x : ℕ) → get_or groups' x 0 ≡ group → get_or (set groups' near group) x 0 ≡ group =
    λ x e. there groups' near x group (apart count groups' near x none (λ f. a.some (sym e ∙ f))) ∙ e
    in
    record {
      grouping = reached steps count groups' (from ∷ waiting') near group a.grouping next.near none joined;
      together =
          λ x c.
          elim (Contains-push_cases (from ∷ waiting') near x c) [
            | inl old ↦ (let t = a.together x old in (t.0, stays x t.1))
            | inr e ↦ subst (λ y. (y < count) × (get_or (set groups' near group) y 0 ≡ group)) e (next.near, is_here)
          ];
      some = a.some;
      kept =
          λ x has.
          let e = a.kept x has in
          there groups' near x group (apart count groups' near x none (λ f. has (sym e ∙ f))) ∙ e;
      below = (let low = link.below in let w = next.within in omega arith);
      into = λ h. link.into h ∙ next.into;
      looked = looked_more steps from group left before (set groups' near group) next.into link is_here
          (λ k low high e. stays _ (a.looked k low high e));
      work =
          (let w = a.work in
          let l = reached_less count groups' waiting' near group near_in none a.some in
          omega arith);
    }

-- what `reach` leaves of a place, with this group
abbrev pub Reaches : List ℕ → List ℕ → ℕ → ℕ → List ℕ → List ℕ → Type 0
Reaches groups waiting p own groups' waiting' =
    (HasGroup (length groups) groups p → (groups' ≡ groups) × (waiting' ≡ waiting))
    × (get_or groups p 0 ≡ length groups → (groups' ≡ set groups p own) × (waiting' ≡ waiting ++ (p ∷ [])))

-- the next pair was looked at
pub around_next : (steps : List (ℕ × ℕ)) (count from group left before : ℕ)
    (groups waiting groups' waiting' groups'' waiting'' : List ℕ) → GoBothWays steps
    → IsAround steps count from group left groups waiting groups' waiting' → IsNear steps count from left
    → IsLast steps (pair_at steps (left - 1)).1 (left - 1) before
    → Reaches groups' waiting' (pair_at steps (left - 1)).0 group groups'' waiting''
    → IsAround steps count from group before groups waiting groups'' waiting''
around_next steps count from group left before groups waiting groups' waiting' groups'' waiting'' both a next link r =
    let size = a.grouping.sized in
    let near = (pair_at steps (left - 1)).0 in
    elim (cases_eq (get_or groups' near 0) count) [
      | inl none ↦
          (let e = r.1 (none ∙ sym size) in
          subst (λ g. IsAround steps count from group before groups waiting g waiting'') (sym e.0)
          (subst (λ w. IsAround steps count from group before groups waiting (set groups' near group) w) (sym e.1)
          (around_reached steps count from group left before groups waiting groups' waiting' a next link none)))
      | inr has ↦
          (let e = r.0 (λ f. has (f ∙ size)) in
          subst (λ g. IsAround steps count from group before groups waiting g waiting'') (sym e.0)
          (subst (λ w. IsAround steps count from group before groups waiting groups' w) (sym e.1)
          (around_had steps count from group left before groups waiting groups' waiting' both a next link has)))
    ]

-- no pair is left
pub around_all : (steps : List (ℕ × ℕ)) (count from group left : ℕ) (groups waiting groups' waiting' : List ℕ)
    → IsAround steps count from group left groups waiting groups' waiting' → left ≡ 0
    → GoesOn steps count group groups groups' waiting'
around_all steps count from group left groups waiting groups' waiting' a done = record {
  grouping = record {
    sized = a.grouping.sized;
    sound = a.grouping.sound;
    closed =
        λ k less has.
        elim (cases_eq (pair_at steps k).1 from) [
          | inl e ↦
              (let is = (a.together from (Contains-head from waiting')).1 in
              inr (a.looked k (omega arith) less e ∙ sym (ap (λ x. get_or groups' x 0) e ∙ is)))
          | inr ne ↦
              elim (a.grouping.closed k less has) [
                | inl waits ↦ elim (Contains-cases from _ waiting' waits)
                    [ inl e ↦ absurd (ne (sym e)) | inr later ↦ inl later ]
                | inr same ↦ inr same
              ]
        ];
  };
  together = λ x c. a.together x (Contains-later from x waiting' c);
  kept = a.kept;
}

-- ---- a walk
-- the last that waits is taken
pub record IsTaken (steps : List (ℕ × ℕ)) (count group : ℕ) (groups rest : List ℕ) (from : ℕ) : Type 0 where
  pub within : from < count
  pub is : get_or groups from 0 ≡ group
  pub grouping : IsGrouping steps count groups (from ∷ rest)
  pub together : AreOfGroup count groups group rest

pub taken : (steps : List (ℕ × ℕ)) (count group : ℕ) (groups groups' waiting' rest : List ℕ) (from : ℕ)
    → GoesOn steps count group groups groups' waiting' → waiting' ≡ rest ++ (from ∷ [])
    → IsTaken steps count group groups' rest from
taken steps count group groups groups' waiting' rest from g e =
    let all : AreOfGroup count groups' group (rest ++ (from ∷ [])) =
    subst (λ l. AreOfGroup count groups' group l) e g.together
    in
    let this = all from (Contains-push rest from) in
    record {
      within = this.0;
      is = this.1;
      grouping = record {
        sized = g.grouping.sized;
        sound = g.grouping.sound;
        closed =
            λ k less has.
            elim (g.grouping.closed k less has) [
              | inl waits ↦
                  elim (Contains-push_cases rest from _ (subst (λ l. Contains l (pair_at steps k).1) e waits)) [
                    | inl old ↦ inl (Contains-later from _ rest old)
                    | inr same ↦ inl (subst (λ x. Contains (from ∷ rest) x) same (Contains-head from rest))
                  ]
              | inr same ↦ inr same
            ];
      };
      together = λ x c. all x (Contains-append_left rest (from ∷ []) x c);
    }

-- one look after others
pub goes_further : (steps : List (ℕ × ℕ)) (count group own : ℕ) (groups groups' waiting' groups'' waiting'' : List ℕ)
    → own ≡ group → GoesOn steps count group groups groups' waiting'
    → GoesOn steps count own groups' groups'' waiting''
    → GoesOn steps count group groups groups'' waiting''
goes_further steps count group own groups groups' waiting' groups'' waiting'' e g h = record {
  grouping = h.grouping;
  together = subst (λ o. AreOfGroup count groups'' o waiting'') e h.together;
  kept = λ x has. let k = g.kept x has in h.kept x (λ f. has (sym k ∙ f)) ∙ k;
}

-- ---- before and after
pub grouping_none : (steps : List (ℕ × ℕ)) (count : ℕ) → AreWithin count steps
    → IsGrouping steps count (replicate count count) []
grouping_none steps count within =
    let none : (x : ℕ) → x < count → get_or (replicate count count) x 0 ≡ count =
    λ x less. get_or-replicate count x count 0 less
    in
    record {
      sized = length-replicate count count;
      sound = λ x less has. absurd (has (none x less));
      closed = λ k less has. absurd (has (none _ (within k (0, 0) less).1));
    }

-- both ends of a pair have one group
pub record IsWhole (steps : List (ℕ × ℕ)) (count : ℕ) (groups : List ℕ) : Type 0 where
  pub grouping : IsGrouping steps count groups []
  pub all : (x : ℕ) → x < count → HasGroup count groups x
  pub within : AreWithin count steps

ends_same : (steps : List (ℕ × ℕ)) (count : ℕ) (groups : List ℕ) (a b : ℕ) → IsWhole steps count groups
    → Contains {X = ℕ × ℕ} steps (a, b) → (a < count) × (b < count) × (get_or groups a 0 ≡ get_or groups b 0)
ends_same steps count groups a b w c =
    let (k, in', e) = position_of steps a b c in
    let ends = w.within k (0, 0) in' in
    let same : get_or groups (pair_at steps k).0 0 ≡ get_or groups (pair_at steps k).1 0 =
    elim (w.grouping.closed k in' (w.all _ ends.1)) [ inl waits ↦ absurd (none_in_empty _ waits) | inr same ↦ same ]
    in
    subst (λ (x : ℕ × ℕ). (x.0 < count) × (x.1 < count) × (get_or groups x.0 0 ≡ get_or groups x.1 0)) e
    (ends.0, ends.1, same)

trail_same : (steps : List (ℕ × ℕ)) (count : ℕ) (groups : List ℕ) (a b n : ℕ) → IsWhole steps count groups
    → Trail steps a b n → get_or groups a 0 ≡ get_or groups b 0
trail_same steps count groups a b zero w t = ap (λ x. get_or groups x 0) t
trail_same steps count groups a b (suc n) w (c, t, inl last) =
    trail_same steps count groups a c n w t ∙ (ends_same steps count groups c b w last).2
trail_same steps count groups a b (suc n) w (c, t, inr last) =
    trail_same steps count groups a c n w t ∙ sym (ends_same steps count groups b c w last).2

pub whole_groups : (steps : List (ℕ × ℕ)) (count : ℕ) (groups : List ℕ) → IsWhole steps count groups
    → AreGroups steps groups
whole_groups steps count groups w = record {
  exact =
      λ a b in' on.
      let size = w.grouping.sized in
      let to_a = w.grouping.sound a (omega arith) (w.all a (omega arith)) in
      let to_b = w.grouping.sound b (omega arith) (w.all b (omega arith)) in (
        (λ e.
            let (m, back) = AreConnected-sym steps (get_or groups a 0) a to_a in
            connected_trans steps a (get_or groups b 0) b (m, subst (λ x. Trail steps a x m) e back) to_b.0 to_b.1),
        (λ c. trail_same steps count groups a b c.0 w c.1),
      );
}

-- ---- pairs both ways
-- which way round they are taken
pub both_have : (pairs : List (ℕ × ℕ)) (a b : ℕ)
    → Contains {X = ℕ × ℕ} (pairs ++ map turned pairs) (a, b)
    ↔ (Contains {X = ℕ × ℕ} pairs (a, b) ⊎ Contains {X = ℕ × ℕ} pairs (b, a))
both_have pairs a b = (
  λ c.
      elim (Contains-append_cases pairs (map turned pairs) (a, b) c) [
        | inl old ↦ inl old
        | inr (k, in', e) ↦
            (let k_in : k < length pairs = subst (λ n. k < n) (length-map pairs turned) in' in
            let is : ◌≡◌ {A = ℕ × ℕ} (turned (get_or pairs k (0, 0))) (a, b) =
            sym (get_or-map turned pairs k (0, 0) (a, b) k_in) ∙ e
            in
            inr (k, k_in, get_or_default pairs k (b, a) (0, 0) k_in ∙ ap turned is))
      ],
  λ c.
      elim c [
        | inl old ↦ Contains-append_left pairs (map turned pairs) (a, b) old
        | inr (k, in', e) ↦
            Contains-append_right pairs (map turned pairs) (a, b) (
              k,
              subst (λ n. k < n) (sym (length-map pairs turned)) in',
              get_or-map turned pairs k (b, a) (a, b) in' ∙ ap turned e,
            )
      ],
)

pub both_ways_go : (pairs : List (ℕ × ℕ)) → GoBothWays (pairs ++ map turned pairs)
both_ways_go pairs a b c = (both_have pairs b a).1 (elim ((both_have pairs a b).0 c) [ inl x ↦ inr x | inr y ↦ inl y ])

pub both_within : (count : ℕ) (pairs : List (ℕ × ℕ)) → AreWithin count pairs
    → AreWithin count (pairs ++ map turned pairs)
both_within count pairs within =
    let P : ℕ × ℕ → Type 0 = λ pair. (pair.0 < count) × (pair.1 < count) in
    All-append P pairs (map turned pairs) within
    (All-map P turned pairs (λ k d less. let w = within k d less in (w.1, w.0)))

trail_there : (pairs : List (ℕ × ℕ)) (a b n : ℕ) → Trail pairs a b n → Trail (pairs ++ map turned pairs) a b n
trail_there pairs a b zero t = t
trail_there pairs a b (suc n) (c, t, inl last) =
    (c, trail_there pairs a c n t, inl ((both_have pairs c b).1 (inl last)))
trail_there pairs a b (suc n) (c, t, inr last) =
    (c, trail_there pairs a c n t, inr ((both_have pairs b c).1 (inl last)))

trail_here : (pairs : List (ℕ × ℕ)) (a b n : ℕ) → Trail (pairs ++ map turned pairs) a b n → Trail pairs a b n
trail_here pairs a b zero t = t
trail_here pairs a b (suc n) (c, t, inl last) = (c, trail_here pairs a c n t, (both_have pairs c b).0 last)
trail_here pairs a b (suc n) (c, t, inr last) = (c, trail_here pairs a c n t, swap ((both_have pairs b c).0 last))

pub both_groups : (pairs : List (ℕ × ℕ)) (groups : List ℕ) → AreGroups (pairs ++ map turned pairs) groups
    → AreGroups pairs groups
both_groups pairs groups g = record {
  exact =
      λ a b in' on.
      let e = g.exact a b in' on in
      ((λ h. let (n, t) = e.0 h in (n, trail_here pairs a b n t)), (λ c. e.1 (c.0, trail_there pairs a b c.0 c.1)));
}
