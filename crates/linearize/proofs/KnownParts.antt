-- Parts that are known, written behind others.
use Rattle.std.proofs.Common.{◌≡◌, ◌≢◌, ℕ, ◌+◌, ◌<◌, ◌≤◌, ◌⊎◌, inl, inr, true, List, [], ◌∷◌, ◌++◌, length, refl, sym, ap, ◌∙◌, subst, arith, append-nil}
use Rattle.std.specs.Prelude.{Contains, Option, Some}
use Rattle.std.proofs.lemmas.Bool.{cases_Bool, false_from_ne_true}
use Rattle.std.proofs.lemmas.List.Elements.{Contains-append_left, Contains-append_cases, Contains-push}
use Rattle.std.specs.Ordering.{nat_cmp}
use Rattle.std.specs.FinSet as fin
use Rattle.lists.proofs.Cases.{clash}
use Rattle.lists.proofs.Keys.{set_within}
use Rattle.lists.proofs.Distinct.{distinct_push}
use Rattle.lists.proofs.Entries.{Contains-cases, none_in_empty}
use Rattle.bitset.specs.Members.{from_union, to_union_left, to_union_right, from_insert, to_insert, insert_here}
use Rattle.bitset.specs.Places.{IsWithin, places}
use Rattle.bitset.specs.Sets.{same_members, places-Contains, Contains-places, len-places}
use Rattle.graphs.specs.Closures.{Closure, is_ancestor, IsCover}
use Rattle.graphs.specs.Rates.{sums}
use Rattle.graphs.specs.Linearizations.{StandsBefore}
use Rattle.graphs.specs.Certificates.{Part}
use Rattle.linearize.specs.Drafts.{Written, placed, flows_in}
use Rattle.linearize.specs.Graphs.{sum_at}
use Rattle.linearize.specs.declared.old.OldPart.{OldPart}
use Rattle.linearize.specs.Known.{IsClosedAmong, IsCoverAmong, IsKnown, IsTaken}
use Rattle.linearize.specs.Near.{Extends, Follow, IsBegun}
use Rattle.linearize.specs.Orders.{IsOrderOf}
use Rattle.linearize.specs.Splits.{HasRoom, IsUncutPart, IsUpperIn}
use Rattle.linearize.proofs.Lists.{distinct_places}
use Rattle.linearize.proofs.Chains.{climbs}
use Rattle.linearize.proofs.Final.{to_set, from_set}
use Rattle.linearize.proofs.Orders.{before_push}
use Rattle.linearize.proofs.Triangles.{length_inside}

-- ---- the loop that follows a list

pub follow_start : (dep : Closure) (members done all : fin.FinSet nat_cmp) (ids : List ℕ) → ids ≡ [] → all ≡ done → Follow dep members done ids all
follow_start dep members done all ids none same = subst (λ xs. Follow dep members done xs all) (sym none) (record {
  once = tt;
  inside = λ p h. absurd (none_in_empty p h);
  apart = λ p h. absurd (none_in_empty p h);
  both = λ p. (
    λ m. inl (ap (λ s. fin.contains s p) (sym same) ∙ m),
    λ h. elim h as (λ _. fin.contains all p ≡ true) [ inl m ↦ ap (λ s. fin.contains s p) same ∙ m | inr in_none ↦ absurd (none_in_empty p in_none) ],
  );
  behind = λ a d h. absurd (none_in_empty d h);
})

module _ (dep : Closure) (members done all next : fin.FinSet nat_cmp) (ids : List ℕ) (place : ℕ) (so : Follow dep members done ids all)
    (member : fin.contains members place ≡ true) (new : fin.contains all place ≡ true → ⊥) (is : next ≡ fin.insert all place)
    (above : (a : ℕ) → is_ancestor dep a place ≡ true → fin.contains next a ≡ true) where
  either : (P : ℕ → Type 0) → ((p : ℕ) → Contains ids p → P p) → P place → (p : ℕ) → Contains (ids ++ place ∷ []) p → P p
  either P old here p h = elim (Contains-append_cases ids (place ∷ []) p h) [
    | inl before ↦ old p before
    | inr last ↦ elim (Contains-cases place p [] last) as (λ _. P p) [ inl same ↦ subst P same here | inr none ↦ absurd (none_in_empty p none) ]
  ]

  of_next : (p : ℕ) → fin.contains next p ≡ true → (p ≡ place) ⊎ (fin.contains all p ≡ true)
  of_next p m = from_insert all place p (subst (λ s. fin.contains s p ≡ true) is m)

  later : (p : ℕ) → fin.contains all p ≡ true → fin.contains next p ≡ true
  later p m = subst (λ s. fin.contains s p ≡ true) (sym is) (to_insert all place p m)

  pub follow_more : Follow dep members done (ids ++ place ∷ []) next
  follow_more = record {
    once = distinct_push ids place so.once (λ h. new ((so.both place).1 (inr h)));
    inside = either (λ p. fin.contains members p ≡ true) so.inside member;
    apart = either (λ p. fin.contains done p ≡ true → ⊥) so.apart (λ m. new ((so.both place).1 (inl m)));
    both = λ p. (
      λ m. elim (of_next p m) as (λ _. (fin.contains done p ≡ true) ⊎ Contains (ids ++ place ∷ []) p) [
        | inl same ↦ inr (subst (Contains (ids ++ place ∷ [])) (sym same) (Contains-push ids place))
        | inr old ↦ elim ((so.both p).0 old) [
          | inl d ↦ inl d
          | inr h ↦ inr (Contains-append_left ids (place ∷ []) p h)
        ]
      ],
      λ h. elim h as (λ _. fin.contains next p ≡ true) [
        | inl d ↦ later p ((so.both p).1 (inl d))
        | inr at ↦ either (λ q. fin.contains next q ≡ true) (λ q before. later q ((so.both q).1 (inr before)))
            (subst (λ s. fin.contains s place ≡ true) (sym is) (insert_here all place)) p at
      ],
    );
    behind = λ a. either
        (λ d. is_ancestor dep a d ≡ true → (fin.contains done a ≡ true) ⊎ ((a ≡ d) ⊎ StandsBefore (ids ++ place ∷ []) a d))
        (λ d h e. elim (so.behind a d h e) [
          | inl m ↦ inl m
          | inr (inl same) ↦ inr (inl same)
          | inr (inr stands) ↦ inr (inr (before_push ids place a d stands))
        ])
        (λ e. elim (of_next a (above a e)) as (λ _. (fin.contains done a ≡ true) ⊎ ((a ≡ place) ⊎ StandsBefore (ids ++ place ∷ []) a place)) [
          | inl same ↦ inr (inl same)
          | inr old ↦ elim ((so.both a).0 old) [
            | inl m ↦ inl m
            | inr h ↦ inr (inr (ids, [], refl, h))
          ]
        ]);
  }

-- ---- a part that follows others

module _ (n : ℕ) (dep : Closure) (members done all : fin.FinSet nat_cmp) (old : Written)
    (start : IsBegun n dep members done old) (part : Part) (follow : Follow dep members done part.ids all)
    (known : IsKnown dep part) (some : 0 < length part.ids) where
  abbrev group : fin.FinSet nat_cmp
  group = fin.from_list part.ids

  done_above : (a d : ℕ) → is_ancestor dep a d ≡ true → fin.contains done d ≡ true → fin.contains done a ≡ true
  done_above a d e m =
      climbs n dep start.closed (λ _. Unit {0}) (λ p. fin.contains done p ≡ true) (λ a p d _ _ _ _. tt) (λ p c cover here _. start.upper p c cover here) a d e tt m

  -- what lies between two places of the part is one
  convex : (p m c : ℕ) → Contains part.ids p → Contains part.ids c → is_ancestor dep p m ≡ true → is_ancestor dep m c ≡ true → Contains part.ids m
  convex p m c p_in c_in over under = elim (follow.behind m c c_in under) as (λ _. Contains part.ids m) [
    | inl m_done ↦ absurd (follow.apart p p_in (done_above p m over m_done))
    | inr (inl same) ↦ subst (Contains part.ids) (sym same) c_in
    | inr (inr stands) ↦ subst (λ xs. Contains xs m) (sym stands.2) (Contains-append_left stands.0 (c ∷ stands.1) m stands.3)
  ]

  cover_of : (p c : ℕ) → Contains part.ids p → Contains part.ids c → IsCoverAmong dep part.ids p c → IsCover dep p c
  cover_of p c p_in c_in among = record {
    ancestor = among.ancestor;
    other = among.other;
    direct = λ m over under. among.direct m (convex p m c p_in c_in over under) over under;
  }

  uncut : IsUncutPart n dep part
  uncut x upper some_x same p p_in =
      let list : List ℕ = places n x in
      let below : (k : ℕ) → fin.contains x k ≡ true → k < n = λ k m. start.closed.within k (start.held k (follow.inside k (upper.inside k m))) in
      let closed : IsClosedAmong dep part.ids list = record {
        once = distinct_places n x;
        inside = λ q h. upper.inside q (places-Contains n x q h).1;
        ancestors = λ a d e h a_in. Contains-places n x a (below a (held_up x upper a d e (places-Contains n x d h).1 a_in))
            (held_up x upper a d e (places-Contains n x d h).1 a_in);
      } in
      let filled : list ≢ [] = λ none. (let long = len-places n x below in let zero_ : length list ≡ 0 = ap length none in omega (arith, long, zero_, some_x)) in
      (places-Contains n x p (known.uncut list closed filled same p p_in)).1
    where
      held_up : (x : fin.FinSet nat_cmp) → IsUpperIn dep part.ids x → (a d : ℕ) → is_ancestor dep a d ≡ true → fin.contains x d ≡ true
          → Contains part.ids a → fin.contains x a ≡ true
      held_up x upper a d e m a_in =
          climbs n dep start.closed (Contains part.ids) (λ q. fin.contains x q ≡ true)
          (λ b q c b_in c_in over under. convex b q c b_in (upper.inside c c_in) over under)
          (λ q c cover here q_in. upper.parents q c cover here q_in) a d e a_in m

  in_group : (p : ℕ) → Contains part.ids p → fin.contains group p ≡ true
  in_group p h = to_set part.ids p h

  of_group : (p : ℕ) → fin.contains group p ≡ true → Contains part.ids p
  of_group p m = from_set part.ids p m

  within : IsWithin n group
  within k m = start.closed.within k (start.held k (follow.inside k (of_group k m)))

  long : length part.ids ≤ fin.len group
  long = length_inside n group part.ids within follow.once in_group

  pub room : HasRoom n group old
  room = start.room group (λ t m. follow.inside t (of_group t m)) (λ t m. follow.apart t (of_group t m))

  pub for_places : length (placed old.parts) + length part.ids ≤ n
  for_places = let r = room.for_places in omega (arith, r, long)

  pub for_part : length old.parts < n
  for_part = let r = room.for_parts in omega (arith, r, long, some)

  order : IsOrderOf dep group part.ids
  order = record {
    once = follow.once;
    exact = λ p. (in_group p, of_group p);
    parents_first = λ p c cover p_in c_in. elim (follow.behind p c (of_group c c_in) cover.ancestor) as (λ _. StandsBefore part.ids p c) [
      | inl p_done ↦ absurd (follow.apart p (of_group p p_in) p_done)
      | inr (inl same) ↦ absurd (cover.other same)
      | inr (inr stands) ↦ stands
    ];
  }

  both : all ≡ fin.union done group
  both = same_members all (fin.union done group) (λ k. elim (cases_Bool (fin.contains all k)) as (λ _. fin.contains all k ≡ fin.contains (fin.union done group) k) [
    | inl here ↦ here ∙ sym (elim ((follow.both k).0 here) as (λ _. fin.contains (fin.union done group) k ≡ true) [
      | inl d ↦ to_union_left done group k d
      | inr h ↦ to_union_right done group k (in_group k h)
    ])
    | inr out ↦ out ∙ sym (false_from_ne_true _ (λ m. clash _ (elim (from_union done group k m) as (λ _. fin.contains all k ≡ true) [
      | inl d ↦ (follow.both k).1 (inl d)
      | inr h ↦ (follow.both k).1 (inr (of_group k h))
    ]) out))
  ])

  -- the part without its flows
  abbrev bare : Part
  bare = record { rate = part.rate; ids = part.ids; flows = [] }

  only : (P : Part → Type 0) → P bare → (q : Part) → Contains (bare ∷ []) q → P q
  only P here q h = elim (Contains-cases bare q [] h) [ inl same ↦ subst P same here | inr none ↦ absurd (none_in_empty q none) ]

  pub known_behind : (olds : List OldPart) (places : List ℕ) (from : OldPart) (froms froms' : List (Option OldPart)) (new : Written)
      → IsTaken olds places (Some from) bare → froms' ≡ froms ++ Some from ∷ []
      → new ≡ record { parts = old.parts ++ bare ∷ []; ids = []; flows = [] } → Extends n dep olds places members done old new froms froms' all
  known_behind olds places from froms froms' new taken told is = record {
    parts = bare ∷ [];
    is = is;
    froms = Some from ∷ [];
    from = told;
    held = ((taken, cover_of), tt);
    group = group;
    both = both;
    inside = λ t m. follow.inside t (of_group t m);
    apart = λ t m. follow.apart t (of_group t m);
    upper = λ p c cover m. elim (follow.behind p c (of_group c m) cover.ancestor) [
      | inl p_done ↦ inl p_done
      | inr (inl same) ↦ absurd (cover.other same)
      | inr (inr stands) ↦ inr (in_group p
          (subst (λ xs. Contains xs p) (sym stands.2) (Contains-append_left stands.0 (c ∷ stands.1) p stands.3)))
    ];
    order = subst (λ xs. IsOrderOf dep group xs) (sym (append-nil part.ids)) order;
    filled = only (λ q. q.ids ≢ []) (λ none. (let zero_ : length part.ids ≡ 0 = ap length none in omega (arith, zero_, some)));
    summed = only (λ q. q.rate ≡ sums (sum_at dep) q.ids) known.summed;
    uncut = only (IsUncutPart n dep) uncut;
    some_places = (let same = ap length (append-nil part.ids) in omega (arith, same, long));
    few = (let one : length (bare ∷ []) ≡ 1 = refl in omega (arith, one, long, some));
    few_flows = (let none : length (flows_in (bare ∷ [])) ≡ 0 = refl in omega (arith, none));
  }

  pub no_fewer : fin.len done ≤ fin.len all
  no_fewer = set_within done all (λ k m. (follow.both k).1 (inl m))
