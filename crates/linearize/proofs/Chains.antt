-- Where each covering parent stands before its children, each ancestor stands before its descendants.
use Rattle.std.proofs.Common.{◌≡◌, ◌≢◌, ℕ, zero, suc, ◌+◌, ◌<◌, ◌≤◌, ◌⊎◌, inl, inr, true, List}
use Rattle.std.proofs.Common.{[], ◌∷◌, sym, ◌∙◌, subst, arith}
use Rattle.std.specs.Prelude.{Contains}
use Rattle.std.proofs.lemmas.Bool.{cases_eq, cases_Bool}
use Rattle.std.specs.FinSet as fin
use Rattle.graphs.proofs.Members.{contains-members_of}
use Rattle.graphs.proofs.AlikeLemmas.{stands_trans}
use Rattle.bitset.specs.Members.{to_remove}
use Rattle.lists.proofs.Cases.{clash}
use Rattle.graphs.specs.Closures.{Closure, is_member, is_ancestor, ancestors_of, members_of, IsCover, IsClosed}
use Rattle.lists.proofs.Entries.{Contains-cases, none_in_empty}
use Rattle.lists.specs.Distinct.{AreDistinct}
use Rattle.lists.proofs.Keys.{set_drop, set_within}
use Rattle.bitset.specs.Places.{places, IsWithin}
use Rattle.bitset.specs.Sets.{Contains-places}
use Rattle.graphs.specs.Linearizations.{StandsBefore}
use Rattle.linearize.specs.Orders.{IsOrderOf}

module _ (n : ℕ) (dep : Closure) (closed : IsClosed n dep) where
  above_within : (d : ℕ) → IsWithin n (ancestors_of dep d)
  above_within d k m = closed.within k (closed.order.among k d m).0

  -- a proper ancestor has fewer ancestors
  fewer_above : (a d : ℕ) → is_ancestor dep a d ≡ true → a ≢ d → fin.len (ancestors_of dep a) < fin.len (ancestors_of dep d)
  fewer_above a d e ne =
      let own : is_ancestor dep d d ≡ true = closed.order.reflexive d (closed.order.among a d e).1 in
      let inside : fin.len (ancestors_of dep a) ≤ fin.len (fin.remove (ancestors_of dep d) d) =
      set_within _ _ (λ k m. to_remove (ancestors_of dep d) d k
      (λ same. ne (closed.order.antisymmetric a d e (subst (λ (j : ℕ). is_ancestor dep j a ≡ true) same m))) (closed.order.transitive k a d m e)) in
      omega (arith, inside, set_drop (ancestors_of dep d) d own)

  -- a third place between two
  abbrev Between : ℕ → ℕ → ℕ → Type 0
  Between a d k = (is_ancestor dep a k ≡ true) × (is_ancestor dep k d ≡ true) × (k ≢ a) × (k ≢ d)

  one_between : (a d k : ℕ) → Between a d k ⊎ (Between a d k → ⊥)
  one_between a d k = elim (cases_Bool (is_ancestor dep a k)) [
    | inr out ↦ inr (λ b. clash _ b.0 out)
    | inl up ↦ elim (cases_Bool (is_ancestor dep k d)) [
      | inr out ↦ inr (λ b. clash _ b.1 out)
      | inl down ↦ elim (cases_eq k a) [
        | inl same ↦ inr (λ b. b.2 same)
        | inr not_a ↦ elim (cases_eq k d) [
          | inl same ↦ inr (λ b. b.3 same)
          | inr not_d ↦ inl (up, down, not_a, not_d)
        ]
      ]
    ]
  ]

  some_between : (a d : ℕ) (ks : List ℕ) → ((k : ℕ) × Between a d k) ⊎ ((k : ℕ) → Contains ks k → Between a d k → ⊥)
  some_between a d [] = inr (λ k h b. none_in_empty k h)
  some_between a d (x ∷ ks) = elim (one_between a d x) [
    | inl here ↦ inl (x, here)
    | inr out ↦ elim (some_between a d ks) [
      | inl later ↦ inl later
      | inr none ↦ inr (λ k h. elim (Contains-cases x k ks h) [ inl same ↦ subst (λ (j : ℕ). Between a d j → ⊥) same out | inr later ↦ none k later ])
    ]
  ]

  -- a covering parent that a proper ancestor is, or stands above
  last_step : (fuel a d : ℕ) → is_ancestor dep a d ≡ true → a ≢ d → fin.len (ancestors_of dep d) ≤ fin.len (ancestors_of dep a) + fuel
      → (p : ℕ) × (is_ancestor dep a p ≡ true) × IsCover dep p d
  last_step zero a d e ne short = absurd (omega (arith, fewer_above a d e ne, short))
  last_step (suc fuel) a d e ne short = elim (some_between a d (places n (members_of dep))) [
    | inl third ↦
        let b = third.1 in
        let more = fewer_above a third.0 b.0 (λ same. b.2 (sym same)) in
        let rest = last_step fuel third.0 d b.1 b.3 (omega (arith, short, more)) in
        (rest.0, closed.order.transitive a third.0 rest.0 b.0 rest.1, rest.2)
    | inr none ↦ (
      a,
      closed.order.reflexive a (closed.order.among a d e).0,
      record {
        ancestor = e;
        other = ne;
        direct = λ m am md. elim (cases_eq m a) [
          | inl same ↦ inl same
          | inr not_a ↦ elim (cases_eq m d) [
            | inl same ↦ inr same
            | inr not_d ↦
                let member : is_member dep m ≡ true = (closed.order.among m d md).0 in
                absurd (none m (Contains-places n (members_of dep) m (closed.within m member) (contains-members_of dep m ∙ member)) (am, md, not_a, not_d))
          ]
        ];
      },
    )
  ]

  by_steps : (order : List ℕ) → AreDistinct order → ((p c : ℕ) → IsCover dep p c → StandsBefore order p c)
      → (fuel a d : ℕ) → is_ancestor dep a d ≡ true → a ≢ d → fin.len (ancestors_of dep d) ≤ fuel → StandsBefore order a d
  by_steps order once first zero a d e ne short = absurd (omega (arith, fewer_above a d e ne, short))
  by_steps order once first (suc fuel) a d e ne short =
      let step = last_step (fin.len (ancestors_of dep d)) a d e ne (omega arith) in
      elim (cases_eq a step.0) [
        | inl same ↦ subst (λ (j : ℕ). StandsBefore order j d) (sym same) (first step.0 d step.2)
        | inr other ↦
            let less = fewer_above step.0 d step.2.ancestor step.2.other in
            stands_trans order a step.0 d once (by_steps order once first fuel a step.0 step.1 other (omega (arith, less, short))) (first step.0 d step.2)
      ]

  pub ancestors_first : (order : List ℕ) → IsOrderOf dep (members_of dep) order → (a d : ℕ) → is_ancestor dep a d ≡ true → a ≢ d → StandsBefore order a d
  ancestors_first order h a d e ne =
      let member : (k : ℕ) → is_member dep k ≡ true → fin.contains (members_of dep) k ≡ true = λ k m. contains-members_of dep k ∙ m in
      by_steps order h.once
      (λ p c cover. (let both = closed.order.among p c cover.ancestor in h.parents_first p c cover (member p both.0) (member c both.1)))
      (fin.len (ancestors_of dep d)) a d e ne (omega arith)

  -- A set that holds the covering parents of its places, as far as these are some places, holds their ancestors as far, where what
  -- lies between two of these is one.
  module _ (K X : ℕ → Type 0) (convex : (a p d : ℕ) → K a → X d → is_ancestor dep a p ≡ true → is_ancestor dep p d ≡ true → K p)
      (step : (p c : ℕ) → IsCover dep p c → X c → K p → X p) where
    by_climbing : (fuel a d : ℕ) → is_ancestor dep a d ≡ true → fin.len (ancestors_of dep d) ≤ fuel → K a → X d → X a
    by_climbing zero a d e short ka xd =
        let own : is_ancestor dep d d ≡ true = closed.order.reflexive d (closed.order.among a d e).1 in
        absurd (omega (arith, short, set_drop (ancestors_of dep d) d own))
    by_climbing (suc fuel) a d e short ka xd = elim (cases_eq a d) as (λ _. X a) [
      | inl same ↦ subst X (sym same) xd
      | inr other ↦
          let up = last_step (fin.len (ancestors_of dep d)) a d e other (omega arith) in
          let less = fewer_above up.0 d up.2.ancestor up.2.other in
          by_climbing fuel a up.0 up.1 (omega (arith, less, short)) ka (step up.0 d up.2 xd (convex a up.0 d ka xd up.1 up.2.ancestor))
    ]

    pub climbs : (a d : ℕ) → is_ancestor dep a d ≡ true → K a → X d → X a
    climbs a d e = by_climbing (fin.len (ancestors_of dep d)) a d e (omega arith)
