-- What another fee of a name leaves as it was: components that stay keep their parts and flows, in their order, in both levels.
use Rattle.std.proofs.Common.{◌≡◌, ◌≢◌, ℕ, ℤ, ◌*◌, true, List, [], ◌∷◌, Contains, Some, is_some, inl, inr, ◌⊎◌, sym, ap, ◌∙◌, subst, true≢false}
use Rattle.std.proofs.lemmas.Bool.{cases_Bool}
use Rattle.std.proofs.lemmas.Option.{same_Some}
use Rattle.std.specs.Cmp.{signed_Decides}
use Rattle.std.specs.Ordering.{int_eq}
use Rattle.std.specs.FinMap as finmap
use Rattle.lists.proofs.Entries.{Contains-head}
use Rattle.fee_rate.specs.declared.rates.FeeRate.{FeeRate}
use Rattle.graphs.specs.declared.names.Level.{Level}
use Rattle.graphs.specs.declared.names.Level.TheVariants.{Main, Top}
use Rattle.graphs.specs.Closures.{Closure, is_member, rate_of, SetsFee}
use Rattle.cluster.specs.Clusters.{Cluster}
use Rattle.levels.specs.Changes.{IsRebuilt}
use Rattle.levels.specs.Moves.{SetsFeeAt, SetsFees}
use Rattle.levels.specs.Shelves.{Shelf, IsInOrder, levels_of, numbers_at, one_of, seen_at, view_of}
use Rattle.levels.specs.Stays.{AllStay}
use Rattle.levels.specs.Views.{graph_of}
use Rattle.levels.proofs.Fees.{HasOneRate, HaveFee}
use Rattle.levels.proofs.Finds.{indexed_at}
use Rattle.levels.proofs.Graphs.{cases_option, member-number, rate-at}
use Rattle.levels.proofs.Rebuilt.{is_rebuilt}
use Rattle.levels.proofs.Staying.{AreAway, LevelKeeps, one_away, rebuilt_stays}
use Rattle.levels.proofs.Unmoved.{all_stay, same_keeps, same_one}

-- a level that has the name has another fee of it
abbrev pub HasOtherFee : ℕ → ℤ → Level → Shelf → Type 0
HasOtherFee id fee level shelf = is_member (graph_of (view_of level shelf)) id ≡ true → (rate_of (graph_of (view_of level shelf)) id).fee ≢ fee

-- the cluster of a name in a level
abbrev pub IsItsCluster : ℕ → Level → Shelf → ℕ → Cluster → Type 0
IsItsCluster id level shelf number c = (finmap.get (numbers_at level shelf) id ≡ Some number) × (seen_at level shelf.store.clusters number ≡ Some c)

decide_fee : (x y : ℤ) → (x ≡ y) ⊎ (x ≢ y)
decide_fee x y = elim (cases_Bool (int_eq x y)) [
  | inl same ↦ inl ((signed_Decides x y).0 same)
  | inr other ↦ inr (λ same. true≢false (sym ((signed_Decides x y).1 same) ∙ other))
]

-- a component with the name isn't the same with another fee
fee_away : (c d : Cluster) (g h : Closure) → IsRebuilt (c ∷ []) (d ∷ []) [] g h → d.names ≡ c.names → (id : ℕ) (fee : ℤ) → Contains c.names id
    → SetsFee c.graph d.graph id fee → (rate_of g id).fee ≢ fee → AreAway (c ∷ []) g h
fee_away c d g h r names id fee held sets other = one_away c (d ∷ []) [] g h r id held (λ ids same here.
    let now : rate_of h id ≡ rate_of d.graph id = (r.now d id (Contains-head d []) in_new).0.rates id in_new in
    other (ap (λ (rate : FeeRate). rate.fee) (sym (same.rates id here) ∙ now ∙ sets.rate_is)))
  where
    in_new : Contains d.names id
    in_new = subst (λ (xs : List ℕ). Contains xs id) (sym names) held

module _ (w : ℕ) (old new : Shelf) (before : IsInOrder w old) (after : IsInOrder w new) (id : ℕ) (fee : ℤ) (sets : SetsFees w id fee old new) where
  same_numbers : (level : Level) → numbers_at level new ≡ numbers_at level old
  same_numbers Main = sets.numbers
  same_numbers Top = λ i. numbers_at Top (record { limits = new.limits; main = sets.numbers i; staging = sets.staging i; store = new.store })

  sets_at : (level : Level) → SetsFeeAt w id fee level old new
  sets_at Main = sets.main
  sets_at Top = sets.top

  fee_keeps : (level : Level) → HasOtherFee id fee level old → LevelKeeps (one_of level old) (one_of level new)
  fee_keeps level other = elim (cases_option (finmap.get (numbers_at level old) id)) [
    | inl none ↦
        same_keeps (one_of level old) (one_of level new) (same_one w old new before after level level (same_numbers level) ((sets_at level).away none))
    | inr some ↦
        let number = some.0 in
        let indexed = indexed_at w old before level in
        let stands = indexed.stands id number some.1 in
        let c = stands.cluster in
        let at = (sets_at level).here number c some.1 stands.there in
        let r = is_rebuilt (64 * w) (number ∷ []) (number ∷ []) (c ∷ []) (at.0 ∷ []) [] (view_of level old) (view_of level new) indexed at.3 in
        rebuilt_stays w level (number ∷ []) (number ∷ []) (c ∷ []) (at.0 ∷ []) [] old new before after at.3
        (fee_away c at.0 (graph_of (view_of level old)) (graph_of (view_of level new)) r at.1 id fee stands.here at.2
        (other (member-number (view_of level old) id ∙ ap is_some some.1)))
  ]

  -- ---- where nothing changes that has the fee already

  in_level : (level : Level) (n m : ℕ) (c d : Cluster) → IsItsCluster id level old n c → IsItsCluster id level old m d → rate_of c.graph id ≡ rate_of d.graph id
  in_level level n m c d first second =
      let number : n ≡ m = same_Some n m (sym first.0 ∙ second.0) in
      ap (λ (x : Cluster). rate_of x.graph id) (same_Some c d (sym first.1 ∙ ap (seen_at level old.store.clusters) number ∙ second.1))

  module _ (one : HasOneRate id old) where
    one_rate : (a b : Level) (n m : ℕ) (c d : Cluster) → IsItsCluster id a old n c → IsItsCluster id b old m d → rate_of c.graph id ≡ rate_of d.graph id
    one_rate Main Top n m c d first second = one n m c d first.0 second.0 first.1 second.1
    one_rate Top Main n m c d first second = sym (one m n d c second.0 first.0 second.1 first.1)
    one_rate Main Main n m c d first second = in_level Main n m c d first second
    one_rate Top Top n m c d first second = in_level Top n m c d first second

    have_fee : (level : Level) (n : ℕ) (c : Cluster) → IsItsCluster id level old n c → (rate_of c.graph id).fee ≡ fee → HaveFee id fee old
    have_fee level n c first same other m d is at = ap (λ (rate : FeeRate). rate.fee) (one_rate other level m n d c (is, at) first) ∙ same

    level_told : (HaveFee id fee old → new ≡ old) → (level : Level) → LevelKeeps (one_of level old) (one_of level new)
    level_told still level = elim (cases_option (finmap.get (numbers_at level old) id)) [
      | inl none ↦ fee_keeps level (λ member. absurd (true≢false (sym member ∙ member-number (view_of level old) id ∙ ap is_some none)))
      | inr some ↦
          let stands = (indexed_at w old before level).stands id some.0 some.1 in
          let c = stands.cluster in
          elim (decide_fee (rate_of c.graph id).fee fee) [
            | inl same ↦ same_keeps (one_of level old) (one_of level new) (ap (one_of level) (still (have_fee level some.0 c (some.1, stands.there) same)))
            | inr other ↦ fee_keeps level
                (λ member same. other (ap (λ (rate : FeeRate). rate.fee) (sym (rate-at (view_of level old) id some.0 c some.1 stands.there)) ∙ same))
          ]
    ]

    pub fees_stay_told : (issued later : ℕ) → (HaveFee id fee old → new ≡ old) → AllStay (levels_of old issued) (levels_of new later)
    fees_stay_told issued later still = all_stay w old new before after issued later (level_told still)
