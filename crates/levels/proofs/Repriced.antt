-- A name's other fee, seen from the levels.
use Rattle.std.proofs.Common.{◌≡◌, ℕ, ℤ, ◌+◌, ◌≤◌, Bool, true, ◌&&◌, List, Option, Some, None, is_some, inl, inr, ◌⊎◌, refl, sym, ap, ap₂, arith, ◌∙◌, subst, subst₂, Result, Ok, Err, OnOk, OnErr, IsSome}
use Rattle.std.specs.Prelude.{cond, unwrap_or}
use Rattle.std.proofs.lemmas.Result.{on_ok_weaker, on_err_weaker}
use Rattle.std.specs.FinMap as finmap
use Rattle.fee_rate.specs.declared.rates.FeeRate.{FeeRate}
use Rattle.graphs.specs.Closures.{Closure, is_member, rate_of, AreLinked}
use Rattle.graphs.specs.Graphs.{Lists}
use Rattle.graphs.specs.declared.names.Level.{Level}
use Rattle.graphs.specs.declared.names.Level.TheVariants.{Main, Top}
use Rattle.cluster.specs.Clusters.{Cluster}
use Rattle.cluster.specs.Steps.{GrowsWithin}
use Rattle.graph_model.specs.declared.names.Limits.{Limits}
use Rattle.record.specs.Steps.{most_steps_fit}
use Rattle.levels.specs.Kept.{IsKept}
use Rattle.levels.specs.Levels.{OneLevel, Levels, GrowsForFee, IsLive, SetsFeeIn, level_at, steps_where}
use Rattle.levels.specs.Moves.{SetsFees}
use Rattle.levels.specs.Rings.{Ringed, AreRight}
use Rattle.levels.specs.Shelves.{Shelf, IsInOrder, levels_of, numbers_at, seen_at, view_of}
use Rattle.levels.specs.Stays.{AllStay}
use Rattle.levels.specs.Views.{Numbers, graph_of}
use Rattle.levels.proofs.Finds.{graph_is, member_is}
use Rattle.levels.proofs.Graphs.{rate-at}
use Rattle.levels.proofs.Keeping.{shelf_alone}
use Rattle.levels.proofs.Counting.{IsCounted}
use Rattle.levels.proofs.Fees.{HasOneRate, HaveFee}
use Rattle.levels.proofs.Repricing.{fees_stay_told}
use Rattle.levels.proofs.Turning.{fees_set}
use Rattle.levels.proofs.Unmoved.{same_shelf_stays}

-- ---- what the levels ask, asked of their shelf

module _ (w issued id : ℕ) (shelf : Shelf) (now : Levels) (order : IsInOrder w shelf) (view : levels_of shelf issued ≡ now) where
  member_of : (level : Level) (number : ℕ) → finmap.get (numbers_at level shelf) id ≡ Some number → is_member (level_at now level).graph id ≡ true
  member_of level number is = member_is w issued shelf now order view level id ∙ ap is_some is

  rate_is : (level : Level) (number : ℕ) (c : Cluster) → finmap.get (numbers_at level shelf) id ≡ Some number
      → seen_at level shelf.store.clusters number ≡ Some c → rate_of (level_at now level).graph id ≡ rate_of c.graph id
  rate_is level number c is at =
      ap (λ (g : Closure). rate_of g id) (graph_is w issued shelf now order view level) ∙ rate-at (view_of level shelf) id number c is at

  -- a live name has a number
  pub live_numbered : IsLive now id
      → IsSome (finmap.get (numbers_at Main shelf) id) ⊎ IsSome (finmap.get (numbers_at Top shelf) id)
  live_numbered live = elim live [
    | inl main ↦ inl (sym (member_is w issued shelf now order view Main id) ∙ main)
    | inr top ↦ inr (sym (member_is w issued shelf now order view Top id) ∙ top)
  ]

  pub one_rate : (is_member now.main.graph id ≡ true → is_member (level_at now Top).graph id ≡ true
      → rate_of now.main.graph id ≡ rate_of (level_at now Top).graph id) → HasOneRate id shelf
  one_rate told n m c d first second here there =
      sym (rate_is Main n c first here) ∙ told (member_of Main n first) (member_of Top m second) ∙ rate_is Top m d second there

  pub have_fee : (fee read : ℤ) → read ≡ fee
      → ((level : Level) → is_member (level_at now level).graph id ≡ true → (rate_of (level_at now level).graph id).fee ≡ fee) → HaveFee id read shelf
  have_fee fee read is told level n c first here =
      ap (λ (rate : FeeRate). rate.fee) (sym (rate_is level n c first here)) ∙ told level (member_of level n first) ∙ sym is

  -- the names that a level links to it
  linked_in : (level : Level) (ids : List ℕ) → Lists (AreLinked (level_at now level).graph id) ids
      → Lists (AreLinked (graph_of (view_of level shelf)) id) ids
  linked_in level ids lists = subst (λ (g : Closure). Lists (AreLinked g id) ids) (graph_is w issued shelf now order view level) lists

  -- the most steps for a level, and none where it hasn't the name
  abbrev most_in : Level → List ℕ → ℕ
  most_in level ids = steps_where (is_member (level_at now level).graph id) now.limits (level_at now level).graph ids

  -- the orders take as many steps by the shelf
  fits_same : (level : Level) (ids : List ℕ)
      → most_steps_fit shelf.limits (graph_of (view_of level shelf)) ids ≡ most_steps_fit now.limits (level_at now level).graph ids
  fits_same level ids =
      ap₂ (λ (l : Limits) (g : Closure). most_steps_fit l g ids) (ap (λ (l : Levels). l.limits) view)
      (sym (graph_is w issued shelf now order view level))

  most_same : (level : Level) (ids : List ℕ)
      → steps_where (is_some (finmap.get (numbers_at level shelf) id)) shelf.limits (graph_of (view_of level shelf)) ids ≡ most_in level ids
  most_same level ids =
      ap₂ (λ (b : Bool) (n : ℕ). cond b n 0) (sym (member_is w issued shelf now order view level id)) (fits_same level ids)

  -- without a staging the name has one number, and is in main
  module _ (before after : ℕ) (live : IsLive now id)
      (shared : finmap.get (numbers_at Main shelf) id ≡ finmap.get (numbers_at Top shelf) id → (ids : List ℕ)
      → Lists (AreLinked (graph_of (view_of Main shelf)) id) ids
      → GrowsWithin (most_steps_fit shelf.limits (graph_of (view_of Main shelf)) ids) before after) where
    told_alone : now.staging ≡ None → (ids : List ℕ) → Lists (AreLinked now.main.graph id) ids
        → GrowsWithin (most_in Main ids) before after
    told_alone none ids lists =
        let one = ap (λ o. finmap.get (unwrap_or o shelf.main) id) (sym (shelf_alone shelf issued now view none)) in
        let here : IsSome (finmap.get (numbers_at Main shelf) id) = elim (live_numbered live) [ inl main ↦ main | inr top ↦ ap is_some one ∙ top ] in
        subst (λ made. GrowsWithin (steps_where made now.limits now.main.graph ids) before after)
        (sym (member_is w issued shelf now order view Main id ∙ here))
        (subst (λ n. GrowsWithin n before after) (fits_same Main ids) (shared one ids (linked_in Main ids lists)))

    pub told_fee : before ≤ after → IsCounted id shelf before after → GrowsForFee id before after now
    told_fee grew counted mains tops first second = by now.staging refl
      where
        by : (staging : Option OneLevel) → now.staging ≡ staging
            → GrowsWithin (most_in Main mains
            + steps_where (is_some staging && is_member (level_at now Top).graph id) now.limits (level_at now Top).graph tops) before after
        by None none =
            let one = told_alone none mains first in
            let few : after ≤ before + (most_in Main mains + 0) = omega (arith, one.few) in record { grew = one.grew; few = few }
        by (Some top) some =
            let sum : after ≤ before + most_in Main mains + most_in Top tops =
            subst₂ (λ m n. after ≤ before + m + n) (most_same Main mains) (most_same Top tops)
            (counted mains tops (linked_in Main mains first) (linked_in Top tops second)) in
            let few : after ≤ before + (most_in Main mains + most_in Top tops) = omega (arith, sum) in record { grew = grew; few = few }

-- ---- what the shelf makes of it

-- the numbers of names are as they were
abbrev AreNamedSame : Shelf → Shelf → Type 0
AreNamedSame old new = (new.main ≡ old.main) × (new.staging ≡ old.staging)

named_same : {T E : Type 0} (result : Result T E) (w id : ℕ) (fee : ℤ) (old new : Shelf) → OnOk result (SetsFees w id fee old new)
    → OnErr result (new ≡ old) → AreNamedSame old new
named_same (Ok x) w id fee old new sets same = (sets.numbers, sets.staging)
named_same (Err e) w id fee old new sets same = (ap (λ (s : Shelf). s.main) same, ap (λ (s : Shelf). s.staging) same)

kept_named : (w mains tops issued : ℕ) (rings : Ringed) (old new : Shelf) → IsInOrder w new → AreNamedSame old new
    → IsKept w old rings mains tops issued → IsKept w new rings mains tops issued
kept_named w mains tops issued rings old new after same kept = record {
  order = after;
  right = subst₂ (λ (m : Numbers) (o : Option Numbers). AreRight rings m (unwrap_or o m)) (sym same.0) (sym same.1) kept.right;
  mains = subst (λ (m : Numbers). mains ≡ finmap.len m) (sym same.0) kept.mains;
  tops = subst₂ (λ (m : Numbers) (o : Option Numbers). tops ≡ finmap.len (unwrap_or o m)) (sym same.0) (sym same.1) kept.tops;
  issued = kept.issued;
  few = kept.few;
}

-- the invariant stays
pub kept_repriced : {T E : Type 0} (w mains tops issued id : ℕ) (fee : ℤ) (rings : Ringed) (old new : Shelf) (result : Result T E) → IsInOrder w new
    → OnOk result (SetsFees w id fee old new) → OnErr result (new ≡ old) → IsKept w old rings mains tops issued → IsKept w new rings mains tops issued
kept_repriced w mains tops issued id fee rings old new result after sets same =
    kept_named w mains tops issued rings old new after (named_same result w id fee old new sets same)

module _ (w issued id : ℕ) (old new : Shelf) (now : Levels) (before : IsInOrder w old) (after : IsInOrder w new) (view : levels_of old issued ≡ now) where
  pub levels_priced : {T E : Type 0} (fee read : ℤ) → read ≡ fee → (result : Result T E) → OnOk result (SetsFees w id read old new)
      → OnOk result (SetsFeeIn id fee now (levels_of new issued))
  levels_priced fee read is result =
      on_ok_weaker result (λ sets. subst₂ (λ (f : ℤ) (l : Levels). SetsFeeIn id f l (levels_of new issued)) is view
      (fees_set w issued old new before after id read sets))

  pub levels_same : new ≡ old → levels_of new issued ≡ now
  levels_same same = ap (λ (s : Shelf). levels_of s issued) same ∙ view

  pub levels_failed : {T E : Type 0} (result : Result T E) → OnErr result (new ≡ old) → OnErr result (levels_of new issued ≡ now)
  levels_failed result = on_err_weaker result levels_same

  pub levels_stay : {T E : Type 0} (fee : ℤ) (result : Result T E) → OnOk result (SetsFees w id fee old new) → OnErr result (new ≡ old)
      → HasOneRate id old → (HaveFee id fee old → new ≡ old) → AllStay now (levels_of new issued)
  levels_stay fee result sets same one still = subst (λ (l : Levels). AllStay l (levels_of new issued)) view (from result sets same)
    where
      from : {T E : Type 0} (r : Result T E) → OnOk r (SetsFees w id fee old new) → OnErr r (new ≡ old)
          → AllStay (levels_of old issued) (levels_of new issued)
      from (Ok x) sets same = fees_stay_told w old new before after id fee sets one issued issued still
      from (Err e) sets same = same_shelf_stays w old new before after issued issued same
