-- A name of the top level became a parent of another: what the levels see of it, and what is kept of them.
use Rattle.std.proofs.Common.{IfErr, ◌≡◌, ◌≢◌, ℕ, ◌*◌, ◌&&◌, ◌||◌, Bool, true, false, cond, Option, Some, None, is_some, inl, inr, refl, sym, ap, arith, ◌∙◌, subst, subst₂, ◌⊎◌, Result, Ok, Err, OnOk, OnErr, MatchResult}
use Rattle.std.specs.Result.{IsErrAnd}
use Rattle.std.proofs.lemmas.Bool.{or_cases, or_left, and_parts}
use Rattle.std.specs.FinMap as finmap
use Rattle.std.proofs.lemmas.Option.{same_Some}
use Rattle.lists.proofs.Cases.{same_test}
use Rattle.graphs.specs.Closures.{Closure, is_ancestor, AddsPair}
use Rattle.graphs.specs.declared.names.Level.TheVariants.{Top}
use Rattle.graph_model.specs.declared.names.Limits.{Limits}
use Rattle.graph_model.specs.declared.names.Refusal.{Refusal}
use Rattle.graph_model.specs.declared.names.Refusal.TheVariants.{ClusterSize, Count, Cycle, Memory, Unknown}
use Rattle.graph_model.specs.Refusals.{NoRefusal}
use Rattle.levels.specs.Joins.{DepRefusalIs}
use Rattle.levels.specs.Kept.{IsKept, SuitsShelf}
use Rattle.levels.specs.Levels.{OneLevel, Levels, ChangesTop, level_at, with_top}
use Rattle.levels.specs.Links.{IsLink}
use Rattle.levels.specs.Moves.{Connects}
use Rattle.levels.specs.declared.relation.Link.TheVariants.{Between}
use Rattle.levels.specs.Rings.{Fewer, Ringed}
use Rattle.levels.specs.Shelves.{Shelf, IsInOrder, levels_of, numbers_at, view_of}
use Rattle.levels.specs.Stays.{AllStay}
use Rattle.levels.specs.Views.{graph_of}
use Rattle.levels.proofs.Calls.{none_staged}
use Rattle.levels.proofs.Finds.{graph_is}
use Rattle.levels.proofs.Graphs.{in_above, names_of_above, order_of}
use Rattle.levels.proofs.Tallies.{mains_are_tops, tops_paired, top_turned}
use Rattle.levels.proofs.Turned.{kept_turned}
use Rattle.levels.proofs.Turning.{paired_keeps, paired_top}
use Rattle.levels.proofs.Unmoved.{same_shelf_stays}

-- ---- a parent that is an ancestor already adds nothing

pair_there : (w : ℕ) (shelf : Shelf) → IsInOrder w shelf → (p q : ℕ) → is_ancestor (graph_of (view_of Top shelf)) p q ≡ true
    → AddsPair (graph_of (view_of Top shelf)) (graph_of (view_of Top shelf)) p q
pair_there w shelf order p q there =
    let graph = graph_of (view_of Top shelf) in
    let relation = order_of (64 * w) (view_of Top shelf) order.top in
    record {
      members = λ id. refl;
      rates = λ id. refl;
      ancestors = λ a d. same_test (is_ancestor graph a d) (is_ancestor graph a d || (is_ancestor graph a p && is_ancestor graph q d))
          (or_left (is_ancestor graph a d) (is_ancestor graph a p && is_ancestor graph q d))
          (λ holds. elim (or_cases (is_ancestor graph a d) (is_ancestor graph a p && is_ancestor graph q d) holds) [
            | inl was ↦ was
            | inr across ↦
                let ends = and_parts (is_ancestor graph a p) (is_ancestor graph q d) across in
                relation.transitive a q d (relation.transitive a p q ends.0 there) ends.1
          ]);
    }

same_top : (levels : Levels) → levels ≡ with_top levels (level_at levels Top)
same_top levels = from levels.staging
  where
    from : (o : Option OneLevel) → record levels { staging = o } ≡ with_top (record levels { staging = o }) (level_at (record levels { staging = o }) Top)
    from None = refl
    from (Some l) = refl

there_top : (w issued : ℕ) (shelf : Shelf) → IsInOrder w shelf → (p q : ℕ) → is_ancestor (graph_of (view_of Top shelf)) p q ≡ true
    → ChangesTop (λ g h. AddsPair g h p q) (levels_of shelf issued) (levels_of shelf issued)
there_top w issued shelf order p q there =
    let levels = levels_of shelf issued in (
      level_at levels Top,
      subst (λ (g : Closure). AddsPair g g p q) (sym (graph_is w issued shelf levels order refl Top)) (pair_there w shelf order p q there),
      same_top levels,
    )

-- ---- names of two clusters

module _ (w : ℕ) (shelf : Shelf) (p q first second : ℕ) (link : IsLink shelf p q (Between first second)) where
  between_apart : finmap.get (numbers_at Top shelf) p ≢ finmap.get (numbers_at Top shelf) q
  between_apart same = elim link.0 [
    | inl is ↦ link.1 (same_Some first second (sym is.0 ∙ same ∙ is.1))
    | inr is ↦ link.1 (same_Some first second (sym is.1 ∙ sym same ∙ is.0))
  ]

  -- a name that is an ancestor of another is of its cluster
  pub not_between : (order : IsInOrder w shelf) → is_ancestor (graph_of (view_of Top shelf)) p q ≡ true → ⊥
  not_between order up =
      let at = in_above (64 * w) (view_of Top shelf) order.top p q up in
      let ends = names_of_above (64 * w) (view_of Top shelf) order.top at.number p q at.cluster at.there at.above in
      between_apart (order.top.listed at.number p at.cluster at.there ends.0 ∙ sym (order.top.listed at.number q at.cluster at.there ends.1))

-- ---- the change

module _ (w issued : ℕ) (old new : Shelf) (before : IsInOrder w old) (after : IsInOrder w new)
    (parent child : ℕ) (connects : Connects w parent child old new) where
  pub connected_top : ChangesTop (λ g h. AddsPair g h parent child) (levels_of old issued) (levels_of new issued)
  connected_top = elim connects [
    | inl there ↦
        subst (λ (s : Shelf). ChangesTop (λ g h. AddsPair g h parent child) (levels_of old issued) (levels_of s issued)) (sym there.1)
        (there_top w issued old before parent child there.0)
    | inr on ↦ paired_top w issued old new before after on.1.0 parent child on.1.1
  ]

  pub connected_stays : AllStay (levels_of old issued) (levels_of new issued)
  connected_stays = elim connects [
    | inl there ↦ same_shelf_stays w old new before after issued issued there.1
    | inr on ↦ paired_keeps w issued old new before after on.1.0 parent child on.1.1 on.0
  ]

pub stays_on : {T E : Type 0} (result : Result T E) (w issued : ℕ) (old new : Shelf) → IsInOrder w old → IsInOrder w new → (parent child : ℕ)
    → OnOk result (Connects w parent child old new) → (Same : Type 0)
    → OnErr result ((new ≡ old) × Same) → AllStay (levels_of old issued) (levels_of new issued)
stays_on (Ok x) w issued old new before after parent child connects Same err = connected_stays w issued old new before after parent child connects
stays_on (Err e) w issued old new before after parent child connects Same err = same_shelf_stays w old new before after issued issued err.0

-- the same of shelves that are as they were
pub connects_from : {T E : Type 0} (result : Result T E) (w parent child : ℕ) (mid old new : Shelf) → mid ≡ old
    → OnOk result (Connects w parent child mid new) → OnOk result (Connects w parent child old new)
connects_from result w parent child mid old new same = subst (λ (s : Shelf). OnOk result (Connects w parent child s new)) same

pub fails_from : {T E : Type 0} (result : Result T E) (mid old new : Shelf) (Same : Type 0) → mid ≡ old
    → OnErr result ((new ≡ mid) × Same) → OnErr result ((new ≡ old) × Same)
fails_from result mid old new Same same = subst (λ (s : Shelf). OnErr result ((new ≡ s) × Same)) same

-- ---- what is kept

either_count : (mains tops : ℕ) (staged : Bool) → (staged ≡ false → mains ≡ tops) → mains ≡ cond staged mains tops
either_count mains tops true same = refl
either_count mains tops false same = same refl

staged_on : (w : ℕ) (old new : Shelf) (parent child : ℕ) → Connects w parent child old new → is_some new.staging ≡ is_some old.staging
staged_on w old new parent child connects = elim connects [
  | inl there ↦ ap (λ (s : Shelf). is_some s.staging) there.1
  | inr on ↦ on.1.1.rebuilds.staged
]

module _ (w mains tops issued : ℕ) (old new : Shelf) (before after : Ringed) (kept : IsKept w old before mains tops issued) where
  -- no level has another number of names
  kept_connected : IsInOrder w new → SuitsShelf after new → (parent child : ℕ) → Connects w parent child old new → Fewer before after
      → IsKept w new after mains tops issued
  kept_connected order right parent child connects fewer =
      let turns = connected_top w issued old new kept.order order parent child connects in
      let paired = top_turned w issued old new kept.order order (λ g h. AddsPair g h parent child) turns in
      let same = staged_on w old new parent child connects in
      kept_turned w mains tops issued old new before after kept order right same
      (λ g h. AddsPair g h parent child) turns (is_some new.staging) mains tops issued refl
      (kept.tops ∙ sym (tops_paired old new parent child paired))
      (either_count mains tops (is_some new.staging) (λ shut.
      kept.mains ∙ mains_are_tops old (none_staged old.staging (is_some new.staging) same shut) ∙ sym kept.tops)) (kept.issued ∙ sym fewer.1)
      (let few = kept.few in omega (arith, fewer.0, few))

  kept_same : new ≡ old → after ≡ before → IsKept w new after mains tops issued
  kept_same shelf rings = subst₂ (λ (s : Shelf) (r : Ringed). IsKept w s r mains tops issued) (sym shelf) (sym rings) kept

  -- the same of a call that may fail
  pub kept_on : {T E : Type 0} (result : Result T E) → IsInOrder w new → SuitsShelf after new → (parent child : ℕ)
      → OnOk result (Connects w parent child old new) → Fewer before after
      → OnErr result ((new ≡ old) × (after ≡ before)) → IsKept w new after mains tops issued
  kept_on (Ok x) order right parent child connects fewer err = kept_connected order right parent child connects fewer
  kept_on (Err e) order right parent child connects fewer err = kept_same err.0 err.1

-- ---- no pair is refused for want of memory by its row

-- what holds of every error
pub every_error : {T E : Type 0} {Holds : E → Type 0} (result : Result T E) → ((why : E) → Holds why) → IfErr result Holds
every_error (Ok x) all = tt
every_error (Err e) all = all e

first_lacks : {C L : Type 0} (why : Refusal) → (Some Memory ≡ Some why → ⊥) → (L → ⊥) → (C × (Some Memory ≡ Some why)) ⊎ ((C → ⊥) × L) → ⊥
first_lacks why other more row = elim row [ inl here ↦ other here.1 | inr on ↦ more on.1 ]

first_at_lacks : {C : ℕ → Type 0} {L : Type 0} (why : ℕ → Refusal) → ((n : ℕ) → Some Memory ≡ Some (why n) → ⊥) → (L → ⊥)
    → ((n : ℕ) × C n × (Some Memory ≡ Some (why n))) ⊎ (((n : ℕ) → C n → ⊥) × L) → ⊥
first_at_lacks why other more row = elim row [ inl here ↦ other here.0 here.2 | inr on ↦ more on.1 ]

end_lacks : NoRefusal (Some Memory) → ⊥
end_lacks none = cc

never_memory : (limits : Limits) (graph : Closure) (parent child : ℕ) → DepRefusalIs limits graph parent child (Some Memory) → ⊥
never_memory limits graph parent child =
    first_lacks (Unknown parent) (λ e. cc) (first_lacks (Unknown child) (λ e. cc) (first_lacks Cycle (λ e. cc)
    (first_at_lacks Count (λ n e. cc) (first_at_lacks ClusterSize (λ n e. cc) end_lacks))))

-- the refusal of a pair, or that none of the row is its
abbrev pub RowIs : {T : Type 0} → Limits → Closure → ℕ → ℕ → Result T Refusal → Type 0
RowIs limits graph parent child result =
    MatchResult result (λ _. DepRefusalIs limits graph parent child None)
    (λ why. ((why ≡ Memory) × DepRefusalIs limits graph parent child None) ⊎ ((why ≢ Memory) × DepRefusalIs limits graph parent child (Some why)))

pub row_refused : {T : Type 0} (limits : Limits) (graph : Closure) (parent child : ℕ) (result : Result T Refusal) (why : Refusal)
    → IsErrAnd result (λ e. e ≡ why)
    → DepRefusalIs limits graph parent child (Some why) → RowIs limits graph parent child result
row_refused limits graph parent child (Ok x) why is row = absurd is
row_refused limits graph parent child (Err e) why is row = inr (
  λ memory. never_memory limits graph parent child (subst (λ (r : Refusal). DepRefusalIs limits graph parent child (Some r)) (sym is ∙ memory) row),
  subst (λ (r : Refusal). DepRefusalIs limits graph parent child (Some r)) (sym is) row,
)
