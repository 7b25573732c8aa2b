-- Steps keep valid states.
use Rattle.std.proofs.Common.{◌≡◌, ◌≢◌, ℕ, suc, zero, ◌^◌, ◌<◌, ◌≤◌, true, false, cond, List, [], ◌∷◌, ◌++◌, length, Option, None, Some, is_some, sym, refl, ap, subst, ◌∙◌, inl, inr, ◌⊎◌, arith, true≢false, nat_eq, eq-eqb, ne_eqb}
use Rattle.std.specs.Prelude.{Contains, sum_by}
use Rattle.std.specs.Ordering.{nat_cmp}
use Rattle.std.specs.Cmp.{nat_cmp_total, unsigned_tied}
use Rattle.std.specs.FinMap as finmap
use Rattle.std.proofs.lemmas.Bool.{cases_lt, false_from_ne_true}
use Rattle.std.proofs.lemmas.List.Elements.{Contains-append_left, Contains-push_cases}
use Rattle.lists.proofs.Cases.{some_none}
use Rattle.lists.proofs.Distinct.{distinct_push, distinct_within}
use Rattle.lists.proofs.Keys.{len-within}
use Rattle.lists.proofs.Told.{told_number}
use Rattle.lists.proofs.Entries.{Contains-head, none_in_empty}
use Rattle.graphs.specs.declared.names.Level.TheVariants.{Top}
use Rattle.graph_model.specs.declared.limits.TheConstants.{MAX_BLOCKS}
use Rattle.graph_model.specs.declared.names.Refusal.{Refusal}
use Rattle.graphs.specs.Graphs.{Graph, Trail, IsGraph}
use Rattle.graph_model.specs.Limits.{Bounds, AreInRange}
use Rattle.graph_model.specs.States.{PlainState, MinedBlock, Table, Entry, level_of, top_of, IsLive, size_in, size_of}
use Rattle.graph_model.specs.Commands.{SetLimits}
use Rattle.graph_model.specs.Refusals.{RefusalIs}
use Rattle.graph_model.specs.Changes.{limited, IsKept, Forgets}
use Rattle.graph_model.specs.Oversize.{AreOfOneComponent}
use Rattle.graph_model.specs.Validity.{IsLevel, IsStaging, IsKeptBlock, IsValid}
use Rattle.graph_model.proofs.LevelLemmas.{same_level, AreWithin, within_limits, none_over}

-- ---- what can be told

pub told_kept : (state : PlainState) (q : ℕ) → IsKept state q ⊎ (IsKept state q → ⊥)
told_kept state q = elim (told_number state.main.names q) [
  | inl main ↦ inl (inl main)
  | inr none ↦ elim (told_number (level_of state Top).names q) [
    | inl top ↦ inl (inr top)
    | inr neither ↦ inr (λ kept. elim kept [ inl main ↦ none main | inr top ↦ neither top ])
  ]
]

none_seen : {X : Type 0} (o : Option X) → (is_some o ≡ true → ⊥) → o ≡ None
none_seen None none = refl
none_seen (Some x) none = absurd (none refl)

not_some : {X : Type 0} (o : Option X) (x : X) → o ≡ None → o ≡ Some x → ⊥
not_some o x none some = some_none x (sym some ∙ none)

-- ---- tables

pub get-put : (table : Table) (id q : ℕ) (entry : Entry) → finmap.get (finmap.insert table id entry) q ≡ cond (nat_eq q id) (Some entry) (finmap.get table q)
get-put table id q entry = finmap.get-insert nat_cmp_total table id entry q ∙ ap (λ b. cond b (Some entry) (finmap.get table q)) (unsigned_tied q id)

pub get-put_same : (table : Table) (id q : ℕ) (entry : Entry) → q ≡ id → finmap.get (finmap.insert table id entry) q ≡ Some entry
get-put_same table id q entry same = get-put table id q entry ∙ ap (λ b. cond b (Some entry) (finmap.get table q)) (eq-eqb q id same)

pub get-put_other : (table : Table) (id q : ℕ) (entry : Entry) → q ≢ id → finmap.get (finmap.insert table id entry) q ≡ finmap.get table q
get-put_other table id q entry other = get-put table id q entry ∙ ap (λ b. cond b (Some entry) (finmap.get table q)) (ne_eqb q id other)

-- ---- levels of a state

pub in_top : (state : PlainState) (graph : Graph) (id : ℕ) → state.staging ≡ Some graph → Contains graph.names id → Contains (level_of state Top).names id
in_top state graph id is here = subst (λ (g : Graph). Contains g.names id) (sym (ap (top_of state.main) is)) here

-- staging stays within the limits where its names keep their sizes
pub staging_along : (was is : PlainState) (staging : Option Graph) → is.limits ≡ was.limits
    → ((graph : Graph) → staging ≡ Some graph → (id : ℕ) → Contains graph.names id → size_of is.table id ≡ size_of was.table id)
    → IsStaging was staging → IsStaging is staging
staging_along was is None limits sizes level = tt
staging_along was is (Some graph) limits sizes level = same_level was is graph limits (sizes graph refl) level

pub top_level : (state : PlainState) → IsValid state → IsLevel state (level_of state Top)
top_level state valid = of_staging state.staging valid.staging
  where
    of_staging : (staging : Option Graph) → IsStaging state staging → IsLevel state (top_of state.main staging)
    of_staging None none = valid.main
    of_staging (Some graph) level = level

-- ---- a table that forgets the names that are in no level

module _ (old mid new : PlainState) (valid : IsValid old) (table : mid.table ≡ old.table)
    (limits : mid.limits ≡ old.limits) (most : mid.most ≡ old.most) (begins : mid.begun ≡ true)
    (main : IsLevel mid mid.main) (staging : IsStaging mid mid.staging) (inside : (id : ℕ) → IsKept mid id → IsKept old id)
    (blocks : (block : MinedBlock) → Contains mid.blocks block → IsKeptBlock block) (block_count : length mid.blocks ≤ MAX_BLOCKS)
    (forgets : Forgets mid new) where
  abbrev left : PlainState
  left = record mid { table = new.table }

  same_entry : (id : ℕ) → IsKept mid id → finmap.get new.table id ≡ finmap.get old.table id
  same_entry id kept = forgets.kept id kept ∙ ap (λ (t : Table). finmap.get t id) table

  sizes : (id : ℕ) → IsKept mid id → size_of new.table id ≡ size_of mid.table id
  sizes id kept = ap size_in (forgets.kept id kept)

  was_kept : (id : ℕ) (entry : Entry) → finmap.get new.table id ≡ Some entry → IsKept mid id
  was_kept id entry is = elim (told_kept mid id) [ inl kept ↦ kept | inr none ↦ absurd (not_some (finmap.get new.table id) entry (forgets.dropped id none) is) ]

  live_kept : (id : ℕ) → is_some (finmap.get new.table id) ≡ true → IsKept mid id
  live_kept id live = elim (told_kept mid id) [ inl kept ↦ kept | inr none ↦ absurd (true≢false (sym live ∙ ap is_some (forgets.dropped id none))) ]

  valid_left : IsValid left
  valid_left = record {
    limits = subst (λ (l : Bounds). AreInRange mid.most l) (sym limits) (subst (λ m. AreInRange m old.limits) (sym most) valid.limits);
    main = same_level mid left mid.main refl (λ id here. sizes id (inl here)) main;
    staging = staging_along mid left mid.staging refl (λ graph is id here. sizes id (inr (in_top mid graph id is here))) staging;
    live = λ id. (live_kept id, λ kept. ap is_some (same_entry id kept) ∙ (valid.live id).1 (inside id kept));
    few = let le : finmap.len new.table ≤ finmap.len old.table =
        len-within new.table old.table (λ q live. sym (ap is_some (same_entry q (live_kept q live))) ∙ live) in
        let all : finmap.len old.table ≤ mid.limits.total = subst (λ (l : Bounds). finmap.len old.table ≤ l.total) (sym limits) valid.few in omega arith;
    rates = λ id entry is. valid.rates id entry (sym (same_entry id (was_kept id entry is)) ∙ is);
    blocks = blocks;
    block_count = block_count;
    fresh = λ not_yet. absurd (true≢false (sym begins ∙ not_yet));
  }

  pub forgets_valid : IsValid new
  forgets_valid = subst IsValid (sym forgets.same) valid_left

-- ---- what a row without a refusal says

pub row_on : {C L : Type 0} {why : Refusal} → (C × (None ≡ Some why)) ⊎ ((C → ⊥) × L) → (C → ⊥) × L
row_on row = elim row [ inl here ↦ absurd (some_none _ (sym here.1)) | inr on ↦ on ]

pub row_at_on : {C : ℕ → Type 0} {L : Type 0} {why : ℕ → Refusal}
    → ((n : ℕ) × C n × (None ≡ Some (why n))) ⊎ (((n : ℕ) → C n → ⊥) × L) → ((n : ℕ) → C n → ⊥) × L
row_at_on row = elim row [ inl here ↦ absurd (some_none _ (sym here.2)) | inr on ↦ on ]

pub le_stable : (a b : ℕ) → ((a ≤ b → ⊥) → ⊥) → a ≤ b
le_stable a b not_not = elim (cases_lt b a) [ inl over ↦ absurd (not_not (λ le. omega arith)) | inr fits ↦ fits ]

range_stable : (most : ℕ) (limits : Bounds) → ((AreInRange most limits → ⊥) → ⊥) → AreInRange most limits
range_stable most limits nn = record {
  count_low = le_stable 1 limits.count (λ none. nn (λ is. none is.count_low));
  count_high = le_stable limits.count most (λ none. nn (λ is. none is.count_high));
  size_low = le_stable 1 limits.size (λ none. nn (λ is. none is.size_low));
  size_high = le_stable limits.size _ (λ none. nn (λ is. none is.size_high));
  total_low = le_stable 1 limits.total (λ none. nn (λ is. none is.total_low));
  total_high = le_stable limits.total _ (λ none. nn (λ is. none is.total_high));
}

-- ---- limits

nothing_live : (state : PlainState) → IsValid state → state.main.names ≡ [] → state.staging ≡ None → (id : ℕ) → IsLive state id → ⊥
nothing_live state valid main staging id live =
    let empty : (names : List ℕ) → names ≡ [] → Contains names id → ⊥ = λ names none here. none_in_empty id (subst (λ ns. Contains ns id) none here) in
    elim ((valid.live id).0 live) [
      | inl here ↦ empty state.main.names main here
      | inr here ↦ empty state.main.names main (subst (λ (g : Graph). Contains g.names id) (ap (top_of state.main) staging) here)
    ]

no_names : (graph : Graph) (ids : List ℕ) → graph.names ≡ [] → AreOfOneComponent graph ids → ids ≡ []
no_names graph [] none of = refl
no_names graph (x ∷ xs) none of = absurd (none_in_empty x (subst (λ ns. Contains ns x) none (of.inside x (Contains-head x xs))))

pub valid_limited : (old : PlainState) (limits : Bounds) → IsValid old → RefusalIs old (SetLimits limits) None → IsValid (limited old limits)
valid_limited old limits valid row =
    let early = row_on row in
    let in_range : AreInRange old.most limits = range_stable old.most limits (row_on early.1).0 in
    let fresh = valid.fresh (false_from_ne_true old.begun early.0) in
    let new : PlainState = limited old limits in
    let none_live : finmap.len old.table ≤ finmap.len {X = Entry} {R = nat_cmp} finmap.empty =
    len-within old.table finmap.empty (λ q live. absurd (nothing_live old valid fresh.0 fresh.1 q live)) in
    let zero_live : finmap.len {X = Entry} {R = nat_cmp} finmap.empty ≡ 0 = finmap.len-empty nat_cmp Entry in
    record {
      limits = in_range;
      main = record {
        whole = valid.main.whole;
        names = valid.main.names;
        within = λ strict. none_over limits (size_of old.table) old.main (λ ids of.
            let none : length ids ≡ 0 = ap length (no_names old.main ids fresh.0 of) in
            let zero : sum_by (size_of old.table) ids ≡ 0 = ap (sum_by (size_of old.table)) (no_names old.main ids fresh.0 of) in
            (omega arith, omega arith));
      };
      staging = subst (IsStaging new) (sym fresh.1) tt;
      live = valid.live;
      few = omega arith;
      rates = valid.rates;
      blocks = valid.blocks;
      block_count = valid.block_count;
      fresh = λ not_yet. absurd (true≢false not_yet);
    }

-- ---- one more name

-- no trail leads from a name that no pair has
lone : (graph : Graph) (id : ℕ) → IsGraph graph → (Contains graph.names id → ⊥) → (a n : ℕ) → Trail graph.pairs a id n → a ≡ id
lone graph id whole absent a zero same = same
lone graph id whole absent a (suc n) trail = absurd (absent (elim trail.2 [
  | inl down ↦ (whole.ends trail.0 id down).1
  | inr up ↦ (whole.ends id trail.0 up).0
]))

abbrev pub with_more : Graph → ℕ → Graph
with_more graph id = record { names = graph.names ++ id ∷ []; pairs = graph.pairs }

pub level_added : (was is : PlainState) (graph : Graph) (id : ℕ) → is.limits ≡ was.limits
    → 1 ≤ was.limits.count → size_of is.table id ≤ was.limits.size → id < 2 ^ 64
    → (Contains graph.names id → ⊥) → ((q : ℕ) → Contains graph.names q → size_of is.table q ≡ size_of was.table q)
    → IsLevel was graph → IsLevel is (with_more graph id)
level_added was is graph id limits some fits small absent sizes level =
    record {
      whole = record {
        names = distinct_push graph.names id level.whole.names absent;
        pairs = level.whole.pairs;
        ends = λ parent child pair. let both = level.whole.ends parent child pair in
            (Contains-append_left graph.names (id ∷ []) parent both.0, Contains-append_left graph.names (id ∷ []) child both.1);
        acyclic = level.whole.acyclic;
      };
      names = λ q here. elim (Contains-push_cases graph.names id q here) [ inl was ↦ level.names q was | inr same ↦ subst (λ n. n < 2 ^ 64) same small ];
      within = λ strict. none_over is.limits (size_of is.table) (with_more graph id) (bounds strict);
    }
  where
    kept : IsLevel is graph
    kept = same_level was is graph limits sizes level

    some_is : 1 ≤ is.limits.count
    some_is = subst (λ (l : Bounds). 1 ≤ l.count) (sym limits) some

    fits_is : size_of is.table id ≤ is.limits.size
    fits_is = subst (λ (l : Bounds). size_of is.table id ≤ l.size) (sym limits) fits

    bounds : is.limits.defer ≡ false → (ids : List ℕ) → AreOfOneComponent (with_more graph id) ids → AreWithin is.limits (size_of is.table) ids
    bounds strict ids of = elim (told_number ids id) [
      | inl here ↦
          let all : (length ids ≤ length (id ∷ [])) × (sum_by (size_of is.table) ids ≤ sum_by (size_of is.table) (id ∷ [])) =
          distinct_within (size_of is.table) ids (id ∷ []) of.once
          (λ q there. let trail = of.together q id there here in
          subst (Contains (id ∷ [])) (sym (lone graph id level.whole absent q trail.0 trail.1)) (Contains-head id [])) in
          (omega (arith, all.0, some_is), omega (arith, all.1, fits_is))
      | inr none ↦
          let old : AreOfOneComponent graph ids = record {
            once = of.once;
            inside = λ q there. elim (Contains-push_cases graph.names id q
                (of.inside q there)) [ inl was ↦ was | inr same ↦ absurd (none (subst (Contains ids) (sym same) there)) ];
            together = of.together;
          } in
          within_limits is.limits (size_of is.table) graph (kept.within strict) ids old
    ]
