-- Steps keep valid states: the other changes, and the picks.
use Rattle.std.proofs.Common.{◌≡◌, ℕ, ℤ, ◌+◌, ◌<◌, ◌^◌, ◌≤◌, true, cond, List, [], ◌∷◌, Option, None, Some, is_some, sym, refl, ap, subst, ◌∙◌, inl, inr, arith, true≢false}
use Rattle.std.specs.Prelude.{Contains}
use Rattle.std.specs.Ordering.{nat_cmp}
use Rattle.std.specs.Cmp.{nat_cmp_total}
use Rattle.std.specs.FinMap as finmap
use Rattle.std.proofs.lemmas.Bool.{cases_eq}
use Rattle.lists.proofs.Cases.{some_none}
use Rattle.lists.proofs.Entries.{Contains-head, none_in_empty}
use Rattle.fee_rate.specs.Limits.{IsFee, IsSize}
use Rattle.graphs.specs.declared.names.Level.TheVariants.{Top}
use Rattle.graphs.specs.Graphs.{Graph, IsGraph}
use Rattle.graphs.specs.Certificates.{Part}
use Rattle.graphs.proofs.RemovalLemmas.{graph_left}
use Rattle.graphs.proofs.DropLemmas as drops
use Rattle.graphs.proofs.PickLemmas.{picks_are_kept}
use Rattle.graphs.proofs.MinimalLemmas.{uncut_with}
use Rattle.lists.proofs.Flats.{flat_has}
use Rattle.graph_model.specs.Limits.{Bounds, AreInRange, default_limits}
use Rattle.graph_model.specs.States.{PlainState, Picks, State, Table, Entry, plain_start, start, empty_graph, level_of, top_of, IsLive, size_in, size_of, sum_in, rate_of}
use Rattle.graph_model.specs.Commands.{Command, HasTypes, SetLimits, Add, Dep, SetFee, Remove, Mine, Evict, Stage, Commit, Abort, Settle, Trim, Unmine, Dump, Compare, Order, Diagram, Proof, Cluster, Ancestors, Descendants, Chunk, Before, Block, Count}
use Rattle.graph_model.specs.Refusals.{RefusalIs}
use Rattle.graph_model.specs.Replies.{Reply}
use Rattle.graph_model.specs.Changes.{begun, with_fee, staged, Forgets, Removes, DropsFromTop, Commits, Aborts, Changes}
use Rattle.graph_model.specs.Steps.{Step, PicksFollow, CommitsPick}
use Rattle.graph_model.specs.Oversize.{AreOfOneComponent, HasOver}
use Rattle.graph_model.specs.Validity.{IsLevel, IsStaging, IsValid, IsPickOf, IsStagingPick, ArePicks, IsValidState}
use Rattle.graph_model.specs.Laws.{StepsKeepValid}
use Rattle.graph_model.proofs.LevelLemmas.{same_level, level_within, over_along, AreWithin, none_over, connects, one_pair, two_pairs}
use Rattle.graph_model.proofs.ValidLemmas.{row_on, get-put_same, get-put_other, top_level, staging_along, forgets_valid, valid_limited}
use Rattle.graph_model.proofs.LimitLemmas.{step_most}
use Rattle.graph_model.proofs.ChangeLemmas.{of_top, top_main, top_is, fee_stable, valid_begun, valid_added, valid_paired}
use Rattle.graph_model.proofs.MinedLemmas.{not_staged, valid_dropped, valid_mined, valid_unmined}

-- ---- `fee`

module _ (old : PlainState) (id : ℕ) (fee : ℤ) (valid : IsValid old) (row : RefusalIs old (SetFee id fee) None) where
  abbrev entry : Entry
  entry = record { fee = fee; size = size_of old.table id }

  abbrev paid : Table
  paid = finmap.insert old.table id entry

  good_fee : IsFee fee
  good_fee = fee_stable fee (row_on row).0

  live : IsLive old id
  live = some_stable (finmap.get old.table id) (row_on (row_on row).1).0
    where
      some_stable : (o : Option Entry) → ((is_some o ≡ true → ⊥) → ⊥) → is_some o ≡ true
      some_stable None nn = absurd (nn (λ e. true≢false (sym e)))
      some_stable (Some e) nn = refl

  same_size : (q : ℕ) → size_of paid q ≡ size_of old.table q
  same_size q = elim (cases_eq q id) [
    | inl same ↦ ap size_in (get-put_same old.table id q entry same) ∙ ap (size_of old.table) (sym same)
    | inr other ↦ ap size_in (get-put_other old.table id q entry other)
  ]

  same_live : (q : ℕ) → is_some (finmap.get paid q) ≡ is_some (finmap.get old.table q)
  same_live q = elim (cases_eq q id) [
    | inl same ↦ ap is_some (get-put_same old.table id q entry same) ∙ sym (ap (λ n. is_some (finmap.get old.table n)) same ∙ live)
    | inr other ↦ ap is_some (get-put_other old.table id q entry other)
  ]

  good_size : (o : Option Entry) → is_some o ≡ true → ((e : Entry) → o ≡ Some e → IsFee e.fee × IsSize e.size) → IsSize (size_in o)
  good_size None none rates = absurd (true≢false (sym none))
  good_size (Some e) some rates = (rates e refl).1

  one_entry : (a b : Entry) → Some a ≡ Some b → a ≡ b
  one_entry a b same = cc

  pub valid_paid : IsValid (with_fee old id fee)
  valid_paid = record {
    limits = valid.limits;
    main = same_level old (with_fee old id fee) old.main refl (λ q here. same_size q) valid.main;
    staging = staging_along old (with_fee old id fee) old.staging refl (λ graph is q here. same_size q) valid.staging;
    live = λ q. (λ now. (valid.live q).0 (sym (same_live q) ∙ now), λ kept. same_live q ∙ (valid.live q).1 kept);
    few = subst (λ n. n ≤ old.limits.total) (sym (finmap.len-insert nat_cmp_total old.table id entry
        ∙ ap (λ b. cond b (finmap.len old.table) (finmap.len old.table + 1)) live)) valid.few;
    rates = λ q e is. elim (cases_eq q id) [
      | inl same ↦ subst (λ (x : Entry). IsFee x.fee × IsSize x.size) (one_entry entry e (sym (get-put_same old.table id q entry same) ∙ is))
          (good_fee, good_size (finmap.get old.table id) live (λ e is. valid.rates id e is))
      | inr other ↦ valid.rates q e (sym (get-put_other old.table id q entry other) ∙ is)
    ];
    blocks = valid.blocks;
    block_count = valid.block_count;
    fresh = λ not_yet. absurd (true≢false not_yet);
  }

-- ---- `remove`

valid_removed : (old new : PlainState) (id : ℕ) → IsValid old → Removes old id new → IsValid new
valid_removed old new id valid (graph, without, forgets) =
    let top : Graph = level_of old Top in
    let level : IsLevel old graph =
    level_within old old top graph refl (graph_left top graph id without (top_level old valid).whole) (λ q here. ((without.names q).0 here).0)
    (connects graph.pairs top.pairs
    (λ a b pair. elim ((without.pairs a b).0 pair).2 [ inl was ↦ one_pair top.pairs a b was | inr across ↦ two_pairs top.pairs a id b across.0 across.1 ]))
    (λ q here. refl) (top_level old valid) in
    of_top (begun old) graph (λ mid. Forgets mid new → IsValid new)
    (λ alone. forgets_valid old (record (begun old) { main = graph }) new valid refl refl refl refl
    (same_level old (record (begun old) { main = graph }) graph refl (λ q here. refl) level)
    (subst (IsStaging (record (begun old) { main = graph })) (sym alone) tt)
    (λ q kept. inr (elim kept [
      | inl here ↦ ((without.names q).0 here).0
      | inr here ↦ ((without.names q).0 (subst (λ (g : Graph). Contains g.names q) (ap (top_of graph) alone) here)).0
    ]))
    valid.blocks valid.block_count)
    (λ was open_is. forgets_valid old (record (begun old) { staging = Some graph }) new valid refl refl refl refl
    (same_level old (record (begun old) { staging = Some graph }) old.main refl (λ q here. refl) valid.main)
    (same_level old (record (begun old) { staging = Some graph }) graph refl (λ q here. refl) level)
    (λ q kept. elim kept [ inl here ↦ inl here | inr here ↦ inr ((without.names q).0 here).0 ])
    valid.blocks valid.block_count)
    forgets

-- ---- `trim`

pub valid_lessened : (old new : PlainState) (ids : List ℕ) → IsValid old → DropsFromTop old ids new → IsValid new
valid_lessened old new [] valid same = subst IsValid (sym same) (valid_begun old valid)
valid_lessened old new (id ∷ ids) valid (graph, without, forgets) =
    let top : Graph = level_of old Top in
    let level : IsLevel old graph =
    level_within old old top graph refl (drops.graph_left top graph (id ∷ ids) without (top_level old valid).whole) (λ q here. ((without.names q).0 here).0)
    (connects graph.pairs top.pairs (λ a b pair. one_pair top.pairs a b ((without.pairs a b).0 pair).2)) (λ q here. refl) (top_level old valid) in
    of_top (begun old) graph (λ mid. Forgets mid new → IsValid new)
    (λ alone. forgets_valid old (record (begun old) { main = graph }) new valid refl refl refl refl
    (same_level old (record (begun old) { main = graph }) graph refl (λ q here. refl) level)
    (subst (IsStaging (record (begun old) { main = graph })) (sym alone) tt)
    (λ q kept. inr (elim kept [
      | inl here ↦ ((without.names q).0 here).0
      | inr here ↦ ((without.names q).0 (subst (λ (g : Graph). Contains g.names q) (ap (top_of graph) alone) here)).0
    ]))
    valid.blocks valid.block_count)
    (λ was open_is. forgets_valid old (record (begun old) { staging = Some graph }) new valid refl refl refl refl
    (same_level old (record (begun old) { staging = Some graph }) old.main refl (λ q here. refl) valid.main)
    (same_level old (record (begun old) { staging = Some graph }) graph refl (λ q here. refl) level)
    (λ q kept. elim kept [ inl here ↦ inl here | inr here ↦ inr ((without.names q).0 here).0 ])
    valid.blocks valid.block_count)
    forgets

-- ---- `stage`, `commit`, `abort`

valid_staged : (old : PlainState) → IsValid old → old.staging ≡ None → IsValid (staged old)
valid_staged old valid alone = record {
  limits = valid.limits;
  main = same_level old (staged old) old.main refl (λ q here. refl) valid.main;
  staging = same_level old (staged old) old.main refl (λ q here. refl) valid.main;
  live = λ q. (
    λ live. elim ((valid.live q).0 live) [ inl main ↦ inl main | inr top ↦ inl (subst (λ (g : Graph). Contains g.names q) (top_main old alone) top) ],
    λ kept. (valid.live q).1 (inl (elim kept [ inl main ↦ main | inr main ↦ main ])),
  );
  few = valid.few;
  rates = valid.rates;
  blocks = valid.blocks;
  block_count = valid.block_count;
  fresh = λ not_yet. absurd (true≢false not_yet);
}

valid_committed : (old new : PlainState) → IsValid old → Commits old new → IsValid new
valid_committed old new valid =
    forgets_valid old (record (begun old) { main = level_of old Top; staging = None }) new valid refl refl refl refl
    (same_level old (record (begun old) { main = level_of old Top; staging = None }) (level_of old Top) refl (λ q here. refl) (top_level old valid)) tt
    (λ q kept. inr (elim kept [ inl here ↦ here | inr here ↦ here ])) valid.blocks valid.block_count

valid_aborted : (old new : PlainState) → IsValid old → Aborts old new → IsValid new
valid_aborted old new valid =
    forgets_valid old (record (begun old) { staging = None }) new valid refl refl refl refl
    (same_level old (record (begun old) { staging = None }) old.main refl (λ q here. refl) valid.main) tt
    (λ q kept. inl (elim kept [ inl here ↦ here | inr here ↦ here ])) valid.blocks valid.block_count

-- ---- the plain state

-- the names that a command brings are of 64 bits
abbrev pub AddsSmall : Command → Type 0
AddsSmall (Add id fee size) = id < 2 ^ 64
AddsSmall (Mine ids) = HasTypes (Mine ids)
AddsSmall command = Unit {0}

adds_small : (command : Command) → HasTypes command → AddsSmall command
adds_small (Add id fee size) types = types.0
adds_small (Mine ids) types = types
adds_small (SetLimits limits) types = tt
adds_small (Dep parent child) types = tt
adds_small (SetFee id fee) types = tt
adds_small (Remove id) types = tt
adds_small Evict types = tt
adds_small Stage types = tt
adds_small Commit types = tt
adds_small Abort types = tt
adds_small Settle types = tt
adds_small Trim types = tt
adds_small Unmine types = tt
adds_small Dump types = tt
adds_small Compare types = tt
adds_small (Order level) types = tt
adds_small (Diagram level) types = tt
adds_small (Proof level) types = tt
adds_small (Cluster id level) types = tt
adds_small (Ancestors id level) types = tt
adds_small (Descendants id level) types = tt
adds_small (Chunk id) types = tt
adds_small (Before a b) types = tt
adds_small (Block size) types = tt
adds_small (Count level) types = tt

pub valid_plain : (picks : Picks) (old new : PlainState) (command : Command) → AddsSmall command
    → IsValid old → RefusalIs old command None → Changes picks old command new → IsValid new
valid_plain picks old new (SetLimits limits) types valid row change = subst IsValid (sym change) (valid_limited old limits valid row)
valid_plain picks old new (Add id fee size) types valid row change = subst IsValid (sym change) (valid_added old id fee size valid types row)
valid_plain picks old new (Dep parent child) types valid row change = valid_paired old new parent child valid row change
valid_plain picks old new (SetFee id fee) types valid row change = subst IsValid (sym change) (valid_paid old id fee valid row)
valid_plain picks old new (Remove id) types valid row change = valid_removed old new id valid change
valid_plain picks old new (Mine ids) types valid row change = valid_mined old new ids types valid row change
valid_plain picks old new Evict types valid row change =
    valid_dropped old new change.1.ids old.blocks valid (not_staged old.staging (row_on row).0) valid.blocks valid.block_count change.4
valid_plain picks old new Trim types valid row change = valid_lessened old new change.0 valid change.2
valid_plain picks old new Unmine types valid row change = valid_unmined old new valid row change
valid_plain picks old new Stage types valid row change = subst IsValid (sym change) (valid_staged old valid (not_staged old.staging (row_on row).0))
valid_plain picks old new Commit types valid row change = valid_committed old new valid change
valid_plain picks old new Abort types valid row change = valid_aborted old new valid change
valid_plain picks old new Settle types valid row change =
    elim change [ inl commits ↦ valid_committed old new valid commits.1 | inr aborts ↦ valid_aborted old new valid aborts.1 ]
valid_plain picks old new Compare types valid row change = subst IsValid (sym change) valid
valid_plain picks old new (Order level) types valid row change = subst IsValid (sym change) valid
valid_plain picks old new (Diagram level) types valid row change = subst IsValid (sym change) valid
valid_plain picks old new (Proof level) types valid row change = subst IsValid (sym change) valid
valid_plain picks old new (Cluster id level) types valid row change = subst IsValid (sym change) valid
valid_plain picks old new (Ancestors id level) types valid row change = subst IsValid (sym change) valid
valid_plain picks old new (Descendants id level) types valid row change = subst IsValid (sym change) valid
valid_plain picks old new (Chunk id) types valid row change = subst IsValid (sym change) valid
valid_plain picks old new (Before a b) types valid row change = subst IsValid (sym change) valid
valid_plain picks old new (Block size) types valid row change = subst IsValid (sym change) valid
valid_plain picks old new (Count level) types valid row change = subst IsValid (sym change) valid
valid_plain picks old new Dump types valid row change = subst IsValid (sym change) valid

-- ---- the picks

-- a pick, or its lack, stays one where the names keep their fees and sizes
pick_along : (bounds : Bounds) (was is : Table) (graph : Graph) (pick : Option (List Part)) → IsGraph graph
    → ((id : ℕ) → Contains graph.names id → finmap.get was id ≡ finmap.get is id) → IsPickOf bounds was graph pick → IsPickOf bounds is graph pick
pick_along bounds was is graph None whole same over =
    over_along bounds bounds (size_of is) (size_of was) graph graph refl (λ id here. here) (λ a b trail. trail) (λ id here. ap size_in (same id here)) over
pick_along bounds was is graph (Some parts) whole same (none, picked, minimal) = (
  λ over. none (over_along bounds bounds (size_of was) (size_of is) graph graph refl (λ id here. here) (λ a b trail. trail)
      (λ id here. ap size_in (sym (same id here))) over),
  (picks_are_kept.alike (rate_of was) (rate_of is) graph graph (record {
    names = λ id. (λ here. here, λ here. here);
    sums = λ id here. ap sum_in (same id here);
    ancestors = λ x y. (λ walk. walk, λ walk. walk);
  }) whole whole parts).0 picked,
  λ part here. uncut_with (rate_of was) (rate_of is) graph.pairs graph.pairs part.ids (λ a d pair. pair)
      (λ id in_part. ap sum_in (same id ((picked.certificate.order.topological.names id).0 (flat_has (λ (p : Part). p.ids) parts part id here in_part))))
      (minimal part here),
)

picks_staged : (old new : State) → IsValidState old → new.plain ≡ staged old.plain
    → new.picks ≡ record { main = old.picks.main; staging = Some old.picks.main } → ArePicks new.plain new.picks
picks_staged old new valid plain picks =
    let all : ArePicks (staged old.plain) (record { main = old.picks.main; staging = Some old.picks.main }) =
    record { main = valid.picks.main; staging = valid.picks.main } in
    subst (λ (s : State). ArePicks s.plain s.picks) (λ i. record { plain = sym plain i; picks = sym picks i }) all

module _ (old new : State) (valid : IsValidState old) (commits : Commits old.plain new.plain) (pick : CommitsPick old.picks new.picks) where
  -- with a pick of staging, or its lack, there is a staging
  staging_pick : (staging : Option Graph) → IsStagingPick old.plain.limits old.plain.table staging (Some new.picks.main)
      → old.plain.staging ≡ staging → IsPickOf old.plain.limits old.plain.table (level_of old.plain Top) new.picks.main
  staging_pick None none is = absurd none
  staging_pick (Some graph) has is =
      subst (λ (g : Graph). IsPickOf old.plain.limits old.plain.table g new.picks.main) (sym (top_is old.plain graph is)) has

  had : IsPickOf old.plain.limits old.plain.table (level_of old.plain Top) new.picks.main
  had = staging_pick old.plain.staging (subst (IsStagingPick old.plain.limits old.plain.table old.plain.staging) pick.0 valid.picks.staging) refl

  abbrev left : PlainState
  left = record (begun old.plain) { main = level_of old.plain Top; staging = None; table = new.plain.table }

  picks_committed : ArePicks new.plain new.picks
  picks_committed =
      let all : ArePicks left new.picks = record {
        main = pick_along old.plain.limits old.plain.table new.plain.table (level_of old.plain Top) new.picks.main (top_level old.plain valid.plain).whole
            (λ id here. sym (commits.kept id (inl here))) had;
        staging = subst (IsStagingPick old.plain.limits new.plain.table None) (sym pick.1) tt;
      } in
      subst (λ (p : PlainState). ArePicks p new.picks) (sym commits.same) all

valid_picks : (old new : State) (command : Command) → IsValidState old
    → Changes old.picks old.plain command new.plain → PicksFollow old command new → ArePicks new.plain new.picks
valid_picks old new Stage valid change follow = picks_staged old new valid change follow
valid_picks old new Commit valid change follow = picks_committed old new valid change follow
valid_picks old new Settle valid change follow = elim follow [
  | inl better ↦ elim change [ inl commits ↦ picks_committed old new valid commits.1 better.1 | inr aborts ↦ absurd (aborts.0 better.0) ]
  | inr worse ↦ worse.1.picks
]
valid_picks old new (SetLimits limits) valid change follow = follow.picks
valid_picks old new Trim valid change follow = follow.picks
valid_picks old new Unmine valid change follow = follow.picks
valid_picks old new (Add id fee size) valid change follow = follow.picks
valid_picks old new (Dep parent child) valid change follow = follow.picks
valid_picks old new (SetFee id fee) valid change follow = follow.picks
valid_picks old new (Remove id) valid change follow = follow.picks
valid_picks old new (Mine ids) valid change follow = follow.picks
valid_picks old new Evict valid change follow = follow.picks
valid_picks old new Abort valid change follow = follow.picks
valid_picks old new Compare valid change follow = follow.picks
valid_picks old new (Order level) valid change follow = follow.picks
valid_picks old new (Diagram level) valid change follow = follow.picks
valid_picks old new (Proof level) valid change follow = follow.picks
valid_picks old new (Cluster id level) valid change follow = follow.picks
valid_picks old new (Ancestors id level) valid change follow = follow.picks
valid_picks old new (Descendants id level) valid change follow = follow.picks
valid_picks old new (Chunk id) valid change follow = follow.picks
valid_picks old new (Before a b) valid change follow = follow.picks
valid_picks old new (Block size) valid change follow = follow.picks
valid_picks old new (Count level) valid change follow = follow.picks
valid_picks old new Dump valid change follow = follow.picks

step_valid : (old new : State) (command : Command) (reply : Reply) → HasTypes command → IsValidState old → Step old command reply new → IsValidState new
step_valid old new command reply types valid step = elim step [
  | inl refused ↦ subst IsValidState (sym refused.same) valid
  | inr rest ↦ elim rest [
    | inl want ↦ elim want [ inl lacks ↦ subst IsValidState (sym lacks.same) valid | inr gives ↦ subst IsValidState (sym gives.same) valid ]
    | inr fine ↦ record {
      plain = valid_plain old.picks old.plain new.plain command (adds_small command types) valid.plain fine.none fine.accepts.plain.change;
      picks = valid_picks old new command valid fine.accepts.plain.change fine.accepts.picks;
    }
  ]
]

-- ---- the start

-- a state without names under limits that are in range
module _ (most : ℕ) (limits : Bounds) (in_range : AreInRange most limits) where
  abbrev first : PlainState
  first = record (plain_start most) { limits = limits }

  no_more : (ids : List ℕ) → AreOfOneComponent empty_graph ids → AreWithin limits (size_of finmap.empty) ids
  no_more [] of = (omega arith, omega arith)
  no_more (x ∷ xs) of = absurd (none_in_empty x (of.inside x (Contains-head x xs)))

  nothing_over : HasOver limits (size_of finmap.empty) empty_graph → ⊥
  nothing_over = none_over limits (size_of finmap.empty) empty_graph no_more

  pub valid_at_start : IsValid first
  valid_at_start = record {
    limits = in_range;
    main = record {
      whole = record {
        names = tt;
        pairs = tt;
        ends = λ parent child here. absurd (none_in_empty (parent, child) here);
        acyclic = λ a n walk. none_in_empty (walk.0, a) walk.2;
      };
      names = λ id here. absurd (none_in_empty id here);
      within = λ strict. nothing_over;
    };
    staging = tt;
    live = λ id. (
      λ live. absurd (true≢false (sym live ∙ ap is_some (finmap.get-empty nat_cmp id))),
      λ kept. absurd (elim kept [ inl here ↦ none_in_empty id here | inr here ↦ none_in_empty id here ]),
    );
    few = let none : finmap.len {X = Entry} {R = nat_cmp} finmap.empty ≡ 0 = finmap.len-empty nat_cmp Entry in omega arith;
    rates = λ id entry is. absurd (some_none entry (sym is ∙ finmap.get-empty nat_cmp id));
    blocks = λ block here. absurd (none_in_empty block here);
    block_count = omega arith;
    fresh = λ not_yet. (refl, refl, refl);
  }

  picks_at_start : ArePicks first (record { main = Some []; staging = None })
  picks_at_start = record {
    main = (
      nothing_over,
      record {
        certificate = record {
          filled = λ part here. absurd (none_in_empty part here);
          order = record {
            topological = record {
              once = tt;
              names = λ id. (λ here. here, λ here. here);
              parents_first = λ parent child here. absurd (none_in_empty (parent, child) here);
            };
            together = λ part here. absurd (none_in_empty part here);
          };
          falling = record { summed = λ part here. absurd (none_in_empty part here); falling = tt };
          flows = λ part here. absurd (none_in_empty part here);
        };
        flows_in_order = λ part here. absurd (none_in_empty part here);
      },
      λ part here. absurd (none_in_empty part here),
    );
    staging = tt;
  }

start_valid : (most : ℕ) → default_limits.count ≤ most → IsValidState (start most)
start_valid most low =
    let in_range : AreInRange most default_limits = record {
      count_low = omega arith;
      count_high = low;
      size_low = omega arith;
      size_high = omega arith;
      total_low = omega arith;
      total_high = omega arith;
    } in
    record { plain = valid_at_start most default_limits in_range; picks = picks_at_start most default_limits in_range }

pub steps_keep_valid : StepsKeepValid
steps_keep_valid = record { begins = start_valid; goes_on = step_valid; most = step_most }
