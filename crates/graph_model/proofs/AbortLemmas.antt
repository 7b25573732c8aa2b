-- While a staging is open, main stays as it is: no command but `commit`, `settle` and `fee` changes it.
use Rattle.std.proofs.Common.{◌≡◌, ℕ, ℤ, true, List, [], ◌∷◌, Option, None, Some, is_some, sym, refl, ap, subst, ◌∙◌, inl, inr, ◌⊎◌}
use Rattle.std.specs.Prelude.{Contains}
use Rattle.std.specs.FinMap as finmap
use Rattle.lists.proofs.Cases.{some_none}
use Rattle.graphs.specs.Graphs.{Graph}
use Rattle.graph_model.specs.declared.names.Refusal.{Refusal}
use Rattle.graph_model.specs.States.{PlainState, State, with_top, rate_of, sum_in, IsLive, IsStaged}
use Rattle.graph_model.specs.Commands.{Command, SetLimits, Add, Dep, SetFee, Remove, Mine, Evict, Stage, Commit, Abort, Settle, Trim, Unmine, Dump, Compare, Order, Diagram, Proof, Cluster, Ancestors, Descendants, Chunk, Before, Block, Count}
use Rattle.graph_model.specs.Replies.{Reply, Done}
use Rattle.graph_model.specs.Refusals.{RefusalIs}
use Rattle.graph_model.specs.Changes.{added, begun, staged, Forgets, DropsFromTop}
use Rattle.graph_model.specs.Steps.{Step, Accepts, KeepsPicks, HaveSameRates}
use Rattle.graph_model.specs.Validity.{IsValidState}
use Rattle.graph_model.specs.Runs.{CommandsRun}
use Rattle.graph_model.specs.StagingLaws.{LeavesMain, AllLeaveMain, HasSameMain, AbortLeavesMain}
use Rattle.graph_model.proofs.ValidLemmas.{get-put_other}

-- what stays as it was while a staging is open
record IsAside (first now : State) : Type 0 where
  same : HasSameMain first now
  graph : Graph
  open_is : now.plain.staging ≡ Some graph
  begins : now.plain.begun ≡ true
  live : (id : ℕ) → Contains first.plain.main.names id → IsLive now.plain id

-- with a staging, the top level is the staging
staged_top : (p : PlainState) (graph top : Graph) → p.staging ≡ Some graph → with_top p top ≡ record p { staging = Some top }
staged_top p graph top is =
    ap (λ (o : Option Graph). elim o as (λ _. PlainState) [ None ↦ record p { main = top } | Some _ ↦ record p { staging = Some top } ]) is

is_staged : (p : PlainState) (graph : Graph) → p.staging ≡ Some graph → IsStaged p
is_staged p graph is = ap is_some is

-- A step that leaves main's graph, the fees and sizes of its names, and what is live among them.
module _ (first old new : State) (aside : IsAside first old) (graph : Graph) where
  goes_on : new.plain.main ≡ old.plain.main → ((id : ℕ) → Contains first.plain.main.names id → finmap.get new.plain.table id ≡ finmap.get old.plain.table id)
      → new.plain.staging ≡ Some graph → new.plain.begun ≡ true → KeepsPicks old new → IsAside first new
  goes_on main table open_is begins picks =
      let rates : HaveSameRates old.plain.table new.plain.table first.plain.main = λ id here. ap sum_in (table id here) in
      record {
        same = record {
          graph = main ∙ aside.same.graph;
          rates = λ id here. rates id here ∙ aside.same.rates id here;
          pick = picks.main main (subst (HaveSameRates old.plain.table new.plain.table) (sym (main ∙ aside.same.graph)) rates) ∙ aside.same.pick;
        };
        graph = graph;
        open_is = open_is;
        begins = begins;
        live = λ id here. ap is_some (table id here) ∙ aside.live id here;
      }

module _ (first old new : State) (aside : IsAside first old) where
  -- the plain state after a change of top alone
  set_top : (base : PlainState) (top : Graph) → base.staging ≡ old.plain.staging → base.main ≡ old.plain.main → base.begun ≡ true
      → ((id : ℕ) → Contains first.plain.main.names id → finmap.get base.table id ≡ finmap.get old.plain.table id)
      → new.plain ≡ with_top base top → KeepsPicks old new → IsAside first new
  set_top base top staging main begins table is picks =
      let now : new.plain ≡ record base { staging = Some top } = is ∙ staged_top base aside.graph top (staging ∙ aside.open_is) in
      goes_on first old new aside top (ap (λ (p : PlainState). p.main) now ∙ main)
      (λ id here. ap (λ (p : PlainState). finmap.get p.table id) now ∙ table id here)
      (ap (λ (p : PlainState). p.staging) now) (ap (λ (p : PlainState). p.begun) now ∙ begins) picks

  reads : new.plain ≡ old.plain → KeepsPicks old new → IsAside first new
  reads is picks =
      goes_on first old new aside aside.graph (ap (λ (p : PlainState). p.main) is) (λ id here. ap (λ (p : PlainState). finmap.get p.table id) is)
      (ap (λ (p : PlainState). p.staging) is ∙ aside.open_is) (ap (λ (p : PlainState). p.begun) is ∙ aside.begins) picks

  pairs : (parent child : ℕ) → Accepts old (Dep parent child) Done new → IsAside first new
  pairs parent child accepts = elim accepts.plain.change [
    | inl there ↦
        goes_on first old new aside aside.graph (ap (λ (p : PlainState). p.main) there.1) (λ id here. ap (λ (p : PlainState). finmap.get p.table id) there.1)
        (ap (λ (p : PlainState). p.staging) there.1 ∙ aside.open_is) (ap (λ (p : PlainState). p.begun) there.1) accepts.picks
    | inr fresh ↦ set_top (begun old.plain) _ refl refl refl (λ id here. refl) fresh.1 accepts.picks
  ]

  adds : (id : ℕ) (fee : ℤ) (size : ℕ) → (IsLive old.plain id → ⊥) → new.plain ≡ added old.plain id fee size → KeepsPicks old new → IsAside first new
  adds id fee size absent is picks =
      set_top (record (begun old.plain) { table = finmap.insert old.plain.table id (record { fee = fee; size = size }) }) _ refl refl refl
      (λ q here. get-put_other old.plain.table id q (record { fee = fee; size = size }) (λ e. absent (subst (IsLive old.plain) e (aside.live q here)))) is picks

  removes : (top : Graph) → Forgets (with_top (begun old.plain) top) new.plain → KeepsPicks old new → IsAside first new
  removes top forgets picks =
      let mid : with_top (begun old.plain) top ≡ record (begun old.plain) { staging = Some top } = staged_top (begun old.plain) aside.graph top aside.open_is in
      let main : (with_top (begun old.plain) top).main ≡ old.plain.main = ap (λ (p : PlainState). p.main) mid in
      let within : (id : ℕ) → Contains first.plain.main.names id → Contains (with_top (begun old.plain) top).main.names id = λ id here.
      subst (λ (g : Graph). Contains g.names id) (sym (main ∙ aside.same.graph)) here in
      goes_on first old new aside top (ap (λ (p : PlainState). p.main) forgets.same ∙ main)
      (λ id here. forgets.kept id (inl (within id here)) ∙ ap (λ (p : PlainState). finmap.get p.table id) mid)
      (ap (λ (p : PlainState). p.staging) forgets.same ∙ ap (λ (p : PlainState). p.staging) mid)
      (ap (λ (p : PlainState). p.begun) forgets.same ∙ ap (λ (p : PlainState). p.begun) mid) picks

  lessens : (ids : List ℕ) → DropsFromTop old.plain ids new.plain → KeepsPicks old new → IsAside first new
  lessens [] same picks =
      goes_on first old new aside aside.graph (ap (λ (p : PlainState). p.main) same) (λ id here. ap (λ (p : PlainState). finmap.get p.table id) same)
      (ap (λ (p : PlainState). p.staging) same ∙ aside.open_is) (ap (λ (p : PlainState). p.begun) same) picks
  lessens (id ∷ ids) drops picks = removes drops.0 drops.2 picks

-- an addition that isn't refused is of a name that isn't live
not_taken : (p : PlainState) (id : ℕ) (fee : ℤ) (size : ℕ) → RefusalIs p (Add id fee size) None → IsLive p id → ⊥
not_taken p id fee size row live = elim row [
  | inl bad ↦ some_none _ (sym bad.1)
  | inr on ↦ elim on.1 [ inl bad ↦ some_none _ (sym bad.1) | inr more ↦ elim more.1 [ inl bad ↦ some_none _ (sym bad.1) | inr rest ↦ rest.0 live ] ]
]

-- a row whose first cause holds isn't empty
refused_by : {C L : Type 0} (why : Refusal) → C → (C × (None ≡ Some why)) ⊎ ((C → ⊥) × L) → ⊥
refused_by why holds row = elim row [ inl here ↦ some_none _ (sym here.1) | inr on ↦ on.0 holds ]

accepted : (first old new : State) (command : Command) (reply : Reply) → IsAside first old → LeavesMain command reply → RefusalIs old.plain command None
    → Accepts old command reply new → IsAside first new
accepted first old new (SetLimits limits) reply aside leaves row accepts = absurd (refused_by _ aside.begins row)
accepted first old new (Add id fee size) reply aside leaves row accepts =
    adds first old new aside id fee size (not_taken old.plain id fee size row) accepts.plain.change accepts.picks
accepted first old new (Dep parent child) reply aside leaves row accepts =
    pairs first old new aside parent child (subst (λ r. Accepts old (Dep parent child) r new) accepts.plain.answer accepts)
accepted first old new (SetFee id fee) reply aside leaves row accepts = absurd (leaves accepts.plain.answer)
accepted first old new (Remove id) reply aside leaves row accepts = let change = accepts.plain.change in
    removes first old new aside change.0 change.2 accepts.picks
accepted first old new (Mine ids) reply aside leaves row accepts = absurd (refused_by _ (is_staged old.plain aside.graph aside.open_is) row)
accepted first old new Evict reply aside leaves row accepts = absurd (refused_by _ (is_staged old.plain aside.graph aside.open_is) row)
accepted first old new Stage reply aside leaves row accepts = absurd (refused_by _ (is_staged old.plain aside.graph aside.open_is) row)
accepted first old new Commit reply aside leaves row accepts = absurd leaves
accepted first old new Abort reply aside leaves row accepts = absurd (leaves accepts.plain.answer)
accepted first old new Settle reply aside leaves row accepts = absurd leaves
accepted first old new Trim reply aside leaves row accepts = let change = accepts.plain.change in lessens first old new aside change.0 change.2 accepts.picks
accepted first old new Unmine reply aside leaves row accepts = absurd (refused_by _ (is_staged old.plain aside.graph aside.open_is) row)
accepted first old new Dump reply aside leaves row accepts = reads first old new aside accepts.plain.change accepts.picks
accepted first old new Compare reply aside leaves row accepts = reads first old new aside accepts.plain.change accepts.picks
accepted first old new (Order level) reply aside leaves row accepts = reads first old new aside accepts.plain.change accepts.picks
accepted first old new (Diagram level) reply aside leaves row accepts = reads first old new aside accepts.plain.change accepts.picks
accepted first old new (Proof level) reply aside leaves row accepts = reads first old new aside accepts.plain.change accepts.picks
accepted first old new (Cluster id level) reply aside leaves row accepts = reads first old new aside accepts.plain.change accepts.picks
accepted first old new (Ancestors id level) reply aside leaves row accepts = reads first old new aside accepts.plain.change accepts.picks
accepted first old new (Descendants id level) reply aside leaves row accepts = reads first old new aside accepts.plain.change accepts.picks
accepted first old new (Chunk id) reply aside leaves row accepts = reads first old new aside accepts.plain.change accepts.picks
accepted first old new (Before a b) reply aside leaves row accepts = reads first old new aside accepts.plain.change accepts.picks
accepted first old new (Block size) reply aside leaves row accepts = reads first old new aside accepts.plain.change accepts.picks
accepted first old new (Count level) reply aside leaves row accepts = reads first old new aside accepts.plain.change accepts.picks

one_step : (first old new : State) (command : Command) (reply : Reply) → IsAside first old
    → LeavesMain command reply → Step old command reply new → IsAside first new
one_step first old new command reply aside leaves step = elim step [
  | inl refused ↦ subst (IsAside first) (sym refused.same) aside
  | inr rest ↦ elim rest [
    | inl want ↦ elim want [ inl lacks ↦ subst (IsAside first) (sym lacks.same) aside | inr gives ↦ subst (IsAside first) (sym gives.same) aside ]
    | inr fine ↦ accepted first old new command reply aside leaves fine.none fine.accepts
  ]
]

all_steps : (first old new : State) (commands : List Command) (replies : List Reply) → IsAside first old → AllLeaveMain commands replies
    → CommandsRun old commands replies new → IsAside first new
all_steps first old new [] [] aside leaves same = subst (IsAside first) (sym same) aside
all_steps first old new [] (reply ∷ replies) aside leaves run = absurd run
all_steps first old new (command ∷ commands) [] aside leaves run = absurd run
all_steps first old new (command ∷ commands) (reply ∷ replies) aside leaves run =
    all_steps first run.0 new commands replies (one_step first old run.0 command reply aside leaves.0 run.1) leaves.1 run.2

-- a step that is answered `ok` was accepted
was_accepted : (old new : State) (command : Command) → Step old command Done new → RefusalIs old.plain command None × Accepts old command Done new
was_accepted old new command step = elim step [
  | inl refused ↦ let e = refused.told in cc
  | inr rest ↦ elim rest [
    | inl want ↦ elim want [ inl lacks ↦ (let e = lacks.told in cc) | inr gives ↦ (let e = gives.told in cc) ]
    | inr fine ↦ (fine.none, fine.accepts)
  ]
]

opens : (old new : State) → IsValidState old → Step old Stage Done new → IsAside old new
opens old new valid step =
    let fine = was_accepted old new Stage step in
    let now : new.plain ≡ staged old.plain = fine.1.plain.change in
    record {
      same = record {
        graph = ap (λ (p : PlainState). p.main) now;
        rates = λ id here. ap (λ (p : PlainState). rate_of p.table id) now;
        pick = ap (λ picks. picks.main) fine.1.picks;
      };
      graph = old.plain.main;
      open_is = ap (λ (p : PlainState). p.staging) now;
      begins = ap (λ (p : PlainState). p.begun) now;
      live = λ id here. ap (λ (p : PlainState). is_some (finmap.get p.table id)) now ∙ (valid.plain.live id).1 (inl here);
    }

closes : (first old new : State) → IsAside first old → Step old Abort Done new → HasSameMain first new
closes first old new aside step =
    let fine = was_accepted old new Abort step in
    let forgets : Forgets (record (begun old.plain) { staging = None }) new.plain = fine.1.plain.change in
    let main : new.plain.main ≡ old.plain.main = ap (λ (p : PlainState). p.main) forgets.same in
    let within : (id : ℕ) → Contains first.plain.main.names id → Contains old.plain.main.names id =
    λ id. subst (λ (g : Graph). Contains g.names id) (sym aside.same.graph) in
    let rates : HaveSameRates old.plain.table new.plain.table first.plain.main = λ id here. ap sum_in (forgets.kept id (inl (within id here))) in
    record {
      graph = main ∙ aside.same.graph;
      rates = λ id here. rates id here ∙ aside.same.rates id here;
      pick = fine.1.picks.main main (subst (HaveSameRates old.plain.table new.plain.table) (sym (main ∙ aside.same.graph)) rates) ∙ aside.same.pick;
    }

pub abort_leaves_main : AbortLeavesMain
abort_leaves_main before opened last after commands replies valid stage run leaves abort =
    closes before last after (all_steps before opened last commands replies (opens before opened valid stage) leaves run) abort
