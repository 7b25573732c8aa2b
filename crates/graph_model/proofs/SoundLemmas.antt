-- What holds all along a run: states are valid, and what is told of an order is told of an optimal one.
use Rattle.std.proofs.Common.{◌≡◌, ℕ, ◌≤◌, Bool, true, List, [], ◌∷◌, map, ap, ◌∙◌, Option, None, Some, is_some, sym, refl, subst, inl, inr, true≢false}
use Rattle.std.specs.Prelude.{Contains, filter}
use Rattle.std.specs.FinMap as finmap
use Rattle.std.proofs.lemmas.List.Elements.{Contains-append_right}
use Rattle.lists.proofs.Entries.{Contains-head, Contains-map, map-Contains, filter-Contains}
use Rattle.fee_rate.specs.declared.rates.Sum.{Sum}
use Rattle.fee_rate.specs.Limits.{IsFee, IsSize}
use Rattle.graphs.specs.declared.names.Level.{Level}
use Rattle.graphs.specs.declared.names.Level.TheVariants.{Main, Top}
use Rattle.graphs.specs.Certificates.{Part}
use Rattle.graphs.specs.Rates.{sum_of, sums, HasSizes}
use Rattle.graphs.specs.Picks.{IsPick}
use Rattle.graphs.proofs.BestLemmas.{joined_ids, rates_are_sums, sum_of-joined}
use Rattle.graphs.proofs.PickLemmas.{picks_are_kept}
use Rattle.graph_model.specs.declared.names.Refusal.{Refusal}
use Rattle.graph_model.specs.States.{PlainState, State, Entry, start, level_of, pick_of, sum_in, rate_of}
use Rattle.graph_model.specs.Commands.{Command, SetLimits, Add, Dep, SetFee, Remove, Mine, Evict, Stage, Commit, Abort, Settle, Trim, Unmine, Dump, Compare, Order, Diagram, Proof, Cluster, Ancestors, Descendants, Chunk, Before, Block, Count}
use Rattle.graph_model.specs.Changes.{IsKept}
use Rattle.graph_model.specs.Replies.{Reply, Refused}
use Rattle.graph_model.specs.Answers.{Answers, order_of}
use Rattle.graph_model.specs.Blocks.{IsBlock, taken_of}
use Rattle.graph_model.specs.Steps.{Step}
use Rattle.graph_model.specs.Validity.{IsValid, IsValidState}
use Rattle.graph_model.specs.Runs.{Answer, Silence, TooLong, Unread, Replies, LineStep, Run}
use Rattle.graph_model.specs.RunLaws.{AreBest, TellsBest, RunsAreSound}
use Rattle.graph_model.proofs.ProofLemmas.{level_pick}
use Rattle.graph_model.proofs.StepLemmas.{steps_keep_valid}
use Rattle.graph_model.proofs.LimitLemmas.{line_most}

-- ---- runs

pub line_valid : (old new : State) (line : List ℕ) (answer : Answer) → IsValidState old → LineStep old line answer new → IsValidState new
line_valid old new line Silence valid step = subst IsValidState (sym step.2) valid
line_valid old new line TooLong valid step = subst IsValidState (sym step.1) valid
line_valid old new line Unread valid step = subst IsValidState (sym step.2) valid
line_valid old new line (Replies reply) valid step = steps_keep_valid.goes_on old new step.1 reply step.2.1.1 valid step.3

run_valid : (old new : State) (lines : List (List ℕ)) (answers : List Answer) → IsValidState old → Run old lines answers new → IsValidState new
run_valid old new [] [] valid same = subst IsValidState (sym same) valid
run_valid old new [] (answer ∷ answers) valid none = absurd none
run_valid old new (line ∷ lines) [] valid none = absurd none
run_valid old new (line ∷ lines) (answer ∷ answers) valid run =
    run_valid run.0 new lines answers (line_valid old run.0 line answer valid run.1) run.2

run_most : (old new : State) (lines : List (List ℕ)) (answers : List Answer) → Run old lines answers new → new.plain.most ≡ old.plain.most
run_most old new [] [] same = ap (λ (s : State). s.plain.most) same
run_most old new [] (answer ∷ answers) none = absurd none
run_most old new (line ∷ lines) [] none = absurd none
run_most old new (line ∷ lines) (answer ∷ answers) run =
    run_most run.0 new lines answers run.2 ∙ line_most old run.0 line answer run.1

-- ---- orders

sized : (state : PlainState) (level : Level) → IsValid state → HasSizes (rate_of state.table) (level_of state level).names
sized state level valid id here = of_entry (finmap.get state.table id) ((valid.live id).1 (kept level id here)) (λ e is. valid.rates id e is)
  where
    kept : (level : Level) (id : ℕ) → Contains (level_of state level).names id → IsKept state id
    kept Main id here = inl here
    kept Top id here = inr here

    of_entry : (o : Option Entry) → is_some o ≡ true → ((e : Entry) → o ≡ Some e → IsFee e.fee × IsSize e.size) → 1 ≤ (sum_in o).size
    of_entry None none rates = absurd (true≢false (sym none))
    of_entry (Some e) some rates = (rates e refl).1.0

pub best : (state : State) (level : Level) (pick : List Part) → IsValidState state → pick_of state.picks level ≡ Some pick → AreBest state.plain level pick
best state level pick valid is =
    let picked : IsPick (rate_of state.plain.table) (level_of state.plain level) pick = (level_pick state level pick valid is).1 in
    record {
      optimal = picks_are_kept.optimal (rate_of state.plain.table) (level_of state.plain level) pick (sized state.plain level valid.plain) picked;
      summed = picked.certificate.falling.summed;
      minimal = (level_pick state level pick valid is).2;
    }

-- the rates of parts with the right sums have the sum of all their names
rates_summed : (rate : ℕ → Sum) (parts : List Part) → ((part : Part) → Contains parts part → part.rate ≡ sums rate part.ids)
    → sum_of (map (λ (p : Part). p.rate) parts) ≡ sums rate (order_of parts)
rates_summed rate parts summed =
    ap sum_of (rates_are_sums rate parts summed) ∙ sum_of-joined rate (map (λ (p : Part). p.ids) parts) ∙ ap (sums rate) (sym (joined_ids parts))

-- a part that a block takes is one of the order
taken_in : (marked : List (Part × Bool)) (part : Part) → Contains (taken_of marked) part → Contains (map (λ (e : Part × Bool). e.0) marked) part
taken_in marked part here =
    let from = map-Contains (λ (e : Part × Bool). e.0) (filter (λ (e : Part × Bool). e.1) marked) part here in
    let kept = filter-Contains (λ (e : Part × Bool). e.1) marked from.0 from.1 in
    subst (Contains (map (λ (e : Part × Bool). e.0) marked)) from.2 (Contains-map (λ (e : Part × Bool). e.0) marked from.0 kept.1)

block_summed : (state : PlainState) (parts taken : List Part) (size : ℕ) → AreBest state Main parts → IsBlock state.main parts size taken
    → sum_of (map (λ (p : Part). p.rate) taken) ≡ sums (rate_of state.table) (order_of taken)
block_summed state parts taken size are block = rates_summed (rate_of state.table) taken (λ part here.
    are.summed part (subst (λ ps. Contains ps part) block.all (taken_in block.marked part (subst (λ ps. Contains ps part) block.result here))))

refused_tells : (state : PlainState) (command : Command) (why : Refusal) → TellsBest state command (Refused why)
refused_tells state (SetLimits limits) why = tt
refused_tells state (Add id fee size) why = tt
refused_tells state (Dep parent child) why = tt
refused_tells state (SetFee id fee) why = tt
refused_tells state (Remove id) why = tt
refused_tells state (Mine ids) why = tt
refused_tells state Evict why = tt
refused_tells state Stage why = tt
refused_tells state Commit why = tt
refused_tells state Abort why = tt
refused_tells state Settle why = tt
refused_tells state Trim why = tt
refused_tells state Unmine why = tt
refused_tells state Dump why = tt
refused_tells state Compare why = tt
refused_tells state (Order level) why = tt
refused_tells state (Diagram level) why = tt
refused_tells state (Proof level) why = tt
refused_tells state (Cluster id level) why = tt
refused_tells state (Ancestors id level) why = tt
refused_tells state (Descendants id level) why = tt
refused_tells state (Chunk id) why = tt
refused_tells state (Before a b) why = tt
refused_tells state (Block size) why = tt
refused_tells state (Count level) why = tt

answer_tells : (state : State) (command : Command) (reply : Reply) → IsValidState state → Answers state.picks state.plain command reply
    → TellsBest state.plain command reply
answer_tells state (SetLimits limits) reply valid h = subst (TellsBest state.plain (SetLimits limits)) (sym h) tt
answer_tells state (Add id fee size) reply valid h = subst (TellsBest state.plain (Add id fee size)) (sym h) tt
answer_tells state (Dep parent child) reply valid h = subst (TellsBest state.plain (Dep parent child)) (sym h) tt
answer_tells state (SetFee id fee) reply valid h = subst (TellsBest state.plain (SetFee id fee)) (sym h) tt
answer_tells state (Remove id) reply valid h = subst (TellsBest state.plain (Remove id)) (sym h) tt
answer_tells state (Mine ids) reply valid h = subst (TellsBest state.plain (Mine ids)) (sym h) tt
answer_tells state Evict reply valid h =
    let are = best state Main h.0 valid h.2 in
    let here : Contains h.0 h.1 =
    subst (λ (ps : List Part). Contains ps h.1) (sym h.3.1) (Contains-append_right h.3.0 (h.1 ∷ []) h.1 (Contains-head h.1 [])) in
    subst (TellsBest state.plain Evict) (sym h.4) (h.0, h.1, are, h.3, refl, are.summed h.1 here)
answer_tells state Stage reply valid h = subst (TellsBest state.plain Stage) (sym h) tt
answer_tells state Commit reply valid h = subst (TellsBest state.plain Commit) (sym h) tt
answer_tells state Abort reply valid h = subst (TellsBest state.plain Abort) (sym h) tt
answer_tells state Settle reply valid h = subst (TellsBest state.plain Settle) (sym h.2) tt
answer_tells state Trim reply valid h = subst (TellsBest state.plain Trim) (sym h.2) tt
answer_tells state Unmine reply valid h = subst (TellsBest state.plain Unmine) (sym h) tt
answer_tells state Dump reply valid h = subst (TellsBest state.plain Dump) (sym h.2) tt
answer_tells state Compare reply valid h = subst (TellsBest state.plain Compare) (sym h.2) tt
answer_tells state (Order level) reply valid h = subst (TellsBest state.plain (Order level)) (sym h.2) (best state level h.0 valid h.1)
answer_tells state (Diagram level) reply valid h = subst (TellsBest state.plain (Diagram level)) (sym h.2) tt
answer_tells state (Proof level) reply valid h =
    subst (TellsBest state.plain (Proof level)) (sym h.4) (subst (AreBest state.plain level) (sym h.3.parts) (best state level h.0 valid h.2))
answer_tells state (Cluster id level) reply valid h = subst (TellsBest state.plain (Cluster id level)) (sym h.2) tt
answer_tells state (Ancestors id level) reply valid h = subst (TellsBest state.plain (Ancestors id level)) (sym h.2) tt
answer_tells state (Descendants id level) reply valid h = subst (TellsBest state.plain (Descendants id level)) (sym h.2) tt
answer_tells state (Chunk id) reply valid h = subst (TellsBest state.plain (Chunk id)) (sym h.5) (h.0, best state Main h.0 valid h.2, h.3, h.4)
answer_tells state (Before a b) reply valid h = subst (TellsBest state.plain (Before a b)) (sym h.4) (h.0, best state Main h.0 valid h.2, h.3)
answer_tells state (Block size) reply valid h =
    let are : AreBest state.plain Main h.0 = best state Main h.0 valid h.2 in
    subst (TellsBest state.plain (Block size)) (sym h.4) (h.0, h.1, are, h.3, refl, block_summed state.plain h.0 h.1 size are h.3)
answer_tells state (Count level) reply valid h = subst (TellsBest state.plain (Count level)) (sym h) tt

step_tells : (old new : State) (command : Command) (reply : Reply) → IsValidState old → Step old command reply new → TellsBest old.plain command reply
step_tells old new command reply valid step = elim step [
  | inl refused ↦ subst (TellsBest old.plain command) (sym refused.told) (refused_tells old.plain command refused.why)
  | inr rest ↦ elim rest [
    | inl want ↦ elim want [
      | inl lacks ↦ subst (TellsBest old.plain command) (sym lacks.told) (refused_tells old.plain command _)
      | inr gives ↦ subst (TellsBest old.plain command) (sym gives.told) (refused_tells old.plain command _)
    ]
    | inr fine ↦ answer_tells old command reply valid fine.accepts.plain.answer
  ]
]

pub runs_are_sound : RunsAreSound
runs_are_sound = record {
  valid = λ most lines answers end low run. run_valid (start most) end lines answers (steps_keep_valid.begins most low) run;
  most = λ most lines answers end run. run_most (start most) end lines answers run;
  best = step_tells;
}
