-- Refusals: of readings where the level is oversized, and how they are told.
use Rattle.std.proofs.Common.{◌≡◌, ℕ, List, false, refl, sym, inl, subst, ◌∙◌, Bool, Some, Err, ◌↔◌, true≢false}
use Rattle.std.specs.Prelude.{IsTrue}
use Rattle.std.specs.declared.result.Result.{Result}
use Rattle.graphs.specs.declared.names.Level.{Level}
use Rattle.graph_model.specs.declared.names.Refusal.{Refusal}
use Rattle.graph_model.specs.declared.names.Refusal.TheVariants.{Oversized}
use Rattle.graph_model.specs.Commands.{Command}
use Rattle.graph_model.specs.Oversize.{IsOversized}
use Rattle.graph_model.specs.Refusals.{RefusalIs}
use Rattle.graph_model.specs.Replies.{Refused}
use Rattle.graph_model.specs.Runs as runs
use Rattle.graph_model.specs.States.{PlainState, State}
use Rattle.tx_graph.specs.Kept.{Kept, StandsFor, MakesStep}
use Rattle.reorg.specs.Kept as pools
use Rattle.replay.specs.declared.answer.Answer.{Answer}
use Rattle.replay.specs.Answers.{IsReadOfGraph, Tells, answer_of}

-- a command whose row starts with an oversized level is refused where the level is oversized
pub refused_over : (kept : Kept) (command : Command) (level : Level)
    → ((state : PlainState) → IsOversized state level → RefusalIs state command (Some Oversized))
    → ((state : State) → StandsFor kept state → IsOversized state.plain level) → MakesStep kept kept command (Refused Oversized)
refused_over kept command level row over state stands =
    (state, stands, inl (record { why = Oversized; first = row state.plain (over state stands); told = refl; same = refl }))

-- and so answered
pub reads_over : (kept : Kept) (command : Command) (level : Level)
    → ((state : PlainState) → IsOversized state level → RefusalIs state command (Some Oversized))
    → ((state : State) → StandsFor kept state → IsOversized state.plain level) → IsReadOfGraph kept command (runs.Replies (Refused Oversized))
reads_over kept command level row over = (Refused Oversized, refused_over kept command level row over, refl)

-- what a call says that answers whether something holds, where it answers no
pub not_so : (answer : Bool) (A : Type 0) → (IsTrue answer ↔ A) → answer ≡ false → A → ⊥
not_so answer A iff is holds = true≢false (sym (iff.1 holds) ∙ is)

-- a refusal is told as it was answered
pub refused_told : (kept : pools.Kept) (result : Result Answer Refusal) (found : List ℕ) (answer : runs.Answer) (why same : Refusal) → result ≡ Err same
    → same ≡ why → Tells kept (answer_of result) found answer → answer ≡ runs.Replies (Refused why)
refused_told kept result found answer why same is one told =
    subst (λ (w : Refusal). answer ≡ runs.Replies (Refused w)) one (subst (λ (r : Result Answer Refusal). Tells kept (answer_of r) found answer) is told)
