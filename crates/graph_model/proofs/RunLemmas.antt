-- Runs, and what leaves the state.
use Rattle.std.proofs.Common.{◌≡◌, List, [], ◌∷◌, ◌++◌, Option, Some, subst, sym, inl, inr}
use Rattle.graph_model.specs.declared.names.Refusal.{Refusal}
use Rattle.graph_model.specs.declared.names.Refusal.TheVariants.{Memory}
use Rattle.graph_model.specs.States.{PlainState, Picks, State}
use Rattle.graph_model.specs.Commands.{Command, SetLimits, Add, Dep, SetFee, Remove, Mine, Evict, Stage, Commit, Abort, Settle, Trim, Unmine, Dump, Compare, Order, Diagram, Proof, Cluster, Ancestors, Descendants, Chunk, Before, Block, Count}
use Rattle.graph_model.specs.Replies.{Reply, Refused}
use Rattle.graph_model.specs.Answers.{Answers}
use Rattle.graph_model.specs.Steps.{StepBy, Step, MayLackMemory, MayGiveWay}
use Rattle.graph_model.specs.Runs.{RunBy}
use Rattle.graph_model.proofs.RowLemmas.{no_memory_in_row}

pub run-append : {S I O : Type 0} (step : S → I → O → S → Type 0) (old mid new : S) (is more : List I) (os others : List O)
    → RunBy step old is os mid → RunBy step mid more others new
    → RunBy step old (is ++ more) (os ++ others) new
run-append step old mid new [] more [] others same run = subst (λ state. RunBy step state more others new) same run
run-append step old mid new [] more (o ∷ os) others run _ = absurd run
run-append step old mid new (i ∷ is) more [] others run _ = absurd run
run-append step old mid new (i ∷ is) more (o ∷ os) others run next = (run.0, run.1, run-append step run.0 mid new is more os others run.2 next)

no_accepted_refusal : (picks : Picks) (old : PlainState) (command : Command) (why : Refusal) → Answers picks old command (Refused why) → ⊥
no_accepted_refusal picks old (SetLimits limits) why h = cc
no_accepted_refusal picks old (Add id fee size) why h = cc
no_accepted_refusal picks old (Dep parent child) why h = cc
no_accepted_refusal picks old (SetFee id fee) why h = cc
no_accepted_refusal picks old (Remove id) why h = cc
no_accepted_refusal picks old (Mine ids) why h = cc
no_accepted_refusal picks old Evict why h = let e = h.4 in cc
no_accepted_refusal picks old Trim why h = let e = h.2 in cc
no_accepted_refusal picks old Unmine why h = cc
no_accepted_refusal picks old Stage why h = cc
no_accepted_refusal picks old Commit why h = cc
no_accepted_refusal picks old Abort why h = cc
no_accepted_refusal picks old Settle why h = let e = h.2 in cc
no_accepted_refusal picks old Compare why h = let e = h.2 in cc
no_accepted_refusal picks old (Order level) why h = let e = h.2 in cc
no_accepted_refusal picks old (Diagram level) why h = let e = h.2 in cc
no_accepted_refusal picks old (Proof level) why h = let e = h.4 in cc
no_accepted_refusal picks old (Cluster id level) why h = let e = h.2 in cc
no_accepted_refusal picks old (Ancestors id level) why h = let e = h.2 in cc
no_accepted_refusal picks old (Descendants id level) why h = let e = h.2 in cc
no_accepted_refusal picks old (Chunk id) why h = let e = h.5 in cc
no_accepted_refusal picks old (Before a b) why h = let e = h.4 in cc
no_accepted_refusal picks old (Block size) why h = let e = h.4 in cc
no_accepted_refusal picks old (Count level) why h = cc
no_accepted_refusal picks old Dump why h = let e = h.2 in cc

-- a refused step of a machine whose accepted commands aren't answered by refusals leaves the state
keeps : {S : Type 0} (refuses : S → Command → Option Refusal → Type 0)
    (accepts : S → Command → Reply → S → Type 0) (old new : S) (command : Command) (why : Refusal)
    → (accepts old command (Refused why) new → ⊥) → StepBy refuses accepts old command (Refused why) new → new ≡ old
keeps refuses accepts old new command why none step = elim step [
  | inl refused ↦ refused.same
  | inr rest ↦ elim rest [
    | inl want ↦ elim want [ inl lacks ↦ lacks.same | inr gives ↦ gives.same ]
    | inr accepted ↦ absurd (none accepted.accepts)
  ]
]

pub refused_keeps_state : (old new : State) (command : Command) (why : Refusal) → Step old command (Refused why) new → new ≡ old
refused_keeps_state old new command why = keeps _ _ old new command why (λ accepts. no_accepted_refusal old.picks old.plain command why accepts.plain.answer)

reason : (why : Refusal) → Refused why ≡ Refused Memory → why ≡ Memory
reason why is = cc

-- a command that may give way to want of memory may lack memory
may : (command : Command) (why : Refusal) → MayGiveWay command why → MayLackMemory command
may Unmine why gives = tt
may (SetLimits limits) why none = absurd none
may (Add id fee size) why none = absurd none
may (Dep parent child) why none = absurd none
may (SetFee id fee) why none = absurd none
may (Remove id) why none = absurd none
may (Mine ids) why none = absurd none
may Evict why none = absurd none
may Stage why none = absurd none
may Commit why none = absurd none
may Abort why none = absurd none
may Settle why none = absurd none
may Trim why none = absurd none
may Dump why none = absurd none
may Compare why none = absurd none
may (Order level) why none = absurd none
may (Diagram level) why none = absurd none
may (Proof level) why none = absurd none
may (Cluster id level) why none = absurd none
may (Ancestors id level) why none = absurd none
may (Descendants id level) why none = absurd none
may (Chunk id) why none = absurd none
may (Before a b) why none = absurd none
may (Block size) why none = absurd none
may (Count level) why none = absurd none

lacks_none : {S : Type 0} (refuses : S → Command → Option Refusal → Type 0) (accepts : S → Command → Reply → S → Type 0) (old new : S) (command : Command)
    → (refuses old command (Some Memory) → ⊥) → (accepts old command (Refused Memory) new → ⊥)
    → (MayLackMemory command → ⊥) → StepBy refuses accepts old command (Refused Memory) new → ⊥
lacks_none refuses accepts old new command row none reads step = elim step [
  | inl refused ↦ row (subst (λ (why : Refusal). refuses old command (Some why)) (reason refused.why (sym refused.told)) refused.first)
  | inr rest ↦ elim rest [
    | inl want ↦ elim want [ inl lacks ↦ reads lacks.may | inr gives ↦ reads (may command gives.why gives.may) ]
    | inr accepted ↦ none accepted.accepts
  ]
]

pub readings_lack_none : (old new : State) (command : Command) → (MayLackMemory command → ⊥) → Step old command (Refused Memory) new → ⊥
readings_lack_none old new command =
    lacks_none _ _ old new command (no_memory_in_row old.plain command) (λ accepts. no_accepted_refusal old.picks old.plain command Memory accepts.plain.answer)
