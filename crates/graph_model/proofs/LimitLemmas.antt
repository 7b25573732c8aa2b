-- The limits, of which `limits` alone says whether a dependency may pass them, and how many names a cluster may be allowed.
use Rattle.std.proofs.Common.{◌≡◌, ℕ, zero, suc, Bool, true, false, if◌then◌else◌, List, [], ◌∷◌, refl, ap, subst, ◌∙◌, ◌⊎◌, inl, inr}
use Rattle.std.specs.Prelude.{ltb, ◌==◌}
use Rattle.std.specs.FinMap as finmap
use Rattle.graphs.specs.Graphs.{Graph}
use Rattle.graph_model.specs.States.{PlainState, Picks, State, with_top}
use Rattle.graph_model.specs.Commands.{Command, SetLimits, Add, Dep, SetFee, Remove, Mine, Evict, Stage, Commit, Abort, Settle, Trim, Unmine, Dump, Compare, Order, Diagram, Proof, Cluster, Ancestors, Descendants, Chunk, Before, Block, Count}
use Rattle.graph_model.specs.Replies.{Reply}
use Rattle.graph_model.specs.Changes.{begun, limited, Forgets, DropsFromTop, Changes}
use Rattle.graph_model.specs.Steps.{Step}
use Rattle.graph_model.specs.Generators.{commands_from, draw, drawn_add, drawn_change, drawn_command, drawn_dep, drawn_remove}
use Rattle.graph_model.specs.Limits.{Bounds}
use Rattle.graph_model.specs.Lines.{Means, Says}
use Rattle.graph_model.specs.Runs.{Answer, Silence, TooLong, Unread, Replies, CommandsRun, LineStep}
use Rattle.graph_model.proofs.ChangeLemmas.{of_top}

-- the same limits, and as many names that a cluster may be allowed
abbrev KeepsLimits : PlainState → PlainState → Type 0
KeepsLimits old new = (new.limits ≡ old.limits) × (new.most ≡ old.most)

top_keeps : (state : PlainState) (top : Graph) → KeepsLimits state (with_top state top)
top_keeps state top = of_top state top (KeepsLimits state) (λ alone. (refl, refl)) (λ graph open_is. (refl, refl))

kept : (a b : PlainState) → b ≡ a → KeepsLimits a b
kept a b is = (ap (λ (p : PlainState). p.limits) is, ap (λ (p : PlainState). p.most) is)

-- a change of what has a new top level
topped : (state new : PlainState) (top : Graph) → KeepsLimits (with_top state top) new → KeepsLimits state new
topped state new top keeps = let first = top_keeps state top in (keeps.0 ∙ first.0, keeps.1 ∙ first.1)

forgets_keeps : (mid new : PlainState) → Forgets mid new → KeepsLimits mid new
forgets_keeps mid new forgets = kept (record mid { table = new.table }) new forgets.same

lessened_keeps : (old new : PlainState) (ids : List ℕ) → DropsFromTop old ids new → KeepsLimits old new
lessened_keeps old new [] same = kept (begun old) new same
lessened_keeps old new (id ∷ ids) drops = topped (begun old) new drops.0 (forgets_keeps (with_top (begun old) drops.0) new drops.2)

-- an accepted command sets the limits, or keeps them
abbrev SetsOrKeeps : PlainState → Command → PlainState → Type 0
SetsOrKeeps old command new = ((bounds : Bounds) × (command ≡ SetLimits bounds) × (new ≡ limited old bounds)) ⊎ KeepsLimits old new

change_keeps : (picks : Picks) (old new : PlainState) (command : Command) → Changes picks old command new → SetsOrKeeps old command new
change_keeps picks old new (SetLimits limits) change = inl (limits, refl, change)
change_keeps picks old new (Add id fee size) change =
    let base : PlainState = record (begun old) { table = finmap.insert old.table id (record { fee = fee; size = size }) } in
    inr (topped base new _ (kept _ new change))
change_keeps picks old new (Dep parent child) change = elim change [
  | inl there ↦ inr (kept (begun old) new there.1)
  | inr fresh ↦ inr (topped (begun old) new _ (kept _ new fresh.1))
]
change_keeps picks old new (SetFee id fee) change = inr (kept _ new change)
change_keeps picks old new (Remove id) change = inr (topped (begun old) new change.0 (forgets_keeps (with_top (begun old) change.0) new change.2))
change_keeps picks old new (Mine ids) change = inr (forgets_keeps _ new change.2.2)
change_keeps picks old new Evict change = inr (forgets_keeps _ new change.4.2)
change_keeps picks old new Stage change = inr (kept _ new change)
change_keeps picks old new Commit change = inr (forgets_keeps _ new change)
change_keeps picks old new Abort change = inr (forgets_keeps _ new change)
change_keeps picks old new Settle change = elim change [
  | inl better ↦ inr (forgets_keeps _ new better.1)
  | inr other ↦ inr (forgets_keeps _ new other.1)
]
change_keeps picks old new Trim change = inr (lessened_keeps old new change.0 change.2)
change_keeps picks old new Unmine change = inr (kept _ new change.3.same)
change_keeps picks old new Dump change = inr (kept old new change)
change_keeps picks old new Compare change = inr (kept old new change)
change_keeps picks old new (Order level) change = inr (kept old new change)
change_keeps picks old new (Diagram level) change = inr (kept old new change)
change_keeps picks old new (Proof level) change = inr (kept old new change)
change_keeps picks old new (Cluster id level) change = inr (kept old new change)
change_keeps picks old new (Ancestors id level) change = inr (kept old new change)
change_keeps picks old new (Descendants id level) change = inr (kept old new change)
change_keeps picks old new (Chunk id) change = inr (kept old new change)
change_keeps picks old new (Before a b) change = inr (kept old new change)
change_keeps picks old new (Block size) change = inr (kept old new change)
change_keeps picks old new (Count level) change = inr (kept old new change)

-- an accepted command leaves how many names a cluster may be allowed, and so does a step
change_most : (old new : PlainState) (command : Command) → SetsOrKeeps old command new → new.most ≡ old.most
change_most old new command change = elim change [ inl sets ↦ ap (λ (p : PlainState). p.most) sets.2 | inr keeps ↦ keeps.1 ]

pub step_most : (old new : State) (command : Command) (reply : Reply) → Step old command reply new → new.plain.most ≡ old.plain.most
step_most old new command reply step = elim step [
  | inl refused ↦ ap (λ (s : State). s.plain.most) refused.same
  | inr rest ↦ elim rest [
    | inl want ↦ elim want [ inl lacks ↦ ap (λ (s : State). s.plain.most) lacks.same | inr gives ↦ ap (λ (s : State). s.plain.most) gives.same ]
    | inr fine ↦ change_most old.plain new.plain command (change_keeps old.picks old.plain new.plain command fine.accepts.plain.change)
  ]
]

-- The command isn't a `limits` after which a dependency may pass them.
abbrev pub IsStrict : Command → Type 0
IsStrict command = (bounds : Bounds) → command ≡ SetLimits bounds → bounds.defer ≡ false

-- where no dependency may pass the limits, none may after such a change
change_strict : (old new : PlainState) (command : Command) → IsStrict command → SetsOrKeeps old command new
    → old.limits.defer ≡ false → new.limits.defer ≡ false
change_strict old new command strict change before = elim change [
  | inl sets ↦ ap (λ (p : PlainState). p.limits.defer) sets.2 ∙ strict sets.0 sets.1
  | inr keeps ↦ ap (λ (b : Bounds). b.defer) keeps.0 ∙ before
]

step_strict : (old new : State) (command : Command) (reply : Reply) → IsStrict command → Step old command reply new
    → old.plain.limits.defer ≡ false → new.plain.limits.defer ≡ false
step_strict old new command reply strict step before = elim step [
  | inl refused ↦ ap (λ (s : State). s.plain.limits.defer) refused.same ∙ before
  | inr rest ↦ elim rest [
    | inl want ↦ elim want [
      | inl lacks ↦ ap (λ (s : State). s.plain.limits.defer) lacks.same ∙ before
      | inr gives ↦ ap (λ (s : State). s.plain.limits.defer) gives.same ∙ before
    ]
    | inr fine ↦
        change_strict old.plain new.plain command strict (change_keeps old.picks old.plain new.plain command fine.accepts.plain.change) before
  ]
]

-- ---- lines, and generated commands

-- a line leaves how many names a cluster may be allowed
pub line_most : (old new : State) (line : List ℕ) (answer : Answer) → LineStep old line answer new → new.plain.most ≡ old.plain.most
line_most old new line Silence step = ap (λ (s : State). s.plain.most) step.2
line_most old new line TooLong step = ap (λ (s : State). s.plain.most) step.1
line_most old new line Unread step = ap (λ (s : State). s.plain.most) step.2
line_most old new line (Replies reply) (short, command, means, step) = step_most old new command reply step

-- where no dependency may pass the limits, none may after a line that sets none which one may pass
pub line_strict : (old new : State) (line : List ℕ) (answer : Answer)
    → ((bounds : Bounds) → Means line (Says (SetLimits bounds)) → bounds.defer ≡ false) → LineStep old line answer new
    → old.plain.limits.defer ≡ false → new.plain.limits.defer ≡ false
line_strict old new line Silence sets step before = ap (λ (s : State). s.plain.limits.defer) step.2 ∙ before
line_strict old new line TooLong sets step before = ap (λ (s : State). s.plain.limits.defer) step.1 ∙ before
line_strict old new line Unread sets step before = ap (λ (s : State). s.plain.limits.defer) step.2 ∙ before
line_strict old new line (Replies reply) sets (short, command, means, step) before =
    step_strict old new command reply
    (λ bounds is. sets bounds (subst (λ (c : Command). Means line (Says c)) is means)) step before

of_two : (a b : Command × ℕ) (test : Bool) → IsStrict a.0 → IsStrict b.0 → IsStrict (if test then a else b).0
of_two a b true here there = here
of_two a b false here there = there

drawn_strict : (k x : ℕ) → IsStrict (drawn_command k x).0
drawn_strict k x =
    let kind = draw x 20 in
    of_two (drawn_add k kind.1) _ (ltb kind.0 8) (λ _ e. cc)
    (of_two (drawn_dep k kind.1) _ (ltb kind.0 14) (λ _ e. cc)
    (of_two (drawn_change k kind.1) _ (kind.0 == 14) (λ _ e. cc)
    (of_two (drawn_remove k kind.1) _ (kind.0 == 15) (λ _ e. cc)
    (of_two (Stage, kind.1) _ (kind.0 == 16) (λ _ e. cc)
    (of_two (Commit, kind.1) _ (kind.0 == 17) (λ _ e. cc)
    (of_two (Abort, kind.1) (Compare, kind.1) (kind.0 == 18) (λ _ e. cc) (λ _ e. cc)))))))

-- nor after generated commands, however they are answered
pub generated_strict : (n x k : ℕ) (old end : State) (replies : List Reply) → CommandsRun old (commands_from x k n) replies end
    → old.plain.limits.defer ≡ false → end.plain.limits.defer ≡ false
generated_strict zero x k old end [] run before = ap (λ (s : State). s.plain.limits.defer) run ∙ before
generated_strict zero x k old end (reply ∷ replies) run before = absurd run
generated_strict (suc n) x k old end [] run before = absurd run
generated_strict (suc n) x k old end (reply ∷ replies) (next, step, run) before =
    generated_strict n _ (suc k) next end replies run (step_strict old next (drawn_command k x).0 reply (drawn_strict k x) step before)
