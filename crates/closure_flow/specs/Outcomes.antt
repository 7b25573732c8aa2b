-- What holds of each answer of the solver.
use Rattle.std.specs.Prelude.{ℕ}
use Rattle.std.specs.Ordering.{nat_cmp}
use Rattle.std.specs.FinSet as set
use Rattle.closure_flow.specs.declared.solver.Outcome.{Outcome}
use Rattle.closure_flow.specs.declared.solver.Outcome.TheVariants.{Better, Balanced}

-- a fact of the set that is answered, if one is
abbrev pub IfBetter : {W : ℕ} → Outcome W → (set.FinSet nat_cmp → Type 0) → Type 0
IfBetter (Better s) P = P s
IfBetter Balanced P = Unit {0}

-- a fact that holds where the answer is that no closed set has positive weight
abbrev pub OnBalanced : {W : ℕ} → Outcome W → Type 0 → Type 0
OnBalanced (Better s) P = Unit {0}
OnBalanced Balanced P = P
