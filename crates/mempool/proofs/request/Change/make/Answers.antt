use Rattle.std.proofs.Common.{◌≤◌, Bool, true, false, is_ok, if◌then◌else◌, ℤ, FitsSigned, subst, arith}
use Rattle.std.specs.Int.{w64}
use Rattle.std.proofs.lemmas.Int.{to_z-of_z}
use Rattle.graph_model.specs.Commands.{Add, SetFee}
use Rattle.graph_model.specs.Replies.{change_reply}
use Rattle.tx_graph.specs.Kept.{MakesStep}
use Rattle.mempool.proofs.request.Change.make.Goals as goal

at_most_one : (b : Bool) → (if b then 1 else 0) ≤ 1
at_most_one true = omega arith
at_most_one false = omega arith

-- that the graph fits in memory is asked of the caller too
pub set_limits-requires : goal.set_limits-requires
set_limits-requires g c = assumption

pub add-requires : goal.add-requires
add-requires g c = assumption

pub dep-requires : goal.dep-requires
dep-requires g c = assumption

pub fee-requires : goal.fee-requires
fee-requires g c = assumption

pub remove-requires : goal.remove-requires
remove-requires g c = assumption

pub stage-requires : goal.stage-requires
stage-requires g c = assumption

pub commit-requires : goal.commit-requires
commit-requires g c = assumption

pub abort-requires : goal.abort-requires
abort-requires g c = assumption

pub returns-in-Limits-clause-step : goal.returns-in-Limits-clause-step
returns-in-Limits-clause-step g c = rw c.in-Limits.is c.set_limits.ensures.step

pub returns-in-Add-clause-step : goal.returns-in-Add-clause-step
returns-in-Add-clause-step g c =
    let fits : FitsSigned w64 c.in-Add.fee = assumption in
    let step = subst (λ (fee : ℤ). MakesStep c.args.graph.now c.add.new.self (Add c.in-Add.id fee c.in-Add.size) (change_reply c.add.result))
    (to_z-of_z w64 c.in-Add.fee fits) c.add.ensures.step in
    rw c.in-Add.is step

pub returns-in-Dep-clause-step : goal.returns-in-Dep-clause-step
returns-in-Dep-clause-step g c = rw c.in-Dep.is c.dep.ensures.step

pub returns-in-Fee-clause-step : goal.returns-in-Fee-clause-step
returns-in-Fee-clause-step g c =
    let fits : FitsSigned w64 c.in-Fee.fee = assumption in
    let step = subst (λ (fee : ℤ). MakesStep c.args.graph.now c.fee.new.self (SetFee c.in-Fee.id fee) (change_reply c.fee.result))
    (to_z-of_z w64 c.in-Fee.fee fits) c.fee.ensures.step in
    rw c.in-Fee.is step

pub returns-in-Remove-clause-step : goal.returns-in-Remove-clause-step
returns-in-Remove-clause-step g c = rw c.in-Remove.is c.remove.ensures.step

pub returns-in-Stage-clause-step : goal.returns-in-Stage-clause-step
returns-in-Stage-clause-step g c = rw c.in-Stage.is c.stage.ensures.step

pub returns-in-Commit-clause-step : goal.returns-in-Commit-clause-step
returns-in-Commit-clause-step g c = rw c.in-Commit.is c.commit.ensures.step

pub returns-in-Abort-clause-step : goal.returns-in-Abort-clause-step
returns-in-Abort-clause-step g c = rw c.in-Abort.is c.abort.ensures.step

pub returns-in-Limits-clause-additions : goal.returns-in-Limits-clause-additions
returns-in-Limits-clause-additions g c = omega (arith, c.set_limits.ensures.additions)

pub returns-in-Dep-clause-additions : goal.returns-in-Dep-clause-additions
returns-in-Dep-clause-additions g c = omega (arith, c.dep.ensures.additions)

pub returns-in-Fee-clause-additions : goal.returns-in-Fee-clause-additions
returns-in-Fee-clause-additions g c = omega (arith, c.fee.ensures.additions)

pub returns-in-Remove-clause-additions : goal.returns-in-Remove-clause-additions
returns-in-Remove-clause-additions g c = omega (arith, c.remove.ensures.additions)

pub returns-in-Stage-clause-additions : goal.returns-in-Stage-clause-additions
returns-in-Stage-clause-additions g c = omega (arith, c.stage.ensures.additions)

pub returns-in-Commit-clause-additions : goal.returns-in-Commit-clause-additions
returns-in-Commit-clause-additions g c = omega (arith, c.commit.ensures.additions)

pub returns-in-Abort-clause-additions : goal.returns-in-Abort-clause-additions
returns-in-Abort-clause-additions g c = omega (arith, c.abort.ensures.additions)

pub returns-in-Add-clause-additions : goal.returns-in-Add-clause-additions
returns-in-Add-clause-additions g c = omega (arith, c.add.ensures.additions, at_most_one (is_ok c.add.result))
