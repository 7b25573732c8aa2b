use Rattle.std.proofs.Common.{ℤ, FitsSigned, subst}
use Rattle.std.specs.Int.{w64}
use Rattle.std.proofs.lemmas.Int.{to_z-of_z}
use Rattle.graph_model.specs.Commands.{Add, SetFee}
use Rattle.graph_model.specs.Replies.{change_reply}
use Rattle.tx_graph.specs.Kept.{MakesStep}
use Rattle.desk.proofs.request.Change.make.Goals as goal

pub returns-in-Limits : goal.returns-in-Limits
returns-in-Limits g c = rw c.in-Limits.is c.set_limits.ensures.step

pub returns-in-Dep : goal.returns-in-Dep
returns-in-Dep g c = rw c.in-Dep.is c.dep.ensures.step

pub returns-in-Remove : goal.returns-in-Remove
returns-in-Remove g c = rw c.in-Remove.is c.remove.ensures.step

pub returns-in-Stage : goal.returns-in-Stage
returns-in-Stage g c = rw c.in-Stage.is c.stage.ensures.step

pub returns-in-Commit : goal.returns-in-Commit
returns-in-Commit g c = rw c.in-Commit.is c.commit.ensures.step

pub returns-in-Abort : goal.returns-in-Abort
returns-in-Abort g c = rw c.in-Abort.is c.abort.ensures.step

pub returns-in-Add : goal.returns-in-Add
returns-in-Add g c =
    let fits : FitsSigned w64 c.in-Add.fee = assumption in
    let step = subst (λ (fee : ℤ). MakesStep c.args.graph.now c.add.new.self (Add c.in-Add.id fee c.in-Add.size) (change_reply c.add.result))
    (to_z-of_z w64 c.in-Add.fee fits) c.add.ensures.step in
    rw c.in-Add.is step

pub returns-in-Fee : goal.returns-in-Fee
returns-in-Fee g c =
    let fits : FitsSigned w64 c.in-Fee.fee = assumption in
    let step = subst (λ (fee : ℤ). MakesStep c.args.graph.now c.fee.new.self (SetFee c.in-Fee.id fee) (change_reply c.fee.result))
    (to_z-of_z w64 c.in-Fee.fee fits) c.fee.ensures.step in
    rw c.in-Fee.is step
