use Rattle.std.proofs.Common.{◌+◌, ℕ, List, get_or, take, subst, arith}
use Rattle.std.proofs.lemmas.List.{take_all}
use Rattle.links.specs.Leaving.{Adds}
use Rattle.reorg.proofs.Pairing.{Others, longer, others_more}
use Rattle.reorg.proofs.making.put_others.Goals as goal

pub loop-d-preserved : goal.loop-d-preserved
loop-d-preserved c =
    let below = c.args.below.now in let k = c.loop-d.d-index in
    others_more c.args.id (get_or below k 0) (take k below) (take (k + 1) below) c.args.list.now.items c.loop-d.list.items c.put_other.new.list.items
    (longer below k c.loop-d-test.true) c.loop-d.invariant c.in_ok-put_other.ensures

pub returns : goal.returns
returns c =
    subst (λ (ys : List ℕ). Adds (Others c.args.id ys) c.args.list.now.items c.loop-d.list.items)
    (take_all c.loop-d.d-index c.args.below.now (omega arith)) c.loop-d.invariant
