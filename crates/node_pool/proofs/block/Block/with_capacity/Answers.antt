use Rattle.std.proofs.Common.{refl, ap, arith}
use Rattle.std.proofs.lemmas.Grind.{common_steps}
use Rattle.node_pool.specs.Chunk.{chunk}
use Rattle.node_pool.proofs.BlockLemmas.{Filled-none}
use Rattle.node_pool.proofs.block.Block.with_capacity.Goals as goal

pub invariant_of-result : goal.invariant_of-result
invariant_of-result g c =
    let made = c.in_ok-base.ensures in
    let new = Filled-none c.in_ok-base.cells.slots c.args.capacity made.1 in
    let fits = (c.may_hold.ensures (grind (arith, common_steps))).1 in
    record {
      memory = (made.0, made.2, made.3, made.4);
      laid = new.laid;
      count = rw new.items (refl, omega arith, fits);
    }

pub returns-clause-made : goal.returns-clause-made
returns-clause-made g c =
    let new = Filled-none c.in_ok-base.cells.slots c.args.capacity c.in_ok-base.ensures.1 in
    ap (λ ys. chunk ys c.args.capacity) new.items

pub returns-clause-small : goal.returns-clause-small
returns-clause-small g c = (c.may_hold.ensures (grind (arith, common_steps))).1
