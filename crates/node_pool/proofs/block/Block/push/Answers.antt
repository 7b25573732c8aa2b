use Rattle.std.proofs.Common.{◌≡◌, ◌<◌, length, set, Some, ap, ◌∙◌, arith}
use Rattle.std.proofs.lemmas.List.{length_push}
use Rattle.node_pool.specs.CellPlaces.{somes}
use Rattle.node_pool.specs.Chunk.{chunk}
use Rattle.node_pool.proofs.BlockLemmas.{Filled-push}
use Rattle.node_pool.proofs.block.Block.push.Goals as goal

pub invariant_of-self : goal.invariant_of-self
invariant_of-self g c =
    let slots = c.self.inside.cells.slots in let xs = somes slots in let n = c.self.inside.capacity in
    let count = c.self.invariant.count in let memory = c.self.invariant.memory in
    let room : length xs < n = rw (← c.self.view_is) at c.requires in
    let new = Filled-push slots n c.args.item c.self.invariant.laid room in
    let written : c.write.new.self.slots ≡ set slots (length xs) (Some c.args.item) = c.write.ensures.1 ∙ ap (λ i. set slots i (Some c.args.item)) count.0 in
    let long = length_push xs c.args.item in
    record {
      memory = (c.write.ensures.0 ∙ memory.0, memory.1, memory.2, memory.3);
      laid = rw written new.laid;
      count = rw (written, new.items) (omega (arith, count.0), omega (arith, count.0), count.2);
    }

pub returns : goal.returns
returns g c =
    let slots = c.self.inside.cells.slots in let xs = somes slots in let n = c.self.inside.capacity in
    let count = c.self.invariant.count in
    let room : length xs < n = rw (← c.self.view_is) at c.requires in
    let new = Filled-push slots n c.args.item c.self.invariant.laid room in
    let written : c.write.new.self.slots ≡ set slots (length xs) (Some c.args.item) = c.write.ensures.1 ∙ ap (λ i. set slots i (Some c.args.item)) count.0 in
    rw (← c.self.view_is) (ap (λ ys. chunk ys n) (ap somes written ∙ new.items))
