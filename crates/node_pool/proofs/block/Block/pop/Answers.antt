use Rattle.std.proofs.Common.{◌-◌, ◌<◌, length, None, get_or, sym, ap, ◌∙◌, arith, ◌++◌, [], ◌∷◌}
use Rattle.std.proofs.lemmas.List.{length_push}
use Rattle.node_pool.specs.CellPlaces.{somes}
use Rattle.node_pool.proofs.BlockLemmas.{slice_get-some, get_or-places, Emptied-pop}
use Rattle.node_pool.proofs.block.Block.pop.Goals as goal

pub read-requires : goal.read-requires
read-requires g c =
    let slots = c.self.inside.cells.slots in let xs = somes slots in let n = c.self.inside.capacity in let i = c.self.inside.len - 1 in
    let count = c.self.invariant.count in
    let some : 0 < length xs = rw (← c.self.view_is) at c.requires in
    let found = slice_get-some xs i (omega (arith, count.0)) in
    (sym c.self.invariant.memory.0, (found.0, ap (λ ps. get_or ps i None) c.self.invariant.laid ∙ get_or-places xs (n - length xs) i found.0 found.1))

pub invariant_of-self : goal.invariant_of-self
invariant_of-self g c =
    let slots = c.self.inside.cells.slots in let xs = somes slots in let n = c.self.inside.capacity in let i = c.self.inside.len - 1 in
    let count = c.self.invariant.count in let memory = c.self.invariant.memory in
    let some : 0 < length xs = rw (← c.self.view_is) at c.requires in
    let out = Emptied-pop slots n i c.read.result c.self.invariant.laid (omega (arith, count.0)) (omega (arith, count.0, count.1)) c.read.ensures.value in
    let written = c.read.ensures.slots.1 in
    let long = ap length out.items ∙ length_push out.rest c.read.result in
    record {
      memory = (c.read.ensures.slots.0 ∙ memory.0, memory.1, memory.2, memory.3);
      laid = rw written out.filled-rest.laid;
      count = rw (written, out.filled-rest.items) (omega (arith, count.0), omega (arith, count.0, count.1), count.2);
    }

pub returns-clause-items : goal.returns-clause-items
returns-clause-items g c =
    let slots = c.self.inside.cells.slots in let xs = somes slots in let n = c.self.inside.capacity in let i = c.self.inside.len - 1 in
    let count = c.self.invariant.count in
    let some : 0 < length xs = rw (← c.self.view_is) at c.requires in
    let out = Emptied-pop slots n i c.read.result c.self.invariant.laid (omega (arith, count.0)) (omega (arith, count.0, count.1)) c.read.ensures.value in
    rw (← c.self.view_is) (out.items ∙ ap (λ us. us ++ c.read.result ∷ []) (sym (ap somes c.read.ensures.slots.1 ∙ out.filled-rest.items)))
