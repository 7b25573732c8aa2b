use Rattle.std.proofs.Common.{◌-◌, ◌<◌, length, None, get_or, refl, sym, ap, ◌∙◌}
use Rattle.node_pool.specs.CellPlaces.{somes}
use Rattle.node_pool.specs.Chunk.{chunk}
use Rattle.node_pool.proofs.BlockLemmas.{slice_get-some, get_or-places, slice_get-places, length-set_same, Filled-set}
use Rattle.node_pool.proofs.block.Block.get_mut.Goals as goal

pub get_mut-requires : goal.get_mut-requires
get_mut-requires g c =
    let slots = c.self.inside.cells.slots in let xs = somes slots in let n = c.self.inside.capacity in
    let within : c.args.index < length xs = rw (← c.self.view_is) at c.requires in
    let found = slice_get-some xs c.args.index within in (
      sym c.self.invariant.memory.0,
      (found.0, ap (λ ps. get_or ps c.args.index None) c.self.invariant.laid ∙ get_or-places xs (n - length xs) c.args.index found.0 found.1),
    )

pub invariant_of-self-lent : goal.invariant_of-self-lent
invariant_of-self-lent g c w =
    let slots = c.self.inside.cells.slots in let xs = somes slots in let n = c.self.inside.capacity in
    let within : c.args.index < length xs = rw (← c.self.view_is) at c.requires in
    let new = Filled-set slots n c.args.index w c.self.invariant.laid within in
    let count = c.self.invariant.count in
    record {
      memory = c.self.invariant.memory;
      laid = new.laid;
      count = (count.0 ∙ sym (ap length new.items ∙ length-set_same xs c.args.index w), count.1, count.2);
    }

pub returns : goal.returns
returns g c =
    let slots = c.self.inside.cells.slots in let xs = somes slots in let n = c.self.inside.capacity in
    let within : c.args.index < length xs = rw (← c.self.view_is) at c.requires in (
      (refl, λ w. rw (← c.self.view_is) (ap (λ ys. chunk ys n) (Filled-set slots n c.args.index w c.self.invariant.laid within).items)),
      record {
        writes_back = tt;
        value = rw (← c.self.view_is) (slice_get-places xs (n - length xs) c.args.index c.get_mut.result.now within
            (sym (ap (λ ps. get_or ps c.args.index None) c.self.invariant.laid) ∙ c.get_mut.ensures.value));
      },
    )
