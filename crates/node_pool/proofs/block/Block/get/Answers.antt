use Rattle.std.proofs.Common.{◌-◌, ◌<◌, length, None, get_or, sym, ap, ◌∙◌}
use Rattle.node_pool.specs.CellPlaces.{somes}
use Rattle.node_pool.proofs.BlockLemmas.{slice_get-some, get_or-places, slice_get-places}
use Rattle.node_pool.proofs.block.Block.get.Goals as goal

pub get-requires : goal.get-requires
get-requires g c =
    let slots = c.self.inside.cells.slots in let xs = somes slots in let n = c.self.inside.capacity in
    let within : c.args.index < length xs = rw (← c.self.view_is) at c.requires in
    let found = slice_get-some xs c.args.index within in (
      sym c.self.invariant.memory.0,
      (found.0, ap (λ ps. get_or ps c.args.index None) c.self.invariant.laid ∙ get_or-places xs (n - length xs) c.args.index found.0 found.1),
    )

pub returns : goal.returns
returns g c =
    let slots = c.self.inside.cells.slots in let xs = somes slots in let n = c.self.inside.capacity in
    let within : c.args.index < length xs = rw (← c.self.view_is) at c.requires in
    rw (← c.self.view_is) (slice_get-places xs (n - length xs) c.args.index c.get.result.now within
    (sym (ap (λ ps. get_or ps c.args.index None) c.self.invariant.laid) ∙ c.get.ensures))
