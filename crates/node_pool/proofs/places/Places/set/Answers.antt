use Rattle.std.proofs.Common.{◌≡◌, ◌+◌, ◌*◌, ◌<◌, length, set, slice_get, Some, sym, ap, ◌∙◌, subst, arith, length-set}
use Rattle.std.proofs.lemmas.Option.{slice_get_within, get_or_from_slice_get}
use Rattle.node_pool.specs.Chunk.{Chunk, chunk}
use Rattle.node_pool.specs.Row.{row}
use Rattle.node_pool.proofs.PlacesLemmas.{found as found_at, slot-room, index-of, ArePlaces-write}
use Rattle.node_pool.proofs.places.Places.set.Goals as goal

pub prove-unreachable-requires : goal.prove-unreachable-requires
prove-unreachable-requires g c =
    let below = slot-room c.self.inside c.self.invariant c.args.slot c.args.column
    (rw (← c.self.view_is) at c.requires.column) (rw (← c.self.view_is) at c.requires.within) in
    let past = c.if-prove.true in
    omega arith

pub index_mut-requires : goal.index_mut-requires
index_mut-requires g c =
    let p = c.self.inside in let j = c.locate-block.result.0 in let o = c.locate-block.result.1 in
    let found = found_at p c.self.invariant c.args.slot c.args.column j o (rw (← c.self.view_is) at c.requires.column)
    (rw (← c.self.view_is) at c.requires.within) c.locate-block.ensures.place c.locate-block.ensures.within in
    let within = slice_get_within p.blocks.items j found.block found.at in
    omega (arith, p.blocks.ok)

pub overflow_mul-place : goal.overflow_mul-place
overflow_mul-place g c =
    let p = c.self.inside in let j = c.locate-block.result.0 in let o = c.locate-block.result.1 in
    let found = found_at p c.self.invariant c.args.slot c.args.column j o (rw (← c.self.view_is) at c.requires.column)
    (rw (← c.self.view_is) at c.requires.within) c.locate-block.ensures.place c.locate-block.ensures.within in
    record { fits = omega (arith, found.within, found.bounded, found.small) }

pub overflow_add-place : goal.overflow_add-place
overflow_add-place g c =
    let p = c.self.inside in let j = c.locate-block.result.0 in let o = c.locate-block.result.1 in
    let found = found_at p c.self.invariant c.args.slot c.args.column j o (rw (← c.self.view_is) at c.requires.column)
    (rw (← c.self.view_is) at c.requires.within) c.locate-block.ensures.place c.locate-block.ensures.within in
    record { fits = omega (arith, found.within, found.bounded, found.small) }

pub get_mut-requires : goal.get_mut-requires
get_mut-requires g c =
    let p = c.self.inside in let j = c.locate-block.result.0 in let o = c.locate-block.result.1 in
    let found = found_at p c.self.invariant c.args.slot c.args.column j o (rw (← c.self.view_is) at c.requires.column)
    (rw (← c.self.view_is) at c.requires.within) c.locate-block.ensures.place c.locate-block.ensures.within in
    let same : c.index_mut.result.now ≡ found.block =
    c.index_mut.ensures.value ∙ get_or_from_slice_get p.blocks.items j found.block c.index_mut.result.now found.at in
    subst (λ (b : Chunk g.row.S.Denot). o * p.width + c.args.column < length b.items) (sym same) found.within

pub invariant_of-self : goal.invariant_of-self
invariant_of-self g c =
    let p = c.self.inside in let j = c.locate-block.result.0 in let o = c.locate-block.result.1 in let x = o * p.width + c.args.column in
    let found = found_at p c.self.invariant c.args.slot c.args.column j o (rw (← c.self.view_is) at c.requires.column)
    (rw (← c.self.view_is) at c.requires.within) c.locate-block.ensures.place c.locate-block.ensures.within in
    let same : c.index_mut.result.now ≡ found.block =
    c.index_mut.ensures.value ∙ get_or_from_slice_get p.blocks.items j found.block c.index_mut.result.now found.at in
    let at : slice_get p.blocks.items j ≡ Some c.index_mut.result.now = found.at ∙ ap Some (sym same) in
    let inside : x < length c.index_mut.result.now.items = subst (λ (b : Chunk g.row.S.Denot). x < length b.items) (sym same) found.within in
    let spot = index-of p c.self.invariant c.args.slot c.args.column j o c.locate-block.ensures.place in
    let new = ArePlaces-write p c.self.invariant j x (c.args.slot * p.width + c.args.column) spot c.index_mut.result.now at inside c.args.item in
    let count = length-set p.blocks.items j (chunk (set c.index_mut.result.now.items x c.args.item) c.index_mut.result.now.capacity) in
    let room = c.self.invariant.room in
    record { laid = new.laid; room = rw count room }

pub returns : goal.returns
returns g c =
    let p = c.self.inside in let j = c.locate-block.result.0 in let o = c.locate-block.result.1 in let x = o * p.width + c.args.column in
    let found = found_at p c.self.invariant c.args.slot c.args.column j o (rw (← c.self.view_is) at c.requires.column)
    (rw (← c.self.view_is) at c.requires.within) c.locate-block.ensures.place c.locate-block.ensures.within in
    let same : c.index_mut.result.now ≡ found.block =
    c.index_mut.ensures.value ∙ get_or_from_slice_get p.blocks.items j found.block c.index_mut.result.now found.at in
    let at : slice_get p.blocks.items j ≡ Some c.index_mut.result.now = found.at ∙ ap Some (sym same) in
    let inside : x < length c.index_mut.result.now.items = subst (λ (b : Chunk g.row.S.Denot). x < length b.items) (sym same) found.within in
    let spot = index-of p c.self.invariant c.args.slot c.args.column j o c.locate-block.ensures.place in
    let new = ArePlaces-write p c.self.invariant j x (c.args.slot * p.width + c.args.column) spot c.index_mut.result.now at inside c.args.item in
    rw (← c.self.view_is) (ap (λ xs. row xs p.room p.width) new.items)
