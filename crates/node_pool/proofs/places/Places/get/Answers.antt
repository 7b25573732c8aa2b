use Rattle.std.proofs.Common.{◌≡◌, ◌+◌, ◌*◌, ◌<◌, length, slice_get, sym, ap, ◌∙◌, subst, arith}
use Rattle.std.proofs.lemmas.Option.{slice_get_within, get_or_from_slice_get}
use Rattle.node_pool.specs.Chunk.{Chunk}
use Rattle.node_pool.proofs.PlacesLemmas.{found as found_at, slot-room}
use Rattle.node_pool.proofs.places.Places.get.Goals as goal

pub prove-unreachable-requires : goal.prove-unreachable-requires
prove-unreachable-requires g c =
    let below = slot-room c.self.inside c.self.invariant c.args.slot c.args.column
    (rw (← c.self.view_is) at c.requires.column) (rw (← c.self.view_is) at c.requires.within) in
    let past = c.if-prove.true in
    omega arith

pub index-requires : goal.index-requires
index-requires g c =
    let p = c.self.inside in let j = c.locate-block.result.0 in let o = c.locate-block.result.1 in
    let found = found_at p c.self.invariant c.args.slot c.args.column j o (rw (← c.self.view_is) at c.requires.column)
    (rw (← c.self.view_is) at c.requires.within) c.locate-block.ensures.place c.locate-block.ensures.within in
    let within = slice_get_within p.blocks.items j found.block found.at in
    omega (arith, p.blocks.ok)

pub overflow_mul-place : goal.overflow_mul-place
overflow_mul-place g c =
    let p = c.self.inside in let j = c.locate-block.result.0 in let o = c.locate-block.result.1 in
    let found = found_at p c.self.invariant c.args.slot c.args.column j o (rw (← c.self.view_is) at c.requires.column)
    (rw (← c.self.view_is) at c.requires.within) c.locate-block.ensures.place c.locate-block.ensures.within in
    record { fits = omega (arith, found.within, found.bounded, found.small) }

pub overflow_add-place : goal.overflow_add-place
overflow_add-place g c =
    let p = c.self.inside in let j = c.locate-block.result.0 in let o = c.locate-block.result.1 in
    let found = found_at p c.self.invariant c.args.slot c.args.column j o (rw (← c.self.view_is) at c.requires.column)
    (rw (← c.self.view_is) at c.requires.within) c.locate-block.ensures.place c.locate-block.ensures.within in
    record { fits = omega (arith, found.within, found.bounded, found.small) }

pub get-requires : goal.get-requires
get-requires g c =
    let p = c.self.inside in let j = c.locate-block.result.0 in let o = c.locate-block.result.1 in
    let found = found_at p c.self.invariant c.args.slot c.args.column j o (rw (← c.self.view_is) at c.requires.column)
    (rw (← c.self.view_is) at c.requires.within) c.locate-block.ensures.place c.locate-block.ensures.within in
    let same : c.index.result.now ≡ found.block = c.index.ensures ∙ get_or_from_slice_get p.blocks.items j found.block c.index.result.now found.at in
    subst (λ (b : Chunk g.row.S.Denot). o * p.width + c.args.column < length b.items) (sym same) found.within

pub returns : goal.returns
returns g c =
    let p = c.self.inside in let j = c.locate-block.result.0 in let o = c.locate-block.result.1 in
    let found = found_at p c.self.invariant c.args.slot c.args.column j o (rw (← c.self.view_is) at c.requires.column)
    (rw (← c.self.view_is) at c.requires.within) c.locate-block.ensures.place c.locate-block.ensures.within in
    let same : c.index.result.now ≡ found.block = c.index.ensures ∙ get_or_from_slice_get p.blocks.items j found.block c.index.result.now found.at in
    rw (← c.self.view_is) (found.read ∙ ap (λ (b : Chunk g.row.S.Denot). slice_get b.items (o * p.width + c.args.column)) (sym same) ∙ c.get.ensures)
