use Rattle.std.proofs.Common.{◌≡◌, ◌+◌, ◌*◌, ◌^◌, ◌<◌, length, set, slice_get, Some, refl, sym, ap, ◌∙◌, subst, arith, length-set}
use Rattle.std.proofs.lemmas.Option.{slice_get_within, get_or_from_slice_get}
use Rattle.node_pool.specs.Chunk.{Chunk, chunk}
use Rattle.node_pool.specs.Row.{row}
use Rattle.node_pool.proofs.PlacesLemmas.{found_one, slot-room_one, ArePlaces-write}
use Rattle.node_pool.proofs.places.Places.at_mut.Goals as goal

pub prove-unreachable-requires : goal.prove-unreachable-requires
prove-unreachable-requires g c =
    let below =
    slot-room_one c.self.inside c.self.invariant (rw (← c.self.view_is) at c.requires.width) c.args.slot (rw (← c.self.view_is) at c.requires.within) in
    let past = c.if-prove.true in
    omega arith

pub index_mut-requires : goal.index_mut-requires
index_mut-requires g c =
    let p = c.self.inside in let j = c.locate-block.result.0 in let o = c.locate-block.result.1 in
    let width = rw (← c.self.view_is) at c.requires.width in
    let found = found_one p c.self.invariant width c.args.slot j o
    (rw (← c.self.view_is) at c.requires.within) c.locate-block.ensures.place c.locate-block.ensures.within in
    let within = slice_get_within p.blocks.items j found.block found.at in
    omega (arith, p.blocks.ok)

pub get_mut-requires : goal.get_mut-requires
get_mut-requires g c =
    let p = c.self.inside in let j = c.locate-block.result.0 in let o = c.locate-block.result.1 in
    let width = rw (← c.self.view_is) at c.requires.width in
    let found = found_one p c.self.invariant width c.args.slot j o
    (rw (← c.self.view_is) at c.requires.within) c.locate-block.ensures.place c.locate-block.ensures.within in
    let same : c.index_mut.result.now ≡ found.block =
    c.index_mut.ensures.value ∙ get_or_from_slice_get p.blocks.items j found.block c.index_mut.result.now found.at in
    subst (λ (b : Chunk g.row.S.Denot). o < length b.items) (sym same) found.within

pub invariant_of-self-lent : goal.invariant_of-self-lent
invariant_of-self-lent g c x =
    let p = c.self.inside in let j = c.locate-block.result.0 in let o = c.locate-block.result.1 in
    let width = rw (← c.self.view_is) at c.requires.width in
    let found = found_one p c.self.invariant width c.args.slot j o
    (rw (← c.self.view_is) at c.requires.within) c.locate-block.ensures.place c.locate-block.ensures.within in
    let same : c.index_mut.result.now ≡ found.block =
    c.index_mut.ensures.value ∙ get_or_from_slice_get p.blocks.items j found.block c.index_mut.result.now found.at in
    let at : slice_get p.blocks.items j ≡ Some c.index_mut.result.now = found.at ∙ ap Some (sym same) in
    let inside : o < length c.index_mut.result.now.items = subst (λ (b : Chunk g.row.S.Denot). o < length b.items) (sym same) found.within in
    let spot : c.args.slot + p.width ≡ 2 ^ j * p.width + o = rw width (let place = c.locate-block.ensures.place in omega arith) in
    let new = ArePlaces-write p c.self.invariant j o c.args.slot spot c.index_mut.result.now at inside x in
    let count = length-set p.blocks.items j (chunk (set c.index_mut.result.now.items o x) c.index_mut.result.now.capacity) in
    let room = c.self.invariant.room in
    record { laid = new.laid; room = rw count room }

pub returns : goal.returns
returns g c =
    let p = c.self.inside in let j = c.locate-block.result.0 in let o = c.locate-block.result.1 in
    let width = rw (← c.self.view_is) at c.requires.width in
    let found = found_one p c.self.invariant width c.args.slot j o
    (rw (← c.self.view_is) at c.requires.within) c.locate-block.ensures.place c.locate-block.ensures.within in
    let same : c.index_mut.result.now ≡ found.block =
    c.index_mut.ensures.value ∙ get_or_from_slice_get p.blocks.items j found.block c.index_mut.result.now found.at in
    let at : slice_get p.blocks.items j ≡ Some c.index_mut.result.now = found.at ∙ ap Some (sym same) in
    let inside : o < length c.index_mut.result.now.items = subst (λ (b : Chunk g.row.S.Denot). o < length b.items) (sym same) found.within in
    let spot : c.args.slot + p.width ≡ 2 ^ j * p.width + o = rw width (let place = c.locate-block.ensures.place in omega arith) in (
      (
        refl,
        λ x. rw (← c.self.view_is)
            (ap (λ xs. row xs p.room p.width) (ArePlaces-write p c.self.invariant j o c.args.slot spot c.index_mut.result.now at inside x).items),
      ),
      record {
        writes_back = tt;
        value = rw (← c.self.view_is) (found.read ∙ ap (λ (b : Chunk g.row.S.Denot). slice_get b.items o) (sym same) ∙ c.get_mut.ensures.value);
      },
    )
