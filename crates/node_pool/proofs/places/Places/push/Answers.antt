use Rattle.std.proofs.Common.{◌≡◌, ℕ, ◌+◌, ◌^◌, ◌≤◌, ◌<◌, ◌++◌, ◌∷◌, [], length, set, slice_get, get_or, Some, sym, ap, ◌∙◌, subst, arith, length-set}
use Rattle.std.proofs.lemmas.Option.{slice_get_within, get_or_from_slice_get}
use Rattle.node_pool.specs.Chunk.{Chunk, chunk}
use Rattle.node_pool.specs.Row.{row}
use Rattle.node_pool.specs.Laid.{flat, next_open, AreLaid}
use Rattle.node_pool.proofs.LaidLemmas.{push}
use Rattle.node_pool.proofs.PlacesLemmas.{next_takes, first-open}
use Rattle.node_pool.proofs.places.Places.push.Goals as goal

pub next_block-self-inside-requires : goal.next_block-self-inside-requires
next_block-self-inside-requires g c =
    let p = c.self.inside in
    let first = first-open p c.self.invariant (rw (← c.self.view_is) at c.requires) in
    let within = slice_get_within p.blocks.items p.full first.block first.at in
    rw c.as_slice.ensures.value within

pub index_mut-requires : goal.index_mut-requires
index_mut-requires g c =
    let p = c.self.inside in let f = next_open p.blocks.items p.full in
    let room = rw (← c.self.view_is) at c.requires in
    let next = next_takes p c.self.invariant room in
    let full : c.next_block-self-inside.result ≡ f = c.next_block-self-inside.ensures ∙ ap (λ l. next_open l p.full) c.as_slice.ensures.value in
    let within = slice_get_within p.blocks.items f next.block next.at in
    omega (arith, p.blocks.ok)

pub push-requires : goal.push-requires
push-requires g c =
    let p = c.self.inside in let f = next_open p.blocks.items p.full in
    let room = rw (← c.self.view_is) at c.requires in
    let next = next_takes p c.self.invariant room in
    let full : c.next_block-self-inside.result ≡ f = c.next_block-self-inside.ensures ∙ ap (λ l. next_open l p.full) c.as_slice.ensures.value in
    let same : c.index_mut.result.now ≡ next.block = c.index_mut.ensures.value ∙ ap (λ n. get_or p.blocks.items n c.index_mut.result.now) full
    ∙ get_or_from_slice_get p.blocks.items f next.block c.index_mut.result.now next.at in
    subst (λ (b : Chunk g.row.S.Denot). length b.items < b.capacity) (sym same) next.room

pub invariant_of-self : goal.invariant_of-self
invariant_of-self g c =
    let p = c.self.inside in let f = next_open p.blocks.items p.full in
    let room = rw (← c.self.view_is) at c.requires in
    let next = next_takes p c.self.invariant room in
    let full : c.next_block-self-inside.result ≡ f = c.next_block-self-inside.ensures ∙ ap (λ l. next_open l p.full) c.as_slice.ensures.value in
    let same : c.index_mut.result.now ≡ next.block = c.index_mut.ensures.value ∙ ap (λ n. get_or p.blocks.items n c.index_mut.result.now) full
    ∙ get_or_from_slice_get p.blocks.items f next.block c.index_mut.result.now next.at in
    let at : slice_get p.blocks.items f ≡ Some c.index_mut.result.now = next.at ∙ ap Some (sym same) in
    let open-room : length c.index_mut.result.now.items < c.index_mut.result.now.capacity =
    subst (λ (b : Chunk g.row.S.Denot). length b.items < b.capacity) (sym same) next.room in
    let new = push 0 p.width f p.blocks.items next.laid c.index_mut.result.now at open-room c.args.item in
    let count = length-set p.blocks.items f (chunk (c.index_mut.result.now.items ++ c.args.item ∷ []) c.index_mut.result.now.capacity) in
    let both : (f, chunk (c.index_mut.result.now.items ++ c.args.item ∷ []) c.index_mut.result.now.capacity)
    ≡ (c.next_block-self-inside.result, c.push.new.self) =
    λ k. (sym full k, sym c.push.ensures k) in
    record {
      laid = subst (λ (q : ℕ × Chunk g.row.S.Denot). AreLaid 0 p.width q.0 (set p.blocks.items q.0 q.1)) both new.laid;
      room = subst (λ (q : ℕ × Chunk g.row.S.Denot). (p.room + 1 ≡ 2 ^ length (set p.blocks.items q.0 q.1)) × (length (set p.blocks.items q.0 q.1) ≤ 32)) both
          (rw count c.self.invariant.room);
    }

pub returns : goal.returns
returns g c =
    let p = c.self.inside in let f = next_open p.blocks.items p.full in
    let room = rw (← c.self.view_is) at c.requires in
    let next = next_takes p c.self.invariant room in
    let full : c.next_block-self-inside.result ≡ f = c.next_block-self-inside.ensures ∙ ap (λ l. next_open l p.full) c.as_slice.ensures.value in
    let same : c.index_mut.result.now ≡ next.block = c.index_mut.ensures.value ∙ ap (λ n. get_or p.blocks.items n c.index_mut.result.now) full
    ∙ get_or_from_slice_get p.blocks.items f next.block c.index_mut.result.now next.at in
    let at : slice_get p.blocks.items f ≡ Some c.index_mut.result.now = next.at ∙ ap Some (sym same) in
    let open-room : length c.index_mut.result.now.items < c.index_mut.result.now.capacity =
    subst (λ (b : Chunk g.row.S.Denot). length b.items < b.capacity) (sym same) next.room in
    let new = push 0 p.width f p.blocks.items next.laid c.index_mut.result.now at open-room c.args.item in
    let both : (f, chunk (c.index_mut.result.now.items ++ c.args.item ∷ []) c.index_mut.result.now.capacity)
    ≡ (c.next_block-self-inside.result, c.push.new.self) =
    λ k. (sym full k, sym c.push.ensures k) in
    rw (← c.self.view_is) (ap (λ xs. row xs p.room p.width)
    (subst (λ (q : ℕ × Chunk g.row.S.Denot). flat (set p.blocks.items q.0 q.1) ≡ flat p.blocks.items ++ c.args.item ∷ []) both new.items))
