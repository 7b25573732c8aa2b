use Rattle.std.proofs.Common.{List, ◌≡◌, ◌+◌, ◌^◌, ◌≤◌, ◌++◌, ◌∷◌, [], length, sym, ap, ◌∙◌, subst, arith}
use Rattle.node_pool.specs.Chunk.{Chunk}
use Rattle.node_pool.specs.Row.{row}
use Rattle.node_pool.specs.Laid.{flat, AreLaid}
use Rattle.node_pool.proofs.LaidLemmas.{flat-more}
use Rattle.node_pool.proofs.PlacesLemmas.{grow_one}
use Rattle.node_pool.proofs.places.Places.grow.Goals as goal

pub invariant_of-self-2 : goal.invariant_of-self-2
invariant_of-self-2 g c =
    let p = c.self.inside in
    let block = c.in_ok-block.block in
    let made = c.in_ok-block.ensures.made in
    let items = c.push_reserved.ensures.items ∙ ap (λ l. l ++ block ∷ []) c.reserve.ensures.items in
    let capacity = ap (λ (b : Chunk g.row.S.Denot). b.capacity) made in
    let product = c.in-Some.ensures.1 in
    let small = c.in_ok-block.ensures.small in
    let asked = rw (← c.self.view_is) at c.requires in
    let new = grow_one p c.self.invariant block (ap (λ (b : Chunk g.row.S.Denot). b.items) made) (capacity ∙ product) (omega arith) (omega arith) in
    record {
      laid = subst (λ bs. AreLaid 0 p.width p.full bs) (sym items) new.laid;
      room = subst (λ (bs : List (Chunk g.row.S.Denot)). (p.room + (p.room + 1) + 1 ≡ 2 ^ length bs) × (length bs ≤ 32)) (sym items) new.room;
    }

pub returns-clause-kept : goal.returns-clause-kept
returns-clause-kept g c =
    let p = c.self.inside in
    let made = c.in_ok-block.ensures.made in
    let items = c.push_reserved.ensures.items ∙ ap (λ l. l ++ c.in_ok-block.block ∷ []) c.reserve.ensures.items in
    let none = ap (λ (b : Chunk g.row.S.Denot). b.items) made in
    rw (← c.self.view_is) (ap (λ bs. row (flat bs) (p.room + (p.room + 1)) p.width) items
    ∙ ap (λ xs. row xs (p.room + (p.room + 1)) p.width) (flat-more p.blocks.items c.in_ok-block.block none))
