use Rattle.std.proofs.Common.{◌≡◌, ◌≤◌, [], ap, ◌∙◌, arith}
use Rattle.chunk_index.specs.Numbers.{listed, count}
use Rattle.chunk_index.specs.Spares.{kept, room}
use Rattle.chunk_index.proofs.Pairs.{listed_order, listed_length}
use Rattle.chunk_index.proofs.Settling.{fresh_absent, main_settled, settled-index, top_settled}
use Rattle.chunk_index.proofs.index.ChunkIndex.settle.Goals as goal
use Rattle.chunk_index.proofs.index.ChunkIndex.settle.Goals.{in-Main, in-Top}

pub list_all-requires-clause-absent : goal.list_all-requires-clause-absent
list_all-requires-clause-absent c =
    fresh_absent c.self.invariant c.self.view_is (listed c.take_all-in-Top.new.numbers) c.replace-main.result c.replace-fresh.result
    c.replace-fresh.ensures.value c.take_all-in-Top.ensures.clear

pub invariant_of-self : goal.invariant_of-self
invariant_of-self c =
    let now = c.match-stays.self-inside in
    let n = now.numbers in
    let no_main : now.main ≡ [] = elim c.match-stays.branch [
      | in-Main w ↦ ap (λ s. s.main) w.self-inside-is ∙ c.replace-main.ensures.after ∙ c.new.ensures
      | in-Top w ↦ ap (λ s. s.main) w.self-inside-is ∙ c.replace-main.ensures.after ∙ c.new.ensures
    ] in
    let no_top : now.top ≡ [] = elim c.match-stays.branch [
      | in-Main w ↦ ap (λ s. s.top) w.self-inside-is ∙ c.replace-top.ensures.after ∙ c.new-2.ensures
      | in-Top w ↦ ap (λ s. s.top) w.self-inside-is ∙ c.replace-top.ensures.after ∙ c.new-2.ensures
    ] in
    let no_fresh : now.fresh ≡ [] = elim c.match-stays.branch [
      | in-Main w ↦ ap (λ s. s.fresh) w.self-inside-is ∙ c.replace-fresh.ensures.after ∙ c.new-3.ensures
      | in-Top w ↦ ap (λ s. s.fresh) w.self-inside-is ∙ c.replace-fresh.ensures.after ∙ c.new-3.ensures
    ] in
    let fits : kept c.trim.new.self ≤ room c.trim.new.self = omega (arith, c.trim.ensures.fewer, c.trim.ensures.room) in
    settled-index (listed n) now.main now.top now.fresh (count n) (kept c.trim.new.self) (room c.trim.new.self) no_main no_top no_fresh
    (listed_order n.map.entries n.late n.map_order n.late_order) (listed_length n.map.entries n.late n.map_order)
    (omega (arith, c.trim.ensures.enough, c.len.ensures.count)) fits

pub returns : goal.returns
returns c = elim c.match-stays.branch [
  | in-Main w ↦ rw (w.self-inside-is, w.in-Main.is) (main_settled c.self.invariant c.self.view_is (listed w.take_all.new.numbers)
      c.replace-main.new.dest c.replace-top.new.dest c.replace-fresh.new.dest (c.replace-main.ensures.after ∙ c.new.ensures)
      (c.replace-top.ensures.after ∙ c.new-2.ensures) (c.replace-fresh.ensures.after ∙ c.new-3.ensures)
      c.replace-top.result c.replace-top.ensures.value w.take_all.ensures.clear)
  | in-Top w ↦ rw (w.self-inside-is, w.in-Top.is) (top_settled c.self.invariant c.self.view_is (listed w.list_all.new.self)
      c.replace-main.new.dest c.replace-top.new.dest c.replace-fresh.new.dest (c.replace-main.ensures.after ∙ c.new.ensures)
      (c.replace-top.ensures.after ∙ c.new-2.ensures) (c.replace-fresh.ensures.after ∙ c.new-3.ensures)
      (listed w.take_all-in-Top.new.numbers) c.replace-main.result c.replace-fresh.result c.replace-main.ensures.value
      c.replace-fresh.ensures.value w.take_all-in-Top.ensures.clear w.list_all.ensures.put)
]
