use Rattle.std.proofs.Common.{◌≡◌, ◌+◌, List, true, subst, sym, ap, ◌∙◌, arith, rules}
use Rattle.std.specs.List.{slice_range}
use Rattle.std.specs.Ordering.{is_ge}
use Rattle.chunk_index.specs.declared.entry.Entry.{Entry}
use Rattle.chunk_index.specs.declared.key.Key.{Key}
use Rattle.chunk_index.specs.KeyOrder.{key_cmp}
use Rattle.chunk_index.specs.Keys.{IsInOrder, key_of, not_before}
use Rattle.chunk_index.proofs.Parts.{part_next, part_order, none_before, one_before, nothing_left}
use Rattle.chunk_index.proofs.part.Part.skip_before.Goals as goal

pub overflow_add-self : goal.overflow_add-self
overflow_add-self c = let end = c.loop-self.invariant.0 in search rules

pub loop-self-preserved : goal.loop-self-preserved
loop-self-preserved c =
    let p = c.loop-self.self in
    let next = part_next p.tree.now c.get-first.result p.from p.to (omega arith) (omega arith) c.get-first.ensures in
    let less = ap (λ (k : Key). key_cmp k c.args.key.now) (sym c.of.ensures) ∙ sym c.in-Less.ensures in (
      c.loop-self.invariant.0,
      sym (ap (λ (t : List Entry). not_before key_of t c.args.key.now) next
          ∙ one_before key_of c.args.key.now c.get-first.result (slice_range p.tree.now (p.from + 1) p.to) less)
          ∙ c.loop-self.invariant.1,
    )

pub returns-after-loop-self : goal.returns-after-loop-self
unfolding not_before
returns-after-loop-self c =
    let p = c.loop-self.self in
    let none = nothing_left p.tree.now p.from p.to (omega arith) in
    sym (ap (λ (t : List Entry). not_before key_of t c.args.key.now) none ∙ sym none) ∙ c.loop-self.invariant.1

pub returns-in_default : goal.returns-in_default
returns-in_default c =
    let p = c.loop-self.self in
    let next = part_next p.tree.now c.get-first.result p.from p.to (omega arith) (omega arith) c.get-first.ensures in
    let order = subst (IsInOrder key_of) next (part_order key_of p.tree.now p.from p.to p.order) in
    let stays : is_ge (key_cmp (key_of c.get-first.result) c.args.key.now) ≡ true = search rules in
    sym (ap (λ (t : List Entry). not_before key_of t c.args.key.now) next
    ∙ none_before key_of c.args.key.now c.get-first.result (slice_range p.tree.now (p.from + 1) p.to) order stays ∙ sym next)
    ∙ c.loop-self.invariant.1
