use Rattle.std.proofs.Common.{◌∷◌, List, length, map, sym, ap, ◌∙◌, arith, rules}
use Rattle.std.proofs.lemmas.List.{length-append}
use Rattle.chunk_index.specs.declared.entry.Entry.{Entry}
use Rattle.chunk_index.specs.declared.tree.Node.{Node}
use Rattle.chunk_index.specs.Keys.{has_key, put}
use Rattle.chunk_index.specs.Merges.{put_all}
use Rattle.chunk_index.specs.Numbers.{listed}
use Rattle.chunk_index.specs.Pairs.{pair_key, pair_of}
use Rattle.chunk_index.specs.TreeShape.{entry_of}
use Rattle.chunk_index.proofs.Settling.{put_whole, left_order, left_absent, node_absent, right_order, right_absent, all_put}
use Rattle.chunk_index.proofs.Steps.{shorter_left, shorter_right}
use Rattle.chunk_index.proofs.numbers.Numbers.+list_all.Goals as goal

pub returns-then-len-eq0-clause-put : goal.returns-then-len-eq0-clause-put
returns-then-len-eq0-clause-put t c =
    put_whole c.args.self.now.map.entries c.args.self.now.late c.args.tree (sym c.len.ensures ∙ c.if-len-eq0.true)

pub list_all-requires : goal.list_all-requires
list_all-requires t c =
    let es = listed c.args.self.now in
    let l = c.in-Some.left in
    let e = entry_of c.in-Some.node.value in
    let r = c.in-Some.right in
    let parts = c.in-Some.ensures.parts in
    let shorter = shorter_left c.args.tree l e r parts in (
      search rules,
      (
        left_order es c.args.tree l e r parts c.requires.order c.requires.absent,
        (left_absent es c.args.tree l e r parts c.requires.order c.requires.absent, omega (arith, c.requires.fits)),
      ),
    )

pub list-requires-clause-absent : goal.list-requires-clause-absent
list-requires-clause-absent t c =
    let es = listed c.args.self.now in
    ap (λ (n : Node). has_key pair_key (listed c.list_all.new.self) n.key) c.deref.ensures
    ∙ node_absent es c.args.tree c.in-Some.left (entry_of c.in-Some.node.value) c.in-Some.right c.in-Some.ensures.parts c.requires.order
    c.requires.absent (listed c.list_all.new.self) c.list_all.ensures.put

pub list_all-requires-in-Some : goal.list_all-requires-in-Some
list_all-requires-in-Some t c =
    let es = listed c.args.self.now in
    let l = c.in-Some.left in
    let e = entry_of c.in-Some.node.value in
    let r = c.in-Some.right in
    let parts = c.in-Some.ensures.parts in
    let shorter = shorter_right c.args.tree l e r parts in (
      search rules,
      (
        right_order es c.args.tree l e r parts c.requires.order c.requires.absent,
        (
          right_absent es c.args.tree l e r parts c.requires.order c.requires.absent (listed c.list_all.new.self) c.list_all.ensures.put
              (listed c.list.new.self) (c.list.ensures.put
              ∙ ap (λ (n : Node). put pair_key (listed c.list_all.new.self) (n.key, c.deref-in-Some.result.now.number)) c.deref.ensures
              ∙ ap (λ (n : Node). put pair_key (listed c.list_all.new.self) (c.in-Some.node.value.key, n.number)) c.deref-in-Some.ensures),
          omega (arith, c.requires.fits, c.list_all.ensures.more, c.list.ensures.more, ap length parts, length-append l (e ∷ r)),
        ),
      ),
    )

pub returns-in-Some-clause-put : goal.returns-in-Some-clause-put
returns-in-Some-clause-put t c =
    all_put (listed c.args.self.now) c.args.tree c.in-Some.left (entry_of c.in-Some.node.value) c.in-Some.right c.in-Some.ensures.parts
    c.requires.order c.requires.absent (listed c.list_all.new.self) c.list_all.ensures.put (listed c.list.new.self)
    (c.list.ensures.put
    ∙ ap (λ (n : Node). put pair_key (listed c.list_all.new.self) (n.key, c.deref-in-Some.result.now.number)) c.deref.ensures
    ∙ ap (λ (n : Node). put pair_key (listed c.list_all.new.self) (c.in-Some.node.value.key, n.number)) c.deref-in-Some.ensures)
    (listed c.list_all-in-Some.new.self) c.list_all-in-Some.ensures.put

pub returns-in_default-clause-put : goal.returns-in_default-clause-put
unfolding put_all
returns-in_default-clause-put t c =
    ap (λ (xs : List Entry). put_all pair_key (listed c.args.self.now) (map pair_of xs)) (sym c.in_default.ensures.parts)
