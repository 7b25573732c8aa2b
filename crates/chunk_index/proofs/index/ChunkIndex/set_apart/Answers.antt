use Rattle.std.proofs.Common.{sym, ap, ◌∙◌, arith}
use Rattle.chunk_index.specs.declared.entry.Tag.{Tag}
use Rattle.chunk_index.specs.declared.entry.Tag.TheVariants.{Both}
use Rattle.chunk_index.specs.Items.{tag_set}
use Rattle.chunk_index.specs.Kept.{entry_from}
use Rattle.chunk_index.specs.Spares.{kept, room}
use Rattle.chunk_index.proofs.Fresh.{tag-same}
use Rattle.chunk_index.proofs.Kept.{main-order, top-order}
use Rattle.chunk_index.proofs.Whole.{index-order, a_node, lacks_main, lacks_top, main_only-items, main_only-index, top_only-items, top_only-index}
use Rattle.chunk_index.proofs.index.ChunkIndex.set_apart.Goals as goal

pub take-requires : goal.take-requires
take-requires c =
    let node = a_node c.self.invariant c.self.view_is (entry_from c.args.key c.args.number) c.requires in
    omega (arith, node, c.self.invariant.listed.nodes)

pub put_in-requires-clause-order : goal.put_in-requires-clause-order
put_in-requires-clause-order c = main-order c.self.invariant.listed

pub put_in-requires-clause-absent : goal.put_in-requires-clause-absent
put_in-requires-clause-absent c = lacks_main c.self.invariant c.self.view_is (entry_from c.args.key c.args.number) c.requires

pub invariant_of-self : goal.invariant_of-self
invariant_of-self c =
    main_only-index c.self.invariant c.self.view_is (entry_from c.args.key c.args.number) c.requires c.put_in.new.tree (kept c.take.new.self)
    (room c.take.new.self) c.put_in.ensures.put c.put_in.ensures.longer c.take.ensures.kept c.take.ensures.room

pub take-requires-in-TopOnly : goal.take-requires-in-TopOnly
take-requires-in-TopOnly c =
    let node = a_node c.self.invariant c.self.view_is (entry_from c.args.key c.args.number) c.requires in
    omega (arith, node, c.self.invariant.listed.nodes)

pub put_in-requires-in-TopOnly-clause-order : goal.put_in-requires-in-TopOnly-clause-order
put_in-requires-in-TopOnly-clause-order c = top-order c.self.invariant.listed

pub put_in-requires-in-TopOnly-clause-absent : goal.put_in-requires-in-TopOnly-clause-absent
put_in-requires-in-TopOnly-clause-absent c = lacks_top c.self.invariant c.self.view_is (entry_from c.args.key c.args.number) c.requires

pub invariant_of-self-in-TopOnly : goal.invariant_of-self-in-TopOnly
invariant_of-self-in-TopOnly c =
    top_only-index c.self.invariant c.self.view_is (entry_from c.args.key c.args.number) c.requires c.put_in-in-TopOnly.new.tree
    (kept c.take-in-TopOnly.new.self) (room c.take-in-TopOnly.new.self) c.put_in-in-TopOnly.ensures.put c.put_in-in-TopOnly.ensures.longer
    c.take-in-TopOnly.ensures.kept c.take-in-TopOnly.ensures.room

pub returns-in-Both : goal.returns-in-Both
returns-in-Both c =
    sym (tag-same c.args.self.now c.args.key c.args.number Both (index-order c.self.invariant c.self.view_is) c.requires)
    ∙ ap (λ (t : Tag). tag_set c.args.self.now c.args.key t) (sym c.in-Both.is)

pub returns-in-MainOnly : goal.returns-in-MainOnly
returns-in-MainOnly c =
    main_only-items c.self.invariant c.self.view_is (entry_from c.args.key c.args.number) c.requires c.put_in.new.tree c.put_in.ensures.put
    ∙ ap (λ (t : Tag). tag_set c.args.self.now c.args.key t) (sym c.in-MainOnly.is)

pub returns-in-TopOnly : goal.returns-in-TopOnly
returns-in-TopOnly c =
    top_only-items c.self.invariant c.self.view_is (entry_from c.args.key c.args.number) c.requires c.put_in-in-TopOnly.new.tree
    c.put_in-in-TopOnly.ensures.put
    ∙ ap (λ (t : Tag). tag_set c.args.self.now c.args.key t) (sym c.in-TopOnly.is)
