use Rattle.std.proofs.Common.{◌≡◌, Some, sym, ap, ◌∙◌, arith}
use Rattle.chunk_index.specs.declared.entry.Tag.{Tag}
use Rattle.chunk_index.specs.declared.entry.Tag.TheVariants.{Both, MainOnly, TopOnly}
use Rattle.chunk_index.specs.Keys.{key_of}
use Rattle.chunk_index.specs.Items.{found}
use Rattle.chunk_index.specs.Numbers.{listed, count}
use Rattle.chunk_index.specs.Spares.{kept, room}
use Rattle.chunk_index.proofs.Fresh.{tag-same}
use Rattle.chunk_index.proofs.Kept.{main-order, top-order, apart}
use Rattle.chunk_index.proofs.Lists.{without_absent}
use Rattle.chunk_index.proofs.Pairs.{listed_length}
use Rattle.chunk_index.proofs.Trees.{is_main, is_top}
use Rattle.chunk_index.proofs.Whole.{index-order, main_old, has_number, told_listed, share-items, share-index, list-items, list-index}
use Rattle.chunk_index.proofs.index.ChunkIndex.share.Goals as goal

pub take_out-requires-clause-order : goal.take_out-requires-clause-order
take_out-requires-clause-order c = main-order c.self.invariant.listed

pub take_out-requires-clause-there : goal.take_out-requires-clause-there
take_out-requires-clause-there c =
    let k = c.args.key.now in
    let n = c.requires.0 in
    let at : found c.args.self.now k ≡ Some (n, MainOnly) = c.requires.1 ∙ ap (λ (t : Tag). Some (n, t)) c.in-MainOnly.is in
    let old = main_old c.self.invariant c.self.view_is k n at in
    is_main c.self.inside.main c.self.inside.top k (told_listed c.self.invariant c.self.view_is k n MainOnly at old)

pub invariant_of-self : goal.invariant_of-self
invariant_of-self c =
    let k = c.args.key.now in
    let n = c.requires.0 in
    let at : found c.args.self.now k ≡ Some (n, MainOnly) = c.requires.1 ∙ ap (λ (t : Tag). Some (n, t)) c.in-MainOnly.is in
    let old = main_old c.self.invariant c.self.view_is k n at in
    let tag = told_listed c.self.invariant c.self.view_is k n MainOnly at old in
    share-index c.self.invariant c.self.view_is k n MainOnly at old c.take_out.new.tree c.self.inside.top (kept c.give.new.self) (room c.give.new.self)
    c.take_out.ensures.without (sym (without_absent key_of c.self.inside.top k (apart c.self.invariant.listed k tag)))
    (omega (arith, c.take_out.ensures.shorter, c.give.ensures.kept)) c.give.ensures.room

pub take_out-requires-in-None-clause-order : goal.take_out-requires-in-None-clause-order
take_out-requires-in-None-clause-order c = top-order c.self.invariant.listed

pub take_out-requires-in-None-clause-there : goal.take_out-requires-in-None-clause-there
take_out-requires-in-None-clause-there c =
    let k = c.args.key.now in
    let n = c.requires.0 in
    let at : found c.args.self.now k ≡ Some (n, TopOnly) = c.requires.1 ∙ ap (λ (t : Tag). Some (n, t)) c.in-TopOnly.is in
    (is_top c.self.inside.main c.self.inside.top k (told_listed c.self.invariant c.self.view_is k n TopOnly at (sym c.in-None.ensures))).1

pub invariant_of-self-in-None : goal.invariant_of-self-in-None
invariant_of-self-in-None c =
    let k = c.args.key.now in
    let n = c.requires.0 in
    let at : found c.args.self.now k ≡ Some (n, TopOnly) = c.requires.1 ∙ ap (λ (t : Tag). Some (n, t)) c.in-TopOnly.is in
    let old = sym c.in-None.ensures in
    let tag = told_listed c.self.invariant c.self.view_is k n TopOnly at old in
    share-index c.self.invariant c.self.view_is k n TopOnly at old c.self.inside.main c.take_out-in-None.new.tree (kept c.give-in-None.new.self)
    (room c.give-in-None.new.self) (sym (without_absent key_of c.self.inside.main k (is_top c.self.inside.main c.self.inside.top k tag).0))
    c.take_out-in-None.ensures.without (omega (arith, c.take_out-in-None.ensures.shorter, c.give-in-None.ensures.kept)) c.give-in-None.ensures.room

pub take_out-node-requires-clause-there : goal.take_out-node-requires-clause-there
take_out-node-requires-clause-there c =
    has_number c.self.invariant c.self.view_is c.args.key.now c.in-Some.number (sym c.in-Some.ensures)

pub list-requires-clause-absent : goal.list-requires-clause-absent
list-requires-clause-absent c =
    c.self.invariant.apart c.args.key.now (has_number c.self.invariant c.self.view_is c.args.key.now c.in-Some.number (sym c.in-Some.ensures))

pub invariant_of-self-in-Some : goal.invariant_of-self-in-Some
invariant_of-self-in-Some c =
    let is = c.self.invariant.listed in
    let fresh = sym c.in-Some.ensures in
    let l = c.list.new.self in
    list-index c.self.invariant c.self.view_is c.args.key.now c.requires.0 c.args.tag c.requires.1 c.in-Some.number fresh
    (has_number c.self.invariant c.self.view_is c.args.key.now c.in-Some.number fresh) c.take_out-node.new.tree c.take_out-node.ensures.without
    (listed l) c.list.ensures.put (count l) (kept c.self.inside.spares) (room c.self.inside.spares) (listed_length l.map.entries l.late l.map_order)
    (omega (arith, is.nodes, c.list.ensures.more, c.take_out-node.ensures.shorter))
    (omega (arith, is.fits, c.take_out-node.ensures.shorter))

pub returns-in-Both : goal.returns-in-Both
returns-in-Both c =
    let n = c.requires.0 in
    sym (tag-same c.args.self.now c.args.key.now n Both (index-order c.self.invariant c.self.view_is)
    (c.requires.1 ∙ ap (λ (t : Tag). Some (n, t)) c.in-Both.is))

pub returns-in-MainOnly : goal.returns-in-MainOnly
returns-in-MainOnly c =
    let k = c.args.key.now in
    let n = c.requires.0 in
    let at : found c.args.self.now k ≡ Some (n, MainOnly) = c.requires.1 ∙ ap (λ (t : Tag). Some (n, t)) c.in-MainOnly.is in
    let old = main_old c.self.invariant c.self.view_is k n at in
    let tag = told_listed c.self.invariant c.self.view_is k n MainOnly at old in
    share-items c.self.invariant c.self.view_is k n MainOnly at old c.take_out.new.tree c.self.inside.top c.take_out.ensures.without
    (sym (without_absent key_of c.self.inside.top k (apart c.self.invariant.listed k tag)))

pub returns-in-None : goal.returns-in-None
returns-in-None c =
    let k = c.args.key.now in
    let n = c.requires.0 in
    let at : found c.args.self.now k ≡ Some (n, TopOnly) = c.requires.1 ∙ ap (λ (t : Tag). Some (n, t)) c.in-TopOnly.is in
    let old = sym c.in-None.ensures in
    let tag = told_listed c.self.invariant c.self.view_is k n TopOnly at old in
    share-items c.self.invariant c.self.view_is k n TopOnly at old c.self.inside.main c.take_out-in-None.new.tree
    (sym (without_absent key_of c.self.inside.main k (is_top c.self.inside.main c.self.inside.top k tag).0)) c.take_out-in-None.ensures.without

pub returns-in-Some : goal.returns-in-Some
returns-in-Some c =
    let fresh = sym c.in-Some.ensures in
    list-items c.self.invariant c.self.view_is c.args.key.now c.requires.0 c.args.tag c.requires.1 c.in-Some.number fresh
    (has_number c.self.invariant c.self.view_is c.args.key.now c.in-Some.number fresh) c.take_out-node.new.tree c.take_out-node.ensures.without
    (listed c.list.new.self) c.list.ensures.put
