use Rattle.std.proofs.Common.{◌↔◌, refl, inl}
use Rattle.std.specs.Prelude.{Contains, IsTrue}
use Rattle.graphs.specs.Graphs.{Lists}
use Rattle.plain_graph.specs.Sound.{names_of}
use Rattle.plain_graph.specs.Overs.{IsOver}
use Rattle.plain_graph.proofs.Readings.{walk_over, walk_found}
use Rattle.plain_graph.specs.Walks.{Reaches}
use Rattle.plain_graph.proofs.Entries.{so, not_so}
use Rattle.plain_graph.proofs.Starts.{distinct_one, holds_one, lists_from_one}
use Rattle.plain_graph.proofs.plain.Plain.walk.Goals as goal

pub returns-then-not-is_live-clause-found : goal.returns-then-not-is_live-clause-found
returns-then-not-is_live-clause-found c =
    let named : IsTrue c.is_live.result ↔ Contains (names_of c.args.self.now.txs) c.args.id =
    rw (← c.self.view_is) (rw c.deref.ensures.value at c.is_live.ensures.named) in
    inl (not_so c.is_live.result named c.if-not-is_live.true, refl)

pub returns-then-self-clause-found : goal.returns-then-self-clause-found
returns-then-self-clause-found c =
    let named : IsTrue c.is_live.result ↔ Contains (names_of c.args.self.now.txs) c.args.id =
    rw (← c.self.view_is) (rw c.deref.ensures.value at c.is_live.ensures.named) in
    walk_over c.args.self.now c.args.id (so c.is_live.result named c.if-not-is_live.false)
    (rw (← c.self.view_is) (so c.self.inside.over c.self.invariant.noted c.if-self.true))

pub reach-requires-clause-room : goal.reach-requires-clause-room
reach-requires-clause-room c =
    let named : IsTrue c.is_live.result ↔ Contains (names_of c.self.inside.txs.items) c.args.id = rw c.deref.ensures.value at c.is_live.ensures.named in
    rw c.deref-2.ensures.value
    (holds_one _ c.self.inside.txs.items c.self.inside.pairs.items _ c.args.id c.self.invariant.sound (so c.is_live.result named c.if-not-is_live.false))

pub reach-requires-clause-distinct : goal.reach-requires-clause-distinct
reach-requires-clause-distinct c = distinct_one c.args.id

pub returns-clause-found : goal.returns-clause-found
returns-clause-found c =
    let named : IsTrue c.is_live.result ↔ Contains (names_of c.args.self.now.txs) c.args.id =
    rw (← c.self.view_is) (rw c.deref.ensures.value at c.is_live.ensures.named) in
    let lists : Lists (Reaches c.args.way c.self.inside.pairs.items c.args.id) c.reach.new.found.ids =
    lists_from_one c.args.way c.self.inside.pairs.items c.args.id c.reach.new.found.ids (rw c.deref-2.ensures.value at c.reach.ensures.lists) in
    let over : IsOver c.args.self.now.limits c.args.self.now.txs c.args.self.now.pairs → ⊥ =
    rw (← c.self.view_is) (not_so c.self.inside.over c.self.invariant.noted c.if-self.false) in
    (walk_found c.args.self.now c.args.id (so c.is_live.result named c.if-not-is_live.false) over, rw (← c.self.view_is) lists)
