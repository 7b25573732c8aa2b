use Rattle.std.proofs.Common.{◌≡◌, ◌↔◌, ◌+◌, ◌∙◌, length}
use Rattle.std.specs.Prelude.{Contains, IsTrue, None}
use Rattle.graphs.specs.Graphs.{IsAncestor, AreConnected}
use Rattle.plain_graph.specs.Sound.{names_of}
use Rattle.plain_graph.specs.Joins.{JoinRefusalIs}
use Rattle.plain_graph.proofs.Entries.{so, not_so}
use Rattle.plain_graph.proofs.Starts.{holds_one, holds_two}
use Rattle.plain_graph.proofs.JoinLemmas.{dep_no_parent, dep_no_child, dep_cycle, dep_join, join_together}
use Rattle.plain_graph.proofs.plain.Plain.refused_dep.Goals as goal

pub returns-then-not-is_live-clause-first : goal.returns-then-not-is_live-clause-first
returns-then-not-is_live-clause-first c =
    let named : IsTrue c.is_live.result ↔ Contains (names_of c.args.self.now.txs) c.args.parent =
    rw (← c.self.view_is) (rw c.deref.ensures.value at c.is_live.ensures.named) in
    dep_no_parent c.args.self.now c.args.parent c.args.child (not_so c.is_live.result named c.if-not-is_live.true)

pub returns-then-not-is_live-2-clause-first : goal.returns-then-not-is_live-2-clause-first
returns-then-not-is_live-2-clause-first c =
    let named : IsTrue c.is_live.result ↔ Contains (names_of c.args.self.now.txs) c.args.parent =
    rw (← c.self.view_is) (rw c.deref.ensures.value at c.is_live.ensures.named) in
    let other : IsTrue c.is_live-2.result ↔ Contains (names_of c.args.self.now.txs) c.args.child =
    rw (← c.self.view_is) (rw c.deref-2.ensures.value at c.is_live-2.ensures.named) in
    dep_no_child c.args.self.now c.args.parent c.args.child (so c.is_live.result named c.if-not-is_live.false)
    (not_so c.is_live-2.result other c.if-not-is_live-2.true)

pub leads-requires : goal.leads-requires
leads-requires c =
    let named : IsTrue c.is_live.result ↔ Contains (names_of c.self.inside.txs.items) c.args.parent = rw c.deref.ensures.value at c.is_live.ensures.named in
    rw c.deref-3.ensures.value
    (holds_one _ c.self.inside.txs.items c.self.inside.pairs.items _ c.args.parent c.self.invariant.sound (so c.is_live.result named c.if-not-is_live.false))

pub returns-then-leads-clause-first : goal.returns-then-leads-clause-first
returns-then-leads-clause-first c =
    let named : IsTrue c.is_live.result ↔ Contains (names_of c.args.self.now.txs) c.args.parent =
    rw (← c.self.view_is) (rw c.deref.ensures.value at c.is_live.ensures.named) in
    let other : IsTrue c.is_live-2.result ↔ Contains (names_of c.args.self.now.txs) c.args.child =
    rw (← c.self.view_is) (rw c.deref-2.ensures.value at c.is_live-2.ensures.named) in
    let walk : IsTrue c.leads.result ↔ IsAncestor c.args.self.now.pairs c.args.child c.args.parent =
    rw (← c.self.view_is) (rw c.deref-3.ensures.value at c.leads.ensures.walk) in
    dep_cycle c.args.self.now c.args.parent c.args.child (so c.is_live.result named c.if-not-is_live.false)
    (so c.is_live-2.result other c.if-not-is_live-2.false) (so c.leads.result walk c.if-leads.true)

pub leads-requires-2 : goal.leads-requires-2
leads-requires-2 c =
    let named : IsTrue c.is_live.result ↔ Contains (names_of c.self.inside.txs.items) c.args.parent = rw c.deref.ensures.value at c.is_live.ensures.named in
    rw (c.deref-4.ensures.value, c.leads.ensures.room)
    (holds_one _ c.self.inside.txs.items c.self.inside.pairs.items _ c.args.parent c.self.invariant.sound (so c.is_live.result named c.if-not-is_live.false))

pub returns-then-leads-2-clause-first : goal.returns-then-leads-2-clause-first
returns-then-leads-2-clause-first c =
    let named : IsTrue c.is_live.result ↔ Contains (names_of c.args.self.now.txs) c.args.parent =
    rw (← c.self.view_is) (rw c.deref.ensures.value at c.is_live.ensures.named) in
    let other : IsTrue c.is_live-2.result ↔ Contains (names_of c.args.self.now.txs) c.args.child =
    rw (← c.self.view_is) (rw c.deref-2.ensures.value at c.is_live-2.ensures.named) in
    let cycle : IsTrue c.leads.result ↔ IsAncestor c.args.self.now.pairs c.args.child c.args.parent =
    rw (← c.self.view_is) (rw c.deref-3.ensures.value at c.leads.ensures.walk) in
    let together : IsTrue c.leads-2.result ↔ AreConnected c.args.self.now.pairs c.args.parent c.args.child =
    rw (← c.self.view_is) (rw c.deref-4.ensures.value at c.leads-2.ensures.walk) in
    dep_join c.args.self.now c.args.parent c.args.child None (so c.is_live.result named c.if-not-is_live.false)
    (so c.is_live-2.result other c.if-not-is_live-2.false)
    (not_so c.leads.result cycle c.if-leads.false)
    (join_together c.args.self.now.limits c.args.self.now.txs c.args.self.now.pairs c.args.parent c.args.child (so c.leads-2.result together c.if-leads-2.true))

pub returns-then-leads-2-clause-ends : goal.returns-then-leads-2-clause-ends
returns-then-leads-2-clause-ends c none =
    let named : IsTrue c.is_live.result ↔ Contains (names_of c.args.self.now.txs) c.args.parent =
    rw (← c.self.view_is) (rw c.deref.ensures.value at c.is_live.ensures.named) in
    let other : IsTrue c.is_live-2.result ↔ Contains (names_of c.args.self.now.txs) c.args.child =
    rw (← c.self.view_is) (rw c.deref-2.ensures.value at c.is_live-2.ensures.named) in
    (so c.is_live.result named c.if-not-is_live.false, so c.is_live-2.result other c.if-not-is_live-2.false)

pub refused_join-requires-clause-room : goal.refused_join-requires-clause-room
refused_join-requires-clause-room c =
    let named : IsTrue c.is_live.result ↔ Contains (names_of c.self.inside.txs.items) c.args.parent = rw c.deref.ensures.value at c.is_live.ensures.named in
    let other : IsTrue c.is_live-2.result ↔ Contains (names_of c.self.inside.txs.items) c.args.child =
    rw c.deref-2.ensures.value at c.is_live-2.ensures.named in
    let room : length c.leads-2.new.found.ids + c.leads-2.new.found.room ≡ length c.self.inside.found.ids + c.self.inside.found.room =
    c.leads-2.ensures.room ∙ c.leads.ensures.room in
    rw (c.deref-6.ensures.value, room) (holds_two _ c.self.inside.txs.items c.self.inside.pairs.items _ c.args.parent c.args.child c.self.invariant.sound
    (so c.is_live.result named c.if-not-is_live.false) (so c.is_live-2.result other c.if-not-is_live-2.false))

pub returns-clause-first : goal.returns-clause-first
returns-clause-first c =
    let named : IsTrue c.is_live.result ↔ Contains (names_of c.args.self.now.txs) c.args.parent =
    rw (← c.self.view_is) (rw c.deref.ensures.value at c.is_live.ensures.named) in
    let other : IsTrue c.is_live-2.result ↔ Contains (names_of c.args.self.now.txs) c.args.child =
    rw (← c.self.view_is) (rw c.deref-2.ensures.value at c.is_live-2.ensures.named) in
    let cycle : IsTrue c.leads.result ↔ IsAncestor c.args.self.now.pairs c.args.child c.args.parent =
    rw (← c.self.view_is) (rw c.deref-3.ensures.value at c.leads.ensures.walk) in
    let join : JoinRefusalIs c.args.self.now.limits c.args.self.now.txs c.args.self.now.pairs c.args.parent c.args.child c.refused_join.result =
    rw (← c.self.view_is) (rw (c.deref-5.ensures.value, c.deref-6.ensures.value) at c.refused_join.ensures.first) in
    dep_join c.args.self.now c.args.parent c.args.child c.refused_join.result
    (so c.is_live.result named c.if-not-is_live.false) (so c.is_live-2.result other c.if-not-is_live-2.false)
    (not_so c.leads.result cycle c.if-leads.false) join

pub returns-clause-ends : goal.returns-clause-ends
returns-clause-ends c none =
    let named : IsTrue c.is_live.result ↔ Contains (names_of c.args.self.now.txs) c.args.parent =
    rw (← c.self.view_is) (rw c.deref.ensures.value at c.is_live.ensures.named) in
    let other : IsTrue c.is_live-2.result ↔ Contains (names_of c.args.self.now.txs) c.args.child =
    rw (← c.self.view_is) (rw c.deref-2.ensures.value at c.is_live-2.ensures.named) in
    (so c.is_live.result named c.if-not-is_live.false, so c.is_live-2.result other c.if-not-is_live-2.false)
