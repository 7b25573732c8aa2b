use Rattle.std.proofs.Common.{subst, sym}
use Rattle.std.specs.Prelude.{MatchBool}
use Rattle.graphs.specs.Graphs.{HasNoCycle}
use Rattle.certificate.specs.Tables.{names_of}
use Rattle.certificate.proofs.GraphLemmas.{pairs_acyclic, is_graph}
use Rattle.certificate.proofs.graph.tables_of.Goals as goal

pub returns-then-not-acyclic : goal.returns-then-not-acyclic
returns-then-not-acyclic c =
    let tables = c.if-not-are_listed.ensures.1 in
    let cycle = subst (λ b. MatchBool b (HasNoCycle c.as_slice.result.now) (HasNoCycle c.as_slice.result.now → ⊥)) c.if-not-acyclic.true
    c.in_ok-acyclic.ensures in
    λ g. cycle (subst HasNoCycle (sym c.as_slice.ensures.value) (pairs_acyclic (names_of c.args.txs.now) c.args.edges.now _ tables.pairs g.acyclic))

pub returns : goal.returns
returns c =
    let listed = c.if-not-are_listed.ensures in
    let none = subst (λ b. MatchBool b (HasNoCycle c.as_slice.result.now) (HasNoCycle c.as_slice.result.now → ⊥)) c.if-not-acyclic.false
    c.in_ok-acyclic.ensures in
    (is_graph c.args.txs.now _ c.args.edges.now _ listed.1.places listed.1.pairs listed.0 (subst HasNoCycle c.as_slice.ensures.value none), listed.1)
