use Rattle.std.proofs.Common.{sym, subst}
use Rattle.std.specs.Prelude.{MatchBool}
use Rattle.graphs.specs.Graphs.{IsGraph}
use Rattle.graphs.specs.Certificates.{Txs, graph_of}
use Rattle.links.specs.Kept.{names_of}
use Rattle.links.specs.Links.{AreAmong}
use Rattle.dump_text.proofs.Covering.{whole}
use Rattle.dump_text.proofs.testing.is_text.Goals as goal

pub returns-then-not-graph : goal.returns-then-not-graph
returns-then-not-graph c = λ is.
    let graph = IsGraph (graph_of c.args.txs.now c.args.edges.now) in
    subst (λ b. MatchBool b graph (graph → ⊥)) c.if-not-graph.true c.in_ok-graph.ensures (whole _ is)

pub are_covers-requires-clause-links : goal.are_covers-requires-clause-links
are_covers-requires-clause-links c =
    let graph = IsGraph (graph_of c.args.txs.now c.args.edges.now) in
    let is : graph = subst (λ b. MatchBool b graph (graph → ⊥)) c.if-not-graph.false c.in_ok-graph.ensures in
    record {
      same = c.in_ok-links.ensures.pairs;
      ends = subst (λ (txs : Txs). AreAmong (names_of txs) c.args.edges.now) (sym c.in_ok-links.ensures.txs) is.ends;
    }
