use Rattle.std.proofs.Common.{subst, List, ℕ}
use Rattle.std.specs.Prelude.{OnOk}
use Rattle.graphs.specs.Certificates.{Txs, Certified, NoFlow, Finds}
use Rattle.certificate.specs.Parts.{parts_of}
use Rattle.certificate.proofs.checker.check.Goals as goal

pub returns-clause-yes : goal.returns-clause-yes
returns-clause-yes c =
    subst (λ (t : Txs). OnOk c.check_lists.result (Finds t c.args.graph.now.edges (parts_of c.args.parts.now) Certified)) c.as_slice-txs.ensures
    (subst (λ (e : List (ℕ × ℕ)). OnOk c.check_lists.result (Finds c.as_slice-txs.result.now e (parts_of c.args.parts.now) Certified))
    c.as_slice-edges.ensures c.check_lists.ensures.yes)

pub returns-clause-flow : goal.returns-clause-flow
returns-clause-flow c r =
    subst (λ (t : Txs). Finds t c.args.graph.now.edges (parts_of c.args.parts.now) NoFlow) c.as_slice-txs.ensures
    (subst (λ (e : List (ℕ × ℕ)). Finds c.as_slice-txs.result.now e (parts_of c.args.parts.now) NoFlow) c.as_slice-edges.ensures (c.check_lists.ensures.flow r))
