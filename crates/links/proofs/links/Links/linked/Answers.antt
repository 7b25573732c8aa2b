use Rattle.std.proofs.Common.{◌≡◌, ℕ, List, sym, subst}
use Rattle.std.specs.Prelude.{Contains, IfOk}
use Rattle.graphs.specs.Graphs.{IsAncestor}
use Rattle.graphs.specs.Certificates.{Txs}
use Rattle.links.specs.Kept.{names_of}
use Rattle.links.specs.Pairs.{HasMore}
use Rattle.links.proofs.Composing.{as_read}
use Rattle.links.proofs.links.Links.linked.Goals as goal

pub linked-requires-clause-whole : goal.linked-requires-clause-whole
linked-requires-clause-whole c = as_read c.args.self.now c.txs.result.now c.pairs.result.now c.txs.ensures.txs c.pairs.ensures c.txs.ensures.whole

pub linked-requires-clause-parent : goal.linked-requires-clause-parent
linked-requires-clause-parent c = subst (λ (ts : Txs). Contains (names_of ts) c.args.parent) (sym c.txs.ensures.txs) c.requires.parent

pub linked-requires-clause-child : goal.linked-requires-clause-child
linked-requires-clause-child c = subst (λ (ts : Txs). Contains (names_of ts) c.args.child) (sym c.txs.ensures.txs) c.requires.child

pub linked-requires-clause-no_cycle : goal.linked-requires-clause-no_cycle
linked-requires-clause-no_cycle c walk =
    c.requires.no_cycle (subst (λ (ps : List (ℕ × ℕ)). IsAncestor ps c.args.child c.args.parent) c.pairs.ensures walk)

pub returns-clause-txs : goal.returns-clause-txs
returns-clause-txs c = subst (λ (ts : Txs). IfOk c.linked.result (λ links. links.txs ≡ ts)) c.txs.ensures.txs c.linked.ensures.txs

pub returns-clause-pairs : goal.returns-clause-pairs
returns-clause-pairs c =
    subst (λ (ps : List (ℕ × ℕ)). IfOk c.linked.result (λ links. HasMore ps links.pairs (c.args.parent, c.args.child))) c.pairs.ensures c.linked.ensures.pairs
