use Rattle.std.proofs.Common.{◌≡◌, ℕ, List, ◌++◌, sym, subst}
use Rattle.std.specs.Prelude.{IfOk}
use Rattle.graphs.specs.Certificates.{Txs}
use Rattle.links.specs.Kept.{names_of}
use Rattle.links.specs.Pairs.{AreAcross, AreSplit, HasMore}
use Rattle.links.proofs.Composing.{as_read}
use Rattle.links.proofs.links.Links.joined.Goals as goal

pub joined-requires-clause-whole : goal.joined-requires-clause-whole
joined-requires-clause-whole c = as_read c.args.self.now c.txs.result.now c.pairs.result.now c.txs.ensures.txs c.pairs.ensures c.txs.ensures.whole

pub joined-requires-clause-other_whole : goal.joined-requires-clause-other_whole
joined-requires-clause-other_whole c =
    as_read c.args.other.now c.txs-2.result.now c.pairs-2.result.now c.txs-2.ensures.txs c.pairs-2.ensures c.txs-2.ensures.whole

pub joined-requires-clause-apart : goal.joined-requires-clause-apart
joined-requires-clause-apart c =
    subst (λ (ts : Txs). AreSplit (names_of ts) (names_of c.txs-2.result.now)) (sym c.txs.ensures.txs)
    (subst (λ (ts : Txs). AreSplit (names_of c.args.self.now.txs) (names_of ts)) (sym c.txs-2.ensures.txs) c.requires.apart)

pub joined-requires-clause-across : goal.joined-requires-clause-across
joined-requires-clause-across c =
    subst (λ (ts : Txs). AreAcross (names_of ts) (names_of c.txs-2.result.now) c.args.parent c.args.child) (sym c.txs.ensures.txs)
    (subst (λ (ts : Txs). AreAcross (names_of c.args.self.now.txs) (names_of ts) c.args.parent c.args.child) (sym c.txs-2.ensures.txs) c.requires.across)

pub returns-clause-txs : goal.returns-clause-txs
returns-clause-txs c =
    subst (λ (ts : Txs). IfOk c.joined.result (λ links. links.txs ≡ ts ++ c.args.other.now.txs)) c.txs.ensures.txs
    (subst (λ (ts : Txs). IfOk c.joined.result (λ links. links.txs ≡ c.txs.result.now ++ ts)) c.txs-2.ensures.txs c.joined.ensures.txs)

pub returns-clause-pairs : goal.returns-clause-pairs
returns-clause-pairs c =
    subst (λ (ps : List (ℕ × ℕ)). IfOk c.joined.result (λ links. HasMore (ps ++ c.args.other.now.pairs) links.pairs (c.args.parent, c.args.child)))
    c.pairs.ensures
    (subst (λ (ps : List (ℕ × ℕ)). IfOk c.joined.result (λ links. HasMore (c.pairs.result.now ++ ps) links.pairs (c.args.parent, c.args.child)))
    c.pairs-2.ensures c.joined.ensures.pairs)
