use Rattle.std.proofs.Common.{lit<, refl}
use Rattle.links.specs.Links.{AreLinks}
use Rattle.record.specs.Changes.{AreJoined}
use Rattle.record.specs.Kept.{unordered}
use Rattle.record.proofs.Keeping.{handed_with}
use Rattle.record.proofs.Merging.{joined_connected, joined_graph, joined_names}
use Rattle.record.proofs.joining.joined_links.Goals as goal

pub over-requires : goal.over-requires
over-requires g c = (
  lit< tt,
  (
    c.requires.width.0,
    (
      c.requires.width.1,
      λ own. joined_connected c.args.one.now c.args.other.now c.in_ok-joined.joined c.args.parent c.args.child c.txs-one.ensures.whole
          c.txs-other.ensures.whole own c.requires.connected.0 c.requires.connected.1 c.requires.apart c.requires.across c.in_ok-joined.ensures.txs
          c.in_ok-joined.ensures.pairs,
    ),
  ),
)

pub returns : goal.returns
returns g c =
    handed_with (AreJoined (unordered c.args.one.now) (unordered c.args.other.now) c.args.parent c.args.child) (AreLinks c.in_ok-joined.joined)
    (unordered c.in_ok-joined.joined) c.over.result c.over.ensures.record c.over.ensures.links
    (λ own. record {
      names =
          joined_names c.args.one.now c.args.other.now c.in_ok-joined.joined c.args.parent c.args.child c.txs-one.ensures.whole
          c.txs-other.ensures.whole own c.requires.connected.0 c.requires.connected.1 c.requires.apart c.requires.across c.in_ok-joined.ensures.txs
          c.in_ok-joined.ensures.pairs;
      graph =
          joined_graph c.args.one.now c.args.other.now c.in_ok-joined.joined c.args.parent c.args.child c.txs-one.ensures.whole
          c.txs-other.ensures.whole own c.requires.connected.0 c.requires.connected.1 c.requires.apart c.requires.across c.in_ok-joined.ensures.txs
          c.in_ok-joined.ensures.pairs;
      connected =
          joined_connected c.args.one.now c.args.other.now c.in_ok-joined.joined c.args.parent c.args.child c.txs-one.ensures.whole
          c.txs-other.ensures.whole own c.requires.connected.0 c.requires.connected.1 c.requires.apart c.requires.across c.in_ok-joined.ensures.txs
          c.in_ok-joined.ensures.pairs;
      none = refl;
    })
