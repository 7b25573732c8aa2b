use Rattle.std.proofs.Common.{◌≡◌, ℕ, List, map, sym, ap, ◌∙◌, subst}
use Rattle.lists.specs.Distinct.{AreDistinct}
use Rattle.links.specs.Links.{AreAmong, AreInRange}
use Rattle.links.specs.Kept.{names_of}
use Rattle.links.specs.Pricing.{priced}
use Rattle.links.proofs.Fees.{fee_read, priced_names, priced_range}
use Rattle.links.proofs.pricing.with_fee.Goals as goal

pub made-requires-clause-once : goal.made-requires-clause-once
made-requires-clause-once c =
    let all : c.in_ok-all.all.items ≡ map (priced c.args.id c.args.fee) c.args.txs.now =
    c.in_ok-all.ensures ∙ fee_read c.args.id c.args.fee c.args.txs.now c.ranges.fee in
    subst AreDistinct (sym (ap names_of all ∙ priced_names c.args.id c.args.fee c.args.txs.now)) c.requires.whole.graph_is.names

pub made-requires-clause-in_range : goal.made-requires-clause-in_range
made-requires-clause-in_range c =
    let all : c.in_ok-all.all.items ≡ map (priced c.args.id c.args.fee) c.args.txs.now =
    c.in_ok-all.ensures ∙ fee_read c.args.id c.args.fee c.args.txs.now c.ranges.fee in
    subst AreInRange (sym all) (priced_range c.args.id c.args.fee c.args.txs.now c.requires.fee c.requires.whole.in_range)

pub made-requires-clause-among : goal.made-requires-clause-among
made-requires-clause-among c =
    let all : c.in_ok-all.all.items ≡ map (priced c.args.id c.args.fee) c.args.txs.now =
    c.in_ok-all.ensures ∙ fee_read c.args.id c.args.fee c.args.txs.now c.ranges.fee in
    subst (λ (ns : List ℕ). AreAmong ns c.args.pairs.now)
    (sym (ap names_of all ∙ priced_names c.args.id c.args.fee c.args.txs.now)) c.requires.whole.graph_is.ends
