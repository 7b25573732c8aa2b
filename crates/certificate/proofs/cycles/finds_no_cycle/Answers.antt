use Rattle.std.proofs.Common.{arith, sym, subst}
use Rattle.places.specs.Chains.{AreWithin}
use Rattle.certificate.proofs.Searching.{search_all}
use Rattle.certificate.proofs.cycles.finds_no_cycle.Goals as goal

pub returns : goal.returns
returns c =
    let size = c.loop-place.invariant.0 in
    search_all c.args.pairs.now _ c.loop-place.search.visits.items _ c.loop-place.invariant.2
    (subst (λ n. AreWithin n c.args.pairs.now) (sym size) c.requires.pairs_in) (λ k less. c.loop-place.invariant.3 k (omega arith))
