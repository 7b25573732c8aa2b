-- The parts of a walk are offered, for as long as one may fit.
use Rattle.std.proofs.Common.{◌<◌, arith}
use Rattle.cluster_store.specs.Walks.{shown_part}
use Rattle.block_builder.proofs.Drafting.{next_paid, filled_early}
use Rattle.block_builder.proofs.draft.Draft.fill.Goals as goal

pub offer-requires-clause-pays : goal.offer-requires-clause-pays
offer-requires-clause-pays g c =
    next_paid c.loop-self.self c.args.parts.now c.loop-self.parts c.next.new.self (shown_part c.in-Some.shown) c.loop-self.invariant.so_far
    c.in-Some.ensures.steps c.requires.pays

pub returns-clause-filled : goal.returns-clause-filled
returns-clause-filled g c =
    let low : c.loop-self.self.left < c.args.least = omega arith in
    filled_early c.loop-self.self c.args.parts.now c.loop-self.parts c.args.least c.loop-self.invariant.so_far low c.requires.least
