use Rattle.std.proofs.Common.{◌*◌}
use Rattle.cluster.proofs.Lone.{lone_made}
use Rattle.cluster.proofs.Kept.{place_member}
use Rattle.cluster.proofs.making.ordered.Goals as goal

pub returns-then-names-eq1-clause-order : goal.returns-then-names-eq1-clause-order
returns-then-names-eq1-clause-order g c =
    lone_made (64 * g.row.W) c.args.names.now c.args.dep.now c.rate.result c.lone.result c.requires.named
    c.if-names-eq1.true c.rate.ensures c.lone.ensures.names c.lone.ensures.parts c.lone.ensures.flows

pub bounds-names-0 : goal.bounds-names-0
bounds-names-0 g c = c.requires.named.some

pub rate-requires : goal.rate-requires
rate-requires g c = (search, place_member (64 * g.row.W) c.args.names.now c.args.dep.now c.requires.named 0 c.requires.named.some)

pub solved-requires : goal.solved-requires
solved-requires g c = (search, (search, (c.requires.named, c.requires.known)))

pub returns-clause-steps : goal.returns-clause-steps
returns-clause-steps g c = c.solved.ensures.steps

pub returns-clause-alone : goal.returns-clause-alone
returns-clause-alone g c is = absurd (c.if-names-eq1.false is)
