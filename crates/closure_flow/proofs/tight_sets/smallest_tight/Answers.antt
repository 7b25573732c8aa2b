use Rattle.std.proofs.Common.{ℕ, ◌*◌, arith}
use Rattle.closure_flow.specs.Scratches.{flow_of}
use Rattle.closure_flow.specs.Views.{shown_in}
use Rattle.closure_flow.proofs.Networks.{network_fits, words_fit}
use Rattle.closure_flow.proofs.Shown.{balanced_shown}
use Rattle.closure_flow.proofs.TightSets.{allowed, seeking_one, seeking_start, smallest_tight}
use Rattle.closure_flow.proofs.tight_sets.smallest_tight.Goals as goal

pub returns-clause-smallest : goal.returns-clause-smallest
returns-clause-smallest g c weights balances =
    let n : ℕ = 64 * g.row.W in
    let net = c.scratch.inside.network in
    smallest_tight n weights _ _ (shown_in net) c.count.ensures.within
    (balanced_shown n weights _ _ net.within net.into.items net.amounts.items _ _ net.lean net.inside c.scratch.view_is balances)
    c.fewest.result c.fewest.ensures.fewest

pub fewest-requires : goal.fewest-requires
fewest-requires g c =
    let n : ℕ = 64 * g.row.W in
    let net = c.scratch.inside.network in
    let weights = c.requires.balanced.0 in
    let balanced = balanced_shown n weights _ _ net.within net.into.items net.amounts.items _ _ net.lean net.inside c.scratch.view_is
    c.requires.balanced.1 in (
      network_fits g.row.W _ _ _ net.sized,
      (
        omega arith,
        (
          words_fit g.row.W _ _ _ net.sized,
          (c.requires.some, (c.count.ensures.within, (c.requires.parents, allowed n weights _ _ (shown_in net) c.count.ensures.within balanced))),
        ),
      ),
    )

pub returns-then-count-eq1-clause-smallest : goal.returns-then-count-eq1-clause-smallest
returns-then-count-eq1-clause-smallest g c weights balances =
    let n : ℕ = 64 * g.row.W in
    let below = c.count.ensures.within in
    smallest_tight n weights _ _ (flow_of c.args.scratch.now) below balances c.args.within
    (seeking_one n _ _ (flow_of c.args.scratch.now) below _ _
    (seeking_start n _ _ (flow_of c.args.scratch.now) below c.requires.some (allowed n weights _ _ (flow_of c.args.scratch.now) below balances))
    (omega (arith, c.count.ensures.exact, c.if-count-eq1.true)))
