use Rattle.std.proofs.Common.{ℕ, ◌*◌, arith}
use Rattle.closure_flow.specs.Views.{shown_in}
use Rattle.closure_flow.proofs.Networks.{network_fits, words_fit}
use Rattle.closure_flow.proofs.Shown.{balanced_shown}
use Rattle.closure_flow.proofs.TightSets.{allowed, apart_of_empty, least_tight}
use Rattle.closure_flow.proofs.tight_sets.tight.Goals as goal

pub draw-requires : goal.draw-requires
draw-requires g c =
    let n : ℕ = 64 * g.row.W in
    let net = c.scratch.inside.network in
    let weights = c.requires.balanced.0 in
    let balanced = balanced_shown n weights _ _ net.within net.into.items net.amounts.items _ _ net.lean net.inside c.scratch.view_is
    c.requires.balanced.1 in (
      network_fits g.row.W _ _ _ net.sized,
      (
        omega arith,
        (
          words_fit g.row.W _ _ _ net.sized,
          (
            c.count-places.ensures.within,
            (
              c.requires.parents,
              (c.requires.place, allowed n weights _ _ (shown_in net) c.count-places.ensures.within balanced),
            ),
          ),
        ),
      ),
    )

pub returns-clause-least : goal.returns-clause-least
returns-clause-least g c weights balances =
    let n : ℕ = 64 * g.row.W in
    let net = c.scratch.inside.network in
    let d = c.draw.ensures in
    least_tight n weights _ _ (shown_in net) c.count-places.ensures.within
    (balanced_shown n weights _ _ net.within net.into.items net.amounts.items _ _ net.lean net.inside c.scratch.view_is balances)
    c.args.place c.draw.result
    (d.drawn (apart_of_empty c.draw.result c.empty.result c.empty.ensures))
    d.holds d.least

pub returns-clause-steps : goal.returns-clause-steps
returns-clause-steps g c = c.draw.ensures.all_taken (apart_of_empty c.draw.result c.empty.result c.empty.ensures)
