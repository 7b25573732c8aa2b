use Rattle.std.proofs.Common.{◌≡◌, ◌*◌, ◌+◌, ◌-◌, ℕ, List, length, drop, arith, sym, ◌∙◌, subst}
use Rattle.std.proofs.lemmas.List.{length-drop, take_all}
use Rattle.cluster.specs.Covers.{has_chosen, IsFirst}
use Rattle.cluster.proofs.Firsts.{is_found, is_passed}
use Rattle.cluster.proofs.Nearest.{passed_over}
use Rattle.cluster.proofs.covers.look_for.Goals as goal

pub returns-in-Some : goal.returns-in-Some
returns-in-Some g c =
    let names = c.args.names.now in
    let order = c.args.order.now in
    let left : length (drop (c.loop-at.at + 1) order) ≡ length order - (c.loop-at.at + 1) = length-drop (c.loop-at.at + 1) order in
    subst (λ (rest : List ℕ). IsFirst (64 * g.row.W) names order c.args.chosen.now c.in-Some.place rest)
    (sym (take_all (length order - (c.loop-at.at + 1)) (drop (c.loop-at.at + 1) order) (omega (arith, left))))
    (is_found (64 * g.row.W) names order c.args.chosen.now c.requires c.in-Some.place c.in-Some.ensures.0 c.loop-at.at c.loop-at-test.true
    c.in-Some.ensures.1 c.loop-at.invariant)

pub loop-at-preserved : goal.loop-at-preserved
loop-at-preserved g c =
    passed_over (has_chosen c.args.names.now c.args.chosen.now) c.args.order.now c.loop-at.at c.loop-at-test.true
    (is_passed (64 * g.row.W) c.args.names.now c.args.order.now c.args.chosen.now c.requires c.loop-at.at c.loop-at-test.true c.in_default.ensures)
    ∙ c.loop-at.invariant
