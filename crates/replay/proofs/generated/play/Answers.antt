use Rattle.std.proofs.Common.{◌+◌, ◌<◌, [], sym, subst, arith}
use Rattle.graph_model.specs.Generators.{drawn_command}
use Rattle.replay.proofs.PlayLemmas.{Playing, playing_nothing, play_on, played_all}
use Rattle.replay.proofs.generated.play.Goals as goal

pub commands-init : goal.commands-init
commands-init c =
    let first = playing_nothing c.args.seed c.args.count c.args.session.now c.new-tally.result c.requires.fresh c.new-tally.ensures.tally in
    let none = c.requires.none_added in record {
      playing = subst (λ x. Playing c.args.seed c.args.count c.args.session.now c.new-tally.result x 0) (sym c.new-generator.ensures) first;
      few = omega (arith, none);
      all = c.new-tally.ensures.all;
      within = omega arith;
    }

pub commands-preserved : goal.commands-preserved
commands-preserved c =
    let k = c.commands.k in
    let x = c.commands.generator in
    let made = c.obey-outcome.ensures.step (drawn_command (k + 1) x).0 (c.next-line.ensures.command []) in
    let so_far = c.commands.invariant in
    let few = so_far.few in
    let all = so_far.all in
    let added = c.obey-outcome.ensures.additions in
    let counted = c.count.ensures.all in
    let below : k < c.args.count = omega arith in
    let on = play_on c.args.seed c.args.count c.commands.session c.obey-outcome.new.session c.commands.tally c.count.new.self x k made.0 below so_far.playing
    made.1 (λ replies is. c.count.ensures.tally replies made.0 is made.2) in record {
      playing = subst (λ y. Playing c.args.seed c.args.count c.obey-outcome.new.session c.count.new.self y (k + 1)) (sym c.next-line.ensures.state) on;
      few = omega (arith, few, added);
      all = omega (arith, all, counted);
      within = omega (arith, below);
    }

pub returns : goal.returns
returns c =
    played_all c.args.seed c.args.count c.commands.session c.commands.tally c.commands.generator c.commands.k (omega arith) c.commands.invariant.playing
