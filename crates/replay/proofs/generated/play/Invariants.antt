use Rattle.std.proofs.Common.{◌≡◌, ◌+◌, ◌-◌, ◌*◌, ◌≤◌}
use Rattle.replay.proofs.PlayLemmas.{Playing}
use Rattle.replay.proofs.generated.play.Given as goal

-- so far k commands were answered, and counted
abbrev pub invariant-commands : goal.invariant-commands
invariant-commands l = record {
  playing : Playing l.fn.seed l.fn.count l.session l.tally l.generator l.k;
  few : l.session.graph.levels.issued ≤ 32766 * l.k;
  all : l.tally.accepted + l.tally.refused + l.tally.memory ≡ l.k;
  within : l.k ≤ l.fn.count;
}

abbrev pub decreases-commands : goal.decreases-commands
decreases-commands l = l.fn.count - l.k
