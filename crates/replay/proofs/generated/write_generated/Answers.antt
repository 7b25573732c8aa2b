use Rattle.std.proofs.Common.{rules}
use Rattle.replay.specs.Generations.{summary_of}
use Rattle.replay.proofs.PlayLemmas.{played_within}
use Rattle.replay.proofs.SummaryLemmas.{summarizes}
use Rattle.replay.proofs.generated.write_generated.Goals as goal

pub returns-in-Ok-write_summary-clause-generates : goal.returns-in-Ok-write_summary-clause-generates
returns-in-Ok-write_summary-clause-generates g c =
    let run = summarizes c.args.seed c.args.count _ c.play-tally.result c.totals-totals.result c.play-tally.ensures c.totals-totals.ensures in
    let written = rw c.in-Ok-write_summary.is at c.write_summary.ensures.ok in
    (summary_of c.play-tally.result c.totals-totals.result, run, written)

pub returns-in-Err-clause-generates : goal.returns-in-Err-clause-generates
returns-in-Err-clause-generates g c =
    let run = summarizes c.args.seed c.args.count _ c.play-tally.result c.totals-totals.result c.play-tally.ensures c.totals-totals.ensures in
    let written = rw c.in-Err.is at c.write_summary.ensures.err in
    (summary_of c.play-tally.result c.totals-totals.result, run, written)

pub totals-totals-requires : goal.totals-totals-requires
totals-totals-requires g c = (search rules, played_within c.args.seed c.args.count _ c.play-tally.result c.play-tally.ensures)
