use Rattle.std.proofs.Common.{rules, take, drop, take-append-drop}
use Rattle.outside.proofs.std_io.WriteSinkSink.write.Goals as goal

pub returns-in-Err-flush-clause-failed : goal.returns-in-Err-flush-clause-failed
returns-in-Err-flush-clause-failed g c =
    let count = c.in-Ok.count in
    let piece = c.args.piece.now in
    (take count piece, (drop count piece, take-append-drop count piece), search rules)
