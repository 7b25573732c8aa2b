use Rattle.std.proofs.Common.{◌∙◌, sym, refl, take}
use Rattle.replay.proofs.CutLemmas.{feed_later}
use Rattle.replay.proofs.lines.feed_behind.Goals as goal

pub returns-in-Some : goal.returns-in-Some
returns-in-Some c =
    let found = c.in-Some.ensures.found in
    feed_later c.args.bytes.now (take c.args.from c.args.bytes.now) c.in-Some.line.now _ c.args.from refl c.requires.within c.requires.none
    (sym c.split_at.ensures.back ∙ found.0) found.1
