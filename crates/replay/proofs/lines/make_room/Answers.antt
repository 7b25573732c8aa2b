use Rattle.std.proofs.Common.{inl, inr, ap, length, arith}
use Rattle.replay.proofs.CutLemmas.{dropped}
use Rattle.replay.proofs.lines.make_room.Goals as goal

pub returns-then-long-clause-kept : goal.returns-then-long-clause-kept
returns-then-long-clause-kept c rest ends =
    dropped c.args.long c.args.window.now.held c.clear.new.self.held rest c.clear.ensures.held c.requires (inl c.if-long.true) ends

pub returns-clause-kept : goal.returns-clause-kept
returns-clause-kept c rest ends = dropped c.args.long c.args.window.now.held c.clear-2.new.self.held rest c.clear-2.ensures.held c.requires
    (inr (omega (arith, ap length c.held.ensures.value, c.if-held-lt-MAX_READ.false))) ends
