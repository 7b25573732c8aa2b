use Rattle.std.proofs.Common.{arith}
use Rattle.wire.proofs.SplitLemmas.{byte_nowhere, byte_after, cut_at}
use Rattle.wire.proofs.words.split_at_byte.Goals as goal

pub slice_bounds-result-count : goal.slice_bounds-result-count
slice_bounds-result-count c = let found = c.in-Some.ensures.0 in omega arith

pub returns-in-Some-clause-found : goal.returns-in-Some-clause-found
returns-in-Some-clause-found c =
    let found = c.in-Some.ensures in
    (cut_at c.args.bytes.now c.args.byte c.in-Some.at found.0.high found.1, byte_after c.args.bytes.now c.args.byte c.in-Some.at found.0.high found.0.before)

pub returns-in-None-clause-none : goal.returns-in-None-clause-none
returns-in-None-clause-none c = byte_nowhere c.args.bytes.now c.args.byte c.in-None.ensures
