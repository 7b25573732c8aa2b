use Rattle.std.proofs.Common.{◌∙◌, ◌+◌, ◌*◌, sym, arith}
use Rattle.bitset.specs.OneBit.{is_set-zero}
use Rattle.bitset.specs.WordSets.{is_place-at, is_place-past}
use Rattle.bitset.proofs.bits.word_or_none.Goals as goal

pub returns-then-i-words : goal.returns-then-i-words
returns-then-i-words c k inside = sym (is_place-at c.args.words.now c.args.i k inside)

pub returns-else-i-words : goal.returns-else-i-words
returns-else-i-words c k inside = is_set-zero k ∙ sym (is_place-past c.args.words.now (64 * c.args.i + k) (omega (arith, c.if-i-words.false)))
