use Rattle.std.proofs.Common.{rules, ◌∙◌, ◌*◌, ◌&&◌, nat_lt, sym, ap, arith}
use Rattle.std.specs.FinSet as fin
use Rattle.bitset.specs.WordSets.{contains-members_of}
use Rattle.bitset.proofs.Operations.{FilledUpTo-start, FilledUpTo-more, filled_is, AreWords-filled}
use Rattle.bitset.proofs.Shifts.{kept_below, kept_there, kept_past, kept_far}
use Rattle.bitset.proofs.bits.Bits.resized.Goals as goal

pub loop-i-init : goal.loop-i-init
loop-i-init g c = FilledUpTo-start (kept_below g.row.V c.self.inside.words) g.row.V 0 (λ q h. absurd (omega arith))

pub loop-i-preserved : goal.loop-i-preserved
loop-i-preserved g c =
    FilledUpTo-more (kept_below g.row.V c.self.inside.words) g.row.V c.loop-i.words c.loop-i.i _ c.loop-i-test.true (search rules) c.loop-i.invariant
    (λ k bit. c.word_or_none.ensures k bit ∙ kept_there g.row.V c.self.inside.words c.loop-i.i k c.loop-i-test.true bit)

pub invariant_of-result : goal.invariant_of-result
invariant_of-result g c =
    AreWords-filled (kept_below g.row.V c.self.inside.words) g.row.V c.loop-i.i c.loop-i.words
    (kept_far g.row.V g.row.W c.self.inside.words c.self.invariant) c.loop-i.invariant

pub returns : goal.returns
returns g c p =
    contains-members_of c.loop-i.words p
    ∙ filled_is (kept_below g.row.V c.self.inside.words) g.row.V c.loop-i.i c.loop-i.words
    (kept_past g.row.V c.self.inside.words c.loop-i.i c.loop-i-test.false) c.loop-i.invariant p
    ∙ ap (λ b. nat_lt p (64 * g.row.V) && b)
    (sym (contains-members_of c.self.inside.words p) ∙ ap (λ s. fin.contains s p) c.self.view_is)
