use Rattle.std.proofs.Common.{◌∙◌, ◌+◌, ◌-◌, ◌/◌, sym, ap, arith}
use Rattle.std.specs.FinSet as fin
use Rattle.bitset.specs.WordSets.{contains-members_of}
use Rattle.bitset.proofs.Operations.{filled_is, AreWords-filled}
use Rattle.bitset.proofs.Shifts.{lowered_by, lowered_past, lowered_far}
use Rattle.bitset.proofs.bits.Bits.lowered.Goals as goal

pub invariant_of-result : goal.invariant_of-result
invariant_of-result g c = AreWords-filled (lowered_by c.args.by c.self.inside.words) g.row.W
    (c.loop-i.i - c.args.by / 64) c.loop-i.words (lowered_far g.row.W c.self.inside.words c.args.by c.self.invariant) c.loop-i.invariant

pub returns : goal.returns
returns g c p =
    contains-members_of c.loop-i.words p
    ∙ filled_is (lowered_by c.args.by c.self.inside.words) g.row.W (c.loop-i.i - c.args.by / 64) c.loop-i.words
    (lowered_past c.self.inside.words c.args.by c.loop-i.i (omega (arith, c.loop-i-test.false, c.self.told)) c.loop-i.auto.i) c.loop-i.invariant p
    ∙ sym (contains-members_of c.self.inside.words (p + c.args.by))
    ∙ ap (λ s. fin.contains s (p + c.args.by)) c.self.view_is
