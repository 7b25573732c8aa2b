use Rattle.std.proofs.Common.{rules, ◌∙◌, ◌-◌, ◌*◌, ◌/◌, ◌&&◌, not, nat_lt, sym, ap}
use Rattle.std.specs.FinSet as fin
use Rattle.bitset.specs.WordSets.{contains-members_of}
use Rattle.bitset.proofs.Operations.{FilledUpTo-start, FilledUpTo-more, filled_is, AreWords-filled}
use Rattle.bitset.proofs.Shifts.{raised_by, raised_there, raised_below, raised_past, raised_far}
use Rattle.bitset.proofs.bits.Bits.raised.Goals as goal

pub loop-i-init : goal.loop-i-init
loop-i-init g c =
    FilledUpTo-start (raised_by g.row.W c.args.by c.self.inside.words) g.row.W (c.args.by / 64) (raised_below g.row.W c.self.inside.words c.args.by)

pub loop-i-preserved : goal.loop-i-preserved
loop-i-preserved g c =
    FilledUpTo-more (raised_by g.row.W c.args.by c.self.inside.words) g.row.W c.loop-i.words c.loop-i.i _ c.loop-i-test.true (search rules) c.loop-i.invariant
    (λ k bit. c.bits_raised.ensures k bit ∙ raised_there g.row.W c.self.inside.words c.args.by c.loop-i.i k c.loop-i.auto.i c.loop-i-test.true bit)

pub invariant_of-result : goal.invariant_of-result
invariant_of-result g c =
    AreWords-filled (raised_by g.row.W c.args.by c.self.inside.words) g.row.W c.loop-i.i c.loop-i.words (raised_far g.row.W c.self.inside.words c.args.by
    (λ p e low. c.requires p (sym (ap (λ s. fin.contains s p) c.self.view_is) ∙ contains-members_of c.self.inside.words p ∙ e) low)) c.loop-i.invariant

pub returns : goal.returns
returns g c p =
    contains-members_of c.loop-i.words p
    ∙ filled_is (raised_by g.row.W c.args.by c.self.inside.words) g.row.W c.loop-i.i c.loop-i.words
    (raised_past g.row.W c.self.inside.words c.args.by c.loop-i.i c.loop-i-test.false) c.loop-i.invariant p
    ∙ ap (λ b. nat_lt p (64 * g.row.W) && (not (nat_lt p c.args.by) && b))
    (sym (contains-members_of c.self.inside.words (p - c.args.by)) ∙ ap (λ s. fin.contains s (p - c.args.by)) c.self.view_is)
