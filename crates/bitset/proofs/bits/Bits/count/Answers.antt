use Rattle.std.proofs.Common.{subst, ap, ◌∙◌, ◌*◌, arith, min, ◌^◌, ◌-◌}
use Rattle.std.specs.FinSet as fin
use Rattle.bitset.specs.Places.{IsWithin}
use Rattle.bitset.specs.Words.{is_place}
use Rattle.bitset.specs.Sets.{len-where_below-zero}
use Rattle.bitset.proofs.Counts.{len-where_below-word, len-members_of}
use Rattle.bitset.proofs.Operations.{members_of-within}
use Rattle.bitset.proofs.bits.Bits.count.Goals as goal

pub loop-i-init : goal.loop-i-init
loop-i-init g c = omega (arith, len-where_below-zero (is_place c.self.inside.words))

pub loop-i-preserved : goal.loop-i-preserved
loop-i-preserved g c =
    omega (arith, c.loop-i.invariant, c.saturating_add-total.ensures, len-where_below-word g.row.W c.self.inside.words c.loop-i.i c.self.invariant)

pub returns-clause-exact : goal.returns-clause-exact
returns-clause-exact g c =
    c.loop-i.invariant ∙ ap (λ n. min n (2 ^ 64 - 1))
    (len-members_of g.row.W c.loop-i.i c.self.inside.words c.self.told c.loop-i-test.false c.loop-i.auto.i-end ∙ ap fin.len c.self.view_is)

pub returns-clause-within : goal.returns-clause-within
returns-clause-within g c = subst (IsWithin (64 * g.row.W)) c.self.view_is (members_of-within g.row.W c.self.inside.words c.self.told)
