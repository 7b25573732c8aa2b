use Rattle.std.proofs.Common.{subst, ◌*◌}
use Rattle.bitset.specs.Places.{IsWithin}
use Rattle.bitset.proofs.Operations.{members_of-within}
use Rattle.bitset.proofs.bits.Bits.iter.Goals as goal

pub returns-clause-within : goal.returns-clause-within
returns-clause-within g c = subst (IsWithin (64 * g.row.W)) c.self.view_is (members_of-within g.row.W c.self.inside.words c.self.told)
