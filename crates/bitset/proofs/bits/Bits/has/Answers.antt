use Rattle.std.proofs.Common.{ap, ◌∙◌}
use Rattle.std.specs.FinSet as fin
use Rattle.bitset.proofs.Operations.{has_is}
use Rattle.bitset.proofs.bits.Bits.has.Goals as goal

pub returns : goal.returns
returns g c = has_is c.self.inside.words c.args.place ∙ ap (λ s. fin.contains s c.args.place) c.self.view_is
