use Rattle.std.proofs.Common.{rules, ◌<◌, ◌*◌, length, ap, ◌∙◌, arith}
use Rattle.std.specs.FinSet as fin
use Rattle.bitset.proofs.Operations.{remove_is, AreWords-set}
use Rattle.bitset.proofs.bits.Bits.remove.Goals as goal

pub invariant_of-self : goal.invariant_of-self
invariant_of-self g c = AreWords-set g.row.W c.self.inside.words c.args.place _ c.self.invariant c.requires (search rules) (search rules)

pub returns : goal.returns
returns g c =
    let inside : c.args.place < 64 * length c.self.inside.words = omega (arith, c.self.told, c.requires) in
    remove_is c.self.inside.words c.args.place inside ∙ ap (λ s. fin.remove s c.args.place) c.self.view_is
