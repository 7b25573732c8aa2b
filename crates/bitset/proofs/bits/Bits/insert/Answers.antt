use Rattle.std.proofs.Common.{rules, ◌<◌, ◌*◌, ◌/◌, length, ap, ◌∙◌, arith}
use Rattle.std.proofs.lemmas.Nat.{or_lt}
use Rattle.std.specs.FinSet as fin
use Rattle.bitset.proofs.Operations.{insert_is, AreWords-set}
use Rattle.bitset.proofs.bits.Bits.insert.Goals as goal

pub invariant_of-self : goal.invariant_of-self
invariant_of-self g c =
    AreWords-set g.row.W c.self.inside.words c.args.place _ c.self.invariant c.requires (search rules)
    (or_lt 64 _ _ (c.self.invariant.fit (c.args.place / 64)) (omega arith))

pub returns : goal.returns
returns g c =
    let inside : c.args.place < 64 * length c.self.inside.words = omega (arith, c.self.told, c.requires) in
    insert_is c.self.inside.words c.args.place inside ∙ ap (λ s. fin.insert s c.args.place) c.self.view_is
