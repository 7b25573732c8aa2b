use Rattle.std.proofs.Common.{rules, ◌<◌, ◌*◌, ◌/◌, length, cond, ap, refl, ◌∙◌, arith}
use Rattle.std.proofs.lemmas.Nat.{or_lt}
use Rattle.std.specs.FinSet as fin
use Rattle.bitset.proofs.Operations.{bit_is, written_here, written_other, AreWords-set}
use Rattle.bitset.proofs.bits.Bits.set.Goals as goal

pub invariant_of-self : goal.invariant_of-self
invariant_of-self g c =
    AreWords-set g.row.W c.self.inside.words c.args.place _ c.self.invariant c.requires (search rules)
    (or_lt 64 _ _ (c.self.invariant.fit (c.args.place / 64)) (omega arith))

pub returns-clause-here : goal.returns-clause-here
returns-clause-here g c =
    let inside : c.args.place < 64 * length c.self.inside.words = omega (arith, c.self.told, c.requires) in
    let is = bit_is c.args.there c.from.result c.self.inside.words c.args.place inside
    (λ e. rw (c.from.ensures, e) refl) (λ e. rw (c.from.ensures, e) refl) in
    ap (λ s. fin.contains s c.args.place) is
    ∙ ap (λ s. fin.contains (cond c.args.there (fin.insert s c.args.place) s) c.args.place) (c.self.view_is ∙ c.remove.ensures)
    ∙ written_here c.args.there c.args.self.now c.args.place

pub returns-clause-others : goal.returns-clause-others
returns-clause-others g c q ne =
    let inside : c.args.place < 64 * length c.self.inside.words = omega (arith, c.self.told, c.requires) in
    let is = bit_is c.args.there c.from.result c.self.inside.words c.args.place inside
    (λ e. rw (c.from.ensures, e) refl) (λ e. rw (c.from.ensures, e) refl) in
    ap (λ s. fin.contains s q) is
    ∙ ap (λ s. fin.contains (cond c.args.there (fin.insert s c.args.place) s) q) (c.self.view_is ∙ c.remove.ensures)
    ∙ written_other c.args.there c.args.self.now c.args.place q ne
