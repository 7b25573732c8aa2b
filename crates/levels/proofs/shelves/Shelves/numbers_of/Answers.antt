-- The numbers that the levels have for a name.
use Rattle.std.proofs.Common.{Some, inl, inr, sym, ap, ◌∙◌}
use Rattle.graphs.specs.declared.names.Level.TheVariants.{Main, Top}
use Rattle.levels.proofs.Fees.{numbers_apart, numbers_none, numbers_one}
use Rattle.levels.proofs.shelves.Shelves.numbers_of.Goals as goal

pub returns-then-main-top : goal.returns-then-main-top
returns-then-main-top g c =
    numbers_one c.args.id c.in-Some-Some.main c.args.self.now Main (sym c.number.ensures.number ∙ c.in-Some-Some.is-0)
    (inr (sym c.number.ensures.number ∙ c.in-Some-Some.is-0))
    (inr (sym c.number-2.ensures.number ∙ c.in-Some-Some.is-1 ∙ ap Some (sym c.if-main-top.true)))

pub returns-else-main-top : goal.returns-else-main-top
returns-else-main-top g c =
    numbers_apart c.args.id c.in-Some-Some.main c.in-Some-Some.top c.args.self.now (sym c.number.ensures.number ∙ c.in-Some-Some.is-0)
    (sym c.number-2.ensures.number ∙ c.in-Some-Some.is-1) c.if-main-top.false

pub returns-in-Some-None : goal.returns-in-Some-None
returns-in-Some-None g c =
    numbers_one c.args.id c.in-Some-None.main c.args.self.now Main (sym c.number.ensures.number ∙ c.in-Some-None.is-0)
    (inr (sym c.number.ensures.number ∙ c.in-Some-None.is-0)) (inl (sym c.number-2.ensures.number ∙ c.in-Some-None.is-1))

pub returns-in-None-Some : goal.returns-in-None-Some
returns-in-None-Some g c =
    numbers_one c.args.id c.in-None-Some.top c.args.self.now Top (sym c.number-2.ensures.number ∙ c.in-None-Some.is-1)
    (inl (sym c.number.ensures.number ∙ c.in-None-Some.is-0)) (inr (sym c.number-2.ensures.number ∙ c.in-None-Some.is-1))

pub unreachable-unreachable : goal.unreachable-unreachable
unreachable-unreachable g c =
    numbers_none c.args.id c.args.self.now (sym c.number.ensures.number ∙ c.in-None-None.is-0) (sym c.number-2.ensures.number ∙ c.in-None-None.is-1) c.requires
