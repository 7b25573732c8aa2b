-- Of one cluster the level says what the cluster does, and of none it says nothing.
use Rattle.std.proofs.Common.{◌≤◌, ◌+◌, ◌∙◌, ℕ, Option, length, option_to_list, sym, subst, arith}
use Rattle.levels.specs.Unions.{names_under}
use Rattle.levels.proofs.Kins.{kin_few, kin_none, kin_within, one_long, run_held}
use Rattle.levels.proofs.shelves.Shelves.add_run.Goals as goal

pub add_kin-requires : goal.add_kin-requires
add_kin-requires g c =
    let (d, seen, stored, names) = run_held g.row.W c.args.level c.args.self.now c.requires.order c.args.run.ids.now c.args.run.rest.now c.args.run.number
    c.in-Some.number c.requires.run c.in-Some.is in
    let long = one_long g.row.W c.args.level c.args.self.now c.requires.order c.args.run.number c.in-Some.number d c.in-Some.is seen in
    let room = c.requires.room in
    (omega arith, (d, stored, names, omega (arith, long, room)))

pub returns-in-Some-clause-adds : goal.returns-in-Some-clause-adds
returns-in-Some-clause-adds g c =
    let (d, seen, stored, names) = run_held g.row.W c.args.level c.args.self.now c.requires.order c.args.run.ids.now c.args.run.rest.now c.args.run.number
    c.in-Some.number c.requires.run c.in-Some.is in
    kin_within g.row.W c.args.level c.args.self.now c.requires.order c.args.kin c.in-Some.number d c.args.run.ids.now c.args.out.now.ids c.add_kin.new.out.ids
    seen names (c.add_kin.ensures.adds d stored)

pub returns-in-Some-clause-few : goal.returns-in-Some-clause-few
returns-in-Some-clause-few g c =
    subst (λ (o : Option ℕ). length c.add_kin.new.out.ids ≤ length c.args.out.now.ids + length (names_under c.args.level c.args.self.now (option_to_list o)))
    (sym c.in-Some.is)
    (kin_few g.row.W c.args.level c.args.self.now c.requires.order c.args.kin c.in-Some.number c.args.run.ids.now c.args.out.now.ids c.add_kin.new.out.ids
    (λ id here. c.requires.run.run_has id here ∙ c.in-Some.is) (returns-in-Some-clause-adds g c))

pub returns-in_default-clause-adds : goal.returns-in_default-clause-adds
returns-in_default-clause-adds g c =
    kin_none g.row.W c.args.level c.args.self.now c.requires.order c.args.kin c.args.run.ids.now c.args.out.now.ids
    (λ id here. c.requires.run.run_has id here ∙ c.in_default.is)
