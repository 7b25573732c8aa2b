-- The names are cut where the number ends.
use Rattle.std.proofs.Common.{List, ℕ, sym, subst₂}
use Rattle.levels.specs.Shelves.{numbers_at}
use Rattle.levels.specs.Unions.{IsFirstRun}
use Rattle.levels.proofs.Kins.{first_is}
use Rattle.levels.proofs.shelves.Shelves.first_run.Goals as goal

pub returns : goal.returns
returns g c =
    let numbers = numbers_at c.args.level c.args.self.now in
    subst₂ (λ (run rest : List ℕ). IsFirstRun numbers c.args.ids.now run rest c.number-number.result)
    (sym c.split_at.ensures.front) (sym c.split_at.ensures.back)
    (first_is numbers c.args.ids.now c.run_length.result c.number-number.result c.requires.grouped c.requires.some c.number-number.ensures.number
    c.run_length.ensures.within c.run_length.ensures.run c.run_length.ensures.last)
