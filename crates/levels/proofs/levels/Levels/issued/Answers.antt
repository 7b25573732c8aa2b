use Rattle.std.proofs.Common.{ap}
use Rattle.levels.specs.Levels.{Levels}
use Rattle.levels.proofs.levels.Levels.issued.Goals as goal

pub returns-clause-issued : goal.returns-clause-issued
returns-clause-issued g c = ap (λ (l : Levels). l.issued) c.self.view_is

pub returns-clause-narrow : goal.returns-clause-narrow
returns-clause-narrow g c = c.self.invariant.order.narrow
