use Rattle.std.proofs.Common.{sym, ◌∙◌, refl}
use Rattle.lists.proofs.Cases.{none_of}
use Rattle.tx_graph.proofs.graph.needs_staging.Goals as goal

pub is_staged-requires : goal.is_staged-requires
is_staged-requires g c = assumption

pub returns-then-not-is_staged : goal.returns-then-not-is_staged
returns-then-not-is_staged g c = (refl, none_of c.args.levels.now.staging (sym c.is_staged.ensures ∙ c.if-not-is_staged.true))

pub returns : goal.returns
returns g c = sym c.is_staged.ensures ∙ c.if-not-is_staged.false
