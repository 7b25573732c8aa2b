use Rattle.std.proofs.Common.{refl}
use Rattle.std.proofs.lemmas.List.Elements.{Contains-get_or}
use Rattle.dump_text.proofs.testing.passes.Goals as goal

pub stands_alone-requires-clause-edge : goal.stands_alone-requires-clause-edge
stands_alone-requires-clause-edge c = Contains-get_or c.args.edges.now c.args.at (0, 0) c.requires.at

pub returns-then-not-has_sibling-clause-alone : goal.returns-then-not-has_sibling-clause-alone
returns-then-not-has_sibling-clause-alone c = λ a up other. c.if-not-has_sibling.ensures refl a other
