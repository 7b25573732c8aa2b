use Rattle.std.proofs.Common.{sym, ap, ◌∙◌, true≢false}
use Rattle.std.specs.FinSet as fin
use Rattle.bitset.specs.Sets.{contains-empty}
use Rattle.dep_graph.proofs.graph.end_of.Goals as goal

pub returns-in-None-clause-all : goal.returns-in-None-clause-all
returns-in-None-clause-all g c p e =
    absurd (true≢false (sym e ∙ ap (λ s. fin.contains s p) c.in-None.ensures.there ∙ contains-empty p))
