use Rattle.std.proofs.Common.{ap, ◌∙◌}
use Rattle.std.specs.FinSet as set
use Rattle.lists.proofs.Cases.{clash}
use Rattle.bitset.specs.Sets.{contains-empty}
use Rattle.closure_flow.proofs.Marks.{marked_none}
use Rattle.closure_flow.proofs.network.Network.clear.Goals as goal

pub invariant_of-self : goal.invariant_of-self
invariant_of-self g c =
    record {
      sized = c.args.self.now.sized;
      lean = c.args.self.now.lean;
      inside = λ p m. clash _ m (ap (λ s. set.contains s p) c.empty-self.ensures ∙ contains-empty p);
      over_is = marked_none _ _ _ _ c.empty-self.ensures c.empty-self-2.ensures;
      short_is = marked_none _ _ _ _ c.empty-self.ensures c.empty-self-3.ensures;
    }
