use Rattle.replay.proofs.GatherLemmas.{grows_on}
use Rattle.replay.proofs.gathered.GatheredSink.write.Goals as goal

pub invariant_of-self : goal.invariant_of-self
invariant_of-self g c = (grows_on _ _ _ c.self.invariant.0 c.gather.ensures.grows, c.gather.ensures.room)
