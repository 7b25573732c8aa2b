use Rattle.std.proofs.Common.{ℕ, List, nat_eq, refl, subst, arith}
use Rattle.std.specs.HashSet as bag
use Rattle.std.proofs.lemmas.List.{take_all}
use Rattle.links.specs.Leaving.{Tells}
use Rattle.links.proofs.Gone.{tells_next}
use Rattle.links.proofs.leaving.set_of.Goals as goal

pub loop-id-preserved : goal.loop-id-preserved
loop-id-preserved c =
    tells_next (bag.contains nat_eq c.loop-id.gone) (bag.contains nat_eq c.insert.new.self) c.args.names.now c.loop-id.id-index _ c.loop-id-test.true refl
    c.loop-id.invariant c.in_ok-insert.ensures.updates.0

pub returns : goal.returns
returns c =
    subst (λ (l : List ℕ). Tells (bag.contains nat_eq c.loop-id.gone) l) (take_all c.loop-id.id-index c.args.names.now (omega arith)) c.loop-id.invariant
