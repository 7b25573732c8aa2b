use Rattle.std.proofs.Common.{ℕ, List, nat_eq, sym, subst, arith, take, ◌+◌}
use Rattle.std.specs.HashMap as hash
use Rattle.std.proofs.lemmas.List.{take_all}
use Rattle.places.specs.Places.{AreSteps}
use Rattle.places.proofs.Placing.{ends_found, steps_next, steps_within}
use Rattle.places.proofs.names.steps_of.Goals as goal

pub place_of-parent-requires : goal.place_of-parent-requires
place_of-parent-requires c =
    (ends_found c.requires.0 (hash.get nat_eq c.args.places.now) c.args.pairs.now c.requires.1 c.requires.2 c.loop-pair.pair-index c.loop-pair-test.true).0

pub place_of-child-requires : goal.place_of-child-requires
place_of-child-requires c =
    (ends_found c.requires.0 (hash.get nat_eq c.args.places.now) c.args.pairs.now c.requires.1 c.requires.2 c.loop-pair.pair-index c.loop-pair-test.true).1

pub loop-pair-preserved : goal.loop-pair-preserved
loop-pair-preserved c =
    subst (λ (l : List (ℕ × ℕ)). AreSteps (hash.get nat_eq c.args.places.now) (take (c.loop-pair.pair-index + 1) c.args.pairs.now) l)
    (sym c.in_ok-push.ensures.items)
    (steps_next (hash.get nat_eq c.args.places.now) c.args.pairs.now c.loop-pair.steps.items c.loop-pair.pair-index c.place_of-parent.result
    c.place_of-child.result c.loop-pair-test.true c.loop-pair.invariant c.place_of-parent.ensures c.place_of-child.ensures)

pub returns-clause-steps : goal.returns-clause-steps
returns-clause-steps c =
    subst (λ (l : List (ℕ × ℕ)). AreSteps (hash.get nat_eq c.args.places.now) l c.loop-pair.steps.items)
    (take_all c.loop-pair.pair-index c.args.pairs.now (omega arith)) c.loop-pair.invariant

pub returns-clause-within : goal.returns-clause-within
returns-clause-within c names places =
    steps_within names (hash.get nat_eq c.args.places.now) c.args.pairs.now c.loop-pair.steps.items places (returns-clause-steps c)
