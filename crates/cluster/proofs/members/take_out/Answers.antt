use Rattle.std.proofs.Common.{◌≡◌, ◌↔◌, true, ℕ, List, slice_index, Contains, subst}
use Rattle.cluster.proofs.Takes.{more_taken}
use Rattle.std.proofs.lemmas.List.{take_all}
use Rattle.std.specs.FinSet as set
use Rattle.cluster.proofs.members.take_out.Goals as goal

pub loop-at-preserved : goal.loop-at-preserved
loop-at-preserved g c =
    more_taken c.args.own.now c.args.names.now c.loop-at.at c.place_of.result c.args.rest.now c.loop-at.rest c.remove.new.self
    c.requires.once c.loop-at-test.true c.place_of.ensures.within c.place_of.ensures.here c.remove.ensures c.loop-at.invariant

pub returns-clause-left : goal.returns-clause-left
returns-clause-left g c p low there =
    subst (λ (xs : List ℕ). (set.contains c.loop-at.rest p ≡ true) ↔ (Contains xs (slice_index c.args.own.now p) → ⊥))
    (take_all c.loop-at.at c.args.names.now c.loop-at-test.false) (c.loop-at.invariant.left p low there)
