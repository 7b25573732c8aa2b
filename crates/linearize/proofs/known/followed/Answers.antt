use Rattle.std.proofs.Common.{◌≡◌, ℕ, ◌∙◌, true, List, take, slice_index, sym, subst}
use Rattle.std.proofs.lemmas.List.{take_more}
use Rattle.std.specs.FinSet as set
use Rattle.lists.proofs.Cases.{clash}
use Rattle.linearize.specs.Near.{Follow}
use Rattle.linearize.proofs.KnownParts.{follow_more}
use Rattle.linearize.proofs.Nexts.{inside}
use Rattle.linearize.proofs.known.followed.Goals as goal

pub loop-at-preserved : goal.loop-at-preserved
loop-at-preserved g c =
    let places : List ℕ = c.args.places.now in
    let at : ℕ = c.loop-at.at in
    subst (λ (xs : List ℕ). Follow c.args.dep.now c.args.members.now c.args.done.now xs c.insert.new.self) (sym (take_more places at 0 c.loop-at-test.true))
    (follow_more c.args.dep.now c.args.members.now c.args.done.now c.loop-at.all c.insert.new.self (take at places) (slice_index places at)
    c.loop-at.invariant (sym c.has.ensures ∙ c.if-not-has.false)
    (λ m. clash _ m (sym c.has-else-not-has.ensures ∙ c.if-has.false)) c.insert.ensures
    (λ a e. inside c.ancestors.result c.insert.new.self (sym c.is_subset.ensures ∙ c.if-not-is_subset.false) a
    (subst (λ s. set.contains s a ≡ true) (sym c.ancestors.ensures) e)))
