use Rattle.std.proofs.Common.{◌≡◌, ◌⊎◌, inl, inr, ℕ, ◌+◌, ◌*◌, ◌∙◌, List, None, true, ap, sym, subst, arith}
use Rattle.std.specs.FinSet as set
use Rattle.lists.proofs.Cases.{clash}
use Rattle.bitset.specs.Members.{from_union, len_bound, to_union_left}
use Rattle.bitset.specs.Sets.{contains-empty}
use Rattle.closure_flow.specs.Queues.{Grows, IsBeyond}
use Rattle.closure_flow.specs.Tight.{IsDrawnBy}
use Rattle.closure_flow.specs.Views.{shown_in}
use Rattle.closure_flow.specs.declared.queue.Entry.{Entry}
use Rattle.closure_flow.proofs.Networks.{words_fit}
use Rattle.closure_flow.proofs.Queues.{lists_none}
use Rattle.closure_flow.proofs.TightSets.{Drawing, drawing_end, drawing_few, drawing_least, drawing_start, drawing_step, joined_next, met_some, not_apart}
use Rattle.closure_flow.proofs.tight_sets.draw.Goals as goal

pub insert-requires : goal.insert-requires
insert-requires g c = (words_fit g.row.W _ _ _ c.args.network.now.sized, c.requires.below _ c.requires.place)

pub put_all-seen-requires : goal.put_all-seen-requires
put_all-seen-requires g c = (
  omega arith,
  (
    words_fit g.row.W _ _ _ c.args.network.now.sized,
    (
      rw (c.clear.ensures.entries, c.empty.ensures) lists_none,
      (
        rw c.empty.ensures (λ t m. clash _ m (contains-empty t)),
        rw c.empty.ensures (λ t m. contains-empty t),
      ),
    ),
  ),
)

pub loop-at-init : goal.loop-at-init
loop-at-init g c =
    let a = c.put_all-seen.ensures in
    let none : c.put_all-seen.new.queue.taken ≡ 0 = a.taken ∙ c.clear.ensures.taken in (
      subst (λ (k : ℕ). Drawing (64 * g.row.W) c.args.parents.now c.args.within.now (shown_in c.args.network.now) c.args.place
          c.put_all-seen.new.queue.entries k c.put_all-seen.result) (sym none)
          (drawing_start (64 * g.row.W) _ _ (shown_in c.args.network.now) c.args.place _ c.insert.new.self _ c.requires.place
          (c.insert.ensures ∙ ap (λ s. set.insert s c.args.place) c.empty-start.ensures)
          a.lists a.within a.new
          (λ t m. subst (λ s. (set.contains s t ≡ true) ⊎ (set.contains c.insert.new.self t ≡ true)) c.empty.ensures (a.only t m))),
      omega (arith, none),
      omega (arith, none, a.given, c.clear.ensures.given),
    )

pub loop-at-preserved : goal.loop-at-preserved
loop-at-preserved g c =
    let n : ℕ = 64 * g.row.W in
    let k = c.in-Some.ensures in
    let a = c.put_all-seen-in-Some.ensures in
    let s = c.loop-at.invariant.0 in
    let flow = shown_in c.args.network.now in
    let now : c.loop-at.queue.taken + 1 ≡ c.put_all-seen-in-Some.new.queue.taken = omega (arith, a.taken, k.taken) in
    let grows : Grows c.loop-at.queue.entries c.put_all-seen-in-Some.new.queue.entries c.toward-next.result None =
    subst (λ (es : List Entry). Grows es c.put_all-seen-in-Some.new.queue.entries c.toward-next.result None) k.entries a.grows in (
      subst (λ (i : ℕ). Drawing n c.args.parents.now c.args.within.now flow c.args.place c.put_all-seen-in-Some.new.queue.entries i
          c.put_all-seen-in-Some.result) now
          (drawing_step n _ _ flow c.args.place _ _ c.loop-at.queue.taken _ _ c.toward-next.result None s k.none
          (subst (λ (t : ℕ). IsBeyond n c.args.parents.now c.args.within.now flow c.loop-at.seen t c.toward-next.result) k.place
          c.toward-next.ensures)
          a.lists a.within grows a.old a.new a.only),
      omega (arith, k.step, k.taken, a.taken, c.loop-at.invariant.1),
      omega (arith, k.given, k.taken, a.given, a.taken, c.loop-at.invariant.2),
    )

pub loop-at-smaller : goal.loop-at-smaller
loop-at-smaller g c =
    let k = c.in-Some.ensures in
    let a = c.put_all-seen-in-Some.ensures in
    let few = drawing_few (64 * g.row.W) _ _ _ _ _ _ _ c.requires.below c.loop-at.invariant.0 in
    let most = len_bound (64 * g.row.W) c.args.within.now c.requires.below in
    omega (arith, a.taken, k.taken, k.none, few, most)

pub returns-then-is_some-clause-drawn : goal.returns-then-is_some-clause-drawn
returns-then-is_some-clause-drawn g c apart =
    let met = met_some c.least.result c.is_some.result c.meet.result (sym c.is_some.ensures) c.if-is_some.true c.least.ensures.least in
    absurd (not_apart _ _ _ _ met.0 c.meet.ensures met.1 (joined_next _ _ _ c.union.ensures) apart)

pub returns-then-is_some-clause-all_taken : goal.returns-then-is_some-clause-all_taken
returns-then-is_some-clause-all_taken g c apart =
    let met = met_some c.least.result c.is_some.result c.meet.result (sym c.is_some.ensures) c.if-is_some.true c.least.ensures.least in
    absurd (not_apart _ _ _ _ met.0 c.meet.ensures met.1 (joined_next _ _ _ c.union.ensures) apart)

pub returns-then-is_some-clause-holds : goal.returns-then-is_some-clause-holds
returns-then-is_some-clause-holds g c =
    subst (λ s. set.contains s c.args.place ≡ true) (sym c.union.ensures)
    (to_union_left c.loop-at.seen c.toward-next.result c.args.place c.loop-at.invariant.0.holds)

pub returns-then-is_some-clause-least : goal.returns-then-is_some-clause-least
returns-then-is_some-clause-least g c =
    let flow = shown_in c.args.network.now in
    subst (λ s. IsDrawnBy (64 * g.row.W) c.args.parents.now c.args.within.now flow c.args.place s) (sym c.union.ensures)
    (drawing_least (64 * g.row.W) _ _ flow c.args.place _ c.loop-at.queue.taken _ _ c.toward-next.result c.loop-at.invariant.0
    c.in-Some.ensures.none
    (subst (λ (t : ℕ). IsBeyond (64 * g.row.W) c.args.parents.now c.args.within.now flow c.loop-at.seen t c.toward-next.result)
    c.in-Some.ensures.place c.toward-next.ensures)
    (λ k m. elim (from_union c.loop-at.seen c.toward-next.result k m) [
      | inl was ↦ c.loop-at.invariant.0.below k was
      | inr now ↦ c.requires.below k (c.toward-next.ensures.inside k now)
    ])
    (from_union c.loop-at.seen c.toward-next.result))

pub returns-then-is_some-clause-steps_most : goal.returns-then-is_some-clause-steps_most
returns-then-is_some-clause-steps_most g c =
    let k = c.in-Some.ensures in
    let few = drawing_few (64 * g.row.W) _ _ _ _ _ _ _ c.requires.below c.loop-at.invariant.0 in
    omega (arith, k.step, k.none, few, c.loop-at.invariant.1)

pub returns-clause-drawn : goal.returns-clause-drawn
returns-clause-drawn g c apart = drawing_end (64 * g.row.W) _ _ _ _ _ _ _ c.loop-at.invariant.0 c.in_default.ensures.none

pub returns-clause-all_taken : goal.returns-clause-all_taken
returns-clause-all_taken g c apart =
    let s = c.loop-at.invariant.0 in
    omega (arith, c.in_default.ensures.step, c.in_default.ensures.none, s.lists.count, c.loop-at.invariant.1)

pub returns-clause-steps_most : goal.returns-clause-steps_most
returns-clause-steps_most g c =
    let few = drawing_few (64 * g.row.W) _ _ _ _ _ _ _ c.requires.below c.loop-at.invariant.0 in
    omega (arith, c.in_default.ensures.step, c.in_default.ensures.none, few, c.loop-at.invariant.1)
