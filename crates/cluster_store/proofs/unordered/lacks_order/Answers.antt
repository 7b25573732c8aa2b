-- One number more is looked at.
use Rattle.std.proofs.Common.{ℕ, List, Contains, sym, true≢false, subst}
use Rattle.cluster_store.specs.Kept.{at}
use Rattle.cluster_store.specs.Unordered.{LacksOrderIn}
use Rattle.cluster_store.proofs.Lacking.{all_of, lacks_unordered, listed_contains, none_yet, one_more}
use Rattle.cluster_store.proofs.unordered.lacks_order.Goals as goal

pub loop-at-init : goal.loop-at-init
loop-at-init g c = none_yet (λ (n : ℕ). LacksOrderIn c.args.level (at c.args.slots.now.slots n) → ⊥) c.as_slice-numbers.result.now

pub loop-at-preserved : goal.loop-at-preserved
loop-at-preserved g c =
    one_more (λ (n : ℕ). LacksOrderIn c.args.level (at c.args.slots.now.slots n) → ⊥) c.as_slice-numbers.result.now c.loop-at.at 0 c.loop-at-test.true
    c.loop-at.invariant (λ lacks. true≢false (sym (c.if-stands_unordered.ensures.1 lacks)))

pub returns : goal.returns
returns g c = (
  λ none. absurd (true≢false (sym none)),
  λ (n, lacks).
      absurd (all_of (λ (n : ℕ). LacksOrderIn c.args.level (at c.args.slots.now.slots n) → ⊥) c.as_slice-numbers.result.now c.loop-at.at c.loop-at-test.false
      c.loop-at.invariant n
      (subst (λ (ns : List ℕ). Contains ns n) (sym c.as_slice-numbers.ensures.keys)
      (listed_contains c.args.over.now.keys n (c.requires n (lacks_unordered c.args.level (at c.args.slots.now.slots n) lacks)))) lacks),
)
