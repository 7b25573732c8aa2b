use Rattle.std.proofs.Common.{ℕ, ℤ, pos, subst, arith}
use Rattle.lists.proofs.Entries.{Contains-one, none_in_empty}
use Rattle.fee_rate.specs.Limits.{IsFee, IsSize}
use Rattle.leaf_tests.proofs.links_tests.single.Goals as goal

pub new-requires-clause-once : goal.new-requires-clause-once
new-requires-clause-once c = ((λ h. none_in_empty c.args.id h), tt)

pub new-requires-clause-in_range : goal.new-requires-clause-in_range
new-requires-clause-in_range c x fee size here =
    subst (λ (t : ℕ × ℤ × ℕ). IsFee t.1 × IsSize t.2) (Contains-one (c.args.id, pos 10, 5) (x, fee, size) here) (omega arith, (omega arith, omega arith))

pub new-requires-clause-among : goal.new-requires-clause-among
new-requires-clause-among c parent child here = absurd (none_in_empty (parent, child) here)

pub new-requires-clause-no_cycle : goal.new-requires-clause-no_cycle
new-requires-clause-no_cycle c a n (x, walk, pair) = none_in_empty (x, a) pair
