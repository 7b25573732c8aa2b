use Rattle.std.proofs.Common.{◌≡◌, ◌++◌, ◌≤◌, ◌-◌, List, length}
use Rattle.std.specs.Prelude.{Contains, Option, None}
use Rattle.linearize.specs.declared.old.OldPart.{OldPart}
use Rattle.linearize.proofs.known.fill_up.Given as goal

abbrev pub invariant-loop-froms : goal.invariant-loop-froms
invariant-loop-froms l =
    ((more : List (Option OldPart)) × (l.froms.items ≡ l.fn.froms.items ++ more) × ((from : Option OldPart) → Contains more from → from ≡ None))
    × (length l.froms.items ≤ l.count)

abbrev pub decreases-loop-froms : goal.decreases-loop-froms
decreases-loop-froms l = l.count - length l.froms.items
