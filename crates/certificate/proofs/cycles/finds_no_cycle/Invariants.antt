use Rattle.std.proofs.Common.{◌≡◌, ℕ, ◌<◌, ◌≤◌, [], length}
use Rattle.std.specs.Prelude.{vec_capacity}
use Rattle.certificate.specs.declared.cycles.Visit.TheVariants.{Done}
use Rattle.certificate.specs.Searches.{IsSearch, visit_at}
use Rattle.certificate.proofs.cycles.finds_no_cycle.Given as goal

abbrev pub invariant-loop-place : goal.invariant-loop-place
invariant-loop-place l =
    (length l.search.visits.items ≡ length l.fn.search.visits.items) × (l.search.way.items ≡ []) × IsSearch l.pairs l.search.left.items l.search.visits.items l.search.way.items
    × ((k : ℕ) → k < l.place → visit_at l.search.visits.items k ≡ Done)
    × (length l.search.visits.items ≤ vec_capacity l.search.way)
