use Rattle.std.proofs.Common.{◌≢◌, ◌≤◌, length}
use Rattle.std.specs.Prelude.{vec_capacity}
use Rattle.certificate.specs.declared.cycles.Visit.TheVariants.{New}
use Rattle.certificate.specs.Searches.{GoesOn, visit_at, work_of}
use Rattle.certificate.proofs.cycles.search_from.Given as goal

abbrev pub invariant-loop-search : goal.invariant-loop-search
invariant-loop-search l =
    GoesOn l.pairs l.fn.search.visits.items l.search.left.items l.search.visits.items l.search.way.items
    × (visit_at l.search.visits.items l.place ≢ New) × (length l.search.visits.items ≤ vec_capacity l.search.way)

abbrev pub decreases-loop-search : goal.decreases-loop-search
decreases-loop-search l = work_of l.search.left.items l.search.visits.items
