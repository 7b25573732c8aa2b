-- Two names of one cluster: the second call asks of the shelves as they were.
use Rattle.std.proofs.Common.{arith, ap, ◌∙◌}
use Rattle.levels.specs.Shelves.{Shelf, stored_at}
use Rattle.levels.proofs.shelves.Shelves.way_within.Goals as goal

pub reaches-requires-2 : goal.reaches-requires-2
reaches-requires-2 g c = (
  omega arith,
  (
    c.requires.0,
    ap (λ (s : Shelf). stored_at s.store.clusters c.args.number) c.reaches.ensures.same ∙ c.requires.1,
    c.requires.2,
    c.requires.3,
  ),
)
