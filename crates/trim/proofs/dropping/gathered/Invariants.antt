-- the components that are still to come, and what is dropped of those before them
use Rattle.std.proofs.Common.{◌≡◌, ◌++◌, map, Contains}
use Rattle.std.specs.Borrow.{Bor}
use Rattle.graphs.specs.declared.names.Level.TheVariants.{Top}
use Rattle.graph_model.specs.Limits.{bounds_of}
use Rattle.links.specs.Links.{Links, AreLinks}
use Rattle.levels.specs.Levels.{level_at}
use Rattle.levels.specs.Overs.{LendsOvers}
use Rattle.record.specs.Kept.{unordered}
use Rattle.trim.specs.Trimmed.{AreTrimmed}
use Rattle.trim.proofs.dropping.gathered.Given as goal

abbrev pub invariant-loop-links : goal.invariant-loop-links
invariant-loop-links g l =
    let limits = l.fn.graph.levels.limits in
    record {
      kept : l.limits ≡ limits;
      lends : LendsOvers limits (level_at l.fn.graph.levels Top).graph (map (λ (x : Bor Links). unordered x.now) l.yielded ++ l.links-iterator);
      whole : (x : Bor Links) → Contains l.yielded x → AreLinks x.now;
      ids : AreTrimmed (bounds_of limits) (map (λ (x : Bor Links). x.now) l.yielded) l.ids.items;
    }
