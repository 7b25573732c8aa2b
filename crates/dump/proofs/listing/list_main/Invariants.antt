use Rattle.std.proofs.Common.{◌≡◌, ◌++◌, map, Contains}
use Rattle.lists.specs.Distinct.{AreDistinct}
use Rattle.cluster_store.specs.Held.{Held, held_part}
use Rattle.graph_model.specs.Answers.{order_of}
use Rattle.levels.specs.Held.{IsHeldIn}
use Rattle.dump.specs.Listings.{AreListed}
use Rattle.dump.proofs.listing.list_main.Given as goal

-- the parts so far were added
abbrev pub invariant-loop-part : goal.invariant-loop-part
invariant-loop-part g l =
    let level = l.fn.graph.levels.main in
    record {
      rest : level.parts ≡ map (λ x. (held_part x).part) l.yielded ++ map (λ (h : Held). h.part) l.part-iterator;
      held : (h : Held) → Contains l.part-iterator h → IsHeldIn level h;
      listed : AreDistinct (order_of level.parts)
          → AreListed level (order_of (map (λ x. (held_part x).part) l.yielded)) l.lists.txs.items l.lists.edges.items;
    }
