-- A graph without names stands for the start.
use Rattle.std.proofs.Common.{◌≡◌, ℕ, true, false, [], sym, refl, ap, subst, ◌∙◌, inr, is_some, true≢false}
use Rattle.std.specs.FinMap as finmap
use Rattle.std.specs.FinSet as set
use Rattle.std.specs.Ordering.{nat_cmp}
use Rattle.lists.proofs.Entries.{none_in_empty}
use Rattle.graphs.specs.declared.names.Level.TheVariants.{Main, Top}
use Rattle.graphs.specs.Closures.{is_member, is_ancestor, ancestors_in, ancestors_of}
use Rattle.cluster.specs.Clusters.{ArePicked}
use Rattle.graph_model.specs.declared.names.Limits.{Limits}
use Rattle.graph_model.specs.Limits.{AreInRange, bounds_of}
use Rattle.graph_model.proofs.StepLemmas.{valid_at_start}
use Rattle.graph_model.specs.States.{empty_graph}
use Rattle.tx_graph.specs.Kept.{IsGraphOf, StandsFor, start_within}
use Rattle.levels.specs.Levels.{Levels, HavePicks, empty_level, no_names}
use Rattle.levels.specs.Oversize.{IsOversized}
use Rattle.tx_graph.proofs.Calls.{kept_of}
use Rattle.tx_graph.proofs.Oversizing.{none_in_none}

no_member : (id : ℕ) → is_member empty_level.graph id ≡ false
unfolding is_member
no_member id = ap is_some (finmap.get-empty nat_cmp id)

none_live : {P : Type 0} (id : ℕ) → is_member empty_level.graph id ≡ true → P
none_live id member = absurd (true≢false (sym member ∙ no_member id))

no_ancestor : (a d : ℕ) → is_ancestor empty_level.graph a d ≡ false
unfolding ancestors_of
no_ancestor a d = ap (λ o. set.contains (ancestors_in o) a) (finmap.get-empty nat_cmp d) ∙ set.contains-empty nat_cmp a

-- an order without parts is a pick of every graph without names
no_parts_picked : ArePicked empty_level.graph []
no_parts_picked graph closes = record {
  certificate = record {
    filled = λ part here. absurd (none_in_empty part here);
    order = record {
      topological = record {
        once = tt;
        names = λ id. (λ here. absurd (none_in_empty id here), λ here. none_live id ((closes.names id).0 here));
        parents_first = λ parent child pair. none_live parent (closes.ends parent child pair).0;
      };
      together = λ part here. absurd (none_in_empty part here);
    };
    falling = record { summed = λ part here. absurd (none_in_empty part here); falling = tt };
    flows = λ part here. absurd (none_in_empty part here);
  };
  flows_in_order = λ part here. absurd (none_in_empty part here);
}

graph_of_none : IsGraphOf empty_level empty_graph
graph_of_none = record {
  closure = record {
    names = λ id. (λ here. absurd (none_in_empty id here), λ member. none_live id member);
    ends = λ parent child here. absurd (none_in_empty (parent, child) here);
    acyclic = λ a n walk. none_in_empty (walk.0, a) walk.2;
    ancestors = λ a d here there. none_live a here;
  };
  among = λ a d up. absurd (true≢false (sym up ∙ no_ancestor a d));
  valid = record {
    names = tt;
    pairs = tt;
    ends = λ parent child here. absurd (none_in_empty (parent, child) here);
    acyclic = λ a n walk. none_in_empty (walk.0, a) walk.2;
  };
}

-- it isn't over any limits
none_over_here : (limits : Limits) → IsOversized limits empty_level.graph → ⊥
none_over_here limits = none_in_none limits empty_level.graph (λ id member. none_live id member)

pub picks_none : (levels : Levels) (limits : Limits) → levels ≡ no_names limits → HavePicks levels
picks_none levels limits is =
    subst HavePicks (sym is)
    (inr (none_over_here limits, record { picked = no_parts_picked; uncut = λ graph closes part here. absurd (none_in_empty part here) }), tt)

module _ (most : ℕ) (limits : Limits) (in_range : AreInRange most (bounds_of limits)) where
  none_stands : StandsFor (kept_of most false (no_names limits)) (start_within most limits)
  none_stands = record {
    plain = record {
      most = refl;
      limits = refl;
      begun = refl;
      table = record {
        names = elim [ Main ↦ λ id member. none_live id member | Top ↦ λ id member. none_live id member ];
        none = λ id _. finmap.get-empty nat_cmp id;
      };
      main = graph_of_none;
      staging = tt;
      valid = valid_at_start most (bounds_of limits) in_range;
    };
    picks = record { main = (none_over_here limits, refl); staging = tt };
  }

  pub stands_start : (levels : Levels) → levels ≡ no_names limits → StandsFor (kept_of most false levels) (start_within most limits)
  stands_start levels is = subst (λ (l : Levels). StandsFor (kept_of most false l) (start_within most limits)) (sym is) none_stands
