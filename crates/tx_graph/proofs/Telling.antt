-- The steps of the readings of an order, which tell of the picks.
use Rattle.std.proofs.Common.{◌≡◌, ℕ, ℤ, true, map, Contains, ◌↔◌, sym, refl, ap, ◌∙◌}
use Rattle.fee_rate.specs.declared.rates.Sum.{Sum}
use Rattle.lists.proofs.Entries.{map_along}
use Rattle.graphs.specs.declared.names.Level.{Level}
use Rattle.graphs.specs.declared.names.Level.TheVariants.{Main}
use Rattle.graphs.specs.Certificates.{Part}
use Rattle.graphs.specs.Closures.{is_member}
use Rattle.graphs.specs.Graphs.{Graph}
use Rattle.graphs.proofs.AlikeLemmas.{optimal_to}
use Rattle.graphs.proofs.ClosingLemmas.{covers_agree}
use Rattle.cluster.specs.Clusters.{sum_at}
use Rattle.graph_model.specs.declared.names.Place.{Place}
use Rattle.graph_model.specs.Answers.{order_of, StandsTo, ListsCovers}
use Rattle.graph_model.specs.Commands.{Chunk, Before, Order, Proof}
use Rattle.graph_model.specs.Replies.{Parts, Proves, OnePart, Stands}
use Rattle.graph_model.specs.States.{PlainState, Picks, State, Table, level_of, pick_of}
use Rattle.graph_model.specs.States as states
use Rattle.graph_model.specs.Texts.{Text}
use Rattle.levels.specs.Levels.{OneLevel, HavePicks, IsBest, IsWithin, level_at}
use Rattle.tx_graph.specs.Kept.{Kept, IsGraphOf, StandsFor, MakesStep}
use Rattle.tx_graph.specs.Readings.{AreMinimalIn, IsBestOrder, IsTextOf}
use Rattle.tx_graph.proofs.Standing.{graph_at, order_kept, sum_kept}
use Rattle.tx_graph.proofs.Picked.{pick_here, pick_at, pick_is, uncut_here}
use Rattle.tx_graph.proofs.Reading.{steps_told}
use Rattle.tx_graph.proofs.Rows.{ordered_row, name_row, both_row}

pub steps_ordered : (kept : Kept) (level : Level) → HavePicks kept.levels → IsWithin kept.levels level
    → MakesStep kept kept (Order level) (Parts (level_at kept.levels level).parts)
steps_ordered kept level picked within =
    steps_told kept (Order level) (Parts (level_at kept.levels level).parts) picked (λ a b keeps. keeps) (ordered_row kept level within)
    (λ state stands. record {
      answer = ((level_at kept.levels level).parts, pick_is kept state level stands within, refl);
      change = refl;
    })

-- the parts are the pick of every state, and an optimal order of its graph
pub best_order : (kept : Kept) (level : Level) → IsWithin kept.levels level → IsBest (level_at kept.levels level)
    → (state : State) → StandsFor kept state → IsBestOrder state level (level_at kept.levels level).parts
best_order kept level within best state stands =
    let at = level_at kept.levels level in
    let graph = level_of state.plain level in
    let of = graph_at kept state.plain stands.plain level in
    let sums = sum_kept kept.levels state.plain.table stands.plain.table level in
    record {
      pick = pick_is kept state level stands within;
      certified = pick_here at graph (states.rate_of state.plain.table) best.pick of sums;
      optimal = optimal_to (sum_at at.graph) (states.rate_of state.plain.table) graph graph (record {
        names = λ id. (λ here. here, λ here. here);
        sums = λ id here. sym (sums id ((of.closure.names id).0 here));
        ancestors = λ x y. (λ walk. walk, λ walk. walk);
      }) of.valid of.valid (map (λ part. part.ids) at.parts) (best.optimal graph of.closure);
    }

-- none of the parts can be cut further, in the graph of any state
pub none_cut : (kept : Kept) (level : Level) → IsBest (level_at kept.levels level)
    → (state : State) → StandsFor kept state
    → AreMinimalIn state level (level_at kept.levels level).parts
none_cut kept level best state stands =
    uncut_here (level_at kept.levels level) (level_of state.plain level) (states.rate_of state.plain.table) best.pick
    (graph_at kept state.plain stands.plain level) (sum_kept kept.levels state.plain.table stands.plain.table level)

-- the names of the parts are those of the level
pub names_ordered : (kept : Kept) (level : Level) → IsWithin kept.levels level → IsBest (level_at kept.levels level)
    → (state : State) × StandsFor kept state
    → (id : ℕ) → Contains (order_of (level_at kept.levels level).parts) id ↔ (is_member (level_at kept.levels level).graph id ≡ true)
names_ordered kept level within best some id =
    let order = best_order kept level within best some.0 some.1 in
    let listed = order.certified.certificate.order.topological.names id in
    let live = (graph_at kept some.0.plain some.1.plain level).closure.names id in
    (λ here. live.0 (listed.0 here), λ here. listed.1 (live.1 here))

-- ---- one part, and two names

pub steps_parted : (kept : Kept) (id : ℕ) (part : Part) → HavePicks kept.levels → IsWithin kept.levels Main → is_member kept.levels.main.graph id ≡ true
    → Contains kept.levels.main.parts part → Contains part.ids id → MakesStep kept kept (Chunk id) (OnePart part)
steps_parted kept id part picked within live here there =
    steps_told kept (Chunk id) (OnePart part) picked (λ a b keeps. keeps) (name_row kept Main id within live) (λ state stands. record {
      answer = (kept.levels.main.parts, part, pick_is kept state Main stands within, here, there, refl);
      change = refl;
    })

pub steps_placed : (kept : Kept) (a b : ℕ) (place : Place) → HavePicks kept.levels → IsWithin kept.levels Main
    → is_member kept.levels.main.graph a ≡ true → is_member kept.levels.main.graph b ≡ true → StandsTo (order_of kept.levels.main.parts) a b place → MakesStep kept kept (Before a b) (Stands place)
steps_placed kept a b place picked within a_live b_live told =
    steps_told kept (Before a b) (Stands place) picked (λ a b keeps. keeps) (both_row kept a b within a_live b_live) (λ state stands. record {
      answer = (kept.levels.main.parts, place, pick_is kept state Main stands within, told, refl);
      change = refl;
    })

-- ---- a text

-- a line of a name
abbrev line_of : Sum → ℕ → ℕ × ℤ × ℕ
line_of sum id = (id, sum.fee, sum.size)

module _ (kept : Kept) (level : Level) (text : Text) (picked : HavePicks kept.levels) (within : IsWithin kept.levels level)
    (is : IsTextOf (level_at kept.levels level) text) (state : State) (stands : StandsFor kept state) where
  abbrev at : OneLevel
  at = level_at kept.levels level

  abbrev graph : Graph
  graph = level_of state.plain level

  of : IsGraphOf at graph
  of = graph_at kept state.plain stands.plain level

  -- the names of the order are the level's
  ordered : (id : ℕ) → Contains (order_of at.parts) id → is_member at.graph id ≡ true
  ordered id here =
      let pick = (pick_at kept.levels level picked within).picked graph of.closure in
      (of.closure.names id).0 ((pick.certificate.order.topological.names id).0 here)

  covers_are : ListsCovers graph (order_of at.parts) text.edges
  covers_are = record {
    exact = λ a d.
        let agree = covers_agree at.graph graph (order_kept at graph of) of.closure a d in
        (λ here. agree.1 ((is.exact a d).0 here), λ cover. (is.exact a d).1 (agree.0 cover));
    in_order = is.in_order;
  }

  txs_are : text.txs ≡ map (λ id. line_of (states.rate_of state.plain.table id) id) (order_of at.parts)
  txs_are =
      is.txs
      ∙ map_along (λ id. line_of (sum_at at.graph id) id) (λ id. line_of (states.rate_of state.plain.table id) id) (order_of at.parts)
      (λ id here. ap (λ s. line_of s id) (sym (sum_kept kept.levels state.plain.table stands.plain.table level id (ordered id here))))

pub steps_proved : (kept : Kept) (level : Level) (text : Text) → HavePicks kept.levels → IsWithin kept.levels level
    → IsTextOf (level_at kept.levels level) text → MakesStep kept kept (Proof level) (Proves text)
steps_proved kept level text picked within is =
    steps_told kept (Proof level) (Proves text) picked (λ a b keeps. keeps) (ordered_row kept level within) (λ state stands. record {
      answer = (
        (level_at kept.levels level).parts,
        text,
        pick_is kept state level stands within,
        record {
          txs = txs_are kept level text picked within is state stands;
          edges = covers_are kept level text picked within is state stands;
          parts = is.parts;
        },
        refl,
      );
      change = refl;
    })
