-- Trimming goes by components.
use Rattle.std.proofs.Common.{◌≡◌, ◌↔◌, ◌⊎◌, ℕ, length, Bool, true, List, inl, inr, refl, sym, subst, arith}
use Rattle.std.specs.Prelude.{Contains, filter, sum_by}
use Rattle.std.proofs.lemmas.Bool.{cases_lt}
use Rattle.lists.specs.Distinct.{AreDistinct}
use Rattle.lists.proofs.Distinct.{distinct_within, distinct-filter}
use Rattle.lists.proofs.Entries.{Contains-splits, Contains-filter, filter-Contains}
use Rattle.lists.proofs.Told.{told_number}
use Rattle.fee_rate.specs.declared.rates.Sum.{Sum}
use Rattle.graphs.specs.Graphs.{Graph, IsGraph, AreConnected}
use Rattle.graphs.proofs.WalkLemmas.{AreConnected-sym, AreConnected-trans}
use Rattle.graph_model.specs.Limits.{Bounds, AreOver}
use Rattle.graph_model.specs.Oversize.{AreOfOneComponent}
use Rattle.graph_model.specs.Trims.{kept_of, StaysWithin, AreMarked, IsTrimmed}
use Rattle.graph_model.proofs.LevelLemmas.{IsTold, both_told, connected_told, is_first, first_holds, holds_first}
use Rattle.graph_model.proofs.OverLemmas.{graph_itself}
use Rattle.graph_model.proofs.TrimLemmas.{Marks, looked_at, looked_entry, entry_kept, along_trail, connected_more, marked_once, rising_once, some_first}
use Rattle.trim.specs.Parts.{HasComponentsOf}
use Rattle.trim.specs.Laws.{TrimGoesByComponents}
use Rattle.trim.proofs.ByComponents.{own_marks, kept_down, kept_up, part_marks}

-- ---- the same names of a part are dropped

trimmed_alike : (bounds : Bounds) (rate own : ℕ → Sum) (whole part : Graph) (all some : List ℕ) → IsGraph whole → IsGraph part → HasComponentsOf whole part
    → ((id : ℕ) → Contains part.names id → own id ≡ rate id) → IsTrimmed bounds rate whole all → IsTrimmed bounds own part some
    → (id : ℕ) → Contains some id ↔ (Contains part.names id × Contains all id)
trimmed_alike bounds rate own whole part all some is_whole is_part of rates trimmed other id =
    let alike : other.marked ≡ own_marks whole part is_whole is_part of trimmed.marked =
    marked_once bounds own part part other.marked (own_marks whole part is_whole is_part of trimmed.marked) (graph_itself part) other.marks
    (part_marks whole part is_whole is_part of bounds rate own rates trimmed.marked trimmed.marks) in (
      λ here.
          let is = (other.rest.exact id).0 here in (
            is.0,
            (trimmed.rest.exact id).1 (
              of.names id is.0,
              λ kept. is.1 (subst (λ zs. Contains (kept_of zs) id) (sym alike) (kept_down whole part is_whole is_part of trimmed.marked id is.0 kept)),
            ),
          ),
      λ is. (other.rest.exact id).1 (
        is.0,
        λ kept. ((trimmed.rest.exact id).0 is.1).1
            (kept_up whole part is_whole is_part of trimmed.marked id (subst (λ zs. Contains (kept_of zs) id) alike kept)).1,
      ),
    )

-- ---- what is dropped is of a component over the limits

over_told : (bounds : Bounds) (size : ℕ → ℕ) (ids : List ℕ) → AreOver bounds size ids ⊎ (AreOver bounds size ids → ⊥)
over_told bounds size ids = elim (cases_lt bounds.count (length ids)) [
  | inl many ↦ inl (inl many)
  | inr few ↦ elim (cases_lt bounds.size (sum_by size ids)) [
    | inl large ↦ inl (inr large)
    | inr small ↦ inr (λ over. elim over [ inl many ↦ omega (arith, many, few) | inr large ↦ omega (arith, large, small) ])
  ]
]

more_over : (bounds : Bounds) (size : ℕ → ℕ) (xs ys : List ℕ) → AreDistinct xs → ((q : ℕ) → Contains xs q → Contains ys q)
    → AreOver bounds size xs → AreOver bounds size ys
more_over bounds size xs ys once inside over =
    let fits = distinct_within size xs ys once inside in
    elim over [ inl many ↦ inl (omega (arith, many, fits.0)) | inr large ↦ inr (omega (arith, large, fits.1)) ]

module _ (bounds : Bounds) (rate : ℕ → Sum) (graph : Graph) (whole : IsGraph graph) (marked : Marks) (marks : AreMarked bounds rate graph marked)
    (c : ℕ) (ids : List ℕ) (all : (q : ℕ) → Contains graph.names q → AreConnected graph.pairs c q → Contains ids q)
    (within : AreOver bounds (λ q. (rate q).size) ids → ⊥) where
  -- beside whatever is kept, a component of names of this one is within the limits
  stays_small : (kept : List ℕ) (id : ℕ) → Contains graph.names id → AreConnected graph.pairs c id → StaysWithin bounds rate graph kept id
  stays_small kept id named joined pairs some are own over =
      within (more_over bounds (λ q. (rate q).size) some ids (rising_once some own.rising)
      (λ q here.
      let trail = connected_more pairs graph.pairs (λ x y pair. ((are x y).0 pair).0) id q ((own.exact q).0 here) in
      all q (along_trail (Contains graph.names) graph.pairs whole.ends id q trail.0 named trail.1) (AreConnected-trans graph.pairs c id q joined trail))
      over)

  -- each name of it that is looked at is kept
  looked_kept : (id : ℕ) → AreConnected graph.pairs c id → Contains (looked_at marked) id → Contains (kept_of marked) id
  looked_kept id joined seen =
      let entry = looked_entry marked id seen in
      let cut = Contains-splits marked (id, entry.0) entry.1 in
      let turn = marks.turns cut.0 cut.1 id entry.0 cut.2 in
      let kept : entry.0 ≡ true = turn.2.1 (stays_small (kept_of cut.0) id turn.0.named joined) in
      entry_kept marked id (subst (λ (m : Bool). Contains marked (id, m)) kept entry.1)

  abbrev IsLost : ℕ → Type 0
  IsLost q = AreConnected graph.pairs c q × (Contains (kept_of marked) q → ⊥)

  lost_told : (q : ℕ) → IsTold (IsLost q)
  lost_told q = both_told _ _ (connected_told graph.pairs c q)
      (elim (told_number (kept_of marked) q) [ inl is ↦ inr (λ isnt. isnt is) | inr isnt ↦ inl isnt ])

  none_lost : (id : ℕ) → Contains graph.names id → IsLost id → ⊥
  none_lost id named lost =
      let first = some_first graph whole IsLost lost_told id named lost in
      marks.ended first.0 (record {
        named = first.1.0;
        fresh = λ seen. first.1.1.1 (looked_kept first.0 first.1.1.0 seen);
        parents = λ parent pair. elim (told_number (kept_of marked) parent) [
          | inl kept ↦ kept
          | inr isnt ↦ absurd (first.1.2 parent pair (AreConnected-trans graph.pairs c first.0 parent first.1.1.0 (1, (first.0, refl, inr pair)), isnt))
        ];
      })

-- the names of the component of a name
module _ (graph : Graph) (whole : IsGraph graph) (id : ℕ) (named : Contains graph.names id) where
  abbrev is_near : ℕ → Bool
  is_near q = is_first (connected_told graph.pairs id q)

  abbrev component : List ℕ
  component = filter is_near graph.names

  near : (q : ℕ) → Contains component q → AreConnected graph.pairs id q
  near q here = first_holds (connected_told graph.pairs id q) (filter-Contains is_near graph.names q here).0

  all_near : (q : ℕ) → Contains graph.names q → AreConnected graph.pairs id q → Contains component q
  all_near q there joined = Contains-filter is_near graph.names q (holds_first (connected_told graph.pairs id q) joined) there

  is_component : AreOfOneComponent graph component
  is_component = record {
    once = distinct-filter is_near graph.names whole.names;
    inside = λ q here. (filter-Contains is_near graph.names q here).1;
    together = λ a b here there. AreConnected-trans graph.pairs a id b (AreConnected-sym graph.pairs id a (near a here)) (near b there);
  }

dropped_over : (bounds : Bounds) (rate : ℕ → Sum) (graph : Graph) (dropped : List ℕ) → IsGraph graph → IsTrimmed bounds rate graph dropped
    → (id : ℕ) → Contains dropped id → (ids : List ℕ) × AreOfOneComponent graph ids × AreOver bounds (λ q. (rate q).size) ids × Contains ids id
dropped_over bounds rate graph dropped whole trimmed id here =
    let is = (trimmed.rest.exact id).0 here in
    let ids : List ℕ = component graph whole id is.0 in
    elim (over_told bounds (λ q. (rate q).size) ids) [
      | inl over ↦ (ids, is_component graph whole id is.0, over, all_near graph whole id is.0 id is.0 (0, refl))
      | inr within ↦ absurd (none_lost bounds rate graph whole trimmed.marked trimmed.marks id ids (all_near graph whole id is.0) within id is.0
          ((0, refl), is.1))
    ]

pub goes_by_components : TrimGoesByComponents
goes_by_components = record { same = trimmed_alike; over = dropped_over }
