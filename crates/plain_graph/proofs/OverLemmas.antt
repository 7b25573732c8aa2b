-- Components over the limits: where a walk finds one, and where none is left.
use Rattle.std.proofs.Common.{◌≡◌, ◌↔◌, ℕ, ◌+◌, ◌<◌, ◌≤◌, Bool, true, false, List, [], ◌∷◌, ◌++◌, length, take, get_or, sym, refl, ap, subst, ◌∙◌, inl, inr, arith, IsTrue}
use Rattle.std.specs.Prelude.{Contains}
use Rattle.std.proofs.lemmas.List.{map_push, take_more, take_all}
use Rattle.std.proofs.lemmas.List.Elements.{Contains-push_cases, Contains-get_or}
use Rattle.lists.specs.Distinct.{AreDistinct}
use Rattle.lists.proofs.Distinct.{distinct_within}
use Rattle.lists.proofs.Entries.{Contains-head, Contains-map}
use Rattle.graphs.specs.Graphs.{Graph, AreConnected, Lists}
use Rattle.graphs.proofs.WalkLemmas.{AreConnected-sym, AreConnected-trans}
use Rattle.graphs.specs.declared.names.Level.{Level}
use Rattle.graphs.specs.declared.names.Level.TheVariants.{Main, Top}
use Rattle.graph_model.specs.declared.names.Limits.{Limits}
use Rattle.graph_model.specs.Limits.{Bounds, AreOver, bounds_of}
use Rattle.graph_model.specs.Oversize.{AreOfOneComponent, HasOver, IsOversized}
use Rattle.graph_model.specs.States.{PlainState, Table, size_of}
use Rattle.graph_model.specs.Validity.{IsValid}
use Rattle.graph_model.proofs.TrimLemmas.{rising_once, along_trail}
use Rattle.plain_graph.specs.declared.tx.Tx.{Tx}
use Rattle.plain_graph.specs.Plain.{Kept, StandsFor, sizes_in}
use Rattle.plain_graph.specs.Sound.{names_of}
use Rattle.plain_graph.specs.Overs.{graph_of, IsOver}
use Rattle.plain_graph.specs.Walks.{EndsAreAmong}
use Rattle.plain_graph.proofs.Standing.{HasTable, state_of, of_states, same_sizes}

pub named_at : (txs : List Tx) (i : ℕ) (d : Tx) → i < length txs → Contains (names_of txs) (get_or txs i d).id
named_at txs i d below = Contains-map (λ (tx : Tx). tx.id) txs (get_or txs i d) (Contains-get_or txs i d below)

-- more names are over the limits too
more_over : (bounds : Bounds) (size : ℕ → ℕ) (xs ys : List ℕ) → AreDistinct xs → ((q : ℕ) → Contains xs q → Contains ys q)
    → AreOver bounds size xs → AreOver bounds size ys
more_over bounds size xs ys once inside over =
    let fits = distinct_within size xs ys once inside in
    elim over [ inl many ↦ inl (omega (arith, many, fits.0)) | inr large ↦ inr (omega (arith, large, fits.1)) ]

none_over_none : (bounds : Bounds) (size : ℕ → ℕ) → AreOver bounds size [] → ⊥
none_over_none bounds size (inl many) = omega (arith, many)
none_over_none bounds size (inr large) = omega (arith, large)

-- the component of a name is over the limits
pub over_found : (bounds : Bounds) (size : ℕ → ℕ) (graph : Graph) (id : ℕ) (ids : List ℕ) → EndsAreAmong graph.names graph.pairs → Contains graph.names id
    → Lists (AreConnected graph.pairs id) ids → AreOver bounds size ids → HasOver bounds size graph
over_found bounds size graph id ids ends here lists over = (
  ids,
  record {
    once = rising_once ids lists.rising;
    inside = λ q found. let trail = (lists.exact q).0 found in along_trail (Contains graph.names) graph.pairs ends id q trail.0 here trail.1;
    together = λ a b one other.
        AreConnected-trans graph.pairs a id b (AreConnected-sym graph.pairs id a ((lists.exact a).0 one)) ((lists.exact b).0 other);
  },
  over,
)

-- no names of the name's component are over the limits
abbrev pub IsInNone : Limits → List Tx → List (ℕ × ℕ) → ℕ → Type 0
IsInNone set txs pairs id =
    (ids : List ℕ) → AreOfOneComponent (graph_of txs pairs) ids → Contains ids id → AreOver (bounds_of set) (sizes_in txs) ids → ⊥

-- of the first so many transactions none is in a component over the limits
abbrev pub AreInNone : Limits → List Tx → List (ℕ × ℕ) → ℕ → Type 0
AreInNone set txs pairs i = (id : ℕ) → Contains (names_of (take i txs)) id → IsInNone set txs pairs id

in_none : (set : Limits) (txs : List Tx) (pairs : List (ℕ × ℕ)) (id : ℕ) (ids : List ℕ) → Lists (AreConnected pairs id) ids
    → (AreOver (bounds_of set) (sizes_in txs) ids → ⊥) → IsInNone set txs pairs id
in_none set txs pairs id ids lists none some of here over =
    none (more_over (bounds_of set) (sizes_in txs) some ids of.once (λ q found. (lists.exact q).1 (of.together id q here found)) over)

pub in_none_more : (set : Limits) (txs : List Tx) (pairs : List (ℕ × ℕ)) (i : ℕ) (d : Tx) (ids : List ℕ) → i < length txs
    → Lists (AreConnected pairs (get_or txs i d).id) ids → (AreOver (bounds_of set) (sizes_in txs) ids → ⊥)
    → AreInNone set txs pairs i → AreInNone set txs pairs (i + 1)
in_none_more set txs pairs i d ids below lists none before id here =
    let names : names_of (take (i + 1) txs) ≡ names_of (take i txs) ++ (get_or txs i d).id ∷ [] =
    ap names_of (take_more txs i d below) ∙ map_push (λ (tx : Tx). tx.id) (take i txs) (get_or txs i d) in
    elim (Contains-push_cases (names_of (take i txs)) (get_or txs i d).id id (subst (λ (all : List ℕ). Contains all id) names here)) [
      | inl early ↦ before id early
      | inr same ↦ subst (IsInNone set txs pairs) same (in_none set txs pairs (get_or txs i d).id ids lists none)
    ]

pub in_none_all : (set : Limits) (txs : List Tx) (pairs : List (ℕ × ℕ)) (i : ℕ) → length txs ≤ i → AreInNone set txs pairs i → IsOver set txs pairs → ⊥
in_none_all set txs pairs i past none over = by over.1.0 over.1.1 over.1.2
  where
    by : (ids : List ℕ) → AreOfOneComponent (graph_of txs pairs) ids → AreOver (bounds_of set) (sizes_in txs) ids → ⊥
    by [] of over = none_over_none (bounds_of set) (sizes_in txs) over
    by (id ∷ ids) of over =
        none id
        (subst (λ (front : List Tx). Contains (names_of front) id) (sym (take_all i txs past)) (of.inside id (Contains-head id ids)))
        (id ∷ ids) of (Contains-head id ids) over

-- a level is oversized exactly where pairs may bring a component over the limits and one is over them
pub over_level : (kept : Kept) (table : Table) (level : Level) → HasTable kept.txs table → IsValid (state_of kept table)
    → IsOver kept.limits kept.txs kept.pairs ↔ IsOversized (state_of kept table) level
over_level kept table level has valid = at level
  where
    HasOne : (ℕ → ℕ) → Type 0
    HasOne size = HasOver (bounds_of kept.limits) size (graph_of kept.txs kept.pairs)

    deferred : HasOne (size_of table) → kept.limits.defer ≡ true
    deferred over =
        (elim kept.limits.defer as (λ b. kept.limits.defer ≡ b → kept.limits.defer ≡ true) [
          | true ↦ λ is. is
          | false ↦ λ strict. absurd (valid.main.within strict over)
        ]) refl

    main : IsOver kept.limits kept.txs kept.pairs ↔ HasOne (size_of table)
    main = (
      λ over. subst HasOne (sym (same_sizes kept.txs table has)) over.1,
      λ over. (deferred over, subst HasOne (same_sizes kept.txs table has) over),
    )

    at : (level : Level) → IsOver kept.limits kept.txs kept.pairs ↔ IsOversized (state_of kept table) level
    at Main = main
    at Top = main

pub over_of_states : (kept : Kept) (level : Level) (over : Bool) → IsTrue over ↔ IsOver kept.limits kept.txs kept.pairs → (state : PlainState)
    → StandsFor kept state → IsTrue over ↔ IsOversized state level
over_of_states kept level over noted =
    of_states kept (λ (state : PlainState). IsTrue over ↔ IsOversized state level)
    (λ table has valid.
    let same = over_level kept table level has valid in (λ is. same.0 (noted.0 is), λ is. noted.1 (same.1 is)))
