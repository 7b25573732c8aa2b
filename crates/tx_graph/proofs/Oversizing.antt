-- A level is over the limits exactly where the graphs are that it is kept for.
use Rattle.std.proofs.Common.{◌≡◌, ℕ, ◌<◌, true, List, [], ◌∷◌, sym, ap, subst, ◌∙◌, inl, inr, ◌↔◌, Some, arith}
use Rattle.std.specs.Prelude.{Contains}
use Rattle.std.specs.FinMap as finmap
use Rattle.lists.proofs.Entries.{Contains-head}
use Rattle.lists.proofs.Walks.{Walk-map}
use Rattle.arithmetic.proofs.Sums.{sum_by_along}
use Rattle.graphs.specs.declared.names.Level.{Level}
use Rattle.graphs.specs.Closures.{Closure, is_member, is_ancestor, rate_of, IsRelated}
use Rattle.graphs.specs.Graphs.{Graph}
use Rattle.graph_model.specs.declared.names.Limits.{Limits}
use Rattle.graph_model.specs.Limits.{Bounds, AreOver, bounds_of}
use Rattle.graph_model.specs.Oversize as model
use Rattle.graph_model.specs.States.{PlainState, Table, level_of, size_of, size_in}
use Rattle.levels.specs.Levels.{OneLevel, IsWithin, level_at}
use Rattle.levels.specs.Oversize.{AreOfOneComponent, IsOversized}
use Rattle.tx_graph.specs.Kept.{Kept, IsGraphOf, StandsPlainly, entry_of}
use Rattle.tx_graph.proofs.Standing.{connected-linked, graph_at}

-- names of some sizes are over the limits where their sizes are the same by other words
over_by : (bounds : Bounds) (one other : ℕ → ℕ) (ids : List ℕ) → ((id : ℕ) → Contains ids id → one id ≡ other id)
    → AreOver bounds one ids → AreOver bounds other ids
over_by bounds one other ids same over = elim over [
  | inl many ↦ inl many
  | inr large ↦ inr (subst (λ n. bounds.size < n) (sum_by_along one other ids same) large)
]

-- ---- a level and its graphs

-- a table has the fees and sizes of the names of a level
abbrev pub IsRatedBy : Table → OneLevel → Type 0
IsRatedBy table level = (id : ℕ) → is_member level.graph id ≡ true → finmap.get table id ≡ Some (entry_of (rate_of level.graph id))

module _ (level : OneLevel) (graph : Graph) (of : IsGraphOf level graph) (table : Table) (rated : IsRatedBy table level) where
  size_told : (id : ℕ) → is_member level.graph id ≡ true → size_of table id ≡ (rate_of level.graph id).size
  size_told id member = ap size_in (rated id member)

  to_graph : (ids : List ℕ) → AreOfOneComponent level.graph ids → model.AreOfOneComponent graph ids
  to_graph ids one = record {
    once = one.once;
    inside = λ id here. (of.closure.names id).1 (one.inside id here);
    together = λ a b here there. (connected-linked level graph of a b).1 (one.together a b here there);
  }

  to_level : (ids : List ℕ) → model.AreOfOneComponent graph ids → AreOfOneComponent level.graph ids
  to_level ids one = record {
    once = one.once;
    inside = λ id here. (of.closure.names id).0 (one.inside id here);
    together = λ a b here there. (connected-linked level graph of a b).0 (one.together a b here there);
  }

  pub oversized_told : (limits : Limits) → IsOversized limits level.graph ↔ model.HasOver (bounds_of limits) (size_of table) graph
  oversized_told limits = (
    λ over. (
      over.0,
      to_graph over.0 over.1,
      over_by (bounds_of limits) (λ id. (rate_of level.graph id).size) (size_of table) over.0
          (λ id here. sym (size_told id (over.1.inside id here))) over.2,
    ),
    λ over.
        let one = to_level over.0 over.1 in (
          over.0,
          one,
          over_by (bounds_of limits) (size_of table) (λ id. (rate_of level.graph id).size) over.0 (λ id here. size_told id (one.inside id here)) over.2,
        ),
  )

-- ---- a level of a state

pub oversized_at : (kept : Kept) (state : PlainState) → StandsPlainly kept state → (level : Level)
    → IsOversized kept.levels.limits (level_at kept.levels level).graph ↔ model.IsOversized state level
oversized_at kept state stands level =
    subst (λ (bounds : Bounds). IsOversized kept.levels.limits (level_at kept.levels level).graph
    ↔ model.HasOver bounds (size_of state.table) (level_of state level)) (sym stands.limits)
    (oversized_told (level_at kept.levels level) (level_of state level) (graph_at kept state stands level) state.table (stands.table.names level)
    kept.levels.limits)

pub none_over : (kept : Kept) (level : Level) → IsWithin kept.levels level → (state : PlainState) → StandsPlainly kept state
    → model.IsOversized state level → ⊥
none_over kept level within state stands over = within ((oversized_at kept state stands level).1 over)

-- ---- levels that are the same

-- what is over the limits in one closure is so in another with the same names, ancestors, fees and sizes
pub over_along : (limits : Limits) (old new : Closure) → ((q : ℕ) → is_member new q ≡ is_member old q) → ((a d : ℕ) → is_ancestor new a d ≡ is_ancestor old a d)
    → ((q : ℕ) → is_member old q ≡ true → (rate_of new q).size ≡ (rate_of old q).size) → IsOversized limits old → IsOversized limits new
over_along limits old new members above sizes over = (
  over.0,
  record {
    once = over.1.once;
    inside = λ id here. members id ∙ over.1.inside id here;
    together = λ a b here there. Walk-map (λ x. x) (IsRelated old) (IsRelated new) related a b (over.1.together a b here there);
  },
  over_by (bounds_of limits) (λ id. (rate_of old id).size) (λ id. (rate_of new id).size) over.0
      (λ id here. sym (sizes id (over.1.inside id here))) over.2,
)
  where
    related : (a b : ℕ) → IsRelated old a b → IsRelated new a b
    related a b near = elim near [ inl up ↦ inl (above a b ∙ up) | inr down ↦ inr (above b a ∙ down) ]

-- a level without names isn't over any limits
pub none_in_none : (limits : Limits) (g : Closure) → ((id : ℕ) → is_member g id ≡ true → ⊥) → IsOversized limits g → ⊥
none_in_none limits g none over = no_list over.0 (λ id here. none id (over.1.inside id here)) over.2
  where
    no_list : (ids : List ℕ) → ((id : ℕ) → Contains ids id → ⊥) → AreOver (bounds_of limits) (λ id. (rate_of g id).size) ids → ⊥
    no_list [] empty large = elim large [ inl many ↦ (let no : ⊥ = omega (arith, many) in no) | inr more ↦ (let no : ⊥ = omega (arith, more) in no) ]
    no_list (id ∷ ids) empty large = empty id (Contains-head id ids)
