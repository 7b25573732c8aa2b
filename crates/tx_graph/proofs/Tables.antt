-- Tables in which one name changes, and tables without the names that are in no level.
use Rattle.std.proofs.Common.{◌≡◌, ℕ, Bool, true, cond, ◌||◌, sym, refl, ap, ◌∙◌, inl, inr, ◌↔◌, None, Some}
use Rattle.std.specs.FinMap as finmap
use Rattle.std.proofs.lemmas.Bool.{false_from_ne_true, or_cases, or_left, or_right}
use Rattle.graphs.specs.declared.names.Level.{Level}
use Rattle.graphs.specs.declared.names.Level.TheVariants.{Main, Top}
use Rattle.graphs.specs.Closures.{is_member, rate_of}
use Rattle.graphs.specs.Graphs.{Graph}
use Rattle.graph_model.specs.States.{PlainState, Table, with_top}
use Rattle.graph_model.specs.Changes.{begun, IsKept, Forgets}
use Rattle.levels.specs.Levels.{OneLevel, Levels, level_at, IsLive}
use Rattle.tx_graph.specs.Kept.{Kept, HasRates, IsGraphOf, StandsPlainly, entry_of}
use Rattle.tx_graph.proofs.Standing.{StandsBarely, top_graph, live_at}
use Rattle.tx_graph.proofs.Tops.{AreTopped, HasGraphs, with_rates, rates_topped, graphs_topped, table_is}

-- ---- names in no level are forgotten

abbrev is_live : Levels → ℕ → Bool
is_live levels q = is_member levels.main.graph q || is_member (level_at levels Top).graph q

live_test : (levels : Levels) (q : ℕ) → IsLive levels q → is_live levels q ≡ true
live_test levels q live = elim live [
  | inl one ↦ or_left (is_member levels.main.graph q) (is_member (level_at levels Top).graph q) one
  | inr two ↦ or_right (is_member levels.main.graph q) (is_member (level_at levels Top).graph q) two
]

test_live : (levels : Levels) (q : ℕ) → is_live levels q ≡ true → IsLive levels q
test_live levels q is = or_cases (is_member levels.main.graph q) (is_member (level_at levels Top).graph q) is

-- the table with the names of these levels alone
pub left_in : Levels → Table → Table
left_in levels table = finmap.retain_keys table (is_live levels)

module _ (levels : Levels) (table : Table) where
  get-left : (q : ℕ) → finmap.get (left_in levels table) q ≡ cond (is_live levels q) (finmap.get table q) None
  unfolding left_in
  get-left q = finmap.get-retain_keys table (is_live levels) q (λ x tied. ap (is_live levels) (sym (finmap.nat_cmp-IsAntisymmetric q x tied)))

  left_live : (q : ℕ) → IsLive levels q → finmap.get (left_in levels table) q ≡ finmap.get table q
  left_live q live = get-left q ∙ ap (λ b. cond b (finmap.get table q) None) (live_test levels q live)

  left_none : (q : ℕ) → (IsLive levels q → ⊥) → finmap.get (left_in levels table) q ≡ None
  left_none q none = get-left q ∙ ap (λ b. cond b (finmap.get table q) None) (false_from_ne_true (is_live levels q) (λ is. none (test_live levels q is)))

-- where a table has the fees and sizes of the names of the levels, it has them without the other names too
rates_left : (levels : Levels) (table : Table) → ((level : Level) (q : ℕ) → is_member (level_at levels level).graph q ≡ true
    → finmap.get table q ≡ Some (entry_of (rate_of (level_at levels level).graph q))) → HasRates levels (left_in levels table)
rates_left levels table names = record {
  names = λ level q member. left_live levels table q (live_at levels level q member) ∙ names level q member;
  none = left_none levels table;
}

module _ (kept : Kept) (state : PlainState)
    (has : HasGraphs kept state) (names : (level : Level) (q : ℕ) → is_member (level_at kept.levels level).graph q ≡ true
    → finmap.get state.table q ≡ Some (entry_of (rate_of (level_at kept.levels level).graph q))) where
  abbrev pub forgotten : PlainState
  forgotten = record state { table = left_in kept.levels state.table }

  pub stands_forgotten : StandsBarely kept forgotten
  stands_forgotten = with_rates kept forgotten
      (record { limits = has.limits; most = has.most; begun = has.begun; main = has.main; staging = has.staging })
      (rates_left kept.levels state.table names)

  kept_live : (q : ℕ) → IsKept state q ↔ IsLive kept.levels q
  kept_live q = (
    λ here. elim here [
      | inl one ↦ inl ((has.main.closure.names q).0 one)
      | inr two ↦ inr (((top_graph kept.levels.main state.main kept.levels.staging state.staging has.main has.staging).closure.names q).0 two)
    ],
    λ live. elim live [
      | inl one ↦ inl ((has.main.closure.names q).1 one)
      | inr two ↦ inr (((top_graph kept.levels.main state.main kept.levels.staging state.staging has.main has.staging).closure.names q).1 two)
    ],
  )

  pub forgets : Forgets state forgotten
  forgets = record {
    same = refl;
    kept = λ q here. left_live kept.levels state.table q ((kept_live q).0 here);
    dropped = λ q none. left_none kept.levels state.table q (λ live. none ((kept_live q).1 live));
  }

-- ---- names leave the top level

-- A graph stands for a state with another graph at the top, of names that have their fees and sizes already, without the names that are in no
-- level then.
module _ (old new : Kept) (top : OneLevel) (most : new.most ≡ old.most) (begins : new.begun ≡ true) (topped : AreTopped old.levels top new.levels)
    (state : PlainState) (stands : StandsPlainly old state) (rest : Graph) (of : IsGraphOf top rest)
    (rates : (q : ℕ) → is_member top.graph q ≡ true → finmap.get state.table q ≡ Some (entry_of (rate_of top.graph q))) where
  abbrev mid : PlainState
  mid = with_top (begun state) rest

  graphs_mid : HasGraphs new mid
  graphs_mid = graphs_topped old new top most begins topped state stands state.table rest of

  names_mid : (level : Level) (q : ℕ) → is_member (level_at new.levels level).graph q ≡ true
      → finmap.get mid.table q ≡ Some (entry_of (rate_of (level_at new.levels level).graph q))
  names_mid level q member =
      ap (λ t. finmap.get t q) (table_is old new top most begins topped state stands state.table rest of)
      ∙ rates_topped old.levels new.levels top topped state.table rates (λ _ _. stands.table.names Main) level q member

  pub left_topped : (next : PlainState) × StandsBarely new next × Forgets mid next
  left_topped = (forgotten new mid graphs_mid names_mid, stands_forgotten new mid graphs_mid names_mid, forgets new mid graphs_mid names_mid)
