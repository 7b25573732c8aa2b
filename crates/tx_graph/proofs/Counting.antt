-- How many names are live: as many as the table has.
use Rattle.std.proofs.Common.{◌≡◌, ℕ, ℤ, suc, ◌+◌, ◌<◌, ◌≤◌, Bool, true, false, cond, nat_eq, List, [], ◌∷◌, length, sym, refl, subst, subst₂, ap, ◌∙◌, inl, inr, Option, Some, is_some, arith, true≢false}
use Rattle.std.specs.Prelude.{Contains, sum_by}
use Rattle.std.specs.Cmp.{unsigned_tied}
use Rattle.std.specs.FinMap as finmap
use Rattle.std.specs.List.{AllPairs}
use Rattle.std.specs.Ordering.{nat_cmp}
use Rattle.std.proofs.lemmas.Bool.{eqb-true}
use Rattle.std.proofs.lemmas.List.Kept.{AllPairs-from_increasing}
use Rattle.std.proofs.lemmas.List.Sums.{sum_by-cons}
use Rattle.lists.specs.Distinct.{AreDistinct}
use Rattle.graphs.specs.declared.names.Level.TheVariants.{Top}
use Rattle.graphs.specs.Closures.{is_member}
use Rattle.graphs.specs.Graphs.{Lists}
use Rattle.graphs.proofs.ListLemmas.{Lists-for, Lists-same}
use Rattle.graph_model.specs.Limits.{Bounds}
use Rattle.graph_model.specs.declared.names.Refusal.{Refusal}
use Rattle.graph_model.specs.Commands.{Add}
use Rattle.graph_model.specs.States.{Table}
use Rattle.graph_model.proofs.LevelLemmas.{test_told, some_list}
use Rattle.graph_model.proofs.RowLemmas.{add_row_along}
use Rattle.lists.proofs.Keys.{len-names}
use Rattle.tx_graph.specs.Additions.{AddRefusalIs, CountsLive}
use Rattle.levels.specs.Levels.{Levels, level_at, IsLive}
use Rattle.tx_graph.specs.Kept.{Kept, HasRates}
use Rattle.tx_graph.proofs.Standing.{Meets, live_or_not, live_told}

-- ---- lists of numbers in rising order

later_apart : (x : ℕ) (xs : List ℕ) → AllPairs (λ a b. a < b) (x ∷ xs) → Contains xs x → ⊥
later_apart x xs rising here = let above : x < x = subst (λ n. x < n) here.2 (rising 0 (suc here.0) x (omega arith) (omega (arith, here.1))) in omega arith

rising_once : (xs : List ℕ) → AllPairs (λ a b. a < b) xs → AreDistinct xs
rising_once [] rising = tt
rising_once (x ∷ xs) rising = (later_apart x xs rising, rising_once xs (λ i j d before below. rising (suc i) (suc j) d (omega arith) (omega arith)))

-- ---- the keys of a map, in rising order

module _ {X : Type 0} where
  all_keys : List (ℕ × X) → ℕ
  all_keys es = sum_by (λ e. e.0) es

  key_first : (q : ℕ) (e : ℕ × X) (es : List (ℕ × X)) → (is_some (finmap.find nat_cmp q es) ≡ true → q ≤ all_keys es) → (b : Bool) → nat_eq q e.0 ≡ b
      → is_some (cond b (Some e.1) (finmap.find nat_cmp q es)) ≡ true → q ≤ all_keys (e ∷ es)
  unfolding all_keys
  key_first q e es later true is found = let same : q ≡ e.0 = eqb-true q e.0 is in omega (arith, sum_by-cons (λ (x : ℕ × X). x.0) e es)
  key_first q e es later false is found = let low = later found in omega (arith, sum_by-cons (λ (x : ℕ × X). x.0) e es)

  key_small : (q : ℕ) (es : List (ℕ × X)) → is_some (finmap.find nat_cmp q es) ≡ true → q ≤ all_keys es
  key_small q [] has = absurd (true≢false (sym has))
  key_small q (e ∷ es) has =
      key_first q e es (key_small q es) (nat_eq q e.0) refl
      (sym (ap (λ b. is_some (cond b (Some e.1) (finmap.find nat_cmp q es))) (unsigned_tied q e.0)) ∙ has)

  keys_listed : (m : finmap.FinMap nat_cmp X) → (ids : List ℕ) × Lists (λ q. finmap.contains_key m q ≡ true) ids
  keys_listed m =
      some_list (λ q. finmap.contains_key m q ≡ true) (λ q. test_told (finmap.contains_key m q)) (suc (all_keys (finmap.entries m)))
      (λ q has. let low = key_small q (finmap.entries m) (sym (ap is_some (finmap.get-entries m q)) ∙ has) in omega arith)

  keys_counted : (m : finmap.FinMap nat_cmp X) (ids : List ℕ) → Lists (λ q. finmap.contains_key m q ≡ true) ids → length ids ≡ finmap.len m
  keys_counted m ids lists = len-names ids m (rising_once ids (AllPairs-from_increasing ids lists.rising)) lists.exact

-- ---- live names

live_small : (levels : Levels) (q : ℕ) → IsLive levels q
    → q < suc (all_keys (finmap.entries levels.main.graph) + all_keys (finmap.entries (level_at levels Top).graph))
unfolding is_member
live_small levels q live = elim live [
  | inl one ↦ (let low = key_small q (finmap.entries levels.main.graph) (sym (ap is_some (finmap.get-entries levels.main.graph q)) ∙ one) in omega arith)
  | inr two ↦
      let top = (level_at levels Top).graph in
      let low = key_small q (finmap.entries top) (sym (ap is_some (finmap.get-entries top q)) ∙ two) in
      omega arith
]

pub live_listed : (levels : Levels) → (ids : List ℕ) × Lists (IsLive levels) ids
live_listed levels =
    some_list (IsLive levels) (live_or_not levels) (suc (all_keys (finmap.entries levels.main.graph) + all_keys (finmap.entries (level_at levels Top).graph)))
    (live_small levels)

-- so many there are
pub counted : (levels : Levels) (ids : List ℕ) → Lists (IsLive levels) ids → CountsLive levels (length ids)
counted levels ids lists others same = ap length (Lists-same (IsLive levels) ids others lists same)

pub one_count : (levels : Levels) (a b : ℕ) → CountsLive levels a → CountsLive levels b → a ≡ b
one_count levels a b one other = let found = live_listed levels in one found.0 found.1 ∙ sym (other found.0 found.1)

pub live_count : (levels : Levels) (table : Table) (live : ℕ) → HasRates levels table → CountsLive levels live → live ≡ finmap.len table
live_count levels table live rates counts =
    let keys = keys_listed table in
    counts keys.0 (Lists-for (λ q. finmap.contains_key table q ≡ true) (IsLive levels) keys.0
    (λ q. (live_told levels table rates q).1) (λ q. (live_told levels table rates q).0) keys.1)
    ∙ keys_counted table keys.0 keys.1

pub add_row : (kept : Kept) (live id : ℕ) (fee : ℤ) (size : ℕ) (found : Option Refusal) → CountsLive kept.levels live
    → AddRefusalIs kept.levels live id fee size found → Meets kept (Add id fee size) found
add_row kept live id fee size found counts row state stands =
    add_row_along _ _ _ _ _ _ _ _ _ _ size found (λ h. h, λ h. h) (λ h. h, λ h. h) (live_told kept.levels state.table stands.table id) (
      λ over. subst (λ (l : Bounds). l.size < size) (sym stands.limits) over,
      λ over. subst (λ (l : Bounds). l.size < size) stands.limits over,
    ) (
      λ full. subst₂ (λ (l : Bounds) n. l.total ≤ n) (sym stands.limits) (live_count kept.levels state.table live stands.table counts) full,
      λ full. subst₂ (λ (l : Bounds) n. l.total ≤ n) stands.limits (sym (live_count kept.levels state.table live stands.table counts)) full,
    ) row
