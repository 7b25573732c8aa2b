-- What a change of the top level of a shelf makes of the levels over it: the change that they see, and what is kept of them.
use Rattle.std.proofs.Common.{◌≡◌, ℕ, ◌-◌, ◌≤◌, Bool, cond, List, length, Contains, is_some, IsSome, sym, ◌∙◌, subst, arith}
use Rattle.std.specs.FinMap as finmap
use Rattle.std.specs.FinSet as set
use Rattle.fee_rate.specs.declared.limits.TheConstants.{MAX_TOTAL}
use Rattle.lists.specs.Distinct.{AreDistinct}
use Rattle.graphs.specs.Closures.{Closure}
use Rattle.graphs.specs.declared.names.Level.TheVariants.{Top}
use Rattle.levels.specs.Kept.{IsKept, SuitsShelf}
use Rattle.levels.specs.Levels.{Levels, ChangesTop, LosesNames}
use Rattle.levels.specs.Rings.{Ringed}
use Rattle.levels.specs.Shelves.{Shelf, IsInOrder, levels_of, numbers_at}
use Rattle.levels.specs.Stays.{AllStay}
use Rattle.levels.proofs.Tallies.{mains_counted, mains_kept, tops_less, top_turned}

-- ---- seen from the levels

module _ (old : Shelf) (issued : ℕ) (now new : Levels) (view : levels_of old issued ≡ now) where
  pub turns_from : (Changes : Closure → Closure → Type 0) → ChangesTop Changes (levels_of old issued) new → ChangesTop Changes now new
  turns_from Changes turns = subst (λ (l : Levels). ChangesTop Changes l new) view turns

  pub stays_from : AllStay (levels_of old issued) new → AllStay now new
  stays_from stays = subst (λ (l : Levels). AllStay l new) view stays

-- ---- what is kept

module _ (w mains tops issued : ℕ) (old new : Shelf) (before after : Ringed) (kept : IsKept w old before mains tops issued) (order : IsInOrder w new)
    (right : SuitsShelf after new) (same : is_some new.staging ≡ is_some old.staging) where
  -- the counts follow the top level, and main's where there is no staging
  pub kept_turned : (Changes : Closure → Closure → Type 0) → ChangesTop Changes (levels_of old issued) (levels_of new issued)
      → (staged : Bool) (main_count top_count additions : ℕ) → staged ≡ is_some new.staging → top_count ≡ finmap.len (numbers_at Top new)
      → main_count ≡ cond staged mains top_count → additions ≡ after.book.issued → set.len after.book.names ≤ MAX_TOTAL
      → IsKept w new after main_count top_count additions
  kept_turned Changes turns staged main_count top_count additions is top main issues few = record {
    order = order;
    right = right;
    mains = main ∙ mains_counted old new staged mains top_count is same kept.mains (mains_kept w issued old new kept.order order Changes turns) top;
    tops = top;
    issued = issues;
    few = few;
  }

  pub kept_dropped : (gone : List ℕ) → AreDistinct gone → ((id : ℕ) → Contains gone id → IsSome (finmap.get (numbers_at Top old) id))
      → ChangesTop (λ g h. LosesNames g h gone) (levels_of old issued) (levels_of new issued)
      → (staged : Bool) (main_count : ℕ) → staged ≡ is_some new.staging → main_count ≡ cond staged mains (tops - length gone)
      → set.len after.book.names ≤ set.len before.book.names → after.book.issued ≡ before.book.issued
      → IsKept w new after main_count (tops - length gone) issued
  kept_dropped gone once here turns staged main_count is main fewer issues =
      let less = tops_less old new gone (top_turned w issued old new kept.order order (λ g h. LosesNames g h gone) turns) once here in
      let few = kept.few in
      let top : tops - length gone ≡ finmap.len (numbers_at Top new) = let counted = kept.tops in omega (arith, less, counted) in
      kept_turned (λ g h. LosesNames g h gone) turns staged main_count (tops - length gone) issued is top main (kept.issued ∙ sym issues)
      (omega (arith, fewer, few))
