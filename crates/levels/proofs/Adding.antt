-- A name that came in, seen from the levels; and a call that changed nothing for want of memory.
use Rattle.std.proofs.Common.{◌≡◌, ℕ, ◌+◌, ◌<◌, Bool, cond, List, length, is_some, sym, ap, ◌∙◌, subst, arith}
use Rattle.std.specs.Prelude.{option_map}
use Rattle.std.specs.FinMap as finmap
use Rattle.std.specs.FinSet as set
use Rattle.fee_rate.specs.declared.limits.TheConstants.{MAX_TOTAL}
use Rattle.fee_rate.specs.declared.rates.FeeRate.{FeeRate}
use Rattle.graphs.specs.Graphs.{Lists}
use Rattle.graphs.specs.declared.names.Level.TheVariants.{Main, Top}
use Rattle.name_book.specs.Books.{IsNamed}
use Rattle.levels.specs.Kept.{IsKept, SuitsShelf}
use Rattle.levels.specs.Levels.{Levels, AddsName, ChangesTop, IsLive}
use Rattle.levels.specs.Moves.{AddsTop}
use Rattle.levels.specs.Rings.{Ringed}
use Rattle.levels.specs.Shelves.{Shelf, IsInOrder, levels_of, numbers_at, one_of}
use Rattle.levels.specs.Stays.{AllStay}
use Rattle.levels.proofs.Keeping.{live_counted, live_named}
use Rattle.levels.proofs.Tallies.{mains_counted, mains_kept, top_turned, tops_more}
use Rattle.levels.proofs.Turning.{added_keeps, added_top}

module _ (w mains tops issued : ℕ) (old : Shelf) (rings : Ringed)
    (kept : IsKept w old rings mains tops issued) (now : Levels) (view : levels_of old issued ≡ now) where
  -- a name that isn't live isn't in the rings, and these have as many names as are live
  pub absent_named : (id : ℕ) → (IsLive now id → ⊥) → IsNamed rings.book id → ⊥
  absent_named id absent named = absent ((live_named w issued old now kept.order view rings kept.right id).1 named)

  pub few_named : (ids : List ℕ) × Lists (IsLive now) ids × (length ids < MAX_TOTAL) → set.len rings.book.names < MAX_TOTAL
  few_named few =
      let same = live_counted w issued old now kept.order view rings kept.right few.0 few.1 in
      let low = few.2 in
      omega (arith, same, low)

  -- without memory all is kept
  pub kept_still : (new : Shelf) (later : Ringed) → new ≡ old → SuitsShelf later new → set.len later.book.names ≡ set.len rings.book.names
      → later.book.issued ≡ rings.book.issued → IsKept w new later mains tops issued
  kept_still new later same right names additions = record {
    order = subst (IsInOrder w) (sym same) kept.order;
    right = right;
    mains = kept.mains ∙ ap (λ (s : Shelf). finmap.len s.main) (sym same);
    tops = kept.tops ∙ ap (λ (s : Shelf). finmap.len (numbers_at Top s)) (sym same);
    issued = kept.issued ∙ sym additions;
    few = (let low = kept.few in omega (arith, names, low));
  }

  module _ (id : ℕ) (rate : FeeRate) (new : Shelf) (adds : AddsTop w id rate old new) (after : IsInOrder w new) where
    turns : ChangesTop (λ g h. AddsName g h id rate) (levels_of old issued) (levels_of new issued)
    turns = added_top w issued old new kept.order after id rate adds

    pub kept_added : (later : Ringed) → SuitsShelf later new → set.len later.book.names ≡ set.len rings.book.names + 1
        → later.book.issued ≡ rings.book.issued + 1 → set.len rings.book.names < MAX_TOTAL → (staged : Bool) → staged ≡ is_some new.staging → (count : ℕ)
        → count ≡ cond staged mains (tops + 1) → IsKept w new later count (tops + 1) (issued + 1)
    kept_added later right names additions few staged is count counted =
        let top : tops + 1 ≡ finmap.len (numbers_at Top new) =
        ap (λ n. n + 1) kept.tops
        ∙ sym (tops_more old new id rate (top_turned w issued old new kept.order after (λ g h. AddsName g h id rate) turns) adds.absent) in
        record {
          order = after;
          right = right;
          mains = counted
              ∙ mains_counted old new staged mains (tops + 1) is adds.rebuilds.staged kept.mains
              (mains_kept w issued old new kept.order after (λ g h. AddsName g h id rate) turns) top;
          tops = top;
          issued = ap (λ n. n + 1) kept.issued ∙ sym additions;
          few = omega (arith, names, few);
        }

    pub levels_added : (mid : Levels) × ChangesTop (λ g h. AddsName g h id rate) now mid × (levels_of new (issued + 1) ≡ record mid { issued = now.issued + 1 })
    levels_added = (
      levels_of new issued,
      subst (λ (l : Levels). ChangesTop (λ g h. AddsName g h id rate) l (levels_of new issued)) view turns,
      λ i. record {
        limits = new.limits;
        main = one_of Main new;
        staging = option_map (λ _. one_of Top new) new.staging;
        issued = (view i).issued + 1;
      },
    )

    pub name_stays : AllStay now (levels_of new (issued + 1))
    name_stays =
        subst (λ (l : Levels). AllStay l (levels_of new (issued + 1))) view
        (added_keeps w issued old new kept.order after id rate adds (issued + 1))
