-- How many names the levels have after a change of the top level.
use Rattle.std.proofs.Common.{◌≡◌, ℕ, ◌+◌, Bool, true, false, cond, ◌||◌, nat_eq, List, length, Contains, Option, Some, None, is_some, IsSome, refl, sym, ap, ◌∙◌, subst₂, true≢false}
use Rattle.std.specs.Prelude.{option_map, unwrap_or}
use Rattle.std.specs.FinMap as finmap
use Rattle.lists.specs.Distinct.{AreDistinct}
use Rattle.lists.proofs.Keys.{same_len}
use Rattle.lists.proofs.Cases.{none_of}
use Rattle.fee_rate.specs.declared.rates.FeeRate.{FeeRate}
use Rattle.graphs.specs.Closures.{Closure, is_member, AddsPair}
use Rattle.graphs.specs.declared.names.Level.TheVariants.{Main, Top}
use Rattle.levels.specs.Levels.{OneLevel, Levels, AddsName, ChangesTop, LosesNames, level_at, with_top}
use Rattle.levels.specs.Shelves.{Shelf, IsInOrder, levels_of, numbers_at, one_of, view_of}
use Rattle.levels.specs.Views.{Numbers, graph_of}
use Rattle.levels.proofs.Counts.{graph_len, len_fewer, len_more}
use Rattle.levels.proofs.Finds.{graph_is, level_is}
use Rattle.levels.proofs.Graphs.{member-number}

-- the top level of levels that have another
top_put : (levels : Levels) (top : OneLevel) → level_at (with_top levels top) Top ≡ top
top_put levels top = from levels.staging
  where
    from : (o : Option OneLevel) → level_at (with_top (record levels { staging = o }) top) Top ≡ top
    from None = refl
    from (Some l) = refl

-- main stays where there is a staging
main_put : (levels : Levels) (top : OneLevel) → IsSome levels.staging → (with_top levels top).main ≡ levels.main
main_put levels top some = from levels.staging some
  where
    from : (o : Option OneLevel) → IsSome o → (with_top (record levels { staging = o }) top).main ≡ levels.main
    from None some = absurd (true≢false (sym some))
    from (Some l) some = refl

some_level : (o : Option Numbers) (l : OneLevel) → IsSome o → IsSome (option_map (λ (_ : Numbers). l) o)
some_level None l some = absurd (true≢false (sym some))
some_level (Some m) l some = refl

module _ (w issued : ℕ) (old new : Shelf) (before : IsInOrder w old) (after : IsInOrder w new) (Changes : Closure → Closure → Type 0)
    (turns : ChangesTop Changes (levels_of old issued) (levels_of new issued)) where
  -- the graph of the top level changes so
  pub top_turned : Changes (graph_of (view_of Top old)) (graph_of (view_of Top new))
  top_turned =
      let now : turns.0 ≡ one_of Top new =
      sym (top_put (levels_of old issued) turns.0) ∙ ap (λ (l : Levels). level_at l Top) (sym turns.2)
      ∙ level_is w issued new (levels_of new issued) after refl Top in
      subst₂ (λ (g h : Closure). Changes g h) (graph_is w issued old (levels_of old issued) before refl Top) (ap (λ (l : OneLevel). l.graph) now) turns.1

  -- main has as many names as before where there is a staging
  pub mains_kept : IsSome old.staging → finmap.len new.main ≡ finmap.len old.main
  mains_kept some =
      sym (graph_len (view_of Main new))
      ∙ ap (λ (l : Levels). finmap.len l.main.graph) turns.2
      ∙ ap (λ (l : OneLevel). finmap.len l.graph) (main_put (levels_of old issued) turns.0 (some_level old.staging (one_of Top old) some))
      ∙ graph_len (view_of Main old)

-- else it is the top level
pub mains_are_tops : (shelf : Shelf) → shelf.staging ≡ None → finmap.len shelf.main ≡ finmap.len (numbers_at Top shelf)
mains_are_tops shelf none = sym (ap (λ o. finmap.len (unwrap_or o shelf.main)) none)

module _ (old new : Shelf) where
  key_of : (shelf : Shelf) (q : ℕ) → finmap.contains_key (numbers_at Top shelf) q ≡ is_member (graph_of (view_of Top shelf)) q
  key_of shelf q = sym (member-number (view_of Top shelf) q)

  pub tops_paired : (parent child : ℕ) → AddsPair (graph_of (view_of Top old)) (graph_of (view_of Top new)) parent child
      → finmap.len (numbers_at Top new) ≡ finmap.len (numbers_at Top old)
  tops_paired parent child adds =
      same_len (numbers_at Top new) (numbers_at Top old) (λ q. key_of new q ∙ adds.members q ∙ sym (key_of old q))

  pub tops_more : (id : ℕ) (rate : FeeRate) → AddsName (graph_of (view_of Top old)) (graph_of (view_of Top new)) id rate
      → finmap.get (numbers_at Top old) id ≡ None → finmap.len (numbers_at Top new) ≡ finmap.len (numbers_at Top old) + 1
  tops_more id rate adds absent =
      len_more (numbers_at Top old) (numbers_at Top new) id (ap is_some absent)
      (λ q. key_of new q ∙ adds.members q ∙ ap (λ b. nat_eq q id || b) (sym (key_of old q)))

  pub tops_less : (gone : List ℕ) → LosesNames (graph_of (view_of Top old)) (graph_of (view_of Top new)) gone → AreDistinct gone
      → ((id : ℕ) → Contains gone id → IsSome (finmap.get (numbers_at Top old) id))
      → finmap.len (numbers_at Top new) + length gone ≡ finmap.len (numbers_at Top old)
  tops_less gone drops once here =
      len_fewer gone (numbers_at Top old) (numbers_at Top new) once here (λ q. (
        λ there. let was = (drops.members q).0 (sym (key_of new q) ∙ there) in (was.0, key_of old q ∙ was.1),
        λ both. key_of new q ∙ (drops.members q).1 (both.0, sym (key_of old q) ∙ both.1),
      ))

-- main's names are counted by those of the top level where there is no staging
pub mains_counted : (old new : Shelf) (staged : Bool) (mains tops : ℕ) → staged ≡ is_some new.staging → is_some new.staging ≡ is_some old.staging
    → mains ≡ finmap.len old.main → (IsSome old.staging → finmap.len new.main ≡ finmap.len old.main) → tops ≡ finmap.len (numbers_at Top new)
    → cond staged mains tops ≡ finmap.len new.main
mains_counted old new true mains tops is same counted kept top = counted ∙ sym (kept (sym same ∙ sym is))
mains_counted old new false mains tops is same counted kept top = top ∙ sym (mains_are_tops new (none_of new.staging (sym is)))
