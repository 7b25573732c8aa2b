-- What a change of the top level leaves as it was: components that stay keep their parts and flows, in their order, in both levels.
use Rattle.std.proofs.Common.{◌≡◌, ℕ, ◌*◌, List, [], inl, inr, sym, ap, subst, subst₂}
use Rattle.lists.proofs.Entries.{none_in_empty}
use Rattle.graphs.specs.declared.names.Level.{Level}
use Rattle.graphs.specs.declared.names.Level.TheVariants.{Main, Top}
use Rattle.cluster.specs.Clusters.{Cluster}
use Rattle.levels.specs.Levels.{Levels, OneLevel, level_at}
use Rattle.levels.specs.Shelves.{Shelf, IsInOrder, levels_of, numbers_at, one_of, seen_at, view_of}
use Rattle.levels.specs.Stays.{AllStay}
use Rattle.levels.specs.Tops.{TopRebuilds}
use Rattle.levels.specs.Views.{graph_of}
use Rattle.levels.proofs.Finds.{alike}
use Rattle.levels.proofs.Shelved.{cases_staging, level_of_shelf, none_of, same_level, same_view}
use Rattle.levels.proofs.Staying.{AreAway, LevelKeeps, rebuilt_stays}

-- ---- levels that stay

pub nothing_keeps : (level : OneLevel) → LevelKeeps level level
nothing_keeps level = record { parts = λ part of. (λ here. here, λ here. here); in_order = λ p q p_of q_of before. before }

pub same_keeps : (old new : OneLevel) → new ≡ old → LevelKeeps old new
same_keeps old new same = subst (LevelKeeps old) (sym same) (nothing_keeps old)

-- each level is as it was
pub alike_all_stay : (old new : Levels) → ((level : Level) → level_at new level ≡ level_at old level) → AllStay old new
alike_all_stay old new same level = same_keeps (level_at old level) (level_at new level) (same level)

pub same_all_stay : (old new : Levels) → new ≡ old → AllStay old new
same_all_stay old new same = alike_all_stay old new (λ level. ap (λ (l : Levels). level_at l level) same)

-- ---- two shelves

module _ (w : ℕ) (old new : Shelf) (before : IsInOrder w old) (after : IsInOrder w new) where
  -- a level that has the numbers of a level of the other, and of which the same is seen, is that level
  pub same_one : (a b : Level) → numbers_at a new ≡ numbers_at b old → ((n : ℕ) → seen_at a new.store.clusters n ≡ seen_at b old.store.clusters n)
      → one_of a new ≡ one_of b old
  same_one a b numbers seen = same_level (64 * w) a b new old after.store before.store (same_view (view_of b old) (view_of a new) numbers seen)

  module _ (issued later : ℕ) where
    -- the levels by their words
    pub all_stay : ((level : Level) → LevelKeeps (one_of level old) (one_of level new)) → AllStay (levels_of old issued) (levels_of new later)
    all_stay keeps level =
        subst₂ LevelKeeps (sym (level_of_shelf level old issued (alike w old before))) (sym (level_of_shelf level new later (alike w new after))) (keeps level)

    pub same_shelf_stays : new ≡ old → AllStay (levels_of old issued) (levels_of new later)
    same_shelf_stays same = all_stay (λ level. same_keeps (one_of level old) (one_of level new) (ap (one_of level) same))

    -- ---- a change of the top level

    module _ (outs made : List ℕ) (olds news : List Cluster) (gone : List ℕ) (r : TopRebuilds w outs made olds news gone old new)
        (away : AreAway olds (graph_of (view_of Top old)) (graph_of (view_of Top new))) where
      level_keeps : (level : Level) → LevelKeeps (one_of level old) (one_of level new)
      level_keeps Top = rebuilt_stays w Top outs made olds news gone old new before after r.top away
      level_keeps Main = elim (cases_staging old.staging) [
        | inl none ↦
            subst₂ LevelKeeps (sym (alike w old before none)) (sym (alike w new after (none_of new.staging old.staging r.staged none)))
            (rebuilt_stays w Top outs made olds news gone old new before after r.top away)
        | inr some ↦ same_keeps (one_of Main old) (one_of Main new) (same_one Main Main (r.base some) (r.main some))
      ]

      pub top_stays : AllStay (levels_of old issued) (levels_of new later)
      top_stays = all_stay level_keeps

    -- clusters come in, and none goes out
    pub added_stays : (made : List ℕ) (news : List Cluster) → TopRebuilds w [] made [] news [] old new → AllStay (levels_of old issued) (levels_of new later)
    added_stays made news r = top_stays [] made [] news [] r (λ ids id same here named. none_in_empty named.0 named.1)
