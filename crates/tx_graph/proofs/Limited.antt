-- Other limits, where there is no name yet.
use Rattle.std.proofs.Common.{◌≡◌, ℕ, true, false, List, sym, refl, ap, subst, ◌∙◌, Option, None, Some, true≢false}
use Rattle.lists.proofs.Cases.{some_none}
use Rattle.graphs.specs.Certificates.{Part}
use Rattle.graphs.specs.Closures.{is_member}
use Rattle.graph_model.specs.declared.names.Limits.{Limits}
use Rattle.graph_model.specs.Limits.{bounds_of}
use Rattle.graph_model.specs.Changes.{limited}
use Rattle.graph_model.specs.Commands.{SetLimits}
use Rattle.graph_model.specs.Replies.{Done}
use Rattle.levels.specs.Levels.{OneLevel, Levels, HavePicks}
use Rattle.tx_graph.specs.Kept.{Kept, HasRates, IsGraphOf, IsStagingOf, MakesStep, IsPickOf, IsStagingPickOf, ArePicksOf}
use Rattle.tx_graph.proofs.Oversizing.{none_in_none}
use Rattle.tx_graph.proofs.Standing.{Meets}
use Rattle.tx_graph.proofs.Picked.{AcceptsAll, Follows, are_picks, steps_made}

-- a level without names has the same pick within any limits
pick_of_none : (was set : Limits) (level : OneLevel) → ((id : ℕ) → is_member level.graph id ≡ false) → (pick : Option (List Part)) → IsPickOf was level pick
    → IsPickOf set level pick
pick_of_none was set level none None over = absurd (none_in_none was level.graph (λ id here. true≢false (sym here ∙ none id)) over)
pick_of_none was set level none (Some pick) is = (none_in_none set level.graph (λ id here. true≢false (sym here ∙ none id)), is.1)

-- a staging that isn't there has one within none
no_staging_pick : (was set : Limits) (staging : Option OneLevel) (pick : Option (Option (List Part))) → staging ≡ None
    → IsStagingPickOf was staging pick → IsStagingPickOf set staging pick
no_staging_pick was set None None alone is = tt
no_staging_pick was set None (Some pick) alone is = absurd is
no_staging_pick was set (Some level) pick alone is = absurd (some_none level alone)

module _ (old new : Kept) (set : Limits) (levels : new.levels ≡ record old.levels { limits = set }) (most : new.most ≡ old.most)
    (begins : new.begun ≡ true) (none : (id : ℕ) → is_member old.levels.main.graph id ≡ false) (alone : old.levels.staging ≡ None) where
  accepts_limited : AcceptsAll old new (SetLimits (bounds_of set)) Done
  accepts_limited state stands = (
    limited state (bounds_of set),
    record {
      limits = ap (λ (l : Levels). bounds_of l.limits) (sym levels);
      most = stands.most ∙ sym most;
      begun = sym begins;
      table = subst (λ (l : Levels). HasRates l state.table) (sym levels) (record { names = stands.table.names; none = stands.table.none });
      main = subst (λ (l : Levels). IsGraphOf l.main state.main) (sym levels) stands.main;
      staging = subst (λ (l : Levels). IsStagingOf l.staging state.staging) (sym levels) stands.staging;
    },
    λ picks. record { answer = refl; change = refl },
  )

  -- the levels keep their picks
  follows_limited : HavePicks new.levels → Follows old new (SetLimits (bounds_of set))
  follows_limited picked state next stood stands =
      let are : ArePicksOf new.levels state.picks = subst (λ (l : Levels). ArePicksOf l state.picks) (sym levels) (record {
        main = pick_of_none old.levels.limits set old.levels.main none state.picks.main stood.picks.main;
        staging = no_staging_pick old.levels.limits set old.levels.staging state.picks.staging alone stood.picks.staging;
      }) in (
        state.picks,
        are,
        record { picks = are_picks new next state.picks picked stands are; main = λ _ _. refl; staging = λ _ _ _ _. refl },
      )

  pub steps_limited : Meets old (SetLimits (bounds_of set)) None → HavePicks new.levels → MakesStep old new (SetLimits (bounds_of set)) Done
  steps_limited row picked = steps_made old new (SetLimits (bounds_of set)) Done tt row accepts_limited (follows_limited picked)
