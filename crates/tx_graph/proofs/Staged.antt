-- A staging is opened, becomes main, or is closed.
use Rattle.std.proofs.Common.{◌≡◌, ℕ, true, false, sym, refl, ap, subst, ◌∙◌, inl, inr, None, Some, Option, is_some, true≢false}
use Rattle.std.specs.FinMap as finmap
use Rattle.lists.proofs.Cases.{some_none, none_of}
use Rattle.graphs.specs.declared.names.Level.{Level}
use Rattle.graphs.specs.declared.names.Level.TheVariants.{Main, Top}
use Rattle.graphs.specs.Closures.{is_member, rate_of}
use Rattle.graph_model.specs.Limits.{bounds_of}
use Rattle.graph_model.specs.Changes.{begun, staged, Commits, Aborts}
use Rattle.graph_model.specs.Commands.{Stage, Commit, Abort}
use Rattle.graph_model.specs.Replies.{Done}
use Rattle.graph_model.specs.States.{PlainState, Picks, State, level_of, top_of}
use Rattle.graph_model.specs.Steps.{CommitsPick}
use Rattle.levels.specs.Levels.{OneLevel, Levels, HavePicks, level_at, IsLive}
use Rattle.tx_graph.specs.Kept.{Kept, HasRates, IsGraphOf, IsStagingOf, StandsPlainly, StandsFor, MakesStep, IsPickOf, ArePicksOf, entry_of}
use Rattle.tx_graph.proofs.Standing.{StandsBarely, Meets, graph_at}
use Rattle.tx_graph.proofs.Picked.{KeepsParts, may_pick_at, staged_pick, AcceptsAll, Follows, steps_made, steps_accepted}
use Rattle.tx_graph.proofs.Tables.{forgotten, stands_forgotten, forgets}
use Rattle.tx_graph.proofs.Tops.{HasGraphs}

-- the levels with a staging that is as main is
abbrev pub opened : Levels → Levels
opened levels = record levels { staging = Some levels.main }

-- the levels with staging as main, and without a staging
abbrev pub committed : Levels → Levels
committed levels = record levels { main = level_at levels Top; staging = None }

abbrev pub aborted : Levels → Levels
aborted levels = record levels { staging = None }

some_staged : (staging : Option OneLevel) → is_some staging ≡ true → (one : OneLevel) × (staging ≡ Some one)
some_staged None is = absurd (true≢false (sym is))
some_staged (Some one) is = (one, refl)

-- ---- `stage`

module _ (old new : Kept) (most : new.most ≡ old.most) (begins : new.begun ≡ true)
    (alone : is_some old.levels.staging ≡ false) (levels : new.levels ≡ opened old.levels) where
  top_main : level_at old.levels Top ≡ old.levels.main
  top_main = ap (top_of old.levels.main) (none_of old.levels.staging alone)

  main_of : (q : ℕ) → IsLive old.levels q → IsLive (opened old.levels) q
  main_of q live = elim live [ inl one ↦ inl one | inr two ↦ inl (subst (λ (l : OneLevel). is_member l.graph q ≡ true) top_main two) ]

  rates_opened : (state : PlainState) → StandsPlainly old state → HasRates (opened old.levels) state.table
  rates_opened state stands = record {
    names = elim [ Main ↦ stands.table.names Main | Top ↦ stands.table.names Main ];
    none = λ q gone. stands.table.none q (λ live. gone (main_of q live));
  }

  accepts_opened : AcceptsAll old new Stage Done
  accepts_opened state stands = (
    staged state,
    record {
      limits = stands.limits ∙ ap (λ (l : Levels). bounds_of l.limits) (sym levels);
      most = stands.most ∙ sym most;
      begun = sym begins;
      table = subst (λ (l : Levels). HasRates l state.table) (sym levels) (rates_opened state stands);
      main = subst (λ (l : Levels). IsGraphOf l.main state.main) (sym levels) stands.main;
      staging = subst (λ (l : Levels). IsStagingOf l.staging (Some state.main)) (sym levels) stands.main;
    },
    λ picks. record { answer = refl; change = refl },
  )

  -- staging has main's pick
  picks_opened : Follows old new Stage
  picks_opened state next stood stands = (
    record { main = state.picks.main; staging = Some state.picks.main },
    subst (λ (l : Levels). ArePicksOf l (record { main = state.picks.main; staging = Some state.picks.main })) (sym levels)
        (record { main = stood.picks.main; staging = stood.picks.main }),
    refl,
  )

  pub steps_opened : Meets old Stage None → MakesStep old new Stage Done
  steps_opened none = steps_made old new Stage Done tt none accepts_opened picks_opened

pub picks_of_opened : (levels : Levels) → HavePicks levels → HavePicks (opened levels)
picks_of_opened levels picked = (picked.0, picked.0)

-- ---- `commit`

module _ (old new : Kept) (most : new.most ≡ old.most) (begins : new.begun ≡ true)
    (levels : new.levels ≡ committed old.levels) where
  module _ (state : PlainState) (stands : StandsPlainly old state) where
    abbrev pub main_next : PlainState
    main_next = record (begun state) { main = level_of state Top; staging = None }

    pub graphs_committed : HasGraphs new main_next
    graphs_committed = record {
      limits = stands.limits ∙ ap (λ (l : Levels). bounds_of l.limits) (sym levels);
      most = stands.most ∙ sym most;
      begun = sym begins;
      main = subst (λ (l : Levels). IsGraphOf l.main (level_of state Top)) (sym levels) (graph_at old state stands Top);
      staging = subst (λ (l : Levels). IsStagingOf l.staging None) (sym levels) tt;
    }

    pub names_committed : (level : Level) (q : ℕ) → is_member (level_at new.levels level).graph q ≡ true
        → finmap.get state.table q ≡ Some (entry_of (rate_of (level_at new.levels level).graph q))
    names_committed =
        subst (λ (l : Levels). (level : Level) (q : ℕ) → is_member (level_at l level).graph q ≡ true
        → finmap.get state.table q ≡ Some (entry_of (rate_of (level_at l level).graph q))) (sym levels)
        (elim [ Main ↦ stands.table.names Top | Top ↦ stands.table.names Top ])

    abbrev pub after_commit : PlainState
    after_commit = forgotten new main_next graphs_committed names_committed

    pub stands_committed : StandsBarely new after_commit
    stands_committed = stands_forgotten new main_next graphs_committed names_committed

    pub commits : Commits state after_commit
    commits = forgets new main_next graphs_committed names_committed

  accepts_committed : AcceptsAll old new Commit Done
  accepts_committed state stands = (
    after_commit state stands,
    stands_committed state stands,
    λ picks. record { answer = refl; change = commits state stands },
  )

  -- main has the pick that staging had
  pub commits_pick : is_some old.levels.staging ≡ true → (state : State) → StandsFor old state
      → (picks : Picks) × ArePicksOf new.levels picks × CommitsPick state.picks picks
  commits_pick open_is state stands =
      let one = some_staged old.levels.staging open_is in
      let pick = staged_pick old.levels.limits old.levels.staging state.picks.staging one.0 one.1 stands.picks.staging in
      let top : level_at old.levels Top ≡ one.0 = ap (top_of old.levels.main) one.1 in (
        record { main = pick.0; staging = None },
        subst (λ (l : Levels). ArePicksOf l (record { main = pick.0; staging = None })) (sym levels)
            (record { main = subst (λ (l : OneLevel). IsPickOf old.levels.limits l pick.0) (sym top) pick.2; staging = tt }),
        (pick.1, refl),
      )

  pub steps_committed : is_some old.levels.staging ≡ true → Meets old Commit None → MakesStep old new Commit Done
  steps_committed open_is none = steps_made old new Commit Done tt none accepts_committed (λ state next stood stands. commits_pick open_is state stood)

pub picks_of_committed : (levels : Levels) → HavePicks levels → HavePicks (committed levels)
picks_of_committed levels picked = (may_pick_at levels Top picked, tt)

-- ---- `abort`

module _ (old new : Kept) (most : new.most ≡ old.most) (begins : new.begun ≡ true)
    (levels : new.levels ≡ aborted old.levels) where
  module _ (state : PlainState) (stands : StandsPlainly old state) where
    abbrev pub main_left : PlainState
    main_left = record (begun state) { staging = None }

    pub graphs_aborted : HasGraphs new main_left
    graphs_aborted = record {
      limits = stands.limits ∙ ap (λ (l : Levels). bounds_of l.limits) (sym levels);
      most = stands.most ∙ sym most;
      begun = sym begins;
      main = subst (λ (l : Levels). IsGraphOf l.main state.main) (sym levels) stands.main;
      staging = subst (λ (l : Levels). IsStagingOf l.staging None) (sym levels) tt;
    }

    pub names_aborted : (level : Level) (q : ℕ) → is_member (level_at new.levels level).graph q ≡ true
        → finmap.get state.table q ≡ Some (entry_of (rate_of (level_at new.levels level).graph q))
    names_aborted =
        subst (λ (l : Levels). (level : Level) (q : ℕ) → is_member (level_at l level).graph q ≡ true
        → finmap.get state.table q ≡ Some (entry_of (rate_of (level_at l level).graph q))) (sym levels)
        (elim [ Main ↦ stands.table.names Main | Top ↦ stands.table.names Main ])

    abbrev pub after_abort : PlainState
    after_abort = forgotten new main_left graphs_aborted names_aborted

    pub stands_aborted : StandsBarely new after_abort
    stands_aborted = stands_forgotten new main_left graphs_aborted names_aborted

    pub aborts : Aborts state after_abort
    aborts = forgets new main_left graphs_aborted names_aborted

  accepts_aborted : AcceptsAll old new Abort Done
  accepts_aborted state stands = (
    after_abort state stands,
    stands_aborted state stands,
    λ picks. record { answer = refl; change = aborts state stands },
  )

  -- main keeps its parts
  pub keeps_aborted : HavePicks old.levels → KeepsParts old.levels new.levels
  keeps_aborted picked = record {
    picked = subst HavePicks (sym levels) (picked.0, tt);
    limits = ap (λ (l : Levels). l.limits) levels;
    main = λ _. ap (λ (l : Levels). l.main.parts) levels;
    staging = λ a b was is _. absurd (some_none b (sym is ∙ ap (λ (l : Levels). l.staging) levels));
  }

  pub steps_aborted : HavePicks old.levels → Meets old Abort None → MakesStep old new Abort Done
  steps_aborted picked none = steps_accepted old new Abort Done tt none accepts_aborted (λ a b kept. kept) (keeps_aborted picked)

pub picks_of_aborted : (levels : Levels) → HavePicks levels → HavePicks (aborted levels)
picks_of_aborted levels picked = (picked.0, tt)
