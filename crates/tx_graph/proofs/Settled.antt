-- Staging is compared with main, and settled.
use Rattle.std.proofs.Common.{◌≡◌, ◌≢◌, true, refl, subst, subst₂, inl, inr, is_some}
use Rattle.graphs.specs.declared.names.Level.TheVariants.{Main, Top}
use Rattle.graphs.specs.declared.names.Verdict.{Verdict}
use Rattle.graphs.specs.declared.names.Verdict.TheVariants.{Better}
use Rattle.graphs.specs.Diagrams.{corners_of, Compares}
use Rattle.graphs.proofs.CornerLemmas.{corners_unique, one_verdict}
use Rattle.graph_model.specs.Commands.{Compare, Settle}
use Rattle.graph_model.specs.Replies.{Compared, Settled}
use Rattle.graph_model.specs.States.{PlainState, State, level_of}
use Rattle.graph_model.specs.States as states
use Rattle.graph_model.specs.Verdicts.{VerdictIs}
use Rattle.levels.specs.Levels.{HavePicks, level_at}
use Rattle.tx_graph.specs.Kept.{Kept, StandsPlainly, MakesStep}
use Rattle.levels.specs.Orders.{ComparesParts}
use Rattle.tx_graph.proofs.Picked.{steps_made, picks_follow}
use Rattle.tx_graph.proofs.Drawn.{AreRated, segments_at, corners_at}
use Rattle.tx_graph.proofs.Reading.{steps_told}
use Rattle.tx_graph.proofs.Rows.{AreWithin, compare_row}
use Rattle.tx_graph.proofs.Staged.{committed, aborted, after_commit, stands_committed, commits, commits_pick, after_abort, stands_aborted, aborts, keeps_aborted}

-- a state has one verdict
verdict_once : (state : PlainState) (v w : Verdict) → VerdictIs state v → VerdictIs state w → v ≡ w
verdict_once state v w one other =
    let rate = states.rate_of state.table in
    let tops = corners_unique rate (level_of state Top) other.0 one.0 other.2 one.2 in
    let mains = corners_unique rate (level_of state Main) other.1 one.1 other.3 one.3 in
    one_verdict one.0 one.1 v w one.4 (subst₂ (λ top main. Compares top main w) tops mains other.4)

module _ (kept : Kept) (verdict : Verdict) (picked : HavePicks kept.levels) (rated : AreRated kept.levels) (within : AreWithin kept.levels)
    (compares : ComparesParts kept.levels.main.parts (level_at kept.levels Top).parts verdict) where
  -- the verdict of the parts is that of every state
  verdict_here : (state : PlainState) → StandsPlainly kept state → VerdictIs state verdict
  verdict_here state stands =
      let top = segments_at kept picked Top within.1 (rated Top) state stands in
      let main = segments_at kept picked Main within.0 (rated Main) state stands in (
        corners_of top.0,
        corners_of main.0,
        corners_at kept picked Top within.1 (rated Top) state stands top.0 top.1,
        corners_at kept picked Main within.0 (rated Main) state stands main.0 main.1,
        compares main.0 top.0 main.1 top.1,
      )

  pub steps_compared : is_some kept.levels.staging ≡ true → MakesStep kept kept Compare (Compared verdict)
  steps_compared open_is =
      steps_told kept Compare (Compared verdict) picked (λ a b keeps. keeps) (compare_row kept open_is within) (λ state stands. record {
        answer = (verdict, verdict_here state.plain stands.plain, refl);
        change = refl;
      })

module _ (old new : Kept) (verdict : Verdict) (picked : HavePicks old.levels) (rated : AreRated old.levels) (within : AreWithin old.levels)
    (compares : ComparesParts old.levels.main.parts (level_at old.levels Top).parts verdict) (open_is : is_some old.levels.staging ≡ true)
    (most : new.most ≡ old.most) (begins : new.begun ≡ true) where
  here : (state : PlainState) → StandsPlainly old state → VerdictIs state verdict
  here = verdict_here old verdict picked rated within compares

  -- a better staging becomes main
  pub steps_settled : verdict ≡ Better → new.levels ≡ committed old.levels → MakesStep old new Settle (Settled verdict)
  steps_settled better levels =
      let found : (state : PlainState) → StandsPlainly old state → VerdictIs state Better =
      λ state stands. subst (VerdictIs state) better (here state stands) in
      steps_made old new Settle (Settled verdict) tt (compare_row old open_is within)
      (λ state stands. (
        after_commit old new most begins levels state stands,
        stands_committed old new most begins levels state stands,
        λ picks. record {
          answer = (verdict, here state stands, refl);
          change = inl (found state stands, commits old new most begins levels state stands);
        },
      ))
      (λ state next stood stands.
      let pick = commits_pick old new most begins levels open_is state stood in
      (pick.0, pick.1, inl (found state.plain stood.plain, pick.2)))

  -- any other is closed
  pub steps_unsettled : verdict ≢ Better → new.levels ≡ aborted old.levels → MakesStep old new Settle (Settled verdict)
  steps_unsettled other levels =
      let none : (state : PlainState) → StandsPlainly old state → VerdictIs state Better → ⊥ = λ state stands better.
      other (verdict_once state verdict Better (here state stands) better) in
      steps_made old new Settle (Settled verdict) tt (compare_row old open_is within)
      (λ state stands. (
        after_abort old new most begins levels state stands,
        stands_aborted old new most begins levels state stands,
        λ picks. record {
          answer = (verdict, here state stands, refl);
          change = inr (none state stands, aborts old new most begins levels state stands);
        },
      ))
      (λ state next stood stands.
      let pick = picks_follow old new state next stood stands (keeps_aborted old new most begins levels picked) in
      (pick.0, pick.1, inr (none state.plain stood.plain, pick.2)))
