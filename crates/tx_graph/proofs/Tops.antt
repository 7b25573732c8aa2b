-- A change of the top level alone: which states a graph stands for after it, and which parts stay.
use Rattle.std.proofs.Common.{◌≡◌, ℕ, true, sym, refl, ap, subst, subst₂, ◌∙◌, inl, inr, Option, None, Some}
use Rattle.std.specs.FinMap as finmap
use Rattle.lists.proofs.Cases.{some_none}
use Rattle.std.proofs.lemmas.Option.{same_Some}
use Rattle.graphs.specs.declared.names.Level.{Level}
use Rattle.graphs.specs.declared.names.Level.TheVariants.{Main, Top}
use Rattle.graphs.specs.Closures.{is_member, rate_of}
use Rattle.graphs.specs.Graphs.{Graph}
use Rattle.graph_model.specs.declared.names.Limits.{Limits}
use Rattle.graph_model.specs.Limits.{bounds_of}
use Rattle.graph_model.specs.States.{PlainState, Table, with_top, top_of}
use Rattle.graph_model.specs.Changes.{begun}
use Rattle.graph_model.proofs.ChangeLemmas.{of_top}
use Rattle.levels.specs.Levels as levels
use Rattle.levels.specs.Levels.{OneLevel, Levels, HavePicks, level_at, IsLive}
use Rattle.tx_graph.specs.Kept.{Kept, HasRates, IsGraphOf, IsStagingOf, StandsPlainly, entry_of}
use Rattle.tx_graph.proofs.Standing.{StandsBarely, open_level, closed_level}
use Rattle.tx_graph.proofs.Picked.{AreSameLevel, KeepsParts}

-- the levels after a change that leaves this top level
pub record AreTopped (old : Levels) (top : OneLevel) (new : Levels) : Type 0 where
  pub limits : new.limits ≡ old.limits
  pub alone : old.staging ≡ None → (new.main ≡ top) × (new.staging ≡ None)
  pub staged : (was : OneLevel) → old.staging ≡ Some was → (new.main ≡ old.main) × (new.staging ≡ Some top)

topped_in : (limits : Limits) (main : OneLevel) (staging : Option OneLevel) (issued : ℕ) (top : OneLevel)
    → AreTopped (record { limits = limits; main = main; staging = staging; issued = issued }) top
    (levels.with_top (record { limits = limits; main = main; staging = staging; issued = issued }) top)
topped_in limits main None issued top = record { limits = refl; alone = λ is. (refl, refl); staged = λ was is. absurd (some_none was (sym is)) }
topped_in limits main (Some one) issued top = record { limits = refl; alone = λ is. absurd (some_none one is); staged = λ was is. (refl, refl) }

pub topped_from : (old : Levels) (top : OneLevel) → AreTopped old top (levels.with_top old top)
topped_from old top = topped_in old.limits old.main old.staging old.issued top

-- the same where names were added, and however many
pub topped_with : (old : Levels) (top : OneLevel) (n : ℕ) → AreTopped old top (record (levels.with_top old top) { issued = n })
topped_with old top n = let topped = topped_from old top in record { limits = topped.limits; alone = topped.alone; staged = topped.staged }

module _ (old new : Levels) (top : OneLevel) (topped : AreTopped old top new) where
  by_staging : (staging : Option OneLevel) → old.staging ≡ staging → level_at new Top ≡ top
  by_staging None is = let both = topped.alone is in ap (top_of new.main) both.1 ∙ both.0
  by_staging (Some was) is = ap (top_of new.main) (topped.staged was is).1

  pub top_is : level_at new Top ≡ top
  top_is = by_staging old.staging refl

  -- a name of the new top level is live
  pub live_in : (q : ℕ) → is_member top.graph q ≡ true → IsLive new q
  live_in q member = inr (subst (λ (l : OneLevel). is_member l.graph q ≡ true) (sym top_is) member)

  -- a name of main is live, also where the change is one of main
  stays_from : (q : ℕ) → (is_member (level_at old Top).graph q ≡ true → is_member top.graph q ≡ true) → is_member old.main.graph q ≡ true
      → (staging : Option OneLevel) → old.staging ≡ staging → IsLive new q
  stays_from q more member None is =
      live_in q (more (subst (λ (l : OneLevel). is_member l.graph q ≡ true) (sym (ap (top_of old.main) is)) member))
  stays_from q more member (Some was) is = inl (subst (λ (l : OneLevel). is_member l.graph q ≡ true) (sym (topped.staged was is).0) member)

  -- what was live stays so where the top level loses no name
  pub live_stays : (q : ℕ) → (is_member (level_at old Top).graph q ≡ true → is_member top.graph q ≡ true) → IsLive old q → IsLive new q
  live_stays q more live = elim live [ inl one ↦ stays_from q more one old.staging refl | inr two ↦ live_in q (more two) ]

  -- what main keeps in a staging
  abbrev pub MainStays : Table → Type 0
  MainStays table = (was : OneLevel) → old.staging ≡ Some was → (q : ℕ) → is_member old.main.graph q ≡ true
      → finmap.get table q ≡ Some (entry_of (rate_of old.main.graph q))

  abbrev pub HasTop : Table → Type 0
  HasTop table = (q : ℕ) → is_member top.graph q ≡ true → finmap.get table q ≡ Some (entry_of (rate_of top.graph q))

  abbrev Holds : Table → OneLevel → Type 0
  Holds table one = (q : ℕ) → is_member one.graph q ≡ true → finmap.get table q ≡ Some (entry_of (rate_of one.graph q))

  main_rates : (table : Table) → HasTop table → MainStays table → (staging : Option OneLevel) → old.staging ≡ staging → Holds table new.main
  main_rates table has stays None is = subst (Holds table) (sym (topped.alone is).0) has
  main_rates table has stays (Some was) is = subst (Holds table) (sym (topped.staged was is).0) (stays was is)

  -- a table has the fees and sizes of the names of the levels
  pub rates_topped : (table : Table) → HasTop table → MainStays table → (level : Level) (q : ℕ) → is_member (level_at new level).graph q ≡ true
      → finmap.get table q ≡ Some (entry_of (rate_of (level_at new level).graph q))
  rates_topped table has stays Main = main_rates table has stays old.staging refl
  rates_topped table has stays Top = subst (Holds table) (sym top_is) has

  -- where the top level isn't the same, or keeps its parts where it is
  keeps_alone : HavePicks new → (AreSameLevel (level_at old Top).graph top.graph → top.parts ≡ (level_at old Top).parts)
      → (staging : Option OneLevel) → old.staging ≡ staging → AreSameLevel old.main.graph new.main.graph → new.main.parts ≡ old.main.parts
  keeps_alone picked keeps None is same =
      let was : level_at old Top ≡ old.main = ap (top_of old.main) is in
      let made = topped.alone is in
      subst₂ (λ (a b : OneLevel). AreSameLevel a.graph b.graph → b.parts ≡ a.parts) was (sym made.0) keeps same
  keeps_alone picked keeps (Some was) is same = ap (λ (l : OneLevel). l.parts) (topped.staged was is).0

  pub keeps_topped : HavePicks new → (AreSameLevel (level_at old Top).graph top.graph → top.parts ≡ (level_at old Top).parts) → KeepsParts old new
  keeps_topped picked keeps = record {
    picked = picked;
    limits = topped.limits;
    main = keeps_alone picked keeps old.staging refl;
    staging = λ a b was is same.
        let first : level_at old Top ≡ a = ap (top_of old.main) was in
        let second : top ≡ b = same_Some top b (sym (topped.staged a was).1 ∙ is) in
        subst₂ (λ (x y : OneLevel). AreSameLevel x.graph y.graph → y.parts ≡ x.parts) first second keeps same;
  }

-- ---- states

-- A graph stands for a state but for what the table has of names.
pub record HasGraphs (kept : Kept) (state : PlainState) : Type 0 where
  pub limits : state.limits ≡ bounds_of kept.levels.limits
  pub most : state.most ≡ kept.most
  pub begun : state.begun ≡ kept.begun
  pub main : IsGraphOf kept.levels.main state.main
  pub staging : IsStagingOf kept.levels.staging state.staging

pub with_rates : (kept : Kept) (state : PlainState) → HasGraphs kept state → HasRates kept.levels state.table → StandsBarely kept state
with_rates kept state has rates = record {
  limits = has.limits;
  most = has.most;
  begun = has.begun;
  table = rates;
  main = has.main;
  staging = has.staging;
}

module _ (old new : Kept) (top : OneLevel) (most : new.most ≡ old.most) (begins : new.begun ≡ true)
    (topped : AreTopped old.levels top new.levels)
    (state : PlainState) (stands : StandsPlainly old state) (table : Table) (graph : Graph) (of : IsGraphOf top graph) where
  abbrev base : PlainState
  base = record (begun state) { table = table }

  pub graphs_topped : HasGraphs new (with_top base graph)
  graphs_topped = of_top base graph (HasGraphs new)
      (λ alone.
      let made = topped.alone (closed_level old.levels.staging state.staging stands.staging alone) in
      record {
        limits = stands.limits ∙ ap bounds_of (sym topped.limits);
        most = stands.most ∙ sym most;
        begun = sym begins;
        main = subst (λ (l : OneLevel). IsGraphOf l graph) (sym made.0) of;
        staging = subst₂ IsStagingOf (sym made.1) (sym alone) tt;
      })
      (λ other open_is.
      let was = open_level old.levels.staging state.staging other stands.staging open_is in
      let made = topped.staged was.0 was.1 in
      record {
        limits = stands.limits ∙ ap bounds_of (sym topped.limits);
        most = stands.most ∙ sym most;
        begun = sym begins;
        main = subst (λ (l : OneLevel). IsGraphOf l state.main) (sym made.0) stands.main;
        staging = subst (λ (l : Option OneLevel). IsStagingOf l (Some graph)) (sym made.1) of;
      })

  pub table_is : (with_top base graph).table ≡ table
  table_is = of_top base graph (λ (p : PlainState). p.table ≡ table) (λ alone. refl) (λ other open_is. refl)

  pub stands_topped : HasRates new.levels table → StandsBarely new (with_top base graph)
  stands_topped rates = with_rates new (with_top base graph) graphs_topped (subst (HasRates new.levels) (sym table_is) rates)
