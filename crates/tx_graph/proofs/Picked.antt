-- An accepted change with the parts that the levels have after it: a level that stays as it is keeps its parts.
use Rattle.std.proofs.Common.{◌≡◌, ℕ, true, List, sym, refl, ap, subst, ◌∙◌, inl, inr, Option, None, Some}
use Rattle.std.specs.Prelude.{Contains, IfSome}
use Rattle.std.proofs.lemmas.Option.{same_Some}
use Rattle.lists.proofs.Cases.{same_test, some_none}
use Rattle.fee_rate.specs.declared.rates.FeeRate.{FeeRate}
use Rattle.fee_rate.specs.declared.rates.Sum.{Sum}
use Rattle.graphs.specs.declared.names.Level.{Level}
use Rattle.graphs.specs.declared.names.Level.TheVariants.{Main, Top}
use Rattle.graphs.specs.Closures.{Closure, is_member, is_ancestor, rate_of}
use Rattle.graphs.specs.Graphs.{Graph}
use Rattle.graphs.specs.Certificates.{Part}
use Rattle.graphs.specs.Picks.{IsPick}
use Rattle.graphs.specs.Minimal.{AreMinimal}
use Rattle.graphs.proofs.MinimalLemmas.{uncut_with}
use Rattle.lists.proofs.Flats.{flat_has}
use Rattle.graphs.proofs.PickLemmas.{picks_are_kept}
use Rattle.cluster.specs.Clusters.{sum_at}
use Rattle.graph_model.specs.States.{PlainState, Picks, State, Table}
use Rattle.graph_model.specs.States as states
use Rattle.graph_model.specs.declared.names.Limits.{Limits}
use Rattle.graph_model.specs.Limits.{Bounds, bounds_of}
use Rattle.graph_model.specs.Validity.{ArePicks, IsStagingPick}
use Rattle.graph_model.specs.Validity as validity
use Rattle.graph_model.proofs.StepLemmas.{AddsSmall, valid_plain}
use Rattle.graph_model.specs.Commands.{Command}
use Rattle.graph_model.specs.Replies.{Reply}
use Rattle.graph_model.specs.Steps.{AcceptsPlainly, HaveSameRates, KeepsPicks, PicksFollow}
use Rattle.levels.specs.Levels.{OneLevel, Levels, HasPick, MayHavePick, HavePicks, IsWithin, level_at}
use Rattle.levels.specs.Oversize.{IsOversized}
use Rattle.tx_graph.specs.Kept.{Kept, HasRates, IsGraphOf, IsStagingOf, StandsPlainly, StandsFor, MakesStep, IsPickOf, IsStagingPickOf, ArePicksOf}
use Rattle.tx_graph.proofs.Oversizing.{IsRatedBy, oversized_told, over_along}
use Rattle.tx_graph.proofs.Standing.{StandsBarely, made_valid, Meets, open_level, sum_kept}

-- the same names with the same ancestors, fees and sizes
pub record AreSameLevel (old new : Closure) : Type 0 where
  pub members : (q : ℕ) → is_member new q ≡ is_member old q
  pub above : (a d : ℕ) → is_ancestor new a d ≡ is_ancestor old a d
  pub rates : (q : ℕ) → is_member new q ≡ true → rate_of new q ≡ rate_of old q

-- the parts after a call are picks, and of a level that is the same those before it
pub record KeepsParts (old new : Levels) : Type 0 where
  pub picked : HavePicks new
  pub limits : new.limits ≡ old.limits
  pub main : AreSameLevel old.main.graph new.main.graph → new.main.parts ≡ old.main.parts
  pub staging : (a b : OneLevel) → old.staging ≡ Some a → new.staging ≡ Some b → AreSameLevel a.graph b.graph → b.parts ≡ a.parts

-- ---- which levels have a pick

pub may_pick_at : (levels : Levels) (level : Level) → HavePicks levels → MayHavePick levels.limits (level_at levels level)
may_pick_at levels Main picked = picked.0
may_pick_at levels Top picked = by levels.staging picked.1
  where
    by : (staging : Option OneLevel) → IfSome staging (MayHavePick levels.limits) → MayHavePick levels.limits (states.top_of levels.main staging)
    by None picks = picked.0
    by (Some one) picks = picks

has_pick : (limits : Limits) (level : OneLevel) → MayHavePick limits level → (IsOversized limits level.graph → ⊥) → HasPick level
has_pick limits level may within = elim may [ inl over ↦ absurd (within over) | inr both ↦ both.1 ]

-- the parts of a level that isn't over the limits are a pick
pub pick_at : (levels : Levels) (level : Level) → HavePicks levels → IsWithin levels level → HasPick (level_at levels level)
pick_at levels level picked within = has_pick levels.limits (level_at levels level) (may_pick_at levels level picked) within

-- ---- the picks that a graph stands for

-- a level has one pick, or none
one_pick : (limits : Limits) (level : OneLevel) (a b : Option (List Part)) → IsPickOf limits level a → IsPickOf limits level b → a ≡ b
one_pick limits level None None first second = refl
one_pick limits level None (Some b) first second = absurd (second.0 first)
one_pick limits level (Some a) None first second = absurd (first.0 second)
one_pick limits level (Some a) (Some b) first second = ap Some (first.1 ∙ sym second.1)

some_pick : (limits : Limits) (level : OneLevel) → MayHavePick limits level → (pick : Option (List Part)) × IsPickOf limits level pick
some_pick limits level (inl over) = (None, over)
some_pick limits level (inr both) = (Some level.parts, (both.0, refl))

some_staging_pick : (limits : Limits) (staging : Option OneLevel) → IfSome staging (MayHavePick limits)
    → (pick : Option (Option (List Part))) × IsStagingPickOf limits staging pick
some_staging_pick limits None may = (None, tt)
some_staging_pick limits (Some level) may = let pick = some_pick limits level may in (Some pick.0, pick.1)

-- levels have picks, one way alone
pub some_picks : (levels : Levels) → HavePicks levels → (picks : Picks) × ArePicksOf levels picks
some_picks levels picked =
    let main = some_pick levels.limits levels.main picked.0 in
    let staging = some_staging_pick levels.limits levels.staging picked.1 in
    (record { main = main.0; staging = staging.0 }, record { main = main.1; staging = staging.1 })

top_pick : (limits : Limits) (main : OneLevel) (p : Option (List Part)) (staging : Option OneLevel) (q : Option (Option (List Part)))
    → IsPickOf limits main p → IsStagingPickOf limits staging q → IsPickOf limits (states.top_of main staging) (states.top_of p q)
top_pick limits main p None None one two = one
top_pick limits main p None (Some q) one two = absurd two
top_pick limits main p (Some level) None one two = absurd two
top_pick limits main p (Some level) (Some q) one two = two

pub pick_for : (levels : Levels) (picks : Picks) → ArePicksOf levels picks → (level : Level)
    → IsPickOf levels.limits (level_at levels level) (states.pick_of picks level)
pick_for levels picks are Main = are.main
pick_for levels picks are Top = top_pick levels.limits levels.main picks.main levels.staging picks.staging are.main are.staging

parts_of : (limits : Limits) (level : OneLevel) (pick : Option (List Part)) → (IsOversized limits level.graph → ⊥) → IsPickOf limits level pick
    → pick ≡ Some level.parts
parts_of limits level None within is = absurd (within is)
parts_of limits level (Some pick) within is = ap Some is.1

-- that of a level that isn't over the limits is its parts
pub pick_is : (kept : Kept) (state : State) (level : Level) → StandsFor kept state → IsWithin kept.levels level
    → states.pick_of state.picks level ≡ Some (level_at kept.levels level).parts
pick_is kept state level stands within =
    parts_of kept.levels.limits (level_at kept.levels level) (states.pick_of state.picks level) within
    (pick_for kept.levels state.picks stands.picks level)

-- a staging has a pick, or none, where it is open
pub staged_pick : (limits : Limits) (staging : Option OneLevel) (pick : Option (Option (List Part))) (one : OneLevel) → staging ≡ Some one
    → IsStagingPickOf limits staging pick → (p : Option (List Part)) × (pick ≡ Some p) × IsPickOf limits one p
staged_pick limits None pick one is of = absurd (some_none one (sym is))
staged_pick limits (Some other) None one is of = absurd of
staged_pick limits (Some other) (Some p) one is of = (p, refl, subst (λ (l : OneLevel). IsPickOf limits l p) (same_Some other one is) of)

-- a level that is the same, and has the same parts, has the same pick, or none as before
pub same_pick : (limits : Limits) (old new : OneLevel) → AreSameLevel old.graph new.graph → new.parts ≡ old.parts → (pick : Option (List Part))
    → IsPickOf limits old pick → IsPickOf limits new pick
same_pick limits old new same parts None over =
    over_along limits old.graph new.graph same.members same.above
    (λ q here. ap (λ (r : FeeRate). r.size) (same.rates q (same.members q ∙ here))) over
same_pick limits old new same parts (Some pick) is = (
  λ over. is.0 (over_along limits new.graph old.graph (λ q. sym (same.members q)) (λ a d. sym (same.above a d))
      (λ q here. ap (λ (r : FeeRate). r.size) (sym (same.rates q here))) over),
  is.1 ∙ sym parts,
)

-- ---- the parts are picks

-- a pick of a level is one of a graph of it, by fees and sizes that agree on its names
pub pick_here : (level : OneLevel) (graph : Graph) (rate : ℕ → Sum) → HasPick level → IsGraphOf level graph
    → ((id : ℕ) → is_member level.graph id ≡ true → rate id ≡ sum_at level.graph id) → IsPick rate graph level.parts
pick_here level graph rate pick of same =
    (picks_are_kept.alike (sum_at level.graph) rate graph graph (record {
      names = λ id. (λ here. here, λ here. here);
      sums = λ id here. sym (same id ((of.closure.names id).0 here));
      ancestors = λ x y. (λ walk. walk, λ walk. walk);
    }) of.valid of.valid level.parts).0 (pick.picked graph of.closure)

-- and none of its parts can be cut further
pub uncut_here : (level : OneLevel) (graph : Graph) (rate : ℕ → Sum) → HasPick level → IsGraphOf level graph
    → ((id : ℕ) → is_member level.graph id ≡ true → rate id ≡ sum_at level.graph id) → AreMinimal rate graph.pairs level.parts
uncut_here level graph rate pick of same part here =
    let listed = (pick.picked graph of.closure).certificate.order.topological in
    uncut_with (sum_at level.graph) rate graph.pairs graph.pairs part.ids (λ a d pair. pair)
    (λ id in_part. sym (same id ((of.closure.names id).0
    ((listed.names id).0 (flat_has (λ (p : Part). p.ids) level.parts part id here in_part)))))
    (pick.uncut graph of.closure part here)

-- a level has a pick where its graphs have
valid_pick : (limits : Limits) (table : Table) (level : OneLevel) (graph : Graph) → IsGraphOf level graph → IsRatedBy table level → MayHavePick limits level
    → (pick : Option (List Part)) → IsPickOf limits level pick → validity.IsPickOf (bounds_of limits) table graph pick
valid_pick limits table level graph of rated may None over = (oversized_told level graph of table rated limits).0 over
valid_pick limits table level graph of rated may (Some pick) is =
    let has = has_pick limits level may is.0 in
    let sums : (id : ℕ) → is_member level.graph id ≡ true → states.rate_of table id ≡ sum_at level.graph id =
    λ id member. ap states.sum_in (rated id member) in (
      λ over. is.0 ((oversized_told level graph of table rated limits).1 over),
      subst (IsPick (states.rate_of table) graph) (sym is.1) (pick_here level graph (states.rate_of table) has of sums),
      subst (AreMinimal (states.rate_of table) graph.pairs) (sym is.1) (uncut_here level graph (states.rate_of table) has of sums),
    )

staging_picked : (limits : Limits) (table : Table) (level : Option OneLevel) (staging : Option Graph) (pick : Option (Option (List Part)))
    → IfSome level (MayHavePick limits) → IsStagingOf level staging → ((one : OneLevel) → level ≡ Some one → IsRatedBy table one)
    → IsStagingPickOf limits level pick → IsStagingPick (bounds_of limits) table staging pick
staging_picked limits table None None None may of rated is = tt
staging_picked limits table None None (Some p) may of rated is = absurd is
staging_picked limits table None (Some graph) pick may of rated is = absurd of
staging_picked limits table (Some level) None pick may of rated is = absurd of
staging_picked limits table (Some level) (Some graph) None may of rated is = absurd is
staging_picked limits table (Some level) (Some graph) (Some p) may of rated is = valid_pick limits table level graph of (rated level refl) may p is

-- the top level is the staging that there is
staging_rated : (levels : Levels) (table : Table) → HasRates levels table → (one : OneLevel) → levels.staging ≡ Some one → IsRatedBy table one
staging_rated levels table rates one is = subst (IsRatedBy table) (ap (states.top_of levels.main) is) (rates.names Top)

staging_sums : (levels : Levels) (table : Table) → HasRates levels table → (one : OneLevel) → levels.staging ≡ Some one
    → (id : ℕ) → is_member one.graph id ≡ true → states.rate_of table id ≡ sum_at one.graph id
staging_sums levels table rates one is id member = ap states.sum_in (staging_rated levels table rates one is id member)

pub are_picks : (kept : Kept) (state : PlainState) (picks : Picks) → HavePicks kept.levels → StandsPlainly kept state → ArePicksOf kept.levels picks
    → ArePicks state picks
are_picks kept state picks picked stands are = record {
  main = subst (λ (bounds : Bounds). validity.IsPickOf bounds state.table state.main picks.main) (sym stands.limits)
      (valid_pick kept.levels.limits state.table kept.levels.main state.main stands.main (stands.table.names Main) picked.0 picks.main are.main);
  staging = subst (λ (bounds : Bounds). IsStagingPick bounds state.table state.staging picks.staging) (sym stands.limits)
      (staging_picked kept.levels.limits state.table kept.levels.staging state.staging picks.staging picked.1 stands.staging
      (staging_rated kept.levels state.table stands.table) are.staging);
}

-- ---- which levels are the same

above_too : (g h : OneLevel) (graph : Graph) (a d : ℕ) → IsGraphOf g graph → IsGraphOf h graph → is_ancestor g.graph a d ≡ true
    → is_ancestor h.graph a d ≡ true
above_too g h graph a d first second up =
    let ends = first.among a d up in
    let walk = (first.closure.ancestors a d ends.0 ends.1).1 up in
    (second.closure.ancestors a d ((second.closure.names a).0 ((first.closure.names a).1 ends.0))
    ((second.closure.names d).0 ((first.closure.names d).1 ends.1))).0 walk

-- two levels that a graph is of are the same where fees and sizes are
same_level : (old new : OneLevel) (graph : Graph) → IsGraphOf old graph → IsGraphOf new graph
    → ((q : ℕ) → Contains graph.names q → sum_at new.graph q ≡ sum_at old.graph q) → AreSameLevel old.graph new.graph
same_level old new graph stood stands same = record {
  members = λ q. same_test (is_member new.graph q) (is_member old.graph q)
      (λ member. (stood.closure.names q).0 ((stands.closure.names q).1 member)) (λ member. (stands.closure.names q).0 ((stood.closure.names q).1 member));
  above = λ a d. same_test (is_ancestor new.graph a d) (is_ancestor old.graph a d)
      (above_too new old graph a d stands stood) (above_too old new graph a d stood stands);
  rates = λ q member. ap (λ (s : Sum). record { fee = s.fee; size = s.size }) (same q ((stands.closure.names q).1 member));
}

-- ---- which picks follow

-- each level keeps its pick where it is as it was
abbrev pub KeepsCommand : Command → Type 0
KeepsCommand command = (a b : State) → KeepsPicks a b → PicksFollow a command b

module _ (old new : Kept) (state : State) (next : PlainState) (stood : StandsFor old state) (stands : StandsPlainly new next)
    (keeps : KeepsParts old.levels new.levels) where
  same_main : next.main ≡ state.plain.main → HaveSameRates state.plain.table next.table next.main
      → AreSameLevel old.levels.main.graph new.levels.main.graph
  same_main is rates =
      let of : IsGraphOf new.levels.main state.plain.main = subst (IsGraphOf new.levels.main) is stands.main in
      same_level old.levels.main new.levels.main state.plain.main stood.plain.main of
      (λ q here.
      let there : Contains next.main.names q = subst (λ (g : Graph). Contains g.names q) (sym is) here in
      sym (sum_kept new.levels next.table stands.table Main q ((of.closure.names q).0 here)) ∙ rates q there
      ∙ sum_kept old.levels state.plain.table stood.plain.table Main q ((stood.plain.main.closure.names q).0 here))

  -- a pick of a level before is one after, where the level is the same
  kept_pick : (was now : OneLevel) → AreSameLevel was.graph now.graph → now.parts ≡ was.parts → (p : Option (List Part))
      → IsPickOf old.levels.limits was p → IsPickOf new.levels.limits now p
  kept_pick was now same parts p is =
      subst (λ (l : Limits). IsPickOf l now p) (sym keeps.limits) (same_pick old.levels.limits was now same parts p is)

  module _ (picks : Picks) (are : ArePicksOf new.levels picks) where
    main_kept : next.main ≡ state.plain.main → HaveSameRates state.plain.table next.table next.main → picks.main ≡ state.picks.main
    main_kept is rates =
        let same = same_main is rates in
        one_pick new.levels.limits new.levels.main picks.main state.picks.main are.main
        (kept_pick old.levels.main new.levels.main same (keeps.main same) state.picks.main stood.picks.main)

    staging_kept : (graph : Graph) → state.plain.staging ≡ Some graph → next.staging ≡ Some graph → HaveSameRates state.plain.table next.table graph
        → picks.staging ≡ state.picks.staging
    staging_kept graph was is rates =
        let a = open_level old.levels.staging state.plain.staging graph stood.plain.staging was in
        let b = open_level new.levels.staging next.staging graph stands.staging is in
        let same = same_level a.0 b.0 graph a.2 b.2 (λ q here.
        sym (staging_sums new.levels next.table stands.table b.0 b.1 q ((b.2.closure.names q).0 here)) ∙ rates q here
        ∙ staging_sums old.levels state.plain.table stood.plain.table a.0 a.1 q ((a.2.closure.names q).0 here)) in
        let p = staged_pick old.levels.limits old.levels.staging state.picks.staging a.0 a.1 stood.picks.staging in
        let q = staged_pick new.levels.limits new.levels.staging picks.staging b.0 b.1 are.staging in
        q.1 ∙ ap Some (one_pick new.levels.limits b.0 q.0 p.0 q.2 (kept_pick a.0 b.0 same (keeps.staging a.0 b.0 a.1 b.1 same) p.0 p.2)) ∙ sym p.1

    picks_kept : KeepsPicks state (record { plain = next; picks = picks })
    picks_kept = record { picks = are_picks new next picks keeps.picked stands are; main = main_kept; staging = staging_kept }

  pub picks_follow : (picks : Picks) × ArePicksOf new.levels picks × KeepsPicks state (record { plain = next; picks = picks })
  picks_follow = let some = some_picks new.levels keeps.picked in (some.0, some.1, picks_kept some.0 some.1)

-- ---- accepted commands

-- the plain part of an accepted command, from every plain state that the graph stood for
abbrev pub AcceptsAll : Kept → Kept → Command → Reply → Type 0
AcceptsAll old new command reply = (state : PlainState) → StandsPlainly old state
    → (next : PlainState) × StandsBarely new next × ((picks : Picks) → AcceptsPlainly picks state command reply next)

-- the same from every state with its picks
abbrev pub AcceptsHere : Kept → Kept → Command → Reply → Type 0
AcceptsHere old new command reply = (state : State) → StandsFor old state
    → (next : PlainState) × StandsBarely new next × AcceptsPlainly state.picks state.plain command reply next

-- picks follow it that the levels have
abbrev pub Follows : Kept → Kept → Command → Type 0
Follows old new command = (state : State) (next : PlainState) → StandsFor old state → StandsPlainly new next
    → (picks : Picks) × ArePicksOf new.levels picks × PicksFollow state command (record { plain = next; picks = picks })

module _ (old new : Kept) (command : Command) (reply : Reply) (small : AddsSmall command) (none : Meets old command None) where
  pub steps_here : AcceptsHere old new command reply → Follows old new command → MakesStep old new command reply
  steps_here accepts follow state stands =
      let made = accepts state stands in
      let row = none state.plain stands.plain in
      let stood = made_valid new made.0 made.1
      (valid_plain state.picks state.plain made.0 command small stands.plain.valid row made.2.change) in
      let picks = follow state made.0 stands stood in (
        record { plain = made.0; picks = picks.0 },
        record { plain = stood; picks = picks.1 },
        inr (inr (record { none = row; accepts = record { plain = made.2; picks = picks.2 } })),
      )

  pub steps_made : AcceptsAll old new command reply → Follows old new command → MakesStep old new command reply
  steps_made accepts =
      steps_here (λ state stands. let made = accepts state.plain stands.plain in (made.0, made.1, made.2 state.picks))

  -- each level keeps its pick where it is as it was
  follow_kept : KeepsCommand command → KeepsParts old.levels new.levels → Follows old new command
  follow_kept follow keeps state next stood stands =
      let found = picks_follow old new state next stood stands keeps in
      (found.0, found.1, follow state (record { plain = next; picks = found.0 }) found.2)

  pub steps_kept : AcceptsHere old new command reply → KeepsCommand command → KeepsParts old.levels new.levels → MakesStep old new command reply
  steps_kept accepts follow keeps = steps_here accepts (follow_kept follow keeps)

  pub steps_accepted : AcceptsAll old new command reply → KeepsCommand command → KeepsParts old.levels new.levels → MakesStep old new command reply
  steps_accepted accepts follow keeps = steps_made accepts (follow_kept follow keeps)
