-- What the changes of a shelf make of the levels, told by closures.
use Rattle.std.proofs.Common.{◌≡◌, ℕ, ℤ, ◌*◌, List, [], ◌∷◌, Contains, Option, Some, None, is_some, IsSome, refl, sym, ap, ◌∙◌, subst, subst₂, inl, inr, true≢false}
use Rattle.std.specs.Prelude.{option_map, option_to_list, ◌++◌, slice_index, false}
use Rattle.std.proofs.lemmas.Option.{same_Some}
use Rattle.std.specs.FinMap as finmap
use Rattle.graphs.specs.Closures.{Closure, is_ancestor, AddsPair, SetsFee}
use Rattle.graphs.specs.declared.names.Level.{Level}
use Rattle.graphs.specs.declared.names.Level.TheVariants.{Main, Top}
use Rattle.fee_rate.specs.declared.rates.FeeRate.{FeeRate}
use Rattle.cluster.specs.Clusters.{Cluster}
use Rattle.record.specs.Records.{IsConnected}
use Rattle.levels.specs.Changes.{IsRebuilt, Rebuilds}
use Rattle.levels.specs.Levels.{AddsName, ChangesTop, LosesNames, OneLevel, SetsFeeIn, SetsFeeOf, level_at}
use Rattle.levels.specs.Moves.{AddsTop, DropsTop, PairsTop, SetsFeeAt, SetsFees}
use Rattle.levels.specs.Shelves.{Shelf, IsInOrder, levels_of, numbers_at, one_of, seen_at, view_of}
use Rattle.levels.specs.Stays.{AllStay}
use Rattle.levels.specs.Tops.{TopRebuilds}
use Rattle.levels.specs.Views.{Numbers, graph_of}
use Rattle.levels.proofs.Closing.{adds_name, sets_fee}
use Rattle.levels.proofs.Finds.{alike, indexed_at}
use Rattle.levels.proofs.Graphs.{cases_option, member-number}
use Rattle.levels.proofs.Lookups.{placed_of}
use Rattle.levels.proofs.Rebuilt.{is_rebuilt}
use Rattle.levels.proofs.Saying.{adds_pair, drops_away, loses_names, pair_away}
use Rattle.levels.proofs.Shelved.{level_of_shelf, levels_changed, none_of, same_level, same_view}
use Rattle.levels.proofs.Unmoved.{added_stays, top_stays}

module _ (w issued : ℕ) (outs made : List ℕ) (olds news : List Cluster) (gone : List ℕ) (old new : Shelf) (before : IsInOrder w old) (after : IsInOrder w new)
    (r : TopRebuilds w outs made olds news gone old new) where
  pub rebuilt : IsRebuilt olds news gone (graph_of (view_of Top old)) (graph_of (view_of Top new))
  rebuilt = is_rebuilt (64 * w) outs made olds news gone (view_of Top old) (view_of Top new) before.top r.top

  main_same : IsSome old.staging → one_of Main new ≡ one_of Main old
  main_same some = same_level (64 * w) Main Main new old after.store before.store (same_view (view_of Main old) (view_of Main new) (r.base some) (r.main some))

  pub changed : (Changes : Closure → Closure → Type 0) → Changes (graph_of (view_of Top old)) (graph_of (view_of Top new))
      → ChangesTop Changes (levels_of old issued) (levels_of new issued)
  changed Changes holds = (
    one_of Top new,
    subst (λ (l : OneLevel). Changes l.graph (graph_of (view_of Top new))) (sym (level_of_shelf Top old issued (alike w old before))) holds,
    levels_changed old new issued r.limits r.staged main_same (λ none. alike w new after (none_of new.staging old.staging r.staged none)),
  )

  -- the clusters that go out are whole, and those that come in
  pub olds_whole : (c : Cluster) → Contains olds c → IsConnected c
  olds_whole c here =
      let at = placed_of (seen_at Top old.store.clusters) outs olds c r.top.taken here in (before.top.whole (slice_index outs at.place) c at.stands).connected

  pub news_whole : (c : Cluster) → Contains news c → IsConnected c
  news_whole c here = (r.top.covers.whole c here).connected

-- ---- another fee

module _ (w id : ℕ) (fee : ℤ) (level : Level) (old new : Shelf) (before : IsInOrder w old) (after : IsInOrder w new)
    (numbers : numbers_at level new ≡ numbers_at level old) where
  -- a level in which the name's cluster has another fee
  pub fee_here : (number : ℕ) (a b : Cluster) → finmap.get (numbers_at level old) id ≡ Some number → seen_at level old.store.clusters number ≡ Some a
      → b.names ≡ a.names → SetsFee a.graph b.graph id fee
      → Rebuilds (64 * w) (number ∷ []) (number ∷ []) (a ∷ []) (b ∷ []) [] (view_of level old) (view_of level new)
      → SetsFeeOf id fee (one_of level old) (one_of level new)
  fee_here number a b is at names sets r =
      let indexed = indexed_at w old before level in
      let stands = indexed.stands id number is in
      let held : Contains a.names id = in_a stands.cluster a stands.there at stands.here in (
        λ _. sets_fee a b (graph_of (view_of level old)) (graph_of (view_of level new))
            (is_rebuilt (64 * w) (number ∷ []) (number ∷ []) (a ∷ []) (b ∷ []) [] (view_of level old) (view_of level new) indexed r) names id fee held sets,
        λ absent. absurd (true≢false (sym (member-number (view_of level old) id ∙ ap is_some is) ∙ absent)),
      )
    where
      in_a : (c a : Cluster) → seen_at level old.store.clusters number ≡ Some c
          → seen_at level old.store.clusters number ≡ Some a → Contains c.names id → Contains a.names id
      in_a c a one two here = subst (λ (o : Option Cluster). (d : Cluster) → o ≡ Some d → Contains d.names id)
          (sym one) (λ d same. subst (λ (x : Cluster). Contains x.names id) (same_cluster c d same) here) a two
        where
          same_cluster : (c d : Cluster) → Some c ≡ Some d → c ≡ d
          same_cluster c d same = same_Some c d same

  -- a level that hasn't the name
  pub fee_away : finmap.get (numbers_at level old) id ≡ None → ((n : ℕ) → seen_at level new.store.clusters n ≡ seen_at level old.store.clusters n)
      → SetsFeeOf id fee (one_of level old) (one_of level new)
  fee_away none same = (
    λ member. absurd (true≢false (sym member ∙ member-number (view_of level old) id ∙ ap is_some none)),
    λ _. same_level (64 * w) level level new old after.store before.store (same_view (view_of level old) (view_of level new) numbers same),
  )

-- ---- the changes

module _ (w issued : ℕ) (old new : Shelf) (before : IsInOrder w old) (after : IsInOrder w new) where
  abbrev was : Closure
  was = graph_of (view_of Top old)

  abbrev now : Closure
  now = graph_of (view_of Top new)

  module _ (id : ℕ) (rate : FeeRate) (a : AddsTop w id rate old new) where
    pub added_top : ChangesTop (λ g h. AddsName g h id rate) (levels_of old issued) (levels_of new issued)
    added_top =
        changed w issued [] (a.made ∷ []) [] (a.now ∷ []) [] old new before after a.rebuilds (λ g h. AddsName g h id rate)
        (adds_name a.now was now (rebuilt w issued [] (a.made ∷ []) [] (a.now ∷ []) [] old new before after a.rebuilds) id rate a.single
        (member-number (view_of Top old) id ∙ ap is_some a.absent))

    pub added_keeps : (later : ℕ) → AllStay (levels_of old issued) (levels_of new later)
    added_keeps later = added_stays w old new before after issued later (a.made ∷ []) (a.now ∷ []) a.rebuilds

  module _ (outs : List ℕ) (p q : ℕ) (pairs : PairsTop w outs p q old new) where
    abbrev made_of : List ℕ
    made_of = pairs.made ∷ []

    told : IsRebuilt pairs.olds (pairs.now ∷ []) [] was now
    told = rebuilt w issued outs made_of pairs.olds (pairs.now ∷ []) [] old new before after pairs.rebuilds

    olds_in : (c : Cluster) → Contains pairs.olds c → IsConnected c
    olds_in = olds_whole w issued outs made_of pairs.olds (pairs.now ∷ []) [] old new before after pairs.rebuilds

    news_in : (c : Cluster) → Contains (pairs.now ∷ []) c → IsConnected c
    news_in = news_whole w issued outs made_of pairs.olds (pairs.now ∷ []) [] old new before after pairs.rebuilds

    pub paired_top : ChangesTop (λ g h. AddsPair g h p q) (levels_of old issued) (levels_of new issued)
    paired_top =
        changed w issued outs made_of pairs.olds (pairs.now ∷ []) [] old new before after pairs.rebuilds (λ g h. AddsPair g h p q)
        (adds_pair pairs.olds (pairs.now ∷ []) [] was now told olds_in news_in p q pairs.pair)

    pub paired_keeps : is_ancestor was p q ≡ false → AllStay (levels_of old issued) (levels_of new issued)
    paired_keeps apart =
        top_stays w old new before after issued issued outs made_of pairs.olds (pairs.now ∷ []) [] pairs.rebuilds
        (pair_away pairs.olds (pairs.now ∷ []) [] was now told olds_in news_in p q pairs.pair apart)

  module _ (outs gone : List ℕ) (d : DropsTop w outs gone old new) where
    abbrev all : List ℕ
    all = d.made ++ option_to_list d.number

    abbrev left : List Cluster
    left = d.rest ++ option_to_list d.last

    lost : IsRebuilt d.is.olds left gone was now
    lost = rebuilt w issued outs all d.is.olds left gone old new before after d.is.rebuilds

    whole_olds : (c : Cluster) → Contains d.is.olds c → IsConnected c
    whole_olds = olds_whole w issued outs all d.is.olds left gone old new before after d.is.rebuilds

    whole_left : (c : Cluster) → Contains left c → IsConnected c
    whole_left = news_whole w issued outs all d.is.olds left gone old new before after d.is.rebuilds

    pub dropped_top : ChangesTop (λ g h. LosesNames g h gone) (levels_of old issued) (levels_of new issued)
    dropped_top =
        changed w issued outs all d.is.olds left gone old new before after d.is.rebuilds (λ g h. LosesNames g h gone)
        (loses_names d.is.olds left gone was now lost whole_olds whole_left d.drops)

    pub dropped_keeps : AllStay (levels_of old issued) (levels_of new issued)
    dropped_keeps =
        top_stays w old new before after issued issued outs all d.is.olds left gone d.is.rebuilds
        (drops_away d.is.olds left gone was now lost whole_olds whole_left d.drops)

  fee_of : (level : Level) (id : ℕ) (fee : ℤ) → numbers_at level new ≡ numbers_at level old → SetsFeeAt w id fee level old new
      → SetsFeeOf id fee (one_of level old) (one_of level new)
  fee_of level id fee numbers sets = elim (cases_option (finmap.get (numbers_at level old) id)) [
    | inl none ↦ fee_away w id fee level old new before after numbers none (sets.away none)
    | inr some ↦
        let stands = (indexed_at w old before level).stands id some.0 some.1 in
        let at = sets.here some.0 stands.cluster some.1 stands.there in
        fee_here w id fee level old new before after numbers some.0 stands.cluster at.0 some.1 stands.there at.1 at.2 at.3
  ]

  pub fees_set : (id : ℕ) (fee : ℤ) → SetsFees w id fee old new → SetsFeeIn id fee (levels_of old issued) (levels_of new issued)
  fees_set id fee sets =
      let numbers : numbers_at Top new ≡ numbers_at Top old =
      λ i. numbers_at Top (record { limits = new.limits; main = sets.numbers i; staging = sets.staging i; store = new.store }) in
      record {
        limits = sets.limits;
        main = fee_of Main id fee sets.numbers sets.main;
        staged = some_levels new.staging old.staging sets.staging;
        top = top_of numbers;
        issued = refl;
      }
    where
      some_levels : (o p : Option Numbers) → o ≡ p
          → is_some (option_map (λ _. one_of Top new) o) ≡ is_some (option_map (λ _. one_of Top old) p)
      some_levels None None same = refl
      some_levels None (Some p) same = absurd (true≢false (sym (ap is_some same)))
      some_levels (Some o) None same = absurd (true≢false (ap is_some same))
      some_levels (Some o) (Some p) same = refl

      top_of : numbers_at Top new ≡ numbers_at Top old → SetsFeeOf id fee (level_at (levels_of old issued) Top) (level_at (levels_of new issued) Top)
      top_of numbers =
          subst₂ (SetsFeeOf id fee) (sym (level_of_shelf Top old issued (alike w old before))) (sym (level_of_shelf Top new issued (alike w new after)))
          (fee_of Top id fee numbers sets.top)
