-- Names are dropped from main, with all their ancestors or with all their descendants.
use Rattle.std.proofs.Common.{◌≡◌, ◌≢◌, ℕ, true, not, ◌&&◌, nat_eq, List, [], ◌∷◌, map, flat_map, sym, refl, ap, subst, subst₂, ◌∙◌, inl, inr, ◌⊎◌, Bool, Option, None, Some, eq-eqb, ne_eqb}
use Rattle.std.specs.Prelude.{Contains, take}
use Rattle.std.specs.FinMap as finmap
use Rattle.std.specs.List.{filter}
use Rattle.std.proofs.lemmas.List.{map-append}
use Rattle.std.proofs.lemmas.Bool.{and_parts, and_from, not-true, both_ways}
use Rattle.lists.proofs.Cases.{some_none}
use Rattle.lists.proofs.Entries.{Contains-filter, filter-Contains, Contains-map, map-Contains}
use Rattle.lists.proofs.Flats.{flat_has, flat_of}
use Rattle.graphs.specs.declared.names.Level.{Level}
use Rattle.graphs.specs.declared.names.Level.TheVariants.{Main, Top}
use Rattle.graphs.specs.Closures.{is_member, is_ancestor, rate_of}
use Rattle.graphs.specs.Graphs.{Graph, IsAncestor}
use Rattle.graphs.specs.Drops.{HasParents, HasChildren, DropsNames}
use Rattle.graphs.proofs.DropLemmas.{graph_left, ancestors_left, some_left}
use Rattle.graph_model.specs.declared.limits.TheConstants.{MAX_BLOCKS}
use Rattle.graph_model.specs.Limits.{bounds_of}
use Rattle.graph_model.specs.States.{PlainState, MinedBlock}
use Rattle.graph_model.specs.States as states
use Rattle.graph_model.specs.Commands.{Mine, Evict, HasTypes}
use Rattle.graph_model.specs.Replies.{Done, Evicted}
use Rattle.graph_model.specs.Changes.{begun, DropsFromMain, IsLast, IsMinedBlock}
use Rattle.graph_model.proofs.MinedLemmas.{can_mine}
use Rattle.graphs.specs.Certificates.{Part}
use Rattle.graphs.specs.Linearizations.{IsOptimal}
use Rattle.graphs.proofs.OrderLemmas.{last_is_one}
use Rattle.cluster.specs.Clusters.{sum_at}
use Rattle.levels.specs.Levels.{OneLevel, LosesNames, HavePicks, IsBest, IsWithin, level_at}
use Rattle.tx_graph.specs.Kept.{Kept, IsGraphOf, IsStagingOf, StandsPlainly, MakesStep, entry_of}
use Rattle.tx_graph.proofs.Standing.{StandsBarely, Meets, order_kept, told}
use Rattle.tx_graph.proofs.Picked.{AreSameLevel, KeepsParts, AcceptsAll, AcceptsHere, pick_is, steps_accepted, steps_kept}
use Rattle.tx_graph.proofs.Tables.{forgotten, stands_forgotten, forgets}
use Rattle.tx_graph.proofs.Tops.{HasGraphs}

-- a level that loses names
module _ (was left : OneLevel) (ids : List ℕ) (loses : LosesNames was.graph left.graph ids) where
  -- the pairs of the names that stay have the ancestors that are left
  pub graph_lost : (graph rest : Graph) → IsGraphOf was graph → HasParents graph.pairs ids ⊎ HasChildren graph.pairs ids → DropsNames graph ids rest
      → IsGraphOf left rest
  graph_lost graph rest of closed drops = record {
    closure = record {
      names = λ id. (
        λ here. let both = (drops.names id).0 here in (loses.members id).1 (both.1, (of.closure.names id).0 both.0),
        λ member. let both = (loses.members id).0 member in (drops.names id).1 ((of.closure.names id).1 both.1, both.0),
      );
      ends = λ parent child pair.
          let there = (drops.pairs parent child).0 pair in
          let both = of.closure.ends parent child there.2 in
          ((loses.members parent).1 (there.0, both.0), (loses.members child).1 (there.1, both.1));
      acyclic = (graph_left graph rest ids drops of.valid).acyclic;
      ancestors = λ a d here there.
          let one = (loses.members a).0 here in
          let two = (loses.members d).0 there in (
            λ walk. elim ((ancestors_left graph rest ids drops closed a d).0 walk) [
              | inl same ↦
                  subst (λ x. is_ancestor left.graph a x ≡ true) same
                  ((loses.ancestors a a).1 (one.0, one.0, (order_kept was graph of).reflexive a one.1))
              | inr up ↦ (loses.ancestors a d).1 (up.0, up.1, (of.closure.ancestors a d one.1 two.1).0 up.2)
            ],
            λ up.
                let above = (loses.ancestors a d).0 up in
                (ancestors_left graph rest ids drops closed a d).1
                (inr (above.0, above.1, (of.closure.ancestors a d one.1 two.1).1 above.2)),
          );
    };
    among = λ a d up.
        let above = (loses.ancestors a d).0 up in
        let both = of.among a d above.2 in
        ((loses.members a).1 (above.0, both.0), (loses.members d).1 (above.1, both.1));
    valid = graph_left graph rest ids drops of.valid;
  }

  -- the level lacks a name that it had
  pub other_lost : (id : ℕ) → Contains ids id → is_member was.graph id ≡ true → AreSameLevel was.graph left.graph → left.parts ≡ was.parts
  other_lost id here live same = absurd (((loses.members id).0 (same.members id ∙ live)).0 here)

-- ---- states

module _ (old new : Kept) (ids : List ℕ) (limits : new.levels.limits ≡ old.levels.limits) (most : new.most ≡ old.most) (begins : new.begun ≡ true)
    (alone : old.levels.staging ≡ None) (still : new.levels.staging ≡ None) (loses : LosesNames old.levels.main.graph new.levels.main.graph ids)
    (state : PlainState) (stands : StandsPlainly old state) (closed : HasParents state.main.pairs ids ⊎ HasChildren state.main.pairs ids) where
  -- no staging is open before or after
  not_staged : (staging : Option Graph) → IsStagingOf old.levels.staging staging → IsStagingOf new.levels.staging staging
  not_staged staging of = subst (λ l. IsStagingOf l staging) (alone ∙ sym still) of

  rest : (graph : Graph) × DropsNames state.main ids graph
  rest = some_left state.main ids stands.main.valid

  -- the state after, with these blocks
  abbrev mid : List MinedBlock → PlainState
  mid blocks = record (begun (record state { blocks = blocks })) { main = rest.0 }

  graphs_mid : (blocks : List MinedBlock) → HasGraphs new (mid blocks)
  graphs_mid blocks = record {
    limits = stands.limits ∙ ap bounds_of (sym limits);
    most = stands.most ∙ sym most;
    begun = sym begins;
    main = graph_lost old.levels.main new.levels.main ids loses state.main rest.0 stands.main closed rest.1;
    staging = not_staged state.staging stands.staging;
  }

  main_rates : (q : ℕ) → is_member new.levels.main.graph q ≡ true → finmap.get state.table q ≡ Some (entry_of (rate_of new.levels.main.graph q))
  main_rates q member =
      let both = (loses.members q).0 member in
      stands.table.names Main q both.1 ∙ ap (λ r. Some (entry_of r)) (sym (loses.rates q both.0))

  names_mid : (level : Level) (q : ℕ) → is_member (level_at new.levels level).graph q ≡ true
      → finmap.get state.table q ≡ Some (entry_of (rate_of (level_at new.levels level).graph q))
  names_mid Main = main_rates
  names_mid Top =
      subst (λ (l : OneLevel). (q : ℕ) → is_member l.graph q ≡ true → finmap.get state.table q ≡ Some (entry_of (rate_of l.graph q)))
      (sym (ap (states.top_of new.levels.main) still)) main_rates

  -- the state that follows, with these blocks
  pub after : (blocks : List MinedBlock) → (next : PlainState) × StandsBarely new next × DropsFromMain (record state { blocks = blocks }) ids next
  after blocks = (
    forgotten new (mid blocks) (graphs_mid blocks) names_mid,
    stands_forgotten new (mid blocks) (graphs_mid blocks) names_mid,
    (rest.0, rest.1, forgets new (mid blocks) (graphs_mid blocks) names_mid),
  )

-- ---- mined blocks

-- a name and one of its descendants, another than itself
abbrev is_below : OneLevel → ℕ → ℕ → Bool
is_below level m d = is_ancestor level.graph m d && not (nat_eq m d)

-- the descendants of a name, each paired with it
abbrev below : OneLevel → List ℕ → ℕ → List (ℕ × ℕ)
below level names m = map (λ d. (m, d)) (filter (is_below level m) names)

module _ (kept : Kept) (state : PlainState) (stands : StandsPlainly kept state) (ids : List ℕ) where
  abbrev level : OneLevel
  level = kept.levels.main

  pair_told : (m d : ℕ) → Contains (flat_map (below level state.main.names) ids) (m, d) → Contains ids m × IsAncestor state.main.pairs m d × (m ≢ d)
  pair_told m d pair =
      let from = flat_of (below level state.main.names) ids (m, d) pair in
      let to = map-Contains (λ d. (from.0, d)) (filter (is_below level from.0) state.main.names) (m, d) from.2 in
      let near = and_parts (is_ancestor level.graph from.0 to.0) (not (nat_eq from.0 to.0)) (filter-Contains (is_below level from.0) state.main.names to.0 to.1).0 in
      let one : from.0 ≡ m = ap (λ (p : ℕ × ℕ). p.0) to.2 in
      let two : to.0 ≡ d = ap (λ (p : ℕ × ℕ). p.1) to.2 in (
        subst (Contains ids) one from.1,
        (told level state.main stands.main m d).1 (inr (subst₂ (λ x y. is_ancestor level.graph x y ≡ true) one two near.0)),
        λ same. both_ways (nat_eq from.0 to.0) (not-true (nat_eq from.0 to.0) near.1) (eq-eqb from.0 to.0 (one ∙ same ∙ sym two)),
      )

  told_pair : (m d : ℕ) → Contains ids m × IsAncestor state.main.pairs m d × (m ≢ d) → Contains (flat_map (below level state.main.names) ids) (m, d)
  told_pair m d (here, up, other) = elim ((told level state.main stands.main m d).0 up) [
    | inl same ↦ absurd (other same)
    | inr above ↦
        flat_has (below level state.main.names) ids m (m, d) here
        (Contains-map (λ d. (m, d)) (filter (is_below level m) state.main.names) d
        (Contains-filter (is_below level m) state.main.names d
        (and_from (is_ancestor level.graph m d) (not (nat_eq m d)) above (ap not (ne_eqb m d other)))
        ((stands.main.closure.names d).1 (stands.main.among m d above).1)))
  ]

  -- what is mined makes a block
  pub mined_block : (block : MinedBlock) × IsMinedBlock state ids block
  mined_block = (
    record {
      txs = map (λ id. (id, (states.rate_of state.table id).fee, (states.rate_of state.table id).size)) ids;
      pairs = flat_map (below level state.main.names) ids;
    },
    record { txs = refl; pairs = λ m d. (pair_told m d, told_pair m d) },
  )

-- ---- steps

module _ (old new : Kept) (ids : List ℕ) (limits : new.levels.limits ≡ old.levels.limits) (most : new.most ≡ old.most) (begins : new.begun ≡ true)
    (alone : old.levels.staging ≡ None) (still : new.levels.staging ≡ None) (loses : LosesNames old.levels.main.graph new.levels.main.graph ids)
    (id : ℕ) (here : Contains ids id) (live : is_member old.levels.main.graph id ≡ true) (picked : HavePicks new.levels) where
  keeps_lost : KeepsParts old.levels new.levels
  keeps_lost = record {
    picked = picked;
    limits = limits;
    main = other_lost old.levels.main new.levels.main ids loses id here live;
    staging = λ a b was is same. absurd (some_none a (sym was ∙ alone));
  }

  accepts_mined : Meets old (Mine ids) None → AcceptsAll old new (Mine ids) Done
  accepts_mined none state stands =
      let block = mined_block old state stands ids in
      let next = after old new ids limits most begins alone still loses state stands (inl (can_mine state ids (none state stands)).parents)
      (take MAX_BLOCKS (block.0 ∷ state.blocks)) in
      (next.0, next.1, λ picks. record { answer = refl; change = (block.0, block.1, next.2) })

  pub steps_mined : HasTypes (Mine ids) → Meets old (Mine ids) None → MakesStep old new (Mine ids) Done
  steps_mined small none = steps_accepted old new (Mine ids) Done small none (accepts_mined none) (λ a b kept. kept) keeps_lost

-- the last part of a level has all descendants of its names
last_closed : (level : OneLevel) (graph : Graph) (part : Part) → IsBest level → IsGraphOf level graph → IsLast level.parts part → HasChildren graph.pairs part.ids
last_closed level graph part best of last =
    (last_is_one (sum_at level.graph) graph (map (λ (p : Part). p.ids) last.0) part.ids
    (subst (IsOptimal (sum_at level.graph) graph) (ap (map (λ (p : Part). p.ids)) last.1 ∙ map-append (λ (p : Part). p.ids) last.0 (part ∷ []))
    (best.optimal graph of.closure))).0.children

module _ (old new : Kept) (part : Part) (limits : new.levels.limits ≡ old.levels.limits) (most : new.most ≡ old.most) (begins : new.begun ≡ true)
    (alone : old.levels.staging ≡ None) (still : new.levels.staging ≡ None) (loses : LosesNames old.levels.main.graph new.levels.main.graph part.ids)
    (within : IsWithin old.levels Main) (best : IsBest old.levels.main) (last : IsLast old.levels.main.parts part)
    (id : ℕ) (here : Contains part.ids id) (live : is_member old.levels.main.graph id ≡ true) (picked : HavePicks new.levels) where
  accepts_evicted : AcceptsHere old new Evict (Evicted part.rate part.ids)
  accepts_evicted state stands =
      let next = after old new part.ids limits most begins alone still loses state.plain stands.plain
      (inr (last_closed old.levels.main state.plain.main part best stands.plain.main last)) state.plain.blocks in
      let pick = pick_is old state Main stands within in (
        next.0,
        next.1,
        record {
          answer = (old.levels.main.parts, part, pick, last, refl);
          change = (old.levels.main.parts, part, pick, last, next.2);
        },
      )

  pub steps_evicted : Meets old Evict None → MakesStep old new Evict (Evicted part.rate part.ids)
  steps_evicted none =
      steps_kept old new Evict (Evicted part.rate part.ids) tt none accepts_evicted (λ a b kept. kept)
      (keeps_lost old new part.ids limits most begins alone still loses id here live picked)
