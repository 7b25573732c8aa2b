-- The rings are right again where transactions came into both levels with clusters that went out.
use Rattle.std.proofs.Common.{◌≡◌, ℕ, ℤ, ◌+◌, ◌*◌, ◌-◌, ◌^◌, ◌≤◌, true, List, [], ◌∷◌, ◌++◌, length, Contains, Option, None, Some, is_some, IsSome, inl, inr, ◌⊎◌, ◌↔◌, refl, sym, ap, ◌∙◌, subst, subst₂, true≢false, arith, length-append}
use Rattle.std.specs.Prelude.{option_map, option_to_list, slice_index}
use Rattle.std.specs.List.{AllPairs}
use Rattle.std.specs.FinMap as finmap
use Rattle.std.specs.FinSet as set
use Rattle.std.proofs.lemmas.List.{append-nil, length-map}
use Rattle.fee_rate.specs.declared.limits.TheConstants.{MAX_TOTAL}
use Rattle.graphs.specs.Certificates.{Txs}
use Rattle.graphs.specs.Closures.{Closure, is_ancestor, is_member}
use Rattle.graphs.specs.declared.names.Level.TheVariants.{Main, Top}
use Rattle.graph_model.specs.Changes.{ids_of}
use Rattle.cluster.specs.Clusters.{AreApart, Cluster}
use Rattle.cluster_store.specs.Stores.{Stored}
use Rattle.cluster_store.proofs.Seen.{seen_is}
use Rattle.record.specs.Records.{IsConnected, IsFitted}
use Rattle.name_book.specs.Books.{IsNamed}
use Rattle.levels.specs.Changes.{AreAt, Covers, IsRebuilt}
use Rattle.levels.specs.Changes.{IsNamed as HasName}
use Rattle.levels.specs.Gathered.{ComesBack, GainsAll, MayReturn, RestoresTop}
use Rattle.levels.specs.Kept.{IsKept, SuitsShelf}
use Rattle.levels.specs.Levels.{Levels}
use Rattle.levels.specs.Restores.{MayRestore, PutsTxs}
use Rattle.levels.specs.Rings.{AreNamedOnce, AreRight, IsMarked, Ringed, ShareMain}
use Rattle.levels.specs.Shelves.{IsInOrder, Shelf, levels_of, numbers_at, one_of, seen_at, stored_at, view_of}
use Rattle.levels.specs.Stays.{AllStay}
use Rattle.levels.specs.Tops.{IsMade, TopRebuilds}
use Rattle.levels.specs.Views.{graph_of}
use Rattle.levels.proofs.Counts.{len_fewer}
use Rattle.levels.proofs.Finds.{graph_is, member_is}
use Rattle.levels.proofs.Graphs.{cases_option, member-number, order_of}
use Rattle.levels.proofs.Fewer.{few_at}
use Rattle.levels.proofs.Keeping.{live_counted, shelf_alone}
use Rattle.levels.proofs.Lookups.{decide_named}
use Rattle.levels.proofs.Ordered.{fitted_record}
use Rattle.levels.proofs.Pointing.{one_list}
use Rattle.levels.proofs.Regrouping.{Regroups, named_olds, right_regrouped}
use Rattle.levels.proofs.Returned.{covers_back, news_named, puts_away, puts_txs}
use Rattle.levels.proofs.Comings.{has_name}
use Rattle.levels.proofs.Shelved.{none_of, one_view}
use Rattle.levels.proofs.Tallies.{mains_are_tops}
use Rattle.levels.proofs.Touching.{in_one, same_named}
use Rattle.levels.proofs.Turning.{news_whole, rebuilt}
use Rattle.levels.proofs.Unmoved.{top_stays}

-- ---- what came in, without a last one

no_number : (made : List ℕ) (number : Option ℕ) (rest : List Cluster) → length made ≡ length rest
    → length (made ++ option_to_list number) ≡ length (rest ++ []) → number ≡ None
no_number made None rest same long = refl
no_number made (Some n) rest same long =
    absurd (omega (arith, same, long, length-append made (n ∷ []), length-append rest []))

pub rebuilds_only : (w : ℕ) (txs : Txs) (pairs : List (ℕ × ℕ)) (outs made : List ℕ) (number : Option ℕ) (news : List Cluster) (old new : Shelf)
    → (comes : ComesBack w txs pairs outs news old) → IsMade w outs made number news None [] old new
    → TopRebuilds w outs made comes.gathers.puts.olds news [] old new
rebuilds_only w txs pairs outs made number news old new comes is =
    let none : number ≡ None = no_number made number news is.count is.rebuilds.top.exchanges.stand.count in
    let olds : is.olds ≡ comes.gathers.puts.olds =
    one_list (seen_at Top old.store.clusters) outs is.olds comes.gathers.puts.olds is.rebuilds.top.taken comes.gathers.puts.at in
    subst (λ (cs : List Cluster). TopRebuilds w outs made cs news [] old new) olds
    (subst₂ (λ (ns : List ℕ) (cs : List Cluster). TopRebuilds w outs ns is.olds cs [] old new)
    (ap (λ (o : Option ℕ). made ++ option_to_list o) none ∙ append-nil made) (append-nil news) is.rebuilds)

-- it may come in
pub covers_comes : (w : ℕ) (txs : Txs) (pairs : List (ℕ × ℕ)) (outs : List ℕ) (news : List Cluster) (shelf : Shelf) → IsInOrder w shelf
    → MayReturn shelf txs pairs → (comes : ComesBack w txs pairs outs news shelf)
    → Covers (64 * w) comes.gathers.puts.olds news [] (numbers_at Top shelf)
covers_comes w txs pairs outs news shelf order may comes =
    covers_back w shelf order txs pairs may outs comes.links comes.gathers news comes.split (λ c here. (fitted_in c here).connected)
    (λ c here. fitted_record (64 * w) shelf.limits c (fitted_in c here))
  where
    fitted_in : (c : Cluster) → Contains news c → IsFitted (64 * w) shelf.limits c
    fitted_in c (i, low, at) = subst (IsFitted (64 * w) shelf.limits) at (comes.fitted i c low)

module _ (w : ℕ) (txs : Txs) (pairs : List (ℕ × ℕ)) (old new : Shelf) (before : IsInOrder w old) (after : IsInOrder w new)
    (may : MayReturn old txs pairs) (d : RestoresTop w txs pairs old new) where
  abbrev ids : List ℕ
  ids = ids_of txs

  abbrev olds : List Cluster
  olds = d.comes.gathers.puts.olds

  whole_news : (issued : ℕ) → (c : Cluster) → Contains d.news c → IsConnected c
  whole_news issued = news_whole w issued d.outs d.made olds d.news [] old new before after d.rebuilds

  named_is : (x : ℕ) → HasName d.news x ↔ (Contains ids x ⊎ HasName olds x)
  named_is x =
      let one = news_named w old before txs pairs may d.outs d.comes.links d.comes.gathers d.news d.comes.split (whole_news 0) x in
      let two = has_name w old before txs pairs may d.outs d.comes.links d.comes.gathers x in
      (λ named. two.0 (one.0 named), λ either. one.1 (two.1 either))

  is_rebuilt : IsRebuilt olds d.news [] (graph_of (view_of Top old)) (graph_of (view_of Top new))
  is_rebuilt = rebuilt w 0 d.outs d.made olds d.news [] old new before after d.rebuilds

  related : (a b : ℕ) → is_ancestor (graph_of (view_of Top new)) a b ≡ true
      → (is_member (graph_of (view_of Top new)) a ≡ true) × (is_member (graph_of (view_of Top new)) b ≡ true)
  related = (order_of (64 * w) (view_of Top new) after.top).among

  pub puts : PutsTxs (graph_of (view_of Top old)) (graph_of (view_of Top new)) txs pairs
  puts = puts_txs w old before txs pairs may d.outs d.comes.links d.comes.gathers d.news d.comes.split (whole_news 0) (graph_of (view_of Top new)) is_rebuilt related

  pub puts_stay : (issued later : ℕ) → AllStay (levels_of old issued) (levels_of new later)
  puts_stay issued later =
      top_stays w old new before after issued later d.outs d.made olds d.news [] d.rebuilds
      (puts_away w old before txs pairs may d.outs d.comes.links d.comes.gathers d.news d.comes.split (whole_news 0) (graph_of (view_of Top new)) is_rebuilt related)

  -- ---- the rings

  pub news_at : AreAt (stored_at new.store.clusters) d.made d.news
  news_at = record {
    count = d.rebuilds.top.exchanges.stand.count;
    stand = λ i c is.
        let seen = seen_is Top (finmap.get new.store.clusters (slice_index d.made i)) c (d.rebuilds.top.exchanges.stand.stand i c is) in
        ap (option_map (λ (s : Stored). s.cluster)) seen.1 ∙ ap Some seen.2;
  }

  one_news : (clusters : List Cluster) → AreAt (stored_at new.store.clusters) d.made clusters → d.news ≡ clusters
  one_news clusters are = one_list (stored_at new.store.clusters) d.made d.news clusters news_at are

  pub news_apart : (clusters : List Cluster) → AreAt (stored_at new.store.clusters) d.made clusters → AllPairs AreApart clusters
  news_apart clusters are = subst (λ (cs : List Cluster). AllPairs AreApart cs) (one_news clusters are) d.comes.split.apart

  -- the names of what came in are in the rings
  pub news_live : old.staging ≡ None → (rings : Ringed) → SuitsShelf rings old → (more : Ringed) → GainsAll ids rings more → (clusters : List Cluster)
      (x : ℕ) → AreAt (stored_at new.store.clusters) d.made clusters → HasName clusters x → IsNamed more.book x
  news_live none rings right more gains clusters x are named =
      (gains.names x).1 (elim ((named_is x).0 (subst (λ (cs : List Cluster). HasName cs x) (sym (one_news clusters are)) named)) [
        | inl here ↦ inr here
        | inr out ↦ inl (named_olds (64 * w) d.outs d.made olds d.news [] (view_of Top old) (view_of Top new) before.top after.top d.rebuilds.top rings
            ((in_one rings old none).0 right) x out)
      ])

  module _ (none : old.staging ≡ None) (rings : Ringed) (right : SuitsShelf rings old) (more : Ringed) (gains : GainsAll ids rings more) (cut : Ringed)
      (names : cut.book.names ≡ more.book.names)
      (main : (clusters : List Cluster) (x y : ℕ) → AreAt (stored_at new.store.clusters) d.made clusters
      → ShareMain cut x y ↔ ((ShareMain more x y × (HasName clusters x → ⊥) × (HasName clusters y → ⊥)) ⊎ AreNamedOnce clusters x y))
      (touched : (x : ℕ) → IsMarked cut x ↔ IsMarked more x) where
    right_one : AreRight rings (numbers_at Top old) (numbers_at Top old)
    right_one = (in_one rings old none).0 right

    absent : (x : ℕ) → Contains ids x → IsSome (finmap.get (numbers_at Top old) x) → ⊥
    absent x here some = true≢false (sym some ∙ ap is_some (may.absent x here))

    not_new : (x : ℕ) → Contains ids x → IsNamed rings.book x → ⊥
    not_new x here named = elim ((right_one.names x).0 named) [ inl one ↦ absent x here one | inr two ↦ absent x here two ]

    old_named : (x : ℕ) → HasName olds x → IsNamed rings.book x
    old_named =
        named_olds (64 * w) d.outs d.made olds d.news [] (view_of Top old) (view_of Top new) before.top after.top d.rebuilds.top rings right_one

    same_more : (x : ℕ) → IsNamed cut.book x ↔ IsNamed more.book x
    same_more = same_named more cut names

    share_old : (x y : ℕ) → ShareMain rings x y → (Contains ids x → ⊥) × (Contains ids y → ⊥)
    share_old x y share = elim ((right_one.zero x y).0 share) [
      | inl one ↦ ((λ here. not_new x here one.0), (λ here. not_new y here (subst (λ k. IsNamed rings.book k) one.1 one.0)))
      | inr of ↦ ((λ here. absent x here (ap is_some of.1)), (λ here. absent y here (ap is_some of.2)))
    ]

    groups : Regroups olds d.news rings cut
    groups = record {
      names = λ x. (
        λ named. elim ((gains.names x).0 ((same_more x).0 named)) [
          | inl was ↦ elim (decide_named olds x) [
            | inl out ↦ inr ((named_is x).1 (inr out))
            | inr stays ↦ inl (was, stays)
          ]
          | inr here ↦ inr ((named_is x).1 (inl here))
        ],
        λ either. (same_more x).1 ((gains.names x).1 (elim either [
          | inl was ↦ inl was.0
          | inr came ↦ elim ((named_is x).0 came) [ inl here ↦ inr here | inr out ↦ inl (old_named x out) ]
        ])),
      );
      main = λ x y. (
        λ share. elim ((main d.news x y news_at).0 share) [
          | inl away ↦ elim ((gains.main x y).0 away.0) [
            | inl was ↦ inl (was, (λ out. away.1 ((named_is x).1 (inr out))), (λ out. away.2 ((named_is y).1 (inr out))))
            | inr alone ↦ absurd (away.1 ((named_is x).1 (inl alone.0)))
          ]
          | inr once ↦ inr once
        ],
        λ either. (main d.news x y news_at).1 (elim either [
          | inl was ↦
              let out = share_old x y was.0 in inl (
                (gains.main x y).1 (inl was.0),
                (λ came. elim ((named_is x).0 came) [ inl here ↦ out.0 here | inr gone ↦ was.1 gone ]),
                (λ came. elim ((named_is y).0 came) [ inl here ↦ out.1 here | inr gone ↦ was.2 gone ]),
              )
          | inr once ↦ inr once
        ]),
      );
      touched = λ x marked. (gains.touched x).0 ((touched x).0 marked);
    }

    pub right_restored : SuitsShelf cut new
    right_restored =
        (in_one cut new (none_of new.staging old.staging d.rebuilds.staged none)).1
        (right_regrouped (64 * w) d.outs d.made olds d.news [] (view_of Top old) (view_of Top new) before.top after.top d.rebuilds.top rings right_one cut
        groups)

  -- ---- what is kept

  -- the top level has so many names more
  pub tops_put : finmap.len (numbers_at Top new) ≡ finmap.len (numbers_at Top old) + length txs
  tops_put =
      let key : (shelf : Shelf) (q : ℕ) → finmap.contains_key (numbers_at Top shelf) q ≡ is_member (graph_of (view_of Top shelf)) q =
      λ shelf q. sym (member-number (view_of Top shelf) q) in
      let less = len_fewer ids (numbers_at Top new) (numbers_at Top old) may.once (λ q here. key new q ∙ (puts.members q).1 (inr here)) (λ q. (
        λ there. (
          (λ here. true≢false (sym there ∙ ap is_some (may.absent q here))),
          key new q ∙ (puts.members q).1 (inl (sym (key old q) ∙ there)),
        ),
        λ both. elim ((puts.members q).0 (sym (key new q) ∙ both.1)) [
          | inl live ↦ key old q ∙ live
          | inr here ↦ absurd (both.0 here)
        ],
      )) in
      let long : length ids ≡ length txs = length-map txs (λ (tx : ℕ × ℤ × ℕ). tx.0) in
      omega (arith, less, long)

  module _ (mains tops issued : ℕ) (rings later : Ringed) (kept : IsKept w old rings mains tops issued) (none : old.staging ≡ None)
      (right : SuitsShelf later new) (many : set.len later.book.names ≡ set.len rings.book.names + length txs)
      (additions : later.book.issued ≡ rings.book.issued + length txs) (few : set.len rings.book.names + length txs ≤ MAX_TOTAL) where
    still : new.staging ≡ None
    still = none_of new.staging old.staging d.rebuilds.staged none

    top_is : tops + length txs ≡ finmap.len (numbers_at Top new)
    top_is = let was = kept.tops in omega (arith, was, tops_put)

    pub kept_restored : IsKept w new later (tops + length txs) (tops + length txs) (issued + length txs)
    kept_restored = record {
      order = after;
      right = right;
      mains = top_is ∙ sym (mains_are_tops new still);
      tops = top_is;
      issued = (let was = kept.issued in omega (arith, was, additions));
      few = omega (arith, many, few);
    }

    -- ---- seen from the levels

    module _ (now : Levels) (view : levels_of old issued ≡ now) where
      pub levels_restored : PutsTxs now.main.graph (levels_of new (issued + length txs)).main.graph txs pairs
          × (levels_of new (issued + length txs) ≡ record now { main = (levels_of new (issued + length txs)).main; issued = now.issued + length txs })
      levels_restored = (
        subst (λ (l : Levels). PutsTxs l.main.graph (graph_of (view_of Main new)) txs pairs) view
            (subst₂ (λ (f h : Closure). PutsTxs f h txs pairs) (ap graph_of (sym (one_view old none (before.both none)))) (ap graph_of (sym (one_view new still (after.both still)))) puts),
        λ i. record {
          limits = (d.rebuilds.limits ∙ ap (λ (l : Levels). l.limits) view) i;
          main = one_of Main new;
          staging = (ap (option_map (λ _. one_of Top new)) still ∙ sym (ap (option_map (λ _. one_of Top old)) none) ∙ ap (λ (l : Levels). l.staging) view) i;
          issued = (ap (λ (l : Levels). l.issued) view i) + length txs;
        },
      )

      pub stays_restored : AllStay now (levels_of new (issued + length txs))
      stays_restored = subst (λ (l : Levels). AllStay l (levels_of new (issued + length txs))) view (puts_stay issued (issued + length txs))

-- ---- what the levels ask

module _ (w mains tops issued : ℕ) (shelf : Shelf) (rings : Ringed) (kept : IsKept w shelf rings mains tops issued) (now : Levels)
    (view : levels_of shelf issued ≡ now) (txs : Txs) (pairs : List (ℕ × ℕ)) (may : MayRestore now txs pairs) where
  pub alone_now : shelf.staging ≡ None
  alone_now = shelf_alone shelf issued now view may.alone

  pub main_top : now.main.graph ≡ graph_of (view_of Top shelf)
  main_top = graph_is w issued shelf now kept.order view Main ∙ ap graph_of (one_view shelf alone_now (kept.order.both alone_now))

  pub few_more : set.len rings.book.names + length txs ≤ MAX_TOTAL
  few_more =
      let few = may.few in
      let same = live_counted w issued shelf now kept.order view rings kept.right few.0 few.1 in
      let low = few.2 in
      omega (arith, same, low)

  pub issued_more : rings.book.issued + length txs ≤ 2 ^ 64 - 1
  issued_more =
      let low = may.issued in
      let was = kept.issued in
      omega (arith, low, was, ap (λ (l : Levels). l.issued) view)

  pub may_return : MayReturn shelf txs pairs
  may_return = record {
    once = may.once;
    absent = λ id here. elim (cases_option (finmap.get (numbers_at Top shelf) id)) [
      | inl none ↦ none
      | inr at ↦ absurd (may.absent id here (inr (member_is w issued shelf now kept.order view Top id ∙ ap is_some at.1)))
    ];
    in_range = may.in_range;
    parents = may.parents;
    acyclic = may.acyclic;
    few = (let few = few_more in let among = few_at w shelf rings kept.order kept.right Top in omega (arith, few, among));
  }
