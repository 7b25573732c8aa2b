-- The clusters of the links come in: what the graph of the level is then.
use Rattle.std.proofs.Common.{◌≡◌, ℕ, ℤ, zero, suc, ◌*◌, true, List, [], ◌∷◌, Contains, is_some, inl, inr, ◌⊎◌, ◌↔◌, refl, sym, ap, ◌∙◌, subst, true≢false}
use Rattle.std.specs.FinMap as finmap
use Rattle.std.proofs.lemmas.Option.{same_Some}
use Rattle.lists.proofs.Entries.{Contains-map, none_in_empty}
use Rattle.lists.proofs.Told.{told_number}
use Rattle.graphs.specs.declared.names.Level.TheVariants.{Top}
use Rattle.graphs.specs.Certificates.{Txs}
use Rattle.graphs.specs.Closing.{IsClosureOf}
use Rattle.graphs.specs.Closures.{Closure, is_ancestor, is_member, rate_of}
use Rattle.graphs.specs.Graphs.{Graph, Walk, IsAncestor, IsGraph}
use Rattle.graphs.proofs.WalkLemmas.{walk_of_pair, walk_within}
use Rattle.graph_model.specs.Changes.{ids_of}
use Rattle.graph_model.proofs.BackLemmas.{graph_put}
use Rattle.cluster.specs.Clusters.{Cluster}
use Rattle.cluster.specs.Changes.{IsSplit}
use Rattle.links.specs.Links.{Links, Has}
use Rattle.links.specs.Kept.{names_of}
use Rattle.links.specs.Closing.{closure}
use Rattle.links.proofs.Changing.{has_above, has_member}
use Rattle.links.proofs.Closed.{orders}
use Rattle.record.specs.Records.{IsConnected, IsRecord}
use Rattle.levels.specs.Changes.{Covers, IsNamed, IsRebuilt}
use Rattle.levels.specs.Gathered.{Gathers, MayReturn}
use Rattle.levels.specs.Restores.{ComesOf, PutsTxs}
use Rattle.levels.specs.Shelves.{IsInOrder, Shelf, numbers_at, view_of}
use Rattle.levels.specs.Views.{graph_of}
use Rattle.levels.proofs.Closing.{above_same, member_same, rate_same}
use Rattle.levels.proofs.Collected.{old_order, stands}
use Rattle.levels.proofs.Comings.{child_has, has_name, links_next, listed_rate, live_in, old_rate, pair_put, up_links, up_was, was_next}
use Rattle.levels.proofs.Graphs.{member-number}
use Rattle.levels.proofs.Staying.{AreAway, whole_before}

module _ (w : ℕ) (shelf : Shelf) (order : IsInOrder w shelf) (txs : Txs) (pairs : List (ℕ × ℕ)) (may : MayReturn shelf txs pairs) (outs : List ℕ)
    (links : Links) (g : Gathers shelf txs pairs outs links) (news : List Cluster) (split : IsSplit (closure links) [] news)
    (whole : (c : Cluster) → Contains news c → IsConnected c) where
  abbrev ids : List ℕ
  ids = ids_of txs

  abbrev olds : List Cluster
  olds = g.puts.olds

  abbrev old : Closure
  old = graph_of (view_of Top shelf)

  name_is : (id : ℕ) → Has links id ↔ (Contains ids id ⊎ IsNamed olds id)
  name_is = has_name w shelf order txs pairs may outs links g

  absent : (id : ℕ) → Contains ids id → is_member old id ≡ true → ⊥
  absent id here live = true≢false (sym (sym (member-number (view_of Top shelf) id) ∙ live) ∙ ap is_some (may.absent id here))

  -- what came in has the names of the links
  pub news_named : (id : ℕ) → IsNamed news id ↔ Has links id
  news_named id = (
    λ (c, there, held).
        let one = whole c there in
        let up = (split.ancestors id id).0 (c, there, one.order.reflexive id ((one.members id).1 held)) in
        ((has_above links id id).0 up.2).0,
    λ here.
        let up = (split.ancestors id id).1
        (none_in_empty id, none_in_empty id, (orders links g.whole).reflexive id ((has_member links id).1 here)) in
        let one = whole up.0 up.1 in
        (up.0, up.1, (one.members id).0 (one.order.among id id up.2).0),
  )

  -- it may come in
  pub covers_back : ((c : Cluster) → Contains news c → IsRecord (64 * w) c)
      → Covers (64 * w) olds news [] (numbers_at Top shelf)
  covers_back fine = record {
    whole = fine;
    apart = split.apart;
    from = λ id named. elim ((name_is id).0 ((news_named id).0 named)) [ inl one ↦ inr (may.absent id one) | inr two ↦ inl two ];
    kept = λ id named. inl ((news_named id).1 ((name_is id).1 (inr named)));
    lose = λ id none. absurd (none_in_empty id none);
  }

  -- ---- the graph then

  module _ (new : Closure) (r : IsRebuilt olds news [] old new)
      (among : (a d : ℕ) → is_ancestor new a d ≡ true → (is_member new a ≡ true) × (is_member new d ≡ true)) where
    same : (id : ℕ) → (Has links id → ⊥) → finmap.get new id ≡ finmap.get old id
    same id out = r.others id (λ named. out ((name_is id).1 (inr named))) (λ named. out ((news_named id).0 named))

    member_new : (id : ℕ) → Has links id → is_member new id ≡ true
    member_new id here = let named = (news_named id).1 here in (r.now named.0 id named.1 named.2).1

    above_new : (a d : ℕ) → Has links d → (is_ancestor new a d ≡ true) ↔ (is_ancestor (closure links) a d ≡ true)
    above_new a d here =
        let (c, there, held) = (news_named d).1 here in (
          λ up. ((split.ancestors a d).0 (c, there, sym ((r.now c d there held).0.above a d held) ∙ up)).2,
          λ up.
              let at = (split.ancestors a d).1 (none_in_empty a, none_in_empty d, up) in
              let one = whole at.0 at.1 in
              let inside = (one.members d).0 (one.order.among a d at.2).1 in
              (r.now at.0 d at.1 inside).0.above a d inside ∙ at.2,
        )

    rate_new : (id : ℕ) → Has links id → rate_of new id ≡ rate_of (closure links) id
    rate_new id here =
        let (c, there, held) = (news_named id).1 here in (r.now c id there held).0.rates id held ∙ split.rates c there id held

    has_or : (id : ℕ) → Has links id ⊎ (Has links id → ⊥)
    has_or id = told_number (names_of links.txs) id

    members : (id : ℕ) → (is_member new id ≡ true) ↔ ((is_member old id ≡ true) ⊎ Contains ids id)
    members id = elim (has_or id) [
      | inl here ↦ (
        λ live. elim ((name_is id).0 here) [
          | inl one ↦ inr one
          | inr named ↦ inl (live_in w shelf order txs pairs may outs links g id named)
        ],
        λ either. member_new id here,
      )
      | inr out ↦ (
        λ live. inl (sym (member_same old new id (same id out)) ∙ live),
        λ either. elim either [
          | inl live ↦ member_same old new id (same id out) ∙ live
          | inr one ↦ absurd (out ((name_is id).1 (inl one)))
        ],
      )
    ]

    -- ---- the graphs that come so have this closure

    module _ (next : Graph) (size : ℕ → ℕ) (of : ComesOf old txs pairs next size) where
      abbrev was : Graph
      was = of.graph

      whole_next : IsGraph next
      whole_next =
          graph_put was next ids pairs of.puts of.whole (λ id here there. absent id here ((of.closure.names id).0 there)) may.parents may.acyclic

      names_next : (id : ℕ) → Contains next.names id ↔ (is_member new id ≡ true)
      names_next id = (
        λ here. (members id).1 (elim ((of.puts.names id).0 here) [ inl one ↦ inl ((of.closure.names id).0 one) | inr two ↦ inr two ]),
        λ live. (of.puts.names id).1 (elim ((members id).0 live) [ inl one ↦ inl ((of.closure.names id).1 one) | inr two ↦ inr two ]),
      )

      up_in : (a d : ℕ) → Has links d → IsAncestor next.pairs a d ↔ (is_ancestor new a d ≡ true)
      up_in a d here = (
        λ walk.
            let up = up_links w shelf order txs pairs may outs links g next size of a d walk.0 walk.1 here in
            (above_new a d here).1 ((has_above links a d).1 (up.0, here, up.1)),
        λ up.
            links_next w shelf order txs pairs may outs links g next size of a d
            ((has_above links a d).0 ((above_new a d here).0 up)).2,
      )

      walk_named : (a d n : ℕ) → Walk was.pairs a d n → is_member old d ≡ true → is_member old a ≡ true
      walk_named a d zero is live = subst (λ x. is_member old x ≡ true) (sym is) live
      walk_named a d (suc n) (c, walk, pair) live = walk_named a c n walk (of.closure.ends c d pair).0

      up_out : (a d : ℕ) → (Has links d → ⊥) → is_member new d ≡ true → IsAncestor next.pairs a d ↔ (is_ancestor new a d ≡ true)
      up_out a d out live =
          let there : is_member old d ≡ true = sym (member_same old new d (same d out)) ∙ live in (
            λ walk.
                let back = up_was w shelf order txs pairs may outs links g next size of a d walk.0 walk.1 out in
                above_same old new d (same d out) a
                ∙ (of.closure.ancestors a d (walk_named a d walk.0 back there) there).0 (walk.0, back),
            λ up.
                let was_up : is_ancestor old a d ≡ true = sym (above_same old new d (same d out) a) ∙ up in
                let ends = (old_order w shelf order txs pairs may).among a d was_up in
                let walk = (of.closure.ancestors a d ends.0 ends.1).1 was_up in
                (walk.0, walk_within was.pairs next.pairs (was_next w shelf order txs pairs may outs links g next size of) a d walk.0 walk.1),
          )

      closes_next : IsClosureOf new next
      closes_next = record {
        names = names_next;
        ends = λ a b pair. let ends = whole_next.ends a b pair in ((names_next a).0 ends.0, (names_next b).0 ends.1);
        acyclic = whole_next.acyclic;
        ancestors = λ a d one two. elim (has_or d) [ inl here ↦ up_in a d here | inr out ↦ up_out a d out two ];
      }

    pub puts_txs : PutsTxs old new txs pairs
    puts_txs = record {
      members = members;
      graphs = closes_next;
      among = among;
      listed = λ id fee size here.
          rate_new id ((name_is id).1 (inl (listed_name id fee size here)))
          ∙ listed_rate w shelf order txs pairs may outs links g id fee size here;
      others = λ id none. elim (has_or id) [
        | inl here ↦ elim ((name_is id).0 here) [
          | inl one ↦ absurd (none one)
          | inr named ↦ rate_new id here ∙ old_rate w shelf order txs pairs may outs links g id named
        ]
        | inr out ↦ rate_same old new id (same id out)
      ];
    }
      where
        listed_name : (id : ℕ) (fee : ℤ) (size : ℕ) → Contains txs (id, fee, size) → Contains ids id
        listed_name id fee size here = Contains-map (λ (tx : ℕ × ℤ × ℕ). tx.0) txs (id, fee, size) here

    -- each cluster that went out is of a component that gets a name, which no component that stays does
    pub puts_away : AreAway olds old new
    puts_away others id stays here (c, listed, held) =
        let (n, out, at) = stands w shelf order txs pairs may outs g.met g.here g.are_here links.txs g.all_pairs g.puts c listed in
        let (a, b, pair, is) = (g.met.exact n).0 out in
        let there = order.top.stands b n is in
        let inside : Contains c.names b = subst (λ (d : Cluster). Contains d.names b) (same_Some there.cluster c (sym there.there ∙ at)) there.here in
        let near = whole_before olds news [] old new r others stays.before c listed id b held inside here in
        let own = pair_put w shelf order txs pairs may outs links g a b pair (inr (ap is_some is)) in
        let child = child_has w shelf order txs pairs may outs links g a b pair (inr (ap is_some is)) in
        let parent = (name_is a).1 (inl (may.parents a b pair)) in
        let up : is_ancestor new a b ≡ true =
        (above_new a b child).1 ((has_above links a b).1 (parent, child, (1, walk_of_pair links.pairs a b own))) in
        absent a (may.parents a b pair) (stays.before.members a (stays.after.alone b a near (a ∷ [], (inr up, refl))))
