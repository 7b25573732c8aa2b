-- What the links of transactions and clusters that get a new parent say of the graphs that come so.
use Rattle.std.proofs.Common.{◌≡◌, ℕ, ℤ, suc, zero, true, List, [], ◌∷◌, flat_map, Contains, is_some, inl, inr, ◌⊎◌, ◌↔◌, refl, sym, ap, ◌∙◌, subst, true≢false}
use Rattle.std.proofs.lemmas.Option.{same_Some}
use Rattle.std.proofs.lemmas.List.Elements.{Contains-append_left, Contains-append_right, Contains-append_cases}
use Rattle.lists.proofs.Entries.{map-Contains}
use Rattle.lists.proofs.Flats.{flat_has}
use Rattle.fee_rate.specs.declared.rates.FeeRate.{FeeRate}
use Rattle.graphs.specs.declared.names.Level.TheVariants.{Top}
use Rattle.graphs.specs.Certificates.{Txs}
use Rattle.graphs.specs.Closures.{Closure, AreLinked, IsRelated, is_ancestor, is_member, rate_of}
use Rattle.graphs.specs.Graphs.{Graph, Walk, IsAncestor, Trail, AreConnected}
use Rattle.graphs.proofs.ClosingLemmas.{connected_linked}
use Rattle.graphs.proofs.WalkLemmas.{AreConnected-sym, AreConnected-trans, IsAncestor-trans, walk_connects, walk_of_pair, walk_within}
use Rattle.graph_model.specs.Changes.{ids_of}
use Rattle.graph_model.proofs.BackLemmas.{ancestors_along}
use Rattle.graph_model.proofs.LevelLemmas.{connects}
use Rattle.cluster.specs.Clusters.{Cluster}
use Rattle.links.specs.Links.{Links, Has, graph as graph_of_links}
use Rattle.links.specs.Closing.{closure}
use Rattle.links.proofs.Changing.{has_above}
use Rattle.links.proofs.Closed.{closes, orders, rates_are}
use Rattle.levels.specs.Changes.{IsNamed}
use Rattle.levels.specs.Gathered.{Gathers, IsHere, MayReturn}
use Rattle.levels.specs.Restores.{ComesOf}
use Rattle.levels.specs.Shelves.{IsInOrder, Shelf, view_of}
use Rattle.levels.specs.Views.{View, graph_of}
use Rattle.levels.proofs.Collected.{all_named, child_in, cluster_in, inner_in, in_inner, live_old, stands, told_above, told_named, told_of, whole_old}
use Rattle.levels.proofs.Graphs.{member-number}

module _ (w : ℕ) (shelf : Shelf) (order : IsInOrder w shelf) (txs : Txs) (pairs : List (ℕ × ℕ)) (may : MayReturn shelf txs pairs) (outs : List ℕ)
    (links : Links) (g : Gathers shelf txs pairs outs links) where
  abbrev ids : List ℕ
  ids = ids_of txs

  abbrev view : View
  view = view_of Top shelf

  abbrev old : Closure
  old = graph_of view

  abbrev pub olds : List Cluster
  olds = g.puts.olds

  abbrev told : List Links
  told = g.puts.told

  -- ---- the links

  pub has_name : (id : ℕ) → Has links id ↔ (Contains ids id ⊎ IsNamed olds id)
  has_name id = all_named w shelf order txs pairs may outs g.met g.here g.are_here links.txs g.all_pairs g.puts id

  pub live_in : (id : ℕ) → IsNamed olds id → is_member old id ≡ true
  live_in = live_old w shelf order txs pairs may outs g.met g.here g.are_here links.txs g.all_pairs g.puts

  -- a pair of them came in, or is of a cluster
  pair_cases : (a b : ℕ) → Contains links.pairs (a, b)
      → (Contains pairs (a, b) × IsHere shelf txs b) ⊎ ((l : Links) × Contains told l × Contains l.pairs (a, b))
  pair_cases a b pair =
      elim (Contains-append_cases g.here (flat_map (λ (l : Links). l.pairs) told) (a, b)
      (subst (λ (ps : List (ℕ × ℕ)). Contains ps (a, b)) g.puts.pairs_are ((g.same a b).0 pair))) [
        | inl put ↦ inl ((g.are_here a b).0 put)
        | inr was ↦ inr (inner_in w shelf order txs pairs may outs g.met g.here g.are_here links.txs g.all_pairs g.puts a b was)
      ]

  pub pair_put : (a b : ℕ) → Contains pairs (a, b) → IsHere shelf txs b → Contains links.pairs (a, b)
  pair_put a b pair is =
      (g.same a b).1 (subst (λ (ps : List (ℕ × ℕ)). Contains ps (a, b)) (sym g.puts.pairs_are)
      (Contains-append_left g.here (flat_map (λ (l : Links). l.pairs) told) (a, b) ((g.are_here a b).1 (pair, is))))

  pair_told : (l : Links) → Contains told l → (a b : ℕ) → Contains l.pairs (a, b) → Contains links.pairs (a, b)
  pair_told l there a b pair =
      (g.same a b).1 (subst (λ (ps : List (ℕ × ℕ)). Contains ps (a, b)) (sym g.puts.pairs_are)
      (Contains-append_right g.here (flat_map (λ (l : Links). l.pairs) told) (a, b)
      (in_inner w shelf order txs pairs may outs g.met g.here g.are_here links.txs g.all_pairs g.puts l there a b pair)))

  pub child_has : (a b : ℕ) → Contains pairs (a, b) → IsHere shelf txs b → Has links b
  child_has a b pair is =
      (has_name b).1 (child_in w shelf order txs pairs may outs g.met g.here g.are_here links.txs g.all_pairs g.puts a b pair is)

  -- an ancestor of a name of a cluster is one among the links
  old_above : (a b : ℕ) → IsNamed olds b → is_ancestor old a b ≡ true → IsNamed olds a × IsAncestor links.pairs a b
  old_above a b (c, listed, held) up =
      let of = cluster_in w shelf order txs pairs may outs g.met g.here g.are_here links.txs g.all_pairs g.puts c listed b held in
      let own : is_ancestor c.graph a b ≡ true = sym (of.above a b held) ∙ up in
      let (l, there, is) = told_of olds told g.puts.like c listed in
      let both = (has_above l a b).0 (subst (λ (d : Cluster). is_ancestor d.graph a b ≡ true) (sym is) own) in (
        (c, listed, subst (λ (d : Cluster). Contains d.names a) is both.0),
        (both.2.0, walk_within l.pairs links.pairs (pair_told l there) a b both.2.0 both.2.1),
      )

  -- a name that is connected with one of a cluster is of that cluster
  old_near : (a b : ℕ) → IsNamed olds a → IsRelated old a b → IsNamed olds b
  old_near a b (c, listed, held) near =
      let of = cluster_in w shelf order txs pairs may outs g.met g.here g.are_here links.txs g.all_pairs g.puts c listed a held in
      (c, listed, of.alone b (b ∷ [], (near, refl)))

  -- ---- rates

  told_tx : (l : Links) → Contains told l → (tx : ℕ × ℤ × ℕ) → Contains l.txs tx → Contains links.txs tx
  told_tx l there tx here =
      subst (λ (ts : Txs). Contains ts tx) (sym g.puts.txs_are)
      (Contains-append_right txs (flat_map (λ (k : Links). k.txs) told) tx (flat_has (λ (k : Links). k.txs) told l tx there here))

  pub listed_rate : (id : ℕ) (fee : ℤ) (size : ℕ) → Contains txs (id, fee, size) → rate_of (closure links) id ≡ record { fee = fee; size = size }
  listed_rate id fee size here =
      rates_are links g.whole id fee size
      (subst (λ (ts : Txs). Contains ts (id, fee, size)) (sym g.puts.txs_are)
      (Contains-append_left txs (flat_map (λ (k : Links). k.txs) told) (id, fee, size) here))

  pub old_rate : (id : ℕ) → IsNamed olds id → rate_of (closure links) id ≡ rate_of old id
  old_rate id (c, listed, held) =
      let of = cluster_in w shelf order txs pairs may outs g.met g.here g.are_here links.txs g.all_pairs g.puts c listed id held in
      let (l, there, is) = told_of olds told g.puts.like c listed in
      let (tx, here, named) = map-Contains (λ (t : ℕ × ℤ × ℕ). t.0) l.txs id (subst (λ (d : Cluster). Contains d.names id) (sym is) held) in
      let one : rate_of (closure links) id ≡ record { fee = tx.1; size = tx.2 } =
      subst (λ x. rate_of (closure links) x ≡ record { fee = tx.1; size = tx.2 }) named
      (rates_are links g.whole tx.0 tx.1 tx.2 (told_tx l there tx here)) in
      let two : rate_of (closure l) id ≡ record { fee = tx.1; size = tx.2 } =
      subst (λ x. rate_of (closure l) x ≡ record { fee = tx.1; size = tx.2 }) named (rates_are l (g.puts.each l there) tx.0 tx.1 tx.2 here) in
      one ∙ sym two ∙ ap (λ (d : Cluster). rate_of d.graph id) is ∙ sym (of.rates id held)

  -- ---- connected names

  -- names that pairs of the links connect are linked in their closure
  pub linked_is : (a b : ℕ) → AreConnected links.pairs a b ↔ AreLinked (closure links) a b
  linked_is = connected_linked (closure links) (graph_of_links links) (orders links g.whole) (closes links g.whole)

  -- each name is connected with one that came in
  connected_told : (c : Cluster) → Contains olds c → (a b : ℕ) → Contains c.names a → Contains c.names b → AreConnected links.pairs a b
  connected_told c listed a b one two =
      let (l, there, is) = told_of olds told g.puts.like c listed in
      let whole = whole_old w shelf order txs pairs may outs g.met g.here g.are_here links.txs g.all_pairs g.puts c listed in
      let linked : AreLinked (closure l) a b =
      subst (λ (d : Cluster). AreLinked d.graph a b) (sym is) (whole.whole a b ((whole.members a).1 one) ((whole.members b).1 two)) in
      let own = g.puts.each l there in
      connects l.pairs links.pairs (λ x y pair. walk_connects links.pairs x y 1 (walk_of_pair links.pairs x y (pair_told l there x y pair))) a b
      ((connected_linked (closure l) (graph_of_links l) (orders l own) (closes l own) a b).1 linked)

  pub connected_in : (id : ℕ) → Has links id → (m : ℕ) × Contains ids m × AreConnected links.pairs m id
  connected_in id here = elim ((has_name id).0 here) [
    | inl one ↦ (id, one, (0, refl))
    | inr (c, listed, held) ↦
        let (n, out, at) = stands w shelf order txs pairs may outs g.met g.here g.are_here links.txs g.all_pairs g.puts c listed in
        let (a, b, pair, is) = (g.met.exact n).0 out in
        let there = order.top.stands b n is in
        let inside : Contains c.names b =
        subst (λ (d : Cluster). Contains d.names b) (same_Some there.cluster c (sym there.there ∙ at)) there.here in
        let first : AreConnected links.pairs a b =
        walk_connects links.pairs a b 1 (walk_of_pair links.pairs a b (pair_put a b pair (inr (ap is_some is)))) in
        (a, may.parents a b pair, AreConnected-trans links.pairs a b id first (connected_told c listed b id inside held))
  ]

  -- ---- the graphs that come so

  module _ (next : Graph) (size : ℕ → ℕ) (of : ComesOf old txs pairs next size) where
    abbrev was : Graph
    was = of.graph

    member_was : (id : ℕ) → Contains was.names id ↔ (is_member old id ≡ true)
    member_was = of.closure.names

    -- the names that are here then
    here_next : (id : ℕ) → Contains next.names id ↔ IsHere shelf txs id
    here_next id = (
      λ there. elim ((of.puts.names id).0 there) [
        | inl one ↦ inr (sym (member-number view id) ∙ (member_was id).0 one)
        | inr two ↦ inl two
      ],
      λ is. (of.puts.names id).1 (elim is [
        | inl one ↦ inr one
        | inr some ↦ inl ((member_was id).1 (member-number view id ∙ some))
      ]),
    )

    pub was_next : (a b : ℕ) → Contains was.pairs (a, b) → Contains next.pairs (a, b)
    was_next a b pair = (of.puts.pairs a b).1 (inl pair)

    was_up : (a b : ℕ) → Contains was.pairs (a, b) → is_ancestor old a b ≡ true
    was_up a b pair =
        let ends = of.closure.ends a b pair in (of.closure.ancestors a b ends.0 ends.1).0 (1, walk_of_pair was.pairs a b pair)

    up_next : (a b : ℕ) → is_member old a ≡ true → is_member old b ≡ true → is_ancestor old a b ≡ true → IsAncestor next.pairs a b
    up_next a b one two up =
        let walk = (of.closure.ancestors a b one two).1 up in (walk.0, walk_within was.pairs next.pairs was_next a b walk.0 walk.1)

    -- a name that was there and has a name among the links is of a cluster
    named_was : (id : ℕ) → Has links id → is_member old id ≡ true → IsNamed olds id
    named_was id here live = elim ((has_name id).0 here) [
      | inl one ↦ absurd (true≢false (sym (sym (member-number view id) ∙ live) ∙ ap is_some (may.absent id one)))
      | inr named ↦ named
    ]

    -- a pair of the links makes an ancestor
    links_up : (a b : ℕ) → Contains links.pairs (a, b) → IsAncestor next.pairs a b
    links_up a b pair = elim (pair_cases a b pair) [
      | inl put ↦ (1, walk_of_pair next.pairs a b ((of.puts.pairs a b).1 (inr (put.0, (here_next b).1 put.1))))
      | inr (l, there, own) ↦
          let ends = (g.puts.each l there).graph_is.ends a b own in
          up_next a b
          (live_in a (told_named w shelf order txs pairs may outs g.met g.here g.are_here links.txs g.all_pairs g.puts l there a ends.0))
          (live_in b (told_named w shelf order txs pairs may outs g.met g.here g.are_here links.txs g.all_pairs g.puts l there b ends.1))
          (told_above w shelf order txs pairs may outs g.met g.here g.are_here links.txs g.all_pairs g.puts l there a b ends.0 ends.1
          (1, walk_of_pair l.pairs a b own))
    ]

    -- and a pair into a name of theirs is one among the links
    next_up : (a b : ℕ) → Contains next.pairs (a, b) → Has links b → Has links a × IsAncestor links.pairs a b
    next_up a b pair here = elim ((of.puts.pairs a b).0 pair) [
      | inl old_pair ↦
          let up = old_above a b (named_was b here (of.closure.ends a b old_pair).1) (was_up a b old_pair) in ((has_name a).1 (inr up.0), up.1)
      | inr put ↦ (
        (has_name a).1 (inl (may.parents a b put.0)),
        (1, walk_of_pair links.pairs a b (pair_put a b put.0 ((here_next b).0 put.1))),
      )
    ]

    -- a pair out of one leads to one
    next_down : (a b : ℕ) → Contains next.pairs (a, b) → Has links a → Has links b
    next_down a b pair here = elim ((of.puts.pairs a b).0 pair) [
      | inl old_pair ↦
          (has_name b).1 (inr (old_near a b (named_was a here (of.closure.ends a b old_pair).0) (inl (was_up a b old_pair))))
      | inr put ↦ child_has a b put.0 ((here_next b).0 put.1)
    ]

    -- ---- ancestors

    pub up_links : (a d n : ℕ) → Walk next.pairs a d n → Has links d → Has links a × IsAncestor links.pairs a d
    up_links a d zero same here = (subst (Has links) (sym same) here, (0, same))
    up_links a d (suc n) (c, walk, pair) here =
        let last = next_up c d pair here in
        let first = up_links a c n walk last.0 in
        (first.0, IsAncestor-trans links.pairs a c d first.1 last.1)

    pub links_next : (a d : ℕ) → IsAncestor links.pairs a d → IsAncestor next.pairs a d
    links_next a d walk = ancestors_along links.pairs next.pairs links_up a d walk.0 walk.1

    -- of a name that the links haven't, the ancestors are those that it had
    pub up_was : (a d n : ℕ) → Walk next.pairs a d n → (Has links d → ⊥) → Walk was.pairs a d n
    up_was a d zero same out = same
    up_was a d (suc n) (c, walk, pair) out = elim ((of.puts.pairs c d).0 pair) [
      | inl old_pair ↦ (c, up_was a c n walk (λ here. out (next_down c d pair here)), old_pair)
      | inr put ↦ absurd (out (next_down c d pair ((has_name c).1 (inl (may.parents c d put.0)))))
    ]

    -- ---- connected names

    pub near_links : (a b n : ℕ) → Has links a → Trail next.pairs a b n → Has links b × AreConnected links.pairs a b
    near_links a b zero here same = (subst (Has links) same here, (0, same))
    near_links a b (suc n) here (c, trail, step) =
        let before = near_links a c n here trail in
        elim step [
          | inl down ↦
              let there = next_down c b down before.0 in
              let up = (next_up c b down there).1 in
              (there, AreConnected-trans links.pairs a c b before.1 (walk_connects links.pairs c b up.0 up.1))
          | inr back ↦
              let up = next_up b c back before.0 in
              (up.0, AreConnected-trans links.pairs a c b before.1 (AreConnected-sym links.pairs b c (walk_connects links.pairs b c up.1.0 up.1.1)))
        ]

    pub connected_next : (a b : ℕ) → AreConnected links.pairs a b → AreConnected next.pairs a b
    connected_next = connects links.pairs next.pairs (λ a b pair. let up = links_up a b pair in walk_connects next.pairs a b up.0 up.1)

    pub connected_is : (a b : ℕ) → Has links a → AreConnected next.pairs a b ↔ AreConnected links.pairs a b
    connected_is a b here = (λ trail. (near_links a b trail.0 here trail.1).1, connected_next a b)

    -- ---- sizes

    pub sized : (id : ℕ) → Has links id → size id ≡ (rate_of (closure links) id).size
    sized id here = elim ((has_name id).0 here) [
      | inl one ↦
          let (tx, listed, named) = map-Contains (λ (t : ℕ × ℤ × ℕ). t.0) txs id one in
          subst (λ x. size x ≡ (rate_of (closure links) x).size) named
          (of.listed tx.0 tx.1 tx.2 listed ∙ sym (ap (λ (r : FeeRate). r.size) (listed_rate tx.0 tx.1 tx.2 listed)))
      | inr named ↦
          of.others id ((member_was id).1 (live_in id named)) ∙ sym (ap (λ (r : FeeRate). r.size) (old_rate id named))
    ]
