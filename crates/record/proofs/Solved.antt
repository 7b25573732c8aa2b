-- Links that are solved keep their names and their graph.
use Rattle.std.proofs.Common.{◌≡◌, ℕ, pos, ◌<◌, ◌≤◌, Bool, true, false, List, [], ◌∷◌, length, slice_index, inl, inr, refl, sym, ap, ◌∙◌, subst, subst₂, ap₂, lt-ltb, arith}
use Rattle.std.specs.Prelude.{Contains}
use Rattle.std.specs.Cmp.{both_ways}
use Rattle.std.proofs.lemmas.Bool.{ltb-true}
use Rattle.std.proofs.lemmas.List.{get_or_default}
use Rattle.std.proofs.lemmas.List.Elements.{Contains-get_or}
use Rattle.lists.specs.Walks.{Walk, IsWalk}
use Rattle.bitset.specs.Places.{places, IsWithin}
use Rattle.fee_rate.specs.Limits.{IsRate}
use Rattle.fee_rate.specs.declared.rates.FeeRate.{FeeRate}
use Rattle.graphs.specs.Closures.{is_member, is_ancestor, rate_of, members_of, Closure, IsNear, IsRelated}
use Rattle.graphs.proofs.Members.{contains-members_of}
use Rattle.linearize.specs.Graphs.{HasRates, IsComponent}
use Rattle.cluster.specs.Clusters.{Cluster, IsCluster}
use Rattle.cluster.specs.Changes.{AreNamesOf, TakesNames}
use Rattle.links.specs.Links.{Links, AreLinks}
use Rattle.links.specs.Kept.{names_of}
use Rattle.links.specs.Closing.{closure}
use Rattle.links.proofs.Closed.{member_is, rates_are, ancestors_are}
use Rattle.record.specs.Kept.{unordered}
use Rattle.record.specs.Records.{IsConnected, IsLike}
use Rattle.record.specs.Solving.{StandsFor, tx_at}
use Rattle.record.proofs.Equal.{closure_is, no_member_rate}
use Rattle.record.proofs.Standing.{first_place_at, members_within, members_many, names_long, place_told, same_place, name_told}

module _ (links : Links) (are : AreLinks links) (connected : IsConnected (unordered links)) (dep : Closure) (stands : StandsFor links.txs links.pairs dep) where
  abbrev count : ℕ
  count = length links.txs

  abbrev names : List ℕ
  names = names_of links.txs

  abbrev name : ℕ → ℕ
  name p = (tx_at links.txs p).0

  is_in : (p : ℕ) → is_member dep p ≡ true → p < count
  is_in p here = ltb-true p count (sym (stands.members p) ∙ here)

  pub has_rates : HasRates dep
  has_rates p here =
      let low : p < count = is_in p here in
      let tx = tx_at links.txs p in
      let range = are.in_range tx.0 tx.1 tx.2 (Contains-get_or links.txs p (0, pos 0, 0) low) in
      subst (λ (r : FeeRate). IsRate r) (sym (stands.rates p low)) (record { fee = range.0; some = range.1.0; size = range.1.1 })

  pub packed : IsWithin (length names) (members_of dep)
  packed = subst (λ n. IsWithin n (members_of dep)) (sym (names_long links.txs)) (members_within count count dep (omega arith) stands.members)

  pub names_for : AreNamesOf dep names
  names_for = record {
    some = connected.some;
    each = names_long links.txs ∙ sym (members_many count count dep (omega arith) stands.members);
    once = connected.once;
  }

  -- the place of a name
  place_at : (id : ℕ) → Contains names id → (p : ℕ) × (p < count) × (name p ≡ id)
  place_at id here =
      let told = place_told names links.txs here.0 id refl here.1 (get_or_default names here.0 0 id here.1 ∙ here.2) in
      (here.0, told.0, told.1)

  above : (a b : ℕ) → a < count → b < count → is_ancestor (closure links) (name a) (name b) ≡ true → is_ancestor dep a b ≡ true
  above a b low below up = (stands.ancestors a b low below).1 ((ancestors_are links are (name a) (name b)).0 up).2

  near : (a b : ℕ) → a < count → b < count → IsRelated (closure links) (name a) (name b) → IsNear dep (members_of dep) a b
  near a b low below related = record {
    from_within = contains-members_of dep a ∙ stands.members a ∙ lt-ltb a count low;
    to_within = contains-members_of dep b ∙ stands.members b ∙ lt-ltb b count below;
    related = elim related [ inl up ↦ inl (above a b low below up) | inr down ↦ inr (above b a below low down) ];
  }

  ends : (a b : ℕ) → IsRelated (closure links) a b → Contains names b
  ends a b (inl up) = ((ancestors_are links are a b).0 up).1
  ends a b (inr down) = ((ancestors_are links are b a).0 down).0

  placed : (a b : ℕ) (vs : List ℕ) → a < count → b < count → IsWalk (IsRelated (closure links)) (name a) vs (name b)
      → Walk (IsNear dep (members_of dep)) a b
  placed a b [] low below same = ([], same_place links.txs are.graph_is.names a b low below same)
  placed a b (v ∷ vs) low below walk =
      let at = place_at v (ends (name a) v walk.0) in
      let rest = placed at.0 b vs at.1 below (subst (λ (x : ℕ). IsWalk (IsRelated (closure links)) x vs (name b)) (sym at.2) walk.1) in
      (at.0 ∷ rest.0, (near a at.0 low at.1 (subst (λ (x : ℕ). IsRelated (closure links) (name a) x) (sym at.2) walk.0), rest.1))

  named_member : (p : ℕ) → p < count → is_member (closure links) (name p) ≡ true
  named_member p low =
      (member_is names links.pairs links.txs (name p)).1
      (subst (λ (x : ℕ). Contains names x) (name_told links.txs p low)
      (Contains-get_or names p 0 (subst (λ n. p < n) (sym (names_long links.txs)) low)))

  pub is_component : IsComponent dep
  is_component a b here there =
      let low : a < count = is_in a here in
      let below : b < count = is_in b there in
      let walk = connected.whole (name a) (name b) (named_member a low) (named_member b below) in
      placed a b walk.0 low below walk.1

  module _ (n most : ℕ) (few : count ≤ n) (c : Cluster) (takes : TakesNames n dep names c) (whole : IsCluster most c) where
    own : (id : ℕ) → is_member c.graph id ≡ true → Contains names id
    own id here = subst (λ (xs : List ℕ). Contains xs id) takes.names_are ((whole.members id).0 here)

    own_back : (id : ℕ) → Contains names id → is_member c.graph id ≡ true
    own_back id here = (whole.members id).1 (subst (λ (xs : List ℕ). Contains xs id) (sym takes.names_are) here)

    in_names : (p : ℕ) → p < count → p < length names
    in_names p low = subst (λ k. p < k) (sym (names_long links.txs)) low

    at_place : (p : ℕ) → p < count → slice_index (places n (members_of dep)) p ≡ p
    at_place p low = first_place_at n count dep few stands.members p low

    taken_rate : (p : ℕ) → p < count → rate_of c.graph (name p) ≡ rate_of (closure links) (name p)
    taken_rate p low =
        let tx = tx_at links.txs p in
        subst (λ (x : ℕ). rate_of c.graph x ≡ rate_of (closure links) (name p)) (name_told links.txs p low)
        (takes.rates p (in_names p low) ∙ ap (λ (x : ℕ). rate_of dep x) (at_place p low) ∙ stands.rates p low
        ∙ sym (rates_are links are tx.0 tx.1 tx.2 (Contains-get_or links.txs p (0, pos 0, 0) low)))

    taken_above : (p q : ℕ) → p < count → q < count → is_ancestor c.graph (name p) (name q) ≡ is_ancestor dep p q
    taken_above p q low below =
        subst₂ (λ (x y : ℕ). is_ancestor c.graph x y ≡ is_ancestor dep p q) (name_told links.txs p low) (name_told links.txs q below)
        (takes.ancestors p q (in_names p low) (in_names q below)
        ∙ ap₂ (λ (x y : ℕ). is_ancestor dep x y) (at_place p low) (at_place q below))

    same_rate : (id : ℕ) → rate_of c.graph id ≡ rate_of (closure links) id
    same_rate id = by (is_member c.graph id) refl
      where
        by : (b : Bool) → is_member c.graph id ≡ b → rate_of c.graph id ≡ rate_of (closure links) id
        by true e =
            let at = place_at id (own id e) in
            subst (λ (x : ℕ). rate_of c.graph x ≡ rate_of (closure links) x) at.2 (taken_rate at.0 at.1)
        by false e = no_member_rate c.graph id e ∙ sym (no_member_rate (closure links) id (sym (same_member id) ∙ e))
          where
            same_member : (p : ℕ) → is_member c.graph p ≡ is_member (closure links) p
            same_member p =
                both_ways (is_member c.graph p) (is_member (closure links) p) (λ h. (member_is names links.pairs links.txs p).1 (own p h))
                (λ h. own_back p ((member_is names links.pairs links.txs p).0 h))

    same_above : (a d : ℕ) → is_ancestor c.graph a d ≡ is_ancestor (closure links) a d
    same_above a d =
        both_ways (is_ancestor c.graph a d) (is_ancestor (closure links) a d)
        (λ e.
        let among = whole.order.among a d e in
        let p = place_at a (own a among.0) in
        let q = place_at d (own d among.1) in
        let inside : is_ancestor dep p.0 q.0 ≡ true =
        sym (taken_above p.0 q.0 p.1 q.1) ∙ subst₂ (λ (x y : ℕ). is_ancestor c.graph x y ≡ true) (sym p.2) (sym q.2) e in
        subst₂ (λ (x y : ℕ). is_ancestor (closure links) x y ≡ true) p.2 q.2
        ((ancestors_are links are (name p.0) (name q.0)).1 (
          (member_is names links.pairs links.txs (name p.0)).0 (named_member p.0 p.1),
          (member_is names links.pairs links.txs (name q.0)).0 (named_member q.0 q.1),
          (stands.ancestors p.0 q.0 p.1 q.1).0 inside,
        )))
        (λ e.
        let up = (ancestors_are links are a d).0 e in
        let p = place_at a up.0 in
        let q = place_at d up.1 in
        subst₂ (λ (x y : ℕ). is_ancestor c.graph x y ≡ true) p.2 q.2
        (taken_above p.0 q.0 p.1 q.1
        ∙ above p.0 q.0 p.1 q.1 (subst₂ (λ (x y : ℕ). is_ancestor (closure links) x y ≡ true) (sym p.2) (sym q.2) e)))

    pub solved_like : IsLike c (unordered links)
    solved_like = (
      takes.names_are,
      closure_is c.graph (closure links)
          (λ p. both_ways (is_member c.graph p) (is_member (closure links) p) (λ h. (member_is names links.pairs links.txs p).1 (own p h))
          (λ h. own_back p ((member_is names links.pairs links.txs p).0 h))) same_rate same_above,
    )
