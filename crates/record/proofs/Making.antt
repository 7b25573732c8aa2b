-- Links of a component with its order have its closure.
use Rattle.std.proofs.Common.{◌≡◌, ◌↔◌, ℕ, ℤ, Bool, true, false, List, [], map, refl, sym, ap, ap₂, ◌∙◌, subst}
use Rattle.std.specs.Prelude.{Contains}
use Rattle.std.specs.Cmp.{both_ways}
use Rattle.std.proofs.lemmas.List.{map-id}
use Rattle.std.proofs.lemmas.Simd.{map-map}
use Rattle.lists.specs.Distinct.{AreDistinct}
use Rattle.lists.proofs.Entries.{Contains-map, map-Contains}
use Rattle.fee_rate.specs.declared.rates.FeeRate.{FeeRate}
use Rattle.fee_rate.specs.Limits.{IsRate}
use Rattle.graphs.specs.Certificates.{Txs}
use Rattle.graphs.specs.Closures.{Closure, is_member, is_ancestor, rate_of, IsCover}
use Rattle.graphs.specs.Graphs.{HasNoCycle}
use Rattle.links.specs.Links.{Links, AreAmong, AreInRange, AreLinks, AreSame}
use Rattle.links.specs.Kept.{names_of}
use Rattle.links.specs.Closing.{closure}
use Rattle.links.proofs.Closed.{member_is, rates_are, ancestors_are}
use Rattle.cluster.specs.Clusters.{Cluster}
use Rattle.record.specs.Kept.{unordered}
use Rattle.record.specs.Parents.{ArePairsAbove, tx_of}
use Rattle.record.specs.Records.{IsConnected}
use Rattle.record.proofs.Covering.{cover_ancestors, covers_acyclic}
use Rattle.record.proofs.Equal.{closure_is, no_member_rate}

pub names_told : (g : Closure) (names : List ℕ) → names_of (map (tx_of g) names) ≡ names
names_told g names = map-map (λ tx. tx.0) (tx_of g) names ∙ map-id names

module _ (c : Cluster) (connected : IsConnected c) (txs : Txs) (pairs : List (ℕ × ℕ)) (txs_are : txs ≡ map (tx_of c.graph) c.names)
    (pairs_are : ArePairsAbove c.graph c.names pairs) where
  names_are : names_of txs ≡ c.names
  names_are = ap names_of txs_are ∙ names_told c.graph c.names

  exact : (a d : ℕ) → Contains {X = ℕ × ℕ} pairs (a, d) ↔ IsCover c.graph a d
  exact a d = (
    (λ here. ((pairs_are a d).0 here).1),
    (λ cover. (pairs_are a d).1 ((connected.members d).0 (connected.order.among a d cover.ancestor).1, cover)),
  )

  pub names_once : AreDistinct (names_of txs)
  names_once = subst (λ (xs : List ℕ). AreDistinct xs) (sym names_are) connected.once

  -- a name of the list, as it stands there
  listed : (id : ℕ) (fee : ℤ) (size : ℕ) → Contains {X = ℕ × ℤ × ℕ} txs (id, fee, size)
      → Contains c.names id × (record { fee = fee; size = size } ≡ rate_of c.graph id)
  listed id fee size here =
      let at = map-Contains (tx_of c.graph) c.names (id, fee, size) (subst (λ (xs : Txs). Contains {X = ℕ × ℤ × ℕ} xs (id, fee, size)) txs_are here) in (
        subst (λ (x : ℕ). Contains c.names x) (ap (λ (tx : ℕ × ℤ × ℕ). tx.0) at.2) at.1,
        sym (ap (λ (tx : ℕ × ℤ × ℕ). record { fee = tx.1; size = tx.2 }) at.2)
            ∙ ap (λ (x : ℕ). rate_of c.graph x) (ap (λ (tx : ℕ × ℤ × ℕ). tx.0) at.2),
      )

  pub in_range : AreInRange txs
  in_range id fee size here =
      let at = listed id fee size here in
      let range : IsRate (record { fee = fee; size = size }) =
      subst (λ (r : FeeRate). IsRate r) (sym at.1) (connected.rates id ((connected.members id).1 at.0)) in
      (range.fee, (range.some, range.size))

  pub among : AreAmong (names_of txs) pairs
  among a d here =
      let cover = (exact a d).0 here in
      let both = connected.order.among a d cover.ancestor in (
        subst (λ (xs : List ℕ). Contains xs a) (sym names_are) ((connected.members a).0 both.0),
        subst (λ (xs : List ℕ). Contains xs d) (sym names_are) ((connected.members d).0 both.1),
      )

  pub acyclic : HasNoCycle pairs
  acyclic = covers_acyclic c.graph c.names connected.once connected.members connected.order pairs exact

  module _ (links : Links) (are : AreLinks links) (own_txs : links.txs ≡ txs) (own_pairs : AreSame pairs links.pairs) where
    own_names : names_of links.txs ≡ c.names
    own_names = ap names_of own_txs ∙ names_are

    own_exact : (a d : ℕ) → Contains {X = ℕ × ℕ} links.pairs (a, d) ↔ IsCover c.graph a d
    own_exact a d = (
      (λ here. (exact a d).0 ((own_pairs a d).0 here)),
      (λ cover. (own_pairs a d).1 ((exact a d).1 cover)),
    )

    -- a name of the component is one of the links, and the other way
    to_own : (id : ℕ) → Contains c.names id → Contains (names_of links.txs) id
    to_own id here = subst (λ (xs : List ℕ). Contains xs id) (sym own_names) here

    from_own : (id : ℕ) → Contains (names_of links.txs) id → Contains c.names id
    from_own id here = subst (λ (xs : List ℕ). Contains xs id) own_names here

    own_members : (p : ℕ) → is_member (closure links) p ≡ is_member c.graph p
    own_members p =
        both_ways (is_member (closure links) p) (is_member c.graph p)
        (λ e. (connected.members p).1 (from_own p ((member_is (names_of links.txs) links.pairs links.txs p).0 e)))
        (λ e. (member_is (names_of links.txs) links.pairs links.txs p).1 (to_own p ((connected.members p).0 e)))

    own_rates : (p : ℕ) → rate_of (closure links) p ≡ rate_of c.graph p
    own_rates p = by (is_member c.graph p) refl
      where
        by : (b : Bool) → is_member c.graph p ≡ b → rate_of (closure links) p ≡ rate_of c.graph p
        by true e =
            rates_are links are p (rate_of c.graph p).fee (rate_of c.graph p).size
            (subst (λ (xs : Txs). Contains {X = ℕ × ℤ × ℕ} xs (tx_of c.graph p)) (sym (own_txs ∙ txs_are))
            (Contains-map (tx_of c.graph) c.names p ((connected.members p).0 e)))
        by false e = no_member_rate (closure links) p (own_members p ∙ e) ∙ sym (no_member_rate c.graph p e)

    own_above : (a d : ℕ) → is_ancestor (closure links) a d ≡ is_ancestor c.graph a d
    own_above a d =
        let covers = cover_ancestors c.graph c.names connected.once connected.members connected.order links.pairs own_exact in
        both_ways (is_ancestor (closure links) a d) (is_ancestor c.graph a d)
        (λ e. let up = (ancestors_are links are a d).0 e in (covers a d ((connected.members a).1 (from_own a up.0))).0 up.2)
        (λ e.
        let ends = connected.order.among a d e in
        (ancestors_are links are a d).1
        (to_own a ((connected.members a).0 ends.0), to_own d ((connected.members d).0 ends.1), (covers a d ends.0).1 e))

    pub unordered_is : unordered links ≡ record c { parts = [] }
    unordered_is =
        ap₂ (λ (names : List ℕ) (graph : Closure). record { names = names; graph = graph; parts = [] }) own_names
        (closure_is (closure links) c.graph own_members own_rates own_above)
