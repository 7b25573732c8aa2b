-- Two links that become one are a component, where both were.
use Rattle.std.proofs.Common.{◌≡◌, ◌⊎◌, ◌+◌, ℕ, true, ◌&&◌, List, ◌++◌, length, length-append, inl, inr, sym, ap, ◌∙◌, subst, arith}
use Rattle.std.specs.Prelude.{Contains}
use Rattle.std.proofs.lemmas.Bool.{and_from, or_left, or_right, or_cases}
use Rattle.std.proofs.lemmas.List.{map-append}
use Rattle.lists.proofs.Walks.{Walk-map, Walk-push, Walk-trans}
use Rattle.fee_rate.specs.declared.rates.FeeRate.{FeeRate}
use Rattle.fee_rate.specs.Limits.{IsRate}
use Rattle.graphs.specs.Certificates.{Txs}
use Rattle.graphs.specs.Closures.{is_member, is_ancestor, rate_of, AreLinked, IsRelated}
use Rattle.graphs.proofs.ClosingLemmas.{linked_back}
use Rattle.cluster.specs.Changes.{AreAcross, Joins}
use Rattle.cluster.specs.Clusters.{AreApart}
use Rattle.links.specs.Laws as laws
use Rattle.links.specs.Links.{Links, AreLinks}
use Rattle.links.specs.Kept.{names_of}
use Rattle.links.specs.Closing.{closure}
use Rattle.links.specs.Pairs.{HasMore}
use Rattle.links.proofs.Closed.{member_is, orders}
use Rattle.links.proofs.Changing.{joined_joins}
use Rattle.record.specs.Kept.{unordered}
use Rattle.record.specs.Records.{IsConnected}

module _ (one two new : Links) (parent child : ℕ) (are : AreLinks one) (are' : AreLinks two) (own : AreLinks new)
    (c : IsConnected (unordered one)) (d : IsConnected (unordered two)) (apart : AreApart (unordered one) (unordered two))
    (across : AreAcross (names_of one.txs) (names_of two.txs) parent child) (txs : new.txs ≡ one.txs ++ two.txs)
    (more : HasMore (one.pairs ++ two.pairs) new.pairs (parent, child)) where
  joins : laws.Joins (closure one) (closure two) parent child (closure new)
  joins = joined_joins one two new parent child are are' own apart across txs more

  pub joined_names : names_of new.txs ≡ names_of one.txs ++ names_of two.txs
  joined_names = ap (λ (xs : Txs). names_of xs) txs ∙ map-append (λ tx. tx.0) one.txs two.txs

  pub joined_graph : Joins (closure one) (closure two) parent child (closure new)
  joined_graph = record { first_rates = joins.first_rates; second_rates = joins.second_rates; ancestors = joins.ancestors }

  abbrev Above : ℕ → ℕ → Type 0
  Above x y = is_ancestor (closure new) x y ≡ true

  -- what was above is above
  up : (x y : ℕ) → laws.is_above (closure one) (closure two) x y ≡ true → Above x y
  up x y e =
      joins.ancestors x y
      ∙ or_left (laws.is_above (closure one) (closure two) x y)
      (laws.is_above (closure one) (closure two) x parent && laws.is_above (closure one) (closure two) child y) e

  first_up : (x y : ℕ) → is_ancestor (closure one) x y ≡ true → Above x y
  first_up x y e = up x y (or_left (is_ancestor (closure one) x y) (is_ancestor (closure two) x y) e)

  second_up : (x y : ℕ) → is_ancestor (closure two) x y ≡ true → Above x y
  second_up x y e = up x y (or_right (is_ancestor (closure one) x y) (is_ancestor (closure two) x y) e)

  itself : (x : ℕ) → Contains (names_of one.txs) x ⊎ Contains (names_of two.txs) x → laws.is_above (closure one) (closure two) x x ≡ true
  itself x (inl here) = or_left (is_ancestor (closure one) x x) (is_ancestor (closure two) x x) (c.order.reflexive x ((c.members x).1 here))
  itself x (inr here) = or_right (is_ancestor (closure one) x x) (is_ancestor (closure two) x x) (d.order.reflexive x ((d.members x).1 here))

  new_pair : Above parent child
  new_pair =
      joins.ancestors parent child
      ∙ or_right (laws.is_above (closure one) (closure two) parent child)
      (laws.is_above (closure one) (closure two) parent parent && laws.is_above (closure one) (closure two) child child)
      (and_from (laws.is_above (closure one) (closure two) parent parent) (laws.is_above (closure one) (closure two) child child)
      (itself parent (elim across [ inl sides ↦ inl sides.0 | inr sides ↦ inr sides.0 ]))
      (itself child (elim across [ inl sides ↦ inr sides.1 | inr sides ↦ inl sides.1 ])))

  first_linked : (a b : ℕ) → Contains (names_of one.txs) a → Contains (names_of one.txs) b → AreLinked (closure new) a b
  first_linked a b here there =
      Walk-map (λ x. x) (IsRelated (closure one)) (IsRelated (closure new))
      (λ x y related. elim related [ inl e ↦ inl (first_up x y e) | inr e ↦ inr (first_up y x e) ]) a b (c.whole a b ((c.members a).1 here) ((c.members b).1 there))

  second_linked : (a b : ℕ) → Contains (names_of two.txs) a → Contains (names_of two.txs) b → AreLinked (closure new) a b
  second_linked a b here there =
      Walk-map (λ x. x) (IsRelated (closure two)) (IsRelated (closure new))
      (λ x y related. elim related [ inl e ↦ inl (second_up x y e) | inr e ↦ inr (second_up y x e) ]) a b (d.whole a b ((d.members a).1 here) ((d.members b).1 there))

  across_linked : (a b : ℕ) → Contains (names_of one.txs) a → Contains (names_of two.txs) b → AreLinked (closure new) a b
  across_linked a b here there = elim across [
    | inl sides ↦
        Walk-trans (IsRelated (closure new)) a child b
        (Walk-push (IsRelated (closure new)) a parent child (first_linked a parent here sides.0) (inl new_pair))
        (second_linked child b sides.1 there)
    | inr sides ↦
        Walk-trans (IsRelated (closure new)) a parent b
        (Walk-push (IsRelated (closure new)) a child parent (first_linked a child here sides.1) (inr new_pair))
        (second_linked parent b sides.0 there)
  ]

  -- a name of both comes from one of the two
  from_one : (x : ℕ) → is_member (closure new) x ≡ true → Contains (names_of one.txs) x ⊎ Contains (names_of two.txs) x
  from_one x e = elim (or_cases (is_member (closure one) x) (is_member (closure two) x) (sym (joins.members x) ∙ e)) [
    | inl first ↦ inl ((c.members x).0 first)
    | inr second ↦ inr ((d.members x).0 second)
  ]

  all_linked : (a b : ℕ) → is_member (closure new) a ≡ true → is_member (closure new) b ≡ true → AreLinked (closure new) a b
  all_linked a b here there = elim (from_one a here) [
    | inl a_first ↦ elim (from_one b there) [
      | inl b_first ↦ first_linked a b a_first b_first
      | inr b_second ↦ across_linked a b a_first b_second
    ]
    | inr a_second ↦ elim (from_one b there) [
      | inl b_first ↦ linked_back (closure new) b a (across_linked b a b_first a_second)
      | inr b_second ↦ second_linked a b a_second b_second
    ]
  ]

  in_range : (x : ℕ) → is_member (closure new) x ≡ true → IsRate (rate_of (closure new) x)
  in_range x e = elim (from_one x e) [
    | inl here ↦
        let first = (c.members x).1 here in subst (λ (r : FeeRate). IsRate r) (sym (joins.first_rates x first)) (c.rates x first)
    | inr here ↦
        let second = (d.members x).1 here in subst (λ (r : FeeRate). IsRate r) (sym (joins.second_rates x second)) (d.rates x second)
  ]

  pub joined_connected : IsConnected (unordered new)
  joined_connected = record {
    some =
        let long : length (names_of new.txs) ≡ length (names_of one.txs) + length (names_of two.txs) =
        ap (λ (xs : List ℕ). length xs) joined_names ∙ length-append (names_of one.txs) (names_of two.txs) in
        omega (arith, long, c.some);
    once = own.graph_is.names;
    members = λ id. member_is (names_of new.txs) new.pairs new.txs id;
    order = orders new own;
    whole = all_linked;
    rates = in_range;
  }
