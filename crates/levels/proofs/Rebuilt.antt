-- A level of which some clusters went out and others came in: its numbers are right again, and what its graph is.
use Rattle.std.proofs.Common.{◌≡◌, ℕ, List, Contains, Some, inl, inr, ◌⊎◌, sym, ap, ◌∙◌, subst}
use Rattle.std.specs.Prelude.{slice_index}
use Rattle.std.proofs.lemmas.Option.{none-some, same_Some}
use Rattle.std.specs.FinMap as finmap
use Rattle.lists.proofs.Told.{told_number}
use Rattle.cluster.specs.Clusters.{Cluster}
use Rattle.levels.specs.Changes.{IsNamed, Rebuilds, IsRebuilt}
use Rattle.levels.specs.Views.{View, StandsAt, IsIndexed, graph_of}
use Rattle.levels.proofs.Graphs.{get-graph-same, get-none, in_live}
use Rattle.levels.proofs.Found.{cluster_of}
use Rattle.levels.proofs.Lookups.{decide_named, found_of, placed_of}

module _ (most : ℕ) (outs made : List ℕ) (olds news : List Cluster) (gone : List ℕ) (old new : View) (indexed : IsIndexed most old)
    (r : Rebuilds most outs made olds news gone old new) where
  -- a cluster that stands under none of the numbers that change stays
  pub stays : (n : ℕ) (c : Cluster) → (Contains outs n → ⊥) → old.at n ≡ Some c → new.at n ≡ Some c
  stays n c out is =
      let free : Contains made n → ⊥ = λ here. elim (r.exchanges.room n here) [ inl one ↦ out one | inr none ↦ none-some c (sym none ∙ is) ] in
      r.exchanges.elsewhere n out free ∙ is

  -- and was there
  stayed : (n : ℕ) (c : Cluster) → (Contains made n → ⊥) → new.at n ≡ Some c → (Contains outs n → ⊥) × (old.at n ≡ Some c)
  stayed n c free is =
      let out : Contains outs n → ⊥ = λ here. none-some c (sym (r.exchanges.cleared n here free) ∙ is) in
      (out, sym (r.exchanges.elsewhere n out free) ∙ is)

  -- a name of a cluster that goes out
  pub named_out : (n id : ℕ) (c : Cluster) → Contains outs n → old.at n ≡ Some c → Contains c.names id → IsNamed olds id
  named_out n id c out is here = (c, (found_of old.at outs olds n c r.taken out is).3, here)

  -- and its number
  number_out : (id : ℕ) → IsNamed olds id → (n : ℕ) × Contains outs n × (finmap.get old.numbers id ≡ Some n)
  number_out id named =
      let at = placed_of old.at outs olds named.0 r.taken named.1 in
      (slice_index outs at.place, at.number, indexed.listed (slice_index outs at.place) id named.0 at.stands named.2)

  -- the number of a name of a cluster that comes in
  number_in : (id : ℕ) (c : Cluster) → Contains news c → Contains c.names id
      → (n : ℕ) × Contains made n × (new.at n ≡ Some c) × (finmap.get new.numbers id ≡ Some n)
  number_in id c here held =
      let at = placed_of new.at made news c r.exchanges.stand here in
      (slice_index made at.place, at.number, at.stands, r.points.pointed at.place id c at.listed held)

  -- a name that isn't named anew, and isn't gone: its number, and its cluster, stay
  old_name : (id : ℕ) → (IsNamed news id → ⊥) → (Contains gone id → ⊥) → IsNamed olds id → ⊥
  old_name id none kept named = elim (r.covers.kept id named) [ inl one ↦ none one | inr two ↦ kept two ]

  stands_still : (id n : ℕ) → (IsNamed news id → ⊥) → (Contains gone id → ⊥) → finmap.get old.numbers id ≡ Some n → StandsAt new n id
  stands_still id n none kept is =
      let at = indexed.stands id n is in
      record {
        cluster = at.cluster;
        there = stays n at.cluster (λ out. old_name id none kept (named_out n id at.cluster out at.there at.here)) at.there;
        here = at.here;
      }

  -- a name of a cluster that stays is none of those that change
  not_named : (n id : ℕ) (c : Cluster) → (Contains outs n → ⊥) → old.at n ≡ Some c → Contains c.names id → IsNamed olds id → ⊥
  not_named n id c out is here named =
      let at = number_out id named in
      out (subst (Contains outs) (same_Some at.0 n (sym at.2 ∙ indexed.listed n id c is here)) at.1)

  not_new : (n id : ℕ) (c : Cluster) → (Contains outs n → ⊥) → old.at n ≡ Some c → Contains c.names id → IsNamed news id → ⊥
  not_new n id c out is here named = elim (r.covers.from id named) [
    | inl one ↦ not_named n id c out is here one
    | inr none ↦ none-some n (sym none ∙ indexed.listed n id c is here)
  ]

  -- a cluster came in, or was there
  pub came : (n : ℕ) (c : Cluster) → new.at n ≡ Some c → Contains news c ⊎ (old.at n ≡ Some c)
  came n c is = elim (told_number made n) [
    | inl one ↦ inl (found_of new.at made news n c r.exchanges.stand one is).3
    | inr free ↦ inr (stayed n c free is).1
  ]

  pub indexed_rebuilt : IsIndexed most new
  indexed_rebuilt = record {
    stands = λ id n is. elim (decide_named news id) [
      | inl named ↦
          let at = number_in id named.0 named.1 named.2 in
          record { cluster = named.0; there = ap new.at (same_Some n at.0 (sym is ∙ at.3)) ∙ at.2; here = named.2 }
      | inr none ↦ elim (told_number gone id) [
        | inl lost ↦ absurd (none-some n (sym (r.points.lost id lost) ∙ is))
        | inr kept ↦ stands_still id n none kept (sym (r.points.others id none kept) ∙ is)
      ]
    ];
    listed = λ n id c is here. elim (told_number made n) [
      | inl one ↦ let at = found_of new.at made news n c r.exchanges.stand one is in r.points.pointed at.0 id c at.1 here ∙ ap Some at.2
      | inr free ↦
          let was = stayed n c free is in
          r.points.others id (not_new n id c was.0 was.1 here) (λ lost. not_named n id c was.0 was.1 here (r.covers.lose id lost).0)
          ∙ indexed.listed n id c was.1 here
    ];
    whole = λ n c is. elim (came n c is) [ inl new ↦ r.covers.whole c new | inr was ↦ indexed.whole n c was ];
  }

  pub is_rebuilt : IsRebuilt olds news gone (graph_of old) (graph_of new)
  is_rebuilt = record {
    was = λ c id here held.
        let at = placed_of old.at outs olds c r.taken here in (
          cluster_of most old indexed (slice_index outs at.place) c at.stands id held,
          in_live most old indexed (slice_index outs at.place) id c at.stands held,
        );
    now = λ c id here held.
        let at = number_in id c here held in
        (cluster_of most new indexed_rebuilt at.0 c at.2 id held, in_live most new indexed_rebuilt at.0 id c at.2 held);
    lost = λ id here. get-none new id (r.points.lost id here);
    others = λ id out none.
        let kept : Contains gone id → ⊥ = λ lost. out (r.covers.lose id lost).0 in
        get-graph-same old new id (r.points.others id none kept)
        (λ n is.
        let at = indexed.stands id n is in
        (at.cluster, at.there, stays n at.cluster (λ one. old_name id none kept (named_out n id at.cluster one at.there at.here)) at.there));
    kept = r.covers.kept;
    lose = r.covers.lose;
  }
