-- The ancestors, or the descendants, of names of a record.
use Rattle.std.proofs.Common.{◌≡◌, ◌↔◌, ◌≤◌, ◌<◌, ◌+◌, ◌-◌, ℕ, true, zero, suc, List, [], ◌∷◌, ◌++◌, append_assoc, append-nil, length, sym, ap, ◌∙◌, subst, arith}
use Rattle.std.specs.Prelude.{Contains}
use Rattle.std.proofs.lemmas.List.{length-append, length-map, length_push}
use Rattle.lists.specs.Distinct.{AreDistinct}
use Rattle.lists.proofs.Distinct.{distinct_within}
use Rattle.graphs.specs.Graphs.{IsAncestor}
use Rattle.graphs.specs.Unions.{IsKin, IsKinOfSome, PutsBehind, is_kin}
use Rattle.graphs.specs.declared.names.Kin.{Kin}
use Rattle.graphs.specs.declared.names.Kin.TheVariants.{Ancestors, Descendants}
use Rattle.cluster.specs.Clusters.{Cluster}
use Rattle.links.specs.Links.{Links, AreAmong, AreLinks}
use Rattle.links.specs.Kept.{names_of}
use Rattle.links.proofs.Closed.{ancestors_are}
use Rattle.record.specs.Kept.{unordered}
use Rattle.record.proofs.Keeping.{has_name}
use Rattle.record.proofs.Listed.{above_in, above_of, above_to, all_more}

-- ---- kin of names are names

below_in : (names : List ℕ) (pairs : List (ℕ × ℕ)) → AreAmong names pairs → (a b : ℕ) → IsAncestor pairs a b → Contains names a → Contains names b
below_in names pairs among a b (zero, same) here = subst (Contains names) same here
below_in names pairs among a b (suc n, walk) here = (among walk.0 b walk.2).1

pub kin_in : (kin : Kin) (names : List ℕ) (pairs : List (ℕ × ℕ)) → AreAmong names pairs → (a id : ℕ) → IsKin kin pairs a id → Contains names id
    → Contains names a
kin_in Ancestors names pairs among a id up here = above_in names pairs among a id up here
kin_in Descendants names pairs among a id down here = below_in names pairs among id a down here

-- ---- of names with a property, some were put behind a list, and the others are still to come

pub record IsPartway (P : ℕ → Type 0) (ys zs old ids : List ℕ) (first room : ℕ) : Type 0 where
  pub all : (a : ℕ) → Contains (ys ++ zs) a ↔ P a
  pub once : AreDistinct (ys ++ zs)
  pub behind : ids ≡ old ++ ys
  pub room_is : room + length ys ≡ first

module _ (P : ℕ → Type 0) (ys zs old ids : List ℕ) (first room : ℕ) (way : IsPartway P ys zs old ids first room) where
  pub room_left : (names : List ℕ) → ((a : ℕ) → P a → Contains names a) → length names ≤ first → (x : ℕ) (rest : List ℕ) → zs ≡ x ∷ rest
      → 0 < room
  room_left names within fits x rest is =
      let few = (distinct_within (λ x. 0) (ys ++ zs) names way.once (λ a here. within a ((way.all a).0 here))).0 in
      let long = way.room_is in
      omega (arith, few, length-append ys zs, ap length is)

  pub put_next : (x : ℕ) (rest : List ℕ) → zs ≡ x ∷ rest → 0 < room → IsPartway P (ys ++ x ∷ []) rest old (ids ++ x ∷ []) first (room - 1)
  put_next x rest is some =
      let long = way.room_is in
      record {
        all = λ a. all_more P (λ _. ℕ) ys zs way.all (λ _ _. 0) x rest is a;
        once = subst AreDistinct (ap (λ (xs : List ℕ). ys ++ xs) is ∙ sym (append_assoc ys (x ∷ []) rest)) way.once;
        behind = ap (λ (xs : List ℕ). xs ++ x ∷ []) way.behind ∙ append_assoc old ys (x ∷ []);
        room_is = omega (arith, length_push ys x);
      }

  pub put_all : zs ≡ [] → PutsBehind P old ids
  put_all none =
      let same : ys ++ zs ≡ ys = ap (λ (xs : List ℕ). ys ++ xs) none ∙ append-nil ys in
      record {
        more = ys;
        behind = way.behind;
        once = subst AreDistinct same way.once;
        exact = λ a. subst (λ (xs : List ℕ). Contains xs a ↔ P a) same (way.all a);
      }

  pub room_same : length ids + room ≡ length old + first
  room_same = let long = way.room_is in omega (arith, ap length way.behind, length-append old ys)

-- ---- links, and what they stand for

module _ (links : Links) (are : AreLinks links) (s : Cluster) (is : unordered links ≡ s) where
  kin_to : (kin : Kin) (a id : ℕ) → Contains s.names id → IsKin kin links.pairs a id → is_kin kin s.graph a id ≡ true
  kin_to Ancestors a id here up = above_to links are s is id here a up
  kin_to Descendants a id here down =
      let has = has_name links are s is id here in
      subst (λ (c : Cluster). is_kin Descendants c.graph a id ≡ true) is
      ((ancestors_are links are id a).1 (has, below_in (names_of links.txs) links.pairs are.graph_is.ends id a down has, down))

  kin_of : (kin : Kin) (a id : ℕ) → Contains s.names id → is_kin kin s.graph a id ≡ true → IsKin kin links.pairs a id
  kin_of Ancestors a id here up = above_of links are s is id here a up
  kin_of Descendants a id here down =
      ((ancestors_are links are id a).0 (subst (λ (c : Cluster). is_kin Descendants c.graph a id ≡ true) (sym is) down)).2

  pub over_adds : (kin : Kin) (ids old new : List ℕ) → ((id : ℕ) → Contains ids id → Contains s.names id)
      → PutsBehind (λ a. (id : ℕ) × Contains ids id × IsKin kin links.pairs a id) old new → PutsBehind (IsKinOfSome kin s.graph ids) old new
  over_adds kin ids old new here adds = record {
    more = adds.more;
    behind = adds.behind;
    once = adds.once;
    exact = λ a. (
      λ told. let found = (adds.exact a).0 told in (found.0, found.1, kin_to kin a found.0 (here found.0 found.1) found.2),
      λ (id, listed, up). (adds.exact a).1 (id, listed, kin_of kin a id (here id listed) up),
    );
  }

  pub over_long : length links.txs ≡ length s.names
  over_long = sym (length-map links.txs (λ tx. tx.0)) ∙ ap (λ (c : Cluster). length c.names) is
