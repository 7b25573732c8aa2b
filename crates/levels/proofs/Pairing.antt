-- One more pair between names of one cluster, or of two, as the clusters tell it that go out and come in.
use Rattle.std.proofs.Common.{◌≡◌, ℕ, ◌<◌, ◌≤◌, ◌*◌, true, ◌&&◌, List, [], ◌∷◌, ◌++◌, length, get_or, Contains, Option, Some, inl, inr, ◌⊎◌, sym, ap, ◌∙◌, subst, subst₂, arith, length-append}
use Rattle.std.specs.Prelude.{slice_index, option_to_list, IfSome}
use Rattle.std.proofs.lemmas.Bool.{and_from, and_parts, or_cases, or_left, or_right}
use Rattle.std.proofs.lemmas.List.{get_or_append_left, get_or_default}
use Rattle.std.proofs.lemmas.List.Elements.{Contains-append_left, Contains-append_right, Contains-append_cases}
use Rattle.std.proofs.lemmas.Option.{same_Some}
use Rattle.std.specs.FinMap as finmap
use Rattle.lists.specs.Distinct.{AreDistinct}
use Rattle.lists.proofs.Entries.{Contains-head, Contains-later, Contains-cases, none_in_empty}
use Rattle.graphs.specs.declared.names.Level.TheVariants.{Top}
use Rattle.graphs.specs.Closures.{is_ancestor, rate_of, AddsPair}
use Rattle.cluster.specs.Clusters.{Cluster}
use Rattle.record.specs.Records.{IsConnected, IsFitted}
use Rattle.cluster.specs.Changes.{AreAcross, IsAncestorIn, Joins, is_above}
use Rattle.levels.specs.Changes.{AreAt, Covers, IsNamed}
use Rattle.levels.specs.Moves.{AddsPairIn, PairsIn, PairsTop}
use Rattle.levels.specs.Shelves.{Shelf, numbers_at, seen_at}
use Rattle.levels.specs.Tops.{HasFront, IsMade}
use Rattle.levels.specs.Views.{Numbers}
use Rattle.levels.proofs.Making.{all_one, named_one, olds_are, one_made, one_named}

-- ---- what one cluster says

only : (c d : Cluster) → Contains (c ∷ []) d → c ≡ d
only c d here = elim (Contains-cases c d [] here) [ inl same ↦ same | inr none ↦ absurd (none_in_empty d none) ]

above_one : (c : Cluster) (a d : ℕ) → IsAncestorIn (c ∷ []) a d → is_ancestor c.graph a d ≡ true
above_one c a d up = subst (λ (x : Cluster). is_ancestor x.graph a d ≡ true) (sym (only c up.0 up.1)) up.2

one_above : (c : Cluster) (a d : ℕ) → is_ancestor c.graph a d ≡ true → IsAncestorIn (c ∷ []) a d
one_above c a d up = (c, Contains-head c [], up)

module _ (p q : ℕ) (was now : Cluster) (names : now.names ≡ was.names) (pair : AddsPair was.graph now.graph p q) (parent : Contains was.names p)
    (child : Contains was.names q) where
  ups : (a d : ℕ) → is_ancestor now.graph a d ≡ true → IsAncestorIn (was ∷ []) a d ⊎ (IsAncestorIn (was ∷ []) a p × IsAncestorIn (was ∷ []) q d)
  ups a d up =
      let g = was.graph in
      elim (or_cases (is_ancestor g a d) (is_ancestor g a p && is_ancestor g q d) (sym (pair.ancestors a d) ∙ up)) [
        | inl old ↦ inl (one_above was a d old)
        | inr both ↦
            let ends = and_parts (is_ancestor g a p) (is_ancestor g q d) both in inr (one_above was a p ends.0, one_above was q d ends.1)
      ]

  downs : (a d : ℕ) → IsAncestorIn (was ∷ []) a d ⊎ (IsAncestorIn (was ∷ []) a p × IsAncestorIn (was ∷ []) q d) → is_ancestor now.graph a d ≡ true
  downs a d either =
      let g = was.graph in
      pair.ancestors a d ∙ elim either [
        | inl old ↦ or_left (is_ancestor g a d) (is_ancestor g a p && is_ancestor g q d) (above_one was a d old)
        | inr both ↦
            or_right (is_ancestor g a d) (is_ancestor g a p && is_ancestor g q d)
            (and_from (is_ancestor g a p) (is_ancestor g q d) (above_one was a p both.0) (above_one was q d both.1))
      ]

  pub pair_within : AddsPairIn (was ∷ []) (now ∷ []) p q
  pair_within = record {
    parent = one_named was p parent;
    child = one_named was q child;
    each = λ c here. inl (subst (λ (x : Cluster). Contains x.names p) (only was c here) parent);
    names = λ id. (
      λ named. one_named was id (subst (λ (xs : List ℕ). Contains xs id) names (named_one now id named)),
      λ named. one_named now id (subst (λ (xs : List ℕ). Contains xs id) (sym names) (named_one was id named)),
    );
    rates = λ c here id held b there in_b.
        ap (λ (x : Cluster). rate_of x.graph id) (sym (only now c here)) ∙ pair.rates id ∙ ap (λ (x : Cluster). rate_of x.graph id) (only was b there);
    ancestors = λ a d. (λ up. ups a d (above_one now a d up), λ either. one_above now a d (downs a d either));
  }

-- ---- what two clusters say

module _ (p q : ℕ) (one other now : Cluster) (one_whole : IsConnected one) (other_whole : IsConnected other)
    (names : now.names ≡ one.names ++ other.names) (joins : Joins one.graph other.graph p q now.graph) (across : AreAcross one.names other.names p q) where
  abbrev both : List Cluster
  both = one ∷ other ∷ []

  cases : (c : Cluster) → Contains both c → (one ≡ c) ⊎ (other ≡ c)
  cases c here = elim (Contains-cases one c (other ∷ []) here) [ inl same ↦ inl same | inr later ↦ inr (only other c later) ]

  in_one : (id : ℕ) → Contains one.names id → IsNamed both id
  in_one id here = (one, Contains-head one (other ∷ []), here)

  in_other : (id : ℕ) → Contains other.names id → IsNamed both id
  in_other id here = (other, Contains-later one other (other ∷ []) (Contains-head other []), here)

  named_cases : (id : ℕ) → IsNamed both id → Contains one.names id ⊎ Contains other.names id
  named_cases id named = elim (cases named.0 named.1) [
    | inl same ↦ inl (subst (λ (x : Cluster). Contains x.names id) (sym same) named.2)
    | inr same ↦ inr (subst (λ (x : Cluster). Contains x.names id) (sym same) named.2)
  ]

  above_in : (a d : ℕ) → IsAncestorIn both a d → is_above one.graph other.graph a d ≡ true
  above_in a d up = elim (cases up.0 up.1) [
    | inl same ↦ or_left (is_ancestor one.graph a d) (is_ancestor other.graph a d) (subst (λ (x : Cluster). is_ancestor x.graph a d ≡ true) (sym same) up.2)
    | inr same ↦ or_right (is_ancestor one.graph a d) (is_ancestor other.graph a d) (subst (λ (x : Cluster). is_ancestor x.graph a d ≡ true) (sym same) up.2)
  ]

  in_above : (a d : ℕ) → is_above one.graph other.graph a d ≡ true → IsAncestorIn both a d
  in_above a d up = elim (or_cases (is_ancestor one.graph a d) (is_ancestor other.graph a d) up) [
    | inl here ↦ (one, Contains-head one (other ∷ []), here)
    | inr here ↦ (other, Contains-later one other (other ∷ []) (Contains-head other []), here)
  ]

  rates_kept : (id : ℕ) (b : Cluster) → Contains both b → Contains b.names id → rate_of now.graph id ≡ rate_of b.graph id
  rates_kept id b there held = elim (cases b there) [
    | inl same ↦
        let here : Contains one.names id = subst (λ (x : Cluster). Contains x.names id) (sym same) held in
        joins.first_rates id ((one_whole.members id).1 here) ∙ ap (λ (x : Cluster). rate_of x.graph id) same
    | inr same ↦
        let here : Contains other.names id = subst (λ (x : Cluster). Contains x.names id) (sym same) held in
        joins.second_rates id ((other_whole.members id).1 here) ∙ ap (λ (x : Cluster). rate_of x.graph id) same
  ]

  ends : (IsNamed both p) × (IsNamed both q) × ((c : Cluster) → Contains both c → Contains c.names p ⊎ Contains c.names q)
  ends = elim across [
    | inl at ↦ (
      in_one p at.0,
      in_other q at.1,
      λ c here. elim (cases c here) [
        | inl same ↦ inl (subst (λ (x : Cluster). Contains x.names p) same at.0)
        | inr same ↦ inr (subst (λ (x : Cluster). Contains x.names q) same at.1)
      ],
    )
    | inr at ↦ (
      in_other p at.0,
      in_one q at.1,
      λ c here. elim (cases c here) [
        | inl same ↦ inr (subst (λ (x : Cluster). Contains x.names q) same at.1)
        | inr same ↦ inl (subst (λ (x : Cluster). Contains x.names p) same at.0)
      ],
    )
  ]

  joined_ups : (a d : ℕ) → is_ancestor now.graph a d ≡ true → IsAncestorIn both a d ⊎ (IsAncestorIn both a p × IsAncestorIn both q d)
  joined_ups a d up =
      let f = one.graph in let g = other.graph in
      elim (or_cases (is_above f g a d) (is_above f g a p && is_above f g q d) (sym (joins.ancestors a d) ∙ up)) [
        | inl old ↦ inl (in_above a d old)
        | inr two ↦ let parts = and_parts (is_above f g a p) (is_above f g q d) two in inr (in_above a p parts.0, in_above q d parts.1)
      ]

  joined_downs : (a d : ℕ) → IsAncestorIn both a d ⊎ (IsAncestorIn both a p × IsAncestorIn both q d) → is_ancestor now.graph a d ≡ true
  joined_downs a d either =
      let f = one.graph in let g = other.graph in
      joins.ancestors a d ∙ elim either [
        | inl old ↦ or_left (is_above f g a d) (is_above f g a p && is_above f g q d) (above_in a d old)
        | inr two ↦
            or_right (is_above f g a d) (is_above f g a p && is_above f g q d)
            (and_from (is_above f g a p) (is_above f g q d) (above_in a p two.0) (above_in q d two.1))
      ]

  pub pair_between : AddsPairIn both (now ∷ []) p q
  pair_between = record {
    parent = ends.0;
    child = ends.1;
    each = ends.2;
    names = λ id. (
      λ named. elim (Contains-append_cases one.names other.names id (subst (λ (xs : List ℕ). Contains xs id) names (named_one now id named))) [
        | inl here ↦ in_one id here
        | inr here ↦ in_other id here
      ],
      λ named. one_named now id (subst (λ (xs : List ℕ). Contains xs id) (sym names) (elim (named_cases id named) [
        | inl here ↦ Contains-append_left one.names other.names id here
        | inr here ↦ Contains-append_right one.names other.names id here
      ])),
    );
    rates = λ c here id held b there in_b. ap (λ (x : Cluster). rate_of x.graph id) (sym (only now c here)) ∙ rates_kept id b there in_b;
    ancestors = λ a d. (λ up. joined_ups a d (above_one now a d up), λ either. one_above now a d (joined_downs a d either));
  }

-- ---- the change

pub pairs_top : (w : ℕ) (outs made : List ℕ) (number : Option ℕ) (p q : ℕ) (rest : List Cluster) (last : Option Cluster) (kept : ℕ) (old new : Shelf)
    → PairsIn w outs p q rest last kept old → IsMade w outs made number rest last [] old new → PairsTop w outs p q old new
pairs_top w outs made number p q rest last kept old new pairs is =
    let told = subst₂ (λ (cs : List Cluster) (o : Option Cluster). IsMade w outs made number cs o [] old new) pairs.none pairs.one is in
    let one = one_made w outs made number pairs.now [] old new told in record {
      made = one.0;
      olds = pairs.comes.olds;
      now = pairs.now;
      rebuilds = olds_are w outs (one.0 ∷ []) (pairs.now ∷ []) told.olds pairs.comes.olds [] old new pairs.comes.at one.1;
      pair = pairs.pair;
    }

-- ---- what may come in

pub pairs_in : (w : ℕ) (outs : List ℕ) (p q : ℕ) (olds : List Cluster) (now : Cluster) (rest : List Cluster) (last : Option Cluster) (kept : ℕ) (shelf : Shelf)
    → rest ≡ [] → last ≡ Some now → AreDistinct outs → AreAt (seen_at Top shelf.store.clusters) outs olds
    → Covers (64 * w) olds (now ∷ []) [] (numbers_at Top shelf) → IsFitted (64 * w) shelf.limits now → HasFront kept outs now.names (numbers_at Top shelf) → 1 ≤ kept
    → AddsPairIn olds (now ∷ []) p q → PairsIn w outs p q rest last kept shelf
pairs_in w outs p q olds now rest last kept shelf none one once at covers fitted front some pair = record {
  now = now;
  none = none;
  one = one;
  comes = record {
    olds = olds;
    once = once;
    lost = tt;
    at = at;
    covers = subst₂ (λ (cs : List Cluster) (o : Option Cluster). Covers (64 * w) olds (cs ++ option_to_list o) [] (numbers_at Top shelf)) (sym none) (sym one) covers;
    fitted = λ c here. all_one (IsFitted (64 * w) shelf.limits) now fitted c
        (subst₂ (λ (cs : List Cluster) (o : Option Cluster). Contains (cs ++ option_to_list o) c) none one here);
    known = λ id named. (pair.names id).0 (subst₂ (λ (cs : List Cluster) (o : Option Cluster). IsNamed (cs ++ option_to_list o) id) none one named);
    front = subst (λ (o : Option Cluster). IfSome o (λ c. HasFront kept outs c.names (numbers_at Top shelf))) (sym one) front;
    some = λ _. some;
  };
  pair = pair;
}

-- the first names of the cluster that comes in are those of the first that goes out
pub has_front : (first kept : ℕ) (others front back names : List ℕ) (numbers : Numbers) → names ≡ front ++ back → kept ≡ length front
    → ((id : ℕ) → Contains front id → finmap.get numbers id ≡ Some first) → HasFront kept (first ∷ others) names numbers
has_front first kept others front back names numbers is count have = record {
  low = omega (arith, count, ap length is, length-append front back);
  there = λ number i got below.
      let low : i < length front = omega (arith, below, count) in
      let at : slice_index names i ≡ get_or front i 0 = ap (λ (xs : List ℕ). get_or xs i 0) is ∙ get_or_append_left front back 0 i low in
      ap (finmap.get numbers) at ∙ have (get_or front i 0) (i, low, get_or_default front i (get_or front i 0) 0 low) ∙ ap Some (same_Some first number got);
}
