-- The records of the components of links.
use Rattle.std.proofs.Common.{◌≡◌, ◌≢◌, ℕ, ℤ, ◌+◌, ◌≤◌, true, List, [], ◌∷◌, length, map, Contains, inl, inr, refl, sym, ap, ◌∙◌, subst, arith}
use Rattle.std.specs.Prelude.{All}
use Rattle.std.specs.List.{AllPairs}
use Rattle.std.proofs.lemmas.Simd.{map-map}
use Rattle.std.proofs.lemmas.List.{length-map}
use Rattle.std.proofs.lemmas.List.Elements.{All-weaker, All-contains_itself}
use Rattle.arithmetic.proofs.Sums.{sum_by_along}
use Rattle.graphs.proofs.RenamingLemmas.{sum_by-map}
use Rattle.lists.proofs.Distinct.{distinct_within}
use Rattle.lists.proofs.Entries.{Contains-head, Contains-map, map-Contains, none_in_empty}
use Rattle.lists.proofs.Walks.{Walk-map}
use Rattle.fee_rate.specs.declared.limits.TheConstants.{MAX_TOTAL}
use Rattle.fee_rate.specs.declared.rates.FeeRate.{FeeRate}
use Rattle.fee_rate.specs.Limits.{IsRate}
use Rattle.graphs.specs.Certificates.{Txs}
use Rattle.graphs.specs.Closures.{is_member, is_ancestor, rate_of, Closure, IsRelated}
use Rattle.graph_model.specs.declared.names.Limits.{Limits}
use Rattle.cluster.specs.Clusters.{Cluster, AreApart}
use Rattle.cluster.specs.Changes.{AreComponents, AreNearLeft, IsLeft, IsSplit}
use Rattle.links.specs.Links.{Links, AreLinks, Has}
use Rattle.links.specs.Kept.{names_of}
use Rattle.links.specs.Closing.{closure}
use Rattle.links.specs.Laws.{FallsInto}
use Rattle.links.specs.Pairs.{AreSplit}
use Rattle.links.specs.Parts.{AreComponentsOf}
use Rattle.links.proofs.Changing.{has_member, has_above}
use Rattle.links.proofs.Closed.{orders, rates_are}
use Rattle.links.proofs.Splitting.{falls_into}
use Rattle.record.specs.Kept.{unordered}
use Rattle.record.specs.Leaving.{AreLike, IsOneComponent, bare, most_steps_of_links}
use Rattle.record.specs.Records.{IsConnected}
use Rattle.record.specs.Steps.{most_steps_fit, most_steps_fit_of, most_steps_within}
use Rattle.cluster.proofs.Bounds.{IsOneOf, are_components}
use Rattle.record.proofs.Pieces.{apart_lists, bounded, one_entry, pairs_back, pairs_map}

abbrev pub names_in : Links → List ℕ
names_in part = names_of part.txs

-- transactions have a name
some_name : (txs : Txs) → txs ≢ [] → (x : ℕ) × Contains (names_of txs) x
some_name [] none = absurd (none refl)
some_name (tx ∷ txs) some = (tx.0, Contains-head tx.0 (names_of txs))

some_long : (xs : List ℕ) (x : ℕ) → Contains xs x → 1 ≤ length xs
some_long xs x here = omega (arith, here.1)

module _ (old : Links) (parts : List Links) (are : AreLinks old) (each : (part : Links) → Contains parts part → AreLinks part)
    (comps : AreComponentsOf old parts) where
  abbrev falls : FallsInto old parts
  falls = falls_into old parts are each comps

  pub one_part : (p q : Links) (id : ℕ) → Contains parts p → Contains parts q → Has p id → Has q id → p ≡ q
  one_part p q id first second here there =
      one_entry (λ (x y : Links). AreSplit (names_in x) (names_in y)) parts comps.apart p q first second (λ split. split id here there)
      (λ split. split id there here)

  in_old : (part : Links) → Contains parts part → (id : ℕ) → Has part id → is_member (closure old) id ≡ true
  in_old part there id here = (falls.members id).1 (part, there, (has_member part id).1 here)

  left_is : (id : ℕ) → is_member (closure old) id ≡ true → IsLeft (closure old) [] id
  left_is id here = (here, none_in_empty id)

  above : (part : Links) → Contains parts part → (x y : ℕ) → is_ancestor (closure part) x y ≡ true → is_ancestor (closure old) x y ≡ true
  above part there x y up = (falls.ancestors x y).1 (part, there, up)

  near : (part : Links) → Contains parts part → (x y : ℕ) → IsRelated (closure part) x y → AreNearLeft (closure old) [] x y
  near part there x y (inl up) =
      let ends = (orders old are).among x y (above part there x y up) in (left_is x ends.0, left_is y ends.1, inl (above part there x y up))
  near part there x y (inr down) =
      let ends = (orders old are).among y x (above part there y x down) in (left_is x ends.1, left_is y ends.0, inr (above part there y x down))

  -- one above the other are in one part
  beside : (part : Links) → Contains parts part → (a b x y : ℕ) → Has part a → is_ancestor (closure old) x y ≡ true → (a ≡ x) × (b ≡ y) → Has part b
  beside part there a b x y here up (first, second) =
      let (other, among, own) = (falls.ancestors x y).0 up in
      let ends = (has_above other x y).0 own in
      let same : other ≡ part = one_part other part x among there ends.0 (subst (λ (z : ℕ). Has part z) first here) in
      subst (λ (l : Links). Has l b) same (subst (λ (z : ℕ). Has other z) (sym second) ends.1)

  beside_back : (part : Links) → Contains parts part → (a b : ℕ) → Has part a → is_ancestor (closure old) b a ≡ true → Has part b
  beside_back part there a b here up =
      let (other, among, own) = (falls.ancestors b a).0 up in
      let ends = (has_above other b a).0 own in
      subst (λ (l : Links). Has l b) (one_part other part a among there ends.1 here) ends.0

  pub one_of : (part : Links) → Contains parts part → IsOneOf (closure old) [] (names_in part)
  one_of part there = record {
    once = (each part there).graph_is.names;
    some = some_name part.txs (comps.filled part there);
    left = λ a here. left_is a (in_old part there a here);
    whole = λ a b here also.
        Walk-map (λ x. x) (IsRelated (closure part)) (AreNearLeft (closure old) []) (near part there) a b (falls.whole part there a b here also);
    alone = λ a b here (first, second, related). elim related [
      | inl up ↦ beside part there a b a b here up (refl, refl)
      | inr down ↦ beside_back part there a b here down
    ];
  }

  each_one : (m : List ℕ) → Contains (map names_in parts) m → IsOneOf (closure old) [] m
  each_one m here =
      let (part, there, is) = map-Contains names_in parts m here in subst (IsOneOf (closure old) []) is (one_of part there)

  apart_names : AllPairs AreSplit (map names_in parts)
  apart_names = pairs_map names_in AreSplit parts comps.apart

  pub fallen_components : AreComponents (closure old) [] (map names_in parts)
  fallen_components =
      are_components (closure old) [] (map names_in parts) (apart_lists (map names_in parts) apart_names) each_one
      (λ id left.
      let (part, there, here) = (falls.members id).0 left.0 in (names_in part, Contains-map names_in parts part there, (has_member part id).0 here))

  -- what is a component of links is connected
  pub part_connected : (part : Links) → Contains parts part → IsConnected (unordered part)
  part_connected part there =
      let some = some_name part.txs (comps.filled part there) in record {
        some = some_long (names_in part) some.0 some.1;
        once = (each part there).graph_is.names;
        members = λ id. has_member part id;
        order = orders part (each part there);
        whole = λ a b here also. falls.whole part there a b ((has_member part a).0 here) ((has_member part b).0 also);
        rates = λ id here.
            let (tx, inside, is) = map-Contains (λ (t : ℕ × ℤ × ℕ). t.0) part.txs id ((has_member part id).0 here) in
            let range = (each part there).in_range tx.0 tx.1 tx.2 inside in
            subst (λ (x : ℕ). IsRate (rate_of (closure part) x)) is
            (subst (λ (r : FeeRate). IsRate r) (sym (rates_are part (each part there) tx.0 tx.1 tx.2 inside))
            (record { fee = range.0; some = range.1.0; size = range.1.1 }));
      }

  pub parts_fine : length old.txs ≤ MAX_TOTAL → All IsOneComponent parts
  parts_fine few =
      All-weaker (Contains parts) IsOneComponent (λ part there. record {
        connected = part_connected part there;
        total =
            let within = (distinct_within (λ (x : ℕ). x) (names_in part) (names_in old) (each part there).graph_is.names
            (λ id here. (has_member old id).0 (in_old part there id here))).0 in
            let own : length (names_in part) ≡ length part.txs = length-map part.txs (λ (tx : ℕ × ℤ × ℕ). tx.0) in
            let all : length (names_in old) ≡ length old.txs = length-map old.txs (λ (tx : ℕ × ℤ × ℕ). tx.0) in
            omega (arith, within, own, all, few);
      }) parts (All-contains_itself parts)

  -- the sizes in the part are those in the whole
  part_cost : (limits : Limits) (part : Links) → Contains parts part
      → most_steps_fit limits (closure part) (names_in part) ≡ most_steps_fit limits (closure old) (names_in part)
  part_cost limits part there =
      ap (λ (size : ℕ). most_steps_within limits (length (names_in part)) size)
      (sum_by_along (λ id. (rate_of (closure part) id).size) (λ id. (rate_of (closure old) id).size) (names_in part)
      (λ id here. ap (λ (r : FeeRate). r.size) (falls.rates part there id here)))

  all_costs : (limits : Limits) → most_steps_of_links limits parts ≡ most_steps_fit_of limits (closure old) (map names_in parts)
  all_costs limits =
      sum_by_along (λ part. most_steps_fit limits (closure part) (names_in part)) (λ part. most_steps_fit limits (closure old) (names_in part)) parts
      (λ part there. part_cost limits part there)
      ∙ sym (sum_by-map names_in (λ ids. most_steps_fit limits (closure old) ids) (λ part. most_steps_fit limits (closure old) (names_in part)) parts
      (λ part there. refl))

  pub fallen_steps : (limits : Limits) (before after : ℕ) → after ≤ before + most_steps_of_links limits parts → (lists : List (List ℕ))
      → AreComponents (closure old) [] lists → after ≤ before + most_steps_fit_of limits (closure old) lists
  fallen_steps limits before after few lists all =
      let most = bounded limits (closure old) [] (map names_in parts) lists (apart_lists (map names_in parts) apart_names) each_one all in
      let same = all_costs limits in omega (arith, few, most, same)

  -- ---- records of the parts

  module _ (records : List Cluster) (like : AreLike records parts) where
    part_for : (c : Cluster) → Contains records c → (part : Links) × Contains parts part × (unordered part ≡ bare c)
    part_for c here = map-Contains unordered parts (bare c) (subst (λ (cs : List Cluster). Contains cs (bare c)) like (Contains-map bare records c here))

    record_for : (part : Links) → Contains parts part → (c : Cluster) × Contains records c × (bare c ≡ unordered part)
    record_for part there =
        map-Contains bare records (unordered part)
        (subst (λ (cs : List Cluster). Contains cs (unordered part)) (sym like) (Contains-map unordered parts part there))

    names_are : map (λ (c : Cluster). c.names) records ≡ map names_in parts
    names_are =
        sym (map-map (λ (c : Cluster). c.names) bare records) ∙ ap (λ (cs : List Cluster). map (λ (c : Cluster). c.names) cs) like
        ∙ map-map (λ (c : Cluster). c.names) unordered parts

    pub like_components : AreComponents (closure old) [] (map (λ c. c.names) records)
    like_components = subst (λ (lists : List (List ℕ)). AreComponents (closure old) [] lists) (sym names_are) fallen_components

    has_in : (c : Cluster) (part : Links) → unordered part ≡ bare c → (id : ℕ) → Contains c.names id → Has part id
    has_in c part is id here = subst (λ (xs : List ℕ). Contains xs id) (sym (ap (λ (x : Cluster). x.names) is)) here

    pub like_split : IsSplit (closure old) [] records
    like_split = record {
      ancestors = λ a d. (
        (λ (c, here, up).
            let (part, there, is) = part_for c here in (
              none_in_empty a,
              none_in_empty d,
              above part there a d (subst (λ (g : Closure). is_ancestor g a d ≡ true) (sym (ap (λ (x : Cluster). x.graph) is)) up),
            )),
        (λ (first, second, up).
            let (part, there, own) = (falls.ancestors a d).0 up in
            let (c, here, is) = record_for part there in
            (c, here, subst (λ (g : Closure). is_ancestor g a d ≡ true) (sym (ap (λ (x : Cluster). x.graph) is)) own)),
      );
      rates = λ c here id inside.
          let (part, there, is) = part_for c here in
          sym (ap (λ (x : Cluster). rate_of x.graph id) is) ∙ falls.rates part there id (has_in c part is id inside);
      apart =
          pairs_back bare AreApart records
          (subst (λ (cs : List Cluster). AllPairs AreApart cs) (sym like) (pairs_map unordered AreApart parts comps.apart));
      filled = λ c here none.
          let (part, there, is) = part_for c here in
          let some = some_name part.txs (comps.filled part there) in
          none_in_empty some.0 (subst (λ (xs : List ℕ). Contains xs some.0) (ap (λ (x : Cluster). x.names) is ∙ none) some.1);
    }
