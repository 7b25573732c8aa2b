-- What is dropped of the components over the limits, together and in rising order, is what trimming drops of the level.
use Rattle.std.proofs.Common.{◌≡◌, ◌↔◌, ℕ, ◌+◌, true, eqb, eq-eqb, ℤ, List, [], ◌∷◌, ◌++◌, map, flat_map, inl, inr, refl, sym, ap, ◌∙◌, subst}
use Rattle.std.specs.Prelude.{Contains, nat_eq}
use Rattle.std.specs.Cmp.{nat_eq_equiv}
use Rattle.std.specs.List.{IsDistinct}
use Rattle.std.specs.List.Sorted.{IsPermutation, IsNonDecreasing, IsStrictlyIncreasing}
use Rattle.std.proofs.lemmas.Bool.{cases_eq, cond-true, cond-false, ne_eqb}
use Rattle.std.proofs.lemmas.List.Sorted.{Contains-permutation, IsPermutation-sym}
use Rattle.std.proofs.lemmas.Map.Keys.{IsDistinct-from_apart, IsDistinct-IsPermutation, IsStrictlyIncreasing-from_distinct}
use Rattle.lists.specs.Distinct.{AreDistinct}
use Rattle.lists.proofs.Distinct.{distinct-append_right, distinct_apart, distinct_joined, places_apart}
use Rattle.lists.proofs.Entries.{Contains-head, Contains-later, Contains-cases, map-Contains, Contains-map, none_in_empty}
use Rattle.lists.proofs.Flats.{flat_has, flat_of}
use Rattle.fee_rate.specs.declared.rates.Sum.{Sum}
use Rattle.fee_rate.specs.Rates.{sum_from}
use Rattle.graphs.specs.Certificates.{Txs, rate_in}
use Rattle.graphs.specs.Closures.{is_member, is_ancestor, rate_of}
use Rattle.graphs.specs.declared.names.Level.TheVariants.{Top}
use Rattle.graphs.specs.Graphs.{Graph}
use Rattle.graph_model.specs.Limits.{Bounds, AreOver, bounds_of}
use Rattle.graph_model.specs.Oversize as model
use Rattle.graph_model.specs.States.{State, level_of}
use Rattle.graph_model.specs.States as states
use Rattle.graph_model.specs.Trims.{IsTrimmed}
use Rattle.graph_model.proofs.TrimLemmas.{rising_once}
use Rattle.graph_model.proofs.TrimmedLemmas.{trimmed_some}
use Rattle.links.specs.Kept.{names_of}
use Rattle.links.specs.Links.{Links}
use Rattle.links.specs.Links as links
use Rattle.levels.specs.Levels.{OneLevel, level_at}
use Rattle.levels.specs.Oversize.{AreOfOneComponent}
use Rattle.levels.specs.Overs.{IsLinksOf, AreOvers}
use Rattle.tx_graph.specs.Kept.{Kept, StandsFor}
use Rattle.tx_graph.proofs.Standing.{connected-linked, order_kept, told}
use Rattle.trim.specs.Parts.{HasComponentsOf}
use Rattle.trim.specs.Trimmed.{AreTrimmed}
use Rattle.trim.proofs.ByComponents.{over_same}
use Rattle.trim.proofs.Standing.{of_top, rate_at, has_sizes}
use Rattle.trim.proofs.TrimLaw.{goes_by_components}

-- ---- lists

-- numbers that stand once, and don't fall in another order, rise in that order
rising_sorted : (xs ys : List ℕ) → AreDistinct xs → IsPermutation xs ys → IsNonDecreasing ys → IsStrictlyIncreasing ys
rising_sorted xs ys once moved rising =
    let apart : IsDistinct nat_eq xs =
    IsDistinct-from_apart nat_eq xs (λ i j d before below. ne_eqb _ _ (places_apart xs i j d once before below)) in
    IsStrictlyIncreasing-from_distinct ys rising (IsDistinct-IsPermutation nat_eq nat_eq_equiv.symm xs ys moved apart)

abbrev Parts : Type 0
Parts = List (Links × List ℕ)

abbrev part_names : Links × List ℕ → List ℕ
part_names part = names_of part.0.txs

names_flat : (parts : Parts) → flat_map (λ (l : Links). names_of l.txs) (map (λ (part : Links × List ℕ). part.0) parts) ≡ flat_map part_names parts
names_flat [] = refl
names_flat (part ∷ parts) = ap (λ xs. part_names part ++ xs) (names_flat parts)

-- lists of names of lists that are apart are apart too
parts_once : (parts : Parts) → ((part : Links × List ℕ) → Contains parts part → AreDistinct part.1 × ((id : ℕ) → Contains part.1 id → Contains (part_names part) id))
    → AreDistinct (flat_map part_names parts) → AreDistinct (flat_map (λ (part : Links × List ℕ). part.1) parts)
parts_once [] each once = tt
parts_once (part ∷ parts) each once =
    let first = each part (Contains-head part parts) in
    let rest = λ (p : Links × List ℕ) (h : Contains parts p). each p (Contains-later part p parts h) in
    distinct_joined part.1 (flat_map (λ (p : Links × List ℕ). p.1) parts) first.0
    (parts_once parts rest (distinct-append_right (part_names part) (flat_map part_names parts) once))
    (λ id here there.
    let found = flat_of (λ (p : Links × List ℕ). p.1) parts id there in
    distinct_apart (part_names part) (flat_map part_names parts) id once (first.1 id here)
    (flat_has part_names parts found.0 id found.1 ((rest found.0 found.1).1 id found.2)))

-- the rate of a name is that of a transaction
rate_listed : (txs : Txs) (id : ℕ) → Contains (names_of txs) id → (fee : ℤ) × (size : ℕ) × Contains txs (id, fee, size) × (rate_in txs id ≡ record { fee = fee; size = size })
rate_listed [] id here = absurd (none_in_empty id here)
rate_listed (tx ∷ txs) id here = elim (cases_eq tx.0 id) [
  | inl same ↦ (
    tx.1,
    tx.2,
    subst (Contains (tx ∷ txs)) (let is : ◌≡◌ {A = ℕ × ℤ × ℕ} tx (id, tx.1, tx.2) = λ i. (same i, tx.1, tx.2) in is) (Contains-head tx txs),
    cond-true (eqb tx.0 id) record { fee = tx.1; size = tx.2 } (rate_in txs id) (eq-eqb tx.0 id same),
  )
  | inr other ↦
      let later : Contains (names_of txs) id = elim (Contains-cases tx.0 id (names_of txs) here) [ inl same ↦ absurd (other same) | inr later ↦ later ] in
      let found = rate_listed txs id later in (
        found.0,
        found.1,
        Contains-later tx (id, found.0, found.1) txs found.2,
        cond-false (eqb tx.0 id) record { fee = tx.1; size = tx.2 } (rate_in txs id) (ne_eqb tx.0 id other) ∙ found.3,
      )
]

module _ (kept : Kept) (state : State) (stands : StandsFor kept state) where
  abbrev top : OneLevel
  top = level_at kept.levels Top

  abbrev graph : Graph
  graph = level_of state.plain Top

  abbrev rate : ℕ → Sum
  rate = states.rate_of state.plain.table

  -- ---- links of one component

  module _ (l : Links) (is : IsLinksOf top.graph l) where
    links_member : (id : ℕ) → Contains (names_of l.txs) id → is_member top.graph id ≡ true
    links_member = is.component.members

    links_part : HasComponentsOf graph (links.graph l)
    links_part =
        let of = of_top kept state stands in
        let order = order_kept top graph of in
        record {
          names = λ id here. (of.closure.names id).1 (links_member id here);
          closed = λ a b here joined. is.component.alone a b here ((connected-linked top graph of a b).0 joined);
          ancestors = λ a d here. (
            λ up. (told top graph of a d).1 (inr ((is.ancestors a d here).0 up)),
            λ up. (is.ancestors a d here).1 (elim ((told top graph of a d).0 up) [
              | inl same ↦ subst (λ (q : ℕ). is_ancestor top.graph q d ≡ true) (sym same) (order.reflexive d (links_member d here))
              | inr above ↦ above
            ]),
          );
        }

    links_rate : (id : ℕ) → Contains (names_of l.txs) id → rate_in l.txs id ≡ rate id
    links_rate id here =
        let found = rate_listed l.txs id here in
        found.3 ∙ sym (ap sum_from (is.rates id found.0 found.1 found.2)) ∙ sym (rate_at kept state stands id (links_member id here))

    -- what is dropped of them is what is dropped of the level, as far as it is theirs
    links_alike : (all some : List ℕ) → IsTrimmed state.plain.limits rate graph all
        → IsTrimmed (bounds_of kept.levels.limits) (rate_in l.txs) (links.graph l) some → (id : ℕ) → Contains some id ↔ (Contains (names_of l.txs) id × Contains all id)
    links_alike all some trimmed own =
        goes_by_components.same state.plain.limits rate (rate_in l.txs) graph (links.graph l) all some (of_top kept state stands).valid is.whole.graph_is
        links_part links_rate trimmed
        (subst (λ (bounds : Bounds). IsTrimmed bounds (rate_in l.txs) (links.graph l) some) (sym stands.plain.limits) own)

  -- ---- a component of the graph over the limits is one of the level

  over_here : (ids : List ℕ) → model.AreOfOneComponent graph ids → AreOver state.plain.limits (λ q. (rate q).size) ids
      → AreOfOneComponent top.graph ids × AreOver (bounds_of kept.levels.limits) (λ id. (rate_of top.graph id).size) ids
  over_here ids one over =
      let of = of_top kept state stands in
      let inside : (id : ℕ) → Contains ids id → is_member top.graph id ≡ true = λ id here. (of.closure.names id).0 (one.inside id here) in (
        record { once = one.once; inside = inside; together = λ a b here there. (connected-linked top graph of a b).0 (one.together a b here there) },
        subst (λ (bounds : Bounds). AreOver bounds (λ id. (rate_of top.graph id).size) ids) stands.plain.limits
            (over_same state.plain.limits (λ id. sum_from (rate_of top.graph id)) rate ids (λ id here. rate_at kept state stands id (inside id here)) over),
      )

  module _ (overs : List Links) (ids : List ℕ) (are : AreOvers kept.levels.limits top.graph overs)
      (trimmed : AreTrimmed (bounds_of kept.levels.limits) overs ids) (all : List ℕ) (of_all : IsTrimmed state.plain.limits rate graph all) where
    part_is : (part : Links × List ℕ) → Contains trimmed.parts part → IsLinksOf top.graph part.0
    part_is part here =
        are.links part.0 (subst (λ ls. Contains ls part.0) trimmed.links (Contains-map (λ (p : Links × List ℕ). p.0) trimmed.parts part here))

    part_alike : (part : Links × List ℕ) → Contains trimmed.parts part → (id : ℕ) → Contains part.1 id ↔ (Contains (part_names part) id × Contains all id)
    part_alike part here = links_alike part.0 (part_is part here) all part.1 of_all (trimmed.trimmed part here)

    gathered_once : AreDistinct ids
    gathered_once =
        subst AreDistinct (sym trimmed.together)
        (parts_once trimmed.parts
        (λ part here. (rising_once part.1 (trimmed.trimmed part here).rest.rising, λ id there. ((part_alike part here id).0 there).0))
        (subst AreDistinct (ap (flat_map (λ (l : Links). names_of l.txs)) (sym trimmed.links) ∙ names_flat trimmed.parts) are.once))

    gathered_exact : (id : ℕ) → Contains ids id ↔ Contains all id
    gathered_exact id = (
      λ here.
          let found = flat_of (λ (p : Links × List ℕ). p.1) trimmed.parts id (subst (λ xs. Contains xs id) trimmed.together here) in
          ((part_alike found.0 found.1 id).0 found.2).1,
      λ here.
          let large = goes_by_components.over state.plain.limits rate graph all (of_top kept state stands).valid of_all id here in
          let level = over_here large.0 large.1 large.2 in
          let found = are.all large.0 level.0 level.1 in
          let part = map-Contains (λ (p : Links × List ℕ). p.0) trimmed.parts found.0 (subst (λ ls. Contains ls found.0) (sym trimmed.links) found.1) in
          let named : Contains (part_names part.0) id = subst (λ (l : Links). Contains (names_of l.txs) id) (sym part.2) (found.2 id large.3) in
          subst (λ xs. Contains xs id) (sym trimmed.together)
          (flat_has (λ (p : Links × List ℕ). p.1) trimmed.parts part.0 id part.1 ((part_alike part.0 part.1 id).1 (named, here))),
    )

    sorted_trimmed : (sorted : List ℕ) → IsPermutation ids sorted → IsNonDecreasing sorted → IsTrimmed state.plain.limits rate graph sorted
    sorted_trimmed sorted moved rising = record {
      marked = of_all.marked;
      marks = of_all.marks;
      rest = record {
        rising = rising_sorted ids sorted gathered_once moved rising;
        exact = λ id. (
          λ here. (of_all.rest.exact id).0 ((gathered_exact id).0 (Contains-permutation sorted ids id (IsPermutation-sym ids sorted moved) here)),
          λ is. Contains-permutation ids sorted id moved ((gathered_exact id).1 ((of_all.rest.exact id).1 is)),
        );
      };
    }

  pub trimmed_together : (overs : List Links) (ids sorted : List ℕ) → AreOvers kept.levels.limits top.graph overs
      → AreTrimmed (bounds_of kept.levels.limits) overs ids → IsPermutation ids sorted → IsNonDecreasing sorted
      → IsTrimmed state.plain.limits rate graph sorted
  trimmed_together overs ids sorted are trimmed moved rising =
      let all = trimmed_some state.plain.limits rate graph (has_sizes kept state stands) in
      sorted_trimmed overs ids are trimmed all.0 all.1 sorted moved rising
