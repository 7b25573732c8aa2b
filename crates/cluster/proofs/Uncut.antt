-- Parts that can't be cut further by places can't be by their names.
use Rattle.std.proofs.Common.{◌≡◌, ◌≢◌, ℕ, ◌<◌, List, [], ◌∷◌, length, map, slice_index, Contains, refl, sym, ap, ◌∙◌, subst, subst₂}
use Rattle.lists.proofs.Distinct.{distinct_map}
use Rattle.lists.proofs.Entries.{map-Contains, Contains-map, not_empty}
use Rattle.lists.proofs.Flats.{flat_has}
use Rattle.dep_graph.specs.Numbers.{number_in}
use Rattle.fee_rate.specs.Rates.{Same}
use Rattle.fee_rate.specs.declared.rates.Sum.{Sum}
use Rattle.graphs.specs.Graphs.{Graph}
use Rattle.graphs.specs.Rates.{sums}
use Rattle.graphs.specs.Linearizations.{IsClosedWithin}
use Rattle.graphs.specs.Certificates.{Part}
use Rattle.graphs.specs.Closures.{Closure}
use Rattle.graphs.specs.Closing.{IsClosureOf, renamed}
use Rattle.graphs.proofs.RenamingLemmas.{sum_by-map, total-map}
use Rattle.linearize.specs.Graphs as linear
use Rattle.graphs.specs.Minimal.{IsMinimal, AreMinimal}
use Rattle.cluster.specs.Clusters.{sum_at}
use Rattle.cluster.specs.Named.{named, IsNamed}
use Rattle.cluster.specs.Orders.{AreRead, IsReadPart, IsPlaced}
use Rattle.cluster.proofs.Following.{matched}
use Rattle.cluster.proofs.Picking.{place_of_name, at_place, is_renamed, named_sum}

pub sums_mapped : (h : ℕ → ℕ) (rate rate' : ℕ → Sum) (xs : List ℕ) → ((x : ℕ) → Contains xs x → rate' (h x) ≡ rate x) → sums rate' (map h xs) ≡ sums rate xs
sums_mapped h rate rate' xs same =
    let fee = total-map h (λ x. (rate' x).fee) (λ x. (rate x).fee) xs (λ x here. ap (λ (s : Sum). s.fee) (same x here)) in
    let size = sum_by-map h (λ x. (rate' x).size) (λ x. (rate x).size) xs (λ x here. ap (λ (s : Sum). s.size) (same x here)) in
    λ t. record { fee = fee t; size = size t }

module _ (n : ℕ) (names : List ℕ) (g : Closure) (kept : IsNamed n names g) (graph : Graph) (closes : IsClosureOf (named names g) graph) where
  abbrev place : ℕ → ℕ
  place id = number_in names id

  abbrev by_places : Graph
  by_places = renamed place graph

  module _ (p q : Part) (order : List ℕ) (read : IsReadPart (slice_index names) order p q)
      (low : (x : ℕ) → Contains p.ids x → x < length names) (known : (id : ℕ) → Contains q.ids id → Contains graph.names id) where
    -- a name of the part has a place of it
    place_there : (id : ℕ) → Contains q.ids id → Contains p.ids (place id)
    place_there id here =
        let at = map-Contains (slice_index names) p.ids id (subst (λ (xs : List ℕ). Contains xs id) read.ids_are here) in
        subst (Contains p.ids) (sym (place_of_name n names g kept graph closes at.0 (low at.0 at.1)) ∙ ap place at.2) at.1

    name_there : (x : ℕ) → Contains p.ids x → Contains q.ids (slice_index names x)
    name_there x here = subst (λ (xs : List ℕ). Contains xs (slice_index names x)) (sym read.ids_are) (Contains-map (slice_index names) p.ids x here)

    back : (id : ℕ) → Contains q.ids id → slice_index names (place id) ≡ id
    back id here = (at_place n names g kept graph closes id (known id here)).1

    rate_at : (id : ℕ) → Contains q.ids id → linear.sum_at g (place id) ≡ sum_at (named names g) id
    rate_at id here =
        let at = at_place n names g kept graph closes id (known id here) in
        sym (named_sum n names g kept (place id) at.0) ∙ ap (sum_at (named names g)) at.1

    same_sums : sums (sum_at (named names g)) q.ids ≡ sums (linear.sum_at g) p.ids
    same_sums = ap (sums (sum_at (named names g))) read.ids_are
        ∙ sums_mapped (slice_index names) (linear.sum_at g) (sum_at (named names g)) p.ids (λ x here. named_sum n names g kept x (low x here))

    module _ (set : List ℕ) (closed : IsClosedWithin graph.pairs q.ids set) where
      injective : (a b : ℕ) → Contains set a → Contains set b → place a ≡ place b → a ≡ b
      injective a b here there same = sym (back a (closed.inside a here)) ∙ ap (slice_index names) same ∙ back b (closed.inside b there)

      closed_places : IsClosedWithin by_places.pairs p.ids (map place set)
      closed_places = record {
        once = distinct_map place set closed.once injective;
        inside = λ x here. (let at = map-Contains place set x here in subst (Contains p.ids) at.2 (place_there at.0 (closed.inside at.0 at.1)));
        parents = λ a b pair in_part here.
            (let old = ((is_renamed n names g kept graph closes).pairs a b).0 pair in
            let at = map-Contains place set b here in
            let ends = closes.ends old.0 old.1 old.2 in
            let child : old.1 ≡ at.0 =
            sym (at_place n names g kept graph closes old.1 ((closes.names old.1).1 ends.1)).1
            ∙ ap (slice_index names) (old.4 ∙ sym at.2) ∙ back at.0 (closed.inside at.0 at.1) in
            let parent : slice_index names a ≡ old.0 =
            ap (slice_index names) (sym old.3) ∙ (at_place n names g kept graph closes old.0 ((closes.names old.0).1 ends.0)).1 in
            let within : Contains q.ids old.0 = subst (Contains q.ids) parent (name_there a in_part) in
            let held : Contains set old.0 = closed.parents old.0 old.1 old.2 within (subst (Contains set) (sym child) at.1) in
            subst (Contains (map place set)) old.3 (Contains-map place set old.0 held));
      }

      set_sums : sums (linear.sum_at g) (map place set) ≡ sums (sum_at (named names g)) set
      set_sums = sums_mapped place (sum_at (named names g)) (linear.sum_at g) set (λ id here. rate_at id (closed.inside id here))

    pub uncut_part : IsMinimal (linear.sum_at g) by_places.pairs p.ids → IsMinimal (sum_at (named names g)) graph.pairs q.ids
    uncut_part minimal = λ set closed some same id here.
        (let all = minimal (map place set) (closed_places set closed) (some_places set some)
        (subst₂ Same (sym (set_sums set closed)) same_sums same) (place id) (place_there id here) in
        let at = map-Contains place set (place id) all in
        subst (Contains set) (sym (back at.0 (closed.inside at.0 at.1)) ∙ ap (slice_index names) at.2 ∙ back id here) at.1)
      where
        some_places : (set : List ℕ) → set ≢ [] → map place set ≢ []
        some_places [] some empty = some refl
        some_places (x ∷ set) some empty = not_empty empty

  pub uncut_read : (ps qs : List Part) (order : List ℕ) → IsPlaced (length names) ps
      → AreRead (slice_index names) order ps qs → AreMinimal (linear.sum_at g) by_places.pairs ps
      → ((q : Part) → Contains qs q → (id : ℕ) → Contains q.ids id → Contains graph.names id) → AreMinimal (sum_at (named names g)) graph.pairs qs
  uncut_read ps qs order placed read minimal known q here =
      let at = matched (slice_index names) order ps qs read q here in
      uncut_part at.0 q order at.2 (λ x there. placed.below x (flat_has (λ (p : Part). p.ids) ps at.0 x at.1 there)) (known q here) (minimal at.0 at.1)
