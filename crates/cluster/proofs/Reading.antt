-- An order of places, read part by part.
use Rattle.std.proofs.Common.{◌≡◌, ℕ, zero, suc, ◌+◌, ◌-◌, ◌<◌, ◌≤◌, List, [], ◌∷◌, ◌++◌, length, map, take, drop, get_or, slice_index, slice_index_or, Contains, inl, inr, refl, sym, ap, ap₂, ◌∙◌, subst, subst₂, arith, length-append, append-nil}
use Rattle.std.proofs.lemmas.List.{map-append, length-map, get_or-map, take_more, take-map, drop-map, map_push, get_or_default, take_all, get_or_append_left, get_or-append_right}
use Rattle.std.proofs.lemmas.Bool.{cases_order}
use Rattle.std.proofs.lemmas.List.Elements.{Contains-get_or}
use Rattle.std.proofs.lemmas.List.Concat.{flat_map-append}
use Rattle.std.proofs.lemmas.List.Sorted.{IsPermutation-map, IsPermutation-sym, Contains-permutation}
use Rattle.std.specs.List.{AllZip}
use Rattle.std.specs.Prelude.{Option, None, Some}
use Rattle.std.specs.List.Sorted.{IsPermutation}
use Rattle.std.proofs.lemmas.Simd.{map-map}
use Rattle.lists.proofs.Entries.{map_along, map-Contains, Contains-map}
use Rattle.lists.proofs.Flats.{flat_has}
use Rattle.graphs.specs.declared.names.Flow.{Flow}
use Rattle.graphs.specs.Certificates.{Part}
use Rattle.fee_rate.specs.declared.rates.Sum.{Sum}
use Rattle.linearize.specs.declared.draft.LinearPart.{LinearPart}
use Rattle.linearize.specs.declared.draft.PlaceFlow.{PlaceFlow}
use Rattle.linearize.specs.declared.old.OldPart.{OldPart}
use Rattle.linearize.specs.Drafts.{AreShown, placed, flows_in, named, totals}
use Rattle.linearize.specs.Graphs.{sum_from}
use Rattle.cluster.specs.declared.order.PartEnd.{PartEnd}
use Rattle.cluster.specs.Kept.{end_of, sum_in}
use Rattle.cluster.specs.Orders.{at_positions, named_at, no_part, own_flows, renamed_flow, AreBelow, AddsFlows, AddsPart, AreRead, IsPlaced, IsReadFrom, IsReadOf, IsReadPart, StandAt}
use Rattle.cluster.proofs.Cuts.{reach, reach_more, reach_within, segment, at_reach, ended}

-- ---- one part

module _ (names positions : List ℕ) (qs : List Part) (n : ℕ) (is_placed : IsPlaced n qs) (stand : StandAt (placed qs) positions) where
  abbrev order : List ℕ
  order = map (slice_index names) (placed qs)

  long : length order ≡ length (placed qs)
  long = length-map (placed qs) (slice_index names)

  -- a place of the order by its position
  found : (p : ℕ) → Contains (placed qs) p → (slice_index positions p < length order) × (slice_index order (slice_index positions p) ≡ slice_index names p)
  found p here =
      let at : slice_index (placed qs) here.0 ≡ p = get_or_default (placed qs) here.0 0 p here.1 ∙ here.2 in
      let position : slice_index positions p ≡ here.0 = ap (slice_index positions) (sym at) ∙ stand here.0 here.1 in (
        subst (λ m. m < length order) (sym position)
            (let low : here.0 < length (placed qs) = here.1 in let l : length order ≡ length (placed qs) = long in omega arith),
        ap (slice_index order) position ∙ get_or-map (slice_index names) (placed qs) here.0 0 0 here.1 ∙ ap (slice_index names) at,
      )

  module _ (own : List PlaceFlow) (part : Part) (there : Contains qs part) (are : map named own ≡ part.flows) where
    ends_in : (flow : PlaceFlow) → Contains own flow → Contains (placed qs) flow.child × Contains (placed qs) flow.parent
    ends_in flow here =
        let both = is_placed.inside part there (named flow) (subst (λ (fs : List Flow). Contains fs (named flow)) are (Contains-map named own flow here)) in
        (flat_has (λ (part : Part). part.ids) qs part flow.child there both.0, flat_has (λ (part : Part). part.ids) qs part flow.parent there both.1)

    pub own_below : n ≤ length positions → AreBelow (length positions) own
    own_below room flow here =
        let both = ends_in flow here in
        let first : flow.child < n = is_placed.below flow.child both.0 in
        let second : flow.parent < n = is_placed.below flow.parent both.1 in (omega arith, omega arith)

    pub moved_below : AreBelow (length order) (map (at_positions positions) own)
    moved_below flow here =
        let at = map-Contains (at_positions positions) own flow here in
        let both = ends_in at.0 at.1 in (
          subst (λ (f : PlaceFlow). f.child < length order) at.2 (found at.0.child both.0).0,
          subst (λ (f : PlaceFlow). f.parent < length order) at.2 (found at.0.parent both.1).0,
        )

    one_named : (flow : PlaceFlow) → Contains own flow → named_at order (at_positions positions flow) ≡ renamed_flow (slice_index names) (named flow)
    one_named flow here =
        let both = ends_in flow here in
        let child = (found flow.child both.0).1 in
        let parent = (found flow.parent both.1).1 in
        λ t. record { child = child t; parent = parent t; amount = flow.amount }

    pub all_named : map (named_at order) (map (at_positions positions) own) ≡ map (renamed_flow (slice_index names)) part.flows
    all_named =
        map-map (named_at order) (at_positions positions) own
        ∙ map_along (λ flow. named_at order (at_positions positions flow)) (λ flow. renamed_flow (slice_index names) (named flow)) own one_named
        ∙ sym (map-map (renamed_flow (slice_index names)) named own) ∙ ap (map (renamed_flow (slice_index names))) are

  -- the k-th part was read
  module _ (own : List PlaceFlow) (k : ℕ) (low : k < length qs) (are : map named own ≡ (get_or qs k no_part).flows)
      (old new : List Flow) (adds : AddsFlows own positions order old new) where
    abbrev part : Part
    part = get_or qs k no_part

    abbrev read : Part
    read = record { rate = part.rate; ids = map (slice_index names) part.ids; flows = map (named_at order) adds.moved }

    there : Contains qs part
    there = Contains-get_or qs k no_part low

    below : AreBelow (length order) adds.moved
    below flow here = moved_below own part there are flow (Contains-permutation adds.moved
        (map (at_positions positions) own) flow (IsPermutation-sym (map (at_positions positions) own) adds.moved adds.same) here)

    stands_there : (i : ℕ) → i < length read.ids
        → (reach (λ (q : Part). q.ids) qs k + i < length order) × (slice_index order (reach (λ (q : Part). q.ids) qs k + i) ≡ slice_index read.ids i)
    stands_there i inside =
        let within : i < length part.ids = subst (λ m. i < m) (length-map part.ids (slice_index names)) inside in
        let more : reach (λ (q : Part). q.ids) qs (k + 1) ≡ reach (λ (q : Part). q.ids) qs k + length part.ids =
        reach_more (λ (q : Part). q.ids) qs k no_part low in
        let most : reach (λ (q : Part). q.ids) qs (k + 1) ≤ length (placed qs) = reach_within (λ (q : Part). q.ids) qs (k + 1) in
        let inner : reach (λ (q : Part). q.ids) qs k + i < length (placed qs) = omega arith in (
          (let l : length order ≡ length (placed qs) = long in omega arith),
          get_or-map (slice_index names) (placed qs) (reach (λ (q : Part). q.ids) qs k + i) 0 0 inner
              ∙ ap (slice_index names) (at_reach (λ (q : Part). q.ids) qs k i no_part 0 low within)
              ∙ sym (get_or-map (slice_index names) part.ids i 0 0 within),
        )

    pub read_part : IsReadPart (slice_index names) order part read
    read_part = record {
      rate_is = refl;
      ids_are = refl;
      in_order = inl (record {
        start = reach (λ (q : Part). q.ids) qs k;
        there = stands_there;
        moved = adds.moved;
        below = below;
        rises = adds.rises;
        flows_are = refl;
      });
      same = subst (λ (fs : List Flow). IsPermutation fs (map (named_at order) adds.moved)) (all_named own part there are)
          (IsPermutation-map (named_at order) (map (at_positions positions) own) adds.moved adds.same);
    }

-- ---- parts that were read

pub rates_read : (names whole : List ℕ) (ps qs : List Part) → AreRead (slice_index names) whole ps qs → map (λ part. part.rate) qs ≡ map (λ part. part.rate) ps
rates_read names whole [] [] so = refl
rates_read names whole [] (q ∷ qs) so = absurd so
rates_read names whole (p ∷ ps) [] so = absurd so
rates_read names whole (p ∷ ps) (q ∷ qs) so = ap₂ {A = Sum} {B = List Sum} (λ x xs. x ∷ xs) so.0.rate_is (rates_read names whole ps qs so.1)

pub placed_read : (names whole : List ℕ) (ps qs : List Part) → AreRead (slice_index names) whole ps qs → placed qs ≡ map (slice_index names) (placed ps)
placed_read names whole [] [] so = refl
placed_read names whole [] (q ∷ qs) so = absurd so
placed_read names whole (p ∷ ps) [] so = absurd so
placed_read names whole (p ∷ ps) (q ∷ qs) so = ap₂ {A = List ℕ} {B = List ℕ} (λ xs ys. xs ++ ys) so.0.ids_are (placed_read names whole ps qs so.1)
    ∙ sym (map-append (slice_index names) p.ids (placed ps))

-- the rate and the names of a part, by names
record IsLike (f : ℕ → ℕ) (p q : Part) : Type 0 where
  pub rate_is : q.rate ≡ p.rate
  pub ids_are : q.ids ≡ map f p.ids

like : (f : ℕ → ℕ) (order : List ℕ) (known : List Flow) (from : Option OldPart) (p q : Part) → IsReadFrom f order known from p q → IsLike f p q
like f _ known None p q read = record { rate_is = read.rate_is; ids_are = read.ids_are }
like f _ known (Some old) p q read = record { rate_is = read.rate_is; ids_are = read.ids_are }

likes_rates : (f : ℕ → ℕ) (ps qs : List Part) → AllZip (IsLike f) ps qs → map (λ part. part.rate) qs ≡ map (λ part. part.rate) ps
likes_rates f [] [] so = refl
likes_rates f [] (q ∷ qs) so = absurd so
likes_rates f (p ∷ ps) [] so = absurd so
likes_rates f (p ∷ ps) (q ∷ qs) so = ap₂ {A = Sum} {B = List Sum} (λ x xs. x ∷ xs) so.0.rate_is (likes_rates f ps qs so.1)

likes_placed : (f : ℕ → ℕ) (ps qs : List Part) → AllZip (IsLike f) ps qs → placed qs ≡ map f (placed ps)
likes_placed f [] [] so = refl
likes_placed f [] (q ∷ qs) so = absurd so
likes_placed f (p ∷ ps) [] so = absurd so
likes_placed f (p ∷ ps) (q ∷ qs) so = ap₂ {A = List ℕ} {B = List ℕ} (λ xs ys. xs ++ ys) so.0.ids_are (likes_placed f ps qs so.1)
    ∙ sym (map-append f p.ids (placed ps))

likes_long : (f : ℕ → ℕ) (ps qs : List Part) → AllZip (IsLike f) ps qs → map (λ part. length part.ids) qs ≡ map (λ part. length part.ids) ps
likes_long f [] [] so = refl
likes_long f [] (q ∷ qs) so = absurd so
likes_long f (p ∷ ps) [] so = absurd so
likes_long f (p ∷ ps) (q ∷ qs) so =
    ap₂ {A = ℕ} {B = List ℕ} (λ x xs. x ∷ xs) (ap length so.0.ids_are ∙ length-map p.ids f) (likes_long f ps qs so.1)

-- what holds of two lists at each position holds of them together
pub zip_at : {A B : Type 0} (R : A → B → Type 0) (xs : List A) (ys : List B) (d : A) (e : B) → length ys ≡ length xs
    → ((k : ℕ) → k < length xs → R (get_or xs k d) (get_or ys k e)) → AllZip R xs ys
zip_at R [] [] d e long each = tt
zip_at R [] (y ∷ ys) d e long each = absurd (omega (arith, long))
zip_at R (x ∷ xs) [] d e long each = absurd (omega (arith, long))
zip_at R (x ∷ xs) (y ∷ ys) d e long each =
    (each 0 (omega arith), zip_at R xs ys d e (omega (arith, long)) (λ k low. each (suc k) (omega (arith, low))))

totals_push : (i : ℕ) (ps : List Part) (p : Part)
    → totals i (map (λ part. length part.flows) (ps ++ p ∷ []))
    ≡ totals i (map (λ part. length part.flows) ps) ++ (i + length (flows_in ps) + length p.flows) ∷ []
totals_push i [] p = ap (λ (m : ℕ). m ∷ []) (let e : i + length p.flows ≡ i + 0 + length p.flows = omega arith in e)
totals_push i (q ∷ qs) p =
    ap (λ (ns : List ℕ). (i + length q.flows) ∷ ns) (totals_push (i + length q.flows) qs p
    ∙ ap (λ (m : ℕ). totals (i + length q.flows) (map (λ part. length part.flows) qs) ++ m ∷ [])
    (let l = length-append q.flows (flows_in qs) in
    let e : i + length q.flows + length (flows_in qs) + length p.flows ≡ i + length (q.flows ++ flows_in qs) + length p.flows = omega (arith, l) in e))

-- ---- the loop over the parts

-- the first parts were read
pub record Reading (names order : List ℕ) (qs : List Part) (froms : List (Option OldPart)) (known : List Flow) (shown : List LinearPart)
    (at from : ℕ) (parts : List PartEnd) (flows : List Flow) : Type 0 where
  pub from_is : from ≡ reach (λ (q : Part). q.flows) qs at
  pub low : at ≤ length qs
  pub rates : map sum_in parts ≡ map (λ part. sum_from part.rate) (take at shown)
  pub ends : map (λ (e : PartEnd). e.end) parts ≡ map (λ part. part.end) (take at shown)
  pub done : List Part
  pub long : length done ≡ at
  pub read : (k : ℕ) → k < at
      → IsReadFrom (slice_index names) order known (get_or froms k None) (get_or qs k no_part) (get_or done k no_part)
  pub flows_are : flows_in done ≡ flows
  pub flow_ends : map (λ (e : PartEnd). e.flow_end) parts ≡ totals 0 (map (λ part. length part.flows) done)

module _ (qs : List Part) (shown : List LinearPart) (all : List PlaceFlow) (is_shown : AreShown shown qs) (are : map named all ≡ flows_in qs) where
  pub shown_long : length shown ≡ length qs
  shown_long = sym (length-map shown (λ part. sum_from part.rate)) ∙ ap length is_shown.rates ∙ length-map qs (λ (part : Part). part.rate)

  pub flow_end_at : (k : ℕ) (d : LinearPart) → k < length shown → (slice_index_or shown k d).flow_end ≡ reach (λ (q : Part). q.flows) qs (k + 1)
  flow_end_at k d low =
      sym (get_or-map (λ (part : LinearPart). part.flow_end) shown k d 0 low) ∙ ap (λ xs. slice_index xs k) is_shown.flow_ends
      ∙ ended (λ (q : Part). q.flows) qs 0 k (let l : length shown ≡ length qs = shown_long in omega arith)
      ∙ Rattle.std.proofs.Common.zero-add (reach (λ (q : Part). q.flows) qs (k + 1))

  pub flows_long : length all ≡ length (flows_in qs)
  flows_long = sym (length-map all named) ∙ ap length are

  -- the flows between two ends are those of the part
  pub own_flows_of : (k from to : ℕ) → k < length shown → from ≡ reach (λ (q : Part). q.flows) qs k
      → to ≡ reach (λ (q : Part). q.flows) qs (k + 1) → map named (take (to - from) (drop from all)) ≡ (get_or qs k no_part).flows
  own_flows_of k from to low start end =
      let inside : k < length qs = (let l : length shown ≡ length qs = shown_long in omega arith) in
      let more : reach (λ (q : Part). q.flows) qs (k + 1) ≡ reach (λ (q : Part). q.flows) qs k + length (get_or qs k no_part).flows =
      reach_more (λ (q : Part). q.flows) qs k no_part inside in
      sym (take-map named (to - from) (drop from all)) ∙ ap (take (to - from)) (sym (drop-map named from all) ∙ ap (drop from) are)
      ∙ ap₂ (λ m i. take m (drop i (flows_in qs))) (let e : to - from ≡ length (get_or qs k no_part).flows = omega arith in e) start
      ∙ segment (λ (q : Part). q.flows) qs k no_part inside

  pub ends_within : (k from to : ℕ) → k < length shown → from ≡ reach (λ (q : Part). q.flows) qs k
      → to ≡ reach (λ (q : Part). q.flows) qs (k + 1) → (from ≤ to) × (to ≤ length all)
  ends_within k from to low start end =
      let inside : k < length qs = (let l : length shown ≡ length qs = shown_long in omega arith) in
      let more : reach (λ (q : Part). q.flows) qs (k + 1) ≡ reach (λ (q : Part). q.flows) qs k + length (get_or qs k no_part).flows =
      reach_more (λ (q : Part). q.flows) qs k no_part inside in
      let most : reach (λ (q : Part). q.flows) qs (k + 1) ≤ length (flows_in qs) = reach_within (λ (q : Part). q.flows) qs (k + 1) in
      let l : length all ≡ length (flows_in qs) = flows_long in (omega arith, omega arith)

  module _ (names positions : List ℕ) (n : ℕ) (is_placed : IsPlaced n qs) (stand : StandAt (placed qs) positions)
      (k from : ℕ) (d : LinearPart) (own : List PlaceFlow) (low : k < length shown)
      (start : from ≡ reach (λ (q : Part). q.flows) qs k) (cut : own ≡ take ((slice_index_or shown k d).flow_end - from) (drop from all)) where
    part_own : map named own ≡ (get_or qs k no_part).flows
    part_own = ap (map named) cut ∙ own_flows_of k from (slice_index_or shown k d).flow_end low start (flow_end_at k d low)

    part_there : Contains qs (get_or qs k no_part)
    part_there = Contains-get_or qs k no_part (let l : length shown ≡ length qs = shown_long in omega arith)

    pub cut_below : n ≤ length positions → AreBelow (length positions) own
    cut_below room = own_below names positions qs n is_placed stand own (get_or qs k no_part) part_there part_own room

    pub cut_moved : (order : List ℕ) → order ≡ map (slice_index names) (placed qs) → AreBelow (length order) (map (at_positions positions) own)
    cut_moved order is = subst (λ (xs : List ℕ). AreBelow (length xs) (map (at_positions positions) own))
        (sym is) (moved_below names positions qs n is_placed stand own (get_or qs k no_part) part_there part_own)

  module _ (names positions : List ℕ) (n : ℕ) (is_placed : IsPlaced n qs) (stand : StandAt (placed qs) positions)
      (froms : List (Option OldPart)) (known : List Flow) where
    abbrev whole : List ℕ
    whole = map (slice_index names) (placed qs)

    module _ (k from : ℕ) (d : LinearPart) (own : List PlaceFlow) (parts parts' : List PartEnd) (flows flows' : List Flow)
        (low : k < length shown) (cut : own ≡ take ((slice_index_or shown k d).flow_end - from) (drop from all))
        (adds : AddsPart (get_or froms k None) own positions whole known flows flows')
        (more : parts' ≡ parts ++ end_of (slice_index_or shown k d) (length flows') ∷ [])
        (so : Reading names whole qs froms known shown k from parts flows) where
      inside : k < length qs
      inside = let l : length shown ≡ length qs = shown_long in omega arith

      mine : map named own ≡ (get_or qs k no_part).flows
      mine = ap (map named) cut ∙ own_flows_of k from (slice_index_or shown k d).flow_end low so.from_is (flow_end_at k d low)

      one : (old : Option OldPart) → AddsPart old own positions whole known flows flows'
          → (q : Part) × IsReadFrom (slice_index names) whole known old (get_or qs k no_part) q × (flows' ≡ flows ++ q.flows)
      one None adds = (
        read names positions qs n is_placed stand own k inside mine flows flows' adds,
        read_part names positions qs n is_placed stand own k inside mine flows flows' adds,
        adds.is,
      )
      one (Some old) adds = (
        record { rate = (get_or qs k no_part).rate; ids = map (slice_index names) (get_or qs k no_part).ids; flows = own_flows known old },
        record { rate_is = refl; ids_are = refl; flows_are = refl },
        adds,
      )

      abbrev got : Part
      got = (one (get_or froms k None) adds).0

      last : get_or (so.done ++ got ∷ []) k no_part ≡ got
      last =
          ap (λ (m : ℕ). get_or (so.done ++ got ∷ []) m no_part) (sym so.long)
          ∙ get_or-append_right so.done (got ∷ []) (length so.done) (length so.done) no_part refl (omega arith)
          ∙ ap (λ (m : ℕ). get_or (got ∷ []) m no_part) (let e : length so.done - length so.done ≡ 0 = omega arith in e)

      each : (j : ℕ) → j < k + 1
          → IsReadFrom (slice_index names) whole known (get_or froms j None) (get_or qs j no_part) (get_or (so.done ++ got ∷ []) j no_part)
      each j below = elim (cases_order j k)
          as (λ _. IsReadFrom (slice_index names) whole known (get_or froms j None) (get_or qs j no_part) (get_or (so.done ++ got ∷ []) j no_part)) [
            | inl same ↦
                subst (λ (m : ℕ). IsReadFrom (slice_index names) whole known (get_or froms m None) (get_or qs m no_part) (get_or (so.done ++ got ∷ []) m no_part))
                (sym same) (subst (IsReadFrom (slice_index names) whole known (get_or froms k None) (get_or qs k no_part)) (sym last)
                (one (get_or froms k None) adds).1)
            | inr (inl before) ↦
                subst (IsReadFrom (slice_index names) whole known (get_or froms j None) (get_or qs j no_part))
                (sym (get_or_append_left so.done (got ∷ []) no_part j (let l = so.long in omega (arith, l, before)))) (so.read j before)
            | inr (inr behind) ↦ absurd (omega (arith, below, behind))
          ]

      pub Reading-more : Reading names whole qs froms known shown (k + 1) (slice_index_or shown k d).flow_end parts' flows'
      Reading-more =
          let flows_are : flows' ≡ flows ++ got.flows = (one (get_or froms k None) adds).2 in
          record {
            from_is = flow_end_at k d low;
            low = omega (arith, inside);
            rates = ap (map sum_in) more ∙ map_push sum_in parts (end_of (slice_index_or shown k d) (length flows'))
                ∙ ap (λ (rs : List Sum). rs ++ sum_from (slice_index_or shown k d).rate ∷ []) so.rates
                ∙ sym (map_push (λ (p : LinearPart). sum_from p.rate) (take k shown) (slice_index_or shown k d))
                ∙ ap (map (λ (p : LinearPart). sum_from p.rate)) (sym (take_more shown k d low));
            ends = ap (map (λ (e : PartEnd). e.end)) more
                ∙ map_push (λ (e : PartEnd). e.end) parts (end_of (slice_index_or shown k d) (length flows'))
                ∙ ap (λ (es : List ℕ). es ++ (slice_index_or shown k d).end ∷ []) so.ends
                ∙ sym (map_push (λ (p : LinearPart). p.end) (take k shown) (slice_index_or shown k d))
                ∙ ap (map (λ (p : LinearPart). p.end)) (sym (take_more shown k d low));
            done = so.done ++ got ∷ [];
            long = (let l = length-append so.done (got ∷ []) in let m = so.long in omega (arith, l, m));
            read = each;
            flows_are = flat_map-append (λ (part : Part). part.flows) so.done (got ∷ [])
                ∙ ap₂ (λ xs ys. xs ++ ys) so.flows_are (append-nil got.flows) ∙ sym flows_are;
            flow_ends = ap (map (λ (e : PartEnd). e.flow_end)) more
                ∙ map_push (λ (e : PartEnd). e.flow_end) parts (end_of (slice_index_or shown k d) (length flows'))
                ∙ ap (λ (es : List ℕ). es ++ length flows' ∷ []) so.flow_ends
                ∙ ap (λ (m : ℕ). totals 0 (map (λ part. length part.flows) so.done) ++ m ∷ [])
                (let a = ap length flows_are ∙ length-append flows got.flows in
                let b = ap length so.flows_are in
                let e : length flows' ≡ 0 + length (flows_in so.done) + length got.flows = omega (arith, a, b) in e)
                ∙ sym (totals_push 0 so.done got);
          }

  -- all parts were read
  pub Reading-all : (names order : List ℕ) (froms : List (Option OldPart)) (known : List Flow) (k from : ℕ) (parts : List PartEnd) (flows : List Flow)
      → length shown ≤ k → order ≡ map (slice_index names) (placed qs) → Reading names order qs froms known shown k from parts flows
      → IsReadOf names froms known qs parts order flows
  Reading-all names order froms known k from parts flows past order_is so =
      let all_long : length so.done ≡ length qs =
      (let l : length shown ≡ length qs = shown_long in let a = so.low in let b = so.long in omega (arith, l, a, b, past)) in
      let within : (j : ℕ) → j < length qs → j < k = (λ j low. (let b = so.long in omega (arith, low, all_long, b))) in
      let likes : AllZip (IsLike (slice_index names)) qs so.done =
      zip_at (IsLike (slice_index names)) qs so.done no_part no_part all_long (λ j low.
      like (slice_index names) order known (get_or froms j None) (get_or qs j no_part) (get_or so.done j no_part) (so.read j (within j low))) in
      record {
        parts = so.done;
        long = all_long;
        read = λ j low. so.read j (within j low);
        ends = record {
          rates_are = so.rates ∙ ap (map (λ (p : LinearPart). sum_from p.rate)) (take_all k shown past) ∙ is_shown.rates
              ∙ sym (likes_rates (slice_index names) qs so.done likes);
          ends_are = so.ends ∙ ap (map (λ (p : LinearPart). p.end)) (take_all k shown past)
              ∙ is_shown.ends ∙ ap (totals 0) (sym (likes_long (slice_index names) qs so.done likes));
          flow_ends_are = so.flow_ends;
          order_is = likes_placed (slice_index names) qs so.done likes ∙ sym order_is;
          flows_are = so.flows_are;
        };
      }
