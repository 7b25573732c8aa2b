-- The first of the components of links that is over the limits, by the first name of which it is.
use Rattle.std.proofs.Common.{◌≡◌, ◌↔◌, ℕ, suc, zero, ◌-◌, ◌<◌, false, List, [], ◌∷◌, ◌++◌, length, get_or, Contains, Some, inl, inr, ◌⊎◌, refl, sym, ap, ◌∙◌, subst, arith, append_assoc, length-append}
use Rattle.std.specs.Prelude.{slice_get, sum_by}
use Rattle.std.proofs.lemmas.Bool.{cases_lt, cases_eq}
use Rattle.std.proofs.lemmas.List.{get_or_append_left, get_or-append_right}
use Rattle.std.proofs.lemmas.List.Elements.{Contains-get_or}
use Rattle.std.proofs.lemmas.Option.{none-some, same_Some, slice_get-get_or, slice_get_cases}
use Rattle.arithmetic.proofs.Sums.{sum_by_along}
use Rattle.lists.specs.Distinct.{AreDistinct}
use Rattle.lists.proofs.Distinct.{distinct_within}
use Rattle.lists.proofs.Entries.{Contains-splits}
use Rattle.lists.proofs.Told.{told_number}
use Rattle.graphs.specs.Graphs.{Trail, AreConnected}
use Rattle.fee_rate.specs.declared.rates.FeeRate.{FeeRate}
use Rattle.graph_model.specs.declared.names.Limits.{Limits}
use Rattle.graph_model.specs.declared.names.Refusal.{Refusal}
use Rattle.graph_model.specs.declared.names.Refusal.TheVariants.{ClusterSize}
use Rattle.graph_model.specs.Limits.{Bounds, AreOver, bounds_of}
use Rattle.graph_model.specs.Refusals.{IsFirst, ToldOver}
use Rattle.graph_model.proofs.FirstLemmas.{first_or_none}
use Rattle.links.specs.Links.{Links, AreLinks, Has}
use Rattle.links.specs.Laws.{FallsInto}
use Rattle.links.specs.Parts.{AreComponentsOf, StandsBefore}
use Rattle.links.proofs.Changing.{has_member}
use Rattle.links.proofs.Splitting.{falls_into}
use Rattle.record.specs.Kept.{unordered}
use Rattle.record.specs.Records.{IsOver}
use Rattle.record.specs.Restoring.{BringsNoneOver, BringsOver, FirstOver, IsInOver, NoneOver, TellsOver, size_in}
use Rattle.record.proofs.Falling.{names_in, one_of, one_part}

-- ---- lists

-- the entry of a place
got : {X : Type 0} (xs : List X) (i : ℕ) (x : X) → slice_get xs i ≡ Some x → (i < length xs) × ((d : X) → get_or xs i d ≡ x)
got xs i x is = elim (slice_get_cases xs i).1 [
  | inl at ↦ (at.1, λ d. same_Some (get_or xs i d) x (sym (slice_get-get_or xs i d at.1) ∙ is))
  | inr past ↦ absurd (none-some x (sym past.1 ∙ is))
]

-- an entry has a place
placed : {X : Type 0} (xs : List X) (x : X) → Contains xs x → (i : ℕ) × (slice_get xs i ≡ Some x)
placed xs x (i, low, at) = (i, slice_get-get_or xs i x low ∙ ap Some at)

-- the first entry of a list with a property that can be told
first_told : (P : ℕ → Type 0) → ((x : ℕ) → P x ⊎ (P x → ⊥)) → (xs : List ℕ) (x : ℕ) → Contains xs x → P x
    → (id : ℕ) × IsFirst (λ before id. P id) xs id
first_told P told xs x here holds = elim (first_or_none P xs (λ y _. told y)) [ inl found ↦ found | inr none ↦ absurd (none x here holds) ]

-- an entry after another stands at its place
place_after : (front rest : List ℕ) (x : ℕ) (d : ℕ) → get_or (front ++ x ∷ rest) (length front) d ≡ x
place_after front rest x d =
    let none : length front - length front ≡ 0 = omega arith in
    get_or-append_right front (x ∷ rest) (length front) (length front) d refl (omega arith) ∙ ap (λ (k : ℕ). get_or (x ∷ rest) k d) none

-- ---- names of one component are told in one way

-- lists of the same names have as many, and are as large together
same_told : (size : ℕ → ℕ) (xs ys : List ℕ) → AreDistinct xs → AreDistinct ys → ((x : ℕ) → Contains xs x → Contains ys x)
    → ((x : ℕ) → Contains ys x → Contains xs x) → (length xs ≡ length ys) × (sum_by size xs ≡ sum_by size ys)
same_told size xs ys once also to from =
    let up = distinct_within size xs ys once to in let down = distinct_within size ys xs also from in
    (omega (arith, up.0, down.0), omega (arith, up.1, down.1))

told_over : (bounds : Bounds) (size : ℕ → ℕ) (ids : List ℕ) (why : Refusal) → ToldOver bounds size ids why → AreOver bounds size ids
told_over bounds size ids why told = elim told [ inl many ↦ inl many.0 | inr large ↦ inr large.1 ]

-- ---- the components of links

module _ (old : Links) (parts : List Links) (are : AreLinks old) (each : (part : Links) → Contains parts part → AreLinks part)
    (comps : AreComponentsOf old parts) (limits : Limits) where
  falls : FallsInto old parts
  falls = falls_into old parts are each comps

  -- what is connected with a name of a part is of the part
  reached : (part : Links) → Contains parts part → (a b n : ℕ) → Has part a → Trail old.pairs a b n → Has part b
  reached part there a b zero here same = subst (Has part) same here
  reached part there a b (suc n) here (c, trail, step) =
      let before = reached part there a c n here trail in
      elim step [
        | inl down ↦
            let (other, among, pair) = (comps.pairs c b).0 down in
            let ends = (each other among).graph_is.ends c b pair in
            subst (λ (l : Links). Has l b) (one_part old parts are each comps other part c among there ends.0 before) ends.1
        | inr up ↦
            let (other, among, pair) = (comps.pairs b c).0 up in
            let ends = (each other among).graph_is.ends b c pair in
            subst (λ (l : Links). Has l b) (one_part old parts are each comps other part c among there ends.1 before) ends.0
      ]

  trail_up : (part : Links) → Contains parts part → (a b n : ℕ) → Trail part.pairs a b n → Trail old.pairs a b n
  trail_up part there a b zero same = same
  trail_up part there a b (suc n) (c, trail, step) = (
    c,
    trail_up part there a c n trail,
    elim step [
      | inl down ↦ inl ((comps.pairs c b).1 (part, there, down))
      | inr up ↦ inr ((comps.pairs b c).1 (part, there, up))
    ],
  )

  connected_is : (part : Links) → Contains parts part → (a : ℕ) → Has part a → (x : ℕ) → Has part x ↔ AreConnected old.pairs a x
  connected_is part there a here x = (
    λ also. let trail = comps.whole part there a x here also in (trail.0, trail_up part there a x trail.0 trail.1),
    λ trail. reached part there a x trail.0 here trail.1,
  )

  sizes_same : (part : Links) → Contains parts part → sum_by (size_in part) (names_in part) ≡ sum_by (size_in old) (names_in part)
  sizes_same part there =
      sum_by_along (size_in part) (size_in old) (names_in part) (λ id here. ap (λ (r : FeeRate). r.size) (falls.rates part there id here))

  -- the refusal that tells a part tells the component of each of its names
  part_in_over : (part : Links) → Contains parts part → (why : Refusal) → TellsOver limits part why → (id : ℕ) → Has part id → IsInOver limits old id why
  part_in_over part there why told id here = (
    names_in part,
    (each part there).graph_is.names,
    connected_is part there id here,
    elim told [
      | inl many ↦ inl many
      | inr large ↦ inr (large.0, subst (λ n. limits.size < n) (sizes_same part there) large.1, large.2 ∙ ap ClusterSize (sizes_same part there))
    ],
  )

  -- a part with a name whose component is over the limits is over them
  in_over_part : (part : Links) → Contains parts part → (id : ℕ) → Has part id → (why : Refusal) → IsInOver limits old id why
      → IsOver limits (unordered part)
  in_over_part part there id here why (ids, once, exact, told) =
      let same = same_told (size_in old) ids (names_in part) once (each part there).graph_is.names
      (λ x listed. (connected_is part there id here x).1 ((exact x).0 listed)) (λ x has. (exact x).1 ((connected_is part there id here x).0 has)) in
      elim (told_over (bounds_of limits) (size_in old) ids why told) [
        | inl many ↦ inl (subst (λ n. limits.count < n) same.0 many)
        | inr large ↦ inr (subst (λ n. limits.size < n) (same.1 ∙ sym (sizes_same part there)) large)
      ]

  part_of : (id : ℕ) → Has old id → (k : ℕ) × (part : Links) × Contains parts part × (slice_get parts k ≡ Some part) × Has part id
  part_of id here =
      let (part, there, own) = (falls.members id).0 ((has_member old id).1 here) in
      let at = placed parts part there in (at.0, part, there, at.1, (has_member part id).0 own)

  -- the first part over the limits has the first name whose component is over them
  module _ (why : Refusal) (over : FirstOver limits parts why) where
    there : Contains parts over.part
    there = let at = got parts over.at over.part over.there in (over.at, at.0, at.1 over.part)

    -- a name with a component over the limits isn't before all names of the part
    not_before : (id : ℕ) → IsFirst (λ before q. Has over.part q) (names_in old) id → (before after : List ℕ) (other : ℕ)
        → names_in old ≡ before ++ other ∷ after → ((q : ℕ) → Contains before q → Has over.part q → ⊥) → (Has over.part other → ⊥)
        → (any : Refusal) → IsInOver limits old other any → ⊥
    not_before id first before after other cut none own any is =
        let here : Has old other = (
          length before,
          subst (λ (xs : List ℕ). length before < length xs) (sym cut) (omega (arith, length-append before (other ∷ after))),
          ap (λ (xs : List ℕ). get_or xs (length before) other) cut ∙ place_after before after other other,
        ) in
        let (k, part, among, at, has) = part_of other here in
        let large = in_over_part part among other has any is in
        elim (cases_lt k over.at) [
          | inl early ↦ over.none k part early at large
          | inr late ↦ elim (cases_eq k over.at) [
            | inl same ↦ own (subst (λ (l : Links). Has l other)
                (same_Some part over.part (sym at ∙ ap (slice_get parts) same ∙ over.there)) has)
            | inr differ ↦
                let one = got parts over.at over.part over.there in
                let two = got parts k part at in
                let order : StandsBefore (names_in old) (names_in over.part) (names_in part) =
                subst (λ (l : Links). StandsBefore (names_in old) (names_in l) (names_in part)) (one.1 part)
                (subst (λ (l : Links). StandsBefore (names_in old) (names_in (get_or parts over.at part)) (names_in l)) (two.1 part)
                (comps.order over.at k part (omega (arith, late, differ)) two.0)) in
                let (i, low, first_in, later) = order in
                let at_other : get_or (names_in old) (length before) 0 ≡ other =
                ap (λ (xs : List ℕ). get_or xs (length before) 0) cut ∙ place_after before after other 0 in
                let below : i < length before = later (length before) here.1 (subst (Contains (names_in part)) (sym at_other) has) in
                let same : get_or (names_in old) i 0 ≡ get_or before i 0 =
                ap (λ (xs : List ℕ). get_or xs i 0) cut ∙ get_or_append_left before (other ∷ after) 0 i below in
                none (get_or before i 0) (Contains-get_or before i 0 below) (subst (Contains (names_in over.part)) same first_in)
          ]
        ]

    pub brings_over : limits.defer ≡ false → BringsOver limits old why
    brings_over strict =
        let some = (comps_some over.part there) in
        let first = first_told (Has over.part) (told_number (names_in over.part)) (names_in old) some.0
        ((has_member old some.0).0 ((falls.members some.0).1 (over.part, there, (has_member over.part some.0).1 some.1))) some.1 in
        record {
          strict = strict;
          id = first.0;
          first = record {
            before = first.1.before;
            after = first.1.after;
            cut = first.1.cut;
            has = (why, part_in_over over.part there why over.over first.0 first.1.has);
            earlier = λ front rest other at (any, is).
                not_before first.0 first.1 front (rest ++ first.0 ∷ first.1.after) other
                (first.1.cut ∙ ap (λ (xs : List ℕ). xs ++ first.0 ∷ first.1.after) at ∙ append_assoc front (other ∷ rest) (first.0 ∷ first.1.after))
                (λ q listed. first.1.earlier (Contains-splits front q listed).0 ((Contains-splits front q listed).1 ++ other ∷ rest) q
                (at ∙ ap (λ (xs : List ℕ). xs ++ other ∷ rest) (Contains-splits front q listed).2
                ∙ append_assoc (Contains-splits front q listed).0 (q ∷ (Contains-splits front q listed).1) (other ∷ rest)))
                (first.1.earlier front rest other at) any is;
          };
          over = part_in_over over.part there why over.over first.0 first.1.has;
        }
      where
        comps_some : (part : Links) → Contains parts part → (x : ℕ) × Has part x
        comps_some part among = (one_of old parts are each comps part among).some

  -- where each part is within the limits, each name's component is
  pub none_over : NoneOver limits parts (length parts) → BringsNoneOver limits old
  none_over none id why here is =
      let (k, part, among, at, has) = part_of id here in none k part (got parts k part at).0 at (in_over_part part among id has why is)
