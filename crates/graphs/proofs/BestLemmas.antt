-- Flat parts of falling rate are optimal, and an optimal order bounds every closed set.
use Rattle.std.proofs.Common.{◌≡◌, ◌≢◌, ℕ, suc, zero, ◌≤◌, List, [], ◌∷◌, ◌++◌, map, Bool, true, not, nat_eq, inl, inr, ◌↔◌, ℤ, pos, ◌≤ℤ◌, refl, sym, ap, ◌∙◌, subst, arith, append_assoc}
use Rattle.std.specs.Prelude.{Contains, flat_map}
use Rattle.std.specs.List.{filter}
use Rattle.std.specs.Set.{is_member}
use Rattle.std.proofs.lemmas.Bool.{cases_Bool, not-true, both_ways, not_from_false}
use Rattle.std.proofs.lemmas.Bool.Decides.{Decides-eqb}
use Rattle.std.proofs.lemmas.Map.Made.{is_member-Decides}
use Rattle.std.proofs.lemmas.Int.{ints}
use Rattle.std.proofs.lemmas.List.Sums.{sum_by-cons}
use Rattle.std.proofs.lemmas.List.Concat.{flat_map-append}
use Rattle.std.proofs.lemmas.List.Elements.{Contains-append_left, Contains-append_right, Contains-append_cases}
use Rattle.lists.proofs.Distinct.{distinct-append_left, distinct_apart, distinct_joined, distinct-filter, distinct_without, stays_before}
use Rattle.lists.proofs.Flats.{flat_has, flat_part_once}
use Rattle.lists.proofs.Entries.{Contains-head, Contains-later, Contains-cases, none_in_empty, Contains-filter, filter-Contains, Contains-splits, rest_of, first_of}
use Rattle.lists.specs.Distinct.{AreDistinct}
use Rattle.arithmetic.specs.Sums.{total}
use Rattle.arithmetic.proofs.Sums.{total-append, total-pos}
use Rattle.fee_rate.specs.declared.rates.Sum.{Sum}
use Rattle.fee_rate.specs.Rates.{AtMost}
use Rattle.graphs.specs.Graphs.{Graph, Walk, IsCover}
use Rattle.graphs.specs.Rates.{sum_of, sums, Falls, HasSizes}
use Rattle.graphs.specs.Linearizations.{IsClosedWithin, IsTopological, StandsBefore, IsTogether, AreChunks, IsFlat, IsUnderLine, IsUnderDiagram, IsOptimal}
use Rattle.graphs.specs.Certificates.{Part, IsCertificate}
use Rattle.graphs.proofs.FlowLemmas.{flow_bounds}
use Rattle.graphs.proofs.MergeLemmas.{precedes_filter}
use Rattle.graphs.proofs.TangentLemmas.{joined, sizes-append, tangent}

-- ---- sums over lists of the same names
pub total_same_members : (f : ℕ → ℤ) (xs ys : List ℕ) → AreDistinct xs → AreDistinct ys → ((x : ℕ) → Contains xs x ↔ Contains ys x) → total f xs ≡ total f ys
total_same_members f [] [] d e same = refl
total_same_members f [] (y ∷ ys) d e same = absurd (none_in_empty y ((same y).1 (Contains-head y ys)))
total_same_members f (x ∷ xs) ys d e same =
    let cut = Contains-splits ys x ((same x).0 (Contains-head x xs)) in
    let others = distinct_without cut.0 cut.1 x (subst AreDistinct cut.2 e) in
    let rest : total f xs ≡ total f (cut.0 ++ cut.1) = total_same_members f xs (cut.0 ++ cut.1) d.1 others.0 (λ q. (
      (λ h. elim (Contains-append_cases cut.0 (x ∷ cut.1) q (subst (λ (zs : List ℕ). Contains zs q) cut.2 ((same q).0 (Contains-later x q xs h)))) [
        | inl left ↦ Contains-append_left cut.0 cut.1 q left
        | inr right ↦ elim (Contains-cases x q cut.1 right) [
          | inl it ↦ absurd (d.0 (subst (λ (z : ℕ). Contains xs z) (sym it) h))
          | inr later ↦ Contains-append_right cut.0 cut.1 q later
        ]
      ]),
      (λ h. elim (Contains-cases x q xs ((same q).1 (subst (λ (zs : List ℕ). Contains zs q) (sym cut.2) (widened cut.0 cut.1 x q h)))) [
        | inl it ↦ absurd (others.1 (subst (λ (z : ℕ). Contains (cut.0 ++ cut.1) z) (sym it) h))
        | inr later ↦ later
      ]),
    )) in
    let whole : total f ys ≡ total f (cut.0 ++ x ∷ cut.1) = ap (total f) cut.2 in
    omega (arith, ints, rest, whole, total-append f cut.0 (x ∷ cut.1), total-append f cut.0 cut.1)
  where
    widened : (before after : List ℕ) (x q : ℕ) → Contains (before ++ after) q → Contains (before ++ x ∷ after) q
    widened before after x q h = elim (Contains-append_cases before after q h) [
      | inl left ↦ Contains-append_left before (x ∷ after) q left
      | inr right ↦ Contains-append_right before (x ∷ after) q (Contains-later x q after right)
    ]

sum_parts : ℤ → ℕ → Sum
sum_parts fee size = record { fee = fee; size = size }

pub sums_same_members : (rate : ℕ → Sum) (xs ys : List ℕ) → AreDistinct xs → AreDistinct ys
    → ((x : ℕ) → Contains xs x ↔ Contains ys x) → sums rate xs ≡ sums rate ys
unfolding sum_parts
sums_same_members rate xs ys d e same =
    let fees : (sums rate xs).fee ≡ (sums rate ys).fee = total_same_members (λ id. (rate id).fee) xs ys d e same in
    let sizes : (sums rate xs).size ≡ (sums rate ys).size = omega
    (arith, ints, total_same_members (λ id. pos (rate id).size) xs ys d e same, total-pos (λ id. (rate id).size) xs, total-pos (λ id. (rate id).size) ys) in
    ap (λ (f : ℤ). sum_parts f (sums rate xs).size) fees ∙ ap (λ (n : ℕ). sum_parts (sums rate ys).fee n) sizes

-- ---- parts and their names
pub joined-part : (parts : List (List ℕ)) (part : List ℕ) → Contains parts part → (before after : List ℕ) × (joined parts ≡ before ++ (part ++ after))
joined-part parts part h =
    let cut = Contains-splits parts part h in (joined cut.0, joined cut.1, ap joined cut.2 ∙ flat_map-append (λ ids. ids) cut.0 (part ∷ cut.1))

pub joined-Contains : (parts : List (List ℕ)) (part : List ℕ) (id : ℕ) → Contains parts part → Contains part id → Contains (joined parts) id
joined-Contains = flat_has (λ ids. ids)

pub joined_distinct : (parts : List (List ℕ)) (part : List ℕ) → Contains parts part → AreDistinct (joined parts) → AreDistinct part
joined_distinct parts part h d = flat_part_once (λ ids. ids) parts part d h

pub sum_of-joined : (rate : ℕ → Sum) (parts : List (List ℕ)) → sum_of (map (sums rate) parts) ≡ sums rate (joined parts)
unfolding sum_parts
sum_of-joined rate parts = ap (λ (f : ℤ). sum_parts f (sum_of (map (sums rate) parts)).size) (fees parts)
    ∙ ap (λ (n : ℕ). sum_parts (sums rate (joined parts)).fee n) (sizes parts)
  where
    fees : (ps : List (List ℕ)) → (sum_of (map (sums rate) ps)).fee ≡ (sums rate (joined ps)).fee
    fees [] = refl
    fees (p ∷ ps) = omega (arith, ints, fees ps, total-append (λ id. (rate id).fee) p (joined ps))

    sizes : (ps : List (List ℕ)) → (sum_of (map (sums rate) ps)).size ≡ (sums rate (joined ps)).size
    sizes [] = refl
    sizes (p ∷ ps) = omega (arith, sizes ps, sum_by-cons (λ part. part.size) (sums rate p) (map (sums rate) ps), sizes-append rate p (joined ps))

-- ---- which names a list has, as a test
abbrev pub among : List ℕ → ℕ → Bool
among set id = is_member nat_eq set id

pub among_yes : (set : List ℕ) (id : ℕ) → among set id ≡ true → Contains set id
among_yes set id e = (is_member-Decides Decides-eqb set id).0 e

pub among_is : (set : List ℕ) (id : ℕ) → Contains set id → among set id ≡ true
among_is set id h = (is_member-Decides Decides-eqb set id).1 h

-- a closed set's share of a part is closed within the part
pub share_closed : (graph : Graph) (parts : List (List ℕ)) (part set : List ℕ) → IsTopological graph (joined parts)
    → Contains parts part → IsClosedWithin graph.pairs graph.names set → IsClosedWithin graph.pairs part (filter (among set) part)
share_closed graph parts part set order h closed = record {
  once = distinct-filter (among set) part (joined_distinct parts part h order.once);
  inside = λ id there. (filter-Contains (among set) part id there).1;
  parents = λ parent child pair there here.
      Contains-filter (among set) part parent
      (among_is set parent (closed.parents parent child pair ((order.names parent).0 (joined-Contains parts part parent h there))
      (among_yes set child (filter-Contains (among set) part child here).0)))
      there;
}

-- a closed set is, but for its order, what it holds of an order of all names
pub share_is : (rate : ℕ → Sum) (graph : Graph) (order set : List ℕ) → IsTopological graph order
    → IsClosedWithin graph.pairs graph.names set → sums rate (filter (among set) order) ≡ sums rate set
share_is rate graph order set topological closed =
    sums_same_members rate (filter (among set) order) set (distinct-filter (among set) order topological.once) closed.once (λ id. (
      (λ h. among_yes set id (filter-Contains (among set) order id h).0),
      (λ h. Contains-filter (among set) order id (among_is set id h) ((topological.names id).1 (closed.inside id h))),
    ))

pub sizes_some : (rate : ℕ → Sum) (ids : List ℕ) → ids ≢ [] → HasSizes rate ids → 1 ≤ (sums rate ids).size
sizes_some rate [] filled some = absurd (filled refl)
sizes_some rate (id ∷ ids) filled some = omega (arith, sum_by-cons (λ x. (rate x).size) id ids, some id (Contains-head id ids))

-- ---- flat parts
pub flat_tangent : (rate : ℕ → Sum) (graph : Graph) (before after : List (List ℕ)) (part set : List ℕ) → HasSizes rate graph.names
    → IsTopological graph (joined (before ++ part ∷ after)) → AreChunks rate graph.pairs (before ++ part ∷ after)
    → ((ids : List ℕ) → Contains (before ++ part ∷ after) ids → IsFlat rate graph.pairs ids)
    → IsClosedWithin graph.pairs graph.names set → IsUnderLine (sums rate (joined before)) (sums rate part) (sums rate set)
flat_tangent rate graph before after part set some order chunks flat closed =
    let parts = before ++ part ∷ after in
    subst (λ (point : Sum). IsUnderLine (sums rate (joined before)) (sums rate part) point) (share_is rate graph (joined parts) set order closed)
    (tangent rate (among set) before after part chunks.falling
    (λ ids h. sizes_some rate ids (chunks.filled ids h) (λ id there. some id ((order.names id).0 (joined-Contains parts ids id h there))))
    (λ ids h. flat ids h (filter (among set) ids) (share_closed graph parts ids set order h closed)))

map_splits : (rate : ℕ → Sum) (parts : List (List ℕ)) (before after : List Sum) (part : Sum) → map (sums rate) parts ≡ before ++ part ∷ after
    → (xs ys : List (List ℕ)) × (x : List ℕ) × (parts ≡ xs ++ x ∷ ys) × (before ≡ map (sums rate) xs) × (part ≡ sums rate x)
map_splits rate [] [] after part e = cc
map_splits rate [] (b ∷ before) after part e = cc
map_splits rate (p ∷ parts) [] after part e = ([], parts, p, refl, refl, sym (first_of e))
map_splits rate (p ∷ parts) (b ∷ before) after part e =
    let found = map_splits rate parts before after part (rest_of e) in
    let head : sums rate p ≡ b = first_of e in
    (p ∷ found.0, found.1, found.2, ap (λ zs. p ∷ zs) found.3, (λ i. sym head i ∷ found.4 i), found.5)

no_parts : (rate : ℕ → Sum) (parts : List (List ℕ)) → map (sums rate) parts ≡ [] → parts ≡ []
no_parts rate [] e = refl
no_parts rate (p ∷ parts) e = cc

pub flat_bounds : (rate : ℕ → Sum) (graph : Graph) (parts : List (List ℕ)) (set : List ℕ) → HasSizes rate graph.names
    → IsTopological graph (joined parts) → AreChunks rate graph.pairs parts → ((ids : List ℕ) → Contains parts ids → IsFlat rate graph.pairs ids)
    → IsClosedWithin graph.pairs graph.names set → IsUnderDiagram (map (sums rate) parts) (sums rate set)
flat_bounds rate graph parts set some order chunks flat closed = record {
  lines = λ before after part e low high.
      let found = map_splits rate parts before after part e in
      let xs = found.0 in
      let ys = found.1 in
      let x = found.2 in
      let line = flat_tangent rate graph xs ys x set some (subst (λ zs. IsTopological graph (joined zs)) found.3 order)
      (subst (λ zs. AreChunks rate graph.pairs zs) found.3 chunks)
      (λ ids h. flat ids (subst (λ zs. Contains zs ids) (sym found.3) h)) closed in
      let origin : sums rate (joined xs) ≡ sum_of before = sym (sum_of-joined rate xs) ∙ ap sum_of (sym found.4) in
      subst (λ (p : Sum). IsUnderLine (sum_of before) p (sums rate set)) (sym found.5)
      (subst (λ (o : Sum). IsUnderLine o (sums rate x) (sums rate set)) origin line);
  none = λ e. nothing set (λ id h. none_in_empty id (subst (λ zs. Contains (joined zs) id) (no_parts rate parts e) ((order.names id).1 (closed.inside id h))));
}
  where
    nothing : (ids : List ℕ) → ((id : ℕ) → Contains ids id → ⊥) → (sums rate ids).fee ≤ℤ pos 0
    nothing [] out = omega (arith, ints)
    nothing (id ∷ ids) out = absurd (out id (Contains-head id ids))

-- ---- fronts of orders
pub front_closed : (graph : Graph) (front rest : List ℕ) → IsTopological graph (front ++ rest) → IsClosedWithin graph.pairs graph.names front
front_closed graph front rest order = record {
  once = distinct-append_left front rest order.once;
  inside = λ id h. (order.names id).0 (Contains-append_left front rest id h);
  parents = λ parent child pair there here.
      let stands = order.parents_first parent child pair in
      stays_before stands.0 stands.1 front rest parent child (sym stands.2) order.once here stands.3;
}

pub flat_optimal : (rate : ℕ → Sum) (graph : Graph) (parts : List (List ℕ)) → HasSizes rate graph.names
    → IsTopological graph (joined parts) → AreChunks rate graph.pairs parts
    → ((ids : List ℕ) → Contains parts ids → IsFlat rate graph.pairs ids) → IsOptimal rate graph parts
flat_optimal rate graph parts some order chunks flat = record {
  order = order;
  chunks = chunks;
  best = λ front rest other. flat_bounds rate graph parts front some order chunks flat (front_closed graph front rest other);
}

regrouped : (a b c d : List ℕ) → a ++ ((b ++ c) ++ d) ≡ (a ++ b) ++ (c ++ d)
regrouped a b c d = ap (λ zs. a ++ zs) (append_assoc b c d) ∙ sym (append_assoc a b (c ++ d))

-- a front of a part is closed within the part
pub part_front_closed : (graph : Graph) (parts : List (List ℕ)) (part front rest : List ℕ)
    → IsTopological graph (joined parts) → Contains parts part → part ≡ front ++ rest → IsClosedWithin graph.pairs part front
part_front_closed graph parts part front rest order h e = record {
  once = distinct-append_left front rest (subst AreDistinct e (joined_distinct parts part h order.once));
  inside = λ id here. subst (λ zs. Contains zs id) (sym e) (Contains-append_left front rest id here);
  parents = λ parent child pair there here.
      let found = joined-part parts part h in
      let whole : joined parts ≡ (found.0 ++ front) ++ (rest ++ found.1) =
      found.2 ∙ ap (λ zs. found.0 ++ (zs ++ found.1)) e ∙ regrouped found.0 front rest found.1 in
      let stands = order.parents_first parent child pair in
      let early = stays_before stands.0 stands.1 (found.0 ++ front) (rest ++ found.1) parent child (sym stands.2 ∙ whole)
      (subst AreDistinct whole order.once) (Contains-append_right found.0 front child here) stands.3 in
      elim (Contains-append_cases found.0 front parent early) [
        | inl before ↦ absurd
            (distinct_apart found.0 (part ++ found.1) parent (subst AreDistinct found.2 order.once) before (Contains-append_left part found.1 parent there))
        | inr now ↦ now
      ];
}

-- ---- certificates
part_of_ids : (parts : List Part) (ids : List ℕ) → Contains (map (λ part. part.ids) parts) ids → (part : Part) × Contains parts part × (part.ids ≡ ids)
part_of_ids [] ids h = absurd (none_in_empty ids h)
part_of_ids (p ∷ parts) ids h = elim (Contains-cases p.ids ids (map (λ part. part.ids) parts) h) [
  | inl same ↦ (p, Contains-head p parts, same)
  | inr later ↦ let found = part_of_ids parts ids later in (found.0, Contains-later p found.0 parts found.1, found.2)
]

pub joined_ids : (parts : List Part) → flat_map (λ part. part.ids) parts ≡ joined (map (λ part. part.ids) parts)
joined_ids [] = refl
joined_ids (p ∷ parts) = ap (λ ids. p.ids ++ ids) (joined_ids parts)

-- parts have the sums over their names
pub rates_are_sums : (rate : ℕ → Sum) (parts : List Part) → ((part : Part) → Contains parts part → part.rate ≡ sums rate part.ids)
    → map (λ part. part.rate) parts ≡ map (sums rate) (map (λ part. part.ids) parts)
rates_are_sums rate [] e = refl
rates_are_sums rate (p ∷ parts) e = λ i. e p (Contains-head p parts) i ∷ rates_are_sums rate parts (λ q h. e q (Contains-later p q parts h)) i

pub certified_optimal : (rate : ℕ → Sum) (graph : Graph) (IsLink : ℕ → ℕ → Type 0) (parts : List Part) → HasSizes rate graph.names
    → ((parent child : ℕ) → IsLink parent child → Contains graph.pairs (parent, child))
    → IsCertificate rate graph IsLink parts → IsOptimal rate graph (map (λ part. part.ids) parts)
certified_optimal rate graph IsLink parts some linked certificate =
    let lists = map (λ part. part.ids) parts in
    let order : IsTopological graph (joined lists) = subst (IsTopological graph) (joined_ids parts) certificate.order.topological in
    let flat : (ids : List ℕ) → Contains lists ids → IsFlat rate graph.pairs ids = λ ids h set closed. (
    let found = part_of_ids parts ids h in
    subst (λ (zs : List ℕ). AtMost (sums rate set) (sums rate zs)) found.2
    (flow_bounds rate IsLink graph.pairs found.0.ids set found.0.flows linked (certificate.flows found.0 found.1)
    (subst (λ (zs : List ℕ). IsClosedWithin graph.pairs zs set) (sym found.2) closed))) in
    flat_optimal rate graph lists some order (record {
      filled = λ ids h. (let found = part_of_ids parts ids h in subst (λ (zs : List ℕ). zs ≢ []) found.2 (certificate.filled found.0 found.1));
      falling = subst Falls (rates_are_sums rate parts certificate.falling.summed) certificate.falling.falling;
      fronts = λ ids front rest h e filled. flat ids h front (part_front_closed graph lists ids front rest order h e);
      together = λ ids h.
          (let found = part_of_ids parts ids h in subst (λ (zs : List ℕ). IsTogether graph.pairs zs) found.2 (certificate.order.together found.0 found.1));
    }) flat

-- a covering pair is one of the pairs: the walk along it has nothing to go through
cover_on_walk : (pairs : List (ℕ × ℕ)) (a b : ℕ) → IsCover pairs a b → (n : ℕ) (c : ℕ) → Walk pairs a c n → c ≡ b → Contains pairs (a, b)
cover_on_walk pairs a b cover zero c walk e = absurd (cover.other (walk ∙ e))
cover_on_walk pairs a b cover (suc n) c walk e =
    let pair : Contains pairs (walk.0, b) = subst (λ (z : ℕ). Contains pairs (walk.0, z)) e walk.2 in
    elim (cover.between walk.0 (n, walk.1) (1, (walk.0, refl, pair))) [
      | inl first ↦ subst (λ (z : ℕ). Contains pairs (z, b)) first pair
      | inr last ↦ cover_on_walk pairs a b cover n walk.0 walk.1 last
    ]

pub covers_are_pairs : (pairs : List (ℕ × ℕ)) (a b : ℕ) → IsCover pairs a b → Contains pairs (a, b)
covers_are_pairs pairs a b cover = cover_on_walk pairs a b cover cover.ancestor.0 b cover.ancestor.1 refl

-- ---- an optimal order bounds closed sets
stands_in : (order : List ℕ) (a b : ℕ) → StandsBefore order a b → Contains order a
stands_in order a b stands = subst (λ (zs : List ℕ). Contains zs a) (sym stands.2) (Contains-append_left stands.0 (b ∷ stands.1) a stands.3)

pub stands-append_right : (xs ys : List ℕ) (a b : ℕ) → StandsBefore xs a b → StandsBefore (xs ++ ys) a b
stands-append_right xs ys a b stands = (stands.0, stands.1 ++ ys, ap (λ zs. zs ++ ys) stands.2 ∙ append_assoc stands.0 (b ∷ stands.1) ys, stands.3)

pub stands-append_left : (xs ys : List ℕ) (a b : ℕ) → StandsBefore ys a b → StandsBefore (xs ++ ys) a b
stands-append_left xs ys a b stands =
    (xs ++ stands.0, stands.1, ap (λ zs. xs ++ zs) stands.2 ∙ sym (append_assoc xs stands.0 (b ∷ stands.1)), Contains-append_right xs stands.0 a stands.3)

pub stands_across : (xs ys : List ℕ) (a b : ℕ) → Contains xs a → Contains ys b → StandsBefore (xs ++ ys) a b
stands_across xs ys a b here there =
    let cut = Contains-splits ys b there in
    (xs ++ cut.0, cut.1, ap (λ zs. xs ++ zs) cut.2 ∙ sym (append_assoc xs cut.0 (b ∷ cut.1)), Contains-append_left xs cut.0 a here)

-- a closed set first, in the order that it has in a linearization, and then the rest, is a linearization
pub set_first : (graph : Graph) (order set : List ℕ) → IsTopological graph order → IsClosedWithin graph.pairs graph.names set
    → IsTopological graph (filter (among set) order ++ filter (λ id. not (among set id)) order)
set_first graph order set topological closed =
    let m = among set in
    let out : ℕ → Bool = λ id. not (among set id) in
    record {
      once = distinct_joined (filter m order) (filter out order) (distinct-filter m order topological.once) (distinct-filter out order topological.once)
          (λ id left right. both_ways (among set id) (not-true (among set id) (filter-Contains out order id right).0) (filter-Contains m order id left).0);
      names = λ id. (
        (λ h. (topological.names id).0 (elim (Contains-append_cases (filter m order) (filter out order) id h) [
          | inl left ↦ (filter-Contains m order id left).1
          | inr right ↦ (filter-Contains out order id right).1
        ])),
        (λ h. let there = (topological.names id).1 h in elim (cases_Bool (among set id)) [
          | inl inside ↦ Contains-append_left (filter m order) (filter out order) id (Contains-filter m order id inside there)
          | inr beyond ↦
              Contains-append_right (filter m order) (filter out order) id (Contains-filter out order id (not_from_false (among set id) beyond) there)
        ]),
      );
      parents_first = λ parent child pair.
          let stands = topological.parents_first parent child pair in
          let there : Contains order parent = stands_in order parent child stands in
          elim (cases_Bool (among set child)) [
            | inl inside ↦
                let above = among_is set parent (closed.parents parent child pair ((topological.names parent).0 there) (among_yes set child inside)) in
                stands-append_right (filter m order) (filter out order) parent child (precedes_filter m order parent child above inside stands)
            | inr beyond ↦
                let last = not_from_false (among set child) beyond in
                elim (cases_Bool (among set parent)) [
                  | inl above ↦ stands_across (filter m order) (filter out order) parent child (Contains-filter m order parent above there)
                      (Contains-filter out order child last (subst (λ (zs : List ℕ). Contains zs child) (sym stands.2)
                      (Contains-append_right stands.0 (child ∷ stands.1) child (Contains-head child stands.1))))
                  | inr outside ↦ stands-append_left (filter m order) (filter out order) parent child
                      (precedes_filter out order parent child (not_from_false (among set parent) outside) last stands)
                ]
          ];
    }

pub optimal_bounds : (rate : ℕ → Sum) (graph : Graph) (parts : List (List ℕ)) (set : List ℕ) → IsOptimal rate graph parts
    → IsClosedWithin graph.pairs graph.names set → IsUnderDiagram (map (sums rate) parts) (sums rate set)
optimal_bounds rate graph parts set optimal closed =
    let order = joined parts in
    subst (λ (point : Sum). IsUnderDiagram (map (sums rate) parts) point) (share_is rate graph order set optimal.order closed)
    (optimal.best (filter (among set) order) (filter (λ id. not (among set id)) order) (set_first graph order set optimal.order closed))
