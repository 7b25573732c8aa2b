-- The parts of an optimal order are flat, so each closed set is under the line of each: what is the same in all optimal orders.
use Rattle.std.proofs.Common.{◌≡◌, ◌≢◌, ℕ, ◌+◌, ◌-◌, ◌≤◌, List, [], ◌∷◌, ◌++◌, map, Bool, not, inl, inr, ℤ, pos, ◌+ℤ◌, ◌-ℤ◌, ◌*ℤ◌, ◌≤ℤ◌, sym, ap, ◌∙◌, subst, arith, append_assoc, append-nil}
use Rattle.std.specs.Prelude.{Contains}
use Rattle.std.specs.List.{filter}
use Rattle.std.proofs.lemmas.Bool.{cases_Bool, not-true, both_ways}
use Rattle.std.proofs.lemmas.Int.{ints}
use Rattle.std.proofs.lemmas.List.{map-append}
use Rattle.std.proofs.lemmas.List.Concat.{flat_map-append}
use Rattle.std.proofs.lemmas.List.Elements.{Contains-append_left, Contains-append_right, Contains-append_cases, filter-append}
use Rattle.fee_rate.proofs.Orders.{at_most_chains}
use Rattle.lists.proofs.Distinct.{distinct_apart, distinct_joined, distinct-filter}
use Rattle.lists.proofs.Entries.{Contains-head, Contains-cases, none_in_empty, Contains-filter, filter-Contains, Contains-splits, map-Contains, Contains-map}
use Rattle.lists.specs.Distinct.{AreDistinct}
use Rattle.arithmetic.proofs.Products.{mul-sub_left, mul-sub_right, scale_keeps, scale_reflects}
use Rattle.fee_rate.specs.declared.rates.Sum.{Sum}
use Rattle.fee_rate.specs.Rates.{AtMost, Same}
use Rattle.graphs.specs.Graphs.{Graph}
use Rattle.graphs.specs.Rates.{sum_of, sums, Falls, HasSizes}
use Rattle.graphs.specs.Linearizations.{IsClosedWithin, IsTopological, IsFlat, IsUnderLine, IsOptimal}
use Rattle.graphs.specs.Drops.{IsDescendantSet}
use Rattle.graphs.proofs.TangentLemmas.{joined, falls_behind, sizes-filter, fees-filter, fees-append, sizes-append, share_at_most}
use Rattle.graphs.proofs.BestLemmas.{sums_same_members, joined-Contains, joined_distinct, sum_of-joined, among, among_yes, among_is, share_closed, share_is, sizes_some, flat_tangent, front_closed, optimal_bounds}

-- ---- closed sets

-- the first parts are a closed set
pub first_closed : (graph : Graph) (xs ys : List (List ℕ)) → IsTopological graph (joined (xs ++ ys)) → IsClosedWithin graph.pairs graph.names (joined xs)
first_closed graph xs ys order = front_closed graph (joined xs) (joined ys) (subst (IsTopological graph) (flat_map-append (λ part. part) xs ys) order)

-- names of a list, each once, are what the list has of them
share_of : (rate : ℕ → Sum) (set ids : List ℕ) → AreDistinct set → AreDistinct ids → ((id : ℕ) → Contains set id → Contains ids id)
    → sums rate (filter (among set) ids) ≡ sums rate set
share_of rate set ids one other inside =
    sums_same_members rate (filter (among set) ids) set (distinct-filter (among set) ids other) one (λ id. (
      (λ h. among_yes set id (filter-Contains (among set) ids id h).0),
      (λ h. Contains-filter (among set) ids id (among_is set id h) (inside id h)),
    ))

within_size : (rate : ℕ → Sum) (set ids : List ℕ) → AreDistinct set → AreDistinct ids → ((id : ℕ) → Contains set id → Contains ids id)
    → (sums rate set).size ≤ (sums rate ids).size
within_size rate set ids one other inside =
    let sizes : (sums rate (filter (among set) ids)).size ≡ (sums rate set).size = ap (λ (s : Sum). s.size) (share_of rate set ids one other inside) in
    omega (arith, sizes, sizes-filter rate (among set) ids)

-- the first parts with a set that is closed within the next part
next_closed : (graph : Graph) (before after : List (List ℕ)) (part set : List ℕ) → IsTopological graph (joined (before ++ part ∷ after))
    → IsClosedWithin graph.pairs part set → IsClosedWithin graph.pairs graph.names (joined before ++ set)
next_closed graph before after part set order closed =
    let cut : joined (before ++ part ∷ after) ≡ joined before ++ (part ++ joined after) = flat_map-append (λ ids. ids) before (part ∷ after) in
    let once : AreDistinct (joined before ++ (part ++ joined after)) = subst AreDistinct cut order.once in
    let early = first_closed graph before (part ∷ after) order in
    let longer : before ++ part ∷ after ≡ (before ++ part ∷ []) ++ after = sym (append_assoc before (part ∷ []) after) in
    let late = first_closed graph (before ++ part ∷ []) after (subst (λ zs. IsTopological graph (joined zs)) longer order) in
    let both : joined (before ++ part ∷ []) ≡ joined before ++ (part ++ []) = flat_map-append (λ ids. ids) before (part ∷ []) in
    let within : (id : ℕ) → Contains set id → Contains (joined (before ++ part ∷ [])) id = λ id h. subst (λ zs. Contains zs id) (sym both)
    (Contains-append_right (joined before) (part ++ []) id (Contains-append_left part [] id (closed.inside id h))) in
    record {
      once = distinct_joined (joined before) set early.once closed.once
          (λ id left right.
          distinct_apart (joined before) (part ++ joined after) id once left (Contains-append_left part (joined after) id (closed.inside id right)));
      inside = λ id h. elim (Contains-append_cases (joined before) set id h) [
        | inl left ↦ early.inside id left
        | inr right ↦ late.inside id (within id right)
      ];
      parents = λ parent child pair there h. elim (Contains-append_cases (joined before) set child h) [
        | inl left ↦ Contains-append_left (joined before) set parent (early.parents parent child pair there left)
        | inr right ↦
            let above = subst (λ zs. Contains zs parent) both (late.parents parent child pair there (within child right)) in
            elim (Contains-append_cases (joined before) (part ++ []) parent above) [
              | inl earlier ↦ Contains-append_left (joined before) set parent earlier
              | inr here ↦ elim (Contains-append_cases part [] parent here) [
                | inl now ↦ Contains-append_right (joined before) set parent (closed.parents parent child pair now right)
                | inr none ↦ absurd (none_in_empty parent none)
              ]
            ]
      ];
    }

-- ---- the line of each part

-- the numbers: a line from where a part begins says of what comes on top that its rate is at most the part's
on_top : (f F c cf : ℤ) (s S z cs : ℕ) → cf ≡ F +ℤ c → cs ≡ S + z → ((cf -ℤ F) *ℤ pos s) ≤ℤ (f *ℤ (pos cs -ℤ pos S)) → (c *ℤ pos s) ≤ℤ (f *ℤ pos z)
on_top f F c cf s S z cs fees sizes line =
    let x : cf -ℤ F ≡ c = omega (arith, ints, fees) in
    let y : pos cs -ℤ pos S ≡ pos z = omega (arith, ints, sizes) in
    subst (λ (w : ℤ). (c *ℤ pos s) ≤ℤ (f *ℤ w)) y (subst (λ (w : ℤ). (w *ℤ pos s) ≤ℤ (f *ℤ (pos cs -ℤ pos S))) x line)

-- no closed set within a part of an optimal order has a greater rate than the part
pub optimal_flat : (rate : ℕ → Sum) (graph : Graph) (before after : List (List ℕ)) (part set : List ℕ) → IsOptimal rate graph (before ++ part ∷ after)
    → IsClosedWithin graph.pairs part set → AtMost (sums rate set) (sums rate part)
optimal_flat rate graph before after part set optimal closed =
    let parts = before ++ part ∷ after in
    let whole = next_closed graph before after part set optimal.order closed in
    let under = optimal_bounds rate graph parts (joined before ++ set) optimal whole in
    let origin : sum_of (map (sums rate) before) ≡ sums rate (joined before) = sum_of-joined rate before in
    let start : (sum_of (map (sums rate) before)).size ≡ (sums rate (joined before)).size = ap (λ (s : Sum). s.size) origin in
    let part_once : AreDistinct part =
    joined_distinct parts part (Contains-append_right before (part ∷ after) part (Contains-head part after)) optimal.order.once in
    let small : (sums rate set).size ≤ (sums rate part).size = within_size rate set part closed.once part_once closed.inside in
    let line = under.lines (map (sums rate) before) (map (sums rate) after) (sums rate part) (map-append (sums rate) before (part ∷ after))
    (omega (arith, start, sizes-append rate (joined before) set)) (omega (arith, start, small, sizes-append rate (joined before) set)) in
    let line' = subst (λ (o : Sum). IsUnderLine o (sums rate part) (sums rate (joined before ++ set))) origin line in
    record {
      crossed = on_top (sums rate part).fee (sums rate (joined before)).fee (sums rate set).fee (sums rate (joined before ++ set)).fee
          (sums rate part).size (sums rate (joined before)).size (sums rate set).size (sums rate (joined before ++ set)).size
          (fees-append rate (joined before) set) (sizes-append rate (joined before) set) line';
    }

pub optimal_parts_flat : (rate : ℕ → Sum) (graph : Graph) (parts : List (List ℕ)) → IsOptimal rate graph parts → (ids : List ℕ) → Contains parts ids
    → IsFlat rate graph.pairs ids
optimal_parts_flat rate graph parts optimal ids h set closed =
    let cut = Contains-splits parts ids h in
    optimal_flat rate graph cut.0 cut.1 ids set (subst (IsOptimal rate graph) cut.2 optimal) closed

pub optimal_tangent : (rate : ℕ → Sum) (graph : Graph) (before after : List (List ℕ)) (part set : List ℕ) → HasSizes rate graph.names
    → IsOptimal rate graph (before ++ part ∷ after)
    → IsClosedWithin graph.pairs graph.names set → IsUnderLine (sums rate (joined before)) (sums rate part) (sums rate set)
optimal_tangent rate graph before after part set some optimal closed =
    flat_tangent rate graph before after part set some optimal.order optimal.chunks (optimal_parts_flat rate graph (before ++ part ∷ after) optimal) closed

-- a part has a size
parts_some : (rate : ℕ → Sum) (graph : Graph) (parts : List (List ℕ)) → HasSizes rate graph.names → IsOptimal rate graph parts → (ids : List ℕ)
    → Contains parts ids → 1 ≤ (sums rate ids).size
parts_some rate graph parts some optimal ids h =
    sizes_some rate ids (optimal.chunks.filled ids h) (λ id there. some id ((optimal.order.names id).0 (joined-Contains parts ids id h there)))

-- ---- the first parts

one_more_fee : (rate : ℕ → Sum) (first : List (List ℕ)) (part : List ℕ)
    → (sums rate (joined (first ++ part ∷ []))).fee ≡ (sums rate (joined first)).fee +ℤ (sums rate part).fee
one_more_fee rate first part =
    ap (λ zs. (sums rate zs).fee) (flat_map-append (λ ids. ids) first (part ∷ [])) ∙ fees-append rate (joined first) (part ++ [])
    ∙ ap (λ zs. (sums rate (joined first)).fee +ℤ (sums rate zs).fee) (append-nil part)

one_more_size : (rate : ℕ → Sum) (first : List (List ℕ)) (part : List ℕ)
    → (sums rate (joined (first ++ part ∷ []))).size ≡ (sums rate (joined first)).size + (sums rate part).size
one_more_size rate first part =
    ap (λ zs. (sums rate zs).size) (flat_map-append (λ ids. ids) first (part ∷ [])) ∙ sizes-append rate (joined first) (part ++ [])
    ∙ ap (λ zs. (sums rate (joined first)).size + (sums rate zs).size) (append-nil part)

-- the numbers: a line that rises, at its end or before it
at_end : (f F cf : ℤ) (s S cs : ℕ) → pos 0 ≤ℤ f → 1 ≤ s → cs ≤ S + s → ((cf -ℤ F) *ℤ pos s) ≤ℤ (f *ℤ (pos cs -ℤ pos S)) → cf ≤ℤ (F +ℤ f)
at_end f F cf s S cs rises some before line =
    let n : ℕ = (S + s) - cs in
    let y : pos cs -ℤ pos S ≡ pos s -ℤ pos n = omega (arith, ints, before) in
    let short : f *ℤ (pos cs -ℤ pos S) ≡ (f *ℤ pos s) -ℤ (f *ℤ pos n) = ap (λ (z : ℤ). f *ℤ z) y ∙ mul-sub_right f (pos s) (pos n) in
    let rest : (pos 0 *ℤ pos n) ≤ℤ (f *ℤ pos n) = scale_keeps n (pos 0) f rises in
    let most : (cf -ℤ F) ≤ℤ f = scale_reflects s (cf -ℤ F) f (omega (arith, some)) (omega (arith, ints, line, short, rest)) in
    omega (arith, ints, most)

pub first_best : (rate : ℕ → Sum) (graph : Graph) (first after : List (List ℕ)) (part set : List ℕ) → HasSizes rate graph.names
    → IsOptimal rate graph ((first ++ part ∷ []) ++ after) → pos 0 ≤ℤ (sums rate part).fee → IsClosedWithin graph.pairs graph.names set
    → (sums rate set).size ≤ (sums rate (joined (first ++ part ∷ []))).size → (sums rate set).fee ≤ℤ (sums rate (joined (first ++ part ∷ []))).fee
first_best rate graph first after part set some optimal rises closed small =
    let optimal' = subst (IsOptimal rate graph) (append_assoc first (part ∷ []) after) optimal in
    let line = optimal_tangent rate graph first after part set some optimal' closed in
    let there : Contains (first ++ part ∷ after) part = Contains-append_right first (part ∷ after) part (Contains-head part after) in
    let size : 1 ≤ (sums rate part).size = parts_some rate graph (first ++ part ∷ after) some optimal' part there in
    let most = at_end (sums rate part).fee (sums rate (joined first)).fee (sums rate set).fee
    (sums rate part).size (sums rate (joined first)).size (sums rate set).size
    rises size (omega (arith, small, one_more_size rate first part)) line in
    omega (arith, ints, most, one_more_fee rate first part)

-- ---- the last part

-- the numbers: where a set and another make up all that ends with a part, the other has at least the part's rate
from_end : (f F cf d : ℤ) (s S cs y : ℕ) → cf +ℤ d ≡ F +ℤ f → cs + y ≡ S + s → ((cf -ℤ F) *ℤ pos s) ≤ℤ (f *ℤ (pos cs -ℤ pos S)) → (f *ℤ pos y) ≤ℤ (d *ℤ pos s)
from_end f F cf d s S cs y fees sizes line =
    let a : cf -ℤ F ≡ f -ℤ d = omega (arith, ints, fees) in
    let b : pos cs -ℤ pos S ≡ pos s -ℤ pos y = omega (arith, ints, sizes) in
    let left : (cf -ℤ F) *ℤ pos s ≡ (f *ℤ pos s) -ℤ (d *ℤ pos s) = ap (λ (z : ℤ). z *ℤ pos s) a ∙ mul-sub_left f d (pos s) in
    let right : f *ℤ (pos cs -ℤ pos S) ≡ (f *ℤ pos s) -ℤ (f *ℤ pos y) = ap (λ (z : ℤ). f *ℤ z) b ∙ mul-sub_right f (pos s) (pos y) in
    omega (arith, ints, line, left, right)

-- what a set with all descendants leaves is closed
left_closed : (graph : Graph) (order set : List ℕ) → IsTopological graph order → IsDescendantSet graph set
    → IsClosedWithin graph.pairs graph.names (filter (λ id. not (among set id)) order)
left_closed graph order set topological below =
    let out : ℕ → Bool = λ id. not (among set id) in
    record {
      once = distinct-filter out order topological.once;
      inside = λ id h. (topological.names id).0 (filter-Contains out order id h).1;
      parents = λ parent child pair there here. elim (cases_Bool (among set parent)) [
        | inl inside ↦
            let goes = among_is set child (below.children parent child pair (among_yes set parent inside)) in
            absurd (both_ways (among set child) (not-true (among set child) (filter-Contains out order child here).0) goes)
        | inr beyond ↦ Contains-filter out order parent (ap not beyond) ((topological.names parent).1 there)
      ];
    }

pub lowest_last : (rate : ℕ → Sum) (graph : Graph) (before : List (List ℕ)) (last set : List ℕ) → HasSizes rate graph.names
    → IsOptimal rate graph (before ++ last ∷ []) → IsDescendantSet graph set → AtMost (sums rate last) (sums rate set)
lowest_last rate graph before last set some optimal below =
    let order = joined (before ++ last ∷ []) in
    let out : ℕ → Bool = λ id. not (among set id) in
    let line = optimal_tangent rate graph before [] last (filter out order) some optimal (left_closed graph order set optimal.order below) in
    let share : sums rate (filter (among set) order) ≡ sums rate set = share_of rate set order below.once optimal.order.once
    (λ id h. (optimal.order.names id).1 (below.inside id h)) in
    let share_fee : (sums rate (filter (among set) order)).fee ≡ (sums rate set).fee = ap (λ (s : Sum). s.fee) share in
    let share_size : (sums rate (filter (among set) order)).size ≡ (sums rate set).size = ap (λ (s : Sum). s.size) share in
    record {
      crossed = from_end (sums rate last).fee (sums rate (joined before)).fee (sums rate (filter out order)).fee (sums rate set).fee
          (sums rate last).size (sums rate (joined before)).size (sums rate (filter out order)).size (sums rate set).size
          (omega (arith, ints, share_fee, fees-filter rate (among set) order, one_more_fee rate before last))
          (omega (arith, share_size, sizes-filter rate (among set) order, one_more_size rate before last)) line;
    }

pub last_is_one : (rate : ℕ → Sum) (graph : Graph) (before : List (List ℕ)) (last : List ℕ) → IsOptimal rate graph (before ++ last ∷ [])
    → IsDescendantSet graph last × (last ≢ [])
last_is_one rate graph before last optimal =
    let parts = before ++ last ∷ [] in
    let there : Contains parts last = Contains-append_right before (last ∷ []) last (Contains-head last []) in
    let cut : joined parts ≡ joined before ++ (last ++ []) = flat_map-append (λ ids. ids) before (last ∷ []) in
    let once : AreDistinct (joined before ++ (last ++ [])) = subst AreDistinct cut optimal.order.once in
    let early = first_closed graph before (last ∷ []) optimal.order in (
      record {
        once = joined_distinct parts last there optimal.order.once;
        inside = λ id h. (optimal.order.names id).0 (joined-Contains parts last id there h);
        children = λ parent child pair h.
            let above : Contains graph.names parent = (optimal.order.names parent).0 (joined-Contains parts last parent there h) in
            let stands = optimal.order.parents_first parent child pair in
            let child_in : Contains (joined parts) child =
            subst (λ zs. Contains zs child) (sym stands.2) (Contains-append_right stands.0 (child ∷ stands.1) child (Contains-head child stands.1)) in
            elim (Contains-append_cases (joined before) (last ++ []) child (subst (λ zs. Contains zs child) cut child_in)) [
              | inl earlier ↦ absurd (distinct_apart (joined before) (last ++ []) parent once
                  (early.parents parent child pair above earlier) (Contains-append_left last [] parent h))
              | inr here ↦ subst (λ zs. Contains zs child) (append-nil last) here
            ];
      },
      optimal.chunks.filled last there,
    )

-- ---- the rate of a name

-- what two closed sets have in common, in the order of one
both_closed : (graph : Graph) (xs ys : List ℕ) → IsClosedWithin graph.pairs graph.names xs → IsClosedWithin graph.pairs graph.names ys
    → IsClosedWithin graph.pairs graph.names (filter (among xs) ys)
both_closed graph xs ys one other = record {
  once = distinct-filter (among xs) ys other.once;
  inside = λ id h. other.inside id (filter-Contains (among xs) ys id h).1;
  parents = λ parent child pair there h.
      let parts = filter-Contains (among xs) ys child h in
      Contains-filter (among xs) ys parent (among_is xs parent (one.parents parent child pair there (among_yes xs child parts.0)))
      (other.parents parent child pair there parts.1);
}

-- no part behind another has a greater rate
rate_behind : (rate : ℕ → Sum) (graph : Graph) (before after : List (List ℕ)) (part : List ℕ) → HasSizes rate graph.names
    → IsOptimal rate graph (before ++ part ∷ after)
    → (ids : List ℕ) → Contains (part ∷ after) ids → AtMost (sums rate ids) (sums rate part)
rate_behind rate graph before after part some optimal ids h =
    let parts = before ++ part ∷ after in
    let list : map (sums rate) parts ≡ map (sums rate) before ++ sums rate part ∷ map (sums rate) after = map-append (sums rate) before (part ∷ after) in
    let sizes : (b : Sum) → Contains (map (sums rate) before ++ sums rate part ∷ map (sums rate) after) b → 1 ≤ b.size =
    subst (λ zs. (b : Sum) → Contains zs b → 1 ≤ b.size) list (λ b k.
    let found = map-Contains (sums rate) parts b k in
    subst (λ (z : Sum). 1 ≤ z.size) found.2 (parts_some rate graph parts some optimal found.0 found.1)) in
    elim (Contains-cases part ids after h) [
      | inl same ↦ subst (λ (z : List ℕ). AtMost (sums rate z) (sums rate part)) same (record { crossed = omega (arith, ints) })
      | inr later ↦
          falls_behind (map (sums rate) before) (map (sums rate) after) (sums rate part) (subst Falls list optimal.chunks.falling) sizes
          (sums rate ids) (Contains-map (sums rate) after ids later)
    ]

rate_at_most : (rate : ℕ → Sum) (graph : Graph) (a1 a2 b1 b2 : List (List ℕ)) (p q : List ℕ) (id : ℕ) → HasSizes rate graph.names
    → IsOptimal rate graph (a1 ++ p ∷ a2) → IsOptimal rate graph (b1 ++ q ∷ b2) → Contains p id → Contains q id → AtMost (sums rate p) (sums rate q)
rate_at_most rate graph a1 a2 b1 b2 p q id some one other here there =
    let first = joined (a1 ++ p ∷ []) in
    let m : ℕ → Bool = among first in
    let order = joined (b1 ++ q ∷ b2) in
    let rest = joined (q ∷ b2) in
    let longer : a1 ++ p ∷ a2 ≡ (a1 ++ p ∷ []) ++ a2 = sym (append_assoc a1 (p ∷ []) a2) in
    let closed = first_closed graph (a1 ++ p ∷ []) a2 (subst (λ zs. IsTopological graph (joined zs)) longer one.order) in
    let common = both_closed graph first (joined b1) closed (first_closed graph b1 (q ∷ b2) other.order) in
    let line = optimal_tangent rate graph a1 a2 p (filter m (joined b1)) some one common in
    let cut : filter m order ≡ filter m (joined b1) ++ filter m rest =
    ap (filter m) (flat_map-append (λ ids. ids) b1 (q ∷ b2)) ∙ filter-append m (joined b1) rest in
    let whole : sums rate (filter m (joined b1) ++ filter m rest) ≡ sums rate first =
    ap (sums rate) (sym cut) ∙ share_is rate graph order first other.order closed in
    let whole_fee : (sums rate (filter m (joined b1) ++ filter m rest)).fee ≡ (sums rate first).fee = ap (λ (s : Sum). s.fee) whole in
    let whole_size : (sums rate (filter m (joined b1) ++ filter m rest)).size ≡ (sums rate first).size = ap (λ (s : Sum). s.size) whole in
    let up : AtMost (sums rate p) (sums rate (filter m rest)) = record {
      crossed = from_end (sums rate p).fee (sums rate (joined a1)).fee (sums rate (filter m (joined b1))).fee (sums rate (filter m rest)).fee
          (sums rate p).size (sums rate (joined a1)).size (sums rate (filter m (joined b1))).size (sums rate (filter m rest)).size
          (omega (arith, ints, whole_fee, fees-append rate (filter m (joined b1)) (filter m rest), one_more_fee rate a1 p))
          (omega (arith, whole_size, sizes-append rate (filter m (joined b1)) (filter m rest), one_more_size rate a1 p)) line;
    } in
    let member : (ids : List ℕ) → Contains (q ∷ b2) ids → Contains (b1 ++ q ∷ b2) ids = λ ids h. Contains-append_right b1 (q ∷ b2) ids h in
    let down : AtMost (sums rate (filter m rest)) (sums rate q) = share_at_most rate m (sums rate q) (q ∷ b2)
    (λ ids h. optimal_parts_flat rate graph (b1 ++ q ∷ b2) other ids (member ids h) (filter m ids)
    (share_closed graph (b1 ++ q ∷ b2) ids first other.order (member ids h) closed))
    (λ ids h. parts_some rate graph (b1 ++ q ∷ b2) some other ids (member ids h))
    (rate_behind rate graph b1 b2 q some other) in
    let id_first : Contains first id = joined-Contains (a1 ++ p ∷ []) p id (Contains-append_right a1 (p ∷ []) p (Contains-head p [])) here in
    let id_rest : Contains (filter m rest) id =
    Contains-filter m rest id (among_is first id id_first) (joined-Contains (q ∷ b2) q id (Contains-head q b2) there) in
    let size : 1 ≤ (sums rate (filter m rest)).size = sizes_some rate (filter m rest) (λ e. none_in_empty id (subst (λ zs. Contains zs id) e id_rest))
    (λ x h. some x (closed.inside x (among_yes first x (filter-Contains m rest x h).0))) in
    at_most_chains (sums rate p) (sums rate (filter m rest)) (sums rate q) size up down

pub one_rate : (rate : ℕ → Sum) (graph : Graph) (a b : List (List ℕ)) (id : ℕ) (p q : List ℕ) → HasSizes rate graph.names → IsOptimal rate graph a
    → IsOptimal rate graph b
    → Contains a p → Contains p id → Contains b q → Contains q id → Same (sums rate p) (sums rate q)
one_rate rate graph a b id p q some one other p_in here q_in there =
    let x = Contains-splits a p p_in in
    let y = Contains-splits b q q_in in
    let one' = subst (IsOptimal rate graph) x.2 one in
    let other' = subst (IsOptimal rate graph) y.2 other in
    let up = rate_at_most rate graph x.0 x.1 y.0 y.1 p q id some one' other' here there in
    let down = rate_at_most rate graph y.0 y.1 x.0 x.1 q p id some other' one' there here in
    record { crossed = omega (arith, ints, up.crossed, down.crossed) }
