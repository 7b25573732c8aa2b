-- The parts of a level: an optimal order, by falling rate, with sums in range where the level has no more names than are added up.
use Rattle.std.proofs.Common.{◌≡◌, ◌≢◌, ℕ, suc, ◌+◌, ◌*◌, ◌<◌, ◌≤◌, Bool, true, false, ◌||◌, unsigned_abs, List, [], ◌∷◌, ◌++◌, length, map, Contains, get_or, refl, sym, ap, ◌∙◌, subst, arith, length-append, true≢false, eqb-true}
use Rattle.std.specs.Prelude.{sum_by}
use Rattle.std.specs.List.{list_any}
use Rattle.std.specs.Ordering.{nat_cmp, eq_by_cmp}
use Rattle.std.specs.Cmp.{unsigned_tied}
use Rattle.std.specs.FinMap as finmap
use Rattle.std.proofs.lemmas.Int.{ints}
use Rattle.std.proofs.lemmas.List.Concat.{flat_map-append}
use Rattle.std.proofs.lemmas.List.Elements.{Contains-append_left, Contains-append_right, Contains-get_or}
use Rattle.std.proofs.lemmas.List.Sums.{sum_by-cons, sum_by-le}
use Rattle.lists.proofs.Entries.{Contains-head, Contains-later, Contains-splits, map-Contains, map_cut}
use Rattle.arithmetic.proofs.Sums.{total_within}
use Rattle.fee_rate.specs.declared.limits.TheConstants.{MAX_FEE, MAX_SIZE, MAX_TOTAL}
use Rattle.fee_rate.specs.declared.rates.FeeRate.{FeeRate}
use Rattle.fee_rate.specs.declared.rates.Sum.{Sum}
use Rattle.fee_rate.specs.Limits.{IsRate, IsSum}
use Rattle.graphs.specs.declared.names.Level.{Level}
use Rattle.graphs.specs.Certificates.{Part, IsCertificate}
use Rattle.graphs.specs.Closures.{Closure, is_member, rate_of, IsClosed}
use Rattle.graphs.specs.Closing.{IsClosureOf}
use Rattle.graphs.specs.Graphs.{Graph, IsGraph, IsCover}
use Rattle.graphs.specs.Rates.{sum_of, sums, HasSizes}
use Rattle.graphs.proofs.BestLemmas.{sizes_some, sum_of-joined, joined_ids, rates_are_sums}
use Rattle.graphs.proofs.ClosureGraphs.{closures_have_graphs}
use Rattle.graphs.proofs.CornerLemmas.{size_of-cons}
use Rattle.graphs.proofs.PickLemmas.{picks_are_kept}
use Rattle.lists.proofs.Keys.{len-names}
use Rattle.graph_model.specs.Answers.{order_of}
use Rattle.cluster.specs.Clusters.{sum_at}
use Rattle.diagram.specs.Parts.{AreLevelParts}
use Rattle.replacement.specs.Merging.{FitTogether}
use Rattle.levels.specs.Levels.{HasPick, IsBest}
use Rattle.levels.specs.Orders.{sums_of}
use Rattle.levels.specs.Oversize.{IsOversized}
use Rattle.levels.specs.Shelves.{Shelf, IsInOrder, numbers_at, one_of, view_of}
use Rattle.levels.specs.Views.{IsIndexed}
use Rattle.levels.proofs.Finds.{indexed_at}
use Rattle.levels.proofs.Oversizing.{picked}
use Rattle.levels.proofs.Graphs.{live_in, member-number, rate_in_cluster}
use Rattle.levels.proofs.Graphs as graphs

-- ---- lists

sum_told : (rate : ℕ → Sum) (parts : List Part) → ((part : Part) → Contains parts part → part.rate ≡ sums rate part.ids)
    → sum_of (sums_of parts) ≡ sums rate (order_of parts)
sum_told rate parts summed =
    ap sum_of (rates_are_sums rate parts summed) ∙ sum_of-joined rate (map (λ part. part.ids) parts) ∙ ap (sums rate) (sym (joined_ids parts))

-- names with fees and sizes in range: what they pay, and what they measure, is at most so much for each
names_pay : (g : Closure) (ids : List ℕ) → ((id : ℕ) → Contains ids id → IsRate (rate_of g id))
    → (unsigned_abs (sums (sum_at g) ids).fee ≤ MAX_FEE * length ids) × ((sums (sum_at g) ids).size ≤ length ids * MAX_SIZE)
names_pay g ids rates = (
  total_within (λ id. (sum_at g id).fee) MAX_FEE ids (λ k d inside. (rates (get_or ids k d) (Contains-get_or ids k d inside)).fee),
  sum_by-le (λ id. (sum_at g id).size) MAX_SIZE ids (λ k d inside. (rates (get_or ids k d) (Contains-get_or ids k d inside)).size),
)

-- where they are no more than are added up, they have a sum in range
sum_fits : (g : Closure) (ids : List ℕ) → ((id : ℕ) → Contains ids id → IsRate (rate_of g id)) → length ids ≤ MAX_TOTAL
    → IsSum (sums (sum_at g) ids)
sum_fits g ids rates few = let most = names_pay g ids rates in record { fee = omega (arith, ints, most.0); size = omega (arith, ints, most.1) }

-- parts of such names, too, where each fee is taken without its sign
parts_pay : (g : Closure) (parts : List Part) → ((part : Part) → Contains parts part → part.rate ≡ sums (sum_at g) part.ids)
    → ((id : ℕ) → Contains (order_of parts) id → IsRate (rate_of g id))
    → (sum_by (λ (s : Sum). unsigned_abs s.fee) (sums_of parts) ≤ MAX_FEE * length (order_of parts))
    × ((sum_of (sums_of parts)).size ≤ length (order_of parts) * MAX_SIZE)
parts_pay g [] summed rates = (omega (arith, ints), omega (arith, ints))
parts_pay g (p ∷ parts) summed rates =
    let first = names_pay g p.ids (λ id here. rates id (Contains-append_left p.ids (order_of parts) id here)) in
    let rest = parts_pay g parts (λ part here. summed part (Contains-later p part parts here))
    (λ id here. rates id (Contains-append_right p.ids (order_of parts) id here)) in
    let is = summed p (Contains-head p parts) in
    let fee : unsigned_abs p.rate.fee ≤ MAX_FEE * length p.ids = subst (λ (s : Sum). unsigned_abs s.fee ≤ MAX_FEE * length p.ids) (sym is) first.0 in
    let size : p.rate.size ≤ length p.ids * MAX_SIZE = subst (λ (s : Sum). s.size ≤ length p.ids * MAX_SIZE) (sym is) first.1 in
    let names = length-append p.ids (order_of parts) in (
      omega (arith, ints, fee, rest.0, names, sum_by-cons (λ (s : Sum). unsigned_abs s.fee) p.rate (sums_of parts)),
      omega (arith, ints, size, rest.1, names, size_of-cons p.rate (sums_of parts)),
    )

-- a number that no entry of a list reaches
past : List ℕ → ℕ
past [] = 0
past (x ∷ xs) = suc x + past xs

under_past : (xs : List ℕ) (q : ℕ) → list_any (eq_by_cmp nat_cmp q) xs ≡ true → q < past xs
unfolding past
under_past [] q some = absurd (true≢false (sym some))
under_past (x ∷ xs) q some = by (eq_by_cmp nat_cmp q x) refl some (under_past xs q)
  where
    by : (b : Bool) → eq_by_cmp nat_cmp q x ≡ b → (b || list_any (eq_by_cmp nat_cmp q) xs) ≡ true → (list_any (eq_by_cmp nat_cmp q) xs ≡ true → q < past xs)
        → q < suc x + past xs
    by true same any rest = let is : q ≡ x = eqb-true q x (sym (unsigned_tied q x) ∙ same) in omega (arith, is)
    by false other any rest = let low : q < past xs = rest any in omega (arith, low)

-- ---- the parts of a level of a shelf

module _ (w : ℕ) (shelf : Shelf) (order : IsInOrder w shelf) (level : Level) where
  abbrev known : Closure
  known = (one_of level shelf).graph

  abbrev parts : List Part
  parts = (one_of level shelf).parts

  indexed : IsIndexed (64 * w) (view_of level shelf)
  indexed = indexed_at w shelf order level

  pub rated : (id : ℕ) → is_member known id ≡ true → IsRate (rate_of known id)
  rated id live =
      let at = live_in (64 * w) (view_of level shelf) indexed id live in
      let whole = (indexed.whole at.0 at.2.cluster at.2.there).connected in
      let same = rate_in_cluster (64 * w) (view_of level shelf) indexed at.0 id at.2.cluster at.2.there at.2.here in
      subst (λ (rate : FeeRate). IsRate rate) (sym same) (whole.rates id ((whole.members id).1 at.2.here))

  sizes : (graph : Graph) → IsClosureOf known graph → HasSizes (sum_at known) graph.names
  sizes graph closes id here = (rated id ((closes.names id).0 here)).some

  -- ---- a level that isn't over the limits

  module _ (in_limits : IsOversized shelf.limits known → ⊥) where
    its_pick : HasPick (one_of level shelf)
    its_pick = picked w level shelf order in_limits

    -- the parts are an optimal order of every graph with that closure
    pub best : IsBest (one_of level shelf)
    best = record {
      pick = its_pick;
      optimal = λ graph closes. picks_are_kept.optimal (sum_at known) graph parts (sizes graph closes) (its_pick.picked graph closes);
    }

    -- and there is one
    closed : IsClosed (past (finmap.keys known)) known
    unfolding is_member
    closed = record {
      within = λ q member. under_past (finmap.keys known) q (sym (finmap.contains_key-keys known q) ∙ member);
      order = graphs.order_of (64 * w) (view_of level shelf) indexed;
    }

    some_graph : (graph : Graph) × IsGraph graph × IsClosureOf known graph
    some_graph = closures_have_graphs (past (finmap.keys known)) known closed

    module _ (graph : Graph) (closes : IsClosureOf known graph) where
      certificate : IsCertificate (sum_at known) graph (IsCover graph.pairs) parts
      certificate = (its_pick.picked graph closes).certificate

      live : (id : ℕ) → Contains (order_of parts) id → is_member known id ≡ true
      live id here = (closes.names id).0 ((certificate.order.topological.names id).0 here)

      -- the parts have each name once
      counted : length (order_of parts) ≡ finmap.len (numbers_at level shelf)
      counted = len-names (order_of parts) (numbers_at level shelf) certificate.order.topological.once (λ id. (
        λ here. sym (member-number (view_of level shelf) id) ∙ live id here,
        λ there. (certificate.order.topological.names id).1 ((closes.names id).1 (member-number (view_of level shelf) id ∙ there)),
      ))

      module _ (few : finmap.len (numbers_at level shelf) ≤ MAX_TOTAL) where
        as_many : length (order_of parts) ≤ MAX_TOTAL
        as_many = omega (arith, counted, few)

        -- the sum over names that stand together in the order
        piece_fits : (before ids after : List ℕ) → order_of parts ≡ before ++ (ids ++ after) → IsSum (sums (sum_at known) ids)
        piece_fits before ids after is = sum_fits known ids
            (λ id here. rated id (live id (subst (λ (zs : List ℕ). Contains zs id) (sym is)
            (Contains-append_right before (ids ++ after) id (Contains-append_left ids after id here)))))
            (omega (arith, as_many, ap length is, length-append before (ids ++ after), length-append ids after))

        part_fits : (part : Part) → Contains parts part → IsSum part.rate
        part_fits part here =
            let cut = Contains-splits parts part here in
            subst (λ (s : Sum). IsSum s) (sym (certificate.falling.summed part here)) (piece_fits (order_of cut.0) part.ids (order_of cut.1)
            (ap order_of cut.2 ∙ flat_map-append (λ (p : Part). p.ids) cut.0 (part ∷ cut.1)))

        part_some : (part : Part) → Contains parts part → 1 ≤ part.rate.size
        part_some part here =
            let cut = Contains-splits parts part here in
            let is : order_of parts ≡ order_of cut.0 ++ (part.ids ++ order_of cut.1) =
            ap order_of cut.2 ∙ flat_map-append (λ (p : Part). p.ids) cut.0 (part ∷ cut.1) in
            let some : HasSizes (sum_at known) part.ids = λ id there. (rated id (live id (subst (λ (zs : List ℕ). Contains zs id) (sym is)
            (Contains-append_right (order_of cut.0) (part.ids ++ order_of cut.1) id (Contains-append_left part.ids (order_of cut.1) id there))))).some in
            subst (λ (s : Sum). 1 ≤ s.size) (sym (certificate.falling.summed part here))
            (sizes_some (sum_at known) part.ids (certificate.filled part here) some)

        front_fits : (ys zs : List Part) → parts ≡ ys ++ zs → IsSum (sum_of (sums_of ys))
        front_fits ys zs is =
            let summed : (part : Part) → Contains ys part → part.rate ≡ sums (sum_at known) part.ids =
            λ part here. certificate.falling.summed part (subst (λ (ps : List Part). Contains ps part) (sym is) (Contains-append_left ys zs part here)) in
            subst (λ (s : Sum). IsSum s) (sym (sum_told (sum_at known) ys summed))
            (piece_fits [] (order_of ys) (order_of zs) (ap order_of is ∙ flat_map-append (λ (p : Part). p.ids) ys zs))

        paid_by_graph : FitTogether (sums_of parts)
        paid_by_graph =
            let most = parts_pay known parts certificate.falling.summed (λ id here. rated id (live id here)) in
            record {
              some = λ rate here.
                  let found = map-Contains (λ (part : Part). part.rate) parts rate here in
                  subst (λ (s : Sum). 1 ≤ s.size) found.2 (part_some found.0 found.1);
              fees = omega (arith, ints, most.0, as_many);
              sizes = omega (arith, ints, most.1, as_many);
            }

        parts_of_graph : AreLevelParts (sums_of parts)
        parts_of_graph = record {
          falling = certificate.falling.falling;
          some = λ rate here.
              let found = map-Contains (λ (part : Part). part.rate) parts rate here in
              subst (λ (s : Sum). 1 ≤ s.size) found.2 (part_some found.0 found.1);
          ranged = λ rate here.
              let found = map-Contains (λ (part : Part). part.rate) parts rate here in
              subst (λ (s : Sum). IsSum s) found.2 (part_fits found.0 found.1);
          fits = λ front rest is.
              let cut = map_cut (λ (part : Part). part.rate) parts front rest is in
              subst (λ (ss : List Sum). IsSum (sum_of ss)) (sym cut.3) (front_fits cut.0 cut.1 cut.2);
        }

    -- each part has a name
    pub part_filled : (part : Part) → Contains parts part → part.ids ≢ []
    part_filled = (certificate some_graph.0 some_graph.2).filled

    pub level_parts : finmap.len (numbers_at level shelf) ≤ MAX_TOTAL → AreLevelParts (sums_of parts)
    level_parts few = parts_of_graph some_graph.0 some_graph.2 few

    pub level_pays : finmap.len (numbers_at level shelf) ≤ MAX_TOTAL → FitTogether (sums_of parts)
    level_pays few = paid_by_graph some_graph.0 some_graph.2 few
