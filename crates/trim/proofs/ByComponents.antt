-- Trimming a graph, and some of its components as a graph of their own: the names of these that are looked at, in their turns, with their marks, are
-- a marking of the part.
use Rattle.std.proofs.Common.{◌≡◌, ◌≢◌, ◌↔◌, ℕ, suc, zero, ◌<◌, length, length-append, Bool, true, false, cond, List, [], ◌∷◌, ◌++◌, inl, inr, refl, sym, ap, ◌∙◌, subst, append_assoc, append-nil, arith, true≢false}
use Rattle.std.specs.Prelude.{Contains, filter, sum_by}
use Rattle.std.proofs.lemmas.Bool.{cases_Bool}
use Rattle.arithmetic.proofs.Sums.{sum_by_along}
use Rattle.lists.proofs.Entries.{Contains-head, Contains-later, Contains-cases, Contains-filter, filter-Contains, Contains-splits, first_of, rest_of}
use Rattle.fee_rate.specs.declared.rates.Sum.{Sum}
use Rattle.fee_rate.specs.Rates.{Below, Same}
use Rattle.graphs.specs.Graphs.{Graph, IsGraph, IsAncestor, Walk, Trail, AreConnected, Lists}
use Rattle.graphs.specs.Drops.{HasParents}
use Rattle.graphs.proofs.BestLemmas.{among, among_yes, among_is}
use Rattle.graphs.proofs.DropLemmas.{up_walk}
use Rattle.graphs.proofs.ListLemmas.{Lists-for}
use Rattle.graphs.proofs.WalkLemmas.{walk_of_pair, AreConnected-sym, AreConnected-trans}
use Rattle.graph_model.specs.Limits.{Bounds, AreOver}
use Rattle.graph_model.specs.Trims.{kept_of, IsCandidate, GoesFirst, PairsAmong, StaysWithin, AreMarked}
use Rattle.graph_model.proofs.TrimLemmas.{Marks, looked_at, entry_kept, kept_entry, entry_looked, looked_entry, kept_front}
use Rattle.trim.specs.Parts.{HasComponentsOf}

-- ---- lists

filter_keep : {A : Type 0} (p : A → Bool) (x : A) (xs : List A) → p x ≡ true → filter p (x ∷ xs) ≡ x ∷ filter p xs
filter_keep p x xs e = ap (λ b. cond b (x ∷ filter p xs) (filter p xs)) e

filter_skip : {A : Type 0} (p : A → Bool) (x : A) (xs : List A) → p x ≡ false → filter p (x ∷ xs) ≡ filter p xs
filter_skip p x xs e = ap (λ b. cond b (x ∷ filter p xs) (filter p xs)) e

-- where what passes is cut at an entry, the list is cut there too
abbrev IsCutAt : {A : Type 0} → (A → Bool) → List A → List A → A → Type 0
IsCutAt {A = A} p xs before x = (front rest : List A) × (xs ≡ front ++ x ∷ rest) × (filter p front ≡ before) × (p x ≡ true)

cut_later : {A : Type 0} (p : A → Bool) (y : A) (ys before now : List A) (x : A) → ((zs : List A) → filter p zs ≡ before → filter p (y ∷ zs) ≡ now)
    → IsCutAt p ys before x → IsCutAt p (y ∷ ys) now x
cut_later p y ys before now x puts cut = (y ∷ cut.0, cut.1, ap (λ zs. y ∷ zs) cut.2, puts cut.0 cut.3, cut.4)

cut_kept : {A : Type 0} (p : A → Bool) (y : A) (ys before after : List A) (x : A) → p y ≡ true
    → ((front : List A) → filter p ys ≡ front ++ x ∷ after → IsCutAt p ys front x) → y ∷ filter p ys ≡ before ++ x ∷ after → IsCutAt p (y ∷ ys) before x
cut_kept p y ys [] after x passed rest e =
    let same : y ≡ x = first_of e in ([], ys, ap (λ z. z ∷ ys) same, refl, ap p (sym same) ∙ passed)
cut_kept p y ys (b ∷ before) after x passed rest e =
    let same : y ≡ b = first_of e in
    cut_later p y ys before (b ∷ before) x (λ zs kept. filter_keep p y zs passed ∙ (λ i. same i ∷ kept i)) (rest before (rest_of e))

pub filter_cut : {A : Type 0} (p : A → Bool) (xs before after : List A) (x : A) → filter p xs ≡ before ++ x ∷ after → IsCutAt p xs before x
filter_cut p [] before after x e = absurd (omega (arith, ap length e, length-append before (x ∷ after)))
filter_cut p (y ∷ ys) before after x e = elim (cases_Bool (p y)) [
  | inl passed ↦ cut_kept p y ys before after x passed (λ front same. filter_cut p ys front after x same) (sym (filter_keep p y ys passed) ∙ e)
  | inr skipped ↦ cut_later p y ys before before x (λ zs same. filter_skip p y zs skipped ∙ same)
      (filter_cut p ys before after x (sym (filter_skip p y ys skipped) ∙ e))
]

-- the pairs of which both ends are among these names
abbrev both_among : List ℕ → ℕ × ℕ → Bool
both_among ids pair = cond (among ids pair.0) (among ids pair.1) false

both_yes : (ids : List ℕ) (a b : ℕ) → both_among ids (a, b) ≡ true → Contains ids a × Contains ids b
both_yes ids a b e = elim (cases_Bool (among ids a)) [
  | inl first ↦ (among_yes ids a first, among_yes ids b (sym (ap (λ (t : Bool). cond t (among ids b) false) first) ∙ e))
  | inr none ↦ absurd (true≢false (sym e ∙ ap (λ (t : Bool). cond t (among ids b) false) none))
]

both_is : (ids : List ℕ) (a b : ℕ) → Contains ids a → Contains ids b → both_among ids (a, b) ≡ true
both_is ids a b here there = ap (λ (t : Bool). cond t (among ids b) false) (among_is ids a here) ∙ among_is ids b there

pairs_among : (pairs : List (ℕ × ℕ)) (ids : List ℕ) → PairsAmong pairs ids (filter (both_among ids) pairs)
pairs_among pairs ids a b = (
  λ here. let found = filter-Contains (both_among ids) pairs (a, b) here in
      let ends = both_yes ids a b found.0 in (found.1, ends.0, ends.1),
  λ is. Contains-filter (both_among ids) pairs (a, b) (both_is ids a b is.1 is.2) is.0,
)

-- ---- walks

-- what is above a name whose parents are all in a set that has all parents
above_parents : (pairs : List (ℕ × ℕ)) (set : List ℕ) (id : ℕ) → HasParents pairs set → ((parent : ℕ) → Contains pairs (parent, id) → Contains set parent)
    → (q n : ℕ) → Walk pairs q id n → (q ≡ id → ⊥) → Contains set q
above_parents pairs set id closed parents q zero same other = absurd (other same)
above_parents pairs set id closed parents q (suc n) walk other = up_walk pairs set closed q walk.0 n walk.1 (parents walk.0 walk.2)

-- a walk to a name of a set that has all parents is along pairs among the set
walk_among : (pairs some : List (ℕ × ℕ)) (set : List ℕ) → HasParents pairs set → PairsAmong pairs set some → (a b n : ℕ) → Walk pairs a b n → Contains set b
    → AreConnected some a b
walk_among pairs some set closed is a b zero same here = (0, same)
walk_among pairs some set closed is a b (suc n) walk here =
    let above : Contains set walk.0 = closed walk.0 b walk.2 here in
    let most = walk_among pairs some set closed is a walk.0 n walk.1 above in
    (suc most.0, (walk.0, most.1, inl ((is walk.0 b).1 (walk.2, above, here))))

-- a name put before a set that has all its parents
with_parents : (pairs : List (ℕ × ℕ)) (set : List ℕ) (id : ℕ) → HasParents pairs set → ((parent : ℕ) → Contains pairs (parent, id) → Contains set parent)
    → HasParents pairs (id ∷ set)
with_parents pairs set id closed parents parent child pair here = elim (Contains-cases id child set here) [
  | inl same ↦ Contains-later id parent set (parents parent (subst (λ (q : ℕ). Contains pairs (parent, q)) (sym same) pair))
  | inr later ↦ Contains-later id parent set (closed parent child pair later)
]

no_parent_itself : (graph : Graph) → IsGraph graph → (parent id : ℕ) → Contains graph.pairs (parent, id) → parent ≡ id → ⊥
no_parent_itself graph whole parent id pair same =
    whole.acyclic id 0 (walk_of_pair graph.pairs id id (subst (λ (q : ℕ). Contains graph.pairs (q, id)) same pair))

-- ---- rates

goes_same : (rate own : ℕ → Sum) (a b : ℕ) → own a ≡ rate a → own b ≡ rate b → GoesFirst rate a b → GoesFirst own a b
goes_same rate own a b first second (inl above) = inl (subst (λ x. Below x (own a)) (sym second) (subst (Below (rate b)) (sym first) above))
goes_same rate own a b first second (inr both) =
    inr (subst (λ x. Same x (own b)) (sym first) (subst (Same (rate a)) (sym second) both.0), both.1)

pub over_same : (bounds : Bounds) (rate own : ℕ → Sum) (ids : List ℕ) → ((q : ℕ) → Contains ids q → own q ≡ rate q) → AreOver bounds (λ q. (own q).size) ids
    → AreOver bounds (λ q. (rate q).size) ids
over_same bounds rate own ids same (inl many) = inl many
over_same bounds rate own ids same (inr large) =
    let sum : sum_by (λ q. (own q).size) ids ≡ sum_by (λ q. (rate q).size) ids =
    sum_by_along (λ q. (own q).size) (λ q. (rate q).size) ids (λ q here. ap (λ (s : Sum). s.size) (same q here)) in
    inr (subst (λ (n : ℕ). bounds.size < n) sum large)

-- ---- a graph and some of its components

module _ (whole part : Graph) (is_whole : IsGraph whole) (is_part : IsGraph part) (of : HasComponentsOf whole part) where
  abbrev passes : ℕ × Bool → Bool
  passes entry = among part.names entry.0

  abbrev pub own_marks : Marks → Marks
  own_marks marked = filter passes marked

  pub kept_down : (marked : Marks) (id : ℕ) → Contains part.names id → Contains (kept_of marked) id → Contains (kept_of (own_marks marked)) id
  kept_down marked id named kept =
      entry_kept (own_marks marked) id (Contains-filter passes marked (id, true) (among_is part.names id named) (kept_entry marked id kept))

  pub kept_up : (marked : Marks) (id : ℕ) → Contains (kept_of (own_marks marked)) id → Contains part.names id × Contains (kept_of marked) id
  kept_up marked id kept =
      let found = filter-Contains passes marked (id, true) (kept_entry (own_marks marked) id kept) in
      (among_yes part.names id found.0, entry_kept marked id found.1)

  looked_down : (marked : Marks) (id : ℕ) → Contains part.names id → Contains (looked_at marked) id → Contains (looked_at (own_marks marked)) id
  looked_down marked id named seen =
      let entry = looked_entry marked id seen in
      entry_looked (own_marks marked) (id, entry.0) (Contains-filter passes marked (id, entry.0) (among_is part.names id named) entry.1)

  looked_up : (marked : Marks) (id : ℕ) → Contains (looked_at (own_marks marked)) id → Contains (looked_at marked) id
  looked_up marked id seen =
      let entry = looked_entry (own_marks marked) id seen in
      entry_looked marked (id, entry.0) (filter-Contains passes marked (id, entry.0) entry.1).1

  -- a parent, by the pairs of one of the two graphs, is an ancestor in the other, and so is of the part
  parent_down : (parent id : ℕ) → Contains part.names id → Contains whole.pairs (parent, id) → Contains part.names parent × IsAncestor part.pairs parent id
  parent_down parent id named pair = (
    of.closed id parent named (1, (id, refl, inr pair)),
    (of.ancestors parent id named).1 (1, walk_of_pair whole.pairs parent id pair),
  )

  parent_up : (parent id : ℕ) → Contains part.pairs (parent, id) → Contains part.names parent × IsAncestor whole.pairs parent id
  parent_up parent id pair =
      let ends = is_part.ends parent id pair in
      (ends.0, (of.ancestors parent id ends.1).0 (1, walk_of_pair part.pairs parent id pair))

  module _ (front : Marks) (closed : HasParents whole.pairs (kept_of front)) where
    own_closed : HasParents part.pairs (kept_of (own_marks front))
    own_closed parent child pair kept =
        let above = parent_up parent child pair in
        kept_down front parent above.0 (up_walk whole.pairs (kept_of front) closed parent child above.1.0 above.1.1 (kept_up front child kept).1)

    pub candidate_down : (id : ℕ) → Contains part.names id → IsCandidate whole front id → IsCandidate part (own_marks front) id
    candidate_down id named is = record {
      named = named;
      fresh = λ seen. is.fresh (looked_up front id seen);
      parents = λ parent pair.
          let above = parent_up parent id pair in
          kept_down front parent above.0
          (above_parents whole.pairs (kept_of front) id closed is.parents parent above.1.0 above.1.1 (no_parent_itself part is_part parent id pair));
    }

    pub candidate_up : (id : ℕ) → IsCandidate part (own_marks front) id → IsCandidate whole front id
    candidate_up id is = record {
      named = of.names id is.named;
      fresh = λ seen. is.fresh (looked_down front id is.named seen);
      parents = λ parent pair.
          let above = parent_down parent id is.named pair in
          (kept_up front parent
          (above_parents part.pairs (kept_of (own_marks front)) id own_closed is.parents parent above.1.0 above.1.1
          (no_parent_itself whole is_whole parent id pair))).1;
    }

    -- ---- beside the names that are kept, the component of a candidate is the same by the pairs of both

    module _ (id : ℕ) (named : Contains part.names id) (is : IsCandidate whole front id) (all some : List (ℕ × ℕ))
        (all_are : PairsAmong whole.pairs (id ∷ kept_of front) all) (some_are : PairsAmong part.pairs (id ∷ kept_of (own_marks front)) some) where
      whole_closed : HasParents whole.pairs (id ∷ kept_of front)
      whole_closed = with_parents whole.pairs (kept_of front) id closed is.parents

      part_closed : HasParents part.pairs (id ∷ kept_of (own_marks front))
      part_closed = with_parents part.pairs (kept_of (own_marks front)) id own_closed (candidate_down id named is).parents

      set_down : (q : ℕ) → Contains part.names q → Contains (id ∷ kept_of front) q → Contains (id ∷ kept_of (own_marks front)) q
      set_down q of_part here = elim (Contains-cases id q (kept_of front) here) [
        | inl same ↦ subst (Contains (id ∷ kept_of (own_marks front))) same (Contains-head id (kept_of (own_marks front)))
        | inr kept ↦ Contains-later id q (kept_of (own_marks front)) (kept_down front q of_part kept)
      ]

      set_up : (q : ℕ) → Contains (id ∷ kept_of (own_marks front)) q → Contains (id ∷ kept_of front) q
      set_up q here = elim (Contains-cases id q (kept_of (own_marks front)) here) [
        | inl same ↦ subst (Contains (id ∷ kept_of front)) same (Contains-head id (kept_of front))
        | inr kept ↦ Contains-later id q (kept_of front) (kept_up front q kept).1
      ]

      pair_down : (a b : ℕ) → Contains part.names b → Contains all (a, b) → Contains part.names a × AreConnected some a b
      pair_down a b of_part pair =
          let there = (all_are a b).0 pair in
          let above = parent_down a b of_part there.0 in
          (above.0, walk_among part.pairs some (id ∷ kept_of (own_marks front)) part_closed some_are a b above.1.0 above.1.1 (set_down b of_part there.2))

      pair_up : (a b : ℕ) → Contains some (a, b) → AreConnected all a b
      pair_up a b pair =
          let there = (some_are a b).0 pair in
          let above = parent_up a b there.0 in
          walk_among whole.pairs all (id ∷ kept_of front) whole_closed all_are a b above.1.0 above.1.1 (set_up b there.2)

      trail_down : (q n : ℕ) → Trail all id q n → Contains part.names q × AreConnected some id q
      trail_down q zero same = (subst (Contains part.names) same named, (0, same))
      trail_down q (suc n) trail =
          let r : ℕ = trail.0 in
          let most = trail_down r n trail.1 in
          elim trail.2 [
            | inl down ↦
                let of_part : Contains part.names q =
                of.closed r q most.0 (1, (r, refl, inl ((all_are r q).0 down).0)) in
                (of_part, AreConnected-trans some id r q most.1 (pair_down r q of_part down).1)
            | inr up ↦
                let step = pair_down q r most.0 up in
                (step.0, AreConnected-trans some id r q most.1 (AreConnected-sym some q r step.1))
          ]

      trail_up : (q n : ℕ) → Trail some id q n → AreConnected all id q
      trail_up q zero same = (0, same)
      trail_up q (suc n) trail =
          let r : ℕ = trail.0 in
          let most = trail_up r n trail.1 in
          elim trail.2 [
            | inl down ↦ AreConnected-trans all id r q most (pair_up r q down)
            | inr up ↦ AreConnected-trans all id r q most (AreConnected-sym all q r (pair_up q r up))
          ]

      lists_down : (ids : List ℕ) → Lists (AreConnected all id) ids → Lists (AreConnected some id) ids
      lists_down ids = Lists-for (AreConnected all id) (AreConnected some id) ids
          (λ q trail. (trail_down q trail.0 trail.1).1) (λ q trail. trail_up q trail.0 trail.1)

      lists_up : (ids : List ℕ) → Lists (AreConnected some id) ids → Lists (AreConnected all id) ids
      lists_up ids = Lists-for (AreConnected some id) (AreConnected all id) ids
          (λ q trail. trail_up q trail.0 trail.1) (λ q trail. (trail_down q trail.0 trail.1).1)

      of_list : (ids : List ℕ) → Lists (AreConnected all id) ids → (q : ℕ) → Contains ids q → Contains part.names q
      of_list ids lists q here = let trail = (lists.exact q).0 here in (trail_down q trail.0 trail.1).0

    module _ (bounds : Bounds) (rate own : ℕ → Sum) (rates : (id : ℕ) → Contains part.names id → own id ≡ rate id)
        (id : ℕ) (named : Contains part.names id) (is : IsCandidate whole front id) where
      pub stays_down : StaysWithin bounds rate whole (kept_of front) id → StaysWithin bounds own part (kept_of (own_marks front)) id
      stays_down stays some ids some_are lists over =
          let all : List (ℕ × ℕ) = filter (both_among (id ∷ kept_of front)) whole.pairs in
          let all_are : PairsAmong whole.pairs (id ∷ kept_of front) all = pairs_among whole.pairs (id ∷ kept_of front) in
          let lists_all : Lists (AreConnected all id) ids = lists_up id named is all some all_are some_are ids lists in
          stays all ids all_are lists_all
          (over_same bounds rate own ids (λ q here. rates q (of_list id named is all some all_are some_are ids lists_all q here)) over)

      pub stays_up : StaysWithin bounds own part (kept_of (own_marks front)) id → StaysWithin bounds rate whole (kept_of front) id
      stays_up stays all ids all_are lists over =
          let some : List (ℕ × ℕ) = filter (both_among (id ∷ kept_of (own_marks front))) part.pairs in
          let some_are : PairsAmong part.pairs (id ∷ kept_of (own_marks front)) some = pairs_among part.pairs (id ∷ kept_of (own_marks front)) in
          stays some ids some_are (lists_down id named is all some all_are some_are ids lists)
          (over_same bounds own rate ids (λ q here. sym (rates q (of_list id named is all some all_are some_are ids lists q here))) over)

  -- ---- the marking of the part

  module _ (bounds : Bounds) (rate own : ℕ → Sum) (rates : (id : ℕ) → Contains part.names id → own id ≡ rate id)
      (marked : Marks) (marks : AreMarked bounds rate whole marked) where
    -- the names that are kept so far have all their parents
    front_closed : (front rest : Marks) → marked ≡ front ++ rest → HasParents whole.pairs (kept_of front)
    front_closed front rest e parent child pair kept =
        let cut = Contains-splits front (child, true) (kept_entry front child kept) in
        let longer : marked ≡ cut.0 ++ (child, true) ∷ (cut.1 ++ rest) =
        e ∙ ap (λ zs. zs ++ rest) cut.2 ∙ append_assoc cut.0 ((child, true) ∷ cut.1) rest in
        let turn = marks.turns cut.0 (cut.1 ++ rest) child true longer in
        subst (λ zs. Contains (kept_of zs) parent) (sym cut.2) (kept_front cut.0 ((child, true) ∷ cut.1) parent (turn.0.parents parent pair))

    abbrev IsTurn : Marks → ℕ → Bool → Type 0
    IsTurn before id mark = IsCandidate part before id × ((other : ℕ) → IsCandidate part before other → other ≢ id → GoesFirst own id other)
        × ((mark ≡ true) ↔ StaysWithin bounds own part (kept_of before) id)

    own_turn : (front rest : Marks) (id : ℕ) (mark : Bool) → marked ≡ front ++ (id, mark) ∷ rest → Contains part.names id → IsTurn (own_marks front) id mark
    own_turn front rest id mark e named =
        let closed : HasParents whole.pairs (kept_of front) = front_closed front ((id, mark) ∷ rest) e in
        let turn = marks.turns front rest id mark e in (
          candidate_down front closed id named turn.0,
          λ other is differ. goes_same rate own id other (rates id named) (rates other is.named) (turn.1 other (candidate_up front closed other is) differ),
          (
            λ kept. stays_down front closed bounds rate own rates id named turn.0 (turn.2.0 kept),
            λ stays. turn.2.1 (stays_up front closed bounds rate own rates id named turn.0 stays),
          ),
        )

    pub part_marks : AreMarked bounds own part (own_marks marked)
    part_marks = record {
      turns = λ before after id mark e.
          let cut = filter_cut passes marked before after (id, mark) e in
          subst (λ zs. IsTurn zs id mark) cut.3 (own_turn cut.0 cut.1 id mark cut.2 (among_yes part.names id cut.4));
      ended = λ id is. marks.ended id (candidate_up marked (front_closed marked [] (sym (append-nil marked))) id is);
    }
