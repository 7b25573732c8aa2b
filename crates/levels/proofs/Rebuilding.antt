-- A shelf of which clusters went out and others came in: the numbers of names, and what was left of the store.
use Rattle.std.proofs.Common.{◌≡◌, ◌==◌, ℕ, ◌+◌, ◌-◌, ◌*◌, ◌<◌, ◌≤◌, Bool, true, false, if◌then◌else◌, List, [], ◌∷◌, ◌++◌, length, get_or, drop, Contains, Option, Some, None, is_some, inl, inr, refl, sym, ap, ◌∙◌, subst, subst₂, arith, eqb-true, length-append, length-drop, slice_index_or, take}
use Rattle.std.specs.Prelude.{slice_get, slice_index, option_to_list, IfSome}
use Rattle.std.specs.List.{AllPairs}
use Rattle.std.proofs.lemmas.Bool.{cases_eq, cases_lt}
use Rattle.std.proofs.lemmas.List.{append-nil, get_or-drop, get_or_append_left, get_or_default, get_or_push, take_more}
use Rattle.std.proofs.lemmas.List.Elements.{Contains-append_left, Contains-push, Contains-push_cases}
use Rattle.std.proofs.lemmas.Option.{slice_get-get_or}
use Rattle.std.specs.FinMap as finmap
use Rattle.lists.specs.Distinct.{AreDistinct}
use Rattle.lists.proofs.Entries.{none_in_empty}
use Rattle.lists.proofs.Told.{told_number}
use Rattle.graphs.specs.declared.names.Level.TheVariants.{Top}
use Rattle.cluster.specs.Clusters.{Cluster, AreApart}
use Rattle.chunk_index.specs.declared.entry.Tag.TheVariants.{Both}
use Rattle.cluster_store.specs.Tops.{MayLeave, TopChanges}
use Rattle.levels.specs.Changes.{AreAt, Covers, IsNamed, Loses, Points, PointsOne}
use Rattle.cluster_store.proofs.Listed.{at_some}
use Rattle.cluster_store.specs.Stores.{Numbered, Store, IsStore}
use Rattle.staging.specs.Maps.{Maps, top_of}
use Rattle.levels.specs.Shelves.{AllHave, IsInOrder, seen_at, stored_at}
use Rattle.levels.specs.Tops.{HasFront, IsMade, fresh_from}
use Rattle.levels.specs.Views.{Numbers}
use Rattle.graph_model.specs.declared.names.Limits.{Limits}
use Rattle.record.specs.Records.{IsFitted}
use Rattle.levels.proofs.Calls.{Turns, order_shifted, shelf_of, shifted}
use Rattle.levels.proofs.Making.{Shifts, shifts}
use Rattle.levels.proofs.Pointing.{drop_here, drop_other, names_in}
use Rattle.levels.proofs.Seen.{at_stored, seen_is_stored}
use Rattle.levels.proofs.Ends.{got, index_before, index_last, pairs_last, place_cases}

-- ---- the names behind the first ones of a list

pub in_drop : (n : ℕ) (xs : List ℕ) (x : ℕ) → Contains (drop n xs) x → Contains xs x
in_drop n xs x here =
    let low : n + here.0 < length xs = let less = here.1 in let len = length-drop n xs in omega arith in
    (n + here.0, low, sym (get_or-drop n xs here.0 x) ∙ here.2)

-- a name of a list that isn't among those behind the first ones is one of these
pub in_front : (n : ℕ) (xs : List ℕ) (x : ℕ) → Contains xs x → (Contains (drop n xs) x → ⊥) → (i : ℕ) × (i < n) × (slice_index xs i ≡ x)
in_front n xs x here out = elim (cases_lt here.0 n) [
  | inl low ↦ (here.0, low, get_or_default xs here.0 0 x here.1 ∙ here.2)
  | inr high ↦
      let more : n ≤ here.0 = omega arith in
      let less = here.1 in
      let len = length-drop n xs in
      absurd (out (here.0 - n, omega arith, get_or-drop n xs (here.0 - n) x ∙ ap (λ k. get_or xs k x) (omega arith) ∙ here.2))
]

-- ---- the numbers of names

pub loses_more : (gone : List ℕ) (i : ℕ) (old mid new : Numbers) → i < length gone → Loses (take i gone) old mid
    → new ≡ finmap.remove mid (slice_index_or gone i 0) → Loses (take (i + 1) gone) old new
loses_more gone i old mid new low so is =
    let x = slice_index_or gone i 0 in
    let more : take (i + 1) gone ≡ take i gone ++ x ∷ [] = take_more gone i 0 low in
    record {
      lost = λ id here. elim (Contains-push_cases (take i gone) x id (subst (λ (xs : List ℕ). Contains xs id) more here)) [
        | inl before ↦ elim (cases_eq id x) [
          | inl same ↦ ap (λ (m : Numbers). finmap.get m id) is ∙ ap (finmap.get (finmap.remove mid x)) same ∙ drop_here mid x
          | inr other ↦ ap (λ (m : Numbers). finmap.get m id) is ∙ drop_other mid x id other ∙ so.lost id before
        ]
        | inr same ↦ ap (λ (m : Numbers). finmap.get m id) is ∙ ap (finmap.get (finmap.remove mid x)) (sym same) ∙ drop_here mid x
      ];
      others = λ id kept.
          let out : Contains (take i gone ++ x ∷ []) id → ⊥ = λ here. kept (subst (λ (xs : List ℕ). Contains xs id) (sym more) here) in
          ap (λ (m : Numbers). finmap.get m id) is
          ∙ drop_other mid x id (λ same. out (subst (Contains (take i gone ++ x ∷ [])) (sym same) (Contains-push (take i gone) x)))
          ∙ so.others id (λ here. out (Contains-append_left (take i gone) (x ∷ []) id here));
    }

-- some names go, and those of some clusters get the numbers of these
pub record Turned (gone made : List ℕ) (rest : List Cluster) (old mid new : Numbers) : Type 0 where
  pub lost : Loses gone old mid
  pub points : Points made rest [] mid new

pub points_rest : (gone made : List ℕ) (rest : List Cluster) (old mid new : Numbers) → Turned gone made rest old mid new
    → ((id : ℕ) → Contains gone id → IsNamed rest id → ⊥) → Points made rest gone old new
points_rest gone made rest old mid new t away = record {
  pointed = t.points.pointed;
  lost = λ id here. t.points.others id (away id here) (none_in_empty id) ∙ t.lost.lost id here;
  others = λ id none kept. t.points.others id none (none_in_empty id) ∙ t.lost.others id kept;
}

-- the names of one cluster more, of which the first have the number
pub points_more : (gone made : List ℕ) (rest : List Cluster) (k from : ℕ) (c : Cluster) (old mid new : Numbers) → length made ≡ length rest
    → Points made rest gone old mid → AllPairs AreApart (rest ++ c ∷ []) → ((id : ℕ) → Contains gone id → Contains c.names id → ⊥)
    → ((id : ℕ) → Contains c.names id → (Contains (drop from c.names) id → ⊥) → finmap.get old id ≡ Some k) → PointsOne k (drop from c.names) mid new
    → Points (made ++ k ∷ []) (rest ++ c ∷ []) gone old new
points_more gone made rest k from c old mid new count points apart away front one = record {
  pointed = λ i id d at here. elim (place_cases rest c i d at) [
    | inl before ↦
        let low = got rest i d before in
        one.others id (λ in_c. pairs_last rest c d apart (i, low.0, low.1 d) id here (in_drop from c.names id in_c))
        ∙ points.pointed i id d before here ∙ ap Some (sym (index_before made k i (omega (arith, low.0, count))))
    | inr last ↦
        let held : Contains c.names id = subst (λ (x : Cluster). Contains x.names id) (sym last.1) here in
        let number : Some k ≡ Some (slice_index (made ++ k ∷ []) i) = ap Some (sym (index_last made k i (last.0 ∙ sym count))) in
        elim (told_number (drop from c.names) id) [
          | inl in_c ↦ one.pointed id in_c ∙ number
          | inr out ↦
              one.others id out
              ∙ points.others id (λ named. pairs_last rest c named.0 apart named.1 id named.2 held) (λ gone_too. away id gone_too held)
              ∙ front id held out ∙ number
        ]
  ];
  lost = λ id here. one.others id (λ in_c. away id here (in_drop from c.names id in_c)) ∙ points.lost id here;
  others = λ id none kept.
      one.others id (λ in_c. none (c, Contains-push rest c, in_drop from c.names id in_c))
      ∙ points.others id (λ named. none (named.0, Contains-append_left rest (c ∷ []) named.0 named.1, named.2)) kept;
}

-- the first names have the number, where it is that of the first cluster that went out
pub front_has : (kept k : ℕ) (outs names : List ℕ) (old : Numbers) → HasFront kept outs names old → (id : ℕ) → Contains names id
    → (Contains (drop (fresh_from kept outs k) names) id → ⊥) → finmap.get old id ≡ Some k
front_has kept k [] names old has id here out = absurd (out here)
front_has kept k (first ∷ others) names old has id here out = from (first == k) refl out
  where
    from : (b : Bool) → (first == k) ≡ b → (Contains (drop (if b then kept else 0) names) id → ⊥) → finmap.get old id ≡ Some k
    from true same away =
        let at = in_front kept names id here away in
        ap (finmap.get old) (sym at.2) ∙ has.there first at.0 refl at.1 ∙ ap Some (eqb-true first k same)
    from false other away = absurd (away here)

-- ---- the clusters that came in, by the store

-- those of the first of two lists
pub at_left : (at : ℕ → Option Cluster) (l m : List ℕ) (xs ys : List Cluster) → AreAt at (l ++ m) (xs ++ ys) → length l ≡ length xs → AreAt at l xs
at_left at l m xs ys are count = record {
  count = count;
  stand = λ i c is.
      let low = got xs i c is in
      let inside : slice_get (xs ++ ys) i ≡ Some c = slice_get-get_or (xs ++ ys) i c (omega (arith, low.0, length-append xs ys))
      ∙ ap Some (get_or_append_left xs ys c i low.0 ∙ low.1 c) in
      ap at (sym (get_or_append_left l m 0 i (omega (arith, low.0, count)))) ∙ are.stand i c inside;
}

-- the first of two lists has no name twice where both together have none
pub pairs_left : (xs ys : List Cluster) → AllPairs AreApart (xs ++ ys) → AllPairs AreApart xs
pairs_left xs ys pairs i j d before low =
    let one : get_or (xs ++ ys) i d ≡ get_or xs i d = get_or_append_left xs ys d i (omega (arith, before, low)) in
    let two : get_or (xs ++ ys) j d ≡ get_or xs j d = get_or_append_left xs ys d j low in
    subst₂ AreApart one two (pairs i j d before (omega (arith, low, length-append xs ys)))

-- what came in stands under its numbers
module _ (made : List ℕ) (number : Option ℕ) (rest : List Cluster) (last : Option Cluster) (t : Numbered)
    (stand : AreAt (seen_at Top t) (made ++ option_to_list number) (rest ++ option_to_list last)) (count : length made ≡ length rest) where
  pub rest_stored : AreAt (stored_at t) made rest
  rest_stored = at_stored t made rest (at_left (seen_at Top t) made (option_to_list number) rest (option_to_list last) stand count)

  -- there is a last one where it has a number
  last_of : (k : ℕ) (o : Option Cluster) → length (made ++ k ∷ []) ≡ length (rest ++ option_to_list o) → (c : Cluster) × (o ≡ Some c)
  last_of k None same = absurd (omega (arith, same, count, length-append made (k ∷ []), length-append rest []))
  last_of k (Some c) same = (c, refl)

  pub last_is : (k : ℕ) → number ≡ Some k → (c : Cluster) × (last ≡ Some c)
  last_is k is = last_of k last (subst (λ o. length (made ++ option_to_list o) ≡ length (rest ++ option_to_list last)) is stand.count)

  -- and there is none where it has none
  pub no_last : number ≡ None → last ≡ None
  no_last none = from last refl
    where
      from : (o : Option Cluster) → last ≡ o → last ≡ None
      from None is = is
      from (Some c) is =
          let same : length (made ++ []) ≡ length (rest ++ c ∷ []) =
          subst₂ (λ n o. length (made ++ option_to_list n) ≡ length (rest ++ option_to_list o)) none is stand.count in
          absurd (omega (arith, same, count, length-append made [], length-append rest (c ∷ [])))

  pub last_stored : (k : ℕ) (c : Cluster) → number ≡ Some k → last ≡ Some c → stored_at t k ≡ Some c
  last_stored k c one two =
      let is : AreAt (seen_at Top t) (made ++ k ∷ []) (rest ++ c ∷ []) =
      subst₂ (λ n o. AreAt (seen_at Top t) (made ++ option_to_list n) (rest ++ option_to_list o)) one two stand in
      let here : slice_get (rest ++ c ∷ []) (length rest) ≡ Some c =
      slice_get-get_or (rest ++ c ∷ []) (length rest) c (omega (arith, length-append rest (c ∷ []))) ∙ ap Some (get_or_push rest c c (length rest) refl) in
      seen_is_stored Top t k c (ap (seen_at Top t) (sym (index_last made k (length rest) (sym count))) ∙ is.stand (length rest) c here)

  -- there is room for the names of the last
  pub last_there : (outs : List ℕ) (kept spare : ℕ) (numbers : Numbers) → IfSome last (λ c. HasFront kept outs c.names numbers) → names_in (option_to_list last) ≤ spare
      → IfSome number (λ k. (c : Cluster) × (stored_at t k ≡ Some c) × (kept ≤ length c.names) × (length c.names ≤ spare))
  last_there outs kept spare numbers front room = from number refl
    where
      from : (o : Option ℕ) → number ≡ o → IfSome o (λ k. (c : Cluster) × (stored_at t k ≡ Some c) × (kept ≤ length c.names) × (length c.names ≤ spare))
      from None none = tt
      from (Some k) is =
          let c = last_is k is in
          let has = subst (λ o. IfSome o (λ d. HasFront kept outs d.names numbers)) c.1 front in
          let few : names_in (c.0 ∷ []) ≤ spare = subst (λ o. names_in (option_to_list o) ≤ spare) c.1 room in
          (c.0, last_stored k c.0 is c.1, has.low, omega (arith, few))

-- what goes out may go out
pub may_leave : (staged : Bool) (outs : List ℕ) (olds : List Cluster) (clusters : Numbered) → AreDistinct outs → AreAt (seen_at Top clusters) outs olds
    → (staged ≡ false → AllHave Both clusters) → MayLeave staged outs clusters
may_leave staged outs olds clusters once are both = record {
  once = once;
  there = λ n here. at_some (seen_at Top clusters) outs olds n are here;
  both = both;
}

-- ---- the whole change

-- the names of the last cluster got its number
pub record LastPoints (kept : ℕ) (outs : List ℕ) (number : Option ℕ) (last : Option Cluster) (old new : Numbers) : Type 0 where
  pub points : (k : ℕ) (c : Cluster) → number ≡ Some k → last ≡ Some c → PointsOne k (drop (fresh_from kept outs k) c.names) old new
  pub none : number ≡ None → new ≡ old

-- what is known of the numbers
pub record AreTurned (most kept : ℕ) (outs made : List ℕ) (number : Option ℕ) (rest : List Cluster) (last : Option Cluster) (gone : List ℕ)
    (olds : List Cluster) (old lost mid new : Numbers) : Type 0 where
  pub covers : Covers most olds (rest ++ option_to_list last) gone old
  pub turned : Turned gone made rest old lost mid
  pub count : length made ≡ length rest
  pub counts : length (made ++ option_to_list number) ≡ length (rest ++ option_to_list last)
  pub front : IfSome last (λ c. HasFront kept outs c.names old)
  pub last_points : LastPoints kept outs number last mid new

points_all : (most kept : ℕ) (outs made : List ℕ) (number : Option ℕ) (rest : List Cluster) (last : Option Cluster) (gone : List ℕ) (olds : List Cluster)
    (old lost mid new : Numbers) → AreTurned most kept outs made number rest last gone olds old lost mid new
    → Points (made ++ option_to_list number) (rest ++ option_to_list last) gone old new
points_all most kept outs made None rest None gone olds old lost mid new t =
    let away : (id : ℕ) → Contains gone id → IsNamed rest id → ⊥ = λ id here named.
    (t.covers.lose id here).1 (named.0, Contains-append_left rest [] named.0 named.1, named.2) in
    subst₂ (λ (ns : List ℕ) (cs : List Cluster). Points ns cs gone old new) (sym (append-nil made)) (sym (append-nil rest))
    (subst (λ (m : Numbers). Points made rest gone old m) (sym (t.last_points.none refl)) (points_rest gone made rest old lost mid t.turned away))
points_all most kept outs made (Some k) rest (Some c) gone olds old lost mid new t =
    let away : (id : ℕ) → Contains gone id → IsNamed rest id → ⊥ = λ id here named.
    (t.covers.lose id here).1 (named.0, Contains-append_left rest (c ∷ []) named.0 named.1, named.2) in
    points_more gone made rest k (fresh_from kept outs k) c old mid new t.count (points_rest gone made rest old lost mid t.turned away) t.covers.apart
    (λ id here held. (t.covers.lose id here).1 (c, Contains-push rest c, held)) (front_has kept k outs c.names old t.front)
    (t.last_points.points k c refl refl)
points_all most kept outs made None rest (Some c) gone olds old lost mid new t =
    absurd (omega (arith, t.count, t.counts, length-append made [], length-append rest (c ∷ [])))
points_all most kept outs made (Some k) rest None gone olds old lost mid new t =
    absurd (omega (arith, t.count, t.counts, length-append made (k ∷ []), length-append rest []))

module _ (w kept : ℕ) (limits : Limits) (staged : Bool) (outs made : List ℕ) (number : Option ℕ) (rest : List Cluster) (last : Option Cluster) (gone : List ℕ)
    (olds : List Cluster) (a b : Maps ℕ) (lost mid : Numbers) (s t : Store) (turns : Turns a b) (is : staged ≡ is_some a.top)
    (changes : TopChanges staged outs made number rest last s.clusters t.clusters) (taken : AreAt (seen_at Top s.clusters) outs olds)
    (are : AreTurned (64 * w) kept outs made number rest last gone olds (top_of a) lost mid (top_of b)) where
  shift : Shifts staged outs (made ++ option_to_list number) (rest ++ option_to_list last) (shelf_of limits a s) (shelf_of limits b t)
  shift = shifted limits staged outs (made ++ option_to_list number) (rest ++ option_to_list last) a b s t turns is changes.exchanged

  pub is_made : IsMade w outs made number rest last gone (shelf_of limits a s) (shelf_of limits b t)
  is_made = record {
    olds = olds;
    rebuilds = shifts w staged outs (made ++ option_to_list number) olds (rest ++ option_to_list last) gone (shelf_of limits a s) (shelf_of limits b t) shift taken
        (points_all (64 * w) kept outs made number rest last gone olds (top_of a) lost mid (top_of b) are) are.covers;
    count = changes.count;
  }

  pub order_made : IsInOrder w (shelf_of limits a s)
      → ((c : Cluster) → Contains (rest ++ option_to_list last) c → IsFitted (64 * w) limits c) → IsStore (64 * w) t → IsInOrder w (shelf_of limits b t)
  unfolding is_made
  order_made order fitted store =
      order_shifted w staged outs (made ++ option_to_list number) olds (rest ++ option_to_list last) gone (shelf_of limits a s) (shelf_of limits b t) order shift
      is_made.rebuilds fitted store
