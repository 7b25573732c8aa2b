-- Names that get numbers.
use Rattle.std.proofs.Common.{◌≡◌, ◌≢◌, ℕ, suc, ◌+◌, ◌<◌, ◌≤◌, cond, nat_eq, List, [], ◌∷◌, length, get_or, drop, Contains, Option, Some, None, is_some, IsSome, inl, inr, refl, sym, ap, ap₂, ◌∙◌, subst, subst₂, arith, eq-eqb, ne_eqb, true≢false}
use Rattle.std.specs.Prelude.{slice_get, slice_index, sum_by, OnSome}
use Rattle.std.specs.List.{AllPairs}
use Rattle.std.proofs.lemmas.Bool.{cases_eq}
use Rattle.std.proofs.lemmas.Option.{same_Some, slice_get_cases}
use Rattle.std.proofs.lemmas.List.Sums.{sum_by-drop_more}
use Rattle.std.specs.Cmp.{nat_cmp_total, unsigned_tied}
use Rattle.std.specs.FinMap as finmap
use Rattle.lists.proofs.Entries.{none_in_empty}
use Rattle.cluster.specs.Clusters.{Cluster, AreApart}
use Rattle.levels.specs.Changes.{AreAt, IsNamed, Points, PointsOne}
use Rattle.staging.specs.Maps.{Maps}
use Rattle.levels.specs.Views.{Numbers}
use Rattle.levels.proofs.Ends.{got}

-- ---- one name

pub get-put : (old : Numbers) (id number : ℕ) (q : ℕ) → finmap.get (finmap.insert old id number) q ≡ cond (nat_eq q id) (Some number) (finmap.get old q)
get-put old id number q = finmap.get-insert nat_cmp_total old id number q ∙ ap (λ b. cond b (Some number) (finmap.get old q)) (unsigned_tied q id)

pub put_here : (old : Numbers) (id number : ℕ) → finmap.get (finmap.insert old id number) id ≡ Some number
put_here old id number = get-put old id number id ∙ ap (λ b. cond b (Some number) (finmap.get old id)) (eq-eqb id id refl)

pub put_other : (old : Numbers) (id number : ℕ) (q : ℕ) → q ≢ id → finmap.get (finmap.insert old id number) q ≡ finmap.get old q
put_other old id number q other = get-put old id number q ∙ ap (λ b. cond b (Some number) (finmap.get old q)) (ne_eqb q id other)

pub get-drop : (old : Numbers) (id : ℕ) (q : ℕ) → finmap.get (finmap.remove old id) q ≡ cond (nat_eq q id) None (finmap.get old q)
get-drop old id q = finmap.get-remove nat_cmp_total old id q ∙ ap (λ b. cond b None (finmap.get old q)) (unsigned_tied q id)

pub drop_here : (old : Numbers) (id : ℕ) → finmap.get (finmap.remove old id) id ≡ None
drop_here old id = get-drop old id id ∙ ap (λ b. cond b None (finmap.get old id)) (eq-eqb id id refl)

pub drop_other : (old : Numbers) (id q : ℕ) → q ≢ id → finmap.get (finmap.remove old id) q ≡ finmap.get old q
drop_other old id q other = get-drop old id q ∙ ap (λ b. cond b None (finmap.get old q)) (ne_eqb q id other)

-- ---- some names

-- the names before the place have the number, and the others what they had
pub record PointsTo (place number : ℕ) (names : List ℕ) (old new : Numbers) : Type 0 where
  pub pointed : (p : ℕ) (d : ℕ) → p < place → p < length names → finmap.get new (get_or names p d) ≡ Some number
  pub others : (id : ℕ) → (Contains names id → ⊥) → finmap.get new id ≡ finmap.get old id

pub points_more : (place number : ℕ) (names : List ℕ) (old mid new : Numbers) (id : ℕ) → PointsTo place number names old mid → Contains names id
    → ((d : ℕ) → get_or names place d ≡ id) → new ≡ finmap.insert mid id number → PointsTo (place + 1) number names old new
points_more place number names old mid new id so here at is = record {
  pointed = λ p d below low. elim (cases_eq (get_or names p d) id) [
    | inl same ↦ ap (λ m. finmap.get m (get_or names p d)) is ∙ ap (finmap.get (finmap.insert mid id number)) same ∙ put_here mid id number
    | inr other ↦
        let less : p < place = elim (cases_eq p place) [
          | inl same ↦ absurd (other (ap (λ q. get_or names q d) same ∙ at d))
          | inr apart ↦ omega arith
        ] in
        ap (λ m. finmap.get m (get_or names p d)) is ∙ put_other mid id number (get_or names p d) other ∙ so.pointed p d less low
  ];
  others = λ q none.
      ap (λ m. finmap.get m q) is ∙ put_other mid id number q (λ same. none (subst (Contains names) (sym same) here)) ∙ so.others q none;
}

pub points_one_of : (number : ℕ) (names : List ℕ) (old new : Numbers) → PointsTo (length names) number names old new → PointsOne number names old new
points_one_of number names old new so = record {
  pointed = λ id here. ap (finmap.get new) (sym here.2) ∙ so.pointed here.0 id here.1 here.1;
  others = so.others;
}

-- ---- the names of some clusters

-- The names of the clusters of the numbers before the place have their numbers.
pub record PointsAllTo (place : ℕ) (list : List ℕ) (clusters : List Cluster) (old new : Numbers) : Type 0 where
  pub pointed : (i id : ℕ) (c : Cluster) → i < place → slice_get clusters i ≡ Some c → Contains c.names id → finmap.get new id ≡ Some (slice_index list i)
  pub others : (id : ℕ) → (IsNamed clusters id → ⊥) → finmap.get new id ≡ finmap.get old id

-- clusters of two places have no name in common
places_apart : (clusters : List Cluster) (i j id : ℕ) (c d : Cluster) → AllPairs AreApart clusters
    → i < j → slice_get clusters i ≡ Some c → slice_get clusters j ≡ Some d
    → Contains c.names id → Contains d.names id → ⊥
places_apart clusters i j id c d apart before one two here there =
    let first = got clusters i c one in
    let second = got clusters j d two in
    (subst₂ AreApart (first.1 c) (second.1 c) (apart i j c before second.0)) id here there

pub all_more : (place : ℕ) (list : List ℕ) (clusters : List Cluster) (old mid new : Numbers) (c : Cluster) → PointsAllTo place list clusters old mid
    → AllPairs AreApart clusters → slice_get clusters place ≡ Some c → PointsOne (slice_index list place) c.names mid new
    → PointsAllTo (place + 1) list clusters old new
all_more place list clusters old mid new c so apart at points = record {
  pointed = λ i id d below is here. elim (cases_eq i place) [
    | inl same ↦
        let one : d ≡ c = same_Some d c (sym is ∙ ap (slice_get clusters) same ∙ at) in
        points.pointed id (subst (λ (x : Cluster). Contains x.names id) one here) ∙ ap (λ k. Some (slice_index list k)) (sym same)
    | inr other ↦
        let less : i < place = omega (arith, below, other) in
        points.others id (λ held. places_apart clusters i place id d c apart less is at here held) ∙ so.pointed i id d less is here
  ];
  others = λ id none.
      points.others id (λ held. let low = got clusters place c at in none (c, (place, low.0, low.1 c), held)) ∙ so.others id none;
}

pub all_of : (list : List ℕ) (clusters : List Cluster) (old new : Numbers) → length list ≡ length clusters → PointsAllTo (length list) list clusters old new
    → Points list clusters [] old new
all_of list clusters old new count so = record {
  pointed = λ i id c at here. so.pointed i id c (let low = got clusters i c at in omega (arith, low.0, count)) at here;
  lost = λ id here. absurd (none_in_empty id here);
  others = λ id none gone. so.others id none;
}

abbrev pub names_in : List Cluster → ℕ
names_in = sum_by (λ (c : Cluster). length c.names)

-- a number of the list has a cluster
pub one_at : (at : ℕ → Option Cluster) (list : List ℕ) (found : List Cluster) (i : ℕ) → AreAt at list found → i < length list
    → (c : Cluster) × (slice_get found i ≡ Some c) × (at (slice_index list i) ≡ Some c)
one_at at list found i are low = elim (slice_get_cases found i).1 [
  | inl some ↦ (some.0, some.2, are.stand i some.0 some.2)
  | inr past ↦ absurd (omega (arith, are.count, past.0))
]

-- and the cluster under it is the one of its place
pub got_here : (at : ℕ → Option Cluster) (list : List ℕ) (found : List Cluster) (i : ℕ) (c : Cluster) → AreAt at list found → i < length list
    → at (slice_index list i) ≡ Some c → slice_get found i ≡ Some c
got_here at list found i c are low is =
    let one = one_at at list found i are low in one.1 ∙ sym one.2 ∙ is

-- there is one list of the clusters under some numbers
pub one_list : (at : ℕ → Option Cluster) (list : List ℕ) (a b : List Cluster) → AreAt at list a → AreAt at list b → a ≡ b
one_list at [] [] [] one two = refl
one_list at [] (c ∷ cs) b one two = absurd (omega (arith, one.count))
one_list at [] [] (d ∷ ds) one two = absurd (omega (arith, two.count))
one_list at (n ∷ ns) [] b one two = absurd (omega (arith, one.count))
one_list at (n ∷ ns) (c ∷ cs) [] one two = absurd (omega (arith, two.count))
one_list at (n ∷ ns) (c ∷ cs) (d ∷ ds) one two =
    ap₂ (λ (x : Cluster) (xs : List Cluster). x ∷ xs) (same_Some c d (sym (one.stand 0 c refl) ∙ two.stand 0 d refl))
    (one_list at ns cs ds (record { count = omega (arith, one.count); stand = λ i e is. one.stand (suc i) e is })
    (record { count = omega (arith, two.count); stand = λ i e is. two.stand (suc i) e is }))

-- the room for the names of those to come is room for those of the next one
pub room_at : (found : List Cluster) (i spare : ℕ) (c : Cluster) → slice_get found i ≡ Some c → names_in (drop i found) ≤ spare
    → length c.names + names_in (drop (i + 1) found) ≤ spare
room_at found i spare c is room =
    let one = got found i c is in
    let more = sum_by-drop_more (λ (e : Cluster). length e.names) found i c one.0 in
    omega (arith, more, ap (λ (e : Cluster). length e.names) (one.1 c))

-- ---- the base, where something is staged

-- what holds where there is something
pub on_some : {X : Type 0} {P : Type 0} (o : Option X) → OnSome o P → IsSome o → P
on_some None holds some = absurd (true≢false (sym some))
on_some (Some x) holds some = holds

pub base_more : (old mid new : Maps ℕ) → is_some mid.top ≡ is_some old.top → OnSome old.top (mid.base ≡ old.base) → OnSome mid.top (new.base ≡ mid.base)
    → OnSome old.top (new.base ≡ old.base)
base_more old mid new staged first second = from old.top mid.top staged first second
  where
    from : (o m : Option Numbers) → is_some m ≡ is_some o → OnSome o (mid.base ≡ old.base) → OnSome m (new.base ≡ mid.base) → OnSome o (new.base ≡ old.base)
    from None m same one two = tt
    from (Some o) None same one two = absurd (true≢false (sym same))
    from (Some o) (Some m) same one two = two ∙ one
