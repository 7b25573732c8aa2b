-- The laws on plain graphs.
use Rattle.std.proofs.Common.{◌≡◌, ℕ, suc, ◌+◌, ◌-◌, ◌<◌, ◌≤◌, Bool, true, false, cond, not, ◌&&◌, ◌||◌, ◌↔◌, nat_eq, nat_lt, List, [], ◌∷◌, length}
use Rattle.std.proofs.Common.{slice_index, Contains, inl, inr, refl, sym, ap, ap₂, ◌∙◌, arith, eq-eqb, eqb-true, true≢false, ltb-true, lt-ltb, le-ltb}
use Rattle.std.proofs.lemmas.Bool.{cases_lt, and_parts, and_from, or_left, false_from_ne_true}
use Rattle.std.proofs.lemmas.List.Elements.{Contains-get_or}
use Rattle.std.specs.Ordering.{nat_cmp}
use Rattle.std.specs.FinSet as fin
use Rattle.graphs.proofs.Members.{contains-members_of}
use Rattle.lists.proofs.Cases.{same_test, true_from_not}
use Rattle.lists.proofs.Distinct.{one_place}
use Rattle.lists.proofs.Entries.{Contains-cases, none_in_empty}
use Rattle.lists.proofs.Rising.{distinct_rising}
use Rattle.graphs.specs.Graphs.{Graph}
use Rattle.graphs.specs.Closures.{Closure, is_member, is_ancestor, members_of, IsClosed, IsCopy, IsMerged, HoldsMembers}
use Rattle.graphs.specs.Closing.{Closes, IsClosureOf, with_name, with_pair, joined, within}
use Rattle.graphs.proofs.ClosingLemmas.{closes_like, closes_added, closes_pair, closes_without, closes_without_all, closes_within, closes_both, closes_renamed, renamed_is}
use Rattle.bitset.specs.Places.{places, IsWithin}
use Rattle.bitset.specs.Sets.{IsRising-places, Contains-places, places-Contains, contains-difference}
use Rattle.dep_graph.specs.Numbers.{number_in, renumbered}
use Rattle.dep_graph.specs.Laws.{PlaceKeepsPairs, PairIsAdded, PairsAreBridged, PairsAreParted, PartIsBridged}

-- ---- changes in place

pub place_keeps_pairs : PlaceKeepsPairs
place_keeps_pairs n place rate g h graph closed c adds =
    closes_like (λ q. nat_eq q place || is_member g q) (λ a d. (nat_eq a place && nat_eq d place) || is_ancestor g a d) (with_name graph place)
    (closes_added (is_member g) (is_ancestor g) graph place c adds.free closed.order.among)
    (is_member h) (is_ancestor h) adds.members (λ a d here there. adds.ancestors a d)

pub pair_is_added : PairIsAdded
pair_is_added parent child g h graph c in_parent in_child apart adds =
    closes_like (is_member g) (λ a d. is_ancestor g a d || (is_ancestor g a parent && is_ancestor g child d)) (with_pair graph parent child)
    (closes_pair (is_member g) (is_ancestor g) graph parent child c in_parent in_child apart)
    (is_member h) (is_ancestor h) adds.members (λ a d here there. adds.ancestors a d)

pub pairs_are_bridged : PairsAreBridged
pairs_are_bridged place g h old new c without drops =
    closes_like (λ q. not (nat_eq q place) && is_member g q) (is_ancestor g) new
    (closes_without (is_member g) (is_ancestor g) old new place c without) (is_member h) (is_ancestor h) drops.members
    (λ a d here there.
    drops.ancestors a d
    ∙ ap₂ (λ x y. x && (y && is_ancestor g a d)) (and_parts (not (nat_eq a place)) (is_member g a) here).0
    (and_parts (not (nat_eq d place)) (is_member g d) there).0)

-- ---- places numbered anew

pub place_at : (xs : List ℕ) (p : ℕ) → Contains xs p → (number_in xs p < length xs) × (slice_index xs (number_in xs p) ≡ p)
place_at [] p h = absurd (none_in_empty p h)
place_at (x ∷ xs) p h = cases (nat_eq p x) refl (λ k. place_at xs p k)
  where
    cases : (b : Bool) → nat_eq p x ≡ b → (Contains xs p → (number_in xs p < length xs) × (slice_index xs (number_in xs p) ≡ p))
        → (cond b 0 (suc (number_in xs p)) < length (x ∷ xs)) × (slice_index (x ∷ xs) (cond b 0 (suc (number_in xs p))) ≡ p)
    cases true e rest = (omega arith, sym (eqb-true p x e))
    cases false e rest = elim (Contains-cases x p xs h) [
      | inl same ↦ absurd (true≢false (sym (eq-eqb p x (sym same)) ∙ e))
      | inr later ↦ let found : (number_in xs p < length xs) × (slice_index xs (number_in xs p) ≡ p) = rest later in (omega (arith, found.0), found.1)
    ]

-- a graph of the places of a set, numbered from `first` on, where h has a copy of them
module _ (n first : ℕ) (g h : Closure) (s : fin.FinSet nat_cmp) (inside : IsWithin n s) (graph : Graph)
    (c : Closes (fin.contains s) (is_ancestor g) graph) (copy : IsCopy g (places n s) first h)
    (k : ℕ → Bool) (k_is : (q : ℕ) → (k q ≡ true) ↔ ((first ≤ q) × (q < first + length (places n s)))) where
  abbrev ps : List ℕ
  ps = places n s

  at : (p : ℕ) → fin.contains s p ≡ true → (number_in ps p < length ps) × (slice_index ps (number_in ps p) ≡ p)
  at p here = place_at ps p (Contains-places n s p (inside p here) here)

  there_at : (i : ℕ) → i < length ps → fin.contains s (slice_index ps i) ≡ true
  there_at i low = (places-Contains n s (slice_index ps i) (Contains-get_or ps i 0 low)).1

  -- the number of the place that stands at i
  number_at : (i : ℕ) → i < length ps → number_in ps (slice_index ps i) ≡ i
  number_at i low = let found = at (slice_index ps i) (there_at i low) in
      one_place ps (number_in ps (slice_index ps i)) i 0 (distinct_rising ps (IsRising-places n s)) found.0 low found.1

  closes_renumbered : Closes k (is_ancestor h) (renumbered ps first graph)
  closes_renumbered = closes_renamed (λ p. first + number_in ps p) (fin.contains s) k (is_ancestor g) (is_ancestor h) graph (renumbered ps first graph) c
      (λ a b here there same.
      let one = at a ((c.names a).0 here) in let two = at b ((c.names b).0 there) in
      let numbers : number_in ps a ≡ number_in ps b = omega (arith, same) in sym one.1 ∙ ap (slice_index ps) numbers ∙ two.1)
      (renamed_is (λ p. first + number_in ps p) graph)
      (λ q. (
        λ e. let low = (k_is q).0 e in let before : q - first < length ps = omega (arith, low.0, low.1) in
            (slice_index ps (q - first), there_at (q - first) before, omega (arith, number_at (q - first) before, low.0)),
        λ found. let place = at found.0 found.1 in (k_is q).1 (omega (arith, found.2), omega (arith, found.2, place.0)),
      ))
      (λ a d here there. let one = at a here in let two = at d there in
      copy.ancestors (number_in ps a) (number_in ps d) one.0 two.0 ∙ ap₂ (is_ancestor g) one.1 two.1)

-- numbered from 0 on, for a part
module _ (n : ℕ) (g : Closure) (closed : IsClosed n g) (s : fin.FinSet nat_cmp) (members : HoldsMembers g s) where
  pub low : IsWithin n s
  low p here = closed.within p (members p here)

  pub from_zero : (len : ℕ) (h : Closure) → ((q : ℕ) → is_member h q ≡ nat_lt q len) → (q : ℕ) → (is_member h q ≡ true) ↔ ((0 ≤ q) × (q < 0 + len))
  from_zero len h is q = (λ e. (omega arith, omega (arith, ltb-true q len (sym (is q) ∙ e))), λ both. is q ∙ lt-ltb q len (omega (arith, both.1)))

pub pairs_are_parted : PairsAreParted
pairs_are_parted n g h s graph closed c members between part =
    closes_renumbered n 0 g h s (low n g closed s members) (within (fin.contains s) graph)
    (closes_like (λ q. fin.contains s q && is_member g q) (is_ancestor g) (within (fin.contains s) graph)
    (closes_within (is_member g) (fin.contains s) (is_ancestor g) graph c between) (fin.contains s) (is_ancestor g)
    (λ q. same_test (fin.contains s q) (fin.contains s q && is_member g q)
    (λ e. and_from (fin.contains s q) (is_member g q) e (members q e)) (λ e. (and_parts (fin.contains s q) (is_member g q) e).0))
    (λ a d here there. refl))
    part.copy (is_member h) (from_zero n g closed s members (length (places n s)) h part.members)

pub part_is_bridged : PartIsBridged
part_is_bridged n g h s old left closed c members without part =
    closes_renumbered n 0 g h s (low n g closed s members) left
    (closes_without_all (places n (fin.difference (members_of g) s)) (is_member g) (is_ancestor g) old left c without (fin.contains s) (λ q. (
      λ e. (
        members q e,
        λ gone. true≢false (sym (and_parts (is_member g q) (not (fin.contains s q)) (sym (others q)
            ∙ (places-Contains n (fin.difference (members_of g) s) q gone).1)).1 ∙ ap not e),
      ),
      λ both. true_from_not (fin.contains s q) (false_from_ne_true (not (fin.contains s q)) (λ out.
          both.1 (Contains-places n (fin.difference (members_of g) s) q (closed.within q both.0)
          (others q ∙ and_from (is_member g q) (not (fin.contains s q)) both.0 out)))),
    )))
    part.copy (is_member h) (from_zero n g closed s members (length (places n s)) h part.members)
  where
    others : (q : ℕ) → fin.contains (fin.difference (members_of g) s) q ≡ (is_member g q && not (fin.contains s q))
    others q = contains-difference (members_of g) s q ∙ ap (λ b. b && not (fin.contains s q)) (contains-members_of g q)

-- the members of a whole graph as a set
by_set : (g : Closure) (graph : Graph) → IsClosureOf g graph → Closes (fin.contains (members_of g)) (is_ancestor g) graph
by_set g graph c =
    closes_like (is_member g) (is_ancestor g) graph c (fin.contains (members_of g)) (is_ancestor g) (contains-members_of g) (λ a d here there. refl)

within_all : (n : ℕ) (g : Closure) → IsClosed n g → IsWithin n (members_of g)
within_all n g closed p here = closed.within p (sym (contains-members_of g p) ∙ here)

module _ (n : ℕ) (f g h : Closure) (first second : Graph) (closed : IsClosed n f) (closed' : IsClosed n g) (c : IsClosureOf f first) (c' : IsClosureOf g second)
    (merged : IsMerged f g (places n (members_of f)) (places n (members_of g)) h) where
  abbrev mid : ℕ
  mid = length (places n (members_of f))

  abbrev end : ℕ
  end = length (places n (members_of f)) + length (places n (members_of g))

  abbrev one : ℕ → Bool
  one q = nat_lt q mid

  abbrev two : ℕ → Bool
  two q = not (nat_lt q mid) && nat_lt q end

  one_is : (q : ℕ) → (one q ≡ true) ↔ ((0 ≤ q) × (q < 0 + mid))
  one_is q = (λ e. (omega arith, omega (arith, ltb-true q mid e)), λ both. lt-ltb q mid (omega (arith, both.1)))

  two_is : (q : ℕ) → (two q ≡ true) ↔ ((mid ≤ q) × (q < mid + length (places n (members_of g))))
  two_is q = (
    λ e. let both = and_parts (not (nat_lt q mid)) (nat_lt q end) e in (
      elim (cases_lt q mid) [ inl less ↦ absurd (true≢false (sym both.0 ∙ ap not (lt-ltb q mid less))) | inr more ↦ more ],
      ltb-true q end both.1,
    ),
    λ both. and_from (not (nat_lt q mid)) (nat_lt q end) (ap not (le-ltb q mid both.0)) (lt-ltb q end both.1),
  )

  either : (q : ℕ) → is_member h q ≡ (one q || two q)
  either q = merged.members q ∙ elim (cases_lt q mid) [
    | inl less ↦ lt-ltb q end (omega arith) ∙ sym (or_left (one q) (two q) (lt-ltb q mid less))
    | inr more ↦ sym (ap (λ b. b || (not b && nat_lt q end)) (le-ltb q mid more))
  ]

  first_closed : Closes one (is_ancestor h) (renumbered (places n (members_of f)) 0 first)
  first_closed = closes_renumbered n 0 f h (members_of f) (within_all n f closed) first (by_set f first c) merged.first one one_is

  second_closed : Closes two (is_ancestor h) (renumbered (places n (members_of g)) mid second)
  second_closed = closes_renumbered n mid g h (members_of g) (within_all n g closed') second (by_set g second c') merged.second two two_is

  pub pairs_are_merged : IsClosureOf h (joined (renumbered (places n (members_of f)) 0 first) (renumbered (places n (members_of g)) mid second))
  pairs_are_merged =
      closes_like (λ q. one q || two q) (is_ancestor h)
      (joined (renumbered (places n (members_of f)) 0 first) (renumbered (places n (members_of g)) mid second))
      (closes_both one two (is_ancestor h) (renumbered (places n (members_of f)) 0 first)
      (renumbered (places n (members_of g)) mid second) first_closed second_closed
      (λ q here there. let below = ((one_is q).0 here).1 in let above = ((two_is q).0 there).0 in omega (arith, below, above))
      (λ a b here there. let below = ((one_is a).0 here).1 in let above = ((two_is b).0 there).0 in merged.apart a b (omega (arith, below)) above))
      (is_member h) (is_ancestor h) either (λ a d here there. refl)
