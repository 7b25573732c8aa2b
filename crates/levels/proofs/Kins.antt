-- The ancestors, or the descendants, of names that lie in several clusters, and which clusters these are.
use Rattle.std.proofs.Common.{◌≡◌, ℕ, ◌+◌, ◌*◌, ◌<◌, ◌≤◌, true, List, [], ◌∷◌, ◌++◌, length, flat_map, get_or, slice_index, take, drop, nat_eq, All, Contains, ◌≢◌, Option, None, Some, is_some, inl, inr, refl, sym, ap, ◌∙◌, subst, append_assoc, append-nil, length-append, eqb-true, ne_eqb, true≢false, arith}
use Rattle.std.specs.Prelude.{IfErr, Result, Ok, Err, option_to_list}
use Rattle.std.specs.Option.{option_eq}
use Rattle.std.proofs.lemmas.Bool.{cases_lt}
use Rattle.std.proofs.lemmas.List.{get_or-drop, get_or_default, length-drop, length-take-le, take-append-drop, take_more}
use Rattle.std.specs.Cmp.{nat_eq_equiv}
use Rattle.std.specs.FinMap as finmap
use Rattle.std.specs.List.{IsDistinct}
use Rattle.std.specs.List.Sorted.{IsPermutation, IsNonDecreasing}
use Rattle.std.proofs.lemmas.List.Elements.{All-contains, All-push, Contains-append_cases, Contains-append_left, Contains-append_right, Contains-get_or}
use Rattle.std.proofs.lemmas.List.Sorted.{Contains-permutation, IsNonDecreasingBy-drop, IsPermutation-sym}
use Rattle.std.proofs.lemmas.Map.Keys.{IsDistinct-IsPermutation, IsDistinct-from_apart, IsStrictlyIncreasing-from_distinct}
use Rattle.std.proofs.lemmas.Option.{none-some, same_Some}
use Rattle.lists.specs.Distinct.{AreDistinct}
use Rattle.lists.proofs.Distinct.{distinct_joined, distinct_within, distinct_without, places_apart}
use Rattle.lists.proofs.Entries.{Contains-between, Contains-cases, Contains-head, Contains-later, Contains-splits, none_in_empty}
use Rattle.lists.proofs.Flats.{flat_has, flat_of, flat_once}
use Rattle.lists.proofs.Keys.{names-within}
use Rattle.fee_rate.specs.declared.limits.TheConstants.{MAX_TOTAL}
use Rattle.graphs.specs.Closures.{Closure, is_ancestor}
use Rattle.graphs.specs.Graphs.{Lists}
use Rattle.graphs.specs.Unions.{IsKinOfSome, PutsBehind, is_kin}
use Rattle.graphs.specs.declared.names.Kin.{Kin}
use Rattle.graphs.specs.declared.names.Kin.TheVariants.{Ancestors, Descendants}
use Rattle.graphs.specs.declared.names.Level.{Level}
use Rattle.cluster.specs.Clusters.{Cluster}
use Rattle.cluster_store.specs.Names.{names_seen}
use Rattle.levels.specs.Shelves.{HaveFew, IsInOrder, Shelf, numbers_at, seen_at, stored_at, view_of}
use Rattle.levels.specs.Unions.{AreGrouped, IsFirstRun, LieIn, LieUnder, key_in, key_of, names_under}
use Rattle.levels.specs.Views.{IsClusterOf, IsIndexed, Numbers, graph_of}
use Rattle.levels.proofs.Finds.{indexed_at}
use Rattle.levels.proofs.Found.{cluster_of}
use Rattle.levels.proofs.Graphs.{in_above, in_live, live_in, names_of_above}
use Rattle.levels.proofs.Members.{all_names, in_option, of_seen}
use Rattle.levels.proofs.Seen.{seen_is_stored}

-- ---- names that stand side by side, cut between two clusters

pub record IsCut (numbers : Numbers) (ids done left : List ℕ) : Type 0 where
  pub whole : ids ≡ done ++ left
  pub apart : (a b : ℕ) → Contains done a → Contains left b → finmap.get numbers a ≡ finmap.get numbers b → ⊥
  pub grouped : AreGrouped numbers left

pub cut_first : (numbers : Numbers) (ids : List ℕ) → AreGrouped numbers ids → IsCut numbers ids [] ids
cut_first numbers ids grouped = record { whole = refl; apart = λ a b here. absurd (none_in_empty a here); grouped = grouped }

module _ (numbers : Numbers) (ids done left run rest : List ℕ) (o : Option ℕ) (cut : IsCut numbers ids done left) (first : IsFirstRun numbers left run rest o) where
  pub cut_next : IsCut numbers ids (done ++ run) rest
  cut_next = record {
    whole = cut.whole ∙ ap (λ (xs : List ℕ). done ++ xs) first.split ∙ sym (append_assoc done run rest);
    apart = λ a b here there same. elim (Contains-append_cases done run a here) [
      | inl before ↦ cut.apart a b before (subst (λ (xs : List ℕ). Contains xs b) (sym first.split) (Contains-append_right run rest b there)) same
      | inr inside ↦ first.rest_hasnt b there (sym same ∙ first.run_has a inside)
    ];
    grouped = first.grouped;
  }

  abbrev head : ℕ
  head = get_or run 0 0

  head_in : Contains run head
  head_in = Contains-get_or run 0 0 first.some

  head_left : Contains left head
  head_left = subst (λ (xs : List ℕ). Contains xs head) (sym first.split) (Contains-append_left run rest head head_in)

  -- the number of the run is none of those before
  pub new_number : (level : Level) (shelf : Shelf) (ns : List ℕ) → numbers ≡ numbers_at level shelf → LieUnder level shelf done ns
      → (n : ℕ) → o ≡ Some n → Contains ns n → ⊥
  new_number level shelf ns is under n some here =
      let found = (under.exact n).0 here in
      cut.apart found.0 head found.1 head_left
      (ap (λ (m : Numbers). finmap.get m found.0) is ∙ found.2 ∙ sym some ∙ sym (first.run_has head head_in))

  pub run_left : (b : ℕ) → Contains run b → Contains left b
  run_left b here = subst (λ (xs : List ℕ). Contains xs b) (sym first.split) (Contains-append_left run rest b here)

-- ---- the first run

same_option : (a b : Option ℕ) → option_eq nat_eq a b ≡ true → a ≡ b
same_option None None e = refl
same_option (Some x) (Some y) e = ap Some (eqb-true x y e)
same_option None (Some y) e = absurd (true≢false (sym e))
same_option (Some x) None e = absurd (true≢false (sym e))

key_same : (a b : Option ℕ) → key_of a ≡ key_of b → a ≡ b
key_same None None e = refl
key_same (Some x) (Some y) e = ap Some (let same : x + 1 ≡ y + 1 = e in omega arith)
key_same None (Some y) e = absurd (let same : 0 ≡ y + 1 = e in omega arith)
key_same (Some x) None e = absurd (let same : x + 1 ≡ 0 = e in omega arith)

-- one name more has the number
pub run_more : (numbers : Numbers) (ids : List ℕ) (at : ℕ) (o found : Option ℕ) → at < length ids
    → found ≡ finmap.get numbers (slice_index ids at) → option_eq nat_eq found o ≡ true
    → All (λ id. finmap.get numbers id ≡ o) (take at ids) → All (λ id. finmap.get numbers id ≡ o) (take (at + 1) ids)
run_more numbers ids at o found low is same all =
    subst (All (λ id. finmap.get numbers id ≡ o)) (sym (take_more ids at 0 low))
    (All-push (λ id. finmap.get numbers id ≡ o) (take at ids) (slice_index ids at) all (sym is ∙ same_option found o same))

-- names of the number up to one of another, where all are grouped
pub first_is : (numbers : Numbers) (ids : List ℕ) (r : ℕ) (o : Option ℕ) → AreGrouped numbers ids → 0 < length ids
    → o ≡ finmap.get numbers (slice_index ids 0) → r ≤ length ids → All (λ id. finmap.get numbers id ≡ o) (take r ids)
    → (r < length ids → finmap.get numbers (slice_index ids r) ≢ o) → IsFirstRun numbers ids (take r ids) (drop r ids) o
first_is numbers ids r o grouped filled first within all last =
    let one : 0 < r = elim (cases_lt 0 r) [
      | inl some ↦ some
      | inr none ↦
          let zero : r ≡ 0 = omega (arith, none) in
          absurd (last (omega (arith, zero, filled)) (ap (λ (k : ℕ). finmap.get numbers (slice_index ids k)) zero ∙ sym first))
    ] in
    record {
      split = sym (take-append-drop r ids);
      some = omega (arith, length-take-le r ids within, one);
      run_has = λ id here. All-contains (λ id. finmap.get numbers id ≡ o) (take r ids) id all here;
      rest_hasnt = λ id (p, low, at) same.
          let long = length-drop r ids in
          let there : get_or ids (r + p) id ≡ id = sym (get_or-drop r ids p id) ∙ at in
          let rises = grouped r (r + p) id (omega arith) (omega (arith, low, long)) in
          let begins = grouped 0 r id (omega arith) (omega (arith, low, long)) in
          let end : key_in numbers (get_or ids (r + p) id) ≡ key_of o = ap (key_in numbers) there ∙ ap key_of same in
          let begin : key_in numbers (get_or ids 0 id) ≡ key_of o = ap (key_in numbers) (get_or_default ids 0 id 0 filled) ∙ ap key_of (sym first) in
          last (omega (arith, low, long))
          (ap (λ (x : ℕ). finmap.get numbers x) (sym (get_or_default ids r id 0 (omega (arith, low, long))))
          ∙ key_same (finmap.get numbers (get_or ids r id)) o (omega (arith, rises, begins, end, begin)));
      grouped = IsNonDecreasingBy-drop (key_in numbers) r ids grouped;
    }

-- a run of itself and what is behind it
pub run_again : (numbers : Numbers) (left run rest : List ℕ) (o : Option ℕ) → IsFirstRun numbers left run rest o
    → IsFirstRun numbers (run ++ rest) run rest o
run_again numbers left run rest o first =
    record { split = refl; some = first.some; run_has = first.run_has; rest_hasnt = first.rest_hasnt; grouped = first.grouped }

-- ---- the numbers of clusters

-- those of a run come to those before
under_next : (level : Level) (shelf : Shelf) (done run ns : List ℕ) (o : Option ℕ) → LieUnder level shelf done ns → 0 < length run
    → ((id : ℕ) → Contains run id → finmap.get (numbers_at level shelf) id ≡ o) → ((n : ℕ) → o ≡ Some n → Contains ns n → ⊥)
    → LieUnder level shelf (done ++ run) (option_to_list o ++ ns)
under_next level shelf done run ns None under some same new = record {
  once = under.once;
  exact = λ n. (
    λ here. let found = (under.exact n).0 here in (found.0, Contains-append_left done run found.0 found.1, found.2),
    λ (id, there, is). elim (Contains-append_cases done run id there) [
      | inl before ↦ (under.exact n).1 (id, before, is)
      | inr inside ↦ absurd (none-some n (sym (same id inside) ∙ is))
    ],
  );
}
under_next level shelf done run ns (Some m) under some same new = record {
  once = (new m refl, under.once);
  exact = λ n. (
    λ here. elim (Contains-cases m n ns here) [
      | inl is ↦
          let first = Contains-get_or run 0 0 some in
          (get_or run 0 0, Contains-append_right done run (get_or run 0 0) first, same (get_or run 0 0) first ∙ ap Some is)
      | inr later ↦ let found = (under.exact n).0 later in (found.0, Contains-append_left done run found.0 found.1, found.2)
    ],
    λ (id, there, is). elim (Contains-append_cases done run id there) [
      | inl before ↦ Contains-later m n ns ((under.exact n).1 (id, before, is))
      | inr inside ↦ subst (λ (k : ℕ). Contains (m ∷ ns) k) (same_Some m n (sym (same id inside) ∙ is)) (Contains-head m ns)
    ],
  );
}

-- how long a flat list is, where one entry is taken out
long_without : (f : ℕ → List ℕ) (before after : List ℕ) (n : ℕ)
    → length (flat_map f (before ++ n ∷ after)) ≡ length (f n) + length (flat_map f (before ++ after))
long_without f [] after n = length-append (f n) (flat_map f after)
long_without f (m ∷ before) after n =
    let rest = long_without f before after n in
    omega (arith, rest, length-append (f m) (flat_map f (before ++ n ∷ after)), length-append (f m) (flat_map f (before ++ after)))

-- and those of a run go from those that are left
pub record IsLess (level : Level) (shelf : Shelf) (rest ns : List ℕ) (o : Option ℕ) : Type 0 where
  pub numbers : List ℕ
  pub under : LieUnder level shelf rest numbers
  pub long : length (names_under level shelf (option_to_list o)) + length (names_under level shelf numbers) ≡ length (names_under level shelf ns)

module _ (level : Level) (shelf : Shelf) (left run rest ns : List ℕ) (under : LieUnder level shelf left ns) where
  abbrev find : ℕ → Option ℕ
  find id = finmap.get (numbers_at level shelf) id

  abbrev names_at : ℕ → List ℕ
  names_at n = names_seen (seen_at level shelf.store.clusters n)

  listed_less : (n : ℕ) (before after : List ℕ) → ns ≡ before ++ n ∷ after → IsFirstRun (numbers_at level shelf) left run rest (Some n)
      → LieUnder level shelf rest (before ++ after)
  listed_less n before after is first =
      let apart = distinct_without before after n (subst AreDistinct is under.once) in
      record {
        once = apart.0;
        exact = λ k. (
          λ here.
              let among : Contains ns k = subst (λ (xs : List ℕ). Contains xs k) (sym is) (elim (Contains-append_cases before after k here) [
                | inl early ↦ Contains-append_left before (n ∷ after) k early
                | inr late ↦ Contains-append_right before (n ∷ after) k (Contains-later n k after late)
              ]) in
              let (id, there, has) = (under.exact k).0 among in
              elim (Contains-append_cases run rest id (subst (λ (xs : List ℕ). Contains xs id) first.split there)) [
                | inl inside ↦ absurd (apart.1 (subst (λ (m : ℕ). Contains (before ++ after) m) (same_Some k n (sym has ∙ first.run_has id inside)) here))
                | inr behind ↦ (id, behind, has)
              ],
          λ (id, behind, has).
              let among : Contains ns k = (under.exact k).1
              (id, subst (λ (xs : List ℕ). Contains xs id) (sym first.split) (Contains-append_right run rest id behind), has) in
              elim (Contains-between before after n k (subst (λ (xs : List ℕ). Contains xs k) is among)) [
                | inl same ↦ absurd (first.rest_hasnt id behind (has ∙ ap Some (sym same)))
                | inr there ↦ there
              ],
        );
      }

  pub under_less : (o : Option ℕ) → IsFirstRun (numbers_at level shelf) left run rest o → IsLess level shelf rest ns o
  under_less None first = record {
    numbers = ns;
    under = record {
      once = under.once;
      exact = λ k. (
        λ here.
            let (id, there, has) = (under.exact k).0 here in
            elim (Contains-append_cases run rest id (subst (λ (xs : List ℕ). Contains xs id) first.split there)) [
              | inl inside ↦ absurd (none-some k (sym (first.run_has id inside) ∙ has))
              | inr behind ↦ (id, behind, has)
            ],
        λ (id, behind, has).
            (under.exact k).1 (id, subst (λ (xs : List ℕ). Contains xs id) (sym first.split) (Contains-append_right run rest id behind), has),
      );
    };
    long = omega arith;
  }
  under_less (Some n) first =
      let one = Contains-get_or run 0 0 first.some in
      let here : Contains ns n = (under.exact n).1 (
        get_or run 0 0,
        subst (λ (xs : List ℕ). Contains xs (get_or run 0 0)) (sym first.split) (Contains-append_left run rest (get_or run 0 0) one),
        first.run_has (get_or run 0 0) one,
      ) in
      let cut = Contains-splits ns n here in
      record {
        numbers = cut.0 ++ cut.1;
        under = listed_less n cut.0 cut.1 cut.2 first;
        long = omega (
          arith,
          ap (λ (xs : List ℕ). length (flat_map names_at xs)) cut.2,
          long_without names_at cut.0 cut.1 n,
          ap length (append-nil (names_at n)),
        );
      }

-- ---- the clusters of the numbers

more_than : (f : ℕ → List ℕ) (ns : List ℕ) → ((n : ℕ) → Contains ns n → 0 < length (f n)) → length ns ≤ length (flat_map f ns)
more_than f [] some = omega arith
more_than f (n ∷ ns) some =
    let rest = more_than f ns (λ m here. some m (Contains-later n m ns here)) in
    let one = some n (Contains-head n ns) in
    omega (arith, rest, one, length-append (f n) (flat_map f ns))

-- as many are listed as there are numbers, where each has one
one_each : (at : ℕ → Option Cluster) (ns : List ℕ) → ((n : ℕ) → Contains ns n → (c : Cluster) × (at n ≡ Some c))
    → length (flat_map (λ n. option_to_list (at n)) ns) ≡ length ns
one_each at [] some = refl
one_each at (n ∷ ns) some =
    let rest = one_each at ns (λ m here. some m (Contains-later n m ns here)) in
    let one = some n (Contains-head n ns) in
    omega (
      arith,
      rest,
      ap (λ (o : Option Cluster). length (option_to_list o)) one.1,
      length-append (option_to_list (at n)) (flat_map (λ m. option_to_list (at m)) ns),
    )

module _ (w : ℕ) (level : Level) (shelf : Shelf) (order : IsInOrder w shelf) where
  abbrev finds : ℕ → Option ℕ
  finds id = finmap.get (numbers_at level shelf) id

  abbrev own : ℕ → List ℕ
  own n = names_seen (seen_at level shelf.store.clusters n)

  abbrev graph : Closure
  graph = graph_of (view_of level shelf)

  indexed : IsIndexed (64 * w) (view_of level shelf)
  indexed = indexed_at w shelf order level

  -- a name is one of the cluster of its number, and of no other
  pub held : (id n : ℕ) → finds id ≡ Some n → (c : Cluster) × (seen_at level shelf.store.clusters n ≡ Some c) × Contains c.names id
  held id n is = let at = indexed.stands id n is in (at.cluster, at.there, at.here)

  -- and so with the names of a run
  pub run_held : (run rest : List ℕ) (o : Option ℕ) (n : ℕ) → IsFirstRun (numbers_at level shelf) (run ++ rest) run rest o → o ≡ Some n
      → (c : Cluster) × (seen_at level shelf.store.clusters n ≡ Some c) × (stored_at shelf.store.clusters n ≡ Some c)
      × ((id : ℕ) → Contains run id → Contains c.names id)
  run_held run rest o n first is =
      let one = held (get_or run 0 0) n (first.run_has (get_or run 0 0) (Contains-get_or run 0 0 first.some) ∙ is) in (
        one.0,
        one.1,
        seen_is_stored level shelf.store.clusters n one.0 one.1,
        λ id here.
            let its = held id n (first.run_has id here ∙ is) in
            subst (λ (c : Cluster). Contains c.names id) (same_Some its.0 one.0 (sym its.1 ∙ one.1)) its.2,
      )

  -- a number's names are those of its cluster
  pub one_long : (o : Option ℕ) (n : ℕ) (c : Cluster) → o ≡ Some n → seen_at level shelf.store.clusters n ≡ Some c
      → length (names_under level shelf (option_to_list o)) ≡ length c.names
  one_long o n c is there =
      ap (λ (p : Option ℕ). length (names_under level shelf (option_to_list p))) is
      ∙ ap length (append-nil (own n)) ∙ ap (λ (p : Option Cluster). length (names_seen p)) there

  own_of : (id n : ℕ) → finds id ≡ Some n → Contains (own n) id
  own_of id n is =
      let at = held id n is in subst (λ (o : Option Cluster). Contains (names_seen o) id) (sym at.1) at.2

  of_own : (id n : ℕ) → Contains (own n) id → finds id ≡ Some n
  of_own id n here =
      let seen = of_seen (seen_at level shelf.store.clusters n) id here in indexed.listed n id seen.0 seen.1 seen.2

  own_once : (n : ℕ) (o : Option Cluster) → seen_at level shelf.store.clusters n ≡ o → AreDistinct (names_seen o)
  own_once n None is = tt
  own_once n (Some c) is = (indexed.whole n c is).connected.once

  under_once : (ns : List ℕ) → AreDistinct ns → AreDistinct (names_under level shelf ns)
  under_once ns once =
      flat_once own ns once (λ n _. own_once n (seen_at level shelf.store.clusters n) refl)
      (λ n m id _ _ here there. same_Some n m (sym (of_own id n here) ∙ of_own id m there))

  -- they have no more names than the level, and are no more
  pub under_few : (ids ns : List ℕ) → LieUnder level shelf ids ns → HaveFew shelf
      → (length (names_under level shelf ns) ≤ MAX_TOTAL) × (length ns ≤ MAX_TOTAL)
  under_few ids ns under few =
      let most = few level in
      let names = names-within (names_under level shelf ns) (numbers_at level shelf) (under_once ns under.once)
      (λ q here. let at = flat_of own ns q here in ap is_some (of_own q at.0 at.2)) in
      let many = more_than own ns (λ n here.
      let found = (under.exact n).0 here in
      let inside = own_of found.0 n found.2 in
      omega (arith, inside.1)) in
      (omega (arith, most, names), omega (arith, most, names, many))

  -- they are the components that the names lie in
  pub lie_in : (ids ns : List ℕ) → LieUnder level shelf ids ns
      → (clusters : List Cluster) × LieIn graph ids clusters × (length clusters ≡ length ns)
      × (length (flat_map (λ (c : Cluster). c.names) clusters) ≡ length (names_under level shelf ns))
  lie_in ids ns under =
      let at : ℕ → Option Cluster = λ n. seen_at level shelf.store.clusters n in
      let names = all_names at ns in (
        flat_map (λ n. option_to_list (at n)) ns,
        record {
          each = λ c here.
              let found = flat_of (λ n. option_to_list (at n)) ns c here in
              let is = in_option (at found.0) c found.2 in
              let (id, listed, has) = (under.exact found.0).0 found.1 in
              let its = held id found.0 has in
              let inside = subst (λ (d : Cluster). Contains d.names id) (same_Some its.0 c (sym its.1 ∙ is)) its.2 in (
                id,
                listed,
                in_live (64 * w) (view_of level shelf) indexed found.0 id c is inside,
                cluster_of (64 * w) (view_of level shelf) indexed found.0 c is id inside,
              );
          once = subst AreDistinct (sym names) (under_once ns under.once);
          all = λ id listed live.
              let stands = live_in (64 * w) (view_of level shelf) indexed id live in
              let among = (under.exact stands.0).1 (id, listed, stands.1) in (
                stands.2.cluster,
                flat_has (λ n. option_to_list (at n)) ns stands.0 stands.2.cluster among
                    (subst (λ (o : Option Cluster). Contains (option_to_list o) stands.2.cluster) (sym stands.2.there) (Contains-head stands.2.cluster [])),
                stands.2.here,
              );
        },
        one_each at ns (λ n here. let found = (under.exact n).0 here in let its = held found.0 n found.2 in (its.0, its.1)),
        ap length names,
      )

  -- and so with what an error tells
  pub needs_lie : {T : Type 0} (ids : List ℕ) (r : Result T ℕ)
      → IfErr r (λ needs. (ns : List ℕ) × LieUnder level shelf ids ns × (needs ≡ length (names_under level shelf ns)))
      → IfErr r (λ needs. (clusters : List Cluster) × LieIn graph ids clusters × (needs ≡ length (flat_map (λ (c : Cluster). c.names) clusters)))
  needs_lie ids (Ok x) told = tt
  needs_lie ids (Err n) (ns, under, is) = let lie = lie_in ids ns under in (lie.0, lie.1, is ∙ sym lie.3)

  -- ---- kin are of one cluster

  above_numbers : (a d : ℕ) → is_ancestor graph a d ≡ true → (n : ℕ) × (finds a ≡ Some n) × (finds d ≡ Some n)
  above_numbers a d up =
      let at = in_above (64 * w) (view_of level shelf) indexed a d up in
      let ends = names_of_above (64 * w) (view_of level shelf) indexed at.number a d at.cluster at.there at.above in
      (at.number, indexed.listed at.number a at.cluster at.there ends.0, indexed.listed at.number d at.cluster at.there ends.1)

  kin_numbers : (kin : Kin) (a id : ℕ) → is_kin kin graph a id ≡ true → (n : ℕ) × (finds a ≡ Some n) × (finds id ≡ Some n)
  kin_numbers Ancestors a id up = above_numbers a id up
  kin_numbers Descendants a id down = let at = above_numbers id a down in (at.0, at.2, at.1)

  kin_same : (kin : Kin) (c : Cluster) (a id : ℕ) → IsClusterOf graph id c → is_kin kin graph a id ≡ is_kin kin c.graph a id
  kin_same Ancestors c a id is = is.above a id is.here
  kin_same Descendants c a id is = is.below id a is.here

  -- those of names of one cluster, told by the level
  pub kin_within : (kin : Kin) (n : ℕ) (c : Cluster) (run old new : List ℕ) → seen_at level shelf.store.clusters n ≡ Some c
      → ((id : ℕ) → Contains run id → Contains c.names id) → PutsBehind (IsKinOfSome kin c.graph run) old new
      → PutsBehind (IsKinOfSome kin graph run) old new
  kin_within kin n c run old new is here adds =
      let same : (a id : ℕ) → Contains run id → is_kin kin graph a id ≡ is_kin kin c.graph a id = λ a id there.
      kin_same kin c a id (cluster_of (64 * w) (view_of level shelf) indexed n c is id (here id there)) in
      record {
        more = adds.more;
        behind = adds.behind;
        once = adds.once;
        exact = λ a. (
          λ told. let found = (adds.exact a).0 told in (found.0, found.1, same a found.0 found.1 ∙ found.2),
          λ (id, there, kin_is). (adds.exact a).1 (id, there, sym (same a id there) ∙ kin_is),
        );
      }

  -- names that the level hasn't have none
  pub kin_none : (kin : Kin) (run ids : List ℕ) → ((id : ℕ) → Contains run id → finds id ≡ None) → PutsBehind (IsKinOfSome kin graph run) ids ids
  kin_none kin run ids none = record {
    more = [];
    behind = sym (append-nil ids);
    once = tt;
    exact = λ a. (
      λ here. absurd (none_in_empty a here),
      λ (id, there, is). let at = kin_numbers kin a id is in absurd (none-some at.0 (sym (none id there) ∙ at.2)),
    );
  }

  -- they are no more than the cluster has names
  pub kin_few : (kin : Kin) (n : ℕ) (run old new : List ℕ) → ((id : ℕ) → Contains run id → finds id ≡ Some n)
      → PutsBehind (IsKinOfSome kin graph run) old new → length new ≤ length old + length (names_under level shelf (n ∷ []))
  kin_few kin n run old new has adds =
      let few = (distinct_within (λ x. 0) adds.more (own n) adds.once (λ a here.
      let (id, there, is) = (adds.exact a).0 here in
      let at = kin_numbers kin a id is in
      own_of a n (at.1 ∙ sym at.2 ∙ has id there))).0 in
      omega (arith, few, ap length adds.behind, length-append old adds.more, ap length (append-nil (own n)))

  -- those of names before a cut and of a run behind it
  pub kin_joined : (kin : Kin) (ids done left run rest xs ys : List ℕ) (o : Option ℕ) → IsCut (numbers_at level shelf) ids done left
      → IsFirstRun (numbers_at level shelf) left run rest o → PutsBehind (IsKinOfSome kin graph done) [] xs
      → PutsBehind (IsKinOfSome kin graph run) xs ys → PutsBehind (IsKinOfSome kin graph (done ++ run)) [] ys
  kin_joined kin ids done left run rest xs ys o cut first one two = record {
    more = one.more ++ two.more;
    behind = two.behind ∙ ap (λ (zs : List ℕ). zs ++ two.more) one.behind;
    once = distinct_joined one.more two.more one.once two.once (λ a here there.
        let (id, before, is) = (one.exact a).0 here in
        let (r, inside, also) = (two.exact a).0 there in
        let at = kin_numbers kin a id is in
        let its = kin_numbers kin a r also in
        cut.apart id r before (run_left (numbers_at level shelf) ids done left run rest o cut first r inside)
        (at.2 ∙ sym at.1 ∙ its.1 ∙ sym its.2));
    exact = λ a. (
      λ here. elim (Contains-append_cases one.more two.more a here) [
        | inl early ↦ let found = (one.exact a).0 early in (found.0, Contains-append_left done run found.0 found.1, found.2)
        | inr late ↦ let found = (two.exact a).0 late in (found.0, Contains-append_right done run found.0 found.1, found.2)
      ],
      λ (id, there, is). elim (Contains-append_cases done run id there) [
        | inl before ↦ Contains-append_left one.more two.more a ((one.exact a).1 (id, before, is))
        | inr inside ↦ Contains-append_right one.more two.more a ((two.exact a).1 (id, inside, is))
      ],
    );
  }

-- ---- partway through clusters

-- clusters were counted, with their names
pub record IsMeasured (level : Level) (shelf : Shelf) (ids left : List ℕ) (clusters names : ℕ) : Type 0 where
  pub done : List ℕ
  pub numbers : List ℕ
  pub cut : IsCut (numbers_at level shelf) ids done left
  pub under : LieUnder level shelf done numbers
  pub clusters_are : clusters ≡ length numbers
  pub names_are : names ≡ length (names_under level shelf numbers)

pub measured_none : (level : Level) (shelf : Shelf) (ids : List ℕ) → AreGrouped (numbers_at level shelf) ids → IsMeasured level shelf ids ids 0 0
measured_none level shelf ids grouped = record {
  done = [];
  numbers = [];
  cut = cut_first (numbers_at level shelf) ids grouped;
  under = record {
    once = tt;
    exact = λ n. (λ here. absurd (none_in_empty n here), λ (id, here, is). absurd (none_in_empty id here));
  };
  clusters_are = refl;
  names_are = refl;
}

module _ (level : Level) (shelf : Shelf) (ids left run rest : List ℕ) (o : Option ℕ) (clusters names : ℕ)
    (way : IsMeasured level shelf ids left clusters names) (first : IsFirstRun (numbers_at level shelf) left run rest o) where
  abbrev more : List ℕ
  more = option_to_list o ++ way.numbers

  next_under : LieUnder level shelf (way.done ++ run) more
  next_under =
      under_next level shelf way.done run way.numbers o way.under first.some first.run_has
      (new_number (numbers_at level shelf) ids way.done left run rest o way.cut first level shelf way.numbers refl way.under)

  names_next : (p : Option ℕ) → length (names_under level shelf (option_to_list p ++ way.numbers))
      ≡ length (names_under level shelf (option_to_list p)) + length (names_under level shelf way.numbers)
  names_next None = omega arith
  names_next (Some n) =
      omega (
        arith,
        length-append (names_seen (seen_at level shelf.store.clusters n)) (names_under level shelf way.numbers),
        ap length (append-nil (names_seen (seen_at level shelf.store.clusters n))),
      )

  pub measured_next : (one many : ℕ) → one ≡ length (option_to_list o) → many ≡ length (names_under level shelf (option_to_list o))
      → IsMeasured level shelf ids rest (clusters + one) (names + many)
  measured_next one many one_is many_is =
      let c = way.clusters_are in
      let n = way.names_are in
      record {
        done = way.done ++ run;
        numbers = more;
        cut = cut_next (numbers_at level shelf) ids way.done left run rest o way.cut first;
        under = next_under;
        clusters_are = omega (arith, length-append (option_to_list o) way.numbers);
        names_are = omega (arith, names_next o);
      }

pub measured_few : (w : ℕ) (level : Level) (shelf : Shelf) → IsInOrder w shelf → HaveFew shelf → (ids left : List ℕ) (clusters names : ℕ)
    → IsMeasured level shelf ids left clusters names → (clusters ≤ MAX_TOTAL) × (names ≤ MAX_TOTAL)
measured_few w level shelf order few ids left clusters names way =
    let most = under_few w level shelf order way.done way.numbers way.under few in
    let c = way.clusters_are in
    let n = way.names_are in
    (omega (arith, most.1), omega (arith, most.0))

pub measured_all : (level : Level) (shelf : Shelf) (ids left : List ℕ) (clusters names : ℕ) → left ≡ [] → IsMeasured level shelf ids left clusters names
    → (numbers : List ℕ) × LieUnder level shelf ids numbers × (clusters ≡ length numbers) × (names ≡ length (names_under level shelf numbers))
measured_all level shelf ids left clusters names none way =
    let all : ids ≡ way.done = way.cut.whole ∙ ap (λ (xs : List ℕ). way.done ++ xs) none ∙ append-nil way.done in
    (way.numbers, subst (λ (xs : List ℕ). LieUnder level shelf xs way.numbers) (sym all) way.under, way.clusters_are, way.names_are)

-- kin of names were put into a list, and there is room for those of the others
pub record IsAdding (kin : Kin) (level : Level) (shelf : Shelf) (ids left out : List ℕ) (room : ℕ) : Type 0 where
  pub done : List ℕ
  pub numbers : List ℕ
  pub cut : IsCut (numbers_at level shelf) ids done left
  pub under : LieUnder level shelf left numbers
  pub fits : length (names_under level shelf numbers) ≤ room
  pub adds : PutsBehind (IsKinOfSome kin (graph_of (view_of level shelf)) done) [] out

pub adding_none : (kin : Kin) (level : Level) (shelf : Shelf) (ids numbers : List ℕ) (out : List ℕ) (room : ℕ) → out ≡ []
    → AreGrouped (numbers_at level shelf) ids → LieUnder level shelf ids numbers → length (names_under level shelf numbers) ≤ room
    → IsAdding kin level shelf ids ids out room
adding_none kin level shelf ids numbers out room empty grouped under fits = record {
  done = [];
  numbers = numbers;
  cut = cut_first (numbers_at level shelf) ids grouped;
  under = under;
  fits = fits;
  adds = record {
    more = [];
    behind = empty;
    once = tt;
    exact = λ a. (λ here. absurd (none_in_empty a here), λ (id, here, is). absurd (none_in_empty id here));
  };
}

module _ (w : ℕ) (kin : Kin) (level : Level) (shelf : Shelf) (order : IsInOrder w shelf) (ids left run rest out : List ℕ) (o : Option ℕ) (room : ℕ)
    (way : IsAdding kin level shelf ids left out room) (first : IsFirstRun (numbers_at level shelf) left run rest o) where
  less : IsLess level shelf rest way.numbers o
  less = under_less level shelf left run rest way.numbers way.under o first

  pub run_fits : length (names_under level shelf (option_to_list o)) ≤ room
  run_fits = let long = less.long in let fits = way.fits in omega arith

  pub adding_next : (new : List ℕ) (now : ℕ) → PutsBehind (IsKinOfSome kin (graph_of (view_of level shelf)) run) out new
      → length new ≤ length out + length (names_under level shelf (option_to_list o)) → length new + now ≡ length out + room
      → IsAdding kin level shelf ids rest new now
  adding_next new now adds few same =
      let long = less.long in
      let fits = way.fits in
      record {
        done = way.done ++ run;
        numbers = less.numbers;
        cut = cut_next (numbers_at level shelf) ids way.done left run rest o way.cut first;
        under = less.under;
        fits = omega arith;
        adds = kin_joined w level shelf order kin ids way.done left run rest out new o way.cut first way.adds adds;
      }

pub adding_all : (kin : Kin) (level : Level) (shelf : Shelf) (ids left out : List ℕ) (room : ℕ) → left ≡ []
    → IsAdding kin level shelf ids left out room → PutsBehind (IsKinOfSome kin (graph_of (view_of level shelf)) ids) [] out
adding_all kin level shelf ids left out room none way =
    let all : ids ≡ way.done = way.cut.whole ∙ ap (λ (xs : List ℕ). way.done ++ xs) none ∙ append-nil way.done in
    subst (λ (xs : List ℕ). PutsBehind (IsKinOfSome kin (graph_of (view_of level shelf)) xs) [] out) (sym all) way.adds

-- ---- names in another order

pub under_moved : (level : Level) (shelf : Shelf) (ids moved ns : List ℕ) → IsPermutation ids moved → LieUnder level shelf moved ns
    → LieUnder level shelf ids ns
under_moved level shelf ids moved ns move under = record {
  once = under.once;
  exact = λ n. (
    λ here. let found = (under.exact n).0 here in (found.0, Contains-permutation moved ids found.0 (IsPermutation-sym ids moved move) found.1, found.2),
    λ (id, here, is). (under.exact n).1 (id, Contains-permutation ids moved id move here, is),
  );
}

once_distinct : (xs : List ℕ) → AreDistinct xs → IsDistinct nat_eq xs
once_distinct xs once =
    IsDistinct-from_apart nat_eq xs (λ i j d before below. ne_eqb (get_or xs i d) (get_or xs j d) (places_apart xs i j d once before below))

-- a list of kin, in rising order
pub kin_listed : (kin : Kin) (g : Closure) (ids moved out sorted : List ℕ) → IsPermutation ids moved → PutsBehind (IsKinOfSome kin g moved) [] out
    → IsPermutation out sorted → IsNonDecreasing sorted → Lists (IsKinOfSome kin g ids) sorted
kin_listed kin g ids moved out sorted move adds sort rising = record {
  rising = IsStrictlyIncreasing-from_distinct sorted rising
      (IsDistinct-IsPermutation nat_eq nat_eq_equiv.symm out sorted sort (once_distinct out (subst AreDistinct (sym adds.behind) adds.once)));
  exact = λ a. (
    λ here.
        let found = (adds.exact a).0 (subst (λ (xs : List ℕ). Contains xs a) adds.behind (Contains-permutation sorted out a (IsPermutation-sym out sorted sort) here)) in
        (found.0, Contains-permutation moved ids found.0 (IsPermutation-sym ids moved move) found.1, found.2),
    λ (id, here, is).
        Contains-permutation out sorted a sort
        (subst (λ (xs : List ℕ). Contains xs a) (sym adds.behind) ((adds.exact a).1 (id, Contains-permutation ids moved id move here, is))),
  );
}
