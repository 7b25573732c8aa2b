-- How far the clusters of the top level have lost names, where the names stand by rising number of their clusters.
use Rattle.std.proofs.Common.{◌≡◌, ◌≢◌, ℕ, ◌+◌, ◌*◌, ◌<◌, ◌≤◌, Bool, true, false, not, nat_eq, true≢false, eqb-true, eq-eqb, List, [], ◌∷◌, ◌++◌, length, get_or, drop, map, All, Contains, Option, Some, None, IsSome, inl, inr, ◌↔◌, refl, sym, ap, ◌∙◌, subst, subst₂, arith, length-append}
use Rattle.std.specs.Prelude.{slice_get, slice_index, option_to_list}
use Rattle.std.specs.FinMap as finmap
use Rattle.std.specs.List.{AllPairs, list_any}
use Rattle.std.specs.List.Sorted.{IsPermutation}
use Rattle.std.proofs.lemmas.Bool.{cases_eq}
use Rattle.std.proofs.lemmas.List.{append_assoc, append-nil, get_or_default, get_or-append-add, get_or-drop, length-drop, map-append}
use Rattle.std.proofs.lemmas.List.Elements.{All-contains, Contains-append_left, Contains-append_right, Contains-append_cases, Contains-get_or}
use Rattle.std.proofs.lemmas.List.Folds.{Any-from_list_any, list_any_at}
use Rattle.std.proofs.lemmas.List.Sorted.{Contains-permutation, IsPermutation-append_comm, IsPermutation-append_right, IsPermutation-sym}
use Rattle.std.proofs.lemmas.Option.{none-some, same_Some}
use Rattle.lists.specs.Distinct.{AreDistinct}
use Rattle.lists.proofs.Distinct.{distinct_push}
use Rattle.lists.proofs.Entries.{Contains-head, Contains-one, map-Contains, Contains-map, none_in_empty, not_empty}
use Rattle.graphs.specs.Closures.{Closure, IsRelated, is_ancestor}
use Rattle.graphs.specs.declared.names.Level.TheVariants.{Top}
use Rattle.cluster.specs.Changes.{AreComponents, IsSplit}
use Rattle.cluster.specs.Clusters.{Cluster, AreApart}
use Rattle.graph_model.specs.declared.names.Limits.{Limits}
use Rattle.record.specs.Records.{IsConnected, IsFitted}
use Rattle.record.specs.Steps.{most_steps_fit_of}
use Rattle.levels.specs.Changes.{AreAt, IsNamed}
use Rattle.levels.specs.Lefts.{AreLeft, AreListed, DropsWithin, IsRun, Takes}
use Rattle.levels.specs.Moves.{DropsIn}
use Rattle.levels.specs.Shelves.{IsInOrder, Shelf, numbers_at, seen_at, stored_at, view_of}
use Rattle.levels.specs.Views.{graph_of}
use Rattle.cluster_store.proofs.Listed.{at_joined, at_none, at_one}
use Rattle.levels.proofs.Found.{cluster_of}
use Rattle.levels.proofs.Graphs.{in_above, names_of_above, order_of}
use Rattle.levels.proofs.Lookups.{placed_of}
use Rattle.levels.proofs.Losing.{drops_both, drops_one, drops_same, empty_of, pairs_joined, piece_in}
use Rattle.levels.proofs.Making.{named_one}
use Rattle.levels.proofs.Rests.{within_both, within_more, within_same}
use Rattle.levels.proofs.Swaps.{all_pairs_permuted}
use Rattle.levels.proofs.Under.{held, is_stored, seen_there}

abbrev pub names_of : List (ℕ × ℕ) → List ℕ
names_of entries = map (λ e. e.1) entries

-- The entries that are done, the clusters that lost their names, and the steps that this took. The entries that are coming are of other clusters.
pub record IsPartway (w : ℕ) (shelf : Shelf) (listed coming : List (ℕ × ℕ)) (outs : List ℕ) (rest : List Cluster) (last : Option Cluster)
    (before after : ℕ) : Type 0 where
  pub done : List (ℕ × ℕ)
  pub split : listed ≡ done ++ coming
  pub left : AreLeft w (names_of done) outs rest last shelf
  pub numbers : (n : ℕ) → Contains outs n → Contains (map (λ e. e.0) done) n
  pub other : (d e : ℕ × ℕ) → Contains done d → Contains coming e → d.0 ≢ e.0
  pub steps : DropsWithin shelf.limits (names_of done) (graph_of (view_of Top shelf)) before after

-- ---- none are done

pub none_done : (w : ℕ) (shelf : Shelf) (listed : List (ℕ × ℕ)) (steps : ℕ) → IsPartway w shelf listed listed [] [] None steps steps
none_done w shelf listed steps = record {
  done = [];
  split = refl;
  left = record {
    olds = [];
    once = tt;
    at = at_none (seen_at Top shelf.store.clusters);
    fitted = λ c none. absurd (none_in_empty c none);
    apart = λ i j d before low. absurd (omega (arith, low));
    drops = record {
      each = λ c none. absurd (none_in_empty c none);
      names = λ id. (λ named. absurd (none_in_empty named.0 named.1), λ named. absurd (none_in_empty named.0.0 named.0.1));
      rates = λ c none. absurd (none_in_empty c none);
      ancestors = λ a d. (λ up. absurd (none_in_empty up.0 up.1), λ up. absurd (none_in_empty up.2.0 up.2.1));
    };
    all = λ id none. absurd (none_in_empty id none);
    own = λ c d none. absurd (none-some c none);
  };
  numbers = λ n none. absurd (none_in_empty n none);
  other = λ d e none. absurd (none_in_empty d none);
  steps = record { grew = omega arith; few = λ lists rests. omega arith };
}

pub begun : (w : ℕ) (shelf : Shelf) (listed coming : List (ℕ × ℕ)) (outs : List ℕ) (rest : List Cluster) (steps : ℕ) → coming ≡ listed → outs ≡ []
    → rest ≡ [] → IsPartway w shelf listed coming outs rest None steps steps
begun w shelf listed coming outs rest steps same no_outs no_rest =
    subst (λ (es : List (ℕ × ℕ)). IsPartway w shelf listed es outs rest None steps steps) (sym same)
    (subst₂ (λ (ns : List ℕ) (cs : List Cluster). IsPartway w shelf listed listed ns cs None steps steps) (sym no_outs) (sym no_rest)
    (none_done w shelf listed steps))

-- no steps were taken
pub no_steps : (limits : Limits) (ids : List ℕ) (g : Closure) (steps : ℕ) → DropsWithin limits ids g steps steps
no_steps limits ids g steps = record { grew = omega arith; few = λ lists rests. omega arith }

-- ---- the steps for some names, and for all

-- a name whose number isn't among some
late : List ℕ → Option ℕ → Bool
late numbers None = false
late numbers (Some n) = not (list_any (nat_eq n) numbers)

late_not : (numbers : List ℕ) (n : ℕ) → (Contains numbers n → ⊥) → late numbers (Some n) ≡ true
unfolding late
late_not numbers n none = by (list_any (nat_eq n) numbers) refl
  where
    by : (b : Bool) → list_any (nat_eq n) numbers ≡ b → not b ≡ true
    by true is =
        let any = Any-from_list_any (nat_eq n) numbers is in
        absurd (none (subst (Contains numbers) (sym (eqb-true n any.1 any.4)) (any.0, any.2, any.3)))
    by false is = refl

late_in : (numbers : List ℕ) (n : ℕ) → Contains numbers n → late numbers (Some n) ≡ false
unfolding late
late_in numbers n here = ap not (list_any_at (nat_eq n) numbers here.0 n here.1 (eq-eqb n (get_or numbers here.0 n) (sym here.2)))

module _ (w : ℕ) (shelf : Shelf) (order : IsInOrder w shelf) (ids : List ℕ) (listed : List (ℕ × ℕ)) (are : AreListed shelf ids listed)
    (done later : List (ℕ × ℕ)) (split : listed ≡ done ++ later) (other : (d e : ℕ × ℕ) → Contains done d → Contains later e → d.0 ≢ e.0) where
  abbrev whole_graph : Closure
  whole_graph = graph_of (view_of Top shelf)

  abbrev numbers_done : List ℕ
  numbers_done = map (λ e. e.0) done

  test : ℕ → Bool
  test id = late numbers_done (finmap.get (numbers_at Top shelf) id)

  above_alike : (a d : ℕ) → is_ancestor whole_graph a d ≡ true → finmap.get (numbers_at Top shelf) a ≡ finmap.get (numbers_at Top shelf) d
  above_alike a d up =
      let found = in_above (64 * w) (view_of Top shelf) order.top a d up in
      let ends = names_of_above (64 * w) (view_of Top shelf) order.top found.number a d found.cluster found.there found.above in
      order.top.listed found.number a found.cluster found.there ends.0 ∙ sym (order.top.listed found.number d found.cluster found.there ends.1)

  closed : (a b : ℕ) → IsRelated whole_graph a b → test a ≡ true → test b ≡ true
  unfolding test
  closed a b (inl up) passes = ap (late numbers_done) (sym (above_alike a b up)) ∙ passes
  closed a b (inr down) passes = ap (late numbers_done) (above_alike b a down) ∙ passes

  entry_of : (es : List (ℕ × ℕ)) → ((e : ℕ × ℕ) → Contains es e → Contains listed e) → (id : ℕ) → Contains (names_of es) id
      → (e : ℕ × ℕ) × Contains es e × (finmap.get (numbers_at Top shelf) id ≡ Some e.0)
  entry_of es in_list id here =
      let found = map-Contains (λ (e : ℕ × ℕ). e.1) es id here in
      (found.0, found.1, ap (finmap.get (numbers_at Top shelf)) (sym found.2) ∙ are.numbered.there found.0 (in_list found.0 found.1))

  inside_later : (id : ℕ) → Contains (names_of later) id → test id ≡ true
  unfolding test
  inside_later id here =
      let found = entry_of later (λ e there. subst (λ (es : List (ℕ × ℕ)). Contains es e) (sym split) (Contains-append_right done later e there)) id here in
      ap (late numbers_done) found.2 ∙ late_not numbers_done found.0.0 (λ there.
      let early = map-Contains (λ (e : ℕ × ℕ). e.0) done found.0.0 there in other early.0 found.0 early.1 found.1 early.2)

  outside_later : (id : ℕ) → Contains (names_of done) id → test id ≡ true → ⊥
  unfolding test
  outside_later id here passes =
      let found = entry_of done (λ e there. subst (λ (es : List (ℕ × ℕ)). Contains es e) (sym split) (Contains-append_left done later e there)) id here in
      true≢false (sym passes ∙ ap (late numbers_done) found.2
      ∙ late_in numbers_done found.0.0 (Contains-map (λ (e : ℕ × ℕ). e.0) done found.0 found.1))

  told : names_of done ++ names_of later ≡ names_of listed
  told = sym (map-append (λ (e : ℕ × ℕ). e.1) done later) ∙ ap names_of (sym split)

  pub steps_of_all : (before after : ℕ) → DropsWithin shelf.limits (names_of done) whole_graph before after → DropsWithin shelf.limits ids whole_graph before after
  steps_of_all before after drops =
      within_same shelf.limits (names_of listed) ids whole_graph before after (λ id. ((are.numbered.exact id).1, (are.numbered.exact id).0))
      (subst (λ (xs : List ℕ). DropsWithin shelf.limits xs whole_graph before after) told
      (within_more shelf.limits whole_graph test closed (names_of done) (names_of later) inside_later outside_later before after drops))

-- ---- all are done

left_same : (w : ℕ) (gone gone' outs : List ℕ) (rest : List Cluster) (last : Option Cluster) (shelf : Shelf)
    → ((id : ℕ) → Contains gone id ↔ Contains gone' id) → AreLeft w gone outs rest last shelf → AreLeft w gone' outs rest last shelf
left_same w gone gone' outs rest last shelf same left = record {
  olds = left.olds;
  once = left.once;
  at = left.at;
  fitted = left.fitted;
  apart = left.apart;
  drops = drops_same left.olds (rest ++ option_to_list last) (rest ++ option_to_list last) gone gone' (λ c. (λ h. h, λ h. h)) same left.drops;
  all = λ id here. left.all id ((same id).1 here);
  own = left.own;
}

module _ (w : ℕ) (shelf : Shelf) (order : IsInOrder w shelf) (ids : List ℕ) (listed : List (ℕ × ℕ)) (are : AreListed shelf ids listed) (outs : List ℕ)
    (rest : List Cluster) (last : Option Cluster) (before after : ℕ) (partway : IsPartway w shelf listed [] outs rest last before after) where
  all_done : partway.done ≡ listed
  all_done = sym (append-nil partway.done) ∙ sym partway.split

  same : (id : ℕ) → Contains (names_of partway.done) id ↔ Contains ids id
  same id = (
    λ here. (are.numbered.exact id).1 (subst (λ (es : List (ℕ × ℕ)). Contains (names_of es) id) all_done here),
    λ here. subst (λ (es : List (ℕ × ℕ)). Contains (names_of es) id) (sym all_done) ((are.numbered.exact id).0 here),
  )

  pub all_left : AreLeft w ids outs rest last shelf
  all_left = left_same w (names_of partway.done) ids outs rest last shelf same partway.left

  pub all_steps : DropsWithin shelf.limits ids (graph_of (view_of Top shelf)) before after
  all_steps = steps_of_all w shelf order ids listed are partway.done [] partway.split partway.other before after partway.steps

-- ---- a run of names of one cluster

first_of : (es : List (ℕ × ℕ)) → es ≢ [] → (e : ℕ × ℕ) × Contains es e
first_of [] some = absurd (some refl)
first_of (e ∷ es) some = (e, Contains-head e es)

module _ (w : ℕ) (shelf : Shelf) (order : IsInOrder w shelf) (number : ℕ) (run : List (ℕ × ℕ)) (is_run : IsRun shelf number run) where
  first : (e : ℕ × ℕ) × Contains run e
  first = first_of run is_run.some

  first_name : (id : ℕ) × Contains (names_of run) id
  first_name = (first.0.1, Contains-map (λ (e : ℕ × ℕ). e.1) run first.0 first.1)

  run_number : (id : ℕ) → Contains (names_of run) id → finmap.get (numbers_at Top shelf) id ≡ Some number
  run_number id here =
      let found = map-Contains (λ (e : ℕ × ℕ). e.1) run id here in
      ap (finmap.get (numbers_at Top shelf)) (sym found.2) ∙ (is_run.there found.0 found.1).1

  pub run_held : (c : Cluster) → seen_at Top shelf.store.clusters number ≡ Some c → (id : ℕ) → Contains (names_of run) id → Contains c.names id
  run_held c at id here = held w shelf order Top id number (run_number id here) c at

  pub run_stored : IsSome (stored_at shelf.store.clusters number)
  run_stored = is_stored w shelf order Top first_name.0 number (run_number first_name.0 first_name.1)

  pub run_seen : (c : Cluster) → stored_at shelf.store.clusters number ≡ Some c → seen_at Top shelf.store.clusters number ≡ Some c
  run_seen c at = seen_there w shelf order Top first_name.0 number (run_number first_name.0 first_name.1) c at

  pub run_cluster : (c : Cluster) × (seen_at Top shelf.store.clusters number ≡ Some c)
  run_cluster = let at = order.top.stands first_name.0 number (run_number first_name.0 first_name.1) in (at.cluster, at.there)

-- ---- one run of names more

-- what comes in, and what is left of one cluster more
taken_permuted : (number : ℕ) (pieces : List Cluster) (outs : List ℕ) (rest : List Cluster) (last : Option Cluster) (outs' : List ℕ) (rest' : List Cluster)
    (last' : Option Cluster) → (outs ≡ [] → rest ++ option_to_list last ≡ []) → Takes number pieces outs rest last outs' rest' last'
    → IsPermutation ((rest ++ option_to_list last) ++ pieces) (rest' ++ option_to_list last')
taken_permuted number pieces [] rest last outs' rest' last' empty takes =
    subst (λ (xs : List Cluster). IsPermutation (xs ++ pieces) (rest' ++ option_to_list last')) (sym (empty refl)) (takes.first refl)
taken_permuted number pieces (o ∷ os) rest last outs' rest' last' empty takes =
    let were : List Cluster = option_to_list last in
    let new = takes.later not_empty in
    let moved : IsPermutation (rest ++ (were ++ pieces)) (rest ++ (pieces ++ were)) =
    IsPermutation-append_right rest (were ++ pieces) (pieces ++ were) (IsPermutation-append_comm were pieces) in
    let front : IsPermutation ((rest ++ were) ++ pieces) (rest ++ (pieces ++ were)) =
    subst (λ (xs : List Cluster). IsPermutation xs (rest ++ (pieces ++ were))) (sym (append_assoc rest were pieces)) moved in
    let back : IsPermutation ((rest ++ were) ++ pieces) ((rest ++ pieces) ++ were) =
    subst (λ (xs : List Cluster). IsPermutation ((rest ++ were) ++ pieces) xs) (sym (append_assoc rest pieces were)) front in
    subst₂ (λ (xs : List Cluster) (o : Option Cluster). IsPermutation ((rest ++ were) ++ pieces) (xs ++ option_to_list o)) (sym new.0) (sym new.1) back

-- the last is of the first cluster
own_more : (number : ℕ) (c : Cluster) (pieces : List Cluster) (outs : List ℕ) (olds : List Cluster) (rest : List Cluster) (last : Option Cluster)
    (outs' : List ℕ) (rest' : List Cluster) (last' : Option Cluster) → length outs ≡ length olds → Takes number pieces outs rest last outs' rest' last'
    → ((d : Cluster) → Contains pieces d → (id : ℕ) → Contains d.names id → Contains c.names id)
    → ((a b : Cluster) → last ≡ Some a → slice_get olds 0 ≡ Some b → (id : ℕ) → Contains a.names id → Contains b.names id)
    → (a b : Cluster) → last' ≡ Some a → slice_get (olds ++ c ∷ []) 0 ≡ Some b → (id : ℕ) → Contains a.names id → Contains b.names id
own_more number c pieces [] [] rest last outs' rest' last' count takes inside own a b is at id here =
    let there : Contains (rest' ++ option_to_list last') a =
    subst (λ (o : Option Cluster). Contains (rest' ++ option_to_list o) a) (sym is) (Contains-append_right rest' (a ∷ []) a (Contains-head a [])) in
    let piece = Contains-permutation (rest' ++ option_to_list last') pieces a (IsPermutation-sym pieces (rest' ++ option_to_list last') (takes.first refl)) there in
    subst (λ (x : Cluster). Contains x.names id) (same_Some c b at) (inside a piece id here)
own_more number c pieces [] (o ∷ os) rest last outs' rest' last' count takes inside own a b is at id here = absurd (omega (arith, count))
own_more number c pieces (n ∷ ns) [] rest last outs' rest' last' count takes inside own a b is at id here = absurd (omega (arith, count))
own_more number c pieces (n ∷ ns) (o ∷ os) rest last outs' rest' last' count takes inside own a b is at id here =
    own a b (sym (takes.later not_empty).1 ∙ is) at id here

module _ (w : ℕ) (shelf : Shelf) (order : IsInOrder w shelf) (ids : List ℕ) (listed : List (ℕ × ℕ)) (are : AreListed shelf ids listed) (outs : List ℕ)
    (rest : List Cluster) (last : Option Cluster) (run later : List (ℕ × ℕ)) (before mid after : ℕ)
    (partway : IsPartway w shelf listed (run ++ later) outs rest last before mid) (number : ℕ) (is_run : IsRun shelf number run)
    (away : (e : ℕ × ℕ) → Contains later e → e.0 ≢ number) (c : Cluster) (at : seen_at Top shelf.store.clusters number ≡ Some c) where
  abbrev done : List (ℕ × ℕ)
  done = partway.done

  abbrev olds : List Cluster
  olds = partway.left.olds

  abbrev news : List Cluster
  news = rest ++ option_to_list last

  cluster : IsConnected c
  cluster = (order.top.whole number c at).connected

  abbrev a_first : (e : ℕ × ℕ) × Contains run e
  a_first = first w shelf order number run is_run

  abbrev run_first : (id : ℕ) × Contains (names_of run) id
  run_first = first_name w shelf order number run is_run

  run_numbered : (id : ℕ) → Contains (names_of run) id → finmap.get (numbers_at Top shelf) id ≡ Some number
  run_numbered = run_number w shelf order number run is_run

  run_inside : (id : ℕ) → Contains (names_of run) id → Contains c.names id
  run_inside = run_held w shelf order number run is_run c at

  -- the number is a new one
  not_done : Contains (map (λ e. e.0) done) number → ⊥
  not_done here =
      let found = map-Contains (λ (e : ℕ × ℕ). e.0) done number here in
      partway.other found.0 a_first.0 found.1 (Contains-append_left run later a_first.0 a_first.1) (found.2 ∙ sym (is_run.there a_first.0 a_first.1).0)

  fresh : Contains outs number → ⊥
  fresh here = not_done (partway.numbers number here)

  done_number : (id : ℕ) → Contains (names_of done) id → (n : ℕ) × Contains (map (λ e. e.0) done) n × (finmap.get (numbers_at Top shelf) id ≡ Some n)
  done_number id here =
      let found = map-Contains (λ (e : ℕ × ℕ). e.1) done id here in
      let in_list : Contains listed found.0 =
      subst (λ (es : List (ℕ × ℕ)). Contains es found.0) (sym partway.split) (Contains-append_left done (run ++ later) found.0 found.1) in (
        found.0.0,
        Contains-map (λ (e : ℕ × ℕ). e.0) done found.0 found.1,
        ap (finmap.get (numbers_at Top shelf)) (sym found.2) ∙ are.numbered.there found.0 in_list,
      )

  outside : (id : ℕ) → Contains (names_of done) id → Contains c.names id → ⊥
  outside id here there =
      let found = done_number id here in
      let same : found.0 ≡ number = same_Some found.0 number (sym found.2 ∙ order.top.listed number id c at there) in
      not_done (subst (Contains (map (λ (e : ℕ × ℕ). e.0) done)) same found.1)

  old_at : (d : Cluster) → Contains olds d → (n : ℕ) × Contains outs n × (seen_at Top shelf.store.clusters n ≡ Some d)
  old_at d here =
      let at_outs = placed_of (seen_at Top shelf.store.clusters) outs olds d partway.left.at here in
      (slice_index outs at_outs.place, at_outs.number, at_outs.stands)

  olds_whole : (d : Cluster) → Contains olds d → IsConnected d
  olds_whole d here = let one = old_at d here in (order.top.whole one.0 d one.2).connected

  not_old : (id : ℕ) → finmap.get (numbers_at Top shelf) id ≡ Some number → IsNamed olds id → ⊥
  not_old id is (d, here, there) =
      let one = old_at d here in
      let same : one.0 ≡ number = same_Some one.0 number (sym (order.top.listed one.0 id d one.2 there) ∙ is) in
      fresh (subst (Contains outs) same one.1)

  its_number : (id : ℕ) → IsNamed (c ∷ []) id → finmap.get (numbers_at Top shelf) id ≡ Some number
  its_number id named = order.top.listed number id c at (named_one c id named)

  one_whole : (d : Cluster) → Contains (c ∷ []) d → IsConnected d
  one_whole d here = subst IsConnected (Contains-one c d here) cluster

  names_told : names_of done ++ names_of run ≡ names_of (done ++ run)
  names_told = sym (map-append (λ (e : ℕ × ℕ). e.1) done run)

  others_later : (d e : ℕ × ℕ) → Contains (done ++ run) d → Contains later e → d.0 ≢ e.0
  others_later d e here there = elim (Contains-append_cases done run d here) [
    | inl old ↦ partway.other d e old (Contains-append_right run later e there)
    | inr new ↦ λ same. away e there (sym same ∙ (is_run.there d new).0)
  ]

  split_later : listed ≡ (done ++ run) ++ later
  split_later = partway.split ∙ sym (append_assoc done run later)

  -- the steps of what is left of the cluster
  steps_more : mid ≤ after → ((lists : List (List ℕ)) → AreComponents c.graph (names_of run) lists → after ≤ mid + most_steps_fit_of shelf.limits c.graph lists)
      → DropsWithin shelf.limits (names_of (done ++ run)) (graph_of (view_of Top shelf)) before after
  steps_more grew few =
      subst (λ (xs : List ℕ). DropsWithin shelf.limits xs (graph_of (view_of Top shelf)) before after) names_told
      (within_both (graph_of (view_of Top shelf)) (order_of (64 * w) (view_of Top shelf) order.top) c cluster
      (cluster_of (64 * w) (view_of Top shelf) order.top number c at) shelf.limits (names_of done) (names_of run) run_inside outside run_first before mid after
      partway.steps grew few)

  -- where memory runs out then, they are within those of all
  pub steps_then : mid ≤ after → ((lists : List (List ℕ)) → AreComponents c.graph (names_of run) lists → after ≤ mid + most_steps_fit_of shelf.limits c.graph lists)
      → DropsWithin shelf.limits ids (graph_of (view_of Top shelf)) before after
  steps_then grew few = steps_of_all w shelf order ids listed are (done ++ run) later split_later others_later before after (steps_more grew few)

  module _ (pieces : List Cluster) (split : IsSplit c.graph (names_of run) pieces) (whole : All (IsFitted (64 * w) shelf.limits) pieces) (outs' : List ℕ)
      (rest' : List Cluster) (last' : Option Cluster) (takes : Takes number pieces outs rest last outs' rest' last')
      (grew : mid ≤ after) (few : (lists : List (List ℕ)) → AreComponents c.graph (names_of run) lists → after ≤ mid + most_steps_fit_of shelf.limits c.graph lists) where
    pieces_fitted : (d : Cluster) → Contains pieces d → IsFitted (64 * w) shelf.limits d
    pieces_fitted d here = All-contains (IsFitted (64 * w) shelf.limits) pieces d whole here

    pieces_whole : (d : Cluster) → Contains pieces d → IsConnected d
    pieces_whole d here = (pieces_fitted d here).connected

    -- without an old cluster there is no new one
    none_new : outs ≡ [] → news ≡ []
    none_new none = empty_of news (λ d here.
        let one = (partway.left.fitted d here).connected in
        let id : ℕ = slice_index d.names 0 in
        let named : IsNamed news id = (d, here, Contains-get_or d.names 0 0 one.some) in
        let (old, there, kept) = ((partway.left.drops.names id).0 named).0 in
        let at_old = old_at old there in
        none_in_empty at_old.0 (subst (λ (xs : List ℕ). Contains xs at_old.0) none at_old.1))

    permuted : IsPermutation (news ++ pieces) (rest' ++ option_to_list last')
    permuted = taken_permuted number pieces outs rest last outs' rest' last' none_new takes

    abbrev all_news : List Cluster
    all_news = rest' ++ option_to_list last'

    alike : (d : Cluster) → Contains (news ++ pieces) d ↔ Contains all_news d
    alike d = (
      Contains-permutation (news ++ pieces) all_news d permuted,
      Contains-permutation all_news (news ++ pieces) d (IsPermutation-sym (news ++ pieces) all_news permuted),
    )

    in_c : (d : Cluster) → Contains pieces d → (id : ℕ) → Contains d.names id → Contains c.names id
    in_c = piece_in c (names_of run) pieces cluster pieces_whole split run_inside run_first

    drops : DropsIn (olds ++ c ∷ []) all_news (names_of (done ++ run))
    drops =
        subst (λ (xs : List ℕ). DropsIn (olds ++ c ∷ []) all_news xs) names_told
        (drops_same (olds ++ c ∷ []) (news ++ pieces) all_news (names_of done ++ names_of run) (names_of done ++ names_of run) alike (λ id. (λ h. h, λ h. h))
        (drops_both olds (c ∷ []) news pieces (names_of done) (names_of run) partway.left.drops
        (drops_one c (names_of run) pieces cluster pieces_whole split run_inside run_first) olds_whole one_whole
        (λ id old one. not_old id (its_number id one) old)
        (λ id gone one. outside id gone (named_one c id one))
        (λ id gone old. not_old id (run_numbered id gone) old)))

    apart : AllPairs AreApart all_news
    apart =
        all_pairs_permuted AreApart (λ a b alone id here there. alone id there here) (news ++ pieces) all_news permuted
        (pairs_joined AreApart news pieces partway.left.apart split.apart (λ a b a_in b_in id here there.
        not_old id (order.top.listed number id c at (in_c b b_in id there)) ((partway.left.drops.names id).0 (a, a_in, here)).0))

    left : AreLeft w (names_of (done ++ run)) outs' rest' last' shelf
    left = record {
      olds = olds ++ c ∷ [];
      once = subst AreDistinct (sym takes.outs_are) (distinct_push outs number partway.left.once fresh);
      at = subst (λ (xs : List ℕ). AreAt (seen_at Top shelf.store.clusters) xs (olds ++ c ∷ [])) (sym takes.outs_are)
          (at_joined (seen_at Top shelf.store.clusters) outs (number ∷ []) olds (c ∷ []) partway.left.at
          (at_one (seen_at Top shelf.store.clusters) number c at));
      fitted = λ d here. elim (Contains-append_cases news pieces d ((alike d).1 here)) [
        | inl old ↦ partway.left.fitted d old
        | inr new ↦ pieces_fitted d new
      ];
      apart = apart;
      drops = drops;
      all = λ id here. elim (Contains-append_cases (names_of done) (names_of run) id
          (subst (λ (xs : List ℕ). Contains xs id) (sym names_told) here)) [
            | inl old ↦ let named = partway.left.all id old in (named.0, Contains-append_left olds (c ∷ []) named.0 named.1, named.2)
            | inr new ↦ (c, Contains-append_right olds (c ∷ []) c (Contains-head c []), run_inside id new)
          ];
      own = own_more number c pieces outs olds rest last outs' rest' last' partway.left.at.count takes in_c partway.left.own;
    }

    -- ---- the numbers

    numbers_told : map (λ e. e.0) done ++ map (λ e. e.0) run ≡ map (λ e. e.0) (done ++ run)
    numbers_told = sym (map-append (λ (e : ℕ × ℕ). e.0) done run)

    numbers : (n : ℕ) → Contains outs' n → Contains (map (λ e. e.0) (done ++ run)) n
    numbers n here =
        subst (λ (xs : List ℕ). Contains xs n) numbers_told
        (elim (Contains-append_cases outs (number ∷ []) n (subst (λ (xs : List ℕ). Contains xs n) takes.outs_are here)) [
          | inl old ↦ Contains-append_left (map (λ (e : ℕ × ℕ). e.0) done) (map (λ (e : ℕ × ℕ). e.0) run) n (partway.numbers n old)
          | inr new ↦
              Contains-append_right (map (λ (e : ℕ × ℕ). e.0) done) (map (λ (e : ℕ × ℕ). e.0) run) n
              (subst (Contains (map (λ (e : ℕ × ℕ). e.0) run)) ((is_run.there a_first.0 a_first.1).0 ∙ Contains-one number n new)
              (Contains-map (λ (e : ℕ × ℕ). e.0) run a_first.0 a_first.1))
        ])

    pub one_more : IsPartway w shelf listed later outs' rest' last' before after
    one_more = record {
      done = done ++ run;
      split = split_later;
      left = left;
      numbers = numbers;
      other = others_later;
      steps = steps_more grew few;
    }

-- ---- the next run

pub pairs_back : {A : Type 0} (R : A → A → Type 0) (xs ys : List A) → AllPairs R (xs ++ ys) → AllPairs R ys
pairs_back R xs ys pairs i j d before low =
    subst₂ R (get_or-append-add xs ys i d) (get_or-append-add xs ys j d)
    (pairs (length xs + i) (length xs + j) d (omega (arith, before)) (omega (arith, low, length-append xs ys)))

module _ (coming : List (ℕ × ℕ)) (n : ℕ) (low : n ≤ length coming) (some : 1 ≤ n) (rising : AllPairs (λ d e. d.0 ≤ e.0) coming)
    (other : n < length coming → (get_or coming n (0, 0)).0 ≢ (get_or coming 0 (0, 0)).0) where
  -- what comes later has another number
  pub later_away : (e : ℕ × ℕ) → Contains (drop n coming) e → e.0 ≢ (get_or coming 0 (0, 0)).0
  later_away e (k, inside, is) same =
      let below : n + k < length coming = omega (arith, inside, length-drop n coming, low) in
      let there : get_or coming (n + k) (0, 0) ≡ e =
      get_or_default coming (n + k) (0, 0) e below ∙ sym (get_or-drop n coming k e) ∙ is in
      let next : n < length coming = omega (arith, below) in
      let up : (get_or coming 0 (0, 0)).0 ≤ (get_or coming n (0, 0)).0 = rising 0 n (0, 0) (omega (arith, some)) next in
      let far : (get_or coming n (0, 0)).0 ≤ (get_or coming (n + k) (0, 0)).0 = elim (cases_eq k 0) [
        | inl none ↦ (let at : n ≡ n + k = omega (arith, none) in let is : (get_or coming n (0, 0)).0 ≡ (get_or coming (n + k) (0, 0)).0 =
            ap (λ i. (get_or coming i (0, 0)).0) at in omega (arith, is))
        | inr more ↦ rising n (n + k) (0, 0) (omega (arith, more)) below
      ] in
      let last : (get_or coming (n + k) (0, 0)).0 ≡ e.0 = ap (λ (x : ℕ × ℕ). x.0) there in
      other next (omega (arith, up, far, last, same))
