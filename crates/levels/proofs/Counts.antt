-- How many names there are.
use Rattle.std.proofs.Common.{◌≡◌, ◌≢◌, ◌↔◌, ℕ, suc, ◌+◌, ◌≤◌, Bool, true, false, not, ◌&&◌, ◌||◌, nat_eq, List, [], ◌∷◌, length, inl, inr, refl, sym, ap, ◌∙◌, subst, arith, eq-eqb, eqb-true, ne_eqb, true≢false}
use Rattle.std.proofs.lemmas.Bool.{and_from, and_parts}
use Rattle.std.specs.Prelude.{Contains, sum_by}
use Rattle.std.proofs.lemmas.List.Sums.{get_or-le-sum_by}
use Rattle.std.proofs.lemmas.Map.Views.{Contains-from_any}
use Rattle.std.specs.List.{list_any}
use Rattle.std.specs.Ordering.{nat_cmp, eq_by_cmp}
use Rattle.std.specs.Cmp.{unsigned_tied}
use Rattle.std.specs.FinMap as finmap
use Rattle.std.specs.FinSet as set
use Rattle.std.proofs.lemmas.List.Kept.{AllPairs-from_increasing}
use Rattle.lists.specs.Distinct.{AreDistinct}
use Rattle.lists.proofs.Distinct.{distinct_from_places}
use Rattle.lists.proofs.Cases.{same_test}
use Rattle.lists.proofs.Entries.{Contains-head, Contains-later, Contains-cases, none_in_empty}
use Rattle.lists.proofs.Keys.{contains-drop, len-drop, same_len}
use Rattle.graphs.specs.Closures.{is_member}
use Rattle.graphs.specs.Graphs.{Lists}
use Rattle.graph_model.proofs.LevelLemmas.{test_told, some_list}
use Rattle.levels.specs.Views.{Numbers, View, graph_of}
use Rattle.levels.proofs.Graphs.{member-number}

-- a graph has as many members as its level has names
pub graph_len : (view : View) → finmap.len (graph_of view) ≡ finmap.len view.numbers
unfolding is_member
graph_len view = same_len (graph_of view) view.numbers (λ q. member-number view q)

-- ---- one name more, or some fewer

pub len_more : (m n : Numbers) (id : ℕ) → finmap.contains_key m id ≡ false
    → ((q : ℕ) → finmap.contains_key n q ≡ (nat_eq q id || finmap.contains_key m q)) → finmap.len n ≡ finmap.len m + 1
len_more m n id absent keys =
    let has : finmap.contains_key n id ≡ true = keys id ∙ ap (λ b. b || finmap.contains_key m id) (eq-eqb id id refl) in
    let one = len-drop n id has in
    let rest : finmap.len (finmap.remove n id) ≡ finmap.len m =
    same_len (finmap.remove n id) m (λ q. contains-drop n id q ∙ ap (λ b. not (nat_eq q id) && b) (keys q) ∙ rest_is q (nat_eq q id) refl) in
    omega arith
  where
    rest_is : (q : ℕ) (b : Bool) → nat_eq q id ≡ b → (not b && (b || finmap.contains_key m q)) ≡ finmap.contains_key m q
    rest_is q true is = sym (ap (λ x. finmap.contains_key m x) (eqb-true q id is) ∙ absent)
    rest_is q false is = refl

-- of which some aren't in the other
pub len_fewer : (gone : List ℕ) (m n : Numbers) → AreDistinct gone → ((q : ℕ) → Contains gone q → finmap.contains_key m q ≡ true)
    → ((q : ℕ) → (finmap.contains_key n q ≡ true) ↔ ((Contains gone q → ⊥) × (finmap.contains_key m q ≡ true))) → finmap.len n + length gone ≡ finmap.len m
len_fewer [] m n once here keys =
    let same : finmap.len n ≡ finmap.len m = same_len n m (λ q. same_test (finmap.contains_key n q) (finmap.contains_key m q)
    (λ has. ((keys q).0 has).1) (λ has. (keys q).1 (λ lost. none_in_empty q lost, has))) in
    omega (arith, same)
len_fewer (x ∷ gone) m n once here keys =
    let one = len-drop m x (here x (Contains-head x gone)) in
    let less = finmap.remove m x in
    let has : (q : ℕ) → (finmap.contains_key less q ≡ true) ↔ ((q ≢ x) × (finmap.contains_key m q ≡ true)) = λ q. removed m x q in
    let rest : finmap.len n + length gone ≡ finmap.len less = len_fewer gone less n once.1
    (λ q lost. (has q).1 (λ same. once.0 (subst (Contains gone) same lost), here q (Contains-later x q gone lost)))
    (λ q. (
      λ there. let was = (keys q).0 there in
          (λ lost. was.0 (Contains-later x q gone lost), (has q).1 (λ same. was.0 (subst (Contains (x ∷ gone)) (sym same) (Contains-head x gone)), was.1)),
      λ both. let was = (has q).0 both.1 in (keys q).1 (
        λ lost. elim (Contains-cases x q gone lost) [
          | inl same ↦ was.0 (sym same)
          | inr later ↦ both.0 later
        ],
        was.1,
      ),
    )) in
    omega (arith, one, rest)
  where
    removed : (m : Numbers) (x q : ℕ) → (finmap.contains_key (finmap.remove m x) q ≡ true) ↔ ((q ≢ x) × (finmap.contains_key m q ≡ true))
    removed m x q = (
      λ there.
          let parts = and_parts (not (nat_eq q x)) (finmap.contains_key m q) (sym (contains-drop m x q) ∙ there) in
          (λ same. true≢false (sym parts.0 ∙ ap not (eq-eqb q x same)), parts.1),
      λ both. contains-drop m x q ∙ and_from (not (nat_eq q x)) (finmap.contains_key m q) (ap not (ne_eqb q x both.0)) both.1,
    )

-- ---- the names of a set

any_in : (ks : List ℕ) (q : ℕ) → list_any (eq_by_cmp nat_cmp q) ks ≡ true → Contains ks q
any_in ks q is = Contains-from_any (λ x y same. eqb-true x y (sym (unsigned_tied x y) ∙ same)) q ks is

-- a set's names, in rising order
name_below : (xs : List ℕ) (q : ℕ) → Contains xs q → q ≤ sum_by (λ n. n) xs
name_below xs q here =
    subst (λ n. n ≤ sum_by (λ m. m) xs) here.2 (get_or-le-sum_by (λ n. n) xs here.0 q here.1)

pub set_listed : (s : set.FinSet nat_cmp) → (ids : List ℕ) × Lists (λ q. set.contains s q ≡ true) ids
set_listed s =
    some_list (λ q. set.contains s q ≡ true) (λ q. test_told (set.contains s q)) (suc (sum_by (λ n. n) (set.items s)))
    (λ q has. let low = name_below (set.items s) q (any_in (set.items s) q (sym (set.contains-items s q) ∙ has)) in omega arith)

-- and a map's
pub map_listed : (m : Numbers) → (ids : List ℕ) × Lists (λ q. finmap.contains_key m q ≡ true) ids
map_listed m =
    some_list (λ q. finmap.contains_key m q ≡ true) (λ q. test_told (finmap.contains_key m q)) (suc (sum_by (λ n. n) (finmap.keys m)))
    (λ q has. let low = name_below (finmap.keys m) q (any_in (finmap.keys m) q (sym (finmap.contains_key-keys m q) ∙ has)) in omega arith)

-- numbers in rising order are apart
pub lists_once : {P : ℕ → Type 0} (ids : List ℕ) → Lists P ids → AreDistinct ids
lists_once ids lists =
    distinct_from_places ids (λ i j d before below same.
    let less = AllPairs-from_increasing ids lists.rising i j d before below in omega (arith, less, same))
