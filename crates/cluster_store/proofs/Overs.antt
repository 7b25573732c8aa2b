-- The clusters that lack an order in a level, by the numbers that are listed.
use Rattle.std.proofs.Common.{◌≡◌, ℕ, Bool, true, false, cond, List, [], ◌∷◌, ◌++◌, map, nat_eq, Option, None, Some, Contains, inl, inr, refl, sym, ap, ap₂, ◌∙◌, subst, true≢false}
use Rattle.std.specs.List.{IsDistinct, AllByRecursion, filter, list_any}
use Rattle.std.specs.Cmp.{unsigned_Decides}
use Rattle.std.specs.FinMap as finmap
use Rattle.std.proofs.lemmas.Option.{none-some, same_Some}
use Rattle.lists.specs.Distinct.{AreDistinct}
use Rattle.lists.proofs.Distinct.{distinct-filter}
use Rattle.lists.proofs.Entries.{Contains-cases, Contains-filter, filter-Contains, none_in_empty}
use Rattle.graphs.specs.declared.names.Level.{Level}
use Rattle.graphs.specs.Certificates.{Part}
use Rattle.chunk_index.specs.Items.{is_in}
use Rattle.cluster.specs.Clusters.{Cluster}
use Rattle.cluster_store.specs.Stores.{Stored, Numbered}
use Rattle.cluster_store.specs.Kept.{Slots, at}
use Rattle.cluster_store.specs.Held.{cluster_in}
use Rattle.cluster_store.specs.Unordered.{IsUnordered, LacksOrderIn}
use Rattle.cluster_store.specs.Overs.{AreLacking, bare_of, lacking_by, lacking_in, lacking_of}
use Rattle.cluster_store.proofs.Lacking.{lacks_unordered, listed_contains}

-- ---- whether a cluster is told

has_one : List Cluster → Bool
has_one [] = false
has_one (c ∷ cs) = true

lacks : Level → Option Stored → Bool
lacks level o = has_one (lacking_by (lacking_in level) o)

bare_is : (b : Bool) (ps : List Part) (c : Cluster) → has_one (cond b (bare_of ps c) []) ≡ true → (b ≡ true) × (ps ≡ [])
unfolding has_one
bare_is true [] c is = (refl, refl)
bare_is true (p ∷ ps) c is = absurd (true≢false (sym is))
bare_is false ps c is = absurd (true≢false (sym is))

lacks_is : (level : Level) (o : Option Stored) → lacks level o ≡ true → LacksOrderIn level o
unfolding has_one lacks
lacks_is level None is = absurd (true≢false (sym is))
lacks_is level (Some s) is =
    let bare = bare_is (is_in level s.tag) s.cluster.parts s.cluster is in (s.cluster, ap (λ b. cond b (Some s.cluster) None) bare.0, bare.1)

is_lacks : (level : Level) (o : Option Stored) → LacksOrderIn level o → lacks level o ≡ true
unfolding has_one lacks
is_lacks level None (c, seen, none) = absurd (none-some c seen)
is_lacks level (Some s) (c, seen, none) = by (is_in level s.tag) seen
  where
    by : (b : Bool) → cond b (Some s.cluster) None ≡ Some c → has_one (cond b (bare_of s.cluster.parts s.cluster) []) ≡ true
    by true is = ap (λ (ps : List Part). has_one (bare_of ps s.cluster)) (ap (λ (d : Cluster). d.parts) (same_Some s.cluster c is) ∙ none)
    by false is = absurd (none-some c is)

-- ---- what is told of numbers

one_told : (level : Level) (o : Option Stored) (rest : List Cluster)
    → lacking_by (lacking_in level) o ++ rest ≡ cond (lacks level o) (cluster_in o ∷ rest) rest
unfolding has_one lacks
one_told level None rest = refl
one_told level (Some s) rest = by (is_in level s.tag) s.cluster.parts
  where
    by : (b : Bool) (ps : List Part) → cond b (bare_of ps s.cluster) [] ++ rest ≡ cond (has_one (cond b (bare_of ps s.cluster) [])) (s.cluster ∷ rest) rest
    by true [] = refl
    by true (p ∷ ps) = refl
    by false ps = refl

module _ (level : Level) (slots : Slots) where
  lacks_at : ℕ → Bool
  lacks_at n = lacks level (at slots n)

  map_kept : (b : Bool) (n : ℕ) (ns : List ℕ)
      → cond b (cluster_in (at slots n) ∷ map (λ m. cluster_in (at slots m)) ns) (map (λ m. cluster_in (at slots m)) ns)
      ≡ map (λ m. cluster_in (at slots m)) (cond b (n ∷ ns) ns)
  map_kept true n ns = refl
  map_kept false n ns = refl

  all_told : (numbers : List ℕ) → lacking_of (lacking_in level) slots numbers ≡ map (λ n. cluster_in (at slots n)) (filter lacks_at numbers)
  unfolding lacks_at
  all_told [] = refl
  all_told (n ∷ ns) =
      ap (λ (cs : List Cluster). lacking_by (lacking_in level) (at slots n) ++ cs) (all_told ns)
      ∙ one_told level (at slots n) (map (λ m. cluster_in (at slots m)) (filter lacks_at ns))
      ∙ map_kept (lacks level (at slots n)) n (filter lacks_at ns)

-- ---- numbers of a set stand once

apart : (k : ℕ) (ks : List ℕ) → AllByRecursion (λ n. nat_eq k n ≡ false) ks → Contains ks k → ⊥
apart k [] all here = none_in_empty k here
apart k (n ∷ ns) all here = elim (Contains-cases n k ns here) [
  | inl same ↦ true≢false (sym ((unsigned_Decides k n).1 (sym same)) ∙ all.0)
  | inr later ↦ apart k ns all.1 later
]

distinct_of : (ks : List ℕ) → IsDistinct nat_eq ks → AreDistinct ks
unfolding IsDistinct
distinct_of [] once = tt
distinct_of (k ∷ ks) once = (apart k ks once.0, distinct_of ks once.1)

-- ---- all of them are told

pub are_lacking : (level : Level) (slots : Slots) (keys : List ℕ) (clusters : Numbered) (list : List Cluster)
    → ((n : ℕ) → at slots n ≡ finmap.get clusters n) → IsDistinct nat_eq keys
    → ((n : ℕ) → IsUnordered (at slots n) → list_any (nat_eq n) keys ≡ true) → list ≡ lacking_of (lacking_in level) slots keys
    → AreLacking level clusters list
unfolding lacks_at
are_lacking level slots keys clusters list same once listed is = record {
  numbers = filter (lacks_at level slots) keys;
  once = distinct-filter (lacks_at level slots) keys (distinct_of keys once);
  exact = λ n. (
    λ here. subst (LacksOrderIn level) (same n) (lacks_is level (at slots n) (filter-Contains (lacks_at level slots) keys n here).0),
    λ lack.
        let there = subst (LacksOrderIn level) (sym (same n)) lack in
        Contains-filter (lacks_at level slots) keys n (is_lacks level (at slots n) there)
        (listed_contains keys n (listed n (lacks_unordered level (at slots n) there))),
  );
  told = is ∙ all_told level slots keys ∙ retold (filter (lacks_at level slots) keys);
}
  where
    retold : (ns : List ℕ) → map (λ n. cluster_in (at slots n)) ns ≡ map (λ n. cluster_in (finmap.get clusters n)) ns
    retold [] = refl
    retold (n ∷ ns) = ap₂ (λ (c : Cluster) (cs : List Cluster). c ∷ cs) (ap cluster_in (same n)) (retold ns)
