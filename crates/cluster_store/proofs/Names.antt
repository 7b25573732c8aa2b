-- The names and the clusters of a level, by the slots.
use Rattle.std.proofs.Common.{◌≡◌, ℕ, zero, suc, ◌+◌, ◌≤◌, Bool, true, false, cond, List, [], ◌∷◌, ◌++◌, map, flat_map, Option, None, Some, Contains, refl, sym, ap, ap₂, ◌∙◌, arith}
use Rattle.std.specs.Prelude.{option_to_list}
use Rattle.std.specs.FinMap as finmap
use Rattle.lists.specs.Distinct.{AreDistinct}
use Rattle.lists.proofs.Entries.{Contains-head, Contains-later, Contains-map}
use Rattle.slab.specs.Slab.{Slab, entries, entries_from}
use Rattle.slab.proofs.SlabLemmas.{Contains-entries}
use Rattle.graphs.specs.declared.names.Level.{Level}
use Rattle.chunk_index.specs.Items.{is_in}
use Rattle.cluster.specs.Clusters.{Cluster}
use Rattle.cluster_store.specs.Stores.{Stored, Numbered}
use Rattle.cluster_store.specs.Kept.{Slots, at}
use Rattle.cluster_store.specs.Tops.{seen_at, seen_in}
use Rattle.cluster_store.specs.Names.{AreClusters, AreNames, clusters_in, names_in, names_seen}
use Rattle.cluster_store.proofs.Seen.{seen_is}

-- ---- the numbers of slots

number_of : ℕ × Stored → ℕ
number_of e = e.0

-- they are no less than the first
from_first : (first : ℕ) (slots : Slots) (n : ℕ) → Contains (map number_of (entries_from first slots)) n → first ≤ n
unfolding number_of
from_first first [] n here = omega (arith, here.1)
from_first first (None ∷ rest) n here = let later = from_first (first + 1) rest n here in omega (arith, later)
from_first first (Some s ∷ rest) n (zero, below, is) = omega (arith, is)
from_first first (Some s ∷ rest) n (suc k, below, is) = let later = from_first (first + 1) rest n (k, omega (arith, below), is) in omega (arith, later)

numbers_once : (first : ℕ) (slots : Slots) → AreDistinct (map number_of (entries_from first slots))
unfolding number_of
numbers_once first [] = tt
numbers_once first (None ∷ rest) = numbers_once (first + 1) rest
numbers_once first (Some s ∷ rest) = (
  λ here. let later = from_first (first + 1) rest first here in omega (arith, later),
  numbers_once (first + 1) rest,
)

-- ---- the names of slots

seen_names : (level : Level) (s : Stored) → names_in level s ≡ names_seen (seen_in level (Some s))
seen_names level s = by (is_in level s.tag)
  where
    by : (b : Bool) → cond b s.cluster.names [] ≡ names_seen (cond b (Some s.cluster) None)
    by true = refl
    by false = refl

all_names : (level : Level) (clusters : Numbered) (es : List (ℕ × Stored))
    → ((e : ℕ × Stored) → Contains es e → finmap.get clusters e.0 ≡ Some e.1)
    → flat_map (λ e. names_in level e.1) es ≡ flat_map (λ n. names_seen (seen_at level clusters n)) (map number_of es)
unfolding number_of
all_names level clusters [] there = refl
all_names level clusters (e ∷ es) there =
    ap₂ (λ (xs ys : List ℕ). xs ++ ys)
    (seen_names level e.1 ∙ ap (λ (o : Option Stored). names_seen (seen_in level o)) (sym (there e (Contains-head e es))))
    (all_names level clusters es (λ f here. there f (Contains-later e f es here)))

pub are_names : (level : Level) (slab : Slab Stored) (clusters : Numbered) (list : List ℕ) → ((n : ℕ) → at slab.slots n ≡ finmap.get clusters n)
    → list ≡ flat_map (λ e. names_in level e.1) (entries slab) → AreNames level clusters list
unfolding number_of
are_names level slab clusters list same is = record {
  numbers = map number_of (entries slab);
  once = numbers_once 0 slab.slots;
  all = λ n c seen.
      let found = seen_is level (finmap.get clusters n) c seen in
      Contains-map number_of (entries slab) (n, found.0) ((Contains-entries slab n found.0).1 (same n ∙ found.1));
  told = is ∙ all_names level clusters (entries slab) (λ e here. sym (same e.0) ∙ (Contains-entries slab e.0 e.1).0 here);
}

-- ---- the clusters of slots

seen_clusters : (level : Level) (s : Stored) → clusters_in level s ≡ option_to_list (seen_in level (Some s))
seen_clusters level s = by (is_in level s.tag)
  where
    by : (b : Bool) → cond b (s.cluster ∷ []) [] ≡ option_to_list (cond b (Some s.cluster) None)
    by true = refl
    by false = refl

all_clusters : (level : Level) (clusters : Numbered) (es : List (ℕ × Stored))
    → ((e : ℕ × Stored) → Contains es e → finmap.get clusters e.0 ≡ Some e.1)
    → flat_map (λ e. clusters_in level e.1) es ≡ flat_map (λ n. option_to_list (seen_at level clusters n)) (map number_of es)
unfolding number_of
all_clusters level clusters [] there = refl
all_clusters level clusters (e ∷ es) there =
    ap₂ (λ (xs ys : List Cluster). xs ++ ys)
    (seen_clusters level e.1 ∙ ap (λ (o : Option Stored). option_to_list (seen_in level o)) (sym (there e (Contains-head e es))))
    (all_clusters level clusters es (λ f here. there f (Contains-later e f es here)))

pub are_clusters : (level : Level) (slab : Slab Stored) (clusters : Numbered) (list : List Cluster)
    → ((n : ℕ) → at slab.slots n ≡ finmap.get clusters n)
    → list ≡ flat_map (λ e. clusters_in level e.1) (entries slab) → AreClusters level clusters list
unfolding number_of
are_clusters level slab clusters list same is = record {
  numbers = map number_of (entries slab);
  once = numbers_once 0 slab.slots;
  all = λ n c seen.
      let found = seen_is level (finmap.get clusters n) c seen in
      Contains-map number_of (entries slab) (n, found.0) ((Contains-entries slab n found.0).1 (same n ∙ found.1));
  told = is ∙ all_clusters level clusters (entries slab) (λ e here. sym (same e.0) ∙ (Contains-entries slab e.0 e.1).0 here);
}
