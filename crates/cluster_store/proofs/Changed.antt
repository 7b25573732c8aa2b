-- The bound of sizes, and a store in which nothing changed.
use Rattle.std.proofs.Common.{◌≡◌, ℕ, ◌≤◌, List, [], ◌∷◌, map, min, Contains, inl, inr, sym, ap, ◌∙◌, subst, arith}
use Rattle.lists.proofs.Entries.{Contains-cases, none_in_empty}
use Rattle.graphs.specs.Closures.{rate_of}
use Rattle.chunk_index.specs.Items.{Items}
use Rattle.cluster.specs.Clusters.{Cluster}
use Rattle.cluster_store.specs.Stores.{Store, Numbered, IsOrdered}
use Rattle.cluster_store.specs.Changes.{lowest, lowest_in}
use Rattle.cluster_store.specs.Kept.{Slots, at, shelved, place_of, IsShown, IsKept}
use Rattle.cluster_store.proofs.Shelves.{same_shelved}
use Rattle.cluster_store.proofs.Unique.{one_order}
use Rattle.cluster_store.proofs.Walks.{is_ordered}

-- ---- nothing changed

pub kept_same : (w : ℕ) (slots slots' : Slots) (items items' : Items) (least : ℕ)
    → IsKept w slots items least → ((n : ℕ) → at slots' n ≡ at slots n) → IsShown slots' items'
    → IsKept w slots' items' least
kept_same w slots slots' items items' least kept same shown = record {
  narrow = kept.narrow;
  shown = shown;
  whole = λ n s is. kept.whole n s (sym (same n) ∙ is);
  floor = λ n s is. kept.floor n s (sym (same n) ∙ is);
}

pub store_same : (slots slots' : Slots) (items items' : Items) (least : ℕ) → IsShown slots items → IsShown slots' items' → ((n : ℕ) → at slots' n ≡ at slots n)
    → ◌≡◌ {A = Store} (record { clusters = shelved slots'; order = map place_of items'; least = least })
    (record { clusters = shelved slots; order = map place_of items; least = least })
store_same slots slots' items items' least shown shown' same =
    let clusters : shelved slots' ≡ shelved slots = same_shelved slots' slots same in
    let places : map place_of items' ≡ map place_of items =
    one_order (shelved slots) (map place_of items') (map place_of items)
    (subst (λ (m : Numbered). IsOrdered m (map place_of items')) clusters (is_ordered slots' items' shown')) (is_ordered slots items shown) in
    ap (λ (m : Numbered). record { clusters = m; order = map place_of items'; least = least }) clusters
    ∙ ap (λ (ps : List (ℕ × ℕ)). record { clusters = shelved slots; order = ps; least = least }) places

-- ---- the bound of sizes

pub lowest_le : (f : ℕ → ℕ) (ids : List ℕ) (m : ℕ) → lowest f ids m ≤ m
lowest_le f [] m = omega arith
lowest_le f (id ∷ ids) m = let rest = lowest_le f ids (min m (f id)) in omega (arith, rest)

pub lowest_each : (f : ℕ → ℕ) (ids : List ℕ) (m id : ℕ) → Contains ids id → lowest f ids m ≤ f id
lowest_each f [] m id here = absurd (none_in_empty id here)
lowest_each f (x ∷ ids) m id here = elim (Contains-cases x id ids here) [
  | inl same ↦ let rest = lowest_le f ids (min m (f x)) in let e = ap f same in omega (arith, rest, e)
  | inr later ↦ lowest_each f ids (min m (f x)) id later
]

pub lowest_in_le : (cs : List Cluster) (m : ℕ) → lowest_in cs m ≤ m
lowest_in_le [] m = omega arith
lowest_in_le (c ∷ cs) m =
    let rest = lowest_in_le cs (lowest (λ id. (rate_of c.graph id).size) c.names m) in
    let one = lowest_le (λ id. (rate_of c.graph id).size) c.names m in
    omega (arith, rest, one)

pub lowest_in_each : (cs : List Cluster) (m : ℕ) (c : Cluster) (id : ℕ) → Contains cs c → Contains c.names id → lowest_in cs m ≤ (rate_of c.graph id).size
lowest_in_each [] m c id here named = absurd (none_in_empty c here)
lowest_in_each (x ∷ cs) m c id here named = elim (Contains-cases x c cs here) [
  | inl same ↦
      let rest = lowest_in_le cs (lowest (λ i. (rate_of x.graph i).size) x.names m) in
      let one = lowest_each (λ i. (rate_of x.graph i).size) x.names m id (subst (λ (d : Cluster). Contains d.names id) (sym same) named) in
      let size = ap (λ (d : Cluster). (rate_of d.graph id).size) same in
      omega (arith, rest, one, size)
  | inr later ↦ lowest_in_each cs (lowest (λ i. (rate_of x.graph i).size) x.names m) c id later named
]
