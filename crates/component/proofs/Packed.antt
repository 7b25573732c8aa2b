-- Members that are the least places stand the same in sets of one word and of more.
use Rattle.std.proofs.Common.{◌≡◌, ℕ, zero, suc, ◌+◌, ◌<◌, ◌≤◌, Bool, false, cond, List, ◌∷◌, slice_index, sym, ap, ◌∙◌, arith}
use Rattle.std.specs.List.{filter, range_with_len}
use Rattle.std.specs.Ordering.{nat_cmp}
use Rattle.std.specs.FinSet as set
use Rattle.std.proofs.lemmas.Bool.{false_from_ne_true}
use Rattle.lists.proofs.Ranges.{none_pass}
use Rattle.bitset.specs.Places.{places, IsWithin}
use Rattle.graphs.specs.Closures.{Closure, is_ancestor, members_of, rate_of}
use Rattle.cluster.specs.Clusters.{Cluster}
use Rattle.cluster.specs.Changes.{TakesNames}

-- numbers that don't pass add nothing to those before them
none_later : (p : ℕ → Bool) (a n m : ℕ) → n ≤ m → ((k : ℕ) → a + n ≤ k → p k ≡ false)
    → filter p (range_with_len a n) ≡ filter p (range_with_len a m)
none_later p a zero m low none = sym (none_pass p a m (λ k high. none k (omega (arith, high))))
none_later p a (suc n) zero low none = absurd (omega (arith, low))
none_later p a (suc n) (suc m) low none =
    ap (λ (xs : List ℕ). cond (p a) (a ∷ xs) xs) (none_later p (a + 1) n m (omega (arith, low)) (λ k high. none k (omega (arith, high))))

places_wider : (n m : ℕ) (s : set.FinSet nat_cmp) → n ≤ m → IsWithin n s → places n s ≡ places m s
places_wider n m s low within =
    none_later (set.contains s) 0 n m low
    (λ k high. false_from_ne_true (set.contains s k) (λ here. let below : k < n = within k here in omega (arith, below, high)))

-- so names stand for the same members
pub TakesNames-wider : (n m : ℕ) (g : Closure) (names : List ℕ) (c : Cluster) → n ≤ m → IsWithin n (members_of g) → TakesNames n g names c
    → TakesNames m g names c
TakesNames-wider n m g names c low within takes =
    let same : places n (members_of g) ≡ places m (members_of g) = places_wider n m (members_of g) low within in record {
      names_are = takes.names_are;
      rates = λ i here. takes.rates i here ∙ ap (λ (ps : List ℕ). rate_of g (slice_index ps i)) same;
      ancestors = λ i j first second. takes.ancestors i j first second ∙ ap (λ (ps : List ℕ). is_ancestor g (slice_index ps i) (slice_index ps j)) same;
    }
