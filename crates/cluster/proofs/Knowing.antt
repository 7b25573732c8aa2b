-- What is known of the parts of a cluster that is made of others.
use Rattle.std.proofs.Common.{◌≡◌, ℕ, ℤ, ◌<◌, ◌⊎◌, true, List, length, slice_index, Contains, inl, inr, subst}
use Rattle.std.specs.Ordering.{nat_cmp}
use Rattle.std.specs.FinSet as set
use Rattle.graphs.specs.Closures.{Closure, is_ancestor, ancestors_of, descendants_of, AddsPair, SetsFee}
use Rattle.graphs.specs.Certificates.{Part}
use Rattle.graphs.proofs.ClosureGraphs.{closures_have_graphs}
use Rattle.graphs.specs.declared.names.Flow.{Flow}
use Rattle.graphs.specs.Picks.{FollowOrder, links_of}
use Rattle.linearize.specs.declared.old.OldPart.{OldPart}
use Rattle.linearize.specs.Known.{IsKnown}
use Rattle.lists.proofs.Flats.{flat_has}
use Rattle.cluster.specs.Changes.{AreAcross, IsPartOf, Joins}
use Rattle.cluster.specs.Clusters.{AreApart, Cluster, IsCluster}
use Rattle.cluster.specs.Guesses.{AreImages, AreSound}
use Rattle.cluster.specs.Named.{named, IsNamed}
use Rattle.cluster.proofs.At.{IsAt}
use Rattle.cluster.proofs.Images.{sound_images}
use Rattle.cluster.proofs.Placed.{beyond, closed}
use Rattle.cluster.proofs.Sound.{sound, stays}
use Rattle.cluster.proofs.Staying.{apart_names, fee_stays, first_stays, left_stays, pair_stays, second_stays}

-- the names of a part are names of the cluster
part_names : (n : ℕ) (k : Cluster) → IsCluster n k → (part : Part) → Contains k.parts part → (id : ℕ) → Contains part.ids id → Contains k.names id
part_names n k is part here id held =
    let made = closures_have_graphs (beyond k.names) k.graph (closed n k is) in
    let order = (is.picked made.0 made.2).certificate.order.topological in
    (is.members id).0 ((made.2.names id).0 ((order.names id).0 (flat_has (λ (p : Part). p.ids) k.parts part id here held)))

-- the flows of a part stand by child, then by parent
pub follows : (n : ℕ) (k : Cluster) → IsCluster n k → (part : Part) → Contains k.parts part → FollowOrder part.ids (links_of part.flows)
follows n k is part here =
    let made = closures_have_graphs (beyond k.names) k.graph (closed n k is) in
    (is.picked made.0 made.2).flows_in_order part here

module _ (n : ℕ) (names : List ℕ) (h : Closure) (parts : List OldPart) (places : List ℕ) (flows : List Flow) (kept : IsNamed n names h) where
  pub fee_known : (k : Cluster) (id : ℕ) (fee : ℤ) → IsCluster n k → SetsFee k.graph (named names h) id fee
      → AreImages names (λ part. Contains k.parts part × (Contains part.ids id → ⊥)) parts places flows → AreSound names h parts places flows
  fee_known k id fee is sets images =
      sound_images n names h (λ part. Contains k.parts part × (Contains part.ids id → ⊥)) parts places flows kept images (λ part so _.
      stays k.graph (named names h) part (fee_stays k.graph (named names h) id fee part.ids sets so.1) (sound n k is part so.0)) (λ part so. follows n k is part so.0)

  pub link_known : (k : Cluster) (g : Closure) (p q parent child : ℕ) (above below : set.FinSet nat_cmp) → IsCluster n k → k.graph ≡ named names g
      → IsNamed n names g → IsAt names p parent → IsAt names q child → above ≡ ancestors_of g p → below ≡ descendants_of g q
      → AddsPair k.graph (named names h) parent child
      → AreImages names (λ part. Contains k.parts part × ((x y : ℕ) → x < length names → y < length names
      → Contains part.ids (slice_index names x) → Contains part.ids (slice_index names y)
      → set.contains above x ≡ true → set.contains below y ≡ true → ⊥)) parts places flows → AreSound names h parts places flows
  link_known k g p q parent child above below is graph old one two are_above are_below pair images =
      sound_images n names h (λ part. Contains k.parts part × ((x y : ℕ) → x < length names → y < length names
      → Contains part.ids (slice_index names x) → Contains part.ids (slice_index names y)
      → set.contains above x ≡ true → set.contains below y ≡ true → ⊥)) parts places flows kept images (λ part so _.
      stays k.graph (named names h) part
      (pair_stays k.graph (named names h) parent child part.ids pair (λ a d a_in d_in up down.
      apart_names n names g old p q parent child one two above below are_above are_below part.ids so.1 a d a_in d_in
      (subst (λ (w : Closure). is_ancestor w a parent ≡ true) graph up) (subst (λ (w : Closure). is_ancestor w child d ≡ true) graph down)))
      (sound n k is part so.0)) (λ part so. follows n k is part so.0)

  pub join_known : (k l : Cluster) (parent child : ℕ) → IsCluster n k → IsCluster n l → AreApart k l → AreAcross k.names l.names parent child
      → Joins k.graph l.graph parent child (named names h)
      → AreImages names (λ part. Contains k.parts part ⊎ Contains l.parts part) parts places flows → AreSound names h parts places flows
  join_known k l parent child k_is l_is apart sides joins images =
      sound_images n names h (λ part. Contains k.parts part ⊎ Contains l.parts part) parts places flows kept images (λ part so _. elim so [
        | inl here ↦ stays k.graph (named names h) part
            (first_stays k.graph l.graph (named names h) k.names l.names (λ id m. (k_is.members id).0 m) (λ id m. (l_is.members id).0 m)
            k_is.order l_is.order (λ id m. (k_is.members id).1 m) (λ id m. (l_is.members id).1 m) apart parent child sides joins part.ids
            (part_names n k k_is part here)) (sound n k k_is part here)
        | inr here ↦ stays l.graph (named names h) part
            (second_stays k.graph l.graph (named names h) k.names l.names (λ id m. (k_is.members id).0 m) (λ id m. (l_is.members id).0 m)
            k_is.order l_is.order (λ id m. (k_is.members id).1 m) (λ id m. (l_is.members id).1 m) apart parent child sides joins part.ids
            (part_names n l l_is part here)) (sound n l l_is part here)
      ]) (λ part so. elim so [ inl here ↦ follows n k k_is part here | inr here ↦ follows n l l_is part here ])

pub part_known : (n : ℕ) (names own : List ℕ) (old h : Closure) (chosen : set.FinSet nat_cmp) (olds : List Part) (parts : List OldPart) (places : List ℕ)
    (flows : List Flow) → IsNamed n own h → IsPartOf names old chosen own (named own h) → ((part : Part) → Contains olds part → IsKnown old part)
    → ((part : Part) → Contains olds part → FollowOrder part.ids (links_of part.flows)) → AreImages own (λ part. Contains olds part) parts places flows → AreSound own h parts places flows
part_known n names own old h chosen olds parts places flows kept part known in_order images =
    sound_images n own h (λ p. Contains olds p) parts places flows kept images (λ p here inside.
    stays old (named own h) p (left_stays names own old (named own h) chosen part p.ids inside) (known p here)) in_order
