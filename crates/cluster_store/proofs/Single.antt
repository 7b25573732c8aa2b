-- One cluster takes the place of another.
use Rattle.std.proofs.Common.{◌≡◌, ℕ, [], Option, Contains, subst}
use Rattle.std.specs.FinMap as finmap
use Rattle.lists.proofs.Entries.{none_in_empty}
use Rattle.chunk_index.specs.Items.{Items}
use Rattle.cluster.specs.Clusters.{Cluster}
use Rattle.cluster_store.specs.Stores.{Stored, Exchange, Numbered}
use Rattle.cluster_store.specs.Changes.{with_cluster, Sets}
use Rattle.cluster_store.specs.Slots.{Places, IsBeside, KeepsElsewhere}
use Rattle.cluster_store.specs.Kept.{Slots, at, shelved, IsShown}
use Rattle.cluster_store.proofs.Wide.{beside_before, wide_begins, wide_ends, wide_more, wide_fewer}
use Rattle.cluster_store.proofs.Kept.{shelved_at, shelved_written}

pub shelved_placed : (slots slots' : Slots) (n : ℕ) (c : Cluster) → Places slots slots' n c → (old new : Numbered) → shelved slots ≡ old → shelved slots' ≡ new
    → Sets n (with_cluster c (finmap.get old n)) old new
shelved_placed slots slots' n c places old new is is' =
    subst (λ (o : Option Stored). Sets n (with_cluster c o) old new) (shelved_at slots n old is)
    (shelved_written slots slots' n (with_cluster c (at slots n)) places old new is is')

-- ---- the index where one cluster is exchanged

nothing_waits : (n : ℕ) → Contains {X = ℕ} [] n → ⊥
nothing_waits n here = none_in_empty n here

pub nothing_beside : (slots : Slots) (x : Exchange) (items : Items) → IsShown slots items → IsBeside slots x.number [] items
nothing_beside slots x items shown = beside_before slots [] x (nothing_waits x.number) items (wide_begins slots items shown)

pub shown_placed : (slots : Slots) (x : Exchange) (items mid items' : Items) (slots' : Slots)
    → IsShown slots items → IsBeside slots x.number x.cluster.parts mid
    → KeepsElsewhere x.number items mid → Places slots slots' x.number x.cluster
    → IsBeside slots' x.number [] items' → KeepsElsewhere x.number mid items' → IsShown slots' items'
shown_placed slots x items mid items' slots' shown beside first places here second =
    wide_ends slots' items' (wide_fewer slots [] x (nothing_waits x.number) slots' mid items'
    (wide_more slots [] x (nothing_waits x.number) items mid (wide_begins slots items shown) beside first) places.others here second)
