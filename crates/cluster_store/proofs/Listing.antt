-- Clusters that take the places of others, told by their numbers.
use Rattle.std.proofs.Common.{◌≡◌, ℕ, List, map, Contains, sym, ap, ◌∙◌, subst}
use Rattle.lists.proofs.Entries.{map-Contains}
use Rattle.cluster.specs.Clusters.{Cluster}
use Rattle.record.specs.Records.{IsRecord}
use Rattle.cluster_store.specs.Stores.{Exchange, Numbered}
use Rattle.cluster_store.specs.Changes.{AreHeld, ExchangesEach, with_cluster}
use Rattle.cluster_store.specs.Slots.{AreStored, ExchangesAll}
use Rattle.cluster_store.specs.Kept.{Slots, shelved}
use Rattle.cluster_store.proofs.Kept.{shelved_there}
use Rattle.cluster_store.proofs.Shelves.{get_shelved}

pub held_stored : (exchanged : List Exchange) (slots : Slots) (clusters : Numbered) → shelved slots ≡ clusters → AreHeld exchanged clusters
    → AreStored (map (λ x. x.number) exchanged) slots
held_stored exchanged slots clusters is held = record { once = held.once; there = λ n here. shelved_there slots n clusters is (held.there n here) }

pub list_exchanged : (exchanged : List Exchange) (slots slots' : Slots) (old new : Numbered) → shelved slots ≡ old → shelved slots' ≡ new
    → ExchangesAll exchanged slots slots' → ExchangesEach exchanged old new
list_exchanged exchanged slots slots' old new is is' done =
    subst (λ (m : Numbered). ExchangesEach exchanged m new) is (subst (λ (m : Numbered). ExchangesEach exchanged (shelved slots) m) is' (record {
      exchanges = λ x s here was.
          get_shelved slots' x.number ∙ done.each x here ∙ ap (with_cluster x.cluster) (sym (get_shelved slots x.number) ∙ was);
      others = λ n none. get_shelved slots' n ∙ done.others n none ∙ sym (get_shelved slots n);
    }))

pub list_whole : (most : ℕ) (exchanged : List Exchange) → ((x : Exchange) → Contains exchanged x → IsRecord most x.cluster)
    → (c : Cluster) → Contains (map (λ x. x.cluster) exchanged) c → IsRecord most c
list_whole most exchanged whole c here =
    let x = map-Contains (λ (y : Exchange). y.cluster) exchanged c here in subst (IsRecord most) x.2 (whole x.0 x.1)
