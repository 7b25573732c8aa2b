-- No slots and no entries.
use Rattle.std.proofs.Common.{sym, ap, ◌∙◌}
use Rattle.cluster_store.specs.Kept.{Slots, at}
use Rattle.std.proofs.lemmas.Option.{none-some}
use Rattle.cluster_store.proofs.Kept.{kept_store}
use Rattle.cluster_store.proofs.Shelves.{none_kept, none_shelved}
use Rattle.cluster_store.proofs.store.ClusterStore.new.Goals as goal

pub invariant_of-result : goal.invariant_of-result
invariant_of-result g c = record {
  kept = none_kept g.row.W c.new.result.slots c.new-2.result 18446744073709551615 c.requires c.new.ensures.empty c.new-2.ensures;
  unordered = λ n (s, is, none). absurd (none-some s (sym (ap (λ (slots : Slots). at slots n) c.new.ensures.empty) ∙ is));
}

pub returns-clause-empty : goal.returns-clause-empty
returns-clause-empty g c = none_shelved c.new.result.slots c.new-2.result 18446744073709551615 c.new.ensures.empty c.new-2.ensures

pub returns-clause-store : goal.returns-clause-store
returns-clause-store g c =
    kept_store g.row.W c.new.result.slots c.new-2.result 18446744073709551615
    (none_kept g.row.W c.new.result.slots c.new-2.result 18446744073709551615 c.requires c.new.ensures.empty c.new-2.ensures)
