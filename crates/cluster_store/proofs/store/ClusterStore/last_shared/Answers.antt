-- The rates of the entries from the first of the tail on are those of the last parts.
use Rattle.std.proofs.Common.{Option, Some, map, ap, ◌∙◌, sym, subst}
use Rattle.chunk_index.specs.declared.entry.Entry.{Entry}
use Rattle.chunk_index.specs.declared.entry.Tag.TheVariants.{Both}
use Rattle.chunk_index.specs.Items.{entries_tagged, same_tag}
use Rattle.chunk_index.proofs.Tags.{entries_in_order}
use Rattle.cluster_store.specs.Rates.{IsFirstOfTail, StartsWith, entry_rate}
use Rattle.cluster_store.specs.Stores.{Shown, Store, shown_only}
use Rattle.cluster_store.proofs.RateWalks.{rates_walk}
use Rattle.cluster_store.proofs.Tails.{rates_are_tail, walk_is_tail}
use Rattle.cluster_store.proofs.store.ClusterStore.last_shared.Goals as goal

pub returns-in-None-clause-tail : goal.returns-in-None-clause-tail
returns-in-None-clause-tail g c =
    let index = c.self.inside.index in
    let at_end = c.first_of_tail.ensures in
    let told = rates_walk c.self.inside.slots.slots index c.self.invariant.kept.shown (same_tag Both) c.self.inside.least
    ∙ ap (λ (s : Store). map (λ (t : Shown). t.part.rate) (shown_only Both s)) c.self.view_is in
    rates_are_tail c.args.size (entries_tagged Both index) (map (λ (t : Shown). t.part.rate) (shown_only Both c.args.self.now)) c.none.result
    c.first_of_tail.result told at_end
    (c.none.ensures ∙ ap (map entry_rate) (sym (subst (λ (o : Option Entry). StartsWith o at_end.tail) c.in-None.is at_end.starts)))

pub returns-in-Some-clause-tail : goal.returns-in-Some-clause-tail
returns-in-Some-clause-tail g c =
    let index = c.self.inside.index in
    let at_end = subst (λ (o : Option Entry). IsFirstOfTail c.args.size (entries_tagged Both index) o) c.in-Some.is c.first_of_tail.ensures in
    let told = rates_walk c.self.inside.slots.slots index c.self.invariant.kept.shown (same_tag Both) c.self.inside.least
    ∙ ap (λ (s : Store). map (λ (t : Shown). t.part.rate) (shown_only Both s)) c.self.view_is in
    rates_are_tail c.args.size (entries_tagged Both index) (map (λ (t : Shown). t.part.rate) (shown_only Both c.args.self.now)) c.new.result
    (Some c.in-Some.first) told at_end
    (c.new.ensures ∙ ap (map entry_rate) (c.walk_shared_from.ensures.entries
    ∙ walk_is_tail c.args.size (entries_tagged Both index) c.in-Some.first (entries_in_order (same_tag Both) index c.walk_shared_from.ensures.order) at_end))
