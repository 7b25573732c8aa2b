-- The entries have the rates of the parts that they stand for.
use Rattle.std.proofs.Common.{map, ap, ◌∙◌}
use Rattle.chunk_index.specs.Items.{same_tag}
use Rattle.cluster_store.specs.Rates.{entry_rate}
use Rattle.cluster_store.specs.Stores.{Shown, Store, shown_only}
use Rattle.cluster_store.proofs.RateWalks.{rates_walk}
use Rattle.cluster_store.proofs.store.ClusterStore.rates_only.Goals as goal

pub returns : goal.returns
returns g c =
    c.new.ensures ∙ ap (map entry_rate) c.walk_only.ensures.entries
    ∙ rates_walk c.self.inside.slots.slots c.self.inside.index c.self.invariant.kept.shown (same_tag c.args.tag) c.self.inside.least
    ∙ ap (λ (s : Store). map (λ (t : Shown). t.part.rate) (shown_only c.args.tag s)) c.self.view_is
