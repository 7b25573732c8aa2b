-- The entries have the rates of the parts that they stand for.
use Rattle.std.proofs.Common.{map, ap, ◌∙◌}
use Rattle.chunk_index.specs.Items.{is_in}
use Rattle.cluster_store.specs.Rates.{entry_rate}
use Rattle.cluster_store.specs.Stores.{Shown, Store, shown_in}
use Rattle.cluster_store.proofs.RateWalks.{rates_walk}
use Rattle.cluster_store.proofs.store.ClusterStore.rates.Goals as goal

pub returns : goal.returns
returns g c =
    c.new.ensures ∙ ap (map entry_rate) c.walk.ensures.entries
    ∙ rates_walk c.self.inside.slots.slots c.self.inside.index c.self.invariant.kept.shown (is_in c.args.level) c.self.inside.least
    ∙ ap (λ (s : Store). map (λ (t : Shown). t.part.rate) (shown_in c.args.level s)) c.self.view_is
