-- The new cluster's entries go in, and then it takes the place of the other.
use Rattle.cluster_store.proofs.Single.{nothing_beside, shown_placed}
use Rattle.cluster_store.proofs.clusters.exchange.Goals as goal

pub enter_beside-requires : goal.enter_beside-requires
enter_beside-requires g c = (
  search,
  (search, (c.requires.there, nothing_beside c.args.slots.now.slots c.args.exchange c.args.index.now c.requires.shown)),
)

pub returns-clause-shown : goal.returns-clause-shown
returns-clause-shown g c =
    shown_placed c.args.slots.now.slots c.args.exchange c.args.index.now c.enter_beside.new.index c.replace.new.index c.replace.new.slots.slots c.requires.shown
    c.in_ok-enter_beside.ensures.here c.in_ok-enter_beside.ensures.others c.replace.ensures.placed c.replace.ensures.here c.replace.ensures.others

pub replace-requires : goal.replace-requires
replace-requires g c = (search, (search, (c.requires.there, c.in_ok-enter_beside.ensures.here)))
