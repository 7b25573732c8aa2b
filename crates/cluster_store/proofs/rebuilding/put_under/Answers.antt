-- One takes the place of the first, and then the others leave.
use Rattle.std.proofs.Common.{◌∷◌, IsSome, sym, subst}
use Rattle.lists.proofs.Entries.{Contains-head}
use Rattle.cluster_store.specs.Stores.{Exchange}
use Rattle.cluster_store.specs.Slots.{Places}
use Rattle.cluster_store.specs.Kept.{at, shelved}
use Rattle.cluster_store.proofs.Sizes.{cluster_fits, exchange_fits}
use Rattle.cluster_store.proofs.Turning.{may_others, put_under, there_at}
use Rattle.cluster_store.proofs.rebuilding.put_under.Goals as goal

pub exchange-requires : goal.exchange-requires
exchange-requires g c =
    let slots = c.args.slots.now.slots in
    let there = there_at c.args.staged (c.args.first ∷ c.args.others.now) slots c.args.first c.requires.may (Contains-head c.args.first c.args.others.now) in
    (search, (exchange_fits g.row.W c.requires.narrow, (c.requires.shown, subst (λ (x : Exchange). IsSome (at slots x.number)) (sym c.new.ensures) there)))

pub leave_top-requires : goal.leave_top-requires
leave_top-requires g c =
    let slots = c.args.slots.now.slots in
    let mid = c.exchange.new.slots.slots in
    let places = subst (λ (x : Exchange). Places slots mid x.number x.cluster) c.new.ensures c.in_ok-exchange.ensures.ok in (
      search,
      (
        c.in_ok-exchange.ensures.shown,
        may_others c.args.staged slots mid c.args.first c.args.others.now c.args.cluster c.requires.may c.requires.gives places,
      ),
    )

pub returns-clause-put : goal.returns-clause-put
returns-clause-put g c =
    let slots = c.args.slots.now.slots in
    let mid = c.exchange.new.slots.slots in
    let places = subst (λ (x : Exchange). Places slots mid x.number x.cluster) c.new.ensures c.in_ok-exchange.ensures.ok in
    put_under c.args.staged slots mid c.args.first c.args.others.now c.args.cluster c.requires.may c.requires.gives places
    (shelved c.leave_top.new.slots.slots) c.leave_top.ensures.out

pub new-requires : goal.new-requires
new-requires g c = (cluster_fits g.row.W c.requires.narrow, exchange_fits g.row.W c.requires.narrow)
