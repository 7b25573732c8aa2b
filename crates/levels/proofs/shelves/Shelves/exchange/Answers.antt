-- Clusters take the places of others of the same names.
use Rattle.std.proofs.Common.{◌≤◌, sym, ap, subst, arith, refl}
use Rattle.std.proofs.lemmas.Result.{on_ok_weaker}
use Rattle.cluster_store.specs.Changes.{ExchangesEach}
use Rattle.cluster_store.specs.Stores.{Store}
use Rattle.levels.specs.Shelves.{IsInOrder, Shelf}
use Rattle.levels.specs.Tops.{HaveSameNames}
use Rattle.levels.proofs.Calls.{shelf_of}
use Rattle.levels.proofs.Exchanging.{by_result, order_exchanged, same_numbers}
use Rattle.levels.proofs.Rooms.{exchange_fits}
use Rattle.levels.proofs.shelves.Shelves.exchange.Given as given
use Rattle.levels.proofs.shelves.Shelves.exchange.Goals as goal

pub exchange-requires : goal.exchange-requires
exchange-requires g c =
    let narrow : g.row.W ≤ 2 = c.self.invariant.narrow in (
      omega arith,
      (exchange_fits g.row.W narrow, (subst (λ (s : Shelf). HaveSameNames g.row.W c.args.exchanged.items s) (sym c.self.view_is) c.requires.same).held),
    )

module _ (g : given.Over) (c : goal.After-exchange g) where
  abbrev old : Shelf
  old = shelf_of c.self.inside.limits c.self.inside.numbers c.self.inside.store

  abbrev new : Shelf
  new = shelf_of c.self.inside.limits c.self.inside.numbers c.exchange.new.self

  same : HaveSameNames g.row.W c.args.exchanged.items old
  same = subst (λ (s : Shelf). HaveSameNames g.row.W c.args.exchanged.items s) (sym c.self.view_is) c.requires.same

  in_order : IsInOrder g.row.W new
  in_order =
      by_result c.exchange.result c.exchange.ensures.exchanged c.exchange.ensures.err
      (λ x. order_exchanged g.row.W c.args.exchanged.items old new c.self.invariant same x
      (λ level. same_numbers level c.self.inside.limits c.self.inside.numbers c.self.inside.store c.exchange.new.self) c.exchange.ensures.store refl refl)
      (λ still. subst (λ (s : Store). IsInOrder g.row.W (shelf_of c.self.inside.limits c.self.inside.numbers s)) (sym still) c.self.invariant)

pub invariant_of-self : goal.invariant_of-self
invariant_of-self g c = in_order g c

pub returns-clause-exchanged : goal.returns-clause-exchanged
returns-clause-exchanged g c =
    on_ok_weaker c.exchange.result
    (subst (λ (s : Shelf). ExchangesEach c.args.exchanged.items s.store.clusters c.exchange.new.self.clusters) c.self.view_is)
    c.exchange.ensures.exchanged

pub returns-clause-numbers : goal.returns-clause-numbers
returns-clause-numbers g c =
    (ap (λ (s : Shelf). s.main) c.self.view_is, ap (λ (s : Shelf). s.staging) c.self.view_is, ap (λ (s : Shelf). s.limits) c.self.view_is)

pub returns-clause-order : goal.returns-clause-order
returns-clause-order g c = in_order g c
