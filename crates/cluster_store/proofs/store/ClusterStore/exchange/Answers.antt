-- Slots have other clusters; where there is no memory for their entries, every slot has what it had.
use Rattle.std.proofs.Common.{◌≡◌, ◌*◌, ℕ, true, nat_eq, List, map, Contains, inl, inr, sym, ap, ◌∙◌, subst}
use Rattle.std.proofs.lemmas.Result.{IfOk-from_err}
use Rattle.lists.proofs.Cases.{on_err}
use Rattle.indexmap.specs.IndexSet.{contains}
use Rattle.cluster_store.specs.Stores.{Store, Exchange}
use Rattle.cluster_store.specs.Changes.{lowest_in}
use Rattle.cluster_store.specs.Kept.{IsKept}
use Rattle.cluster_store.specs.Unordered.{IsUnordered}
use Rattle.cluster_store.proofs.Changed.{kept_same, store_same}
use Rattle.cluster_store.proofs.Kept.{kept_store}
use Rattle.cluster_store.proofs.Listing.{held_stored, list_exchanged, list_whole}
use Rattle.cluster_store.proofs.Origins.{kept_came, list_from, unordered_exchanged}
use Rattle.cluster_store.proofs.Sizes.{exchange_fits, stored_fits}
use Rattle.cluster_store.proofs.store.ClusterStore.exchange.Goals as goal

pub lowest_exchanged-least-requires : goal.lowest_exchanged-least-requires
lowest_exchanged-least-requires g c = exchange_fits g.row.W c.self.invariant.kept.narrow

pub exchange_all-requires : goal.exchange_all-requires
exchange_all-requires g c = (
  stored_fits g.row.W c.self.invariant.kept.narrow,
  (
    exchange_fits g.row.W c.self.invariant.kept.narrow,
    (
      c.self.invariant.kept.shown,
      held_stored c.args.exchanged.items c.self.inside.slots.slots c.args.self.now.clusters (ap (λ (s : Store). s.clusters) c.self.view_is) c.requires,
    ),
  ),
)

pub invariant_of-self : goal.invariant_of-self
invariant_of-self g c = record {
  kept = c.self.invariant.kept;
  unordered = λ n is. c.in_err-list_exchanged.ensures.others n (c.self.invariant.unordered n is);
}

pub invariant_of-self-in_err-exchange_all : goal.invariant_of-self-in_err-exchange_all
invariant_of-self-in_err-exchange_all g c = record {
  kept = kept_same g.row.W c.self.inside.slots.slots c.exchange_all.new.slots.slots c.self.inside.index c.exchange_all.new.index c.self.inside.least
      c.self.invariant.kept c.in_err-exchange_all.ensures.err c.in_err-exchange_all.ensures.shown;
  unordered = λ n is.
      c.in_ok-list_exchanged.ensures.others n (c.self.invariant.unordered n (subst IsUnordered (c.in_err-exchange_all.ensures.err n) is));
}

pub returns-in_err-exchange_all-clause-err : goal.returns-in_err-exchange_all-clause-err
returns-in_err-exchange_all-clause-err g c =
    on_err c.from_residual-in_err-exchange_all.result (store_same c.self.inside.slots.slots c.exchange_all.new.slots.slots c.self.inside.index c.exchange_all.new.index
    c.self.inside.least c.self.invariant.kept.shown c.in_err-exchange_all.ensures.shown c.in_err-exchange_all.ensures.err ∙ c.self.view_is)

pub returns-in_err-exchange_all-clause-store : goal.returns-in_err-exchange_all-clause-store
returns-in_err-exchange_all-clause-store g c =
    kept_store g.row.W c.exchange_all.new.slots.slots c.exchange_all.new.index c.self.inside.least (invariant_of-self-in_err-exchange_all g c).kept

pub invariant_of-self-2 : goal.invariant_of-self-2
invariant_of-self-2 g c =
    let slots = c.self.inside.slots.slots in
    let news = map (λ (x : Exchange). x.cluster) c.args.exchanged.items in
    let least : c.lowest_exchanged-least.result ≡ lowest_in news c.self.inside.least =
    c.lowest_exchanged-least.ensures.least
    ∙ ap (λ (xs : List Exchange). lowest_in (map (λ (x : Exchange). x.cluster) xs) c.self.inside.least) c.as_slice.ensures.value in
    record {
      kept = subst (IsKept g.row.W c.exchange_all.new.slots.slots c.exchange_all.new.index) (sym least)
          (kept_came g.row.W news slots c.exchange_all.new.slots.slots c.self.inside.index c.exchange_all.new.index c.self.inside.least
          c.self.invariant.kept c.in_ok-exchange_all.ensures.shown
          (list_whole (64 * g.row.W) c.args.exchanged.items
          (λ x here. c.lowest_exchanged-least.ensures.whole x (subst (λ (xs : List Exchange). Contains xs x) (sym c.as_slice.ensures.value) here)))
          (list_from c.args.exchanged.items slots c.exchange_all.new.slots.slots c.in_ok-exchange_all.ensures.ok));
      unordered = λ n is. elim (unordered_exchanged c.args.exchanged.items slots c.exchange_all.new.slots.slots c.in_ok-exchange_all.ensures.ok n is) [
        | inl (x, here, number, none) ↦
            subst (λ (m : ℕ). contains nat_eq c.list_exchanged.new.over m ≡ true) number
            (c.in_ok-list_exchanged.ensures.listed x (subst (λ (xs : List Exchange). Contains xs x) (sym c.as_slice-2.ensures.value) here) none)
        | inr before ↦ c.in_ok-list_exchanged.ensures.others n (c.self.invariant.unordered n before)
      ];
    }

pub returns-clause-exchanged : goal.returns-clause-exchanged
returns-clause-exchanged g c =
    list_exchanged c.args.exchanged.items c.self.inside.slots.slots c.exchange_all.new.slots.slots c.args.self.now.clusters c.begin_anew.new.self.clusters
    (ap (λ (s : Store). s.clusters) c.self.view_is) (sym c.begin_anew.ensures.clusters) c.in_ok-exchange_all.ensures.ok

pub returns-in_err-exchange_all-clause-exchanged : goal.returns-in_err-exchange_all-clause-exchanged
returns-in_err-exchange_all-clause-exchanged g c = IfOk-from_err c.from_residual-in_err-exchange_all.result _ c.from_residual-in_err-exchange_all.ensures.0

pub returns-in_err-exchange_all-clause-least : goal.returns-in_err-exchange_all-clause-least
returns-in_err-exchange_all-clause-least g c = IfOk-from_err c.from_residual-in_err-exchange_all.result _ c.from_residual-in_err-exchange_all.ensures.0

pub returns-in_err-list_exchanged-clause-store : goal.returns-in_err-list_exchanged-clause-store
returns-in_err-list_exchanged-clause-store g c =
    kept_store g.row.W c.self.inside.slots.slots c.self.inside.index c.self.inside.least c.self.invariant.kept
