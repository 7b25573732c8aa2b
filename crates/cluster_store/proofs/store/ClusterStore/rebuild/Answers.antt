-- The top level of the slots changes; where there is no memory for it, every slot has what it had.
use Rattle.std.proofs.Common.{◌≡◌, ℕ, ◌+◌, ◌*◌, ◌≤◌, ◌⊎◌, ◌++◌, length, List, Contains, arith, inl, inr, sym, ap, ◌∙◌, subst, subst₂}
use Rattle.std.specs.Prelude.{option_to_list}
use Rattle.std.proofs.lemmas.Result.{IfOk-from_err}
use Rattle.lists.proofs.Cases.{on_err}
use Rattle.cluster.specs.Clusters.{Cluster}
use Rattle.indexmap.specs.IndexSet.{spare as room_of}
use Rattle.cluster_store.specs.Stores.{Store, Numbered}
use Rattle.cluster_store.specs.Changes.{EndsAt, lowest_in}
use Rattle.cluster_store.specs.Kept.{IsKept, at}
use Rattle.cluster_store.specs.Unordered.{HasUnordered, IsUnordered}
use Rattle.cluster_store.specs.Tops.{MayLeave, TopChanges}
use Rattle.cluster_store.proofs.Changed.{kept_same, store_same}
use Rattle.cluster_store.proofs.Kept.{kept_store}
use Rattle.cluster_store.proofs.Origins.{joined_whole, kept_came, lowest_told, slots_from, unordered_came, unordered_made}
use Rattle.cluster_store.proofs.Sizes.{cluster_fits, stored_fits}
use Rattle.cluster_store.proofs.store.ClusterStore.rebuild.Goals as goal

pub lowest_of_all-least-requires : goal.lowest_of_all-least-requires
lowest_of_all-least-requires g c = cluster_fits g.row.W c.self.invariant.kept.narrow

pub lowest_of_last-least-requires : goal.lowest_of_last-least-requires
lowest_of_last-least-requires g c = cluster_fits g.row.W c.self.invariant.kept.narrow

pub rebuild-requires : goal.rebuild-requires
rebuild-requires g c = (
  stored_fits g.row.W c.self.invariant.kept.narrow,
  (
    cluster_fits g.row.W c.self.invariant.kept.narrow,
    (
      c.self.invariant.kept.narrow,
      (
        c.self.invariant.kept.shown,
        subst (MayLeave c.args.staged c.args.outs.now) (ap (λ (s : Store). s.clusters) (sym c.self.view_is)) c.requires,
      ),
    ),
  ),
)

pub invariant_of-self : goal.invariant_of-self
invariant_of-self g c = record {
  kept = c.self.invariant.kept;
  unordered = λ n is. c.in_err-make_room.ensures.same n ∙ c.self.invariant.unordered n is;
}

pub invariant_of-self-in_err-made : goal.invariant_of-self-in_err-made
invariant_of-self-in_err-made g c = record {
  kept = kept_same g.row.W c.self.inside.slots.slots c.rebuild.new.slots.slots c.self.inside.index c.rebuild.new.index c.self.inside.least
      c.self.invariant.kept c.in_err-made.ensures.err c.in_err-made.ensures.shown;
  unordered = λ n is.
      c.in_ok-make_room.ensures.same n ∙ c.self.invariant.unordered n (subst IsUnordered (c.in_err-made.ensures.err n) is);
}

pub list_made-requires : goal.list_made-requires
list_made-requires g c =
    let rebuilt = c.in_ok-made.ensures.rebuilt in
    let made = c.in_ok-made.made in
    let news = c.args.rest.items ++ option_to_list c.args.last in
    let came : (n : ℕ) → IsUnordered (at c.rebuild.new.slots.slots n)
    → (Contains (made.rest.items ++ option_to_list made.last) n × HasUnordered news) ⊎ IsUnordered (at c.self.inside.slots.slots n) =
    unordered_came c.args.staged c.args.outs.now (made.rest.items ++ option_to_list made.last) news c.self.inside.slots.slots c.rebuild.new.slots.slots
    rebuilt.exchanged in (
      stored_fits g.row.W c.self.invariant.kept.narrow,
      (
        λ n here unordered.
            let some = unordered_made c.args.staged c.args.outs.now (made.rest.items ++ option_to_list made.last) news c.self.inside.slots.slots
            c.rebuild.new.slots.slots rebuilt.exchanged n here unordered in
            let room : length c.args.rest.items + 1 ≤ room_of c.make_room.new.over =
            subst (λ (cs : List Cluster). HasUnordered (cs ++ option_to_list c.args.last) → length cs + 1 ≤ room_of c.make_room.new.over)
            c.as_slice-2.ensures.value c.in_ok-make_room.ensures.room some in
            omega (arith, room, rebuilt.count),
        λ n unordered. elim (came n unordered) [
          | inl here ↦ inl here.0
          | inr before ↦ inr (c.in_ok-make_room.ensures.same n ∙ c.self.invariant.unordered n before)
        ],
      ),
    )

pub returns-in_err-made-clause-err : goal.returns-in_err-made-clause-err
returns-in_err-made-clause-err g c =
    on_err c.from_residual-in_err-made.result (store_same c.self.inside.slots.slots c.rebuild.new.slots.slots c.self.inside.index c.rebuild.new.index c.self.inside.least
    c.self.invariant.kept.shown c.in_err-made.ensures.shown c.in_err-made.ensures.err ∙ c.self.view_is)

pub returns-in_err-made-clause-store : goal.returns-in_err-made-clause-store
returns-in_err-made-clause-store g c = kept_store g.row.W c.rebuild.new.slots.slots c.rebuild.new.index c.self.inside.least (invariant_of-self-in_err-made g c).kept

pub invariant_of-self-2 : goal.invariant_of-self-2
invariant_of-self-2 g c =
    let slots = c.self.inside.slots.slots in
    let news = c.args.rest.items ++ option_to_list c.args.last in
    let made = c.in_ok-made.made in
    let least : c.lowest_of_last-least.result ≡ lowest_in news c.self.inside.least =
    lowest_told c.lowest_of_all-least.result c.lowest_of_last-least.result c.self.inside.least c.as_slice.result.now c.args.rest.items c.args.last
    c.lowest_of_all-least.ensures.least c.as_slice.ensures.value c.lowest_of_last-least.ensures.least in
    record {
      kept = subst (IsKept g.row.W c.rebuild.new.slots.slots c.rebuild.new.index) (sym least)
          (kept_came g.row.W news slots c.rebuild.new.slots.slots c.self.inside.index c.rebuild.new.index c.self.inside.least c.self.invariant.kept
          c.in_ok-made.ensures.shown
          (joined_whole (64 * g.row.W) c.args.rest.items c.args.last
          (λ d here. c.lowest_of_all-least.ensures.whole d (subst (λ (cs : List Cluster). Contains cs d) (sym c.as_slice.ensures.value) here))
          c.lowest_of_last-least.ensures.whole)
          (slots_from c.args.staged c.args.outs.now (made.rest.items ++ option_to_list made.last) news slots c.rebuild.new.slots.slots
          c.in_ok-made.ensures.rebuilt.exchanged));
      unordered = c.list_made.ensures;
    }

pub returns-clause-rebuilt : goal.returns-clause-rebuilt
returns-clause-rebuilt g c =
    let made = c.in_ok-made.made in
    subst₂ (λ (old new : Numbered). TopChanges c.args.staged c.args.outs.now made.rest.items made.last c.args.rest.items c.args.last old new)
    (ap (λ (s : Store). s.clusters) c.self.view_is) (sym c.begin_anew.ensures.clusters) c.in_ok-made.ensures.rebuilt

pub returns-clause-least : goal.returns-clause-least
returns-clause-least g c =
    let news = c.args.rest.items ++ option_to_list c.args.last in
    let least : c.lowest_of_last-least.result ≡ lowest_in news c.args.self.now.least =
    lowest_told c.lowest_of_all-least.result c.lowest_of_last-least.result c.self.inside.least c.as_slice.result.now c.args.rest.items c.args.last
    c.lowest_of_all-least.ensures.least c.as_slice.ensures.value c.lowest_of_last-least.ensures.least
    ∙ ap (λ (s : Store). lowest_in news s.least) c.self.view_is in
    subst (λ (n : ℕ). EndsAt c.begin_anew.new.self.clusters n c.begin_anew.new.self.least) least c.begin_anew.ensures.least

pub returns-in_err-made-clause-rebuilt : goal.returns-in_err-made-clause-rebuilt
returns-in_err-made-clause-rebuilt g c = IfOk-from_err c.from_residual-in_err-made.result _ c.from_residual-in_err-made.ensures.0

pub returns-in_err-made-clause-least : goal.returns-in_err-made-clause-least
returns-in_err-made-clause-least g c = IfOk-from_err c.from_residual-in_err-made.result _ c.from_residual-in_err-made.ensures.0

pub returns-in_err-make_room-clause-store : goal.returns-in_err-make_room-clause-store
returns-in_err-make_room-clause-store g c =
    kept_store g.row.W c.self.inside.slots.slots c.self.inside.index c.self.inside.least c.self.invariant.kept
