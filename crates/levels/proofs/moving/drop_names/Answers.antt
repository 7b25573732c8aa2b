-- What is left of the clusters comes in.
use Rattle.std.proofs.Common.{ℕ, List, sym, subst, arith}
use Rattle.cluster_store.proofs.Results.{on_ok}
use Rattle.levels.specs.Tops.{Comes, IsMade}
use Rattle.levels.proofs.Dropping.{comes_left, drops_top}
use Rattle.levels.proofs.Rooms.{news_fits}
use Rattle.levels.proofs.moving.drop_names.Goals as goal

pub rebuild-requires : goal.rebuild-requires
rebuild-requires g c =
    let left = c.in_ok-outs.field-0 in
    let ids = c.args.ids.now in
    let old = c.args.shelves.now in
    let kept = c.last_count-kept.result in (
      omega arith,
      (
        news_fits g.row.W c.requires.order.narrow,
        (
          c.requires.order,
          (
            c.requires.right,
            subst (λ (ns : List ℕ). Comes g.row.W ns left.rest.items left.last kept ids old) (sym c.as_slice.ensures.value)
                (comes_left g.row.W ids left.outs.items left.rest.items left.last old c.requires.order c.in_ok-outs.ensures.left c.requires.once kept
                c.last_count-kept.ensures),
          ),
        ),
      ),
    )

pub returns-clause-dropped : goal.returns-clause-dropped
returns-clause-dropped g c =
    let left = c.in_ok-outs.field-0 in
    let ids = c.args.ids.now in
    let old = c.args.shelves.now in
    let new = c.rebuild.new.shelves in
    on_ok c.rebuild.result c.rebuild.ensures.rebuilt (λ made. (
      left.outs.items,
      drops_top g.row.W ids left.outs.items left.rest.items left.last old c.requires.order c.in_ok-outs.ensures.left made.0 made.1 new
          (subst (λ (ns : List ℕ). IsMade g.row.W ns made.0 made.1 left.rest.items left.last ids old new) c.as_slice.ensures.value made.2),
    ))
