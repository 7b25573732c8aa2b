-- What was put together comes in, and the rings follow.
use Rattle.std.proofs.Common.{◌*◌, ℕ, List, [], Contains, None, lit<, sym, subst}
use Rattle.std.proofs.lemmas.List.{append-nil}
use Rattle.graphs.specs.declared.names.Level.TheVariants.{Top}
use Rattle.cluster.specs.Clusters.{Cluster}
use Rattle.levels.specs.Changes.{AreAt}
use Rattle.levels.specs.Changes as changes
use Rattle.lists.specs.Distinct.{AreDistinct}
use Rattle.record.specs.Records.{IsFitted}
use Rattle.levels.specs.Gathered.{RestoresTop}
use Rattle.levels.specs.Kept.{SuitsShelf}
use Rattle.levels.specs.Shelves.{Shelf, numbers_at, seen_at, stored_at}
use Rattle.levels.specs.Tops.{IsMade}
use Rattle.levels.proofs.Gaining.{right_reserved}
use Rattle.levels.proofs.Gains.{covers_comes, news_apart, news_at, news_live, rebuilds_only, right_restored}
use Rattle.levels.proofs.restoring.restore.Goals as goal

pub returns-then-is_err-clause-kept : goal.returns-then-is_err-clause-kept
returns-then-is_err-clause-kept g c = (
  c.requires.order,
  right_reserved c.args.rings.now c.reserve.new.self c.args.shelves.now.main (numbers_at Top c.args.shelves.now) c.reserve.ensures.same c.requires.right,
)

pub returns-in_err-outs-clause-kept : goal.returns-in_err-outs-clause-kept
returns-in_err-outs-clause-kept g c = (
  c.requires.order,
  right_reserved c.args.rings.now c.reserve.new.self c.args.shelves.now.main (numbers_at Top c.args.shelves.now) c.reserve.ensures.same c.requires.right,
)

pub rebuild-requires : goal.rebuild-requires
rebuild-requires g c =
    let shelf = c.args.shelves.now in
    let back = c.in_ok-outs.field-0 in
    let comes = c.in_ok-outs.ensures.comes in (
      lit< tt,
      (
        lit< tt,
        (
          subst AreDistinct (sym c.as_slice.ensures.value) comes.gathers.met.once,
          (
            (
              comes.gathers.puts.olds,
              subst (λ (ns : List ℕ). AreAt (seen_at Top shelf.store.clusters) ns comes.gathers.puts.olds) (sym c.as_slice.ensures.value)
                  comes.gathers.puts.at,
              subst (λ (cs : List Cluster). changes.Covers (64 * g.row.W) comes.gathers.puts.olds cs [] (numbers_at Top shelf))
                  (sym (append-nil back.news.items))
                  (covers_comes g.row.W c.args.txs.now c.args.pairs.now back.outs.items back.news.items shelf c.requires.order c.requires.may comes),
            ),
            (
              tt,
              (
                λ d here.
                    let at = subst (λ (cs : List Cluster). Contains cs d) (append-nil back.news.items) here in
                    subst (λ (e : Cluster). IsFitted (64 * g.row.W) shelf.limits e) at.2 (comes.fitted at.0 d at.1),
                c.requires.order,
              ),
            ),
          ),
        ),
      ),
    )

pub returns-in_default-clause-kept : goal.returns-in_default-clause-kept
returns-in_default-clause-kept g c = (
  c.rebuild.ensures.order,
  subst (λ (s : Shelf). SuitsShelf c.reserve.new.self s) (sym c.in_default.ensures.err)
      (right_reserved c.args.rings.now c.reserve.new.self c.args.shelves.now.main (numbers_at Top c.args.shelves.now) c.reserve.ensures.same c.requires.right),
)

pub part_all-requires : goal.part_all-requires
part_all-requires g c =
    let old = c.args.shelves.now in
    let new = c.rebuild.new.self in
    let back = c.in_ok-outs.field-0 in
    let list = c.as_slice-2.result.now in
    let made : List ℕ = c.in-Ok.made.rest.items in
    let comes = c.in_ok-outs.ensures.comes in
    let is : IsMade g.row.W back.outs.items made c.in-Ok.made.last back.news.items None [] old new =
    subst (λ (ns : List ℕ). IsMade g.row.W ns made c.in-Ok.made.last back.news.items None [] old new) c.as_slice.ensures.value c.in-Ok.ensures.rebuilt in
    let d : RestoresTop g.row.W c.args.txs.now c.args.pairs.now old new = record {
      outs = back.outs.items;
      made = made;
      news = back.news.items;
      comes = comes;
      rebuilds = rebuilds_only g.row.W c.args.txs.now c.args.pairs.now back.outs.items made c.in-Ok.made.last back.news.items old new comes is;
    } in
    let right = right_reserved c.args.rings.now c.reserve.new.self old.main (numbers_at Top old) c.reserve.ensures.same c.requires.right in
    let to : (clusters : List Cluster) → AreAt (stored_at new.store.clusters) list clusters → AreAt (stored_at new.store.clusters) made clusters =
    λ clusters are. subst (λ (ns : List ℕ). AreAt (stored_at new.store.clusters) ns clusters) c.as_slice-2.ensures.value are in (
      lit< tt,
      (
        c.rebuild.ensures.order,
        (
          (
            back.news.items,
            subst (λ (ns : List ℕ). AreAt (stored_at new.store.clusters) ns back.news.items) (sym c.as_slice-2.ensures.value)
                (news_at g.row.W c.args.txs.now c.args.pairs.now old new c.requires.order c.rebuild.ensures.order c.requires.may d),
          ),
          (
            λ clusters x are named.
                news_live g.row.W c.args.txs.now c.args.pairs.now old new c.requires.order c.rebuild.ensures.order c.requires.may d c.requires.alone
                c.reserve.new.self right c.add_all.new.rings c.add_all.ensures clusters x (to clusters are) named,
            λ clusters are.
                news_apart g.row.W c.args.txs.now c.args.pairs.now old new c.requires.order c.rebuild.ensures.order c.requires.may d clusters (to clusters are),
          ),
        ),
      ),
    )

pub returns-clause-restored : goal.returns-clause-restored
returns-clause-restored g c =
    let old = c.args.shelves.now in
    let new = c.rebuild.new.self in
    let back = c.in_ok-outs.field-0 in
    let made : List ℕ = c.in-Ok.made.rest.items in
    let comes = c.in_ok-outs.ensures.comes in
    let is : IsMade g.row.W back.outs.items made c.in-Ok.made.last back.news.items None [] old new =
    subst (λ (ns : List ℕ). IsMade g.row.W ns made c.in-Ok.made.last back.news.items None [] old new) c.as_slice.ensures.value c.in-Ok.ensures.rebuilt in
    record {
      outs = back.outs.items;
      made = made;
      news = back.news.items;
      comes = comes;
      rebuilds = rebuilds_only g.row.W c.args.txs.now c.args.pairs.now back.outs.items made c.in-Ok.made.last back.news.items old new comes is;
    }

pub returns-clause-kept : goal.returns-clause-kept
returns-clause-kept g c =
    let old = c.args.shelves.now in
    let new = c.rebuild.new.self in
    let back = c.in_ok-outs.field-0 in
    let made : List ℕ = c.in-Ok.made.rest.items in
    let comes = c.in_ok-outs.ensures.comes in
    let is : IsMade g.row.W back.outs.items made c.in-Ok.made.last back.news.items None [] old new =
    subst (λ (ns : List ℕ). IsMade g.row.W ns made c.in-Ok.made.last back.news.items None [] old new) c.as_slice.ensures.value c.in-Ok.ensures.rebuilt in
    let d : RestoresTop g.row.W c.args.txs.now c.args.pairs.now old new = record {
      outs = back.outs.items;
      made = made;
      news = back.news.items;
      comes = comes;
      rebuilds = rebuilds_only g.row.W c.args.txs.now c.args.pairs.now back.outs.items made c.in-Ok.made.last back.news.items old new comes is;
    } in (
      c.rebuild.ensures.order,
      right_restored g.row.W c.args.txs.now c.args.pairs.now old new c.requires.order c.rebuild.ensures.order c.requires.may d c.requires.alone
          c.reserve.new.self
          (right_reserved c.args.rings.now c.reserve.new.self old.main (numbers_at Top old) c.reserve.ensures.same c.requires.right)
          c.add_all.new.rings c.add_all.ensures c.part_all.new.rings c.part_all.ensures.names
          (λ clusters x y are. c.part_all.ensures.main clusters x y
          (subst (λ (ns : List ℕ). AreAt (stored_at new.store.clusters) ns clusters) (sym c.as_slice-2.ensures.value) are))
          c.part_all.ensures.touched,
    )
