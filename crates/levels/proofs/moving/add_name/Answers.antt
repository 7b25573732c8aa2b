-- A cluster of one name comes in, and the rings gain the name.
use Rattle.std.proofs.Common.{◌≤◌, ◌*◌, ◌++◌, ℤ, Contains, List, [], ◌∷◌, Some, sym, subst, arith}
use Rattle.std.proofs.lemmas.Int.{to_z-of_z}
use Rattle.std.specs.Int.{w64}
use Rattle.graphs.specs.declared.names.Level.TheVariants.{Top}
use Rattle.cluster.specs.Changes.{IsSingle}
use Rattle.cluster.specs.Clusters.{Cluster}
use Rattle.record.specs.Records.{IsFitted}
use Rattle.levels.proofs.Making.{all_one}
use Rattle.levels.proofs.Ordered.{fitted_record}
use Rattle.fee_rate.specs.Limits.{IsRate}
use Rattle.name_book.proofs.Named.{named-same}
use Rattle.levels.specs.Kept.{SuitsShelf}
use Rattle.levels.specs.Moves.{AddsTop}
use Rattle.levels.specs.Changes.{AreAt, Covers}
use Rattle.levels.specs.Shelves.{Shelf, numbers_at, seen_at}
use Rattle.levels.specs.Tops.{IsMade}
use Rattle.levels.proofs.Gaining.{absent_main, absent_top, adds_made, comes_new, none_kept, right_gained, right_reserved}
use Rattle.levels.proofs.Rooms.{record_fits, work_fits}
use Rattle.levels.proofs.moving.add_name.Given as given
use Rattle.levels.proofs.moving.add_name.Goals as goal

pub returns-in_err-reserve-clause-right : goal.returns-in_err-reserve-clause-right
returns-in_err-reserve-clause-right g c =
    right_reserved c.args.rings.now c.reserve.new.self c.args.shelves.now.main (numbers_at Top c.args.shelves.now) c.reserve.ensures.same c.requires.right

pub returns-in_err-cluster-clause-right : goal.returns-in_err-cluster-clause-right
returns-in_err-cluster-clause-right g c =
    right_reserved c.args.rings.now c.reserve.new.self c.args.shelves.now.main (numbers_at Top c.args.shelves.now) c.reserve.ensures.same c.requires.right

pub single-requires : goal.single-requires
single-requires g c = (
  work_fits g.row.W c.requires.order.narrow,
  (
    record_fits g.row.W c.requires.order.narrow,
    subst (λ (fee : ℤ). IsRate (record { fee = fee; size = c.args.size }))
        (sym (to_z-of_z w64 c.args.fee c.ranges.fee)) c.requires.rate,
  ),
)

pub rebuild-requires : goal.rebuild-requires
rebuild-requires g c =
    let narrow : g.row.W ≤ 2 = c.requires.order.narrow in
    let cluster = c.in_ok-cluster.cluster in
    let fitted = c.in_ok-cluster.ensures.fitted c.args.shelves.now.limits c.requires.order.in_range.count_low c.requires.fits in
    let names = c.in_ok-cluster.ensures.single.names in
    let numbers = numbers_at Top c.args.shelves.now in
    let absent = absent_top c.args.rings.now c.args.shelves.now c.args.id c.requires.right c.requires.absent in (
      omega arith,
      (
        record_fits g.row.W narrow,
        (
          tt,
          (
            subst (λ (xs : List Cluster). (olds : List Cluster) × AreAt (seen_at Top c.args.shelves.now.store.clusters) [] olds
                × Covers (64 * g.row.W) olds (xs ++ cluster ∷ []) [] numbers) (sym c.new.ensures.items)
                (comes_new g.row.W c.args.id cluster c.args.shelves.now (fitted_record (64 * g.row.W) c.args.shelves.now.limits cluster fitted) names absent),
            (
              none_kept cluster.names numbers,
              (
                subst (λ (xs : List Cluster). (d : Cluster) → Contains (xs ++ cluster ∷ []) d → IsFitted (64 * g.row.W) c.args.shelves.now.limits d)
                    (sym c.new.ensures.items) (all_one (IsFitted (64 * g.row.W) c.args.shelves.now.limits) cluster fitted),
                c.requires.order,
              ),
            ),
          ),
        ),
      ),
    )

pub returns-in_err-rebuild-clause-right : goal.returns-in_err-rebuild-clause-right
returns-in_err-rebuild-clause-right g c =
    subst (λ (s : Shelf). SuitsShelf c.reserve.new.self s) (sym c.in_err-rebuild.ensures.err)
    (right_reserved c.args.rings.now c.reserve.new.self c.args.shelves.now.main (numbers_at Top c.args.shelves.now) c.reserve.ensures.same c.requires.right)

pub add-requires-clause-issued : goal.add-requires-clause-issued
add-requires-clause-issued g c =
    omega (arith, c.reserve.ensures.same.issued, c.requires.issued)

pub add-requires-clause-absent : goal.add-requires-clause-absent
add-requires-clause-absent g c =
    λ named. c.requires.absent (named-same c.reserve.new.self.book c.args.rings.now.book (sym c.reserve.ensures.same.names) c.args.id named)

adds : (g : given.Over) (c : goal.After-add g) → AddsTop g.row.W c.args.id (record { fee = c.args.fee; size = c.args.size }) c.args.shelves.now c.rebuild.new.self
adds g c =
    adds_made g.row.W c.args.id (record { fee = c.args.fee; size = c.args.size }) c.in_ok-rebuild.field-0.rest.items c.in_ok-rebuild.field-0.last c.in_ok-cluster.cluster c.args.shelves.now c.rebuild.new.self
    (subst (λ (fee : ℤ). IsSingle c.args.id (record { fee = fee; size = c.args.size }) c.in_ok-cluster.cluster) (to_z-of_z w64 c.args.fee c.ranges.fee)
    c.in_ok-cluster.ensures.single)
    (absent_top c.args.rings.now c.args.shelves.now c.args.id c.requires.right c.requires.absent)
    (subst (λ (xs : List Cluster). IsMade g.row.W [] c.in_ok-rebuild.field-0.rest.items c.in_ok-rebuild.field-0.last xs (Some c.in_ok-cluster.cluster) []
    c.args.shelves.now c.rebuild.new.self) c.new.ensures.items c.in_ok-rebuild.ensures.rebuilt)

pub returns-clause-added : goal.returns-clause-added
returns-clause-added g c = adds g c

pub returns-clause-right : goal.returns-clause-right
returns-clause-right g c =
    right_gained g.row.W c.args.id (record { fee = c.args.fee; size = c.args.size }) c.args.shelves.now c.rebuild.new.self c.requires.order c.rebuild.ensures.order (adds g c)
    c.reserve.new.self c.add.new.self
    (right_reserved c.args.rings.now c.reserve.new.self c.args.shelves.now.main (numbers_at Top c.args.shelves.now) c.reserve.ensures.same c.requires.right)
    (absent_main c.args.rings.now c.args.shelves.now c.args.id c.requires.right c.requires.absent) c.is_staged.result c.is_staged.ensures
    c.add.ensures
