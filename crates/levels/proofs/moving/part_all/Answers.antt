-- The cluster of one number more is cut out.
use Rattle.std.proofs.Common.{◌≤◌, ◌<◌, ℕ, List, Contains, length, is_some, take_all, ap, ◌∙◌, subst, arith}
use Rattle.cluster.specs.Clusters.{Cluster}
use Rattle.name_book.specs.Calls.{ArePartedOff}
use Rattle.levels.specs.Shelves.{stored_at}
use Rattle.levels.proofs.Cutting.{AreCut, cut_next, listed}
use Rattle.name_book.proofs.Named.{named-same}
use Rattle.levels.proofs.Pointing.{got_here, one_at}
use Rattle.levels.proofs.Rooms.{record_fits}
use Rattle.levels.proofs.moving.part_all.Goals as goal

pub at-requires : goal.at-requires
at-requires g c =
    let narrow : g.row.W ≤ 2 = c.requires.order.narrow in
    let low : c.loop-number.number-index < length c.args.list.now = c.loop-number-test.true in
    let one = one_at (stored_at c.args.shelves.now.store.clusters) c.args.list.now c.requires.clusters.0 c.loop-number.number-index c.requires.clusters.1 low in
    (omega arith, (record_fits g.row.W narrow, ap is_some one.2))

pub part-requires-clause-live : goal.part-requires-clause-live
part-requires-clause-live g c x here =
    let clusters = c.requires.clusters.0 in
    let is = got_here (stored_at c.args.shelves.now.store.clusters) c.args.list.now clusters c.loop-number.number-index c.at.result.now c.requires.clusters.1
    c.loop-number-test.true c.at.ensures in
    named-same c.args.rings.now.book c.loop-number.rings.book c.loop-number.invariant.names x
    (c.requires.live clusters x c.requires.clusters.1 (
      c.at.result.now,
      listed clusters c.loop-number.number-index c.at.result.now is,
      subst (λ (xs : List ℕ). Contains xs x) c.names.ensures.names here,
    ))

pub loop-number-preserved : goal.loop-number-preserved
loop-number-preserved g c =
    let so = c.loop-number.invariant in
    let part = c.part.ensures in
    let cut : ArePartedOff c.at.result.now.names c.loop-number.rings c.part.new.self =
    subst (λ (xs : List ℕ). ArePartedOff xs c.loop-number.rings c.part.new.self) c.names.ensures.names part.main in
    record {
      names = part.names ∙ so.names;
      main = λ clusters are.
          cut_next clusters c.loop-number.number-index c.at.result.now
          (got_here (stored_at c.args.shelves.now.store.clusters) c.args.list.now clusters c.loop-number.number-index c.at.result.now are
          c.loop-number-test.true c.at.ensures)
          c.args.rings.now c.loop-number.rings c.part.new.self (c.requires.apart clusters are) (so.main clusters are) cut;
      touched = λ x. (λ marked. (so.touched x).0 ((part.touched x).0 marked), λ marked. (part.touched x).1 ((so.touched x).1 marked));
      issued = part.issued ∙ so.issued;
    }

pub returns-clause-main : goal.returns-clause-main
returns-clause-main g c clusters x y are =
    let all : length clusters ≤ c.loop-number.number-index = omega (arith, are.count, c.loop-number-test.false) in
    subst (λ (xs : List Cluster). AreCut c.args.rings.now xs c.loop-number.rings) (take_all c.loop-number.number-index clusters all)
    (c.loop-number.invariant.main clusters are) x y

pub names-requires : goal.names-requires
names-requires g c = record_fits g.row.W c.requires.order.narrow
