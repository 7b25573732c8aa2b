-- The names of one cluster more have its number.
use Rattle.std.proofs.Common.{◌≡◌, ◌≤◌, ◌<◌, ℕ, List, length, drop, slice_index_or, is_some, ap, ◌∙◌, subst, arith}
use Rattle.std.specs.List.{AllPairs}
use Rattle.cluster.specs.Clusters.{AreApart}
use Rattle.staging.specs.Maps.{top_of}
use Rattle.levels.specs.Changes.{PointsOne}
use Rattle.levels.specs.Shelves.{stored_at}
use Rattle.levels.proofs.Pointing.{PointsAllTo, all_more, all_of, base_more, got_here, names_in, one_at, one_list, room_at}
use Rattle.levels.proofs.Rooms.{record_fits}
use Rattle.levels.proofs.numbers.point_all.Goals as goal

pub at-requires : goal.at-requires
at-requires g c =
    let narrow : g.row.W ≤ 2 = c.requires.narrow in
    let low : c.loop-i.i < length c.args.list.now = omega arith in
    let one = one_at (stored_at c.args.store.now.clusters) c.args.list.now c.requires.clusters.0 c.loop-i.i c.requires.clusters.1 low in
    (omega arith, (record_fits g.row.W narrow, ap is_some one.2))

pub point-requires : goal.point-requires
point-requires g c =
    let low : c.loop-i.i < length c.args.list.now = omega arith in
    let found = c.requires.clusters.0 in
    let few = c.loop-i.invariant.room found c.requires.clusters.1 in
    let room : names_in (drop c.loop-i.i found) ≤ c.loop-i.numbers.spare = omega (arith, few, c.requires.clusters.3) in
    let one = got_here (stored_at c.args.store.now.clusters) c.args.list.now found c.loop-i.i c.at.result.now c.requires.clusters.1 low c.at.ensures in
    omega (arith, room_at found c.loop-i.i c.loop-i.numbers.spare c.at.result.now one room, ap length c.names.ensures.names)

pub loop-i-preserved : goal.loop-i-preserved
loop-i-preserved g c =
    let low : c.loop-i.i < length c.args.list.now = omega arith in
    let at = stored_at c.args.store.now.clusters in
    let number = slice_index_or c.args.list.now c.loop-i.i 0 in
    let points : PointsOne number c.at.result.now.names (top_of c.loop-i.numbers) (top_of c.point.new.numbers) =
    subst (λ (xs : List ℕ). PointsOne number xs (top_of c.loop-i.numbers) (top_of c.point.new.numbers)) c.names.ensures.names c.point.ensures.points in
    record {
      points = λ found are apart. all_more c.loop-i.i c.args.list.now found (top_of c.args.numbers.now) (top_of c.loop-i.numbers) (top_of c.point.new.numbers)
          c.at.result.now (c.loop-i.invariant.points found are apart) apart
          (got_here at c.args.list.now found c.loop-i.i c.at.result.now are low c.at.ensures) points;
      staged = c.point.ensures.staged ∙ c.loop-i.invariant.staged;
      base = base_more c.args.numbers.now c.loop-i.numbers c.point.new.numbers c.loop-i.invariant.staged c.loop-i.invariant.base c.point.ensures.base;
      room = λ found are.
          let one = got_here at c.args.list.now found c.loop-i.i c.at.result.now are low c.at.ensures in
          let all : names_in (drop c.loop-i.i found) ≤ names_in (drop c.loop-i.i found) = omega arith in
          omega (
            arith,
            room_at found c.loop-i.i (names_in (drop c.loop-i.i found)) c.at.result.now one all,
            c.loop-i.invariant.room found are,
            ap length c.names.ensures.names,
            c.point.ensures.room,
          );
    }

pub returns-clause-points : goal.returns-clause-points
returns-clause-points g c found are =
    let all : c.loop-i.i ≡ length c.args.list.now = omega arith in
    let at = stored_at c.args.store.now.clusters in
    let given = c.requires.clusters in
    let apart : AllPairs AreApart found = subst (AllPairs AreApart) (one_list at c.args.list.now given.0 found given.1 are) given.2 in
    all_of c.args.list.now found (top_of c.args.numbers.now) (top_of c.loop-i.numbers) are.count
    (subst (λ n. PointsAllTo n c.args.list.now found (top_of c.args.numbers.now) (top_of c.loop-i.numbers)) all (c.loop-i.invariant.points found are apart))

pub names-requires : goal.names-requires
names-requires g c = record_fits g.row.W c.requires.narrow

pub returns-clause-room : goal.returns-clause-room
returns-clause-room g c found are = omega (arith, c.loop-i.invariant.room found are)
