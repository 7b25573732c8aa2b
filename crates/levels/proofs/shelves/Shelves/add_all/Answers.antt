-- Those of one cluster more are put behind the others: there is room for those of each cluster that is left.
use Rattle.std.proofs.Common.{rules, ◌≡◌, ◌<◌, ◌≤◌, ◌+◌, length, option_to_list, refl, sym, ap, subst, ◌∙◌, arith}
use Rattle.graphs.specs.Unions.{IsKinOfSome, PutsBehind}
use Rattle.cluster_store.proofs.Done.{no_items}
use Rattle.levels.specs.Shelves.{IsInOrder, Shelf, numbers_at, view_of}
use Rattle.levels.specs.Unions.{AreGrouped, IsFirstRun, names_under}
use Rattle.levels.specs.Views.{graph_of}
use Rattle.levels.proofs.Kins.{adding_all, adding_next, adding_none, run_again, run_fits}
use Rattle.levels.proofs.shelves.Shelves.add_all.Goals as goal

pub loop-left-init : goal.loop-left-init
loop-left-init g c =
    let (numbers, under, fits) = c.requires.room in record {
      way = adding_none c.args.kin c.args.level c.args.self.now c.args.ids.now numbers c.args.out.now.ids c.args.out.now.room c.requires.empty
          c.requires.grouped under fits;
      room = omega (arith, ap length c.requires.empty);
      same = refl;
    }

pub first_run-run-requires : goal.first_run-run-requires
first_run-run-requires g c =
    let some : 0 < length c.loop-left.left.now = search rules in (
      omega arith,
      (
        some,
        subst (λ (s : Shelf). AreGrouped (numbers_at c.args.level s) c.loop-left.left.now) (sym c.loop-left.invariant.same) c.loop-left.invariant.way.cut.grouped,
      ),
    )

pub add_run-requires : goal.add_run-requires
add_run-requires g c =
    let same = c.loop-left.invariant.same in
    let run = c.first_run-run.result in
    let first = subst (λ (s : Shelf). IsFirstRun (numbers_at c.args.level s) c.loop-left.left.now run.ids.now run.rest.now run.number) same
    c.first_run-run.ensures in (
      omega arith,
      (
        subst (λ (s : Shelf). IsInOrder g.row.W s) (sym same) c.requires.order,
        (
          run_again (numbers_at c.args.level c.loop-left.self) c.loop-left.left.now run.ids.now run.rest.now run.number c.first_run-run.ensures,
          subst (λ (s : Shelf). length (names_under c.args.level s (option_to_list run.number)) ≤ c.loop-left.out.room) (sym same)
              (run_fits g.row.W c.args.kin c.args.level c.args.self.now c.requires.order c.args.ids.now c.loop-left.left.now run.ids.now run.rest.now
              c.loop-left.out.ids run.number c.loop-left.out.room c.loop-left.invariant.way first),
        ),
      ),
    )

pub loop-left-preserved : goal.loop-left-preserved
loop-left-preserved g c =
    let same = c.loop-left.invariant.same in
    let run = c.first_run-run.result in
    let first = subst (λ (s : Shelf). IsFirstRun (numbers_at c.args.level s) c.loop-left.left.now run.ids.now run.rest.now run.number) same
    c.first_run-run.ensures in record {
      way = adding_next g.row.W c.args.kin c.args.level c.args.self.now c.requires.order c.args.ids.now c.loop-left.left.now run.ids.now run.rest.now
          c.loop-left.out.ids run.number c.loop-left.out.room c.loop-left.invariant.way first c.add_run.new.out.ids c.add_run.new.out.room
          (subst (λ (s : Shelf). PutsBehind (IsKinOfSome c.args.kin (graph_of (view_of c.args.level s)) run.ids.now) c.loop-left.out.ids
          c.add_run.new.out.ids) same c.add_run.ensures.adds)
          (subst (λ (s : Shelf). length c.add_run.new.out.ids ≤ length c.loop-left.out.ids
          + length (names_under c.args.level s (option_to_list run.number))) same c.add_run.ensures.few)
          c.add_run.ensures.room;
      room = omega (arith, c.add_run.ensures.room, c.loop-left.invariant.room);
      same = c.add_run.ensures.same ∙ same;
    }

pub returns-clause-adds : goal.returns-clause-adds
returns-clause-adds g c =
    let none : length c.loop-left.left.now ≡ 0 = search rules in
    adding_all c.args.kin c.args.level c.args.self.now c.args.ids.now c.loop-left.left.now c.loop-left.out.ids c.loop-left.out.room
    (no_items c.loop-left.left.now none)
    c.loop-left.invariant.way

pub returns-clause-same : goal.returns-clause-same
returns-clause-same g c = c.loop-left.invariant.same
