-- Clusters go out and come in, and names get their numbers.
use Rattle.std.proofs.Common.{rules, ◌≤◌, ◌+◌, ◌*◌, ◌++◌, ℕ, List, Option, length, arith, sym, subst, subst₂}
use Rattle.std.specs.Prelude.{option_to_list, IfSome, []}
use Rattle.graphs.specs.declared.names.Level.TheVariants.{Top}
use Rattle.cluster.specs.Clusters.{Cluster}
use Rattle.cluster_store.specs.Stores.{Store}
use Rattle.cluster_store.specs.Tops.{TopChanges}
use Rattle.staging.specs.Maps.{top_of}
use Rattle.levels.specs.Changes.{AreAt, Covers, Loses, Points}
use Rattle.levels.specs.Shelves.{IsInOrder, Shelf, numbers_at, seen_at, stored_at}
use Rattle.levels.specs.Tops.{HasFront, IsMade}
use Rattle.record.specs.Records.{IsFitted}
use Rattle.levels.specs.Views.{Numbers}
use Rattle.levels.proofs.Calls.{Turns, none_staged, same_top, shelf_of, turns_by, turns_same, turns_then}
use Rattle.levels.proofs.Pointing.{names_in}
use Rattle.levels.proofs.Rebuilding.{AreTurned, is_made, last_stored, last_there, may_leave, order_made, pairs_left, rest_stored}
use Rattle.levels.proofs.Rooms.{record_fits}
use Rattle.levels.proofs.shelves.Shelves.rebuild.Given as given
use Rattle.levels.proofs.shelves.Shelves.rebuild.Goals as goal

pub rebuild-requires : goal.rebuild-requires
rebuild-requires g c =
    let at = subst (λ (s : Shelf). AreAt (seen_at Top s.store.clusters) c.args.outs.now c.requires.comes.0) (sym c.self.view_is) c.requires.comes.1 in (
      omega arith,
      (
        record_fits g.row.W c.self.invariant.narrow,
        may_leave c.staged-staged.result c.args.outs.now c.requires.comes.0 c.self.inside.store.clusters c.requires.once at
            (λ shut. c.self.invariant.both (none_staged c.self.inside.numbers.top c.staged-staged.result c.staged-staged.ensures shut)),
      ),
    )

pub make_room-requires : goal.make_room-requires
make_room-requires g c = (record_fits g.row.W c.self.invariant.narrow, c.self.invariant.narrow)

pub drop-rest-requires : goal.drop-rest-requires
drop-rest-requires g c κs = ((record_fits g.row.W c.self.invariant.narrow, tt), search rules)

pub unpoint-requires : goal.unpoint-requires
unpoint-requires g c = omega (arith, c.in_ok-make_room.ensures.room)

pub point_all-requires : goal.point_all-requires
point_all-requires g c =
    let narrow : g.row.W ≤ 2 = c.self.invariant.narrow in
    let rest = c.args.rest.items in
    let made = c.in_ok-made.made.rest.items in
    let changes = c.in_ok-made.ensures.rebuilt in
    let room : names_in rest + names_in (option_to_list c.args.last) + length c.args.gone.now ≤ c.make_room.new.numbers.spare =
    subst (λ (cs : List Cluster). names_in cs + names_in (option_to_list c.args.last) + length c.args.gone.now ≤ c.make_room.new.numbers.spare)
    c.as_slice.ensures.value c.in_ok-make_room.ensures.room in
    let few : names_in rest ≤ c.unpoint.new.numbers.spare = omega (arith, room, c.unpoint.ensures.room) in (
      omega arith,
      (
        narrow,
        (
          rest,
          subst (λ (ns : List ℕ). AreAt (stored_at c.rebuild.new.self.clusters) ns rest) (sym c.as_slice-2.ensures.value)
              (rest_stored made c.in_ok-made.made.last rest c.args.last c.rebuild.new.self.clusters
              changes.exchanged.top.stand changes.count),
          pairs_left rest (option_to_list c.args.last) c.requires.comes.2.apart,
          few,
        ),
      ),
    )

pub point_last-requires : goal.point_last-requires
point_last-requires g c =
    let narrow : g.row.W ≤ 2 = c.self.invariant.narrow in
    let rest = c.args.rest.items in
    let made = c.in_ok-made.made.rest.items in
    let changes = c.in_ok-made.ensures.rebuilt in
    let room : names_in rest + names_in (option_to_list c.args.last) + length c.args.gone.now ≤ c.make_room.new.numbers.spare =
    subst (λ (cs : List Cluster). names_in cs + names_in (option_to_list c.args.last) + length c.args.gone.now ≤ c.make_room.new.numbers.spare)
    c.as_slice.ensures.value c.in_ok-make_room.ensures.room in
    let stored = subst (λ (ns : List ℕ). AreAt (stored_at c.rebuild.new.self.clusters) ns rest) (sym c.as_slice-2.ensures.value)
    (rest_stored made c.in_ok-made.made.last rest c.args.last c.rebuild.new.self.clusters changes.exchanged.top.stand
    changes.count) in
    let left : names_in (option_to_list c.args.last) ≤ c.point_all.new.numbers.spare =
    omega (arith, room, c.unpoint.ensures.room, c.point_all.ensures.room rest stored) in (
      omega arith,
      (
        narrow,
        last_there made c.in_ok-made.made.last rest c.args.last c.rebuild.new.self.clusters
            changes.exchanged.top.stand changes.count c.args.outs.now c.args.kept c.point_all.new.numbers.spare (numbers_at Top c.args.self.now) c.requires.kept left,
      ),
    )

module _ (g : given.Over) (c : goal.After-point_last g) where
  abbrev old : Shelf
  old = shelf_of c.self.inside.limits c.self.inside.numbers c.self.inside.store

  abbrev new : Shelf
  new = shelf_of c.self.inside.limits c.point_last.new.numbers c.rebuild.new.self

  abbrev made : List ℕ
  made = c.in_ok-made.made.rest.items

  abbrev rest : List Cluster
  rest = c.args.rest.items

  changes : TopChanges c.staged-staged.result c.args.outs.now made c.in_ok-made.made.last rest c.args.last c.self.inside.store.clusters
      c.rebuild.new.self.clusters
  changes = c.in_ok-made.ensures.rebuilt

  turns : Turns c.self.inside.numbers c.point_last.new.numbers
  turns =
      turns_then c.self.inside.numbers c.make_room.new.numbers c.point_last.new.numbers
      (turns_same c.self.inside.numbers c.make_room.new.numbers c.in_ok-make_room.ensures.base c.in_ok-make_room.ensures.top)
      (turns_then c.make_room.new.numbers c.unpoint.new.numbers c.point_last.new.numbers
      (turns_by c.make_room.new.numbers c.unpoint.new.numbers c.unpoint.ensures.staged c.unpoint.ensures.base)
      (turns_then c.unpoint.new.numbers c.point_all.new.numbers c.point_last.new.numbers
      (turns_by c.unpoint.new.numbers c.point_all.new.numbers c.point_all.ensures.staged c.point_all.ensures.base)
      (turns_by c.point_all.new.numbers c.point_last.new.numbers c.point_last.ensures.staged c.point_last.ensures.base)))

  stored : AreAt (stored_at c.rebuild.new.self.clusters) c.as_slice-2.result.now rest
  stored = subst (λ (ns : List ℕ). AreAt (stored_at c.rebuild.new.self.clusters) ns rest) (sym c.as_slice-2.ensures.value)
      (rest_stored made c.in_ok-made.made.last rest c.args.last c.rebuild.new.self.clusters
      changes.exchanged.top.stand changes.count)

  taken : AreAt (seen_at Top c.self.inside.store.clusters) c.args.outs.now c.requires.comes.0
  taken = subst (λ (s : Shelf). AreAt (seen_at Top s.store.clusters) c.args.outs.now c.requires.comes.0) (sym c.self.view_is) c.requires.comes.1

  are : AreTurned (64 * g.row.W) c.args.kept c.args.outs.now made c.in_ok-made.made.last rest c.args.last c.args.gone.now c.requires.comes.0
      (top_of c.self.inside.numbers) (top_of c.unpoint.new.numbers) (top_of c.point_all.new.numbers) (top_of c.point_last.new.numbers)
  are = record {
    covers = subst (λ (s : Shelf). Covers (64 * g.row.W) c.requires.comes.0 (rest ++ option_to_list c.args.last) c.args.gone.now (numbers_at Top s))
        (sym c.self.view_is) c.requires.comes.2;
    turned = record {
      lost = subst (λ (m : Numbers). Loses c.args.gone.now m (top_of c.unpoint.new.numbers))
          (same_top c.self.inside.numbers c.make_room.new.numbers c.in_ok-make_room.ensures.base c.in_ok-make_room.ensures.top) c.unpoint.ensures.lost;
      points = subst (λ (ns : List ℕ). Points ns rest [] (top_of c.unpoint.new.numbers) (top_of c.point_all.new.numbers))
          c.as_slice-2.ensures.value (c.point_all.ensures.points rest stored);
    };
    count = changes.count;
    counts = changes.exchanged.top.stand.count;
    front = subst (λ (s : Shelf). IfSome c.args.last (λ d. HasFront c.args.kept c.args.outs.now d.names (numbers_at Top s))) (sym c.self.view_is)
        c.requires.kept;
    last_points = record {
      points = λ k d one two. c.point_last.ensures.points k d one
          (last_stored made c.in_ok-made.made.last rest c.args.last c.rebuild.new.self.clusters
          changes.exchanged.top.stand changes.count k d one two);
      none = c.point_last.ensures.none;
    };
  }

  rebuilt : IsMade g.row.W c.args.outs.now made c.in_ok-made.made.last rest c.args.last c.args.gone.now old new
  rebuilt =
      is_made g.row.W c.args.kept c.self.inside.limits c.staged-staged.result c.args.outs.now made c.in_ok-made.made.last rest c.args.last c.args.gone.now c.requires.comes.0
      c.self.inside.numbers c.point_last.new.numbers (top_of c.unpoint.new.numbers) (top_of c.point_all.new.numbers) c.self.inside.store
      c.rebuild.new.self turns c.staged-staged.ensures changes taken are

  in_order : IsInOrder g.row.W new
  in_order =
      order_made g.row.W c.args.kept c.self.inside.limits c.staged-staged.result c.args.outs.now made c.in_ok-made.made.last rest c.args.last c.args.gone.now c.requires.comes.0
      c.self.inside.numbers c.point_last.new.numbers (top_of c.unpoint.new.numbers) (top_of c.point_all.new.numbers) c.self.inside.store
      c.rebuild.new.self turns c.staged-staged.ensures changes taken are c.self.invariant
      (λ d here. subst (λ (s : Shelf). IsFitted (64 * g.row.W) s.limits d) (sym c.self.view_is) (c.requires.fitted d here)) c.in_ok-made.ensures.store

pub invariant_of-self-2 : goal.invariant_of-self-2
invariant_of-self-2 g c = in_order g c

pub returns-clause-order : goal.returns-clause-order
returns-clause-order g c = in_order g c

pub returns-clause-rebuilt : goal.returns-clause-rebuilt
returns-clause-rebuilt g c =
    subst (λ (s : Shelf). IsMade g.row.W c.args.outs.now (made g c) c.in_ok-made.made.last (rest g c) c.args.last c.args.gone.now s (new g c))
    c.self.view_is (rebuilt g c)

pub invariant_of-self : goal.invariant_of-self
invariant_of-self g c =
    subst₂ (λ (base : Numbers) (top : Option Numbers). IsInOrder g.row.W (record { limits = c.self.inside.limits; main = base; staging = top; store = c.self.inside.store }))
    (sym c.make_room.ensures.base) (sym c.make_room.ensures.top) c.self.invariant

pub invariant_of-self-in_err-made : goal.invariant_of-self-in_err-made
invariant_of-self-in_err-made g c =
    subst (λ (store : Store). IsInOrder g.row.W (record {
      limits = c.self.inside.limits;
      main = c.make_room.new.numbers.base;
      staging = c.make_room.new.numbers.top;
      store = store;
    }))
    (sym c.in_err-made.ensures.err)
    (subst₂ (λ (base : Numbers) (top : Option Numbers). IsInOrder g.row.W (record { limits = c.self.inside.limits; main = base; staging = top; store = c.self.inside.store }))
    (sym c.make_room.ensures.base) (sym c.make_room.ensures.top) c.self.invariant)
