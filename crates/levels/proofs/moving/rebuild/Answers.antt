-- The rings follow what the shelf makes.
use Rattle.std.proofs.Common.{◌≡◌, ℕ, List, None, rules, sym, ap, ◌∙◌, subst, arith}
use Rattle.std.specs.FinSet as set
use Rattle.levels.specs.Kept.{SuitsShelf}
use Rattle.levels.specs.Rings.{Fewer, Ringed}
use Rattle.levels.specs.Shelves.{IsInOrder}
use Rattle.levels.specs.Tops.{IsMade}
use Rattle.levels.proofs.Calls.{none_staged}
use Rattle.levels.proofs.Regathered.{ends_of, ends_same, gone_live, last_there, rest_apart, rest_at, rest_named, right_gathered, right_staged, untouched}
use Rattle.levels.proofs.Regathering.{Ends}
use Rattle.levels.proofs.Shelved.{none_of, some_of}
use Rattle.levels.proofs.Touching.{same_named}
use Rattle.levels.proofs.moving.rebuild.Goals as goal
use Rattle.levels.proofs.moving.rebuild.Goals.{then-is_staged, else-is_staged}

pub touch_left-requires : goal.touch_left-requires
touch_left-requires g c =
    let news = c.args.news in
    let made = c.in_ok-made.made in (
      omega arith,
      (
        c.in_ok-made.ensures.order,
        (
          c.requires.comes.once,
          untouched g.row.W c.args.outs.now made.rest.items made.last news.rest.items news.last news.kept c.args.gone.now c.args.shelves.now
              c.rebuild.new.self c.requires.order c.in_ok-made.ensures.order c.requires.comes c.in_ok-made.ensures.rebuilt c.args.rings.now c.requires.right,
        ),
      ),
    )

pub forget_lost-requires : goal.forget_lost-requires
forget_lost-requires g c =
    let news = c.args.news in
    let made = c.in_ok-made.made in (
      search rules,
      (
        (λ id here. (same_named c.args.rings.now c.touch_left.new.rings c.touch_left.ensures.names id).1
            (gone_live g.row.W c.args.outs.now made.rest.items made.last news.rest.items news.last news.kept c.args.gone.now c.args.shelves.now
            c.rebuild.new.self c.requires.order c.in_ok-made.ensures.order c.requires.comes c.in_ok-made.ensures.rebuilt c.args.rings.now c.requires.right
            id here)),
        c.requires.comes.lost,
      ),
    )

pub forget_all-requires-clause-live : goal.forget_all-requires-clause-live
forget_all-requires-clause-live g c id here =
    let news = c.args.news in
    let made = c.in_ok-made.made in
    (same_named c.args.rings.now c.touch_left.new.rings c.touch_left.ensures.names id).1
    (gone_live g.row.W c.args.outs.now made.rest.items made.last news.rest.items news.last news.kept c.args.gone.now c.args.shelves.now
    c.rebuild.new.self c.requires.order c.in_ok-made.ensures.order c.requires.comes c.in_ok-made.ensures.rebuilt c.args.rings.now c.requires.right
    id here)

pub part_all-requires : goal.part_all-requires
part_all-requires g c =
    let old = c.args.shelves.now in
    let new = c.rebuild.new.self in
    let outs = c.args.outs.now in
    let gone = c.args.gone.now in
    let rest = c.args.news.rest.items in
    let last = c.args.news.last in
    let number = c.in_ok-made.made.last in
    let order = c.in_ok-made.ensures.order in
    let list = c.as_slice.result.now in
    let is : IsMade g.row.W outs list number rest last gone old new =
    subst (λ (ns : List ℕ). IsMade g.row.W outs ns number rest last gone old new) (sym c.as_slice.ensures.value) c.in_ok-made.ensures.rebuilt in
    let none : old.staging ≡ None = none_of old.staging new.staging (sym is.rebuilds.staged)
    (none_staged new.staging c.is_staged.result c.is_staged.ensures c.if-is_staged.false) in (
      omega arith,
      (
        order,
        (
          (rest, rest_at g.row.W outs list number rest last c.args.news.kept gone old new c.requires.order order c.requires.comes is c.args.rings.now c.requires.right),
          (
            rest_named g.row.W outs list number rest last c.args.news.kept gone old new c.requires.order order c.requires.comes is c.args.rings.now c.requires.right
                c.touch_left.new.rings c.touch_left.ensures none c.forget_all.new.rings c.forget_all.ensures.forgets,
            rest_apart g.row.W outs list number rest last c.args.news.kept gone old new c.requires.order order c.requires.comes is c.args.rings.now c.requires.right,
          ),
        ),
      ),
    )

pub gather_last-requires : goal.gather_last-requires
gather_last-requires g c =
    let old = c.args.shelves.now in
    let new = c.rebuild.new.self in
    let outs = c.args.outs.now in
    let gone = c.args.gone.now in
    let rest = c.args.news.rest.items in
    let last = c.args.news.last in
    let number = c.in_ok-made.made.last in
    let order = c.in_ok-made.ensures.order in
    let list = c.as_slice.result.now in
    let is : IsMade g.row.W outs list number rest last gone old new =
    subst (λ (ns : List ℕ). IsMade g.row.W outs ns number rest last gone old new) (sym c.as_slice.ensures.value) c.in_ok-made.ensures.rebuilt in
    let none : old.staging ≡ None = none_of old.staging new.staging (sym is.rebuilds.staged)
    (none_staged new.staging c.is_staged.result c.is_staged.ensures c.if-is_staged.false) in (
      omega arith,
      (
        order,
        last_there g.row.W outs list number rest last c.args.news.kept gone old new c.requires.order order c.requires.comes is c.args.rings.now c.requires.right
            c.touch_left.new.rings c.touch_left.ensures none c.forget_all.new.rings c.forget_all.ensures.forgets c.part_all.new.rings
            c.part_all.ensures.names,
      ),
    )

pub returns-clause-kept : goal.returns-clause-kept
returns-clause-kept g c =
    let old = c.args.shelves.now in
    let new = c.rebuild.new.self in
    let outs = c.args.outs.now in
    let gone = c.args.gone.now in
    let rest = c.args.news.rest.items in
    let last = c.args.news.last in
    let number = c.in_ok-made.made.last in
    let order = c.in_ok-made.ensures.order in
    let mid = c.touch_left.new.rings in
    let touches = c.touch_left.ensures in
    let some_names : set.len mid.book.names ≡ set.len c.args.rings.now.book.names = ap set.len touches.names in
    elim c.if-is_staged.branch [
      | then-is_staged w ↦
          let is = c.in_ok-made.ensures.rebuilt in
          let lost = w.forget_lost.ensures in
          subst (λ (r : Ringed). IsInOrder g.row.W new × SuitsShelf r new × Fewer c.args.rings.now r) (sym w.rings-is) (
            order,
            right_staged g.row.W outs c.in_ok-made.made.rest.items number rest last c.args.news.kept gone old new c.requires.order order c.requires.comes is
                c.args.rings.now c.requires.right mid touches
                (some_of old.staging new.staging (sym is.rebuilds.staged) (sym c.is_staged.ensures ∙ w.if-is_staged.true)) w.forget_lost.new.rings
                lost.forgets,
            (omega (arith, lost.few, some_names), lost.issued ∙ touches.issued),
          )
      | else-is_staged w ↦
          let list = w.as_slice.result.now in
          let is : IsMade g.row.W outs list number rest last gone old new =
          subst (λ (ns : List ℕ). IsMade g.row.W outs ns number rest last gone old new) (sym w.as_slice.ensures.value) c.in_ok-made.ensures.rebuilt in
          let none : old.staging ≡ None = none_of old.staging new.staging (sym is.rebuilds.staged)
          (none_staged new.staging c.is_staged.result c.is_staged.ensures w.if-is_staged.false) in
          let cut = w.part_all.new.rings in
          let after = w.gather_last.new.rings in
          let ends : Ends c.args.news.kept last cut after =
          ends_of g.row.W outs list number rest last c.args.news.kept gone old new c.requires.order order c.requires.comes is c.args.rings.now c.requires.right cut after
          w.gather_last.ensures.none w.gather_last.ensures.gathers in
          let same = ends_same c.args.news.kept last cut after ends in
          subst (λ (r : Ringed). IsInOrder g.row.W new × SuitsShelf r new × Fewer c.args.rings.now r) (sym w.rings-is) (
            order,
            right_gathered g.row.W outs list number rest last c.args.news.kept gone old new c.requires.order order c.requires.comes is c.args.rings.now c.requires.right
                mid touches none w.forget_all.new.rings w.forget_all.ensures.forgets cut
                (λ clusters are. record {
                  names = w.part_all.ensures.names;
                  main = λ x y. w.part_all.ensures.main clusters x y are;
                  touched = w.part_all.ensures.touched;
                })
                after ends,
            (
              omega (arith, ap set.len same.0, ap set.len w.part_all.ensures.names, w.forget_all.ensures.few, some_names),
              same.1 ∙ w.part_all.ensures.issued ∙ w.forget_all.ensures.issued ∙ touches.issued,
            ),
          )
    ]
