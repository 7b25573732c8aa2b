-- The touched names are the listed ones, and then none is.
use Rattle.std.proofs.Common.{inr, arith}
use Rattle.graphs.specs.declared.names.Level.TheVariants.{Main}
use Rattle.levels.specs.Shelves.{view_of}
use Rattle.levels.specs.Views.{graph_of}
use Rattle.name_book.proofs.Named.{named-same}
use Rattle.levels.proofs.Mined.{finds_listed, live_named, none_touched, touched_and_released}
use Rattle.levels.proofs.mining.first_lacking.Goals as goal

pub touch_all-requires-clause-live : goal.touch_all-requires-clause-live
touch_all-requires-clause-live g c x here = live_named c.args.rings.now c.args.shelves.now x c.requires.right (c.requires.live x here)

pub first_untouched-found-requires : goal.first_untouched-found-requires
first_untouched-found-requires g c = (
  omega arith,
  (
    c.requires.order,
    (
      c.requires.live,
      (
        λ id here. (c.touch_all.ensures.touched id).1 (inr here),
        λ a live. named-same c.args.rings.now.book c.touch_all.new.self.book c.touch_all.ensures.names a
            (live_named c.args.rings.now c.args.shelves.now a c.requires.right live),
      ),
    ),
  ),
)

pub returns-clause-first : goal.returns-clause-first
returns-clause-first g c =
    finds_listed c.args.ids.now c.args.rings.now c.touch_all.new.self c.touch_all.ensures
    (none_touched c.args.rings.now c.args.shelves.now c.requires.right c.requires.alone)
    (graph_of (view_of Main c.args.shelves.now)) c.first_untouched-found.result c.first_untouched-found.ensures.first

pub returns-clause-keeps : goal.returns-clause-keeps
returns-clause-keeps g c =
    touched_and_released c.args.ids.now c.args.rings.now c.touch_all.new.self c.touch_all.ensures
    (none_touched c.args.rings.now c.args.shelves.now c.requires.right c.requires.alone) c.release_all.new.self c.release_all.ensures
