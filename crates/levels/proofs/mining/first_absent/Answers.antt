-- Main has one name more, or hasn't it.
use Rattle.std.proofs.Common.{◌≡◌, ◌≤◌, false, length, slice_index, arith}
use Rattle.std.specs.FinMap as finmap
use Rattle.graphs.specs.declared.names.Level.TheVariants.{Main}
use Rattle.graphs.specs.Closures.{is_member}
use Rattle.levels.specs.Shelves.{numbers_at, view_of}
use Rattle.levels.specs.Views.{graph_of}
use Rattle.levels.proofs.Forgetting.{has_number, lacks_number}
use Rattle.levels.proofs.Mined.{absent_is, present_is}
use Rattle.levels.proofs.Seeking.{first_here, none_here, none_there}
use Rattle.levels.proofs.mining.first_absent.Goals as goal

pub returns-then-is_none : goal.returns-then-is_none
returns-then-is_none g c =
    let shelf = c.args.shelves.now in
    let id = slice_index c.args.ids.now c.loop-id.id-index in
    first_here (λ n. is_member (graph_of (view_of Main shelf)) n ≡ false) c.args.ids.now c.loop-id.id-index c.loop-id.invariant c.loop-id-test.true
    (absent_is shelf id (lacks_number c.number.result (finmap.get (numbers_at Main shelf) id) c.is_none.result c.is_none.ensures
    c.if-is_none.true c.number.ensures.number))

pub loop-id-preserved : goal.loop-id-preserved
loop-id-preserved g c =
    let shelf = c.args.shelves.now in
    let id = slice_index c.args.ids.now c.loop-id.id-index in
    none_here (λ n. is_member (graph_of (view_of Main shelf)) n ≡ false) c.args.ids.now c.loop-id.id-index c.loop-id.invariant c.loop-id-test.true
    (present_is shelf id (has_number c.number.result (finmap.get (numbers_at Main shelf) id) c.is_none.result c.is_none.ensures
    c.if-is_none.false c.number.ensures.number))

pub returns : goal.returns
returns g c =
    let all : length c.args.ids.now ≤ c.loop-id.id-index = omega (arith, c.loop-id-test.false) in
    none_there (λ n. is_member (graph_of (view_of Main c.args.shelves.now)) n ≡ false) c.args.ids.now c.loop-id.id-index c.loop-id.invariant all
