-- The names of the cluster that main alone has are touched.
use Rattle.std.proofs.Common.{Contains}
use Rattle.levels.specs.Rings.{LeftMain}
use Rattle.levels.proofs.Touching.{left_listed, touches_alike}
use Rattle.levels.proofs.moving.touch_one.Goals as goal

pub touch_all-requires-clause-live : goal.touch_all-requires-clause-live
touch_all-requires-clause-live g c x here =
    let names = left_listed c.args.shelves.now c.args.number c.at.result.now c.names.result.now (c.is_left.ensures.0 c.if-is_left.true) c.at.ensures
    c.names.ensures.names x in
    (c.requires.untouched x (names.1 here)).0

pub touch_all-requires-clause-untouched : goal.touch_all-requires-clause-untouched
touch_all-requires-clause-untouched g c x here =
    let names = left_listed c.args.shelves.now c.args.number c.at.result.now c.names.result.now (c.is_left.ensures.0 c.if-is_left.true) c.at.ensures
    c.names.ensures.names x in
    (c.requires.untouched x (names.1 here)).1

pub returns-then-is_left : goal.returns-then-is_left
returns-then-is_left g c =
    touches_alike (Contains c.names.result.now) (LeftMain c.args.shelves.now c.args.number) c.args.rings.now c.touch_all.new.self
    (λ x.
    let names = left_listed c.args.shelves.now c.args.number c.at.result.now c.names.result.now (c.is_left.ensures.0 c.if-is_left.true) c.at.ensures
    c.names.ensures.names x in
    (names.1, names.0))
    c.touch_all.ensures
