use Rattle.std.proofs.Common.{◌*◌, lit<, refl}
use Rattle.record.specs.Kept.{unordered}
use Rattle.record.proofs.Connected.{IsCluster-connected}
use Rattle.record.proofs.Keeping.{over_held, over_is, within_held, within_is}
use Rattle.record.proofs.Likeness.{like_same, like_bare, like_connected, like_apart, like_across}
use Rattle.record.proofs.joining.joined_over.Goals as goal

pub joined_with-requires : goal.joined_with-requires
joined_with-requires g c =
    let one = unordered c.in_ok-links-in-Within.links in
    let is = within_is c.one.inside.kept c.in-Within.component c.args.one.now c.in-Within.is c.one.view_is in
    let whole = within_held (64 * g.row.W) c.one.inside.kept c.in-Within.component c.args.one.now c.in-Within.is c.one.view_is c.one.invariant.2 in
    let like = like_bare one c.in-Within.component c.args.one.now c.in_ok-links-in-Within.ensures.1 is in (
      lit< tt,
      (
        c.requires.narrow,
        (
          like_connected one c.args.one.now like (IsCluster-connected (64 * g.row.W) c.args.one.now whole),
          (
            like_apart one c.args.one.now c.args.other.now c.args.other.now like (like_same c.args.other.now c.args.other.now refl) c.requires.apart,
            like_across one c.args.one.now c.args.other.now c.args.other.now like (like_same c.args.other.now c.args.other.now refl) c.args.parent
                c.args.child c.requires.across,
          ),
        ),
      ),
    )

pub joined_with-requires-in-Over : goal.joined_with-requires-in-Over
joined_with-requires-in-Over g c =
    let one = unordered c.deref.result.now.links in
    let held = over_held (64 * g.row.W) c.one.inside.kept c.in-Over.over c.deref.result.now c.in-Over.is c.deref.ensures c.one.invariant.2 in
    let like = like_same one c.args.one.now (over_is c.one.inside.kept c.in-Over.over c.deref.result.now c.args.one.now c.in-Over.is c.deref.ensures c.one.view_is) in (
      lit< tt,
      (
        c.requires.narrow,
        (
          held.connected,
          (
            like_apart one c.args.one.now c.args.other.now c.args.other.now like (like_same c.args.other.now c.args.other.now refl) c.requires.apart,
            like_across one c.args.one.now c.args.other.now c.args.other.now like (like_same c.args.other.now c.args.other.now refl) c.args.parent
                c.args.child c.requires.across,
          ),
        ),
      ),
    )
