use Rattle.std.proofs.Common.{◌*◌, lit<, refl}
use Rattle.record.specs.Kept.{unordered}
use Rattle.record.proofs.Connected.{IsCluster-connected}
use Rattle.record.proofs.Keeping.{over_held, over_is, within_held, within_is}
use Rattle.record.proofs.Likeness.{like_same, like_bare, like_connected, like_apart, like_across}
use Rattle.record.proofs.joining.joined_with.Goals as goal

pub joined_links-requires : goal.joined_links-requires
joined_links-requires g c =
    let one = unordered c.args.one.now in
    let two = unordered c.in_ok-links-in-Within.links in
    let is = within_is c.other.inside.kept c.in-Within.component c.args.other.now c.in-Within.is c.other.view_is in
    let whole = within_held (64 * g.row.W) c.other.inside.kept c.in-Within.component c.args.other.now c.in-Within.is c.other.view_is c.other.invariant.2 in
    let like = like_bare two c.in-Within.component c.args.other.now c.in_ok-links-in-Within.ensures.1 is in (
      lit< tt,
      (
        (c.other.invariant.0, c.other.invariant.1),
        (
          (c.requires.connected, like_connected two c.args.other.now like (IsCluster-connected (64 * g.row.W) c.args.other.now whole)),
          (
            like_apart one one two c.args.other.now (like_same one one refl) like c.requires.apart,
            like_across one one two c.args.other.now (like_same one one refl) like c.args.parent c.args.child c.requires.across,
          ),
        ),
      ),
    )

pub joined_links-requires-in-Over : goal.joined_links-requires-in-Over
joined_links-requires-in-Over g c =
    let one = unordered c.args.one.now in
    let two = unordered c.deref.result.now.links in
    let held = over_held (64 * g.row.W) c.other.inside.kept c.in-Over.over c.deref.result.now c.in-Over.is c.deref.ensures c.other.invariant.2 in
    let like = like_same two c.args.other.now (over_is c.other.inside.kept c.in-Over.over c.deref.result.now c.args.other.now c.in-Over.is c.deref.ensures c.other.view_is) in (
      lit< tt,
      (
        (c.other.invariant.0, c.other.invariant.1),
        (
          (c.requires.connected, held.connected),
          (
            like_apart one one two c.args.other.now (like_same one one refl) like c.requires.apart,
            like_across one one two c.args.other.now (like_same one one refl) like c.args.parent c.args.child c.requires.across,
          ),
        ),
      ),
    )
