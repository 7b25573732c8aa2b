use Rattle.std.proofs.Common.{◌*◌, ◌<◌, length, sym, arith}
use Rattle.component.proofs.Kept.{narrow_is, wide_is, wide_large}
use Rattle.component.proofs.Same.{join_few, join_large, join_apart, join_across}
use Rattle.component.proofs.Sizes.{cluster_fits}
use Rattle.component.proofs.component.Component.joined.Goals as goal

pub narrow_joined-requires : goal.narrow_joined-requires
narrow_joined-requires g c = (
  search,
  (
    search,
    (
      join_few c.args.self.now c.in-Narrow-Narrow.first c.args.other.now c.in-Narrow-Narrow.second
          (sym (narrow_is c.self.inside.kept c.in-Narrow-Narrow.first c.args.self.now c.in-Narrow-Narrow.is-0 c.self.view_is))
          (sym (narrow_is c.other.inside.kept c.in-Narrow-Narrow.second c.args.other.now c.in-Narrow-Narrow.is-1 c.other.view_is)) (64 * g.row.W) c.requires.few,
      (
        join_apart c.args.self.now c.in-Narrow-Narrow.first c.args.other.now c.in-Narrow-Narrow.second
            (sym (narrow_is c.self.inside.kept c.in-Narrow-Narrow.first c.args.self.now c.in-Narrow-Narrow.is-0 c.self.view_is))
            (sym (narrow_is c.other.inside.kept c.in-Narrow-Narrow.second c.args.other.now c.in-Narrow-Narrow.is-1 c.other.view_is)) c.requires.apart,
        join_across c.args.self.now c.in-Narrow-Narrow.first c.args.other.now c.in-Narrow-Narrow.second
            (sym (narrow_is c.self.inside.kept c.in-Narrow-Narrow.first c.args.self.now c.in-Narrow-Narrow.is-0 c.self.view_is))
            (sym (narrow_is c.other.inside.kept c.in-Narrow-Narrow.second c.args.other.now c.in-Narrow-Narrow.is-1 c.other.view_is)) c.args.parent c.args.child c.requires.across,
      ),
    ),
  ),
)

pub first_widened-requires : goal.first_widened-requires
first_widened-requires g c = (
  cluster_fits g.row.W c.self.invariant.1,
  (
    search,
    (
      search,
      (
        join_large c.args.self.now c.in-Narrow-Wide.first c.args.other.now c.deref.result.now
            (sym (narrow_is c.self.inside.kept c.in-Narrow-Wide.first c.args.self.now c.in-Narrow-Wide.is-0 c.self.view_is))
            (sym (wide_is c.other.inside.kept c.in-Narrow-Wide.second c.deref.result.now c.args.other.now c.in-Narrow-Wide.is-1 c.other.view_is c.deref.ensures)) 64
            (let high : 64 < length c.args.other.now.names = wide_large c.other.inside.kept c.in-Narrow-Wide.second c.args.other.now c.in-Narrow-Wide.is-1 c.other.view_is c.other.invariant.2 in omega (arith, high)),
        (
          join_few c.args.self.now c.in-Narrow-Wide.first c.args.other.now c.deref.result.now
              (sym (narrow_is c.self.inside.kept c.in-Narrow-Wide.first c.args.self.now c.in-Narrow-Wide.is-0 c.self.view_is))
              (sym (wide_is c.other.inside.kept c.in-Narrow-Wide.second c.deref.result.now c.args.other.now c.in-Narrow-Wide.is-1 c.other.view_is c.deref.ensures)) (64 * g.row.W) c.requires.few,
          (
            join_apart c.args.self.now c.in-Narrow-Wide.first c.args.other.now c.deref.result.now
                (sym (narrow_is c.self.inside.kept c.in-Narrow-Wide.first c.args.self.now c.in-Narrow-Wide.is-0 c.self.view_is))
                (sym (wide_is c.other.inside.kept c.in-Narrow-Wide.second c.deref.result.now c.args.other.now c.in-Narrow-Wide.is-1 c.other.view_is c.deref.ensures)) c.requires.apart,
            join_across c.args.self.now c.in-Narrow-Wide.first c.args.other.now c.deref.result.now
                (sym (narrow_is c.self.inside.kept c.in-Narrow-Wide.first c.args.self.now c.in-Narrow-Wide.is-0 c.self.view_is))
                (sym (wide_is c.other.inside.kept c.in-Narrow-Wide.second c.deref.result.now c.args.other.now c.in-Narrow-Wide.is-1 c.other.view_is c.deref.ensures)) c.args.parent c.args.child c.requires.across,
          ),
        ),
      ),
    ),
  ),
)

pub second_widened-requires : goal.second_widened-requires
second_widened-requires g c = (
  cluster_fits g.row.W c.self.invariant.1,
  (
    search,
    (
      search,
      (
        join_large c.args.self.now c.deref-in-Wide-Narrow.result.now c.args.other.now c.in-Wide-Narrow.second
            (sym (wide_is c.self.inside.kept c.in-Wide-Narrow.first c.deref-in-Wide-Narrow.result.now c.args.self.now c.in-Wide-Narrow.is-0 c.self.view_is c.deref-in-Wide-Narrow.ensures))
            (sym (narrow_is c.other.inside.kept c.in-Wide-Narrow.second c.args.other.now c.in-Wide-Narrow.is-1 c.other.view_is)) 64
            (let high : 64 < length c.args.self.now.names = wide_large c.self.inside.kept c.in-Wide-Narrow.first c.args.self.now c.in-Wide-Narrow.is-0 c.self.view_is c.self.invariant.2 in omega (arith, high)),
        (
          join_few c.args.self.now c.deref-in-Wide-Narrow.result.now c.args.other.now c.in-Wide-Narrow.second
              (sym (wide_is c.self.inside.kept c.in-Wide-Narrow.first c.deref-in-Wide-Narrow.result.now c.args.self.now c.in-Wide-Narrow.is-0 c.self.view_is c.deref-in-Wide-Narrow.ensures))
              (sym (narrow_is c.other.inside.kept c.in-Wide-Narrow.second c.args.other.now c.in-Wide-Narrow.is-1 c.other.view_is)) (64 * g.row.W) c.requires.few,
          (
            join_apart c.args.self.now c.deref-in-Wide-Narrow.result.now c.args.other.now c.in-Wide-Narrow.second
                (sym (wide_is c.self.inside.kept c.in-Wide-Narrow.first c.deref-in-Wide-Narrow.result.now c.args.self.now c.in-Wide-Narrow.is-0 c.self.view_is c.deref-in-Wide-Narrow.ensures))
                (sym (narrow_is c.other.inside.kept c.in-Wide-Narrow.second c.args.other.now c.in-Wide-Narrow.is-1 c.other.view_is)) c.requires.apart,
            join_across c.args.self.now c.deref-in-Wide-Narrow.result.now c.args.other.now c.in-Wide-Narrow.second
                (sym (wide_is c.self.inside.kept c.in-Wide-Narrow.first c.deref-in-Wide-Narrow.result.now c.args.self.now c.in-Wide-Narrow.is-0 c.self.view_is c.deref-in-Wide-Narrow.ensures))
                (sym (narrow_is c.other.inside.kept c.in-Wide-Narrow.second c.args.other.now c.in-Wide-Narrow.is-1 c.other.view_is)) c.args.parent c.args.child c.requires.across,
          ),
        ),
      ),
    ),
  ),
)

pub wide_joined-requires : goal.wide_joined-requires
wide_joined-requires g c = (
  cluster_fits g.row.W c.self.invariant.1,
  (
    search,
    (
      search,
      (
        join_large c.args.self.now c.deref-in-Wide-Wide.result.now c.args.other.now c.deref-in-Wide-Wide-2.result.now
            (sym (wide_is c.self.inside.kept c.in-Wide-Wide.first c.deref-in-Wide-Wide.result.now c.args.self.now c.in-Wide-Wide.is-0 c.self.view_is c.deref-in-Wide-Wide.ensures))
            (sym (wide_is c.other.inside.kept c.in-Wide-Wide.second c.deref-in-Wide-Wide-2.result.now c.args.other.now c.in-Wide-Wide.is-1 c.other.view_is c.deref-in-Wide-Wide-2.ensures)) 64
            (let high : 64 < length c.args.other.now.names = wide_large c.other.inside.kept c.in-Wide-Wide.second c.args.other.now c.in-Wide-Wide.is-1 c.other.view_is c.other.invariant.2 in omega (arith, high)),
        (
          join_few c.args.self.now c.deref-in-Wide-Wide.result.now c.args.other.now c.deref-in-Wide-Wide-2.result.now
              (sym (wide_is c.self.inside.kept c.in-Wide-Wide.first c.deref-in-Wide-Wide.result.now c.args.self.now c.in-Wide-Wide.is-0 c.self.view_is c.deref-in-Wide-Wide.ensures))
              (sym (wide_is c.other.inside.kept c.in-Wide-Wide.second c.deref-in-Wide-Wide-2.result.now c.args.other.now c.in-Wide-Wide.is-1 c.other.view_is c.deref-in-Wide-Wide-2.ensures)) (64 * g.row.W) c.requires.few,
          (
            join_apart c.args.self.now c.deref-in-Wide-Wide.result.now c.args.other.now c.deref-in-Wide-Wide-2.result.now
                (sym (wide_is c.self.inside.kept c.in-Wide-Wide.first c.deref-in-Wide-Wide.result.now c.args.self.now c.in-Wide-Wide.is-0 c.self.view_is c.deref-in-Wide-Wide.ensures))
                (sym (wide_is c.other.inside.kept c.in-Wide-Wide.second c.deref-in-Wide-Wide-2.result.now c.args.other.now c.in-Wide-Wide.is-1 c.other.view_is c.deref-in-Wide-Wide-2.ensures)) c.requires.apart,
            join_across c.args.self.now c.deref-in-Wide-Wide.result.now c.args.other.now c.deref-in-Wide-Wide-2.result.now
                (sym (wide_is c.self.inside.kept c.in-Wide-Wide.first c.deref-in-Wide-Wide.result.now c.args.self.now c.in-Wide-Wide.is-0 c.self.view_is c.deref-in-Wide-Wide.ensures))
                (sym (wide_is c.other.inside.kept c.in-Wide-Wide.second c.deref-in-Wide-Wide-2.result.now c.args.other.now c.in-Wide-Wide.is-1 c.other.view_is c.deref-in-Wide-Wide-2.ensures)) c.args.parent c.args.child c.requires.across,
          ),
        ),
      ),
    ),
  ),
)
