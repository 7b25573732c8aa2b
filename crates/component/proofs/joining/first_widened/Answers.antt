use Rattle.std.proofs.Common.{◌*◌, refl, sym}
use Rattle.component.proofs.Same.{join_few, join_large, join_apart, join_across, join_names, join_graph}
use Rattle.component.proofs.Sizes.{cluster_fits}
use Rattle.component.proofs.joining.first_widened.Goals as goal

pub wide_joined-requires : goal.wide_joined-requires
wide_joined-requires g c = (
  cluster_fits g.row.W c.work.invariant.1,
  (
    search,
    (
      search,
      (
        join_large c.args.first.now c.in_ok-first.first c.args.second.now c.args.second.now (sym c.in_ok-first.ensures.same) refl 64 c.requires.large,
        (
          join_few c.args.first.now c.in_ok-first.first c.args.second.now c.args.second.now (sym c.in_ok-first.ensures.same) refl
              (64 * g.row.W) c.requires.few,
          (
            join_apart c.args.first.now c.in_ok-first.first c.args.second.now c.args.second.now (sym c.in_ok-first.ensures.same) refl c.requires.apart,
            join_across c.args.first.now c.in_ok-first.first c.args.second.now c.args.second.now (sym c.in_ok-first.ensures.same) refl
                c.args.parent c.args.child c.requires.across,
          ),
        ),
      ),
    ),
  ),
)

pub returns-clause-names : goal.returns-clause-names
returns-clause-names g c = join_names c.in_ok-first.first c.args.first.now c.args.second.now c.args.second.now c.in_ok-first.ensures.same refl c.wide_joined.result c.wide_joined.ensures.names

pub returns-clause-graph : goal.returns-clause-graph
returns-clause-graph g c =
    join_graph c.in_ok-first.first c.args.first.now c.args.second.now c.args.second.now c.in_ok-first.ensures.same refl
    c.wide_joined.result c.args.parent c.args.child c.wide_joined.ensures.graph
