use Rattle.std.proofs.Common.{ℕ, ◌*◌, List, length, refl, sym, ap, subst, arith}
use Rattle.cluster.specs.Clusters.{Cluster, IsCluster}
use Rattle.component.proofs.Wider.{IsCluster-widened}
use Rattle.component.proofs.Same.{join_few, join_large, join_apart, join_across, join_names, join_graph}
use Rattle.component.proofs.Sizes.{cluster_fits}
use Rattle.component.proofs.joining.narrow_joined.Goals as goal

pub returns-then-names-le-NARROW-clause-whole : goal.returns-then-names-le-NARROW-clause-whole
returns-then-names-le-NARROW-clause-whole g c =
    subst (λ (s : Cluster). IsCluster (64 * g.row.W) s) (sym c.narrow.ensures)
    (IsCluster-widened g.row.W c.in_ok-joined.joined c.work.invariant.0 c.in_ok-joined.ensures.whole)

pub first_widened-requires : goal.first_widened-requires
first_widened-requires g c = (
  cluster_fits g.row.W c.work.invariant.1,
  (
    search,
    (
      search,
      (
        join_large c.args.first.now c.args.first.now c.args.second.now c.in_ok-second.second refl (sym c.in_ok-second.ensures.same) 64 (let e = ap (λ (xs : List ℕ). length xs) c.names.ensures.names in
            let f = ap (λ (xs : List ℕ). length xs) c.names-2.ensures.names in omega (arith, e, f, c.if-names-le-NARROW.false)),
        (
          join_few c.args.first.now c.args.first.now c.args.second.now c.in_ok-second.second refl (sym c.in_ok-second.ensures.same)
              (64 * g.row.W) c.requires.few,
          (
            join_apart c.args.first.now c.args.first.now c.args.second.now c.in_ok-second.second refl (sym c.in_ok-second.ensures.same) c.requires.apart,
            join_across c.args.first.now c.args.first.now c.args.second.now c.in_ok-second.second refl (sym c.in_ok-second.ensures.same)
                c.args.parent c.args.child c.requires.across,
          ),
        ),
      ),
    ),
  ),
)

pub returns-clause-names : goal.returns-clause-names
returns-clause-names g c = join_names c.args.first.now c.args.first.now c.in_ok-second.second c.args.second.now refl c.in_ok-second.ensures.same c.first_widened.result c.first_widened.ensures.names

pub returns-clause-graph : goal.returns-clause-graph
returns-clause-graph g c =
    join_graph c.args.first.now c.args.first.now c.in_ok-second.second c.args.second.now refl c.in_ok-second.ensures.same
    c.first_widened.result c.args.parent c.args.child c.first_widened.ensures.graph
