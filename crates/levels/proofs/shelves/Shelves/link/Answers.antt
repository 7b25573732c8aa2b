-- A name becomes a parent of another of its cluster.
use Rattle.std.proofs.Common.{◌*◌, ◌≡◌, ◌≤◌, ℕ, List, [], ◌∷◌, length, Contains, Some, refl, sym, ap, ◌∙◌, subst, arith}
use Rattle.std.proofs.lemmas.List.{append-nil}
use Rattle.lists.proofs.Entries.{none_in_empty}
use Rattle.graphs.specs.declared.names.Level.TheVariants.{Top}
use Rattle.levels.specs.Shelves.{numbers_at, seen_at}
use Rattle.cluster_store.proofs.Listed.{at_one}
use Rattle.levels.proofs.Making.{covers_same}
use Rattle.levels.proofs.Pairing.{has_front, pair_within, pairs_in}
use Rattle.levels.proofs.Ordered.{fitted_record}
use Rattle.levels.proofs.Rooms.{record_fits, work_fits}
use Rattle.levels.proofs.Sides.{together, count_within}
use Rattle.levels.proofs.Under.{held, is_stored, seen_there}
use Rattle.levels.proofs.shelves.Shelves.link.Goals as goal

pub at-cluster-requires : goal.at-cluster-requires
at-cluster-requires g c =
    let narrow : g.row.W ≤ 2 = c.requires.order.narrow in
    (omega arith, (record_fits g.row.W narrow, is_stored g.row.W c.args.self.now c.requires.order Top c.args.parent c.args.number c.requires.link.0))

pub linked-requires : goal.linked-requires
linked-requires g c =
    let narrow : g.row.W ≤ 2 = c.requires.order.narrow in
    let at =
    seen_there g.row.W c.args.self.now c.requires.order Top c.args.parent c.args.number c.requires.link.0 c.at-cluster.result.now c.at-cluster.ensures in
    let both = together g.row.W c.args.self.now c.requires.order c.args.parent c.args.child c.args.number c.at-cluster.result.now
    c.requires.link.0 c.requires.link.1 at in (
      record_fits g.row.W narrow,
      (
        work_fits g.row.W narrow,
        (
          (both.cluster.here, both.q_in),
          sym (both.cluster.above c.args.child c.args.parent both.cluster.here) ∙ c.requires.link.3,
        ),
      ),
    )

pub returns-in_err-changed-clause-steps : goal.returns-in_err-changed-clause-steps
returns-in_err-changed-clause-steps g c ids lists =
    let at =
    seen_there g.row.W c.args.self.now c.requires.order Top c.args.parent c.args.number c.requires.link.0 c.at-cluster.result.now c.at-cluster.ensures in
    count_within g.row.W c.args.self.now c.requires.order c.args.parent c.args.child
    c.args.number c.at-cluster.result.now ids c.requires.link at lists c.linked.ensures.steps

pub names-kept-requires : goal.names-kept-requires
names-kept-requires g c = record_fits g.row.W c.requires.order.narrow

pub returns-clause-linked : goal.returns-clause-linked
returns-clause-linked g c =
    let was = c.at-cluster.result.now in
    let now = c.in_ok-changed.changed in
    let numbers = numbers_at Top c.args.self.now in
    let at = seen_there g.row.W c.args.self.now c.requires.order Top c.args.parent c.args.number c.requires.link.0 was c.at-cluster.ensures in
    let kept : length c.names-kept.result.now ≡ length now.names = ap length c.names-kept.ensures.names in
    let fitted = c.in_ok-changed.ensures.fitted c.args.self.now.limits (c.requires.order.fitted c.args.number was c.at-cluster.ensures) in
    pairs_in g.row.W (c.args.number ∷ []) c.args.parent c.args.child (was ∷ []) now c.new-rest.result.items (Some now) (length c.names-kept.result.now)
    c.args.self.now c.new-rest.ensures.items refl (none_in_empty c.args.number, tt)
    (at_one (seen_at Top c.args.self.now.store.clusters) c.args.number was at)
    (covers_same g.row.W was now numbers (fitted_record (64 * g.row.W) c.args.self.now.limits now fitted) c.in_ok-changed.ensures.names) fitted
    (has_front c.args.number (length c.names-kept.result.now) [] now.names [] now.names numbers (sym (append-nil now.names)) kept
    (λ id here. c.requires.order.top.listed c.args.number id was at (subst (λ (xs : List ℕ). Contains xs id) c.in_ok-changed.ensures.names here)))
    (let some = fitted.connected.some in omega (arith, kept, some))
    (pair_within c.args.parent c.args.child was now c.in_ok-changed.ensures.names c.in_ok-changed.ensures.graph
    (held g.row.W c.args.self.now c.requires.order Top c.args.parent c.args.number c.requires.link.0 was at)
    (held g.row.W c.args.self.now c.requires.order Top c.args.child c.args.number c.requires.link.1 was at))

pub returns-clause-steps : goal.returns-clause-steps
returns-clause-steps g c ids lists =
    let at =
    seen_there g.row.W c.args.self.now c.requires.order Top c.args.parent c.args.number c.requires.link.0 c.at-cluster.result.now c.at-cluster.ensures in
    count_within g.row.W c.args.self.now c.requires.order c.args.parent c.args.child
    c.args.number c.at-cluster.result.now ids c.requires.link at lists c.linked.ensures.steps
