-- One cluster comes of two.
use Rattle.std.proofs.Common.{◌≡◌, ◌≤◌, ◌+◌, ◌*◌, [], ◌∷◌, length, Some, refl, sym, ap, subst, arith}
use Rattle.lists.proofs.Entries.{none_in_empty}
use Rattle.graphs.specs.declared.names.Level.TheVariants.{Top}
use Rattle.levels.specs.Shelves.{Shelf, numbers_at, seen_at}
use Rattle.cluster_store.proofs.Listed.{only_one}
use Rattle.levels.proofs.Making.{at_two, covers_joined}
use Rattle.levels.proofs.Pairing.{has_front, pair_between, pairs_in}
use Rattle.cluster.specs.Steps.{GrowsWithin}
use Rattle.graph_model.specs.declared.names.Limits.{Limits}
use Rattle.record.specs.Changes.{MayJoin}
use Rattle.record.specs.Records.{IsFitted}
use Rattle.record.specs.Steps.{most_steps_within, total_size}
use Rattle.levels.proofs.Ordered.{fitted_record}
use Rattle.levels.proofs.Rooms.{record_fits, work_fits}
use Rattle.levels.proofs.Sides.{both_there, count_between, sides}
use Rattle.levels.proofs.shelves.Shelves.join.Goals as goal

pub at-one-requires : goal.at-one-requires
at-one-requires g c =
    let there = both_there g.row.W c.args.self.now c.requires.order c.args.parent c.args.child c.args.first c.args.second c.requires.link in
    (omega arith, (record_fits g.row.W c.requires.order.narrow, there.0))

pub names-kept-requires : goal.names-kept-requires
names-kept-requires g c = record_fits g.row.W c.requires.order.narrow

pub at-other-requires : goal.at-other-requires
at-other-requires g c =
    let there = both_there g.row.W c.args.self.now c.requires.order c.args.parent c.args.child c.args.first c.args.second c.requires.link in
    (omega arith, (record_fits g.row.W c.requires.order.narrow, there.1))

pub joined-requires : goal.joined-requires
joined-requires g c =
    let narrow : g.row.W ≤ 2 = c.requires.order.narrow in
    let is = sides g.row.W c.args.self.now c.requires.order c.args.parent c.args.child c.args.first c.args.second
    c.at-one.result.now c.at-other.result.now c.requires.link c.requires.few c.at-one.ensures c.at-other.ensures in (
      record_fits g.row.W narrow,
      (
        work_fits g.row.W narrow,
        (
          narrow,
          subst (λ (l : Limits). MayJoin (64 * g.row.W) l c.at-one.result.now c.at-other.result.now c.args.parent c.args.child)
              (sym (ap (λ (s : Shelf). s.limits) c.self.view_is)) (record {
                few = c.requires.order.in_range.count_high;
                one_fits = c.requires.order.fitted c.args.first c.at-one.result.now c.at-one.ensures;
                other_fits = c.requires.order.fitted c.args.second c.at-other.result.now c.at-other.ensures;
                total = is.few;
                apart = is.alone;
                across = is.across;
              }),
        ),
      ),
    )

pub returns-in_err-joined-clause-steps : goal.returns-in_err-joined-clause-steps
returns-in_err-joined-clause-steps g c ids lists =
    let is = sides g.row.W c.args.self.now c.requires.order c.args.parent c.args.child c.args.first c.args.second
    c.at-one.result.now c.at-other.result.now c.requires.link c.requires.few c.at-one.ensures c.at-other.ensures in
    count_between g.row.W c.args.self.now c.requires.order c.args.parent c.args.child c.args.first c.args.second
    c.at-one.result.now c.at-other.result.now ids is lists
    (subst (λ (l : Limits). GrowsWithin (most_steps_within l (length c.at-one.result.now.names + length c.at-other.result.now.names)
    (total_size c.at-one.result.now.graph c.at-one.result.now.names + total_size c.at-other.result.now.graph c.at-other.result.now.names))
    c.args.steps.now c.joined.new.steps) (ap (λ (s : Shelf). s.limits) c.self.view_is) c.joined.ensures.steps)

pub returns-clause-joined : goal.returns-clause-joined
returns-clause-joined g c =
    let one = c.at-one.result.now in
    let other = c.at-other.result.now in
    let now = c.in_ok-joined.joined in
    let numbers = numbers_at Top c.args.self.now in
    let is = sides g.row.W c.args.self.now c.requires.order c.args.parent c.args.child c.args.first c.args.second
    one other c.requires.link c.requires.few c.at-one.ensures c.at-other.ensures in
    let kept : length c.names-kept.result.now ≡ length one.names = ap length c.names-kept.ensures.names in
    let first_whole = (c.requires.order.top.whole c.args.first one is.one_at).connected in
    let fitted = subst (λ (l : Limits). IsFitted (64 * g.row.W) l now) (ap (λ (s : Shelf). s.limits) c.self.view_is) c.in_ok-joined.ensures.fitted in
    pairs_in g.row.W (c.args.first ∷ c.args.second ∷ []) c.args.parent c.args.child (one ∷ other ∷ []) now c.new-rest.result.items (Some now)
    (length c.names-kept.result.now) c.args.self.now c.new-rest.ensures.items refl
    ((λ here. is.apart (only_one c.args.second c.args.first here)), (none_in_empty c.args.second, tt))
    (at_two (seen_at Top c.args.self.now.store.clusters) c.args.first c.args.second one other is.one_at is.other_at)
    (covers_joined g.row.W one other now numbers (fitted_record (64 * g.row.W) c.args.self.now.limits now fitted) c.in_ok-joined.ensures.names) fitted
    (has_front c.args.first (length c.names-kept.result.now) (c.args.second ∷ []) one.names other.names now.names numbers c.in_ok-joined.ensures.names kept
    (λ id here. c.requires.order.top.listed c.args.first id one is.one_at here))
    (let some = first_whole.some in omega (arith, kept, some))
    (pair_between c.args.parent c.args.child one other now first_whole
    (c.requires.order.top.whole c.args.second other is.other_at).connected c.in_ok-joined.ensures.names c.in_ok-joined.ensures.graph is.across)

pub returns-clause-steps : goal.returns-clause-steps
returns-clause-steps g c ids lists =
    let is = sides g.row.W c.args.self.now c.requires.order c.args.parent c.args.child c.args.first c.args.second
    c.at-one.result.now c.at-other.result.now c.requires.link c.requires.few c.at-one.ensures c.at-other.ensures in
    count_between g.row.W c.args.self.now c.requires.order c.args.parent c.args.child c.args.first c.args.second
    c.at-one.result.now c.at-other.result.now ids is lists
    (subst (λ (l : Limits). GrowsWithin (most_steps_within l (length c.at-one.result.now.names + length c.at-other.result.now.names)
    (total_size c.at-one.result.now.graph c.at-one.result.now.names + total_size c.at-other.result.now.graph c.at-other.result.now.names))
    c.args.steps.now c.joined.new.steps) (ap (λ (s : Shelf). s.limits) c.self.view_is) c.joined.ensures.steps)
