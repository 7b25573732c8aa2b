use Rattle.std.proofs.Common.{◌≡◌, arith, replicate, subst, sym, ◌∙◌}
use Rattle.places.specs.Chains.{AreWithin}
use Rattle.certificate.specs.Groups.{AreGroups, GoBothWays, IsGrouping}
use Rattle.certificate.proofs.Grouping.{both_groups, both_within, both_ways_go, grouping_none, whole_groups, IsWhole}
use Rattle.certificate.proofs.groups.groups_of.Goals as goal

pub linked-requires : goal.linked-requires
linked-requires c =
    let is = c.as_slice.ensures.value ∙ c.in_ok-steps.ensures in
    subst (λ l. AreWithin c.args.count l) (sym is) (both_within c.args.count c.args.pairs.now c.requires)

pub loop-place-init : goal.loop-place-init
loop-place-init c =
    let steps = c.in_ok-steps.steps.items in
    let all = both_within c.args.count c.args.pairs.now c.requires in
    let within = subst (λ l. AreWithin c.args.count l) (sym c.in_ok-steps.ensures) all in
    let groups : c.in_ok-groups.groups.items ≡ replicate c.args.count c.args.count =
    c.in_ok-groups.ensures.items_if_clones_equal (λ y e. e)
    in
    let none = c.new.ensures.items in
    let g = grouping_none steps c.args.count within in
    record {
      grouping = subst (λ l. IsGrouping steps c.args.count l c.new.result.items) (sym groups)
          (subst (λ w. IsGrouping steps c.args.count (replicate c.args.count c.args.count) w) (sym none) g);
      none = none;
      all = λ k less. absurd (omega arith);
    }

pub walk_from-requires-clause-steps_in : goal.walk_from-requires-clause-steps_in
walk_from-requires-clause-steps_in c =
    let is = c.as_slice-in-loop-place.ensures.value ∙ c.in_ok-steps.ensures in
    subst (λ n. AreWithin n c.as_slice-in-loop-place.result.now) (sym c.loop-place.invariant.grouping.sized)
    (subst (λ l. AreWithin c.args.count l) (sym is) (both_within c.args.count c.args.pairs.now c.requires))

pub walk_from-requires-clause-both : goal.walk_from-requires-clause-both
walk_from-requires-clause-both c =
    let is = c.as_slice-in-loop-place.ensures.value ∙ c.in_ok-steps.ensures in
    subst (λ l. GoBothWays l) (sym is) (both_ways_go c.args.pairs.now)

pub returns-clause-groups : goal.returns-clause-groups
returns-clause-groups c =
    let groups = c.loop-place.walk.groups.items in
    let is = c.in_ok-steps.ensures in
    let steps = c.in_ok-steps.steps.items in
    let whole : IsWhole steps c.args.count groups = record {
      grouping = subst (λ w. IsGrouping steps c.args.count groups w) c.loop-place.invariant.none
          c.loop-place.invariant.grouping;
      all = λ x less. c.loop-place.invariant.all x (omega arith);
      within = subst (λ l. AreWithin c.args.count l) (sym is) (both_within c.args.count c.args.pairs.now c.requires);
    } in
    both_groups c.args.pairs.now groups
    (subst (λ l. AreGroups l groups) is (whole_groups steps c.args.count groups whole))
