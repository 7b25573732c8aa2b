use Rattle.std.proofs.Common.{◌≡◌, ◌-◌, arith, get_or, length, subst, sym, ◌∙◌}
use Rattle.std.proofs.lemmas.List.{get_or_read}
use Rattle.places.specs.Chains.{IsLast, pair_at}
use Rattle.certificate.specs.Groups.{AreOfGroup, GoesOn}
use Rattle.certificate.proofs.Grouping.{around_first, near_of, around_next, around_all}
use Rattle.certificate.proofs.groups.look_around.Goals as goal

pub loop-left-init : goal.loop-left-init
loop-left-init c =
    let steps = c.args.steps.now in
    let from = c.args.from in
    let groups = c.args.walk.now.groups.items in
    let waiting = c.args.walk.now.waiting.items in
    let group = c.index-group.result.now in
    let left = c.index-left.result.now in
    let ends = c.args.chains.now.last.items in
    let is : get_or groups from 0 ≡ group =
    sym (get_or_read groups from group c.requires.from_in c.index-group.ensures 0)
    in
    let last : get_or ends from 0 ≡ left = sym (get_or_read ends from left (omega arith) c.index-left.ensures 0) in
    around_first steps (length groups) from group left groups waiting c.requires.from_in is
    (λ e. c.requires.grouped (is ∙ e)) c.requires.grouping
    (subst (λ g. AreOfGroup (length groups) groups g waiting) is c.requires.together)
    (subst (λ l. IsLast steps from (length steps) l) last (c.requires.chains.ends from (omega arith)))

pub loop-left-preserved : goal.loop-left-preserved
loop-left-preserved c =
    let steps = c.args.steps.now in
    let before = c.args.chains.now.before.items in
    let left = c.loop-left.left in
    let a = c.loop-left.invariant in
    let next = near_of _ _ _ _ _ _ _ _ _ c.requires.steps_in a c.loop-left-test.true in
    let sized = c.requires.chains.sized in
    let within = next.within in
    let back = c.index-left-in-loop-left.result.now in
    let read : get_or before (left - 1) 0 ≡ back =
    sym (get_or_read before (left - 1) back (omega arith) c.index-left-in-loop-left.ensures 0)
    in
    let link = c.requires.chains.links (left - 1) next.within in
    around_next _ _ _ _ left _ _ _ _ _ _ _ c.requires.both a next
    (subst (λ b. IsLast steps (pair_at steps (left - 1)).1 (left - 1) b) read link)
    (c.in_ok-reach.ensures.had, c.in_ok-reach.ensures.had_none)

pub returns-clause-goes_on : goal.returns-clause-goes_on
returns-clause-goes_on c =
    let groups = c.args.walk.now.groups.items in
    let is = get_or_read groups c.args.from c.index-group.result.now c.requires.from_in c.index-group.ensures 0 in
    let walk = c.loop-left.walk in
    subst (λ g. GoesOn c.args.steps.now (length groups) g groups walk.groups.items walk.waiting.items) is
    (around_all _ _ _ _ c.loop-left.left _ _ _ _ c.loop-left.invariant (omega arith))
