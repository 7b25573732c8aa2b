use Rattle.std.proofs.Common.{◌<◌, ◌∷◌, length, slice_index, subst, sym, ◌∙◌}
use Rattle.certificate.specs.Groups.{AreOfGroup, GoesOn, IsGrouping}
use Rattle.certificate.proofs.Grouping.{taken, goes_further}
use Rattle.certificate.proofs.groups.walk_from.Goals as goal

pub look_around-requires-clause-from_in : goal.look_around-requires-clause-from_in
look_around-requires-clause-from_in c =
    let g = c.loop-from.invariant.0 in
    let t = taken _ _ _ _ _ _ c.pop.new.self.items c.in-Some.from g c.in-Some.ensures.items in
    subst (λ n. c.in-Some.from < n) (sym g.grouping.sized) t.within

pub look_around-requires-clause-grouping : goal.look_around-requires-clause-grouping
look_around-requires-clause-grouping c =
    let g = c.loop-from.invariant.0 in
    let t = taken _ _ _ _ _ _ c.pop.new.self.items c.in-Some.from g c.in-Some.ensures.items in
    subst (λ n. IsGrouping c.args.steps.now n c.loop-from.walk.groups.items (c.in-Some.from ∷ c.pop.new.self.items))
    (sym g.grouping.sized) t.grouping

pub look_around-requires-clause-together : goal.look_around-requires-clause-together
look_around-requires-clause-together c =
    let g = c.loop-from.invariant.0 in
    let t = taken _ _ _ _ _ _ c.pop.new.self.items c.in-Some.from g c.in-Some.ensures.items in
    let groups = c.loop-from.walk.groups.items in
    subst (λ n. AreOfGroup n groups (slice_index groups c.in-Some.from) c.pop.new.self.items) (sym g.grouping.sized)
    (subst (λ o. AreOfGroup (length c.args.walk.now.groups.items) groups o c.pop.new.self.items) (sym t.is) t.together)

pub loop-from-preserved : goal.loop-from-preserved
loop-from-preserved c =
    let g = c.loop-from.invariant.0 in
    let t = taken _ _ _ _ _ _ c.pop.new.self.items c.in-Some.from g c.in-Some.ensures.items in
    let groups = c.loop-from.walk.groups.items in
    let groups' = c.look_around.new.walk.groups.items in
    let waiting' = c.look_around.new.walk.waiting.items in
    let h = subst (λ n. GoesOn c.args.steps.now n (slice_index groups c.in-Some.from) groups groups' waiting')
    g.grouping.sized c.in_ok-look_around.ensures.goes_on in
    let has = c.loop-from.invariant.1 in
    (goes_further _ _ _ _ _ _ _ _ _ t.is g h, λ e. has (sym (h.kept c.args.place has) ∙ e))
