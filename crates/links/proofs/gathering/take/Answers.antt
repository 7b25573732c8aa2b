use Rattle.std.proofs.Common.{ℕ, List, length, subst}
use Rattle.std.specs.Prelude.{Contains}
use Rattle.links.proofs.Walking.{found_below}
use Rattle.links.proofs.gathering.take.Goals as goal

pub mark-requires : goal.mark-requires
mark-requires c place here =
    let search = c.args.search.now in
    found_below (length search.taken.items) search.around.steps.items c.args.place c.walk.new.walker.found.items c.requires.search.around.within c.requires.place
    c.walk.ensures.found place (subst (λ (xs : List ℕ). Contains xs place) c.as_slice.ensures.value here)
