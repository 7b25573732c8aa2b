use Rattle.std.proofs.Common.{ℕ, ℤ, map, sym, ap, subst, ◌∙◌}
use Rattle.std.specs.Iterator.{AlwaysYields}
use Rattle.desk.specs.Copies.{corner_of}
use Rattle.lists.proofs.Iterators.{all_given}
use Rattle.desk.proofs.corners.list_corners.Goals as goal

pub returns : goal.returns
returns g c corners yields =
    let gives =
    subst (λ s. AlwaysYields g.I.Iterator.next_gives (λ (point : ℕ × ℤ). point) s corners) (sym c.into_iter-size-iterator.ensures.into_iter_gives)
    yields.yields in
    let same = all_given g.I.Iterator.next_gives c.into_iter-size-iterator.result c.loop-size.size-iterator c.next.new.self c.loop-size.yielded corners gives
    c.loop-size.yielded_by c.in-None.ensures.steps in
    c.loop-size.invariant ∙ ap (map corner_of) (sym same)
