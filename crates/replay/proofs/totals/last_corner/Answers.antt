use Rattle.std.proofs.Common.{rules, ◌≡◌, ℕ, ℤ, List, [], ◌∷◌, length, length-append, sym, ap, ◌∙◌, subst, arith}
use Rattle.std.specs.Prelude.{FitsSigned}
use Rattle.std.proofs.lemmas.Int.{to_z-of_z}
use mir.Syntax.{w128}
use Rattle.std.specs.Iterator.{AlwaysYields}
use Rattle.replay.specs.Generations.{last_sum}
use Rattle.replay.proofs.CornerLemmas.{last_push, corners_few, fewer_given}
use Rattle.lists.proofs.Iterators.{all_given}
use Rattle.replay.proofs.totals.last_corner.Goals as goal

pub overflow_add-corners : goal.overflow_add-corners
overflow_add-corners g c =
    let list = c.requires.corners.0 in
    let always =
    subst (λ s. AlwaysYields g.I.Iterator.next_gives (λ (point : ℕ × ℤ). point) s list) (sym c.into_iter-size-iterator.ensures.into_iter_gives)
    c.requires.corners.1.yields in
    let few = fewer_given g.I.Iterator.next_gives c.into_iter-size-iterator.result c.loop-size.size-iterator c.next.new.self c.loop-size.yielded list _ always
    c.loop-size.yielded_by c.in-Some.ensures.steps in
    let most = corners_few list c.requires.corners.1.level in
    let counted = c.loop-size.invariant.corners in
    omega (arith, few, most, counted)

pub loop-size-preserved : goal.loop-size-preserved
loop-size-preserved g c =
    let counted = c.loop-size.invariant.corners in
    let fine : FitsSigned w128 c.in-Some.fee = search rules in record {
      corners = omega (arith, counted, length-append c.loop-size.yielded ((c.in-Some.size, c.in-Some.fee) ∷ []));
      last = ap (λ (fee : ℤ). record { fee = fee; size = c.in-Some.size }) (to_z-of_z w128 c.in-Some.fee fine)
          ∙ sym (last_push c.loop-size.yielded (c.in-Some.size, c.in-Some.fee));
    }

pub returns : goal.returns
returns g c list corners =
    let gives =
    subst (λ s. AlwaysYields g.I.Iterator.next_gives (λ (point : ℕ × ℤ). point) s list) (sym c.into_iter-size-iterator.ensures.into_iter_gives) corners.yields in
    let same = all_given g.I.Iterator.next_gives c.into_iter-size-iterator.result c.loop-size.size-iterator c.next.new.self c.loop-size.yielded list gives
    c.loop-size.yielded_by c.in-None.ensures.steps in (
      subst (λ (points : List (ℕ × ℤ)). c.loop-size.corners ≡ length points) (sym same) c.loop-size.invariant.corners,
      subst (λ (points : List (ℕ × ℤ)). c.loop-size.last ≡ last_sum points) (sym same) c.loop-size.invariant.last,
    )
