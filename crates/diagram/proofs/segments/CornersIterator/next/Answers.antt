use Rattle.std.proofs.Common.{◌≡◌, ℕ, ℤ, List, ◌∷◌, sym, subst, rules}
use Rattle.std.specs.Iterator.{IsNearerEnd, size}
use Rattle.std.proofs.lemmas.Int.{to_z-of_z}
use mir.Syntax.{w128}
use mir.Val.{SFits}
use Rattle.diagram.specs.Walks.{HasCorners, corners_count}
use Rattle.diagram.proofs.WalkLemmas.{first_step, later_step, end_step, later_goes, count_after, count_later}
use Rattle.diagram.proofs.segments.CornersIterator.next.Goals as goal

pub returns-in-Unknown-clause-steps : goal.returns-in-Unknown-clause-steps
returns-in-Unknown-clause-steps g c corners has =
    let t = c.take_part.new.self in
    let steps = g.I.Iterator.next_gives in
    let fits : SFits w128 t.end.fee = search rules in
    subst (λ (fee : ℤ). (others : List (ℕ × ℤ)) × (corners ≡ (t.end.size, fee) ∷ others) × HasCorners steps t others) (sym (to_z-of_z w128 t.end.fee fits))
    (first_step steps (IsNearerEnd g.I.Iterator.can_next g.I.Iterator.remaining c.args.self.now.parts t.parts) c.args.self.now
    t corners has c.in-Unknown.is c.take_part.ensures.end c.take_part.ensures.left c.take_part.ensures.goes)

pub returns-in-Part-clause-steps : goal.returns-in-Part-clause-steps
returns-in-Part-clause-steps g c corners has =
    let t = c.take_segment.new.self in
    let steps = g.I.Iterator.next_gives in
    let fits : SFits w128 t.end.fee = search rules in
    subst (λ (fee : ℤ). (others : List (ℕ × ℤ)) × (corners ≡ (t.end.size, fee) ∷ others) × HasCorners steps t others) (sym (to_z-of_z w128 t.end.fee fits))
    (later_step steps (IsNearerEnd g.I.Iterator.can_next g.I.Iterator.remaining c.args.self.now.parts t.parts) c.in-Part.first
    c.args.self.now t corners has c.in-Part.is c.take_segment.ensures.takes c.take_segment.ensures.goes)

pub returns-in-Part-clause-goes : goal.returns-in-Part-clause-goes
returns-in-Part-clause-goes g c =
    let s = c.args.self.now in
    let t = c.take_segment.new.self in
    let can = g.I.Iterator.can_next in
    let steps = g.I.Iterator.next_gives in
    let left = g.I.Iterator.remaining in
    let go = later_goes can steps left c.in-Part.first s t c.requires c.in-Part.is c.take_segment.ensures.takes c.take_segment.ensures.goes in
    record {
      on = λ finite.
          let counts = count_after can left s.parts t.parts t.ahead c.take_segment.ensures.goes in
          (go, counts.0, count_later s.ahead c.in-Part.first (left s.parts) (size (corners_count t.ahead (left t.parts))) c.in-Part.is counts.1);
      keeps = go;
      rests = λ finite. tt;
    }

pub returns-in-End-clause-steps : goal.returns-in-End-clause-steps
returns-in-End-clause-steps g c corners has = end_step g.I.Iterator.next_gives c.args.self.now corners has c.in-End.is
