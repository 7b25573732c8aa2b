use Rattle.std.proofs.Common.{◌∷◌, sym, subst}
use Rattle.diagram.specs.Comparisons.{Moves}
use Rattle.diagram.proofs.SideLemmas.{side_in_range, first_moves, second_moves}
use Rattle.diagram.proofs.sides.step.Goals as goal

pub compare_point-here-requires-clause-point : goal.compare_point-here-requires-clause-point
compare_point-here-requires-clause-point g c =
    let at = c.requires.stand in
    (side_in_range g.A.Iterator.next_gives c.args.a.now at.0 at.2 at.3 at.5).to c.in-First.corner c.in-First.ensures.0

pub compare_point-here-requires-clause-ranged : goal.compare_point-here-requires-clause-ranged
compare_point-here-requires-clause-ranged g c =
    let at = c.requires.stand in
    side_in_range g.B.Iterator.next_gives c.args.b.now at.1 at.2 at.4 at.6

pub compare_point-here-requires-in-Second-clause-point : goal.compare_point-here-requires-in-Second-clause-point
compare_point-here-requires-in-Second-clause-point g c =
    let at = c.requires.stand in
    (side_in_range g.B.Iterator.next_gives c.args.b.now at.1 at.2 at.4 at.6).to c.in-Second.corner c.in-Second.ensures.0

pub compare_point-here-requires-in-Second-clause-ranged : goal.compare_point-here-requires-in-Second-clause-ranged
compare_point-here-requires-in-Second-clause-ranged g c =
    let at = c.requires.stand in
    side_in_range g.A.Iterator.next_gives c.args.a.now at.0 at.2 at.3 at.5

pub returns-in-First-clause-moves : goal.returns-in-First-clause-moves
returns-in-First-clause-moves g c cs ds x first second at_first at_second =
    let found = c.advance.ensures.points cs first in (
      c.in-First.corner ∷ found.1,
      ds,
      c.in-First.corner.0,
      found.3,
      second,
      first_moves g.B.Iterator.next_gives c.args.b.now cs ds found.1 x found.0 c.in-First.corner
          c.compare_point-here.result found.2 second at_first at_second c.in-First.ensures.1 c.compare_point-here.ensures,
    )

pub returns-in-Second-clause-moves : goal.returns-in-Second-clause-moves
returns-in-Second-clause-moves g c cs ds x first second at_first at_second =
    let found = c.advance-in-Second.ensures.points ds second in
    let o = c.compare_point-here-in-Second.result in (
      cs,
      c.in-Second.corner ∷ found.1,
      c.in-Second.corner.0,
      first,
      found.3,
      subst (λ r. Moves cs ds x cs (c.in-Second.corner ∷ found.1) c.in-Second.corner.0 r) (sym c.reverse.ensures)
          (second_moves g.A.Iterator.next_gives c.args.a.now cs ds found.1 x found.0 c.in-Second.corner o
          found.2 first at_first at_second c.in-Second.ensures.1 c.compare_point-here-in-Second.ensures),
    )
