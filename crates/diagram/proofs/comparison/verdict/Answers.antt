use Rattle.diagram.proofs.VerdictLemmas.{walks_start, walks_go, walks_end, walks_stop}
use Rattle.diagram.proofs.comparison.verdict.Goals as goal

pub loop-here-init : goal.loop-here-init
loop-here-init g c = record {
  walks = λ xs ys one other. walks_start g.A.Iterator.next_gives g.B.Iterator.next_gives c.new-a.result c.new-b.result xs ys one.level other.level
      (c.new-a.ensures.points xs one) (c.new-b.ensures.points ys other);
  a_ready = c.new-a.ensures.ready;
  b_ready = c.new-b.ensures.ready;
}

pub step-requires-clause-stand : goal.step-requires-clause-stand
step-requires-clause-stand g c =
    let walks = c.loop-here.invariant.walks c.requires.a_corners.0 c.requires.b_corners.0 c.requires.a_corners.1 c.requires.b_corners.1 in
    (walks.cs, walks.ds, walks.at, walks.first, walks.second, walks.first_stands, walks.second_stands)

pub returns-in-Incomparable : goal.returns-in-Incomparable
returns-in-Incomparable g c xs ys one other =
    let walks = c.loop-here.invariant.walks xs ys one other in
    let step = c.in-Some.ensures.moves walks.cs walks.ds walks.at walks.first walks.second walks.first_stands walks.second_stands in
    walks_stop g.A.Iterator.next_gives g.B.Iterator.next_gives c.step.new.a c.step.new.b c.and_there-found.result xs ys
    (walks_go g.A.Iterator.next_gives g.B.Iterator.next_gives c.loop-here.a c.step.new.a c.loop-here.b c.step.new.b
    c.loop-here.found c.and_there-found.result xs ys c.in-Some.here walks step c.and_there-found.ensures)
    c.in-Incomparable.is

pub loop-here-preserved : goal.loop-here-preserved
loop-here-preserved g c = record {
  walks = λ xs ys one other.
      let walks = c.loop-here.invariant.walks xs ys one other in
      walks_go g.A.Iterator.next_gives g.B.Iterator.next_gives c.loop-here.a c.step.new.a c.loop-here.b
      c.step.new.b c.loop-here.found c.and_there-found.result xs ys c.in-Some.here walks
      (c.in-Some.ensures.moves walks.cs walks.ds walks.at walks.first walks.second walks.first_stands walks.second_stands) c.and_there-found.ensures;
  a_ready = c.in-Some.ensures.a_ready;
  b_ready = c.in-Some.ensures.b_ready;
}

pub returns : goal.returns
returns g c xs ys one other =
    let walks = c.loop-here.invariant.walks xs ys one other in
    walks_end g.A.Iterator.next_gives g.B.Iterator.next_gives c.loop-here.a c.loop-here.b c.loop-here.found xs ys walks
    (c.in_default.ensures.moves walks.cs walks.ds walks.at walks.first walks.second walks.first_stands walks.second_stands)
