use Rattle.std.proofs.Common.{◌↔◌, ℕ, false, List, [], ◌∷◌, inl, inr, sym, subst, true≢false}
use Rattle.std.specs.Prelude.{Contains}
use Rattle.graph_model.specs.Limits.{bounds_of}
use Rattle.graph_model.specs.Trims.{kept_of}
use Rattle.graph_model.proofs.TrimLemmas.{Marks, kept_front}
use Rattle.trimming.specs.Teams.{IsKept}
use Rattle.trimming.specs.Turns.{IsNext, AreTurns}
use Rattle.trimming.proofs.Turning.{kept_more, turns_more, judged_left, place_next, goes_first, left_exact}
use Rattle.trimming.proofs.turns.leave.Goals as goal

pub returns-clause-trim : goal.returns-clause-trim
returns-clause-trim c =
    let bounds = bounds_of c.args._limits.now in
    let net = c.args._net.now in
    let trim = c.args.trim.now in
    let t = c.requires.trim in
    let place = c.args.place in
    let marked : Marks = trim.marked.items in
    let ready : List ℕ = trim.counts.ready.keys in
    let e = c.in_ok-push.ensures.items in
    record {
      teams_are = t.teams_are;
      room_is = t.room_is;
      kept = λ p. subst (λ (l : Marks). IsKept trim.teams p ↔ Contains (kept_of l) p) (sym e) (
        (λ is. kept_front marked ((place, false) ∷ []) p ((t.kept p).0 is)),
        (λ here. elim (kept_more marked place false p here) [ inl before ↦ (t.kept p).1 before | inr both ↦ absurd (true≢false (sym both.1)) ]),
      );
      turns = subst (AreTurns bounds net) (sym e) (turns_more bounds net marked t.turns place false
          (place_next bounds net c.requires.net marked t.turns place ready c.requires.first t.exact)
          (goes_first bounds net c.requires.net marked t.turns place ready c.requires.first t.exact)
          (judged_left bounds net trim.teams (kept_of marked) t.kept place trim.room.found.items c.requires.found c.requires.over));
      passed = t.passed;
      exact = λ p. subst (λ (l : Marks). Contains ready p ↔ IsNext net l p) (sym e)
          (left_exact bounds net c.requires.net marked t.turns place ready c.requires.first t.exact p);
    }
