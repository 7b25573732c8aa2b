use Rattle.std.proofs.Common.{◌≡◌, ◌↔◌, ◌⊎◌, ◌≤◌, ℕ, Bool, true, List, [], ◌∷◌, ◌++◌, length, inl, inr, sym, subst, arith}
use Rattle.std.specs.Prelude.{Contains}
use Rattle.std.proofs.lemmas.Bool.{cases_lt}
use Rattle.graph_model.specs.Limits.{bounds_of}
use Rattle.graph_model.specs.Trims.{kept_of}
use Rattle.graph_model.proofs.TrimLemmas.{Marks, kept_front}
use Rattle.trimming.specs.Nets.{IsParent}
use Rattle.trimming.specs.Counts.{ArePassed, HasAllKept}
use Rattle.trimming.specs.Teams.{IsKept, HasJoined}
use Rattle.trimming.specs.Turns.{IsNext, AreTurns}
use Rattle.trimming.proofs.Turning.{kept_more, kept_last, kept_looked, turns_more, judged_kept, place_next, goes_first, kept_exact}
use Rattle.trimming.proofs.Joined.{teams_joined}
use Rattle.trimming.proofs.turns.keep.Goals as goal

pub join-requires-clause-places : goal.join-requires-clause-places
join-requires-clause-places c x here =
    let low = c.requires.found.within x (subst (λ (l : List ℕ). Contains l x) c.as_slice.ensures.value here) in
    let sized = c.requires.trim.teams_are.sized.kept in
    omega (arith, low, sized)

pub returns-clause-trim : goal.returns-clause-trim
returns-clause-trim c =
    let bounds = bounds_of c.args._limits.now in
    let net = c.args.net.now in
    let trim = c.args.trim.now in
    let t = c.requires.trim in
    let place = c.args.place in
    let marked : Marks = trim.marked.items in
    let ready : List ℕ = trim.counts.ready.keys in
    let found : List ℕ = trim.room.found.items in
    let new = c.join.new.teams in
    let e = c.in_ok-push.ensures.items in
    let joined : HasJoined place found trim.teams new = subst (λ (l : List ℕ). HasJoined place l trim.teams new) c.as_slice.ensures.value c.in_ok-join.ensures in
    let next : IsNext net marked place = place_next bounds net c.requires.net marked t.turns place ready c.requires.first t.exact in
    let fresh : IsKept trim.teams place → ⊥ = λ is. next.fresh (kept_looked marked place ((t.kept place).0 is)) in
    let few : length found ≤ bounds.count =
    elim (cases_lt bounds.count (length found)) [ inl many ↦ absurd (c.requires.within (inl many)) | inr low ↦ low ] in
    let kept : (p : ℕ) → IsKept new p ↔ Contains (kept_of (marked ++ (place, true) ∷ [])) p = λ p. (
      (λ is. elim ((joined.kept p).0 is) [
        | inl same ↦ subst (Contains (kept_of (marked ++ (place, true) ∷ []))) (sym same) (kept_last marked place)
        | inr before ↦ kept_front marked ((place, true) ∷ []) p ((t.kept p).0 before)
      ]),
      (λ here. (joined.kept p).1 (elim (kept_more marked place true p here) [ inl before ↦ inr ((t.kept p).1 before) | inr both ↦ inl both.0 ])),
    ) in
    let flags : c.as_slice-2.result.now ≡ new.kept.items = c.as_slice-2.ensures.value in
    record {
      teams_are = teams_joined net trim.teams new place bounds.count found t.teams_are fresh (λ a up. (t.kept a).1 (next.parents a up)) c.requires.found few joined;
      room_is = t.room_is;
      kept = λ p. subst (λ (l : Marks). IsKept new p ↔ Contains (kept_of l) p) (sym e) (kept p);
      turns = subst (AreTurns bounds net) (sym e) (turns_more bounds net marked t.turns place true next
          (goes_first bounds net c.requires.net marked t.turns place ready c.requires.first t.exact)
          (judged_kept bounds net trim.teams (kept_of marked) t.kept place found c.requires.found c.requires.within));
      passed = subst (λ (l : List Bool). ArePassed net l c.release.new.counts.passed.items) flags c.in_ok-release.ensures.passed;
      exact = λ p. subst (λ (l : Marks). Contains c.release.new.counts.ready.keys p ↔ IsNext net l p) (sym e)
          (kept_exact bounds net c.requires.net marked t.turns place ready c.requires.first t.exact new.kept.items c.release.new.counts.ready.keys kept
          (λ x. subst (λ (l : List Bool). Contains c.release.new.counts.ready.keys x ↔ (Contains ready x ⊎ (IsParent net place x × HasAllKept net l x))) flags
          (c.in_ok-release.ensures.ready x)) p);
    }
