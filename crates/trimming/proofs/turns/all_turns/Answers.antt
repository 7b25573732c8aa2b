use Rattle.std.proofs.Common.{◌≡◌, ◌↔◌, ◌<◌, ℕ, List, [], ◌∷◌, length, refl, true≢false, sym, subst, arith}
use Rattle.std.specs.Prelude.{Contains}
use Rattle.lists.proofs.Entries.{Contains-head}
use Rattle.graph_model.specs.Limits.{bounds_of}
use Rattle.trimming.specs.Turns.{IsNext}
use Rattle.trimming.proofs.Turning.{few_marks}
use Rattle.trimming.proofs.turns.all_turns.Goals as goal

pub turn-requires-clause-trim : goal.turn-requires-clause-trim
turn-requires-clause-trim c =
    let t = c.loop-place.invariant in
    record {
      teams_are = t.teams_are;
      room_is = t.room_is;
      kept = t.kept;
      turns = t.turns;
      passed = t.passed;
      exact = λ p. subst (λ (l : List ℕ). Contains l p ↔ IsNext c.args.net.now c.loop-place.trim.marked.items p) c.in-Some.ensures.removal (t.exact p);
    }

pub loop-place-smaller : goal.loop-place-smaller
loop-place-smaller c =
    let t = c.loop-place.invariant in
    let here = subst (λ (l : List ℕ). Contains l c.in-Some.place) (sym c.in-Some.ensures.removal) (Contains-head c.in-Some.place c.pop_first.new.self.keys) in
    let few = few_marks (bounds_of c.args.limits.now) c.args.net.now c.loop-place.trim.marked.items t.turns c.in-Some.place ((t.exact c.in-Some.place).0 here) in
    let longer = c.in_ok-turn.ensures.longer in
    omega (arith, few, longer)

no_keys : (keys : List ℕ) → (0 < length keys → ⊥) → keys ≡ []
no_keys [] none = refl
no_keys (x ∷ xs) none = absurd (none (omega arith))

pub returns : goal.returns
returns c =
    let t = c.loop-place.invariant in
    let none : c.loop-place.trim.counts.ready.keys ≡ [] =
    no_keys c.loop-place.trim.counts.ready.keys (λ some. true≢false (sym (c.in_default.ensures.variant.1 some))) in
    record {
      teams_are = t.teams_are;
      room_is = t.room_is;
      kept = t.kept;
      turns = t.turns;
      passed = t.passed;
      exact = λ p. subst (λ (l : List ℕ). Contains l p ↔ IsNext c.args.net.now c.loop-place.trim.marked.items p) none (t.exact p);
    }
