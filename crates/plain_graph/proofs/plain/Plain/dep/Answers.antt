use Rattle.std.proofs.Common.{◌≡◌, ◌↔◌, ◌++◌, ◌∷◌, [], ◌∙◌, List, ℕ, refl, ap, rules}
use Rattle.std.specs.Prelude.{Contains, IsTrue}
use Rattle.graph_model.specs.Commands.{Dep}
use Rattle.plain_graph.specs.Sound.{names_of}
use Rattle.plain_graph.proofs.Entries.{so, not_so}
use Rattle.plain_graph.proofs.Standing.{steps_refused, steps_without_memory}
use Rattle.plain_graph.proofs.Readings.{same_but_found, steps_paired, steps_paired_again, sound_paired}
use Rattle.plain_graph.proofs.plain.Plain.dep.Goals as goal

pub returns-in-Some-clause-step : goal.returns-in-Some-clause-step
returns-in-Some-clause-step c =
    steps_refused c.args.self.now c.refused_dep.new.self (Dep c.args.parent c.args.child) c.in-Some.why
    (same_but_found c.args.self.now c.refused_dep.new.self _ c.refused_dep.ensures.same) c.in-Some.ensures.first

pub returns-then-has_pair-clause-step : goal.returns-then-has_pair-clause-step
returns-then-has_pair-clause-step c =
    let same = same_but_found c.args.self.now _ _ (c.self.view_is ∙ c.refused_dep.ensures.same) in
    let found : IsTrue c.has_pair.result ↔ Contains {X = ℕ × ℕ} c.args.self.now.pairs (c.args.parent, c.args.child) =
    rw (← same.pairs) (rw c.deref.ensures.value at c.has_pair.ensures) in
    steps_paired_again c.args.self.now _ c.args.parent c.args.child same.limits refl same.txs same.pairs
    (so c.has_pair.result found c.if-has_pair.true) c.in_default.ensures.first

pub returns-then-is_err-clause-step : goal.returns-then-is_err-clause-step
returns-then-is_err-clause-step c =
    let same = same_but_found c.args.self.now _ _ (c.self.view_is ∙ c.refused_dep.ensures.same) in
    let kept : c.push.new.self.items ≡ c.self.inside.pairs.items = search rules in
    steps_without_memory c.args.self.now _ (Dep c.args.parent c.args.child)
    (record { limits = same.limits; begun = same.begun; txs = same.txs; pairs = kept ∙ same.pairs }) tt c.in_default.ensures.first

pub is_over-self-inside-requires : goal.is_over-self-inside-requires
is_over-self-inside-requires c =
    let same = same_but_found c.args.self.now _ _ (c.self.view_is ∙ c.refused_dep.ensures.same) in
    let ends : Contains (names_of c.self.inside.txs.items) c.args.parent × Contains (names_of c.self.inside.txs.items) c.args.child =
    rw same.txs (c.in_default.ensures.ends refl) in
    let pushed : c.push.new.self.items ≡ c.self.inside.pairs.items ++ (c.args.parent, c.args.child) ∷ [] = search rules in
    let found : IsTrue c.has_pair.result ↔ Contains {X = ℕ × ℕ} c.self.inside.pairs.items (c.args.parent, c.args.child) =
    rw c.deref.ensures.value at c.has_pair.ensures in
    let sound = sound_paired _ c.self.inside.txs.items c.self.inside.pairs.items _ c.args.parent c.args.child c.self.invariant.sound
    (not_so c.has_pair.result found c.if-has_pair.false) ends.0 ends.1 in
    rw (c.deref-2.ensures.value, c.deref-3.ensures.value, pushed) sound

pub invariant_of-self-2 : goal.invariant_of-self-2
invariant_of-self-2 c = rw (c.deref-2.ensures.value, c.deref-3.ensures.value) at c.is_over-self-inside.ensures

pub returns-clause-step : goal.returns-clause-step
returns-clause-step c =
    let same = same_but_found c.args.self.now _ _ (c.self.view_is ∙ c.refused_dep.ensures.same) in
    let found : IsTrue c.has_pair.result ↔ Contains {X = ℕ × ℕ} c.args.self.now.pairs (c.args.parent, c.args.child) =
    rw (← same.pairs) (rw c.deref.ensures.value at c.has_pair.ensures) in
    let pushed : c.push.new.self.items ≡ c.self.inside.pairs.items ++ (c.args.parent, c.args.child) ∷ [] = search rules in
    let more : List (ℕ × ℕ) → List (ℕ × ℕ) = λ (pairs : List (ℕ × ℕ)). pairs ++ (c.args.parent, c.args.child) ∷ [] in
    steps_paired c.args.self.now _ c.args.parent c.args.child same.limits refl same.txs (pushed ∙ ap more same.pairs)
    (not_so c.has_pair.result found c.if-has_pair.false) c.in_default.ensures.first
