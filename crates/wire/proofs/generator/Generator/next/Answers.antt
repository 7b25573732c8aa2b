use Rattle.std.proofs.Common.{◌≡◌, ◌<◌, ◌≤◌, ℕ, refl, sym, ap, subst, ◌∙◌, arith}
use Rattle.graph_model.specs.Commands.{Command, Stage, Commit, Abort, Compare}
use Rattle.graph_model.specs.Generators.{draw, drawn_add, drawn_dep, drawn_change, drawn_remove}
use Rattle.graph_model.specs.Lines.{Says}
use Rattle.wire.proofs.GeneratorLemmas.{drawn_at, drawn_early, drawn_middle}
use Rattle.wire.proofs.generator.Generator.next.Goals as goal

pub returns-in-16-clause-command : goal.returns-in-16-clause-command
returns-in-16-clause-command c ids =
    let drawn = drawn_at c.args.k c.args.self.now 16 (Stage, (draw c.args.self.now 20).1) (sym c.draw.ensures.value ∙ c.in-16.is) refl in
    ap (λ (p : Command × ℕ). Says p.0) (sym drawn)

pub returns-in-16-clause-state : goal.returns-in-16-clause-state
returns-in-16-clause-state c =
    let drawn = drawn_at c.args.k c.args.self.now 16 (Stage, (draw c.args.self.now 20).1) (sym c.draw.ensures.value ∙ c.in-16.is) refl in
    c.draw.ensures.state ∙ ap (λ (p : Command × ℕ). p.1) (sym drawn)

pub returns-in-17-clause-command : goal.returns-in-17-clause-command
returns-in-17-clause-command c ids =
    let drawn = drawn_at c.args.k c.args.self.now 17 (Commit, (draw c.args.self.now 20).1) (sym c.draw.ensures.value ∙ c.in-17.is) refl in
    ap (λ (p : Command × ℕ). Says p.0) (sym drawn)

pub returns-in-17-clause-state : goal.returns-in-17-clause-state
returns-in-17-clause-state c =
    let drawn = drawn_at c.args.k c.args.self.now 17 (Commit, (draw c.args.self.now 20).1) (sym c.draw.ensures.value ∙ c.in-17.is) refl in
    c.draw.ensures.state ∙ ap (λ (p : Command × ℕ). p.1) (sym drawn)

pub returns-in-18-clause-command : goal.returns-in-18-clause-command
returns-in-18-clause-command c ids =
    let drawn = drawn_at c.args.k c.args.self.now 18 (Abort, (draw c.args.self.now 20).1) (sym c.draw.ensures.value ∙ c.in-18.is) refl in
    ap (λ (p : Command × ℕ). Says p.0) (sym drawn)

pub returns-in-18-clause-state : goal.returns-in-18-clause-state
returns-in-18-clause-state c =
    let drawn = drawn_at c.args.k c.args.self.now 18 (Abort, (draw c.args.self.now 20).1) (sym c.draw.ensures.value ∙ c.in-18.is) refl in
    c.draw.ensures.state ∙ ap (λ (p : Command × ℕ). p.1) (sym drawn)

pub returns-in-14-clause-command : goal.returns-in-14-clause-command
returns-in-14-clause-command c ids =
    let drawn = drawn_at c.args.k c.args.self.now 14 (drawn_change c.args.k (draw c.args.self.now 20).1) (sym c.draw.ensures.value ∙ c.in-14.is) refl in
    c.change.ensures.command ids ∙ ap (λ x. Says (drawn_change c.args.k x).0) c.draw.ensures.state ∙ ap (λ (p : Command × ℕ). Says p.0) (sym drawn)

pub returns-in-14-clause-state : goal.returns-in-14-clause-state
returns-in-14-clause-state c =
    let drawn = drawn_at c.args.k c.args.self.now 14 (drawn_change c.args.k (draw c.args.self.now 20).1) (sym c.draw.ensures.value ∙ c.in-14.is) refl in
    c.change.ensures.state ∙ ap (λ x. (drawn_change c.args.k x).1) c.draw.ensures.state ∙ ap (λ (p : Command × ℕ). p.1) (sym drawn)

pub returns-in-15-clause-command : goal.returns-in-15-clause-command
returns-in-15-clause-command c ids =
    let drawn = drawn_at c.args.k c.args.self.now 15 (drawn_remove c.args.k (draw c.args.self.now 20).1) (sym c.draw.ensures.value ∙ c.in-15.is) refl in
    c.remove.ensures.command ids ∙ ap (λ x. Says (drawn_remove c.args.k x).0) c.draw.ensures.state ∙ ap (λ (p : Command × ℕ). Says p.0) (sym drawn)

pub returns-in-15-clause-state : goal.returns-in-15-clause-state
returns-in-15-clause-state c =
    let drawn = drawn_at c.args.k c.args.self.now 15 (drawn_remove c.args.k (draw c.args.self.now 20).1) (sym c.draw.ensures.value ∙ c.in-15.is) refl in
    c.remove.ensures.state ∙ ap (λ x. (drawn_remove c.args.k x).1) c.draw.ensures.state ∙ ap (λ (p : Command × ℕ). p.1) (sym drawn)

pub returns-in-0-to-7-clause-command : goal.returns-in-0-to-7-clause-command
returns-in-0-to-7-clause-command c ids =
    let drawn = drawn_early c.args.k c.args.self.now (subst (λ n. n < 8) c.draw.ensures.value (omega (arith, c.in-0-to-7))) in
    c.add.ensures.command ids ∙ ap (λ x. Says (drawn_add c.args.k x).0) c.draw.ensures.state ∙ ap (λ (p : Command × ℕ). Says p.0) (sym drawn)

pub returns-in-0-to-7-clause-state : goal.returns-in-0-to-7-clause-state
returns-in-0-to-7-clause-state c =
    let drawn = drawn_early c.args.k c.args.self.now (subst (λ n. n < 8) c.draw.ensures.value (omega (arith, c.in-0-to-7))) in
    c.add.ensures.state ∙ ap (λ x. (drawn_add c.args.k x).1) c.draw.ensures.state ∙ ap (λ (p : Command × ℕ). p.1) (sym drawn)

pub returns-in-8-to-13-clause-command : goal.returns-in-8-to-13-clause-command
returns-in-8-to-13-clause-command c ids =
    let drawn = drawn_middle c.args.k c.args.self.now (subst (λ n. 8 ≤ n) c.draw.ensures.value (omega (arith, c.in-8-to-13))) (subst (λ n. n < 14) c.draw.ensures.value (omega (arith, c.in-8-to-13))) in
    c.dep.ensures.command ids ∙ ap (λ x. Says (drawn_dep c.args.k x).0) c.draw.ensures.state ∙ ap (λ (p : Command × ℕ). Says p.0) (sym drawn)

pub returns-in-8-to-13-clause-state : goal.returns-in-8-to-13-clause-state
returns-in-8-to-13-clause-state c =
    let drawn = drawn_middle c.args.k c.args.self.now (subst (λ n. 8 ≤ n) c.draw.ensures.value (omega (arith, c.in-8-to-13))) (subst (λ n. n < 14) c.draw.ensures.value (omega (arith, c.in-8-to-13))) in
    c.dep.ensures.state ∙ ap (λ x. (drawn_dep c.args.k x).1) c.draw.ensures.state ∙ ap (λ (p : Command × ℕ). p.1) (sym drawn)

pub returns-in_default-clause-command : goal.returns-in_default-clause-command
returns-in_default-clause-command c ids =
    let nineteen : c.draw.result ≡ 19 = omega (arith, c.in_default, c.draw.ensures.below) in
    let drawn = drawn_at c.args.k c.args.self.now 19 (Compare, (draw c.args.self.now 20).1) (sym c.draw.ensures.value ∙ nineteen) refl in
    ap (λ (p : Command × ℕ). Says p.0) (sym drawn)

pub returns-in_default-clause-state : goal.returns-in_default-clause-state
returns-in_default-clause-state c =
    let nineteen : c.draw.result ≡ 19 = omega (arith, c.in_default, c.draw.ensures.below) in
    let drawn = drawn_at c.args.k c.args.self.now 19 (Compare, (draw c.args.self.now 20).1) (sym c.draw.ensures.value ∙ nineteen) refl in
    c.draw.ensures.state ∙ ap (λ (p : Command × ℕ). p.1) (sym drawn)
