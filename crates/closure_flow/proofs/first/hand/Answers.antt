use Rattle.std.proofs.Common.{◌≡◌, ℕ, ◌*◌, ◌+◌, ◌∙◌, sym, ap, subst, ℤ, pos, ◌+ℤ◌, ◌-ℤ◌}
use Rattle.closure_flow.specs.Closures.{weight_at}
use Rattle.closure_flow.specs.Flows.{only_at}
use Rattle.closure_flow.proofs.Steadiness.{same_sent}
use Rattle.closure_flow.proofs.first.hand.Goals as goal

pub returns-clause-hands : goal.returns-clause-hands
returns-clause-hands g c =
    let n : ℕ = 64 * g.row.W in
    let new = c.shift.new.self in
    let flow = same_sent n _ _ _ _ c.shift.ensures.into c.shift.ensures.amounts in
    let rest = ap weight_at c.set_sent.ensures.rest in
    record {
      here = ap (λ (f : ℕ → ℕ → ℕ). f c.args.from c.args.to) (sym flow) ∙ c.set_sent.ensures.here ∙ ap (λ (x : ℕ). x + c.args.amount) c.sent-flow.ensures;
      others = λ d p hd hp ne. ap (λ (f : ℕ → ℕ → ℕ). f d p) (sym flow) ∙ c.set_sent.ensures.others d p hd hp ne;
      rests = λ t h.
          subst (λ (r : ℕ → ℤ). weight_at new.rest.items t ≡ (r t -ℤ only_at c.args.from (pos c.args.amount) t) +ℤ only_at c.args.to
          (pos c.args.amount) t) rest (c.shift.ensures.rest t h);
    }
