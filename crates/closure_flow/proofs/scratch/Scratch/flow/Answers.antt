use Rattle.std.proofs.Common.{◌≡◌, ℕ, ◌*◌, ◌∙◌, sym, ap, arith}
use Rattle.std.proofs.lemmas.Bool.{false_from_ne_true}
use Rattle.closure_flow.specs.Scratches.{flow_of, shown}
use Rattle.closure_flow.proofs.Networks.{not_sent, not_received, shown_within}
use Rattle.closure_flow.proofs.Shown.{shown_is}
use Rattle.closure_flow.proofs.scratch.Scratch.flow.Goals as goal
use Rattle.closure_flow.proofs.scratch.Scratch.flow.Goals.{else-child-places-via-then-child-places+then-parent-places+else-has}
use Rattle.closure_flow.proofs.scratch.Scratch.flow.Goals.{else-child-places-via-then-child-places+else-parent-places}
use Rattle.closure_flow.proofs.scratch.Scratch.flow.Goals.{else-child-places-via-else-child-places}

pub returns-then-has : goal.returns-then-has
returns-then-has g c =
    let n : ℕ = 64 * g.row.W in
    let net = c.self.inside.network in
    let is = shown_is n net.within net.into.items net.amounts.items net.lean net.inside c.args.child c.args.parent in
    c.sent.ensures ∙ sym (ap (λ v. flow_of v c.args.child c.args.parent) (sym c.self.view_is) ∙ is
    ∙ shown_within n net.within _ _ c.args.child c.args.parent (sym c.has.ensures ∙ c.if-has.true))

pub returns-else-child-places : goal.returns-else-child-places
returns-else-child-places g c =
    let n : ℕ = 64 * g.row.W in
    let net = c.self.inside.network in
    let places = c.len-places.ensures in
    let none : shown n net.within net.into.items net.amounts.items c.args.child c.args.parent ≡ 0 =
    elim c.else-child-places.branch [
      | else-child-places-via-then-child-places+then-parent-places+else-has w ↦
          not_received n net.within _ _ c.args.child c.args.parent (sym w.has.ensures ∙ w.if-has.false)
      | else-child-places-via-then-child-places+else-parent-places w ↦
          let past = w.if-parent-places.false in
          not_received n net.within _ _ c.args.child c.args.parent
          (false_from_ne_true _ (λ m. omega (arith, net.sized.rests, net.rest.ok, places, past, net.inside _ m)))
      | else-child-places-via-else-child-places w ↦
          let past = w.if-child-places.false in
          not_sent n net.within _ _ c.args.child c.args.parent net.lean net.inside (omega (arith, net.sized.rests, net.rest.ok, places, past))
    ] in
    sym (ap (λ v. flow_of v c.args.child c.args.parent) (sym c.self.view_is)
    ∙ shown_is n net.within net.into.items net.amounts.items net.lean net.inside c.args.child c.args.parent ∙ none)
