use Rattle.std.proofs.Common.{◌≡◌, ◌<◌, ◌∷◌, ◌++◌, [], ◌∙◌, ap, sym, subst, length, arith, rules, vec_len, vec_capacity, true}
use Rattle.std.specs.Result.{is_ok}
use Rattle.linearize.specs.Drafts.{Written, all_flows, IsKept, named, written_of}
use Rattle.linearize.proofs.DraftLemmas.{length_flows, kept_send_all, written_send_all}
use Rattle.linearize.proofs.draft.Draft.send.Goals as goal

pub prove-unreachable-requires : goal.prove-unreachable-requires
prove-unreachable-requires g c =
    let s = c.self.inside in
    let l = length_flows s.parts.items s.order.items s.flows.items ∙ ap (λ w. length (all_flows w)) c.self.view_is in
    let fits : vec_len s.flows < vec_capacity s.flows = omega (arith, s.flows.ok.0, l, c.requires, c.self.invariant.3) in
    let k : is_ok c.push-pushed.result ≡ true = search (rules, c.push-pushed.ensures.succeeds fits) in
    cc (c.is_ok.ensures.value)

pub invariant_of-self : goal.invariant_of-self
invariant_of-self g c =
    let s = c.self.inside in
    let items : c.push-pushed.new.self.items ≡ s.flows.items ++ c.args.flow ∷ [] = search rules in (
      subst (λ xs. IsKept s.parts.items s.order.items xs) (sym items)
          (kept_send_all s.parts.items s.order.items s.flows.items (c.args.flow ∷ []) c.self.invariant.0),
      search rules,
      search rules,
      search rules,
    )

pub returns : goal.returns
returns g c =
    let s = c.self.inside in
    let items : c.push-pushed.new.self.items ≡ s.flows.items ++ c.args.flow ∷ [] = search rules in
    ap (λ xs. written_of s.parts.items s.order.items xs) items
    ∙ written_send_all s.parts.items s.order.items s.flows.items (c.args.flow ∷ []) c.self.invariant.0
    ∙ ap (λ (w : Written). record { parts = w.parts; ids = w.ids; flows = w.flows ++ named c.args.flow ∷ [] }) c.self.view_is
