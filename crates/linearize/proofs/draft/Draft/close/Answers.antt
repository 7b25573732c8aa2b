use Rattle.std.proofs.Common.{◌≡◌, ◌<◌, ◌∷◌, ◌++◌, [], ◌∙◌, ap, sym, subst, length, arith, rules, vec_len, vec_capacity, true}
use Rattle.std.specs.Result.{is_ok}
use Rattle.linearize.specs.declared.draft.LinearPart.{LinearPart}
use Rattle.linearize.specs.Graphs.{sum_from}
use Rattle.linearize.specs.Drafts.{Written, IsKept, written_of}
use Rattle.linearize.proofs.DraftLemmas.{length_parts, kept_close, written_close}
use Rattle.linearize.proofs.draft.Draft.close.Goals as goal

pub prove-unreachable-requires : goal.prove-unreachable-requires
prove-unreachable-requires g c =
    let s = c.self.inside in
    let l = length_parts 0 0 s.parts.items s.order.items s.flows.items ∙ ap (λ w. length w.parts) c.self.view_is in
    let fits : vec_len s.parts < vec_capacity s.parts = omega (arith, s.parts.ok.0, l, c.requires, c.self.invariant.2) in
    let k : is_ok c.push-pushed.result ≡ true = search (rules, c.push-pushed.ensures.succeeds fits) in
    cc (c.is_ok.ensures.value)

pub invariant_of-self : goal.invariant_of-self
invariant_of-self g c =
    let s = c.self.inside in
    let last : LinearPart = record { rate = c.args.rate; end = c.len-end.result; flow_end = c.len-flow_end.result } in
    let items : c.push-pushed.new.self.items ≡ s.parts.items ++ last ∷ [] = search rules in (
      subst (λ xs. IsKept xs s.order.items s.flows.items) (sym items)
          (kept_close s.parts.items s.order.items s.flows.items last (search rules) (search rules) c.self.invariant.0),
      search rules,
      search rules,
      search rules,
    )

pub returns : goal.returns
returns g c =
    let s = c.self.inside in
    let last : LinearPart = record { rate = c.args.rate; end = c.len-end.result; flow_end = c.len-flow_end.result } in
    let items : c.push-pushed.new.self.items ≡ s.parts.items ++ last ∷ [] = search rules in
    ap (λ xs. written_of xs s.order.items s.flows.items) items
    ∙ written_close s.parts.items s.order.items s.flows.items last (search rules) (search rules) c.self.invariant.0
    ∙ ap (λ (w : Written). record {
      parts = w.parts ++ record { rate = sum_from c.args.rate; ids = w.ids; flows = w.flows } ∷ [];
      ids = [];
      flows =
          [];
    }) c.self.view_is
