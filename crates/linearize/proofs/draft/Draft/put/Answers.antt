use Rattle.std.proofs.Common.{◌≡◌, ◌<◌, ◌∷◌, ◌++◌, [], ◌∙◌, ap, sym, subst, length, arith, rules, vec_len, vec_capacity, true}
use Rattle.std.specs.Result.{is_ok}
use Rattle.linearize.specs.Drafts.{Written, all_placed, IsKept, written_of}
use Rattle.linearize.proofs.DraftLemmas.{length_placed, kept_put_all, written_put_all}
use Rattle.linearize.proofs.draft.Draft.put.Goals as goal

pub prove-unreachable-requires : goal.prove-unreachable-requires
prove-unreachable-requires g c =
    let s = c.self.inside in
    let l = length_placed s.parts.items s.order.items s.flows.items ∙ ap (λ w. length (all_placed w)) c.self.view_is in
    let fits : vec_len s.order < vec_capacity s.order = omega (arith, s.order.ok.0, l, c.requires, c.self.invariant.1) in
    let k : is_ok c.push-pushed.result ≡ true = search (rules, c.push-pushed.ensures.succeeds fits) in
    cc (c.is_ok.ensures.value)

pub invariant_of-self : goal.invariant_of-self
invariant_of-self g c =
    let s = c.self.inside in
    let items : c.push-pushed.new.self.items ≡ s.order.items ++ c.args.place ∷ [] = search rules in (
      subst (λ xs. IsKept s.parts.items xs s.flows.items) (sym items)
          (kept_put_all s.parts.items s.order.items (c.args.place ∷ []) s.flows.items c.self.invariant.0),
      search rules,
      search rules,
      search rules,
    )

pub returns : goal.returns
returns g c =
    let s = c.self.inside in
    let items : c.push-pushed.new.self.items ≡ s.order.items ++ c.args.place ∷ [] = search rules in
    ap (λ xs. written_of s.parts.items xs s.flows.items) items
    ∙ written_put_all s.parts.items s.order.items (c.args.place ∷ []) s.flows.items c.self.invariant.0
    ∙ ap (λ (w : Written). record { parts = w.parts; ids = w.ids ++ c.args.place ∷ []; flows = w.flows }) c.self.view_is
