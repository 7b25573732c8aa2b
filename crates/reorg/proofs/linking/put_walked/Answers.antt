use Rattle.std.proofs.Common.{◌≡◌, ◌↔◌, ℕ, List, [], ◌∷◌, ◌++◌, append_assoc, append-nil, Contains, sym, ap, ◌∙◌, subst}
use Rattle.graphs.specs.Graphs.{IsAncestor}
use Rattle.graphs.specs.declared.names.Kin.TheVariants.{Descendants}
use Rattle.links.specs.declared.link_walk.LinkWalk.{LinkWalk}
use Rattle.links.specs.Kept.{coming}
use Rattle.links.proofs.Walking.{kin_of_one}
use Rattle.reorg.specs.Blocks.{LeadsTo}
use Rattle.reorg.proofs.Pairing.{others_none, others_more, others_all, pushed}
use Rattle.reorg.proofs.linking.put_walked.Goals as goal

pub loop-d-init : goal.loop-d-init
loop-d-init c = record {
  all = λ d. subst (λ (it : LinkWalk). Contains (coming it) d ↔ IsAncestor c.args.links.now.pairs c.args.id d)
      (sym c.into_iter-d-iterator.ensures.into_iter_gives) (kin_of_one Descendants c.args.links.now.pairs c.args.id (coming c.kin.result) c.kin.ensures.exact d);
  adds = others_none c.args.id c.args.list.now.items;
}

pub loop-d-preserved : goal.loop-d-preserved
loop-d-preserved c =
    let d = c.in-Some.d in
    let ys = c.loop-d.yielded in
    let same : (ys ++ d ∷ []) ++ coming c.next.new.self ≡ ys ++ coming c.loop-d.d-iterator =
    append_assoc ys (d ∷ []) (coming c.next.new.self) ∙ ap (λ (zs : List ℕ). ys ++ zs) (sym c.in-Some.ensures.steps) in
    record {
      all = λ n. subst (λ (zs : List ℕ). Contains zs n ↔ IsAncestor c.args.links.now.pairs c.args.id n) (sym same) (c.loop-d.invariant.all n);
      adds = others_more c.args.id d ys (ys ++ d ∷ []) c.args.list.now.items c.loop-d.list.items c.put_other.new.list.items (pushed ys d)
          c.loop-d.invariant.adds c.in_ok-put_other.ensures;
    }

pub returns-clause-adds : goal.returns-clause-adds
returns-clause-adds c =
    let ys = c.loop-d.yielded in
    let none : ys ++ coming c.loop-d.d-iterator ≡ ys = ap (λ (zs : List ℕ). ys ++ zs) c.in-None.ensures.steps.0 ∙ append-nil ys in
    others_all (LeadsTo c.args.links.now.pairs) c.args.id ys c.args.list.now.items c.loop-d.list.items
    (λ d. let exact = subst (λ (zs : List ℕ). Contains zs d ↔ IsAncestor c.args.links.now.pairs c.args.id d) none (c.loop-d.invariant.all d) in
    (λ is. (exact.0 is.0, is.1), λ is. (exact.1 is.0, is.1)))
    c.loop-d.invariant.adds
