use Rattle.std.proofs.Common.{◌≡◌, ◌↔◌, ℕ, false, nat_eq, List, [], ◌∷◌, ◌++◌, append_assoc, append-nil, Contains, sym, ap, ◌∙◌, subst}
use Rattle.std.specs.HashSet as bag
use Rattle.graphs.specs.Graphs.{IsAncestor}
use Rattle.graphs.specs.declared.names.Kin.TheVariants.{Ancestors}
use Rattle.lists.proofs.Entries.{none_in_empty}
use Rattle.links.specs.declared.link_walk.LinkWalk.{LinkWalk}
use Rattle.links.specs.Kept.{coming}
use Rattle.links.proofs.Bridging.{adds_none, bridge_more, bridge_all}
use Rattle.links.proofs.Walking.{kin_of_one}
use Rattle.links.proofs.leaving.bridge.Goals as goal

pub loop-above-init : goal.loop-above-init
loop-above-init c = record {
  all = λ a. subst (λ (it : LinkWalk). Contains (coming it) a ↔ IsAncestor c.args.inner.now.pairs a c.args.parent)
      (sym c.into_iter-above-iterator.ensures.into_iter_gives) (kin_of_one Ancestors c.args.inner.now.pairs c.args.parent (coming c.kin.result) c.kin.ensures.exact a);
  adds = adds_none (λ a b. Contains {X = ℕ} [] a × (b ≡ c.args.child) × (bag.contains nat_eq c.args.gone.now a ≡ false)) c.args.list.now.items
      (λ a b p. none_in_empty a p.0);
}

pub loop-above-preserved : goal.loop-above-preserved
loop-above-preserved c =
    let above = c.in-Some.above in
    let ys = c.loop-above.yielded in
    let same : (ys ++ above ∷ []) ++ coming c.next.new.self ≡ ys ++ coming c.loop-above.above-iterator =
    append_assoc ys (above ∷ []) (coming c.next.new.self) ∙ ap (λ (zs : List ℕ). ys ++ zs) (sym c.in-Some.ensures.steps) in
    record {
      all = λ a. subst (λ (zs : List ℕ). Contains zs a ↔ IsAncestor c.args.inner.now.pairs a c.args.parent) (sym same) (c.loop-above.invariant.all a);
      adds = bridge_more (bag.contains nat_eq c.args.gone.now) c.args.child above ys c.args.list.now.items c.loop-above.list.items
          c.put_left.new.list.items c.loop-above.invariant.adds c.in_ok-put_left.ensures;
    }

pub returns-clause-adds : goal.returns-clause-adds
returns-clause-adds c =
    let ys = c.loop-above.yielded in
    let none : ys ++ coming c.loop-above.above-iterator ≡ ys = ap (λ (zs : List ℕ). ys ++ zs) c.in-None.ensures.steps.0 ∙ append-nil ys in
    bridge_all (bag.contains nat_eq c.args.gone.now) c.args.inner.now.pairs c.args.parent c.args.child ys c.args.list.now.items c.loop-above.list.items
    c.requires.child (λ a. subst (λ (zs : List ℕ). Contains zs a ↔ IsAncestor c.args.inner.now.pairs a c.args.parent) none (c.loop-above.invariant.all a))
    c.loop-above.invariant.adds
