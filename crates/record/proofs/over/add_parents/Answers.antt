use Rattle.std.proofs.Common.{◌≡◌, ◌↔◌, ℕ, List, [], ◌∷◌, ◌++◌, append_assoc, sym, ap, ◌∙◌, subst}
use Rattle.std.specs.Prelude.{Contains}
use Rattle.graphs.specs.Closures.{IsCover}
use Rattle.record.proofs.Parenting.{none_so_far, one_more, all_so_far}
use Rattle.record.proofs.over.add_parents.Goals as goal

pub loop-parent-init : goal.loop-parent-init
loop-parent-init g c = record {
  all = λ a. subst (λ (ids : List ℕ). Contains ids a ↔ IsCover c.args.component.now.graph a c.args.id)
      (sym c.into_iter-parent-iterator.ensures.into_iter_gives) (c.covers-parent-items.ensures.exact a);
  pairs = none_so_far c.args.id c.args.pairs.now.items;
}

pub loop-parent-preserved : goal.loop-parent-preserved
loop-parent-preserved g c =
    let ys = c.loop-parent.yielded in
    let p = c.in-Some.parent in
    let same : (ys ++ p ∷ []) ++ c.next.new.self ≡ ys ++ c.loop-parent.parent-iterator =
    append_assoc ys (p ∷ []) c.next.new.self ∙ ap (λ (zs : List ℕ). ys ++ zs) (sym c.in-Some.ensures.steps) in
    record {
      all = λ a. subst (λ (zs : List ℕ). Contains zs a ↔ IsCover c.args.component.now.graph a c.args.id) (sym same) (c.loop-parent.invariant.all a);
      pairs = one_more c.args.id c.args.pairs.now.items c.loop-parent.pairs.items c.push.new.self.items ys p c.loop-parent.invariant.pairs c.in_ok-push.ensures.items;
    }

pub returns : goal.returns
returns g c =
    all_so_far c.args.component.now.graph c.args.id c.args.pairs.now.items c.loop-parent.pairs.items c.loop-parent.yielded c.loop-parent.parent-iterator
    c.loop-parent.invariant.all c.in-None.ensures.steps.0 c.loop-parent.invariant.pairs
