use Rattle.std.proofs.Common.{◌≡◌, ℕ, ◌+◌, ◌<◌, List, [], ◌∷◌, ◌++◌, length, get_or, set, refl, sym, ap, ◌∙◌, subst, arith}
use Rattle.std.proofs.lemmas.List.{length-set, get_or_default}
use Rattle.places.proofs.Linking.{AreLinked, one_linked}
use Rattle.places.proofs.chains.linked.Goals as goal

pub loop-at-preserved : goal.loop-at-preserved
loop-at-preserved c =
    let pairs = c.args.pairs.now in
    let at = c.loop-at.at in
    let last = c.loop-at.last.items in
    let before = c.loop-at.before.items in
    let child : ℕ = (get_or pairs at (0, 0)).1 in
    let inside : child < length last = omega (arith, (c.requires at (0, 0) c.loop-at-test.true).1, c.loop-at.invariant.0) in
    let grown : c.push.new.self.items ≡ before ++ get_or last child 0 ∷ [] =
    c.in_ok-push.ensures.items ∙ ap (λ (v : ℕ). before ++ v ∷ []) (c.index.ensures ∙ get_or_default last child _ 0 inside) in (
      length-set last child (at + 1) ∙ c.loop-at.invariant.0,
      subst (λ (xs : List ℕ). AreLinked pairs (at + 1) (set last child (at + 1)) xs) (sym grown)
          (one_linked pairs at last before child c.loop-at.invariant.1 refl inside),
    )
