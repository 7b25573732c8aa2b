use Rattle.std.proofs.Common.{◌≡◌, List, [], ◌∷◌, ◌++◌, ℕ, Bool, rules, true, false, slice_index, sym, ◌∙◌, subst, true≢false, Contains}
use Rattle.lists.specs.Distinct.{AreDistinct}
use Rattle.lists.proofs.Distinct.{distinct_push}
use Rattle.order_tests.proofs.whole_tests.once.Goals as goal

-- one more name, which was looked for and not found
pushed : (own new seen : List ℕ) (x : ℕ) (found : Bool) → AreDistinct own → seen ≡ own → (Contains seen x → found ≡ true) → found ≡ false
    → new ≡ own ++ x ∷ [] → AreDistinct new
pushed own new seen x found once same complete absent is = subst (λ (xs : List ℕ). AreDistinct xs) (sym is)
    (distinct_push own x once (λ here. true≢false (sym (complete (subst (λ (xs : List ℕ). Contains xs x) (sym same) here)) ∙ absent)))

pub loop-name-preserved : goal.loop-name-preserved
loop-name-preserved g c =
    let absent : c.stands_in.result ≡ false = search rules in
    pushed c.loop-name.own.items c.push.new.self.items c.as_slice.result.now (slice_index c.args.names.now c.loop-name.name-index) c.stands_in.result
    c.loop-name.invariant c.as_slice.ensures.value c.stands_in.ensures.1 absent c.in_ok-push.ensures.items
