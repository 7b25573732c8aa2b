use Rattle.std.proofs.Common.{rules, ℕ, List, nat_eq, sym, subst}
use Rattle.std.specs.Prelude.{Contains}
use Rattle.std.specs.HashSet as bag
use Rattle.std.proofs.lemmas.Result.{IfOk-weaker}
use Rattle.lists.proofs.Entries.{filter-Contains, none_in_empty}
use Rattle.links.specs.Leaving.{Serves}
use Rattle.links.proofs.Bridging.{none_serve}
use Rattle.links.proofs.leaving.pairs_between.Goals as goal

pub returns-then-not-some_enter-clause-within : goal.returns-then-not-some_enter-clause-within
returns-then-not-some_enter-clause-within c a b here =
    absurd (none_in_empty (a, b) (subst (λ (l : List (ℕ × ℕ)). Contains {X = ℕ × ℕ} l (a, b)) c.new.ensures.items here))

pub returns-then-not-some_enter-clause-serves : goal.returns-then-not-some_enter-clause-serves
returns-then-not-some_enter-clause-serves c =
    subst (Serves (bag.contains nat_eq c.args.gone.now) c.args.pairs.now) (sym c.new.ensures.items)
    (none_serve (bag.contains nat_eq c.args.gone.now) c.args.pairs.now (c.some_enter.ensures (search rules)))

pub returns-clause-within : goal.returns-clause-within
returns-clause-within c =
    IfOk-weaker c.pairs_into.result _ _
    (λ list is a b here. (filter-Contains (λ (pair : ℕ × ℕ). bag.contains nat_eq c.args.gone.now pair.1) c.args.pairs.now (a, b)
    (subst (λ (l : List (ℕ × ℕ)). Contains {X = ℕ × ℕ} l (a, b)) is here)).1)
    c.pairs_into.ensures

pub returns-clause-serves : goal.returns-clause-serves
returns-clause-serves c =
    IfOk-weaker c.pairs_into.result _ _
    (λ list is. subst (Serves (bag.contains nat_eq c.args.gone.now) c.args.pairs.now) (sym is) (λ a p from. ((λ walk. walk), (λ walk. walk))))
    c.pairs_into.ensures
