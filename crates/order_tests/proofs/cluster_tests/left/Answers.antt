-- The one name that goes is of the cluster.
use Rattle.std.proofs.Common.{◌≡◌, ◌∷◌, [], List, ℕ, rules, true, subst, inl, inr}
use Rattle.std.specs.Prelude.{Contains}
use Rattle.lists.proofs.Entries.{Contains-cases, none_in_empty}
use Rattle.order_tests.proofs.cluster_tests.left.Goals as goal

only : (x y : ℕ) → Contains (x ∷ []) y → x ≡ y
only x y here = elim (Contains-cases x y [] here) as (λ _. x ≡ y) [ inl same ↦ same | inr later ↦ absurd (none_in_empty y later) ]

pub rest_of-requires : goal.rest_of-requires
rest_of-requires g c =
    let there : c.has.result ≡ true = search rules in
    λ x here.
    let one = subst (λ (xs : List ℕ). Contains xs x) c.as_slice.ensures here in
    subst (λ (y : ℕ). Contains c.args.old.now.names y) (only c.args.id x one) (c.has.ensures.0 there)
