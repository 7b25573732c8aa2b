use Rattle.std.proofs.Common.{◌≡◌, ◌∷◌, [], List, ℕ, length, rules, true, false, sym, ap, ◌∙◌, subst, arith, inl, inr, true≢false}
use Rattle.std.specs.Prelude.{Contains}
use Rattle.lists.proofs.Entries.{Contains-cases, Contains-head, none_in_empty}
use Rattle.order_tests.proofs.Sizes.{cluster_fits, work_fits}
use Rattle.order_tests.proofs.cluster_tests.joined.Goals as goal

only : (x y : ℕ) → Contains (x ∷ []) y → x ≡ y
only x y here = elim (Contains-cases x y [] here) as (λ _. x ≡ y) [ inl same ↦ same | inr later ↦ absurd (none_in_empty y later) ]

pub has-requires : goal.has-requires
has-requires g c = (cluster_fits g.row.W c.requires.wide, c.requires.wide)

pub has-requires-2 : goal.has-requires-2
has-requires-2 g c = (cluster_fits g.row.W c.requires.wide, c.requires.wide)

pub names-requires : goal.names-requires
names-requires g c = cluster_fits g.row.W c.requires.wide

pub joined-requires : goal.joined-requires
joined-requires g c =
    let absent : c.has.result ≡ false = search rules in
    let there : c.has-2.result ≡ true = search rules in
    let names : c.args.one.now.names ≡ c.args.pair.1 ∷ [] = c.requires.one in
    let long : length c.args.one.now.names ≡ 1 = ap length names in
    let own : length c.names.result.now ≡ length c.args.old.now.names = ap length c.names.ensures.names in (
      cluster_fits g.row.W c.requires.wide,
      (
        work_fits g.row.W c.requires.wide,
        (
          omega (arith, long, own),
          (
            λ x here other. true≢false (sym (c.has.ensures.1 (subst (λ (y : ℕ). Contains c.args.old.now.names y)
                (sym (only c.args.pair.1 x (subst (λ (xs : List ℕ). Contains xs x) names other))) here)) ∙ absent),
            inl (c.has-2.ensures.0 there, subst (λ (xs : List ℕ). Contains xs c.args.pair.1) (sym names) (Contains-head c.args.pair.1 [])),
          ),
        ),
      ),
    )
