-- The name that joins is another, and stands alone.
use Rattle.std.proofs.Common.{rules, ◌≡◌, ◌<◌, ◌∷◌, [], List, ℕ, length, true, false, lit<, sym, ap, ◌∙◌, subst, arith, inl, inr, true≢false}
use Rattle.std.specs.Prelude.{Contains}
use Rattle.lists.proofs.Entries.{Contains-cases, Contains-head, none_in_empty}
use Rattle.record.specs.Changes.{MayJoin}
use Rattle.record_tests.specs.declared.record_tests.TheConstants.{LIMITS}
use Rattle.record_tests.proofs.record_tests.with_child.Goals as goal

only : (x y : ℕ) → Contains (x ∷ []) y → x ≡ y
only x y here = elim (Contains-cases x y [] here) [ inl same ↦ same | inr later ↦ absurd (none_in_empty y later) ]

pub joined-joined-requires : goal.joined-joined-requires
joined-joined-requires g c =
    let few : length c.names.result.now < 100 = search rules in
    let there : c.stands_in.result ≡ true = search rules in
    let absent : c.stands_in-2.result ≡ false = search rules in
    let long : length c.names.result.now ≡ length c.args.older.now.names = ap length c.names.ensures.names in
    let own : length c.in_ok-other.other.names ≡ 1 = ap length c.in_ok-other.ensures.names in
    let joins : MayJoin 128 LIMITS c.args.older.now c.in_ok-other.other c.args.parent c.args.id = record {
      few = omega arith;
      one_fits = c.requires;
      other_fits = c.in_ok-other.ensures.fitted;
      total = omega (arith, few, long, own);
      apart = λ x here other. true≢false
          (sym (c.stands_in-2.ensures.1
          (subst (λ (y : ℕ). Contains c.names-3.result.now y) (sym (only c.args.id x (subst (λ (xs : List ℕ). Contains xs x) c.in_ok-other.ensures.names other)))
          (subst (λ (xs : List ℕ). Contains xs x) (sym c.names-3.ensures.names) here)))
          ∙ absent);
      across = inl (
        subst (λ (xs : List ℕ). Contains xs c.args.parent) c.names-2.ensures.names (c.stands_in.ensures.0 there),
        subst (λ (xs : List ℕ). Contains xs c.args.id) (sym c.in_ok-other.ensures.names) (Contains-head c.args.id []),
      );
    } in (lit< tt, (lit< tt, (omega arith, joins)))
