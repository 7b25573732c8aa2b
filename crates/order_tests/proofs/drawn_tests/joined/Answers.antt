use Rattle.std.proofs.Common.{◌≡◌, List, ℕ, length, rules, true, sym, ap, subst, arith}
use Rattle.std.specs.Prelude.{Contains}
use Rattle.order_tests.proofs.drawn_tests.joined.Goals as goal

pub joined-requires : goal.joined-requires
joined-requires g c =
    let none : c.has_none_of.result ≡ true = search rules in
    let across : c.are_across.result ≡ true = search rules in
    let own : length c.names.result.now ≡ length c.args.one.now.names = ap length c.names.ensures.names in
    let others : length c.names-2.result.now ≡ length c.args.other.now.names = ap length c.names-2.ensures.names in (
      search rules,
      (
        search rules,
        (
          omega (arith, own, others),
          (
            λ id here there. c.has_none_of.ensures none id (subst (λ (xs : List ℕ). Contains xs id) (sym c.names-3.ensures.names) there) here,
            c.are_across.ensures across,
          ),
        ),
      ),
    )
