-- The names are those of what is stored.
use Rattle.std.proofs.Common.{rules, ◌≡◌, ℕ, List, true, Contains, ◌∙◌, subst}
use Rattle.record_tests.proofs.store_tests.has_both.Goals as goal

pub returns : goal.returns
returns g c =
    let (s, there, same) = c.in-Some.ensures.cluster in
    let first : c.is_among.result ≡ true = search rules in
    let second : c.is_among-in-Some.result ≡ true = search rules in
    let names : c.in-Some.record.now.names ≡ s.cluster.names = cc in (
      s,
      there,
      subst (λ (xs : List ℕ). Contains xs c.args.a) (c.names.ensures.names ∙ names) (c.is_among.ensures.0 first),
      subst (λ (xs : List ℕ). Contains xs c.args.b) (c.names-in-Some.ensures.names ∙ names) (c.is_among-in-Some.ensures.0 second),
    )
