use Rattle.std.proofs.Common.{rules, [], inl, sym, subst}
use Rattle.std.specs.Prelude.{Contains, IsTrue}
use Rattle.lists.proofs.Entries.{Contains-head}
use Rattle.graphs.specs.Certificates.{Txs}
use Rattle.links.specs.Kept.{names_of}
use Rattle.leaf_tests.proofs.links_tests.with_child.Goals as goal

pub joined-requires-clause-across : goal.joined-requires-clause-across
joined-requires-clause-across g c =
    let there : IsTrue c.has.result = search rules in
    inl (
      c.has.ensures.0 there,
      subst (λ (ts : Txs). Contains (names_of ts) c.args.id) (sym c.in_ok-other.ensures) (Contains-head c.args.id []),
    )
