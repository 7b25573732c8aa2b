use Rattle.std.proofs.Common.{◌≡◌, ℕ, ℤ, Bool, not, nat_eq, sym, ap, ◌∙◌, subst}
use Rattle.std.specs.Prelude.{Contains}
use Rattle.std.specs.List.{filter}
use Rattle.std.specs.HashSet as bag
use Rattle.std.proofs.lemmas.Result.{IfOk-weaker}
use Rattle.lists.specs.Distinct.{AreDistinct}
use Rattle.graphs.specs.Certificates.{Txs}
use Rattle.links.specs.Links.{AreAmong, AreInRange}
use Rattle.links.specs.Kept.{names_of}
use Rattle.links.specs.Leaving.{ArePairsLeft, goes}
use Rattle.links.proofs.Bridging.{among_left, crosses_left, left_same, no_cycle_left, once_left, range_left}
use Rattle.links.proofs.Gone.{goes_tells, one_test}
use Rattle.links.proofs.making.without.Goals as goal

pub bridged-requires : goal.bridged-requires
bridged-requires c parent child here =
    subst (λ (ts : Txs). Contains (names_of ts) parent) (sym c.in_ok-inner.ensures.txs) (c.requires.graph_is.ends parent child here).0

pub made-requires-clause-once : goal.made-requires-clause-once
made-requires-clause-once c =
    subst (λ (ts : Txs). AreDistinct (names_of ts)) (sym c.in_ok-stay.ensures)
    (once_left (bag.contains nat_eq c.in_ok-gone.gone) c.args.txs.now c.requires.graph_is.names)

pub made-requires-clause-in_range : goal.made-requires-clause-in_range
made-requires-clause-in_range c =
    subst AreInRange (sym c.in_ok-stay.ensures) (range_left (bag.contains nat_eq c.in_ok-gone.gone) c.args.txs.now c.requires.in_range)

pub made-requires-clause-among : goal.made-requires-clause-among
made-requires-clause-among c =
    subst (λ (ts : Txs). AreAmong (names_of ts) c.as_slice.result.now) (sym c.in_ok-stay.ensures)
    (among_left (bag.contains nat_eq c.in_ok-gone.gone) c.args.names.now c.args.txs.now c.args.pairs.now c.as_slice.result.now c.in_ok-gone.ensures
    c.requires.graph_is.ends (subst (ArePairsLeft c.args.pairs.now c.args.names.now) (sym c.as_slice.ensures.value)
    (crosses_left (bag.contains nat_eq c.in_ok-gone.gone) c.args.names.now c.args.pairs.now c.in_ok-inner.inner.pairs c.in_ok-bridges.bridges.items
    c.in_ok-gone.ensures c.in_ok-inner.ensures.pairs c.in_ok-bridges.ensures)))

pub made-requires-clause-no_cycle : goal.made-requires-clause-no_cycle
made-requires-clause-no_cycle c = no_cycle_left c.args.pairs.now c.args.names.now c.as_slice.result.now (subst (ArePairsLeft c.args.pairs.now c.args.names.now) (sym c.as_slice.ensures.value)
    (crosses_left (bag.contains nat_eq c.in_ok-gone.gone) c.args.names.now c.args.pairs.now c.in_ok-inner.inner.pairs c.in_ok-bridges.bridges.items
    c.in_ok-gone.ensures c.in_ok-inner.ensures.pairs c.in_ok-bridges.ensures)) c.requires.graph_is.acyclic

pub returns-clause-pairs : goal.returns-clause-pairs
returns-clause-pairs c =
    IfOk-weaker c.made.result _ _
    (λ links same. left_same c.args.pairs.now c.args.names.now c.as_slice.result.now links.pairs (subst (ArePairsLeft c.args.pairs.now c.args.names.now) (sym c.as_slice.ensures.value)
    (crosses_left (bag.contains nat_eq c.in_ok-gone.gone) c.args.names.now c.args.pairs.now c.in_ok-inner.inner.pairs c.in_ok-bridges.bridges.items
    c.in_ok-gone.ensures c.in_ok-inner.ensures.pairs c.in_ok-bridges.ensures)) same)
    c.made.ensures.pairs

pub returns-clause-txs : goal.returns-clause-txs
returns-clause-txs c =
    let one : bag.contains nat_eq c.in_ok-gone.gone ≡ goes c.args.names.now =
    one_test (bag.contains nat_eq c.in_ok-gone.gone) (goes c.args.names.now) c.args.names.now c.in_ok-gone.ensures (goes_tells c.args.names.now) in
    let stay : c.in_ok-stay.stay.items ≡ filter (λ tx. not (goes c.args.names.now tx.0)) c.args.txs.now =
    c.in_ok-stay.ensures ∙ ap (λ (f : ℕ → Bool). filter (λ (tx : ℕ × ℤ × ℕ). not (f tx.0)) c.args.txs.now) one in
    IfOk-weaker c.made.result _ _ (λ links is. is ∙ stay) c.made.ensures.txs
