use Rattle.std.proofs.Common.{List, ℕ, sym, ◌∙◌, subst, subst₂}
use Rattle.lists.specs.Distinct.{AreDistinct}
use Rattle.graphs.specs.Certificates.{Txs}
use Rattle.graphs.specs.Graphs.{HasNoCycle}
use Rattle.links.specs.Links.{AreAmong, AreInRange, AreSame}
use Rattle.links.specs.Kept.{names_of}
use Rattle.record.proofs.Connected.{IsCluster-connected}
use Rattle.record.proofs.Making.{names_once, in_range, among, acyclic, unordered_is}
use Rattle.record.proofs.over.links_of.Goals as goal

pub new-requires-clause-once : goal.new-requires-clause-once
new-requires-clause-once g c =
    subst (λ (xs : Txs). AreDistinct (names_of xs)) (sym c.as_slice.ensures.value)
    (names_once c.args.component.now (IsCluster-connected _ c.args.component.now c.names-names.ensures.whole) c.in_ok-txs.txs.items
    c.in_ok-pairs.pairs.items c.in_ok-txs.ensures c.in_ok-pairs.ensures)

pub new-requires-clause-in_range : goal.new-requires-clause-in_range
new-requires-clause-in_range g c =
    subst (λ (xs : Txs). AreInRange xs) (sym c.as_slice.ensures.value)
    (in_range c.args.component.now (IsCluster-connected _ c.args.component.now c.names-names.ensures.whole) c.in_ok-txs.txs.items
    c.in_ok-pairs.pairs.items c.in_ok-txs.ensures c.in_ok-pairs.ensures)

pub new-requires-clause-among : goal.new-requires-clause-among
new-requires-clause-among g c =
    subst₂ (λ (xs : Txs) (ps : List (ℕ × ℕ)). AreAmong (names_of xs) ps) (sym c.as_slice.ensures.value) (sym c.as_slice-2.ensures.value)
    (among c.args.component.now (IsCluster-connected _ c.args.component.now c.names-names.ensures.whole) c.in_ok-txs.txs.items
    c.in_ok-pairs.pairs.items c.in_ok-txs.ensures c.in_ok-pairs.ensures)

pub new-requires-clause-no_cycle : goal.new-requires-clause-no_cycle
new-requires-clause-no_cycle g c =
    subst (λ (ps : List (ℕ × ℕ)). HasNoCycle ps) (sym c.as_slice-2.ensures.value)
    (acyclic c.args.component.now (IsCluster-connected _ c.args.component.now c.names-names.ensures.whole) c.in_ok-txs.txs.items
    c.in_ok-pairs.pairs.items c.in_ok-txs.ensures c.in_ok-pairs.ensures)

pub returns : goal.returns
returns g c = (
  c.txs-txs.ensures.whole,
  unordered_is c.args.component.now (IsCluster-connected _ c.args.component.now c.names-names.ensures.whole) c.in_ok-txs.txs.items
      c.in_ok-pairs.pairs.items c.in_ok-txs.ensures c.in_ok-pairs.ensures c.in_ok-links.links c.txs-txs.ensures.whole
      (c.in_ok-links.ensures.txs ∙ c.as_slice.ensures.value)
      (subst (λ (ps : List (ℕ × ℕ)). AreSame ps c.in_ok-links.links.pairs) c.as_slice-2.ensures.value c.in_ok-links.ensures.pairs),
)
