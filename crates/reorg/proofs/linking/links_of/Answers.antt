use Rattle.std.proofs.Common.{◌≡◌, ◌↔◌, ℕ, ℤ, true, List, map, Contains, sym, ap, ◌∙◌, subst}
use Rattle.lists.specs.Distinct.{AreDistinct}
use Rattle.graphs.specs.Certificates.{Txs}
use Rattle.graphs.specs.Closing.{IsClosureOf}
use Rattle.graphs.specs.Closures.{is_member}
use Rattle.graphs.specs.Graphs.{HasNoCycle}
use Rattle.links.specs.Kept.{names_of}
use Rattle.links.specs.Links.{Links, AreSame}
use Rattle.reorg.specs.Blocks.{LinksTell, tx_of}
use Rattle.reorg.proofs.Pairing.{if_ok_both}
use Rattle.reorg.proofs.Whole.{each_once, in_range, among, tells}
use Rattle.reorg.proofs.linking.links_of.Goals as goal

pub new-requires-clause-once : goal.new-requires-clause-once
new-requires-clause-once g c =
    let kept = c.args.graph.now in let names = c.in_ok-names.names.items in let pairs = c.as_slice-3.result.now in
    let closed = subst (λ (ps : List (ℕ × ℕ)). IsClosureOf kept.levels.main.graph (record { names = names; pairs = ps })) (sym c.as_slice-3.ensures.value) (c.in_ok-pairs.ensures names c.in_ok-names.ensures.names) in
    let listed : c.as_slice-2.result.now ≡ map (tx_of kept.levels.main.graph) names =
    c.as_slice-2.ensures.value ∙ c.in_ok-txs.ensures ∙ ap (map (tx_of kept.levels.main.graph)) c.as_slice.ensures.value in
    each_once kept c.additions-stands.ensures.stands names c.in_ok-names.ensures.names pairs closed c.as_slice-2.result.now listed c.in_ok-names.ensures.once

pub new-requires-clause-in_range : goal.new-requires-clause-in_range
new-requires-clause-in_range g c =
    let kept = c.args.graph.now in let names = c.in_ok-names.names.items in let pairs = c.as_slice-3.result.now in
    let closed = subst (λ (ps : List (ℕ × ℕ)). IsClosureOf kept.levels.main.graph (record { names = names; pairs = ps })) (sym c.as_slice-3.ensures.value) (c.in_ok-pairs.ensures names c.in_ok-names.ensures.names) in
    let listed : c.as_slice-2.result.now ≡ map (tx_of kept.levels.main.graph) names =
    c.as_slice-2.ensures.value ∙ c.in_ok-txs.ensures ∙ ap (map (tx_of kept.levels.main.graph)) c.as_slice.ensures.value in
    in_range kept c.additions-stands.ensures.stands names c.in_ok-names.ensures.names pairs closed c.as_slice-2.result.now listed

pub new-requires-clause-among : goal.new-requires-clause-among
new-requires-clause-among g c =
    let kept = c.args.graph.now in let names = c.in_ok-names.names.items in let pairs = c.as_slice-3.result.now in
    let closed = subst (λ (ps : List (ℕ × ℕ)). IsClosureOf kept.levels.main.graph (record { names = names; pairs = ps })) (sym c.as_slice-3.ensures.value) (c.in_ok-pairs.ensures names c.in_ok-names.ensures.names) in
    let listed : c.as_slice-2.result.now ≡ map (tx_of kept.levels.main.graph) names =
    c.as_slice-2.ensures.value ∙ c.in_ok-txs.ensures ∙ ap (map (tx_of kept.levels.main.graph)) c.as_slice.ensures.value in
    among kept c.additions-stands.ensures.stands names c.in_ok-names.ensures.names pairs closed c.as_slice-2.result.now listed

pub new-requires-clause-no_cycle : goal.new-requires-clause-no_cycle
new-requires-clause-no_cycle g c =
    subst HasNoCycle (sym c.as_slice-3.ensures.value) (c.in_ok-pairs.ensures c.in_ok-names.names.items c.in_ok-names.ensures.names).acyclic

pub returns : goal.returns
returns g c =
    let kept = c.args.graph.now in let names = c.in_ok-names.names.items in let pairs = c.as_slice-3.result.now in
    let closed = subst (λ (ps : List (ℕ × ℕ)). IsClosureOf kept.levels.main.graph (record { names = names; pairs = ps })) (sym c.as_slice-3.ensures.value) (c.in_ok-pairs.ensures names c.in_ok-names.ensures.names) in
    let listed : c.as_slice-2.result.now ≡ map (tx_of kept.levels.main.graph) names =
    c.as_slice-2.ensures.value ∙ c.in_ok-txs.ensures ∙ ap (map (tx_of kept.levels.main.graph)) c.as_slice.ensures.value in
    if_ok_both (λ (links : Links). links.txs ≡ c.as_slice-2.result.now) (λ links. AreSame pairs links.pairs) (LinksTell kept.levels.main.graph) c.new.result
    (λ links txs same. tells kept c.additions-stands.ensures.stands names c.in_ok-names.ensures.names pairs closed c.as_slice-2.result.now listed links txs same)
    c.new.ensures.txs c.new.ensures.pairs
