use Rattle.std.proofs.Common.{ℕ, List, length, take, slice_index_or, lt-ltb, sym, ap₂, ◌∙◌, subst, arith}
use Rattle.std.specs.Prelude.{Contains}
use Rattle.std.proofs.lemmas.List.{take_all, take_more}
use Rattle.std.proofs.lemmas.List.Elements.{Contains-get_or}
use Rattle.record.specs.Solving.{StandsFor}
use Rattle.record.proofs.Standing.{no_way_back, pair_stands, place_told}
use Rattle.record.proofs.solving.ordered.Goals as goal

pub place_of-requires : goal.place_of-requires
place_of-requires g c =
    let pair = slice_index_or c.args.pairs.now c.loop-at.at (0, 0) in
    subst (λ (xs : List ℕ). Contains xs pair.0) (sym c.requires.names)
    (c.requires.links.graph_is.ends pair.0 pair.1 (Contains-get_or c.args.pairs.now c.loop-at.at (0, 0) c.loop-at-test.true)).0

pub place_of-requires-in-loop-at : goal.place_of-requires-in-loop-at
place_of-requires-in-loop-at g c =
    let pair = slice_index_or c.args.pairs.now c.loop-at.at (0, 0) in
    subst (λ (xs : List ℕ). Contains xs pair.1) (sym c.requires.names)
    (c.requires.links.graph_is.ends pair.0 pair.1 (Contains-get_or c.args.pairs.now c.loop-at.at (0, 0) c.loop-at-test.true)).1

pub add_dep-requires : goal.add_dep-requires
add_dep-requires g c =
    let above = place_told c.args.names.now c.args.txs.now c.place_of.result _ c.requires.names c.place_of.ensures.within c.place_of.ensures.here in
    let below = place_told c.args.names.now c.args.txs.now c.place_of-in-loop-at.result _ c.requires.names c.place_of-in-loop-at.ensures.within
    c.place_of-in-loop-at.ensures.here in
    let pair = Contains-get_or c.args.pairs.now c.loop-at.at (0, 0) c.loop-at-test.true in (
      grind arith,
      (
        c.loop-at.invariant.members c.place_of.result ∙ lt-ltb c.place_of.result (length c.args.txs.now) above.0,
        (
          c.loop-at.invariant.members c.place_of-in-loop-at.result ∙ lt-ltb c.place_of-in-loop-at.result (length c.args.txs.now) below.0,
          no_way_back c.args.txs.now c.args.pairs.now c.loop-at.at c.loop-at.dep c.place_of.result c.place_of-in-loop-at.result
              c.requires.links.graph_is.acyclic c.loop-at.invariant above.0 below.0
              (subst (λ (p : ℕ × ℕ). Contains {X = ℕ × ℕ} c.args.pairs.now p) (ap₂ (λ (x y : ℕ). (x, y)) (sym above.1) (sym below.1)) pair),
        ),
      ),
    )

pub loop-at-preserved : goal.loop-at-preserved
loop-at-preserved g c =
    let above = place_told c.args.names.now c.args.txs.now c.place_of.result _ c.requires.names c.place_of.ensures.within c.place_of.ensures.here in
    let below = place_told c.args.names.now c.args.txs.now c.place_of-in-loop-at.result _ c.requires.names c.place_of-in-loop-at.ensures.within
    c.place_of-in-loop-at.ensures.here in
    subst (λ (ps : List (ℕ × ℕ)). StandsFor c.args.txs.now ps c.add_dep.new.self) (sym (take_more c.args.pairs.now c.loop-at.at (0, 0) c.loop-at-test.true))
    (pair_stands c.args.txs.now (take c.loop-at.at c.args.pairs.now) c.loop-at.dep c.add_dep.new.self c.place_of.result c.place_of-in-loop-at.result
    (slice_index_or c.args.pairs.now c.loop-at.at (0, 0)).0 (slice_index_or c.args.pairs.now c.loop-at.at (0, 0)).1
    c.loop-at.invariant c.add_dep.ensures.pair above.0 below.0 above.1 below.1)

pub returns : goal.returns
returns g c =
    subst (λ (ps : List (ℕ × ℕ)). StandsFor c.args.txs.now ps c.loop-at.dep)
    (take_all c.loop-at.at c.args.pairs.now (omega (arith, c.loop-at-test.false))) c.loop-at.invariant
