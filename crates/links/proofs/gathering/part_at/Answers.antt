use Rattle.std.proofs.Common.{◌<◌, ℕ, ℤ, List, length, map, get_or, nat_eq, sym, ap, ◌∙◌, subst, arith}
use Rattle.std.specs.Prelude.{Contains}
use Rattle.std.specs.HashMap as hash
use Rattle.std.proofs.lemmas.List.{length-map}
use Rattle.std.proofs.lemmas.Result.{IfOk-weaker}
use Rattle.lists.specs.Distinct.{AreDistinct}
use Rattle.graphs.specs.Graphs.{HasNoCycle}
use Rattle.links.specs.Links.{AreAmong, AreInRange, AreSame}
use Rattle.links.specs.Kept.{names_of}
use Rattle.links.specs.Ways.{AreWays}
use Rattle.links.specs.Gathering.{AreClosed}
use Rattle.links.proofs.Composing.{no_cycle_within}
use Rattle.links.proofs.Walking.{names_once}
use Rattle.links.proofs.Chosen.{names_at, range_at, into_at, among_at, into_same}
use Rattle.links.proofs.gathering.part_at.Goals as goal

pub pairs_at-requires-clause-chains : goal.pairs_at-requires-clause-chains
pairs_at-requires-clause-chains c =
    subst (λ (n : ℕ). AreWays n c.args.maps.now.up) (sym c.requires.maps.up.sized) c.requires.maps.up

pub pairs_at-requires-clause-within : goal.pairs_at-requires-clause-within
pairs_at-requires-clause-within c place here =
    let low = c.requires.closed.within place here in
    let sized = c.requires.maps.up.sized in
    omega arith

pub made-requires-clause-once : goal.made-requires-clause-once
made-requires-clause-once c =
    let txs = c.args.txs.now in
    let places = c.args.places.now in
    subst AreDistinct (sym (ap names_of c.in_ok-some.ensures ∙ names_at txs places c.requires.closed.within))
    (names_once (names_of txs) (hash.get nat_eq c.args.maps.now.places) places c.requires.maps.places c.requires.closed.once
    (λ p here. let low = c.requires.closed.within p here in omega (arith, length-map txs (λ (tx : ℕ × ℤ × ℕ). tx.0))))

pub made-requires-clause-in_range : goal.made-requires-clause-in_range
made-requires-clause-in_range c =
    subst AreInRange (sym c.in_ok-some.ensures) (range_at c.args.txs.now c.args.places.now c.requires.closed.within c.requires.whole.in_range)

pub made-requires-clause-among : goal.made-requires-clause-among
made-requires-clause-among c =
    let txs = c.args.txs.now in
    let places = c.args.places.now in
    let maps = c.args.maps.now in
    let find = hash.get nat_eq maps.places in
    let inner = c.in_ok-inner.inner.items in
    let within : (p : ℕ) → Contains places p → p < length (names_of txs) =
    λ p here. let low = c.requires.closed.within p here in omega (arith, length-map txs (λ (tx : ℕ × ℤ × ℕ). tx.0)) in
    let into = into_at (names_of txs) find c.args.pairs.now maps.up.steps.items inner places c.requires.maps.places c.requires.maps.steps within c.in_ok-inner.ensures in
    subst (λ (ps : List (ℕ × ℕ)). AreAmong (names_of c.in_ok-some.some.items) ps) (sym c.as_slice.ensures.value)
    (subst (λ (ns : List ℕ). AreAmong ns inner) (sym (ap names_of c.in_ok-some.ensures ∙ names_at txs places c.requires.closed.within))
    (among_at (names_of txs) find c.args.pairs.now maps.up.steps.items inner places c.requires.maps.places c.requires.maps.steps
    (subst (λ (n : ℕ). AreClosed n maps.up.steps.items places) (sym (length-map txs (λ (tx : ℕ × ℤ × ℕ). tx.0))) c.requires.closed) into))

pub made-requires-clause-no_cycle : goal.made-requires-clause-no_cycle
made-requires-clause-no_cycle c =
    let txs = c.args.txs.now in
    let places = c.args.places.now in
    let maps = c.args.maps.now in
    let inner = c.in_ok-inner.inner.items in
    let within : (p : ℕ) → Contains places p → p < length (names_of txs) =
    λ p here. let low = c.requires.closed.within p here in omega (arith, length-map txs (λ (tx : ℕ × ℤ × ℕ). tx.0)) in
    let into = into_at (names_of txs) (hash.get nat_eq maps.places) c.args.pairs.now maps.up.steps.items inner places c.requires.maps.places c.requires.maps.steps within
    c.in_ok-inner.ensures in
    subst HasNoCycle (sym c.as_slice.ensures.value)
    (no_cycle_within c.args.pairs.now inner (λ a b here. ((into a b).0 here).0) c.requires.whole.graph_is.acyclic)

pub returns-clause-pairs : goal.returns-clause-pairs
returns-clause-pairs c =
    let txs = c.args.txs.now in
    let places = c.args.places.now in
    let maps = c.args.maps.now in
    let inner = c.in_ok-inner.inner.items in
    let within : (p : ℕ) → Contains places p → p < length (names_of txs) =
    λ p here. let low = c.requires.closed.within p here in omega (arith, length-map txs (λ (tx : ℕ × ℤ × ℕ). tx.0)) in
    let into = into_at (names_of txs) (hash.get nat_eq maps.places) c.args.pairs.now maps.up.steps.items inner places c.requires.maps.places c.requires.maps.steps within
    c.in_ok-inner.ensures in
    IfOk-weaker c.made.result _ _
    (λ links same. into_same (map (λ q. get_or (names_of txs) q 0) places) c.args.pairs.now inner links.pairs into
    (subst (λ (ps : List (ℕ × ℕ)). AreSame ps links.pairs) c.as_slice.ensures.value same))
    c.made.ensures.pairs
