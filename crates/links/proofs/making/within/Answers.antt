use Rattle.std.proofs.Common.{ℕ, List, nat_eq, sym, subst}
use Rattle.std.specs.HashSet as bag
use Rattle.std.proofs.lemmas.Result.{IfOk-weaker}
use Rattle.lists.specs.Distinct.{AreDistinct}
use Rattle.graphs.specs.Graphs.{HasNoCycle}
use Rattle.graphs.specs.Certificates.{Txs}
use Rattle.links.specs.Links.{AreAmong, AreInRange, AreSame}
use Rattle.links.specs.Kept.{names_of}
use Rattle.links.proofs.Composing.{no_cycle_within}
use Rattle.links.proofs.Bridging.{same_serve}
use Rattle.links.proofs.making.within.Goals as goal

pub made-requires-clause-once : goal.made-requires-clause-once
made-requires-clause-once c = subst (λ (ts : Txs). AreDistinct (names_of ts)) (sym c.in_ok-all.ensures.items) c.requires.graph_is.names

pub made-requires-clause-in_range : goal.made-requires-clause-in_range
made-requires-clause-in_range c = subst AreInRange (sym c.in_ok-all.ensures.items) c.requires.in_range

pub made-requires-clause-among : goal.made-requires-clause-among
made-requires-clause-among c =
    subst (λ (ps : List (ℕ × ℕ)). AreAmong (names_of c.in_ok-all.all.items) ps) (sym c.as_slice.ensures.value)
    (subst (λ (ts : Txs). AreAmong (names_of ts) c.in_ok-steps.steps.items) (sym c.in_ok-all.ensures.items)
    (λ a b here. c.requires.graph_is.ends a b (c.in_ok-steps.ensures.within a b here)))

pub made-requires-clause-no_cycle : goal.made-requires-clause-no_cycle
made-requires-clause-no_cycle c =
    subst HasNoCycle (sym c.as_slice.ensures.value)
    (no_cycle_within c.args.pairs.now c.in_ok-steps.steps.items c.in_ok-steps.ensures.within c.requires.graph_is.acyclic)

pub returns-clause-pairs : goal.returns-clause-pairs
returns-clause-pairs c =
    IfOk-weaker c.made.result _ _
    (λ links same. same_serve (bag.contains nat_eq c.args.gone.now) c.args.pairs.now c.in_ok-steps.steps.items links.pairs c.in_ok-steps.ensures.serves
    (subst (λ (ps : List (ℕ × ℕ)). AreSame ps links.pairs) c.as_slice.ensures.value same))
    c.made.ensures.pairs
