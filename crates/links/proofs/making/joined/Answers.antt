use Rattle.std.proofs.Common.{ℕ, List, [], ◌∷◌, ◌++◌, sym, ap, ◌∙◌, subst}
use Rattle.std.proofs.lemmas.Result.{IfOk-weaker}
use Rattle.lists.specs.Distinct.{AreDistinct}
use Rattle.graphs.specs.Graphs.{HasNoCycle}
use Rattle.graphs.specs.Certificates.{Txs}
use Rattle.links.specs.Links.{AreAmong, AreInRange, AreSame}
use Rattle.links.specs.Kept.{names_of}
use Rattle.links.proofs.Joining.{among_both, among_more, ends_both, names_both, no_cycle_both, no_cycle_more, none_across, once_both, range_both, same_more}
use Rattle.links.proofs.making.joined.Goals as goal

pub made-requires-clause-once : goal.made-requires-clause-once
made-requires-clause-once c =
    subst (λ (ts : Txs). AreDistinct (names_of ts)) (sym c.in_ok-all.ensures)
    (once_both c.args.txs.now c.args.others.now c.requires.whole.graph_is.names c.requires.other_whole.graph_is.names c.requires.apart)

pub made-requires-clause-in_range : goal.made-requires-clause-in_range
made-requires-clause-in_range c =
    subst AreInRange (sym c.in_ok-all.ensures) (range_both c.args.txs.now c.args.others.now c.requires.whole.in_range c.requires.other_whole.in_range)

pub made-requires-clause-among : goal.made-requires-clause-among
made-requires-clause-among c =
    let one = names_of c.args.txs.now in
    let two = names_of c.args.others.now in
    let first = c.args.pairs.now in
    let second = c.args.other_pairs.now in
    let p = c.requires.whole.graph_is.ends in
    let q = c.requires.other_whole.graph_is.ends in
    let ends = ends_both one two first second p q c.requires.apart c.args.parent c.args.child c.requires.across in
    subst (λ (ps : List (ℕ × ℕ)). AreAmong (names_of c.in_ok-all.all.items) ps) (sym (c.as_slice.ensures.value ∙ c.in_ok-more.ensures))
    (subst (λ (ns : List ℕ). AreAmong ns ((first ++ second) ++ (c.args.parent, c.args.child) ∷ []))
    (sym (ap names_of c.in_ok-all.ensures ∙ names_both c.args.txs.now c.args.others.now))
    (among_more (one ++ two) (first ++ second) c.args.parent c.args.child (among_both one two first second p q c.requires.apart) ends.0 ends.1))

pub made-requires-clause-no_cycle : goal.made-requires-clause-no_cycle
made-requires-clause-no_cycle c =
    let one = names_of c.args.txs.now in
    let two = names_of c.args.others.now in
    let first = c.args.pairs.now in
    let second = c.args.other_pairs.now in
    let p = c.requires.whole.graph_is.ends in
    let q = c.requires.other_whole.graph_is.ends in
    subst HasNoCycle (sym (c.as_slice.ensures.value ∙ c.in_ok-more.ensures))
    (no_cycle_more (first ++ second) c.args.parent c.args.child
    (no_cycle_both one two first second p q c.requires.apart c.requires.whole.graph_is.acyclic c.requires.other_whole.graph_is.acyclic)
    (none_across one two first second p q c.requires.apart c.args.parent c.args.child c.requires.across))

pub returns-clause-pairs : goal.returns-clause-pairs
returns-clause-pairs c =
    IfOk-weaker c.made.result _ _
    (λ links same. same_more (c.args.pairs.now ++ c.args.other_pairs.now) links.pairs (c.args.parent, c.args.child)
    (subst (λ (ps : List (ℕ × ℕ)). AreSame ps links.pairs) (c.as_slice.ensures.value ∙ c.in_ok-more.ensures) same))
    c.made.ensures.pairs
