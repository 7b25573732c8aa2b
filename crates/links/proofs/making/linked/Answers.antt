use Rattle.std.proofs.Common.{ℕ, List, [], ◌∷◌, ◌++◌, append-nil, sym, ap, ◌∙◌, subst}
use Rattle.std.proofs.lemmas.Result.{IfOk-weaker}
use Rattle.lists.specs.Distinct.{AreDistinct}
use Rattle.graphs.specs.Graphs.{HasNoCycle}
use Rattle.graphs.specs.Certificates.{Txs}
use Rattle.links.specs.Links.{AreAmong, AreInRange, AreSame}
use Rattle.links.specs.Kept.{names_of}
use Rattle.links.proofs.Joining.{among_more, no_cycle_more, same_more}
use Rattle.links.proofs.making.linked.Goals as goal

pub made-requires-clause-once : goal.made-requires-clause-once
made-requires-clause-once c = subst (λ (ts : Txs). AreDistinct (names_of ts)) (sym c.in_ok-all.ensures.items) c.requires.whole.graph_is.names

pub made-requires-clause-in_range : goal.made-requires-clause-in_range
made-requires-clause-in_range c = subst AreInRange (sym c.in_ok-all.ensures.items) c.requires.whole.in_range

pub made-requires-clause-among : goal.made-requires-clause-among
made-requires-clause-among c =
    subst (λ (ps : List (ℕ × ℕ)). AreAmong (names_of c.in_ok-all.all.items) ps) (sym (c.as_slice.ensures.value ∙ c.in_ok-more.ensures ∙ ap (λ (l : List (ℕ × ℕ)). l ++ (c.args.parent, c.args.child) ∷ []) (append-nil c.args.pairs.now)))
    (subst (λ (ts : Txs). AreAmong (names_of ts) (c.args.pairs.now ++ (c.args.parent, c.args.child) ∷ [])) (sym c.in_ok-all.ensures.items)
    (among_more (names_of c.args.txs.now) c.args.pairs.now c.args.parent c.args.child c.requires.whole.graph_is.ends c.requires.parent c.requires.child))

pub made-requires-clause-no_cycle : goal.made-requires-clause-no_cycle
made-requires-clause-no_cycle c =
    subst HasNoCycle (sym (c.as_slice.ensures.value ∙ c.in_ok-more.ensures ∙ ap (λ (l : List (ℕ × ℕ)). l ++ (c.args.parent, c.args.child) ∷ []) (append-nil c.args.pairs.now))) (no_cycle_more c.args.pairs.now c.args.parent c.args.child c.requires.whole.graph_is.acyclic c.requires.no_cycle)

pub returns-clause-pairs : goal.returns-clause-pairs
returns-clause-pairs c =
    IfOk-weaker c.made.result _ _
    (λ links same. same_more c.args.pairs.now links.pairs (c.args.parent, c.args.child) (subst (λ (ps : List (ℕ × ℕ)). AreSame ps links.pairs) (c.as_slice.ensures.value ∙ c.in_ok-more.ensures ∙ ap (λ (l : List (ℕ × ℕ)). l ++ (c.args.parent, c.args.child) ∷ []) (append-nil c.args.pairs.now)) same))
    c.made.ensures.pairs
