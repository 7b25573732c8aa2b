-- The first entry that is left stands for the first part that is.
use Rattle.std.proofs.Common.{List, ◌∷◌, map, sym, ap, ◌∙◌, subst, Contains}
use Rattle.lists.proofs.Entries.{Contains-later}
use Rattle.chunk_index.specs.declared.entry.Entry.{Entry}
use Rattle.cluster_store.specs.Stores.{Shown}
use Rattle.cluster_store.specs.Walks.{shown_of}
use Rattle.cluster_store.proofs.walk.PartWalkIterator.next.Goals as goal

pub invariant_of-self-2 : goal.invariant_of-self-2
invariant_of-self-2 g c e here =
    c.self.invariant e (subst (λ (xs : List Entry). Contains xs e)
    (sym c.in_ok-entry.ensures.steps) (Contains-later c.in_ok-entry.entry e c.next.new.self here))

pub returns-clause-steps : goal.returns-clause-steps
returns-clause-steps g c =
    sym c.self.view_is ∙ ap (map (shown_of g.T.Parts.parts c.self.inside.slots.now.slots)) c.in_ok-entry.ensures.steps
    ∙ ap (λ (s : Shown). s ∷ map (shown_of g.T.Parts.parts c.self.inside.slots.now.slots) c.next.new.self)
    (sym c.shown.ensures)
