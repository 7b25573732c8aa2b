-- The last entry that is left stands for the last part that is.
use Rattle.std.proofs.Common.{[], ◌∷◌, ◌++◌, map, sym, ap, ◌∙◌}
use Rattle.std.proofs.lemmas.List.{map-append}
use Rattle.cluster_store.specs.Stores.{Shown}
use Rattle.cluster_store.specs.Walks.{shown_of}
use Rattle.cluster_store.proofs.walk.PartWalkDoubleEndedIterator.next_back.Goals as goal

pub returns-clause-steps : goal.returns-clause-steps
returns-clause-steps g c =
    sym c.self.view_is ∙ ap (map (shown_of g.T.Parts.parts c.self.inside.slots.now.slots)) c.in_ok-entry.ensures.steps
    ∙ map-append (shown_of g.T.Parts.parts c.self.inside.slots.now.slots) c.next_back.new.self (c.in_ok-entry.entry ∷ [])
    ∙ ap (λ (s : Shown). map (shown_of g.T.Parts.parts c.self.inside.slots.now.slots) c.next_back.new.self ++ s ∷ [])
    (sym c.shown.ensures)
