-- The first entry that is left stands for the first part that is.
use Rattle.std.proofs.Common.{List, ◌∷◌, map, sym, ap, ◌∙◌, subst, Contains}
use Rattle.lists.proofs.Entries.{Contains-head, Contains-later}
use Rattle.chunk_index.specs.declared.entry.Entry.{Entry}
use Rattle.cluster_store.specs.Held.{Held, held_at_entry}
use Rattle.cluster_store.proofs.Sizes.{component_fits, stored_fits}
use Rattle.cluster_store.proofs.held.HeldWalkIterator.next.Goals as goal

pub invariant_of-self-2 : goal.invariant_of-self-2
invariant_of-self-2 g c = record {
  narrow = c.self.invariant.narrow;
  parts = λ e here.
      c.self.invariant.parts e (subst (λ (xs : List Entry). Contains xs e)
      (sym c.in_ok-entry.ensures.steps) (Contains-later c.in_ok-entry.entry e c.next.new.self here));
}

pub returns-clause-steps : goal.returns-clause-steps
returns-clause-steps g c =
    sym c.self.view_is ∙ ap (map (held_at_entry c.self.inside.slots.now.slots)) c.in_ok-entry.ensures.steps
    ∙ ap (λ (h : Held). h ∷ map (held_at_entry c.self.inside.slots.now.slots) c.next.new.self)
    (sym c.held.ensures)

pub held-requires : goal.held-requires
held-requires g c = (
  stored_fits g.row.W c.self.invariant.narrow,
  (
    component_fits g.row.W c.self.invariant.narrow,
    c.self.invariant.parts c.in_ok-entry.entry (subst (λ (xs : List Entry). Contains xs c.in_ok-entry.entry)
        (sym c.in_ok-entry.ensures.steps) (Contains-head c.in_ok-entry.entry c.next.new.self)),
  ),
)
