use Rattle.std.proofs.Common.{arith, sym, ap, refl, None, Some, ◌∙◌, length-set}
use Rattle.std.proofs.lemmas.List.{map-set}
use Rattle.node_pool.specs.declared.store.Entry.TheVariants.{Vacant, Held}
use Rattle.node_pool.proofs.EntryLemmas.{held_at, count-set, IsSound-vacate, read_node}
use Rattle.node_pool.proofs.SlotsLemmas.{IsHeld-within, Updates-set}
use Rattle.node_pool.proofs.store.Store.remove.Goals as goal

pub invariant_of-self : goal.invariant_of-self
invariant_of-self g c =
    let found = held_at c.self.inside.entries.items c.args.slot (rw (← c.self.view_is) at c.requires) in
    let same = length-set c.self.inside.entries.items c.args.slot (Vacant c.self.inside.next) in
    rw c.replace.ensures.after (
      IsSound-vacate _ _ _ c.args.slot found.0 c.self.invariant.0 found.1,
      c.self.invariant.1,
      omega (arith, c.self.invariant.2),
      c.self.invariant.3,
      c.self.invariant.4,
    )

pub unreachable-requires : goal.unreachable-requires
unreachable-requires g c =
    let found = held_at c.self.inside.entries.items c.args.slot (rw (← c.self.view_is) at c.requires) in
    let read = c.at_mut.ensures.value ∙ ap Some (sym c.replace.ensures.value ∙ c.in-Vacant.is) in
    let there = found.1 in
    cc

pub returns-clause-value : goal.returns-clause-value
returns-clause-value g c =
    let read = c.at_mut.ensures.value ∙ ap Some (sym c.replace.ensures.value ∙ c.in-Held.is) in
    rw (← c.self.view_is) (read_node c.self.inside.entries.items c.args.slot _ read)

pub returns-clause-updates : goal.returns-clause-updates
returns-clause-updates g c =
    Updates-set _ _ c.args.slot None (IsHeld-within c.args.self.now c.args.slot c.requires)
    (rw (← c.self.view_is, c.replace.ensures.after, map-set) refl) (rw (← c.self.view_is) refl)

pub returns-clause-len : goal.returns-clause-len
returns-clause-len g c =
    let found = held_at c.self.inside.entries.items c.args.slot (rw (← c.self.view_is) at c.requires) in
    let counted = count-set c.self.inside.entries.items c.args.slot (Held found.0) (Vacant c.self.inside.next) found.1 in
    rw (← c.self.view_is, c.replace.ensures.after) (omega arith)
