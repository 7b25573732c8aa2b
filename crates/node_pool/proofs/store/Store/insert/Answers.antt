use Rattle.std.proofs.Common.{Some, sym, ap, ◌∙◌, arith, refl, length-set}
use Rattle.std.proofs.lemmas.List.{map-set, length-map, length_push}
use Rattle.node_pool.specs.declared.store.Entry.TheVariants.{Vacant, Held}
use Rattle.node_pool.specs.Entry.{node_of}
use Rattle.node_pool.proofs.EntryLemmas.{full_at_end, next_within, next_is_vacant, count-set, IsSound-push, IsSound-fill}
use Rattle.node_pool.proofs.SlotsLemmas.{Updates-set}
use Rattle.node_pool.proofs.store.Store.insert.Goals as goal

pub overflow_add-self : goal.overflow_add-self
overflow_add-self g c =
    let sound = c.self.invariant.0 in
    let room = rw (← c.self.view_is) at c.requires in
    omega (arith, sound.counted, c.self.invariant.4)

pub push-requires : goal.push-requires
push-requires g c =
    let sound = c.self.invariant.0 in
    let end = c.self.invariant.2 in
    let full = full_at_end _ _ _ sound (omega arith) in
    let room = rw (← c.self.view_is) at c.requires in
    rw c.self.invariant.1 (omega (arith, sound.counted))

pub invariant_of-self : goal.invariant_of-self
invariant_of-self g c =
    let sound = c.self.invariant.0 in
    let end = c.self.invariant.2 in
    let full = full_at_end _ _ _ sound (omega arith) in
    let room = rw (← c.self.view_is) at c.requires in
    let longer = length_push c.self.inside.entries.items (Held c.args.node) in
    rw c.push.ensures (IsSound-push _ _ _ c.args.node sound (omega arith), c.self.invariant.1, omega arith, omega (arith, sound.counted), c.self.invariant.4)

pub returns-then-slot-self-clause-in_range : goal.returns-then-slot-self-clause-in_range
returns-then-slot-self-clause-in_range g c =
    let sound = c.self.invariant.0 in
    let end = c.self.invariant.2 in
    let full = full_at_end _ _ _ sound (omega arith) in
    let room = rw (← c.self.view_is) at c.requires in
    rw c.push.ensures (omega (arith, sound.counted))

pub at_mut-requires : goal.at_mut-requires
at_mut-requires g c = let end = c.self.invariant.2 in omega (arith, next_within _ _ _ c.self.invariant.0 (λ e. omega arith))

pub invariant_of-self-in-Vacant : goal.invariant_of-self-in-Vacant
invariant_of-self-in-Vacant g c =
    let read = c.at_mut.ensures.value ∙ ap Some (sym c.replace.ensures.value ∙ c.in-Vacant.is) in
    let same = length-set c.self.inside.entries.items c.self.inside.next (Held c.args.node) in
    rw c.replace.ensures.after
    (IsSound-fill _ _ _ _ c.args.node c.self.invariant.0 read, c.self.invariant.1, omega (arith, c.self.invariant.2), c.self.invariant.3, c.self.invariant.4)

pub returns-clause-was_vacant : goal.returns-clause-was_vacant
returns-clause-was_vacant g c = rw (← c.self.view_is) (next_is_vacant _ _ _ c.self.invariant.0)

pub returns-clause-updates : goal.returns-clause-updates
returns-clause-updates g c =
    let end = c.self.invariant.2 in
    let within = next_within _ _ _ c.self.invariant.0 (λ e. omega arith) in
    rw (← c.self.view_is)
    (Updates-set _ _ _ _ (omega (arith, length-map c.self.inside.entries.items node_of)) (rw (c.replace.ensures.after, map-set) refl) refl)

pub returns-clause-len : goal.returns-clause-len
returns-clause-len g c =
    let read = c.at_mut.ensures.value ∙ ap Some (sym c.replace.ensures.value ∙ c.in-Vacant.is) in
    let counted = count-set c.self.inside.entries.items c.self.inside.next (Vacant c.in-Vacant.next) (Held c.args.node) read in
    rw (← c.self.view_is, c.replace.ensures.after) (omega arith)

pub returns-clause-in_range : goal.returns-clause-in_range
returns-clause-in_range g c =
    let end = c.self.invariant.2 in
    omega (arith, c.self.invariant.3, next_within _ _ _ c.self.invariant.0 (λ e. omega arith))
