use Rattle.std.proofs.Common.{None, refl, ap, ◌∙◌, arith, length-set}
use Rattle.node_pool.specs.declared.store.Entry.TheVariants.{Held}
use Rattle.std.proofs.lemmas.List.{map-set, get_or-map}
use Rattle.std.proofs.lemmas.Option.{slice_get_within, get_or_from_slice_get}
use Rattle.node_pool.specs.Entry.{node_of}
use Rattle.node_pool.proofs.EntryLemmas.{held_at, IsSound-rewrite}
use Rattle.node_pool.proofs.store.Store.node_mut.Goals as goal

pub invariant_of-self-lent : goal.invariant_of-self-lent
invariant_of-self-lent g c w =
    let found = held_at c.self.inside.entries.items c.args.slot (rw (← c.self.view_is) at c.requires) in
    let same = length-set c.self.inside.entries.items c.args.slot (Held w) in (
      IsSound-rewrite _ _ _ c.args.slot found.0 w c.self.invariant.0 found.1,
      c.self.invariant.1,
      omega (arith, c.self.invariant.2),
      c.self.invariant.3,
      c.self.invariant.4,
    )

pub returns : goal.returns
returns g c =
    let es = c.self.inside.entries.items in
    let found = c.at_mut.ensures.value in
    let within = slice_get_within es c.args.slot _ found in
    let value =
    get_or-map node_of es c.args.slot c.at_mut.result.now None within ∙ ap node_of (get_or_from_slice_get es c.args.slot _ c.at_mut.result.now found) in (
      (refl, λ w. rw (← c.self.view_is, map-set) refl),
      record { writes_back = tt; value = rw (← c.self.view_is) (value ∙ c.node_mut.ensures.value) },
    )
