use Rattle.std.proofs.Common.{◌≡◌, subst}
use Rattle.graphs.specs.declared.names.Kin.TheVariants.{Descendants}
use Rattle.graphs.specs.declared.names.Level.{Level}
use Rattle.txgraph_c.specs.Slots.{OfSlot}
use Rattle.desk.specs.Unions.{Unites}
use Rattle.txgraph_c.proofs.unions.txgraph_descendants_union.Goals as goal

pub returns : goal.returns
returns c =
    subst (λ (l : Level). OfSlot c.args.slot.now.handle.value c.united.new.slot.handle.value c.united.result ((c.united.new.ids ≡ c.args.ids.now) × (c.united.new.count ≡ c.args.count.now))
    (λ o n. Unites o n Descendants l c.args.names.now c.united.result c.args.ids.now c.united.new.ids c.args.count.now c.united.new.count))
    c.named_level.ensures c.united.ensures
