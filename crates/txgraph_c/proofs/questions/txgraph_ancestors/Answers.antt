use Rattle.std.proofs.Common.{◌≡◌, subst}
use Rattle.graphs.specs.declared.names.Level.{Level}
use Rattle.graph_model.specs.Commands.{Ancestors}
use Rattle.txgraph_c.specs.Slots.{OfSlot}
use Rattle.desk.specs.Calls.{Tells}
use Rattle.desk.specs.Finds.{ShowsIds}
use Rattle.txgraph_c.proofs.questions.txgraph_ancestors.Goals as goal

pub returns : goal.returns
returns c =
    subst (λ (l : Level). OfSlot c.args.slot.now.handle.value c.searched.new.slot.handle.value c.searched.result
    ((c.searched.new.kept ≡ c.args.kept.now) × (c.searched.new.ids ≡ c.args.ids.now) × (c.searched.new.count ≡ c.args.count.now))
    (λ o n. Tells o n (Ancestors c.args.id l) c.searched.result c.searched.new.kept (ShowsIds c.args.ids.now c.searched.new.ids c.args.count.now c.searched.new.count)))
    c.named_level.ensures c.searched.ensures
