use Rattle.cluster_store.proofs.Before.{parts_stand_in_order}
use Rattle.cluster_store.proofs.laws.parts_stand_in_order.Goals as goal

pub returns : goal.returns
returns c = parts_stand_in_order
