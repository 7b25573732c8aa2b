use Rattle.chunk_index.proofs.Changes.{one_key}
use Rattle.chunk_index.proofs.laws.changes_touch_one_key.Goals as goal

pub returns : goal.returns
returns c = one_key
