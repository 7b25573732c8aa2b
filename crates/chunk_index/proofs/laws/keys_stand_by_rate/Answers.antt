use Rattle.chunk_index.proofs.Meaning.{key_order}
use Rattle.chunk_index.proofs.laws.keys_stand_by_rate.Goals as goal

pub returns : goal.returns
returns c = key_order
