use Rattle.graph_model.proofs.SoundLemmas.{runs_are_sound}
use Rattle.graph_model.proofs.laws.runs_are_sound.Goals as goal

pub returns : goal.returns
returns c = runs_are_sound
