use Rattle.trim.proofs.TrimLaw.{goes_by_components}
use Rattle.trim.proofs.laws.trim_goes_by_components.Goals as goal

pub returns : goal.returns
returns c = goes_by_components
