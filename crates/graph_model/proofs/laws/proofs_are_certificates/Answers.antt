use Rattle.graph_model.proofs.ProofLemmas.{proofs_are_certificates}
use Rattle.graph_model.proofs.laws.proofs_are_certificates.Goals as goal

pub returns : goal.returns
returns c = proofs_are_certificates
