use Rattle.std.proofs.Common.{List, subst, sym}
use Rattle.certificate.specs.declared.owned.Part.{Part}
use Rattle.std.specs.declared.result.Result.TheVariants.{Err}
use Rattle.certificate.specs.Answers.{AreClaims}
use Rattle.certificate.specs.Parts.{parts_of}
use Rattle.graphs.specs.Certificates.{Finds, Certified, NoFalling, NoFlow}
use Rattle.verification.proofs.CheckLemmas.{claims_of}
use Rattle.verification.proofs.verifying.judge.Goals as goal

pub check-requires : goal.check-requires
check-requires c = subst AreClaims (sym c.as_slice.ensures) (claims_of c.args.text.now.parts c.requires.types.parts c.requires.amounts)

pub returns-in-Ok : goal.returns-in-Ok
returns-in-Ok c =
    subst (λ (parts : List Part). Finds c.args.text.now.graph.txs c.args.text.now.graph.edges (parts_of parts) Certified) c.as_slice.ensures c.in-Ok.ensures.yes

pub returns-in-Err-Falling : goal.returns-in-Err-Falling
returns-in-Err-Falling c =
    subst (λ (parts : List Part). Finds c.args.text.now.graph.txs c.args.text.now.graph.edges (parts_of parts) NoFalling) c.as_slice.ensures
    (c.in-Err-Falling.ensures.falling (λ i. Err (c.in-Err-Falling.field-0-is i)))

pub returns-in-Err-Flow : goal.returns-in-Err-Flow
returns-in-Err-Flow c =
    subst (λ (parts : List Part). Finds c.args.text.now.graph.txs c.args.text.now.graph.edges (parts_of parts) NoFlow) c.as_slice.ensures
    (c.in-Err-Flow.ensures.flow (λ i. Err (c.in-Err-Flow.field-0-is i)))
