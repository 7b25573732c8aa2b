use Rattle.std.proofs.Common.{ℕ, ◌<◌, ◌≤◌}
use Rattle.graphs.specs.Certificates.{rate_in}
use Rattle.certificate.specs.Accounts.{IsEdge, account_at}
use Rattle.certificate.proofs.FlowLemmas.{IsCertified}
use Rattle.certificate.proofs.flows.check_parts.Given as goal

abbrev pub invariant-loop-at : goal.invariant-loop-at
invariant-loop-at l = ((place : ℕ) → (account_at l.accounts place).part ≤ l.at) × ((k : ℕ) → k < l.at → IsCertified (rate_in l.txs) (IsEdge l.tables) l.parts k)
