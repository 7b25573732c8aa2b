use Rattle.std.proofs.Common.{◌≡◌, ℕ, ◌<◌, nat_eq, slice_index, Some}
use Rattle.std.specs.HashMap as hash
use Rattle.graphs.specs.Certificates.{rate_in, weight_in}
use Rattle.certificate.specs.Accounts.{account_at}
use Rattle.certificate.proofs.flows.is_balanced.Given as goal

abbrev pub invariant-loop-id : goal.invariant-loop-id
invariant-loop-id l =
    (k place : ℕ) → k < l.id-index → hash.get nat_eq l.names (slice_index l.ids k) ≡ Some place
    → weight_in l.rate (rate_in l.txs (slice_index l.ids k)) ≡ (account_at l.accounts place).net
