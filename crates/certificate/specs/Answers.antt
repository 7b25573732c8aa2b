-- The parts that `check` takes. Amounts are in satoshis times virtual bytes.
use Rattle.std.specs.Prelude.{◌≢◌, ◌^◌, ◌<◌, ◌≤◌, List, [], Contains, sum_by}
use Rattle.graphs.specs.declared.names.Flow.{Flow}
use Rattle.certificate.specs.declared.owned.Part.{Part}
use Rattle.certificate.specs.Accounts.{amount_of}

-- Each part has a name, each amount is at least 1, and the amounts of all parts sum to less than 2^127.
pub record AreClaims (parts : List Part) : Type 0 where
  pub filled : (part : Part) → Contains parts part → part.ids ≢ []
  pub some : (part : Part) (flow : Flow) → Contains parts part → Contains part.flows flow → 1 ≤ flow.amount
  pub total : sum_by (λ part. amount_of part.flows) parts < 2 ^ 127
