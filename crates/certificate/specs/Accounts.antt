-- Accounts of a part: for each place the part that it is of, and what its name gives less what it gets.
use Rattle.std.specs.Prelude.{◌≡◌, ℕ, ◌^◌, ◌<◌, ◌≤◌, pos, ◌-ℤ◌, List, length, map, Contains, Option, Some, slice_index_or, sum_by, IsTrue, ◌&&◌, nat_eq}
use Rattle.std.specs.HashSet as bag
use Rattle.fee_rate.specs.declared.rates.Sum.{Sum}
use Rattle.graphs.specs.declared.names.Flow.{Flow}
use Rattle.graphs.specs.Certificates.{given, gotten, weight_in}
use Rattle.certificate.specs.declared.flows.Account.{Account}
use Rattle.certificate.specs.declared.graph.Tables.{Tables}
use Rattle.certificate.specs.declared.owned.Part.{Part}
use Rattle.certificate.specs.Parts.{flows_at}

abbrev pub account_at : List Account → ℕ → Account
account_at accounts place = slice_index_or accounts place record { part = 0; net = pos 0 }

-- The number is a name, and the name's account is of this part.
abbrev pub IsOpen : (ℕ → Option ℕ) → List Account → ℕ → ℕ → Type 0
IsOpen find accounts part id = (place : ℕ) × (find id ≡ Some place) × (place < length accounts) × ((account_at accounts place).part ≡ part)

-- The accounts of this part are those of the names.
pub record AreOpen (find : ℕ → Option ℕ) (ids : List ℕ) (part : ℕ) (accounts : List Account) : Type 0 where
  pub bound : (place : ℕ) → (account_at accounts place).part ≤ part
  pub here : (id : ℕ) → Contains ids id → IsOpen find accounts part id
  pub only : (place : ℕ) → (account_at accounts place).part ≡ part → (id : ℕ) × Contains ids id × (find id ≡ Some place)

-- Each account of this part has what the name gives along the flows, less what it gets.
abbrev pub AreNet : (ℕ → Option ℕ) → ℕ → List Flow → List Account → Type 0
AreNet find part flows accounts =
    (id place : ℕ) → find id ≡ Some place → (account_at accounts place).part ≡ part
    → (account_at accounts place).net ≡ pos (given flows id) -ℤ pos (gotten flows id)

-- No account has gone to another part.
abbrev pub KeepParts : List Account → List Account → Type 0
KeepParts old new = (place : ℕ) → (account_at new place).part ≡ (account_at old place).part

-- The edges that are in the table.
abbrev pub IsEdge : Tables → ℕ → ℕ → Type 0
IsEdge tables parent child = IsTrue (bag.contains (λ x y. nat_eq x.0 y.0 && nat_eq x.1 y.1) tables.edges (parent, child))

-- Each flow is on an edge, and its ends have accounts of this part.
abbrev pub AreInside : (ℕ → Option ℕ) → (ℕ → ℕ → Type 0) → List Account → ℕ → List Flow → Type 0
AreInside find IsLink accounts part flows =
    (flow : Flow) → Contains flows flow → IsLink flow.parent flow.child × IsOpen find accounts part flow.child × IsOpen find accounts part flow.parent

-- The sum of amounts.
abbrev pub amount_of : List Flow → ℕ
amount_of flows = sum_by (λ flow. flow.amount) flows

-- The ends of flows.
abbrev pub ends_of : List Flow → List (ℕ × ℕ)
ends_of flows = map (λ flow. (flow.child, flow.parent)) flows

-- Each name's account has its weight.
abbrev pub AreBalanced : (ℕ → Option ℕ) → (ℕ → Sum) → Sum → List ℕ → List Account → Type 0
AreBalanced find rate whole ids accounts =
    (id place : ℕ) → Contains ids id → find id ≡ Some place → weight_in whole (rate id) ≡ (account_at accounts place).net

-- Each amount is at least 1, and the amounts of one part sum to less than 2^127.
pub record ArePayable (parts : List Part) : Type 0 where
  pub some : (k : ℕ) (flow : Flow) → k < length parts → Contains (flows_at parts k) flow → 1 ≤ flow.amount
  pub total : (k : ℕ) → k < length parts → amount_of (flows_at parts k) < 2 ^ 127
