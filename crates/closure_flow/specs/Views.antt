-- The flows and the rests of a network as it is kept, and what is said of flows and rests, said of a network: each
-- word here is the one of a like name in Networks or Queues.
use Rattle.std.specs.Prelude.{ℕ, ◌*◌, List, ℤ}
use Rattle.std.specs.Ordering.{nat_cmp}
use Rattle.std.specs.FinSet as set
use Rattle.bitset.specs.Places.{places}
use Rattle.closure_flow.specs.declared.network.Network.{Network}
use Rattle.closure_flow.specs.declared.queue.Entry.{Entry}
use Rattle.closure_flow.specs.Closures.{weight_at}
use Rattle.closure_flow.specs.Labels.{IsLabelling, IsNarrowest, IsShortest, Spends}
use Rattle.closure_flow.specs.Networks.{Arranges, Fits, Gives, Hands, Improves, IsAllowed, IsFirst, IsSteady}
use Rattle.closure_flow.specs.Networks.{LetsThrough, Pushes, sent}
use Rattle.closure_flow.specs.Queues.{IsBeyond, IsSealed, IsSearch}
use Rattle.closure_flow.specs.Scratches.{shown}

-- what a child sends to a parent
abbrev pub flow_in : {W : ℕ} → Network W → ℕ → ℕ → ℕ
flow_in {W} network = sent (64 * W) network.into.items network.amounts.items

-- what is shown of that: only places that the network is for receive something
abbrev pub shown_in : {W : ℕ} → Network W → ℕ → ℕ → ℕ
shown_in {W} network = shown (64 * W) network.within network.into.items network.amounts.items

-- what is left at a place
abbrev pub rest_in : {W : ℕ} → Network W → ℕ → ℤ
rest_in network = weight_at network.rest.items

abbrev pub IsAllowedIn : {W : ℕ} → List (set.FinSet nat_cmp) → Network W → Type 0
IsAllowedIn {W} parents network = IsAllowed (64 * W) parents network.within (flow_in network)

abbrev pub IsSteadyIn : {W : ℕ} → List (set.FinSet nat_cmp) → Network W → Type 0
IsSteadyIn {W} parents network = IsSteady (64 * W) parents network.within (flow_in network) (rest_in network)

abbrev pub ImprovesTo : {W : ℕ} → List (set.FinSet nat_cmp) → Network W → Network W → Type 0
ImprovesTo {W} parents old new =
    Improves (64 * W) parents old.within (flow_in old) (rest_in old) (flow_in new) (rest_in new)

abbrev pub IsFirstIn : {W : ℕ} → List (set.FinSet nat_cmp) → set.FinSet nat_cmp → Network W → Type 0
IsFirstIn {W} parents to_come network =
    IsFirst (64 * W) parents network.within to_come (flow_in network) (rest_in network)

abbrev pub ArrangesTo : {W : ℕ} → List (set.FinSet nat_cmp) → set.FinSet nat_cmp → Network W → Network W → Type 0
ArrangesTo {W} parents to_come old new =
    Arranges (64 * W) parents old.within to_come (flow_in old) (rest_in old) (flow_in new) (rest_in new)

abbrev pub HandsTo : {W : ℕ} → Network W → Network W → ℕ → ℕ → ℕ → Type 0
HandsTo {W} old new from to amount =
    Hands (64 * W) (flow_in old) (rest_in old) (flow_in new) (rest_in new) from to amount

abbrev pub GivesTo : {W : ℕ} → Network W → Network W → ℕ → ℕ → Type 0
GivesTo {W} old new from to = Gives (64 * W) (flow_in old) (rest_in old) (flow_in new) (rest_in new) from to

abbrev pub PushesTo : {W : ℕ} → List (set.FinSet nat_cmp) → Network W → Network W → ℕ → ℕ → ℕ → Type 0
PushesTo {W} parents old new from to amount =
    Pushes (64 * W) parents old.within (flow_in old) (flow_in new) from to amount

abbrev pub IsSearchIn : {W : ℕ} → List (set.FinSet nat_cmp) → Network W → List Entry → Type 0
IsSearchIn {W} parents network es = IsSearch (64 * W) parents network.within (flow_in network) (rest_in network) es

abbrev pub IsSealedIn : {W : ℕ} → List (set.FinSet nat_cmp) → Network W → set.FinSet nat_cmp → Type 0
IsSealedIn {W} parents network seen = IsSealed (64 * W) parents network.within (flow_in network) (rest_in network) seen

abbrev pub IsBeyondIn : {W : ℕ} → List (set.FinSet nat_cmp) → Network W → set.FinSet nat_cmp → ℕ
    → set.FinSet nat_cmp → Type 0
IsBeyondIn {W} parents network seen place next =
    IsBeyond (64 * W) parents network.within (flow_in network) seen place next

abbrev pub FitsIn : {W : ℕ} → List (set.FinSet nat_cmp) → Network W → List Entry → ℕ → ℕ → Type 0
FitsIn parents network es at amount = Fits parents (flow_in network) (rest_in network) es at amount

abbrev pub LetsThroughIn : {W : ℕ} → List (set.FinSet nat_cmp) → Network W → ℕ → ℕ → ℕ → Type 0
LetsThroughIn parents network amount from to = LetsThrough parents (flow_in network) amount from to

abbrev pub IsShortestIn : {W : ℕ} → List (set.FinSet nat_cmp) → Network W → List Entry → ℕ → Type 0
IsShortestIn parents network es at = IsShortest parents network.within (flow_in network) (rest_in network) es at

abbrev pub IsLabellingIn : {W : ℕ} → List (set.FinSet nat_cmp) → Network W → (ℕ → ℕ) → ℕ → Type 0
IsLabellingIn parents network label end =
    IsLabelling parents network.within (flow_in network) (rest_in network) label end

abbrev pub IsNarrowestIn : {W : ℕ} → List (set.FinSet nat_cmp) → Network W → List Entry → ℕ → ℕ → ℕ → Type 0
IsNarrowestIn parents network es at limit amount =
    IsNarrowest parents (flow_in network) (rest_in network) es at limit amount

abbrev pub SpendsTo : {W : ℕ} → List (set.FinSet nat_cmp) → Network W → Network W → (ℕ → ℕ) → ℕ → Type 0
SpendsTo {W} parents old new label end =
    Spends parents old.within (places (64 * W) old.within) (flow_in old) (rest_in old) (flow_in new) (rest_in new) label end
