-- Sets of members, one after the other, that are tried as the parts of an order.
use Rattle.std.specs.Prelude.{◌≡◌, ◌≢◌, ◌↔◌, ℕ, ◌+◌, ◌*◌, ◌<◌, ◌≤◌, ◌^◌, ◌⊎◌, true, Option, List, [], ◌++◌, length, Contains}
use Rattle.std.specs.List.{AllZip}
use Rattle.std.specs.Ordering.{nat_cmp}
use Rattle.std.specs.FinSet as set
use Rattle.lists.specs.Distinct.{AreDistinct}
use Rattle.graphs.specs.Closures.{Closure, is_ancestor, IsClosed, IsCover, HoldsMembers}
use Rattle.graphs.specs.Linearizations.{StandsBefore}
use Rattle.graphs.specs.Rates.{sums}
use Rattle.graphs.specs.Certificates.{Part, HasFalling, HasFlows}
use Rattle.linearize.specs.Drafts.{Written, placed, flows_in}
use Rattle.linearize.specs.Graphs.{HasRates, most_members, sum_at}
use Rattle.linearize.specs.declared.old.OldPart.{OldPart}
use Rattle.linearize.specs.Known.{IsHeld}
use Rattle.linearize.specs.Orders.{IsOrderOf}
use Rattle.linearize.specs.Splits.{Adds, HasRoom, IsUncutPart}

-- certified parts of a set, of falling rate, parents first, none of which can be cut further
pub record AreParts (n : ℕ) (dep : Closure) (s : set.FinSet nat_cmp) (parts : List Part) : Type 0 where
  pub order : IsOrderOf dep s (placed parts)
  pub filled : (part : Part) → Contains parts part → part.ids ≢ []
  pub falling : HasFalling (sum_at dep) parts
  pub flows : HasFlows (sum_at dep) (IsCover dep) parts
  pub uncut : (part : Part) → Contains parts part → IsUncutPart n dep part

-- the same of parts as they are written, some of which are old ones
pub record AreHeld (n : ℕ) (dep : Closure) (olds : List OldPart) (places : List ℕ) (s : set.FinSet nat_cmp) (froms : List (Option OldPart))
    (parts : List Part) : Type 0 where
  pub order : IsOrderOf dep s (placed parts)
  pub filled : (part : Part) → Contains parts part → part.ids ≢ []
  pub falling : HasFalling (sum_at dep) parts
  pub held : AllZip (IsHeld dep olds places) froms parts
  pub uncut : (part : Part) → Contains parts part → IsUncutPart n dep part

-- some members may come behind others: they are at least one and none of the others, and each covering parent of one is
-- among them and the others
pub record ComesNext (dep : Closure) (members done group : set.FinSet nat_cmp) : Type 0 where
  pub some : 0 < set.len group
  pub inside : (t : ℕ) → set.contains group t ≡ true → set.contains members t ≡ true
  pub apart : (t : ℕ) → set.contains group t ≡ true → set.contains done t ≡ true → ⊥
  pub parents_known : (p c : ℕ) → set.contains group c ≡ true → IsCover dep p c
      → (set.contains done p ≡ true) ⊎ (set.contains group p ≡ true)

-- Members in a list follow others: none of these, each once, and each behind all its ancestors. `all` are both.
pub record Follow (dep : Closure) (members done : set.FinSet nat_cmp) (ids : List ℕ) (all : set.FinSet nat_cmp) : Type 0 where
  pub once : AreDistinct ids
  pub inside : (p : ℕ) → Contains ids p → set.contains members p ≡ true
  pub apart : (p : ℕ) → Contains ids p → set.contains done p ≡ true → ⊥
  pub both : (p : ℕ) → (set.contains all p ≡ true) ↔ ((set.contains done p ≡ true) ⊎ Contains ids p)
  pub behind : (a d : ℕ) → Contains ids d → is_ancestor dep a d ≡ true
      → (set.contains done a ≡ true) ⊎ ((a ≡ d) ⊎ StandsBefore ids a d)

-- members that may be put into an order
pub record MayBePut (n : ℕ) (dep : Closure) (members : set.FinSet nat_cmp) : Type 0 where
  pub closed : IsClosed n dep
  pub held : HoldsMembers dep members
  pub few : set.len members ≤ most_members
  pub rates : HasRates dep

-- Members of which some are written, and the others are to come: these have no ancestor among the others, and wherever more of them may come next there is room
pub record IsBegun (n : ℕ) (dep : Closure) (members done : set.FinSet nat_cmp) (written : Written) : Type 0 where
  pub closed : IsClosed n dep
  pub held : HoldsMembers dep members
  pub few : set.len members ≤ most_members
  pub rates : HasRates dep
  pub inside : (t : ℕ) → set.contains done t ≡ true → set.contains members t ≡ true
  pub upper : (p c : ℕ) → IsCover dep p c → set.contains done c ≡ true → set.contains done p ≡ true
  pub room : (s : set.FinSet nat_cmp) → ((t : ℕ) → set.contains s t ≡ true → set.contains members t ≡ true)
      → ((t : ℕ) → set.contains s t ≡ true → set.contains done t ≡ true → ⊥) → HasRoom n s written

-- members that came next were solved: `all` are these and the others
pub record IsSolvedNext (n : ℕ) (dep : Closure) (members done group : set.FinSet nat_cmp) (old new : Written) (all : set.FinSet nat_cmp) : Type 0 where
  pub next : ComesNext dep members done group
  pub adds : Adds n dep group old new
  pub both : all ≡ set.union done group

-- Parts of some members came behind others, parents first, certified or known, none of which can be cut further: no more of them than members, and four
-- times the flows that are written are at most the number of members squared.
pub record Extends (n : ℕ) (dep : Closure) (olds : List OldPart) (places : List ℕ) (members done : set.FinSet nat_cmp) (old new : Written)
    (before after : List (Option OldPart)) (all : set.FinSet nat_cmp) : Type 0 where
  pub parts : List Part
  pub is : new ≡ record { parts = old.parts ++ parts; ids = []; flows = [] }
  pub froms : List (Option OldPart)
  pub from : after ≡ before ++ froms
  pub held : AllZip (IsHeld dep olds places) froms parts
  pub group : set.FinSet nat_cmp
  pub both : all ≡ set.union done group
  pub inside : (t : ℕ) → set.contains group t ≡ true → set.contains members t ≡ true
  pub apart : (t : ℕ) → set.contains group t ≡ true → set.contains done t ≡ true → ⊥
  pub upper : (p c : ℕ) → IsCover dep p c → set.contains group c ≡ true → (set.contains done p ≡ true) ⊎ (set.contains group p ≡ true)
  pub order : IsOrderOf dep group (placed parts)
  pub filled : (part : Part) → Contains parts part → part.ids ≢ []
  pub summed : (part : Part) → Contains parts part → part.rate ≡ sums (sum_at dep) part.ids
  pub uncut : (part : Part) → Contains parts part → IsUncutPart n dep part
  pub some_places : length (placed parts) ≤ set.len group
  pub few : length parts ≤ set.len group
  pub few_flows : 4 * length (flows_in parts) ≤ set.len group * set.len group

-- so many steps a trial may take for each of n places
abbrev pub most_tried : ℕ → ℕ
most_tried n = 4 * (n + 2) ^ 3
