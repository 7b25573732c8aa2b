-- What is written into the caller's memory.
use Rattle.std.specs.Prelude.{◌≡◌, ℕ, ℤ, pos, ◌/◌, ◌%◌, ◌^◌, ◌++◌, ◌∷◌, [], List, length, take, drop, map, flat_map, unsigned_abs, if◌then◌else◌, nat_lt, int_lt}
use Rattle.fee_rate.specs.declared.rates.Sum.{Sum}
use Rattle.graphs.specs.declared.names.Flow.{Flow}
use Rattle.graphs.specs.Certificates.{Part}
use Rattle.desk.specs.declared.telling.Rate.{Rate}
use Rattle.desk.specs.declared.telling.Total.{Total}
use Rattle.desk.specs.declared.listing.FlowWords.{FlowWords}
use Rattle.desk.specs.declared.listing.PartHead.{PartHead}
use Rattle.desk.specs.declared.listing.Groups.{Groups}
use Rattle.desk.specs.declared.listing.Listing.{Listing}

-- An array after items were copied to its front, as many as it has room for. Behind them it is as it was.
abbrev pub copied : {X : Type 0} → List X → List X → List X
copied from old = take (length old) from ++ drop (length from) old

-- whether some of these are left after the first ones were given
abbrev pub code_of_piece : ℕ → ℕ → ℕ
code_of_piece all given = if nat_lt given all then 32 else 0

-- A sum in words of 64 bits: whether the fee is below 0, the amount in two words, the greater one first, and the size.
abbrev pub total_of : Sum → Total
total_of sum = record {
  negative = int_lt sum.fee (pos 0);
  high = unsigned_abs sum.fee / 2 ^ 64;
  low = unsigned_abs sum.fee % 2 ^ 64;
  size = sum.size;
}

-- a fee and a size
abbrev pub rate_words : Sum → Rate
rate_words sum = record { fee = sum.fee; size = sum.size }

-- a corner: its size, and the fee there
abbrev pub corner_of : ℕ × ℤ → Total
corner_of corner = total_of (record { fee = corner.1; size = corner.0 })

-- a flow, its amount in two words
abbrev pub flow_words : Flow → FlowWords
flow_words flow = record { child = flow.child; parent = flow.parent; high = flow.amount / 2 ^ 64; low = flow.amount % 2 ^ 64 }

-- a part's fee and size, and how many names and flows it has
abbrev pub head_of : Part → PartHead
head_of part = record { fee = part.rate.fee; size = part.rate.size; ids = length part.ids; flows = length part.flows }

-- Parts as three lists: their heads, their names, and their flows, each in the order of the parts.
pub record IsListed (parts : List Part) (list : Listing) : Type 0 where
  pub heads : list.heads.items ≡ map head_of parts
  pub names : list.ids.items ≡ flat_map (λ part. part.ids) parts
  pub words : list.flows.items ≡ flat_map (λ part. map flow_words part.flows) parts

-- a part is put behind the others
pub record AddsPart (part : Part) (old new : Listing) : Type 0 where
  pub heads : new.heads.items ≡ old.heads.items ++ head_of part ∷ []
  pub names : new.ids.items ≡ old.ids.items ++ part.ids
  pub words : new.flows.items ≡ old.flows.items ++ map flow_words part.flows

-- Lists of names as two lists: how many each has, and the names of one after the other.
pub record AreGrouped (lists : List (List ℕ)) (groups : Groups) : Type 0 where
  pub counts : groups.counts.items ≡ map length lists
  pub names : groups.ids.items ≡ flat_map (λ names. names) lists

-- a list is put behind the others
pub record AddsGroup (list : List ℕ) (old new : Groups) : Type 0 where
  pub counts : new.counts.items ≡ old.counts.items ++ length list ∷ []
  pub names : new.ids.items ≡ old.ids.items ++ list
