-- Links among numbered slots, which go round in rings.
use Rattle.std.specs.Prelude.{◌≡◌, ◌≢◌, ℕ, ◌+◌, ◌*◌, ◌<◌, List, slice_index_or, slice_set, refl}
use Rattle.std.specs.Coded.{Coded, code_by, coded×, coded_list, coded_ℕ}
use Rattle.node_pool.specs.Cycles.{Splices, Cuts}
use Rattle.node_pool.specs.declared.rings.Link.{Link}

-- `width` links for each slot, those of the first slot first
pub record Links : Type 0 where
  pub links : List Link
  pub slots : ℕ
  pub width : ℕ

abbrev pub link_code : Coded Link
link_code = code_by (ℕ × ℕ) (coded× coded_ℕ coded_ℕ) (λ l. (l.next, l.prev)) (λ p. record { next = p.0; prev = p.1 }) (λ _. refl)

abbrev pub links_code : Coded Links
links_code =
    code_by (List Link × (ℕ × ℕ)) (coded× (coded_list link_code) (coded× coded_ℕ coded_ℕ)) (λ l. (l.links, (l.slots, l.width)))
    (λ p. record { links = p.0; slots = p.1.0; width = p.1.1 }) (λ _. refl)

-- a slot alone in its ring
abbrev pub self_link : ℕ → Link
self_link slot = record { next = slot; prev = slot }

-- the link of a slot in the r-th partition: to itself where there is no such slot
abbrev pub link_of : Links → ℕ → ℕ → Link
link_of l r slot = slice_index_or l.links (slot * l.width + r) (self_link slot)

-- the slot after this one in the r-th partition
abbrev pub next_in : Links → ℕ → ℕ → ℕ
next_in l r slot = (link_of l r slot).next

-- the slot before this one in the r-th partition
abbrev pub prev_in : Links → ℕ → ℕ → ℕ
prev_in l r slot = (link_of l r slot).prev

-- the new links have this one for the slot in the r-th partition, and all else is as it was
abbrev pub with_link : Links → ℕ → ℕ → Link → Links
with_link l r slot link = record l { links = slice_set l.links (slot * l.width + r) link }

-- each slot has the links that it had, where one that there was not had links to itself
pub record SameLinks (old new : Links) : Type 0 where
  pub links : (r slot : ℕ) → r < old.width → link_of new r slot ≡ link_of old r slot
  pub width : new.width ≡ old.width

-- `to` now comes after `from` in the r-th partition, and all else is as it was
pub record Connects (old new : Links) (r from to : ℕ) : Type 0 where
  pub slots : new.slots ≡ old.slots
  pub width : new.width ≡ old.width
  pub next : next_in new r from ≡ to
  pub prev : prev_in new r to ≡ from
  pub next_others : (slot : ℕ) → slot ≢ from → next_in new r slot ≡ next_in old r slot
  pub prev_others : (slot : ℕ) → slot ≢ to → prev_in new r slot ≡ prev_in old r slot
  pub other_rings : (q slot : ℕ) → q < old.width → q ≢ r → link_of new q slot ≡ link_of old q slot

-- the links of every other partition are as they were
pub record SameElsewhere (old new : Links) (r : ℕ) : Type 0 where
  pub slots : new.slots ≡ old.slots
  pub width : new.width ≡ old.width
  pub other_rings : (q slot : ℕ) → q < old.width → q ≢ r → link_of new q slot ≡ link_of old q slot

-- the slot is cut out of its ring of the r-th partition
pub record IsCut (old new : Links) (r slot : ℕ) : Type 0 where
  pub elsewhere : SameElsewhere old new r
  pub next : Cuts (next_in old r) (next_in new r) (prev_in old r) slot
  pub prev : Cuts (prev_in old r) (prev_in new r) (next_in old r) slot

-- the rings of a and b in the r-th partition are one
pub record IsJoined (old new : Links) (r a b : ℕ) : Type 0 where
  pub elsewhere : SameElsewhere old new r
  pub next : Splices (next_in old r) (next_in new r) a b
  pub prev_a : prev_in new r (next_in old r a) ≡ b
  pub prev_b : prev_in new r (next_in old r b) ≡ a
  pub prev_others : (slot : ℕ) → slot ≢ next_in old r a → slot ≢ next_in old r b → prev_in new r slot ≡ prev_in old r slot
