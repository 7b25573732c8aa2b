-- What a new link, a pair of them, and new slots do to the links.
use Rattle.std.proofs.Common.{◌≡◌, ◌≢◌, ◌⊎◌, ℕ, ◌+◌, ◌*◌, ◌-◌, ◌<◌, ◌≤◌, List, ◌++◌, length, get_or, replicate, refl, sym, ap, subst, ◌∙◌, inl, inr, arith, true, false, leb}
use Rattle.std.proofs.lemmas.Bool.{cases_eq}
use Rattle.std.proofs.lemmas.Bool.Decides.{leb_tells}
use Rattle.std.proofs.lemmas.Nat.{same_from_place}
use Rattle.std.proofs.lemmas.List.{get_or-set_same, get_or-set_other, get_or_past, get_or-replicate, get_or-append-add, length-append}
use Rattle.std.proofs.Math.Nat.{mul-le-mul_right}
use Rattle.std.proofs.Math.ListN.{get_or-append, length-replicate}
use Rattle.node_pool.specs.Cycles.{Cuts}
use Rattle.node_pool.specs.declared.rings.Link.{Link}
use Rattle.node_pool.specs.Links.{Links, self_link, link_of, next_in, prev_in, with_link, Connects, SameElsewhere, IsCut, IsJoined}

module _ (l : Links) (r slot : ℕ) (link : Link) (within : slot * l.width + r < length l.links) where
  pub link_of-set_same : link_of (with_link l r slot link) r slot ≡ link
  link_of-set_same = get_or-set_same l.links (slot * l.width + r) link (self_link slot) within

  pub link_of-set_slot : (q s : ℕ) → q < l.width → r < l.width → s ≢ slot → link_of (with_link l r slot link) q s ≡ link_of l q s
  link_of-set_slot q s qw rw' differs =
      get_or-set_other l.links (slot * l.width + r) (s * l.width + q) link (self_link s) (λ e. differs (same_from_place s q slot r l.width qw rw' e).0)

  pub link_of-set_ring : (q s : ℕ) → q < l.width → r < l.width → q ≢ r → link_of (with_link l r slot link) q s ≡ link_of l q s
  link_of-set_ring q s qw rw' differs =
      get_or-set_other l.links (slot * l.width + r) (s * l.width + q) link (self_link s) (λ e. differs (same_from_place s q slot r l.width qw rw' e).1)

pub Connects-of : (old : Links) (r from to : ℕ) → r < old.width
    → from * old.width + r < length old.links
    → let mid = with_link old r from (record { next = to; prev = prev_in old r from }) in
    to * old.width + r < length mid.links → Connects old (with_link mid r to (record { next = next_in mid r to; prev = from })) r from to
Connects-of old r from to rw' first second =
    let mid : Links = with_link old r from (record { next = to; prev = prev_in old r from }) in
    let new : Links = with_link mid r to (record { next = next_in mid r to; prev = from }) in
    let mid_from : link_of mid r from ≡ record { next = to; prev = prev_in old r from } =
    link_of-set_same old r from (record { next = to; prev = prev_in old r from }) first in
    let new_to : link_of new r to ≡ record { next = next_in mid r to; prev = from } =
    link_of-set_same mid r to (record { next = next_in mid r to; prev = from }) second in
    let mid_other : (q s : ℕ) → q < old.width → s ≢ from → link_of mid q s ≡ link_of old q s =
    λ q s qw d. link_of-set_slot old r from (record { next = to; prev = prev_in old r from }) first q s qw rw' d in
    let new_other : (q s : ℕ) → q < old.width → s ≢ to → link_of new q s ≡ link_of mid q s =
    λ q s qw d. link_of-set_slot mid r to (record { next = next_in mid r to; prev = from }) second q s qw rw' d in
    let to_next : next_in new r to ≡ next_in mid r to = ap (λ (k : Link). k.next) new_to in
    let mid_next : next_in mid r from ≡ to = ap (λ (k : Link). k.next) mid_from in
    let mid_prev : prev_in mid r from ≡ prev_in old r from = ap (λ (k : Link). k.prev) mid_from in
    record {
      slots = refl;
      width = refl;
      next = elim (cases_eq from to) [
        | inl same ↦ ap (next_in new r) same ∙ to_next ∙ ap (next_in mid r) (sym same) ∙ mid_next
        | inr differs ↦ ap (λ (k : Link). k.next) (new_other r from rw' differs) ∙ mid_next
      ];
      prev = ap (λ (k : Link). k.prev) new_to;
      next_others = λ s apart. elim (cases_eq s to) [
        | inl same ↦ ap (next_in new r) same ∙ to_next ∙ ap (next_in mid r) (sym same) ∙ ap (λ (k : Link). k.next) (mid_other r s rw' apart)
        | inr differs ↦ ap (λ (k : Link). k.next) (new_other r s rw' differs ∙ mid_other r s rw' apart)
      ];
      prev_others = λ s apart. elim (cases_eq s from) [
        | inl same ↦ ap (λ (k : Link). k.prev) (new_other r s rw' apart) ∙ ap (prev_in mid r) same ∙ mid_prev ∙ ap (prev_in old r) (sym same)
        | inr differs ↦ ap (λ (k : Link). k.prev) (new_other r s rw' apart ∙ mid_other r s rw' differs)
      ];
      other_rings = λ q s qw differs.
          link_of-set_ring mid r to (record { next = next_in mid r to; prev = from }) second q s qw rw' differs
          ∙ link_of-set_ring old r from (record { next = to; prev = prev_in old r from }) first q s qw rw' differs;
    }

-- a list with `width` links for each of so many slots, where each slot has the links that it had in another list,
-- and one that had none there has links to itself
pub record IsGrown (width : ℕ) (old new : List Link) (slots : ℕ) : Type 0 where
  pub len : length new ≡ slots * width
  pub same : (r s : ℕ) → r < width → get_or new (s * width + r) (self_link s) ≡ get_or old (s * width + r) (self_link s)

pub IsGrown-push : (width : ℕ) (old new : List Link) (slots : ℕ) → length old ≤ slots * width
    → IsGrown width old new slots → IsGrown width old (new ++ replicate width (self_link slots)) (slots + 1)
IsGrown-push width old new slots shorter grown =
    let fresh = replicate width (self_link slots) in
    let len : length (new ++ fresh) ≡ slots * width + width =
    length-append new fresh ∙ ap (λ n. n + length fresh) grown.len ∙ ap (λ n. slots * width + n) (length-replicate width (self_link slots)) in
    let more : (slots + 1) * width ≡ slots * width + width = search arith in
    record {
      len = len ∙ sym more;
      same = λ r s rw'. by_place r s rw' (leb_tells (s + 1) slots);
    }
  where
    fresh : List Link
    fresh = replicate width (self_link slots)

    shifted : (i n : ℕ) (d : Link) → i ≡ slots * width + n → get_or (new ++ fresh) i d ≡ get_or fresh n d
    shifted i n d e = ap (λ m. get_or (new ++ fresh) m d) (e ∙ ap (λ m. m + n) (sym grown.len)) ∙ get_or-append-add new fresh n d

    past : (i : ℕ) (d : Link) → slots * width ≤ i → get_or old i d ≡ d
    past i d above = get_or_past old i d (omega arith)

    by_place : (r s : ℕ) → r < width → ((leb (s + 1) slots ≡ true) × (s + 1 ≤ slots)) ⊎ ((leb (s + 1) slots ≡ false) × (slots < s + 1))
        → get_or (new ++ fresh) (s * width + r) (self_link s) ≡ get_or old (s * width + r) (self_link s)
    by_place r s in_row (inl below) =
        let row : (s + 1) * width ≡ s * width + width = search arith in
        let rows : (s + 1) * width ≤ slots * width = mul-le-mul_right width below.1 in
        get_or-append new fresh (self_link s) (s * width + r) (omega (arith, grown.len)) ∙ grown.same r s in_row
    by_place r s in_row (inr above) =
        elim (cases_eq s slots) [
          | inl here ↦
              let i : s * width + r ≡ slots * width + r = ap (λ m. m * width + r) here in
              shifted (s * width + r) r (self_link s) i
              ∙ get_or-replicate width r (self_link slots) (self_link s) in_row
              ∙ ap self_link (sym here)
              ∙ sym (past (s * width + r) (self_link s) (omega arith))
          | inr beyond ↦
              let later : slots + 1 ≤ s = let a = above.1 in omega arith in
              let rows : (slots + 1) * width ≤ s * width = mul-le-mul_right width later in
              let row : (slots + 1) * width ≡ slots * width + width = search arith in
              let n = s * width + r - slots * width in
              shifted (s * width + r) n (self_link s) (omega arith)
              ∙ get_or_past fresh n (self_link s) (omega (arith, length-replicate width (self_link slots)))
              ∙ sym (past (s * width + r) (self_link s) (omega arith))
        ]

elsewhere-of_two : (old mid new : Links) (r a b c d : ℕ) → Connects old mid r a b → Connects mid new r c d → SameElsewhere old new r
elsewhere-of_two old mid new r a b c d first second =
    record {
      slots = second.slots ∙ first.slots;
      width = second.width ∙ first.width;
      other_rings = λ q s in_row apart. second.other_rings q s (subst (λ w. q < w) (sym first.width) in_row) apart ∙ first.other_rings q s in_row apart;
    }

pub IsJoined-of : (old mid new : Links) (r a b : ℕ) → a ≢ b → next_in old r a ≢ next_in old r b
    → Connects old mid r a (next_in old r b) → Connects mid new r b (next_in old r a) → IsJoined old new r a b
IsJoined-of old mid new r a b apart after_apart first second =
    record {
      elsewhere = elsewhere-of_two old mid new r a (next_in old r b) b (next_in old r a) first second;
      next = record {
        at_a = second.next_others a apart ∙ first.next;
        at_b = second.next;
        others = λ s not_a not_b. second.next_others s not_b ∙ first.next_others s not_a;
      };
      prev_a = second.prev;
      prev_b = second.prev_others (next_in old r b) (λ e. after_apart (sym e)) ∙ first.prev;
      prev_others = λ s not_a not_b. second.prev_others s not_a ∙ first.prev_others s not_b;
    }

-- the slot is cut out of its rings in the first k partitions, and all else is as it was
pub record IsCutBelow (old new : Links) (slot k : ℕ) : Type 0 where
  pub slots : new.slots ≡ old.slots
  pub width : new.width ≡ old.width
  pub next : (r : ℕ) → r < k → Cuts (next_in old r) (next_in new r) (prev_in old r) slot
  pub prev : (r : ℕ) → r < k → Cuts (prev_in old r) (prev_in new r) (next_in old r) slot
  pub rest : (r s : ℕ) → r < old.width → k ≤ r → link_of new r s ≡ link_of old r s

-- the slot is cut out of its rings in each of n partitions
pub record IsCutAll (old new : Links) (slot n : ℕ) : Type 0 where
  pub slots : new.slots ≡ old.slots
  pub width : new.width ≡ old.width
  pub next : (r : ℕ) → r < n → Cuts (next_in old r) (next_in new r) (prev_in old r) slot
  pub prev : (r : ℕ) → r < n → Cuts (prev_in old r) (prev_in new r) (next_in old r) slot

pub IsCutBelow-step : (old mid new : Links) (slot k : ℕ) → k < old.width → IsCutBelow old mid slot k → IsCut mid new k slot → IsCutBelow old new slot (k + 1)
IsCutBelow-step old mid new slot k in_range so_far cut =
    let mid_next : next_in mid k ≡ next_in old k = λ j s. (so_far.rest k s in_range (omega arith) j).next in
    let mid_prev : prev_in mid k ≡ prev_in old k = λ j s. (so_far.rest k s in_range (omega arith) j).prev in
    let in_mid : (r : ℕ) → r < old.width → r < mid.width = λ r below. subst (λ w. r < w) (sym so_far.width) below in
    let new_next : (r : ℕ) → r < k → next_in new r ≡ next_in mid r =
    λ r below j s. (cut.elsewhere.other_rings r s (in_mid r (omega arith)) (λ e. omega arith) j).next in
    let new_prev : (r : ℕ) → r < k → prev_in new r ≡ prev_in mid r =
    λ r below j s. (cut.elsewhere.other_rings r s (in_mid r (omega arith)) (λ e. omega arith) j).prev in
    let here_next : Cuts (next_in old k) (next_in new k) (prev_in old k) slot =
    subst (λ (f : (ℕ → ℕ) × (ℕ → ℕ)). Cuts f.0 (next_in new k) f.1 slot) (λ j. (mid_next j, mid_prev j)) cut.next in
    let here_prev : Cuts (prev_in old k) (prev_in new k) (next_in old k) slot =
    subst (λ (f : (ℕ → ℕ) × (ℕ → ℕ)). Cuts f.0 (prev_in new k) f.1 slot) (λ j. (mid_prev j, mid_next j)) cut.prev in
    record {
      slots = cut.elsewhere.slots ∙ so_far.slots;
      width = cut.elsewhere.width ∙ so_far.width;
      next = λ r below. elim (cases_eq r k) [
        | inl same ↦ subst (λ w. Cuts (next_in old w) (next_in new w) (prev_in old w) slot) (sym same) here_next
        | inr apart ↦ subst (λ (f : ℕ → ℕ). Cuts (next_in old r) f (prev_in old r) slot) (sym (new_next r (omega arith))) (so_far.next r (omega arith))
      ];
      prev = λ r below. elim (cases_eq r k) [
        | inl same ↦ subst (λ w. Cuts (prev_in old w) (prev_in new w) (next_in old w) slot) (sym same) here_prev
        | inr apart ↦ subst (λ (f : ℕ → ℕ). Cuts (prev_in old r) f (next_in old r) slot) (sym (new_prev r (omega arith))) (so_far.prev r (omega arith))
      ];
      rest = λ r s below past. cut.elsewhere.other_rings r s (in_mid r below) (λ e. omega arith) ∙ so_far.rest r s below (omega arith);
    }

-- what is cut out in k partitions is cut out in each of n, where n is at most k
pub IsCutBelow-most : (old new : Links) (slot k n : ℕ) → n ≤ k → IsCutBelow old new slot k → IsCutAll old new slot n
IsCutBelow-most old new slot k n fewer cut =
    record { slots = cut.slots; width = cut.width; next = λ r below. cut.next r (omega arith); prev = λ r below. cut.prev r (omega arith) }
