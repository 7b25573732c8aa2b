-- Lists of places, and loops over the places of a set.
use Rattle.std.proofs.Common.{◌≡◌, ℕ, suc, ◌+◌, ◌<◌, ◌≤◌, inl, inr, true, List, [], ◌∷◌, ◌++◌}
use Rattle.std.proofs.Common.{length, set, sym, ap, ◌∙◌, subst, arith, append_assoc, append-nil, length-append}
use Rattle.std.proofs.Common.{get_or, get_or-set_same, get_or-set_other}
use Rattle.std.specs.Prelude.{Contains, ◌↔◌}
use Rattle.std.proofs.lemmas.Bool.{cases_eq}
use Rattle.std.proofs.lemmas.List.Elements.{Contains-append_cases}
use Rattle.std.specs.Ordering.{nat_cmp}
use Rattle.std.specs.FinSet as fin
use Rattle.graphs.proofs.Members.{contains-members_of}
use Rattle.graphs.specs.Closures.{Closure, is_member, members_of, IsCover}
use Rattle.lists.proofs.Entries.{Contains-cases, none_in_empty}
use Rattle.bitset.specs.Places.{places, IsWithin}
use Rattle.bitset.specs.Sets.{places-here, Contains-places, len-places}
use Rattle.closure_flow.specs.Closures.{parents_at}
use Rattle.linearize.specs.Orders.{AreCovers}

-- ---- a loop over the places of a set: those that it gave, and those to come
abbrev pub Goes : ℕ → fin.FinSet nat_cmp → List ℕ → List ℕ → Type 0
Goes n s ys zs = ys ++ zs ≡ places n s

pub goes_here : (n : ℕ) (s : fin.FinSet nat_cmp) (ys ws zs : List ℕ) (p : ℕ) → Goes n s ys ws → ws ≡ p ∷ zs → (p < n) × (fin.contains s p ≡ true)
goes_here n s ys ws zs p h e = places-here n s ys zs p (sym h ∙ ap (λ xs. ys ++ xs) e)

pub goes_on : (n : ℕ) (s : fin.FinSet nat_cmp) (ys ws zs : List ℕ) (p : ℕ) → Goes n s ys ws → ws ≡ p ∷ zs → Goes n s (ys ++ p ∷ []) zs
goes_on n s ys ws zs p h e = append_assoc ys (p ∷ []) zs ∙ ap (λ xs. ys ++ xs) (sym e) ∙ h

pub gone : (n : ℕ) (s : fin.FinSet nat_cmp) (ys ws : List ℕ) → Goes n s ys ws → ws ≡ [] → ys ≡ places n s
gone n s ys ws h e = sym (append-nil ys) ∙ ap (λ xs. ys ++ xs) (sym e) ∙ h

-- so far fewer than the set has
pub goes_below : (n : ℕ) (s : fin.FinSet nat_cmp) (ys ws zs : List ℕ) (p : ℕ) → IsWithin n s → Goes n s ys ws → ws ≡ p ∷ zs → length ys < fin.len s
goes_below n s ys ws zs p within h e =
    let all : length ys + length ws ≡ fin.len s = sym (length-append ys ws) ∙ ap length h ∙ sym (len-places n s within) in
    let one : length ws ≡ suc (length zs) = ap length e in
    omega arith

-- what holds of each row that was set holds with one more
pub rows_more : {X : Type 0} (d : X) (P : ℕ → X → Type 0) (rows : List X) (ys : List ℕ) (c : ℕ) (v : X) → c < length rows
    → ((q : ℕ) → Contains ys q → P q (get_or rows q d)) → P c v
    → (q : ℕ) → Contains (ys ++ c ∷ []) q → P q (get_or (set rows c v) q d)
rows_more d P rows ys c v inside done here q there = elim (cases_eq q c) as (λ _. P q (get_or (set rows c v) q d)) [
  | inl same ↦ subst (λ (k : ℕ). P k (get_or (set rows c v) k d)) (sym same) (subst (P c) (sym (get_or-set_same rows c v d inside)) here)
  | inr other ↦
      subst (P q) (sym (get_or-set_other rows c q v d other))
      (done q (elim (Contains-append_cases ys (c ∷ []) q there) [
        | inl before ↦ before
        | inr at ↦ elim (Contains-cases c q [] at) [ inl same ↦ absurd (other (sym same)) | inr none ↦ absurd (none_in_empty q none) ]
      ]))
]

-- ---- the covering parents, kept place by place
pub record Linked (n : ℕ) (dep : Closure) (s : fin.FinSet nat_cmp) (parents : List (fin.FinSet nat_cmp)) (ys zs : List ℕ) : Type 0 where
  pub goes : Goes n s ys zs
  pub done : (c p : ℕ) → Contains ys c → (fin.contains (parents_at parents c) p ≡ true) ↔ IsCover dep p c

pub linked_start : (n : ℕ) (dep : Closure) (s : fin.FinSet nat_cmp) (parents : List (fin.FinSet nat_cmp)) (zs : List ℕ) → zs ≡ places n s
    → Linked n dep s parents [] zs
linked_start n dep s parents zs e = record { goes = e; done = λ c p h. absurd (none_in_empty c h) }

pub linked_more : (n : ℕ) (dep : Closure) (s : fin.FinSet nat_cmp) (parents : List (fin.FinSet nat_cmp)) (ys ws zs : List ℕ) (c : ℕ)
    (covers : fin.FinSet nat_cmp)
    → Linked n dep s parents ys ws → ws ≡ c ∷ zs → c < length parents → ((p : ℕ) → (fin.contains covers p ≡ true) ↔ IsCover dep p c)
    → Linked n dep s (set parents c covers) (ys ++ c ∷ []) zs
linked_more n dep s parents ys ws zs c covers h e inside are = record {
  goes = goes_on n s ys ws zs c h.goes e;
  done = λ d p there.
      rows_more fin.empty (λ q row. (fin.contains row p ≡ true) ↔ IsCover dep p q) parents ys c covers inside (λ q at. h.done q p at) (are p) d there;
}

pub linked_all : (n : ℕ) (dep : Closure) (s : fin.FinSet nat_cmp) (parents : List (fin.FinSet nat_cmp)) (ys ws : List ℕ)
    → IsWithin n s → n ≤ length parents → Linked n dep s parents ys ws → ws ≡ [] → AreCovers dep s parents
linked_all n dep s parents ys ws within room h e = record {
  there = λ c m. (let low : c < n = within c m in omega arith);
  exact = λ p c m. h.done c p (subst (λ xs. Contains xs c) (sym (gone n s ys ws h.goes e)) (Contains-places n s c (within c m) m));
}

-- and those of the places of a smaller set
pub covers_within : (dep : Closure) (s x : fin.FinSet nat_cmp) (parents : List (fin.FinSet nat_cmp)) → AreCovers dep s parents
    → ((p : ℕ) → fin.contains x p ≡ true → fin.contains s p ≡ true) → AreCovers dep x parents
covers_within dep s x parents covers inside = record {
  there = λ c m. covers.there c (inside c m);
  exact = λ p c m. covers.exact p c (inside c m);
}

-- ---- a loop that tests each place of a set
pub record Tested (n : ℕ) (s : fin.FinSet nat_cmp) (P : ℕ → Type 0) (ys zs : List ℕ) : Type 0 where
  pub goes : Goes n s ys zs
  pub done : (p : ℕ) → Contains ys p → P p

pub tested_start : (n : ℕ) (s : fin.FinSet nat_cmp) (P : ℕ → Type 0) (zs : List ℕ) → zs ≡ places n s → Tested n s P [] zs
tested_start n s P zs e = record { goes = e; done = λ p h. absurd (none_in_empty p h) }

pub tested_here : (n : ℕ) (s : fin.FinSet nat_cmp) (P : ℕ → Type 0) (ys ws zs : List ℕ) (p : ℕ) → Tested n s P ys ws → ws ≡ p ∷ zs → fin.contains s p ≡ true
tested_here n s P ys ws zs p h e = (goes_here n s ys ws zs p h.goes e).1

pub tested_more : (n : ℕ) (s : fin.FinSet nat_cmp) (P : ℕ → Type 0) (ys ws zs : List ℕ) (p : ℕ) → Tested n s P ys ws → ws ≡ p ∷ zs → P p
    → Tested n s P (ys ++ p ∷ []) zs
tested_more n s P ys ws zs p h e here = record {
  goes = goes_on n s ys ws zs p h.goes e;
  done = λ q there. elim (Contains-append_cases ys (p ∷ []) q there) [
    | inl before ↦ h.done q before
    | inr at ↦ elim (Contains-cases p q [] at) [ inl same ↦ subst P same here | inr none ↦ absurd (none_in_empty q none) ]
  ];
}

pub tested_all : (n : ℕ) (s : fin.FinSet nat_cmp) (P : ℕ → Type 0) (ys ws : List ℕ) → IsWithin n s → Tested n s P ys ws → ws ≡ [] → (p : ℕ)
    → fin.contains s p ≡ true → P p
tested_all n s P ys ws within h e p m = h.done p (subst (λ xs. Contains xs p) (sym (gone n s ys ws h.goes e)) (Contains-places n s p (within p m) m))

-- a test of the members, by a set that is theirs
pub members_tested : (n : ℕ) (dep : Closure) (s : fin.FinSet nat_cmp) (P : ℕ → Type 0) (zs : List ℕ) → s ≡ members_of dep → zs ≡ places n s
    → Tested n (members_of dep) P [] zs
members_tested n dep s P zs is e = tested_start n (members_of dep) P zs (e ∙ ap (places n) is)

pub member_here : (n : ℕ) (dep : Closure) (P : ℕ → Type 0) (ys ws zs : List ℕ) (p : ℕ) → Tested n (members_of dep) P ys ws → ws ≡ p ∷ zs
    → is_member dep p ≡ true
member_here n dep P ys ws zs p h e = sym (contains-members_of dep p) ∙ tested_here n (members_of dep) P ys ws zs p h e

pub each_member : (n : ℕ) (dep : Closure) (s : fin.FinSet nat_cmp) (P : ℕ → Type 0) (ys ws : List ℕ) → s ≡ members_of dep → IsWithin n s
    → Tested n (members_of dep) P ys ws → ws ≡ [] → (p : ℕ) → is_member dep p ≡ true → P p
each_member n dep s P ys ws is within h e p m = tested_all n (members_of dep) P ys ws (subst (IsWithin n) is within) h e p (contains-members_of dep p ∙ m)
