-- How each change of the nodes and the links keeps a pool.
use Rattle.std.proofs.Common.{◌≡◌, ◌≢◌, ◌⊎◌, ℕ, zero, suc, ◌+◌, ◌*◌, ◌<◌, ◌≤◌, ◌^◌, List, [], ◌∷◌, map, get_or, Option, Some, None, IsSome, is_some, refl, sym, ap, subst, ◌∙◌, inl, inr, arith, true≢false}
use Rattle.std.proofs.lemmas.Bool.{cases_eq}
use Rattle.node_pool.specs.Cycles.{walked, Reaches, IsMutual, Splices, Cuts}
use Rattle.node_pool.proofs.Cycles.{comes_back, comes_back_within, next-one_to_one, Reaches-sym}
use Rattle.node_pool.proofs.Joins.{mutual_spliced, mutual_cut}
use Rattle.node_pool.specs.Row.{grown}
use Rattle.node_pool.specs.Slots.{Slots, node_in, IsHeld, held_count, Updates}
use Rattle.node_pool.specs.Links.{Links, self_link, next_in, prev_in, SameElsewhere, IsCut, IsJoined}
use Rattle.node_pool.proofs.LinkLemmas.{IsCutAll}
use Rattle.node_pool.specs.declared.rings.Link.{Link}
use Rattle.node_pool.specs.declared.pool.Key.{Key}
use Rattle.node_pool.specs.declared.pool.Node.{Node}
use Rattle.node_pool.specs.Nodes.{numbered, value_at, IsLive, next_slot, SameRing, SameRings, PartsFrom, UnitesRings}
use Rattle.node_pool.specs.Pool.{next_of, nodes_of, IsPool}
use Rattle.node_pool.proofs.RingLemmas.{numbered-some, numbered-other, SameRings-of, UnitesRings-of, PartsFrom-cut, PartsFrom-fresh}

next_of-read : (ls : List Link) (i slot : ℕ) → get_or (map next_of ls) i slot ≡ (get_or ls i (self_link slot)).next
next_of-read [] i slot = refl
next_of-read (l ∷ ls) zero slot = refl
next_of-read (l ∷ ls) (suc i) slot = next_of-read ls i slot

same_key : (a b : Key) → a.slot ≡ b.slot → a.number ≡ b.number → a ≡ b
same_key a b slot number = λ j. record { slot = slot j; number = number j }

module _ {T : Type 0} where
  -- the steps that a contract sees are those of the links
  pub next_slot-of : (s : Slots (Node T)) (l : Links) (issued r : ℕ) → next_slot (nodes_of s l issued) r ≡ next_in l r
  next_slot-of s l issued r = λ j slot. next_of-read l.links (slot * l.width + r) slot j

  pub IsHeld-of_live : (s : Slots (Node T)) (l : Links) (issued : ℕ) (key : Key) → IsLive (nodes_of s l issued) key → IsHeld s key.slot
  IsHeld-of_live s l issued key live = subst IsSome (sym (numbered-some key.number (node_in s key.slot) live).1) refl

  not_held : (s : Slots (Node T)) (slot : ℕ) → (IsHeld s slot → ⊥) → node_in s slot ≡ None
  not_held s slot vacant = by_cases (node_in s slot) vacant
    where
      by_cases : (o : Option (Node T)) → (IsSome o → ⊥) → o ≡ None
      by_cases None _ = refl
      by_cases (Some _) none = absurd (none refl)

  -- a node that came, or went, changes what its key has and no other
  pub others_fresh : (s t : Slots (Node T)) (key : Key) (node : Node T)
      → node.number ≡ key.number → node_in s key.slot ≡ None → Updates s t key.slot (Some node)
      → (other : Key) → other ≢ key → numbered other.number (node_in t other.slot) ≡ numbered other.number (node_in s other.slot)
  others_fresh s t key node number vacant updates other differs =
      elim (cases_eq other.slot key.slot) [
        | inl here ↦
            let apart : node.number ≢ other.number = λ e. differs (same_key other key here (sym e ∙ number)) in
            ap (λ slot. numbered other.number (node_in t slot)) here ∙ ap (numbered other.number) updates.changed ∙ numbered-other other.number node apart
            ∙ sym (ap (λ slot. numbered other.number (node_in s slot)) here ∙ ap (numbered other.number) vacant)
        | inr there ↦ ap (numbered other.number) (updates.others other.slot there)
      ]

  pub others_taken : (s t : Slots (Node T)) (key : Key) (node : Node T) → node.number ≡ key.number → node_in s key.slot ≡ Some node → Updates s t key.slot None
      → (other : Key) → other ≢ key → numbered other.number (node_in t other.slot) ≡ numbered other.number (node_in s other.slot)
  others_taken s t key node number found updates other differs =
      elim (cases_eq other.slot key.slot) [
        | inl here ↦
            let apart : node.number ≢ other.number = λ e. differs (same_key other key here (sym e ∙ number)) in
            ap (λ slot. numbered other.number (node_in t slot)) here ∙ ap (numbered other.number) updates.changed
            ∙ sym (ap (λ slot. numbered other.number (node_in s slot)) here ∙ ap (numbered other.number) found ∙ numbered-other other.number node apart)
        | inr there ↦ ap (numbered other.number) (updates.others other.slot there)
      ]

  module _ (R : ℕ) (s : Slots (Node T)) (l : Links) (issued : ℕ) (pool : IsPool R s l issued) where
    -- past the slots nothing moves
    pub still : (r slot : ℕ) → r < R → l.slots ≤ slot → next_in l r slot ≡ slot
    still r slot in_range past = pool.alone r slot in_range (not_held s slot (λ held. let below = pool.covered slot held in omega arith))

    pub comes_round : (r slot : ℕ) → r < R → Reaches (next_in l r) (next_in l r slot) slot
    comes_round r slot in_range =
        comes_back (next_in l r) (prev_in l r) (pool.mutual-rings r in_range) l.slots (λ t past. still r t in_range past) slot

    pub comes_round_within : (r slot : ℕ) → r < R → IsHeld s slot → (k : ℕ) × (k < l.slots) × (walked (next_in l r) (suc k) slot ≡ slot)
    comes_round_within r slot in_range held =
        comes_back_within (next_in l r) (prev_in l r) (pool.mutual-rings r in_range) l.slots (λ t past. still r t in_range past) slot (pool.covered slot held)

    pub next-one : (r : ℕ) → r < R → (a b : ℕ) → next_in l r a ≡ next_in l r b → a ≡ b
    next-one r in_range = next-one_to_one (next_in l r) (prev_in l r) (pool.mutual-rings r in_range)

    -- the slot after one with a node has a node
    pub next-held : (r : ℕ) → r < R → (slot : ℕ) → IsHeld s slot → IsHeld s (next_in l r slot)
    next-held r in_range slot held = by_cases (node_in s (next_in l r slot)) refl
      where
        by_cases : (o : Option (Node T)) → node_in s (next_in l r slot) ≡ o → IsSome (node_in s (next_in l r slot))
        by_cases None vacant =
            let alone : next_in l r (next_in l r slot) ≡ next_in l r slot = pool.alone r (next_in l r slot) in_range vacant in
            let same : next_in l r slot ≡ slot = next-one r in_range (next_in l r slot) slot alone in
            subst (λ t. IsSome (node_in s t)) (sym same) held
        by_cases (Some node) found = subst IsSome (sym found) refl

    elsewhere-mutual : (new : Links) (r q : ℕ) → SameElsewhere l new r → q < R → q ≢ r → IsMutual (next_in new q) (prev_in new q)
    elsewhere-mutual new r q same in_range apart =
        let in_row : q < l.width = subst (λ w. q < w) (sym pool.width) in_range in
        let next : next_in new q ≡ next_in l q = λ j slot. (same.other_rings q slot in_row apart j).next in
        let prev : prev_in new q ≡ prev_in l q = λ j slot. (same.other_rings q slot in_row apart j).prev in
        subst (λ (f : (ℕ → ℕ) × (ℕ → ℕ)). IsMutual f.0 f.1) (λ j. (sym next j, sym prev j)) (pool.mutual-rings q in_range)

    pub elsewhere-next : (new : Links) (r q : ℕ) → SameElsewhere l new r → q < R → q ≢ r → next_in new q ≡ next_in l q
    elsewhere-next new r q same in_range apart =
        let in_row : q < l.width = subst (λ w. q < w) (sym pool.width) in_range in
        λ j slot. (same.other_rings q slot in_row apart j).next

    pub IsPool-cut : (new : Links) (r slot : ℕ) → r < R → IsHeld s slot → IsCut l new r slot → IsPool R s new issued
    IsPool-cut new r slot in_range held cut =
        let slots = cut.elsewhere.slots in
        record {
          numbers = pool.numbers;
          width = cut.elsewhere.width ∙ pool.width;
          covered = λ t h. subst (λ n. t < n) (sym slots) (pool.covered t h);
          mutual-rings = λ q below. elim (cases_eq q r) [
            | inl same ↦ subst (λ w. IsMutual (next_in new w) (prev_in new w)) (sym same)
                (mutual_cut (next_in l r) (prev_in l r) (next_in new r) (prev_in new r) slot (pool.mutual-rings r in_range) cut.next cut.prev)
            | inr apart ↦ elsewhere-mutual new r q cut.elsewhere below apart
          ];
          alone = λ q t below vacant. elim (cases_eq q r) [
            | inl same ↦
                let alone : next_in l r t ≡ t = pool.alone r t in_range vacant in
                let other : t ≢ slot = λ e. true≢false (sym (subst IsSome (ap (node_in s) (sym e) ∙ vacant) held)) in
                let not_before : t ≢ prev_in l r slot = λ e. other (sym alone ∙ ap (next_in l r) e ∙ (pool.mutual-rings r in_range slot).1) in
                ap (λ w. next_in new w t) same ∙ cut.next.others t other not_before ∙ alone
            | inr apart ↦ ap (λ (f : ℕ → ℕ). f t) (elsewhere-next new r q cut.elsewhere below apart) ∙ pool.alone q t below vacant
          ];
          room = subst (λ n. (held_count s ≤ s.room) × (s.room ≤ n) × (n < 2 ^ 32)) (sym slots) pool.room;
          grows = subst (λ n. (n ≡ s.room) ⊎ (n ≡ grown s.room)) (sym slots) pool.grows;
        }

    -- the steps back from where a and b led are exchanged too
    spliced_back : (new : Links) (r a b : ℕ) → r < R → IsJoined l new r a b → Splices (prev_in l r) (prev_in new r) (next_in l r a) (next_in l r b)
    spliced_back new r a b in_range joined =
        record {
          at_a = joined.prev_a ∙ sym (pool.mutual-rings r in_range b).0;
          at_b = joined.prev_b ∙ sym (pool.mutual-rings r in_range a).0;
          others = joined.prev_others;
        }

    pub IsPool-join : (new : Links) (r a b : ℕ) → r < R → IsHeld s a → IsHeld s b → a ≢ b → IsJoined l new r a b → IsPool R s new issued
    IsPool-join new r a b in_range held_a held_b distinct joined =
        let slots = joined.elsewhere.slots in
        record {
          numbers = pool.numbers;
          width = joined.elsewhere.width ∙ pool.width;
          covered = λ t h. subst (λ n. t < n) (sym slots) (pool.covered t h);
          mutual-rings = λ q below. elim (cases_eq q r) [
            | inl same ↦ subst (λ w. IsMutual (next_in new w) (prev_in new w)) (sym same)
                (mutual_spliced (next_in l r) (prev_in l r) (next_in new r) (prev_in new r) a b
                (pool.mutual-rings r in_range) distinct joined.next (spliced_back new r a b in_range joined))
            | inr apart ↦ elsewhere-mutual new r q joined.elsewhere below apart
          ];
          alone = λ q t below vacant. elim (cases_eq q r) [
            | inl same ↦
                let not_a : t ≢ a = λ e. true≢false (sym (subst IsSome (ap (node_in s) (sym e) ∙ vacant) held_a)) in
                let not_b : t ≢ b = λ e. true≢false (sym (subst IsSome (ap (node_in s) (sym e) ∙ vacant) held_b)) in
                ap (λ w. next_in new w t) same ∙ joined.next.others t not_a not_b ∙ pool.alone r t in_range vacant
            | inr apart ↦ ap (λ (f : ℕ → ℕ). f t) (elsewhere-next new r q joined.elsewhere below apart) ∙ pool.alone q t below vacant
          ];
          room = subst (λ n. (held_count s ≤ s.room) × (s.room ≤ n) × (n < 2 ^ 32)) (sym slots) pool.room;
          grows = subst (λ n. (n ≡ s.room) ⊎ (n ≡ grown s.room)) (sym slots) pool.grows;
        }

    -- the rings that a contract sees after one was cut
    pub parts_cut : (t : Slots (Node T)) (new : Links) (later r : ℕ) (key : Key) → r < R
        → Cuts (next_in l r) (next_in new r) (prev_in l r) key.slot → IsLive (nodes_of s l issued) key
        → ((other : Key) → other ≢ key → value_at (nodes_of t new later) other ≡ value_at (nodes_of s l issued) other)
        → ((x : Key) → IsLive (nodes_of t new later) key → IsLive (nodes_of t new later) x → IsLive (nodes_of s l issued) x)
        → PartsFrom (nodes_of s l issued) (nodes_of t new later) r key
    parts_cut t new later r key in_range cuts live others before =
        let old_steps = next_slot-of s l issued r in let new_steps = next_slot-of t new later r in
        PartsFrom-cut (nodes_of s l issued) (nodes_of t new later) r key (prev_in l r)
        (subst (λ (f : ℕ → ℕ). IsMutual f (prev_in l r)) (sym old_steps) (pool.mutual-rings r in_range))
        (subst (λ (f : (ℕ → ℕ) × (ℕ → ℕ)). Cuts f.0 f.1 (prev_in l r) key.slot) (λ j. (sym old_steps j, sym new_steps j)) cuts) live others before

    -- keys that share no ring have no steps between their slots
    pub apart-steps : (r : ℕ) (a b : Key) → r < R → IsLive (nodes_of s l issued) a → IsLive (nodes_of s l issued) b
        → (SameRing (nodes_of s l issued) r a b → ⊥) → Reaches (next_in l r) a.slot b.slot → ⊥
    apart-steps r a b in_range live_a live_b apart steps =
        let same = sym (next_slot-of s l issued r) in
        let back : Reaches (next_in l r) b.slot a.slot = Reaches-sym (next_in l r) a.slot b.slot (comes_round r a.slot in_range) steps in
        apart (record {
          from = live_a;
          to = live_b;
          steps = subst (λ (f : ℕ → ℕ). Reaches f a.slot b.slot) same steps;
          back = subst (λ (f : ℕ → ℕ). Reaches f b.slot a.slot) same back;
        })

    -- the rings that a contract sees after two were joined
    pub unites_join : (new : Links) (r : ℕ) (a b : Key) → r < R → Splices (next_in l r) (next_in new r) a.slot b.slot
        → IsLive (nodes_of s l issued) a → IsLive (nodes_of s l issued) b
        → (SameRing (nodes_of s l issued) r a b → ⊥) → UnitesRings (nodes_of s l issued) (nodes_of s new issued) r a b
    unites_join new r a b in_range spliced live_a live_b apart =
        let old_steps = next_slot-of s l issued r in let new_steps = next_slot-of s new issued r in
        let a_to_b : Reaches (next_in l r) a.slot b.slot → ⊥ = apart-steps r a b in_range live_a live_b apart in
        let b_to_a : Reaches (next_in l r) b.slot a.slot → ⊥ =
        λ steps. a_to_b (Reaches-sym (next_in l r) b.slot a.slot (comes_round r b.slot in_range) steps) in
        UnitesRings-of (nodes_of s l issued) (nodes_of s new issued) r a b live_a live_b (λ _. refl)
        (subst (λ (f : (ℕ → ℕ) × (ℕ → ℕ)). Splices f.0 f.1 a.slot b.slot) (λ j. (sym old_steps j, sym new_steps j)) spliced)
        (subst (λ (f : ℕ → ℕ). (slot : ℕ) → Reaches f (f slot) slot) (sym old_steps) (λ slot. comes_round r slot in_range))
        (subst (λ (f : ℕ → ℕ). Reaches f a.slot b.slot → ⊥) (sym old_steps) a_to_b)
        (subst (λ (f : ℕ → ℕ). Reaches f b.slot a.slot → ⊥) (sym old_steps) b_to_a)

    -- the rings that a contract sees after a node came
    pub parts_fresh : (t : Slots (Node T)) (r : ℕ) (key : Key) → r < R → node_in s key.slot ≡ None → IsLive (nodes_of t l (issued + 1)) key
        → ((other : Key) → other ≢ key → value_at (nodes_of t l (issued + 1)) other ≡ value_at (nodes_of s l issued) other)
        → PartsFrom (nodes_of s l issued) (nodes_of t l (issued + 1)) r key
    parts_fresh t r key in_range vacant live others =
        PartsFrom-fresh (nodes_of s l issued) (nodes_of t l (issued + 1)) r key refl
        (ap (λ (f : ℕ → ℕ). f key.slot) (next_slot-of s l issued r) ∙ pool.alone r key.slot in_range vacant) live others

    -- the rings that a contract sees where the steps of a partition are the same
    pub same_rings : (t : Slots (Node T)) (new : Links) (r : ℕ) → t.slots ≡ s.slots
        → next_in new r ≡ next_in l r → SameRings (nodes_of s l issued) (nodes_of t new issued) r
    same_rings t new r slots steps =
        SameRings-of (nodes_of s l issued) (nodes_of t new issued) r (λ key. ap (λ xs. numbered key.number (get_or xs key.slot None)) slots)
        (next_slot-of t new issued r ∙ steps ∙ sym (next_slot-of s l issued r))

    pub IsPool-insert : (t : Slots (Node T)) (slot : ℕ) (node : Node T) → node.number ≡ issued → node_in s slot ≡ None
        → Updates s t slot (Some node) → slot < t.room → held_count t ≤ t.room → IsPool R t l (issued + 1)
    IsPool-insert t slot node number was_vacant updates in_range counted =
        let room : (s.room ≤ l.slots) × (l.slots < 2 ^ 32) = (pool.room.1, pool.room.2) in
        let same_room = updates.room in
        record {
          numbers = λ at other found. elim (cases_eq at slot) [
            | inl here ↦
                let one : node.number ≡ other.number = ap number_or (sym updates.changed ∙ ap (node_in t) (sym here) ∙ found) in
                omega arith
            | inr apart ↦ let below = pool.numbers at other (sym (updates.others at apart) ∙ found) in omega arith
          ];
          width = pool.width;
          covered = λ at held. elim (cases_eq at slot) [
            | inl here ↦ omega (arith, room.0)
            | inr apart ↦ pool.covered at (subst IsSome (updates.others at apart) held)
          ];
          mutual-rings = pool.mutual-rings;
          alone = λ r at below vacant. elim (cases_eq at slot) [
            | inl here ↦ absurd (true≢false (ap is_some (sym updates.changed ∙ ap (node_in t) (sym here) ∙ vacant)))
            | inr apart ↦ pool.alone r at below (sym (updates.others at apart) ∙ vacant)
          ];
          room = (counted, omega (arith, room.0), room.1);
          grows = subst (λ n. (l.slots ≡ n) ⊎ (l.slots ≡ grown n)) (sym same_room) pool.grows;
        }
      where
        number_or : Option (Node T) → ℕ
        number_or None = 0
        number_or (Some node) = node.number

    pub IsPool-take : (t : Slots (Node T)) (new : Links) (slot : ℕ) → IsCutAll l new slot R
        → Updates s t slot None → held_count t + 1 ≡ held_count s → IsPool R t new issued
    IsPool-take t new slot cut updates counted =
        let room = pool.room in
        record {
          numbers = λ at other found. elim (cases_eq at slot) [
            | inl here ↦ absurd (true≢false (ap is_some (sym found ∙ ap (node_in t) here ∙ updates.changed)))
            | inr apart ↦ pool.numbers at other (sym (updates.others at apart) ∙ found)
          ];
          width = cut.width ∙ pool.width;
          covered = λ at held. elim (cases_eq at slot) [
            | inl here ↦ absurd (true≢false (sym (subst IsSome (ap (node_in t) here ∙ updates.changed) held)))
            | inr apart ↦ subst (λ n. at < n) (sym cut.slots) (pool.covered at (subst IsSome (updates.others at apart) held))
          ];
          mutual-rings = λ r below.
              mutual_cut (next_in l r) (prev_in l r) (next_in new r) (prev_in new r) slot (pool.mutual-rings r below) (cut.next r below) (cut.prev r below);
          alone = λ r at below vacant. elim (cases_eq at slot) [
            | inl here ↦ ap (next_in new r) here ∙ (cut.next r below).at_a ∙ sym here
            | inr apart ↦
                let alone : next_in l r at ≡ at = pool.alone r at below (sym (updates.others at apart) ∙ vacant) in
                let not_before : at ≢ prev_in l r slot = λ e. apart (sym alone ∙ ap (next_in l r) e ∙ (pool.mutual-rings r below slot).1) in
                (cut.next r below).others at apart not_before ∙ alone
          ];
          room = (omega (arith, room.0, updates.room), omega (arith, room.1, updates.room, cut.slots), omega (arith, room.2, cut.slots));
          grows =
              subst (λ n. (n ≡ t.room) ⊎ (n ≡ grown t.room)) (sym cut.slots) (subst (λ n. (l.slots ≡ n) ⊎ (l.slots ≡ grown n)) (sym updates.room) pool.grows);
        }
