-- Which key comes after which, once nodes and links have changed.
use Rattle.std.proofs.Common.{◌≡◌, ◌≢◌, ℕ, ◌<◌, List, get_or, Option, Some, None, IsSome, refl, sym, ap, subst, ◌∙◌, true≢false}
use Rattle.node_pool.specs.Cycles.{Splices, Cuts}
use Rattle.node_pool.specs.Slots.{Slots, node_in, Updates}
use Rattle.node_pool.specs.Links.{Links, next_in, prev_in}
use Rattle.node_pool.specs.declared.pool.Key.{Key}
use Rattle.node_pool.specs.declared.pool.Node.{Node}
use Rattle.node_pool.specs.Nodes.{Nodes, number_of, IsLive, next_key, SameOrder, ExchangesNext, PassesOver}
use Rattle.node_pool.specs.Pool.{nodes_of, IsPool}
use Rattle.node_pool.proofs.RingLemmas.{key-unique}
use Rattle.node_pool.proofs.PoolLemmas.{next_slot-of, IsHeld-of_live, next-one, next-held}
use Rattle.node_pool.proofs.WalkLemmas.{key_in-live}

module _ {T : Type 0} where
  -- the key of the node in a slot
  abbrev key_from : Slots (Node T) → ℕ → Key
  key_from s slot = record { slot = slot; number = number_of (node_in s slot) }

  key_from-same : (s t : Slots (Node T)) (slot : ℕ) → node_in t slot ≡ node_in s slot → key_from t slot ≡ key_from s slot
  key_from-same s t slot same = λ j. record { slot = slot; number = number_of (same j) }

  -- the key after one has the slot that the links lead to
  next_key-of : (s : Slots (Node T)) (l : Links) (issued r : ℕ) (key : Key) → next_key (nodes_of s l issued) r key ≡ key_from s (next_in l r key.slot)
  next_key-of s l issued r key = ap (λ (f : ℕ → ℕ). key_from s (f key.slot)) (next_slot-of s l issued r)

  same-next : (s t : Slots (Node T)) (l m : Links) (issued later r : ℕ) (x : Key) → next_in m r x.slot ≡ next_in l r x.slot
      → node_in t (next_in l r x.slot) ≡ node_in s (next_in l r x.slot) → next_key (nodes_of t m later) r x ≡ next_key (nodes_of s l issued) r x
  same-next s t l m issued later r x steps node =
      next_key-of t m later r x ∙ ap (key_from t) steps ∙ key_from-same s t (next_in l r x.slot) node ∙ sym (next_key-of s l issued r x)

  -- the same nodes and links of a partition
  pub SameOrder-of : (s t : Slots (Node T)) (l m : Links) (issued later r : ℕ) → t.slots ≡ s.slots → next_in m r ≡ next_in l r
      → SameOrder (nodes_of s l issued) (nodes_of t m later) r
  SameOrder-of s t l m issued later r slots steps key _ =
      same-next s t l m issued later r key (ap (λ (f : ℕ → ℕ). f key.slot) steps)
      (ap (λ (u : List (Option (Node T))). get_or u (next_in l r key.slot) None) slots)

  pub SameOrder-trans : (first mid last : Nodes T) (r : ℕ) → ((key : Key) → IsLive first key → IsLive mid key) → SameOrder first mid r
      → SameOrder mid last r → SameOrder first last r
  SameOrder-trans first mid last r stays one two key live = two key (stays key live) ∙ one key live

  module _ (R : ℕ) (s : Slots (Node T)) (l : Links) (issued : ℕ) (pool : IsPool R s l issued) where
    abbrev old : Nodes T
    old = nodes_of s l issued

    slots-apart : (x y : Key) → IsLive old x → IsLive old y → x ≢ y → x.slot ≢ y.slot
    slots-apart x y live_x live_y differs same = differs (key-unique old x y live_x live_y same)

    -- the links of two keys are exchanged
    pub ExchangesNext-of : (m : Links) (r : ℕ) (a b : Key) → Splices (next_in l r) (next_in m r) a.slot b.slot → IsLive old a → IsLive old b
        → ExchangesNext old (nodes_of s m issued) r a b
    ExchangesNext-of m r a b spliced live_a live_b =
        let leads = next_key-of s l issued r in let now = next_key-of s m issued r in
        record {
          at_a = now a ∙ ap (key_from s) spliced.at_a ∙ sym (leads b);
          at_b = now b ∙ ap (key_from s) spliced.at_b ∙ sym (leads a);
          others = λ x live_x not_a not_b.
              let steps = spliced.others x.slot (slots-apart x a live_x live_a not_a) (slots-apart x b live_x live_b not_b) in
              same-next s s l m issued issued r x steps refl;
        }

    -- a slot is cut out of its ring, and no other slot's node changes
    pub PassesOver-of : (t : Slots (Node T)) (m : Links) (later r : ℕ) (key : Key) → r < R → Cuts (next_in l r) (next_in m r) (prev_in l r) key.slot
        → IsLive old key
        → ((slot : ℕ) → slot ≢ key.slot → node_in t slot ≡ node_in s slot) → PassesOver old (nodes_of t m later) r key
    PassesOver-of t m later r key below cuts live same =
        let leads = next_key-of s l issued r in let now = next_key-of t m later r in
        record {
          past = λ x live_x differs before.
              let apart = slots-apart x key live_x live differs in
              let steps : next_in l r x.slot ≡ key.slot = ap (λ (k : Key). k.slot) (sym (leads x) ∙ before) in
              let back : prev_in l r key.slot ≡ x.slot = ap (prev_in l r) (sym steps) ∙ (pool.mutual-rings r below x.slot).0 in
              let past : next_in m r x.slot ≡ next_in l r key.slot =
              ap (next_in m r) (sym back) ∙ cuts.past (λ e. apart (sym back ∙ e)) in
              let on : next_in l r key.slot ≢ key.slot = λ e. apart (next-one R s l issued pool r below x.slot key.slot (steps ∙ sym e)) in
              now x ∙ ap (key_from t) past ∙ key_from-same s t (next_in l r key.slot) (same (next_in l r key.slot) on) ∙ sym (leads key);
          others = λ x live_x differs on.
              let apart = slots-apart x key live_x live differs in
              let off : next_in l r x.slot ≢ key.slot = λ e. on (leads x ∙ ap (key_from s) e ∙ key_in-live old r key live) in
              let not_before : x.slot ≢ prev_in l r key.slot = λ e. off (ap (next_in l r) e ∙ (pool.mutual-rings r below key.slot).1) in
              same-next s t l m issued later r x (cuts.others x.slot apart not_before) (same (next_in l r x.slot) off);
        }

    -- a key whose slot steps to itself comes after itself
    pub next_key-alone : (m : Links) (later r : ℕ) (key : Key) → next_in m r key.slot ≡ key.slot → IsLive (nodes_of s m later) key
        → next_key (nodes_of s m later) r key ≡ key
    next_key-alone m later r key alone live =
        next_key-of s m later r key ∙ ap (key_from s) alone ∙ key_in-live (nodes_of s m later) r key live

    -- a node came into a vacant slot
    pub SameOrder-insert : (t : Slots (Node T)) (later r slot : ℕ) (node : Node T) → r < R → node_in s slot ≡ None → Updates s t slot (Some node)
        → SameOrder old (nodes_of t l later) r
    SameOrder-insert t later r slot node below vacant updates x live =
        let held = next-held R s l issued pool r below x.slot (IsHeld-of_live s l issued x live) in
        let other : next_in l r x.slot ≢ slot = λ e. true≢false (sym (subst IsSome (ap (node_in s) e ∙ vacant) held)) in
        same-next s t l l issued later r x refl (updates.others (next_in l r x.slot) other)

    pub next_key-insert : (t : Slots (Node T)) (later r slot : ℕ) (node : Node T) → r < R → node_in s slot ≡ None → Updates s t slot (Some node)
        → next_key (nodes_of t l later) r (record { slot = slot; number = node.number }) ≡ record { slot = slot; number = node.number }
    next_key-insert t later r slot node below vacant updates =
        next_key-of t l later r (record { slot = slot; number = node.number })
        ∙ ap (key_from t) (pool.alone r slot below vacant)
        ∙ (λ j. record { slot = slot; number = number_of (updates.changed j) })
