-- What a change of steps does to the rings that a contract sees.
use Rattle.std.proofs.Common.{◌≡◌, ◌≢◌, ◌⊎◌, ℕ, zero, suc, Option, Some, None, IsSome, refl, sym, ap, subst, ◌∙◌, inl, inr, cond, true≢false}
use Rattle.std.proofs.lemmas.Bool.Decides.{eqb_tells}
use Rattle.node_pool.specs.Cycles.{walked, Reaches, IsMutual, Splices, Cuts}
use Rattle.node_pool.proofs.Cycles.{Reaches-sym}
use Rattle.node_pool.proofs.Joins.{Unites, Unites-from_joined, joined-from_Unites, uncut, recut, cut_alone}
use Rattle.node_pool.specs.declared.pool.Key.{Key}
use Rattle.node_pool.specs.declared.pool.Node.{Node}
use Rattle.node_pool.specs.Nodes.{Nodes, numbered, node_at, value_at, IsLive, next_slot, SameRing, SameValues, SameRings, PartsFrom, UnitesRings}

-- a walk from a slot that steps to itself stays there
walk_stays : (f : ℕ → ℕ) (s t : ℕ) → f s ≡ s → Reaches f s t → t ≡ s
walk_stays f s t still (k, e) = sym e ∙ along k
  where
    along : (k : ℕ) → walked f k s ≡ s
    along zero = refl
    along (suc k) = ap (walked f k) still ∙ along k

module _ {T : Type 0} where
  -- a slot whose node has the number
  pub numbered-some : (number : ℕ) (o : Option (Node T)) → IsSome (numbered number o) → (node : Node T) × (o ≡ Some node) × (node.number ≡ number)
  numbered-some number None some = absurd (true≢false (sym some))
  numbered-some number (Some node) some =
      elim (eqb_tells node.number number) [
        | inl same ↦ (node, refl, same.1)
        | inr differs ↦ absurd (true≢false (sym (subst (λ b. IsSome (cond b (Some node.value) None)) differs.0 some)))
      ]

  pub numbered-same : (number : ℕ) (node : Node T) → node.number ≡ number → numbered number (Some node) ≡ Some node.value
  numbered-same number node same =
      elim (eqb_tells node.number number) [
        | inl equal ↦ ap (λ b. cond b (Some node.value) None) equal.0
        | inr differs ↦ absurd (differs.1 same)
      ]

  pub numbered-other : (number : ℕ) (node : Node T) → node.number ≢ number → numbered number (Some node) ≡ None
  numbered-other number node apart =
      elim (eqb_tells node.number number) [
        | inl equal ↦ absurd (apart equal.1)
        | inr differs ↦ ap (λ b. cond b (Some node.value) None) differs.0
      ]

  -- two live keys of one slot are one
  pub key-unique : (n : Nodes T) (x y : Key) → IsLive n x → IsLive n y → x.slot ≡ y.slot → x ≡ y
  key-unique n x y live_x live_y same =
      let here = numbered-some x.number (node_at n x.slot) live_x in
      let there = numbered-some y.number (node_at n y.slot) live_y in
      let one : Some here.0 ≡ Some there.0 = sym here.1 ∙ ap (node_at n) same ∙ there.1 in
      let number : x.number ≡ y.number = sym here.2 ∙ number-is (Some here.0) (Some there.0) one ∙ there.2 in
      λ j. record { slot = same j; number = number j }
    where
      number_or : Option (Node T) → ℕ
      number_or None = 0
      number_or (Some node) = node.number

      number-is : (a b : Option (Node T)) → a ≡ b → number_or a ≡ number_or b
      number-is a b e = ap number_or e

  -- the same values and steps make the same rings
  pub SameRings-of : (old new : Nodes T) (r : ℕ) → SameValues old new → next_slot new r ≡ next_slot old r → SameRings old new r
  SameRings-of old new r same steps x y = (
    λ ring.
        record {
          from = subst IsSome (same x) ring.from;
          to = subst IsSome (same y) ring.to;
          steps = subst (λ f. Reaches f x.slot y.slot) steps ring.steps;
          back = subst (λ f. Reaches f y.slot x.slot) steps ring.back;
        },
    λ ring.
        record {
          from = subst IsSome (sym (same x)) ring.from;
          to = subst IsSome (sym (same y)) ring.to;
          steps = subst (λ f. Reaches f x.slot y.slot) (sym steps) ring.steps;
          back = subst (λ f. Reaches f y.slot x.slot) (sym steps) ring.back;
        },
  )

  pub SameRings-trans : (first mid last : Nodes T) (r : ℕ) → SameRings first mid r → SameRings mid last r → SameRings first last r
  SameRings-trans first mid last r one two x y = (λ ring. (one x y).0 ((two x y).0 ring), λ ring. (two x y).1 ((one x y).1 ring))

  module _ (old new : Nodes T) (r : ℕ) (a b : Key) (live_a : IsLive old a) (live_b : IsLive old b)
      (same : SameValues old new) (spliced : Splices (next_slot old r) (next_slot new r) a.slot b.slot)
      (round : (s : ℕ) → Reaches (next_slot old r) (next_slot old r s) s)
      (a_to_b : Reaches (next_slot old r) a.slot b.slot → ⊥) (b_to_a : Reaches (next_slot old r) b.slot a.slot → ⊥) where
    abbrev p : ℕ → ℕ
    p = next_slot old r

    abbrev United : Key → Key → Type 0
    United x y = SameRing old r x y ⊎ (SameRing old r x a × SameRing old r b y) ⊎ (SameRing old r x b × SameRing old r a y)

    ring-of : (x y : Key) → IsLive old x → IsLive old y → Reaches p x.slot y.slot → SameRing old r x y
    ring-of x y live_x live_y steps = record { from = live_x; to = live_y; steps = steps; back = Reaches-sym p x.slot y.slot (round x.slot) steps }

    forth : (x y : Key) → IsLive old x → IsLive old y → Unites p a.slot b.slot x.slot y.slot → United x y
    forth x y live_x live_y (inl direct) = inl (ring-of x y live_x live_y direct)
    forth x y live_x live_y (inr (inl over)) = inr (inl (ring-of x a live_x live_a over.0, ring-of b y live_b live_y over.1))
    forth x y live_x live_y (inr (inr over)) = inr (inr (ring-of x b live_x live_b over.0, ring-of a y live_a live_y over.1))

    back : (x y : Key) → United x y → IsLive old x × IsLive old y × Unites p a.slot b.slot x.slot y.slot × Unites p a.slot b.slot y.slot x.slot
    back x y (inl ring) = (ring.from, ring.to, inl ring.steps, inl ring.back)
    back x y (inr (inl rings)) = (rings.0.from, rings.1.to, inr (inl (rings.0.steps, rings.1.steps)), inr (inr (rings.1.back, rings.0.back)))
    back x y (inr (inr rings)) = (rings.0.from, rings.1.to, inr (inr (rings.0.steps, rings.1.steps)), inr (inl (rings.1.back, rings.0.back)))

    joined : (s t : ℕ) → Unites p a.slot b.slot s t → Reaches (next_slot new r) s t
    joined = joined-from_Unites p (next_slot new r) a.slot b.slot spliced (round a.slot) (round b.slot) a_to_b b_to_a

    pub UnitesRings-of : UnitesRings old new r a b
    UnitesRings-of x y = (
      λ ring. forth x y (subst IsSome (same x) ring.from) (subst IsSome (same y) ring.to)
          (Unites-from_joined p (next_slot new r) a.slot b.slot spliced x.slot y.slot ring.steps),
      λ united. let parts = back x y united in
          record {
            from = subst IsSome (sym (same x)) parts.0;
            to = subst IsSome (sym (same y)) parts.1;
            steps = joined x.slot y.slot parts.2;
            back = joined y.slot x.slot parts.3;
          },
    )

  -- a slot cut out of its ring parts its key from the others
  pub PartsFrom-cut : (old new : Nodes T) (r : ℕ) (key : Key) (q : ℕ → ℕ) → IsMutual (next_slot old r) q
      → Cuts (next_slot old r) (next_slot new r) q key.slot → IsLive old key
      → ((other : Key) → other ≢ key → value_at new other ≡ value_at old other)
      → ((x : Key) → IsLive new key → IsLive new x → IsLive old x) → PartsFrom old new r key
  PartsFrom-cut old new r key q mutual-pq cuts live others before =
      record {
        alone = λ x ring.
            key-unique old x key (before x ring.from ring.to) live (cut_alone (next_slot old r) q (next_slot new r) mutual-pq key.slot cuts x.slot ring.steps);
        others = λ x y not_x not_y. (
          λ ring.
              let live_x = subst IsSome (others x not_x) ring.from in
              let live_y = subst IsSome (others y not_y) ring.to in
              record {
                from = live_x;
                to = live_y;
                steps = (uncut (next_slot old r) q (next_slot new r) mutual-pq key.slot cuts x.slot y.slot
                    (λ e. not_x (key-unique old x key live_x live e)) ring.steps).1;
                back = (uncut (next_slot old r) q (next_slot new r) mutual-pq key.slot cuts y.slot x.slot
                    (λ e. not_y (key-unique old y key live_y live e)) ring.back).1;
              },
          λ ring.
              record {
                from = subst IsSome (sym (others x not_x)) ring.from;
                to = subst IsSome (sym (others y not_y)) ring.to;
                steps = recut (next_slot old r) q (next_slot new r) mutual-pq key.slot cuts x.slot y.slot
                    (λ e. not_x (key-unique old x key ring.from live e)) (λ e. not_y (key-unique old y key ring.to live e)) ring.steps;
                back = recut (next_slot old r) q (next_slot new r) mutual-pq key.slot cuts y.slot x.slot
                    (λ e. not_y (key-unique old y key ring.to live e)) (λ e. not_x (key-unique old x key ring.from live e)) ring.back;
              },
        );
      }

  -- a new key of a slot that steps to itself is alone
  pub PartsFrom-fresh : (old new : Nodes T) (r : ℕ) (key : Key) → next_slot new r ≡ next_slot old r → next_slot old r key.slot ≡ key.slot → IsLive new key
      → ((other : Key) → other ≢ key → value_at new other ≡ value_at old other) → PartsFrom old new r key
  PartsFrom-fresh old new r key steps still live others =
      record {
        alone = λ x ring.
            key-unique new x key ring.to live (walk_stays (next_slot old r) key.slot x.slot still (subst (λ f. Reaches f key.slot x.slot) steps ring.steps));
        others = λ x y not_x not_y. (
          λ ring.
              record {
                from = subst IsSome (others x not_x) ring.from;
                to = subst IsSome (others y not_y) ring.to;
                steps = subst (λ f. Reaches f x.slot y.slot) steps ring.steps;
                back = subst (λ f. Reaches f y.slot x.slot) steps ring.back;
              },
          λ ring.
              record {
                from = subst IsSome (sym (others x not_x)) ring.from;
                to = subst IsSome (sym (others y not_y)) ring.to;
                steps = subst (λ f. Reaches f x.slot y.slot) (sym steps) ring.steps;
                back = subst (λ f. Reaches f y.slot x.slot) (sym steps) ring.back;
              },
        );
      }
