-- The index while clusters wait to be exchanged.
use Rattle.std.proofs.Common.{◌≡◌, ◌≢◌, ℕ, Bool, true, false, cond, not, ◌&&◌, List, [], ◌∷◌, ◌++◌, map, Option, None, Some, Contains, nat_eq, inl, inr, refl, sym, ap, ◌∙◌, subst}
use Rattle.std.proofs.lemmas.Bool.{cases_eq, false_from_ne_true}
use Rattle.std.specs.Cmp.{unsigned_Decides}
use Rattle.graphs.specs.Certificates.{Part}
use Rattle.lists.proofs.Entries.{Contains-head, Contains-later}
use Rattle.chunk_index.specs.declared.entry.Tag.{Tag}
use Rattle.chunk_index.specs.declared.key.Key.{Key}
use Rattle.chunk_index.specs.Items.{Items}
use Rattle.cluster_store.specs.Stores.{Stored, Exchange}
use Rattle.cluster_store.specs.Kept.{Slots, at, found, has_rate, tag_for, tag_wide, waiting_at, fresh, IsShown, IsSameIndex, IsWide, Enters, Leaves}
use Rattle.cluster_store.specs.Slots.{IsBeside, KeepsElsewhere}
use Rattle.cluster_store.proofs.Shown.{fresh_serial, fresh_has, fresh_here, fresh_elsewhere}

-- ---- what waits under a number

pub waiting_none : (xs : List Exchange) (m : ℕ) → (Contains (map (λ x. x.number) xs) m → ⊥) → waiting_at xs m ≡ []
waiting_none [] m none = refl
waiting_none (x ∷ xs) m none =
    ap (λ b. cond b x.cluster.parts (waiting_at xs m)) (false_from_ne_true (nat_eq x.number m) (λ e. none (here ((unsigned_Decides x.number m).0 e))))
    ∙ waiting_none xs m (λ later. none (Contains-later x.number m (map (λ y. y.number) xs) later))
  where
    here : x.number ≡ m → Contains (map (λ y. y.number) (x ∷ xs)) m
    here e = subst (Contains (map (λ y. y.number) (x ∷ xs))) e (Contains-head x.number (map (λ y. y.number) xs))

pub waiting_last : (xs : List Exchange) (y : Exchange) → (Contains (map (λ x. x.number) xs) y.number → ⊥) → waiting_at (xs ++ y ∷ []) y.number ≡ y.cluster.parts
waiting_last [] y none = ap (λ b. cond b y.cluster.parts []) ((unsigned_Decides y.number y.number).1 refl)
waiting_last (x ∷ xs) y none =
    ap (λ b. cond b x.cluster.parts (waiting_at (xs ++ y ∷ []) y.number))
    (false_from_ne_true (nat_eq x.number y.number) (λ e. none (here ((unsigned_Decides x.number y.number).0 e))))
    ∙ waiting_last xs y (λ later. none (Contains-later x.number y.number (map (λ z. z.number) xs) later))
  where
    here : x.number ≡ y.number → Contains (map (λ z. z.number) (x ∷ xs)) y.number
    here e = subst (Contains (map (λ z. z.number) (x ∷ xs))) e (Contains-head x.number (map (λ z. z.number) xs))

pub waiting_other : (xs : List Exchange) (y : Exchange) (m : ℕ) → m ≢ y.number → waiting_at (xs ++ y ∷ []) m ≡ waiting_at xs m
waiting_other [] y m other = ap (λ b. cond b y.cluster.parts []) (false_from_ne_true (nat_eq y.number m) (λ e. other (sym ((unsigned_Decides y.number m).0 e))))
waiting_other (x ∷ xs) y m other = ap (λ (ps : List Part). cond (nat_eq x.number m) x.cluster.parts ps) (waiting_other xs y m other)

-- ---- nothing waits

alone : (b : Bool) (t : Tag) → cond b (Some t) None ≡ cond b (Some t) (cond false (Some t) None)
alone true t = refl
alone false t = refl

wide_alone : (o : Option Stored) (k : Key) → tag_for o k ≡ tag_wide o [] k
unfolding has_rate
wide_alone None k = refl
wide_alone (Some s) k = alone (has_rate s.cluster.parts k) s.tag

pub wide_begins : (slots : Slots) (items : Items) → IsShown slots items → IsWide slots [] items
wide_begins slots items shown = record { sorted = shown.sorted; tags = λ k. shown.tags k ∙ wide_alone (at slots k.serial) k }

pub wide_ends : (slots : Slots) (items : Items) → IsWide slots [] items → IsShown slots items
wide_ends slots items wide = record { sorted = wide.sorted; tags = λ k. wide.tags k ∙ sym (wide_alone (at slots k.serial) k) }

-- ---- one more waits, or one fewer

module _ (slots : Slots) (xs : List Exchange) (y : Exchange) (apart : Contains (map (λ x. x.number) xs) y.number → ⊥) where
  pub beside_before : (items : Items) → IsWide slots xs items → IsBeside slots y.number [] items
  beside_before items wide = record {
    tags = λ k serial.
        wide.tags k ∙ ap (λ m. tag_wide (at slots m) (waiting_at xs m) k) serial
        ∙ ap (λ (ps : List Part). tag_wide (at slots y.number) ps k) (waiting_none xs y.number apart);
  }

  pub beside_last : (items : Items) → IsWide slots (xs ++ y ∷ []) items → IsBeside slots y.number y.cluster.parts items
  beside_last items wide = record {
    tags = λ k serial.
        wide.tags k ∙ ap (λ m. tag_wide (at slots m) (waiting_at (xs ++ y ∷ []) m) k) serial
        ∙ ap (λ (ps : List Part). tag_wide (at slots y.number) ps k) (waiting_last xs y apart);
  }

  pub wide_more : (items items' : Items) → IsWide slots xs items → IsBeside slots y.number y.cluster.parts items' → KeepsElsewhere y.number items items'
      → IsWide slots (xs ++ y ∷ []) items'
  wide_more items items' wide here others = record {
    sorted = others.sorted wide.sorted;
    tags = λ k. elim (cases_eq k.serial y.number) [
      | inl serial ↦
          here.tags k serial ∙ sym (ap (λ m. tag_wide (at slots m) (waiting_at (xs ++ y ∷ []) m) k) serial
          ∙ ap (λ (ps : List Part). tag_wide (at slots y.number) ps k) (waiting_last xs y apart))
      | inr other ↦ others.tags k other ∙ wide.tags k ∙ ap (λ (ps : List Part). tag_wide (at slots k.serial) ps k) (sym (waiting_other xs y k.serial other))
    ];
  }

  -- its entries went out, and under its number stands what stands there now
  pub wide_fewer : (slots' : Slots) (items items' : Items) → IsWide slots (xs ++ y ∷ []) items → ((m : ℕ) → m ≢ y.number → at slots' m ≡ at slots m)
      → IsBeside slots' y.number [] items' → KeepsElsewhere y.number items items' → IsWide slots' xs items'
  wide_fewer slots' items items' wide same here others = record {
    sorted = others.sorted wide.sorted;
    tags = λ k. elim (cases_eq k.serial y.number) [
      | inl serial ↦
          here.tags k serial ∙ sym (ap (λ m. tag_wide (at slots' m) (waiting_at xs m) k) serial
          ∙ ap (λ (ps : List Part). tag_wide (at slots' y.number) ps k) (waiting_none xs y.number apart))
      | inr other ↦
          others.tags k other ∙ wide.tags k ∙ ap (λ (ps : List Part). tag_wide (at slots k.serial) ps k) (waiting_other xs y k.serial other)
          ∙ ap (λ o. tag_wide o (waiting_at xs k.serial) k) (sym (same k.serial other))
    ];
  }

-- ---- the entries of one

pub keeps_entered : (n : ℕ) (tag : Tag) (ps qs : List Part) (old new : Items) → Enters n tag ps qs old new → KeepsElsewhere n old new
keeps_entered n tag ps qs old new enters = record {
  sorted = enters.sorted;
  tags = λ k other. enters.tags k ∙ ap (λ b. cond b (Some tag) (found old k)) (fresh_elsewhere n ps qs k other);
}

pub keeps_left : (n : ℕ) (ps qs : List Part) (old new : Items) → Leaves n ps qs old new → KeepsElsewhere n old new
keeps_left n ps qs old new leaves = record {
  sorted = leaves.sorted;
  tags = λ k other. leaves.tags k ∙ ap (λ b. cond b None (found old k)) (fresh_elsewhere n ps qs k other);
}

entered : (a b : Bool) (t : Tag) → cond (b && not a) (Some t) (cond a (Some t) None) ≡ cond a (Some t) (cond b (Some t) None)
entered true true t = refl
entered true false t = refl
entered false true t = refl
entered false false t = refl

left : (a b : Bool) (t : Tag) → cond (b && not a) None (cond a (Some t) (cond b (Some t) None)) ≡ cond a (Some t) None
left true true t = refl
left true false t = refl
left false true t = refl
left false false t = refl

replaced : (a b : Bool) (t : Tag) → cond (a && not b) None (cond a (Some t) (cond b (Some t) None)) ≡ cond b (Some t) None
replaced true true t = refl
replaced true false t = refl
replaced false true t = refl
replaced false false t = refl

second : (a b : Bool) (t : Tag) → b ≡ true → cond a (Some t) (cond b (Some t) None) ≡ Some t
second true b t is = refl
second false true t is = refl
second false false t is = absurd (apart is)
  where
    apart : false ≡ true → ⊥
    apart e = cc

first : (a : Bool) (o : Option Tag) (t : Tag) → a ≡ true → cond a (Some t) o ≡ Some t
first true o t is = refl
first false o t is = absurd (apart is)
  where
    apart : false ≡ true → ⊥
    apart e = cc

lacks : (a b : Bool) (t : Tag) → (b && not a) ≡ true → cond a (Some t) None ≡ None
lacks true true t is = absurd (apart is)
  where
    apart : false ≡ true → ⊥
    apart e = cc
lacks true false t is = absurd (apart is)
  where
    apart : false ≡ true → ⊥
    apart e = cc
lacks false b t is = refl

module _ (slots : Slots) (n : ℕ) (s : Stored) (is : at slots n ≡ Some s) (ps : List Part) (items : Items) where
  tag_alone : IsBeside slots n [] items → (k : Key) → k.serial ≡ n → found items k ≡ cond (has_rate s.cluster.parts k) (Some s.tag) None
  tag_alone beside k serial = beside.tags k serial ∙ ap (λ o. tag_wide o [] k) is ∙ sym (wide_alone (Some s) k)

  tag_both : IsBeside slots n ps items → (k : Key) → k.serial ≡ n
      → found items k ≡ cond (has_rate s.cluster.parts k) (Some s.tag) (cond (has_rate ps k) (Some s.tag) None)
  tag_both beside k serial = beside.tags k serial ∙ ap (λ o. tag_wide o ps k) is

  -- in
  pub enter_lacks : IsBeside slots n [] items → (k : Key) → fresh n ps s.cluster.parts k ≡ true → found items k ≡ None
  enter_lacks beside k f =
      let serial = fresh_serial n ps s.cluster.parts k f in
      tag_alone beside k serial ∙ lacks (has_rate s.cluster.parts k) (has_rate ps k) s.tag (sym (fresh_here n ps s.cluster.parts k serial) ∙ f)

  pub enters_beside : (items' : Items) → IsBeside slots n [] items → Enters n s.tag ps s.cluster.parts items items' → IsBeside slots n ps items'
  enters_beside items' beside enters = record {
    tags = λ k serial.
        enters.tags k ∙ ap (λ b. cond b (Some s.tag) (found items k)) (fresh_here n ps s.cluster.parts k serial)
        ∙ ap (λ o. cond (has_rate ps k && not (has_rate s.cluster.parts k)) (Some s.tag) o) (tag_alone beside k serial)
        ∙ entered (has_rate s.cluster.parts k) (has_rate ps k) s.tag ∙ sym (ap (λ o. tag_wide o ps k) is);
  }

  -- out again
  pub leave_has : IsBeside slots n ps items → (k : Key) → fresh n ps s.cluster.parts k ≡ true → found items k ≡ Some s.tag
  leave_has beside k f =
      tag_both beside k (fresh_serial n ps s.cluster.parts k f)
      ∙ second (has_rate s.cluster.parts k) (has_rate ps k) s.tag (fresh_has n ps s.cluster.parts k f)

  pub leaves_beside : (items' : Items) → IsBeside slots n ps items → Leaves n ps s.cluster.parts items items' → IsBeside slots n [] items'
  leaves_beside items' beside leaves = record {
    tags = λ k serial.
        leaves.tags k ∙ ap (λ b. cond b None (found items k)) (fresh_here n ps s.cluster.parts k serial)
        ∙ ap (λ o. cond (has_rate ps k && not (has_rate s.cluster.parts k)) None o) (tag_both beside k serial)
        ∙ left (has_rate s.cluster.parts k) (has_rate ps k) s.tag ∙ wide_alone (Some s) k ∙ sym (ap (λ o. tag_wide o [] k) is);
  }

  -- the other ones out
  pub gone_has : IsBeside slots n ps items → (k : Key) → fresh n s.cluster.parts ps k ≡ true → found items k ≡ Some s.tag
  gone_has beside k f =
      tag_both beside k (fresh_serial n s.cluster.parts ps k f)
      ∙ first (has_rate s.cluster.parts k) (cond (has_rate ps k) (Some s.tag) None) s.tag (fresh_has n s.cluster.parts ps k f)

  pub replaces : (slots' : Slots) (t : Stored) (items' : Items) → at slots' n ≡ Some t → t.cluster.parts ≡ ps → t.tag ≡ s.tag → IsBeside slots n ps items
      → Leaves n s.cluster.parts ps items items' → IsBeside slots' n [] items'
  replaces slots' t items' now same tag beside leaves = record {
    tags = λ k serial.
        leaves.tags k ∙ ap (λ b. cond b None (found items k)) (fresh_here n s.cluster.parts ps k serial)
        ∙ ap (λ o. cond (has_rate s.cluster.parts k && not (has_rate ps k)) None o) (tag_both beside k serial)
        ∙ replaced (has_rate s.cluster.parts k) (has_rate ps k) s.tag
        ∙ ap (λ (qs : List Part). cond (has_rate qs k) (Some s.tag) None) (sym same)
        ∙ ap (λ u. cond (has_rate t.cluster.parts k) (Some u) None) (sym tag)
        ∙ wide_alone (Some t) k ∙ sym (ap (λ o. tag_wide o [] k) now);
  }

pub wide_same : (slots : Slots) (xs : List Exchange) (items items' : Items) → IsWide slots xs items → IsSameIndex items items' → IsWide slots xs items'
wide_same slots xs items items' wide same = record { sorted = same.sorted wide.sorted; tags = λ k. same.tags k ∙ wide.tags k }
