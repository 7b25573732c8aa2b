-- Which names share a ring, once nodes and keys have changed.
use Rattle.std.proofs.Common.{◌≡◌, ◌≢◌, ◌⊎◌, ◌↔◌, ℕ, ◌<◌, List, Some, None, refl, sym, ap, subst, ◌∙◌, inl, inr}
use Rattle.std.proofs.lemmas.Bool.{cases_eq}
use Rattle.std.proofs.lemmas.Option.{none-some}
use Rattle.node_pool.specs.declared.pool.Key.{Key}
use Rattle.node_pool.specs.Nodes.{Nodes, SameRing, SameRings, PartsFrom, UnitesRings}
use Rattle.node_pool.specs.Laws.{RingsGoRound}
use Rattle.node_pool.proofs.Callers.{SameRing-refl}
use Rattle.name_book.specs.Books.{Table, AreRung}
use Rattle.name_book.specs.Changes.{KeepsRing}
use Rattle.name_book.specs.Tables.{key_of, table_of, AreKeys}
use Rattle.name_book.proofs.TableLemmas.{named-key, live-own, one_name, rung-keys, keys-rung}

module _ (nodes new : Nodes ℕ) (es now : List (ℕ × Key)) (own : AreKeys nodes es) (owned : AreKeys new now) (rings : RingsGoRound 2 nodes)
    (round : RingsGoRound 2 new)
    (spare later r : ℕ) (below : r < 2) where
  abbrev old : Table
  old = table_of nodes es spare

  abbrev fresh : Table
  fresh = table_of new now later

  -- where two names keep their keys, they share a ring if the keys do
  forth : (x y : ℕ) → key_of now x ≡ key_of es x → key_of now y ≡ key_of es y
      → ((a b : Key) → key_of es x ≡ Some a → key_of es y ≡ Some b → SameRing new r a b → SameRing nodes r a b) → AreRung fresh r x y
      → AreRung old r x y
  forth x y keep_x keep_y ring rung =
      let a = named-key new now later x rung.from in let b = named-key new now later y rung.to in
      let has_a = sym keep_x ∙ a.1 in let has_b = sym keep_y ∙ b.1 in
      keys-rung nodes es own rings spare r below x y a.0 b.0 has_a has_b
      (ring a.0 b.0 has_a has_b (rung-keys new now owned round later r below x y a.0 b.0 a.1 b.1 rung))

  back : (x y : ℕ) → key_of now x ≡ key_of es x → key_of now y ≡ key_of es y
      → ((a b : Key) → key_of es x ≡ Some a → key_of es y ≡ Some b → SameRing nodes r a b → SameRing new r a b) → AreRung old r x y
      → AreRung fresh r x y
  back x y keep_x keep_y ring rung =
      let a = named-key nodes es spare x rung.from in let b = named-key nodes es spare y rung.to in
      keys-rung new now owned round later r below x y a.0 b.0 (keep_x ∙ a.1) (keep_y ∙ b.1)
      (ring a.0 b.0 a.1 b.1 (rung-keys nodes es own rings spare r below x y a.0 b.0 a.1 b.1 rung))

  -- A name whose key is parted from the others, where every other name keeps its key and no other name has this one.
  module _ (id : ℕ) (key : Key) (parts : PartsFrom nodes new r key) (keeps : (x : ℕ) → x ≢ id → key_of now x ≡ key_of es x)
      (differs : (x : ℕ) (other : Key) → x ≢ id → key_of es x ≡ Some other → other ≢ key) where
    pub others-forth : (x y : ℕ) → x ≢ id → y ≢ id → AreRung fresh r x y → AreRung old r x y
    others-forth x y not_x not_y = forth x y (keeps x not_x) (keeps y not_y)
        (λ a b has_a has_b. (parts.others a b (differs x a not_x has_a) (differs y b not_y has_b)).0)

    pub others-back : (x y : ℕ) → x ≢ id → y ≢ id → AreRung old r x y → AreRung fresh r x y
    others-back x y not_x not_y = back x y (keeps x not_x) (keeps y not_y)
        (λ a b has_a has_b. (parts.others a b (differs x a not_x has_a) (differs y b not_y has_b)).1)

    -- where the name is live then, it shares no ring
    module _ (here : key_of now id ≡ Some key) where
      alone : (y : ℕ) → AreRung fresh r id y → y ≡ id
      alone y rung =
          let b = named-key new now later y rung.to in
          let same = parts.alone b.0 (rung-keys new now owned round later r below id y key b.0 here b.1 rung) in
          one_name new now owned y id key (b.1 ∙ ap Some same) here

      turned : (x y : ℕ) → AreRung fresh r x y → AreRung fresh r y x
      turned x y rung = record { from = rung.to; to = rung.from; steps = rung.back; back = rung.steps }

      pub itself : (x y : ℕ) → (x ≡ id) × (y ≡ id) → AreRung fresh r x y
      itself x y both =
          let ring = SameRing-refl new r key (live-own new now owned id key here) in
          let rung : AreRung fresh r id id = keys-rung new now owned round later r below id id key key here here ring in
          subst (λ (p : ℕ × ℕ). AreRung fresh r p.0 p.1) (λ j. (sym both.0 j, sym both.1 j)) rung

      pub parted : (x y : ℕ) → AreRung fresh r x y → (AreRung old r x y × x ≢ id × y ≢ id) ⊎ ((x ≡ id) × (y ≡ id))
      parted x y rung =
          elim (cases_eq x id) [
            | inl same ↦ inr (same, alone y (subst (λ z. AreRung fresh r z y) same rung))
            | inr not_x ↦ elim (cases_eq y id) [
              | inl same ↦ absurd (not_x (alone x (turned x id (subst (λ z. AreRung fresh r x z) same rung))))
              | inr not_y ↦ inl (others-forth x y not_x not_y rung, not_x, not_y)
            ]
          ]

      pub cut-rungs : (x y : ℕ) → AreRung fresh r x y ↔ ((AreRung old r x y × x ≢ id × y ≢ id) ⊎ ((x ≡ id) × (y ≡ id)))
      cut-rungs x y = (parted x y, together)
        where
          together : (AreRung old r x y × x ≢ id × y ≢ id) ⊎ ((x ≡ id) × (y ≡ id)) → AreRung fresh r x y
          together (inl (rung, not_x, not_y)) = others-back x y not_x not_y rung
          together (inr both) = itself x y both

      -- where it had no key before
      pub gained-rungs : key_of es id ≡ None → (x y : ℕ) → AreRung fresh r x y ↔ (AreRung old r x y ⊎ ((x ≡ id) × (y ≡ id)))
      gained-rungs none x y = (λ rung. first (parted x y rung), together)
        where
          named : (z : ℕ) (other : Key) → key_of es z ≡ Some other → z ≢ id
          named z other has same = none-some other (sym none ∙ ap (key_of es) (sym same) ∙ has)

          first : (AreRung old r x y × x ≢ id × y ≢ id) ⊎ ((x ≡ id) × (y ≡ id)) → AreRung old r x y ⊎ ((x ≡ id) × (y ≡ id))
          first (inl (rung, _, _)) = inl rung
          first (inr both) = inr both

          together : AreRung old r x y ⊎ ((x ≡ id) × (y ≡ id)) → AreRung fresh r x y
          together (inl rung) =
              let a = named-key nodes es spare x rung.from in let b = named-key nodes es spare y rung.to in
              others-back x y (named x a.0 a.1) (named y b.0 b.1) rung
          together (inr both) = itself x y both

    -- where it has no key then
    pub lost-rungs : key_of now id ≡ None → (x y : ℕ) → AreRung fresh r x y ↔ (AreRung old r x y × x ≢ id × y ≢ id)
    lost-rungs none x y = (
      λ rung.
          let a = named-key new now later x rung.from in let b = named-key new now later y rung.to in
          let not_x = named x a.0 a.1 in let not_y = named y b.0 b.1 in
          (others-forth x y not_x not_y rung, not_x, not_y),
      λ rung. others-back x y rung.1 rung.2 rung.0,
    )
      where
        named : (z : ℕ) (other : Key) → key_of now z ≡ Some other → z ≢ id
        named z other has same = none-some other (sym none ∙ ap (key_of now) (sym same) ∙ has)

-- Two rings of keys are one, where each name keeps its key.
module _ (nodes new : Nodes ℕ) (es : List (ℕ × Key)) (own : AreKeys nodes es) (owned : AreKeys new es) (rings : RingsGoRound 2 nodes)
    (round : RingsGoRound 2 new)
    (spare later r : ℕ) (below : r < 2) (a b : ℕ) (key_a key_b : Key) (has_a : key_of es a ≡ Some key_a) (has_b : key_of es b ≡ Some key_b)
    (unites : UnitesRings nodes new r key_a key_b) where
  abbrev Old : ℕ → ℕ → Type 0
  Old p q = AreRung (table_of nodes es spare) r p q

  abbrev Fresh : ℕ → ℕ → Type 0
  Fresh p q = AreRung (table_of new es later) r p q

  abbrev AreUnited : ℕ → ℕ → Type 0
  AreUnited x y = Old x y ⊎ (Old x a × Old b y) ⊎ (Old x b × Old a y)

  abbrev KeysUnited : Key → Key → Type 0
  KeysUnited j k = SameRing nodes r j k ⊎ (SameRing nodes r j key_a × SameRing nodes r key_b k) ⊎ (SameRing nodes r j key_b × SameRing nodes r key_a k)

  to_names : (p q : ℕ) (j k : Key) → key_of es p ≡ Some j → key_of es q ≡ Some k → SameRing nodes r j k → Old p q
  to_names = keys-rung nodes es own rings spare r below

  to_keys : (p q : ℕ) (j k : Key) → key_of es p ≡ Some j → key_of es q ≡ Some k → Old p q → SameRing nodes r j k
  to_keys = rung-keys nodes es own rings spare r below

  names-united : (x y : ℕ) (j k : Key) → key_of es x ≡ Some j → key_of es y ≡ Some k → KeysUnited j k → AreUnited x y
  names-united x y j k has_j has_k (inl ring) = inl (to_names x y j k has_j has_k ring)
  names-united x y j k has_j has_k (inr (inl over)) = inr (inl (to_names x a j key_a has_j has_a over.0, to_names b y key_b k has_b has_k over.1))
  names-united x y j k has_j has_k (inr (inr over)) = inr (inr (to_names x b j key_b has_j has_b over.0, to_names a y key_a k has_a has_k over.1))

  apart : (x y : ℕ) → Fresh x y → AreUnited x y
  apart x y rung =
      let j = named-key new es later x rung.from in let k = named-key new es later y rung.to in
      names-united x y j.0 k.0 j.1 k.1 ((unites j.0 k.0).0 (rung-keys new es owned round later r below x y j.0 k.0 j.1 k.1 rung))

  from_keys : (x y : ℕ) (j k : Key) → key_of es x ≡ Some j → key_of es y ≡ Some k → KeysUnited j k → Fresh x y
  from_keys x y j k has_j has_k over = keys-rung new es owned round later r below x y j k has_j has_k ((unites j k).1 over)

  together : (x y : ℕ) → AreUnited x y → Fresh x y
  together x y (inl rung) =
      let j = named-key nodes es spare x rung.from in let k = named-key nodes es spare y rung.to in
      from_keys x y j.0 k.0 j.1 k.1 (inl (to_keys x y j.0 k.0 j.1 k.1 rung))
  together x y (inr (inl over)) =
      let j = named-key nodes es spare x over.0.from in let k = named-key nodes es spare y over.1.to in
      from_keys x y j.0 k.0 j.1 k.1 (inr (inl (to_keys x a j.0 key_a j.1 has_a over.0, to_keys b y key_b k.0 has_b k.1 over.1)))
  together x y (inr (inr over)) =
      let j = named-key nodes es spare x over.0.from in let k = named-key nodes es spare y over.1.to in
      from_keys x y j.0 k.0 j.1 k.1 (inr (inr (to_keys x b j.0 key_b j.1 has_b over.0, to_keys a y key_a k.0 has_a k.1 over.1)))

  pub united-rungs : (x y : ℕ) → Fresh x y ↔ AreUnited x y
  united-rungs x y = (apart x y, together x y)

-- where names keep their keys, and the keys their rings, the names keep theirs
pub kept-rungs : (nodes new : Nodes ℕ) (es : List (ℕ × Key)) (own : AreKeys nodes es) (owned : AreKeys new es) (rings : RingsGoRound 2 nodes)
    (round : RingsGoRound 2 new)
    (spare later r : ℕ) → r < 2 → SameRings nodes new r → KeepsRing (table_of nodes es spare) (table_of new es later) r
kept-rungs nodes new es own owned rings round spare later r below same x y = (
  forth nodes new es es own owned rings round spare later r below x y refl refl (λ a b _ _. (same a b).0),
  back nodes new es es own owned rings round spare later r below x y refl refl (λ a b _ _. (same a b).1),
)
