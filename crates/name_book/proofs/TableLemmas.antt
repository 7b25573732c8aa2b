-- Steps and rings of names are those of their keys.
use Rattle.std.proofs.Common.{◌≡◌, ℕ, zero, suc, ◌<◌, ◌≤◌, List, Option, Some, None, is_some, IsSome, length, get_or, take, refl, sym, ap, subst, ◌∙◌, arith, true≢false}
use Rattle.std.proofs.lemmas.List.{get_or-take}
use Rattle.std.proofs.lemmas.Option.{slice_get-get_or}
use Rattle.std.specs.Option.{option_map, unwrap_or}
use Rattle.std.specs.FinMap as finmap
use Rattle.node_pool.specs.Cycles.{walked, Reaches}
use Rattle.node_pool.specs.declared.pool.Key.{Key}
use Rattle.node_pool.specs.Nodes.{Nodes, value_at, IsLive, next_slot, next_key, SameRing}
use Rattle.node_pool.specs.Laws.{RingsGoRound}
use Rattle.node_pool.proofs.RingLemmas.{key-unique}
use Rattle.node_pool.proofs.Callers.{next-live}
use Rattle.name_book.specs.Books.{Steps, IsNamed, steps_in, after, AreRung}
use Rattle.name_book.specs.Tables.{AreKeysOf, key_of, name_at, next_name, steps_of, table_of, AreKeys}
use Rattle.name_book.proofs.Entries.{some_key, same_some, get-keys, names-keys}

-- the ring that a table shows under a number
pub steps-of : (nodes : Nodes ℕ) (es : List (ℕ × Key)) (spare r : ℕ) → r < 2 → steps_in (table_of nodes es spare) r ≡ steps_of nodes r es
steps-of nodes es spare zero below = refl
steps-of nodes es spare (suc zero) below = refl
steps-of nodes es spare (suc (suc r)) below = absurd (omega arith)

-- the name after one is that of the key after its key
pub after-is : (nodes : Nodes ℕ) (es : List (ℕ × Key)) (spare r : ℕ) → r < 2 → (id : ℕ)
    → after (table_of nodes es spare) r id ≡ unwrap_or (option_map (next_name nodes r) (key_of es id)) id
after-is nodes es spare r below id =
    ap (λ (m : Steps). unwrap_or (finmap.get m id) id) (steps-of nodes es spare r below)
    ∙ ap (λ o. unwrap_or o id) (get-keys (next_name nodes r) es id)

pub after-key : (nodes : Nodes ℕ) (es : List (ℕ × Key)) (spare r : ℕ) → r < 2 → (id : ℕ) (key : Key) → key_of es id ≡ Some key
    → after (table_of nodes es spare) r id ≡ next_name nodes r key
after-key nodes es spare r below id key is =
    after-is nodes es spare r below id ∙ ap (λ o. unwrap_or (option_map (next_name nodes r) o) id) is

-- a live name has a key
pub named-key : (nodes : Nodes ℕ) (es : List (ℕ × Key)) (spare id : ℕ) → IsNamed (table_of nodes es spare) id → (key : Key) × (key_of es id ≡ Some key)
named-key nodes es spare id named = some_key (key_of es id) (sym (names-keys es id) ∙ named)

pub key-named : (nodes : Nodes ℕ) (es : List (ℕ × Key)) (spare id : ℕ) (key : Key) → key_of es id ≡ Some key → IsNamed (table_of nodes es spare) id
key-named nodes es spare id key is = names-keys es id ∙ ap is_some is

module _ (nodes : Nodes ℕ) (es : List (ℕ × Key)) (own : AreKeys nodes es) where
  pub live-own : (id : ℕ) (key : Key) → key_of es id ≡ Some key → IsLive nodes key
  live-own id key is = subst IsSome (sym ((own id key).0 is)) refl

  pub name-own : (id : ℕ) (key : Key) → key_of es id ≡ Some key → name_at nodes key ≡ id
  name-own id key is = ap (λ v. unwrap_or v 0) ((own id key).0 is)

  pub own-live : (key : Key) → IsLive nodes key → key_of es (name_at nodes key) ≡ Some key
  own-live key live = by (value_at nodes key) refl live
    where
      by : (v : Option ℕ) → value_at nodes key ≡ v → IsSome v → key_of es (unwrap_or v 0) ≡ Some key
      by None is some = absurd (true≢false (sym some))
      by (Some id) is some = (own id key).1 is

  pub one_key : (id : ℕ) (a b : Key) → key_of es id ≡ Some a → key_of es id ≡ Some b → a ≡ b
  one_key id a b one two = same_some a b (sym one ∙ two)

  pub one_name : (a b : ℕ) (key : Key) → key_of es a ≡ Some key → key_of es b ≡ Some key → a ≡ b
  one_name a b key one two = sym (name-own a key one) ∙ name-own b key two

  module _ (rings : RingsGoRound 2 nodes) (spare r : ℕ) (below : r < 2) where
    pub next-own : (key : Key) → IsLive nodes key → IsLive nodes (next_key nodes r key)
    next-own key live = let round = rings r key below live in next-live nodes r key round.0 round.1 live

    -- steps over names go as steps over slots
    walked-own : (k id : ℕ) (key : Key) → key_of es id ≡ Some key
        → (last : Key) × (key_of es (walked (after (table_of nodes es spare) r) k id) ≡ Some last) × (last.slot ≡ walked (next_slot nodes r) k key.slot)
    walked-own zero id key is = (key, is, refl)
    walked-own (suc k) id key is =
        let next = next_key nodes r key in
        let live = next-own key (live-own id key is) in
        let step : after (table_of nodes es spare) r id ≡ name_at nodes next = after-key nodes es spare r below id key is in
        let rest = walked-own k (name_at nodes next) next (own-live next live) in
        (rest.0, ap (λ x. key_of es (walked (after (table_of nodes es spare) r) k x)) step ∙ rest.1, rest.2)

    slots-reach : (a b : ℕ) (key_a key_b : Key) → key_of es a ≡ Some key_a → key_of es b ≡ Some key_b → Reaches (after (table_of nodes es spare) r) a b
        → Reaches (next_slot nodes r) key_a.slot key_b.slot
    slots-reach a b key_a key_b has_a has_b (k, leads) =
        let last = walked-own k a key_a has_a in
        let same : last.0 ≡ key_b = one_key b last.0 key_b (ap (key_of es) (sym leads) ∙ last.1) has_b in
        (k, sym last.2 ∙ ap (λ (x : Key). x.slot) same)

    names-reach : (a b : ℕ) (key_a key_b : Key) → key_of es a ≡ Some key_a → key_of es b ≡ Some key_b
        → Reaches (next_slot nodes r) key_a.slot key_b.slot → Reaches (after (table_of nodes es spare) r) a b
    names-reach a b key_a key_b has_a has_b (k, leads) =
        let there = walked (after (table_of nodes es spare) r) k a in
        let last = walked-own k a key_a has_a in
        let same : last.0 ≡ key_b = key-unique nodes last.0 key_b (live-own there last.0 last.1) (live-own b key_b has_b) (last.2 ∙ leads) in
        (k, one_name there b key_b (last.1 ∙ ap Some same) has_b)

    -- names share a ring exactly if their keys do
    pub rung-keys : (a b : ℕ) (key_a key_b : Key) → key_of es a ≡ Some key_a → key_of es b ≡ Some key_b → AreRung (table_of nodes es spare) r a b
        → SameRing nodes r key_a key_b
    rung-keys a b key_a key_b has_a has_b rung =
        record {
          from = live-own a key_a has_a;
          to = live-own b key_b has_b;
          steps = slots-reach a b key_a key_b has_a has_b rung.steps;
          back = slots-reach b a key_b key_a has_b has_a rung.back;
        }

    pub keys-rung : (a b : ℕ) (key_a key_b : Key) → key_of es a ≡ Some key_a → key_of es b ≡ Some key_b → SameRing nodes r key_a key_b
        → AreRung (table_of nodes es spare) r a b
    keys-rung a b key_a key_b has_a has_b ring =
        record {
          from = key-named nodes es spare a key_a has_a;
          to = key-named nodes es spare b key_b has_b;
          steps = names-reach a b key_a key_b has_a has_b ring.steps;
          back = names-reach b a key_b key_a has_b has_a ring.back;
        }

-- the key of a name stands at the name's place
pub key-listed : (es : List (ℕ × Key)) (ids : List ℕ) (keys : List Key) (i : ℕ) (d : Key) → AreKeysOf es ids keys → length ids ≤ length keys
    → i < length ids → key_of es (get_or ids i 0) ≡ Some (get_or (take (length ids) keys) i d)
key-listed es ids keys i d listed long low =
    listed i low ∙ slice_get-get_or keys i d (omega (arith, long, low)) ∙ ap Some (sym (get_or-take (length ids) keys i d low))
