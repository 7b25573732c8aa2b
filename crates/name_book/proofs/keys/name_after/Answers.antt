use Rattle.std.proofs.Common.{◌≡◌, ◌≢◌, ℕ, List, [], ◌∷◌, Option, Some, None, IsSome, slice_get, sym, ap, subst, ◌∙◌, true≢false, arith}
use Rattle.std.specs.Prelude.{Contains, MatchOption}
use Rattle.std.proofs.lemmas.Option.{none-some}
use Rattle.lists.proofs.Entries.{Contains-head, Contains-later}
use Rattle.node_pool.specs.declared.pool.Key.{Key}
use Rattle.node_pool.specs.Nodes.{Nodes, SameRing}
use Rattle.node_pool.specs.RingKeys.{IsRing, ring_keys}
use Rattle.name_book.proofs.Entries.{same_some}
use Rattle.name_book.proofs.keys.name_after.Goals as goal

module _ (nodes : Nodes ℕ) (r : ℕ) (key : Key) (keys : List Key) (ring : IsRing nodes r key keys) where
  -- a step along the keys passes the one that they begin at
  behind : (rest : List Key) (o : Option Key) → MatchOption o ((keys ≡ []) × (rest ≡ [])) (λ k. keys ≡ k ∷ rest) → keys ≡ key ∷ rest
  behind rest None steps = absurd (none-some key (ap (λ ks. slice_get ks 0) (sym steps.0) ∙ ring.first))
  behind rest (Some k) steps =
      steps ∙ ap (λ z. z ∷ rest) (same_some k key (ap (λ ks. slice_get ks 0) (sym steps) ∙ ring.first))

  -- the one that comes then is another
  second : (other : Key) (more : List Key) → keys ≡ key ∷ other ∷ more → SameRing nodes r key other × (other ≢ key)
  second other more are = (
    (ring.members other).0 (subst (λ (ks : List Key). Contains ks other) (sym are) (Contains-later key other (other ∷ more) (Contains-head other more))),
    λ same.
        let one = ring.once 0 1 key ring.first (ap (λ ks. slice_get ks 1) are ∙ ap Some same) in
        omega (arith, one),
  )

  another : (rest more : List Key) (o : Option Key) (other : Key) → MatchOption o ((keys ≡ []) × (rest ≡ [])) (λ k. keys ≡ k ∷ rest) → rest ≡ other ∷ more
      → SameRing nodes r key other × (other ≢ key)
  another rest more o other steps then = second other more (behind rest o steps ∙ ap (λ ks. key ∷ ks) then)

pub unreachable-requires : goal.unreachable-requires
unreachable-requires c =
    let other = another c.args.nodes.now c.args.r c.args.key (ring_keys c.ring-keys.result) c.ring-keys.ensures (ring_keys c.next-first.new.self)
    (ring_keys c.next.new.self) c.next-first.result c.in_ok-other.other c.next-first.ensures.steps c.in_ok-other.ensures.steps in
    true≢false (sym (subst IsSome (sym c.in-None.ensures) other.0.to))

pub returns : goal.returns
returns c =
    let other = another c.args.nodes.now c.args.r c.args.key (ring_keys c.ring-keys.result) c.ring-keys.ensures (ring_keys c.next-first.new.self)
    (ring_keys c.next.new.self) c.next-first.result c.in_ok-other.other c.next-first.ensures.steps c.in_ok-other.ensures.steps in
    (c.in_ok-other.other, other.0, other.1, sym c.in-Some.ensures)
