-- Walks along pairs, and trails, which take pairs in either direction.
use Rattle.std.proofs.Common.{◌≡◌, ℕ, suc, zero, List, sym, refl, subst, inl, inr, ◌⊎◌}
use Rattle.std.specs.Prelude.{Contains}
use Rattle.graphs.specs.Graphs.{Walk, IsAncestor, Trail, AreConnected}

pub walk_of_pair : (pairs : List (ℕ × ℕ)) (a b : ℕ) → Contains pairs (a, b) → Walk pairs a b 1
walk_of_pair pairs a b pair = (a, refl, pair)

-- a pair before a walk
pub walk_cons : (pairs : List (ℕ × ℕ)) (a b c : ℕ) (n : ℕ) → Contains pairs (a, b) → Walk pairs b c n → Walk pairs a c (suc n)
walk_cons pairs a b c zero pair same = (a, refl, subst (λ (x : ℕ). Contains pairs (a, x)) same pair)
walk_cons pairs a b c (suc n) pair walk = (walk.0, walk_cons pairs a b walk.0 n pair walk.1, walk.2)

-- a walk along pairs that are among others
pub walk_within : (pairs others : List (ℕ × ℕ)) → ((a b : ℕ) → Contains pairs (a, b) → Contains others (a, b))
    → (a b n : ℕ) → Walk pairs a b n → Walk others a b n
walk_within pairs others more a b zero same = same
walk_within pairs others more a b (suc n) walk = (walk.0, walk_within pairs others more a walk.0 n walk.1, more walk.0 b walk.2)

-- a walk after another
pub ancestor_trans : (pairs : List (ℕ × ℕ)) (a b c : ℕ) → IsAncestor pairs a b → (n : ℕ) → Walk pairs b c n → IsAncestor pairs a c
ancestor_trans pairs a b c first zero same = subst (λ (x : ℕ). IsAncestor pairs a x) same first
ancestor_trans pairs a b c first (suc n) walk =
    let most : IsAncestor pairs a walk.0 = ancestor_trans pairs a b walk.0 first n walk.1 in (suc most.0, (walk.0, most.1, walk.2))

pub IsAncestor-trans : (pairs : List (ℕ × ℕ)) (a b c : ℕ) → IsAncestor pairs a b → IsAncestor pairs b c → IsAncestor pairs a c
IsAncestor-trans pairs a b c first second = ancestor_trans pairs a b c first second.0 second.1

turned : (pairs : List (ℕ × ℕ)) (a b : ℕ) → Contains pairs (a, b) ⊎ Contains pairs (b, a) → Contains pairs (b, a) ⊎ Contains pairs (a, b)
turned pairs a b step = elim step [ inl there ↦ inr there | inr here ↦ inl here ]

-- a pair, in either direction, before a trail
pub trail_cons : (pairs : List (ℕ × ℕ)) (a b c : ℕ) (n : ℕ) → Contains pairs (a, b) ⊎ Contains pairs (b, a) → Trail pairs b c n → Trail pairs a c (suc n)
trail_cons pairs a b c zero step same = (a, refl, subst (λ (x : ℕ). Contains pairs (a, x) ⊎ Contains pairs (x, a)) same step)
trail_cons pairs a b c (suc n) step trail = (trail.0, trail_cons pairs a b trail.0 n step trail.1, trail.2)

trail_turned : (pairs : List (ℕ × ℕ)) (a b : ℕ) (n : ℕ) → Trail pairs a b n → Trail pairs b a n
trail_turned pairs a b zero same = sym same
trail_turned pairs a b (suc n) trail = trail_cons pairs b trail.0 a n (turned pairs trail.0 b trail.2) (trail_turned pairs a trail.0 n trail.1)

pub AreConnected-sym : (pairs : List (ℕ × ℕ)) (a b : ℕ) → AreConnected pairs a b → AreConnected pairs b a
AreConnected-sym pairs a b trail = (trail.0, trail_turned pairs a b trail.0 trail.1)

pub connected_trans : (pairs : List (ℕ × ℕ)) (a b c : ℕ) → AreConnected pairs a b → (n : ℕ) → Trail pairs b c n → AreConnected pairs a c
connected_trans pairs a b c first zero same = subst (λ (x : ℕ). AreConnected pairs a x) same first
connected_trans pairs a b c first (suc n) trail =
    let most : AreConnected pairs a trail.0 = connected_trans pairs a b trail.0 first n trail.1 in (suc most.0, (trail.0, most.1, trail.2))

pub AreConnected-trans : (pairs : List (ℕ × ℕ)) (a b c : ℕ) → AreConnected pairs a b → AreConnected pairs b c → AreConnected pairs a c
AreConnected-trans pairs a b c first second = connected_trans pairs a b c first second.0 second.1

pub IsAncestor-itself : (pairs : List (ℕ × ℕ)) (a b : ℕ) → a ≡ b → IsAncestor pairs a b
IsAncestor-itself pairs a b same = (0, same)

pub AreConnected-itself : (pairs : List (ℕ × ℕ)) (a b : ℕ) → a ≡ b → AreConnected pairs a b
AreConnected-itself pairs a b same = (0, same)

pub walk_connects : (pairs : List (ℕ × ℕ)) (a b n : ℕ) → Walk pairs a b n → AreConnected pairs a b
walk_connects pairs a b zero same = (0, same)
walk_connects pairs a b (suc n) walk = let before = walk_connects pairs a walk.0 n walk.1 in (suc before.0, (walk.0, before.1, inl walk.2))
