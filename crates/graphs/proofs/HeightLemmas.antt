-- The height of corners at a size, before and behind the second corner.
use Rattle.std.proofs.Common.{◌≡◌, ℕ, ◌<◌, ◌≤◌, ℤ, Bool, List, ◌∷◌, ap}
use Rattle.std.proofs.lemmas.Bool.{le-leb, lt-leb}
use Rattle.std.specs.Prelude.{if◌then◌else◌}
use Rattle.graphs.specs.Diagrams.{height_at, height_between}

pub height_early : (p q : ℕ × ℤ) (rest : List (ℕ × ℤ)) (x : ℕ) → x ≤ q.0 → height_at (p ∷ q ∷ rest) x ≡ height_between p q x
height_early p q rest x h = ap (λ (b : Bool). if b then height_between p q x else height_at (q ∷ rest) x) (le-leb x q.0 h)

pub height_late : (p q : ℕ × ℤ) (rest : List (ℕ × ℤ)) (x : ℕ) → q.0 < x → height_at (p ∷ q ∷ rest) x ≡ height_at (q ∷ rest) x
height_late p q rest x h = ap (λ (b : Bool). if b then height_between p q x else height_at (q ∷ rest) x) (lt-leb x q.0 h)
