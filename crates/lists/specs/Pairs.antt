-- Pairs of numbers.
use Rattle.std.specs.Prelude.{ℕ, Bool, ◌&&◌, nat_eq}

abbrev pub same_pair : ℕ × ℕ → ℕ × ℕ → Bool
same_pair x y = nat_eq x.0 y.0 && nat_eq x.1 y.1
