-- A list of which a front was done, and of the rest a piece comes next.
use Rattle.std.proofs.Common.{◌≡◌, ◌++◌, ℕ, List, take, drop, ap, subst, ◌∙◌, append_assoc, take-append-drop}
use Rattle.std.specs.Prelude.{Contains}
use Rattle.std.proofs.lemmas.List.Elements.{Contains-append_left, Contains-append_right}

module _ (front rest piece later ids : List ℕ) (n : ℕ) (whole : front ++ rest ≡ ids) (now : piece ≡ take n rest) (then : later ≡ drop n rest) where
  parts : piece ++ later ≡ rest
  parts = ap (λ ys. ys ++ later) now ∙ ap (λ ys. take n rest ++ ys) then ∙ take-append-drop n rest

  pub piece-done : front ++ piece ++ later ≡ ids
  piece-done = append_assoc front piece later ∙ ap (λ ys. front ++ ys) parts ∙ whole

  pub piece-in : (x : ℕ) → Contains piece x → Contains ids x
  piece-in x here = subst (λ ys. Contains ys x) piece-done
      (Contains-append_left (front ++ piece) later x (Contains-append_right front piece x here))
