-- Texts of which a front was written.
use Rattle.std.proofs.Common.{ℕ, List, ◌++◌, Option, sym, ap, ◌∙◌, append_assoc}
use Rattle.std.specs.Io.KnownBytes.{Appends}
use Rattle.std.proofs.KnownBytes.{Appends-trans}
use Rattle.outside.specs.Transfers.{AppendsFront}

-- a text was written, and then a front of the next
pub AppendsFront-after : (a b c : Option (List ℕ)) (first second : List ℕ) → Appends a b first → AppendsFront b c second → AppendsFront a c (first ++ second)
AppendsFront-after a b c first second done more =
    (first ++ more.0, (more.1.0, append_assoc first more.0 more.1.0 ∙ ap (λ (xs : List ℕ). first ++ xs) more.1.1), Appends-trans a b c first more.0 done more.2)

-- a front of a text is one of every longer text
pub AppendsFront-longer : (a b : Option (List ℕ)) (first second : List ℕ) → AppendsFront a b first → AppendsFront a b (first ++ second)
AppendsFront-longer a b first second part =
    (part.0, (part.1.0 ++ second, sym (append_assoc part.0 part.1.0 second) ∙ ap (λ (xs : List ℕ). xs ++ second) part.1.1), part.2)
