-- Which command is drawn, by what is drawn first.
use Rattle.std.proofs.Common.{◌≡◌, ℕ, ◌<◌, ◌≤◌, refl, ap, ◌∙◌, lt-ltb, le-ltb}
use Rattle.std.specs.Prelude.{ltb, ◌==◌, if◌then◌else◌}
use Rattle.graph_model.specs.Commands.{Command, Stage, Commit, Abort, Compare}
use Rattle.graph_model.specs.Generators.{draw, drawn_add, drawn_dep, drawn_change, drawn_remove, drawn_command}

abbrev chosen : ℕ → ℕ → ℕ → Command × ℕ
chosen k kind x =
    if ltb kind 8 then drawn_add k x else if ltb kind 14 then drawn_dep k x else if kind == 14 then drawn_change k x else if kind == 15 then drawn_remove k x
    else if kind == 16 then (Stage, x) else if kind == 17 then (Commit, x) else if kind == 18 then (Abort, x) else (Compare, x)

-- where it is this number
pub drawn_at : (k x n : ℕ) (made : Command × ℕ) → (draw x 20).0 ≡ n → chosen k n (draw x 20).1 ≡ made → drawn_command k x ≡ made
drawn_at k x n made is drawn = ap (λ m. chosen k m (draw x 20).1) is ∙ drawn

early : (k kind x : ℕ) → kind < 8 → chosen k kind x ≡ drawn_add k x
early k kind x few = rw (lt-ltb kind 8 few) refl

middle : (k kind x : ℕ) → 8 ≤ kind → kind < 14 → chosen k kind x ≡ drawn_dep k x
middle k kind x many few = rw (le-ltb kind 8 many, lt-ltb kind 14 few) refl

pub drawn_early : (k x : ℕ) → (draw x 20).0 < 8 → drawn_command k x ≡ drawn_add k (draw x 20).1
drawn_early k x few = early k (draw x 20).0 (draw x 20).1 few

pub drawn_middle : (k x : ℕ) → 8 ≤ (draw x 20).0 → (draw x 20).0 < 14 → drawn_command k x ≡ drawn_dep k (draw x 20).1
drawn_middle k x many few = middle k (draw x 20).0 (draw x 20).1 many few
