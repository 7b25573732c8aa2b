-- The number of what is said of a text.
use Rattle.std.specs.Prelude.{◌≡◌, ◌⊎◌, ℕ, ◌<◌, List, length}
use Rattle.graph_model.specs.Lines.{max_input}
use Rattle.graph_model.specs.Texts.{Verification, NoSyntax, Found}
use Rattle.graphs.specs.Certificates.{Certified, NoGraph, NoOrder, NoFalling, NoFlow}
use Rattle.verification.specs.Verdicts.{IsVerified}

abbrev pub code_of_verification : Verification → ℕ
code_of_verification (Found Certified) = 0
code_of_verification NoSyntax = 36
code_of_verification (Found NoGraph) = 37
code_of_verification (Found NoOrder) = 38
code_of_verification (Found NoFalling) = 39
code_of_verification (Found NoFlow) = 40

-- the number of what is said; or there are too many bytes, or there was no memory
abbrev pub Checks : List ℕ → ℕ → Type 0
Checks bytes code =
    ((code ≡ 41) × (max_input < length bytes))
    ⊎ ((code ≡ 18) ⊎ ((said : Verification) × IsVerified bytes said × (code ≡ code_of_verification said)))
