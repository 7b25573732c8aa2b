-- What is said of a text.
use Rattle.std.proofs.Common.{◌≡◌, ℕ, ◌^◌, ◌<◌, ◌≤◌, zero, suc, List, [], ◌∷◌, map, refl, subst, arith, sum_by}
use Rattle.std.specs.Prelude.{Contains, All}
use Rattle.std.proofs.lemmas.List.Elements.{All-contains, All-head, All-tail}
use Rattle.std.proofs.lemmas.List.Sums.{sum_by-cons}
use Rattle.graphs.specs.declared.names.Flow.{Flow}
use Rattle.graphs.specs.Certificates.{Finding, Certified, NoGraph, NoOrder, NoFalling, NoFlow, Finds}
use Rattle.graphs.specs.Certificates as model
use Rattle.graph_model.specs.Lines.{Cut, with_last}
use Rattle.graph_model.specs.Texts.{Text, IsText, HasPartTypes, NoSyntax, Found}
use Rattle.certificate.specs.declared.owned.Part.{Part}
use Rattle.certificate.specs.Answers.{AreClaims}
use Rattle.certificate.specs.Parts.{part_of}
use Rattle.wire.proofs.CutLemmas.{one_cut}
use Rattle.verification.specs.declared.verifying.Said.{Said}
use Rattle.verification.specs.declared.verifying.Said.TheVariants as said
use Rattle.verification.specs.Verdicts.{verification_of, IsSaidOf, IsVerified}

-- ---- what is found of a text is found of its bytes
found_of : (bytes : List ℕ) (text : Text) (finding : Finding)
    → ((lines : List (List ℕ)) (rest : List ℕ) → Cut bytes lines rest → IsText (with_last lines rest) text)
    → Finds text.txs text.edges text.parts finding → IsVerified bytes (Found finding)
found_of bytes text finding is found =
    let cut = one_cut bytes in
    record { lines = cut.0; rest = cut.1; cut = cut.2; verifies = (text, is cut.0 cut.1 cut.2, found) }

pub verified : (bytes : List ℕ) (text : Text) (s : Said)
    → ((lines : List (List ℕ)) (rest : List ℕ) → Cut bytes lines rest → IsText (with_last lines rest) text)
    → IsSaidOf text s → IsVerified bytes (verification_of s)
verified bytes text said.Yes is found = found_of bytes text Certified is found
verified bytes text said.NoSyntax is found = absurd found
verified bytes text said.NoGraph is found = found_of bytes text NoGraph is found
verified bytes text said.NoOrder is found = found_of bytes text NoOrder is found
verified bytes text said.NoFalling is found = found_of bytes text NoFalling is found
verified bytes text said.NoFlow is found = found_of bytes text NoFlow is found

pub no_text : (bytes : List ℕ)
    → ((lines : List (List ℕ)) (rest : List ℕ) → Cut bytes lines rest → (text : Text) → IsText (with_last lines rest) text → ⊥) → IsVerified bytes NoSyntax
no_text bytes none =
    let cut = one_cut bytes in
    record { lines = cut.0; rest = cut.1; cut = cut.2; verifies = none cut.0 cut.1 cut.2 }

-- ---- what the checker asks for
part_types : (parts : List Part) (part : Part) → All HasPartTypes (map part_of parts) → Contains parts part → HasPartTypes (part_of part)
part_types [] part types h = omega (arith, h.1)
part_types (p ∷ parts) part types (zero, below, same) =
    subst (λ (q : Part). HasPartTypes (part_of q)) same (All-head HasPartTypes (part_of p) (map part_of parts) types)
part_types (p ∷ parts) part types (suc k, below, same) =
    part_types parts part (All-tail HasPartTypes (part_of p) (map part_of parts) types) (k, omega arith, same)

same_total : (parts : List Part) → sum_by (λ part. sum_by (λ flow. flow.amount) part.flows) parts
    ≡ sum_by {X = model.Part} (λ part. sum_by (λ flow. flow.amount) part.flows) (map part_of parts)
same_total [] = refl
same_total (p ∷ parts) = omega (
  arith,
  same_total parts,
  sum_by-cons {X = Part} (λ part. sum_by (λ flow. flow.amount) part.flows) p parts,
  sum_by-cons {X = model.Part} (λ part. sum_by (λ flow. flow.amount) part.flows) (part_of p) (map part_of parts),
)

pub claims_of : (parts : List Part) → All HasPartTypes (map part_of parts)
    → sum_by {X = model.Part} (λ part. sum_by (λ flow. flow.amount) part.flows) (map part_of parts) < 2 ^ 127 → AreClaims parts
claims_of parts types total = record {
  filled = λ part h. (part_types parts part types h).filled;
  some =
      λ part flow h there. (All-contains (λ (f : Flow). (1 ≤ f.amount) × (f.amount ≤ 10 ^ 30)) part.flows flow (part_types parts part types h).amounts there).0;
  total = omega (arith, total, same_total parts);
}
