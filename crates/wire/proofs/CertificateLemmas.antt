-- What is read of bytes is what any cut of them says.
use Rattle.std.proofs.Common.{ℕ, ◌<◌, ◌≤◌, ◌^◌, List, sym, subst, length, Result, Ok, Err}
use Rattle.std.specs.Prelude.{IfOk, IsErrOf}
use Rattle.graph_model.specs.Lines.{Cut, with_last, max_input}
use Rattle.graph_model.specs.Texts.{Text, HasTextTypes, IsText}
use Rattle.wire.specs.declared.texts.draft.CertText.{CertText}
use Rattle.wire.specs.declared.texts.fault.TextFault.{TextFault}
use Rattle.wire.specs.declared.texts.fault.TextFault.TheVariants as faults
use Rattle.wire.specs.Drafts.{text_of, amount_of, ReadsLines, lines_of}
use Rattle.wire.proofs.LineLemmas.{cut_lines, last_is_text, text_is_last}
use Rattle.wire.proofs.AmountLemmas.{few_amounts}

pub cut_text : (bytes : List ℕ) (result : Result CertText TextFault) → ReadsLines (lines_of bytes) result
    → IfOk result (λ text. (lines : List (List ℕ)) (rest : List ℕ) → Cut bytes lines rest → IsText (with_last lines rest) (text_of text))
cut_text bytes (Ok text) reads =
    λ lines rest cut. last_is_text lines rest (text_of text) (subst (λ (all : List (List ℕ)). IsText all (text_of text)) (cut_lines bytes lines rest cut) reads)
cut_text bytes (Err fault) reads = tt

pub cut_types : (bytes : List ℕ) (result : Result CertText TextFault) → ReadsLines (lines_of bytes) result → IfOk result (λ text. HasTextTypes (text_of text))
cut_types bytes (Ok text) reads = reads.types
cut_types bytes (Err fault) reads = tt

pub cut_amounts : (bytes : List ℕ) (result : Result CertText TextFault) → length bytes ≤ max_input
    → ReadsLines (lines_of bytes) result → IfOk result (λ text. amount_of (text_of text) < 2 ^ 127)
cut_amounts bytes (Ok text) small reads = few_amounts bytes (text_of text) reads small
cut_amounts bytes (Err fault) small reads = tt

pub cut_syntax : (bytes : List ℕ) (result : Result CertText TextFault) → ReadsLines (lines_of bytes) result → IsErrOf result faults.Syntax
    → (lines : List (List ℕ)) (rest : List ℕ) → Cut bytes lines rest → (text : Text) → IsText (with_last lines rest) text → ⊥
cut_syntax bytes result reads wrong lines rest cut text is =
    subst (ReadsLines (lines_of bytes)) wrong reads text
    (subst (λ (all : List (List ℕ)). IsText all text) (sym (cut_lines bytes lines rest cut)) (text_is_last lines rest text is))
