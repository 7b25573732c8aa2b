-- All lines of a text, from the first to the last.
use Rattle.std.proofs.Common.{◌≡◌, ◌≢◌, ℕ, ◌≤◌, List, [], ◌∷◌, ◌++◌, refl, sym, ap, ◌∙◌, subst, arith, map, length, false, Result, Ok, Err, append_assoc, append-nil}
use Rattle.std.specs.Prelude.{flat_map, All, ◌==◌}
use Rattle.std.proofs.lemmas.Bool.{ne_eqb}
use Rattle.std.proofs.lemmas.List.{map-append}
use Rattle.std.proofs.lemmas.List.Elements.{All-cons, All-nil, All-head, All-tail, All-append, All-weaker}
use Rattle.std.proofs.lemmas.List.Splits.{slice_split_none, slice_split_at}
use Rattle.lists.proofs.Entries.{All-front, All-back}
use Rattle.graph_model.specs.Words.{line_text}
use Rattle.graph_model.specs.Lines.{IsOneLine, Cut, with_last, max_line}
use Rattle.graph_model.specs.Texts.{Text, IsText, told, text_lines}
use Rattle.wire.specs.declared.texts.draft.CertText.{CertText}
use Rattle.wire.specs.declared.texts.draft.Draft.{Draft}
use Rattle.wire.specs.declared.texts.fault.TextFault.{TextFault}
use Rattle.wire.specs.declared.texts.fault.TextFault.TheVariants as faults
use Rattle.wire.specs.declared.texts.row.Row.{Row}
use Rattle.wire.specs.Rows.{row_line, HasRowTypes, rows_of}
use Rattle.wire.specs.Drafts.{text_of, written, Finishes, TakesLine, ReadsLines, lines_of}
use Rattle.wire.proofs.TextLemmas.{rows_text, rows_typed, typed_text, rows_same, told_append}

abbrev pub IsShort : List ℕ → Type 0
IsShort line = length line ≤ max_line

no_feed : (line : List ℕ) → IsOneLine line → All (λ byte. (byte == 10) ≡ false) line
no_feed line one = All-weaker (λ byte. byte ≢ 10) (λ byte. (byte == 10) ≡ false) (λ byte other. ne_eqb byte 10 other) line one

-- the lines of a text that has a line feed, and of one that has none
pub lines_first : (bytes line more : List ℕ) → bytes ≡ line ++ 10 ∷ more → IsOneLine line → lines_of bytes ≡ line ∷ lines_of more
lines_first bytes line more whole one = ap lines_of whole ∙ slice_split_at (λ byte. byte == 10) line 10 more (no_feed line one) refl

pub lines_last : (bytes : List ℕ) → IsOneLine bytes → lines_of bytes ≡ bytes ∷ []
lines_last bytes one = slice_split_none (λ byte. byte == 10) bytes (no_feed bytes one)

-- all lines are some that were read as rows, and those that are left
pub record IsRead (all left : List (List ℕ)) (rows : List Row) : Type 0 where
  pub before : List (List ℕ)
  pub whole : all ≡ before ++ left
  pub short : All IsShort before
  pub spelled : told before ≡ map row_line rows
  pub types : All HasRowTypes rows

pub one_more : (all left : List (List ℕ)) (line : List ℕ) (old : List Row) (draft : Draft)
    → IsRead all (line ∷ left) old → TakesLine old line (Ok draft) → IsRead all left (written draft)
one_more all left line old draft read took =
    let rows = took.1 in
    subst (IsRead all left) (sym took.4) (record {
      before = read.before ++ line ∷ [];
      whole = read.whole ∙ sym (append_assoc read.before (line ∷ []) left);
      short = All-append IsShort read.before (line ∷ []) read.short (All-cons IsShort line [] took.0 (All-nil IsShort));
      spelled = told_append read.before (line ∷ []) ∙ (λ i. read.spelled i ++ took.3 i) ∙ sym (map-append row_line old rows);
      types = All-append HasRowTypes old rows read.types took.2;
    })

pub line_fault : (all left : List (List ℕ)) (line : List ℕ) (old : List Row) (fault : TextFault)
    → IsRead all (line ∷ left) old → TakesLine old line (Err fault) → ReadsLines all (Err fault)
line_fault all left line old faults.Syntax read none = λ text is.
    let behind = All-back IsShort read.before (line ∷ left) (subst (All IsShort) read.whole is.short) in
    let spelled : text_lines text ≡ map row_line old ++ (told (line ∷ []) ++ told left) =
    sym is.spelled ∙ ap told read.whole ∙ told_append read.before (line ∷ left) ∙ (λ i. read.spelled i ++ told_append (line ∷ []) left i) in
    none text (told left) is.types (All-head IsShort line left behind) spelled
line_fault all left line old faults.Memory read none = tt

pub all_read : (all : List (List ℕ)) (rows : List Row) (result : Result CertText TextFault) → IsRead all [] rows → Finishes rows result → ReadsLines all result
all_read all rows (Ok text) read done =
    let whole : all ≡ read.before = read.whole ∙ append-nil read.before in
    record {
      short = subst (All IsShort) (sym whole) read.short;
      spelled = ap told whole ∙ read.spelled ∙ ap (map row_line) done ∙ sym (rows_text (text_of text));
      types = typed_text (text_of text) (subst (All HasRowTypes) done read.types);
    }
all_read all rows (Err faults.Syntax) read none = λ text is.
    let whole : all ≡ read.before = read.whole ∙ append-nil read.before in
    let spelled : map row_line (rows_of text) ≡ map row_line rows = sym (rows_text text) ∙ sym is.spelled ∙ ap told whole ∙ read.spelled in
    none text (rows_same (rows_of text) rows (rows_typed text is.types) read.types spelled)
all_read all rows (Err faults.Memory) read none = tt

-- the lines of a cut
pub cut_lines : (bytes : List ℕ) (lines : List (List ℕ)) (rest : List ℕ) → Cut bytes lines rest → lines_of bytes ≡ lines ++ rest ∷ []
cut_lines bytes [] rest cut = ap lines_of cut.whole ∙ lines_last rest cut.last
cut_lines bytes (line ∷ lines) rest cut =
    let more = flat_map line_text lines ++ rest in
    let whole : bytes ≡ line ++ 10 ∷ more = cut.whole ∙ append_assoc (line ++ 10 ∷ []) (flat_map line_text lines) rest ∙ append_assoc line (10 ∷ []) more in
    let inner : Cut more lines rest = record { whole = refl; each = All-tail IsOneLine line lines cut.each; last = cut.last } in
    lines_first bytes line more whole (All-head IsOneLine line lines cut.each) ∙ ap (λ (xs : List (List ℕ)). line ∷ xs) (cut_lines more lines rest inner)

-- an empty line at the end says nothing
pub last_is_text : (lines : List (List ℕ)) (rest : List ℕ) (text : Text) → IsText (lines ++ rest ∷ []) text → IsText (with_last lines rest) text
last_is_text lines [] text is = record {
  short = All-front IsShort lines ([] ∷ []) is.short;
  spelled = sym (append-nil (told lines)) ∙ sym (told_append lines ([] ∷ [])) ∙ is.spelled;
  types = is.types;
}
last_is_text lines (byte ∷ rest) text is = is

pub text_is_last : (lines : List (List ℕ)) (rest : List ℕ) (text : Text) → IsText (with_last lines rest) text → IsText (lines ++ rest ∷ []) text
text_is_last lines [] text is = record {
  short = All-append IsShort lines ([] ∷ []) is.short (All-cons IsShort [] [] (omega arith) (All-nil IsShort));
  spelled = told_append lines ([] ∷ []) ∙ append-nil (told lines) ∙ is.spelled;
  types = is.types;
}
text_is_last lines (byte ∷ rest) text is = is
