-- A line spells one command at most.
use Rattle.std.proofs.Common.{◌≡◌, ℕ, List, [], ◌∷◌, refl, sym, ap, ◌∙◌, subst, arith, map, decimal, Some}
use Rattle.std.specs.Prelude.{All}
use Rattle.std.proofs.lemmas.Int.{ints}
use Rattle.std.proofs.lemmas.Fmt.{decimal_injective, signed_decimal_injective}
use Rattle.std.proofs.lemmas.List.Elements.{All-map, All-weaker}
use Rattle.graphs.specs.declared.names.Level.TheVariants.{Main, Top}
use Rattle.graph_model.specs.Words.{level_word}
use Rattle.graph_model.specs.Commands.{Command}
use Rattle.graph_model.specs.Lines.{Spells}
use Rattle.wire.specs.declared.form.Form.{Form}
use Rattle.wire.specs.Fields.{IsWide, IsOneWord, deferrable_text}
use Rattle.wire.specs.Forms.{Kind, Wide, Signed, LevelName, Shape, Bare, Last, Then, Names, Deferrable, Field, field_text, FieldFits, Fields, fields_text, FieldsFit, names_text, AreNames, row_of, form_word, rest_text}
use Rattle.wire.specs.OneWord.{decimal_word, signed_word}
use Rattle.wire.proofs.ReadLemmas.{same_split}
use Rattle.wire.proofs.DeferLemmas.{deferrable_same}
use Rattle.wire.proofs.FormLemmas.{differ_apart, one_word, form_one_word, form_same, row, same_line}
use Rattle.wire.proofs.RowLemmas.{spaced_same, names_same}

field_word : (kind : Kind) (x : Field kind) → FieldFits kind x → IsOneWord (field_text kind x)
field_word Wide x fits = decimal_word x fits
field_word Signed x fits = signed_word x fits
field_word LevelName Main fits = one_word (level_word Main) refl
field_word LevelName Top fits = one_word (level_word Top) refl

field_same : (kind : Kind) (x y : Field kind) → FieldFits kind x → FieldFits kind y → field_text kind x ≡ field_text kind y → x ≡ y
field_same Wide x y one other is = decimal_injective x y one other is
field_same Signed x y one other is = signed_decimal_injective x y (omega (arith, ints, one)) (omega (arith, ints, other)) is
field_same LevelName Main Main one other is = refl
field_same LevelName Main Top one other is = absurd (differ_apart (level_word Main) (level_word Top) refl is)
field_same LevelName Top Main one other is = absurd (differ_apart (level_word Top) (level_word Main) refl is)
field_same LevelName Top Top one other is = refl

names_text_same : (x y : List ℕ) → AreNames x → AreNames y → names_text x ≡ names_text y → x ≡ y
names_text_same [] y one other is = absurd (one.0 refl)
names_text_same (a ∷ x) [] one other is = absurd (other.0 refl)
names_text_same (a ∷ x) (b ∷ y) one other is =
    names_same (a ∷ x) (b ∷ y) one.1 other.1
    (spaced_same (decimal a) (map decimal x) (decimal b) (map decimal y) (words (a ∷ x) one.1) (words (b ∷ y) other.1) is)
  where
    words : (ids : List ℕ) → All IsWide ids → All IsOneWord (map decimal ids)
    words ids wide = All-map IsOneWord decimal ids (All-weaker IsWide (λ id. IsOneWord (decimal id)) decimal_word ids wide)

fields_same : (shape : Shape) (x y : Fields shape) → FieldsFit shape x → FieldsFit shape y → fields_text shape x ≡ fields_text shape y → x ≡ y
fields_same Bare x y one other is = refl
fields_same (Last kind) x y one other is = field_same kind x y one other is
fields_same (Then kind shape) x y one other is =
    let cut = same_split (field_text kind x.0) (fields_text shape x.1) (field_text kind y.0)
    (fields_text shape y.1) (field_word kind x.0 one.0) (field_word kind y.0 other.0) is in
    let first : x.0 ≡ y.0 = field_same kind x.0 y.0 one.0 other.0 cut.0 in
    let rest : x.1 ≡ y.1 = fields_same shape x.1 y.1 one.1 other.1 cut.1 in
    λ i. (first i, rest i)
fields_same Names x y one other is = names_text_same x y one other is
fields_same Deferrable x y one other is = deferrable_same x y one other is

some_same : (a b : List ℕ) → Some a ≡ Some b → a ≡ b
some_same a b is = cc

rest_same : (shape : Shape) (x y : Fields shape) → FieldsFit shape x → FieldsFit shape y → rest_text shape x ≡ rest_text shape y → x ≡ y
rest_same Bare x y one other is = refl
rest_same (Last kind) x y one other is = fields_same (Last kind) x y one other (some_same (fields_text (Last kind) x) (fields_text (Last kind) y) is)
rest_same (Then kind shape) x y one other is =
    fields_same (Then kind shape) x y one other (some_same (fields_text (Then kind shape) x) (fields_text (Then kind shape) y) is)
rest_same Names x y one other is = fields_same Names x y one other (some_same (names_text x) (names_text y) is)
rest_same Deferrable x y one other is = fields_same Deferrable x y one other (some_same (deferrable_text x) (deferrable_text y) is)

command_same : (f g : Form) → f ≡ g → (x : Fields (row_of f).shape) (y : Fields (row_of g).shape) → FieldsFit (row_of f).shape x → FieldsFit (row_of g).shape y
    → rest_text (row_of f).shape x ≡ rest_text (row_of g).shape y → (row_of f).command x ≡ (row_of g).command y
command_same f g is x = subst
    (λ (h : Form). (y : Fields (row_of h).shape) → FieldsFit (row_of f).shape x → FieldsFit (row_of h).shape y
    → rest_text (row_of f).shape x ≡ rest_text (row_of h).shape y → (row_of f).command x ≡ (row_of h).command y)
    is (λ y one other same. ap (row_of f).command (rest_same (row_of f).shape x y one other same))

pub one_command : (text : List ℕ) (a b : Command) → Spells text a → Spells text b → a ≡ b
one_command text a b one other =
    let x = row a one.1 in
    let y = row b other.1 in
    let cut = same_line (form_word x.form) (form_word y.form) (rest_text (row_of x.form).shape x.fields) (rest_text (row_of y.form).shape y.fields)
    (form_one_word x.form) (form_one_word y.form) (sym x.text ∙ sym one.0 ∙ other.0 ∙ y.text) in
    x.is ∙ command_same x.form y.form (form_same x.form y.form cut.0) x.fields y.fields x.fits y.fits cut.1 ∙ sym y.is
