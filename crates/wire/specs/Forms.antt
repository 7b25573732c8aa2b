-- The forms of commands, a row each: its first word, the kinds of the fields behind it, and the command.
use Rattle.std.specs.Prelude.{◌≢◌, ℕ, ℤ, List, [], ◌∷◌, map, codes, decimal, FitsSigned, All, Option, None, Some}
use Rattle.std.specs.Int.{w64}
use Rattle.std.specs.Fmt.{signed_decimal}
use Rattle.graphs.specs.declared.names.Level.{Level}
use Rattle.graph_model.specs.Words.{spaced, level_word}
use Rattle.graph_model.specs.Commands as commands
use Rattle.wire.specs.declared.field.Deferrable as endings
use Rattle.wire.specs.declared.form.Form.{Form}
use Rattle.wire.specs.declared.form.Form.TheVariants as forms
use Rattle.wire.specs.Fields.{IsWide, Always, pair_spelling, BothFit, deferrable_text, IsDeferrable}

-- a number of 64 bits, one with a sign, or a level
pub data Kind : Type 0 where
  Wide : Kind
  Signed : Kind
  LevelName : Kind

-- no field, one or more of these kinds, one name or more, or a number behind which a last word may stand
pub data Shape : Type 0 where
  Bare : Shape
  Last : (kind : Kind) → Shape
  Then : (kind : Kind) (shape : Shape) → Shape
  Names : Shape
  Deferrable : Shape

-- one name or more, with a space between them
abbrev pub names_text : List ℕ → List ℕ
names_text ids = spaced (map decimal ids)

abbrev pub AreNames : List ℕ → Type 0
AreNames ids = (ids ≢ []) × All IsWide ids

-- the value of a field, its text, and the values that have one
abbrev pub Field : Kind → Type 0
Field Wide = ℕ
Field Signed = ℤ
Field LevelName = Level

abbrev pub field_text : (kind : Kind) → Field kind → List ℕ
field_text Wide = decimal
field_text Signed = signed_decimal
field_text LevelName = level_word

abbrev pub FieldFits : (kind : Kind) → Field kind → Type 0
FieldFits Wide = IsWide
FieldFits Signed = FitsSigned w64
FieldFits LevelName = Always

-- the same for all fields of a form
abbrev pub Fields : Shape → Type 0
Fields Bare = Unit {0}
Fields (Last kind) = Field kind
Fields (Then kind shape) = Field kind × Fields shape
Fields Names = List ℕ
Fields Deferrable = endings.Deferrable

abbrev pub fields_text : (shape : Shape) → Fields shape → List ℕ
fields_text Bare = λ none. []
fields_text (Last kind) = field_text kind
fields_text (Then kind shape) = pair_spelling (field_text kind) (fields_text shape)
fields_text Names = names_text
fields_text Deferrable = deferrable_text

abbrev pub FieldsFit : (shape : Shape) → Fields shape → Type 0
FieldsFit Bare = λ none. Unit {0}
FieldsFit (Last kind) = FieldFits kind
FieldsFit (Then kind shape) = BothFit (FieldFits kind) (FieldsFit shape)
FieldsFit Names = AreNames
FieldsFit Deferrable = IsDeferrable

pub record Row : Type 0 where
  pub word : List ℕ
  pub shape : Shape
  pub command : Fields shape → commands.Command

abbrev pub row_of : Form → Row
row_of forms.Limits = record {
  word = codes "limits";
  shape = Then Wide (Then Wide Deferrable);
  command = λ v. commands.SetLimits (record { count = v.0; size = v.1.0; total = v.1.1.n; defer = v.1.1.defer });
}
row_of forms.Add = record { word = codes "add"; shape = Then Wide (Then Signed (Last Wide)); command = λ v. commands.Add v.0 v.1.0 v.1.1 }
row_of forms.Dep = record { word = codes "dep"; shape = Then Wide (Last Wide); command = λ v. commands.Dep v.0 v.1 }
row_of forms.Fee = record { word = codes "fee"; shape = Then Wide (Last Signed); command = λ v. commands.SetFee v.0 v.1 }
row_of forms.Remove = record { word = codes "remove"; shape = Last Wide; command = λ v. commands.Remove v }
row_of forms.Mine = record { word = codes "mine"; shape = Names; command = λ v. commands.Mine v }
row_of forms.Evict = record { word = codes "evict"; shape = Bare; command = λ v. commands.Evict }
row_of forms.Stage = record { word = codes "stage"; shape = Bare; command = λ v. commands.Stage }
row_of forms.Commit = record { word = codes "commit"; shape = Bare; command = λ v. commands.Commit }
row_of forms.Abort = record { word = codes "abort"; shape = Bare; command = λ v. commands.Abort }
row_of forms.Settle = record { word = codes "settle"; shape = Bare; command = λ v. commands.Settle }
row_of forms.Trim = record { word = codes "trim"; shape = Bare; command = λ v. commands.Trim }
row_of forms.Unmine = record { word = codes "unmine"; shape = Bare; command = λ v. commands.Unmine }
row_of forms.Compare = record { word = codes "compare"; shape = Bare; command = λ v. commands.Compare }
row_of forms.Order = record { word = codes "order"; shape = Last LevelName; command = λ v. commands.Order v }
row_of forms.Diagram = record { word = codes "diagram"; shape = Last LevelName; command = λ v. commands.Diagram v }
row_of forms.Proof = record { word = codes "proof"; shape = Last LevelName; command = λ v. commands.Proof v }
row_of forms.Cluster = record { word = codes "cluster"; shape = Then Wide (Last LevelName); command = λ v. commands.Cluster v.0 v.1 }
row_of forms.Ancestors = record { word = codes "ancestors"; shape = Then Wide (Last LevelName); command = λ v. commands.Ancestors v.0 v.1 }
row_of forms.Descendants = record { word = codes "descendants"; shape = Then Wide (Last LevelName); command = λ v. commands.Descendants v.0 v.1 }
row_of forms.Chunk = record { word = codes "chunk"; shape = Last Wide; command = λ v. commands.Chunk v }
row_of forms.Before = record { word = codes "before"; shape = Then Wide (Last Wide); command = λ v. commands.Before v.0 v.1 }
row_of forms.Block = record { word = codes "block"; shape = Last Wide; command = λ v. commands.Block v }
row_of forms.Count = record { word = codes "count"; shape = Last LevelName; command = λ v. commands.Count v }
row_of forms.Dump = record { word = codes "dump"; shape = Bare; command = λ v. commands.Dump }

abbrev pub form_word : Form → List ℕ
form_word form = (row_of form).word

-- what stands behind a first word: nothing, or a space and the fields
abbrev pub behind : Option (List ℕ) → List ℕ
behind None = []
behind (Some rest) = 32 ∷ rest

abbrev pub rest_text : (shape : Shape) → Fields shape → Option (List ℕ)
rest_text Bare fields = None
rest_text (Last kind) fields = Some (fields_text (Last kind) fields)
rest_text (Then kind shape) fields = Some (fields_text (Then kind shape) fields)
rest_text Names fields = Some (names_text fields)
rest_text Deferrable fields = Some (deferrable_text fields)
