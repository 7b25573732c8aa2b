-- Lines by their forms.
use Rattle.std.proofs.Common.{◌≡◌, ◌≢◌, ℕ, List, [], ◌∷◌, ◌++◌, refl, sym, ap, ◌∙◌, subst, append-nil, Option, None, Some, Bool, true, false, cond, nat_eq, eq-eqb}
use Rattle.std.proofs.lemmas.List.Elements.{All-cons, All-nil}
use Rattle.graph_model.specs.Words.{spaced}
use Rattle.graph_model.specs.Commands.{Command, words_of, HasTypes}
use Rattle.graph_model.specs.Commands as commands
use Rattle.graph_model.specs.Lines.{Spells}
use Rattle.wire.specs.declared.form.Form.{Form}
use Rattle.wire.specs.declared.form.Form.TheVariants as forms
use Rattle.wire.specs.declared.line.Line.{Line}
use Rattle.wire.specs.declared.line.Line.TheVariants as lines
use Rattle.wire.specs.Readings.{meaning_of, TextSays, FormSays}
use Rattle.wire.specs.Fields.{ReadsAs, IsOneWord}
use Rattle.wire.specs.Forms.{row_of, form_word, Fields, FieldsFit, fields_text, rest_text, behind}
use Rattle.wire.proofs.ReadLemmas.{same_split, split_unread}

-- two lists have different numbers at some place where both have numerals
abbrev differ : List ℕ → List ℕ → Bool
differ [] ys = false
differ (x ∷ xs) [] = false
differ (x ∷ xs) (y ∷ ys) = cond (nat_eq x y) (differ xs ys) true

pub differ_apart : (xs ys : List ℕ) → differ xs ys ≡ true → xs ≡ ys → ⊥
differ_apart [] ys h is = absurd (let e : false ≡ true = h in cc)
differ_apart (x ∷ xs) [] h is = absurd (let e : false ≡ true = h in cc)
differ_apart (x ∷ xs) (y ∷ ys) h is =
    let head : x ≡ y = cc in
    let tail : xs ≡ ys = cc in
    let same : nat_eq x y ≡ true = eq-eqb x y head in
    differ_apart xs ys (sym (ap (λ b. cond b (differ xs ys) true) same) ∙ h) tail

abbrev pub has_space : List ℕ → Bool
has_space [] = false
has_space (x ∷ xs) = cond (nat_eq x 32) true (has_space xs)

pub one_word : (bytes : List ℕ) → has_space bytes ≡ false → IsOneWord bytes
one_word [] h = All-nil (λ byte. byte ≢ 32)
one_word (x ∷ xs) h =
    let none : nat_eq x 32 ≡ true → ⊥ = λ e. let f : true ≡ false = sym (ap (λ b. cond b true (has_space xs)) e) ∙ h in absurd (cc) in
    let no : nat_eq x 32 ≡ false = elim (nat_eq x 32) as (λ b. nat_eq x 32 ≡ b → nat_eq x 32 ≡ false) [ true ↦ λ e. absurd (none e) | false ↦ λ e. e ] refl in
    All-cons (λ byte. byte ≢ 32) x xs (λ e. none (eq-eqb x 32 e)) (one_word xs (sym (ap (λ b. cond b true (has_space xs)) no) ∙ h))

-- whether two words are the same, and the form whose first word one is
abbrev same : List ℕ → List ℕ → Bool
same [] [] = true
same [] (y ∷ ys) = false
same (x ∷ xs) [] = false
same (x ∷ xs) (y ∷ ys) = cond (nat_eq x y) (same xs ys) false

abbrev find : List Form → List ℕ → Option Form
find [] word = None
find (form ∷ more) word = cond (same word (form_word form)) (Some form) (find more word)

abbrev all_forms : List Form
all_forms =
    forms.Limits ∷ forms.Add ∷ forms.Dep ∷ forms.Fee ∷ forms.Remove ∷ forms.Mine ∷ forms.Evict ∷ forms.Stage
    ∷ forms.Commit ∷ forms.Abort ∷ forms.Settle ∷ forms.Trim ∷ forms.Unmine ∷ forms.Compare ∷ forms.Order ∷ forms.Diagram ∷ forms.Proof
    ∷ forms.Cluster ∷ forms.Ancestors ∷ forms.Descendants ∷ forms.Chunk ∷ forms.Before ∷ forms.Block ∷ forms.Count ∷ forms.Dump ∷ []

-- a form's first word is one word, and no other form's
known : (form : Form) → (has_space (form_word form) ≡ false) × (find all_forms (form_word form) ≡ Some form)
known forms.Limits = (refl, refl)
known forms.Add = (refl, refl)
known forms.Dep = (refl, refl)
known forms.Fee = (refl, refl)
known forms.Remove = (refl, refl)
known forms.Mine = (refl, refl)
known forms.Evict = (refl, refl)
known forms.Stage = (refl, refl)
known forms.Commit = (refl, refl)
known forms.Abort = (refl, refl)
known forms.Settle = (refl, refl)
known forms.Trim = (refl, refl)
known forms.Unmine = (refl, refl)
known forms.Compare = (refl, refl)
known forms.Order = (refl, refl)
known forms.Diagram = (refl, refl)
known forms.Proof = (refl, refl)
known forms.Cluster = (refl, refl)
known forms.Ancestors = (refl, refl)
known forms.Descendants = (refl, refl)
known forms.Chunk = (refl, refl)
known forms.Before = (refl, refl)
known forms.Block = (refl, refl)
known forms.Count = (refl, refl)
known forms.Dump = (refl, refl)

pub form_one_word : (form : Form) → IsOneWord (form_word form)
form_one_word form = one_word (form_word form) (known form).0

pub form_same : (a b : Form) → form_word a ≡ form_word b → a ≡ b
form_same a b is = let e : Some a ≡ Some b = sym (known a).1 ∙ ap (find all_forms) is ∙ (known b).1 in cc

-- a command as its form and fields
pub record Row (command : Command) : Type 0 where
  pub form : Form
  pub fields : Fields (row_of form).shape
  pub is : command ≡ (row_of form).command fields
  pub fits : FieldsFit (row_of form).shape fields
  pub text : spaced (words_of command) ≡ form_word form ++ behind (rest_text (row_of form).shape fields)

pub row : (command : Command) → HasTypes command → Row command
row (commands.SetLimits limits) types = record {
  form = forms.Limits;
  fields = (limits.count, (limits.size, record { n = limits.total; defer = limits.defer }));
  is = refl;
  fits = (types.0, (types.1, types.2));
  text = refl;
}
row (commands.Add id fee size) types = record { form = forms.Add; fields = (id, (fee, size)); is = refl; fits = (types.0, (types.1, types.2)); text = refl }
row (commands.Dep parent child) types = record { form = forms.Dep; fields = (parent, child); is = refl; fits = types; text = refl }
row (commands.SetFee id fee) types = record { form = forms.Fee; fields = (id, fee); is = refl; fits = types; text = refl }
row (commands.Remove id) types = record { form = forms.Remove; fields = id; is = refl; fits = types; text = refl }
row (commands.Mine []) types = absurd (types.0 refl)
row (commands.Mine (id ∷ ids)) types = record { form = forms.Mine; fields = id ∷ ids; is = refl; fits = types; text = refl }
row commands.Evict types = record { form = forms.Evict; fields = tt; is = refl; fits = tt; text = refl }
row commands.Stage types = record { form = forms.Stage; fields = tt; is = refl; fits = tt; text = refl }
row commands.Commit types = record { form = forms.Commit; fields = tt; is = refl; fits = tt; text = refl }
row commands.Abort types = record { form = forms.Abort; fields = tt; is = refl; fits = tt; text = refl }
row commands.Settle types = record { form = forms.Settle; fields = tt; is = refl; fits = tt; text = refl }
row commands.Trim types = record { form = forms.Trim; fields = tt; is = refl; fits = tt; text = refl }
row commands.Unmine types = record { form = forms.Unmine; fields = tt; is = refl; fits = tt; text = refl }
row commands.Compare types = record { form = forms.Compare; fields = tt; is = refl; fits = tt; text = refl }
row (commands.Order level) types = record { form = forms.Order; fields = level; is = refl; fits = tt; text = refl }
row (commands.Diagram level) types = record { form = forms.Diagram; fields = level; is = refl; fits = tt; text = refl }
row (commands.Proof level) types = record { form = forms.Proof; fields = level; is = refl; fits = tt; text = refl }
row (commands.Cluster id level) types = record { form = forms.Cluster; fields = (id, level); is = refl; fits = (types, tt); text = refl }
row (commands.Ancestors id level) types = record { form = forms.Ancestors; fields = (id, level); is = refl; fits = (types, tt); text = refl }
row (commands.Descendants id level) types = record { form = forms.Descendants; fields = (id, level); is = refl; fits = (types, tt); text = refl }
row (commands.Chunk id) types = record { form = forms.Chunk; fields = id; is = refl; fits = types; text = refl }
row (commands.Before a b) types = record { form = forms.Before; fields = (a, b); is = refl; fits = types; text = refl }
row (commands.Block size) types = record { form = forms.Block; fields = size; is = refl; fits = types; text = refl }
row (commands.Count level) types = record { form = forms.Count; fields = level; is = refl; fits = tt; text = refl }
row commands.Dump types = record { form = forms.Dump; fields = tt; is = refl; fits = tt; text = refl }

-- there is one way to cut at the first space, if there is one
pub same_line : (a c : List ℕ) (b d : Option (List ℕ)) → IsOneWord a → IsOneWord c → a ++ behind b ≡ c ++ behind d → (a ≡ c) × (b ≡ d)
same_line a c None None one other is = (sym (append-nil a) ∙ is ∙ append-nil c, refl)
same_line a c None (Some d) one other is = absurd (split_unread a c d one (sym (append-nil a) ∙ is))
same_line a c (Some b) None one other is = absurd (split_unread c a b other (sym (append-nil c) ∙ sym is))
same_line a c (Some b) (Some d) one other is = let cut = same_split a b c d one other is in (cut.0, ap (λ (x : List ℕ). Some x) cut.1)

-- a text is no command where it has no form's first word with fields of its kinds
no_command : (word : List ℕ) (rest : Option (List ℕ)) → IsOneWord word
    → ((form : Form) → word ≡ form_word form → (fields : Fields (row_of form).shape)
    → FieldsFit (row_of form).shape fields → rest ≡ rest_text (row_of form).shape fields → ⊥)
    → (command : Command) → Spells (word ++ behind rest) command → ⊥
no_command word rest one none command spells =
    let found = row command spells.1 in
    let cut =
    same_line word (form_word found.form) rest (rest_text (row_of found.form).shape found.fields) one (form_one_word found.form) (spells.0 ∙ found.text) in
    none found.form cut.0 found.fields found.fits cut.1

pub word_unread : (word : List ℕ) → IsOneWord word → ((form : Form) → Unit {0} → word ≡ form_word form → ⊥) → (command : Command) → Spells word command → ⊥
word_unread word one none command spells = no_command word None one (λ form is fields fits rest. none form tt is) command (append-nil word ∙ spells.0, spells.1)

pub form_unread : (word rest : List ℕ) → IsOneWord word → ((form : Form) → Unit {0} → word ≡ form_word form → ⊥)
    → (command : Command) → Spells (word ++ 32 ∷ rest) command → ⊥
form_unread word rest one none command spells = no_command word (Some rest) one (λ form is fields fits rest. none form tt is) command spells

-- Where what follows a form's first word isn't fields of its kinds, the line is no command.
rest_unread : (form : Form) (rest : Option (List ℕ))
    → ((fields : Fields (row_of form).shape) → FieldsFit (row_of form).shape fields → rest ≡ rest_text (row_of form).shape fields → ⊥)
    → (command : Command) → Spells (form_word form ++ behind rest) command → ⊥
rest_unread form rest none = no_command (form_word form) rest (form_one_word form) (λ other is.
    subst (λ (f : Form). (fields : Fields (row_of f).shape) → FieldsFit (row_of f).shape fields → rest ≡ rest_text (row_of f).shape fields → ⊥)
    (form_same form other is) none)

pub row_unread : (form found : Form) (rest : List ℕ) (line : Option Line) → found ≡ form
    → ((fields : Fields (row_of form).shape) → rest_text (row_of form).shape fields ≡ Some (fields_text (row_of form).shape fields))
    → ReadsAs (fields_text (row_of form).shape) (FieldsFit (row_of form).shape) rest None
    → line ≡ None → (ids : List ℕ) → FormSays (form_word found ++ 32 ∷ rest) line ids
row_unread form found rest line is filled none nothing ids =
    rw (is, nothing) (rest_unread form (Some rest)
    (λ fields fits text. let e : Some rest ≡ Some (fields_text (row_of form).shape fields) = text ∙ filled fields in none fields fits (some_same rest _ e)))
  where
    some_same : (a b : List ℕ) → Some a ≡ Some b → a ≡ b
    some_same a b e = cc

-- a line that says the same whatever names are listed lists none
pub lists_none : (text : List ℕ) (said : Line) → ((ids : List ℕ) → TextSays text (meaning_of said ids)) → said ≡ lines.Mine → ⊥
lists_none text said says is = (subst (λ (l : Line). TextSays text (meaning_of l [])) is (says [])).1.0 refl
