-- Lists of names, and the lines of chunks.
use Rattle.std.proofs.Common.{◌≡◌, ◌≢◌, ℕ, ℤ, List, [], ◌∷◌, ◌++◌, refl, sym, ap, ◌∙◌, subst, map, decimal, Err, drop, append_assoc}
use Rattle.std.specs.Prelude.{flat_map, All}
use Rattle.std.specs.Fmt.{signed_decimal}
use Rattle.std.proofs.lemmas.List.Concat.{flat_map-append}
use Rattle.std.proofs.lemmas.List.Elements.{All-head, All-tail, All-push}
use Rattle.fee_rate.specs.declared.rates.Sum.{Sum}
use Rattle.graph_model.specs.Words.{spaced}
use Rattle.wire.specs.declared.texts.fault.TextFault.{TextFault}
use Rattle.wire.specs.declared.texts.fault.TextFault.TheVariants as faults
use Rattle.wire.specs.declared.texts.row.Row.{Row}
use Rattle.wire.specs.declared.texts.row.Row.TheVariants as rows
use Rattle.wire.specs.declared.texts.row.Kind.TheVariants as kinds
use Rattle.wire.specs.Fields.{IsWide, IsBigFee, IsOneWord}
use Rattle.wire.specs.Rows.{kind_word, row_line, HasRowTypes, Gives, AddsName}
use Rattle.wire.specs.Forms.{names_text, AreNames}
use Rattle.wire.specs.OneWord.{decimal_word, big_fee_word}
use Rattle.wire.proofs.ReadLemmas.{same_split, split_unread}
use Rattle.wire.proofs.FormLemmas.{differ_apart}

-- names, each with a space after it
abbrev pub fronts : List ℕ → List ℕ
fronts ids = flat_map (λ id. decimal id ++ 32 ∷ []) ids

pub fronts_push : (ids : List ℕ) (id : ℕ) (rest : List ℕ) → fronts ids ++ (decimal id ++ 32 ∷ rest) ≡ fronts (ids ++ id ∷ []) ++ rest
fronts_push ids id rest = simp (flat_map-append, append_assoc)

pub fronts_last : (ids : List ℕ) (id : ℕ) → fronts ids ++ decimal id ≡ names_text (ids ++ id ∷ [])
fronts_last [] id = refl
fronts_last (x ∷ []) id = append_assoc (decimal x ++ 32 ∷ []) [] (decimal id) ∙ append_assoc (decimal x) (32 ∷ []) (decimal id)
fronts_last (x ∷ y ∷ ids) id =
    append_assoc (decimal x ++ 32 ∷ []) (fronts (y ∷ ids)) (decimal id) ∙ append_assoc (decimal x) (32 ∷ []) (fronts (y ∷ ids) ++ decimal id)
    ∙ ap (λ (xs : List ℕ). decimal x ++ 32 ∷ xs) (fronts_last (y ∷ ids) id)

-- names that begin with these go on with others
names_go_on : (ids : List ℕ) (tail : List ℕ) (others : List ℕ) → All IsWide ids → AreNames others
    → fronts ids ++ tail ≡ names_text others → (more : List ℕ) × AreNames more × (tail ≡ names_text more)
names_go_on [] tail others one fits is = (others, fits, is)
names_go_on (x ∷ ids) tail [] one fits is = absurd (fits.0 refl)
names_go_on (x ∷ ids) tail (y ∷ []) one fits is =
    let e : decimal x ++ 32 ∷ (fronts ids ++ tail) ≡ decimal y =
    sym (append_assoc (decimal x ++ 32 ∷ []) (fronts ids) tail ∙ append_assoc (decimal x) (32 ∷ []) (fronts ids ++ tail)) ∙ is in
    absurd (split_unread (decimal y) (decimal x) (fronts ids ++ tail) (decimal_word y (All-head IsWide y [] fits.1)) (sym e))
names_go_on (x ∷ ids) tail (y ∷ z ∷ others) one fits is =
    let e : decimal x ++ 32 ∷ (fronts ids ++ tail) ≡ decimal y ++ 32 ∷ names_text (z ∷ others) =
    sym (append_assoc (decimal x ++ 32 ∷ []) (fronts ids) tail ∙ append_assoc (decimal x) (32 ∷ []) (fronts ids ++ tail)) ∙ is in
    let cut = same_split (decimal x) (fronts ids ++ tail) (decimal y) (names_text (z ∷ others))
    (decimal_word x (All-head IsWide x ids one)) (decimal_word y (All-head IsWide y (z ∷ others) fits.1)) e in
    let no : z ∷ others ≢ [] = λ h. cc in
    names_go_on ids tail (z ∷ others) (All-tail IsWide x ids one) (no, All-tail IsWide y (z ∷ others) fits.1) cut.1

-- where a word among names is none, the text is no names
pub front_no_names : (ids : List ℕ) (word rest : List ℕ) → All IsWide ids → IsOneWord word → ((id : ℕ) → IsWide id → word ≡ decimal id → ⊥)
    → (others : List ℕ) → AreNames others → fronts ids ++ (word ++ 32 ∷ rest) ≡ names_text others → ⊥
front_no_names ids word rest one alone none others fits is = let go = names_go_on ids (word ++ 32 ∷ rest) others one fits is in last go.0 go.1 go.2
  where
    last : (more : List ℕ) → AreNames more → word ++ 32 ∷ rest ≡ names_text more → ⊥
    last [] fits is = fits.0 refl
    last (y ∷ []) fits is = split_unread (decimal y) word rest (decimal_word y (All-head IsWide y [] fits.1)) (sym is)
    last (y ∷ z ∷ more) fits is =
        none y (All-head IsWide y (z ∷ more) fits.1)
        (same_split word rest (decimal y) (names_text (z ∷ more)) alone (decimal_word y (All-head IsWide y (z ∷ more) fits.1)) is).0

pub last_no_names : (ids : List ℕ) (word : List ℕ) → All IsWide ids → IsOneWord word → ((id : ℕ) → IsWide id → word ≡ decimal id → ⊥)
    → (others : List ℕ) → AreNames others → fronts ids ++ word ≡ names_text others → ⊥
last_no_names ids word one alone none others fits is = let go = names_go_on ids word others one fits is in last go.0 go.1 go.2
  where
    last : (more : List ℕ) → AreNames more → word ≡ names_text more → ⊥
    last [] fits is = fits.0 refl
    last (y ∷ []) fits is = none y (All-head IsWide y [] fits.1) is
    last (y ∷ z ∷ more) fits is = split_unread word (decimal y) (names_text (z ∷ more)) alone is

-- a fault at a word with others behind it, and at the last
pub front_fault : (text : List ℕ) (ids new : List ℕ) (tail word rest : List ℕ) (fault : TextFault) → text ≡ fronts ids ++ tail
    → tail ≡ word ++ 32 ∷ rest → All IsWide ids → IsOneWord word → AddsName ids word new (Err fault)
    → Gives names_text AreNames text (Err fault)
front_fault text ids new tail word rest faults.Syntax whole cut one alone none = λ others fits is.
    front_no_names ids word rest one alone none others fits (ap (λ (xs : List ℕ). fronts ids ++ xs) (sym cut) ∙ sym whole ∙ is)
front_fault text ids new tail word rest faults.Memory whole cut one alone none = tt

pub last_fault : (text : List ℕ) (ids new : List ℕ) (word : List ℕ) (fault : TextFault)
    → text ≡ fronts ids ++ word → All IsWide ids → IsOneWord word → AddsName ids word new (Err fault)
    → Gives names_text AreNames text (Err fault)
last_fault text ids new word faults.Syntax whole one alone none = λ others fits is. last_no_names ids word one alone none others fits (sym whole ∙ is)
last_fault text ids new word faults.Memory whole one alone none = tt

push_filled : (ids : List ℕ) (id : ℕ) → ids ++ id ∷ [] ≢ []
push_filled [] id is = let e : id ∷ [] ≡ [] = is in cc
push_filled (x ∷ ids) id is = let e : x ∷ (ids ++ id ∷ []) ≡ [] = is in cc

pub last_found : (text : List ℕ) (ids new : List ℕ) (word : List ℕ) (id : ℕ) → text ≡ fronts ids ++ word
    → All IsWide ids → IsWide id → word ≡ decimal id → new ≡ ids ++ id ∷ [] → AreNames new × (text ≡ names_text new)
last_found text ids new word id whole one wide is pushed =
    let found : AreNames (ids ++ id ∷ []) × (text ≡ names_text (ids ++ id ∷ [])) =
    ((push_filled ids id, All-push IsWide ids id one wide), whole ∙ ap (λ (xs : List ℕ). fronts ids ++ xs) is ∙ fronts_last ids id) in
    subst (λ (xs : List ℕ). AreNames xs × (text ≡ names_text xs)) (sym pushed) found

-- with one more name the text is the names so far, and the rest
pub record AreFront (text names rest : List ℕ) : Type 0 where
  pub wide : All IsWide names
  pub whole : text ≡ fronts names ++ rest

pub front_found : (text : List ℕ) (ids new : List ℕ) (tail word rest : List ℕ) (id : ℕ) → text ≡ fronts ids ++ tail
    → tail ≡ word ++ 32 ∷ rest → All IsWide ids → IsWide id → word ≡ decimal id → new ≡ ids ++ id ∷ []
    → AreFront text new rest
front_found text ids new tail word rest id whole cut one wide is pushed =
    let all : text ≡ fronts (ids ++ id ∷ []) ++ rest =
    whole ∙ ap (λ (xs : List ℕ). fronts ids ++ xs) (cut ∙ ap (λ (xs : List ℕ). xs ++ 32 ∷ rest) is) ∙ fronts_push ids id rest in
    subst (λ (xs : List ℕ). AreFront text xs rest) (sym pushed) (record { wide = All-push IsWide ids id one wide; whole = all })

-- what follows `chunk`
abbrev pub chunk_text : Sum → List ℕ → List ℕ
chunk_text rate ids = signed_decimal rate.fee ++ 32 ∷ (decimal rate.size ++ 32 ∷ names_text ids)

-- with one name or more there is a space before the names
size_names : (size : ℕ) (ids : List ℕ) → ids ≢ [] → spaced (decimal size ∷ map decimal ids) ≡ decimal size ++ 32 ∷ names_text ids
size_names size [] some = absurd (some refl)
size_names size (id ∷ ids) some = refl

pub chunk_line_is : (rate : Sum) (ids : List ℕ) → ids ≢ [] → row_line (rows.Chunk rate ids) ≡ kind_word kinds.Chunk ++ 32 ∷ chunk_text rate ids
chunk_line_is rate ids some = ap (λ (xs : List ℕ). kind_word kinds.Chunk ++ 32 ∷ (signed_decimal rate.fee ++ 32 ∷ xs)) (size_names rate.size ids some)

-- a text after `chunk` that has none of the forms makes no line
pub chunk_no_row : (text : List ℕ) → ((rate : Sum) (ids : List ℕ) → HasRowTypes (rows.Chunk rate ids) → text ≡ chunk_text rate ids → ⊥)
    → (row : Row) → HasRowTypes row → kind_word kinds.Chunk ++ 32 ∷ text ≡ row_line row → ⊥
chunk_no_row text none (rows.Chunk rate ids) fits is = none rate ids fits (ap (drop 6) (is ∙ chunk_line_is rate ids fits.2.0))
chunk_no_row text none _ fits is = differ_apart _ _ refl is

-- the same behind the fee
pub chunk_rest_no_row : (fee : ℤ) (text : List ℕ) → IsBigFee fee
    → ((rate : Sum) (ids : List ℕ) → HasRowTypes (rows.Chunk rate ids) → text ≡ decimal rate.size ++ 32 ∷ names_text ids → ⊥)
    → (row : Row) → HasRowTypes row → kind_word kinds.Chunk ++ 32 ∷ (signed_decimal fee ++ 32 ∷ text) ≡ row_line row → ⊥
chunk_rest_no_row fee text fine none = chunk_no_row (signed_decimal fee ++ 32 ∷ text) (λ rate ids fits is.
    none rate ids fits (same_split (signed_decimal fee) text (signed_decimal rate.fee)
    (decimal rate.size ++ 32 ∷ names_text ids) (big_fee_word fee fine) (big_fee_word rate.fee fits.0) is).1)

-- the same behind the fee and the size
names_no_row : (rate : Sum) (text : List ℕ) → IsBigFee rate.fee → IsWide rate.size → ((ids : List ℕ) → AreNames ids → text ≡ names_text ids → ⊥)
    → (row : Row) → HasRowTypes row → kind_word kinds.Chunk ++ 32 ∷ (signed_decimal rate.fee ++ 32 ∷ (decimal rate.size ++ 32 ∷ text)) ≡ row_line row → ⊥
names_no_row rate text fine wide none = chunk_rest_no_row rate.fee (decimal rate.size ++ 32 ∷ text) fine (λ other ids fits is.
    none ids fits.2
    (same_split (decimal rate.size) text (decimal other.size) (names_text ids) (decimal_word rate.size wide) (decimal_word other.size fits.1) is).1)

pub names_fault : (rate : Sum) (text : List ℕ) (fault : TextFault) → IsBigFee rate.fee → IsWide rate.size → Gives names_text AreNames text (Err fault)
    → Gives row_line HasRowTypes (kind_word kinds.Chunk ++ 32 ∷ (signed_decimal rate.fee ++ 32 ∷ (decimal rate.size ++ 32 ∷ text))) (Err fault)
names_fault rate text faults.Syntax fine wide none = names_no_row rate text fine wide none
names_fault rate text faults.Memory fine wide none = tt

pub names_found : (rate : Sum) (text : List ℕ) (ids : List ℕ) → IsBigFee rate.fee → IsWide rate.size → AreNames ids × (text ≡ names_text ids)
    → HasRowTypes (rows.Chunk rate ids)
    × (kind_word kinds.Chunk ++ 32 ∷ (signed_decimal rate.fee ++ 32 ∷ (decimal rate.size ++ 32 ∷ text)) ≡ row_line (rows.Chunk rate ids))
names_found rate text ids fine wide found = (
  (fine, wide, found.0),
  ap (λ (xs : List ℕ). kind_word kinds.Chunk ++ 32 ∷ (signed_decimal rate.fee ++ 32 ∷ (decimal rate.size ++ 32 ∷ xs)))
      found.1 ∙ sym (chunk_line_is rate ids found.0.0),
)
