-- The lines of certificate texts: each has one spelling, and what is no line.
use Rattle.std.proofs.Common.{◌≡◌, ℕ, List, [], ◌∷◌, ◌++◌, refl, sym, ap, arith, map, decimal, codes, None, FitsSigned, drop}
use Rattle.std.specs.Prelude.{All}
use Rattle.std.specs.Int.{w64}
use Rattle.std.specs.Fmt.{signed_decimal}
use Rattle.std.proofs.lemmas.Int.{ints}
use Rattle.std.proofs.lemmas.Fmt.{decimal_injective, signed_decimal_injective}
use Rattle.std.proofs.lemmas.List.Elements.{All-cons, All-nil, All-head, All-tail, All-map, All-weaker}
use Rattle.graph_model.specs.Words.{spaced}
use Rattle.wire.specs.declared.texts.row.Row.{Row}
use Rattle.wire.specs.declared.texts.row.Row.TheVariants as rows
use Rattle.wire.specs.declared.texts.row.Kind.{Kind}
use Rattle.wire.specs.declared.texts.row.Kind.TheVariants as kinds
use Rattle.wire.specs.Fields.{ReadsAs, IsWide, IsAmount, IsOneWord, pair_spelling, BothFit}
use Rattle.wire.specs.Rows.{kind_word, row_line, HasRowTypes}
use Rattle.wire.specs.OneWord.{decimal_word, signed_word, big_word, big_fee_word}
use Rattle.wire.proofs.ReadLemmas.{same_split, split_unread}
use Rattle.wire.proofs.NumberLemmas.{big_injective, big_fee_injective}
use Rattle.wire.proofs.FormLemmas.{differ_apart, one_word}

-- words of no space are told from their text
pub spaced_same : (w : List ℕ) (ws : List (List ℕ)) (v : List ℕ) (vs : List (List ℕ))
    → All IsOneWord (w ∷ ws) → All IsOneWord (v ∷ vs) → spaced (w ∷ ws) ≡ spaced (v ∷ vs) → w ∷ ws ≡ v ∷ vs
spaced_same w [] v [] one other is = ap (λ (x : List ℕ). x ∷ []) is
spaced_same w [] v (y ∷ vs) one other is = absurd (split_unread w v (spaced (y ∷ vs)) (All-head IsOneWord w [] one) is)
spaced_same w (x ∷ ws) v [] one other is = absurd (split_unread v w (spaced (x ∷ ws)) (All-head IsOneWord v [] other) (sym is))
spaced_same w (x ∷ ws) v (y ∷ vs) one other is =
    let cut = same_split w (spaced (x ∷ ws)) v (spaced (y ∷ vs)) (All-head IsOneWord w (x ∷ ws) one) (All-head IsOneWord v (y ∷ vs) other) is in
    let first : w ≡ v = cut.0 in
    let rest : x ∷ ws ≡ y ∷ vs = spaced_same x ws y vs (All-tail IsOneWord w (x ∷ ws) one) (All-tail IsOneWord v (y ∷ vs) other) cut.1 in
    λ i. first i ∷ rest i

amount_word : (n : ℕ) → IsAmount n → IsOneWord (decimal n)
amount_word n fits = big_word n (omega (arith, fits.1))

three : (a b c d : List ℕ) → IsOneWord a → IsOneWord b → IsOneWord c → IsOneWord d → All IsOneWord (a ∷ b ∷ c ∷ d ∷ [])
three a b c d p q r s = All-cons IsOneWord a (b ∷ c ∷ d ∷ []) p
    (All-cons IsOneWord b (c ∷ d ∷ []) q (All-cons IsOneWord c (d ∷ []) r (All-cons IsOneWord d [] s (All-nil IsOneWord))))

-- the words of a line
abbrev row_words : Row → List (List ℕ)
row_words (rows.Tx id fee size) = codes "tx" ∷ decimal id ∷ signed_decimal fee ∷ decimal size ∷ []
row_words (rows.Edge parent child) = codes "edge" ∷ decimal parent ∷ decimal child ∷ []
row_words (rows.Chunk rate ids) = codes "chunk" ∷ signed_decimal rate.fee ∷ decimal rate.size ∷ map decimal ids
row_words (rows.Flow flow) = codes "flow" ∷ decimal flow.child ∷ decimal flow.parent ∷ decimal flow.amount ∷ []
row_words rows.End = codes "end" ∷ []

row_one_words : (row : Row) → HasRowTypes row → All IsOneWord (row_words row)
row_one_words (rows.Tx id fee size) fits =
    three (codes "tx") (decimal id) (signed_decimal fee) (decimal size) (one_word (codes "tx") refl)
    (decimal_word id fits.0) (signed_word fee fits.1) (decimal_word size fits.2)
row_one_words (rows.Edge parent child) fits =
    All-cons IsOneWord (codes "edge") (decimal parent ∷ decimal child ∷ []) (one_word (codes "edge") refl) (All-cons IsOneWord (decimal parent)
    (decimal child ∷ []) (decimal_word parent fits.0) (All-cons IsOneWord (decimal child) [] (decimal_word child fits.1) (All-nil IsOneWord)))
row_one_words (rows.Chunk rate ids) fits =
    All-cons IsOneWord (codes "chunk") (signed_decimal rate.fee ∷ decimal rate.size ∷ map decimal ids) (one_word (codes "chunk") refl)
    (All-cons IsOneWord (signed_decimal rate.fee) (decimal rate.size ∷ map decimal ids) (big_fee_word rate.fee fits.0)
    (All-cons IsOneWord (decimal rate.size) (map decimal ids) (decimal_word rate.size fits.1)
    (All-map IsOneWord decimal ids (All-weaker IsWide (λ id. IsOneWord (decimal id)) decimal_word ids fits.2.1))))
row_one_words (rows.Flow flow) fits =
    three (codes "flow") (decimal flow.child) (decimal flow.parent) (decimal flow.amount) (one_word (codes "flow") refl)
    (decimal_word flow.child fits.0) (decimal_word flow.parent fits.1) (amount_word flow.amount fits.2)
row_one_words rows.End fits = All-cons IsOneWord (codes "end") [] (one_word (codes "end") refl) (All-nil IsOneWord)

pub names_same : (ids others : List ℕ) → All IsWide ids → All IsWide others → map decimal ids ≡ map decimal others → ids ≡ others
names_same [] [] one other is = refl
names_same [] (y ∷ ys) one other is = absurd (let e : [] ≡ decimal y ∷ map decimal ys = is in cc)
names_same (x ∷ xs) [] one other is = absurd (let e : decimal x ∷ map decimal xs ≡ [] = is in cc)
names_same (x ∷ xs) (y ∷ ys) one other is =
    let e : decimal x ∷ map decimal xs ≡ decimal y ∷ map decimal ys = is in
    let head : decimal x ≡ decimal y = cc in
    let tail : map decimal xs ≡ map decimal ys = cc in
    let first : x ≡ y = decimal_injective x y (All-head IsWide x xs one) (All-head IsWide y ys other) head in
    let rest = names_same xs ys (All-tail IsWide x xs one) (All-tail IsWide y ys other) tail in
    λ i. first i ∷ rest i

-- a line has one meaning
pub row_same : (a b : Row) → HasRowTypes a → HasRowTypes b → row_line a ≡ row_line b → a ≡ b
row_same (rows.Tx id fee size) (rows.Tx id' fee' size') one other is =
    let a = rows.Tx id fee size in
    let b = rows.Tx id' fee' size' in
    let words : codes "tx" ∷ decimal id ∷ signed_decimal fee ∷ decimal size ∷ [] ≡ codes "tx" ∷ decimal id' ∷ signed_decimal fee' ∷ decimal size' ∷ [] =
    spaced_same (codes "tx") (decimal id ∷ signed_decimal fee ∷ decimal size ∷ []) (codes "tx")
    (decimal id' ∷ signed_decimal fee' ∷ decimal size' ∷ []) (row_one_words a one) (row_one_words b other) is in
    let first : decimal id ≡ decimal id' = cc in
    let second : signed_decimal fee ≡ signed_decimal fee' = cc in
    let third : decimal size ≡ decimal size' = cc in
    let id_is : id ≡ id' = decimal_injective id id' one.0 other.0 first in
    let fee_is : fee ≡ fee' = signed_decimal_injective fee fee' (omega (arith, ints, one.1)) (omega (arith, ints, other.1)) second in
    let size_is : size ≡ size' = decimal_injective size size' one.2 other.2 third in
    λ i. rows.Tx (id_is i) (fee_is i) (size_is i)
row_same (rows.Edge parent child) (rows.Edge parent' child') one other is =
    let words : codes "edge" ∷ decimal parent ∷ decimal child ∷ [] ≡ codes "edge" ∷ decimal parent' ∷ decimal child' ∷ [] =
    spaced_same (codes "edge") (decimal parent ∷ decimal child ∷ []) (codes "edge") (decimal parent' ∷ decimal child' ∷ [])
    (row_one_words (rows.Edge parent child) one) (row_one_words (rows.Edge parent' child') other) is in
    let first : decimal parent ≡ decimal parent' = cc in
    let second : decimal child ≡ decimal child' = cc in
    let parent_is : parent ≡ parent' = decimal_injective parent parent' one.0 other.0 first in
    let child_is : child ≡ child' = decimal_injective child child' one.1 other.1 second in
    λ i. rows.Edge (parent_is i) (child_is i)
row_same (rows.Chunk rate ids) (rows.Chunk rate' ids') one other is =
    let words : codes "chunk" ∷ signed_decimal rate.fee ∷ decimal rate.size ∷ map decimal ids
    ≡ codes "chunk" ∷ signed_decimal rate'.fee ∷ decimal rate'.size ∷ map decimal ids' =
    spaced_same (codes "chunk") (signed_decimal rate.fee ∷ decimal rate.size ∷ map decimal ids)
    (codes "chunk") (signed_decimal rate'.fee ∷ decimal rate'.size ∷ map decimal ids')
    (row_one_words (rows.Chunk rate ids) one) (row_one_words (rows.Chunk rate' ids') other) is in
    let first : signed_decimal rate.fee ≡ signed_decimal rate'.fee = cc in
    let second : decimal rate.size ≡ decimal rate'.size = cc in
    let third : map decimal ids ≡ map decimal ids' = cc in
    let fee_is : rate.fee ≡ rate'.fee = big_fee_injective rate.fee rate'.fee one.0 other.0 first in
    let size_is : rate.size ≡ rate'.size = decimal_injective rate.size rate'.size one.1 other.1 second in
    let ids_is : ids ≡ ids' = names_same ids ids' one.2.1 other.2.1 third in
    λ i. rows.Chunk (record { fee = fee_is i; size = size_is i }) (ids_is i)
row_same (rows.Flow flow) (rows.Flow flow') one other is =
    let words : codes "flow" ∷ decimal flow.child ∷ decimal flow.parent ∷ decimal flow.amount ∷ []
    ≡ codes "flow" ∷ decimal flow'.child ∷ decimal flow'.parent ∷ decimal flow'.amount ∷ [] =
    spaced_same (codes "flow") (decimal flow.child ∷ decimal flow.parent ∷ decimal flow.amount ∷ [])
    (codes "flow") (decimal flow'.child ∷ decimal flow'.parent ∷ decimal flow'.amount ∷ [])
    (row_one_words (rows.Flow flow) one) (row_one_words (rows.Flow flow') other) is in
    let first : decimal flow.child ≡ decimal flow'.child = cc in
    let second : decimal flow.parent ≡ decimal flow'.parent = cc in
    let third : decimal flow.amount ≡ decimal flow'.amount = cc in
    let child_is : flow.child ≡ flow'.child = decimal_injective flow.child flow'.child one.0 other.0 first in
    let parent_is : flow.parent ≡ flow'.parent = decimal_injective flow.parent flow'.parent one.1 other.1 second in
    let amount_is : flow.amount ≡ flow'.amount = big_injective flow.amount flow'.amount (omega (arith, one.2.1)) (omega (arith, other.2.1)) third in
    λ i. rows.Flow (record { child = child_is i; parent = parent_is i; amount = amount_is i })
row_same rows.End rows.End one other is = refl
row_same _ _ one other is = absurd (differ_apart _ _ refl is)

-- the text of one word is a line only where it is `end`
pub word_no_row : (text : List ℕ) → IsOneWord text → (text ≡ codes "end" → ⊥) → (row : Row) → HasRowTypes row → text ≡ row_line row → ⊥
word_no_row text one other (rows.Tx id fee size) fits is = split_unread text (codes "tx") (spaced (decimal id ∷ signed_decimal fee ∷ decimal size ∷ [])) one is
word_no_row text one other (rows.Edge parent child) fits is = split_unread text (codes "edge") (spaced (decimal parent ∷ decimal child ∷ [])) one is
word_no_row text one other (rows.Chunk rate ids) fits is =
    split_unread text (codes "chunk") (spaced (signed_decimal rate.fee ∷ decimal rate.size ∷ map decimal ids)) one is
word_no_row text one other (rows.Flow flow) fits is =
    split_unread text (codes "flow") (spaced (decimal flow.child ∷ decimal flow.parent ∷ decimal flow.amount ∷ [])) one is
word_no_row text one other rows.End fits is = other is

-- nor is one whose first word is of no kind
pub kind_no_row : (word rest : List ℕ) → IsOneWord word → ((kind : Kind) → Unit {0} → word ≡ kind_word kind → ⊥)
    → (row : Row) → HasRowTypes row → word ++ 32 ∷ rest ≡ row_line row → ⊥
kind_no_row word rest one none (rows.Tx id fee size) fits is =
    none kinds.Tx tt (same_split word rest (codes "tx") (spaced (decimal id ∷ signed_decimal fee ∷ decimal size ∷ [])) one (one_word (codes "tx") refl) is).0
kind_no_row word rest one none (rows.Edge parent child) fits is =
    none kinds.Edge tt (same_split word rest (codes "edge") (spaced (decimal parent ∷ decimal child ∷ [])) one (one_word (codes "edge") refl) is).0
kind_no_row word rest one none (rows.Chunk rate ids) fits is =
    none kinds.Chunk tt
    (same_split word rest (codes "chunk") (spaced (signed_decimal rate.fee ∷ decimal rate.size ∷ map decimal ids)) one (one_word (codes "chunk") refl) is).0
kind_no_row word rest one none (rows.Flow flow) fits is =
    none kinds.Flow tt (same_split word rest (codes "flow")
    (spaced (decimal flow.child ∷ decimal flow.parent ∷ decimal flow.amount ∷ [])) one (one_word (codes "flow") refl) is).0
kind_no_row word rest one none rows.End fits is = split_unread (codes "end") word rest (one_word (codes "end") refl) (sym is)

-- Where what follows a line's first word has no form, it is no line.
pub tx_no_row : (rest : List ℕ)
    → ReadsAs (pair_spelling decimal (pair_spelling signed_decimal decimal)) (BothFit IsWide (BothFit (FitsSigned w64) IsWide)) rest None
    → (row : Row) → HasRowTypes row → kind_word kinds.Tx ++ 32 ∷ rest ≡ row_line row → ⊥
tx_no_row rest none (rows.Tx id fee size) fits is = none (id, (fee, size)) (fits.0, (fits.1, fits.2)) (ap (drop 3) is)
tx_no_row rest none _ fits is = differ_apart _ _ refl is

pub edge_no_row : (rest : List ℕ) → ReadsAs (pair_spelling decimal decimal) (BothFit IsWide IsWide) rest None
    → (row : Row) → HasRowTypes row → kind_word kinds.Edge ++ 32 ∷ rest ≡ row_line row → ⊥
edge_no_row rest none (rows.Edge parent child) fits is = none (parent, child) (fits.0, fits.1) (ap (drop 5) is)
edge_no_row rest none _ fits is = differ_apart _ _ refl is

pub flow_no_row : (rest : List ℕ) → ReadsAs (pair_spelling decimal (pair_spelling decimal decimal)) (BothFit IsWide (BothFit IsWide IsAmount)) rest None
    → (row : Row) → HasRowTypes row → kind_word kinds.Flow ++ 32 ∷ rest ≡ row_line row → ⊥
flow_no_row rest none (rows.Flow flow) fits is = none (flow.child, (flow.parent, flow.amount)) (fits.0, (fits.1, fits.2)) (ap (drop 5) is)
flow_no_row rest none _ fits is = differ_apart _ _ refl is
