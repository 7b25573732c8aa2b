-- The lines of a certificate text: none is too long, and none is passed over or ends in a carriage return.
use Rattle.std.proofs.Common.{◌≡◌, ℕ, ℤ, suc, pos, negsuc, ◌*◌, ◌^◌, ◌<◌, ◌≤◌, false, cond, not, List, [], ◌∷◌, ◌++◌, map, length, decimal, refl, ap, ap₂, ◌∙◌, arith, ne_eqb, length-append}
use Rattle.std.specs.Prelude.{Contains, codes, unsigned_abs}
use Rattle.std.specs.Fmt.{signed_decimal}
use Rattle.std.specs.Str.Parse.{AllDigits}
use Rattle.std.proofs.lemmas.Str.Parse.{digit_from_value}
use Rattle.std.proofs.lemmas.Fmt.{decimal_is_IsNumeral_wide, length-decimal-le_wide}
use Rattle.std.proofs.lemmas.List.{length-map}
use Rattle.lists.specs.Rising.{AllAbove}
use Rattle.lists.proofs.Entries.{Contains-head, Contains-later}
use Rattle.graphs.specs.declared.names.Flow.{Flow}
use Rattle.graphs.specs.Certificates.{Part}
use Rattle.graph_model.specs.Words.{spaced}
use Rattle.graph_model.specs.Lines.{without_return, is_quiet, max_line}
use Rattle.graph_model.specs.Texts.{tx_line, edge_line, flow_line, chunk_line, told}

-- ---- bytes above others

above_joined : (n : ℕ) (xs ys : List ℕ) → AllAbove n xs → AllAbove n ys → AllAbove n (xs ++ ys)
above_joined n [] ys here there = there
above_joined n (x ∷ xs) ys here there = (here.0, above_joined n xs ys here.1 there)

pub above_less : (m n : ℕ) (xs : List ℕ) → m ≤ n → AllAbove n xs → AllAbove m xs
above_less m n [] less above = tt
above_less m n (x ∷ xs) less above = (omega (arith, less, above.0), above_less m n xs less above.1)

digits_above : (ds : List ℕ) → AllDigits 10 ds → AllAbove 32 ds
digits_above [] all = tt
digits_above (d ∷ ds) all = ((let range = digit_from_value d all.0 in omega (arith, range)), digits_above ds all.1)

-- no carriage return is at the end
pub kept_line : (line : List ℕ) → AllAbove 13 line → without_return line ≡ line
kept_line [] above = refl
kept_line (byte ∷ []) above = ap (λ b. cond b [] (byte ∷ [])) (ne_eqb byte 13 (λ same. omega (arith, same, above.0)))
kept_line (byte ∷ next ∷ bytes) above = ap (λ xs. byte ∷ xs) (kept_line (next ∷ bytes) above.1)

-- ---- words

-- the bytes of a word are above the space, and at most 32
abbrev pub AreShort : List (List ℕ) → Type 0
AreShort [] = Unit {0}
AreShort (word ∷ words) = (AllAbove 32 word × (length word ≤ 32)) × AreShort words

pub spaced_above : (words : List (List ℕ)) → AreShort words → AllAbove 31 (spaced words)
spaced_above [] short = tt
spaced_above (word ∷ []) short = above_less 31 32 word (omega arith) short.0.0
spaced_above (word ∷ next ∷ words) short =
    above_joined 31 word (32 ∷ spaced (next ∷ words)) (above_less 31 32 word (omega arith) short.0.0) (omega arith, spaced_above (next ∷ words) short.1)

spaced_length : (words : List (List ℕ)) → AreShort words → length (spaced words) ≤ 33 * length words
spaced_length [] short = omega arith
spaced_length (word ∷ []) short = omega (arith, short.0.1)
spaced_length (word ∷ next ∷ words) short =
    let rest : length (spaced (next ∷ words)) ≤ 33 * length (next ∷ words) = spaced_length (next ∷ words) short.1 in
    omega (arith, short.0.1, length-append word (32 ∷ spaced (next ∷ words)))

number_short : (n : ℕ) → n ≤ 10 ^ 30 → AllAbove 32 (decimal n) × (length (decimal n) ≤ 32)
number_short n small = (
  digits_above (decimal n) (decimal_is_IsNumeral_wide n (omega arith)).0.1,
  (let long : length (decimal n) ≤ 31 = length-decimal-le_wide 31 n (omega arith) (omega arith) (omega arith) in omega arith),
)

signed_short : (z : ℤ) → unsigned_abs z ≤ 10 ^ 30 → AllAbove 32 (signed_decimal z) × (length (signed_decimal z) ≤ 32)
signed_short (pos n) small = number_short n small
signed_short (negsuc n) small = (
  (omega arith, digits_above (decimal (suc n)) (decimal_is_IsNumeral_wide (suc n) (omega arith)).0.1),
  (let long : length (decimal (suc n)) ≤ 31 = length-decimal-le_wide 31 (suc n) (omega arith) (omega arith) (omega arith) in omega arith),
)

numbers_short : (ns : List ℕ) → ((n : ℕ) → Contains ns n → n < 2 ^ 64) → AreShort (map decimal ns)
numbers_short [] small = tt
numbers_short (n ∷ ns) small =
    (number_short n (let below : n < 2 ^ 64 = small n (Contains-head n ns) in omega arith), numbers_short ns (λ m here. small m (Contains-later n m ns here)))

-- ---- lines

pub record IsPlain (line : List ℕ) : Type 0 where
  -- no byte is a control character
  pub printed : AllAbove 31 line
  pub loud : is_quiet line ≡ false
  pub short : length line ≤ max_line

abbrev pub AllPlain : List (List ℕ) → Type 0
AllPlain lines = (line : List ℕ) → Contains lines line → IsPlain line

pub tx_short : (id : ℕ) (fee : ℤ) (size : ℕ) → id < 2 ^ 64 → unsigned_abs fee ≤ 10 ^ 30 → size < 2 ^ 64
    → AreShort (codes "tx" ∷ decimal id ∷ signed_decimal fee ∷ decimal size ∷ [])
tx_short id fee size one two three = (
  ((omega arith, (omega arith, tt)), omega arith),
  (number_short id (omega arith), (signed_short fee two, (number_short size (omega arith), tt))),
)

pub tx_plain : (id : ℕ) (fee : ℤ) (size : ℕ) → id < 2 ^ 64 → unsigned_abs fee ≤ 10 ^ 30 → size < 2 ^ 64 → IsPlain (tx_line id fee size)
tx_plain id fee size one two three =
    let words : List (List ℕ) = codes "tx" ∷ decimal id ∷ signed_decimal fee ∷ decimal size ∷ [] in
    let short : AreShort words = tx_short id fee size one two three in
    record { printed = spaced_above words short; loud = refl; short = let long = spaced_length words short in omega (arith, long) }

pub edge_short : (parent child : ℕ) → parent < 2 ^ 64 → child < 2 ^ 64 → AreShort (codes "edge" ∷ decimal parent ∷ decimal child ∷ [])
edge_short parent child one two = (
  ((omega arith, (omega arith, (omega arith, (omega arith, tt)))), omega arith),
  (number_short parent (omega arith), (number_short child (omega arith), tt)),
)

pub edge_plain : (parent child : ℕ) → parent < 2 ^ 64 → child < 2 ^ 64 → IsPlain (edge_line parent child)
edge_plain parent child one two =
    let words : List (List ℕ) = codes "edge" ∷ decimal parent ∷ decimal child ∷ [] in
    let short : AreShort words = edge_short parent child one two in
    record { printed = spaced_above words short; loud = refl; short = let long = spaced_length words short in omega (arith, long) }

pub flow_plain : (flow : Flow) → flow.child < 2 ^ 64 → flow.parent < 2 ^ 64 → flow.amount ≤ 10 ^ 30 → IsPlain (flow_line flow)
flow_plain flow one two three =
    let words : List (List ℕ) = codes "flow" ∷ decimal flow.child ∷ decimal flow.parent ∷ decimal flow.amount ∷ [] in
    let short : AreShort words = (
      (
        (omega arith, (omega arith, (omega arith, (omega arith, tt)))),
        omega arith,
      ),
      (number_short flow.child (omega arith), (number_short flow.parent (omega arith), (number_short flow.amount three, tt))),
    ) in
    record { printed = spaced_above words short; loud = refl; short = let long = spaced_length words short in omega (arith, long) }

pub chunk_plain : (part : Part) → unsigned_abs part.rate.fee ≤ 10 ^ 30 → part.rate.size < 2 ^ 64
    → ((id : ℕ) → Contains part.ids id → id < 2 ^ 64) → length part.ids ≤ 128 → IsPlain (chunk_line part)
chunk_plain part one two three few =
    let words : List (List ℕ) = codes "chunk" ∷ signed_decimal part.rate.fee ∷ decimal part.rate.size ∷ map decimal part.ids in
    let short : AreShort words = (
      (
        (
          omega arith,
          (
            omega arith,
            (omega arith, (omega arith, (omega arith, tt))),
          ),
        ),
        omega arith,
      ),
      (signed_short part.rate.fee one, (number_short part.rate.size (omega arith), numbers_short part.ids three)),
    ) in
    let count : length (map decimal part.ids) ≡ length part.ids = length-map part.ids decimal in
    record { printed = spaced_above words short; loud = refl; short = let long = spaced_length words short in omega (arith, long, count) }

pub end_short : AreShort (codes "end" ∷ [])
end_short = (((omega arith, (omega arith, (omega arith, tt))), omega arith), tt)

pub end_plain : IsPlain (codes "end")
end_plain = record { printed = spaced_above (codes "end" ∷ []) end_short; loud = refl; short = omega arith }

-- ---- all lines

-- plain lines are what they say
pub told_plain : (lines : List (List ℕ)) → AllPlain lines → told lines ≡ lines
told_plain [] plain = refl
told_plain (line ∷ lines) plain =
    let one : IsPlain line = plain line (Contains-head line lines) in
    let same : without_return line ≡ line = kept_line line (above_less 13 31 line (omega arith) one.printed) in
    let rest : told lines ≡ lines = told_plain lines (λ other here. plain other (Contains-later line other lines here)) in
    ap (λ b. cond (not b) (without_return line ∷ told lines) (told lines)) (ap is_quiet same ∙ one.loud) ∙ ap₂ (λ (x : List ℕ) xs. x ∷ xs) same rest
