-- The lines of a certificate text have no line feed, whatever its numbers are. So its bytes are cut into them.
use Rattle.std.proofs.Common.{◌≡◌, ◌≢◌, ℕ, ℤ, zero, suc, pos, negsuc, ◌+◌, ◌/◌, ◌%◌, Bool, true, false, cond, List, [], ◌∷◌, ◌++◌, map, decimal, refl, sym, ap, ◌∙◌, arith, append-nil, inl, inr, true≢false, eq-eqb, ne_eqb}
use Rattle.std.specs.Prelude.{codes, flat_map, All, ◌==◌, if◌then◌else◌, nat_lt}
use Rattle.std.specs.Fmt.{digits, digits_onto, digit_glyph, signed_decimal}
use Rattle.std.proofs.lemmas.Bool.{cases_eq}
use Rattle.std.proofs.lemmas.List.Elements.{All-nil, All-cons, All-append}
use Rattle.graphs.specs.declared.names.Flow.{Flow}
use Rattle.graphs.specs.Certificates.{Part}
use Rattle.graph_model.specs.Words.{spaced, line_text}
use Rattle.graph_model.specs.Lines.{IsOneLine, Cut}
use Rattle.graph_model.specs.Texts.{Text, tx_line, edge_line, flow_line, chunk_line, part_lines, text_lines}

-- ---- words

none_one : IsOneLine []
none_one = All-nil (λ byte. byte ≢ 10)

byte_first : (byte : ℕ) (bytes : List ℕ) → byte ≢ 10 → IsOneLine bytes → IsOneLine (byte ∷ bytes)
byte_first byte bytes other one = All-cons (λ b. b ≢ 10) byte bytes other one

glyph_other : (d : ℕ) → digit_glyph false d ≢ 10
glyph_other d = by (nat_lt d 10)
  where
    by : (small : Bool) → cond small (48 + d) (87 + d) ≢ 10
    by true = λ e. omega (arith, e)
    by false = λ e. omega (arith, e)

-- at most 64 digits are written, whatever the number is
onto_one : (k n : ℕ) (acc : List ℕ) → IsOneLine acc → IsOneLine (digits_onto k 10 false n acc)
onto_one zero n acc one = one
onto_one (suc k) n acc one =
    let more : IsOneLine (digit_glyph false (n % 10) ∷ acc) = byte_first (digit_glyph false (n % 10)) acc (glyph_other (n % 10)) one in
    either (n / 10 == 0) _ _ more (onto_one k (n / 10) (digit_glyph false (n % 10) ∷ acc) more)
  where
    either : (last : Bool) (xs ys : List ℕ) → IsOneLine xs → IsOneLine ys → IsOneLine (cond last xs ys)
    either true xs ys here there = here
    either false xs ys here there = there

number_one : (n : ℕ) → IsOneLine (decimal n)
unfolding digits
number_one n = onto_one 64 n [] none_one

signed_one : (z : ℤ) → IsOneLine (signed_decimal z)
signed_one (pos n) = number_one n
signed_one (negsuc n) = byte_first 45 (decimal (suc n)) (λ e. omega (arith, e)) (number_one (suc n))

-- whether letters that are written out have a line feed
has_feed : List ℕ → Bool
has_feed [] = false
has_feed (byte ∷ bytes) = if byte == 10 then true else has_feed bytes

told_one : (bytes : List ℕ) → has_feed bytes ≡ false → IsOneLine bytes
unfolding has_feed
told_one [] none = none_one
told_one (byte ∷ bytes) none = elim (cases_eq byte 10) [
  | inl same ↦ absurd (true≢false (sym (ap (λ b. cond b true (has_feed bytes)) (eq-eqb byte 10 same)) ∙ none))
  | inr other ↦ byte_first byte bytes other (told_one bytes (sym (ap (λ b. cond b true (has_feed bytes)) (ne_eqb byte 10 other)) ∙ none))
]

-- no word has a line feed
abbrev AreWords : List (List ℕ) → Type 0
AreWords [] = Unit {0}
AreWords (word ∷ words) = IsOneLine word × AreWords words

numbers_one : (ns : List ℕ) → AreWords (map decimal ns)
numbers_one [] = tt
numbers_one (n ∷ ns) = (number_one n, numbers_one ns)

spaced_one : (words : List (List ℕ)) → AreWords words → IsOneLine (spaced words)
spaced_one [] ones = none_one
spaced_one (word ∷ []) ones = ones.0
spaced_one (word ∷ next ∷ words) ones =
    All-append (λ byte. byte ≢ 10) word (32 ∷ spaced (next ∷ words)) ones.0
    (byte_first 32 (spaced (next ∷ words)) (λ e. omega (arith, e)) (spaced_one (next ∷ words) ones.1))

-- ---- lines

-- what each entry is made into is a line
mapped_one : {A : Type 0} (f : A → List ℕ) (xs : List A) → ((x : A) → IsOneLine (f x)) → All IsOneLine (map f xs)
mapped_one f [] each = All-nil IsOneLine
mapped_one f (x ∷ xs) each = All-cons IsOneLine (f x) (map f xs) (each x) (mapped_one f xs each)

joined_one : {A : Type 0} (f : A → List (List ℕ)) (xs : List A) → ((x : A) → All IsOneLine (f x)) → All IsOneLine (flat_map f xs)
joined_one f [] each = All-nil IsOneLine
joined_one f (x ∷ xs) each = All-append IsOneLine (f x) (flat_map f xs) (each x) (joined_one f xs each)

tx_one : (id : ℕ) (fee : ℤ) (size : ℕ) → IsOneLine (tx_line id fee size)
unfolding has_feed
tx_one id fee size = spaced_one (codes "tx" ∷ decimal id ∷ signed_decimal fee ∷ decimal size ∷ [])
    (told_one (codes "tx") refl, (number_one id, (signed_one fee, (number_one size, tt))))

edge_one : (parent child : ℕ) → IsOneLine (edge_line parent child)
unfolding has_feed
edge_one parent child = spaced_one (codes "edge" ∷ decimal parent ∷ decimal child ∷ [])
    (told_one (codes "edge") refl, (number_one parent, (number_one child, tt)))

flow_one : (flow : Flow) → IsOneLine (flow_line flow)
unfolding has_feed
flow_one flow = spaced_one (codes "flow" ∷ decimal flow.child ∷ decimal flow.parent ∷ decimal flow.amount ∷ [])
    (told_one (codes "flow") refl, (number_one flow.child, (number_one flow.parent, (number_one flow.amount, tt))))

chunk_one : (part : Part) → IsOneLine (chunk_line part)
unfolding has_feed
chunk_one part = spaced_one (codes "chunk" ∷ signed_decimal part.rate.fee ∷ decimal part.rate.size ∷ map decimal part.ids)
    (told_one (codes "chunk") refl, (signed_one part.rate.fee, (number_one part.rate.size, numbers_one part.ids)))

part_one : (part : Part) → All IsOneLine (part_lines part)
part_one part = All-cons IsOneLine (chunk_line part) (map flow_line part.flows) (chunk_one part) (mapped_one flow_line part.flows flow_one)

end_one : All IsOneLine (codes "end" ∷ [])
unfolding has_feed
end_one = All-cons IsOneLine (codes "end") [] (told_one (codes "end") refl) (All-nil IsOneLine)

lines_one : (text : Text) → All IsOneLine (text_lines text)
lines_one text =
    let txs : List (List ℕ) = map (λ tx. tx_line tx.0 tx.1 tx.2) text.txs in
    let edges : List (List ℕ) = map (λ edge. edge_line edge.0 edge.1) text.edges in
    let parts : List (List ℕ) = flat_map part_lines text.parts in
    let one : All IsOneLine txs = mapped_one (λ (tx : ℕ × ℤ × ℕ). tx_line tx.0 tx.1 tx.2) text.txs (λ tx. tx_one tx.0 tx.1 tx.2) in
    let two : All IsOneLine edges = mapped_one (λ (edge : ℕ × ℕ). edge_line edge.0 edge.1) text.edges (λ edge. edge_one edge.0 edge.1) in
    let three : All IsOneLine parts = joined_one part_lines text.parts part_one in
    All-append IsOneLine (txs ++ edges ++ parts) (codes "end" ∷ [])
    (All-append IsOneLine (txs ++ edges) parts (All-append IsOneLine txs edges one two) three) end_one

-- ---- the bytes of lines

pub text_cut : (text : Text) → Cut (flat_map line_text (text_lines text)) (text_lines text) []
text_cut text = record { whole = sym (append-nil (flat_map line_text (text_lines text))); each = lines_one text; last = none_one }
