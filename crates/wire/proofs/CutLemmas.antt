-- Bytes are cut into lines in one way.
use Rattle.std.proofs.Common.{◌≡◌, ◌≢◌, ℕ, List, [], ◌∷◌, ◌++◌, refl, sym, ap, ◌∙◌, nat_eq, true, false, eqb-true}
use Rattle.std.proofs.lemmas.Bool.{eqb-false}
use Rattle.std.proofs.lemmas.List.Elements.{All-cons, All-nil, All-head, All-tail}
use Rattle.graph_model.specs.Lines.{IsOneLine, Cut}
use Rattle.wire.proofs.LineLemmas.{cut_lines}

abbrev HasCut : List ℕ → Type 0
HasCut bytes = (lines : List (List ℕ)) × (rest : List ℕ) × Cut bytes lines rest

feed_cut : (byte : ℕ) (bytes : List ℕ) → byte ≡ 10 → HasCut bytes → HasCut (byte ∷ bytes)
feed_cut byte bytes feed (lines, rest, cut) = (
  [] ∷ lines,
  rest,
  record {
    whole = λ i. feed i ∷ cut.whole i;
    each = All-cons IsOneLine [] lines (All-nil (λ other. other ≢ 10)) cut.each;
    last = cut.last;
  },
)

other_cut : (byte : ℕ) (bytes : List ℕ) → byte ≢ 10 → HasCut bytes → HasCut (byte ∷ bytes)
other_cut byte bytes other ([], rest, cut) = (
  [],
  byte ∷ rest,
  record {
    whole = ap (λ (xs : List ℕ). byte ∷ xs) cut.whole;
    each = All-nil IsOneLine;
    last = All-cons (λ b. b ≢ 10) byte rest other cut.last;
  },
)
other_cut byte bytes other (line ∷ lines, rest, cut) = (
  (byte ∷ line) ∷ lines,
  rest,
  record {
    whole = ap (λ (xs : List ℕ). byte ∷ xs) cut.whole;
    each = All-cons IsOneLine (byte ∷ line) lines (All-cons (λ b. b ≢ 10) byte line other (All-head IsOneLine line lines cut.each))
        (All-tail IsOneLine line lines cut.each);
    last = cut.last;
  },
)

some_cut : (bytes : List ℕ) → HasCut bytes
some_cut [] = ([], [], record { whole = refl; each = All-nil IsOneLine; last = All-nil (λ byte. byte ≢ 10) })
some_cut (byte ∷ bytes) = elim (nat_eq byte 10) as (λ b. nat_eq byte 10 ≡ b → HasCut (byte ∷ bytes)) [
  | true ↦ λ e. feed_cut byte bytes (eqb-true byte 10 e) (some_cut bytes)
  | false ↦ λ e. other_cut byte bytes (eqb-false byte 10 e) (some_cut bytes)
] refl

push_same : (xs ys : List (List ℕ)) (x y : List ℕ) → xs ++ x ∷ [] ≡ ys ++ y ∷ [] → (xs ≡ ys) × (x ≡ y)
push_same [] [] x y is = (refl, cc)
push_same [] (w ∷ []) x y is = absurd (let e : x ∷ [] ≡ w ∷ y ∷ [] = is in let f : [] ≡ y ∷ [] = cc in cc)
push_same [] (w ∷ v ∷ ys) x y is = absurd (let e : x ∷ [] ≡ w ∷ v ∷ (ys ++ y ∷ []) = is in let f : [] ≡ v ∷ (ys ++ y ∷ []) = cc in cc)
push_same (w ∷ []) [] x y is = absurd (let e : w ∷ x ∷ [] ≡ y ∷ [] = is in let f : x ∷ [] ≡ [] = cc in cc)
push_same (w ∷ v ∷ xs) [] x y is = absurd (let e : w ∷ v ∷ (xs ++ x ∷ []) ≡ y ∷ [] = is in let f : v ∷ (xs ++ x ∷ []) ≡ [] = cc in cc)
push_same (w ∷ xs) (v ∷ ys) x y is =
    let e : w ∷ (xs ++ x ∷ []) ≡ v ∷ (ys ++ y ∷ []) = is in
    let head : w ≡ v = cc in
    let tail : xs ++ x ∷ [] ≡ ys ++ y ∷ [] = cc in
    let rest = push_same xs ys x y tail in
    let front = rest.0 in
    (λ i. head i ∷ front i, rest.1)

pub one_cut : (bytes : List ℕ) → (lines : List (List ℕ)) × (rest : List ℕ) × Cut bytes lines rest
    × ((others : List (List ℕ)) (last : List ℕ) → Cut bytes others last → (others ≡ lines) × (last ≡ rest))
one_cut bytes = let cut = some_cut bytes in
    (cut.0, cut.1, cut.2, λ others last other. push_same others cut.0 last cut.1 (sym (cut_lines bytes others last other) ∙ cut_lines bytes cut.0 cut.1 cut.2))
