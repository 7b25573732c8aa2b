-- Cutting a line into its fields.
use Rattle.std.proofs.Common.{◌≡◌, ◌≢◌, ℕ, ◌-◌, ◌≤◌, List, [], ◌∷◌, ◌++◌, refl, subst, arith, ◌∙◌, ap, nat_eq, true, false, length, cond, suc, slice_index, eqb-true}
use Rattle.graph_model.specs.Lines.{without_return}
use Rattle.wire.specs.Fields.{IsOneWord}
use Rattle.std.proofs.lemmas.List.Elements.{All-head, All-tail}

pub without_return_last : (front : List ℕ) → without_return (front ++ 13 ∷ []) ≡ front
without_return_last [] = refl
without_return_last (byte ∷ []) = refl
without_return_last (byte ∷ next ∷ front) = ap (λ (xs : List ℕ). byte ∷ xs) (without_return_last (next ∷ front))

pub without_return_le : (line : List ℕ) → length (without_return line) ≤ length line
without_return_le [] = omega arith
without_return_le (byte ∷ []) = elim (nat_eq byte 13) as (λ b. length (cond b [] (byte ∷ [])) ≤ 1) [ true ↦ omega arith | false ↦ omega arith ]
without_return_le (byte ∷ next ∷ line) = omega (arith, without_return_le (next ∷ line))

pub without_return_other : (bytes : List ℕ) → (slice_index bytes (length bytes - 1) ≡ 13 → ⊥) → without_return bytes ≡ bytes
without_return_other [] other = refl
without_return_other (byte ∷ []) other = elim (nat_eq byte 13) as (λ b. nat_eq byte 13 ≡ b → cond b [] (byte ∷ []) ≡ byte ∷ []) [
  | true ↦ λ e. absurd (other (eqb-true byte 13 e))
  | false ↦ λ e. refl
] refl
without_return_other (byte ∷ next ∷ bytes) other = ap (λ (xs : List ℕ). byte ∷ xs) (without_return_other (next ∷ bytes)
    (λ e. let at : length (byte ∷ next ∷ bytes) - 1 ≡ suc (length (next ∷ bytes) - 1) = omega arith in other (ap (slice_index (byte ∷ next ∷ bytes)) at ∙ e)))

pub split_unread : (text a b : List ℕ) → IsOneWord text → text ≡ a ++ 32 ∷ b → ⊥
split_unread text [] b one is = All-head (λ byte. byte ≢ 32) 32 b (subst IsOneWord is one) refl
split_unread text (x ∷ a) b one is = let h : IsOneWord (a ++ 32 ∷ b) = All-tail (λ byte. byte ≢ 32) x (a ++ 32 ∷ b) (subst IsOneWord is one) in
    split_unread (a ++ 32 ∷ b) a b h refl

-- there is one way to cut at the first space
pub same_split : (a b c d : List ℕ) → IsOneWord a → IsOneWord c → a ++ 32 ∷ b ≡ c ++ 32 ∷ d → (a ≡ c) × (b ≡ d)
same_split [] b [] d one other is = (refl, cc)
same_split [] b (y ∷ c) d one other is = absurd (All-head (λ byte. byte ≢ 32) y c other (let e : 32 ∷ b ≡ y ∷ (c ++ 32 ∷ d) = is in cc))
same_split (x ∷ a) b [] d one other is = absurd (All-head (λ byte. byte ≢ 32) x a one (let e : x ∷ (a ++ 32 ∷ b) ≡ 32 ∷ d = is in cc))
same_split (x ∷ a) b (y ∷ c) d one other is =
    let e : x ∷ (a ++ 32 ∷ b) ≡ y ∷ (c ++ 32 ∷ d) = is in
    let head : x ≡ y = cc in
    let tail : a ++ 32 ∷ b ≡ c ++ 32 ∷ d = cc in
    let rest = same_split a b c d (All-tail (λ byte. byte ≢ 32) x a one) (All-tail (λ byte. byte ≢ 32) y c other) tail in
    let front = rest.0 in
    (cc, rest.1)
