-- A number, and behind it a space and the word `defer`, or nothing.
use Rattle.std.proofs.Common.{◌≡◌, ℕ, List, ◌∷◌, ◌++◌, refl, sym, Bool, true, false, codes, decimal}
use Rattle.std.proofs.lemmas.Fmt.{decimal_injective}
use Rattle.graph_model.specs.Words.{spaced}
use Rattle.graph_model.specs.Commands.{defer_words}
use Rattle.wire.specs.declared.field.Deferrable.{Deferrable}
use Rattle.wire.specs.Fields.{IsWide, IsOneWord, deferrable_text, IsDeferrable}
use Rattle.wire.specs.OneWord.{decimal_word}
use Rattle.wire.proofs.ReadLemmas.{same_split, split_unread}

abbrev number_text : ℕ → Bool → List ℕ
number_text n defer = spaced (decimal n ∷ defer_words defer)

number_same : (m n : ℕ) (a b : Bool) → IsWide m → IsWide n → number_text m a ≡ number_text n b → (m ≡ n) × (a ≡ b)
number_same m n false false one other is = (decimal_injective m n one other is, refl)
number_same m n false true one other is = absurd (split_unread (decimal m) (decimal n) (codes "defer") (decimal_word m one) is)
number_same m n true false one other is = absurd (split_unread (decimal n) (decimal m) (codes "defer") (decimal_word n other) (sym is))
number_same m n true true one other is =
    let cut = same_split (decimal m) (codes "defer") (decimal n) (codes "defer") (decimal_word m one) (decimal_word n other) is in
    (decimal_injective m n one other cut.0, refl)

pub deferrable_same : (x y : Deferrable) → IsDeferrable x → IsDeferrable y → deferrable_text x ≡ deferrable_text y → x ≡ y
deferrable_same x y one other is =
    let same = number_same x.n y.n x.defer y.defer one other is in
    let n : x.n ≡ y.n = same.0 in
    let defer : x.defer ≡ y.defer = same.1 in
    λ i. record { n = n i; defer = defer i }

-- a text with a space is read only where the word behind it is the one that may stand there
behind_space : (word rest : List ℕ) (n : ℕ) (defer : Bool) → IsOneWord word → IsWide n → word ++ 32 ∷ rest ≡ number_text n defer
    → (word ≡ decimal n) × (rest ≡ codes "defer")
behind_space word rest n false one fits is = absurd (split_unread (decimal n) word rest (decimal_word n fits) (sym is))
behind_space word rest n true one fits is = same_split word rest (decimal n) (codes "defer") one (decimal_word n fits) is

pub other_unread : (word rest : List ℕ) → IsOneWord word → (rest ≡ codes "defer" → ⊥)
    → (value : Deferrable) → IsDeferrable value → word ++ 32 ∷ rest ≡ deferrable_text value → ⊥
other_unread word rest one other value fits is = other (behind_space word rest value.n value.defer one fits is).1

pub front_unread : (word rest : List ℕ) → IsOneWord word → ((n : ℕ) → IsWide n → word ≡ decimal n → ⊥)
    → (value : Deferrable) → IsDeferrable value → word ++ 32 ∷ rest ≡ deferrable_text value → ⊥
front_unread word rest one none value fits is = none value.n fits (behind_space word rest value.n value.defer one fits is).0

pub front_read : (word rest : List ℕ) (n : ℕ) → IsWide n × (word ≡ decimal n) → rest ≡ codes "defer"
    → IsDeferrable (record { n = n; defer = true }) × (word ++ 32 ∷ rest ≡ deferrable_text (record { n = n; defer = true }))
front_read word rest n number last = (number.0, λ i. number.1 i ++ 32 ∷ last i)

-- a text without a space is read as its number
pub alone_unread : (text : List ℕ) → IsOneWord text → ((n : ℕ) → IsWide n → text ≡ decimal n → ⊥)
    → (value : Deferrable) → IsDeferrable value → text ≡ deferrable_text value → ⊥
alone_unread text one none value fits is = alone value.n value.defer fits is
  where
    alone : (n : ℕ) (defer : Bool) → IsWide n → text ≡ number_text n defer → ⊥
    alone n false fits is = none n fits is
    alone n true fits is = split_unread text (decimal n) (codes "defer") one is
