-- Pieces that are written one after the other.
use Rattle.std.proofs.Common.{◌≡◌, ℕ, List, ◌++◌, Option, None, Some, Ok, Err, Result, refl, sym, append_assoc, ◌∙◌, ap, ◌∷◌, [], codes, append-nil}
use Rattle.std.specs.Io.KnownBytes.{Appends}
use Rattle.std.proofs.KnownBytes.{Appends-trans}
use Rattle.outside.specs.Faults.{one_more}
use Rattle.outside.specs.Transfers.{Writes}
use Rattle.outside.proofs.Fronts.{AppendsFront-after, AppendsFront-longer}
use Rattle.wire.specs.Pieces.{GoesOn, number_after, words_text}
use Rattle.graph_model.specs.Words.{spaced}
use Rattle.graph_model.specs.Replies.{kept_words}

after_ok : {T E : Type 0} (a b c : Option (List ℕ)) (p q s : ℕ) (done : T) (result : Result T E) (first second : List ℕ)
    → Appends a b first → q ≡ p → Writes b c q s result second → Writes a c p s result (first ++ second)
after_ok a b c p q s done (Ok value) first second was same more =
    record { ok = Appends-trans a b c first second was more.ok; err = tt; cause = record { ok = more.cause.ok ∙ same; failed = tt } }
after_ok a b c p q s done (Err error) first second was same more =
    record { ok = tt; err = AppendsFront-after a b c first second was more.err; cause = record { ok = tt; failed = more.cause.failed ∙ ap one_more same } }

stopped : {T E : Type 0} (a b c : Option (List ℕ)) (p q s : ℕ) (error : E) (result : Result T E) (first second : List ℕ)
    → Writes {T = T} a b p q (Err error) first → GoesOn {T = T} (Err error) b c q s result second → Writes a c p s result (first ++ second)
stopped a b c p q s error result first second was more =
    rw (more.0, more.1, more.2) (record { ok = tt; err = AppendsFront-longer a b first second was.err; cause = record { ok = tt; failed = was.cause.failed } })

on : {T E : Type 0} (a b c : Option (List ℕ)) (p q s : ℕ) (so_far result : Result T E) (first second : List ℕ)
    → Writes a b p q so_far first → GoesOn so_far b c q s result second → Writes a c p s result (first ++ second)
on a b c p q s (Ok done) result first second was more = after_ok a b c p q s done result first second was.ok was.cause.ok more
on a b c p q s (Err error) result first second was more = stopped a b c p q s error result first second was more

further : {T E : Type 0} (a b c : Option (List ℕ)) (p q s : ℕ) (start so_far result : Result T E) (first second : List ℕ)
    → GoesOn start a b p q so_far first → GoesOn so_far b c q s result second → GoesOn start a c p s result (first ++ second)
further a b c p q s (Ok done) so_far result first second was more = on a b c p q s so_far result first second was more
further a b c p q s (Err error) (Ok done) result first second was more = let e = was.0 in cc
further a b c p q s (Err error) (Err other) result first second was more = (more.0 ∙ was.0, more.1 ∙ was.1, more.2 ∙ was.2)

-- a piece was written, and the next where all so far was
pub writes_on : {T E : Type 0} (a b c : Option (List ℕ)) (p q s : ℕ) (so_far result : Result T E) (first second text : List ℕ)
    → Writes a b p q so_far first → GoesOn so_far b c q s result second → text ≡ first ++ second → Writes a c p s result text
writes_on a b c p q s so_far result first second text was more is = rw is (on a b c p q s so_far result first second was more)

-- the same for a later piece
pub goes_further : {T E : Type 0} (a b c : Option (List ℕ)) (p q s : ℕ) (start so_far result : Result T E) (first second text : List ℕ)
    → GoesOn start a b p q so_far first → GoesOn so_far b c q s result second → text ≡ first ++ second → GoesOn start a c p s result text
goes_further a b c p q s start so_far result first second text was more is = rw is (further a b c p q s start so_far result first second was more)

-- the words of a refusal come after the word `refused` and a space
pub refusal_line : (word : List ℕ) (kept : Option ℕ)
    → spaced (codes "refused" ∷ word ∷ kept_words kept) ≡ codes "refused " ++ (word ++ number_after kept)
refusal_line word None = ap (λ (xs : List ℕ). codes "refused " ++ xs) (sym (append-nil word))
refusal_line word (Some n) = refl

-- words with one space between them are the first, and each of the others after a space
pub spaced_words : (head : List ℕ) (words : List (List ℕ)) → spaced (head ∷ words) ≡ head ++ words_text words
spaced_words head [] = sym (append-nil head)
spaced_words head (word ∷ words) = ap (λ (xs : List ℕ). head ++ 32 ∷ xs) (spaced_words word words)

pub words_text-append : (words more : List (List ℕ)) → words_text (words ++ more) ≡ words_text words ++ words_text more
words_text-append [] more = refl
words_text-append (word ∷ words) more = ap (λ (xs : List ℕ). (32 ∷ word) ++ xs) (words_text-append words more)
    ∙ sym (append_assoc (32 ∷ word) (words_text words) (words_text more))
