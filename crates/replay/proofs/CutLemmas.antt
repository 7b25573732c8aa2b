-- Lines that are cut off a source.
use Rattle.std.proofs.Common.{◌≡◌, ◌≢◌, ℕ, ◌+◌, ◌<◌, ◌≤◌, ◌⊎◌, inl, inr, Bool, true, false, List, [], ◌∷◌, ◌++◌, length, take, drop, slice_index_or, Option, Some, Bor, refl, sym, ap, subst, ◌∙◌, arith, append_assoc, append-nil, length-append, length-take-le, take-append-drop}
use Rattle.std.proofs.lemmas.List.{get_or_at, take_at, drop_at}
use Rattle.std.proofs.lemmas.List.Elements.{All-append}
use Rattle.std.specs.Io.KnownBytes.{Consumes, IsAtEnd}
use Rattle.std.proofs.KnownBytes.{Consumes-nil, Consumes-trans}
use Rattle.graph_model.specs.Lines.{IsOneLine, max_line, max_input}
use Rattle.replay.specs.declared.lines.Stage.{Stage}
use Rattle.replay.specs.declared.lines.Stage.TheVariants.{Open, Ended, Past}
use Rattle.replay.specs.Cutters.{Cutter}
use Rattle.replay.specs.declared.lines.Next.TheVariants as next
use Rattle.replay.specs.declared.lines.Found.TheVariants as found
use Rattle.replay.specs.declared.session.Piece.TheVariants.{Whole, TooLong}
use Rattle.replay.specs.Cuts.{HasLine, HasFeed, EndsIn, TakesTo, Reads, CountsWithin, FindsNext, GivesNext, weight}
use lib.Seq.{take-append-add}

-- bytes without a line feed don't begin with a line and its line feed
pub no_feed : (bytes line after : List ℕ) → IsOneLine bytes → bytes ≡ line ++ 10 ∷ after → ⊥
no_feed bytes line after one is =
    one (length line) 0 (omega (arith, ap length is, length-append line (10 ∷ after)))
    (ap (λ (xs : List ℕ). slice_index_or xs (length line) 0) is ∙ get_or_at line 10 after 0 (length line) refl)

pub not_line : (bytes : List ℕ) → IsOneLine bytes → HasLine bytes → ⊥
not_line bytes one line = no_feed bytes line.0 line.1 one line.2

-- the first line feed behind bytes that have none
pub feed_later : (bytes shown line after : List ℕ) (from : ℕ) → shown ≡ take from bytes → from ≤ length bytes
    → IsOneLine shown → drop from bytes ≡ line ++ 10 ∷ after → IsOneLine line → HasFeed (Some (from + length line)) bytes
feed_later bytes shown line after from front within one is clean = (
  shown ++ line,
  after,
  sym (take-append-drop from bytes) ∙ ap (λ (xs : List ℕ). take from bytes ++ xs) is
      ∙ sym (append_assoc (take from bytes) line (10 ∷ after)) ∙ ap (λ (xs : List ℕ). (xs ++ line) ++ 10 ∷ after) (sym front),
  All-append (λ byte. byte ≢ 10) shown line one clean,
  length-append shown line ∙ ap (λ n. n + length line) (ap length front ∙ length-take-le from bytes within),
)

-- the bytes of a line that became too long are dropped
pub dropped : (long : Bool) (held empty rest : List ℕ) → empty ≡ [] → IsOneLine held
    → (long ≡ true) ⊎ (max_line < length held) → EndsIn long held rest → EndsIn true empty rest
dropped false held empty rest none one over ends = (
  rest,
  sym (ap (λ (xs : List ℕ). rest ++ xs) none ∙ append-nil rest),
  subst IsOneLine (sym ends) one,
  elim over [ inl e ↦ absurd (cc) | inr more ↦ omega (arith, ap length ends) ],
)
dropped true held empty rest none one over ends = (
  rest,
  sym (ap (λ (xs : List ℕ). rest ++ xs) none ∙ append-nil rest),
  subst IsOneLine (sym ends.1) (All-append (λ byte. byte ≢ 10) ends.0 held ends.2 one),
  omega (arith, ap length ends.1, length-append ends.0 held, ends.3),
)

-- more bytes came
pub ends_more : (long : Bool) (held more rest : List ℕ) → EndsIn long held rest → EndsIn long (held ++ more) (rest ++ more)
ends_more false held more rest ends = ap (λ (xs : List ℕ). xs ++ more) ends
ends_more true held more rest ends = (ends.0, ap (λ (xs : List ℕ). xs ++ more) ends.1 ∙ append_assoc ends.0 held more, ends.2, ends.3)

-- what a read gave, within the limit and past it
pub takes_of : (stage : Stage) (old new : Option (List ℕ)) (came more past : List ℕ) (taken : ℕ) → came ≡ more ++ past
    → Consumes old new came → (length came ≡ 0 → IsAtEnd new) → CountsWithin stage taken more past → TakesTo Open stage old new more taken
takes_of Open old new came more past taken parts read end counts =
    subst (Consumes old new) (parts ∙ ap (λ (xs : List ℕ). more ++ xs) counts.2 ∙ append-nil more) read
takes_of Ended old new came more past taken parts read end counts = (
  subst (Consumes old new) (parts ∙ ap (λ (xs : List ℕ). more ++ xs) counts.2 ∙ append-nil more) read,
  end (omega (arith, ap length parts, length-append more past, ap length counts.1, ap length counts.2)),
)
takes_of Past old new came more past taken parts read end counts = (past, counts.1, counts.2, subst (Consumes old new) parts read, counts.0)

pub counts_within : (stage : Stage) (taken : ℕ) (more past : List ℕ) → CountsWithin stage taken more past → taken ≤ max_input
counts_within Open taken more past counts = counts.0
counts_within Ended taken more past counts = counts.0
counts_within Past taken more past counts = omega (arith, counts.0)

-- the first bytes of what came lie within the limit
pub split_past : (shown came : List ℕ) (n : ℕ) → n ≤ length came → take (length shown + n) (shown ++ came) ≡ shown ++ take n came
split_past shown came n within = take-append-add shown came n

pub weight-append : (long : Bool) (held more : List ℕ) → weight long (held ++ more) ≡ weight long held + length more
weight-append false held more = length-append held more
weight-append true held more = omega (arith, length-append held more)

-- ---- what is given
pub ends_one : (long : Bool) (held rest : List ℕ) → EndsIn long held rest → IsOneLine held → IsOneLine rest
ends_one false held rest ends one = subst IsOneLine (sym ends) one
ends_one true held rest ends one = subst IsOneLine (sym ends.1) (All-append (λ byte. byte ≢ 10) ends.0 held ends.2 one)

-- what is cut off at a line feed is the line, and what is left is behind the line feed
pub cut_at : (held line after cut left : List ℕ) (count : ℕ) → held ≡ line ++ 10 ∷ after → length line ≡ count
    → cut ≡ take count held → left ≡ drop (count + 1) held → (cut ≡ line) × (left ≡ after)
cut_at held line after cut left count is long first second = (
  first ∙ ap (take count) is ∙ take_at line (10 ∷ after) count long,
  second ∙ ap (drop (count + 1)) (is ∙ sym (append_assoc line (10 ∷ []) after))
      ∙ drop_at (line ++ 10 ∷ []) after (count + 1) (length-append line (10 ∷ []) ∙ ap (λ n. n + 1) long),
)

-- a line whose bytes are all held
pub whole_given : {X : Type 0} (long : Bool) (held rest line after cut left : List ℕ) → long ≡ false
    → EndsIn long held rest → held ≡ line ++ 10 ∷ after → IsOneLine line → cut ≡ line → left ≡ after
    → IsOneLine cut × (((next : List ℕ) × (rest ≡ cut ++ 10 ∷ next) × (next ≡ left)) ⊎ X)
whole_given true held rest line after cut left short ends is one cuts leaves = absurd (cc)
whole_given false held rest line after cut left short ends is one cuts leaves =
    (subst IsOneLine (sym cuts) one, inl (after, ends ∙ is ∙ ap (λ (xs : List ℕ). xs ++ 10 ∷ after) (sym cuts), sym leaves))

-- a line of which only the end is held
pub long_given : {X : List ℕ → Type 0} (long : Bool) (held rest line after left : List ℕ)
    → long ≡ true → EndsIn long held rest → held ≡ line ++ 10 ∷ after → IsOneLine line → left ≡ after
    → (whole : List ℕ) × (max_line < length whole) × (IsOneLine whole × (((next : List ℕ) × (rest ≡ whole ++ 10 ∷ next) × (next ≡ left)) ⊎ X whole))
long_given false held rest line after left over ends is one leaves = absurd (cc)
long_given true held rest line after left over ends is one leaves = (
  ends.0 ++ line,
  omega (arith, length-append ends.0 line, ends.3),
  (
    All-append (λ byte. byte ≢ 10) ends.0 line ends.2 one,
    inl (after, ends.1 ∙ ap (λ (xs : List ℕ). ends.0 ++ xs) is ∙ sym (append_assoc ends.0 line (10 ∷ after)), sym leaves),
  ),
)

-- ---- one read after the other
takes_on : (first mid last : Stage) (a b c : Option (List ℕ)) (m n : List ℕ) (t u : ℕ)
    → TakesTo first mid a b m t → mid ≡ Open → TakesTo mid last b c n u → TakesTo first last a c (m ++ n) u
takes_on Open Open Open a b c m n t u one is two = Consumes-trans a b c m n one two
takes_on Open Open Ended a b c m n t u one is two = (Consumes-trans a b c m n one two.0, two.1)
takes_on Open Open Past a b c m n t u one is two =
    (two.0, two.1, two.2, subst (Consumes a c) (sym (append_assoc m n two.0)) (Consumes-trans a b c m (n ++ two.0) one two.3), two.4)
takes_on Open Ended last a b c m n t u one is two = absurd (cc)
takes_on Open Past last a b c m n t u one is two = absurd (cc)
takes_on Ended mid last a b c m n t u one is two = absurd (let e = one.0 in cc)
takes_on Past mid last a b c m n t u one is two = absurd (let e = one.0 in cc)

pub reads_on : (old mid new : Cutter) (a b c : Option (List ℕ)) (m n : List ℕ)
    → Reads old mid a b m → mid.stage ≡ Open → Reads mid new b c n → Reads old new a c (m ++ n)
reads_on old mid new a b c m n one is two =
    record {
      takes = takes_on old.stage mid.stage new.stage a b c m n mid.taken new.taken one.takes is two.takes;
      taken = omega (arith, one.taken, two.taken, length-append m n);
    }

-- nothing is read
takes_none : (stage : Stage) (a : Option (List ℕ)) (t : ℕ) → TakesTo stage stage a a [] t
takes_none Open a t = Consumes-nil a
takes_none Ended a t = (refl, refl, refl)
takes_none Past a t = (refl, refl, refl)

pub reads_none : (old : Cutter) (a : Option (List ℕ)) → Reads old old a a []
reads_none old a = record { takes = takes_none old.stage a old.taken; taken = omega arith }

-- what was found is given
pub whole_next : (old new : Cutter) (a b : Option (List ℕ)) (rest : List ℕ) (bytes : Bor (List ℕ)) → bytes.now ≡ new.line
    → (more : List ℕ) × Reads old new a b more × FindsNext new (rest ++ more) found.Whole → GivesNext old new a b rest (next.Line (Whole bytes))
whole_next old new a b rest bytes is finds = record { more = finds.0; reads = finds.1; gives = (new.line, (sym is, finds.2.0), finds.2.1) }

pub long_next : (old new : Cutter) (a b : Option (List ℕ)) (rest : List ℕ)
    → (more : List ℕ) × Reads old new a b more × FindsNext new (rest ++ more) found.Long → GivesNext old new a b rest (next.Line TooLong)
long_next old new a b rest finds = record { more = finds.0; reads = finds.1; gives = (finds.2.0, finds.2.1, finds.2.2) }

-- more is read behind an input
pub read_more : (old new : Stage) (a b c : Option (List ℕ)) (input more : List ℕ) (t u : ℕ) → TakesTo Open old a b input t
    → TakesTo old new b c more u → u ≡ t + length more → TakesTo Open new a c (input ++ more) u
read_more Open new a b c input more t u one two sum = takes_on Open Open new a b c input more t u one refl two
read_more Ended new a b c input more t u one two sum =
    subst (λ (s : Stage). TakesTo Open s a c (input ++ more) u) (sym two.0)
    (subst (λ (xs : List ℕ). Consumes a c xs × IsAtEnd c) (sym (ap (λ (xs : List ℕ). input ++ xs) two.2 ∙ append-nil input))
    (subst (λ (o : Option (List ℕ)). Consumes a o input × IsAtEnd o) (sym two.1) one))
read_more Past new a b c input more t u one two sum =
    subst (λ (s : Stage). TakesTo Open s a c (input ++ more) u) (sym two.0) (
      one.0,
      one.1,
      one.2,
      subst (λ (xs : List ℕ). Consumes a c (xs ++ one.0)) (sym (ap (λ (xs : List ℕ). input ++ xs) two.2 ∙ append-nil input))
          (subst (λ (o : Option (List ℕ)). Consumes a o (input ++ one.0)) (sym two.1) one.3),
      omega (arith, sum, ap length two.2, one.4),
    )
