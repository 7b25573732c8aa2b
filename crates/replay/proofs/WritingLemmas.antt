-- Replies that go out line by line.
use Rattle.std.proofs.Common.{◌≡◌, ℕ, ◌+◌, ◌<◌, List, [], ◌∷◌, ◌++◌, length, map, take, get_or, Contains, Option, Ok, Err, Result, refl, sym, ap, subst, ◌∙◌, append_assoc, append-nil}
use Rattle.std.specs.Prelude.{flat_map}
use Rattle.std.proofs.lemmas.List.{map-append, take_more}
use Rattle.std.proofs.lemmas.List.Elements.{Contains-append_left, Contains-append_right}
use Rattle.std.proofs.lemmas.List.Concat.{flat_map-append}
use Rattle.std.proofs.KnownBytes.{Appends-nil}
use Rattle.outside.specs.Transfers.{Writes}
use Rattle.fee_rate.specs.declared.rates.Sum.{Sum}
use Rattle.cluster.specs.declared.cluster.PartRef.{PartRef}
use Rattle.cluster_store.specs.Lent.{lent}
use Rattle.graph_model.specs.Texts.{chunk_line}
use Rattle.graph_model.specs.Words.{line_text}
use Rattle.wire.proofs.WriteLemmas.{goes_further}
use Rattle.replay.specs.Writings.{GoesOnLines}

-- the text of a reply of one line
pub one_line : {T E : Type 0} (a b : Option (List ℕ)) (p q : ℕ) (r : Result T E) (text : List ℕ) → Writes a b p q r text → Writes a b p q r (text ++ [])
one_line a b p q r text writes = subst (Writes a b p q r) (sym (append-nil text)) writes

-- no line so far
pub no_lines : {T E : Type 0} (start : Result T E) (a : Option (List ℕ)) (p : ℕ) → GoesOnLines start a a p p start []
no_lines (Ok done) a p = record { ok = Appends-nil a; err = tt; cause = record { ok = refl; failed = tt } }
no_lines (Err error) a p = (refl, refl, refl)

-- lines, and then more
pub lines_on : {T E : Type 0} (a b c : Option (List ℕ)) (p q s : ℕ) (start so_far result : Result T E) (first second lines : List (List ℕ))
    → GoesOnLines start a b p q so_far first → GoesOnLines so_far b c q s result second → lines ≡ first ++ second
    → GoesOnLines start a c p s result lines
lines_on a b c p q s start so_far result first second lines was more is =
    goes_further a b c p q s start so_far result (flat_map line_text first) (flat_map line_text second) (flat_map line_text lines) was more
    (ap (flat_map line_text) is ∙ flat_map-append line_text first second)

-- ---- what an iterator gave, and what is still to come
pub rest_on : {A B : Type 0} (f : A → B) (all : List B) (given : List A) (now next : List B) (x : A) → all ≡ map f given ++ now → now ≡ f x ∷ next
    → all ≡ map f (given ++ x ∷ []) ++ next
rest_on f all given now next x is step =
    is ∙ ap (λ (ys : List _). map f given ++ ys) step ∙ sym (append_assoc (map f given) (f x ∷ []) next) ∙ ap (λ (ys : List _). ys ++ next)
    (sym (map-append f given (x ∷ [])))

pub map_push : {A B C : Type 0} (g : B → C) (f : A → B) (given : List A) (x : A) → map g (map f (given ++ x ∷ [])) ≡ map g (map f given) ++ g (f x) ∷ []
map_push g f given x = ap (map g) (map-append f given (x ∷ [])) ∙ map-append g (map f given) (f x ∷ [])

pub flat_map_push : {A B C : Type 0} (g : B → List C) (f : A → B) (given : List A) (x : A)
    → flat_map g (map f (given ++ x ∷ [])) ≡ flat_map g (map f given) ++ g (f x)
flat_map_push g f given x =
    ap (flat_map g) (map-append f given (x ∷ [])) ∙ flat_map-append g (map f given) (f x ∷ []) ∙ ap (λ (ys : List _). flat_map g (map f given) ++ ys)
    (append-nil (g (f x)))

pub rest_same : {A : Type 0} (all given now next : List A) (x : A) → all ≡ given ++ now → now ≡ x ∷ next → all ≡ (given ++ x ∷ []) ++ next
rest_same all given now next x is step = is ∙ ap (λ (ys : List _). given ++ ys) step ∙ sym (append_assoc given (x ∷ []) next)

-- what is made of one is in what is made of all
pub held_by : {B C : Type 0} (g : B → List C) (all front now next : List B) (x : B) → all ≡ front ++ now → now ≡ x ∷ next → (y : C) → Contains (g x) y
    → Contains (flat_map g all) y
held_by g all front now next x is step y here =
    subst (λ (zs : List _). Contains (flat_map g zs) y) (sym (is ∙ ap (λ (ys : List _). front ++ ys) step))
    (subst (λ (zs : List _). Contains zs y) (sym (flat_map-append g front (x ∷ next)))
    (Contains-append_right (flat_map g front) (g x ++ flat_map g next) y (Contains-append_left (g x) (flat_map g next) y here)))

pub map_take : {A B : Type 0} (f : A → B) (xs : List A) (i : ℕ) (d : A) → i < length xs → map f (take (i + 1) xs) ≡ map f (take i xs) ++ f (get_or xs i d) ∷ []
map_take f xs i d below = ap (map f) (take_more xs i d below) ∙ map-append f (take i xs) (get_or xs i d ∷ [])

-- the line of a part that is lent
pub chunk_writes : {T E : Type 0} (a b : Option (List ℕ)) (p q : ℕ) (r : Result T E) (part : PartRef) (rate : Sum) → rate.fee ≡ part.rate.fee
    → rate.size ≡ part.rate.size
    → Writes a b p q r (line_text (chunk_line (record { rate = rate; ids = part.ids.now; flows = [] }))) → Writes a b p q r (line_text (chunk_line (lent part)))
chunk_writes a b p q r part rate fee size writes =
    let same : rate ≡ (lent part).rate = λ i. record { fee = fee i; size = size i } in
    subst (λ (sum : Sum). Writes a b p q r (line_text (chunk_line (record { rate = sum; ids = part.ids.now; flows = [] })))) same writes
