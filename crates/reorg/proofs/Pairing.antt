-- Lists of pairs that get those of one name after another.
use Rattle.std.proofs.Common.{◌≡◌, ◌≢◌, ◌↔◌, ◌⊎◌, ◌<◌, ◌+◌, ℕ, List, [], ◌∷◌, ◌++◌, length, take, get_or, refl, sym, ap, ◌∙◌, subst, inl, inr, arith}
use Rattle.std.specs.Prelude.{Contains, Result, Ok, Err, IfOk, OnOk}
use Rattle.std.proofs.lemmas.List.Elements.{Contains-push, Contains-push_cases, Contains-append_left}
use Rattle.std.proofs.lemmas.List.{take_more}
use Rattle.lists.proofs.Entries.{none_in_empty}
use Rattle.graphs.specs.Rooms.{Room}
use Rattle.links.specs.Leaving.{Adds}
use Rattle.reorg.specs.Blocks.{ArePairsBy}

-- ---- lists with one more name

-- a list has the names of another and one more
abbrev pub HasOneMore : List ℕ → ℕ → List ℕ → Type 0
HasOneMore xs x zs = (m : ℕ) → Contains zs m ↔ (Contains xs m ⊎ (m ≡ x))

pub pushed : (xs : List ℕ) (x : ℕ) → HasOneMore xs x (xs ++ x ∷ [])
pushed xs x m = (
  λ here. elim (Contains-push_cases xs x m here) [ inl early ↦ inl early | inr same ↦ inr (sym same) ],
  λ is. elim is [ inl early ↦ Contains-append_left xs (x ∷ []) m early | inr same ↦ subst (Contains (xs ++ x ∷ [])) (sym same) (Contains-push xs x) ],
)

pub longer : (xs : List ℕ) (k : ℕ) → k < length xs → HasOneMore (take k xs) (get_or xs k 0) (take (k + 1) xs)
longer xs k low = subst (HasOneMore (take k xs) (get_or xs k 0)) (sym (take_more xs k 0 low)) (pushed (take k xs) (get_or xs k 0))

-- ---- the pairs of one name

-- pairs of a name with each other name of a list
abbrev pub Others : ℕ → List ℕ → ℕ → ℕ → Type 0
Others id ys a b = (a ≡ id) × Contains ys b × (a ≢ b)

pub others_none : (id : ℕ) (pairs : List (ℕ × ℕ)) → Adds (Others id []) pairs pairs
others_none id pairs a b = (λ here. inl here, λ is. elim is [ inl here ↦ here | inr other ↦ absurd (none_in_empty b other.1) ])

pub others_more : (id d : ℕ) (ys zs : List ℕ) (old mid new : List (ℕ × ℕ)) → HasOneMore ys d zs → Adds (Others id ys) old mid
    → Adds (λ a b. (a ≡ id) × (b ≡ d) × (id ≢ d)) mid new → Adds (Others id zs) old new
others_more id d ys zs old mid new more before then a b = (
  λ here. elim ((then a b).0 here) [
    | inl was ↦ elim ((before a b).0 was) [ inl first ↦ inl first | inr other ↦ inr (other.0, (more b).1 (inl other.1), other.2) ]
    | inr one ↦ inr (one.0, (more b).1 (inr one.1), λ same. one.2 (sym one.0 ∙ same ∙ one.1))
  ],
  λ is. elim is [
    | inl first ↦ (then a b).1 (inl ((before a b).1 (inl first)))
    | inr other ↦ elim ((more b).0 other.1) [
      | inl early ↦ (then a b).1 (inl ((before a b).1 (inr (other.0, early, other.2))))
      | inr last ↦ (then a b).1 (inr (other.0, last, λ same. other.2 (other.0 ∙ same ∙ sym last)))
    ]
  ],
)

-- all of them, where the list has what the name relates to
pub others_all : (R : ℕ → ℕ → Type 0) (id : ℕ) (ys : List ℕ) (old new : List (ℕ × ℕ)) → ((d : ℕ) → (Contains ys d × (id ≢ d)) ↔ R id d)
    → Adds (Others id ys) old new → Adds (λ m d. (m ≡ id) × R m d) old new
others_all R id ys old new exact adds a b = (
  λ here. elim ((adds a b).0 here) [
    | inl was ↦ inl was
    | inr other ↦ inr (other.0, subst (λ m. R m b) (sym other.0) ((exact b).0 (other.1, λ same. other.2 (other.0 ∙ same))))
  ],
  λ is. elim is [
    | inl was ↦ (adds a b).1 (inl was)
    | inr other ↦
        let back = (exact b).1 (subst (λ m. R m b) other.0 other.1) in
        (adds a b).1 (inr (other.0, back.0, λ same. back.1 (sym other.0 ∙ same)))
  ],
)

-- ---- the pairs of names, one after another

pub by_none : (R : ℕ → ℕ → Type 0) → ArePairsBy R [] []
by_none R m d = (λ here. absurd (none_in_empty (m, d) here), λ is. absurd (none_in_empty m is.0))

pub by_more : (R : ℕ → ℕ → Type 0) (xs zs : List ℕ) (x : ℕ) (old new : List (ℕ × ℕ)) → HasOneMore xs x zs → ArePairsBy R xs old
    → Adds (λ m d. (m ≡ x) × R m d) old new → ArePairsBy R zs new
by_more R xs zs x old new more before then m d = (
  λ here. elim ((then m d).0 here) [
    | inl was ↦ let is = (before m d).0 was in ((more m).1 (inl is.0), is.1)
    | inr one ↦ ((more m).1 (inr one.0), one.1)
  ],
  λ is. elim ((more m).0 is.0) [
    | inl early ↦ (then m d).1 (inl ((before m d).1 (early, is.1)))
    | inr last ↦ (then m d).1 (inr (last, is.1))
  ],
)

-- the same pairs by another relation of these names
pub by_same : (R S : ℕ → ℕ → Type 0) (ids : List ℕ) (pairs : List (ℕ × ℕ)) → ((m d : ℕ) → Contains ids m → R m d ↔ S m d) → ArePairsBy R ids pairs
    → ArePairsBy S ids pairs
by_same R S ids pairs same by m d = (
  λ here. let is = (by m d).0 here in (is.0, (same m d is.0).0 is.1),
  λ is. (by m d).1 (is.0, (same m d is.0).1 is.1),
)

-- what follows of a success
pub on_ok : {T E P Q : Type 0} (r : Result T E) → (P → Q) → OnOk r P → OnOk r Q
on_ok (Ok done) so holds = so holds
on_ok (Err why) so holds = holds

-- the room of a list without names
pub room_at_start : (room : Room) (n : ℕ) → room ≡ record { ids = []; room = n } → length room.ids + room.room ≡ n
room_at_start room n is = let all = ap (λ (r : Room). length r.ids + r.room) is in omega (arith, all)

-- what follows of the value of a success, by one fact and by two
pub if_ok : {T E : Type 0} (P Q : T → Type 0) (r : Result T E) → ((x : T) → P x → Q x) → IfOk r P → IfOk r Q
if_ok P Q (Ok x) so holds = so x holds
if_ok P Q (Err why) so holds = holds

pub if_ok_both : {T E : Type 0} (P R Q : T → Type 0) (r : Result T E) → ((x : T) → P x → R x → Q x) → IfOk r P → IfOk r R → IfOk r Q
if_ok_both P R Q (Ok x) so one two = so x one two
if_ok_both P R Q (Err why) so one two = one
