-- Names that are read into a list with room.
use Rattle.std.proofs.Common.{◌≡◌, ℕ, ◌+◌, ◌-◌, ◌*◌, ◌<◌, ◌≤◌, List, [], ◌∷◌, ◌++◌, ap, ◌∙◌, arith, length, length-append, decimal}
use Rattle.std.specs.Prelude.{All}
use Rattle.std.proofs.lemmas.Fmt.{decimal_nonempty}
use Rattle.std.proofs.lemmas.List.Elements.{All-head, All-tail, All-push}
use Rattle.graphs.specs.Rooms.{Room}
use Rattle.wire.specs.Fields.{IsWide}
use Rattle.wire.specs.Forms.{names_text, AreNames}
use Rattle.wire.proofs.ChunkLemmas.{fronts, fronts_push, last_found}

-- a name has a digit or more, and a space behind it
fronts_length : (ids : List ℕ) → All IsWide ids → 2 * length ids ≤ length (fronts ids)
fronts_length [] wide = omega arith
fronts_length (id ∷ ids) wide = omega (
  arith,
  length-append (decimal id ++ 32 ∷ []) (fronts ids),
  length-append (decimal id) (32 ∷ []),
  decimal_nonempty id (All-head IsWide id ids wide),
  fronts_length ids (All-tail IsWide id ids wide),
)

-- the names so far, the room that is left, and the text that is left
pub record AreRead (text : List ℕ) (all : ℕ) (names : Room) (rest : List ℕ) : Type 0 where
  pub wide : All IsWide names.ids
  pub whole : text ≡ fronts names.ids ++ rest
  pub room : length names.ids + names.room ≡ all

pub has_room : (text : List ℕ) (all : ℕ) (names : Room) (rest : List ℕ) → AreRead text all names rest → length text < 2 * all → 0 < names.room
has_room text all names rest read small =
    omega (arith, fronts_length names.ids read.wide, length-append (fronts names.ids) rest, ap length read.whole, read.room, small)

pub one_read : (text : List ℕ) (all : ℕ) (old new : Room) (rest word more : List ℕ) (id : ℕ)
    → AreRead text all old rest → rest ≡ word ++ 32 ∷ more → IsWide id × (word ≡ decimal id) → 0 < old.room
    → new ≡ record { ids = old.ids ++ id ∷ []; room = old.room - 1 } → AreRead text all new more
one_read text all old new rest word more id read cut found some pushed = rw pushed (record {
  wide = All-push IsWide old.ids id read.wide found.0;
  whole = read.whole ∙ ap (λ (xs : List ℕ). fronts old.ids ++ xs) (cut ∙ ap (λ (xs : List ℕ). xs ++ 32 ∷ more) found.1) ∙ fronts_push old.ids id more;
  room = omega (arith, length-append old.ids (id ∷ []), read.room, some);
})

pub last_read : (text : List ℕ) (all : ℕ) (old new : Room) (word : List ℕ) (id : ℕ) → AreRead text all old word → IsWide id × (word ≡ decimal id) → 0 < old.room
    → new ≡ record { ids = old.ids ++ id ∷ []; room = old.room - 1 } → AreNames new.ids × (text ≡ names_text new.ids)
last_read text all old new word id read found some pushed =
    last_found text old.ids new.ids word id read.whole read.wide found.0 found.1 (ap (λ (names : Room). names.ids) pushed)

pub last_room : (text : List ℕ) (all : ℕ) (old new : Room) (word : List ℕ) (id : ℕ) → AreRead text all old word → 0 < old.room
    → new ≡ record { ids = old.ids ++ id ∷ []; room = old.room - 1 } → length new.ids + new.room ≡ all
last_room text all old new word id read some pushed = rw pushed (omega (arith, length-append old.ids (id ∷ []), read.room, some))
