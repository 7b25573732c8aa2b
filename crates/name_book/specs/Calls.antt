-- What each call of a book of names changes. What a record doesn't say is in no contract: the order inside a ring, and which touched name
-- is kept.
use Rattle.std.specs.Prelude.{◌≡◌, ◌≢◌, ◌⊎◌, ◌↔◌, ◌+◌, ℕ, Bool, true, List, Contains}
use Rattle.std.specs.FinSet as set
use Rattle.name_book.specs.Books.{Ringed, IsNamed, ShareMain, IsMarked}

-- no name is there, and none was
pub record HasNone (rings : Ringed) : Type 0 where
  pub names : (id : ℕ) → IsNamed rings.book id → ⊥
  pub touched : (id : ℕ) → IsMarked rings id → ⊥
  pub len : set.len rings.book.names ≡ 0
  pub issued : rings.book.issued ≡ 0

-- the same names, that share clusters as they did, and of which the same are touched
pub record Keeps (old new : Ringed) : Type 0 where
  pub names : new.book.names ≡ old.book.names
  pub main : (x y : ℕ) → ShareMain new x y ↔ ShareMain old x y
  pub touched : (x : ℕ) → IsMarked new x ↔ IsMarked old x
  pub issued : new.book.issued ≡ old.book.issued

-- a name comes in, alone in its cluster, and touched where there is a staging
pub record Gains (staged : Bool) (id : ℕ) (old new : Ringed) : Type 0 where
  pub names : (x : ℕ) → IsNamed new.book x ↔ (IsNamed old.book x ⊎ (x ≡ id))
  pub main : (x y : ℕ) → ShareMain new x y ↔ (ShareMain old x y ⊎ ((x ≡ id) × (y ≡ id)))
  pub touched : (x : ℕ) → IsMarked new x ↔ (IsMarked old x ⊎ ((staged ≡ true) × (x ≡ id)))
  pub len : set.len new.book.names ≡ set.len old.book.names + 1
  pub spare : new.book.spare + 1 ≡ old.book.spare
  pub issued : new.book.issued ≡ old.book.issued + 1

-- a name goes, and the others stay as they were
pub record Drops (id : ℕ) (old new : Ringed) : Type 0 where
  pub names : (x : ℕ) → IsNamed new.book x ↔ (IsNamed old.book x × (x ≢ id))
  pub main : (x y : ℕ) → ShareMain new x y ↔ (ShareMain old x y × (x ≢ id) × (y ≢ id))
  pub touched : (x : ℕ) → IsMarked new x ↔ (IsMarked old x × (x ≢ id))
  pub len : set.len new.book.names + 1 ≡ set.len old.book.names
  pub spare : new.book.spare ≡ old.book.spare
  pub issued : new.book.issued ≡ old.book.issued

-- these names are touched too
pub record Touches (These : ℕ → Type 0) (old new : Ringed) : Type 0 where
  pub names : new.book.names ≡ old.book.names
  pub main : (x y : ℕ) → ShareMain new x y ↔ ShareMain old x y
  pub touched : (x : ℕ) → IsMarked new x ↔ (IsMarked old x ⊎ These x)
  pub spare : new.book.spare ≡ old.book.spare
  pub issued : new.book.issued ≡ old.book.issued

-- a name isn't touched any more
pub record Releases (id : ℕ) (old new : Ringed) : Type 0 where
  pub names : new.book.names ≡ old.book.names
  pub main : (x y : ℕ) → ShareMain new x y ↔ ShareMain old x y
  pub touched : (x : ℕ) → IsMarked new x ↔ (IsMarked old x × (x ≢ id))
  pub spare : new.book.spare ≡ old.book.spare
  pub issued : new.book.issued ≡ old.book.issued

-- these names aren't touched any more
pub record ReleasesAll (ids : List ℕ) (old new : Ringed) : Type 0 where
  pub names : new.book.names ≡ old.book.names
  pub main : (x y : ℕ) → ShareMain new x y ↔ ShareMain old x y
  pub touched : (x : ℕ) → IsMarked new x ↔ (IsMarked old x × (Contains ids x → ⊥))
  pub issued : new.book.issued ≡ old.book.issued

-- these names leave their clusters and join that of another name
abbrev pub ComesToMain : ℕ → List ℕ → Ringed → ℕ → Type 0
ComesToMain to ids rings x = ShareMain rings to x ⊎ Contains ids x

abbrev pub AreGathered : ℕ → List ℕ → Ringed → Ringed → Type 0
AreGathered to ids old new =
    (x y : ℕ) → ShareMain new x y
    ↔ ((ShareMain old x y × (Contains ids x → ⊥) × (Contains ids y → ⊥)) ⊎ (ComesToMain to ids old x × ComesToMain to ids old y))

pub record GathersMain (to : ℕ) (ids : List ℕ) (old new : Ringed) : Type 0 where
  pub names : new.book.names ≡ old.book.names
  pub main : AreGathered to ids old new
  pub touched : (x : ℕ) → IsMarked new x ↔ IsMarked old x
  pub spare : new.book.spare ≡ old.book.spare
  pub issued : new.book.issued ≡ old.book.issued

-- these names leave their clusters and are one of their own, and the others share clusters as they did
abbrev pub ArePartedOff : List ℕ → Ringed → Ringed → Type 0
ArePartedOff ids old new =
    (x y : ℕ) → ShareMain new x y ↔ ((ShareMain old x y × (Contains ids x → ⊥) × (Contains ids y → ⊥)) ⊎ (Contains ids x × Contains ids y))

pub record Parts (ids : List ℕ) (old new : Ringed) : Type 0 where
  pub names : new.book.names ≡ old.book.names
  pub main : ArePartedOff ids old new
  pub touched : (x : ℕ) → IsMarked new x ↔ IsMarked old x
  pub spare : new.book.spare ≡ old.book.spare
  pub issued : new.book.issued ≡ old.book.issued
