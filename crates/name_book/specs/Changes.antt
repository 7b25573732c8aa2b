-- What becomes of a ring of a table: which two names share it.
use Rattle.std.specs.Prelude.{◌≡◌, ◌≢◌, ◌⊎◌, ◌↔◌, ℕ, List, Contains}
use Rattle.name_book.specs.Books.{Table, AreRung}

-- ring r stays as it is
abbrev pub KeepsRing : Table → Table → ℕ → Type 0
KeepsRing old new r = (x y : ℕ) → AreRung new r x y ↔ AreRung old r x y

-- ring r gains a name that is alone in it
abbrev pub GainsAlone : Table → Table → ℕ → ℕ → Type 0
GainsAlone old new r id = (x y : ℕ) → AreRung new r x y ↔ (AreRung old r x y ⊎ ((x ≡ id) × (y ≡ id)))

-- ring r loses a name, and the others of its ring stay together
abbrev pub Loses : Table → Table → ℕ → ℕ → Type 0
Loses old new r id = (x y : ℕ) → AreRung new r x y ↔ (AreRung old r x y × x ≢ id × y ≢ id)

-- a name is cut out of its ring r, and is alone then
abbrev pub CutsOut : Table → Table → ℕ → ℕ → Type 0
CutsOut old new r id = (x y : ℕ) → AreRung new r x y ↔ ((AreRung old r x y × x ≢ id × y ≢ id) ⊎ ((x ≡ id) × (y ≡ id)))

-- two names share ring r, and neither is one of these
abbrev pub AreRungBeside : Table → ℕ → List ℕ → ℕ → ℕ → Type 0
AreRungBeside table r ids x y = AreRung table r x y × (Contains ids x → ⊥) × (Contains ids y → ⊥)

-- these names leave their rings r, and make one of their own
abbrev pub MakesRing : Table → Table → ℕ → List ℕ → Type 0
MakesRing old new r ids = (x y : ℕ) → AreRung new r x y ↔ (AreRungBeside old r ids x y ⊎ (Contains ids x × Contains ids y))

-- a name stands in the ring r of another, or is one of these
abbrev pub ComesTo : Table → ℕ → ℕ → List ℕ → ℕ → Type 0
ComesTo table r to ids x = AreRung table r to x ⊎ Contains ids x

-- these names leave their rings r, and join that of another name
abbrev pub Gathers : Table → Table → ℕ → ℕ → List ℕ → Type 0
Gathers old new r to ids = (x y : ℕ) → AreRung new r x y ↔ (AreRungBeside old r ids x y ⊎ (ComesTo old r to ids x × ComesTo old r to ids y))

-- these names join the ring r of another name, and the others share it as they did
abbrev pub JoinsAll : Table → Table → ℕ → ℕ → List ℕ → Type 0
JoinsAll old new r to ids = (x y : ℕ) → AreRung new r x y ↔ (AreRung old r x y ⊎ (ComesTo old r to ids x × ComesTo old r to ids y))
