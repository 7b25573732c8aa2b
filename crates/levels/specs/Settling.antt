-- Where a staging is closed and a level stays: the rings on the way to what they are to be.
use Rattle.std.specs.Prelude.{◌≡◌, ◌⊎◌, ◌↔◌, ◌≤◌, ℕ, List, Contains, Some, IsSome}
use Rattle.std.specs.FinMap as finmap
use Rattle.std.specs.FinSet as set
use Rattle.graphs.specs.declared.names.Level.{Level}
use Rattle.graphs.specs.declared.names.Level.TheVariants.{Main, Top}
use Rattle.cluster.specs.Clusters.{Cluster}
use Rattle.name_book.specs.Books.{IsNamed}
use Rattle.name_book.specs.Calls.{ArePartedOff}
use Rattle.levels.specs.Rings.{Ringed, IsMarked, ShareMain}
use Rattle.levels.specs.Views.{View}

-- the ring of a name's cluster is right: main's are from the start, and those of staging are where the name isn't touched
abbrev pub IsDone : Level → Ringed → ℕ → Type 0
IsDone Main rings x = Unit {0}
IsDone Top rings x = IsMarked rings x → ⊥

-- A name is live where the level has it, or while it is touched; all names of a cluster are touched, or none; and ring 0 joins the names of each
-- cluster that is done.
pub record AreSettling (stays : Level) (rings : Ringed) (level : View) : Type 0 where
  pub names : (id : ℕ) → IsNamed rings.book id ↔ (IsSome (finmap.get level.numbers id) ⊎ IsMarked rings id)
  pub whole : (number x y : ℕ) (c : Cluster) → level.at number ≡ Some c → Contains c.names x → Contains c.names y → IsMarked rings x → IsMarked rings y
  pub zero : (number x : ℕ) (c : Cluster) → level.at number ≡ Some c → Contains c.names x → IsDone stays rings x
      → (y : ℕ) → ShareMain rings x y ↔ Contains c.names y

-- a name isn't touched any more, and no other is that wasn't
pub record Settles (id : ℕ) (old new : Ringed) : Type 0 where
  pub out : IsMarked new id → ⊥
  pub fewer : (x : ℕ) → IsMarked new x → IsMarked old x
  pub few : set.len new.book.names ≤ set.len old.book.names
  pub issued : new.book.issued ≡ old.book.issued

-- ring 0 stays where main does, and else these names are one of their own
abbrev pub MakesMain : Level → List ℕ → Ringed → Ringed → Type 0
MakesMain Main ids old new = (x y : ℕ) → ShareMain new x y ↔ ShareMain old x y
MakesMain Top ids old new = ArePartedOff ids old new

-- these names aren't touched any more
pub record SettlesAll (stays : Level) (ids : List ℕ) (old new : Ringed) : Type 0 where
  pub names : new.book.names ≡ old.book.names
  pub main : MakesMain stays ids old new
  pub touched : (x : ℕ) → IsMarked new x ↔ (IsMarked old x × (Contains ids x → ⊥))
  pub issued : new.book.issued ≡ old.book.issued
