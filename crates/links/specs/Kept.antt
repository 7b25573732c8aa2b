-- What links keep beside their transactions and pairs: look-ups for walks.
use Rattle.std.specs.Prelude.{◌≡◌, ◌≤◌, ℕ, List, length, map, nat_eq}
use Rattle.std.specs.HashMap as hash
use Rattle.graphs.specs.Certificates.{Txs}
use Rattle.graphs.specs.declared.names.Kin.{Kin}
use Rattle.graphs.specs.declared.names.Kin.TheVariants.{Ancestors, Descendants}
use Rattle.links.specs.Links.{AreLinks}
use Rattle.places.specs.Chains.{turned}
use Rattle.links.specs.Ways.{AreWays}
use Rattle.links.specs.Walkers.{IsReady}
use Rattle.places.specs.Places.{ArePlaces, AreSteps}
use Rattle.links.specs.declared.maps.Maps.{Maps}
use Rattle.links.specs.declared.ways.Ways.{Ways}
use Rattle.links.specs.declared.walker.Walker.{Walker}
use Rattle.links.specs.declared.link_walk.LinkWalk.{LinkWalk}

abbrev pub names_of : Txs → List ℕ
names_of txs = map (λ tx. tx.0) txs

-- The places of the names, the steps from children to parents, and those from parents to children.
pub record AreMaps (txs : Txs) (pairs : List (ℕ × ℕ)) (maps : Maps) : Type 0 where
  pub places : ArePlaces (names_of txs) (hash.get nat_eq maps.places)
  pub up : AreWays (length txs) maps.up
  pub down : AreWays (length txs) maps.down
  pub steps : AreSteps (hash.get nat_eq maps.places) pairs maps.up.steps.items
  pub back : maps.down.steps.items ≡ map turned maps.up.steps.items

-- the steps to ancestors, or to descendants
abbrev pub ways_to : Kin → Maps → Ways
ways_to Ancestors maps = maps.up
ways_to Descendants maps = maps.down

-- What links keep, with room for so many names.
pub record AreKept (txs : Txs) (pairs : List (ℕ × ℕ)) (maps : Maps) (walker : Walker) (room : ℕ) : Type 0 where
  pub links : AreLinks (record { txs = txs; pairs = pairs })
  pub maps_are : AreMaps txs pairs maps
  pub ready : IsReady (length txs) walker
  pub names : length txs ≤ room

-- The names that a walk has still to give.
abbrev pub coming : LinkWalk → List ℕ
coming walk = walk.left.now
