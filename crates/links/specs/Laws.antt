-- What a reader would expect of the definitions.
use Rattle.std.specs.Prelude.{◌≡◌, ◌↔◌, ℕ, ℤ, Bool, true, false, ◌&&◌, ◌||◌, not, List, ◌++◌, map, Contains}
use Rattle.std.specs.List.{filter}
use Rattle.graphs.specs.Graphs.{IsAncestor}
use Rattle.graphs.specs.Closures.{Closure, is_member, is_ancestor, rate_of, IsOrder, AddsPair, SetsFee, AreLinked}
use Rattle.graphs.specs.Closing.{IsClosureOf}
use Rattle.links.specs.Links.{Links, AreLinks, AreSame, Has, graph}
use Rattle.links.specs.Kept.{names_of}
use Rattle.links.specs.Pairs.{AreAcross, AreSplit, HasMore}
use Rattle.links.specs.Leaving.{KeepAncestors, goes}
use Rattle.links.specs.Pricing.{priced}
use Rattle.links.specs.Parts.{AreComponentsOf}
use Rattle.links.specs.Closing.{closure}

-- The closure of links is that of their graph: its members are their names with their fees and sizes, and one is above another exactly
-- where pairs make it an ancestor.
pub record LinksHaveClosures : Type 0 where
  pub closes : (links : Links) → AreLinks links → IsClosureOf (closure links) (graph links)
  pub order : (links : Links) → AreLinks links → IsOrder (is_member (closure links)) (is_ancestor (closure links))
  pub ancestors : (links : Links) → AreLinks links → (a d : ℕ)
      → (is_ancestor (closure links) a d ≡ true) ↔ (Has links a × Has links d × IsAncestor links.pairs a d)
  pub rates : (links : Links) → AreLinks links → (id : ℕ) (fee : ℤ) (size : ℕ) → Contains {X = ℕ × ℤ × ℕ} links.txs (id, fee, size)
      → rate_of (closure links) id ≡ record { fee = fee; size = size }

-- ---- what is made of links is that change of their closures

-- One pair more is one pair more of the closure.
abbrev pub LinkedAddsPair : Type 0
LinkedAddsPair =
    (old new : Links) (parent child : ℕ) → AreLinks old → AreLinks new → new.txs ≡ old.txs → HasMore old.pairs new.pairs (parent, child)
    → Has old parent → Has old child → AddsPair (closure old) (closure new) parent child

-- a is above d in one of two closures
abbrev pub is_above : Closure → Closure → ℕ → ℕ → Bool
is_above f g a d = is_ancestor f a d || is_ancestor g a d

-- The names of two closures, and one pair more, from a parent in the one to a child in the other.
pub record Joins (f g : Closure) (parent child : ℕ) (h : Closure) : Type 0 where
  pub members : (id : ℕ) → is_member h id ≡ (is_member f id || is_member g id)
  pub first_rates : (id : ℕ) → is_member f id ≡ true → rate_of h id ≡ rate_of f id
  pub second_rates : (id : ℕ) → is_member g id ≡ true → rate_of h id ≡ rate_of g id
  pub ancestors : (a d : ℕ) → is_ancestor h a d ≡ (is_above f g a d || (is_above f g a parent && is_above f g child d))

-- Names of two links without a common name are those of both closures, with one pair more between the two.
abbrev pub JoinedJoins : Type 0
JoinedJoins =
    (one two new : Links) (parent child : ℕ) → AreLinks one → AreLinks two → AreLinks new → AreSplit (names_of one.txs) (names_of two.txs)
    → AreAcross (names_of one.txs) (names_of two.txs) parent child → new.txs ≡ one.txs ++ two.txs
    → HasMore (one.pairs ++ two.pairs) new.pairs (parent, child) → Joins (closure one) (closure two) parent child (closure new)

-- Some members go: the others keep their rates and the relation among themselves.
pub record DropsPlaces (old new : Closure) (gone : ℕ → Bool) : Type 0 where
  pub members : (p : ℕ) → is_member new p ≡ (not (gone p) && is_member old p)
  pub rates : (p : ℕ) → gone p ≡ false → rate_of new p ≡ rate_of old p
  pub ancestors : (a d : ℕ) → is_ancestor new a d ≡ (not (gone a) && (not (gone d) && is_ancestor old a d))

-- Names that go are so many members fewer.
abbrev pub WithoutDropsPlaces : Type 0
WithoutDropsPlaces =
    (old new : Links) (gone : List ℕ) → AreLinks old → AreLinks new → new.txs ≡ filter (λ tx. not (goes gone tx.0)) old.txs
    → KeepAncestors old.pairs gone new.pairs → DropsPlaces (closure old) (closure new) (goes gone)

-- Another fee of one name is another fee of one member.
abbrev pub PricedSetsFee : Type 0
PricedSetsFee =
    (old new : Links) (id : ℕ) (fee : ℤ) → AreLinks old → AreLinks new → Has old id → new.txs ≡ map (priced id fee) old.txs
    → AreSame old.pairs new.pairs → SetsFee (closure old) (closure new) id fee

pub record ChangesAreClosed : Type 0 where
  pub linked : LinkedAddsPair
  pub joined : JoinedJoins
  pub without : WithoutDropsPlaces
  pub priced : PricedSetsFee

-- ---- components

-- The closure falls into those of parts: a member of it is one of some part, with the rate that it has there, and one member is above
-- another where it is so in some part. Each part is of one component.
pub record FallsInto (old : Links) (parts : List Links) : Type 0 where
  pub members : (id : ℕ) → (is_member (closure old) id ≡ true) ↔ ((part : Links) × Contains parts part × (is_member (closure part) id ≡ true))
  pub rates : (part : Links) → Contains parts part → (id : ℕ) → Has part id → rate_of (closure part) id ≡ rate_of (closure old) id
  pub ancestors : (a d : ℕ)
      → (is_ancestor (closure old) a d ≡ true) ↔ ((part : Links) × Contains parts part × (is_ancestor (closure part) a d ≡ true))
  pub whole : (part : Links) → Contains parts part → (a b : ℕ) → Has part a → Has part b → AreLinked (closure part) a b

-- The closure of links falls into those of their components.
abbrev pub ComponentsAreClosed : Type 0
ComponentsAreClosed =
    (old : Links) (parts : List Links) → AreLinks old → ((part : Links) → Contains parts part → AreLinks part) → AreComponentsOf old parts
    → FallsInto old parts
