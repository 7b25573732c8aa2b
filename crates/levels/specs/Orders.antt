-- What is told of the parts of a level.
use Rattle.std.specs.Prelude.{◌≡◌, ◌↔◌, ℕ, Bool, not, List, map, filter, Contains}
use Rattle.graphs.specs.Certificates.{Part}
use Rattle.graphs.specs.Closures.{Closure, IsCover}
use Rattle.graphs.specs.Linearizations.{StandsBefore}
use Rattle.graphs.specs.Merges.{Precedes}
pub use Rattle.diagram.specs.Parts.{sums_of}
pub use Rattle.comparison.specs.Comparisons.{ComparesParts}

-- The parents of a name with nothing between, as they stand in an order.
pub record ListsCovers (graph : Closure) (order : List ℕ) (id : ℕ) (covers : List ℕ) : Type 0 where
  pub exact : (a : ℕ) → Contains covers a ↔ IsCover graph a id
  pub in_order : (a b : ℕ) → Precedes covers a b → StandsBefore order a b

-- Of the parts of both levels those that one level alone has, where each is marked, in their order. The others are the same in both levels.
pub record AreApart (main top main_alone top_alone : List Part) : Type 0 where
  pub main_marks : List (Bool × Part)
  pub top_marks : List (Bool × Part)
  pub main_all : main ≡ map (λ m. m.1) main_marks
  pub top_all : top ≡ map (λ m. m.1) top_marks
  pub main_told : main_alone ≡ map (λ m. m.1) (filter (λ m. m.0) main_marks)
  pub top_told : top_alone ≡ map (λ m. m.1) (filter (λ m. m.0) top_marks)
  pub shared : map (λ m. m.1) (filter (λ m. not m.0) main_marks) ≡ map (λ m. m.1) (filter (λ m. not m.0) top_marks)
