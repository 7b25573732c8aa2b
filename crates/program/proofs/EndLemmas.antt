-- How the program ends over what the system gives as its words.
use Rattle.std.proofs.Common.{◌≡◌, ℕ, List, [], map, subst, inl, inr, Option, Result, Ok, Err}
use Rattle.std.specs.Prelude.{string_bytes}
use Rattle.std.specs.Vec.Iter.{into_iter_items}
use Rattle.std.specs.declared.alloc.Global.{Global}
use Rattle.std.specs.declared.string.String.{String}
use Rattle.std.specs.declared.vec.Vec.{Vec}
use Rattle.program.specs.Endings.{Ending, Runs, IsUnbegun, Given, AreTaken, Ends}

module _ {S K : Type 0} (left : S → Option (List ℕ)) (reads : S → ℕ) (written : K → Option (List ℕ)) (writes : K → ℕ)
    (source : S) (sink : K) (end : Ending S K) where
  pub run_ends : {E : Type 0} (given : Given) (result : Result (Vec (String Global) Global) E) (words : Vec (String Global) Global) → result ≡ Ok words
      → AreTaken given result → Runs left reads written writes (map string_bytes words.items) source sink end
      → Ends left reads written writes given source sink end
  run_ends (Ok given) (Ok list) words is taken run =
      let items : words.items ≡ into_iter_items given = cc in
      inl (subst (λ (all : List (String Global)). Runs left reads written writes (map string_bytes all) source sink end) items run)
  run_ends (Err why) (Ok list) words is taken run = (
    λ short. absurd (taken.1 short),
    λ _. let none : words.items ≡ [] = cc in
        subst (λ (all : List (String Global)). Runs left reads written writes (map string_bytes all) source sink end) none run,
  )
  run_ends given (Err error) words is taken run = absurd (cc)

  pub unbegun_ends : {E : Type 0} (given : Given) (result : Result (Vec (String Global) Global) E) (error : E) → result ≡ Err error
      → AreTaken given result → IsUnbegun source sink end → Ends left reads written writes given source sink end
  unbegun_ends (Ok given) result error is taken none = inr none
  unbegun_ends (Err why) (Err told) error is taken none = (λ _. none, λ other. absurd (other taken))
  unbegun_ends (Err why) (Ok list) error is taken none = absurd (cc)
