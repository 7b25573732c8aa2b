-- The two ends of a list.
use Rattle.std.specs.Prelude.{◌≡◌, List, [], ◌∷◌, ◌++◌, Option, MatchOption}
use Rattle.std.specs.Ordering.{ordering_reverse}
use Rattle.std.specs.declared.cmp.Ordering.{Ordering}
use Rattle.chunk_index.specs.declared.ends.End.{End}
use Rattle.chunk_index.specs.declared.ends.End.TheVariants.{First, Last}

-- an item at that end, and the others
abbrev pub at_end : {A : Type 0} → End → A → List A → List A
at_end First x xs = x ∷ xs
at_end Last x xs = xs ++ x ∷ []

-- the item at that end is taken, and the others are left; or there is none
abbrev pub Takes : {A : Type 0} → End → List A → Option A → List A → Type 0
Takes end xs taken rest = MatchOption taken ((xs ≡ []) × (rest ≡ [])) (λ x. xs ≡ at_end end x rest)

-- how two keys compare as seen from that end
abbrev pub seen_from : End → Ordering → Ordering
seen_from First order = order
seen_from Last order = ordering_reverse order
