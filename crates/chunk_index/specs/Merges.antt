-- Two lists in key order as one.
use Rattle.std.specs.Prelude.{◌≡◌, List, [], ◌∷◌}
use Rattle.chunk_index.specs.declared.key.Key.{Key}
use Rattle.chunk_index.specs.declared.ends.End.{End}
use Rattle.chunk_index.specs.Ends.{at_end}
use Rattle.chunk_index.specs.Keys.{IsInOrder, put}

module _ {A : Type 0} (key : A → Key) where
  -- each of the second put in its place among the first; where a key is in both, it is the second's item that counts
  unfoldable pub put_all : List A → List A → List A
  put_all xs [] = xs
  put_all xs (y ∷ ys) = put_all (put key xs y) ys

  -- an item of the key k stands nearer to that end than all of xs, of which zs is left if one of that very key goes
  abbrev pub ComesAt : End → Key → List A → List A → Type 0
  ComesAt end k xs zs = (y : A) (ys : List A) → key y ≡ k → IsInOrder key (at_end end y ys)
      → put_all xs (at_end end y ys) ≡ at_end end y (put_all zs ys)
