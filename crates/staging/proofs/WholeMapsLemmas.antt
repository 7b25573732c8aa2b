-- What a change of one of the two whole maps makes of the top level.
use Rattle.std.proofs.Common.{◌≡◌, ℕ, Bool, true, false, List, Option, sym}
use Rattle.std.proofs.lemmas.Bool.{false≢true}
use Rattle.staging.specs.Maps.{top_of}
use Rattle.staging.specs.Changes.{changed}
use Rattle.staging.specs.WholeMaps.{whole_maps}
use Rattle.staging.proofs.ChangeLemmas.{LooksUp, entries-changed}

module _ (key : ℕ) (value : Option ℕ) (was left : ℕ) (old new other : List (ℕ × ℕ)) (looks : LooksUp old new key value) where
  pub change_second : (staged : Bool) → staged ≡ true → top_of (whole_maps other new staged left) ≡ changed (top_of (whole_maps other old staged was)) key value
  change_second true is = entries-changed old new key value looks
  change_second false is = absurd (false≢true is)

  pub change_first : (staged : Bool) → staged ≡ false → top_of (whole_maps new other staged left) ≡ changed (top_of (whole_maps old other staged was)) key value
  change_first true is = absurd (false≢true (sym is))
  change_first false is = entries-changed old new key value looks
