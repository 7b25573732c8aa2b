-- What a reading of a whole level gathers.
use Rattle.std.specs.Prelude.{◌≡◌, ◌⊎◌, ℕ, ℤ, List, map, Result, Ok, Err}
use Rattle.graphs.specs.Certificates.{Part}
use Rattle.graph_model.specs.declared.names.Refusal.{Refusal}
use Rattle.graph_model.specs.declared.names.Refusal.TheVariants.{Memory}
use Rattle.graph_model.specs.Replies.{Reply, Parts, Points, Dumped, Refused, text_of}
use Rattle.graph_model.specs.Dumps.{DumpText}
use Rattle.desk.specs.declared.listing.Listing.{Listing}
use Rattle.desk.specs.declared.telling.Total.{Total}
use Rattle.desk.specs.Copies.{IsListed, corner_of}

-- The parts with which the machine may answer are listed; or it refuses so, or there is no memory for the list.
abbrev pub GathersOrder : (Reply → Type 0) → Result Listing Refusal → Type 0
GathersOrder May (Ok list) = (parts : List Part) × May (Parts parts) × IsListed parts list
GathersOrder May (Err why) = (why ≡ Memory) ⊎ May (Refused why)

-- the same of corners
abbrev pub GathersCorners : (Reply → Type 0) → Result (List Total) Refusal → Type 0
GathersCorners May (Ok list) = (points : List (ℕ × ℤ)) × May (Points points) × (list ≡ map corner_of points)
GathersCorners May (Err why) = (why ≡ Memory) ⊎ May (Refused why)

-- the spelling of the text with which the machine may answer; or it refuses so
abbrev pub GathersText : (Reply → Type 0) → Result (List ℕ) Refusal → Type 0
GathersText May (Ok bytes) = (text : DumpText) × May (Dumped text) × (bytes ≡ text_of (Dumped text))
GathersText May (Err why) = May (Refused why)
