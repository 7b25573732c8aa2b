-- Replies, and the text of each: lines, each ended by a line feed.
use Rattle.std.specs.Prelude.{ℕ, ℤ, List, [], ◌∷◌, ◌++◌, map, flat_map, codes, decimal, Option, None, Some, Result, Ok, Err}
use Rattle.std.specs.Fmt.{signed_decimal}
use Rattle.fee_rate.specs.declared.rates.Sum.{Sum}
use Rattle.graphs.specs.declared.names.Verdict.{Verdict}
use Rattle.graphs.specs.declared.names.Verdict.TheVariants.{Better, Worse, Equal, Incomparable}
use Rattle.graph_model.specs.declared.names.Place.{Place}
use Rattle.graph_model.specs.declared.names.Place.TheVariants.{Before, Same, After}
use Rattle.graph_model.specs.declared.names.Picked.{Picked}
use Rattle.graph_model.specs.declared.names.Refusal.{Refusal}
use Rattle.graph_model.specs.declared.names.Refusal.TheVariants.{Memory}
use Rattle.graphs.specs.Certificates.{Part}
use Rattle.graph_model.specs.Refusals.{told_as}
use Rattle.graph_model.specs.Words.{spaced, line_text}
use Rattle.graph_model.specs.Texts.{Text, text_lines, chunk_line}
use Rattle.graph_model.specs.Dumps.{DumpText, dump_lines}

pub data Reply : Type 0 where
  Refused : (why : Refusal) → Reply
  Done : Reply
  Ids : (ids : List ℕ) → Reply
  Number : (n : ℕ) → Reply
  -- the parts of an order, the corners of a diagram, and the text that proves an order
  Parts : (parts : List Part) → Reply
  Points : (points : List (ℕ × ℤ)) → Reply
  Proves : (text : Text) → Reply
  -- one part, and where one name stands to another
  OnePart : (part : Part) → Reply
  Stands : (place : Place) → Reply
  Compared : (verdict : Verdict) → Reply
  Settled : (verdict : Verdict) → Reply
  -- the sum and the names of the part that was dropped, and of a block
  Evicted : (sum : Sum) (ids : List ℕ) → Reply
  Built : (sum : Sum) (ids : List ℕ) → Reply
  -- the names that were trimmed, with their sum; the names that came back; and the text of a graph
  Trimmed : (sum : Sum) (ids : List ℕ) → Reply
  Unmined : (ids : List ℕ) → Reply
  Dumped : (text : DumpText) → Reply

-- a number that is kept, as words
abbrev pub kept_words : Option ℕ → List (List ℕ)
kept_words None = []
kept_words (Some n) = decimal n ∷ []

-- the words of a refusal, after `refused`
abbrev pub refusal_words : Refusal → List (List ℕ)
refusal_words why = (told_as why).word ∷ kept_words (told_as why).kept

abbrev pub refusal_text : Refusal → List ℕ
refusal_text why = line_text (spaced (codes "refused" ∷ refusal_words why))

abbrev pub verdict_word : Verdict → List ℕ
verdict_word Better = codes "better"
verdict_word Worse = codes "worse"
verdict_word Equal = codes "equal"
verdict_word Incomparable = codes "incomparable"

-- whether a settlement committed, and its verdict
abbrev pub settled_words : Verdict → List (List ℕ)
settled_words Better = codes "committed" ∷ codes "better" ∷ []
settled_words verdict = codes "aborted" ∷ verdict_word verdict ∷ []

abbrev pub place_word : Place → List ℕ
place_word Before = codes "before"
place_word Same = codes "same"
place_word After = codes "after"

-- the size of a corner first, then its fee
abbrev pub point_line : ℕ × ℤ → List ℕ
point_line point = spaced (codes "point" ∷ decimal point.0 ∷ signed_decimal point.1 ∷ [])

-- a word, then fee and size of some names together, then the names
abbrev pub sum_line : List ℕ → Sum → List ℕ → List ℕ
sum_line word sum ids = spaced (word ∷ signed_decimal sum.fee ∷ decimal sum.size ∷ map decimal ids)

abbrev pub lines_of : Reply → List (List ℕ)
lines_of (Refused why) = spaced (codes "refused" ∷ refusal_words why) ∷ []
lines_of Done = codes "ok" ∷ []
lines_of (Ids ids) = spaced (codes "ids" ∷ map decimal ids) ∷ []
lines_of (Number n) = spaced (codes "count" ∷ decimal n ∷ []) ∷ []
lines_of (Parts parts) = map chunk_line parts ++ codes "end" ∷ []
lines_of (Points points) = map point_line points ++ codes "end" ∷ []
lines_of (Proves text) = text_lines text
lines_of (OnePart part) = chunk_line part ∷ []
lines_of (Stands place) = place_word place ∷ []
lines_of (Compared verdict) = verdict_word verdict ∷ []
lines_of (Settled verdict) = spaced (settled_words verdict) ∷ []
lines_of (Evicted sum ids) = sum_line (codes "evicted") sum ids ∷ []
lines_of (Built sum ids) = sum_line (codes "block") sum ids ∷ []
lines_of (Trimmed sum ids) = sum_line (codes "trimmed") sum ids ∷ []
lines_of (Unmined ids) = spaced (codes "unmined" ∷ map decimal ids) ∷ []
lines_of (Dumped text) = dump_lines text

abbrev pub text_of : Reply → List ℕ
text_of reply = flat_map line_text (lines_of reply)

-- the reply of a change, and of a reading of names
abbrev pub change_reply : {T : Type 0} → Result T Refusal → Reply
change_reply (Ok done) = Done
change_reply (Err why) = Refused why

abbrev pub names_reply : {T : Type 0} → Result T Refusal → List ℕ → Reply
names_reply (Ok done) found = Ids found
names_reply (Err why) found = Refused why

-- the fee and the size of transactions that were picked
abbrev pub picked_sum : Picked → Sum
picked_sum picked = record { fee = picked.fee; size = picked.size }

-- the reply of an eviction, and of a block
abbrev pub evicted_reply : Result Picked Refusal → Reply
evicted_reply (Ok picked) = Evicted (picked_sum picked) picked.ids
evicted_reply (Err why) = Refused why

abbrev pub block_reply : {E : Type 0} → Result Picked E → Reply
block_reply (Ok picked) = Built (picked_sum picked) picked.ids
block_reply (Err none) = Refused Memory

-- the same where the cause of a refusal is told
abbrev pub built_reply : Result Picked Refusal → Reply
built_reply (Ok picked) = Built (picked_sum picked) picked.ids
built_reply (Err why) = Refused why

-- the reply of trimming
abbrev pub trimmed_reply : Result Picked Refusal → Reply
trimmed_reply (Ok picked) = Trimmed (picked_sum picked) picked.ids
trimmed_reply (Err why) = Refused why
