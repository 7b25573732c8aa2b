use Rattle.std.proofs.Common.{refl}
use Rattle.graph_model.specs.Replies.{Refused, Done, Ids, Number, Stands, Compared, Settled, Evicted, Built, Trimmed, Unmined, picked_sum}
use Rattle.graph_model.specs.Runs as runs
use Rattle.replay.proofs.WritingLemmas.{one_line}
use Rattle.replay.proofs.answer.Answer.tell.Goals as goal

pub returns-in-TooLong : goal.returns-in-TooLong
returns-in-TooLong g c = (runs.TooLong, rw c.in-TooLong.is refl, c.told.ensures.writes _ _ _ _ _ c.write_word.ensures, c.told.ensures.told)

pub returns-in-Unread : goal.returns-in-Unread
returns-in-Unread g c =
    (runs.Unread, rw c.in-Unread.is refl, c.told-in-Unread.ensures.writes _ _ _ _ _ c.write_word-in-Unread.ensures, c.told-in-Unread.ensures.told)

pub returns-in-Refused : goal.returns-in-Refused
returns-in-Refused g c = (
  runs.Replies (Refused c.in-Refused.why),
  rw c.in-Refused.is refl,
  c.told-in-Refused.ensures.writes _ _ _ _ _ (one_line _ _ _ _ _ _ c.write_refusal.ensures),
  rw c.number.ensures at c.told-in-Refused.ensures.told,
)

pub returns-in-Done : goal.returns-in-Done
returns-in-Done g c =
    (runs.Replies Done, rw c.in-Done.is refl, c.told-in-Done.ensures.writes _ _ _ _ _ c.write_word-in-Done.ensures, c.told-in-Done.ensures.told)

pub returns-in-Names : goal.returns-in-Names
returns-in-Names g c = (
  runs.Replies (Ids c.args.found.now),
  rw c.in-Names.is refl,
  c.told-in-Names.ensures.writes _ _ _ _ _ (one_line _ _ _ _ _ _ c.write_ids.ensures),
  c.told-in-Names.ensures.told,
)

pub returns-in-Number : goal.returns-in-Number
returns-in-Number g c = (
  runs.Replies (Number c.in-Number.n),
  rw c.in-Number.is refl,
  c.told-in-Number.ensures.writes _ _ _ _ _ (one_line _ _ _ _ _ _ c.write_ids-in-Number.ensures),
  c.told-in-Number.ensures.told,
)

pub returns-in-Stands : goal.returns-in-Stands
returns-in-Stands g c = (
  runs.Replies (Stands c.in-Stands.place),
  rw c.in-Stands.is refl,
  c.told-in-Stands.ensures.writes _ _ _ _ _ (one_line _ _ _ _ _ _ (rw c.place_word.ensures at c.write_word-in-Stands.ensures)),
  c.told-in-Stands.ensures.told,
)

pub returns-in-Compared : goal.returns-in-Compared
returns-in-Compared g c = (
  runs.Replies (Compared c.in-Compared.verdict),
  rw c.in-Compared.is refl,
  c.told-in-Compared.ensures.writes _ _ _ _ _ (one_line _ _ _ _ _ _ (rw c.verdict_word.ensures at c.write_word-in-Compared.ensures)),
  c.told-in-Compared.ensures.told,
)

pub returns-in-Settled : goal.returns-in-Settled
returns-in-Settled g c = (
  runs.Replies (Settled c.in-Settled.verdict),
  rw c.in-Settled.is refl,
  c.told-in-Settled.ensures.writes _ _ _ _ _ (one_line _ _ _ _ _ _ (rw c.settled_words.ensures at c.write_word-in-Settled.ensures)),
  c.told-in-Settled.ensures.told,
)

pub returns-in-Evicted : goal.returns-in-Evicted
returns-in-Evicted g c = (
  runs.Replies (Evicted (picked_sum c.in-Evicted.picked) c.in-Evicted.picked.ids),
  rw c.in-Evicted.is refl,
  c.told-in-Evicted.ensures.writes _ _ _ _ _ (one_line _ _ _ _ _ _ c.write_picked.ensures),
  c.told-in-Evicted.ensures.told,
)

pub returns-in-Block : goal.returns-in-Block
returns-in-Block g c = (
  runs.Replies (Built (picked_sum c.in-Block.picked) c.in-Block.picked.ids),
  rw c.in-Block.is refl,
  c.told-in-Block.ensures.writes _ _ _ _ _ (one_line _ _ _ _ _ _ c.write_picked-in-Block.ensures),
  c.told-in-Block.ensures.told,
)

pub returns-in-Trimmed : goal.returns-in-Trimmed
returns-in-Trimmed g c = (
  runs.Replies (Trimmed (picked_sum c.in-Trimmed.picked) c.in-Trimmed.picked.ids),
  rw c.in-Trimmed.is refl,
  c.told-in-Trimmed.ensures.writes _ _ _ _ _ (one_line _ _ _ _ _ _ c.write_picked-in-Trimmed.ensures),
  c.told-in-Trimmed.ensures.told,
)

pub returns-in-Unmined : goal.returns-in-Unmined
returns-in-Unmined g c = (
  runs.Replies (Unmined c.in-Unmined.ids),
  rw c.in-Unmined.is refl,
  c.told-in-Unmined.ensures.writes _ _ _ _ _ (one_line _ _ _ _ _ _ (rw c.as_slice.ensures at c.write_ids-in-Unmined.ensures)),
  c.told-in-Unmined.ensures.told,
)
