-- One name more is released.
use Rattle.name_book.proofs.Marks.{released-next}
use Rattle.name_book.proofs.book.NameBook.release_all.Goals as goal

pub loop-id-preserved : goal.loop-id-preserved
loop-id-preserved c = record {
  released = released-next c.args.names.now c.loop-id.id-index c.loop-id-test.true c.args.self.now c.loop-id.self c.release.new.self
      c.loop-id.invariant.released c.release.ensures;
}
