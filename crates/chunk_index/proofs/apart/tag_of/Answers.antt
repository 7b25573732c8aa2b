use Rattle.std.proofs.Common.{refl, sym}
use Rattle.chunk_index.specs.Kept.{tag_in}
use Rattle.chunk_index.proofs.apart.tag_of.Goals as goal

pub returns-then-has : goal.returns-then-has
unfolding tag_in
returns-then-has c = let main = sym c.if-has.ensures in rw main refl

pub returns-then-has-2 : goal.returns-then-has-2
unfolding tag_in
returns-then-has-2 c =
    let main = sym c.if-has.ensures in
    let top = sym c.if-has-2.ensures in
    rw (main, top) refl

pub returns-else-has-2 : goal.returns-else-has-2
unfolding tag_in
returns-else-has-2 c =
    let main = sym c.if-has.ensures in
    let top = sym c.if-has-2.ensures in
    rw (main, top) refl
