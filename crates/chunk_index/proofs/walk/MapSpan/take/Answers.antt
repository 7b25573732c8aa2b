use Rattle.std.proofs.Common.{◌∙◌}
use Rattle.chunk_index.specs.Keys.{key_of}
use Rattle.chunk_index.specs.Parts.{part_left}
use Rattle.chunk_index.specs.Sources.{map_listed}
use Rattle.chunk_index.proofs.Merges.{step_alone}
use Rattle.chunk_index.proofs.walk.MapSpan.take.Goals as goal

pub returns-then-is_empty : goal.returns-then-is_empty
returns-then-is_empty c =
    let s = c.args.self.now in
    let l = c.take_listed.new.self in
    let none = c.is_empty.ensures c.if-is_empty.true in
    step_alone key_of c.args.end (map_listed s) (map_listed l) (part_left s.fresh) c.take_listed.result (part_left l.fresh) none
    (c.take_listed.ensures.fresh ∙ none) c.take_listed.ensures.taken
