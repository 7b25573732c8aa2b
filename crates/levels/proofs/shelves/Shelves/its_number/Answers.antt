-- A name that a level has has a number.
use Rattle.std.proofs.Common.{true≢false, is_some, sym, ap, ◌∙◌}
use Rattle.levels.specs.Shelves.{view_of}
use Rattle.levels.proofs.Graphs.{member-number}
use Rattle.levels.proofs.shelves.Shelves.its_number.Goals as goal

pub unreachable-requires : goal.unreachable-requires
unreachable-requires g c =
    true≢false (sym c.requires ∙ member-number (view_of c.args.level c.args.self.now) c.args.id ∙ ap is_some (sym c.number.ensures.number ∙ c.in-None.is))
