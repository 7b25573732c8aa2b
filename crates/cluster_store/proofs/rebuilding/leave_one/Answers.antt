-- One cluster leaves.
use Rattle.std.proofs.Common.{[], ◌∷◌}
use Rattle.lists.proofs.Entries.{Contains-head}
use Rattle.cluster_store.proofs.Turning.{left_by, there_at}
use Rattle.cluster_store.proofs.rebuilding.leave_one.Goals as goal

pub at-requires : goal.at-requires
at-requires g c = (search, there_at c.args.staged (c.args.number ∷ []) c.args.slots.now.slots c.args.number c.requires.may (Contains-head c.args.number []))

pub make_move-requires : goal.make_move-requires
make_move-requires g c = (
  search,
  (
    c.requires.shown,
    there_at c.args.staged (c.args.number ∷ []) c.args.slots.now.slots c.args.number c.requires.may (Contains-head c.args.number []),
  ),
)

pub returns-clause-out : goal.returns-clause-out
returns-clause-out g c =
    left_by c.args.staged c.args.slots.now.slots c.make_move.new.slots.slots c.args.number c.at.result.now c.tag-tag.result c.left.result c.requires.may
    c.at.ensures c.tag-tag.ensures c.left.ensures c.make_move.ensures.updates
