use Rattle.std.proofs.Common.{ap}
use Rattle.wire.specs.declared.texts.draft.Draft.{Draft}
use Rattle.wire.proofs.StageLemmas.{put}
use Rattle.wire.proofs.DraftLemmas.{stage_of, draft_refuses}
use Rattle.wire.proofs.texts.draft.Draft.with.Goals as goal

pub returns : goal.returns
returns c = draft_refuses c.args.self c.args.row (ap (λ (d : Draft). put (stage_of d) c.args.row) c.in-Ended.is)
