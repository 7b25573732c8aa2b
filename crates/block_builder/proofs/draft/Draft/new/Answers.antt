use Rattle.std.proofs.Common.{ℕ, pos, Bool, List, [], sym, subst₂}
use Rattle.block_builder.specs.Drafts.{IsDraft}
use Rattle.block_builder.proofs.Drafting.{drafts_none}
use Rattle.block_builder.proofs.draft.Draft.new.Goals as goal

pub returns-clause-draft : goal.returns-clause-draft
returns-clause-draft c =
    subst₂ (λ (ids : List ℕ) (marks : List Bool). IsDraft c.args.limit ids (pos 0) c.args.limit marks []) (sym c.new.ensures.items)
    (sym c.new-2.ensures.items) (drafts_none c.args.limit)
