-- The first gives its number where main doesn't keep it.
use Rattle.std.proofs.Common.{ℕ, List, Contains, sym, ◌∙◌, subst, true≢false}
use Rattle.lists.proofs.Entries.{Contains-head}
use Rattle.cluster_store.proofs.Turning.{gives_first, keeps_first, there_at}
use Rattle.cluster_store.proofs.rebuilding.giver.Goals as goal

pub at-requires : goal.at-requires
at-requires g c =
    let first = c.in-Some.first.now in
    let others = c.in-Some.others.now in (
      search,
      there_at c.args.staged c.args.outs.now c.args.slots.now.slots first c.requires
          (subst (λ (xs : List ℕ). Contains xs first) (sym c.in-Some.ensures.cases.0) (Contains-head first others)),
    )

pub returns-then-gives_number : goal.returns-then-gives_number
returns-then-gives_number g c = (
  c.in-Some.ensures.cases.0,
  gives_first c.args.staged c.args.slots.now.slots c.in-Some.first.now c.at.result.now c.tag.result c.at.ensures c.tag.ensures
      (λ told. true≢false (sym c.if-gives_number.true ∙ c.gives_number.ensures.1 told)),
)

pub returns-else-gives_number : goal.returns-else-gives_number
returns-else-gives_number g c =
    keeps_first c.args.staged c.args.slots.now.slots c.in-Some.first.now c.at.result.now c.tag.result c.at.ensures c.tag.ensures c.args.outs.now
    c.in-Some.others.now c.in-Some.ensures.cases.0 (c.gives_number.ensures.0 c.if-gives_number.false)
