use Rattle.std.proofs.Common.{ℕ, List, subst}
use Rattle.std.specs.Prelude.{Contains}
use Rattle.lists.proofs.Entries.{Contains-head}
use Rattle.trimming.proofs.Turning.{kept_looked}
use Rattle.trimming.proofs.turns.turn.Goals as goal

pub gather-requires-clause-place : goal.gather-requires-clause-place
gather-requires-clause-place c =
    let t = c.requires.trim in
    let next = (t.exact c.args.place).0 (Contains-head c.args.place c.args.trim.now.counts.ready.keys) in
    (next.within, λ is. next.fresh (kept_looked c.args.trim.now.marked.items c.args.place ((t.kept c.args.place).0 is)))

pub gather-requires-clause-parents : goal.gather-requires-clause-parents
gather-requires-clause-parents c a up =
    let t = c.requires.trim in
    let next = (t.exact c.args.place).0 (Contains-head c.args.place c.args.trim.now.counts.ready.keys) in
    (t.kept a).1 (next.parents a up)

pub are_within-requires-clause-places : goal.are_within-requires-clause-places
are_within-requires-clause-places c x here =
    c.gather.ensures.found.within x (subst (λ (l : List ℕ). Contains l x) c.as_slice.ensures.value here)
