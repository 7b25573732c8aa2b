use Rattle.std.proofs.Common.{◌≡◌, ◌∙◌, ℕ, true, false, List, refl, sym, subst, arith}
use Rattle.std.specs.Prelude.{Contains}
use Rattle.std.proofs.lemmas.List.{get_or_read}
use Rattle.links.specs.Walkers.{mark_at, Finds}
use Rattle.trimming.proofs.Teaming.{kept_low, team_low, team_read, whole_more, finds_tied}
use Rattle.trimming.proofs.teams.reach_team.Goals as goal

pub returns-then-index-clause-found : goal.returns-then-index-clause-found
returns-then-index-clause-found c few =
    let low = kept_low c.args.net.now c.args.teams.now c.requires.teams c.args.place c.requires.place in
    let m = c.requires.finding.marked in
    let sized = m.sized in
    let marks = c.args.room.now.marks.items in
    let is : mark_at marks c.args.place ≡ true =
    sym (get_or_read marks c.args.place c.index.result.now (omega (arith, low, sized)) c.index.ensures false) ∙ c.if-index.true in
    (m.exact c.args.place low).0 is

pub reach_all-requires-clause-places : goal.reach_all-requires-clause-places
reach_all-requires-clause-places c x here =
    let low = team_low c.args.net.now c.args.teams.now c.requires.teams c.args.place x c.requires.place (subst (λ (l : List ℕ). Contains l x) (team_read c.args.net.now c.args.teams.now c.requires.teams c.args.place _ c.index-2.result.now c.as_slice.result.now c.requires.place
    c.index-leader.ensures c.index-2.ensures c.as_slice.ensures.value) here) in
    let sized = c.requires.finding.marked.sized in
    omega (arith, low, sized)

pub returns-clause-whole : goal.returns-clause-whole
returns-clause-whole c =
    whole_more c.args.net.now c.args.teams.now c.requires.teams c.args.place c.args.room.now.found.items c.reach_all.new.room.found.items
    c.requires.place c.requires.whole
    (subst (λ (l : List ℕ). Finds (Contains l) c.args.room.now.found.items c.reach_all.new.room.found.items) (team_read c.args.net.now c.args.teams.now c.requires.teams c.args.place _ c.index-2.result.now c.as_slice.result.now c.requires.place
    c.index-leader.ensures c.index-2.ensures c.as_slice.ensures.value) c.reach_all.ensures.finds)
    (λ x here. c.reach_all.ensures.found x (subst (λ (l : List ℕ). Contains l x) (sym (team_read c.args.net.now c.args.teams.now c.requires.teams c.args.place _ c.index-2.result.now c.as_slice.result.now c.requires.place
    c.index-leader.ensures c.index-2.ensures c.as_slice.ensures.value)) here))

pub returns-clause-finds : goal.returns-clause-finds
returns-clause-finds c =
    finds_tied c.args.net.now c.args.teams.now c.requires.teams c.args.place c.args.room.now.found.items c.reach_all.new.room.found.items c.requires.place
    (subst (λ (l : List ℕ). Finds (Contains l) c.args.room.now.found.items c.reach_all.new.room.found.items) (team_read c.args.net.now c.args.teams.now c.requires.teams c.args.place _ c.index-2.result.now c.as_slice.result.now c.requires.place
    c.index-leader.ensures c.index-2.ensures c.as_slice.ensures.value) c.reach_all.ensures.finds)

pub returns-clause-found : goal.returns-clause-found
returns-clause-found c few =
    c.reach_all.ensures.found c.args.place (subst (λ (l : List ℕ). Contains l c.args.place) (sym (team_read c.args.net.now c.args.teams.now c.requires.teams c.args.place _ c.index-2.result.now c.as_slice.result.now c.requires.place
    c.index-leader.ensures c.index-2.ensures c.as_slice.ensures.value))
    ((c.requires.teams.exact c.args.place c.args.place c.requires.place).1 (0, refl)))
