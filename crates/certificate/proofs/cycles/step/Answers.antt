use Rattle.std.proofs.Common.{arith, ◌≡◌, ◌-◌, ◌<◌, ℕ, length, slice_set, ap, sym, ◌∙◌, subst, take, rules}
use Rattle.certificate.specs.declared.cycles.Visit.TheVariants.{Done}
use Rattle.certificate.specs.Searches.{GoesOn}
use Rattle.certificate.proofs.Searching.{finished, finished_less, passed, passed_less, opened, opened_less, cycle_found, read_top, read_left, read_visit, next_of, above_way, goes_on_same, work_same, way_short}
use Rattle.certificate.proofs.cycles.step.Goals as goal

pub returns-then-left-eq0-clause-goes_on : goal.returns-then-left-eq0-clause-goes_on
returns-then-left-eq0-clause-goes_on c answer =
    let t = read_top _ _ _ c.args.search.now.way.items c.len.result _ c.requires.search c.requires.some (omega arith) c.index-top.ensures in
    let left = read_left _ _ _ _ _ _ _ c.requires.search t c.index-left.ensures in
    let len : length c.args.search.now.way.items ≡ c.args.search.now.way.len = omega arith in
    let rest = ap (λ (m : ℕ). take (m - 1) c.args.search.now.way.items) len ∙ sym c.pop.ensures.rest in
    subst (λ way. GoesOn c.args.pairs.now c.args.search.now.visits.items c.args.search.now.left.items
    (slice_set c.args.search.now.visits.items c.index-top.result.now Done) way)
    rest (finished _ _ _ _ _ _ c.requires.search t (left ∙ c.if-left-eq0.true))

pub returns-then-left-eq0-clause-less : goal.returns-then-left-eq0-clause-less
returns-then-left-eq0-clause-less c answer =
    let t = read_top _ _ _ c.args.search.now.way.items c.len.result _ c.requires.search c.requires.some (omega arith) c.index-top.ensures in
    finished_less c.args.search.now.left.items _ _ _ _ t

pub offset_bounds-pairs-left : goal.offset_bounds-pairs-left
offset_bounds-pairs-left c =
    let t = read_top _ _ _ c.args.search.now.way.items c.len.result _ c.requires.search c.requires.some (omega arith) c.index-top.ensures in
    let left = read_left _ _ _ _ _ _ _ c.requires.search t c.index-left.ensures in
    let next = next_of _ _ _ _ _ _ _ c.requires.pairs_in c.requires.search t left (omega arith) in
    let within : c.index-left.result.now - 1 < length c.args.pairs.now = next.within in
    search rules

pub returns-in-Open-clause-cycle : goal.returns-in-Open-clause-cycle
returns-in-Open-clause-cycle c answer =
    let t = read_top _ _ _ c.args.search.now.way.items c.len.result _ c.requires.search c.requires.some (omega arith) c.index-top.ensures in
    let left = read_left _ _ _ _ _ _ _ c.requires.search t c.index-left.ensures in
    let next = next_of _ _ _ _ _ _ _ c.requires.pairs_in c.requires.search t left (omega arith) in
    cycle_found _ _ _ _ _ _ (c.index-left.result.now - 1) c.requires.search t next.within next.into next.from
    (read_visit _ _ _ next.from c.index.ensures ∙ c.in-Open.is)

pub open-requires-clause-room : goal.open-requires-clause-room
open-requires-clause-room c =
    let t = read_top _ _ _ c.args.search.now.way.items c.len.result _ c.requires.search c.requires.some (omega arith) c.index-top.ensures in
    let left = read_left _ _ _ _ _ _ _ c.requires.search t c.index-left.ensures in
    let next = next_of _ _ _ _ _ _ _ c.requires.pairs_in c.requires.search t left (omega arith) in
    let new = read_visit _ _ _ next.from c.index.ensures ∙ c.in-New.is in
    let short = way_short c.args.pairs.now _ _ _ _ c.requires.search next.from new (above_way _ _ _ _ _ _ _ c.requires.search t next) in
    omega (arith, short, c.requires.room)

pub offset_bounds-before-left : goal.offset_bounds-before-left
offset_bounds-before-left c =
    let t = read_top _ _ _ c.args.search.now.way.items c.len.result _ c.requires.search c.requires.some (omega arith) c.index-top.ensures in
    let left = read_left _ _ _ _ _ _ _ c.requires.search t c.index-left.ensures in
    let next = next_of _ _ _ _ _ _ _ c.requires.pairs_in c.requires.search t left (omega arith) in
    let within : c.index-left.result.now - 1 < length c.args.before.now = subst (λ n. c.index-left.result.now - 1 < n) (sym c.requires.sized) next.within in
    search rules

pub returns-in-New-clause-goes_on : goal.returns-in-New-clause-goes_on
returns-in-New-clause-goes_on c answer =
    let t = read_top _ _ _ c.args.search.now.way.items c.len.result _ c.requires.search c.requires.some (omega arith) c.index-top.ensures in
    let left = read_left _ _ _ _ _ _ _ c.requires.search t c.index-left.ensures in
    let next = next_of _ _ _ _ _ _ _ c.requires.pairs_in c.requires.search t left (omega arith) in
    let new = read_visit _ _ _ next.from c.index.ensures ∙ c.in-New.is in
    let e = c.open.ensures in
    let g = opened c.args.pairs.now c.args.search.now.left.items c.args.search.now.visits.items c.args.search.now.way.items _ c.requires.search next.from new
    (above_way _ _ _ _ _ _ _ c.requires.search t next) in
    goes_on_same _ _ _ _ _ _ _ _ e.left e.visits e.way g

pub returns-in-New-clause-less : goal.returns-in-New-clause-less
returns-in-New-clause-less c answer =
    let t = read_top _ _ _ c.args.search.now.way.items c.len.result _ c.requires.search c.requires.some (omega arith) c.index-top.ensures in
    let left = read_left _ _ _ _ _ _ _ c.requires.search t c.index-left.ensures in
    let next = next_of _ _ _ _ _ _ _ c.requires.pairs_in c.requires.search t left (omega arith) in
    let new = read_visit _ _ _ next.from c.index.ensures ∙ c.in-New.is in
    let less = opened_less c.args.search.now.left.items c.args.search.now.visits.items _ next.from new in
    let e = c.open.ensures in
    work_same _ _ _ _ _ e.left e.visits less

pub returns-in-Done-clause-goes_on : goal.returns-in-Done-clause-goes_on
returns-in-Done-clause-goes_on c answer =
    let t = read_top _ _ _ c.args.search.now.way.items c.len.result _ c.requires.search c.requires.some (omega arith) c.index-top.ensures in
    let left = read_left _ _ _ _ _ _ _ c.requires.search t c.index-left.ensures in
    let next = next_of _ _ _ _ _ _ _ c.requires.pairs_in c.requires.search t left (omega arith) in
    let done = read_visit _ _ _ next.from c.index.ensures ∙ c.in-Done.is in
    passed _ _ _ _ _ _ c.index-left.result.now _ c.requires.search t left (omega arith) done (c.requires.chains (c.index-left.result.now - 1) next.within)

pub returns-in-Done-clause-less : goal.returns-in-Done-clause-less
returns-in-Done-clause-less c answer =
    let t = read_top _ _ _ c.args.search.now.way.items c.len.result _ c.requires.search c.requires.some (omega arith) c.index-top.ensures in
    let left = read_left _ _ _ _ _ _ _ c.requires.search t c.index-left.ensures in
    let next = next_of _ _ _ _ _ _ _ c.requires.pairs_in c.requires.search t left (omega arith) in
    passed_less c.args.pairs.now _ _ c.args.search.now.way.items _ c.index-left.result.now _ c.requires.search t.within left
    (omega arith) (c.requires.chains (c.index-left.result.now - 1) next.within)
