use Rattle.std.proofs.Common.{None, Contains, sym, subst, arith}
use Rattle.lists.specs.Distinct.{AreDistinct}
use Rattle.lists.proofs.Entries.{Contains-head, Contains-later}
use Rattle.name_book.specs.Changes.{JoinsAll}
use Rattle.name_book.specs.Books.{IsNamed, Ringed, IsMarked, AreMarks}
use Rattle.name_book.proofs.Rings.{rung-itself}
use Rattle.name_book.proofs.Gathering.{joins-all}
use Rattle.name_book.proofs.Marks.{rings_of, unmarked-alone, marks-first, all-marked, all-marks, list-marked}
use Rattle.name_book.proofs.book.NameBook.touch_all.Goals as goal

-- ---- a name is touched

pub gather-requires-clause-live : goal.gather-requires-clause-live
gather-requires-clause-live c = (
  c.self.invariant.live c.in-Some.first c.in-Some.is,
  λ x here. subst (λ (r : Ringed). IsNamed r.book x) (sym c.self.view_is) (c.requires.live x here),
)

pub gather-requires-clause-apart : goal.gather-requires-clause-apart
gather-requires-clause-apart c here =
    let old = c.self.inside.table in let first = c.in-Some.first in
    c.requires.untouched first here (subst (λ (r : Ringed). IsMarked r first) c.self.view_is
    (subst (λ o. IsMarked (rings_of old o) first) (sym c.in-Some.is) (rung-itself old 1 first (c.self.invariant.live first c.in-Some.is))))

joined : (c : goal.After-gather) → JoinsAll c.self.inside.table c.gather.new.self 1 c.in-Some.first c.args.names.now
joined c =
    joins-all c.self.inside.table c.gather.new.self 1 c.in-Some.first c.args.names.now
    (λ x y here. unmarked-alone (rings_of c.self.inside.table c.self.inside.touched) x y c.self.invariant
    (λ marked. c.requires.untouched x here (subst (λ (r : Ringed). IsMarked r x) c.self.view_is marked))) c.gather.ensures.gathered

pub invariant_of-self : goal.invariant_of-self
invariant_of-self c =
    let old = c.self.inside.table in let new = c.gather.new.self in let made = c.gather.ensures in
    let marks = subst (λ o. AreMarks (rings_of old o)) c.in-Some.is c.self.invariant in
    subst (λ o. AreMarks (rings_of new o)) (sym c.in-Some.is) (all-marks old new c.in-Some.first c.args.names.now made.same.0 (joined c) marks)

pub returns-in-Some : goal.returns-in-Some
returns-in-Some c =
    let old = c.self.inside.table in let new = c.gather.new.self in let made = c.gather.ensures in
    let marks = subst (λ o. AreMarks (rings_of old o)) c.in-Some.is c.self.invariant in
    rw (← c.self.view_is, c.in-Some.is) (record {
      names = made.same.0;
      main = made.others 0 (omega arith) (omega arith);
      touched = all-marked old new c.in-Some.first c.args.names.now made.same.0 (joined c) marks;
      spare = made.same.1;
      issued = made.same.2;
    })

-- ---- none is, and there is a first name

pub gather-requires-in-Some-split_first-clause-live : goal.gather-requires-in-Some-split_first-clause-live
gather-requires-in-Some-split_first-clause-live c =
    let some = c.in-Some-split_first in let first = some.field-0-0.now in
    let named = subst (λ (r : Ringed). (x : _) → Contains c.args.names.now x → IsNamed r.book x) (sym c.self.view_is) c.requires.live in
    let listed = rw some.ensures.cases.0 at named in (
      listed first (Contains-head first some.rest.now),
      λ x later. listed x (Contains-later first x some.rest.now later),
    )

pub gather-requires-in-Some-split_first-clause-apart : goal.gather-requires-in-Some-split_first-clause-apart
gather-requires-in-Some-split_first-clause-apart c = (subst AreDistinct c.in-Some-split_first.ensures.cases.0 c.requires.once).0

first-joined : (c : goal.After-gather-in-Some-split_first)
    → JoinsAll c.self.inside.table c.gather-in-Some-split_first.new.self 1 c.in-Some-split_first.field-0-0.now c.in-Some-split_first.rest.now
first-joined c =
    let some = c.in-Some-split_first in
    joins-all c.self.inside.table c.gather-in-Some-split_first.new.self 1 some.field-0-0.now some.rest.now
    (λ x y later. unmarked-alone (rings_of c.self.inside.table None) x y
    (subst (λ o. AreMarks (rings_of c.self.inside.table o)) c.in-None.is c.self.invariant) (λ none. none)) c.gather-in-Some-split_first.ensures.gathered

pub invariant_of-self-in-Some-split_first : goal.invariant_of-self-in-Some-split_first
invariant_of-self-in-Some-split_first c =
    let old = c.self.inside.table in let new = c.gather-in-Some-split_first.new.self in let made = c.gather-in-Some-split_first.ensures in
    let some = c.in-Some-split_first in let first = some.field-0-0.now in
    let marks = subst (λ o. AreMarks (rings_of old o)) c.in-None.is c.self.invariant in
    let here = subst (λ zs. Contains zs first) (sym some.ensures.cases.0) (Contains-head first some.rest.now) in
    let live = subst (λ (r : Ringed). IsNamed r.book first) (sym c.self.view_is) (c.requires.live first here) in
    all-marks old new first some.rest.now made.same.0 (first-joined c) (marks-first old first live marks)

pub returns-in-Some-split_first : goal.returns-in-Some-split_first
returns-in-Some-split_first c =
    let old = c.self.inside.table in let new = c.gather-in-Some-split_first.new.self in let made = c.gather-in-Some-split_first.ensures in
    let some = c.in-Some-split_first in let first = some.field-0-0.now in
    let marks = subst (λ o. AreMarks (rings_of old o)) c.in-None.is c.self.invariant in
    let here = subst (λ zs. Contains zs first) (sym some.ensures.cases.0) (Contains-head first some.rest.now) in
    let live = subst (λ (r : Ringed). IsNamed r.book first) (sym c.self.view_is) (c.requires.live first here) in
    rw (← c.self.view_is, c.in-None.is, some.ensures.cases.0) (record {
      names = made.same.0;
      main = made.others 0 (omega arith) (omega arith);
      touched = list-marked old new first some.rest.now made.same.0 (first-joined c) live marks;
      spare = made.same.1;
      issued = made.same.2;
    })
