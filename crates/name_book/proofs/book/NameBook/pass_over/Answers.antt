use Rattle.std.proofs.Common.{◌≡◌, ◌≢◌, ◌↔◌, ℕ, Some, ap, subst, sym, ◌∙◌}
use Rattle.name_book.specs.Books.{Ringed, AreMarks, IsMarked}
use Rattle.name_book.proofs.Marks.{rings_of, touched-is, passed-marks, passed-marked, passed-other}
use Rattle.name_book.proofs.book.NameBook.pass_over.Goals as goal

is : (c : goal.After-self-1) → c.self.inside.touched ≡ Some c.args.id
is c = touched-is c.self.inside.touched c.args.id (sym c.eq.ensures ∙ c.if-eq.true)

marks : (c : goal.After-self-1) → AreMarks (rings_of c.self.inside.table (Some c.args.id))
marks c = subst (λ o. AreMarks (rings_of c.self.inside.table o)) (is c) c.self.invariant

pub invariant_of-self : goal.invariant_of-self
invariant_of-self c = passed-marks c.self.inside.table c.args.id c.other-self-inside.result c.other-self-inside.ensures (marks c)

pub returns-then-eq-clause-touched : goal.returns-then-eq-clause-touched
returns-then-eq-clause-touched c =
    let was : rings_of c.self.inside.table (Some c.args.id) ≡ c.args.self.now = ap (rings_of c.self.inside.table) (sym (is c)) ∙ c.self.view_is in
    subst (λ (r : Ringed). (x : ℕ) → x ≢ c.args.id → IsMarked (rings_of c.self.inside.table c.other-self-inside.result) x ↔ IsMarked r x) was
    (passed-marked c.self.inside.table c.args.id c.other-self-inside.result c.other-self-inside.ensures)

pub returns-then-eq-clause-other : goal.returns-then-eq-clause-other
returns-then-eq-clause-other c = passed-other c.self.inside.table c.args.id c.other-self-inside.result c.other-self-inside.ensures
