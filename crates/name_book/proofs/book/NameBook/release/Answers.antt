use Rattle.std.proofs.Common.{◌≢◌, ◌↔◌, ℕ, Some, inl, sym, ap, subst, ◌∙◌, arith}
use Rattle.name_book.specs.Books.{Ringed, IsMarked}
use Rattle.name_book.proofs.Marks.{rings_of, dropped-marked, dropped-marks, releases-name}
use Rattle.name_book.proofs.Named.{named-same}
use Rattle.name_book.proofs.book.NameBook.release.Goals as goal

other : (c : goal.After-cut) → c.self.inside.touched ≢ Some c.args.id
other c is = c.pass_over.ensures.other (sym (ap (λ (r : Ringed). r.touched) c.self.view_is) ∙ is)

pub invariant_of-self : goal.invariant_of-self
invariant_of-self c =
    let old = c.self.inside.table in let new = c.cut.new.self in let made = c.cut.ensures in
    dropped-marks old new c.self.inside.touched c.args.id (other c) (λ x y. (made.cut x y).0) (λ x y all. (made.cut x y).1 (inl all)) c.self.invariant
    (λ x live _. named-same old new made.same.0 x live)

pub returns : goal.returns
returns c =
    let old = c.self.inside.table in let new = c.cut.new.self in let id = c.args.id in let touched = c.self.inside.touched in
    let made = c.cut.ensures in
    releases-name c.args.self.now (rings_of old touched) (rings_of new touched) id
    (ap (λ (r : Ringed). r.book) c.self.view_is ∙ c.pass_over.ensures.book)
    (subst (λ (r : Ringed). (x : ℕ) → x ≢ id → IsMarked r x ↔ IsMarked c.args.self.now x) (sym c.self.view_is) c.pass_over.ensures.touched)
    (dropped-marked old new touched id (other c) (λ x y. (made.cut x y).0) (λ x y all. (made.cut x y).1 (inl all)) c.self.invariant)
    made.same (made.others 0 (omega arith) (omega arith))
