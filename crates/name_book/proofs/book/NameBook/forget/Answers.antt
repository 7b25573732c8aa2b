use Rattle.std.proofs.Common.{◌≡◌, ◌≢◌, ◌↔◌, ℕ, Some, inl, sym, ap, subst, ◌∙◌, arith}
use Rattle.name_book.specs.Books.{Table, IsNamed, Ringed, IsMarked}
use Rattle.name_book.proofs.Marks.{rings_of, dropped-marked, dropped-marks, drops-name}
use Rattle.name_book.proofs.Named.{named-less}
use Rattle.name_book.proofs.book.NameBook.forget.Goals as goal

other : (c : goal.After-remove) → c.self.inside.touched ≢ Some c.args.id
other c is = c.pass_over.ensures.other (sym (ap (λ (r : Ringed). r.touched) c.self.view_is) ∙ is)

pub invariant_of-self : goal.invariant_of-self
invariant_of-self c =
    let old = c.self.inside.table in let new = c.remove.new.self in let id = c.args.id in
    let rungs = c.remove.ensures.rings 1 (omega arith) in
    dropped-marks old new c.self.inside.touched id (other c) (λ x y rung. inl ((rungs x y).0 rung)) (λ x y all. (rungs x y).1 all) c.self.invariant
    (λ x live apart. (named-less old new id c.remove.ensures.names x).1 (live, apart))

pub returns : goal.returns
returns c =
    let old = c.self.inside.table in let new = c.remove.new.self in let id = c.args.id in let touched = c.self.inside.touched in
    let made = c.remove.ensures in let rungs = made.rings 1 (omega arith) in
    let was : old ≡ c.args.self.now.book = ap (λ (r : Ringed). r.book) c.self.view_is ∙ c.pass_over.ensures.book in
    drops-name c.args.self.now (rings_of old touched) (rings_of new touched) id was
    (subst (λ (r : Ringed). (x : ℕ) → x ≢ id → IsMarked r x ↔ IsMarked c.args.self.now x) (sym c.self.view_is) c.pass_over.ensures.touched)
    (dropped-marked old new touched id (other c) (λ x y rung. inl ((rungs x y).0 rung)) (λ x y all. (rungs x y).1 all) c.self.invariant)
    made.names (made.rings 0 (omega arith)) made.counts (subst (λ (t : Table). IsNamed t id) (sym was) c.requires.live)
