use Rattle.std.proofs.Common.{◌≡◌, ℕ, ◌*◌, ◌<◌, sym, ap, ◌∙◌, subst, inl, inr, true, length}
use Rattle.std.specs.FinSet as fin
use Rattle.bitset.specs.Members.{from_insert, insert_here, insert_other}
use Rattle.closure_flow.specs.Networks.{IsOver, IsShort}
use Rattle.closure_flow.proofs.Marks.{marked_set}
use Rattle.closure_flow.proofs.Networks.{sized_begin, lean_begin}
use Rattle.closure_flow.proofs.network.Network.begin.Goals as goal

pub invariant_of-self : goal.invariant_of-self
invariant_of-self g c =
    let n : ℕ = 64 * g.row.W in
    let self = c.args.self.now in
    let place = c.args.place in
    let at : place < length self.rest.items = subst (λ (m : ℕ). place < m) (sym self.sized.rests) c.requires in
    let here : fin.contains c.insert.new.self place ≡ true = ap (λ s. fin.contains s place) c.insert.ensures ∙ insert_here self.within place in
    let o = c.marked_over-over.ensures in
    let s = c.marked_short-short.ensures in
    record {
      sized = rw c.empty.ensures (sized_begin n _ _ _ place _ self.sized);
      lean = rw c.empty.ensures (lean_begin n _ _ _ place self.sized c.requires self.lean);
      inside = λ p m. elim (from_insert self.within place p (ap (λ x. fin.contains x p) (sym c.insert.ensures) ∙ m)) as (λ _. p < n) [
        | inl same ↦ subst (λ (q : ℕ). q < n) (sym same) c.requires
        | inr old ↦ self.inside p old
      ];
      over_is =
          marked_set self.within c.insert.new.self self.over c.marked_over-over.result self.rest.items place _ IsOver self.over_is at here
          (λ t ne. ap (λ x. fin.contains x t) c.insert.ensures ∙ insert_other self.within place t ne)
          (record { other = o.other; sound = o.sound; complete = o.complete });
      short_is =
          marked_set self.within c.insert.new.self self.short c.marked_short-short.result self.rest.items place _ IsShort self.short_is at here
          (λ t ne. ap (λ x. fin.contains x t) c.insert.ensures ∙ insert_other self.within place t ne)
          (record { other = s.other; sound = s.sound; complete = s.complete });
    }
