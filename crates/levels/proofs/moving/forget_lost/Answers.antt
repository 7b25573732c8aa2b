-- One name more goes, if main hasn't it.
use Rattle.std.proofs.Common.{◌≡◌, ◌+◌, ◌≤◌, ℕ, List, length, slice_index_or, take, take_all, arith, sym, ◌∙◌, subst}
use Rattle.std.specs.FinMap as finmap
use Rattle.std.specs.FinSet as set
use Rattle.levels.specs.Rings.{Forgets, Ringed}
use Rattle.levels.proofs.Forgetting.{forgets_kept, forgets_lost, has_number, in_list, lacks_number, not_before}
use Rattle.levels.proofs.Righting.{AreLost}
use Rattle.levels.proofs.moving.forget_lost.Goals as goal
use Rattle.levels.proofs.moving.forget_lost.Goals.{then-is_none, else-is_none}

pub forget-requires : goal.forget-requires
forget-requires g c =
    let low = c.loop-id-test.true in
    let next = in_list c.args.ids.now c.loop-id.id-index low in
    record {
      live = (c.loop-id.invariant.forgets.names _).1
          (c.requires.live _ next, λ lost. not_before c.args.ids.now c.loop-id.id-index low c.requires.once lost.0);
    }

pub loop-id-preserved : goal.loop-id-preserved
loop-id-preserved g c =
    let so = c.loop-id.invariant in
    let ids = c.args.ids.now in
    let i = c.loop-id.id-index in
    let main = c.args.shelves.now.main in
    let old = c.args.rings.now in
    let id = slice_index_or ids i 0 in
    record {
      forgets = elim c.if-is_none.branch [
        | then-is_none w ↦
            subst (λ (r : Ringed). Forgets (AreLost (take (i + 1) ids) main) old r) (sym w.rings-is)
            (forgets_lost ids i c.loop-id-test.true main old c.loop-id.rings so.forgets w.forget.new.self
            (lacks_number c.number.result (finmap.get main id) c.is_none.result c.is_none.ensures w.if-is_none.true c.number.ensures.number)
            w.forget.ensures)
        | else-is_none w ↦
            subst (λ (r : Ringed). Forgets (AreLost (take (i + 1) ids) main) old r) (sym w.rings-is)
            (forgets_kept ids i c.loop-id-test.true main old c.loop-id.rings so.forgets
            (has_number c.number.result (finmap.get main id) c.is_none.result c.is_none.ensures w.if-is_none.false c.number.ensures.number))
      ];
      few = elim c.if-is_none.branch [
        | then-is_none w ↦
            subst (λ (r : Ringed). set.len r.book.names ≤ set.len old.book.names) (sym w.rings-is) (omega (arith, w.forget.ensures.len, so.few))
        | else-is_none w ↦ subst (λ (r : Ringed). set.len r.book.names ≤ set.len old.book.names) (sym w.rings-is) so.few
      ];
      issued = elim c.if-is_none.branch [
        | then-is_none w ↦ subst (λ (r : Ringed). r.book.issued ≡ old.book.issued) (sym w.rings-is) (w.forget.ensures.issued ∙ so.issued)
        | else-is_none w ↦ subst (λ (r : Ringed). r.book.issued ≡ old.book.issued) (sym w.rings-is) so.issued
      ];
    }

pub returns-clause-forgets : goal.returns-clause-forgets
returns-clause-forgets g c =
    let all : length c.args.ids.now ≤ c.loop-id.id-index = omega (arith, c.loop-id-test.false) in
    subst (λ (xs : List ℕ). Forgets (AreLost xs c.args.shelves.now.main) c.args.rings.now c.loop-id.rings) (take_all c.loop-id.id-index c.args.ids.now all)
    c.loop-id.invariant.forgets
