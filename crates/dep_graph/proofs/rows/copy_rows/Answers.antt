use Rattle.std.proofs.Common.{rules, true, ◌≡◌, ◌<◌, ◌*◌, ◌∷◌, length, ap, ◌∙◌, sym, refl, subst, arith, length-append}
use Rattle.bitset.specs.Places.{places}
use Rattle.bitset.specs.Sets.{places-here, len-places}
use Rattle.dep_graph.specs.Changes.{CopiesRows, IsRenumbered}
use Rattle.dep_graph.specs.Moves.{ChangesFrom}
use Rattle.dep_graph.specs.Rows.{row_at, holds}
use Rattle.dep_graph.proofs.Copying.{IsMet, MeetsRows, Copying-start, Copying-more, Copying-all, seam, met_within, met_renumbered}
use Rattle.dep_graph.proofs.Reading.{row_read, refilled}
use Rattle.dep_graph.proofs.rows.copy_rows.Goals as goal

pub loop-place-init : goal.loop-place-init
loop-place-init g c = (
  Copying-start (MeetsRows c.args.from.now c.args.within.now) (places (64 * g.row.W) c.args.within.now) c.args.rows.now.items _
      (c.into_iter-place-iterator.ensures.into_iter_gives ∙ c.iter-place-items.ensures.places),
  refl,
)

pub offset_bounds-from-place : goal.offset_bounds-from-place
offset_bounds-from-place g c =
    let inside : c.in-Some.place < length c.args.from.now =
    c.requires.there c.in-Some.place
    (places-here (64 * g.row.W) c.args.within.now _ _ c.in-Some.place (sym (seam c.loop-place.invariant.0 c.in-Some.ensures.steps))).1 in
    search rules

pub bounds-from-place : goal.bounds-from-place
bounds-from-place g c =
    c.requires.there c.in-Some.place
    (places-here (64 * g.row.W) c.args.within.now _ _ c.in-Some.place (sym (seam c.loop-place.invariant.0 c.in-Some.ensures.steps))).1

pub push_reserved-requires : goal.push_reserved-requires
push_reserved-requires g c =
    let all = seam c.loop-place.invariant.0 c.in-Some.ensures.steps in (
      search rules,
      omega (
        arith,
        c.requires.room,
        c.loop-place.invariant.0.long,
        c.loop-place.invariant.1,
        ap length all,
        length-append c.loop-place.yielded (c.in-Some.place ∷ c.next.new.self),
        len-places (64 * g.row.W) c.args.within.now c.iter-place-items.ensures.within,
      ),
    )

pub loop-place-preserved : goal.loop-place-preserved
loop-place-preserved g c =
    let inside : c.in-Some.place < length c.args.from.now =
    c.requires.there c.in-Some.place
    (places-here (64 * g.row.W) c.args.within.now _ _ c.in-Some.place (sym (seam c.loop-place.invariant.0 c.in-Some.ensures.steps))).1 in (
      Copying-more c.loop-place.invariant.0 c.in-Some.ensures.steps _
          (record { rate = c.index-from-place.result.rate; ancestors = c.meet.result; descendants = c.meet-in-loop-place.result })
          c.push_reserved.ensures.items
          (subst (λ was. IsMet c.args.within.now was
          (record { rate = c.index-from-place.result.rate; ancestors = c.meet.result; descendants = c.meet-in-loop-place.result }))
          (row_read c.args.from.now c.in-Some.place c.index-from-place.result c.index-from-place.is inside)
          (record { rate = refl; ancestors = c.meet.ensures; descendants = c.meet-in-loop-place.ensures })),
      c.push_reserved.ensures.capacity ∙ c.loop-place.invariant.1,
    )

pub number_anew-requires : goal.number_anew-requires
number_anew-requires g c =
    let n = 64 * g.row.W in
    let met =
    Copying-all (MeetsRows c.args.from.now c.args.within.now) (places n c.args.within.now) c.args.rows.now.items c.loop-place.rows.items _ _
    c.loop-place.invariant.0 c.in-None.ensures.steps.0 in (
      search rules,
      (
        search rules,
        (
          λ i p after inside held.
              met_within n c.args.from.now c.args.within.now c.args.rows.now.items c.loop-place.rows.items met i p (omega (arith, c.len-first.ensures.value))
              (omega (arith, ap length c.as_mut_slice.ensures.value)) (subst (λ rows. holds (row_at rows i) p ≡ true) c.as_mut_slice.ensures.value held),
          (
            omega (arith, c.len-first.ensures.value, c.requires.few),
            omega (
              arith,
              c.len-first.ensures.value,
              met.long,
              ap length c.as_mut_slice.ensures.value,
              c.as_mut_slice.type_inv.0,
              len-places n c.args.within.now c.iter-place-items.ensures.within,
            ),
          ),
        ),
      ),
    )

pub returns-clause-rows : goal.returns-clause-rows
returns-clause-rows g c =
    let n = 64 * g.row.W in
    let ps = places n c.args.within.now in
    let old = c.args.rows.now.items in
    let mid = c.loop-place.rows.items in
    let met = Copying-all (MeetsRows c.args.from.now c.args.within.now) ps old mid _ _ c.loop-place.invariant.0 c.in-None.ensures.steps.0 in
    let new = c.number_anew.new.rows in
    let numbered : ChangesFrom (IsRenumbered ps (length old)) (length old) mid new =
    subst (λ rows. ChangesFrom (IsRenumbered ps (length old)) (length old) rows new) c.as_mut_slice.ensures.value
    (subst (λ first. ChangesFrom (IsRenumbered ps first) first c.as_mut_slice.result.now new) c.len-first.ensures.value c.number_anew.ensures) in
    subst (CopiesRows c.args.from.now ps old) (sym (refilled (length mid) mid new refl numbered.long))
    (met_renumbered n c.args.from.now c.args.within.now old mid met new numbered)
