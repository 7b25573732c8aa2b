use Rattle.std.proofs.Common.{ℕ, ◌∷◌, [], ◌∙◌, List, take, slice_index, sym, subst, true≢false}
use Rattle.std.proofs.lemmas.List.{take_more}
use Rattle.cluster.specs.Guesses.{PutsPlaces}
use Rattle.cluster.proofs.Images.{places_more}
use Rattle.cluster.proofs.guess.put_places.Goals as goal
use Rattle.cluster.proofs.guess.put_places.Goals.{then-not-put_place, else-not-put_place}

pub loop-at-preserved : goal.loop-at-preserved
loop-at-preserved c =
    let ids : List ℕ = c.args.ids.now in
    let at : ℕ = c.loop-at.at in
    subst (λ (xs : List ℕ). PutsPlaces c.args.names.now xs c.args.places.now.items c.put_place.new.places.items c.if-not-put_place.all)
    (sym (take_more ids at 0 c.loop-at-test.true)) (elim c.if-not-put_place.branch [
      | then-not-put_place w ↦ places_more c.args.names.now (take at ids) (slice_index ids at ∷ []) c.args.places.now.items c.loop-at.places.items
          c.put_place.new.places.items c.loop-at.all c.put_place.result c.if-not-put_place.all c.loop-at.invariant c.put_place.ensures
          (λ e. absurd (true≢false (sym e ∙ w.all-is)))
      | else-not-put_place w ↦ places_more c.args.names.now (take at ids) (slice_index ids at ∷ []) c.args.places.now.items c.loop-at.places.items
          c.put_place.new.places.items c.loop-at.all c.put_place.result c.if-not-put_place.all c.loop-at.invariant c.put_place.ensures
          (λ e. (sym w.all-is ∙ e, w.if-not-put_place.false))
    ])
