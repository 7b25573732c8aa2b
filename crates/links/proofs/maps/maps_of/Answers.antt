use Rattle.std.proofs.Common.{ℕ, ℤ, List, length, map, ap, sym, ◌∙◌, subst}
use Rattle.std.specs.HashMap as hash
use Rattle.std.proofs.lemmas.List.{length-map}
use Rattle.places.specs.Chains.{AreWithin, turned}
use Rattle.links.specs.Kept.{names_of}
use Rattle.links.proofs.Turning.{turned_within}
use Rattle.links.proofs.maps.maps_of.Goals as goal

pub steps_of-requires : goal.steps_of-requires
steps_of-requires c = (names_of c.args.txs.now, c.in_ok-places.ensures, c.requires.among)

pub ways_of-requires : goal.ways_of-requires
ways_of-requires c =
    subst (λ (n : ℕ). AreWithin n c.in_ok-steps.steps.items) (length-map c.args.txs.now (λ (tx : ℕ × ℤ × ℕ). tx.0))
    (c.in_ok-steps.ensures.within (names_of c.args.txs.now) c.in_ok-places.ensures)

pub ways_of-requires-2 : goal.ways_of-requires-2
ways_of-requires-2 c =
    subst (AreWithin (length c.args.txs.now)) (sym (c.in_ok-back.ensures ∙ ap (λ (l : List (ℕ × ℕ)). map turned l) c.as_slice.ensures.value))
    (turned_within (length c.args.txs.now) c.in_ok-steps.steps.items
    (subst (λ (n : ℕ). AreWithin n c.in_ok-steps.steps.items) (length-map c.args.txs.now (λ (tx : ℕ × ℤ × ℕ). tx.0))
    (c.in_ok-steps.ensures.within (names_of c.args.txs.now) c.in_ok-places.ensures)))
