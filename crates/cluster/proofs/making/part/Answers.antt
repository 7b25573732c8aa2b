use Rattle.std.proofs.Common.{◌≡◌, ◌*◌, List, ℕ, length, map, slice_index, ap, ◌∙◌, sym, subst, subst₂, IfOk, Contains}
use Rattle.std.proofs.lemmas.List.{length-map}
use Rattle.std.proofs.lemmas.Result.{IfOk-from_err}
use Rattle.bitset.specs.Places.{places}
use Rattle.cluster.specs.Changes.{IsPartOf}
use Rattle.cluster.specs.Named.{named, IsNamed}
use Rattle.cluster.specs.Steps.{GrowsWithin, most_steps}
use Rattle.graphs.specs.Closures.{Closure}
use Rattle.cluster.proofs.Oks.{both_ok, no_step, from_none}
use Rattle.cluster.proofs.Parts.{IsNamed-part, IsPartOf-named}
use Rattle.cluster.proofs.Knowing.{part_known}
use Rattle.cluster.proofs.Rooms.{room_fits}
use Rattle.cluster.proofs.Kept.{place_member}
use Rattle.cluster.specs.Guesses.{AreImages}
use Rattle.cluster.proofs.making.part.Goals as goal

pub copy_names-requires : goal.copy_names-requires
copy_names-requires g c = search

pub returns-in_err-copy_names : goal.returns-in_err-copy_names
returns-in_err-copy_names g c =
    let failed = c.from_residual.ensures.0 in
    record {
      names = IfOk-from_err c.from_residual.result _ failed;
      part = IfOk-from_err c.from_residual.result _ failed;
      whole = IfOk-from_err c.from_residual.result _ failed;
      steps = no_step _ _;
    }

pub returns-in_err-dep : goal.returns-in_err-dep
returns-in_err-dep g c =
    let failed = c.from_residual-in_err-dep.ensures.0 in
    record {
      names = IfOk-from_err c.from_residual-in_err-dep.result _ failed;
      part = IfOk-from_err c.from_residual-in_err-dep.result _ failed;
      whole = IfOk-from_err c.from_residual-in_err-dep.result _ failed;
      steps = no_step _ _;
    }

pub certified-requires : goal.certified-requires
certified-requires g c =
    let n : ℕ = 64 * g.row.W in
    let items : c.copy_names.new.names.items ≡ map (slice_index c.args.names.now) (places n c.args.chosen) =
    from_none c.in_ok-copy_names.ensures c.new-own.ensures.items in
    let kept : IsNamed n c.copy_names.new.names.items c.in_ok-dep.dep = subst (λ (xs : List ℕ). IsNamed n xs c.in_ok-dep.dep) (sym items)
    (IsNamed-part n c.args.names.now c.args.dep.now c.in_ok-dep.dep c.args.chosen c.requires.named
    c.requires.within c.requires.some c.in_ok-dep.ensures.part c.in_ok-dep.ensures.closed c.requires.whole) in
    let left : IsPartOf c.args.names.now (named c.args.names.now c.args.dep.now) c.args.chosen c.copy_names.new.names.items
    (named c.copy_names.new.names.items c.in_ok-dep.dep) =
    subst (λ (xs : List ℕ). IsPartOf c.args.names.now (named c.args.names.now c.args.dep.now) c.args.chosen xs (named xs c.in_ok-dep.dep)) (sym items)
    (IsPartOf-named n c.args.names.now c.args.dep.now c.in_ok-dep.dep c.args.chosen c.requires.named
    c.requires.within c.requires.some c.in_ok-dep.ensures.part c.in_ok-dep.ensures.closed c.requires.whole) in (
      search,
      (
        room_fits g.row.W c.work.invariant.1,
        (
          assumption,
          (
            kept,
            part_known n c.args.names.now c.copy_names.new.names.items (named c.args.names.now c.args.dep.now) c.in_ok-dep.dep c.args.chosen
                c.args.old.now.parts c.guess_part.new.guess.parts.items c.guess_part.new.guess.places.items c.guess_part.new.guess.flows.items kept left
                c.requires.known c.requires.follow
                (subst (λ (xs : List ℕ). AreImages xs (λ part. Contains c.args.old.now.parts part) c.guess_part.new.guess.parts.items
                c.guess_part.new.guess.places.items c.guess_part.new.guess.flows.items) c.as_slice.ensures c.guess_part.ensures),
          ),
        ),
      ),
    )

pub returns-clause-names : goal.returns-clause-names
returns-clause-names g c = subst (λ (xs : List ℕ). IfOk c.certified.result (λ k. k.names ≡ xs))
    (from_none c.in_ok-copy_names.ensures c.new-own.ensures.items) c.certified.ensures.names

pub returns-clause-part : goal.returns-clause-part
returns-clause-part g c =
    let items : c.copy_names.new.names.items ≡ map (slice_index c.args.names.now) (places (64 * g.row.W) c.args.chosen) =
    from_none c.in_ok-copy_names.ensures c.new-own.ensures.items in
    let made : IsPartOf c.args.names.now (named c.args.names.now c.args.dep.now) c.args.chosen (map (slice_index c.args.names.now)
    (places (64 * g.row.W) c.args.chosen)) (named (map (slice_index c.args.names.now) (places (64 * g.row.W) c.args.chosen)) c.in_ok-dep.dep) =
    IsPartOf-named (64 * g.row.W) c.args.names.now c.args.dep.now c.in_ok-dep.dep c.args.chosen c.requires.named
    c.requires.within c.requires.some c.in_ok-dep.ensures.part c.in_ok-dep.ensures.closed c.requires.whole in
    both_ok c.certified.result (λ k. k.names ≡ c.copy_names.new.names.items) (λ k. k.graph ≡ named c.copy_names.new.names.items c.in_ok-dep.dep)
    (λ k. IsPartOf c.args.names.now (named c.args.names.now c.args.dep.now) c.args.chosen k.names k.graph)
    (λ k names graph. subst₂ (λ (xs : List ℕ) (h : Closure). IsPartOf c.args.names.now (named c.args.names.now c.args.dep.now) c.args.chosen xs h)
    (sym (names ∙ items)) (sym (graph ∙ ap (λ (xs : List ℕ). named xs c.in_ok-dep.dep) items)) made)
    c.certified.ensures.names c.certified.ensures.graph

pub returns-clause-steps : goal.returns-clause-steps
returns-clause-steps g c =
    subst (λ (n : ℕ). GrowsWithin (most_steps n) c.args.steps.now c.certified.new.steps)
    (ap length (from_none c.in_ok-copy_names.ensures c.new-own.ensures.items)
    ∙ length-map (places (64 * g.row.W) c.args.chosen) (slice_index c.args.names.now)) c.certified.ensures.steps

pub part-requires : goal.part-requires
part-requires g c = (search, (search, λ p here. place_member (64 * g.row.W) c.args.names.now c.args.dep.now c.requires.named p (c.requires.within p here)))
