use Rattle.std.proofs.Common.{rules, ◌≡◌, ◌+◌, ◌*◌, ◌≤◌, ◌∙◌, ℕ, ap, sym, subst, arith, lit<, true}
use Rattle.std.specs.FinSet as fin
use Rattle.graphs.proofs.BestLemmas.{certified_optimal, covers_are_pairs}
use Rattle.graphs.specs.Certificates.{IsCertificate}
use Rattle.graphs.specs.Graphs.{IsCover}
use Rattle.graphs.specs.Minimal.{AreMinimal}
use Rattle.linearize.specs.declared.old.OldPart.{OldPart}
use Rattle.std.specs.Prelude.{List, Option}
use Rattle.graphs.proofs.Members.{contains-members_of}
use Rattle.graphs.specs.Closures.{is_member, members_of, IsClosed}
use Rattle.bitset.specs.Places.{IsWithin}
use Rattle.linearize.specs.Graphs.{sum_at}
use Rattle.graphs.specs.Linearizations.{IsOptimal}
use Rattle.linearize.specs.Known.{all_filled}
use Rattle.linearize.specs.Near.{AreHeld, most_tried}
use Rattle.linearize.proofs.Fills.{all_taken, ids_filled, with_flows_parts}
use Rattle.linearize.proofs.Final.{certificate, has_sizes, minimal}
use Rattle.graphs.proofs.ClosureGraphs.{closures_have_graphs}
use Rattle.linearize.proofs.Sizes.{words_fit, scratch_fits, group_fits}
use Rattle.linearize.proofs.Solves.{at_least_all, at_least_both}
use Rattle.linearize.proofs.Trials.{one_trial, both_trials}
use Rattle.linearize.proofs.near.optimal_near.Goals as goal

pub arrange-requires : goal.arrange-requires
arrange-requires g c =
    let dep = c.args.dep.now in
    let is : c.members-members.result ≡ members_of dep = c.members-members.ensures.members in (
      search rules,
      (
        words_fit g.row.W c.out.invariant.4,
        (
          group_fits g.row.W c.out.invariant.4,
          (
            c.out.invariant.4,
            (
              c.members-members.ensures.closed,
              (
                λ p m. sym (contains-members_of dep p) ∙ subst (λ s. fin.contains s p ≡ true) is m,
                c.out.invariant.5,
              ),
            ),
          ),
        ),
      ),
    )

pub are_parts-requires : goal.are_parts-requires
are_parts-requires g c =
    let n : ℕ = 64 * g.row.W in
    let narrow = c.out.invariant.4 in
    let dep = c.args.dep.now in
    let closed : IsClosed n dep = c.members-members.ensures.closed in
    let is : c.members-members.result ≡ members_of dep = c.members-members.ensures.members in
    let member : (p : ℕ) → fin.contains c.members-members.result p ≡ true → is_member dep p ≡ true = λ p m. sym (contains-members_of dep p)
    ∙ subst (λ s. fin.contains s p ≡ true) is m in
    let len : fin.len c.members-members.result ≡ fin.len (members_of dep) = ap (λ s. fin.len s) is in
    let within : IsWithin n c.members-members.result = λ p m. closed.within p (member p m) in (
      scratch_fits g.row.W narrow,
      (
        search rules,
        (
          words_fit g.row.W narrow,
          (
            group_fits g.row.W narrow,
            (
              lit< tt,
              (
                narrow,
                (
                  record { closed = closed; held = member; few = (let few = c.requires.few in omega (arith, len, few)); rates = c.requires.rates },
                  (
                    c.requires.known,
                    (
                      (c.clear.ensures, c.clear-2.ensures.items),
                      (
                        (let room = c.out.invariant.2 in omega (arith, room, c.as_mut_slice-parents.ensures.len)),
                        (let room = c.out.invariant.3 in omega (arith, room, c.as_mut_slice-weights.ensures.len)),
                      ),
                    ),
                  ),
                ),
              ),
            ),
          ),
        ),
      ),
    )

pub returns-else-not-are_parts-clause-stands : goal.returns-else-not-are_parts-clause-stands
returns-else-not-are_parts-clause-stands g c =
    let made = closures_have_graphs (64 * g.row.W) c.args.dep.now c.members-members.ensures.closed in (made.0, made.2)

pub returns-else-not-are_parts-clause-certificate : goal.returns-else-not-are_parts-clause-certificate
returns-else-not-are_parts-clause-certificate g c = λ flows known graph stands.
    certificate (64 * g.row.W) c.args.dep.now graph c.members-members.ensures.closed stands
    (all_filled c.args.guess.now.places.items flows c.are_parts.new.froms.items c.are_parts.new.draft.parts) c.requires.component
    (with_flows_parts c.args.dep.now c.args.guess.now.parts.items c.args.guess.now.places.items flows known (64 * g.row.W) (members_of c.args.dep.now)
    c.are_parts.new.froms.items c.are_parts.new.draft.parts
    (subst (λ s. AreHeld (64 * g.row.W) c.args.dep.now c.args.guess.now.parts.items c.args.guess.now.places.items s c.are_parts.new.froms.items c.are_parts.new.draft.parts)
    c.members-members.ensures.members (c.are_parts.ensures.parts c.if-not-are_parts.false)))

pub returns-else-not-are_parts-clause-optimal : goal.returns-else-not-are_parts-clause-optimal
returns-else-not-are_parts-clause-optimal g c = λ graph stands.
    (let flows = c.requires.known.0 in
    let known = c.requires.known.1 in
    subst (IsOptimal (sum_at c.args.dep.now) graph)
    (ids_filled c.args.dep.now c.args.guess.now.parts.items c.args.guess.now.places.items flows c.are_parts.new.froms.items c.are_parts.new.draft.parts
    (c.are_parts.ensures.parts c.if-not-are_parts.false).held)
    (certified_optimal (sum_at c.args.dep.now) graph (IsCover graph.pairs) (all_filled c.args.guess.now.places.items flows c.are_parts.new.froms.items c.are_parts.new.draft.parts)
    (has_sizes (64 * g.row.W) c.args.dep.now graph c.members-members.ensures.closed stands c.requires.rates) (covers_are_pairs graph.pairs)
    (returns-else-not-are_parts-clause-certificate g c flows known graph stands)))

pub returns-else-not-are_parts-clause-minimal : goal.returns-else-not-are_parts-clause-minimal
returns-else-not-are_parts-clause-minimal g c = λ flows known graph stands.
    minimal (64 * g.row.W) c.args.dep.now graph c.members-members.ensures.closed stands
    (all_filled c.args.guess.now.places.items flows c.are_parts.new.froms.items c.are_parts.new.draft.parts) c.requires.component
    (with_flows_parts c.args.dep.now c.args.guess.now.parts.items c.args.guess.now.places.items flows known (64 * g.row.W) (members_of c.args.dep.now)
    c.are_parts.new.froms.items c.are_parts.new.draft.parts
    (subst (λ s. AreHeld (64 * g.row.W) c.args.dep.now c.args.guess.now.parts.items c.args.guess.now.places.items s c.are_parts.new.froms.items c.are_parts.new.draft.parts)
    c.members-members.ensures.members (c.are_parts.ensures.parts c.if-not-are_parts.false)))

pub returns-else-not-are_parts-clause-taken : goal.returns-else-not-are_parts-clause-taken
returns-else-not-are_parts-clause-taken g c =
    all_taken c.args.dep.now c.args.guess.now.parts.items c.args.guess.now.places.items c.are_parts.new.froms.items c.are_parts.new.draft.parts
    (c.are_parts.ensures.parts c.if-not-are_parts.false).held

pub returns-else-not-are_parts-clause-steps_counted : goal.returns-else-not-are_parts-clause-steps_counted
returns-else-not-are_parts-clause-steps_counted g c = c.are_parts.ensures.counted

pub returns-then-not-are_parts-clause-steps_counted : goal.returns-then-not-are_parts-clause-steps_counted
returns-then-not-are_parts-clause-steps_counted g c =
    at_least_both _ _ _ _ _ _ c.args.steps.now c.are_parts.new.steps c.optimal.new.steps (omega arith) c.are_parts.ensures.counted
    (at_least_all _ _ _ _ _ _ c.optimal.ensures.solves)

pub returns-else-not-are_parts-clause-steps_most : goal.returns-else-not-are_parts-clause-steps_most
returns-else-not-are_parts-clause-steps_most g c =
    one_trial (fin.len (members_of c.args.dep.now)) c.args.steps.now c.are_parts.new.steps
    (subst (λ s. c.are_parts.new.steps ≤ c.args.steps.now + most_tried (fin.len s) * fin.len s) c.members-members.ensures.members c.are_parts.ensures.most)

pub returns-then-not-are_parts-clause-steps_most : goal.returns-then-not-are_parts-clause-steps_most
returns-then-not-are_parts-clause-steps_most g c =
    both_trials (fin.len (members_of c.args.dep.now)) c.args.steps.now c.are_parts.new.steps c.optimal.new.steps
    (subst (λ s. c.are_parts.new.steps ≤ c.args.steps.now + most_tried (fin.len s) * fin.len s) c.members-members.ensures.members c.are_parts.ensures.most)
    c.optimal.ensures.steps_most

pub returns-then-not-are_parts-clause-certificate : goal.returns-then-not-are_parts-clause-certificate
returns-then-not-are_parts-clause-certificate g c = λ flows known graph stands.
    subst (λ (fs : List (Option OldPart)). IsCertificate (sum_at c.args.dep.now) graph (IsCover graph.pairs) (all_filled c.args.guess.now.places.items flows fs c.optimal.new.out))
    (sym c.clear-then-not-are_parts.ensures.items) (c.optimal.ensures.certificate graph stands)

pub returns-then-not-are_parts-clause-minimal : goal.returns-then-not-are_parts-clause-minimal
returns-then-not-are_parts-clause-minimal g c = λ flows known graph stands.
    subst (λ (fs : List (Option OldPart)). AreMinimal (sum_at c.args.dep.now) graph.pairs (all_filled c.args.guess.now.places.items flows fs c.optimal.new.out))
    (sym c.clear-then-not-are_parts.ensures.items) (c.optimal.ensures.minimal graph stands)
