use Rattle.std.proofs.Common.{rules, ◌≡◌, ◌*◌, ◌∙◌, ℕ, ap, sym, subst, arith, lit<, true, List, map, ◌++◌}
use Rattle.std.specs.FinSet as fin
use Rattle.graphs.proofs.BestLemmas.{certified_optimal, covers_are_pairs}
use Rattle.graphs.proofs.Members.{contains-members_of}
use Rattle.graphs.specs.Closures.{is_member, members_of, IsClosed}
use Rattle.bitset.specs.Places.{IsWithin}
use Rattle.graphs.specs.Graphs as model
use Rattle.graphs.specs.Certificates.{Part, IsCertificate}
use Rattle.graphs.specs.Linearizations.{IsOptimal}
use Rattle.linearize.specs.Drafts.{Written}
use Rattle.linearize.specs.Graphs.{sum_at}
use Rattle.graphs.specs.Minimal.{AreMinimal}
use Rattle.linearize.specs.Splits.{Adds}
use Rattle.linearize.specs.Steps.{AreOfSolves}
use Rattle.linearize.proofs.Final.{as_parts, certificate, has_sizes, minimal}
use Rattle.linearize.proofs.Joined.{start_room}
use Rattle.graphs.proofs.ClosureGraphs.{closures_have_graphs}
use Rattle.linearize.proofs.Sizes.{words_fit, scratch_fits}
use Rattle.linearize.proofs.Solves.{least_of, most_of}
use Rattle.linearize.proofs.linear.optimal.Goals as goal

pub link-requires : goal.link-requires
link-requires g c =
    let dep = c.args.dep.now in
    let is : c.members-members.result ≡ members_of dep = c.members-members.ensures.members in (
      search rules,
      (
        words_fit g.row.W c.out.invariant.4,
        (
          c.out.invariant.4,
          (
            λ p m. sym (contains-members_of dep p) ∙ subst (λ s. fin.contains s p ≡ true) is m,
            (let room = c.out.invariant.2 in omega (arith, room, c.as_mut_slice-parents.ensures.len)),
          ),
        ),
      ),
    )

pub split-requires : goal.split-requires
split-requires g c =
    let n : ℕ = 64 * g.row.W in
    let narrow = c.out.invariant.4 in
    let dep = c.args.dep.now in
    let closed : IsClosed n dep = c.members-members.ensures.closed in
    let is : c.members-members.result ≡ members_of dep = c.members-members.ensures.members in
    let member : (p : ℕ) → fin.contains c.members-members.result p ≡ true → is_member dep p ≡ true = λ p m. sym (contains-members_of dep p)
    ∙ subst (λ s. fin.contains s p ≡ true) is m in
    let len : fin.len c.members-members.result ≡ fin.len (members_of dep) = ap (λ s. fin.len s) is in
    let within : IsWithin n c.members-members.result = λ p m. closed.within p (member p m) in (
      scratch_fits g.row.W narrow,
      (
        search rules,
        (
          words_fit g.row.W narrow,
          (
            lit< tt,
            (
              narrow,
              (
                record {
                  closed = closed;
                  members = member;
                  some = (let some = c.requires.some in omega (arith, len, some));
                  few = (let few = c.requires.few in omega (arith, len, few));
                  rates = c.requires.rates;
                  covers = c.link.ensures;
                  room = start_room n c.members-members.result c.clear.new.self within c.clear.ensures;
                },
                (let room = c.out.invariant.3 in omega (arith, room, c.as_mut_slice-weights.ensures.len)),
              ),
            ),
          ),
        ),
      ),
    )

pub returns-clause-stands : goal.returns-clause-stands
returns-clause-stands g c = let made = closures_have_graphs (64 * g.row.W) c.args.dep.now c.members-members.ensures.closed in (made.0, made.2)

pub returns-clause-certificate : goal.returns-clause-certificate
returns-clause-certificate g c = λ graph stands.
    (let n : ℕ = 64 * g.row.W in
    let dep = c.args.dep.now in
    let adds : Adds n dep (members_of dep) c.clear.new.self c.split.new.draft =
    subst (λ s. Adds n dep s c.clear.new.self c.split.new.draft) c.members-members.ensures.members c.split.ensures.adds in
    let parts : c.split.new.draft.parts ≡ adds.parts = ap (λ (w : Written). w.parts) adds.is ∙ ap (λ (w : Written). w.parts ++ adds.parts) c.clear.ensures in
    subst (λ (ps : List Part). IsCertificate (sum_at dep) graph (model.IsCover graph.pairs) ps) (sym parts)
    (certificate n dep graph c.members-members.ensures.closed stands adds.parts c.requires.component (as_parts n dep (members_of dep) adds.parts adds.linear)))

pub returns-clause-optimal : goal.returns-clause-optimal
returns-clause-optimal g c = λ graph stands.
    (let n : ℕ = 64 * g.row.W in
    let dep = c.args.dep.now in
    let adds : Adds n dep (members_of dep) c.clear.new.self c.split.new.draft =
    subst (λ s. Adds n dep s c.clear.new.self c.split.new.draft) c.members-members.ensures.members c.split.ensures.adds in
    let parts : c.split.new.draft.parts ≡ adds.parts = ap (λ (w : Written). w.parts) adds.is ∙ ap (λ (w : Written). w.parts ++ adds.parts) c.clear.ensures in
    subst (λ (ps : List Part). IsOptimal (sum_at dep) graph (map (λ part. part.ids) ps)) (sym parts)
    (certified_optimal (sum_at dep) graph (model.IsCover graph.pairs) adds.parts
    (has_sizes n dep graph c.members-members.ensures.closed stands c.requires.rates) (covers_are_pairs graph.pairs)
    (certificate n dep graph c.members-members.ensures.closed stands adds.parts c.requires.component (as_parts n dep (members_of dep) adds.parts adds.linear))))

pub returns-clause-minimal : goal.returns-clause-minimal
returns-clause-minimal g c = λ graph stands.
    (let n : ℕ = 64 * g.row.W in
    let dep = c.args.dep.now in
    let adds : Adds n dep (members_of dep) c.clear.new.self c.split.new.draft =
    subst (λ s. Adds n dep s c.clear.new.self c.split.new.draft) c.members-members.ensures.members c.split.ensures.adds in
    let parts : c.split.new.draft.parts ≡ adds.parts = ap (λ (w : Written). w.parts) adds.is ∙ ap (λ (w : Written). w.parts ++ adds.parts) c.clear.ensures in
    subst (λ (ps : List Part). AreMinimal (sum_at dep) graph.pairs ps) (sym parts)
    (minimal n dep graph c.members-members.ensures.closed stands adds.parts c.requires.component (as_parts n dep (members_of dep) adds.parts adds.linear)))

pub returns-clause-solves : goal.returns-clause-solves
returns-clause-solves g c =
    let own = c.split.ensures.solves in
    let n : ℕ = fin.len (members_of c.args.dep.now) in
    let parts : c.split.new.draft.parts ≡ own.0 = own.1 ∙ ap (λ (w : Written). w.parts ++ own.0) c.clear.ensures in
    subst (λ (ps : List Part). AreOfSolves n ps c.args.scratch.now c.split.new.scratch c.args.steps.now c.split.new.steps) (sym parts)
    (subst (λ s. AreOfSolves (fin.len s) own.0 c.args.scratch.now c.split.new.scratch c.args.steps.now c.split.new.steps)
    c.members-members.ensures.members own.2)

pub returns-clause-steps_least : goal.returns-clause-steps_least
returns-clause-steps_least g c = least_of _ _ _ _ _ _ (returns-clause-solves g c)

pub returns-clause-steps_most : goal.returns-clause-steps_most
returns-clause-steps_most g c = most_of _ _ _ _ _ _ (returns-clause-solves g c)
