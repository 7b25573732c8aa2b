use Rattle.std.proofs.Common.{◌≡◌, ◌*◌, ℕ, List, length, sym, ap, ◌∙◌, subst}
use Rattle.std.proofs.lemmas.Result.{IfOk-from_err}
use Rattle.std.specs.FinSet as set
use Rattle.bitset.specs.Places.{places}
use Rattle.graphs.specs.Closures.{Closure, IsPart, members_of}
use Rattle.cluster.specs.Clusters.{Cluster}
use Rattle.cluster.specs.Changes.{TakesNames}
use Rattle.cluster.specs.Named.{named, IsNamed}
use Rattle.cluster.specs.Steps.{GrowsWithin, most_steps}
use Rattle.cluster.proofs.Listings.{contains-members_of}
use Rattle.cluster.proofs.Oks.{both_ok, no_step}
use Rattle.cluster.proofs.Rooms.{cluster_fits, dep_fits, room_fits, words_in_dep}
use Rattle.cluster.proofs.Whole.{IsNamed-whole, TakesNames-named, none_sound}
use Rattle.cluster.proofs.cluster.Cluster.whole.Goals as goal

pub members-requires : goal.members-requires
members-requires g c = (dep_fits g.row.W c.work.invariant.1, words_in_dep g.row.W (dep_fits g.row.W c.work.invariant.1))

pub part-requires : goal.part-requires
part-requires g c = (
  dep_fits g.row.W c.work.invariant.1,
  (
    words_in_dep g.row.W (dep_fits g.row.W c.work.invariant.1),
    λ p here. sym (contains-members_of c.args.dep.now p) ∙ sym (ap (λ s. set.contains s p) c.members.ensures.members) ∙ here,
  ),
)

pub returns-in_err-dep : goal.returns-in_err-dep
returns-in_err-dep g c =
    let failed = c.from_residual.ensures.0 in
    record {
      graph = IfOk-from_err c.from_residual.result _ failed;
      whole = IfOk-from_err c.from_residual.result _ failed;
      steps = no_step _ _;
    }

pub returns-in_err-names : goal.returns-in_err-names
returns-in_err-names g c =
    let failed = c.from_residual-in_err-names.ensures.0 in
    record {
      graph = IfOk-from_err c.from_residual-in_err-names.result _ failed;
      whole = IfOk-from_err c.from_residual-in_err-names.result _ failed;
      steps = no_step _ _;
    }

pub certified-requires : goal.certified-requires
certified-requires g c =
    let n : ℕ = 64 * g.row.W in
    let part : IsPart c.args.dep.now (places n (members_of c.args.dep.now)) c.in_ok-dep.dep =
    subst (λ s. IsPart c.args.dep.now (places n s) c.in_ok-dep.dep) c.members.ensures.members c.in_ok-dep.ensures.part in (
      dep_fits g.row.W c.work.invariant.1,
      (
        room_fits g.row.W c.work.invariant.1,
        (
          cluster_fits g.row.W c.work.invariant.1,
          (
            subst (λ (xs : List ℕ). IsNamed n xs c.in_ok-dep.dep) (sym c.in_ok-names.ensures.ok)
                (IsNamed-whole n c.args.names.now c.args.dep.now c.in_ok-dep.dep c.requires.names c.requires.component c.requires.rates
                c.members.ensures.closed part c.in_ok-dep.ensures.closed),
            none_sound c.in_ok-names.names.items c.in_ok-dep.dep c.clear.new.self.parts.items c.clear.new.self.places.items
                c.clear.new.self.flows.items c.clear.ensures,
          ),
        ),
      ),
    )

pub returns-clause-graph : goal.returns-clause-graph
returns-clause-graph g c =
    let n : ℕ = 64 * g.row.W in
    let part : IsPart c.args.dep.now (places n (members_of c.args.dep.now)) c.in_ok-dep.dep =
    subst (λ s. IsPart c.args.dep.now (places n s) c.in_ok-dep.dep) c.members.ensures.members c.in_ok-dep.ensures.part in
    let items : c.in_ok-names.names.items ≡ c.args.names.now = c.in_ok-names.ensures.ok in
    both_ok c.certified.result (λ k. k.names ≡ c.in_ok-names.names.items) (λ k. k.graph ≡ named c.in_ok-names.names.items c.in_ok-dep.dep)
    (TakesNames n c.args.dep.now c.args.names.now)
    (λ k names graph. whole_is n k c.args.names.now c.args.dep.now c.in_ok-dep.dep (names ∙ items)
    (graph ∙ ap (λ (xs : List ℕ). named xs c.in_ok-dep.dep) items)
    (TakesNames-named n c.args.names.now c.args.dep.now c.in_ok-dep.dep c.requires.names c.requires.component c.requires.rates
    c.members.ensures.closed part c.in_ok-dep.ensures.closed k.parts)) c.certified.ensures.names c.certified.ensures.graph
  where
    whole_is : (n : ℕ) (k : Cluster) (names : List ℕ) (dep h : Closure) → k.names ≡ names → k.graph ≡ named names h
        → TakesNames n dep names (record { names = names; graph = named names h; parts = k.parts }) → TakesNames n dep names k
    whole_is n k names dep h same graph made =
        subst (TakesNames n dep names) (λ t. record { names = sym same t; graph = sym graph t; parts = k.parts }) made

pub returns-clause-steps : goal.returns-clause-steps
returns-clause-steps g c =
    subst (λ (xs : List ℕ). GrowsWithin (most_steps (length xs)) c.args.steps.now c.certified.new.steps) c.in_ok-names.ensures.ok c.certified.ensures.steps
