use Rattle.std.proofs.Common.{◌≡◌, ℕ, ℤ, ◌*◌, ◌≤◌, ◌<◌, List, [], ◌∷◌, ◌++◌, length, refl, sym, ap, ◌∙◌, subst, arith, to_z-of_z, Contains}
use Rattle.std.proofs.lemmas.Result.{IfOk-from_err}
use Rattle.std.specs.FinSet as set
use Rattle.graphs.specs.Closures.{Closure, members_of, AddsPlace}
use Rattle.lists.proofs.Entries.{none_in_empty}
use Rattle.linearize.specs.declared.old.OldPart.{OldPart}
use Rattle.cluster.specs.Clusters.{Cluster}
use Rattle.cluster.specs.Changes.{IsSingle}
use Rattle.cluster.specs.Named.{named, IsNamed}
use Rattle.cluster.proofs.Oks.{both_ok}
use Rattle.cluster.proofs.Single.{IsNamed-single, IsSingle-named, len-none}
use Rattle.cluster.proofs.Rooms.{dep_fits}
use Rattle.cluster.proofs.cluster.Cluster.single.Goals as goal

room_for_one : {n w : ℕ} → n ≡ 0 → 1 ≤ w → n < 64 * w
room_for_one none some = omega arith

pub add-requires : goal.add-requires
add-requires g c =
    let none : set.len (members_of c.new-dep.result) ≡ 0 = ap (λ g. set.len (members_of g)) c.new-dep.ensures ∙ len-none in
    (grind arith, room_for_one none c.work.invariant.0)

pub returns-in_err-_place-clause-single : goal.returns-in_err-_place-clause-single
returns-in_err-_place-clause-single g c = IfOk-from_err c.from_residual.result _ c.from_residual.ensures.0

pub returns-in_err-_place-clause-whole : goal.returns-in_err-_place-clause-whole
returns-in_err-_place-clause-whole g c = IfOk-from_err c.from_residual.result _ c.from_residual.ensures.0

pub returns-in_err-_place-clause-steps : goal.returns-in_err-_place-clause-steps
returns-in_err-_place-clause-steps g c = refl

pub returns-in_err-push-clause-single : goal.returns-in_err-push-clause-single
returns-in_err-push-clause-single g c = IfOk-from_err c.from_residual-in_err-push.result _ c.from_residual-in_err-push.ensures.0

pub returns-in_err-push-clause-whole : goal.returns-in_err-push-clause-whole
returns-in_err-push-clause-whole g c = IfOk-from_err c.from_residual-in_err-push.result _ c.from_residual-in_err-push.ensures.0

pub returns-in_err-push-clause-steps : goal.returns-in_err-push-clause-steps
returns-in_err-push-clause-steps g c = refl

pub certified-requires : goal.certified-requires
certified-requires g c =
    let items : c.push.new.self.items ≡ c.args.id ∷ [] = c.in_ok-push.ensures.ok ∙ ap (λ (xs : List ℕ). xs ++ c.args.id ∷ []) c.new-names.ensures.items in (
      grind arith,
      (
        grind arith,
        (
          search,
          (
            subst (λ (xs : List ℕ). IsNamed (64 * g.row.W) xs c.add.new.self) (sym items)
                (IsNamed-single (64 * g.row.W) c.new-dep.result c.add.new.self c.args.id
                (record { fee = c.args.fee; size = c.args.size }) c.in_ok-_place._place c.new-dep.ensures
                (subst (λ (z : ℤ). AddsPlace c.new-dep.result c.add.new.self (record { fee = z; size = c.args.size }) c.in_ok-_place._place)
                (to_z-of_z c.ranges.fee) c.in_ok-_place.ensures.ok) (room_for_one refl c.work.invariant.0) c.requires c.add.ensures.closed),
            λ old here said. absurd (none_in_empty old (subst (λ (ps : List OldPart). Contains ps old) c.clear.ensures here)),
          ),
        ),
      ),
    )

pub returns-clause-single : goal.returns-clause-single
returns-clause-single g c =
    let items : c.push.new.self.items ≡ c.args.id ∷ [] = c.in_ok-push.ensures.ok ∙ ap (λ (xs : List ℕ). xs ++ c.args.id ∷ []) c.new-names.ensures.items in
    let adds : AddsPlace c.new-dep.result c.add.new.self (record { fee = c.args.fee; size = c.args.size }) c.in_ok-_place._place =
    subst (λ (z : ℤ). AddsPlace c.new-dep.result c.add.new.self (record { fee = z; size = c.args.size }) c.in_ok-_place._place)
    (to_z-of_z c.ranges.fee) c.in_ok-_place.ensures.ok in
    both_ok c.certified.result (λ k. k.names ≡ c.push.new.self.items) (λ k. k.graph ≡ named c.push.new.self.items c.add.new.self)
    (IsSingle c.args.id (record { fee = c.args.fee; size = c.args.size }))
    (λ k names graph. single_is k c.args.id c.add.new.self (names ∙ items) (graph ∙ ap (λ (xs : List ℕ). named xs c.add.new.self) items)
    (IsSingle-named (64 * g.row.W) c.new-dep.result c.add.new.self c.args.id (record { fee = c.args.fee; size = c.args.size })
    c.in_ok-_place._place c.new-dep.ensures adds k.parts)) c.certified.ensures.names c.certified.ensures.graph
  where
    single_is : (k : Cluster) (id : ℕ) (dep : Closure) → k.names ≡ id ∷ [] → k.graph ≡ named (id ∷ []) dep → {rate : _}
        → IsSingle id rate (record { names = id ∷ []; graph = named (id ∷ []) dep; parts = k.parts }) → IsSingle id rate k
    single_is k id dep names graph {rate} single = subst (IsSingle id rate) (λ t. record { names = sym names t; graph = sym graph t; parts = k.parts }) single

pub returns-clause-steps : goal.returns-clause-steps
returns-clause-steps g c =
    c.certified.ensures.alone (ap length (c.in_ok-push.ensures.ok ∙ ap (λ (xs : List ℕ). xs ++ c.args.id ∷ []) c.new-names.ensures.items))

pub new-dep-requires : goal.new-dep-requires
new-dep-requires g c = dep_fits g.row.W c.work.invariant.1
