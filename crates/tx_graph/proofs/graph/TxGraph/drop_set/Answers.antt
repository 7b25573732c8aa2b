use Rattle.std.proofs.Common.{◌*◌, ◌≡◌, ℕ, List, [], length, true, sym, ◌∙◌, subst, refl, ap}
use Rattle.std.proofs.lemmas.Bool.{eqb-true}
use Rattle.std.proofs.lemmas.List.{nil_from_length}
use Rattle.std.specs.Prelude.{Contains}
use Rattle.graphs.specs.Closures.{is_member}
use Rattle.graphs.specs.declared.names.Level.TheVariants.{Top}
use Rattle.levels.specs.Lefts.{DropsWithin}
use Rattle.levels.specs.Levels.{Levels, level_at}
use Rattle.levels.specs.Stays.{AllStay}
use Rattle.tx_graph.specs.Dropped.{DropsSet, MayGo}
use Rattle.tx_graph.specs.Kept.{Kept, Leads}
use Rattle.tx_graph.proofs.Calls.{kept_of, sound_led, sound_still, when_ok, when_err}
use Rattle.tx_graph.proofs.Lessened.{drops_none, drops_set, some_listed}
use Rattle.tx_graph.proofs.Rooms.{levels_fit}
use Rattle.tx_graph.proofs.Unchanged.{all_stay, within_one, not_larger, issued_topped}
use Rattle.tx_graph.proofs.graph.TxGraph.drop_set.Goals as goal

pub invariant_of-self : goal.invariant_of-self
invariant_of-self g c =
    let levels = c.self.inside.levels in
    let picked = c.self.invariant.picked in
    sound_led (kept_of (64 * g.row.W) c.self.inside.begun levels) (kept_of (64 * g.row.W) true levels) (DropsSet []) c.self.invariant picked
    (drops_none (64 * g.row.W) c.self.inside.begun levels picked)

pub returns-then-is_empty-clause-drops : goal.returns-then-is_empty-clause-drops
returns-then-is_empty-clause-drops g c =
    let levels = c.self.inside.levels in
    let none = nil_from_length c.args.ids.now (eqb-true (length c.args.ids.now) 0 (sym c.is_empty.ensures ∙ c.if-is_empty.true)) in
    subst (λ (k : Kept). Leads k (kept_of (64 * g.row.W) true levels) (DropsSet c.args.ids.now)) c.self.view_is
    (subst (λ (ids : List ℕ). Leads (kept_of (64 * g.row.W) c.self.inside.begun levels) (kept_of (64 * g.row.W) true levels) (DropsSet ids)) (sym none)
    (drops_none (64 * g.row.W) c.self.inside.begun levels c.self.invariant.picked))

pub drop_names-requires : goal.drop_names-requires
drop_names-requires g c = (
  levels_fit g.row.W assumption,
  (
    subst (λ (k : Kept). (id : ℕ) → Contains c.args.ids.now id → is_member (level_at k.levels Top).graph id ≡ true) (sym c.self.view_is) c.requires.live,
    c.requires.once,
  ),
)

pub invariant_of-self-then-is_err : goal.invariant_of-self-then-is_err
invariant_of-self-then-is_err g c =
    sound_still (64 * g.row.W) c.self.inside.begun c.self.inside.levels c.drop_names.new.self
    (when_err c.drop_names.result (sym c.is_err.ensures.value ∙ c.if-is_err.true) c.drop_names.ensures.err) c.self.invariant

pub invariant_of-self-2 : goal.invariant_of-self-2
invariant_of-self-2 g c =
    let old = kept_of (64 * g.row.W) c.self.inside.begun c.self.inside.levels in
    let done = sym c.is_err.ensures.value ∙ c.if-is_err.false in
    let meets = subst (λ (k : Kept). MayGo (level_at k.levels Top).graph c.args.ids.now) (sym c.self.view_is) c.requires in
    let some = some_listed c.args.ids.now c.is_empty.result c.is_empty.ensures c.if-is_empty.false in
    sound_led old (kept_of (64 * g.row.W) true c.drop_names.new.self) (DropsSet c.args.ids.now) c.self.invariant c.drop_names.ensures.kept.0
    (drops_set (64 * g.row.W) c.self.inside.begun c.self.inside.levels c.drop_names.new.self c.args.ids.now some meets
    (when_ok c.drop_names.result done c.drop_names.ensures.dropped) c.drop_names.ensures.kept.0)

pub returns-clause-drops : goal.returns-clause-drops
returns-clause-drops g c =
    let done = sym c.is_err.ensures.value ∙ c.if-is_err.false in
    let meets = subst (λ (k : Kept). MayGo (level_at k.levels Top).graph c.args.ids.now) (sym c.self.view_is) c.requires in
    let some = some_listed c.args.ids.now c.is_empty.result c.is_empty.ensures c.if-is_empty.false in
    subst (λ (k : Kept). Leads k (kept_of (64 * g.row.W) true c.drop_names.new.self) (DropsSet c.args.ids.now)) c.self.view_is
    (drops_set (64 * g.row.W) c.self.inside.begun c.self.inside.levels c.drop_names.new.self c.args.ids.now some meets
    (when_ok c.drop_names.result done c.drop_names.ensures.dropped) c.drop_names.ensures.kept.0)

pub returns-then-is_empty-clause-stays : goal.returns-then-is_empty-clause-stays
returns-then-is_empty-clause-stays g c = subst (λ (k : Kept). AllStay k.levels c.self.inside.levels) c.self.view_is (all_stay c.self.inside.levels)

pub returns-then-is_empty-clause-additions : goal.returns-then-is_empty-clause-additions
returns-then-is_empty-clause-additions g c = ap (λ (k : Kept). k.levels.issued) c.self.view_is

pub returns-then-is_empty-clause-err : goal.returns-then-is_empty-clause-err
returns-then-is_empty-clause-err g c = tt

pub returns-then-is_empty-clause-steps : goal.returns-then-is_empty-clause-steps
returns-then-is_empty-clause-steps g c =
    record { grew = not_larger c.args.steps.now; few = λ lists are. within_one c.args.steps.now _ }

pub returns-then-is_err-clause-drops : goal.returns-then-is_err-clause-drops
returns-then-is_err-clause-drops g c = tt

pub returns-then-is_err-clause-err : goal.returns-then-is_err-clause-err
returns-then-is_err-clause-err g c = (
  refl,
  ap (kept_of (64 * g.row.W) c.self.inside.begun)
      (when_err c.drop_names.result (sym c.is_err.ensures.value ∙ c.if-is_err.true) c.drop_names.ensures.err) ∙ c.self.view_is,
)

pub returns-then-is_err-clause-stays : goal.returns-then-is_err-clause-stays
returns-then-is_err-clause-stays g c = subst (λ (k : Kept). AllStay k.levels c.drop_names.new.self) c.self.view_is c.drop_names.ensures.kept.1

pub returns-then-is_err-clause-additions : goal.returns-then-is_err-clause-additions
returns-then-is_err-clause-additions g c =
    ap (λ (l : Levels). l.issued) (when_err c.drop_names.result (sym c.is_err.ensures.value ∙ c.if-is_err.true) c.drop_names.ensures.err)
    ∙ ap (λ (k : Kept). k.levels.issued) c.self.view_is

pub returns-then-is_err-clause-steps : goal.returns-then-is_err-clause-steps
returns-then-is_err-clause-steps g c =
    subst (λ (k : Kept). DropsWithin k.levels.limits c.args.ids.now (level_at k.levels Top).graph c.args.steps.now c.drop_names.new.steps) c.self.view_is
    c.drop_names.ensures.steps

pub returns-clause-err : goal.returns-clause-err
returns-clause-err g c = tt

pub returns-clause-stays : goal.returns-clause-stays
returns-clause-stays g c = subst (λ (k : Kept). AllStay k.levels c.drop_names.new.self) c.self.view_is c.drop_names.ensures.kept.1

pub returns-clause-additions : goal.returns-clause-additions
returns-clause-additions g c =
    let change = when_ok c.drop_names.result (sym c.is_err.ensures.value ∙ c.if-is_err.false) c.drop_names.ensures.dropped in
    issued_topped c.self.inside.levels c.drop_names.new.self change.0 change.2 ∙ ap (λ (k : Kept). k.levels.issued) c.self.view_is

pub returns-clause-steps : goal.returns-clause-steps
returns-clause-steps g c =
    subst (λ (k : Kept). DropsWithin k.levels.limits c.args.ids.now (level_at k.levels Top).graph c.args.steps.now c.drop_names.new.steps) c.self.view_is
    c.drop_names.ensures.steps
