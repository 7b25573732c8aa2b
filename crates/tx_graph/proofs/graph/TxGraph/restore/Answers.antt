-- Transactions come back into main.
use Rattle.std.proofs.Common.{◌+◌, ◌*◌, ◌≤◌, true, length, Option, None, Some, inl, inr, refl, sym, ap, ◌∙◌, subst}
use Rattle.std.specs.Prelude.{MatchResult}
use Rattle.graph_model.specs.declared.names.Refusal.{Refusal}
use Rattle.graph_model.specs.declared.names.Refusal.TheVariants.{Back, Full, Staging}
use Rattle.levels.specs.Levels.{Levels}
use Rattle.levels.specs.Restores.{RestoresWithin}
use Rattle.levels.specs.Stays.{AllStay}
use Rattle.tx_graph.specs.Kept.{Kept, Leads}
use Rattle.tx_graph.specs.Restored.{IsAnsweredBy, MayRestore, RestoreRefusalIs, RestoresSet}
use Rattle.tx_graph.proofs.Asked.{handed, is_room, memory_or_not, rows_from}
use Rattle.tx_graph.proofs.Backs.{back_row, full_row, lacking_row, leads, may_come, none_row, over_row, staged_row}
use Rattle.tx_graph.proofs.Calls.{kept_of, sound_led, sound_still}
use Rattle.tx_graph.proofs.Counting.{counted, live_listed}
use Rattle.tx_graph.proofs.Rooms.{levels_fit}
use Rattle.tx_graph.proofs.Unchanged.{all_stay, not_larger, within_one}
use Rattle.tx_graph.proofs.graph.TxGraph.restore.Goals as goal

pub is_staged-requires : goal.is_staged-requires
is_staged-requires g c = levels_fit g.row.W assumption

pub returns-then-is_staged-clause-row : goal.returns-then-is_staged-clause-row
returns-then-is_staged-clause-row g c =
    let old = kept_of (64 * g.row.W) c.self.inside.begun c.self.inside.levels in
    let txs = c.args.names.now in
    let pairs = c.args.pairs.now in
    rows_from (λ state. (found : Option Refusal) × RestoreRefusalIs state.plain txs pairs found × IsAnsweredBy found Staging) old c.args.self.now
    c.self.view_is
    (λ state stands. (Some Staging, staged_row old txs pairs state.plain stands.plain (sym c.is_staged.ensures ∙ c.if-is_staged.true), inl refl))

pub returns-then-is_staged-clause-stays : goal.returns-then-is_staged-clause-stays
returns-then-is_staged-clause-stays g c = all_stay c.args.self.now.levels

pub returns-then-is_staged-clause-steps : goal.returns-then-is_staged-clause-steps
returns-then-is_staged-clause-steps g c =
    record { grew = not_larger c.args.steps.now; few = λ next size lists of are. within_one c.args.steps.now _ }

pub returns-in-Some-clause-row : goal.returns-in-Some-clause-row
returns-in-Some-clause-row g c =
    let old = kept_of (64 * g.row.W) c.self.inside.begun c.self.inside.levels in
    let txs = c.args.names.now in
    let pairs = c.args.pairs.now in
    rows_from (λ state. (found : Option Refusal) × RestoreRefusalIs state.plain txs pairs found × IsAnsweredBy found (Back c.in-Some.id)) old
    c.args.self.now c.self.view_is
    (λ state stands. (
      Some (Back c.in-Some.id),
      back_row old txs pairs state.plain stands.plain (sym c.is_staged.ensures ∙ c.if-is_staged.false) c.in-Some.id c.in-Some.ensures.first,
      inl refl,
    ))

pub returns-in-Some-clause-stays : goal.returns-in-Some-clause-stays
returns-in-Some-clause-stays g c = all_stay c.args.self.now.levels

pub returns-in-Some-clause-steps : goal.returns-in-Some-clause-steps
returns-in-Some-clause-steps g c =
    record { grew = not_larger c.args.steps.now; few = λ next size lists of are. within_one c.args.steps.now _ }

pub returns-then-is_past-clause-row : goal.returns-then-is_past-clause-row
returns-then-is_past-clause-row g c =
    let old = kept_of (64 * g.row.W) c.self.inside.begun c.self.inside.levels in
    let txs = c.args.names.now in
    let pairs = c.args.pairs.now in
    let live = live_listed old.levels in
    let counts = counted old.levels live.0 live.1 in
    let past = (c.is_past.ensures (length live.0) counts).0 c.if-is_past.true in
    rows_from (λ state. (found : Option Refusal) × RestoreRefusalIs state.plain txs pairs found × IsAnsweredBy found Full) old c.args.self.now
    c.self.view_is
    (λ state stands. (
      Some Full,
      full_row old txs pairs state.plain stands.plain (sym c.is_staged.ensures ∙ c.if-is_staged.false) c.in_default.ensures.first (length live.0) counts
          past,
      inl refl,
    ))

pub returns-then-is_past-clause-stays : goal.returns-then-is_past-clause-stays
returns-then-is_past-clause-stays g c = all_stay c.args.self.now.levels

pub returns-then-is_past-clause-steps : goal.returns-then-is_past-clause-steps
returns-then-is_past-clause-steps g c =
    record { grew = not_larger c.args.steps.now; few = λ next size lists of are. within_one c.args.steps.now _ }

pub restore-requires : goal.restore-requires
restore-requires g c =
    let old = kept_of (64 * g.row.W) c.self.inside.begun c.self.inside.levels in
    let live = live_listed old.levels in (
      levels_fit g.row.W assumption,
      may_come old c.args.names.now c.args.pairs.now c.self.invariant
          (subst (λ (k : Kept). MayRestore k c.args.names.now c.args.pairs.now) (sym c.self.view_is) c.requires)
          (sym c.is_staged.ensures ∙ c.if-is_staged.false) c.in_default.ensures.first live.0 live.1
          (is_room (length live.0 + length c.args.names.now) old.levels.limits.total _
          (c.is_past.ensures (length live.0) (counted old.levels live.0 live.1)) c.if-is_past.false),
    )

pub invariant_of-self : goal.invariant_of-self
invariant_of-self g c =
    sound_still (64 * g.row.W) c.self.inside.begun c.self.inside.levels c.restore.new.self c.in_err-restore.ensures.refused.0 c.self.invariant

pub returns-in_err-restore-clause-row : goal.returns-in_err-restore-clause-row
returns-in_err-restore-clause-row g c =
    let old = kept_of (64 * g.row.W) c.self.inside.begun c.self.inside.levels in
    let txs = c.args.names.now in
    let pairs = c.args.pairs.now in
    let why = c.in_err-restore.field-0.0 in
    let live = live_listed old.levels in
    let counts = counted old.levels live.0 live.1 in
    let may = subst (λ (k : Kept). MayRestore k txs pairs) (sym c.self.view_is) c.requires in
    let alone = sym c.is_staged.ensures ∙ c.if-is_staged.false in
    let room : length live.0 + length txs ≤ old.levels.limits.total =
    is_room (length live.0 + length txs) old.levels.limits.total _ (c.is_past.ensures (length live.0) counts) c.if-is_past.false in
    let small = c.in_default.ensures.small refl in
    rows_from (λ state. MatchResult c.from_residual.result (λ _. RestoreRefusalIs state.plain txs pairs None)
    (λ e. (found : Option Refusal) × RestoreRefusalIs state.plain txs pairs found × IsAnsweredBy found e)) old c.args.self.now c.self.view_is
    (λ state stands.
    handed (λ _. RestoreRefusalIs state.plain txs pairs None)
    (λ e. (found : Option Refusal) × RestoreRefusalIs state.plain txs pairs found × IsAnsweredBy found e) c.from_residual.result why
    c.from_residual.ensures.1 (elim (memory_or_not why) [
      | inl memory ↦
          let row = lacking_row old txs pairs may small alone c.in_default.ensures.first (length live.0) counts room state.plain stands.plain in
          (row.0, row.1, inr (memory, row.2))
      | inr other ↦ (
        Some why,
        over_row old txs pairs may small alone c.in_default.ensures.first (length live.0) counts room state.plain stands.plain why
            (c.in_err-restore.ensures.row other),
        inl refl,
      )
    ]))

pub returns-in_err-restore-clause-stays : goal.returns-in_err-restore-clause-stays
returns-in_err-restore-clause-stays g c = subst (λ (k : Kept). AllStay k.levels c.restore.new.self) c.self.view_is c.restore.ensures.kept.1

pub returns-in_err-restore-clause-steps : goal.returns-in_err-restore-clause-steps
returns-in_err-restore-clause-steps g c =
    subst (λ (k : Kept). RestoresWithin k.levels.limits k.levels.main.graph c.args.names.now c.args.pairs.now c.args.steps.now c.restore.new.steps)
    c.self.view_is c.restore.ensures.steps

pub invariant_of-self-2 : goal.invariant_of-self-2
invariant_of-self-2 g c =
    let old = kept_of (64 * g.row.W) c.self.inside.begun c.self.inside.levels in
    let txs = c.args.names.now in
    let pairs = c.args.pairs.now in
    let live = live_listed old.levels in
    let counts = counted old.levels live.0 live.1 in
    let may = subst (λ (k : Kept). MayRestore k txs pairs) (sym c.self.view_is) c.requires in
    let alone = sym c.is_staged.ensures ∙ c.if-is_staged.false in
    let room : length live.0 + length txs ≤ old.levels.limits.total =
    is_room (length live.0 + length txs) old.levels.limits.total _ (c.is_past.ensures (length live.0) counts) c.if-is_past.false in
    let small = c.in_default.ensures.small refl in
    let done = c.in_ok-restore.ensures in
    sound_led old (kept_of (64 * g.row.W) true c.restore.new.self) (RestoresSet txs pairs) c.self.invariant c.restore.ensures.kept.0
    (leads old txs pairs may small alone c.in_default.ensures.first (length live.0) counts room (kept_of (64 * g.row.W) true c.restore.new.self)
    (ap (λ (l : Levels). l.limits) done.restored.1) refl refl (ap (λ (l : Levels). l.staging) done.restored.1) done.restored.0 done.row
    c.restore.ensures.kept.0)

pub returns-clause-restores : goal.returns-clause-restores
returns-clause-restores g c =
    let old = kept_of (64 * g.row.W) c.self.inside.begun c.self.inside.levels in
    let txs = c.args.names.now in
    let pairs = c.args.pairs.now in
    let live = live_listed old.levels in
    let counts = counted old.levels live.0 live.1 in
    let may = subst (λ (k : Kept). MayRestore k txs pairs) (sym c.self.view_is) c.requires in
    let alone = sym c.is_staged.ensures ∙ c.if-is_staged.false in
    let room : length live.0 + length txs ≤ old.levels.limits.total =
    is_room (length live.0 + length txs) old.levels.limits.total _ (c.is_past.ensures (length live.0) counts) c.if-is_past.false in
    let small = c.in_default.ensures.small refl in
    let done = c.in_ok-restore.ensures in (
      subst (λ (k : Kept). Leads k (kept_of (64 * g.row.W) true c.restore.new.self) (RestoresSet txs pairs)) c.self.view_is
          (leads old txs pairs may small alone c.in_default.ensures.first (length live.0) counts room (kept_of (64 * g.row.W) true c.restore.new.self)
          (ap (λ (l : Levels). l.limits) done.restored.1) refl refl (ap (λ (l : Levels). l.staging) done.restored.1) done.restored.0 done.row
          c.restore.ensures.kept.0),
      ap (λ (l : Levels). l.issued) done.restored.1 ∙ ap (λ (k : Kept). k.levels.issued + length txs) c.self.view_is,
    )

pub returns-clause-row : goal.returns-clause-row
returns-clause-row g c =
    let old = kept_of (64 * g.row.W) c.self.inside.begun c.self.inside.levels in
    let txs = c.args.names.now in
    let pairs = c.args.pairs.now in
    let live = live_listed old.levels in
    let counts = counted old.levels live.0 live.1 in
    let may = subst (λ (k : Kept). MayRestore k txs pairs) (sym c.self.view_is) c.requires in
    let alone = sym c.is_staged.ensures ∙ c.if-is_staged.false in
    let room : length live.0 + length txs ≤ old.levels.limits.total =
    is_room (length live.0 + length txs) old.levels.limits.total _ (c.is_past.ensures (length live.0) counts) c.if-is_past.false in
    let small = c.in_default.ensures.small refl in
    rows_from (λ state. RestoreRefusalIs state.plain txs pairs None) old c.args.self.now c.self.view_is
    (λ state stands. none_row old txs pairs may small alone c.in_default.ensures.first (length live.0) counts room state.plain stands.plain
    c.in_ok-restore.ensures.row)

pub returns-clause-stays : goal.returns-clause-stays
returns-clause-stays g c = subst (λ (k : Kept). AllStay k.levels c.restore.new.self) c.self.view_is c.restore.ensures.kept.1

pub returns-clause-steps : goal.returns-clause-steps
returns-clause-steps g c =
    subst (λ (k : Kept). RestoresWithin k.levels.limits k.levels.main.graph c.args.names.now c.args.pairs.now c.args.steps.now c.restore.new.steps)
    c.self.view_is c.restore.ensures.steps
