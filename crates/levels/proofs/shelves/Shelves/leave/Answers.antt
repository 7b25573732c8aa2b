use Rattle.std.proofs.Common.{◌≡◌, ℕ, [], List, refl, sym, subst, arith}
use Rattle.std.proofs.lemmas.List.{nil_from_length}
use Rattle.levels.specs.Lefts.{AreListed}
use Rattle.levels.specs.Shelves.{view_of}
use Rattle.levels.specs.Views.{graph_of}
use Rattle.graphs.specs.declared.names.Level.TheVariants.{Top}
use Rattle.levels.proofs.Partway.{IsPartway, all_left, all_steps, begun, no_steps}
use Rattle.levels.proofs.Running.{next_run, next_partway, next_steps}
use Rattle.levels.proofs.Rooms.{left_fits, work_fits}
use Rattle.levels.proofs.shelves.Shelves.leave.Goals as goal

pub loop-coming-init : goal.loop-coming-init
loop-coming-init g c =
    begun g.row.W c.args.self.now c.as_slice-coming.result.now c.as_slice-coming.result.now _ _ c.args.steps.now refl c.new.ensures.items c.new-2.ensures.items

pub leave_run-requires : goal.leave_run-requires
leave_run-requires g c =
    let was = c.loop-coming.left in
    let are = subst (λ (es : List (ℕ × ℕ)). AreListed c.args.self.now c.args.ids.now es) (sym c.as_slice-coming.ensures.value) c.in_ok-listed.ensures in
    let run = next_run g.row.W c.args.self.now c.requires.order c.args.ids.now c.as_slice-coming.result.now are was.outs.items
    was.rest.items was.last c.loop-coming.coming.now c.args.steps.now c.loop-coming.steps c.loop-coming.invariant c.run_length.result
    c.run_length.ensures.low c.run_length.ensures.some c.run_length.ensures.same c.run_length.ensures.other _ refl
    c.split_at.result.0.now c.split_at.result.1.now c.split_at.ensures.front c.split_at.ensures.back in
    (omega arith, (left_fits g.row.W c.requires.order.narrow, (work_fits g.row.W c.requires.order.narrow, (c.requires.order, (c.requires.few, run)))))

pub loop-coming-preserved : goal.loop-coming-preserved
loop-coming-preserved g c =
    let was = c.loop-coming.left in
    let are = subst (λ (es : List (ℕ × ℕ)). AreListed c.args.self.now c.args.ids.now es) (sym c.as_slice-coming.ensures.value) c.in_ok-listed.ensures in
    next_partway g.row.W c.args.self.now c.requires.order c.args.ids.now c.as_slice-coming.result.now are was.outs.items
    was.rest.items was.last c.loop-coming.coming.now c.args.steps.now c.loop-coming.steps c.loop-coming.invariant c.run_length.result
    c.run_length.ensures.low c.run_length.ensures.some c.run_length.ensures.same c.run_length.ensures.other _ refl
    c.split_at.result.0.now c.split_at.result.1.now c.split_at.ensures.front c.split_at.ensures.back c.leave_run.new.steps c.leave_run.ensures.grew
    c.leave_run.ensures.steps _ _ _ c.in_ok-leave_run.ensures.left

pub returns-in_err-leave_run-clause-steps : goal.returns-in_err-leave_run-clause-steps
returns-in_err-leave_run-clause-steps g c =
    let was = c.loop-coming.left in
    let are = subst (λ (es : List (ℕ × ℕ)). AreListed c.args.self.now c.args.ids.now es) (sym c.as_slice-coming.ensures.value) c.in_ok-listed.ensures in
    next_steps g.row.W c.args.self.now c.requires.order c.args.ids.now c.as_slice-coming.result.now are was.outs.items
    was.rest.items was.last c.loop-coming.coming.now c.args.steps.now c.loop-coming.steps c.loop-coming.invariant c.run_length.result
    c.run_length.ensures.low c.run_length.ensures.some c.run_length.ensures.same c.run_length.ensures.other _ refl
    c.split_at.result.0.now c.split_at.result.1.now c.split_at.ensures.front c.split_at.ensures.back c.leave_run.new.steps c.leave_run.ensures.grew
    c.leave_run.ensures.steps

pub returns-in_err-listed-clause-steps : goal.returns-in_err-listed-clause-steps
returns-in_err-listed-clause-steps g c = no_steps c.args.self.now.limits c.args.ids.now (graph_of (view_of Top c.args.self.now)) c.args.steps.now

pub returns-clause-left : goal.returns-clause-left
returns-clause-left g c =
    let was = c.loop-coming.left in
    let are = subst (λ (es : List (ℕ × ℕ)). AreListed c.args.self.now c.args.ids.now es) (sym c.as_slice-coming.ensures.value) c.in_ok-listed.ensures in
    let none : c.loop-coming.coming.now ≡ [] = nil_from_length c.loop-coming.coming.now (grind arith) in
    all_left g.row.W c.args.self.now c.requires.order c.args.ids.now c.as_slice-coming.result.now are was.outs.items was.rest.items
    was.last c.args.steps.now c.loop-coming.steps (subst (λ es. IsPartway g.row.W c.args.self.now c.as_slice-coming.result.now es was.outs.items
    was.rest.items was.last c.args.steps.now c.loop-coming.steps) none c.loop-coming.invariant)

pub returns-clause-steps : goal.returns-clause-steps
returns-clause-steps g c =
    let was = c.loop-coming.left in
    let are = subst (λ (es : List (ℕ × ℕ)). AreListed c.args.self.now c.args.ids.now es) (sym c.as_slice-coming.ensures.value) c.in_ok-listed.ensures in
    let none : c.loop-coming.coming.now ≡ [] = nil_from_length c.loop-coming.coming.now (grind arith) in
    all_steps g.row.W c.args.self.now c.requires.order c.args.ids.now c.as_slice-coming.result.now are was.outs.items was.rest.items
    was.last c.args.steps.now c.loop-coming.steps (subst (λ es. IsPartway g.row.W c.args.self.now c.as_slice-coming.result.now es was.outs.items
    was.rest.items was.last c.args.steps.now c.loop-coming.steps) none c.loop-coming.invariant)
