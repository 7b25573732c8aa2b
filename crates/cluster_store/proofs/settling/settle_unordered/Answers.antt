-- One number more is settled.
use Rattle.std.proofs.Common.{ℕ, List, get_or, take, sym, ap, ◌∙◌, subst, add-one}
use Rattle.std.proofs.Math.Seq.{take-suc}
use Rattle.std.proofs.lemmas.List.{take_all}
use Rattle.cluster_store.specs.Slots.{Done}
use Rattle.cluster_store.specs.Unordered.{settled_unordered}
use Rattle.cluster_store.proofs.Done.{done_none, none_taken}
use Rattle.cluster_store.proofs.Settled.{more_done, settled_twice}
use Rattle.cluster_store.proofs.settling.settle_unordered.Goals as goal

pub loop-at-init : goal.loop-at-init
loop-at-init g c =
    let slots = c.args.slots.now.slots in
    subst (λ (ns : List ℕ). Done (λ n. n) (λ n. settled_unordered c.args.stays) ns slots slots) (sym (none_taken c.args.numbers.now))
    (done_none (λ (n : ℕ). n) (λ n. settled_unordered c.args.stays) slots)

pub loop-at-preserved : goal.loop-at-preserved
loop-at-preserved g c =
    let ns = c.args.numbers.now in
    let n = get_or ns c.loop-at.at 0 in
    subst (λ (xs : List ℕ). Done (λ m. m) (λ m. settled_unordered c.args.stays) xs c.args.slots.now.slots c.settle_one.new.slots.slots)
    (sym (ap (λ k. take k ns) (add-one c.loop-at.at) ∙ take-suc ns c.loop-at.at 0 c.loop-at-test.true))
    (more_done (λ (m : ℕ). m) (settled_unordered c.args.stays) (settled_twice c.args.stays) (take c.loop-at.at ns) n c.args.slots.now.slots
    c.loop-at.slots.slots c.settle_one.new.slots.slots c.loop-at.invariant c.settle_one.ensures)

pub returns : goal.returns
returns g c =
    subst (λ (ns : List ℕ). Done (λ n. n) (λ n. settled_unordered c.args.stays) ns c.args.slots.now.slots c.loop-at.slots.slots)
    (take_all c.loop-at.at c.args.numbers.now c.loop-at-test.false) c.loop-at.invariant
