-- Transactions come into main.
use Rattle.std.proofs.Common.{◌≡◌, ◌≢◌, ◌+◌, false, length, lit<, rules, sym, ap, ◌∙◌, subst₂}
use Rattle.graphs.specs.Closures.{Closure}
use Rattle.graph_model.specs.declared.names.Limits.{Limits}
use Rattle.graph_model.specs.declared.names.Refusal.TheVariants.{Memory}
use Rattle.levels.specs.Restores.{BringsNoneOver, BringsOver, RestoresWithin}
use Rattle.levels.specs.Shelves.{Shelf, levels_of}
use Rattle.levels.proofs.Finds.{limits_is}
use Rattle.levels.proofs.Gains.{alone_now, few_more, issued_more, kept_restored, levels_restored, main_top, may_return, stays_restored}
use Rattle.levels.proofs.Keeping.{tops_few}
use Rattle.levels.proofs.Listing.{handed}
use Rattle.levels.proofs.Oversizing.{have_picks}
use Rattle.levels.proofs.Rooms.{work_fits}
use Rattle.levels.proofs.Unmoved.{same_all_stay}
use Rattle.levels.proofs.levels.Levels.restore.Goals as goal

pub restore-requires : goal.restore-requires
restore-requires g c =
    let shelf = c.self.inside.shelves in
    let rings = c.self.inside.rings in
    let kept = c.self.invariant in (
      lit< tt,
      (
        work_fits g.row.W kept.order.narrow,
        (
          kept.order,
          (
            kept.right,
            (
              alone_now g.row.W c.self.inside.mains c.self.inside.tops c.self.inside.issued shelf rings kept c.args.self.now c.self.view_is
                  c.args.txs.now c.args.pairs.now c.requires,
              (
                may_return g.row.W c.self.inside.mains c.self.inside.tops c.self.inside.issued shelf rings kept c.args.self.now c.self.view_is
                    c.args.txs.now c.args.pairs.now c.requires,
                (
                  few_more g.row.W c.self.inside.mains c.self.inside.tops c.self.inside.issued shelf rings kept c.args.self.now c.self.view_is
                      c.args.txs.now c.args.pairs.now c.requires,
                  issued_more g.row.W c.self.inside.mains c.self.inside.tops c.self.inside.issued shelf rings kept c.args.self.now c.self.view_is
                      c.args.txs.now c.args.pairs.now c.requires,
                ),
              ),
            ),
          ),
        ),
      ),
    )

pub returns-in_err-restore-clause-row : goal.returns-in_err-restore-clause-row
returns-in_err-restore-clause-row g c =
    let now = c.args.self.now in
    let limits = limits_is g.row.W c.self.inside.issued c.self.inside.shelves now c.self.invariant.order c.self.view_is in
    let main = main_top g.row.W c.self.inside.mains c.self.inside.tops c.self.inside.issued c.self.inside.shelves c.self.inside.rings c.self.invariant
    now c.self.view_is c.args.txs.now c.args.pairs.now c.requires in
    handed (λ _. now.limits.defer ≡ false → BringsNoneOver now.limits now.main.graph c.args.txs.now c.args.pairs.now)
    (λ why. why ≢ Memory → BringsOver now.limits now.main.graph c.args.txs.now c.args.pairs.now why) c.from_residual.result
    c.in_err-restore.field-0.0 c.from_residual.ensures.1
    (λ other. subst₂ (λ (l : Limits) (h : Closure). BringsOver l h c.args.txs.now c.args.pairs.now c.in_err-restore.field-0.0) (sym limits) (sym main)
    (c.in_err-restore.ensures.row other))

pub returns-in_err-restore-clause-kept : goal.returns-in_err-restore-clause-kept
returns-in_err-restore-clause-kept g c = (
  have_picks g.row.W c.restore.new.shelves c.restore.ensures.kept.0 c.self.inside.issued,
  same_all_stay c.args.self.now (levels_of c.restore.new.shelves c.self.inside.issued)
      (ap (λ (s : Shelf). levels_of s c.self.inside.issued) c.in_err-restore.ensures.err.0 ∙ c.self.view_is),
)

pub returns-in_err-restore-clause-refused : goal.returns-in_err-restore-clause-refused
returns-in_err-restore-clause-refused g c =
    let same = ap (λ (s : Shelf). levels_of s c.self.inside.issued) c.in_err-restore.ensures.err.0 ∙ c.self.view_is in
    handed (λ _. Unit {0}) (λ why. (levels_of c.restore.new.shelves c.self.inside.issued ≡ c.args.self.now) × (why ≢ Memory → c.restore.new.steps ≡ c.args.steps.now))
    c.from_residual.result c.in_err-restore.field-0.0 c.from_residual.ensures.1 (same, c.in_err-restore.ensures.refused)

pub returns-in_err-restore-clause-steps : goal.returns-in_err-restore-clause-steps
returns-in_err-restore-clause-steps g c =
    let now = c.args.self.now in
    subst₂ (λ (l : Limits) (h : Closure). RestoresWithin l h c.args.txs.now c.args.pairs.now c.args.steps.now c.restore.new.steps)
    (sym (limits_is g.row.W c.self.inside.issued c.self.inside.shelves now c.self.invariant.order c.self.view_is))
    (sym (main_top g.row.W c.self.inside.mains c.self.inside.tops c.self.inside.issued c.self.inside.shelves c.self.inside.rings c.self.invariant
    now c.self.view_is c.args.txs.now c.args.pairs.now c.requires)) c.restore.ensures.steps

pub overflow_add-self-2 : goal.overflow_add-self-2
overflow_add-self-2 g c =
    let few = tops_few g.row.W c.self.inside.mains c.self.inside.tops c.self.inside.issued c.self.inside.shelves c.self.inside.rings c.self.invariant in
    let more = few_more g.row.W c.self.inside.mains c.self.inside.tops c.self.inside.issued c.self.inside.shelves c.self.inside.rings c.self.invariant
    c.args.self.now c.self.view_is c.args.txs.now c.args.pairs.now c.requires in
    search rules

pub invariant_of-self-2 : goal.invariant_of-self-2
invariant_of-self-2 g c =
    let old = c.self.inside.shelves in
    let may = may_return g.row.W c.self.inside.mains c.self.inside.tops c.self.inside.issued old c.self.inside.rings c.self.invariant
    c.args.self.now c.self.view_is c.args.txs.now c.args.pairs.now c.requires in
    let done = c.in_ok-restore.ensures in
    kept_restored g.row.W c.args.txs.now c.args.pairs.now old c.restore.new.shelves c.self.invariant.order c.restore.ensures.kept.0 may done.restored
    c.self.inside.mains c.self.inside.tops c.self.inside.issued c.self.inside.rings c.restore.new.rings c.self.invariant
    (alone_now g.row.W c.self.inside.mains c.self.inside.tops c.self.inside.issued old c.self.inside.rings c.self.invariant c.args.self.now c.self.view_is
    c.args.txs.now c.args.pairs.now c.requires)
    c.restore.ensures.kept.1 done.names.0 done.names.1
    (few_more g.row.W c.self.inside.mains c.self.inside.tops c.self.inside.issued old c.self.inside.rings c.self.invariant c.args.self.now c.self.view_is
    c.args.txs.now c.args.pairs.now c.requires)

pub returns-clause-restored : goal.returns-clause-restored
returns-clause-restored g c =
    let old = c.self.inside.shelves in
    let may = may_return g.row.W c.self.inside.mains c.self.inside.tops c.self.inside.issued old c.self.inside.rings c.self.invariant
    c.args.self.now c.self.view_is c.args.txs.now c.args.pairs.now c.requires in
    let done = c.in_ok-restore.ensures in
    levels_restored g.row.W c.args.txs.now c.args.pairs.now old c.restore.new.shelves c.self.invariant.order c.restore.ensures.kept.0 may done.restored
    c.self.inside.mains c.self.inside.tops c.self.inside.issued c.self.inside.rings c.restore.new.rings c.self.invariant
    (alone_now g.row.W c.self.inside.mains c.self.inside.tops c.self.inside.issued old c.self.inside.rings c.self.invariant c.args.self.now c.self.view_is
    c.args.txs.now c.args.pairs.now c.requires)
    c.restore.ensures.kept.1 done.names.0 done.names.1
    (few_more g.row.W c.self.inside.mains c.self.inside.tops c.self.inside.issued old c.self.inside.rings c.self.invariant c.args.self.now c.self.view_is
    c.args.txs.now c.args.pairs.now c.requires)
    c.args.self.now c.self.view_is

pub returns-clause-row : goal.returns-clause-row
returns-clause-row g c =
    let now = c.args.self.now in
    let limits = limits_is g.row.W c.self.inside.issued c.self.inside.shelves now c.self.invariant.order c.self.view_is in
    let main = main_top g.row.W c.self.inside.mains c.self.inside.tops c.self.inside.issued c.self.inside.shelves c.self.inside.rings c.self.invariant
    now c.self.view_is c.args.txs.now c.args.pairs.now c.requires in
    subst₂ (λ (l : Limits) (h : Closure). l.defer ≡ false → BringsNoneOver l h c.args.txs.now c.args.pairs.now) (sym limits) (sym main)
    c.in_ok-restore.ensures.row

pub returns-clause-kept : goal.returns-clause-kept
returns-clause-kept g c =
    let old = c.self.inside.shelves in
    let may = may_return g.row.W c.self.inside.mains c.self.inside.tops c.self.inside.issued old c.self.inside.rings c.self.invariant
    c.args.self.now c.self.view_is c.args.txs.now c.args.pairs.now c.requires in
    let done = c.in_ok-restore.ensures in (
      have_picks g.row.W c.restore.new.shelves c.restore.ensures.kept.0 (c.self.inside.issued + length c.args.txs.now),
      stays_restored g.row.W c.args.txs.now c.args.pairs.now old c.restore.new.shelves c.self.invariant.order c.restore.ensures.kept.0 may done.restored
          c.self.inside.mains c.self.inside.tops c.self.inside.issued c.self.inside.rings c.restore.new.rings c.self.invariant
          (alone_now g.row.W c.self.inside.mains c.self.inside.tops c.self.inside.issued old c.self.inside.rings c.self.invariant c.args.self.now
          c.self.view_is c.args.txs.now c.args.pairs.now c.requires)
          c.restore.ensures.kept.1 done.names.0 done.names.1
          (few_more g.row.W c.self.inside.mains c.self.inside.tops c.self.inside.issued old c.self.inside.rings c.self.invariant c.args.self.now
          c.self.view_is c.args.txs.now c.args.pairs.now c.requires)
          c.args.self.now c.self.view_is,
    )

pub returns-clause-steps : goal.returns-clause-steps
returns-clause-steps g c =
    let now = c.args.self.now in
    subst₂ (λ (l : Limits) (h : Closure). RestoresWithin l h c.args.txs.now c.args.pairs.now c.args.steps.now c.restore.new.steps)
    (sym (limits_is g.row.W c.self.inside.issued c.self.inside.shelves now c.self.invariant.order c.self.view_is))
    (sym (main_top g.row.W c.self.inside.mains c.self.inside.tops c.self.inside.issued c.self.inside.shelves c.self.inside.rings c.self.invariant
    now c.self.view_is c.args.txs.now c.args.pairs.now c.requires)) c.restore.ensures.steps
