-- A name comes into the top level.
use Rattle.std.proofs.Common.{rules, ◌+◌, ◌≤◌, ℤ, sym, subst, of_z, to_z, arith, ap, ◌∙◌}
use Rattle.std.proofs.lemmas.Int.{to_z-of_z}
use Rattle.std.specs.Int.{w64}
use Rattle.fee_rate.specs.Limits.{IsRate}
use Rattle.graph_model.specs.declared.names.Limits.{Limits}
use Rattle.graphs.specs.declared.names.Level.TheVariants.{Top}
use Rattle.levels.specs.Levels.{AddsName, level_at, Levels}
use Rattle.levels.specs.Shelves.{Shelf, levels_of}
use Rattle.levels.proofs.Adding.{absent_named, few_named, kept_added, kept_still, levels_added, name_stays}
use Rattle.levels.proofs.Finds.{limits_is}
use Rattle.levels.proofs.Oversizing.{have_picks}
use Rattle.levels.proofs.Keeping.{tops_few}
use Rattle.levels.proofs.Rooms.{work_fits}
use Rattle.levels.proofs.Unmoved.{same_all_stay}
use Rattle.levels.proofs.levels.Levels.add.Goals as goal

pub add_name-requires : goal.add_name-requires
add_name-requires g c =
    let narrow : g.row.W ≤ 2 = c.self.invariant.order.narrow in
    let old = c.self.inside.shelves in
    let rings = c.self.inside.rings in (
      omega arith,
      (
        work_fits g.row.W narrow,
        (
          c.self.invariant.order,
          (
            c.self.invariant.right,
            (
              absent_named g.row.W c.self.inside.mains c.self.inside.tops c.self.inside.issued
                  old rings c.self.invariant c.args.self.now c.self.view_is c.args.id
                  c.requires.absent,
              (
                subst (λ (fee : ℤ). IsRate (record { fee = fee; size = c.args.size })) (sym (to_z-of_z w64 c.args.fee c.ranges.fee)) c.requires.in_range,
                (
                  subst (λ (l : Limits). c.args.size ≤ l.size) (limits_is g.row.W c.self.inside.issued c.self.inside.shelves c.args.self.now c.self.invariant.order c.self.view_is) c.requires.fits,
                  (
                    few_named g.row.W c.self.inside.mains c.self.inside.tops c.self.inside.issued old rings c.self.invariant c.args.self.now c.self.view_is
                        c.requires.few,
                    omega (arith, c.requires.issued, c.self.invariant.issued, ap (λ (l : Levels). l.issued) c.self.view_is),
                  ),
                ),
              ),
            ),
          ),
        ),
      ),
    )

pub invariant_of-self : goal.invariant_of-self
invariant_of-self g c =
    let err = c.in_err-add_name.ensures.err in
    kept_still g.row.W c.self.inside.mains c.self.inside.tops c.self.inside.issued c.self.inside.shelves c.self.inside.rings c.self.invariant c.args.self.now
    c.self.view_is c.add_name.new.shelves c.add_name.new.rings err.0 c.add_name.ensures.right err.1 err.2

pub returns-in_err-add_name-clause-kept : goal.returns-in_err-add_name-clause-kept
returns-in_err-add_name-clause-kept g c = (
  have_picks g.row.W c.add_name.new.shelves c.add_name.ensures.order c.self.inside.issued,
  same_all_stay c.args.self.now (levels_of c.add_name.new.shelves c.self.inside.issued)
      (ap (λ (s : Shelf). levels_of s c.self.inside.issued) c.in_err-add_name.ensures.err.0 ∙ c.self.view_is),
)

pub overflow_add-self-2 : goal.overflow_add-self-2
overflow_add-self-2 g c =
    let few = tops_few g.row.W c.self.inside.mains c.self.inside.tops c.self.inside.issued c.self.inside.shelves c.self.inside.rings c.self.invariant in
    search rules

pub invariant_of-self-2 : goal.invariant_of-self-2
invariant_of-self-2 g c =
    let few = few_named g.row.W c.self.inside.mains c.self.inside.tops c.self.inside.issued c.self.inside.shelves c.self.inside.rings c.self.invariant
    c.args.self.now c.self.view_is c.requires.few in
    let names = c.in_ok-add_name.ensures.names in
    kept_added g.row.W c.self.inside.mains c.self.inside.tops c.self.inside.issued c.self.inside.shelves c.self.inside.rings c.self.invariant c.args.self.now
    c.self.view_is c.args.id (record { fee = to_z w64 (of_z w64 c.args.fee); size = c.args.size }) c.add_name.new.shelves c.in_ok-add_name.ensures.added
    c.add_name.ensures.order c.add_name.new.rings c.add_name.ensures.right names.0 names.1 few c.is_staged.result c.is_staged.ensures
    c.main_count-self-inside.result c.main_count-self-inside.ensures

pub returns-clause-added : goal.returns-clause-added
returns-clause-added g c =
    let made = levels_added g.row.W c.self.inside.mains c.self.inside.tops c.self.inside.issued c.self.inside.shelves c.self.inside.rings c.self.invariant
    c.args.self.now c.self.view_is c.args.id (record { fee = to_z w64 (of_z w64 c.args.fee); size = c.args.size }) c.add_name.new.shelves
    c.in_ok-add_name.ensures.added c.add_name.ensures.order in (
      made.0,
      (
        made.1.0,
        subst (λ (fee : ℤ). AddsName (level_at c.args.self.now Top).graph made.1.0.graph c.args.id (record { fee = fee; size = c.args.size }))
            (to_z-of_z w64 c.args.fee c.ranges.fee) made.1.1,
        made.1.2,
      ),
      made.2,
    )

pub returns-clause-kept : goal.returns-clause-kept
returns-clause-kept g c = (
  have_picks g.row.W c.add_name.new.shelves c.add_name.ensures.order (c.self.inside.issued + 1),
  name_stays g.row.W c.self.inside.mains c.self.inside.tops c.self.inside.issued c.self.inside.shelves c.self.inside.rings c.self.invariant c.args.self.now
      c.self.view_is c.args.id (record { fee = to_z w64 (of_z w64 c.args.fee); size = c.args.size }) c.add_name.new.shelves c.in_ok-add_name.ensures.added
      c.add_name.ensures.order,
)

pub overflow_add-self : goal.overflow_add-self
overflow_add-self g c = omega (arith, c.requires.issued, ap (λ (l : Levels). l.issued) c.self.view_is)

pub returns-clause-steps : goal.returns-clause-steps
returns-clause-steps g c = c.add_name.ensures.steps
