use Rattle.std.proofs.Common.{rules, ◌*◌, ◌∙◌, sym, lit<, arith}
use Rattle.linearize.specs.Known.{IsHeld}
use Rattle.linearize.proofs.Fills.{zip_long}
use Rattle.linearize.proofs.Solves.{at_least_both}
use Rattle.linearize.proofs.Trials.{begun, stands_next, stands_none, so_far, tried, all_parts}
use Rattle.linearize.proofs.Sizes.{words_fit, scratch_fits, group_fits}
use Rattle.linearize.proofs.near.are_parts.Goals as goal

pub loop-group-init : goal.loop-group-init
loop-group-init g c = (
  stands_none (64 * g.row.W) c.args.dep.now c.args.guess.now.parts.items c.args.guess.now.places.items c.args.members.now c.empty-done.result c.args.draft.now
      c.args.froms.now.items c.args.steps.now c.empty-done.ensures c.requires.empty.0 c.requires.empty.1,
  record { gave = omega arith; least = omega arith },
)

pub empty-done-requires : goal.empty-done-requires
empty-done-requires g c = words_fit g.row.W c.requires.narrow

pub is_subset-requires : goal.is_subset-requires
is_subset-requires g c = words_fit g.row.W c.requires.narrow

pub put_next-requires : goal.put_next-requires
put_next-requires g c =
    let ready = c.requires.members in
    let stands = c.loop-group.invariant.0 in (
      scratch_fits g.row.W c.requires.narrow,
      (
        search rules,
        (
          words_fit g.row.W c.requires.narrow,
          (
            group_fits g.row.W c.requires.narrow,
            (
              lit< tt,
              (
                c.requires.narrow,
                (
                  begun (64 * g.row.W) c.args.dep.now c.args.guess.now.parts.items c.args.guess.now.places.items c.args.members.now c.loop-group.done ready.closed ready.held c.loop-group.draft c.loop-group.froms.items
                      c.args.steps.now c.loop-group.steps stands ready.few ready.rates,
                  (
                    c.requires.known,
                    (
                      (stands.ids, stands.flows),
                      (
                        zip_long (IsHeld c.args.dep.now c.args.guess.now.parts.items c.args.guess.now.places.items) c.loop-group.froms.items
                            c.loop-group.draft.parts stands.held,
                        (let long = c.requires.room in (omega (arith, long.0), omega (arith, long.1))),
                      ),
                    ),
                  ),
                ),
              ),
            ),
          ),
        ),
      ),
    )

pub loop-group-preserved : goal.loop-group-preserved
loop-group-preserved g c =
    let ready = c.requires.members in (
      stands_next (64 * g.row.W) c.args.dep.now c.args.guess.now.parts.items c.args.guess.now.places.items c.args.members.now c.loop-group.done ready.closed ready.held c.loop-group.draft c.loop-group.froms.items
          c.args.steps.now c.loop-group.steps c.loop-group.invariant.0 c.put_next.new.draft c.put_next.new.froms.items c.in-Some.all c.in-Some.ensures.extends c.put_next.new.steps
          c.in-Some.ensures.some,
      at_least_both _ _ _ _ _ _ c.args.steps.now c.loop-group.steps c.put_next.new.steps (omega arith) c.loop-group.invariant.1
          c.put_next.ensures.counted,
    )

pub returns-in-None-clause-most : goal.returns-in-None-clause-most
returns-in-None-clause-most g c =
    let ready = c.requires.members in
    tried (64 * g.row.W) c.args.dep.now c.args.guess.now.parts.items c.args.guess.now.places.items c.args.members.now c.loop-group.done ready.closed ready.held c.loop-group.draft c.loop-group.froms.items
    c.args.steps.now c.loop-group.steps c.loop-group.invariant.0 c.put_next.new.steps c.put_next.ensures.none

pub returns-in-None-clause-counted : goal.returns-in-None-clause-counted
returns-in-None-clause-counted g c =
    at_least_both _ _ _ _ _ _ c.args.steps.now c.loop-group.steps c.put_next.new.steps (omega arith) c.loop-group.invariant.1
    c.put_next.ensures.counted

pub returns-then-is_subset-clause-parts : goal.returns-then-is_subset-clause-parts
returns-then-is_subset-clause-parts g c = λ falls.
    all_parts (64 * g.row.W) c.args.dep.now c.args.guess.now.parts.items c.args.guess.now.places.items c.args.members.now c.loop-group.done c.requires.members.closed c.requires.members.held c.loop-group.draft c.loop-group.froms.items
    c.args.steps.now c.loop-group.steps c.loop-group.invariant.0 (sym c.is_subset.ensures ∙ c.if-is_subset.true) _ c.parts.ensures (c.fall.ensures falls)

pub returns-then-is_subset-clause-most : goal.returns-then-is_subset-clause-most
returns-then-is_subset-clause-most g c =
    so_far (64 * g.row.W) c.args.dep.now c.args.guess.now.parts.items c.args.guess.now.places.items c.args.members.now c.loop-group.done c.requires.members.closed c.requires.members.held c.loop-group.draft c.loop-group.froms.items
    c.args.steps.now c.loop-group.steps c.loop-group.invariant.0

pub returns-else-is_subset-clause-most : goal.returns-else-is_subset-clause-most
returns-else-is_subset-clause-most g c =
    so_far (64 * g.row.W) c.args.dep.now c.args.guess.now.parts.items c.args.guess.now.places.items c.args.members.now c.loop-group.done c.requires.members.closed c.requires.members.held c.loop-group.draft c.loop-group.froms.items
    c.args.steps.now c.loop-group.steps c.loop-group.invariant.0
