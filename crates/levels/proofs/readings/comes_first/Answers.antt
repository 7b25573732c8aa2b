use Rattle.std.proofs.Common.{Contains, sym, subst}
use Rattle.std.proofs.lemmas.List.{take_all}
use Rattle.lists.proofs.Entries.{none_in_empty}
use Rattle.levels.proofs.Firsts.{later_first, not_yet}
use Rattle.levels.proofs.readings.comes_first.Goals as goal

pub loop-at-init : goal.loop-at-init
loop-at-init c = record { a = none_in_empty c.args.a; b = none_in_empty c.args.b }

pub loop-at-preserved : goal.loop-at-preserved
loop-at-preserved c = record {
  a = not_yet c.args.ids.now c.loop-at.at c.args.a c.loop-at-test.true c.if-ids-at.false c.loop-at.invariant.a;
  b = not_yet c.args.ids.now c.loop-at.at c.args.b c.loop-at-test.true c.if-ids-at-2.false c.loop-at.invariant.b;
}

pub returns-then-ids-at-clause-before : goal.returns-then-ids-at-clause-before
returns-then-ids-at-clause-before c _ =
    later_first c.args.ids.now c.loop-at.at c.args.a c.args.b c.loop-at-test.true c.if-ids-at.true c.requires.apart c.requires.b c.loop-at.invariant.b

pub returns-then-ids-at-2-clause-after : goal.returns-then-ids-at-2-clause-after
returns-then-ids-at-2-clause-after c _ =
    later_first c.args.ids.now c.loop-at.at c.args.b c.args.a c.loop-at-test.true c.if-ids-at-2.true (λ same. c.requires.apart (sym same)) c.requires.a
    c.loop-at.invariant.a

pub unreachable-requires : goal.unreachable-requires
unreachable-requires c =
    c.loop-at.invariant.a (subst (λ ids. Contains ids c.args.a) (sym (take_all c.loop-at.at c.args.ids.now c.loop-at-test.false)) c.requires.a)
