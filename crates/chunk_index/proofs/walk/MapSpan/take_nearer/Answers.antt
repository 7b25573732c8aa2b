use Rattle.std.proofs.Common.{List, sym, ap, ◌∙◌, subst}
use Rattle.chunk_index.specs.declared.entry.Entry.{Entry}
use Rattle.chunk_index.specs.Ends.{at_end, seen_from}
use Rattle.chunk_index.specs.KeyOrder.{key_cmp}
use Rattle.chunk_index.specs.Keys.{key_of}
use Rattle.chunk_index.specs.Merges.{ComesAt}
use Rattle.chunk_index.specs.Numbers.{span_left}
use Rattle.chunk_index.specs.Walks.{left_in, passes}
use Rattle.chunk_index.proofs.Parts.{span_order}
use Rattle.chunk_index.proofs.Walks.{one_counts, one_passed, comes_none, comes_farther, comes_level}
use Rattle.chunk_index.proofs.walk.MapSpan.take_nearer.Goals as goal

pub returns-in_default-clause-nearer : goal.returns-in_default-clause-nearer
returns-in_default-clause-nearer c =
    let s = c.loop-key.self in
    let none = sym c.copy-numbers.ensures ∙ c.in_default.ensures.0 in
    let left = left_in (span_left s.numbers) s.main.now s.top.now s.wanted in
    subst (λ (xs : List Entry). ComesAt key_of c.args.end c.args.than.now xs left) c.loop-key.invariant.0
    (comes_none s.main.now s.top.now s.wanted c.args.end c.args.than.now (span_left s.numbers) none)

pub returns-in-Equal-clause-nearer : goal.returns-in-Equal-clause-nearer
returns-in-Equal-clause-nearer c =
    let s = c.loop-key.self in
    let step = sym c.copy-numbers.ensures ∙ c.in-Some.ensures in
    let left = left_in (span_left c.take.new.self) s.main.now s.top.now s.wanted in
    subst (λ (xs : List Entry). ComesAt key_of c.args.end c.args.than.now xs left) c.loop-key.invariant.0
    (comes_level s.main.now s.top.now s.wanted c.args.end c.args.than.now _ (span_left s.numbers) (span_left c.take.new.self)
    (span_order s.numbers) step (ap (seen_from c.args.end) (sym c.cmp.ensures) ∙ sym c.in-Equal.ensures))

pub returns-in-Greater-clause-nearer : goal.returns-in-Greater-clause-nearer
returns-in-Greater-clause-nearer c =
    let s = c.loop-key.self in
    let step = sym c.copy-numbers.ensures ∙ c.in-Some.ensures in
    let left = left_in (span_left s.numbers) s.main.now s.top.now s.wanted in
    subst (λ (xs : List Entry). ComesAt key_of c.args.end c.args.than.now xs left) c.loop-key.invariant.0
    (comes_farther s.main.now s.top.now s.wanted c.args.end c.args.than.now _ (span_left s.numbers) (span_left c.take.new.self)
    (span_order s.numbers) step (ap (seen_from c.args.end) (sym c.cmp.ensures) ∙ sym c.in-Greater.ensures))

pub returns-then-passes-clause-nearer : goal.returns-then-passes-clause-nearer
returns-then-passes-clause-nearer c =
    let s = c.loop-key.self in
    let step = sym c.copy-numbers.ensures ∙ c.in-Some.ensures in (
      sym c.loop-key.invariant.0
          ∙ one_counts s.main.now s.top.now (span_left s.numbers) (span_left c.take.new.self) _ s.wanted c.args.end
          step (ap (passes s.wanted) (sym c.tag_of.ensures) ∙ sym c.if-passes.ensures)
          ∙ ap (λ (x : Entry). at_end c.args.end x (left_in (span_left c.take.new.self) s.main.now s.top.now s.wanted)) (sym c.entry.ensures),
      ap (λ (x : Entry). seen_from c.args.end (key_cmp (key_of x) c.args.than.now)) c.entry.ensures
          ∙ ap (seen_from c.args.end) (sym c.cmp.ensures) ∙ sym c.in-Less.ensures,
    )

pub loop-key-preserved : goal.loop-key-preserved
loop-key-preserved c =
    let s = c.loop-key.self in
    let step = sym c.copy-numbers.ensures ∙ c.in-Some.ensures in (
      sym (one_passed s.main.now s.top.now (span_left s.numbers) (span_left c.take.new.self) _ s.wanted c.args.end
          step (ap (passes s.wanted) (sym c.tag_of.ensures) ∙ sym c.if-passes.ensures))
          ∙ c.loop-key.invariant.0,
      c.loop-key.invariant.1,
    )
