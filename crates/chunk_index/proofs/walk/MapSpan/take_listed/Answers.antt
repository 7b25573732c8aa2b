use Rattle.std.proofs.Common.{sym, ap, ◌∙◌}
use Rattle.chunk_index.specs.declared.entry.Entry.{Entry}
use Rattle.chunk_index.specs.Ends.{at_end}
use Rattle.chunk_index.specs.Items.{entries_by}
use Rattle.chunk_index.specs.Numbers.{span_left}
use Rattle.chunk_index.specs.Walks.{left_in, passes}
use Rattle.chunk_index.proofs.Maps.{Numbers}
use Rattle.chunk_index.proofs.Walks.{one_counts, one_passed}
use Rattle.chunk_index.proofs.walk.MapSpan.take_listed.Goals as goal

pub returns-then-passes-clause-taken : goal.returns-then-passes-clause-taken
returns-then-passes-clause-taken c =
    let s = c.loop-key.self in
    sym c.loop-key.invariant.0
    ∙ one_counts s.main.now s.top.now (span_left s.numbers) (span_left c.take.new.self) _ s.wanted c.args.end
    c.in-Some.ensures (ap (passes s.wanted) (sym c.tag_of.ensures) ∙ sym c.if-passes.ensures)
    ∙ ap (λ (x : Entry). at_end c.args.end x (left_in (span_left c.take.new.self) s.main.now s.top.now s.wanted)) (sym c.entry.ensures)

pub loop-key-preserved : goal.loop-key-preserved
loop-key-preserved c =
    let s = c.loop-key.self in (
      sym (one_passed s.main.now s.top.now (span_left s.numbers) (span_left c.take.new.self) _ s.wanted c.args.end
          c.in-Some.ensures (ap (passes s.wanted) (sym c.tag_of.ensures) ∙ sym c.if-passes.ensures))
          ∙ c.loop-key.invariant.0,
      c.loop-key.invariant.1,
    )

pub returns-clause-taken : goal.returns-clause-taken
unfolding entries_by
returns-clause-taken c =
    let s = c.loop-key.self in (
      sym c.loop-key.invariant.0 ∙ ap (λ (es : Numbers). left_in es s.main.now s.top.now s.wanted) c.in_default.ensures.0,
      ap (λ (es : Numbers). left_in es s.main.now s.top.now s.wanted) c.in_default.ensures.1,
    )
