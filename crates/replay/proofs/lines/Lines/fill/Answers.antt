use Rattle.std.proofs.Common.{◌≡◌, ℕ, ◌+◌, ◌-◌, ◌<◌, ◌≤◌, List, ◌++◌, sym, ap, subst, ◌∙◌, length}
use Rattle.std.specs.Io.KnownBytes.{IsAtEnd}
use Rattle.graph_model.specs.Lines.{max_input}
use Rattle.replay.specs.Cutters.{Cutter}
use Rattle.replay.specs.Cuts.{EndsIn, TakesTo, ahead, reads_left, stage_rank, weight}
use Rattle.replay.specs.declared.lines.Stage.{Stage}
use Rattle.replay.specs.declared.lines.Stage.TheVariants.{Open}
use Rattle.replay.proofs.AheadLemmas.{ahead_read, fewer_reads}
use Rattle.replay.proofs.CutLemmas.{counts_within, ends_more, takes_of}
use Rattle.replay.proofs.lines.Lines.fill.Goals as goal

pub returns-in-Ok-clause-reads : goal.returns-in-Ok-clause-reads
returns-in-Ok-clause-reads g c rest leaves =
    let w = c.self.inside in
    let ends = subst (λ (k : Cutter). EndsIn k.long k.held rest) (sym c.self.view_is) leaves in
    let came = c.in-Ok.ensures.ok in
    let counted = c.count_within.ensures _ came.0 came.2 came.1 in
    let kept = c.make_room-self-inside.ensures.kept rest ends in
    let taken : c.args.self.now.taken ≡ w.taken = ap (λ (k : Cutter). k.taken) (sym c.self.view_is) in
    let left = g.S.Source.left c.args.source.now in
    let next = g.S.Source.left c.fill.new.source in
    let end : length came.0 ≡ 0 → IsAtEnd next = λ none. c.in-Ok.ensures.end (sym came.1 ∙ none) in
    let takes = takes_of c.count_within.result.1 left next came.0 counted.0 counted.1 c.count_within.result.0 counted.2 came.3 end counted.5 in (
      counted.0,
      record {
        takes = subst (λ (s : Stage). TakesTo s c.count_within.result.1 left next counted.0 c.count_within.result.0) (sym c.requires.open) takes;
        taken = counted.4 ∙ ap (λ n. n + length counted.0) (sym taken);
      },
      subst (λ (held : List ℕ). EndsIn c.make_room-self-inside.result held (rest ++ counted.0)) (sym counted.3)
          (ends_more c.make_room-self-inside.result c.make_room-self-inside.new.window.held counted.0 rest kept),
    )

pub returns-in-Ok-clause-ahead : goal.returns-in-Ok-clause-ahead
returns-in-Ok-clause-ahead g c =
    let w = c.self.inside in
    let came = c.in-Ok.ensures.ok in
    let counted = c.count_within.ensures _ came.0 came.2 came.1 in
    let within = counts_within c.count_within.result.1 c.count_within.result.0 counted.0 counted.1 counted.5 in
    let read = ahead_read w.long c.make_room-self-inside.result w.window.held c.make_room-self-inside.new.window.held c.count_within.new.window.held counted.0
    w.taken c.count_within.result.0 c.make_room-self-inside.ensures.lighter counted.3 counted.4 within in
    subst (λ (k : Cutter). (max_input - c.count_within.result.0) + weight c.make_room-self-inside.result c.count_within.new.window.held ≤ ahead k)
    c.self.view_is read

pub returns-in-Ok-clause-fewer : goal.returns-in-Ok-clause-fewer
returns-in-Ok-clause-fewer g c =
    let w = c.self.inside in
    let came = c.in-Ok.ensures.ok in
    let counted = c.count_within.ensures _ came.0 came.2 came.1 in
    let going : w.stage ≡ Open = ap (λ (k : Cutter). k.stage) c.self.view_is ∙ c.requires.open in
    let read = fewer_reads c.count_within.result.1 w.taken c.count_within.result.0 counted.0 counted.1 counted.5 counted.4 c.self.invariant.1 in
    let left : (max_input - c.count_within.result.0) + stage_rank c.count_within.result.1 < (max_input - w.taken) + stage_rank w.stage = rw going read in
    subst (λ (k : Cutter). (max_input - c.count_within.result.0) + stage_rank c.count_within.result.1 < reads_left k) c.self.view_is left
