use Rattle.std.proofs.Common.{List, ℕ, [], subst}
use Rattle.std.proofs.lemmas.Result.{err_from_is_err_and}
use Rattle.wire.specs.Drafts.{written, lines_of}
use Rattle.wire.proofs.LineLemmas.{IsRead, lines_first, lines_last, one_more, line_fault, all_read}
use Rattle.wire.proofs.texts.text.read_lines.Goals as goal

pub returns-in_err-draft : goal.returns-in_err-draft
returns-in_err-draft c =
    let all = lines_of c.args.bytes.now in
    let old = written c.loop-line.draft in
    let line = c.in-Some.line.now in
    let more = c.in-Some.more.now in
    let read = subst (λ (left : List (List ℕ)). IsRead all left old)
    (lines_first c.loop-line.rest.now line more c.in-Some.ensures.found.0 c.in-Some.ensures.found.1) c.loop-line.invariant in
    let p = err_from_is_err_and c.from_residual.result c.from_residual.ensures.1 in
    rw (p.1, p.2) (line_fault all (lines_of more) line old c.in_err-draft.field-0.0 read c.in_err-draft.ensures)

pub loop-line-preserved : goal.loop-line-preserved
loop-line-preserved c =
    let all = lines_of c.args.bytes.now in
    let old = written c.loop-line.draft in
    let line = c.in-Some.line.now in
    let more = c.in-Some.more.now in
    let read = subst (λ (left : List (List ℕ)). IsRead all left old)
    (lines_first c.loop-line.rest.now line more c.in-Some.ensures.found.0 c.in-Some.ensures.found.1) c.loop-line.invariant in
    one_more all (lines_of more) line old c.in_ok-draft.draft read c.in_ok-draft.ensures

pub returns-in_err-take_line : goal.returns-in_err-take_line
returns-in_err-take_line c =
    let all = lines_of c.args.bytes.now in
    let old = written c.loop-line.draft in
    let line = c.loop-line.rest.now in
    let read = subst (λ (left : List (List ℕ)). IsRead all left old) (lines_last line c.in_default.ensures.none) c.loop-line.invariant in
    let p = err_from_is_err_and c.from_residual-in_err-take_line.result c.from_residual-in_err-take_line.ensures.1 in
    rw (p.1, p.2) (line_fault all [] line old c.in_err-take_line.field-0.0 read c.in_err-take_line.ensures)

pub returns : goal.returns
returns c =
    let all = lines_of c.args.bytes.now in
    let old = written c.loop-line.draft in
    let line = c.loop-line.rest.now in
    let read = subst (λ (left : List (List ℕ)). IsRead all left old) (lines_last line c.in_default.ensures.none) c.loop-line.invariant in
    let draft = c.in_ok-take_line.field-0 in
    all_read all (written draft) c.finished.result (one_more all [] line old draft read c.in_ok-take_line.ensures) c.finished.ensures
