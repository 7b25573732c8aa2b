use Rattle.std.proofs.Common.{◌∙◌}
use Rattle.std.proofs.lemmas.Result.{err_from_is_err_and}
use Rattle.wire.proofs.ChunkLemmas.{front_found, front_fault, last_fault, last_found}
use Rattle.wire.proofs.texts.row.names.Goals as goal

pub returns-in_err-add_name : goal.returns-in_err-add_name
returns-in_err-add_name c =
    let p = err_from_is_err_and c.from_residual.result c.from_residual.ensures.1 in
    rw (p.1, p.2) (front_fault c.args.text.now c.loop-word.ids.items c.add_name.new.ids.items c.loop-word.rest.now
    c.in-Some.word.now c.in-Some.more.now c.in_err-add_name.field-0.0 c.loop-word.invariant.whole
    c.in-Some.ensures.found.0 c.loop-word.invariant.wide c.in-Some.ensures.found.1 c.in_err-add_name.ensures)

pub returns : goal.returns
returns c =
    let added = c.in_ok-add_name-2.ensures in
    last_found c.args.text.now c.loop-word.ids.items c.from_vec.result c.loop-word.rest.now added.0
    c.loop-word.invariant.whole c.loop-word.invariant.wide added.1 added.2 (c.from_vec.ensures ∙ added.3)

pub returns-in_err-add_name-2 : goal.returns-in_err-add_name-2
returns-in_err-add_name-2 c =
    let p = err_from_is_err_and c.from_residual-in_err-add_name-2.result c.from_residual-in_err-add_name-2.ensures.1 in
    rw (p.1, p.2) (last_fault c.args.text.now c.loop-word.ids.items c.add_name-2.new.ids.items c.loop-word.rest.now c.in_err-add_name-2.field-0.0
    c.loop-word.invariant.whole c.loop-word.invariant.wide c.in_default.ensures.none c.in_err-add_name-2.ensures)

pub loop-word-preserved : goal.loop-word-preserved
loop-word-preserved c =
    let read = c.loop-word.invariant in
    let added = c.in_ok-add_name.ensures in
    front_found c.args.text.now c.loop-word.ids.items c.add_name.new.ids.items c.loop-word.rest.now c.in-Some.word.now
    c.in-Some.more.now added.0 read.whole c.in-Some.ensures.found.0 read.wide added.1 added.2 added.3
