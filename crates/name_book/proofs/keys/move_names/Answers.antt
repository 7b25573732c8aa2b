use Rattle.std.proofs.Common.{◌≡◌, ◌++◌, [], refl, ap, sym, subst, ◌∙◌, arith}
use Rattle.std.proofs.lemmas.List.{append-nil, nil_from_length}
use Rattle.name_book.specs.Changes.{Gathers}
use Rattle.name_book.specs.Tables.{table_of}
use Rattle.name_book.proofs.TableLemmas.{key-named}
use Rattle.name_book.proofs.Changing.{changes-none, changes-more}
use Rattle.name_book.proofs.Gathering.{gathers-none, gathers-on}
use Rattle.name_book.proofs.Pieces.{piece-done, piece-in}
use Rattle.name_book.proofs.keys.move_names.Goals as goal

pub loop-rest-init : goal.loop-rest-init
loop-rest-init c = record {
  ring = changes-none c.args.nodes.now c.args.r;
  gathers = ([], refl, λ spare t has_t. gathers-none (table_of c.args.nodes.now c.args.names.now.entries spare) c.args.r t);
  round = λ round. round;
}

pub move_few-requires-clause-live : goal.move_few-requires-clause-live
move_few-requires-clause-live c x here =
    let so = c.loop-rest.invariant.gathers in
    c.requires.live x (piece-in so.0 c.loop-rest.rest.now _ _ c.args.ids.now _ so.1 c.split_at.ensures.front c.split_at.ensures.back x here)

pub move_few-requires-clause-apart : goal.move_few-requires-clause-apart
move_few-requires-clause-apart c x here =
    let so = c.loop-rest.invariant.gathers in
    c.requires.apart x (piece-in so.0 c.loop-rest.rest.now _ _ c.args.ids.now _ so.1 c.split_at.ensures.front c.split_at.ensures.back x here)

pub loop-rest-preserved : goal.loop-rest-preserved
loop-rest-preserved c =
    let so = c.loop-rest.invariant.gathers in
    let old = c.args.nodes.now in let mid = c.loop-rest.nodes in let new = c.move_few.new.nodes in
    let es = c.args.names.now.entries in let r = c.args.r in let piece = c.split_at.result.0.now in
    record {
      ring = changes-more old mid new r c.loop-rest.invariant.ring c.move_few.ensures.ring;
      gathers = (
        so.0 ++ piece,
        piece-done so.0 c.loop-rest.rest.now _ _ c.args.ids.now _ so.1 c.split_at.ensures.front c.split_at.ensures.back,
        λ spare t has_t. gathers-on (table_of old es spare) (table_of mid es spare) r t so.0 (so.2 spare t has_t) (table_of new es spare) piece
            (key-named old es spare t c.args.to has_t) (c.move_few.ensures.gathers spare t has_t),
      );
      round = λ round. c.move_few.ensures.round (c.loop-rest.invariant.round round);
    }

pub returns-clause-gathers : goal.returns-clause-gathers
returns-clause-gathers c spare t has_t =
    let so = c.loop-rest.invariant.gathers in let rest = c.loop-rest.rest.now in
    let none : rest ≡ [] = nil_from_length rest (grind arith) in
    let all = sym (append-nil so.0) ∙ ap (λ ys. so.0 ++ ys) (sym none) ∙ so.1 in
    subst (Gathers (table_of c.args.nodes.now c.args.names.now.entries spare) (table_of c.loop-rest.nodes c.args.names.now.entries spare) c.args.r t) all
    (so.2 spare t has_t)
