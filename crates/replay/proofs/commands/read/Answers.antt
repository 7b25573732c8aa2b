use Rattle.std.proofs.Common.{ℕ, ◌≡◌, ◌*◌, ◌≤◌, refl, sym, subst, arith}
use Rattle.replay.proofs.SessionLemmas.{meaning_answers, meaning_suits, some_mined}
use Rattle.replay.proofs.commands.read.Goals as goal

pub returns-then-bytes-gt-MAX_LINE-clause-line : goal.returns-then-bytes-gt-MAX_LINE-clause-line
returns-then-bytes-gt-MAX_LINE-clause-line g c answer told state stands = (state, stands, rw told (c.if-bytes-gt-MAX_LINE.true, refl))

pub returns-clause-line : goal.returns-clause-line
returns-clause-line g c answer told =
    meaning_answers c.args.pool.now c.obey_unpaid.new.pool c.args.bytes.now _ answer c.if-bytes-gt-MAX_LINE.false c.read_line-line.ensures.meaning
    (c.obey_unpaid.ensures.answers answer told)

pub returns-clause-suits : goal.returns-clause-suits
returns-clause-suits g c answer told =
    meaning_suits c.args.pool.now c.obey_unpaid.new.pool c.args.bytes.now _ answer c.if-bytes-gt-MAX_LINE.false c.read_line-line.ensures.meaning
    (c.obey_unpaid.ensures.answers answer told)

pub obey_unpaid-requires : goal.obey_unpaid-requires
obey_unpaid-requires g c = record {
  name = refl;
  parts = refl;
  some = omega (arith, c.new.ensures);
  few = c.requires.few;
  room = subst (λ (n : ℕ). (n ≡ 32766) × (64 * g.row.W ≤ n)) (sym c.read_line-line.ensures.room) c.requires.room;
  mines = some_mined c.args.bytes.now _ c.read_line-line.ensures.meaning;
}

pub returns-then-bytes-gt-MAX_LINE-clause-suits : goal.returns-then-bytes-gt-MAX_LINE-clause-suits
returns-then-bytes-gt-MAX_LINE-clause-suits g c answer told = rw told c.if-bytes-gt-MAX_LINE.true

pub returns-then-bytes-gt-MAX_LINE-clause-additions : goal.returns-then-bytes-gt-MAX_LINE-clause-additions
returns-then-bytes-gt-MAX_LINE-clause-additions g c = omega arith

pub returns-then-bytes-gt-MAX_LINE-clause-room : goal.returns-then-bytes-gt-MAX_LINE-clause-room
returns-then-bytes-gt-MAX_LINE-clause-room g c = c.requires.room

pub returns-clause-additions : goal.returns-clause-additions
returns-clause-additions g c = c.obey_unpaid.ensures.additions

pub returns-clause-room : goal.returns-clause-room
returns-clause-room g c = c.obey_unpaid.ensures.room
