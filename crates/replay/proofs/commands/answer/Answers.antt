use Rattle.std.proofs.Common.{◌≡◌, subst, refl, arith}
use Rattle.replay.specs.declared.session.Piece.{Piece}
use Rattle.replay.specs.Sessions.{IsLine}
use Rattle.replay.proofs.commands.answer.Goals as goal

pub returns-in-Whole-clause-line : goal.returns-in-Whole-clause-line
returns-in-Whole-clause-line g c line is = let e : line ≡ c.in-Whole.bytes.now = subst (λ (p : Piece). IsLine p line) c.in-Whole.is is in
    rw e c.read.ensures.line

pub returns-in-TooLong-clause-line : goal.returns-in-TooLong-clause-line
returns-in-TooLong-clause-line g c line is answer told state stands = (state, stands, rw told (subst (λ (p : Piece). IsLine p line) c.in-TooLong.is is, refl))

-- that the graph fits in memory is asked of the caller too
pub read-requires : goal.read-requires
read-requires g c = assumption

pub returns-in-Whole-clause-suits : goal.returns-in-Whole-clause-suits
returns-in-Whole-clause-suits g c line is =
    let e : line ≡ c.in-Whole.bytes.now = subst (λ (p : Piece). IsLine p line) c.in-Whole.is is in rw e c.read.ensures.suits

pub returns-in-Whole-clause-additions : goal.returns-in-Whole-clause-additions
returns-in-Whole-clause-additions g c = c.read.ensures.additions

pub returns-in-Whole-clause-room : goal.returns-in-Whole-clause-room
returns-in-Whole-clause-room g c = c.read.ensures.room

pub returns-in-TooLong-clause-suits : goal.returns-in-TooLong-clause-suits
returns-in-TooLong-clause-suits g c line is answer told = rw told (subst (λ (p : Piece). IsLine p line) c.in-TooLong.is is)

pub returns-in-TooLong-clause-additions : goal.returns-in-TooLong-clause-additions
returns-in-TooLong-clause-additions g c = omega arith

pub returns-in-TooLong-clause-room : goal.returns-in-TooLong-clause-room
returns-in-TooLong-clause-room g c = c.requires.room
