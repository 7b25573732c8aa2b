-- To share a ring is an equivalence among the live names.
use Rattle.std.proofs.Common.{ℕ, refl}
use Rattle.node_pool.proofs.Cycles.{Reaches-trans}
use Rattle.name_book.specs.Books.{Table, IsNamed, after, AreRung}

pub rung-itself : (table : Table) (r a : ℕ) → IsNamed table a → AreRung table r a a
rung-itself table r a named = record { from = named; to = named; steps = (0, refl); back = (0, refl) }

pub rung-turned : (table : Table) (r a b : ℕ) → AreRung table r a b → AreRung table r b a
rung-turned table r a b rung = record { from = rung.to; to = rung.from; steps = rung.back; back = rung.steps }

pub rung-linked : (table : Table) (r a b c : ℕ) → AreRung table r a b → AreRung table r b c → AreRung table r a c
rung-linked table r a b c one two =
    record {
      from = one.from;
      to = two.to;
      steps = Reaches-trans (after table r) a b c one.steps two.steps;
      back = Reaches-trans (after table r) c b a two.back one.back;
    }
