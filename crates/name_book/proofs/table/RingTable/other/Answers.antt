use Rattle.std.proofs.Common.{◌≡◌, ◌≢◌, ℕ, ◌<◌, List, Option, Some, None, sym, ap, ◌∙◌}
use Rattle.std.specs.Prelude.{MatchOption}
use Rattle.node_pool.specs.declared.pool.Key.{Key}
use Rattle.node_pool.specs.Nodes.{Nodes, SameRing, value_at}
use Rattle.node_pool.specs.Laws.{RingsGoRound}
use Rattle.name_book.specs.Books.{Table, AreRung, has}
use Rattle.name_book.specs.Tables.{AreKeys, key_of, table_of}
use Rattle.name_book.proofs.Entries.{names-keys}
use Rattle.name_book.proofs.TableLemmas.{keys-rung, named-key, one_key, one_name, rung-keys}
use Rattle.name_book.proofs.table.RingTable.other.Goals as goal

pub find_key-key-requires : goal.find_key-key-requires
find_key-key-requires c =
    sym (names-keys c.self.inside.names.entries c.args.a) ∙ ap (λ (t : Table). has t c.args.a) c.self.view_is ∙ c.requires.live

other-name : (nodes : Nodes ℕ) (es : List (ℕ × Key)) (own : AreKeys nodes es) (rings : RingsGoRound 2 nodes) (spare r : ℕ) (below : r < 2) (a : ℕ) (key : Key)
    (at_a : key_of es a ≡ Some key) (o : Option ℕ)
    → MatchOption o ((k : Key) → SameRing nodes r key k → k ≡ key) (λ b. (k : Key) × SameRing nodes r key k × (k ≢ key) × (value_at nodes k ≡ Some b))
    → MatchOption o ((x : ℕ) → AreRung (table_of nodes es spare) r a x → x ≡ a) (λ b. AreRung (table_of nodes es spare) r a b × b ≢ a)
other-name nodes es own rings spare r below a key at_a None alone = λ x rung.
    let k = named-key nodes es spare x rung.to in
    let same = alone k.0 (rung-keys nodes es own rings spare r below a x key k.0 at_a k.1 rung) in
    one_name nodes es own x a key (k.1 ∙ ap Some same) at_a
other-name nodes es own rings spare r below a key at_a (Some b) (k, ring, apart, value) =
    let at_b = (own b k).1 value in (
      keys-rung nodes es own rings spare r below a b key k at_a at_b ring,
      λ same. apart (one_key nodes es own b k key at_b (ap (key_of es) same ∙ at_a)),
    )

pub returns : goal.returns
returns c =
    rw (← c.self.view_is) (other-name c.self.inside.nodes c.self.inside.names.entries c.self.invariant.own c.self.invariant.rings c.self.inside.spare
    c.args.r c.requires.r_in_range c.args.a c.find_key-key.result c.find_key-key.ensures c.name_after.result c.name_after.ensures)
