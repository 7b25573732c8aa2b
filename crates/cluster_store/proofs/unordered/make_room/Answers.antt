-- None of them has no order.
use Rattle.std.proofs.Common.{inl, inr, sym, true≢false}
use Rattle.std.specs.Prelude.{option_to_list}
use Rattle.std.proofs.lemmas.List.Elements.{Contains-append_cases}
use Rattle.cluster_store.proofs.unordered.make_room.Goals as goal

pub returns-else-is_last_unordered-clause-room : goal.returns-else-is_last_unordered-clause-room
returns-else-is_last_unordered-clause-room g c = λ (d, here, none). elim (Contains-append_cases c.args.rest.now (option_to_list c.args.last.now) d here) [
  | inl rest ↦ absurd (true≢false (sym (c.if-has_unordered.ensures.1 (d, rest, none))))
  | inr last ↦ absurd (true≢false (sym (c.if-is_last_unordered.ensures.1 (d, last, none))))
]
