-- the names so far have no number
use Rattle.std.proofs.Common.{◌≡◌, ◌+◌, ◌≤◌, is_some, take}
use Rattle.std.specs.Prelude.{OnSome}
use Rattle.staging.specs.Maps.{top_of}
use Rattle.levels.specs.Changes.{Loses}
use Rattle.levels.proofs.numbers.unpoint.Given as goal

abbrev pub invariant-loop-id : goal.invariant-loop-id
invariant-loop-id l = record {
  lost : Loses (take l.id-index l.gone) (top_of l.fn.numbers) (top_of l.numbers);
  staged : is_some l.numbers.top ≡ is_some l.fn.numbers.top;
  base : OnSome l.fn.numbers.top (l.numbers.base ≡ l.fn.numbers.base);
  room : l.fn.numbers.spare ≤ l.numbers.spare + l.id-index;
}
