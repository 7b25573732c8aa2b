-- Sources and sinks over memory, whose failures are chosen beforehand.
use Rattle.std.specs.Prelude.{ℕ, ◌+◌, ◌-◌, ◌^◌, ◌≤◌, List, ◌++◌, length, take, min, Contains, ◌⊎◌, IsSomeAnd}
use Rattle.std.specs.declared.option.Option.{Option}
use Rattle.std.specs.declared.option.Option.TheVariants.{None, Some}
use Rattle.outside.specs.Faults.{one_more}

-- A source over bytes: where it stands, the most that one call gives, the numbers of the calls that fail
-- (counted from 1), the place from which every call fails, the calls made and the faults so far.
pub record Feed : Type 0 where
  pub bytes : List ℕ
  pub at : ℕ
  pub piece : ℕ
  pub calls : List ℕ
  pub stop : Option ℕ
  pub made : ℕ
  pub faults : ℕ

-- the number of the next call, which stays at the end of 64 bits
abbrev pub next_number : ℕ → ℕ
next_number made = min (made + 1) (2 ^ 64 - 1)

-- where nothing more is given: at the stop, or at the end of the bytes
abbrev pub end_at : Option ℕ → List ℕ → ℕ
end_at None bytes = length bytes
end_at (Some stop) bytes = min stop (length bytes)

-- a call of this number fails: it is listed, or the source stands at its stop
abbrev pub Fails : Feed → ℕ → Type 0
Fails feed number = Contains feed.calls number ⊎ IsSomeAnd feed.stop (λ stop. stop ≤ feed.at)

abbrev pub FailsNext : Feed → Type 0
FailsNext feed = Fails feed (next_number feed.made)

-- how many bytes a call gives that doesn't fail
abbrev pub given : Feed → ℕ → ℕ
given feed room = min room (min feed.piece (end_at feed.stop feed.bytes - feed.at))

-- the source after a call that gave so many bytes: all else but the number of calls is as it was
abbrev pub after_giving : Feed → ℕ → Feed
after_giving feed count = record feed { at = feed.at + count; made = next_number feed.made }

-- the source after a call that failed
abbrev pub after_failing : Feed → Feed
after_failing feed = record feed { made = next_number feed.made; faults = one_more feed.faults }

-- a sink over memory: what it was given, the most that one call takes, the calls that fail,
-- the number of bytes from which every call fails, the calls made and the faults so far
pub record Store : Type 0 where
  pub bytes : List ℕ
  pub piece : ℕ
  pub calls : List ℕ
  pub stop : ℕ
  pub made : ℕ
  pub faults : ℕ

abbrev pub RefusesNext : Store → Type 0
RefusesNext store = Contains store.calls (next_number store.made) ⊎ (store.stop ≤ length store.bytes)

abbrev pub accepted : Store → ℕ → ℕ
accepted store offered = min offered (min store.piece (store.stop - length store.bytes))

-- the sink after a call that took so many bytes of a piece: all else but the number of calls is as it was
abbrev pub after_taking : Store → List ℕ → ℕ → Store
after_taking store piece count = record store { bytes = store.bytes ++ take count piece; made = next_number store.made }

-- the sink after a call that failed
abbrev pub after_refusing : Store → Store
after_refusing store = record store { made = next_number store.made; faults = one_more store.faults }
