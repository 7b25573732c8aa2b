-- A count of faults: a success leaves it as it is, and a failure raises it by one.
use Rattle.std.specs.Prelude.{◌≡◌, ℕ, ◌+◌, ◌-◌, ◌^◌, min, max, OnOk, OnErr}
use Rattle.std.specs.declared.result.Result.{Result}

-- One fault more. The count never falls, and stays at 2^64 - 1, where a counter of 64 bits ends.
abbrev pub one_more : ℕ → ℕ
one_more before = max before (min (before + 1) (2 ^ 64 - 1))

-- the count rose by one from before to now, or stands at its end
abbrev pub Rose : ℕ → ℕ → Type 0
Rose before now = now ≡ one_more before

-- Every failure is counted, and nothing else is. So none is hidden behind a success, and none is made up.
pub record CountsFaults {T E : Type 0} (before now : ℕ) (result : Result T E) : Type 0 where
  pub ok : OnOk result (now ≡ before)
  pub failed : OnErr result (Rose before now)
