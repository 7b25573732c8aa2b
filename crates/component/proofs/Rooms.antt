-- How many bytes a walk over parents takes: by far fewer than memory has.
use Prim.Native.Nat.{max}
use prog.Memory.{up}
use Rattle.std.proofs.Common.{ℕ, zero, suc, ◌+◌, ◌*◌, ◌<◌, ◌≤◌, arith, lit<}

abbrev pub covers_room : ℕ → ℕ
covers_room w = up 8 (0 + up 8 (max 48 (max (8 + up 8 (32 + up 8 (0 + w * 8))) 1)))

pub covers_fits : (w : ℕ) → w ≤ 2 → covers_room w < 9223372036854775808
covers_fits zero narrow = lit< tt
covers_fits (suc zero) narrow = lit< tt
covers_fits (suc (suc zero)) narrow = lit< tt
covers_fits (suc (suc (suc w))) narrow = absurd (omega (arith, narrow))
