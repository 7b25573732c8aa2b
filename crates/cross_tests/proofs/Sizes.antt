-- Structs of at most two words a set lie in a small part of memory.
use Rattle.std.proofs.Common.{ℕ, zero, suc, ◌+◌, ◌*◌, ◌^◌, ◌<◌, ◌≤◌, arith, lit<}
use prog.Memory.{up}

-- a queue, three lists and three sets
pub scratch_fits : (w : ℕ) → w ≤ 2 → up 8 (32 + up 8 (up 8 (up 8 (72 + up 8 (0 + w * 8)) + up 8 (0 + w * 8)) + up 8 (0 + w * 8))) < 2 ^ 63
scratch_fits zero few = lit< tt
scratch_fits (suc zero) few = lit< tt
scratch_fits (suc (suc zero)) few = lit< tt
scratch_fits (suc (suc (suc w))) few = absurd (omega (arith, few))
