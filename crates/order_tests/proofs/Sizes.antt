-- Values of at most two words a set lie in a small part of memory.
use Prim.Native.Nat.{max}
use Rattle.std.proofs.Common.{ℕ, zero, suc, ◌+◌, ◌*◌, ◌^◌, ◌<◌, ◌≤◌, arith, lit<}
use prog.Memory.{up}

-- a queue, three lists and three sets
abbrev pub scratch_room : ℕ → ℕ
scratch_room w = up 8 (32 + up 8 (up 8 (up 8 (72 + up 8 (0 + w * 8)) + up 8 (0 + w * 8)) + up 8 (0 + w * 8)))

pub scratch_fits : (w : ℕ) → w ≤ 2 → scratch_room w < 2 ^ 63
scratch_fits zero few = lit< tt
scratch_fits (suc zero) few = lit< tt
scratch_fits (suc (suc zero)) few = lit< tt
scratch_fits (suc (suc (suc w))) few = absurd (omega (arith, few))

abbrev pub cluster_room : ℕ → ℕ
cluster_room w =
    up 8 (up 8 (32 + up 8 (up 8 (0 + up 8 (0 + w * 8)) + up 8 (0 + up 8 (max (8 + up 8 (up 1 (up 8 (0 + up 8 (0 + 1 * up 8
    (up 8 (16 + up 8 (0 + w * 8)) + up 8 (0 + w * 8)))) + 8) + 0)) 32)))) + 104)

pub cluster_fits : (w : ℕ) → w ≤ 2 → cluster_room w < 2 ^ 63
cluster_fits zero few = lit< tt
cluster_fits (suc zero) few = lit< tt
cluster_fits (suc (suc zero)) few = lit< tt
cluster_fits (suc (suc (suc w))) few = absurd (omega (arith, few))

abbrev pub work_room : ℕ → ℕ
work_room w = up 8 (72 + up 8 (216 + scratch_room w))

pub work_fits : (w : ℕ) → w ≤ 2 → work_room w < 2 ^ 63
work_fits zero few = lit< tt
work_fits (suc zero) few = lit< tt
work_fits (suc (suc zero)) few = lit< tt
work_fits (suc (suc (suc w))) few = absurd (omega (arith, few))

-- a struct of an allocator and what works in it
pub room_fits : (w : ℕ) → w ≤ 2 → up 8 (0 + work_room w) < 2 ^ 63
room_fits zero few = lit< tt
room_fits (suc zero) few = lit< tt
room_fits (suc (suc zero)) few = lit< tt
room_fits (suc (suc (suc w))) few = absurd (omega (arith, few))

-- a set, and a list of rows of two sets each
abbrev pub graph_room : ℕ → ℕ
graph_room w =
    up 8 (up 8 (0 + up 8 (0 + w * 8)) + up 8 (0 + up 8 (max (8 + up 8 (up 1 (up 8 (0 + up 8 (0 + 1 * up 8
    (up 8 (16 + up 8 (0 + w * 8)) + up 8 (0 + w * 8)))) + 8) + 0)) 32)))

pub graph_fits : (w : ℕ) → w ≤ 2 → graph_room w < 2 ^ 63
graph_fits zero few = lit< tt
graph_fits (suc zero) few = lit< tt
graph_fits (suc (suc zero)) few = lit< tt
graph_fits (suc (suc (suc w))) few = absurd (omega (arith, few))

-- an order of six lists, and a scratch
pub order_room_fits : (w : ℕ) → w ≤ 2 → up 8 (144 + scratch_room w) < 2 ^ 63
order_room_fits zero few = lit< tt
order_room_fits (suc zero) few = lit< tt
order_room_fits (suc (suc zero)) few = lit< tt
order_room_fits (suc (suc (suc w))) few = absurd (omega (arith, few))
