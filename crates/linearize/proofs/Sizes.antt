-- Structs of a narrow width lie in a small part of memory.
use Rattle.std.proofs.Common.{ℕ, ◌+◌, ◌*◌, ◌^◌, ◌<◌, ◌≤◌, max, arith}
use Rattle.std.proofs.Math.Nat.{mul-le-mul}
use prog.Memory.{up}

padded : (x m : ℕ) → x ≤ m → up 8 x ≤ m + 8
padded x m h = omega arith

pub words_fit : (w : ℕ) → 64 * w < 2 ^ 32 → up 8 (0 + w * 8) < 2 ^ 63
words_fit w narrow = let a = padded (0 + w * 8) (2 ^ 30) (omega arith) in omega arith

-- a queue, three lists and three sets
pub scratch_fits : (w : ℕ) → 64 * w < 2 ^ 32 → up 8 (32 + up 8 (up 8 (up 8 (72 + up 8 (0 + w * 8)) + up 8 (0 + w * 8)) + up 8 (0 + w * 8))) < 2 ^ 63
scratch_fits w narrow =
    let words : ℕ = up 8 (0 + w * 8) in
    let one : ℕ = up 8 (72 + words) in
    let two : ℕ = up 8 (one + words) in
    let three : ℕ = up 8 (two + words) in
    bounded (w * 8) words one two three (up 8 (32 + three)) (omega arith)
    (plain (0 + w * 8)) (plain (72 + words)) (plain (one + words)) (plain (two + words)) (plain (32 + three))
  where
    plain : (x : ℕ) → up 8 x ≤ x + 8
    plain x = omega arith

    bounded : (x a b c d e : ℕ) → x ≤ 2 ^ 30 → a ≤ 0 + x + 8 → b ≤ 72 + a + 8 → c ≤ b + a + 8 → d ≤ c + a + 8 → e ≤ 32 + d + 8 → e < 2 ^ 63
    bounded x a b c d e small ha hb hc hd he = omega arith

pub offset_fits : (w place : ℕ) → 64 * w < 2 ^ 32 → place < 64 * w → place * up 8 (0 + w * 8) < 2 ^ 64
offset_fits w place narrow inside =
    let a : up 8 (0 + w * 8) ≤ 2 ^ 31 = (let b = padded (0 + w * 8) (2 ^ 30) (omega arith) in omega arith) in
    let b : place ≤ 2 ^ 32 = omega arith in
    let c = mul-le-mul b a in
    omega (arith, c)

-- an answer with a set
pub answer_fits : (w : ℕ) → 64 * w < 2 ^ 32 → up 8 (max (8 + up 8 (0 + w * 8)) 1) < 2 ^ 63
answer_fits w narrow =
    let a = padded (0 + w * 8) (2 ^ 30) (omega arith) in
    let b : max (8 + up 8 (0 + w * 8)) 1 ≤ 2 ^ 31 = omega arith in
    let c = padded (max (8 + up 8 (0 + w * 8)) 1) (2 ^ 31) b in
    omega arith

-- a group: two sets, a rate and a position
pub group_fits : (w : ℕ) → 64 * w < 2 ^ 32
    → up 8 (up 8 (up 8 (up 8 (0 + up 8 (0 + w * 8)) + up 8 (0 + w * 8)) + 16) + 8) < 2 ^ 63
group_fits w narrow =
    let words : ℕ = up 8 (0 + w * 8) in
    let one : ℕ = up 8 (0 + words) in
    let two : ℕ = up 8 (one + words) in
    let three : ℕ = up 8 (two + 16) in
    bounded (w * 8) words one two three (up 8 (three + 8)) (omega arith) (plain (0 + w * 8)) (plain (0 + words)) (plain (one + words)) (plain (two + 16))
    (plain (three + 8))
  where
    plain : (x : ℕ) → up 8 x ≤ x + 8
    plain x = omega arith

    bounded : (x a b c d e : ℕ) → x ≤ 2 ^ 30 → a ≤ 0 + x + 8 → b ≤ 0 + a + 8 → c ≤ b + a + 8 → d ≤ c + 16 + 8 → e ≤ d + 8 + 8 → e < 2 ^ 63
    bounded x a b c d e small ha hb hc hd he = omega arith
