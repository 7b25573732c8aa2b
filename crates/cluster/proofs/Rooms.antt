-- How many bytes values take: what a cluster or its room holds fits where that fits, and all of them at the widths that there are.
use Prim.Native.Nat.{max}
use prog.Memory.{up}
use Rattle.std.proofs.Common.{ℕ, ◌+◌, ◌*◌, ◌<◌, ◌≤◌, arith}

abbrev pub words_room : ℕ → ℕ
words_room w = up 8 (0 + w * 8)

abbrev pub dep_room : ℕ → ℕ
dep_room w =
    up 8 (up 8 (0 + up 8 (0 + w * 8)) + up 8 (0 + up 8 (max (8 + up 8 (up 1 (up 8 (0 + up 8 (0 + 1 * up 8 (up 8 (16 + up 8 (0 + w * 8))
    + up 8 (0 + w * 8)))) + 8) + 0)) 32)))

abbrev pub cluster_room : ℕ → ℕ
cluster_room w = up 8 (up 8 (32 + dep_room w) + 104)

abbrev pub scratch_room : ℕ → ℕ
scratch_room w = up 8 (32 + up 8 (up 8 (up 8 (72 + up 8 (0 + w * 8)) + up 8 (0 + w * 8)) + up 8 (0 + w * 8)))

pub dep_in_cluster : (w : ℕ) → cluster_room w < 9223372036854775808 → dep_room w < 9223372036854775808
dep_in_cluster w fits = field (dep_room w) fits
  where
    field : (d : ℕ) → up 8 (up 8 (32 + d) + 104) < 9223372036854775808 → d < 9223372036854775808
    field d fits = omega arith

pub words_in_dep : (w : ℕ) → dep_room w < 9223372036854775808 → words_room w < 9223372036854775808
words_in_dep w fits = field (words_room w) _ fits
  where
    field : (d e : ℕ) → up 8 (up 8 (0 + d) + up 8 (0 + e)) < 9223372036854775808 → d < 9223372036854775808
    field d e fits = omega arith

pub words_in_cluster : (w : ℕ) → cluster_room w < 9223372036854775808 → words_room w < 9223372036854775808
words_in_cluster w fits = words_in_dep w (dep_in_cluster w fits)

padded : (x m : ℕ) → x ≤ m → up 8 x ≤ m + 8
padded x m below = omega arith

pub dep_fits : (w : ℕ) → w ≤ 64 → dep_room w < 9223372036854775808
dep_fits w narrow =
    let x : ℕ = up 8 (0 + w * 8) in
    let ix : x ≤ 520 = padded (0 + w * 8) 512 (omega (arith, narrow)) in
    rows x ix (up 8 (16 + x)) (padded (16 + x) 536 (omega (arith, ix)))
  where
    whole : (x : ℕ) → x ≤ 520 → (f : ℕ) → f ≤ 2000 → up 8 (up 8 (0 + x) + up 8 (0 + f)) < 9223372036854775808
    whole x ix f below = omega arith

    row : (b : ℕ) → b ≤ 1072 → up 8 (max (8 + up 8 (up 1 (up 8 (0 + up 8 (0 + 1 * b)) + 8) + 0)) 32) ≤ 2000
    row b ib =
        let c : ℕ = up 8 (0 + 1 * b) in
        let ic : c ≤ 1080 = padded (0 + 1 * b) 1072 (omega (arith, ib)) in
        let d : ℕ = up 8 (0 + c) in
        let id : d ≤ 1088 = padded (0 + c) 1080 (omega (arith, ic)) in
        let e : ℕ = up 8 (up 1 (d + 8) + 0) in
        let ie : e ≤ 1112 = padded (up 1 (d + 8) + 0) 1104 (omega (arith, id)) in
        let high : max (8 + e) 32 ≤ 1120 = omega (arith, ie) in
        let if_ : up 8 (max (8 + e) 32) ≤ 1128 = padded (max (8 + e) 32) 1120 high in omega (arith, if_)

    rows : (x : ℕ) → x ≤ 520 → (a : ℕ) → a ≤ 544
        → up 8 (up 8 (0 + x) + up 8 (0 + up 8 (max (8 + up 8 (up 1 (up 8 (0 + up 8 (0 + 1 * up 8 (a + x))) + 8) + 0)) 32))) < 9223372036854775808
    rows x ix a ia =
        let f : ℕ = up 8 (max (8 + up 8 (up 1 (up 8 (0 + up 8 (0 + 1 * up 8 (a + x))) + 8) + 0)) 32) in
        let below : f ≤ 2000 = row (up 8 (a + x)) (padded (a + x) 1064 (omega (arith, ix, ia))) in
        whole x ix f below

pub scratch_fits : (w : ℕ) → w ≤ 64 → scratch_room w < 9223372036854775808
scratch_fits w narrow = small (up 8 (0 + w * 8)) (padded (0 + w * 8) 512 (omega (arith, narrow)))
  where
    small : (x : ℕ) → x ≤ 520 → up 8 (32 + up 8 (up 8 (up 8 (72 + x) + x) + x)) < 9223372036854775808
    small x low = omega arith

abbrev pub room_room : ℕ → ℕ
room_room w = up 8 (216 + scratch_room w)

-- a cluster's graph and lists, and the room in which orders are made
pub cluster_fits : (w : ℕ) → w ≤ 64 → cluster_room w < 9223372036854775808
cluster_fits w narrow =
    let x : ℕ = up 8 (0 + w * 8) in
    let ix : x ≤ 520 = padded (0 + w * 8) 512 (omega (arith, narrow)) in
    let a : ℕ = up 8 (16 + x) in
    let ia : a ≤ 544 = padded (16 + x) 536 (omega (arith, ix)) in
    let b : ℕ = up 8 (a + x) in
    let ib : b ≤ 1072 = padded (a + x) 1064 (omega (arith, ia, ix)) in
    let c : ℕ = up 8 (0 + 1 * b) in
    let ic : c ≤ 1080 = padded (0 + 1 * b) 1072 (omega (arith, ib)) in
    let d : ℕ = up 8 (0 + c) in
    let id : d ≤ 1088 = padded (0 + c) 1080 (omega (arith, ic)) in
    let e : ℕ = up 8 (up 1 (d + 8) + 0) in
    let ie : e ≤ 1112 = padded (up 1 (d + 8) + 0) 1104 (omega (arith, id)) in
    let high : max (8 + e) 32 ≤ 1120 = omega (arith, ie) in
    let f : ℕ = up 8 (max (8 + e) 32) in
    let if_ : f ≤ 1128 = padded (max (8 + e) 32) 1120 high in
    let k : ℕ = up 8 (0 + x) in
    let ik : k ≤ 528 = padded (0 + x) 520 (omega (arith, ix)) in
    let m : ℕ = up 8 (0 + f) in
    let im : m ≤ 1136 = padded (0 + f) 1128 (omega (arith, if_)) in
    let p : ℕ = up 8 (k + m) in
    let ip : p ≤ 1672 = padded (k + m) 1664 (omega (arith, ik, im)) in
    let q : ℕ = up 8 (32 + p) in
    let iq : q ≤ 1712 = padded (32 + p) 1704 (omega (arith, ip)) in
    let r = padded (q + 104) 1816 (omega (arith, iq)) in
    omega (arith, r)

pub room_fits : (w : ℕ) → w ≤ 64 → room_room w < 9223372036854775808
room_fits w narrow = whole (scratch_room w) (small (up 8 (0 + w * 8)) (padded (0 + w * 8) 512 (omega (arith, narrow))))
  where
    small : (x : ℕ) → x ≤ 520 → up 8 (32 + up 8 (up 8 (up 8 (72 + x) + x) + x)) ≤ 2000
    small x low = omega arith

    whole : (s : ℕ) → s ≤ 2000 → up 8 (216 + s) < 9223372036854775808
    whole s low = omega arith
