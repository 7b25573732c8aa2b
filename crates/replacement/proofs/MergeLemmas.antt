-- Parts that stand in both of two levels put the same slopes into both, and change no verdict where the others reach far enough.
use Rattle.std.proofs.Common.{◌≡◌, ℕ, ◌+◌, ◌*◌, ◌≤◌, ◌↔◌, ◌⊎◌, Bool, cond, zero, suc, List, [], ◌∷◌, ◌++◌, length, length-append, replicate, inl, inr, ℤ, pos, ◌≤ℤ◌, refl, sym, ap, subst, ◌∙◌, arith}
use Rattle.std.specs.Prelude.{Contains, sum_by}
use Rattle.std.specs.Int.Signed.{lt_z}
use Rattle.std.specs.List.Sorted.{IsPermutation}
use Rattle.std.proofs.lemmas.List.{append-nil, length-replicate}
use Rattle.std.proofs.lemmas.List.Folds.{sum_by-replicate}
use Rattle.std.proofs.lemmas.List.Elements.{Contains-append_left, Contains-append_right, Contains-append_cases}
use Rattle.std.proofs.lemmas.List.Sorted.{Contains-permutation, IsPermutation-sym, IsPermutation-refl, sum_by-IsPermutation}
use Rattle.std.proofs.lemmas.List.Sums.{sum_by-append, count_by-le-length}
use Rattle.lists.proofs.Entries.{Contains-head, Contains-later, Contains-cases, none_in_empty}
use Rattle.fee_rate.specs.declared.rates.Sum.{Sum}
use Rattle.fee_rate.specs.Rates.{AtMost}
use Rattle.graphs.specs.declared.names.Verdict.{Verdict}
use Rattle.graphs.specs.declared.names.Verdict.TheVariants.{Better, Worse, Equal, Incomparable}
use Rattle.graphs.specs.Rates.{sum_of, Falls}
use Rattle.graphs.specs.Diagrams.{corners_of, Compares, IsAtOrAbove, JoinsEqualRates}
use Rattle.graphs.proofs.CornerLemmas.{sizes-rest, size_of-cons}
use Rattle.graphs.proofs.TangentLemmas.{falls-tail, falls_after}
use Rattle.replacement.specs.Changes.{HaveSizes, CoverDifference, CommonPartsKeepVerdicts, BestCommonPartsKeepVerdicts}
use Rattle.replacement.proofs.SlopeLists.{above, not_above, all_inserted, all_inserted_falls, all_inserted_sum, AllFit, AreBelow, same_falling, same_with_all}
use Rattle.replacement.proofs.SlopeHeights.{HaveSlopes, slopes_of, slope_most, slope_pays, slopes_sum, above_by_slopes, parts_fall, common_scale, slope_over, scale_some, have_slopes}

-- ---- members
either_some : (xs ys : List Sum) → HaveSizes xs → HaveSizes ys → HaveSizes (xs ++ ys)
either_some xs ys one other part h = elim (Contains-append_cases xs ys part h) [ inl here ↦ one part here | inr there ↦ other part there ]

-- what falls behind others has at most their rates
lower_behind : (xs ys : List Sum) → Falls (xs ++ ys) → HaveSizes (xs ++ ys) → (x y : Sum) → Contains xs x → Contains ys y → AtMost y x
lower_behind [] ys falls some x y here there = absurd (none_in_empty x here)
lower_behind (z ∷ zs) ys falls some x y here there = elim (Contains-cases z x zs here) [
  | inl it ↦ subst (λ (s : Sum). AtMost y s) it (falls_after z (zs ++ ys) falls (sizes-rest z (zs ++ ys) some) y (Contains-append_right zs ys y there))
  | inr later ↦ lower_behind zs ys (falls-tail z (zs ++ ys) falls) (sizes-rest z (zs ++ ys) some) x y later there
]

-- ---- one level, with the upper parts and without
record IsLevel (alone upper tail low whole : List Sum) : Type 0 where
  without : IsPermutation (alone ++ tail) low
  with : IsPermutation (alone ++ (upper ++ tail)) whole

-- what a level adds up to, by its lists
without_sum : (f : Sum → ℕ) (alone upper tail low whole : List Sum) → IsLevel alone upper tail low whole → sum_by f low ≡ sum_by f alone + sum_by f tail
without_sum f alone upper tail low whole level =
    sum_by-IsPermutation f (alone ++ tail) low level.without ∙ sum_by-append f alone tail

with_sum : (f : Sum → ℕ) (alone upper tail low whole : List Sum) → IsLevel alone upper tail low whole → sum_by f whole ≡ sum_by f upper + sum_by f low
with_sum f alone upper tail low whole level =
    omega (
      arith,
      sum_by-IsPermutation f (alone ++ (upper ++ tail)) whole level.with,
      sum_by-append f alone (upper ++ tail),
      sum_by-append f upper tail,
      without_sum f alone upper tail low whole level,
    )

front_have : (scale : ℕ) (slope : Sum → ℤ) (xs ys : List Sum) → HaveSlopes scale slope (xs ++ ys) → HaveSlopes scale slope xs
front_have scale slope xs ys have part h = have part (Contains-append_left xs ys part h)

back_have : (scale : ℕ) (slope : Sum → ℤ) (xs ys : List Sum) → HaveSlopes scale slope (xs ++ ys) → HaveSlopes scale slope ys
back_have scale slope xs ys have part h = have part (Contains-append_right xs ys part h)

from_permutation : {P : Sum → Type 0} (xs ys : List Sum) → IsPermutation xs ys → ((part : Sum) → Contains xs part → P part)
    → (part : Sum) → Contains ys part → P part
from_permutation xs ys same all part h = all part (Contains-permutation ys xs part (IsPermutation-sym xs ys same) h)

module _ (scale : ℕ) (slope : Sum → ℤ) (upper tail : List Sum)
    (have_upper : HaveSlopes scale slope upper) (have_tail : HaveSlopes scale slope tail) where
  low_have : (alone low whole : List Sum) → HaveSlopes scale slope alone → IsLevel alone upper tail low whole → HaveSlopes scale slope low
  low_have alone low whole have level =
      from_permutation (alone ++ tail) low level.without
      (λ part h. elim (Contains-append_cases alone tail part h) [ inl here ↦ have part here | inr there ↦ have_tail part there ])

  whole_have : (alone low whole : List Sum) → HaveSlopes scale slope alone → IsLevel alone upper tail low whole → HaveSlopes scale slope whole
  whole_have alone low whole have level =
      from_permutation (alone ++ (upper ++ tail)) whole level.with
      (λ part h. elim (Contains-append_cases alone (upper ++ tail) part h) [
        | inl here ↦ have part here
        | inr there ↦ elim (Contains-append_cases upper tail part there) [ inl first ↦ have_upper part first | inr behind ↦ have_tail part behind ]
      ])

  -- the slopes of the whole level are those without the upper parts, and theirs put in
  whole_slopes : (alone low whole ls ws : List Sum) → HaveSlopes scale slope alone → IsLevel alone upper tail low whole
      → JoinsEqualRates low ls → JoinsEqualRates whole ws → slopes_of slope whole ≡ all_inserted (slopes_of slope upper) (slopes_of slope low)
  whole_slopes alone low whole ls ws have level joins_ls joins_ws =
      same_falling (slopes_of slope whole) (all_inserted (slopes_of slope upper) (slopes_of slope low))
      (parts_fall scale slope whole ws (whole_have alone low whole have level) joins_ws)
      (all_inserted_falls (slopes_of slope upper) (slopes_of slope low) (parts_fall scale slope low ls (low_have alone low whole have level) joins_ls))
      (λ f. omega (
        arith,
        slopes_sum scale slope f whole,
        with_sum (λ part. part.size * f (slope part)) alone upper tail low whole level,
        all_inserted_sum f (slopes_of slope upper) (slopes_of slope low),
        slopes_sum scale slope f upper,
        slopes_sum scale slope f low,
      ))

-- ---- how many slopes there are, and how many above one
run_is : (n : ℕ) (a b : ℤ) → Contains (replicate n a) b → a ≡ b
run_is zero a b h = absurd (none_in_empty b h)
run_is (suc n) a b h = elim (Contains-cases a b (replicate n a) h) [ inl it ↦ it | inr later ↦ run_is n a b later ]

module _ (slope : Sum → ℤ) where
  whose_slope : (parts : List Sum) (m : ℤ) → Contains (slopes_of slope parts) m → (part : Sum) × Contains parts part × (slope part ≡ m)
  whose_slope [] m h = absurd (none_in_empty m h)
  whose_slope (x ∷ xs) m h = elim (Contains-append_cases (replicate x.size (slope x)) (slopes_of slope xs) m h) [
    | inl here ↦ (x, Contains-head x xs, run_is x.size (slope x) m here)
    | inr there ↦ let found = whose_slope xs m there in (found.0, Contains-later x found.0 xs found.1, found.2)
  ]

  slopes_length : (parts : List Sum) → length (slopes_of slope parts) ≡ (sum_of parts).size
  slopes_length [] = refl
  slopes_length (x ∷ xs) =
      omega (
        arith,
        length-append (replicate x.size (slope x)) (slopes_of slope xs),
        length-replicate x.size (slope x),
        slopes_length xs,
        size_of-cons x xs,
      )

  above_some : (m : ℤ) (parts : List Sum) → above m (slopes_of slope parts) ≤ (sum_of parts).size
  above_some m parts = omega (arith, count_by-le-length (lt_z m) (slopes_of slope parts), slopes_length parts)

  above_none : (m : ℤ) (parts : List Sum) → ((part : Sum) → Contains parts part → slope part ≤ℤ m) → above m (slopes_of slope parts) ≡ 0
  above_none m [] low = refl
  above_none m (x ∷ xs) low =
      let one : ℤ → ℕ = λ a. cond (lt_z m a) 1 0 in
      let none : x.size * one (slope x) ≡ x.size * 0 = ap (λ (b : Bool). x.size * cond b 1 0) (not_above m (slope x) (low x (Contains-head x xs))) in
      omega (
        arith,
        sum_by-append one (replicate x.size (slope x)) (slopes_of slope xs),
        sum_by-replicate one x.size (slope x),
        none,
        above_none m xs (λ part h. low part (Contains-later x part xs h)),
      )

-- ---- two levels
-- each upper part has a fee of at least 0, or the tail, of rates of at most its own, covers the difference of the two lists
abbrev Reaches : List Sum → List Sum → List Sum → List Sum → Type 0
Reaches one other upper tail =
    (part : Sum) → Contains upper part
    → (pos 0 ≤ℤ part.fee) ⊎ (CoverDifference one other tail × ((worse : Sum) → Contains tail worse → AtMost worse part))

turned : (one other upper tail : List Sum) → Reaches one other upper tail → Reaches other one upper tail
turned one other upper tail reaches part h = elim (reaches part h) [
  | inl pays ↦ inl pays
  | inr (covers, worse) ↦ inr (record { main = covers.top; top = covers.main }, worse)
]

module _ (scale : ℕ) (slope : Sum → ℤ) (some : 1 ≤ scale) (upper tail : List Sum)
    (have_upper : HaveSlopes scale slope upper) (have_tail : HaveSlopes scale slope tail)
    (one other : List Sum) (have_one : HaveSlopes scale slope one) (have_other : HaveSlopes scale slope other) where
  low_above : (m : ℤ) (alone low whole : List Sum) → IsLevel alone upper tail low whole → ((worse : Sum) → Contains tail worse → slope worse ≤ℤ m)
      → above m (slopes_of slope low) ≤ (sum_of alone).size
  low_above m alone low whole level worse =
      let each : Sum → ℕ = λ part. part.size * cond (lt_z m (slope part)) 1 0 in
      let count : ℤ → ℕ = λ a. cond (lt_z m a) 1 0 in
      omega (
        arith,
        slopes_sum scale slope count low,
        without_sum each alone upper tail low whole level,
        slopes_sum scale slope count alone,
        slopes_sum scale slope count tail,
        above_some slope m alone,
        above_none slope m tail worse,
      )

  low_length : (alone low whole : List Sum) → IsLevel alone upper tail low whole → length (slopes_of slope low) ≡ (sum_of alone).size + (sum_of tail).size
  low_length alone low whole level = slopes_length slope low ∙ without_sum (λ part. part.size) alone upper tail low whole level

  upper_fit : (low_one low_other whole_one whole_other : List Sum) → IsLevel one upper tail low_one whole_one → IsLevel other upper tail low_other whole_other
      → Reaches one other upper tail → AllFit (slopes_of slope upper) (slopes_of slope low_one) (slopes_of slope low_other)
  upper_fit low_one low_other whole_one whole_other level_one level_other reaches m h =
      let found = whose_slope slope upper m h in
      let part : Sum = found.0 in
      let has = have_upper part found.1 in
      elim (reaches part found.1) [
        | inl pays ↦ inr (subst (λ (z : ℤ). pos 0 ≤ℤ z) found.2 (slope_pays scale part (slope part) has.0 has.1 pays))
        | inr (covers, worse) ↦
            let low : (w : Sum) → Contains tail w → slope w ≤ℤ m = λ w k. (
            let its = have_tail w k in
            subst (λ (z : ℤ). slope w ≤ℤ z) found.2 (slope_most scale w part (slope w) (slope part) its.0 has.0 its.1 has.1 (worse w k))) in
            inl (
              omega (arith, low_above m one low_one whole_one level_one low, low_length other low_other whole_other level_other, covers.main),
              omega (arith, low_above m other low_other whole_other level_other low, low_length one low_one whole_one level_one, covers.top),
            )
      ]

  -- one diagram is at or above the other exactly where it is with the upper parts
  above_with : (low_one low_other whole_one whole_other ls us ws vs : List Sum)
      → IsLevel one upper tail low_one whole_one → IsLevel other upper tail low_other whole_other → Reaches one other upper tail
      → JoinsEqualRates low_one ls → JoinsEqualRates low_other us → JoinsEqualRates whole_one ws → JoinsEqualRates whole_other vs
      → IsAtOrAbove (corners_of us) (corners_of ls) ↔ IsAtOrAbove (corners_of vs) (corners_of ws)
  above_with low_one low_other whole_one whole_other ls us ws vs level_one level_other reaches joins_ls joins_us joins_ws joins_vs =
      let have_ls = low_have scale slope upper tail have_upper have_tail one low_one whole_one have_one level_one in
      let have_us = low_have scale slope upper tail have_upper have_tail other low_other whole_other have_other level_other in
      let have_ws = whole_have scale slope upper tail have_upper have_tail one low_one whole_one have_one level_one in
      let have_vs = whole_have scale slope upper tail have_upper have_tail other low_other whole_other have_other level_other in
      let without = above_by_slopes scale slope low_other low_one us ls some have_us have_ls joins_us joins_ls in
      let with = above_by_slopes scale slope whole_other whole_one vs ws some have_vs have_ws joins_vs joins_ws in
      let same = same_with_all (slopes_of slope upper) (slopes_of slope low_one) (slopes_of slope low_other)
      (parts_fall scale slope low_one ls have_ls joins_ls) (parts_fall scale slope low_other us have_us joins_us)
      (upper_fit low_one low_other whole_one whole_other level_one level_other reaches) in
      let is_one = whole_slopes scale slope upper tail have_upper have_tail one low_one whole_one ls ws have_one level_one joins_ls joins_ws in
      let is_other = whole_slopes scale slope upper tail have_upper have_tail other low_other whole_other us vs have_other level_other joins_us joins_vs in
      let put_in : AreBelow (slopes_of slope whole_one) (slopes_of slope whole_other)
      ≡ AreBelow (all_inserted (slopes_of slope upper) (slopes_of slope low_one)) (all_inserted (slopes_of slope upper) (slopes_of slope low_other)) =
      λ i. AreBelow (is_one i) (is_other i) in (
        λ above. with.1 (subst (λ (T : Type 0). T) (sym put_in) (same.0 (without.0 above))),
        λ above. without.1 (same.1 (subst (λ (T : Type 0). T) put_in (with.0 above))),
      )

-- ---- verdicts
same_verdict : (a b c d : List (ℕ × ℤ)) → IsAtOrAbove a b ↔ IsAtOrAbove c d → IsAtOrAbove b a ↔ IsAtOrAbove d c → (verdict : Verdict)
    → Compares a b verdict → Compares c d verdict
same_verdict a b c d up down Better h = (up.0 h.0, λ above. h.1 (down.1 above))
same_verdict a b c d up down Worse h = (λ above. h.0 (up.1 above), down.0 h.1)
same_verdict a b c d up down Equal h = (up.0 h.0, down.0 h.1)
same_verdict a b c d up down Incomparable h = (λ above. h.0 (up.1 above), λ above. h.1 (down.1 above))

module _ (mains tops upper tail low_main low_top main top old new before after : List Sum) (some_mains : HaveSizes mains) (some_tops : HaveSizes tops)
    (some_upper : HaveSizes upper) (some_tail : HaveSizes tail) (reaches : Reaches mains tops upper tail)
    (level_main : IsLevel mains upper tail low_main main) (level_top : IsLevel tops upper tail low_top top) (joins_old : JoinsEqualRates low_main old)
    (joins_new : JoinsEqualRates low_top new) (joins_before : JoinsEqualRates main before) (joins_after : JoinsEqualRates top after) where
  all : List Sum
  all = (mains ++ tops) ++ (upper ++ tail)

  all_some : HaveSizes all
  unfolding all
  all_some = either_some (mains ++ tops) (upper ++ tail) (either_some mains tops some_mains some_tops) (either_some upper tail some_upper some_tail)

  kept : (verdict : Verdict) → Compares (corners_of new) (corners_of old) verdict ↔ Compares (corners_of after) (corners_of before) verdict
  unfolding all
  kept verdict =
      let scale : ℕ = common_scale all in
      let slope : Sum → ℤ = slope_over scale in
      let have = have_slopes all all_some in
      let some = scale_some all all_some in
      let alone = front_have scale slope (mains ++ tops) (upper ++ tail) have in
      let both = back_have scale slope (mains ++ tops) (upper ++ tail) have in
      let of_mains = front_have scale slope mains tops alone in
      let of_tops = back_have scale slope mains tops alone in
      let of_upper = front_have scale slope upper tail both in
      let of_tail = back_have scale slope upper tail both in
      let up = above_with scale slope some upper tail of_upper of_tail mains tops of_mains of_tops low_main low_top main top old new before after
      level_main level_top reaches joins_old joins_new joins_before joins_after in
      let down = above_with scale slope some upper tail of_upper of_tail tops mains of_tops of_mains low_top low_main top main new old after before
      level_top level_main (turned mains tops upper tail reaches) joins_new joins_old joins_after joins_before in (
        same_verdict (corners_of new) (corners_of old) (corners_of after) (corners_of before) up down verdict,
        same_verdict (corners_of after) (corners_of before) (corners_of new) (corners_of old) (up.1, up.0) (down.1, down.0) verdict,
      )

pub best_common_parts_keep_verdicts : BestCommonPartsKeepVerdicts
best_common_parts_keep_verdicts mains tops upper tail low_main low_top main top old new before after verdict some_mains some_tops enough
    in_low_main in_low_top in_main in_top joins_old joins_new joins_before joins_after =
    kept mains tops upper tail low_main low_top main top old new before after some_mains some_tops
    (λ part h. enough.some part (Contains-append_left upper tail part h)) (λ part h. enough.some part (Contains-append_right upper tail part h))
    (λ part h. elim enough.enough [
      | inl pay ↦ inl (pay part h)
      | inr covers ↦ inr (covers, λ worse k. lower_behind upper tail enough.falling enough.some part worse h k)
    ])
    (record { without = in_low_main.same; with = in_main.same }) (record { without = in_low_top.same; with = in_top.same })
    joins_old joins_new joins_before joins_after verdict

-- without a tail, where all upper parts have fees of at least 0
pub common_parts_keep_verdicts : CommonPartsKeepVerdicts
common_parts_keep_verdicts mains tops common main top old new before after verdict all_mains all_tops all_common in_main in_top
    joins_old joins_new joins_before joins_after =
    let nothing : (alone level : List Sum) → IsPermutation (alone ++ common) level → IsLevel alone common [] alone level = λ alone level same. record {
      without = subst (λ zs. IsPermutation zs alone) (sym (append-nil alone)) (IsPermutation-refl alone);
      with = subst (λ zs. IsPermutation (alone ++ zs) level) (sym (append-nil common)) same;
    } in
    kept mains tops common [] mains tops main top old new before after all_mains.some all_tops.some all_common.some (λ part h. absurd (none_in_empty part h))
    (λ part h. inl (all_common.fees part h)) (nothing mains main in_main.same) (nothing tops top in_top.same)
    joins_old joins_new joins_before joins_after verdict
