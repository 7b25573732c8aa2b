-- What a walk over two diagrams has found, up to the size at which it stands.
use Rattle.std.proofs.Common.{◌≡◌, ℕ, ◌≤◌, Option, List, [], ◌∷◌, ℤ, refl, sym, ◌∙◌, subst, inl, inr, arith}
use Rattle.std.proofs.lemmas.Bool.{cases_lt}
use Rattle.std.proofs.lemmas.Int.{ints}
use Rattle.std.specs.declared.cmp.Ordering.{Ordering}
use Rattle.std.specs.declared.cmp.Ordering.TheVariants.{Less, Equal, Greater}
use Rattle.lists.proofs.Entries.{first_of}
use Rattle.fee_rate.proofs.Orders.{below_at_most, same_at_most, same_back, at_most_chains}
use Rattle.fee_rate.specs.declared.rates.Sum.{Sum}
use Rattle.fee_rate.specs.Rates.{AtMost, Below, Same, ComparesRates}
use Rattle.graphs.specs.declared.names.Verdict.{Verdict}
use Rattle.graphs.specs.declared.names.Verdict.TheVariants.{Better, Worse, Incomparable}
use Rattle.graphs.specs.declared.names.Verdict.TheVariants.{Equal as Even}
use Rattle.graphs.specs.Diagrams.{height_at, IsAtOrAbove, Compares}
use Rattle.std.specs.Prelude.{pos}
use Rattle.diagram.specs.Points.{Rises, AreLevelCorners}
use Rattle.diagram.specs.declared.sides.Side.{Side}
use Rattle.diagram.specs.Comparisons.{HasPoints, StandAt, Follows, Moves, and_below, and_above, and_here}
use Rattle.diagram.proofs.HeightLemmas.{IsStraight, straight_first, straight_last, straight_between, height_some, height_next, fee_of, corner_height}

-- from a size on, one list's height is at or above another's
abbrev pub IsAboveFrom : ℕ → List (ℕ × ℤ) → List (ℕ × ℤ) → Type 0
IsAboveFrom x us ls = (y : ℕ) → x ≤ y → AtMost (height_at ls y) (height_at us y)

-- One diagram may still be at or above the other: it is so up to here, and it is so throughout exactly where it is from here on.
pub record IsOpen (xs ys us ls : List (ℕ × ℤ)) (x : ℕ) : Type 0 where
  pub all : IsAboveFrom x us ls → IsAtOrAbove xs ys
  pub rest : IsAtOrAbove xs ys → IsAboveFrom x us ls
  pub here : AtMost (height_at ls x) (height_at us x)

abbrev AgreeFrom : ℕ → List (ℕ × ℤ) → List (ℕ × ℤ) → Type 0
AgreeFrom x us vs = (y : ℕ) → x ≤ y → Same (height_at us y) (height_at vs y)

-- how a list goes on to a size: it is a line up to there, and the same from there on
record GoesOn (us vs : List (ℕ × ℤ)) (x : ℕ) : Type 0 where
  straight : IsStraight us x
  agree : AgreeFrom x us vs
  old_rises : Rises us
  new_rises : Rises vs

stands_straight : (points : List (ℕ × ℤ)) (x : ℕ) → StandAt points x → IsStraight points x
stands_straight [] x stands = let last = straight_last (0, pos 0) x in record { base = last.base; slope = last.slope; width = last.width; line = last.line }
stands_straight (p ∷ []) x stands = straight_last p x
stands_straight (p ∷ q ∷ rest) x stands = straight_first p q rest x (stands.to p q rest refl)

goes_on : (us vs : List (ℕ × ℤ)) (x y : ℕ) → StandAt us x → StandAt vs y → Follows us vs y → GoesOn us vs y
goes_on us vs x y old new (inl same) = record {
  straight = subst (λ points. IsStraight points y) same (stands_straight vs y new);
  agree = λ z h. subst (λ points. Same (height_at us z) (height_at points z)) (sym same) (record { crossed = refl });
  old_rises = old.rising;
  new_rises = new.rising;
}
goes_on us vs x y old new (inr (p, q, rest, whole, others, at)) =
    let rises : Rises (p ∷ q ∷ rest) = subst Rises whole old.rising in
    record {
      straight = subst (λ points. IsStraight points y) (sym whole) (straight_first p q rest y (omega (arith, at)));
      agree = λ z h. subst (λ points. Same (height_at points z) (height_at vs z)) (sym whole)
          (subst (λ points. Same (height_at (p ∷ q ∷ rest) z) (height_at points z)) (sym others) (height_next p q rest rises z (omega (arith, at))));
      old_rises = old.rising;
      new_rises = new.rising;
    }

-- ---- one direction
open_rest : (us vs ls ms : List (ℕ × ℤ)) (x y : ℕ) → x ≤ y → GoesOn us vs y → GoesOn ls ms y → IsAboveFrom x us ls → IsAboveFrom y vs ms
open_rest us vs ls ms x y later upper lower above z h =
    at_most_chains (height_at ms z) (height_at us z) (height_at vs z) (height_some us upper.old_rises z)
    (at_most_chains (height_at ms z) (height_at ls z) (height_at us z) (height_some ls lower.old_rises z)
    (same_at_most (height_at ms z) (height_at ls z) (same_back (height_at ls z) (height_at ms z) (lower.agree z h))) (above z (omega arith)))
    (same_at_most (height_at us z) (height_at vs z) (upper.agree z h))

open_back : (us vs ls ms : List (ℕ × ℤ)) (y : ℕ) → GoesOn us vs y → GoesOn ls ms y → IsAboveFrom y vs ms → IsAboveFrom y us ls
open_back us vs ls ms y upper lower above z h =
    at_most_chains (height_at ls z) (height_at vs z) (height_at us z) (height_some vs upper.new_rises z)
    (at_most_chains (height_at ls z) (height_at ms z) (height_at vs z) (height_some ms lower.new_rises z)
    (same_at_most (height_at ls z) (height_at ms z) (lower.agree z h)) (above z h))
    (same_at_most (height_at vs z) (height_at us z) (same_back (height_at us z) (height_at vs z) (upper.agree z h)))

-- it stays open where the one is still at or above the other at the size reached
open_goes : (xs ys us vs ls ms : List (ℕ × ℤ)) (x y : ℕ) → x ≤ y → GoesOn us vs y → GoesOn ls ms y
    → IsOpen xs ys us ls x → AtMost (height_at ms y) (height_at vs y) → IsOpen xs ys vs ms y
open_goes xs ys us vs ls ms x y later upper lower old here = record {
  all = λ above. old.all (λ z h. (
      let back = open_back us vs ls ms y upper lower above in
      elim (cases_lt y z) [
        | inl beyond ↦ back z (omega arith)
        | inr within ↦ straight_between us ls x z y upper.straight lower.straight h within old.here (back y (omega arith))
      ]));
  rest = λ above. open_rest us vs ls ms x y later upper lower (old.rest above);
  here = here;
}

-- and is refuted where it is below there
open_shuts : (xs ys us vs ls ms : List (ℕ × ℤ)) (x y : ℕ) → x ≤ y → GoesOn us vs y → GoesOn ls ms y
    → IsOpen xs ys us ls x → Below (height_at vs y) (height_at ms y) → IsAtOrAbove xs ys → ⊥
open_shuts xs ys us vs ls ms x y later upper lower old less above =
    let most = open_rest us vs ls ms x y later upper lower (old.rest above) y (omega arith) in
    omega (arith, ints, most.crossed, less.crossed)

-- ---- both directions
abbrev pub Tally : Verdict → List (ℕ × ℤ) → List (ℕ × ℤ) → List (ℕ × ℤ) → List (ℕ × ℤ) → ℕ → Type 0
Tally Even xs ys cs ds x = IsOpen xs ys cs ds x × IsOpen ys xs ds cs x
Tally Better xs ys cs ds x = IsOpen xs ys cs ds x × (IsAtOrAbove ys xs → ⊥)
Tally Worse xs ys cs ds x = (IsAtOrAbove xs ys → ⊥) × IsOpen ys xs ds cs x
Tally Incomparable xs ys cs ds x = (IsAtOrAbove xs ys → ⊥) × (IsAtOrAbove ys xs → ⊥)

record Goes (cs ds cs' ds' : List (ℕ × ℤ)) (x y : ℕ) : Type 0 where
  later : x ≤ y
  first : GoesOn cs cs' y
  second : GoesOn ds ds' y

level_keeps : (a b : Sum) → Same a b → AtMost b a
level_keeps a b e = record { crossed = omega (arith, ints, e.crossed) }

tally_less : (v : Verdict) (xs ys cs ds cs' ds' : List (ℕ × ℤ)) (x y : ℕ) → Goes cs ds cs' ds' x y
    → Below (height_at cs' y) (height_at ds' y) → Tally v xs ys cs ds x → Tally (and_below v) xs ys cs' ds' y
tally_less Even xs ys cs ds cs' ds' x y goes less old = (
  open_shuts xs ys cs cs' ds ds' x y goes.later goes.first goes.second old.0 less,
  open_goes ys xs ds ds' cs cs' x y goes.later goes.second goes.first old.1 (below_at_most (height_at cs' y) (height_at ds' y) less),
)
tally_less Better xs ys cs ds cs' ds' x y goes less old = (open_shuts xs ys cs cs' ds ds' x y goes.later goes.first goes.second old.0 less, old.1)
tally_less Worse xs ys cs ds cs' ds' x y goes less old =
    (old.0, open_goes ys xs ds ds' cs cs' x y goes.later goes.second goes.first old.1 (below_at_most (height_at cs' y) (height_at ds' y) less))
tally_less Incomparable xs ys cs ds cs' ds' x y goes less old = old

tally_greater : (v : Verdict) (xs ys cs ds cs' ds' : List (ℕ × ℤ)) (x y : ℕ) → Goes cs ds cs' ds' x y
    → Below (height_at ds' y) (height_at cs' y) → Tally v xs ys cs ds x → Tally (and_above v) xs ys cs' ds' y
tally_greater Even xs ys cs ds cs' ds' x y goes more old = (
  open_goes xs ys cs cs' ds ds' x y goes.later goes.first goes.second old.0 (below_at_most (height_at ds' y) (height_at cs' y) more),
  open_shuts ys xs ds ds' cs cs' x y goes.later goes.second goes.first old.1 more,
)
tally_greater Better xs ys cs ds cs' ds' x y goes more old =
    (open_goes xs ys cs cs' ds ds' x y goes.later goes.first goes.second old.0 (below_at_most (height_at ds' y) (height_at cs' y) more), old.1)
tally_greater Worse xs ys cs ds cs' ds' x y goes more old = (old.0, open_shuts ys xs ds ds' cs cs' x y goes.later goes.second goes.first old.1 more)
tally_greater Incomparable xs ys cs ds cs' ds' x y goes more old = old

tally_equal : (v : Verdict) (xs ys cs ds cs' ds' : List (ℕ × ℤ)) (x y : ℕ) → Goes cs ds cs' ds' x y
    → Same (height_at cs' y) (height_at ds' y) → Tally v xs ys cs ds x → Tally v xs ys cs' ds' y
tally_equal Even xs ys cs ds cs' ds' x y goes same old = (
  open_goes xs ys cs cs' ds ds' x y goes.later goes.first goes.second old.0 (level_keeps (height_at cs' y) (height_at ds' y) same),
  open_goes ys xs ds ds' cs cs' x y goes.later goes.second goes.first old.1 (same_at_most (height_at cs' y) (height_at ds' y) same),
)
tally_equal Better xs ys cs ds cs' ds' x y goes same old =
    (open_goes xs ys cs cs' ds ds' x y goes.later goes.first goes.second old.0 (level_keeps (height_at cs' y) (height_at ds' y) same), old.1)
tally_equal Worse xs ys cs ds cs' ds' x y goes same old =
    (old.0, open_goes ys xs ds ds' cs cs' x y goes.later goes.second goes.first old.1 (same_at_most (height_at cs' y) (height_at ds' y) same))
tally_equal Incomparable xs ys cs ds cs' ds' x y goes same old = old

tally_by : (o : Ordering) (v : Verdict) (xs ys cs ds cs' ds' : List (ℕ × ℤ)) (x y : ℕ) → Goes cs ds cs' ds' x y
    → ComparesRates (height_at cs' y) (height_at ds' y) o → Tally v xs ys cs ds x → Tally (and_here v o) xs ys cs' ds' y
tally_by Less v xs ys cs ds cs' ds' x y goes compared old = tally_less v xs ys cs ds cs' ds' x y goes compared old
tally_by Equal v xs ys cs ds cs' ds' x y goes compared old = tally_equal v xs ys cs ds cs' ds' x y goes compared old
tally_by Greater v xs ys cs ds cs' ds' x y goes compared old = tally_greater v xs ys cs ds cs' ds' x y goes compared old

-- what was found up to a size, and how the two stand at the next
pub tally_goes : (o : Ordering) (v : Verdict) (xs ys cs ds cs' ds' : List (ℕ × ℤ)) (x y : ℕ) → StandAt cs x
    → StandAt ds x → Moves cs ds x cs' ds' y o → Tally v xs ys cs ds x → Tally (and_here v o) xs ys cs' ds' y
tally_goes o v xs ys cs ds cs' ds' x y first second moves old =
    tally_by o v xs ys cs ds cs' ds' x y
    (record {
      later = moves.later;
      first = goes_on cs cs' x y first moves.first_stands moves.first;
      second = goes_on ds ds' x y second
          moves.second_stands moves.second;
    })
    moves.compared old

open_start : (xs ys ps qs : List (ℕ × ℤ)) → xs ≡ (0, pos 0) ∷ ps → ys ≡ (0, pos 0) ∷ qs → Rises xs → Rises ys → IsOpen xs ys xs ys 0
open_start xs ys ps qs first second rises falls = record {
  all = λ above z. above z (omega arith);
  rest = λ above z h. above z;
  here = subst (λ points. AtMost (height_at points 0) (height_at xs 0)) (sym second)
      (subst (λ points. AtMost (height_at ((0, pos 0) ∷ qs) 0) (height_at points 0)) (sym first)
      (at_most_chains (height_at ((0, pos 0) ∷ qs) 0) (fee_of (0, pos 0)) (height_at ((0, pos 0) ∷ ps) 0) (omega arith)
      (same_at_most (height_at ((0, pos 0) ∷ qs) 0) (fee_of (0, pos 0)) (corner_height (0, pos 0) qs (subst Rises second falls)))
      (level_keeps (height_at ((0, pos 0) ∷ ps) 0) (fee_of (0, pos 0)) (corner_height (0, pos 0) ps (subst Rises first rises)))));
}

pub tally_start : (xs ys : List (ℕ × ℤ)) → AreLevelCorners xs → AreLevelCorners ys → Tally Even xs ys xs ys 0
tally_start xs ys first second = (
  open_start xs ys first.begins.0 second.begins.0 first.begins.1 second.begins.1 first.rising second.rising,
  open_start ys xs second.begins.0 first.begins.0 second.begins.1 first.begins.1 second.rising first.rising,
)

open_end : (xs ys : List (ℕ × ℤ)) (p q : ℕ × ℤ) (x : ℕ) → IsOpen xs ys (p ∷ []) (q ∷ []) x → IsAtOrAbove xs ys
open_end xs ys p q x last = last.all (λ z h. last.here)

-- past both ends nothing changes
pub tally_ends : (v : Verdict) (xs ys : List (ℕ × ℤ)) (p q : ℕ × ℤ) (x : ℕ) → Tally v xs ys (p ∷ []) (q ∷ []) x → Compares xs ys v
tally_ends Even xs ys p q x found = (open_end xs ys p q x found.0, open_end ys xs q p x found.1)
tally_ends Better xs ys p q x found = (open_end xs ys p q x found.0, found.1)
tally_ends Worse xs ys p q x found = (found.0, open_end ys xs q p x found.1)
tally_ends Incomparable xs ys p q x found = found

-- ---- two walks
-- where two walks stand, and what was found by then of the diagrams with these corners
pub record Walks {S T : Type 0} (firsts : S → Option (ℕ × ℤ) → S → Type 0) (seconds : T → Option (ℕ × ℤ) → T → Type 0)
    (a : Side S) (b : Side T) (found : Verdict) (xs ys : List (ℕ × ℤ)) : Type 0 where
  pub cs : List (ℕ × ℤ)
  pub ds : List (ℕ × ℤ)
  pub at : ℕ
  pub first : HasPoints firsts a cs
  pub second : HasPoints seconds b ds
  pub first_stands : StandAt cs at
  pub second_stands : StandAt ds at
  pub tally : Tally found xs ys cs ds at

starts_at : (xs : List (ℕ × ℤ)) → AreLevelCorners xs → StandAt xs 0
starts_at xs level = record {
  rising = level.rising;
  ranged = level.ranged;
  from = λ p rest e. subst (λ (q : ℕ × ℤ). q.0 ≤ 0) (first_of (sym level.begins.1 ∙ e)) (omega arith);
  to = λ p q rest e. omega arith;
}

pub walks_start : {S T : Type 0} (firsts : S → Option (ℕ × ℤ) → S → Type 0)
    (seconds : T → Option (ℕ × ℤ) → T → Type 0) (a : Side S) (b : Side T) (xs ys : List (ℕ × ℤ))
    → AreLevelCorners xs → AreLevelCorners ys → HasPoints firsts a xs → HasPoints seconds b ys
    → Walks firsts seconds a b Even xs ys
walks_start firsts seconds a b xs ys one other first second = record {
  cs = xs;
  ds = ys;
  at = 0;
  first = first;
  second = second;
  first_stands = starts_at xs one;
  second_stands = starts_at ys other;
  tally = tally_start xs ys one other;
}

-- what one step of the two says
abbrev pub StepMoves : {S T : Type 0} → (S → Option (ℕ × ℤ) → S → Type 0) → (T → Option (ℕ × ℤ) → T → Type 0)
    → Side S → Side T → List (ℕ × ℤ) → List (ℕ × ℤ) → ℕ → Ordering → Type 0
StepMoves firsts seconds a b cs ds x here =
    (more others : List (ℕ × ℤ)) × (y : ℕ) × HasPoints firsts a more × HasPoints seconds b others × Moves cs ds x more others y here

pub walks_go : {S T : Type 0} (firsts : S → Option (ℕ × ℤ) → S → Type 0) (seconds : T → Option (ℕ × ℤ) → T → Type 0) (a u : Side S)
    (b v : Side T) (found new : Verdict) (xs ys : List (ℕ × ℤ)) (here : Ordering) → (walks : Walks firsts seconds a b found xs ys)
    → StepMoves firsts seconds u v walks.cs walks.ds walks.at here → new ≡ and_here found here → Walks firsts seconds u v new xs ys
walks_go firsts seconds a u b v found new xs ys here walks step e =
    let moves = step.5 in
    record {
      cs = step.0;
      ds = step.1;
      at = step.2;
      first = step.3;
      second = step.4;
      first_stands = moves.first_stands;
      second_stands = moves.second_stands;
      tally = subst (λ w. Tally w xs ys step.0 step.1 step.2) (sym e)
          (tally_goes here found xs ys walks.cs walks.ds step.0 step.1 walks.at step.2 walks.first_stands walks.second_stands moves walks.tally);
    }

pub walks_end : {S T : Type 0} (firsts : S → Option (ℕ × ℤ) → S → Type 0) (seconds : T → Option (ℕ × ℤ) → T → Type 0)
    (a : Side S) (b : Side T) (found : Verdict) (xs ys : List (ℕ × ℤ)) → (walks : Walks firsts seconds a b found xs ys)
    → (p q : ℕ × ℤ) × (walks.cs ≡ p ∷ []) × (walks.ds ≡ q ∷ []) → Compares xs ys found
walks_end firsts seconds a b found xs ys walks last =
    tally_ends found xs ys last.0 last.1 walks.at
    (subst (λ ds. Tally found xs ys (last.0 ∷ []) ds walks.at) last.3 (subst (λ cs. Tally found xs ys cs walks.ds walks.at) last.2 walks.tally))

pub walks_stop : {S T : Type 0} (firsts : S → Option (ℕ × ℤ) → S → Type 0)
    (seconds : T → Option (ℕ × ℤ) → T → Type 0) (a : Side S) (b : Side T) (found : Verdict) (xs ys : List (ℕ × ℤ))
    → Walks firsts seconds a b found xs ys → found ≡ Incomparable → Compares xs ys found
walks_stop firsts seconds a b found xs ys walks e =
    subst (Compares xs ys) (sym e) (subst (λ w. Tally w xs ys walks.cs walks.ds walks.at) e walks.tally)
