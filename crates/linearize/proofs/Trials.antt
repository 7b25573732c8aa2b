-- Sets that come one after the other, each written as certified parts: what was written so far.
use Rattle.std.proofs.Common.{◌≡◌, ◌≢◌, ℕ, ◌+◌, ◌-◌, ◌*◌, ◌^◌, ◌<◌, ◌≤◌, inl, inr, true, List, [], ◌++◌, length, map, refl, sym, ap, ◌∙◌, subst, subst₂, arith}
use Rattle.std.proofs.Common.{length-append}
use Rattle.std.proofs.lemmas.Bool.{cases_Bool, false_from_ne_true}
use Rattle.std.proofs.lemmas.List.Concat.{flat_map-append}
use Rattle.std.proofs.lemmas.List.Elements.{Contains-append_left, Contains-append_right, Contains-append_cases}
use Rattle.std.proofs.Math.Nat.{mul-le-mul, mul-le-mul_left, mul-le-mul_right, pow-le-pow_left, pow-suc, pow-zero}
use Rattle.std.specs.Prelude.{Contains, Option}
use Rattle.std.specs.List.{AllZip}
use Rattle.std.specs.Ordering.{nat_cmp}
use Rattle.std.specs.FinSet as fin
use Rattle.bitset.specs.Members.{from_union, to_union_left, to_union_right, len_bound}
use Rattle.bitset.specs.Places.{IsWithin}
use Rattle.graphs.proofs.BestLemmas.{stands-append_right, stands-append_left, stands_across}
use Rattle.graphs.specs.Closures.{Closure, IsCover, IsClosed, HoldsMembers}
use Rattle.graphs.specs.Certificates.{Part}
use Rattle.graphs.specs.Rates.{sums, Falls}
use Rattle.closure_flow.specs.Bounds.{most_steps}
use Rattle.closure_flow.proofs.Powers.{fourth}
use Rattle.bitset.specs.Sets.{contains-empty, same_members}
use Rattle.lists.proofs.Cases.{clash}
use Rattle.lists.proofs.Entries.{none_in_empty}
use Rattle.lists.proofs.Distinct.{distinct_joined}
use Rattle.lists.proofs.Keys.{set_within}
use Rattle.linearize.specs.declared.draft.LinearPart.{LinearPart}
use Rattle.linearize.specs.declared.old.OldPart.{OldPart}
use Rattle.linearize.specs.Known.{FillsUp, IsHeld}
use Rattle.linearize.specs.Drafts.{AreShown, Written, placed, flows_in}
use Rattle.linearize.specs.Graphs.{sum_at, sum_from, most_members, HasRates}
use Rattle.linearize.specs.Near.{AreHeld, ComesNext, Extends, IsBegun, IsSolvedNext, most_tried}
use Rattle.linearize.specs.Orders.{AreCovers, IsOrderOf}
use Rattle.linearize.specs.Splits.{HasRoom, IsReady, IsUncutPart}
use Rattle.closure_flow.specs.Scratches.{Room}
use Rattle.linearize.specs.Steps.{AreOfOne}
use Rattle.linearize.proofs.Fills.{none_held, zip_joined}
use Rattle.linearize.proofs.Joined.{either_part}
use Rattle.linearize.proofs.Nexts.{inside}
use Rattle.linearize.proofs.Sets.{split_union, len_split}

third : (x : ℕ) → x ^ 3 ≡ x * x * x
third x = pow-suc x 2 ∙ ap (λ (y : ℕ). y * x) (pow-suc x 1 ∙ ap (λ (y : ℕ). y * x) (pow-suc x 0 ∙ ap (λ (y : ℕ). y * x) (pow-zero x) ∙ omega arith))

-- a solve of b places, and the search behind it, takes at most so many steps
solve_steps : (b : ℕ) → 1 ≤ b → most_steps b + b * b ≤ most_tried b * b
solve_steps b some =
    let four = pow-suc (b + 2) 3 in
    let three = pow-suc (b + 2) 2 in
    let two : 2 ≤ b + 2 = omega arith in
    let square : 2 ^ 2 ≤ (b + 2) ^ 2 = pow-le-pow_left two 2 in
    let cube : (2 ^ 2) * (b + 2) ≤ (b + 2) ^ 2 * (b + 2) = mul-le-mul_right (b + 2) square in
    sums_up b ((b + 2) ^ 3) ((b + 2) ^ 4) four (omega (arith, three, cube)) some
  where
    sums_up : (b x z : ℕ) → z ≡ x * (b + 2) → b + 3 ≤ x → 1 ≤ b → z + (b + 2) + b * b ≤ 4 * x * b
    sums_up b x z four cube some =
        let one : x * (b + 2) ≤ x * (3 * b) = mul-le-mul_left x (omega (arith, some)) in
        let two : (b + 3) * b ≤ x * b = mul-le-mul_right b cube in
        omega (arith, four, one, two, some)

-- and so do one of d + 2 places and those of the two sets that it is cut into, f and r of them
cut_steps : (d f r : ℕ) → d + 2 ≡ f + r → 1 ≤ f → 1 ≤ r
    → (most_steps (d + 2) + (d + 2) * (d + 2)) + (most_steps f + f * f) + (most_steps r + r * r) ≤ most_tried (d + 2) * (d + 2)
cut_steps d f r all some others =
    subst (λ (x : ℕ). (x ^ 4 + x + (d + 2) * (d + 2)) + (most_steps f + f * f) + (most_steps r + r * r) ≤ 4 * x ^ 3 * (d + 2)) (omega arith)
    (sums_up ((f + 2) ^ 4) ((r + 2) ^ 4) ((d + 4) ^ 4) ((d + 4) ^ 3) (less f (omega (arith, all, others))) (less r (omega (arith, all, some)))
    (fourth (d + 4)) (third (d + 4)))
  where
    less : (k : ℕ) → k + 1 ≤ d + 2 → (k + 2) ^ 4 ≤ (d + 3) * (d + 3) * (d + 3) * (k + 2)
    less k low =
        let base : k + 2 ≤ d + 3 = omega (arith, low) in
        let cube : (k + 2) ^ 3 * (k + 2) ≤ (d + 3) ^ 3 * (k + 2) = mul-le-mul_right (k + 2) (pow-le-pow_left base 3) in
        subst (λ (x : ℕ). (k + 2) ^ 4 ≤ x * (k + 2)) (third (d + 3)) (subst (λ (x : ℕ). x ≤ (d + 3) ^ 3 * (k + 2)) (sym (pow-suc (k + 2) 3)) cube)

    polynomial : 2 * ((d + 4) * (d + 4) * (d + 4) * (d + 4)) + 2 * ((d + 3) * (d + 3) * (d + 3) * (d + 6)) + (4 * d + 20) + 4 * ((d + 2) * (d + 2))
        ≤ 8 * ((d + 4) * (d + 4) * (d + 4) * (d + 2))
    polynomial = omega arith

    small : (f4 r4 d4 x p q y z u w ff rr : ℕ) → f4 ≤ p → r4 ≤ q → d4 ≡ z → p + q ≡ y → ff + rr ≤ u → x ≡ w
        → 2 * z + 2 * y + (4 * d + 20) + 4 * u ≤ 8 * w → d + 2 ≡ f + r
        → (d4 + (d + 4) + u) + (f4 + (f + 2) + ff) + (r4 + (r + 2) + rr) ≤ 4 * x
    small f4 r4 d4 x p q y z u w ff rr a b e g h i j k = omega (arith, a, b, e, g, h, i, j, k)

    sums_up : (f4 r4 d4 d3 : ℕ) → f4 ≤ (d + 3) * (d + 3) * (d + 3) * (f + 2) → r4 ≤ (d + 3) * (d + 3) * (d + 3) * (r + 2)
        → d4 ≡ (d + 4) * (d + 4) * (d + 4) * (d + 4) → d3 ≡ (d + 4) * (d + 4) * (d + 4)
        → (d4 + (d + 4) + (d + 2) * (d + 2)) + (f4 + (f + 2) + f * f) + (r4 + (r + 2) + r * r) ≤ 4 * d3 * (d + 2)
    sums_up f4 r4 d4 d3 first second fourths cube =
        let both : (d + 3) * (d + 3) * (d + 3) * (f + 2) + (d + 3) * (d + 3) * (d + 3) * (r + 2) ≡ (d + 3) * (d + 3) * (d + 3) * (d + 6) =
        (let times = ap (λ (k : ℕ). (d + 3) * (d + 3) * (d + 3) * k) all in omega (arith, times)) in
        let squares : f * f + r * r ≤ (d + 2) * (d + 2) = (let square = ap (λ (k : ℕ). k * k) all in omega (arith, square)) in
        let most : d3 * (d + 2) ≡ (d + 4) * (d + 4) * (d + 4) * (d + 2) = ap (λ (k : ℕ). k * (d + 2)) cube in
        omega (arith, small f4 r4 d4 (d3 * (d + 2)) _ _ _ _ _ _ (f * f) (r * r) first second fourths both squares most polynomial all)

-- one solve takes so many steps
pub solve_most : (n : ℕ) (old new : Room) (before after : ℕ) → AreOfOne n old new before after → after ≤ before + (most_steps n + n * n)
solve_most n old new before after one =
    let solve = subst (λ (k : ℕ). one.solve.steps ≤ most_steps k) one.all one.is.most in
    let searched = subst (λ (k : ℕ). one.solve.searched ≤ k * k) one.all one.is.most_searched in
    omega (arith, one.sum, solve, searched)

pub once_most : (n : ℕ) (old new : Room) (before after : ℕ) → 0 < n → AreOfOne n old new before after → after ≤ before + most_tried n * n
once_most n old new before after some one = omega (arith, solve_most n old new before after one, solve_steps n some)

-- and so do one and those of the two sets that it is cut into
pub cut_most : (n f r : ℕ) (one two three : Room) (before middle later after : ℕ) → n ≡ f + r → 0 < f → 0 < r → AreOfOne n one two before middle
    → AreOfOne f two three middle later
    → after ≤ later + (most_steps r + r * r) → after ≤ before + most_tried n * n
cut_most n f r one two three before middle later after all some others first second last =
    let d : ℕ = n - 2 in
    let is : d + 2 ≡ n = omega (arith, all, some, others) in
    let sum = subst (λ (k : ℕ). (most_steps k + k * k) + (most_steps f + f * f) + (most_steps r + r * r) ≤ most_tried k * k) is
    (cut_steps d f r (is ∙ all) some others) in
    omega (arith, solve_most n one two before middle first, solve_most f two three middle later second, last, sum)

-- the parts of some members, with each covering parent of them, and the steps that they took
pub record Stands (n : ℕ) (dep : Closure) (olds : List OldPart) (places : List ℕ) (members done : fin.FinSet nat_cmp) (draft : Written)
    (froms : List (Option OldPart)) (before now : ℕ) : Type 0 where
  pub ids : draft.ids ≡ []
  pub flows : draft.flows ≡ []
  pub inside : (p : ℕ) → fin.contains done p ≡ true → fin.contains members p ≡ true
  pub upper : (p c : ℕ) → IsCover dep p c → fin.contains done c ≡ true → fin.contains done p ≡ true
  pub order : IsOrderOf dep done (placed draft.parts)
  pub filled : (part : Part) → Contains draft.parts part → part.ids ≢ []
  pub summed : (part : Part) → Contains draft.parts part → part.rate ≡ sums (sum_at dep) part.ids
  pub held : AllZip (IsHeld dep olds places) froms draft.parts
  pub uncut : (part : Part) → Contains draft.parts part → IsUncutPart n dep part
  pub some_places : length (placed draft.parts) ≤ fin.len done
  pub few : length draft.parts ≤ fin.len done
  pub few_flows : 4 * length (flows_in draft.parts) ≤ fin.len done * fin.len done
  pub most : now ≤ before + most_tried (fin.len members) * fin.len done

-- nothing was written so far
pub stands_none : (n : ℕ) (dep : Closure) (olds : List OldPart) (places : List ℕ) (members done : fin.FinSet nat_cmp) (draft : Written)
    (froms : List (Option OldPart)) (k : ℕ) → done ≡ fin.empty → draft ≡ record { parts = []; ids = []; flows = [] } → froms ≡ []
    → Stands n dep olds places members done draft froms k k
stands_none n dep olds places members done draft froms k none empty no_from =
    subst (λ d. Stands n dep olds places members d draft froms k k) (sym none)
    (subst (λ w. Stands n dep olds places members fin.empty w froms k k) (sym empty)
    (subst (λ fs. Stands n dep olds places members fin.empty (record { parts = []; ids = []; flows = [] }) fs k k) (sym no_from) start))
  where
    no : (p : ℕ) → fin.contains {R = nat_cmp} fin.empty p ≡ true → ⊥
    no p m = clash _ m (contains-empty p)

    start : Stands n dep olds places members fin.empty (record { parts = []; ids = []; flows = [] }) [] k k
    start = record {
      ids = refl;
      flows = refl;
      inside = λ p m. absurd (no p m);
      upper = λ p c cover m. absurd (no c m);
      order = record {
        once = tt;
        exact = λ p. (λ h. absurd (none_in_empty p h), λ m. absurd (no p m));
        parents_first = λ p c cover m k_in. absurd (no p m);
      };
      filled = λ part h. absurd (none_in_empty part h);
      summed = λ part h. absurd (none_in_empty part h);
      held = tt;
      uncut = λ part h. absurd (none_in_empty part h);
      some_places = omega arith;
      few = omega arith;
      few_flows = omega arith;
      most = omega arith;
    }

-- ---- what may come behind others

module _ (n : ℕ) (dep : Closure) (members done : fin.FinSet nat_cmp) (closed : IsClosed n dep) (held : HoldsMembers dep members)
    (inside_members : (p : ℕ) → fin.contains done p ≡ true → fin.contains members p ≡ true) (group : fin.FinSet nat_cmp)
    (inside_group : (p : ℕ) → fin.contains group p ≡ true → fin.contains members p ≡ true)
    (apart : (p : ℕ) → fin.contains group p ≡ true → fin.contains done p ≡ true → ⊥) where
  both_inside : (p : ℕ) → fin.contains (fin.union done group) p ≡ true → fin.contains members p ≡ true
  both_inside p m = elim (from_union done group p m) [ inl a ↦ inside_members p a | inr b ↦ inside_group p b ]

  within : IsWithin n (fin.union done group)
  within k m = closed.within k (held k (both_inside k m))

  pub lens : fin.len (fin.union done group) ≡ fin.len done + fin.len group
  lens = len_split n (fin.union done group) done group within (split_union done group (λ k a b. apart k b a))

  pub fits : fin.len (fin.union done group) ≤ n
  fits = len_bound n (fin.union done group) within

  pub fits_members : fin.len (fin.union done group) ≤ fin.len members
  fits_members = set_within (fin.union done group) members both_inside

-- the steps of a trial of some of the members, together with what others may take
pub tried_steps : (members done group all now later : ℕ) → all ≡ done + group → all ≤ members → later ≤ now + most_tried group * group
    → (later + most_tried members * done ≤ now + most_tried members * all) × (later + most_tried members * done ≤ now + most_tried members * members)
tried_steps members done group all now later sum few grew =
    let base : group + 2 ≤ members + 2 = omega (arith, sum, few) in
    let more : (group + 2) ^ 3 ≤ (members + 2) ^ 3 = pow-le-pow_left base 3 in
    let wide : most_tried group * group ≤ most_tried members * group = mul-le-mul_right group (omega (arith, more)) in
    let less : most_tried members * all ≤ most_tried members * members = mul-le-mul_left (most_tried members) few in
    let split = ap (λ (k : ℕ). most_tried members * k) sum in
    added now later (most_tried members) (most_tried group * group) done group all members split grew wide less
  where
    added : (now later m t a b c d : ℕ) → m * c ≡ m * (a + b) → later ≤ now + t → t ≤ m * b → m * c ≤ m * d
        → (later + m * a ≤ now + m * c) × (later + m * a ≤ now + m * d)
    added now later m t a b c d split grew wide less = (omega (arith, split, grew, wide), omega (arith, split, grew, wide, less))

module _ (n : ℕ) (dep : Closure) (olds : List OldPart) (places : List ℕ) (members done : fin.FinSet nat_cmp) (closed : IsClosed n dep)
    (held : HoldsMembers dep members) (old : Written) (froms : List (Option OldPart)) (before now : ℕ)
    (stands : Stands n dep olds places members done old froms before now) where
  room : (s : fin.FinSet nat_cmp) → ((t : ℕ) → fin.contains s t ≡ true → fin.contains members t ≡ true)
      → ((t : ℕ) → fin.contains s t ≡ true → fin.contains done t ≡ true → ⊥) → HasRoom n s old
  room s inside_s apart =
      let sum = lens n dep members done closed held stands.inside s inside_s apart in
      let most = fits n dep members done closed held stands.inside s inside_s apart in
      let square = mul-le-mul most most in
      let double = ap (λ (k : ℕ). k * k) sum in
      record {
        ids = stands.ids;
        flows = stands.flows;
        for_places = (let p = stands.some_places in omega (arith, sum, most, p));
        for_parts = (let p = stands.few in omega (arith, sum, most, p));
        for_flows = (let p = stands.few_flows in omega (arith, square, double, p));
      }

  pub begun : fin.len members ≤ most_members → HasRates dep → IsBegun n dep members done old
  begun few rates = record {
    closed = closed;
    held = held;
    few = few;
    rates = rates;
    inside = stands.inside;
    upper = stands.upper;
    room = room;
  }

  module _ (new : Written) (froms' : List (Option OldPart)) (all_done : fin.FinSet nat_cmp)
      (more : Extends n dep olds places members done old new froms froms' all_done) where
    parts : new.parts ≡ old.parts ++ more.parts
    parts = ap (λ (w : Written). w.parts) more.is

    each : (P : Part → Type 0) → ((q : Part) → Contains old.parts q → P q) → ((q : Part) → Contains more.parts q → P q) → (q : Part)
        → Contains new.parts q → P q
    each P f g q h = either_part P old.parts more.parts f g q (subst (λ ps. Contains ps q) parts h)

    all_placed : placed new.parts ≡ placed old.parts ++ placed more.parts
    all_placed = ap placed parts ∙ flat_map-append (λ part. part.ids) old.parts more.parts

    all_flows : flows_in new.parts ≡ flows_in old.parts ++ flows_in more.parts
    all_flows = ap flows_in parts ∙ flat_map-append (λ part. part.flows) old.parts more.parts

    -- a covering parent of a place of both is in both
    upper : (p c : ℕ) → IsCover dep p c → fin.contains (fin.union done more.group) c ≡ true → fin.contains (fin.union done more.group) p ≡ true
    upper p c cover m = elim (from_union done more.group c m) [
      | inl a ↦ to_union_left done more.group p (stands.upper p c cover a)
      | inr b ↦ elim (more.upper p c cover b) [
        | inl left ↦ to_union_left done more.group p left
        | inr right ↦ to_union_right done more.group p right
      ]
    ]

    order : IsOrderOf dep (fin.union done more.group) (placed old.parts ++ placed more.parts)
    order = record {
      once = distinct_joined (placed old.parts) (placed more.parts) stands.order.once more.order.once
          (λ p a b. more.apart p ((more.order.exact p).0 b) ((stands.order.exact p).0 a));
      exact = λ p. (
        λ h. elim (Contains-append_cases (placed old.parts) (placed more.parts) p h) [
          | inl a ↦ to_union_left done more.group p ((stands.order.exact p).0 a)
          | inr b ↦ to_union_right done more.group p ((more.order.exact p).0 b)
        ],
        λ m. elim (from_union done more.group p m) [
          | inl a ↦ Contains-append_left (placed old.parts) (placed more.parts) p ((stands.order.exact p).1 a)
          | inr b ↦ Contains-append_right (placed old.parts) (placed more.parts) p ((more.order.exact p).1 b)
        ],
      );
      parents_first = λ p c cover p_in c_in. elim (from_union done more.group c c_in) [
        | inl c_done ↦ stands-append_right (placed old.parts) (placed more.parts) p c
            (stands.order.parents_first p c cover (stands.upper p c cover c_done) c_done)
        | inr c_new ↦ elim (from_union done more.group p p_in) [
          | inl p_done ↦ stands_across (placed old.parts) (placed more.parts) p c ((stands.order.exact p).1 p_done) ((more.order.exact c).1 c_new)
          | inr p_new ↦ stands-append_left (placed old.parts) (placed more.parts) p c (more.order.parents_first p c cover p_new c_new)
        ]
      ];
    }

    pub stands_next : (later : ℕ)
        → later + most_tried (fin.len members) * fin.len done ≤ now + most_tried (fin.len members) * fin.len all_done
        → Stands n dep olds places members all_done new froms' before later
    stands_next later grew =
        let sum = lens n dep members done closed held stands.inside more.group more.inside more.apart in
        let double = ap (λ (k : ℕ). k * k) sum in
        let a = ap length all_placed ∙ length-append (placed old.parts) (placed more.parts) in
        let b = ap length parts ∙ length-append old.parts more.parts in
        let d = ap length all_flows ∙ length-append (flows_in old.parts) (flows_in more.parts) in
        let same = ap (λ (s : fin.FinSet nat_cmp). most_tried (fin.len members) * fin.len s) more.both in
        subst (λ (s : fin.FinSet nat_cmp). Stands n dep olds places members s new froms' before later) (sym more.both) (record {
          ids = ap (λ (w : Written). w.ids) more.is;
          flows = ap (λ (w : Written). w.flows) more.is;
          inside = both_inside n dep members done closed held stands.inside more.group more.inside more.apart;
          upper = upper;
          order = subst (λ xs. IsOrderOf dep (fin.union done more.group) xs) (sym all_placed) order;
          filled = each (λ q. q.ids ≢ []) stands.filled more.filled;
          summed = each (λ q. q.rate ≡ sums (sum_at dep) q.ids) stands.summed more.summed;
          held = subst₂ (AllZip (IsHeld dep olds places)) (sym more.from) (sym parts)
              (zip_joined (IsHeld dep olds places) froms more.froms old.parts more.parts stands.held more.held);
          uncut = each (IsUncutPart n dep) stands.uncut more.uncut;
          some_places = (let p = stands.some_places in let q = more.some_places in omega (arith, sum, a, p, q));
          few = (let p = stands.few in let q = more.few in omega (arith, sum, b, p, q));
          few_flows = (let p = stands.few_flows in let q = more.few_flows in omega (arith, double, d, p, q));
          most = spent before now later (most_tried (fin.len members) * fin.len done) (most_tried (fin.len members) * fin.len all_done)
              (most_tried (fin.len members) * fin.len (fin.union done more.group)) stands.most grew same;
        })
      where
        spent : (before now later a b c : ℕ) → now ≤ before + a → later + a ≤ now + b → b ≡ c → later ≤ before + c
        spent before now later a b c old grew same = omega arith

  -- also where what was tried is no part
  pub tried : (later : ℕ) → later + most_tried (fin.len members) * fin.len done ≤ now + most_tried (fin.len members) * fin.len members
      → later ≤ before + most_tried (fin.len members) * fin.len members
  tried later grew = spent before now later (most_tried (fin.len members) * fin.len done) (most_tried (fin.len members) * fin.len members) stands.most grew
    where
      spent : (before now later a b : ℕ) → now ≤ before + a → later + a ≤ now + b → later ≤ before + b
      spent before now later a b old grew = omega arith

  pub so_far : now ≤ before + most_tried (fin.len members) * fin.len members
  so_far =
      let less = set_within done members stands.inside in
      omega (arith, stands.most, mul-le-mul_left (most_tried (fin.len members)) less)

  module _ (whole : fin.is_subset members done ≡ true) where
    same : done ≡ members
    same = same_members done members (λ k. elim (cases_Bool (fin.contains done k)) as (λ _. fin.contains done k ≡ fin.contains members k) [
      | inl here ↦ here ∙ sym (stands.inside k here)
      | inr out ↦ out ∙ sym (false_from_ne_true _ (λ m. clash _ (inside members done whole k m) out))
    ])

    pub all_parts : (shown : List LinearPart) → AreShown shown old.parts → Falls (map (λ part. sum_from part.rate) shown)
        → AreHeld n dep olds places members froms old.parts
    all_parts shown are falls = record {
      order = subst (λ s. IsOrderOf dep s (placed old.parts)) same stands.order;
      filled = stands.filled;
      falling = record { summed = stands.summed; falling = subst Falls are.rates falls };
      held = stands.held;
      uncut = stands.uncut;
    }

-- ---- what was solved

module _ (n : ℕ) (dep : Closure) (parents : List (fin.FinSet nat_cmp)) (members done group : fin.FinSet nat_cmp) (old new : Written)
    (start : IsBegun n dep members done old) (next : ComesNext dep members done group) where
  pub few_members : fin.len group ≤ most_members
  few_members =
      let less = set_within group members next.inside in
      let few = start.few in
      omega (arith, less, few)

  pub ready : AreCovers dep group parents → IsReady n dep parents group old
  ready covers = record {
    closed = start.closed;
    members = λ k m. start.held k (next.inside k m);
    some = next.some;
    few = few_members;
    rates = start.rates;
    covers = covers;
    room = start.room group next.inside next.apart;
  }

  pub both_lens : fin.len (fin.union done group) ≡ fin.len done + fin.len group
  both_lens = lens n dep members done start.closed start.held start.inside group next.inside next.apart

  pub both_fit : fin.len (fin.union done group) ≤ fin.len members
  both_fit = fits_members n dep members done start.closed start.held start.inside group next.inside next.apart

-- what was solved extends what is written, where it is told to be none of the old parts
pub solved_behind : (n : ℕ) (dep : Closure) (olds : List OldPart) (places : List ℕ) (members done group : fin.FinSet nat_cmp) (old new : Written)
    (froms froms' : List (Option OldPart)) (all : fin.FinSet nat_cmp) → IsSolvedNext n dep members done group old new all
    → length froms ≡ length old.parts → FillsUp (length new.parts) froms froms' → Extends n dep olds places members done old new froms froms' all
solved_behind n dep olds places members done group old new froms froms' all solved even fills =
    let adds = solved.adds in
    let next = solved.next in
    let a = ap (λ (w : Written). length w.parts) adds.is ∙ length-append old.parts adds.parts in
    let b = ap length fills.is ∙ length-append froms fills.more in
    record {
      parts = adds.parts;
      is = adds.is;
      froms = fills.more;
      from = fills.is;
      held = none_held dep olds places fills.more adds.parts (omega (arith, a, b, even, fills.long)) fills.none adds.linear.flows;
      group = group;
      both = solved.both;
      inside = next.inside;
      apart = next.apart;
      upper = λ p c cover m. next.parents_known p c m cover;
      order = adds.linear.order;
      filled = adds.linear.filled;
      summed = adds.linear.falling.summed;
      uncut = adds.linear.uncut;
      some_places = (let p = adds.places in omega (arith, p));
      few = adds.few;
      few_flows = adds.few_flows;
    }

-- ---- the steps of a trial, alone and before the solves of an order from nothing
trial_most : (n : ℕ) → most_tried n * n ≤ 4 * (n + 2) ^ 4
trial_most n = let fourth = pow-suc (n + 2) 3 in more n ((n + 2) ^ 3) ((n + 2) ^ 4) fourth
  where
    more : (n x y : ℕ) → y ≡ x * (n + 2) → 4 * x * n ≤ 4 * y
    more n x y is = omega (arith, is)

pub both_trials : (n before middle after : ℕ) → middle ≤ before + most_tried n * n → after + 4 * (n + 2) ^ 4 ≤ middle + 2 * (n + 2) ^ 5
    → after ≤ before + 2 * (n + 2) ^ 5
both_trials n before middle after tried solved = let most = trial_most n in omega (arith, tried, solved, most)

pub one_trial : (n before after : ℕ) → after ≤ before + most_tried n * n → after ≤ before + 2 * (n + 2) ^ 5
one_trial n before after tried =
    let fifth = pow-suc (n + 2) 4 in
    let more : 2 * (n + 2) ^ 4 ≤ (n + 2) ^ 4 * (n + 2) = room ((n + 2) ^ 4) in
    omega (arith, tried, trial_most n, fifth, more)
  where
    room : (x : ℕ) → 2 * x ≤ x * (n + 2)
    room x = omega arith
