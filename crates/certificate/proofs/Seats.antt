-- Seats of names in an order.
use Rattle.std.proofs.Common.{◌≡◌, ◌≢◌, ℕ, ◌+◌, ◌<◌, ◌≤◌, List, [], ◌∷◌, ◌++◌, length, inl, inr, refl, sym, ap, ◌∙◌, subst, arith, get_or, set, take, drop, Option, Some, None, cond}
use Rattle.std.specs.Prelude.{Contains, is_some, IsSome, count_by}
use Rattle.std.proofs.lemmas.Bool.{cases_eq}
use Rattle.std.proofs.lemmas.List.{get_or-set_same, get_or-set_other, length-set, length-take-le, get_or-take, get_or_default, take-append-drop, drop_more, length-append, get_or_at, get_or_append_left, take_at}
use Rattle.std.proofs.lemmas.List.Sums.{sum_by-set, count_by-le-length}
use Rattle.std.proofs.lemmas.List.Elements.{Contains-get_or}
use Rattle.std.proofs.lemmas.Option.{same_Some}
use Rattle.lists.proofs.Cases.{some_none}
use Rattle.lists.proofs.Distinct.{repeated, distinct_from_places, one_place}
use Rattle.lists.specs.Distinct.{AreDistinct}
use Rattle.graphs.specs.Linearizations.{StandsBefore}
use Rattle.places.specs.Places.{ArePlaces}
use Rattle.certificate.specs.Orders.{IsOrderOf, seat_at, AreSeats, AreRanks, AreTaken, AreOfOneGroup}
use Rattle.certificate.proofs.PlaceLemmas.{not_found, places_distinct}

one_more : (k a b c n : ℕ) → a ≡ k → a ≡ b → c + n ≡ b + 1 → n ≡ 0 → k + 1 ≡ c
one_more k a b c n e f g h = omega arith

pub seats_more : (names order : List ℕ) (find : ℕ → Option ℕ) (seats : List (Option ℕ)) (k p : ℕ) → k < length order
    → ArePlaces names find → find (get_or order k 0) ≡ Some p → AreSeats names (take k order) seats → seat_at seats p ≡ None
    → AreSeats names (take (k + 1) order) (set seats p (Some k))
seats_more names order find seats k p in' h some s free =
    let place = h.sound _ p some in
    let p_in : p < length names = place.0 in
    let size = s.sized in
    let room : p < length seats = omega arith in
    let old : length (take k order) ≡ k = length-take-le k order (omega arith) in
    let new : length (take (k + 1) order) ≡ k + 1 = length-take-le (k + 1) order (omega arith) in
    let here : seat_at (set seats p (Some k)) p ≡ Some k = get_or-set_same seats p (Some k) None room in
    let there : (x : ℕ) → x ≢ p → seat_at (set seats p (Some k)) x ≡ seat_at seats x = λ x ne. get_or-set_other seats p x (Some k) None ne in
    let read : (r : ℕ) → r < k → get_or (take (k + 1) order) r 0 ≡ get_or (take k order) r 0 =
    λ r less. get_or-take (k + 1) order r 0 (omega arith) ∙ sym (get_or-take k order r 0 less) in
    let last : get_or (take (k + 1) order) k 0 ≡ get_or order k 0 = get_or-take (k + 1) order k 0 (omega arith) in
    record {
      sized = length-set seats p (Some k) ∙ s.sized;
      sound =
          λ x r x_in e.
          elim (cases_eq x p) [
            | inl same ↦
                (let at : k ≡ r = same_Some k r (sym here ∙ ap (seat_at (set seats p (Some k))) (sym same) ∙ e) in
                (omega arith, subst (λ z. get_or (take (k + 1) order) z 0 ≡ get_or names x 0) at (last ∙ sym place.1 ∙ ap (λ z. get_or names z 0) (sym same))))
            | inr other ↦
                (let o = s.sound x r x_in (sym (there x other) ∙ e) in
                let less : r < k = omega (arith, o.0) in
                (omega arith, read r less ∙ o.1))
          ];
      complete =
          λ r r_in.
          elim (cases_eq r k) [
            | inl same ↦ (p, p_in, place.1 ∙ sym (ap (λ z. get_or (take (k + 1) order) z 0) same ∙ last), here ∙ ap Some (sym same))
            | inr other ↦
                (let less : r < k = omega arith in
                let (x, x_in, is, seat) = s.complete r (omega arith) in
                let apart : x ≢ p = λ e. some_none r (sym seat ∙ ap (seat_at seats) e ∙ free) in
                (x, x_in, is ∙ sym (read r less), there x apart ∙ seat))
          ];
      count =
          let c = s.count in
          let n : ℕ = cond (is_some (seat_at seats p)) 1 0 in
          let f : count_by is_some (set seats p (Some k)) + n ≡ count_by is_some seats + 1 =
          sum_by-set (λ (x : Option ℕ). cond (is_some x) 1 0) seats p (Some k) None room in
          let none : n ≡ 0 = ap (λ (x : Option ℕ). let m : ℕ = cond (is_some x) 1 0 in m) free in
          new ∙ one_more k (length (take k order)) (count_by is_some seats) (count_by is_some (set seats p (Some k))) n old c f none;
    }

pub unknown : (names order : List ℕ) (find : ℕ → Option ℕ) (k : ℕ) → k < length order
    → ArePlaces names find → find (get_or order k 0) ≡ None → IsOrderOf names order → ⊥
unknown names order find k in' h none o = not_found names find _ h none ((o.members (get_or order k 0)).0 (Contains-get_or order k 0 in'))

pub seated_again : (names order : List ℕ) (find : ℕ → Option ℕ) (seats : List (Option ℕ)) (k p r : ℕ)
    → k < length order → ArePlaces names find → find (get_or order k 0) ≡ Some p → AreSeats names (take k order) seats
    → seat_at seats p ≡ Some r → IsOrderOf names order → ⊥
seated_again names order find seats k p r in' h some s seat o =
    let place = h.sound _ p some in
    let t = s.sound p r place.0 seat in
    repeated order k (get_or order k 0) 0 in' refl (r, t.0, get_or_default (take k order) r (get_or order k 0) 0 t.0 ∙ t.1 ∙ place.1) o.once

-- ---- all are seated
pub ranks_all : (names order ranks : List ℕ) (seats : List (Option ℕ)) → AreSeats names order seats → AreTaken seats ranks → AreRanks names order ranks
ranks_all names order ranks seats s t =
    let size = s.sized in
    let c = s.count in
    record {
      sized = t.sized ∙ size;
      few = omega (arith, count_by-le-length {X = Option ℕ} is_some seats);
      stands = λ p p_in. s.sound p (get_or ranks p 0) p_in (t.taken p (omega arith));
    }

pub order_all : (names order ranks : List ℕ) (find : ℕ → Option ℕ) (seats : List (Option ℕ))
    → ArePlaces names find → AreSeats names order seats → AreTaken seats ranks → IsOrderOf names order
order_all names order ranks find seats h s e =
    let d = places_distinct names find h in
    let r = ranks_all names order ranks seats s e in
    record {
      once =
          distinct_from_places order
          (λ i j x less j_in same.
          let (p, p_in, p_is, p_seat) = s.complete i (omega arith) in
          let (q, q_in, q_is, q_seat) = s.complete j j_in in
          let alike : get_or order i 0 ≡ get_or order j 0 = get_or_default order i 0 x (omega arith) ∙ same ∙ get_or_default order j x 0 j_in in
          let one : p ≡ q = one_place names p q 0 d p_in q_in (p_is ∙ alike ∙ sym q_is) in
          let ranks_one : i ≡ j = same_Some i j (sym p_seat ∙ ap (seat_at seats) one ∙ q_seat) in
          omega arith);
      members =
          λ id. (
            (λ (i, i_in, is).
                let (p, p_in, p_is, seat) = s.complete i i_in in
                (p, p_in, get_or_default names p id 0 p_in ∙ p_is ∙ get_or_default order i 0 id i_in ∙ is)),
            (λ (p, p_in, is).
                let t = r.stands p p_in in
                (get_or ranks p 0, t.0, get_or_default order (get_or ranks p 0) id 0 t.0 ∙ t.1 ∙ get_or_default names p 0 id p_in ∙ is)),
          );
    }

some_is : (o : Option ℕ) (r : ℕ) → o ≡ Some r → IsSome o
some_is o r e = subst (λ x. IsSome x) (sym e) refl

pub all_have_seats : (names order : List ℕ) (find : ℕ → Option ℕ) (seats : List (Option ℕ)) → ArePlaces names find
    → AreSeats names order seats → IsOrderOf names order → (p : ℕ) → p < length seats → IsSome (seat_at seats p)
all_have_seats names order find seats h s o p in' =
    let size = s.sized in
    let p_in : p < length names = omega arith in
    let (r, r_in, is) = (o.members (get_or names p 0)).1 (Contains-get_or names p 0 p_in) in
    let (q, q_in, q_is, seat) = s.complete r r_in in
    let one : q ≡ p = one_place names q p 0 (places_distinct names find h) q_in p_in (q_is ∙ get_or_default order r 0 (get_or names p 0) r_in ∙ is) in
    some_is (seat_at seats p) r (ap (seat_at seats) (sym one) ∙ seat)

-- ---- parents before children
pub stands : (order : List ℕ) (i j a b : ℕ) → i < j → j < length order → get_or order i 0 ≡ a → get_or order j 0 ≡ b → StandsBefore order a b
stands order i j a b less in' at bt =
    let split : order ≡ take j order ++ (b ∷ drop (j + 1) order) =
    sym (take-append-drop j order) ∙ ap (λ l. take j order ++ l) (drop_more order j 0 in') ∙ ap (λ x. take j order ++ (x ∷ drop (j + 1) order)) bt
    in
    let size : length (take j order) ≡ j = length-take-le j order (omega arith) in
    let k : i < length (take j order) = omega arith in
    (take j order, drop (j + 1) order, split, (i, k, get_or_default (take j order) i a 0 k ∙ get_or-take j order i 0 less ∙ at))

pub stood : (order : List ℕ) (i j a b : ℕ) → AreDistinct order → i < length order → j < length order
    → get_or order i 0 ≡ a → get_or order j 0 ≡ b → StandsBefore order a b → i < j
stood order i j a b d i_in j_in at bt (front, rest, split, (k, k_in, is)) =
    let size = length-append front (b ∷ rest) in
    let long = ap length split in
    let k_read : get_or order k 0 ≡ a = ap (λ l. get_or l k 0) split ∙ get_or_append_left front (b ∷ rest) 0 k k_in ∙ get_or_default front k 0 a k_in ∙ is in
    let j_read : get_or order (length front) 0 ≡ b = ap (λ l. get_or l (length front) 0) split ∙ get_or_at front b rest 0 (length front) refl in
    let i_is : i ≡ k = one_place order i k 0 d i_in (omega arith) (at ∙ sym k_read) in
    let j_is : j ≡ length front = one_place order j (length front) 0 d j_in (omega arith) (bt ∙ sym j_read) in
    omega arith

pub place_in : (names : List ℕ) (find : ℕ → Option ℕ) (seats : List (Option ℕ)) (order : List ℕ) (id p : ℕ)
    → ArePlaces names find → AreSeats names order seats → find id ≡ Some p → p < length seats
place_in names find seats order id p h s e = subst (λ n. p < n) (sym s.sized) (h.sound id p e).0

-- what a slice of a vector leaves
pub written_back : {A : Type 0} (len : ℕ) (new items now : List A) → now ≡ take len (new ++ drop (length new) items) → length new ≡ len → now ≡ new
written_back len new items now e size = e ∙ take_at new (drop (length new) items) len size

-- ---- groups of names
-- each name has its place
abbrev pub AreKnown : (ℕ → Option ℕ) → List ℕ → ℕ → Type 0
AreKnown find ids n = (id : ℕ) → Contains ids id → (p : ℕ) × (p < n) × (find id ≡ Some p)

pub apart : (find : ℕ → Option ℕ) (groups ids : List ℕ) (k first g h : ℕ) → k < length ids → first ≡ get_or ids 0 0
    → AreKnown find ids (length groups) → ((p : ℕ) → find first ≡ Some p → g ≡ get_or groups p 0)
    → ((p : ℕ) → find (get_or ids k 0) ≡ Some p → h ≡ get_or groups p 0) → (h ≡ g → ⊥) → AreOfOneGroup find groups ids → ⊥
apart find groups ids k first g h in' is known of_first of_other other all =
    let a : Contains ids first = subst (λ x. Contains ids x) (sym is) (Contains-get_or ids 0 0 (omega arith)) in
    let b = Contains-get_or ids k 0 in' in
    let (p, p_in, p_is) = known first a in
    let (q, q_in, q_is) = known (get_or ids k 0) b in
    other (of_other q q_is ∙ all (get_or ids k 0) first q p b a q_is p_is ∙ sym (of_first p p_is))
