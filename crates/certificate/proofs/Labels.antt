-- Pairs of places and the edges that they are: walks and trails of the one are those of the other.
use Rattle.std.proofs.Common.{◌≡◌, ℕ, ◌<◌, zero, suc, List, length, inl, inr, refl, sym, ap, ◌∙◌, subst, get_or, map}
use Rattle.std.specs.Prelude.{Contains}
use Rattle.std.proofs.lemmas.List.{get_or-map, length-map, get_or_default}
use Rattle.std.proofs.lemmas.List.Elements.{Contains-get_or}
use Rattle.lists.proofs.Distinct.{one_place}
use Rattle.lists.specs.Distinct.{AreDistinct}
use Rattle.graphs.specs.Graphs.{Walk, Trail, AreConnected, HasNoCycle}
use Rattle.places.specs.Chains.{AreWithin}
use Rattle.certificate.specs.Places.{named}

-- the names are distinct, and the pairs are of their places
pub record Labels (names : List ℕ) (pairs : List (ℕ × ℕ)) : Type 0 where
  pub distinct : AreDistinct names
  pub within : AreWithin (length names) pairs

-- the pair of places that an edge comes from
pub record From (names : List ℕ) (pairs : List (ℕ × ℕ)) (a b : ℕ) : Type 0 where
  pub p : ℕ
  pub q : ℕ
  pub here : Contains {X = ℕ × ℕ} pairs (p, q)
  pub p_in : p < length names
  pub q_in : q < length names
  pub p_is : get_or names p 0 ≡ a
  pub q_is : get_or names q 0 ≡ b

pub from : (names : List ℕ) (pairs : List (ℕ × ℕ)) (a b : ℕ) → AreWithin (length names) pairs
    → Contains {X = ℕ × ℕ} (map (named names) pairs) (a, b) → From names pairs a b
from names pairs a b within (k, in', e) =
    let k_in : k < length pairs = subst (λ n. k < n) (length-map pairs (named names)) in' in
    let is : ◌≡◌ {A = ℕ × ℕ} (named names (get_or pairs k (0, 0))) (a, b) = sym (get_or-map (named names) pairs k (0, 0) (a, b) k_in) ∙ e in
    let w = within k (0, 0) k_in in
    record {
      p = (get_or pairs k (0, 0)).0;
      q = (get_or pairs k (0, 0)).1;
      here = Contains-get_or pairs k (0, 0) k_in;
      p_in = w.0;
      q_in = w.1;
      p_is = ap (λ (x : ℕ × ℕ). x.0) is;
      q_is = ap (λ (x : ℕ × ℕ). x.1) is;
    }

pub to : (names : List ℕ) (pairs : List (ℕ × ℕ)) (p q : ℕ) → Contains {X = ℕ × ℕ} pairs (p, q)
    → Contains {X = ℕ × ℕ} (map (named names) pairs) (get_or names p 0, get_or names q 0)
to names pairs p q (k, in', e) = (
  k,
  subst (λ n. k < n) (sym (length-map pairs (named names))) in',
  get_or-map (named names) pairs k (p, q) (get_or names p 0, get_or names q 0) in' ∙ ap (named names) e,
)

-- ---- walks
pub walk_named : (names : List ℕ) (pairs : List (ℕ × ℕ)) (i j n : ℕ) → Walk pairs i j n → Walk (map (named names) pairs) (get_or names i 0) (get_or names j 0) n
walk_named names pairs i j zero e = ap (λ x. get_or names x 0) e
walk_named names pairs i j (suc n) (c, w, last) = (get_or names c 0, walk_named names pairs i c n w, to names pairs c j last)

record WalkBack (names : List ℕ) (pairs : List (ℕ × ℕ)) (a j n : ℕ) : Type 0 where
  pub i : ℕ
  pub i_in : i < length names
  pub i_is : get_or names i 0 ≡ a
  pub walk : Walk pairs i j n

walk_back : (names : List ℕ) (pairs : List (ℕ × ℕ)) (a b j n : ℕ) → Labels names pairs → j < length names
    → get_or names j 0 ≡ b → Walk (map (named names) pairs) a b n → WalkBack names pairs a j n
walk_back names pairs a b j zero l j_in is e = record { i = j; i_in = j_in; i_is = is ∙ sym e; walk = refl }
walk_back names pairs a b j (suc n) l j_in is (c, w, last) =
    let f = from names pairs c b l.within last in
    let same : f.q ≡ j = one_place names f.q j 0 l.distinct f.q_in j_in (f.q_is ∙ sym is) in
    let back = walk_back names pairs a c f.p n l f.p_in f.p_is w in
    record {
      i = back.i;
      i_in = back.i_in;
      i_is = back.i_is;
      walk = (f.p, back.walk, subst (λ x. Contains {X = ℕ × ℕ} pairs (f.p, x)) same f.here);
    }

pub no_cycle_named : (names : List ℕ) (pairs : List (ℕ × ℕ)) → Labels names pairs → HasNoCycle pairs → HasNoCycle (map (named names) pairs)
no_cycle_named names pairs l h a n (c, w, last) =
    let f = from names pairs c a l.within last in
    let back = walk_back names pairs a a f.q (suc n) l f.q_in f.q_is (c, w, last) in
    let same : back.i ≡ f.q = one_place names back.i f.q 0 l.distinct back.i_in f.q_in (back.i_is ∙ sym f.q_is) in
    h f.q n (subst (λ x. Walk pairs x f.q (suc n)) same back.walk)

pub no_cycle_placed : (names : List ℕ) (pairs : List (ℕ × ℕ)) → HasNoCycle (map (named names) pairs) → HasNoCycle pairs
no_cycle_placed names pairs h a n w = h (get_or names a 0) n (walk_named names pairs a a (suc n) w)

-- ---- trails
pub trail_named : (names : List ℕ) (pairs : List (ℕ × ℕ)) (i j n : ℕ) → Trail pairs i j n
    → Trail (map (named names) pairs) (get_or names i 0) (get_or names j 0) n
trail_named names pairs i j zero e = ap (λ x. get_or names x 0) e
trail_named names pairs i j (suc n) (c, w, inl last) = (get_or names c 0, trail_named names pairs i c n w, inl (to names pairs c j last))
trail_named names pairs i j (suc n) (c, w, inr last) = (get_or names c 0, trail_named names pairs i c n w, inr (to names pairs j c last))

record TrailBack (names : List ℕ) (pairs : List (ℕ × ℕ)) (a j n : ℕ) : Type 0 where
  pub i : ℕ
  pub i_in : i < length names
  pub i_is : get_or names i 0 ≡ a
  pub trail : Trail pairs i j n

trail_back : (names : List ℕ) (pairs : List (ℕ × ℕ)) (a b j n : ℕ) → Labels names pairs → j < length names
    → get_or names j 0 ≡ b → Trail (map (named names) pairs) a b n → TrailBack names pairs a j n
trail_back names pairs a b j zero l j_in is e = record { i = j; i_in = j_in; i_is = is ∙ sym e; trail = refl }
trail_back names pairs a b j (suc n) l j_in is (c, w, inl last) =
    let f = from names pairs c b l.within last in
    let same : f.q ≡ j = one_place names f.q j 0 l.distinct f.q_in j_in (f.q_is ∙ sym is) in
    let back = trail_back names pairs a c f.p n l f.p_in f.p_is w in
    record {
      i = back.i;
      i_in = back.i_in;
      i_is = back.i_is;
      trail = (f.p, back.trail, inl (subst (λ x. Contains {X = ℕ × ℕ} pairs (f.p, x)) same f.here));
    }
trail_back names pairs a b j (suc n) l j_in is (c, w, inr last) =
    let f = from names pairs b c l.within last in
    let same : f.p ≡ j = one_place names f.p j 0 l.distinct f.p_in j_in (f.p_is ∙ sym is) in
    let back = trail_back names pairs a c f.q n l f.q_in f.q_is w in
    record {
      i = back.i;
      i_in = back.i_in;
      i_is = back.i_is;
      trail = (f.q, back.trail, inr (subst (λ x. Contains {X = ℕ × ℕ} pairs (x, f.q)) same f.here));
    }

pub connected_named : (names : List ℕ) (pairs : List (ℕ × ℕ)) (i j : ℕ) → AreConnected pairs i j
    → AreConnected (map (named names) pairs) (get_or names i 0) (get_or names j 0)
connected_named names pairs i j (n, t) = (n, trail_named names pairs i j n t)

pub connected_placed : (names : List ℕ) (pairs : List (ℕ × ℕ)) (i j : ℕ) → Labels names pairs → i < length names
    → j < length names → AreConnected (map (named names) pairs) (get_or names i 0) (get_or names j 0) → AreConnected pairs i j
connected_placed names pairs i j l i_in j_in (n, t) =
    let back = trail_back names pairs (get_or names i 0) (get_or names j 0) j n l j_in refl t in
    let same : back.i ≡ i = one_place names back.i i 0 l.distinct back.i_in i_in back.i_is in
    (n, subst (λ x. Trail pairs x j n) same back.trail)

pub ends_named : (names : List ℕ) (pairs : List (ℕ × ℕ)) (a b : ℕ) → AreWithin (length names) pairs
    → Contains {X = ℕ × ℕ} (map (named names) pairs) (a, b) → Contains names a × Contains names b
ends_named names pairs a b within here =
    let f = from names pairs a b within here in
    ((f.p, f.p_in, get_or_default names f.p a 0 f.p_in ∙ f.p_is), (f.q, f.q_in, get_or_default names f.q b 0 f.q_in ∙ f.q_is))
