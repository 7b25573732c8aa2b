-- What linearizes all members certifies each plain graph that they stand for.
use Rattle.std.proofs.Common.{◌≡◌, ◌≢◌, ℕ, ◌<◌, inl, inr, true, List, [], ◌∷◌, refl, sym, ◌∙◌, subst, arith}
use Rattle.std.specs.Prelude.{◌↔◌, Contains}
use Rattle.graphs.proofs.Members.{contains-members_of}
use Rattle.graphs.specs.Closures.{Closure, is_member, members_of, IsClosed, IsNear, IsRelated}
use Rattle.graphs.specs.Closing.{IsClosureOf}
use Rattle.graphs.proofs.ClosingLemmas.{connected_linked, covers_agree}
use Rattle.std.specs.Ordering.{nat_cmp}
use Rattle.std.specs.FinSet as fin
use Rattle.bitset.specs.Members.{from_insert, insert_here, to_insert}
use Rattle.bitset.specs.Places.{IsWithin}
use Rattle.bitset.specs.Sets.{contains-empty}
use Rattle.fee_rate.specs.declared.rates.Sum.{Sum}
use Rattle.fee_rate.specs.Rates.{Same}
use Rattle.graphs.proofs.BestLemmas.{covers_are_pairs}
use Rattle.lists.proofs.Cases.{clash}
use Rattle.lists.proofs.Entries.{Contains-cases, Contains-head, Contains-later, none_in_empty}
use Rattle.lists.specs.Distinct.{AreDistinct}
use Rattle.lists.specs.Walks.{IsWalk}
use Rattle.graphs.specs.Graphs as model
use Rattle.graphs.specs.Linearizations.{IsTopological}
use Rattle.graphs.specs.Certificates.{Part, IsCertificate}
use Rattle.graphs.specs.Rates.{HasSizes, sums}
use Rattle.linearize.specs.Graphs.{HasRates, IsComponent, sum_at}
use Rattle.linearize.specs.Drafts.{placed}
use Rattle.graphs.specs.Minimal.{AreMinimal}
use Rattle.linearize.specs.Orders.{sums_in}
use Rattle.linearize.specs.Near.{AreParts}
use Rattle.linearize.specs.Splits.{IsUpperIn, Linearizes}
use Rattle.linearize.proofs.Lists.{sum_any_order, total_any_order}
use Rattle.linearize.proofs.Chains.{ancestors_first}
use Rattle.lists.proofs.Keys.{set_drop}
use Rattle.lists.proofs.Flats.{flat_has}

-- ---- a list as a set
pub to_set : (xs : List ℕ) (q : ℕ) → Contains xs q → fin.contains (fin.from_list {R = nat_cmp} xs) q ≡ true
to_set [] q h = absurd (none_in_empty q h)
to_set (x ∷ xs) q h = elim (Contains-cases x q xs h) [
  | inl same ↦ subst (λ (k : ℕ). fin.contains (fin.from_list {R = nat_cmp} (x ∷ xs)) k ≡ true) same (insert_here (fin.from_list xs) x)
  | inr later ↦ to_insert (fin.from_list xs) x q (to_set xs q later)
]

pub from_set : (xs : List ℕ) (q : ℕ) → fin.contains (fin.from_list {R = nat_cmp} xs) q ≡ true → Contains xs q
from_set [] q m = clash _ m (contains-empty q)
from_set (x ∷ xs) q m = elim (from_insert (fin.from_list xs) x q m) [
  | inl same ↦ subst (λ (k : ℕ). Contains (x ∷ xs) k) (sym same) (Contains-head x xs)
  | inr later ↦ Contains-later x q xs (from_set xs q later)
]

list_some : (n : ℕ) (xs : List ℕ) → IsWithin n (fin.from_list xs) → xs ≢ [] → 0 < fin.len (fin.from_list {R = nat_cmp} xs)
list_some n [] below some = absurd (some refl)
list_some n (x ∷ xs) below some =
    let one = set_drop (fin.from_list (x ∷ xs)) x (to_set (x ∷ xs) x (Contains-head x xs)) in
    omega (arith, one)

sums_of_list : (n : ℕ) (dep : Closure) (xs : List ℕ) → IsWithin n (fin.from_list xs) → AreDistinct xs
    → sums (sum_at dep) xs ≡ sums_in n dep (fin.from_list xs)
sums_of_list n dep xs below once =
    let exact : (k : ℕ) → Contains xs k ↔ (fin.contains (fin.from_list {R = nat_cmp} xs) k ≡ true) = λ k. (to_set xs k, from_set xs k) in
    let fee : (sums (sum_at dep) xs).fee ≡ (sums_in n dep (fin.from_list xs)).fee =
    total_any_order (λ p. (sum_at dep p).fee) n xs (fin.from_list xs) below once exact in
    let size : (sums (sum_at dep) xs).size ≡ (sums_in n dep (fin.from_list xs)).size =
    sum_any_order (λ p. (sum_at dep p).size) n xs (fin.from_list xs) below once exact in
    λ i. record { fee = fee i; size = size i }

pub as_parts : (n : ℕ) (dep : Closure) (s : fin.FinSet nat_cmp) (parts : List Part) → Linearizes n dep s parts → AreParts n dep s parts
as_parts n dep s parts l = record { order = l.order; filled = l.filled; falling = l.falling; flows = l.flows; uncut = l.uncut }

module _ (n : ℕ) (dep : Closure) (graph : model.Graph) (closed : IsClosed n dep) (stands : IsClosureOf dep graph) where
  walk_linked : (vs : List ℕ) (a b : ℕ) → IsWalk (IsNear dep (members_of dep)) a vs b → IsWalk (IsRelated dep) a vs b
  walk_linked [] a b w = w
  walk_linked (v ∷ vs) a b w = (w.0.related, walk_linked vs v b w.1)

  pub has_sizes : HasRates dep → HasSizes (sum_at dep) graph.names
  has_sizes rates p h = (rates p ((stands.names p).0 h)).some

  module _ (parts : List Part) (component : IsComponent dep) (linear : AreParts n dep (members_of dep) parts) where
    member_of : (part : Part) (p : ℕ) → Contains parts part → Contains part.ids p → is_member dep p ≡ true
    member_of part p h k = sym (contains-members_of dep p) ∙ (linear.order.exact p).0 (flat_has (λ (q : Part). q.ids) parts part p h k)

    topological : IsTopological graph (placed parts)
    topological = record {
      once = linear.order.once;
      names = λ p. (
        λ h. (stands.names p).1 (sym (contains-members_of dep p) ∙ (linear.order.exact p).0 h),
        λ h. (linear.order.exact p).1 (contains-members_of dep p ∙ (stands.names p).0 h),
      );
      parents_first = λ p c pair.
          (let both = stands.ends p c pair in
          ancestors_first n dep closed (placed parts) linear.order p c ((stands.ancestors p c both.0 both.1).0 (1, (p, refl, pair)))
          (λ same. stands.acyclic p 0 (p, refl, subst (λ (k : ℕ). Contains graph.pairs (p, k)) (sym same) pair)));
    }

    pub certificate : IsCertificate (sum_at dep) graph (model.IsCover graph.pairs) parts
    certificate = record {
      filled = linear.filled;
      order = record {
        topological = topological;
        together = λ part h a b a_in b_in.
            (let w = component a b (member_of part a h a_in) (member_of part b h b_in) in
            (connected_linked dep graph closed.order stands a b).1 (w.0, walk_linked w.0 a b w.1));
      };
      falling = linear.falling;
      flows = λ part h. (let c = linear.flows part h in record {
        once = c.once;
        links = λ f k. (covers_agree dep graph closed.order stands f.parent f.child).1 (c.links f k);
        inside = c.inside;
        some = c.some;
        balanced = c.balanced;
      });
    }

    -- ---- no part can be cut further
    pub minimal : AreMinimal (sum_at dep) graph.pairs parts
    minimal part h list within some same id id_in =
        let set : fin.FinSet nat_cmp = fin.from_list list in
        let below : IsWithin n set = λ k m. closed.within k (member_of part k h (within.inside k (from_set list k m))) in
        let upper : IsUpperIn dep part.ids set = record {
          inside = λ p m. within.inside p (from_set list p m);
          parents = λ p c cover m p_in.
              to_set list p (within.parents p c
              (covers_are_pairs graph.pairs p c ((covers_agree dep graph closed.order stands p c).1 cover)) p_in (from_set list c m));
        } in
        let its_sums : Same (sums_in n dep set) (sums (sum_at dep) part.ids) =
        subst (λ (w : Sum). Same w (sums (sum_at dep) part.ids)) (sums_of_list n dep list below within.once) same in
        let its_rate : Same (sums_in n dep set) part.rate =
        subst (λ (w : Sum). Same (sums_in n dep set) w) (sym (linear.falling.summed part h)) its_sums in
        from_set list id (linear.uncut part h set upper (list_some n list below some) its_rate id id_in)
