-- Parts as they are written, beside the old parts that some of them are, and the same with their flows.
use Rattle.std.proofs.Common.{◌≡◌, ℕ, inl, inr, List, [], ◌∷◌, ◌++◌, length, map, refl, sym, ap, ap₂, ◌∙◌, subst, subst₂, arith}
use Rattle.std.specs.Prelude.{Contains, Option, None, Some}
use Rattle.std.specs.List.{AllZip}
use Rattle.std.specs.Ordering.{nat_cmp}
use Rattle.std.specs.FinSet as fin
use Rattle.fee_rate.specs.declared.rates.Sum.{Sum}
use Rattle.graphs.specs.Closures.{Closure, IsCover}
use Rattle.graphs.specs.Certificates.{Part, Certifies}
use Rattle.graphs.specs.Rates.{sums, Falls}
use Rattle.lists.proofs.Entries.{Contains-cases, Contains-head, Contains-later, none_in_empty}
use Rattle.linearize.specs.declared.draft.PlaceFlow.{PlaceFlow}
use Rattle.linearize.specs.declared.old.OldPart.{OldPart}
use Rattle.linearize.specs.Drafts.{placed}
use Rattle.linearize.specs.Graphs.{sum_at}
use Rattle.linearize.specs.Known.{AreKnown, AreTaken, IsCoverAmong, IsHeld, all_filled, filled, old_part}
use Rattle.linearize.specs.Near.{AreHeld, AreParts}
use Rattle.linearize.specs.Orders.{IsOrderOf}
use Rattle.linearize.specs.Splits.{IsUncutPart}

-- ---- lists that go together
pub zip_joined : {A B : Type 0} (R : A → B → Type 0) (xs ys : List A) (ps qs : List B) → AllZip R xs ps → AllZip R ys qs
    → AllZip R (xs ++ ys) (ps ++ qs)
zip_joined R [] ys [] qs h k = k
zip_joined R [] ys (p ∷ ps) qs h k = absurd h
zip_joined R (x ∷ xs) ys [] qs h k = absurd h
zip_joined R (x ∷ xs) ys (p ∷ ps) qs h k = (h.0, zip_joined R xs ys ps qs h.1 k)

pub zip_long : {A B : Type 0} (R : A → B → Type 0) (xs : List A) (ps : List B) → AllZip R xs ps → length xs ≡ length ps
zip_long R [] [] h = refl
zip_long R [] (p ∷ ps) h = absurd h
zip_long R (x ∷ xs) [] h = absurd h
zip_long R (x ∷ xs) (p ∷ ps) h = let rest = zip_long R xs ps h.1 in omega (arith, rest)

module _ (dep : Closure) (olds : List OldPart) (places : List ℕ) where
  -- certified parts that are none of the old ones
  pub none_held : (froms : List (Option OldPart)) (parts : List Part) → length froms ≡ length parts
      → ((from : Option OldPart) → Contains froms from → from ≡ None)
      → ((part : Part) → Contains parts part → Certifies (sum_at dep) (IsCover dep) part.ids part.flows)
      → AllZip (IsHeld dep olds places) froms parts
  none_held [] [] long none sure = tt
  none_held [] (p ∷ ps) long none sure = absurd (omega (arith, long))
  none_held (o ∷ os) [] long none sure = absurd (omega (arith, long))
  none_held (o ∷ os) (p ∷ ps) long none sure = (
    subst (λ (x : Option OldPart). IsHeld dep olds places x p) (sym (none o (Contains-head o os))) (sure p (Contains-head p ps)),
    none_held os ps (omega (arith, long)) (λ x h. none x (Contains-later o x os h)) (λ q h. sure q (Contains-later p q ps h)),
  )

  one_taken : (from : Option OldPart) (part : Part) → IsHeld dep olds places from part → Rattle.linearize.specs.Known.IsTaken olds places from part
  one_taken None part h = tt
  one_taken (Some old) part h = h.0

  pub all_taken : (froms : List (Option OldPart)) (parts : List Part) → AllZip (IsHeld dep olds places) froms parts
      → AreTaken olds places froms parts
  all_taken [] parts h = tt
  all_taken (o ∷ os) [] h = absurd h
  all_taken (o ∷ os) (p ∷ ps) h = (one_taken o p h.0, all_taken os ps h.1)

  -- ---- with their flows
  module _ (flows : List PlaceFlow) where
    filled_ids : (from : Option OldPart) (part : Part) → IsHeld dep olds places from part → (filled places flows from part).ids ≡ part.ids
    filled_ids None part h = refl
    filled_ids (Some old) part h = sym (ap (λ (p : Part). p.ids) h.0.2)

    filled_rate : (from : Option OldPart) (part : Part) → IsHeld dep olds places from part → (filled places flows from part).rate ≡ part.rate
    filled_rate None part h = refl
    filled_rate (Some old) part h = sym (ap (λ (p : Part). p.rate) h.0.2)

    pub ids_filled : (froms : List (Option OldPart)) (parts : List Part) → AllZip (IsHeld dep olds places) froms parts
        → map (λ (p : Part). p.ids) (all_filled places flows froms parts) ≡ map (λ (p : Part). p.ids) parts
    ids_filled [] parts h = refl
    ids_filled (o ∷ os) [] h = absurd h
    ids_filled (o ∷ os) (p ∷ ps) h = ap₂ {A = List ℕ} {B = List (List ℕ)} (λ x xs. x ∷ xs) (filled_ids o p h.0) (ids_filled os ps h.1)

    pub rates_filled : (froms : List (Option OldPart)) (parts : List Part) → AllZip (IsHeld dep olds places) froms parts
        → map (λ (p : Part). p.rate) (all_filled places flows froms parts) ≡ map (λ (p : Part). p.rate) parts
    rates_filled [] parts h = refl
    rates_filled (o ∷ os) [] h = absurd h
    rates_filled (o ∷ os) (p ∷ ps) h = ap₂ {A = Sum} {B = List Sum} (λ x xs. x ∷ xs) (filled_rate o p h.0) (rates_filled os ps h.1)

    pub placed_filled : (froms : List (Option OldPart)) (parts : List Part) → AllZip (IsHeld dep olds places) froms parts
        → placed (all_filled places flows froms parts) ≡ placed parts
    placed_filled [] parts h = refl
    placed_filled (o ∷ os) [] h = absurd h
    placed_filled (o ∷ os) (p ∷ ps) h = ap₂ {A = List ℕ} {B = List ℕ} (λ xs ys. xs ++ ys) (filled_ids o p h.0) (placed_filled os ps h.1)

    -- a part with its flows, of which the names and the rate are those of a part as it is written
    record Fill (parts : List Part) (q : Part) : Type 0 where
      pub part : Part
      pub there : Contains parts part
      pub ids : q.ids ≡ part.ids
      pub rate : q.rate ≡ part.rate
      pub certified : Certifies (sum_at dep) (IsCover dep) q.ids q.flows

    module _ (known : AreKnown dep olds places flows) where
      certified : (from : Option OldPart) (part : Part) → IsHeld dep olds places from part
          → Certifies (sum_at dep) (IsCover dep) (filled places flows from part).ids (filled places flows from part).flows
      certified None part h = h
      certified (Some old) part h =
          let q : Part = old_part places flows old in
          let c = (known old h.0.0 h.0.1).flows in
          let covers = subst (λ (xs : List ℕ). (a d : ℕ) → Contains xs a → Contains xs d → IsCoverAmong dep xs a d → IsCover dep a d)
          (sym (filled_ids (Some old) part h)) h.1 in
          record {
            once = c.once;
            links = λ f k. covers f.parent f.child (c.inside f k).1 (c.inside f k).0 (c.links f k);
            inside = c.inside;
            some = c.some;
            balanced = c.balanced;
          }

      fill : (froms : List (Option OldPart)) (parts : List Part) → AllZip (IsHeld dep olds places) froms parts → (q : Part)
          → Contains (all_filled places flows froms parts) q → Fill parts q
      fill [] [] h q here = absurd (none_in_empty q here)
      fill [] (p ∷ ps) h q here = absurd h
      fill (o ∷ os) [] h q here = absurd h
      fill (o ∷ os) (p ∷ ps) h q here = elim (Contains-cases (filled places flows o p) q (all_filled places flows os ps) here) [
        | inl same ↦ subst (Fill (p ∷ ps)) same (record {
          part = p;
          there = Contains-head p ps;
          ids = filled_ids o p h.0;
          rate = filled_rate o p h.0;
          certified = certified o p h.0;
        })
        | inr later ↦
            let rest = fill os ps h.1 q later in
            record { part = rest.part; there = Contains-later p rest.part ps rest.there; ids = rest.ids; rate = rest.rate; certified = rest.certified }
      ]

      pub with_flows_parts : (n : ℕ) (s : fin.FinSet nat_cmp) (froms : List (Option OldPart)) (parts : List Part)
          → AreHeld n dep olds places s froms parts → AreParts n dep s (all_filled places flows froms parts)
      with_flows_parts n s froms parts so = record {
        order = subst (IsOrderOf dep s) (sym (placed_filled froms parts so.held)) so.order;
        filled = λ q h none. (let f = fill froms parts so.held q h in so.filled f.part f.there (sym f.ids ∙ none));
        falling = record {
          summed = λ q h. (let f = fill froms parts so.held q h in
              f.rate ∙ so.falling.summed f.part f.there ∙ ap (sums (sum_at dep)) (sym f.ids));
          falling = subst Falls (sym (rates_filled froms parts so.held)) so.falling.falling;
        };
        flows = λ q h. (fill froms parts so.held q h).certified;
        uncut = λ q h. (let f = fill froms parts so.held q h in
            subst₂ (λ (xs : List ℕ) (w : Sum). IsUncutPart n dep (record { rate = w; ids = xs; flows = [] })) (sym f.ids) (sym f.rate)
            (so.uncut f.part f.there));
      }
