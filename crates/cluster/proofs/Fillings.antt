-- An order that was read, of which some parts are old ones, is one of parts with all their flows.
use Rattle.std.proofs.Common.{◌≡◌, ℕ, zero, suc, ◌<◌, ◌≤◌, List, [], ◌∷◌, ◌++◌, length, map, slice_index, refl, sym, ap, ap₂, ◌∙◌, subst, subst₂, arith, inl, inr}
use Rattle.std.specs.Prelude.{Contains, IfSome, Option, None, Some, get_or}
use Rattle.std.specs.List.Sorted.{IsPermutation}
use Rattle.std.proofs.lemmas.List.Sorted.{IsPermutation-refl}
use Rattle.lists.proofs.Entries.{Contains-cases, Contains-head, Contains-later, none_in_empty}
use Rattle.lists.specs.Distinct.{AreDistinct}
use Rattle.graphs.specs.Closures.{Closure}
use Rattle.graphs.specs.declared.names.Flow.{Flow}
use Rattle.graphs.specs.Certificates.{Part}
use Rattle.graphs.specs.Picks.{FollowOrder, links_of}
use Rattle.linearize.specs.declared.draft.PlaceFlow.{PlaceFlow}
use Rattle.linearize.specs.declared.old.OldPart.{OldPart}
use Rattle.linearize.specs.Drafts.{placed}
use Rattle.linearize.specs.Known.{AreKnown, AreTaken, IsTaken, all_filled, filled}
use Rattle.cluster.specs.declared.order.PartEnd.{PartEnd}
use Rattle.cluster.specs.Guesses.{AreSound, at_places}
use Rattle.cluster.specs.Orders.{AreWithin, IsPlaced, IsRead, IsReadFrom, IsReadOf, IsReadPart, no_part, renamed_flow}
use Rattle.cluster.proofs.Reading.{zip_at}

module _ (names : List ℕ) (dep : Closure) (olds : List OldPart) (places : List ℕ) (flows : List Flow) (sound : AreSound names dep olds places flows) where
  abbrev by_places : List PlaceFlow
  by_places = map (at_places names) flows

  pub are_known : AreKnown dep olds places by_places
  are_known old here said = (sound old here said).known

  -- ---- one part
  taken_ids : (from : Option OldPart) (part : Part) → IsTaken olds places from part → (filled places by_places from part).ids ≡ part.ids
  taken_ids None part taken = refl
  taken_ids (Some old) part taken = sym (ap (λ (p : Part). p.ids) taken.2)

  one_read : (order : List ℕ) (from : Option OldPart) (part new : Part) → IsTaken olds places from part
      → IsReadFrom (slice_index names) order flows from part new → IsReadPart (slice_index names) order (filled places by_places from part) new
  one_read order None part new taken read = read
  one_read order (Some old) part new taken read =
      let so = sound old taken.0 taken.1 in
      let ids = read.ids_are ∙ ap (λ (p : Part). map (slice_index names) p.ids) taken.2 in
      record {
        rate_is = read.rate_is ∙ ap (λ (p : Part). p.rate) taken.2;
        ids_are = ids;
        same = subst (IsPermutation (map (renamed_flow (slice_index names)) (filled places by_places (Some old) part).flows))
            (so.same ∙ sym read.flows_are) (IsPermutation-refl (map (renamed_flow (slice_index names)) (filled places by_places (Some old) part).flows));
        in_order = inr (subst₂ (λ (xs : List ℕ) (fs : List Flow). FollowOrder xs (links_of fs)) (sym ids) (sym read.flows_are) so.follow);
      }

  -- ---- all parts
  taken_at : (froms : List (Option OldPart)) (parts : List Part) → AreTaken olds places froms parts → (k : ℕ) → k < length parts
      → IsTaken olds places (get_or froms k None) (get_or parts k no_part)
  taken_at [] parts taken zero low = tt
  taken_at [] parts taken (suc k) low = tt
  taken_at (o ∷ os) [] taken k low = absurd taken
  taken_at (o ∷ os) (p ∷ ps) taken zero low = taken.0
  taken_at (o ∷ os) (p ∷ ps) taken (suc k) low = taken_at os ps taken.1 k (omega (arith, low))

  filled_at : (froms : List (Option OldPart)) (parts : List Part) → AreTaken olds places froms parts → (k : ℕ) → k < length parts
      → get_or (all_filled places by_places froms parts) k no_part ≡ filled places by_places (get_or froms k None) (get_or parts k no_part)
  filled_at [] parts taken zero low = refl
  filled_at [] parts taken (suc k) low = refl
  filled_at (o ∷ os) [] taken k low = absurd taken
  filled_at (o ∷ os) (p ∷ ps) taken zero low = refl
  filled_at (o ∷ os) (p ∷ ps) taken (suc k) low = filled_at os ps taken.1 k (omega (arith, low))

  filled_long : (froms : List (Option OldPart)) (parts : List Part) → AreTaken olds places froms parts
      → length (all_filled places by_places froms parts) ≡ length parts
  filled_long [] parts taken = refl
  filled_long (o ∷ os) [] taken = absurd taken
  filled_long (o ∷ os) (p ∷ ps) taken = let rest = filled_long os ps taken.1 in omega (arith, rest)

  filled_placed : (froms : List (Option OldPart)) (parts : List Part) → AreTaken olds places froms parts
      → placed (all_filled places by_places froms parts) ≡ placed parts
  filled_placed [] parts taken = refl
  filled_placed (o ∷ os) [] taken = absurd taken
  filled_placed (o ∷ os) (p ∷ ps) taken = ap₂ {A = List ℕ} {B = List ℕ} (λ xs ys. xs ++ ys) (taken_ids o p taken.0) (filled_placed os ps taken.1)

  pub filled_read : (froms : List (Option OldPart)) (parts : List Part) → AreTaken olds places froms parts → (ends : List PartEnd) (order : List ℕ)
      (out : List Flow) → IsReadOf names froms flows parts ends order out → IsRead names (all_filled places by_places froms parts) ends order out
  filled_read froms parts taken ends order out r =
      let long : length (all_filled places by_places froms parts) ≡ length parts = filled_long froms parts taken in
      record {
        parts = r.parts;
        read = zip_at (IsReadPart (slice_index names) order) (all_filled places by_places froms parts) r.parts no_part no_part
            (let l = r.long in omega (arith, l, long))
            (λ k low. (let inside : k < length parts = omega (arith, low, long) in
            subst (λ (p : Part). IsReadPart (slice_index names) order p (get_or r.parts k no_part)) (sym (filled_at froms parts taken k inside))
            (one_read order (get_or froms k None) (get_or parts k no_part) (get_or r.parts k no_part) (taken_at froms parts taken k inside)
            (r.read k inside))));
        ends = r.ends;
      }

  one_within : (from : Option OldPart) (part : Part) → IsTaken olds places from part
      → IfSome from (λ old. (old.flow_start ≤ old.flow_end) × (old.flow_end ≤ length flows))
  one_within None part taken = tt
  one_within (Some old) part taken = let w = (sound old taken.0 taken.1).within in (w.flow_order, w.flow_end)

  pub all_within : (froms : List (Option OldPart)) (parts : List Part) → AreTaken olds places froms parts → AreWithin froms flows
  all_within [] parts taken zero = tt
  all_within [] parts taken (suc k) = tt
  all_within (o ∷ os) [] taken k = absurd taken
  all_within (o ∷ os) (p ∷ ps) taken zero = one_within o p taken.0
  all_within (o ∷ os) (p ∷ ps) taken (suc k) = all_within os ps taken.1 k

  one_inside : (from : Option OldPart) (part : Part) → IsTaken olds places from part
      → ((flow : Flow) → Contains (filled places by_places from part).flows flow
      → Contains (filled places by_places from part).ids flow.child × Contains (filled places by_places from part).ids flow.parent)
      → (flow : Flow) → Contains part.flows flow → Contains part.ids flow.child × Contains part.ids flow.parent
  one_inside None part taken inside flow here = inside flow here
  one_inside (Some old) part taken inside flow here =
      absurd (none_in_empty flow (subst (λ (p : Part). Contains p.flows flow) taken.2 here))

  all_inside : (froms : List (Option OldPart)) (parts : List Part) → AreTaken olds places froms parts
      → ((part : Part) → Contains (all_filled places by_places froms parts) part → (flow : Flow) → Contains part.flows flow
      → Contains part.ids flow.child × Contains part.ids flow.parent)
      → (part : Part) → Contains parts part → (flow : Flow) → Contains part.flows flow → Contains part.ids flow.child × Contains part.ids flow.parent
  all_inside [] parts taken inside part here flow held = inside part here flow held
  all_inside (o ∷ os) [] taken inside part here flow held = absurd taken
  all_inside (o ∷ os) (p ∷ ps) taken inside part here flow held = elim (Contains-cases p part ps here) [
    | inl same ↦
        subst (λ (q : Part). Contains q.ids flow.child × Contains q.ids flow.parent) same
        (one_inside o p taken.0 (inside (filled places by_places o p) (Contains-head (filled places by_places o p) (all_filled places by_places os ps))) flow
        (subst (λ (q : Part). Contains q.flows flow) (sym same) held))
    | inr later ↦
        all_inside os ps taken.1 (λ q q_in. inside q (Contains-later (filled places by_places o p) q (all_filled places by_places os ps) q_in)) part later flow held
  ]

  pub placed_bare : (n : ℕ) (froms : List (Option OldPart)) (parts : List Part) → AreTaken olds places froms parts
      → IsPlaced n (all_filled places by_places froms parts) → IsPlaced n parts
  placed_bare n froms parts taken so = record {
    once = subst AreDistinct (filled_placed froms parts taken) so.once;
    below = λ p here. so.below p (subst (λ (xs : List ℕ). Contains xs p) (sym (filled_placed froms parts taken)) here);
    inside = all_inside froms parts taken so.inside;
  }
