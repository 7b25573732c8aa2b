-- Parts, their names, and the definitions' view of them.
use Rattle.std.proofs.Common.{◌≡◌, ℕ, ◌<◌, zero, suc, List, [], ◌∷◌, ◌++◌, length, refl, sym, ap, ◌∙◌, subst, arith, get_or}
use Rattle.std.specs.Prelude.{Contains}
use Rattle.std.specs.List.{flat_map}
use Rattle.std.proofs.lemmas.List.{get_or-map, length-map, get_or_default}
use Rattle.std.proofs.lemmas.List.Elements.{Contains-append_left, Contains-append_right}
use Rattle.graphs.specs.Certificates as model
use Rattle.certificate.specs.declared.owned.Part.{Part}
use Rattle.certificate.specs.Parts.{part_of, parts_of, order_of, ids_at}

pub ids_here : (parts : List Part) (k : ℕ) (part : Part) → k < length parts → part ≡ get_or parts k part → part.ids ≡ ids_at parts k
ids_here parts k part in' is = ap (λ (p : Part). p.ids) is ∙ sym (get_or-map (λ (p : Part). p.ids) parts k part [] in')

pub order_has : (parts : List Part) (k id : ℕ) → k < length parts → Contains (ids_at parts k) id → Contains (order_of parts) id
order_has [] k id in' h = absurd (omega arith)
order_has (p ∷ parts) zero id in' h = Contains-append_left p.ids (order_of parts) id h
order_has (p ∷ parts) (suc k) id in' h = Contains-append_right p.ids (order_of parts) id (order_has parts k id (omega arith) h)

pub order_same : (parts : List Part) → flat_map (λ (p : model.Part). p.ids) (parts_of parts) ≡ order_of parts
order_same [] = refl
order_same (p ∷ parts) = ap (λ l. p.ids ++ l) (order_same parts)

-- a part of the definitions' view and where it stands
pub record IsAt (parts : List Part) (part : model.Part) : Type 0 where
  pub k : ℕ
  pub within : k < length parts
  pub it : Part
  pub here : it ≡ get_or parts k it
  pub is : part ≡ part_of it

pub part_at : (parts : List Part) (part : model.Part) → Contains (parts_of parts) part → IsAt parts part
part_at parts part (k, in', e) =
    let d : Part = record { rate = part.rate; ids = part.ids; flows = part.flows } in
    let k_in : k < length parts = subst (λ n. k < n) (length-map parts part_of) in' in
    record {
      k = k;
      within = k_in;
      it = get_or parts k d;
      here = get_or_default parts k d (get_or parts k d) k_in;
      is = sym e ∙ get_or-map part_of parts k d part k_in;
    }

pub contains_part : (parts : List Part) (k : ℕ) (part : Part) → k < length parts → part ≡ get_or parts k part → Contains (parts_of parts) (part_of part)
contains_part parts k part in' is =
    (k, subst (λ n. k < n) (sym (length-map parts part_of)) in', get_or-map part_of parts k part (part_of part) in' ∙ ap part_of (sym is))

-- there is a part at a position
pub some_part : (parts : List Part) (k : ℕ) → k < length parts → (it : Part) × (it ≡ get_or parts k it)
some_part [] k in' = absurd (omega arith)
some_part (p ∷ parts) k in' = (get_or (p ∷ parts) k p, get_or_default (p ∷ parts) k p (get_or (p ∷ parts) k p) in')
