-- A draft as it is kept: what more places, more flows and one more part make of it, and what its lists are.
use Rattle.std.proofs.Common.{◌≡◌, ℕ, ◌+◌, ◌-◌, ◌≤◌, List, [], ◌∷◌, ◌++◌, length, map, take, drop, refl, sym, ap, ◌∙◌}
use Rattle.std.proofs.Common.{subst, arith, append_assoc, length-append, length-drop, take-append-drop}
use Rattle.std.proofs.lemmas.List.{append-nil, take_all, drop_all, take-append-le, drop-append-le, length-take-le, length-map, map-append}
use Rattle.graphs.specs.Certificates.{Part}
use Rattle.linearize.specs.declared.draft.LinearPart.{LinearPart}
use Rattle.linearize.specs.declared.draft.PlaceFlow.{PlaceFlow}
use Rattle.linearize.specs.Graphs.{sum_from}
use Rattle.linearize.specs.Drafts.{placed, flows_in, all_placed, all_flows, named, totals, AreShown, parts_from, left_from, AreEnds, written_of, IsKept}

abbrev pub ends_of : List LinearPart → List ℕ
ends_of parts = map (λ part. part.end) parts

abbrev pub flow_ends_of : List LinearPart → List ℕ
flow_ends_of parts = map (λ part. part.flow_end) parts

-- ---- more behind the lists
ends_dropped : {X : Type 0} (i e : ℕ) (ends : List ℕ) (xs : List X) → AreEnds i (e ∷ ends) (length xs) → AreEnds e ends (length (drop (e - i) xs))
ends_dropped i e ends xs h = subst (λ (n : ℕ). AreEnds e ends n) (sym (length-drop (e - i) xs)) h.2

pub left_more : {X : Type 0} (i : ℕ) (ends : List ℕ) (xs more : List X) → AreEnds i ends (length xs)
    → left_from i ends (xs ++ more) ≡ left_from i ends xs ++ more
left_more i [] xs more h = refl
left_more i (e ∷ ends) xs more h =
    ap (λ ys. left_from e ends ys) (drop-append-le (e - i) xs more h.1) ∙ left_more e ends (drop (e - i) xs) more (ends_dropped i e ends xs h)

pub parts_more : (i j : ℕ) (parts : List LinearPart) (order more : List ℕ) (flows extra : List PlaceFlow)
    → AreEnds i (ends_of parts) (length order) → AreEnds j (flow_ends_of parts) (length flows)
    → parts_from i j parts (order ++ more) (flows ++ extra) ≡ parts_from i j parts order flows
parts_more i j [] order more flows extra h k = refl
parts_more i j (part ∷ parts) order more flows extra h k =
    let rest : parts_from part.end part.flow_end parts (drop (part.end - i) (order ++ more)) (drop (part.flow_end - j) (flows ++ extra))
    ≡ parts_from part.end part.flow_end parts (drop (part.end - i) order) (drop (part.flow_end - j) flows) =
    ap (λ ys. parts_from part.end part.flow_end parts ys (drop (part.flow_end - j) (flows ++ extra))) (drop-append-le (part.end - i) order more h.1)
    ∙ ap (λ fs. parts_from part.end part.flow_end parts (drop (part.end - i) order ++ more) fs) (drop-append-le (part.flow_end - j) flows extra k.1)
    ∙ parts_more part.end part.flow_end parts (drop (part.end - i) order) more (drop (part.flow_end - j) flows) extra
    (ends_dropped i part.end (ends_of parts) order h) (ends_dropped j part.flow_end (flow_ends_of parts) flows k) in
    ap (λ (ps : List Part). record {
      rate = sum_from part.rate;
      ids = take (part.end - i) (order ++ more);
      flows =
          map named (take (part.flow_end - j) (flows ++ extra));
    } ∷ ps) rest
    ∙ ap (λ (ids : List ℕ). record {
      rate = sum_from part.rate;
      ids = ids;
      flows =
          map named (take (part.flow_end - j) (flows ++ extra));
    } ∷ parts_from part.end part.flow_end parts (drop (part.end - i) order)
    (drop (part.flow_end - j) flows)) (take-append-le (part.end - i) order more h.1)
    ∙ ap (λ (fs : List PlaceFlow). record { rate = sum_from part.rate; ids = take (part.end - i) order; flows = map named fs } ∷ parts_from part.end
    part.flow_end parts (drop (part.end - i) order) (drop (part.flow_end - j) flows)) (take-append-le (part.flow_end - j) flows extra k.1)

pub ends_more : (i : ℕ) (ends : List ℕ) (n m : ℕ) → n ≤ m → AreEnds i ends n → AreEnds i ends m
ends_more i [] n m le h = tt
ends_more i (e ∷ ends) n m le h = (h.0, omega (arith, h.1), ends_more e ends (n - (e - i)) (m - (e - i)) (omega arith) h.2)

-- ---- one more part, which ends where the lists do
pub ends_closed : (i : ℕ) (ends : List ℕ) (n e : ℕ) → e ≡ i + n → AreEnds i ends n → AreEnds i (ends ++ e ∷ []) n
ends_closed i [] n e is h = (omega arith, omega arith, tt)
ends_closed i (d ∷ ends) n e is h = (h.0, h.1, ends_closed d ends (n - (d - i)) e (omega (arith, h.0, h.1)) h.2)

pub left_closed : {X : Type 0} (i : ℕ) (ends : List ℕ) (xs : List X) (e : ℕ) → e ≡ i + length xs → AreEnds i ends (length xs)
    → left_from i (ends ++ e ∷ []) xs ≡ []
left_closed i [] xs e is h = drop_all (e - i) xs (omega arith)
left_closed i (d ∷ ends) xs e is h =
    left_closed d ends (drop (d - i) xs) e (let l = length-drop (d - i) xs in omega (arith, l, h.0, h.1)) (ends_dropped i d ends xs h)

pub parts_closed : (i j : ℕ) (parts : List LinearPart) (last : LinearPart) (order : List ℕ) (flows : List PlaceFlow)
    → last.end ≡ i + length order → last.flow_end ≡ j + length flows
    → AreEnds i (ends_of parts) (length order) → AreEnds j (flow_ends_of parts) (length flows)
    → parts_from i j (parts ++ last ∷ []) order flows
    ≡ parts_from i j parts order flows ++ record {
      rate = sum_from last.rate;
      ids = left_from i (ends_of parts) order;
      flows =
          map named (left_from j (flow_ends_of parts) flows);
    } ∷ []
parts_closed i j [] last order flows e f h k =
    ap (λ (ids : List ℕ). record { rate = sum_from last.rate; ids = ids; flows = map named (take (last.flow_end - j) flows) } ∷ [])
    (take_all (last.end - i) order (omega arith))
    ∙ ap (λ (fs : List PlaceFlow). record { rate = sum_from last.rate; ids = order; flows = map named fs } ∷ [])
    (take_all (last.flow_end - j) flows (omega arith))
parts_closed i j (part ∷ parts) last order flows e f h k =
    ap (λ (ps : List Part). record { rate = sum_from part.rate; ids = take (part.end - i) order; flows = map named (take (part.flow_end - j) flows) } ∷ ps)
    (parts_closed part.end part.flow_end parts last (drop (part.end - i) order) (drop (part.flow_end - j) flows)
    (let l = length-drop (part.end - i) order in omega (arith, l, h.0, h.1))
    (let l = length-drop (part.flow_end - j) flows in omega (arith, l, k.0, k.1))
    (ends_dropped i part.end (ends_of parts) order h) (ends_dropped j part.flow_end (flow_ends_of parts) flows k))

-- ---- what the lists are
pub order_is : (i j : ℕ) (parts : List LinearPart) (order : List ℕ) (flows : List PlaceFlow)
    → order ≡ placed (parts_from i j parts order flows) ++ left_from i (ends_of parts) order
order_is i j [] order flows = refl
order_is i j (part ∷ parts) order flows =
    sym (take-append-drop (part.end - i) order)
    ∙ ap (λ ys. take (part.end - i) order ++ ys) (order_is part.end part.flow_end parts (drop (part.end - i) order) (drop (part.flow_end - j) flows))
    ∙ sym (append_assoc (take (part.end - i) order)
    (placed (parts_from part.end part.flow_end parts (drop (part.end - i) order) (drop (part.flow_end - j) flows)))
    (left_from part.end (ends_of parts) (drop (part.end - i) order)))

pub flows_are : (i j : ℕ) (parts : List LinearPart) (order : List ℕ) (flows : List PlaceFlow)
    → map named flows ≡ flows_in (parts_from i j parts order flows) ++ map named (left_from j (flow_ends_of parts) flows)
flows_are i j [] order flows = refl
flows_are i j (part ∷ parts) order flows =
    ap (map named) (sym (take-append-drop (part.flow_end - j) flows))
    ∙ map-append named (take (part.flow_end - j) flows) (drop (part.flow_end - j) flows)
    ∙ ap (λ fs. map named (take (part.flow_end - j) flows) ++ fs)
    (flows_are part.end part.flow_end parts (drop (part.end - i) order) (drop (part.flow_end - j) flows))
    ∙ sym (append_assoc (map named (take (part.flow_end - j) flows))
    (flows_in (parts_from part.end part.flow_end parts (drop (part.end - i) order) (drop (part.flow_end - j) flows)))
    (map named (left_from part.flow_end (flow_ends_of parts) (drop (part.flow_end - j) flows))))

shown_rates : (i j : ℕ) (parts : List LinearPart) (order : List ℕ) (flows : List PlaceFlow)
    → map (λ part. sum_from part.rate) parts ≡ map (λ part. part.rate) (parts_from i j parts order flows)
shown_rates i j [] order flows = refl
shown_rates i j (part ∷ parts) order flows =
    ap (λ rs. sum_from part.rate ∷ rs) (shown_rates part.end part.flow_end parts (drop (part.end - i) order) (drop (part.flow_end - j) flows))

shown_ends : (i j : ℕ) (parts : List LinearPart) (order : List ℕ) (flows : List PlaceFlow) → AreEnds i (ends_of parts) (length order)
    → ends_of parts ≡ totals i (map (λ part. length part.ids) (parts_from i j parts order flows))
shown_ends i j [] order flows h = refl
shown_ends i j (part ∷ parts) order flows h =
    let here : part.end ≡ i + length (take (part.end - i) order) = (let l = length-take-le (part.end - i) order h.1 in omega (arith, l, h.0)) in
    ap (λ es. part.end ∷ es) (shown_ends part.end part.flow_end parts (drop (part.end - i) order) (drop (part.flow_end - j) flows)
    (ends_dropped i part.end (ends_of parts) order h))
    ∙ ap (λ (e : ℕ). e ∷ totals e (map (λ part. length part.ids)
    (parts_from part.end part.flow_end parts (drop (part.end - i) order) (drop (part.flow_end - j) flows)))) here

shown_flow_ends : (i j : ℕ) (parts : List LinearPart) (order : List ℕ) (flows : List PlaceFlow) → AreEnds j (flow_ends_of parts) (length flows)
    → flow_ends_of parts ≡ totals j (map (λ part. length part.flows) (parts_from i j parts order flows))
shown_flow_ends i j [] order flows h = refl
shown_flow_ends i j (part ∷ parts) order flows h =
    let here : part.flow_end ≡ j + length (map named (take (part.flow_end - j) flows)) =
    (let l = length-take-le (part.flow_end - j) flows h.1 in let m = length-map (take (part.flow_end - j) flows) named in omega (arith, l, m, h.0)) in
    ap (λ es. part.flow_end ∷ es) (shown_flow_ends part.end part.flow_end parts (drop (part.end - i) order) (drop (part.flow_end - j) flows)
    (ends_dropped j part.flow_end (flow_ends_of parts) flows h))
    ∙ ap (λ (e : ℕ). e ∷ totals e (map (λ part. length part.flows)
    (parts_from part.end part.flow_end parts (drop (part.end - i) order) (drop (part.flow_end - j) flows)))) here

-- ---- the draft's changes
pub shown : (parts : List LinearPart) (order : List ℕ) (flows : List PlaceFlow) → IsKept parts order flows → AreShown parts (written_of parts order flows).parts
shown parts order flows kept = record {
  rates = shown_rates 0 0 parts order flows;
  ends = shown_ends 0 0 parts order flows kept.ends;
  flow_ends = shown_flow_ends 0 0 parts order flows kept.flow_ends;
}

pub length_placed : (parts : List LinearPart) (order : List ℕ) (flows : List PlaceFlow) → length order ≡ length (all_placed (written_of parts order flows))
length_placed parts order flows = ap length (order_is 0 0 parts order flows)

pub length_flows : (parts : List LinearPart) (order : List ℕ) (flows : List PlaceFlow) → length flows ≡ length (all_flows (written_of parts order flows))
length_flows parts order flows = sym (length-map flows named) ∙ ap length (flows_are 0 0 parts order flows)

pub length_parts : (i j : ℕ) (parts : List LinearPart) (order : List ℕ) (flows : List PlaceFlow) → length parts ≡ length (parts_from i j parts order flows)
length_parts i j [] order flows = refl
length_parts i j (part ∷ parts) order flows = let rest =
    length_parts part.end part.flow_end parts (drop (part.end - i) order) (drop (part.flow_end - j) flows) in omega arith

pub kept_put_all : (parts : List LinearPart) (order more : List ℕ) (flows : List PlaceFlow) → IsKept parts order flows
    → IsKept parts (order ++ more) flows
kept_put_all parts order more flows kept = record {
  ends = ends_more 0 (ends_of parts) (length order) (length (order ++ more)) (let l = length-append order more in omega arith) kept.ends;
  flow_ends = kept.flow_ends;
}

pub written_put_all : (parts : List LinearPart) (order more : List ℕ) (flows : List PlaceFlow) → IsKept parts order flows
    → written_of parts (order ++ more)
    flows ≡ record {
      parts = (written_of parts order flows).parts;
      ids = (written_of parts order flows).ids ++ more;
      flows =
          (written_of parts order flows).flows;
    }
written_put_all parts order more flows kept =
    let same : parts_from 0 0 parts (order ++ more) flows ≡ parts_from 0 0 parts order flows =
    ap (λ fs. parts_from 0 0 parts (order ++ more) fs) (sym (append-nil flows))
    ∙ parts_more 0 0 parts order more flows [] kept.ends kept.flow_ends in
    λ i. record { parts = same i; ids = left_more 0 (ends_of parts) order more kept.ends i; flows = map named (left_from 0 (flow_ends_of parts) flows) }

pub kept_send_all : (parts : List LinearPart) (order : List ℕ) (flows more : List PlaceFlow) → IsKept parts order flows
    → IsKept parts order (flows ++ more)
kept_send_all parts order flows more kept = record {
  ends = kept.ends;
  flow_ends = ends_more 0 (flow_ends_of parts) (length flows) (length (flows ++ more)) (let l = length-append flows more in omega arith) kept.flow_ends;
}

pub written_send_all : (parts : List LinearPart) (order : List ℕ) (flows more : List PlaceFlow) → IsKept parts order flows
    → written_of parts order (flows ++ more)
    ≡ record {
      parts = (written_of parts order flows).parts;
      ids = (written_of parts order flows).ids;
      flows =
          (written_of parts order flows).flows ++ map named more;
    }
written_send_all parts order flows more kept =
    let same : parts_from 0 0 parts order (flows ++ more) ≡ parts_from 0 0 parts order flows =
    ap (λ ys. parts_from 0 0 parts ys (flows ++ more)) (sym (append-nil order))
    ∙ parts_more 0 0 parts order [] flows more kept.ends kept.flow_ends in
    let left : map named (left_from 0 (flow_ends_of parts) (flows ++ more)) ≡ map named (left_from 0 (flow_ends_of parts) flows) ++ map named more =
    ap (map named) (left_more 0 (flow_ends_of parts) flows more kept.flow_ends)
    ∙ map-append named (left_from 0 (flow_ends_of parts) flows) more in
    λ i. record { parts = same i; ids = left_from 0 (ends_of parts) order; flows = left i }

pub kept_close : (parts : List LinearPart) (order : List ℕ) (flows : List PlaceFlow) (last : LinearPart) → last.end ≡ length order
    → last.flow_end ≡ length flows → IsKept parts order flows → IsKept (parts ++ last ∷ []) order flows
kept_close parts order flows last e f kept = record {
  ends = subst (λ (es : List ℕ). AreEnds 0 es (length order)) (sym (map-append (λ part. part.end) parts (last ∷ [])))
      (ends_closed 0 (ends_of parts) (length order) last.end (omega arith) kept.ends);
  flow_ends = subst (λ (es : List ℕ). AreEnds 0 es (length flows)) (sym (map-append (λ part. part.flow_end) parts (last ∷ [])))
      (ends_closed 0 (flow_ends_of parts) (length flows) last.flow_end (omega arith) kept.flow_ends);
}

pub written_close : (parts : List LinearPart) (order : List ℕ) (flows : List PlaceFlow) (last : LinearPart) → last.end ≡ length order
    → last.flow_end ≡ length flows → IsKept parts order flows
    → written_of (parts ++ last ∷ []) order flows ≡ record {
      parts = (written_of parts order flows).parts ++ record {
        rate = sum_from last.rate;
        ids = (written_of parts order flows).ids;
        flows =
            (written_of parts order flows).flows;
      } ∷ [];
      ids = [];
      flows = [];
    }
written_close parts order flows last e f kept =
    let all = parts_closed 0 0 parts last order flows (omega arith) (omega arith) kept.ends kept.flow_ends in
    let none : left_from 0 (ends_of (parts ++ last ∷ [])) order ≡ [] =
    ap (λ es. left_from 0 es order) (map-append (λ part. part.end) parts (last ∷ [])) ∙ left_closed 0 (ends_of parts) order last.end (omega arith) kept.ends in
    let no_flow : left_from 0 (flow_ends_of (parts ++ last ∷ [])) flows ≡ [] =
    ap (λ es. left_from 0 es flows) (map-append (λ part. part.flow_end) parts (last ∷ []))
    ∙ left_closed 0 (flow_ends_of parts) flows last.flow_end (omega arith) kept.flow_ends in
    λ i. record { parts = all i; ids = none i; flows = map named (no_flow i) }
