-- Flows and accounts, one after the other.
use Rattle.std.proofs.Common.{◌≡◌, ◌≢◌, ℕ, ◌+◌, ◌^◌, ◌<◌, ◌≤◌, List, [], ◌∷◌, ◌++◌, length, inl, inr, refl, sym, ap, ◌∙◌, subst, arith, get_or, set, take, Option, Some, cond, eqb, true, false, Bool, ℤ, pos, ◌+ℤ◌, ◌-ℤ◌, ◌*ℤ◌, FitsSigned, unsigned_abs, to_z, of_z}
use Rattle.std.specs.Prelude.{Contains}
use Rattle.std.proofs.lemmas.Int.{ints, fits_signed_from_abs, to_z-of_z}
use mir.Syntax.{w128}
use Rattle.std.proofs.lemmas.Bool.{cases_eq, ne_eqb}
use Rattle.std.proofs.Common.{eq-eqb}
use Rattle.std.proofs.lemmas.List.{get_or-map, length-map, get_or_default, get_or-set_same, get_or-set_other, length-set, take_more}
use Rattle.std.proofs.lemmas.List.Sums.{sum_by-append, sum_by-cons, sum_by-take-le, get_or-le-sum_by}
use Rattle.std.proofs.lemmas.List.Elements.{Contains-get_or, Contains-push_cases, Contains-append_left, Contains-push}
use Rattle.std.proofs.lemmas.Option.{same_Some}
use Rattle.graphs.specs.declared.names.Flow.{Flow}
use Rattle.graphs.specs.Certificates.{given, gotten, weight_in}
use Rattle.fee_rate.specs.declared.rates.Sum.{Sum}
use Rattle.places.specs.Places.{ArePlaces}
use Rattle.certificate.specs.declared.flows.Account.{Account}
use Rattle.certificate.specs.Accounts.{account_at, IsOpen, AreOpen, amount_of, ends_of}

abbrev pub flow_at : List Flow → ℕ → Flow
flow_at flows k = get_or flows k record { child = 0; parent = 0; amount = 0 }

pub ends_at : (flows : List Flow) (k : ℕ) → k < length flows
    → ◌≡◌ {A = ℕ × ℕ} (get_or (ends_of flows) k (0, 0)) ((flow_at flows k).child, (flow_at flows k).parent)
ends_at flows k in' = get_or-map (λ (f : Flow). let p : ℕ × ℕ = (f.child, f.parent) in p) flows k record { child = 0; parent = 0; amount = 0 } (0, 0) in'

pub ends_long : (flows : List Flow) (k : ℕ) → k < length flows → k < length (ends_of flows)
ends_long flows k in' = subst (λ n. k < n) (sym (length-map flows (λ (f : Flow). let p : ℕ × ℕ = (f.child, f.parent) in p))) in'

pub flow_of : (flows : List Flow) (flow : Flow) → Contains flows flow → (k : ℕ) × (k < length flows) × (flow_at flows k ≡ flow)
flow_of flows flow (k, in', e) = (k, in', get_or_default flows k record { child = 0; parent = 0; amount = 0 } flow in' ∙ e)

pub flow_here : (flows : List Flow) (k : ℕ) → k < length flows → Contains flows (flow_at flows k)
flow_here flows k in' = Contains-get_or flows k record { child = 0; parent = 0; amount = 0 } in'

-- ---- what is given and gotten
pub given-push : (flows : List Flow) (flow : Flow) (id : ℕ) → given (flows ++ (flow ∷ [])) id ≡ given flows id + cond (eqb flow.child id) flow.amount 0
given-push flows flow id =
    let n : ℕ = cond (eqb flow.child id) flow.amount 0 in
    let none : 0 + n ≡ n = omega arith in
    sum_by-append (λ (f : Flow). cond (eqb f.child id) f.amount 0) flows (flow ∷ []) ∙ ap (λ (x : ℕ). given flows id + x) none

pub gotten-push : (flows : List Flow) (flow : Flow) (id : ℕ) → gotten (flows ++ (flow ∷ [])) id ≡ gotten flows id + cond (eqb flow.parent id) flow.amount 0
gotten-push flows flow id =
    let n : ℕ = cond (eqb flow.parent id) flow.amount 0 in
    let none : 0 + n ≡ n = omega arith in
    sum_by-append (λ (f : Flow). cond (eqb f.parent id) f.amount 0) flows (flow ∷ []) ∙ ap (λ (x : ℕ). gotten flows id + x) none

-- ---- accounts
abbrev nobody : Account
nobody = record { part = 0; net = pos 0 }

-- the names of the part have what F gives less what G takes
pub record Nets (find : ℕ → Option ℕ) (part : ℕ) (F G : ℕ → ℕ) (old new : List Account) : Type 0 where
  pub sized : length new ≡ length old
  pub parts : (x : ℕ) → (account_at new x).part ≡ (account_at old x).part
  pub net : (id x : ℕ) → find id ≡ Some x → (account_at new x).part ≡ part → (account_at new x).net ≡ pos (F id) -ℤ pos (G id)

pub nets_none : (find : ℕ → Option ℕ) (part : ℕ) (accounts : List Account)
    → ((x : ℕ) → (account_at accounts x).part ≡ part → (account_at accounts x).net ≡ pos 0) → Nets find part (given []) (gotten []) accounts accounts
nets_none find part accounts h = record { sized = refl; parts = λ x. refl; net = λ id x e p. h x p }

changed_here : (accounts : List Account) (place : ℕ) (new : Account) → place < length accounts → account_at (set accounts place new) place ≡ new
changed_here accounts place new in' = get_or-set_same accounts place new nobody in'

changed_there : (accounts : List Account) (place x : ℕ) (new : Account) → x ≢ place → account_at (set accounts place new) x ≡ account_at accounts x
changed_there accounts place x new ne = get_or-set_other accounts place x new nobody ne

-- one account changes, its part stays
part_stays : (accounts : List Account) (place x : ℕ) (net : ℤ) → place < length accounts
    → (account_at (set accounts place record { part = (account_at accounts place).part; net = net }) x).part ≡ (account_at accounts x).part
part_stays accounts place x net in' =
    let new : Account = record { part = (account_at accounts place).part; net = net } in
    elim (cases_eq x place) [
      | inl e ↦
          subst (λ y. (account_at (set accounts place new) y).part ≡ (account_at accounts y).part)
          (sym e) (ap (λ (a : Account). a.part) (changed_here accounts place new in'))
      | inr ne ↦ ap (λ (a : Account). a.part) (changed_there accounts place x new ne)
    ]

term_same : (a b n : ℕ) → a ≡ b → cond (eqb a b) n 0 ≡ n
term_same a b n e = ap (λ t. let m : ℕ = cond t n 0 in m) (eq-eqb a b e)

term_other : (a b n : ℕ) → (a ≡ b → ⊥) → cond (eqb a b) n 0 ≡ 0
term_other a b n ne = ap (λ t. let m : ℕ = cond t n 0 in m) (ne_eqb a b ne)

paid_sum : (new old : ℤ) (f g a t : ℕ) → new ≡ old +ℤ pos a → old ≡ pos f -ℤ pos g → t ≡ a → new ≡ pos (f + t) -ℤ pos g
paid_sum new old f g a t e h n = omega (arith, ints)

paid_none : (new old : ℤ) (f g t : ℕ) → new ≡ old → old ≡ pos f -ℤ pos g → t ≡ 0 → new ≡ pos (f + t) -ℤ pos g
paid_none new old f g t e h n = omega (arith, ints)

drawn_sum : (new old : ℤ) (f g a t : ℕ) → new ≡ old -ℤ pos a → old ≡ pos f -ℤ pos g → t ≡ a → new ≡ pos f -ℤ pos (g + t)
drawn_sum new old f g a t e h n = omega (arith, ints)

drawn_none : (new old : ℤ) (f g t : ℕ) → new ≡ old → old ≡ pos f -ℤ pos g → t ≡ 0 → new ≡ pos f -ℤ pos (g + t)
drawn_none new old f g t e h n = omega (arith, ints)

pub nets_paid : (find : ℕ → Option ℕ) (part : ℕ) (F G : ℕ → ℕ) (old accounts new : List Account) (id place amount : ℕ)
    → ((a b x : ℕ) → find a ≡ Some x → find b ≡ Some x → a ≡ b) → Nets find part F G old accounts → find id ≡ Some place
    → place < length accounts → new ≡ set accounts place record { part = (account_at accounts place).part; net = (account_at accounts place).net +ℤ pos amount }
    → Nets find part (λ x. F x + cond (eqb id x) amount 0) G old new
nets_paid find part F G old accounts new id place amount one h is in' e =
    let after : Account = record { part = (account_at accounts place).part; net = (account_at accounts place).net +ℤ pos amount } in
    let parts : (x : ℕ) → (account_at new x).part ≡ (account_at accounts x).part =
    λ x. subst (λ l. (account_at l x).part ≡ (account_at accounts x).part) (sym e)
    (part_stays accounts place x ((account_at accounts place).net +ℤ pos amount) in') in
    record {
      sized = ap length e ∙ length-set accounts place after ∙ h.sized;
      parts = λ x. parts x ∙ h.parts x;
      net =
          λ other x f p.
          let before = h.net other x f (sym (parts x) ∙ p) in
          elim (cases_eq x place) [
            | inl same ↦
                (let who : id ≡ other = one id other place is (f ∙ ap Some same) in
                let n = term_same id other amount who in
                let now : (account_at new x).net ≡ (account_at accounts x).net +ℤ pos amount =
                ap (λ l. (account_at l x).net) e
                ∙ subst (λ y. (account_at (set accounts place after) y).net ≡ (account_at accounts y).net +ℤ pos amount)
                (sym same) (ap (λ (a : Account). a.net) (changed_here accounts place after in'))
                in
                paid_sum (account_at new x).net (account_at accounts x).net (F other) (G other) amount (cond (eqb id other) amount 0) now before n)
            | inr apart ↦
                (let who : id ≡ other → ⊥ = λ w. apart (same_Some x place (sym f ∙ ap find (sym w) ∙ is)) in
                let n = term_other id other amount who in
                let now : (account_at new x).net ≡ (account_at accounts x).net =
                ap (λ l. (account_at l x).net) e ∙ ap (λ (a : Account). a.net) (changed_there accounts place x after apart) in
                paid_none (account_at new x).net (account_at accounts x).net (F other) (G other) (cond (eqb id other) amount 0) now before n)
          ];
    }

pub nets_drawn : (find : ℕ → Option ℕ) (part : ℕ) (F G : ℕ → ℕ) (old accounts new : List Account) (id place amount : ℕ)
    → ((a b x : ℕ) → find a ≡ Some x → find b ≡ Some x → a ≡ b) → Nets find part F G old accounts → find id ≡ Some place
    → place < length accounts → new ≡ set accounts place record { part = (account_at accounts place).part; net = (account_at accounts place).net -ℤ pos amount }
    → Nets find part F (λ x. G x + cond (eqb id x) amount 0) old new
nets_drawn find part F G old accounts new id place amount one h is in' e =
    let after : Account = record { part = (account_at accounts place).part; net = (account_at accounts place).net -ℤ pos amount } in
    let parts : (x : ℕ) → (account_at new x).part ≡ (account_at accounts x).part =
    λ x. subst (λ l. (account_at l x).part ≡ (account_at accounts x).part) (sym e)
    (part_stays accounts place x ((account_at accounts place).net -ℤ pos amount) in') in
    record {
      sized = ap length e ∙ length-set accounts place after ∙ h.sized;
      parts = λ x. parts x ∙ h.parts x;
      net =
          λ other x f p.
          let before = h.net other x f (sym (parts x) ∙ p) in
          elim (cases_eq x place) [
            | inl same ↦
                (let who : id ≡ other = one id other place is (f ∙ ap Some same) in
                let n = term_same id other amount who in
                let now : (account_at new x).net ≡ (account_at accounts x).net -ℤ pos amount =
                ap (λ l. (account_at l x).net) e
                ∙ subst (λ y. (account_at (set accounts place after) y).net ≡ (account_at accounts y).net -ℤ pos amount)
                (sym same) (ap (λ (a : Account). a.net) (changed_here accounts place after in'))
                in
                drawn_sum (account_at new x).net (account_at accounts x).net (F other) (G other) amount (cond (eqb id other) amount 0) now before n)
            | inr apart ↦
                (let who : id ≡ other → ⊥ = λ w. apart (same_Some x place (sym f ∙ ap find (sym w) ∙ is)) in
                let n = term_other id other amount who in
                let now : (account_at new x).net ≡ (account_at accounts x).net =
                ap (λ l. (account_at l x).net) e ∙ ap (λ (a : Account). a.net) (changed_there accounts place x after apart) in
                drawn_none (account_at new x).net (account_at accounts x).net (F other) (G other) (cond (eqb id other) amount 0) now before n)
          ];
    }

-- other numbers for the same
pub nets_same : (find : ℕ → Option ℕ) (part : ℕ) (F G F' G' : ℕ → ℕ) (old new : List Account)
    → ((id : ℕ) → F id ≡ F' id) → ((id : ℕ) → G id ≡ G' id) → Nets find part F G old new → Nets find part F' G' old new
nets_same find part F G F' G' old new f g h = record {
  sized = h.sized;
  parts = h.parts;
  net = λ id x e p. h.net id x e p ∙ ap (λ n. pos n -ℤ pos (G id)) (f id) ∙ ap (λ n. pos (F' id) -ℤ pos n) (g id);
}

pub given_next : (flows : List Flow) (k id : ℕ) → k < length flows
    → given (take k flows) id + cond (eqb (flow_at flows k).child id) (flow_at flows k).amount 0 ≡ given (take (k + 1) flows) id
given_next flows k id in' = sym (given-push (take k flows) (flow_at flows k) id)
    ∙ ap (λ l. given l id) (sym (take_more flows k record { child = 0; parent = 0; amount = 0 } in'))

pub gotten_next : (flows : List Flow) (k id : ℕ) → k < length flows
    → gotten (take k flows) id + cond (eqb (flow_at flows k).parent id) (flow_at flows k).amount 0 ≡ gotten (take (k + 1) flows) id
gotten_next flows k id in' = sym (gotten-push (take k flows) (flow_at flows k) id)
    ∙ ap (λ l. gotten l id) (sym (take_more flows k record { child = 0; parent = 0; amount = 0 } in'))

-- ---- bounds
term_bound : (b : Bool) (n : ℕ) → cond b n 0 ≤ n
term_bound true n = omega arith
term_bound false n = omega arith

pub given_bound : (flows : List Flow) (id : ℕ) → given flows id ≤ amount_of flows
given_bound [] id = omega arith
given_bound (f ∷ flows) id =
    let more = given_bound flows id in
    let a = sum_by-cons (λ (g : Flow). cond (eqb g.child id) g.amount 0) f flows in
    let b = sum_by-cons (λ (g : Flow). g.amount) f flows in
    let c = term_bound (eqb f.child id) f.amount in
    omega arith

pub gotten_bound : (flows : List Flow) (id : ℕ) → gotten flows id ≤ amount_of flows
gotten_bound [] id = omega arith
gotten_bound (f ∷ flows) id =
    let more = gotten_bound flows id in
    let a = sum_by-cons (λ (g : Flow). cond (eqb g.parent id) g.amount 0) f flows in
    let b = sum_by-cons (λ (g : Flow). g.amount) f flows in
    let c = term_bound (eqb f.parent id) f.amount in
    omega arith

pub front_bound : (flows : List Flow) (k : ℕ) → amount_of (take k flows) ≤ amount_of flows
front_bound flows k = sum_by-take-le (λ (g : Flow). g.amount) flows k

pub amount_bound : (flows : List Flow) (k : ℕ) → k < length flows → (flow_at flows k).amount ≤ amount_of flows
amount_bound flows k in' = get_or-le-sum_by (λ (g : Flow). g.amount) flows k record { child = 0; parent = 0; amount = 0 } in'

abs_up : (z : ℤ) (g t a : ℕ) → z ≡ pos g -ℤ pos t → g + a < 2 ^ 127 → t < 2 ^ 127 → unsigned_abs (z +ℤ pos a) < 2 ^ 127
abs_up z g t a e h k = omega (arith, ints)

abs_down : (z : ℤ) (g t a : ℕ) → z ≡ pos g -ℤ pos t → g < 2 ^ 127 → t + a < 2 ^ 127 → unsigned_abs (z -ℤ pos a) < 2 ^ 127
abs_down z g t a e h k = omega (arith, ints)

pub fits_up : (z : ℤ) (g t a : ℕ) → z ≡ pos g -ℤ pos t → g + a < 2 ^ 127 → t < 2 ^ 127 → FitsSigned w128 (z +ℤ pos a)
fits_up z g t a e h k = fits_signed_from_abs w128 (z +ℤ pos a) (abs_up z g t a e h k)

pub fits_down : (z : ℤ) (g t a : ℕ) → z ≡ pos g -ℤ pos t → g < 2 ^ 127 → t + a < 2 ^ 127 → FitsSigned w128 (z -ℤ pos a)
fits_down z g t a e h k = fits_signed_from_abs w128 (z -ℤ pos a) (abs_down z g t a e h k)

-- ---- one flow
pub open_place : (find : ℕ → Option ℕ) (part : ℕ) (F G : ℕ → ℕ) (old cur : List Account) (id place : ℕ) → Nets find part F G old cur
    → IsOpen find old part id → find id ≡ Some place → (place < length cur) × ((account_at cur place).part ≡ part)
open_place find part F G old cur id place h (x, is, in', of) e =
    let same : x ≡ place = same_Some x place (sym is ∙ e) in
    (subst (λ n. place < n) (sym h.sized) (subst (λ y. y < length old) same in'), h.parts place ∙ subst (λ y. (account_at old y).part ≡ part) same of)

given_after : (flows : List Flow) (k : ℕ) → k < length flows → given (take k flows) (flow_at flows k).child + (flow_at flows k).amount ≤ amount_of flows
given_after flows k in' =
    let n = given_next flows k (flow_at flows k).child in' in
    let t = term_same (flow_at flows k).child (flow_at flows k).child (flow_at flows k).amount refl in
    let a = given_bound (take (k + 1) flows) (flow_at flows k).child in
    let b = front_bound flows (k + 1) in
    omega arith

gotten_after : (flows : List Flow) (k : ℕ) → k < length flows → gotten (take k flows) (flow_at flows k).parent + (flow_at flows k).amount ≤ amount_of flows
gotten_after flows k in' =
    let n = gotten_next flows k (flow_at flows k).parent in' in
    let t = term_same (flow_at flows k).parent (flow_at flows k).parent (flow_at flows k).amount refl in
    let a = gotten_bound (take (k + 1) flows) (flow_at flows k).parent in
    let b = front_bound flows (k + 1) in
    omega arith

pub pay_fits : (find : ℕ → Option ℕ) (part : ℕ) (old cur : List Account) (flows : List Flow) (k place : ℕ)
    → Nets find part (given (take k flows)) (gotten (take k flows)) old cur → k < length flows → amount_of flows < 2 ^ 127
    → find (flow_at flows k).child ≡ Some place → (account_at cur place).part ≡ part
    → FitsSigned w128 ((account_at cur place).net +ℤ pos (flow_at flows k).amount)
pay_fits find part old cur flows k place h in' total e of =
    let a = given_after flows k in' in
    let b = gotten_bound (take k flows) (flow_at flows k).child in
    let c = front_bound flows k in
    fits_up (account_at cur place).net (given (take k flows) (flow_at flows k).child)
    (gotten (take k flows) (flow_at flows k).child) (flow_at flows k).amount (h.net _ place e of) (omega arith) (omega arith)

pub paid : (find : ℕ → Option ℕ) (part : ℕ) (old cur new : List Account) (flows : List Flow) (k place : ℕ)
    → ((a b x : ℕ) → find a ≡ Some x → find b ≡ Some x → a ≡ b) → Nets find part (given (take k flows)) (gotten (take k flows)) old cur
    → k < length flows → find (flow_at flows k).child ≡ Some place → place < length cur
    → new ≡ set cur place record { part = (account_at cur place).part; net = (account_at cur place).net +ℤ pos (flow_at flows k).amount }
    → Nets find part (given (take (k + 1) flows)) (gotten (take k flows)) old new
paid find part old cur new flows k place one h in' e room is =
    nets_same find part _ _ (given (take (k + 1) flows)) (gotten (take k flows)) old new (λ id. given_next flows k id in') (λ id. refl)
    (nets_paid find part (given (take k flows)) (gotten (take k flows)) old cur new (flow_at flows k).child place (flow_at flows k).amount one h e room is)

pub draw_fits : (find : ℕ → Option ℕ) (part : ℕ) (old cur : List Account) (flows : List Flow) (k place : ℕ)
    → Nets find part (given (take (k + 1) flows)) (gotten (take k flows)) old cur → k < length flows → amount_of flows < 2 ^ 127
    → find (flow_at flows k).parent ≡ Some place → (account_at cur place).part ≡ part
    → FitsSigned w128 ((account_at cur place).net -ℤ pos (flow_at flows k).amount)
draw_fits find part old cur flows k place h in' total e of =
    let a = gotten_after flows k in' in
    let b = given_bound (take (k + 1) flows) (flow_at flows k).parent in
    let c = front_bound flows (k + 1) in
    fits_down (account_at cur place).net (given (take (k + 1) flows) (flow_at flows k).parent)
    (gotten (take k flows) (flow_at flows k).parent) (flow_at flows k).amount (h.net _ place e of) (omega arith) (omega arith)

pub drawn : (find : ℕ → Option ℕ) (part : ℕ) (old cur new : List Account) (flows : List Flow) (k place : ℕ)
    → ((a b x : ℕ) → find a ≡ Some x → find b ≡ Some x → a ≡ b) → Nets find part (given (take (k + 1) flows)) (gotten (take k flows)) old cur
    → k < length flows → find (flow_at flows k).parent ≡ Some place → place < length cur
    → new ≡ set cur place record { part = (account_at cur place).part; net = (account_at cur place).net -ℤ pos (flow_at flows k).amount }
    → Nets find part (given (take (k + 1) flows)) (gotten (take (k + 1) flows)) old new
drawn find part old cur new flows k place one h in' e room is =
    nets_same find part _ _ (given (take (k + 1) flows)) (gotten (take (k + 1) flows)) old new (λ id. refl) (λ id. gotten_next flows k id in')
    (nets_drawn find part (given (take (k + 1) flows)) (gotten (take k flows)) old cur new
    (flow_at flows k).parent place (flow_at flows k).amount one h e room is)

-- ---- weights
pub kept : (z : ℤ) → unsigned_abs z < 2 ^ 127 → to_z w128 (of_z w128 z) ≡ z
kept z h = to_z-of_z w128 z (fits_signed_from_abs w128 z h)

sub_abs : (a b : ℤ) → unsigned_abs a < 2 ^ 114 → unsigned_abs b < 2 ^ 114 → unsigned_abs (a -ℤ b) < 2 ^ 127
sub_abs a b h k = omega (arith, ints)

pub weight_kept : (a b x y : ℤ) → unsigned_abs a < 2 ^ 114 → unsigned_abs b < 2 ^ 114 → a ≡ x
    → b ≡ y → to_z w128 (of_z w128 (to_z w128 (of_z w128 a) -ℤ to_z w128 (of_z w128 b))) ≡ x -ℤ y
weight_kept a b x y h k e f =
    let ka = kept a (omega arith) in
    let kb = kept b (omega arith) in
    ap (λ z. to_z w128 (of_z w128 (z -ℤ to_z w128 (of_z w128 b)))) ka ∙ ap (λ z. to_z w128 (of_z w128 (a -ℤ z))) kb
    ∙ kept (a -ℤ b) (sub_abs a b h k) ∙ ap (λ z. z -ℤ b) e ∙ ap (λ z. x -ℤ z) f

-- ---- accounts opened
pub open_none : (find : ℕ → Option ℕ) (part : ℕ) (accounts : List Account) → ((x : ℕ) → (account_at accounts x).part < part) → AreOpen find [] part accounts
open_none find part accounts h = record {
  bound = λ x. let l = h x in omega arith;
  here = λ id (k, in', e). absurd (omega arith);
  only = λ x e. let l = h x in absurd (omega arith);
}

pub open_more : (find : ℕ → Option ℕ) (ids : List ℕ) (part : ℕ) (accounts : List Account) (k place : ℕ) → k < length ids
    → AreOpen find (take k ids) part accounts → find (get_or ids k 0) ≡ Some place → place < length accounts
    → AreOpen find (take (k + 1) ids) part (set accounts place record { part = part; net = pos 0 })
open_more find ids part accounts k place in' h is room =
    let new : Account = record { part = part; net = pos 0 } in
    let more = take_more ids k 0 in' in
    record {
      bound =
          λ x.
          elim (cases_eq x place) [
            | inl e ↦ (let q : (account_at (set accounts place new) x).part ≡ part = subst (λ y. (account_at (set accounts place new) y).part ≡ part)
                (sym e) (ap (λ (a : Account). a.part) (changed_here accounts place new room)) in omega arith)
            | inr ne ↦ (let q = ap (λ (a : Account). a.part) (changed_there accounts place x new ne) in let b = h.bound x in omega arith)
          ];
      here =
          λ id there.
          elim (Contains-push_cases (take k ids) (get_or ids k 0) id (subst (λ l. Contains l id) more there)) [
            | inl old ↦
                (let (x, x_is, x_in, of) = h.here id old in (
                  x,
                  x_is,
                  subst (λ n. x < n) (sym (length-set accounts place new)) x_in,
                  elim (cases_eq x place) [
                    | inl e ↦ subst (λ y. (account_at (set accounts place new) y).part ≡ part)
                        (sym e) (ap (λ (a : Account). a.part) (changed_here accounts place new room))
                    | inr ne ↦ ap (λ (a : Account). a.part) (changed_there accounts place x new ne) ∙ of
                  ],
                ))
            | inr same ↦ (
              place,
              ap find (sym same) ∙ is,
              subst (λ n. place < n) (sym (length-set accounts place new)) room,
              ap (λ (a : Account). a.part) (changed_here accounts place new room),
            )
          ];
      only =
          λ x of.
          elim (cases_eq x place) [
            | inl e ↦ (get_or ids k 0, subst (λ l. Contains l (get_or ids k 0)) (sym more) (Contains-push (take k ids) (get_or ids k 0)), is ∙ ap Some (sym e))
            | inr ne ↦
                (let (id, there, id_is) = h.only x (sym (ap (λ (a : Account). a.part) (changed_there accounts place x new ne)) ∙ of) in
                (id, subst (λ l. Contains l id) (sym more) (Contains-append_left (take k ids) (get_or ids k 0 ∷ []) id there), id_is))
          ];
    }

pub empty_more : (part place : ℕ) (accounts : List Account) → place < length accounts
    → ((x : ℕ) → (account_at accounts x).part ≡ part → (account_at accounts x).net ≡ pos 0)
    → (x : ℕ) → (account_at (set accounts place record { part = part; net = pos 0 }) x).part ≡ part
    → (account_at (set accounts place record { part = part; net = pos 0 }) x).net ≡ pos 0
empty_more part place accounts room h x of =
    let new : Account = record { part = part; net = pos 0 } in
    elim (cases_eq x place) [
      | inl e ↦ subst (λ y. (account_at (set accounts place new) y).net ≡ pos 0) (sym e) (ap (λ (a : Account). a.net) (changed_here accounts place new room))
      | inr ne ↦ ap (λ (a : Account). a.net) (changed_there accounts place x new ne)
          ∙ h x (sym (ap (λ (a : Account). a.part) (changed_there accounts place x new ne)) ∙ of)
    ]

pub known_place : (find : ℕ → Option ℕ) (ids : List ℕ) (n k place : ℕ) → k < length ids
    → ((id : ℕ) → Contains ids id → (p : ℕ) × (p < n) × (find id ≡ Some p)) → find (get_or ids k 0) ≡ Some place → place < n
known_place find ids n k place in' known is =
    let (p, p_in, p_is) = known (get_or ids k 0) (Contains-get_or ids k 0 in') in
    subst (λ x. x < n) (same_Some p place (sym p_is ∙ is)) p_in

pub ends_all : (flows : List Flow) → length (ends_of flows) ≡ length flows
ends_all flows = length-map flows (λ (f : Flow). let p : ℕ × ℕ = (f.child, f.parent) in p)

-- the weight of a name, by its fee and size
pub weight_of_name : (whole own named : Sum) (w : ℤ) → w ≡ weight_in whole own → own.fee ≡ named.fee → own.size ≡ named.size → w ≡ weight_in whole named
weight_of_name whole own named w e f s = e ∙ ap (λ (z : ℤ). (z *ℤ pos whole.size) -ℤ (whole.fee *ℤ pos own.size)) f
    ∙ ap (λ (n : ℕ). (named.fee *ℤ pos whole.size) -ℤ (whole.fee *ℤ pos n)) s

pub member_place : (names : List ℕ) (find : ℕ → Option ℕ) (id : ℕ) → ArePlaces names find
    → Contains names id → (p : ℕ) × (p < length names) × (find id ≡ Some p)
member_place names find id h (p, p_in, is) = (p, p_in, ap find (sym (get_or_default names p 0 id p_in ∙ is)) ∙ h.complete p p_in)
