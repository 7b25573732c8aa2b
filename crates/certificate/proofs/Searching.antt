-- One step of a search by depth.
use Rattle.std.proofs.Common.{◌≡◌, ◌≢◌, ℕ, ◌+◌, ◌-◌, ◌<◌, ◌≤◌, zero, suc, List, [], ◌∷◌, ◌++◌, length, inl, inr, refl, sym, ap, ◌∙◌, subst, arith, get_or, set, take, sum, nat_eq}
use Rattle.std.specs.Prelude.{Contains, sum_by}
use Rattle.std.proofs.lemmas.Bool.{cases_eq, cases_lt, ne_eqb, eqb-true}
use Rattle.std.proofs.lemmas.List.{get_or-set_same, get_or-set_other, length-set, get_or_append_left, get_or_push, length_push, get_or_default, get_or-take, length-take-le, get_or_read}
use Rattle.std.proofs.lemmas.List.Sums.{sum_by-set}
use Rattle.std.proofs.lemmas.Map.Keys.{IsDistinct-from_apart}
use Rattle.std.proofs.lemmas.Map.Steps.{length-le_from_distinct_below}
use Rattle.std.proofs.lemmas.Map.Views.{Contains-from_any}
use Rattle.graphs.proofs.WalkLemmas.{walk_cons}
use Rattle.graphs.specs.Graphs.{Walk, IsAncestor, HasNoCycle}
use Rattle.certificate.specs.declared.cycles.Visit.{Visit}
use Rattle.certificate.specs.declared.cycles.Visit.TheVariants.{New, Open, Done}
use Rattle.places.specs.Chains.{pair_at, IsLast, AreWithin}
use Rattle.certificate.specs.Searches.{visit_at, IsLooked, IsWay, IsSearch, weight_of, work_of, GoesOn}

-- ---- visits
visit_here : (visits : List Visit) (p : ℕ) (v : Visit) → p < length visits → visit_at (set visits p v) p ≡ v
visit_here visits p v in' = get_or-set_same visits p v New in'

visit_there : (visits : List Visit) (p x : ℕ) (v : Visit) → x ≢ p → visit_at (set visits p v) x ≡ visit_at visits x
visit_there visits p x v ne = get_or-set_other visits p x v New ne

-- a place whose visit changes wasn't done, so what is done stays done
done_stays : (visits : List Visit) (p x : ℕ) (v : Visit) → p < length visits
    → (visit_at visits p ≡ Done → v ≡ Done) → visit_at visits x ≡ Done → visit_at (set visits p v) x ≡ Done
done_stays visits p x v in' keep d =
    elim (cases_eq x p) [
      | inl e ↦ subst (λ y. visit_at (set visits p v) y ≡ Done) (sym e) (visit_here visits p v in' ∙ keep (subst (λ y. visit_at visits y ≡ Done) e d))
      | inr ne ↦ visit_there visits p x v ne ∙ d
    ]

reached_stays : (visits : List Visit) (p x : ℕ) (v : Visit) → p < length visits → v ≢ New → visit_at visits x ≢ New → visit_at (set visits p v) x ≢ New
reached_stays visits p x v in' other r n =
    elim (cases_eq x p) [
      | inl e ↦ other (sym (visit_here visits p v in') ∙ subst (λ y. visit_at (set visits p v) y ≡ New) e n)
      | inr ne ↦ r (sym (visit_there visits p x v ne) ∙ n)
    ]

-- ---- work
weight_falls : (visits : List Visit) (p : ℕ) (v : Visit) → p < length visits
    → weight_of v < weight_of (visit_at visits p) → sum_by weight_of (set visits p v) < sum_by weight_of visits
weight_falls visits p v in' less = omega (arith, sum_by-set weight_of visits p v New in')

left_falls : (left : List ℕ) (p n : ℕ) → p < length left → n < get_or left p 0 → sum (set left p n) < sum left
left_falls left p n in' less = omega (arith, sum_by-set (λ (x : ℕ). x) left p n 0 in')

-- ---- walks
pub contains_at : (pairs : List (ℕ × ℕ)) (k : ℕ) → k < length pairs → Contains {X = ℕ × ℕ} pairs (pair_at pairs k)
contains_at pairs k in' = (k, in', get_or_default pairs k (pair_at pairs k) (0, 0) in')

-- where a pair stands
pub position_of : (pairs : List (ℕ × ℕ)) (a b : ℕ) → Contains {X = ℕ × ℕ} pairs (a, b) → (k : ℕ) × (k < length pairs) × ◌≡◌ {A = ℕ × ℕ} (pair_at pairs k) (a, b)
position_of pairs a b (k, in', e) = (k, in', get_or_default pairs k (0, 0) (a, b) in' ∙ e)

-- from done places walks lead back to done places alone
pub done_before : (pairs : List (ℕ × ℕ)) (visits : List Visit)
    → ((k : ℕ) → k < length pairs → visit_at visits (pair_at pairs k).1 ≡ Done → visit_at visits (pair_at pairs k).0 ≡ Done)
    → (a b n : ℕ) → Walk pairs a b n → visit_at visits b ≡ Done → visit_at visits a ≡ Done
done_before pairs visits h a b zero e d = subst (λ x. visit_at visits x ≡ Done) (sym e) d
done_before pairs visits h a b (suc n) (c, w, last) d =
    let (k, in', e) = position_of pairs c b last in
    let there : visit_at visits (pair_at pairs k).1 ≡ Done = subst (λ (x : ℕ × ℕ). visit_at visits x.1 ≡ Done) (sym e) d in
    let back : visit_at visits c ≡ Done = subst (λ (x : ℕ × ℕ). visit_at visits x.0 ≡ Done) e (h k in' there) in
    done_before pairs visits h a c n w back

-- ---- the last place of the way is done
looked_stays : (pairs : List (ℕ × ℕ)) (visits : List Visit) (p x l : ℕ) (v : Visit) → p < length visits
    → (visit_at visits p ≡ Done → v ≡ Done) → IsLooked pairs visits x l → IsLooked pairs (set visits p v) x l
looked_stays pairs visits p x l v in' keep h = record {
  below = h.below;
  into = h.into;
  looked = λ k a b e. done_stays visits p _ v in' keep (h.looked k a b e);
}

-- the way's last place
pub record IsTop (visits : List Visit) (way : List ℕ) (n top : ℕ) : Type 0 where
  pub last : n + 1 ≡ length way
  pub here : get_or way n 0 ≡ top
  pub within : top < length visits
  pub is_open : visit_at visits top ≡ Open

pub top_of : (pairs : List (ℕ × ℕ)) (left : List ℕ) (visits : List Visit) (way : List ℕ) (n top : ℕ)
    → IsSearch pairs left visits way → n + 1 ≡ length way → get_or way n 0 ≡ top → IsTop visits way n top
top_of pairs left visits way n top s last here = record {
  last = last;
  here = here;
  within = subst (λ x. x < length visits) here (s.open_way.within n (omega arith));
  is_open = subst (λ x. visit_at visits x ≡ Open) here (s.open_way.is_open n (omega arith));
}

not_open : Done ≡ Open → ⊥
not_open e = cc

shorter_way : (pairs : List (ℕ × ℕ)) (left : List ℕ) (visits : List Visit) (way : List ℕ) (n top : ℕ)
    → IsSearch pairs left visits way → IsTop visits way n top → IsWay pairs (set visits top Done) (take n way)
shorter_way pairs left visits way n top s t =
    let last = t.last in
    let size : length (take n way) ≡ n = length-take-le n way (omega arith) in
    let read : (i : ℕ) → i < n → get_or (take n way) i 0 ≡ get_or way i 0 = λ i less. get_or-take n way i 0 less in
    record {
      within = λ i k. subst (λ x. x < length (set visits top Done)) (sym (read i (omega arith)))
          (subst (λ m. get_or way i 0 < m) (sym (length-set visits top Done)) (s.open_way.within i (omega arith)));
      is_open =
          λ i k.
          let apart : get_or way i 0 ≢ top = λ e. s.open_way.once i n (omega arith) (omega arith) (e ∙ sym t.here) in
          subst (λ x. visit_at (set visits top Done) x ≡ Open) (sym (read i (omega arith)))
          (visit_there visits top _ Done apart ∙ s.open_way.is_open i (omega arith));
      once = λ i j less k e. s.open_way.once i j less (omega arith) (sym (read i (omega arith)) ∙ e ∙ read j (omega arith));
      upward =
          λ i j le k.
          subst (λ x. IsAncestor pairs (get_or (take n way) j 0) x) (sym (read i (omega arith)))
          (subst (λ x. IsAncestor pairs x (get_or way i 0)) (sym (read j (omega arith))) (s.open_way.upward i j le (omega arith)));
    }

finished_acyclic : (pairs : List (ℕ × ℕ)) (left : List ℕ) (visits : List Visit) (way : List ℕ) (n top : ℕ)
    → IsSearch pairs left visits way → IsTop visits way n top
    → ((k : ℕ) → k < length pairs → (pair_at pairs k).1 ≡ top → visit_at visits (pair_at pairs k).0 ≡ Done) → (m : ℕ) → Walk pairs top top m → m ≡ 0
finished_acyclic pairs left visits way n top s t parent_done zero w = refl
finished_acyclic pairs left visits way n top s t parent_done (suc m) (c, w, last) =
    let (k, in', e) = position_of pairs c top last in
    let into : (pair_at pairs k).1 ≡ top = ap (λ (x : ℕ × ℕ). x.1) e in
    let back : visit_at visits c ≡ Done = subst (λ (x : ℕ × ℕ). visit_at visits x.0 ≡ Done) e (parent_done k in' into) in
    let d = done_before pairs visits s.parents top c m w back in
    absurd (not_open (sym d ∙ t.is_open))

pub finished : (pairs : List (ℕ × ℕ)) (left : List ℕ) (visits : List Visit) (way : List ℕ) (n top : ℕ)
    → IsSearch pairs left visits way → IsTop visits way n top → get_or left top 0 ≡ 0
    → GoesOn pairs visits left (set visits top Done) (take n way)
finished pairs left visits way n top s t none =
    let last = t.last in
    let size = length-set visits top Done in
    let keep : (x : ℕ) → visit_at visits x ≡ Done → visit_at (set visits top Done) x ≡ Done = λ x d. done_stays visits top x Done t.within (λ _. refl) d in
    let parent_done : (k : ℕ) → k < length pairs → (pair_at pairs k).1 ≡ top → visit_at visits (pair_at pairs k).0 ≡ Done =
    λ k a e. (s.looking top t.within).looked k (omega arith) a e
    in
    record {
      search = record {
        sized = s.sized ∙ sym size;
        looking = λ x k. looked_stays pairs visits top x _ Done t.within (λ _. refl) (s.looking x (omega arith));
        open_way = shorter_way pairs left visits way n top s t;
        on_way =
            λ x k o.
            elim (cases_eq x top) [
              | inl e ↦ absurd (not_open (sym (visit_here visits top Done t.within) ∙ subst (λ y. visit_at (set visits top Done) y ≡ Open) e o))
              | inr ne ↦
                  (let (i, a, at) = s.on_way x (omega arith) (sym (visit_there visits top x Done ne) ∙ o) in
                  let less : i < n = elim (cases_eq i n) [ inl e ↦ absurd (ne (sym at ∙ ap (λ j. get_or way j 0) e ∙ t.here)) | inr other ↦ omega arith ] in
                  (i, omega (arith, length-take-le n way (omega arith)), get_or-take n way i 0 less ∙ at))
            ];
        parents =
            λ k a d.
            elim (cases_eq (pair_at pairs k).1 top) [
              | inl e ↦ keep _ (parent_done k a e)
              | inr ne ↦ keep _ (s.parents k a (sym (visit_there visits top _ Done ne) ∙ d))
            ];
        acyclic =
            λ x m d w.
            elim (cases_eq x top) [
              | inl e ↦ finished_acyclic pairs left visits way n top s t parent_done m (subst (λ y. Walk pairs y y m) e w)
              | inr ne ↦ s.acyclic x m (sym (visit_there visits top x Done ne) ∙ d) w
            ];
      };
      sized = size;
      done = keep;
      reached = λ x r. reached_stays visits top x Done t.within (λ e. cc) r;
    }

pub finished_less : (left : List ℕ) (visits : List Visit) (way : List ℕ) (n top : ℕ)
    → IsTop visits way n top → work_of left (set visits top Done) < work_of left visits
finished_less left visits way n top t =
    let o : weight_of (visit_at visits top) ≡ 1 = ap weight_of t.is_open in
    let f = weight_falls visits top Done t.within (omega arith) in
    omega arith

-- ---- the next pair is passed by
pub passed : (pairs : List (ℕ × ℕ)) (left : List ℕ) (visits : List Visit) (way : List ℕ) (n top l b : ℕ)
    → IsSearch pairs left visits way → IsTop visits way n top → get_or left top 0 ≡ l → 0 < l
    → visit_at visits (pair_at pairs (l - 1)).0 ≡ Done → IsLast pairs (pair_at pairs (l - 1)).1 (l - 1) b → GoesOn pairs visits (set left top b) visits way
passed pairs left visits way n top l b s t is some d link =
    let old = s.looking top t.within in
    let size = s.sized in
    let top_in : top < length left = let w = t.within in omega arith in
    let into : (pair_at pairs (l - 1)).1 ≡ top = subst (λ m. (pair_at pairs (m - 1)).1 ≡ top) is (old.into (omega arith)) in
    let new : IsLooked pairs visits top b = record {
      below = (let lo = old.below in let lb = link.below in omega arith);
      into = λ h. link.into h ∙ into;
      looked =
          λ k low high e.
          elim (cases_lt k (l - 1)) [
            | inl less ↦ absurd (link.later k low less (e ∙ sym into))
            | inr more ↦
                elim (cases_eq k (l - 1)) [
                  | inl same ↦ subst (λ x. visit_at visits (pair_at pairs x).0 ≡ Done) (sym same) d
                  | inr other ↦ old.looked k (omega arith) high e
                ]
          ];
    } in
    record {
      search = record {
        sized = length-set left top b ∙ s.sized;
        looking =
            λ x k.
            elim (cases_eq x top) [
              | inl e ↦ subst (λ y. IsLooked pairs visits y (get_or (set left top b) y 0)) (sym e)
                  (subst (λ v. IsLooked pairs visits top v) (sym (get_or-set_same left top b 0 top_in)) new)
              | inr ne ↦ subst (λ v. IsLooked pairs visits x v) (sym (get_or-set_other left top x b 0 ne)) (s.looking x k)
            ];
        open_way = s.open_way;
        on_way = s.on_way;
        parents = s.parents;
        acyclic = s.acyclic;
      };
      sized = refl;
      done = λ x h. h;
      reached = λ x h. h;
    }

pub passed_less : (pairs : List (ℕ × ℕ)) (left : List ℕ) (visits : List Visit) (way : List ℕ) (top l b : ℕ)
    → IsSearch pairs left visits way → top < length visits → get_or left top 0 ≡ l → 0 < l
    → IsLast pairs (pair_at pairs (l - 1)).1 (l - 1) b → work_of (set left top b) visits < work_of left visits
passed_less pairs left visits way top l b s in' is some link =
    let size = s.sized in
    let lb = link.below in
    let f = left_falls left top b (omega arith) (omega arith) in
    omega arith

-- ---- a new place on the way
open_not_done : Open ≡ Done → ⊥
open_not_done e = cc

new_not_open : New ≡ Open → ⊥
new_not_open e = cc

longer_way : (pairs : List (ℕ × ℕ)) (visits : List Visit) (way : List ℕ) (p : ℕ) → IsWay pairs visits way → p < length visits → visit_at visits p ≡ New
    → ((i : ℕ) → i < length way → IsAncestor pairs p (get_or way i 0)) → IsWay pairs (set visits p Open) (way ++ (p ∷ []))
longer_way pairs visits way p w in' new above =
    let size = length_push way p in
    let read : (i : ℕ) → i < length way → get_or (way ++ (p ∷ [])) i 0 ≡ get_or way i 0 = λ i k. get_or_append_left way (p ∷ []) 0 i k in
    let end : (i : ℕ) → i ≡ length way → get_or (way ++ (p ∷ [])) i 0 ≡ p = λ i e. get_or_push way p 0 i (sym e) in
    let apart : (i : ℕ) → i < length way → get_or way i 0 ≢ p = λ i k e. new_not_open (sym new ∙ ap (visit_at visits) (sym e) ∙ w.is_open i k) in
    record {
      within =
          λ i k.
          subst (λ m. get_or (way ++ (p ∷ [])) i 0 < m) (sym (length-set visits p Open))
          (elim (cases_lt i (length way)) [
            | inl less ↦ subst (λ x. x < length visits) (sym (read i less)) (w.within i less)
            | inr more ↦ subst (λ x. x < length visits) (sym (end i (omega arith))) in'
          ]);
      is_open =
          λ i k.
          elim (cases_lt i (length way)) [
            | inl less ↦ subst (λ x. visit_at (set visits p Open) x ≡ Open) (sym (read i less)) (visit_there visits p _ Open (apart i less) ∙ w.is_open i less)
            | inr more ↦ subst (λ x. visit_at (set visits p Open) x ≡ Open) (sym (end i (omega arith))) (visit_here visits p Open in')
          ];
      once =
          λ i j less k e.
          elim (cases_lt j (length way)) [
            | inl in_j ↦ w.once i j less in_j (sym (read i (omega arith)) ∙ e ∙ read j in_j)
            | inr more ↦ apart i (omega arith) (sym (read i (omega arith)) ∙ e ∙ end j (omega arith))
          ];
      upward =
          λ i j le k.
          elim (cases_lt j (length way)) [
            | inl in_j ↦
                subst (λ x. IsAncestor pairs (get_or (way ++ (p ∷ [])) j 0) x) (sym (read i (omega arith)))
                (subst (λ x. IsAncestor pairs x (get_or way i 0)) (sym (read j in_j)) (w.upward i j le in_j))
            | inr more ↦
                subst (λ x. IsAncestor pairs x (get_or (way ++ (p ∷ [])) i 0)) (sym (end j (omega arith)))
                (elim (cases_lt i (length way)) [
                  | inl in_i ↦ subst (λ x. IsAncestor pairs p x) (sym (read i in_i)) (above i in_i)
                  | inr same ↦ (0, sym (end i (omega arith)))
                ])
          ];
    }

pub opened : (pairs : List (ℕ × ℕ)) (left : List ℕ) (visits : List Visit) (way : List ℕ) (p : ℕ)
    → IsSearch pairs left visits way → p < length visits → visit_at visits p ≡ New
    → ((i : ℕ) → i < length way → IsAncestor pairs p (get_or way i 0)) → GoesOn pairs visits left (set visits p Open) (way ++ (p ∷ []))
opened pairs left visits way p s in' new above =
    let size = length-set visits p Open in
    let never : visit_at visits p ≡ Done → Open ≡ Done = λ d. cc in
    let keep : (x : ℕ) → visit_at visits x ≡ Done → visit_at (set visits p Open) x ≡ Done = λ x d. done_stays visits p x Open in' never d in
    let back : (x : ℕ) → visit_at (set visits p Open) x ≡ Done → visit_at visits x ≡ Done =
    λ x d. elim (cases_eq x p) [
      | inl e ↦ absurd (open_not_done (sym (visit_here visits p Open in') ∙ subst (λ y. visit_at (set visits p Open) y ≡ Done) e d))
      | inr ne ↦ sym (visit_there visits p x Open ne) ∙ d
    ]
    in
    record {
      search = record {
        sized = s.sized ∙ sym size;
        looking = λ x k. looked_stays pairs visits p x _ Open in' never (s.looking x (omega arith));
        open_way = longer_way pairs visits way p s.open_way in' new above;
        on_way =
            λ x k o.
            elim (cases_eq x p) [
              | inl e ↦ (length way, omega (arith, length_push way p), get_or_push way p 0 (length way) refl ∙ sym e)
              | inr ne ↦
                  (let (i, a, at) = s.on_way x (omega arith) (sym (visit_there visits p x Open ne) ∙ o) in
                  (i, omega (arith, length_push way p), get_or_append_left way (p ∷ []) 0 i a ∙ at))
            ];
        parents = λ k a d. keep _ (s.parents k a (back _ d));
        acyclic = λ x m d w. s.acyclic x m (back x d) w;
      };
      sized = size;
      done = keep;
      reached = λ x r. reached_stays visits p x Open in' (λ e. cc) r;
    }

-- a way has places below the number of all, each once, so one more has room in a list of that length
way_fits : (pairs : List (ℕ × ℕ)) (visits : List Visit) (way : List ℕ) → IsWay pairs visits way → length way ≤ length visits
way_fits pairs visits way w =
    length-le_from_distinct_below way (length visits)
    (IsDistinct-from_apart nat_eq way (λ i j d less in'. ne_eqb (get_or way i d) (get_or way j d)
    (λ e. w.once i j less in' (get_or_default way i 0 d (omega arith) ∙ e ∙ get_or_default way j d 0 in'))))
    (λ x t. let (k, in', e) = Contains-from_any {eq = nat_eq} eqb-true x way t in
    subst (λ y. y < length visits) (get_or_default way k 0 x in' ∙ e) (w.within k in'))

pub way_short : (pairs : List (ℕ × ℕ)) (left : List ℕ) (visits : List Visit) (way : List ℕ) (p : ℕ)
    → IsSearch pairs left visits way → p < length visits → visit_at visits p ≡ New
    → ((i : ℕ) → i < length way → IsAncestor pairs p (get_or way i 0)) → length way < length visits
way_short pairs left visits way p s in' new above =
    let w = way_fits pairs (set visits p Open) (way ++ (p ∷ [])) (longer_way pairs visits way p s.open_way in' new above) in
    omega (arith, w, length_push way p, length-set visits p Open)

pub opened_less : (left : List ℕ) (visits : List Visit) (p : ℕ) → p < length visits
    → visit_at visits p ≡ New → work_of left (set visits p Open) < work_of left visits
opened_less left visits p in' new =
    let o : weight_of (visit_at visits p) ≡ 2 = ap weight_of new in
    let f = weight_falls visits p Open in' (omega arith) in
    omega arith

-- ---- a cycle
pub cycle_found : (pairs : List (ℕ × ℕ)) (left : List ℕ) (visits : List Visit) (way : List ℕ) (n top k : ℕ)
    → IsSearch pairs left visits way → IsTop visits way n top → k < length pairs
    → (pair_at pairs k).1 ≡ top → (pair_at pairs k).0 < length visits → visit_at visits (pair_at pairs k).0 ≡ Open → HasNoCycle pairs → ⊥
cycle_found pairs left visits way n top k s t in' into p_in o none =
    let last = t.last in
    let p = (pair_at pairs k).0 in
    let (i, a, at) = s.on_way p p_in o in
    let (m, w) = s.open_way.upward i n (omega arith) (omega arith) in
    let w' : Walk pairs top p m = subst (λ x. Walk pairs x p m) t.here (subst (λ x. Walk pairs (get_or way n 0) x m) at w) in
    let edge : Contains {X = ℕ × ℕ} pairs (p, top) = subst (λ x. Contains {X = ℕ × ℕ} pairs (p, x)) into (contains_at pairs k in') in
    none top m (p, w', edge)

-- ---- what the code reads
pub read_top : (pairs : List (ℕ × ℕ)) (left : List ℕ) (visits : List Visit) (way : List ℕ) (len top : ℕ)
    → IsSearch pairs left visits way → 0 < length way → len ≡ length way → top ≡ get_or way (len - 1) top
    → IsTop visits way (length way - 1) top
read_top pairs left visits way len top s some e read =
    let n : ℕ = length way - 1 in
    let same : len - 1 ≡ length way - 1 = ap (λ (m : ℕ). m - 1) e in
    top_of pairs left visits way (length way - 1) top s (omega arith)
    (sym (get_or_read way (length way - 1) top (omega arith) (read ∙ ap (λ m. get_or way m top) same) 0))

pub read_left : (pairs : List (ℕ × ℕ)) (left : List ℕ) (visits : List Visit) (way : List ℕ) (n top l : ℕ)
    → IsSearch pairs left visits way → IsTop visits way n top → l ≡ get_or left top l → get_or left top 0 ≡ l
read_left pairs left visits way n top l s t read =
    let size = s.sized in
    let within = t.within in
    sym (get_or_read left top l (omega arith) read 0)

pub read_visit : (visits : List Visit) (p : ℕ) (v : Visit) → p < length visits → v ≡ get_or visits p v → visit_at visits p ≡ v
read_visit visits p v in' read = sym (get_or_read visits p v in' read New)

-- the next pair of the way's last place
pub record IsNext (pairs : List (ℕ × ℕ)) (visits : List Visit) (top l : ℕ) : Type 0 where
  pub within : l - 1 < length pairs
  pub into : (pair_at pairs (l - 1)).1 ≡ top
  pub from : (pair_at pairs (l - 1)).0 < length visits

pub next_of : (pairs : List (ℕ × ℕ)) (left : List ℕ) (visits : List Visit) (way : List ℕ) (n top l : ℕ)
    → AreWithin (length visits) pairs → IsSearch pairs left visits way → IsTop visits way n top
    → get_or left top 0 ≡ l → 0 < l → IsNext pairs visits top l
next_of pairs left visits way n top l within s t is some =
    let look = s.looking top t.within in
    let below = look.below in
    let k_in : l - 1 < length pairs = omega arith in
    record {
      within = k_in;
      into = subst (λ m. (pair_at pairs (m - 1)).1 ≡ top) is (look.into (omega arith));
      from = (within (l - 1) (0, 0) k_in).0;
    }

-- the parent of the way's last place is an ancestor of all on the way
pub above_way : (pairs : List (ℕ × ℕ)) (left : List ℕ) (visits : List Visit) (way : List ℕ) (n top l : ℕ)
    → IsSearch pairs left visits way → IsTop visits way n top → IsNext pairs visits top l
    → (i : ℕ) → i < length way → IsAncestor pairs (pair_at pairs (l - 1)).0 (get_or way i 0)
above_way pairs left visits way n top l s t next i in' =
    let last = t.last in
    let (m, w) = s.open_way.upward i n (omega arith) (omega arith) in
    let w' : Walk pairs top (get_or way i 0) m = subst (λ x. Walk pairs x (get_or way i 0) m) t.here w in
    let edge : Contains {X = ℕ × ℕ} pairs ((pair_at pairs (l - 1)).0, top) =
    subst (λ x. Contains {X = ℕ × ℕ} pairs ((pair_at pairs (l - 1)).0, x)) next.into (contains_at pairs (l - 1) next.within) in
    (suc m, walk_cons pairs (pair_at pairs (l - 1)).0 top (get_or way i 0) m edge w')

-- the state that `open` leaves
pub goes_on_same : (pairs : List (ℕ × ℕ)) (visits : List Visit) (left left' : List ℕ) (visits' visits'' : List Visit) (way' way'' : List ℕ)
    → left' ≡ left → visits'' ≡ visits' → way'' ≡ way'
    → GoesOn pairs visits left visits' way' → GoesOn pairs visits left' visits'' way''
goes_on_same pairs visits left left' visits' visits'' way' way'' a b c g =
    subst (λ l. GoesOn pairs visits l visits'' way'') (sym a)
    (subst (λ v. GoesOn pairs visits left v way'') (sym b) (subst (λ w. GoesOn pairs visits left visits' w) (sym c) g))

pub work_same : (n : ℕ) (left left' : List ℕ) (visits' visits'' : List Visit) → left' ≡ left
    → visits'' ≡ visits' → work_of left visits' < n → work_of left' visits'' < n
work_same n left left' visits' visits'' a b h = subst (λ l. work_of l visits'' < n) (sym a) (subst (λ v. work_of left v < n) (sym b) h)

-- one step after others
pub goes_further : (pairs : List (ℕ × ℕ)) (visits : List Visit) (left' : List ℕ)
    (visits' : List Visit) (way' left'' : List ℕ) (visits'' : List Visit) (way'' : List ℕ)
    → GoesOn pairs visits left' visits' way' → GoesOn pairs visits' left'' visits'' way'' → GoesOn pairs visits left'' visits'' way''
goes_further pairs visits left' visits' way' left'' visits'' way'' g h = record {
  search = h.search;
  sized = h.sized ∙ g.sized;
  done = λ x d. h.done x (g.done x d);
  reached = λ x r. h.reached x (g.reached x r);
}

-- ---- before and after

zero_suc : (n : ℕ) → suc n ≡ 0 → ⊥
zero_suc n e = cc

pub search_all : (pairs : List (ℕ × ℕ)) (left : List ℕ) (visits : List Visit) (way : List ℕ) → IsSearch pairs left visits way → AreWithin (length visits) pairs
    → ((k : ℕ) → k < length visits → visit_at visits k ≡ Done) → HasNoCycle pairs
search_all pairs left visits way s within all a n (c, w, last) =
    let (k, in', e) = position_of pairs c a last in
    let here : a < length visits = subst (λ (x : ℕ × ℕ). x.1 < length visits) e (within k (0, 0) in').1 in
    let none : suc n ≡ 0 = s.acyclic a (suc n) (all a here) (c, w, last) in
    absurd (zero_suc n none)
