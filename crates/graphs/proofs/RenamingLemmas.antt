-- A certificate by other names.
use Rattle.std.proofs.Common.{◌≡◌, ◌≢◌, ◌≤◌, ℕ, suc, zero, cond, nat_eq, List, [], ◌∷◌, ◌++◌, sym, refl, subst, ap, ap₂, ◌∙◌, inl, inr, arith, eq-eqb, ne_eqb, ℤ, pos, ◌+ℤ◌, ◌-ℤ◌, sum_by}
use Rattle.std.specs.Prelude.{Contains, map, flat_map}
use Rattle.std.proofs.lemmas.Bool.{cases_eq}
use Rattle.std.proofs.lemmas.List.{map-append}
use Rattle.std.proofs.lemmas.List.Sums.{sum_by-cons}
use Rattle.lists.proofs.Distinct.{distinct_map}
use Rattle.lists.specs.Distinct.{AreDistinct}
use Rattle.lists.proofs.Flats.{flat_has}
use Rattle.lists.proofs.Entries.{Contains-head, Contains-later, map-Contains, Contains-map}
use Rattle.arithmetic.specs.Sums.{total}
use Rattle.fee_rate.specs.declared.rates.Sum.{Sum}
use Rattle.graphs.specs.declared.names.Flow.{Flow}
use Rattle.graphs.specs.Graphs.{Graph, IsAncestor, Trail, AreConnected, IsCover}
use Rattle.graphs.specs.Rates.{sums, Falls}
use Rattle.graphs.specs.Linearizations.{IsTopological}
use Rattle.graphs.specs.Certificates.{Part, given, gotten, weight_in, Certifies, IsCertificate}
use Rattle.graphs.specs.Closing.{KeepsApart, IsRenamed, renamed_part}
use Rattle.graphs.specs.Laws.{CertificatesAreRenamed}
use Rattle.graphs.proofs.ClosingLemmas.{new_pair, new_walk, old_walk, old_ancestor}

-- ---- lists of what is made of each entry

pub sum_by-map : {A B : Type 0} (f : A → B) (g : B → ℕ) (h : A → ℕ) (xs : List A)
    → ((x : A) → Contains xs x → g (f x) ≡ h x) → sum_by g (map f xs) ≡ sum_by h xs
sum_by-map f g h [] same = refl
sum_by-map f g h (x ∷ xs) same = omega (
  arith,
  sum_by-cons g (f x) (map f xs),
  sum_by-cons h x xs,
  same x (Contains-head x xs),
  sum_by-map f g h xs (λ y here. same y (Contains-later x y xs here)),
)

pub total-map : {A B : Type 0} (f : A → B) (g : B → ℤ) (h : A → ℤ) (xs : List A) → ((x : A) → Contains xs x → g (f x) ≡ h x) → total g (map f xs) ≡ total h xs
total-map f g h [] same = refl
total-map f g h (x ∷ xs) same = ap₂ (λ a b. a +ℤ b) (same x (Contains-head x xs)) (total-map f g h xs (λ y here. same y (Contains-later x y xs here)))

renamed_ids : (f : ℕ → ℕ) (parts : List Part) → flat_map (λ part. part.ids) (map (renamed_part f) parts) ≡ map f (flat_map (λ part. part.ids) parts)
renamed_ids f [] = refl
renamed_ids f (p ∷ parts) = ap (λ ids. map f p.ids ++ ids) (renamed_ids f parts) ∙ sym (map-append f p.ids (flat_map (λ part. part.ids) parts))

renamed_rates : (f : ℕ → ℕ) (parts : List Part) → map (λ part. part.rate) (map (renamed_part f) parts) ≡ map (λ part. part.rate) parts
renamed_rates f [] = refl
renamed_rates f (p ∷ parts) = ap (λ rates. p.rate ∷ rates) (renamed_rates f parts)

abbrev renamed_flow : (ℕ → ℕ) → Flow → Flow
renamed_flow f flow = record { child = f flow.child; parent = f flow.parent; amount = flow.amount }

abbrev renamed_pair : (ℕ → ℕ) → ℕ × ℕ → ℕ × ℕ
renamed_pair f pair = (f pair.0, f pair.1)

abbrev ends_of : Flow → ℕ × ℕ
ends_of flow = (flow.child, flow.parent)

renamed_ends : (f : ℕ → ℕ) (flows : List Flow) → map ends_of (map (renamed_flow f) flows) ≡ map (renamed_pair f) (map ends_of flows)
renamed_ends f [] = refl
renamed_ends f (flow ∷ flows) = ap (λ pairs. (f flow.child, f flow.parent) ∷ pairs) (renamed_ends f flows)

still_some : (f : ℕ → ℕ) (ids : List ℕ) → ids ≢ [] → map f ids ≢ []
still_some f [] some none = some refl
still_some f (id ∷ ids) some none = cc

-- ---- the certificate

module _ (f : ℕ → ℕ) (rate rate' : ℕ → Sum) (old new : Graph) (parts : List Part)
    (ends : (a b : ℕ) → Contains old.pairs (a, b) → Contains old.names a × Contains old.names b) (apart : KeepsApart f old.names)
    (is : IsRenamed f old new) (rates : (id : ℕ) → Contains old.names id → rate' (f id) ≡ rate id) (c : IsCertificate rate old (IsCover old.pairs) parts) where
  abbrev order : List ℕ
  order = flat_map (λ part. part.ids) parts

  name_in : (part : Part) (id : ℕ) → Contains parts part → Contains part.ids id → Contains old.names id
  name_in part id here held = (c.order.topological.names id).0 (flat_has (λ (p : Part). p.ids) parts part id here held)

  new_trail : (a b n : ℕ) → Trail old.pairs a b n → Trail new.pairs (f a) (f b) n
  new_trail a b zero same = ap f same
  new_trail a b (suc n) trail = (
    f trail.0,
    new_trail a trail.0 n trail.1,
    elim trail.2 [
      | inl down ↦ inl (new_pair f old new ends apart is trail.0 b down)
      | inr up ↦ inr (new_pair f old new ends apart is b trail.0 up)
    ],
  )

  new_topological : IsTopological new (map f order)
  new_topological = record {
    once = distinct_map f order c.order.topological.once
        (λ a b here there same. apart a b ((c.order.topological.names a).0 here) ((c.order.topological.names b).0 there) same);
    names = λ id. (
      λ here. let found = map-Contains f order id here in (is.names id).1 (found.0, (c.order.topological.names found.0).0 found.1, found.2),
      λ there. let was = (is.names id).0 there in subst (Contains (map f order)) was.2 (Contains-map f order was.0 ((c.order.topological.names was.0).1 was.1)),
    );
    parents_first = λ parent child pair.
        let was = (is.pairs parent child).0 pair in
        let stands = c.order.topological.parents_first was.0 was.1 was.2 in
        let split : map f order ≡ map f stands.0 ++ f was.1 ∷ map f stands.1 = ap (map f) stands.2 ∙ map-append f stands.0 (was.1 ∷ stands.1) in (
          map f stands.0,
          map f stands.1,
          subst (λ (x : ℕ). map f order ≡ map f stands.0 ++ x ∷ map f stands.1) was.4 split,
          subst (Contains (map f stands.0)) was.3 (Contains-map f stands.0 was.0 stands.3),
        );
  }

  new_sums : (part : Part) → Contains parts part → sums rate' (map f part.ids) ≡ sums rate part.ids
  new_sums part here =
      let fees : total (λ id. (rate' id).fee) (map f part.ids) ≡ total (λ id. (rate id).fee) part.ids =
      total-map f (λ id. (rate' id).fee) (λ id. (rate id).fee) part.ids (λ id held. ap (λ (s : Sum). s.fee) (rates id (name_in part id here held))) in
      let sizes : sum_by (λ id. (rate' id).size) (map f part.ids) ≡ sum_by (λ id. (rate id).size) part.ids =
      sum_by-map f (λ id. (rate' id).size) (λ id. (rate id).size) part.ids (λ id held. ap (λ (s : Sum). s.size) (rates id (name_in part id here held))) in
      λ i. record { fee = fees i; size = sizes i }

  new_cover : (a d : ℕ) → Contains old.names a → Contains old.names d → IsCover old.pairs a d → IsCover new.pairs (f a) (f d)
  new_cover a d here there cover = record {
    ancestor = (cover.ancestor.0, new_walk f old new ends apart is a d cover.ancestor.0 cover.ancestor.1);
    other = λ same. cover.other (apart a d here there same);
    between = λ y over under.
        let middle = old_walk f old new ends apart is a y over.0 here over.1 in
        let under' : IsAncestor new.pairs (f middle.0) (f d) = subst (λ (x : ℕ). IsAncestor new.pairs x (f d)) (sym middle.2) under in
        elim (cover.between middle.0 (over.0, middle.3) (old_ancestor f old new ends apart is middle.0 d middle.1 there under')) [
          | inl same ↦ inl (sym middle.2 ∙ ap f same)
          | inr same ↦ inr (sym middle.2 ∙ ap f same)
        ];
  }

  -- what names give or get is the same by new names
  hit_same : (x id amount : ℕ) → Contains old.names x → Contains old.names id → cond (nat_eq (f x) (f id)) amount 0 ≡ cond (nat_eq x id) amount 0
  hit_same x id amount here there = ap (λ b. cond b amount 0) (elim (cases_eq x id) [
    | inl same ↦ eq-eqb (f x) (f id) (ap f same) ∙ sym (eq-eqb x id same)
    | inr other ↦ ne_eqb (f x) (f id) (λ same. other (apart x id here there same)) ∙ sym (ne_eqb x id other)
  ])

  new_flows : (part : Part) → Contains parts part → Certifies rate' (IsCover new.pairs) (map f part.ids) (map (renamed_flow f) part.flows)
  new_flows part here =
      let old_flows : Certifies rate (IsCover old.pairs) part.ids part.flows = c.flows part here in
      let child_in : (flow : Flow) → Contains part.flows flow → Contains old.names flow.child =
      λ flow held. name_in part flow.child here (old_flows.inside flow held).0 in
      let parent_in : (flow : Flow) → Contains part.flows flow → Contains old.names flow.parent =
      λ flow held. name_in part flow.parent here (old_flows.inside flow held).1 in
      let same_pair : (p q : ℕ × ℕ) → Contains (map ends_of part.flows) p → Contains (map ends_of part.flows) q → renamed_pair f p ≡ renamed_pair f q → p ≡ q =
      λ p q one two same. (
      let x = map-Contains ends_of part.flows p one in
      let y = map-Contains ends_of part.flows q two in
      let first : x.0.child ≡ y.0.child =
      apart x.0.child y.0.child (child_in x.0 x.1) (child_in y.0 y.1)
      (ap (λ (z : ℕ × ℕ). f z.0) x.2 ∙ ap (λ (z : ℕ × ℕ). z.0) same ∙ sym (ap (λ (z : ℕ × ℕ). f z.0) y.2)) in
      let second : x.0.parent ≡ y.0.parent =
      apart x.0.parent y.0.parent (parent_in x.0 x.1) (parent_in y.0 y.1)
      (ap (λ (z : ℕ × ℕ). f z.1) x.2 ∙ ap (λ (z : ℕ × ℕ). z.1) same ∙ sym (ap (λ (z : ℕ × ℕ). f z.1) y.2)) in
      let both : ◌≡◌ {A = ℕ × ℕ} (x.0.child, x.0.parent) (y.0.child, y.0.parent) = λ i. (first i, second i) in
      sym x.2 ∙ both ∙ y.2) in
      record {
        once =
            subst (AreDistinct {A = ℕ × ℕ}) (sym (renamed_ends f part.flows)) (distinct_map (renamed_pair f) (map ends_of part.flows) old_flows.once same_pair);
        links = λ flow held.
            let found = map-Contains (renamed_flow f) part.flows flow held in
            subst (λ (x : Flow). IsCover new.pairs x.parent x.child) found.2
            (new_cover found.0.parent found.0.child (parent_in found.0 found.1) (child_in found.0 found.1) (old_flows.links found.0 found.1));
        inside = λ flow held.
            let found = map-Contains (renamed_flow f) part.flows flow held in
            let both = old_flows.inside found.0 found.1 in
            subst (λ (x : Flow). Contains (map f part.ids) x.child × Contains (map f part.ids) x.parent) found.2
            (Contains-map f part.ids found.0.child both.0, Contains-map f part.ids found.0.parent both.1);
        some = λ flow held. let found = map-Contains (renamed_flow f) part.flows flow held in
            subst (λ (x : Flow). 1 ≤ x.amount) found.2 (old_flows.some found.0 found.1);
        balanced = λ id held.
            let found = map-Contains f part.ids id held in
            let there = name_in part found.0 here found.1 in
            let gives : given (map (renamed_flow f) part.flows) (f found.0) ≡ given part.flows found.0 =
            sum_by-map (renamed_flow f) (λ flow. cond (nat_eq flow.child (f found.0)) flow.amount 0)
            (λ flow. cond (nat_eq flow.child found.0) flow.amount 0) part.flows
            (λ flow k. hit_same flow.child found.0 flow.amount (child_in flow k) there) in
            let gets : gotten (map (renamed_flow f) part.flows) (f found.0) ≡ gotten part.flows found.0 =
            sum_by-map (renamed_flow f) (λ flow. cond (nat_eq flow.parent (f found.0)) flow.amount 0)
            (λ flow. cond (nat_eq flow.parent found.0) flow.amount 0) part.flows
            (λ flow k. hit_same flow.parent found.0 flow.amount (parent_in flow k) there) in
            subst (λ (x : ℕ). weight_in (sums rate' (map f part.ids)) (rate' x)
            ≡ pos (given (map (renamed_flow f) part.flows) x) -ℤ pos (gotten (map (renamed_flow f) part.flows) x)) found.2
            (ap₂ weight_in (new_sums part here) (rates found.0 there) ∙ old_flows.balanced found.0 found.1 ∙ sym (ap₂ (λ m n. pos m -ℤ pos n) gives gets));
      }

  -- each new part is an old one by new names
  each_part : (P : Part → Type 0) → ((part : Part) → Contains parts part → P (renamed_part f part))
      → (part : Part) → Contains (map (renamed_part f) parts) part → P part
  each_part P holds part here = let found = map-Contains (renamed_part f) parts part here in subst P found.2 (holds found.0 found.1)

  new_certificate : IsCertificate rate' new (IsCover new.pairs) (map (renamed_part f) parts)
  new_certificate = record {
    filled = each_part (λ part. part.ids ≢ []) (λ part here. still_some f part.ids (c.filled part here));
    order = record {
      topological = subst (IsTopological new) (sym (renamed_ids f parts)) new_topological;
      together = each_part (λ part. (a b : ℕ) → Contains part.ids a → Contains part.ids b → AreConnected new.pairs a b) (λ part here a b one two.
          let x = map-Contains f part.ids a one in let y = map-Contains f part.ids b two in
          let trail = c.order.together part here x.0 y.0 x.1 y.1 in
          subst (λ (z : ℕ). AreConnected new.pairs a z) y.2
          (subst (λ (z : ℕ). AreConnected new.pairs z (f y.0)) x.2 (trail.0, new_trail x.0 y.0 trail.0 trail.1)));
    };
    falling = record {
      summed = each_part (λ part. part.rate ≡ sums rate' part.ids) (λ part here. c.falling.summed part here ∙ sym (new_sums part here));
      falling = subst Falls (sym (renamed_rates f parts)) c.falling.falling;
    };
    flows = each_part (λ part. Certifies rate' (IsCover new.pairs) part.ids part.flows) new_flows;
  }

pub certificates_are_renamed : CertificatesAreRenamed
certificates_are_renamed = new_certificate
