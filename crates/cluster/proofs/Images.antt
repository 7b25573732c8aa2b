-- Parts by the places of their names, and that what is known by names is known by places.
use Rattle.std.proofs.Common.{◌≡◌, ◌≢◌, ℕ, ◌-◌, ◌<◌, ◌≤◌, Bool, true, List, [], ◌∷◌, ◌++◌, length, map, take, drop, slice_index, Contains, Some, pos, ◌-ℤ◌, cond, nat_eq, inl, inr, refl, sym, ap, ap₂, ◌∙◌, subst, subst₂, arith, eq-eqb, ne_eqb, length-append, length-drop, append-nil, append_assoc}
use Rattle.std.proofs.lemmas.Bool.{cases_eq}
use Rattle.std.proofs.lemmas.List.{take-append-le, drop-append-le, take_all, map-append, take-map, drop-map}
use Rattle.std.proofs.lemmas.List.Elements.{Contains-append_cases}
use Rattle.std.proofs.lemmas.Simd.{map-map}
use Rattle.std.proofs.lemmas.Option.{get_or_from_slice_get}
use Rattle.std.specs.Prelude.{slice_get}
use Rattle.lists.specs.Distinct.{AreDistinct}
use Rattle.lists.proofs.Distinct.{distinct_map, one_place}
use Rattle.lists.proofs.Entries.{map-Contains, Contains-map, Contains-one, Contains-head, Contains-later, none_in_empty, not_empty}
use Rattle.fee_rate.specs.declared.rates.Sum.{Sum}
use Rattle.fee_rate.specs.Rates.{Same}
use Rattle.graphs.specs.declared.names.Flow.{Flow}
use Rattle.graphs.specs.Rates.{sums}
use Rattle.graphs.specs.Closures.{Closure, is_ancestor}
use Rattle.graphs.specs.Closing.{renamed_part}
use Rattle.graphs.specs.Certificates.{Part, given, gotten, weight_in}
use Rattle.graphs.proofs.RenamingLemmas.{sum_by-map}
use Rattle.dep_graph.specs.Numbers.{number_in}
use Rattle.dep_graph.proofs.Pairs.{place_at}
use Rattle.graphs.specs.Picks.{FollowOrder, links_of}
use Rattle.linearize.specs.declared.old.OldPart.{OldPart}
use Rattle.linearize.specs.Drafts as drafts
use Rattle.linearize.specs.Graphs.{sum_at, sum_from}
use Rattle.linearize.specs.Known.{IsClosedAmong, IsKnown, old_part}
use Rattle.cluster.specs.Guesses.{AreImages, AreSound, IsImage, PutsFlows, PutsPart, PutsPlaces, at_places, own_places}
use Rattle.cluster.specs.Named.{named, IsNamed}
use Rattle.cluster.specs.Orders.{own_flows, renamed_flow}
use Rattle.std.proofs.Math.Seq.{drop-append_seam}
use Rattle.cluster.proofs.Names.{named-ancestor, Stands-contains}
use Rattle.cluster.proofs.Picking.{named_sum}
use Rattle.cluster.proofs.Uncut.{sums_mapped}

-- ---- known by places

distinct_unmapped : {A B : Type 0} (f : A → B) (xs : List A) → AreDistinct (map f xs) → AreDistinct xs
distinct_unmapped f [] d = tt
distinct_unmapped f (x ∷ xs) d = (λ h. d.0 (Contains-map f xs x h), distinct_unmapped f xs d.1)

abbrev ends_of : Flow → ℕ × ℕ
ends_of flow = (flow.child, flow.parent)

abbrev renamed_pair : (ℕ → ℕ) → ℕ × ℕ → ℕ × ℕ
renamed_pair f pair = (f pair.0, f pair.1)

renamed_ends : (f : ℕ → ℕ) (flows : List Flow) → map ends_of (map (renamed_flow f) flows) ≡ map (renamed_pair f) (map ends_of flows)
renamed_ends f [] = refl
renamed_ends f (flow ∷ flows) = ap (λ pairs. (f flow.child, f flow.parent) ∷ pairs) (renamed_ends f flows)

still_some : (f : ℕ → ℕ) (ids : List ℕ) → ids ≢ [] → map f ids ≢ []
still_some f [] some none = some refl
still_some f (id ∷ ids) some none = not_empty none

module _ (n : ℕ) (names : List ℕ) (h : Closure) (kept : IsNamed n names h) (q : Part) (below : (p : ℕ) → Contains q.ids p → p < length names)
    (flows_below : (flow : Flow) → Contains q.flows flow → (flow.child < length names) × (flow.parent < length names)) where
  abbrev f : ℕ → ℕ
  f = slice_index names

  one : (x y : ℕ) → x < length names → y < length names → f x ≡ f y → x ≡ y
  one x y low high same = one_place names x y 0 kept.once low high same

  above : (x y : ℕ) → x < length names → y < length names → is_ancestor (named names h) (f x) (f y) ≡ is_ancestor h x y
  above x y low high = named-ancestor names h kept.once x y low high

  sum_is : (x : ℕ) → x < length names → sum_at (named names h) (f x) ≡ sum_at h x
  sum_is x low = named_sum n names h kept x low

  sums_are : (xs : List ℕ) → ((x : ℕ) → Contains xs x → Contains q.ids x) → sums (sum_at (named names h)) (map f xs) ≡ sums (sum_at h) xs
  sums_are xs inside = sums_mapped f (sum_at h) (sum_at (named names h)) xs (λ x here. sum_is x (below x (inside x here)))

  hit_same : (x y amount : ℕ) → x < length names → y < length names → cond (nat_eq (f x) (f y)) amount 0 ≡ cond (nat_eq x y) amount 0
  hit_same x y amount low high = ap (λ b. cond b amount 0) (elim (cases_eq x y) [
    | inl same ↦ eq-eqb (f x) (f y) (ap f same) ∙ sym (eq-eqb x y same)
    | inr other ↦ ne_eqb (f x) (f y) (λ same. other (one x y low high same)) ∙ sym (ne_eqb x y other)
  ])

  module _ (known : IsKnown (named names h) (renamed_part (slice_index names) q)) where
    moved : (flow : Flow) → Contains q.flows flow → Contains (map (renamed_flow f) q.flows) (renamed_flow f flow)
    moved flow held = Contains-map (renamed_flow f) q.flows flow held

    back : (x : ℕ) → x < length names → Contains (map f q.ids) (f x) → Contains q.ids x
    back x low here = let at = map-Contains f q.ids (f x) here in subst (Contains q.ids) (one at.0 x (below at.0 at.1) low at.2) at.1

    inside : (flow : Flow) → Contains q.flows flow → Contains q.ids flow.child × Contains q.ids flow.parent
    inside flow held =
        let both = known.flows.inside (renamed_flow f flow) (moved flow held) in
        let low = flows_below flow held in
        (back flow.child low.0 both.0, back flow.parent low.1 both.1)

    balanced : (x : ℕ) → Contains q.ids x → weight_in (sums (sum_at h) q.ids) (sum_at h x) ≡ pos (given q.flows x) -ℤ pos (gotten q.flows x)
    balanced x here =
        let low = below x here in
        let gives : given (map (renamed_flow f) q.flows) (f x) ≡ given q.flows x =
        sum_by-map (renamed_flow f) (λ flow. cond (nat_eq flow.child (f x)) flow.amount 0) (λ flow. cond (nat_eq flow.child x) flow.amount 0) q.flows
        (λ flow k. hit_same flow.child x flow.amount (flows_below flow k).0 low) in
        let gets : gotten (map (renamed_flow f) q.flows) (f x) ≡ gotten q.flows x =
        sum_by-map (renamed_flow f) (λ flow. cond (nat_eq flow.parent (f x)) flow.amount 0) (λ flow. cond (nat_eq flow.parent x) flow.amount 0) q.flows
        (λ flow k. hit_same flow.parent x flow.amount (flows_below flow k).1 low) in
        sym (ap₂ weight_in (sums_are q.ids (λ y k. k)) (sum_is x low)) ∙ known.flows.balanced (f x) (Contains-map f q.ids x here)
        ∙ ap₂ (λ m k. pos m -ℤ pos k) gives gets

    module _ (set : List ℕ) (within : IsClosedAmong h q.ids set) where
      by_names : IsClosedAmong (named names h) (map f q.ids) (map f set)
      by_names = record {
        once = distinct_map f set within.once
            (λ x y here there same. one x y (below x (within.inside x here)) (below y (within.inside y there)) same);
        inside = λ id here. (let at = map-Contains f set id here in subst (Contains (map f q.ids)) at.2 (Contains-map f q.ids at.0 (within.inside at.0 at.1)));
        ancestors = λ a d e d_in a_in.
            (let y = map-Contains f set d d_in in
            let x = map-Contains f q.ids a a_in in
            let over : is_ancestor h x.0 y.0 ≡ true =
            sym (above x.0 y.0 (below x.0 x.1) (below y.0 (within.inside y.0 y.1))) ∙ ap₂ (is_ancestor (named names h)) x.2 y.2 ∙ e in
            subst (Contains (map f set)) x.2 (Contains-map f set x.0 (within.ancestors x.0 y.0 over y.1 x.1)));
      }

      whole : set ≢ [] → Same (sums (sum_at h) set) q.rate → (p : ℕ) → Contains q.ids p → Contains set p
      whole some same p p_in =
          let all = known.uncut (map f set) by_names (still_some f set some)
          (subst (λ (w : Sum). Same w q.rate) (sym (sums_are set within.inside)) same) (f p) (Contains-map f q.ids p p_in) in
          let at = map-Contains f set (f p) all in
          subst (Contains set) (one at.0 p (below at.0 (within.inside at.0 at.1)) (below p p_in) at.2) at.1

    pub by_places : IsKnown h q
    by_places = record {
      summed = known.summed ∙ sums_are q.ids (λ y k. k);
      flows = record {
        once = distinct_unmapped (renamed_pair f) (map ends_of q.flows) (subst (AreDistinct {A = ℕ × ℕ}) (renamed_ends f q.flows) known.flows.once);
        links = λ flow held.
            (let link = known.flows.links (renamed_flow f flow) (moved flow held) in
            let low = flows_below flow held in
            record {
              ancestor = sym (above flow.parent flow.child low.1 low.0) ∙ link.ancestor;
              other = λ same. link.other (ap f same);
              direct = λ m m_in over under. elim (link.direct (f m) (Contains-map f q.ids m m_in) (above flow.parent m low.1 (below m m_in) ∙ over)
                  (above m flow.child (below m m_in) low.0 ∙ under)) [
                    | inl same ↦ inl (one m flow.parent (below m m_in) low.1 same)
                    | inr same ↦ inr (one m flow.child (below m m_in) low.0 same)
                  ];
            });
        inside = inside;
        some = λ flow held. known.flows.some (renamed_flow f flow) (moved flow held);
        balanced = balanced;
      };
      uncut = whole;
    }

same_all : {A : Type 0} (f : A → A) (xs : List A) → ((x : A) → Contains xs x → f x ≡ x) → map f xs ≡ xs
same_all f [] each = refl
same_all f (x ∷ xs) each = ap₂ (λ y ys. y ∷ ys) (each x (Contains-head x xs)) (same_all f xs (λ y h. each y (Contains-later x y xs h)))

-- what is known by names is known by places, with flows whose names are those that are kept
pub sound_images : (n : ℕ) (names : List ℕ) (h : Closure) (P : Part → Type 0) (parts : List OldPart) (places : List ℕ) (flows : List Flow)
    → IsNamed n names h → AreImages names P parts places flows
    → ((part : Part) → P part → ((id : ℕ) → Contains part.ids id → Contains names id) → IsKnown (named names h) part)
    → ((part : Part) → P part → FollowOrder part.ids (links_of part.flows)) → AreSound names h parts places flows
sound_images n names h P parts places flows kept images sure follows old here said =
    let at = images old here said in
    let part : Part = at.0 in
    let image = at.2 in
    let q : Part = old_part places (map (at_places names) flows) old in
    let in_names : (id : ℕ) → Contains part.ids id → Contains names id = λ id held.
    (let x = map-Contains (slice_index names) (own_places places old) id (subst (λ (xs : List ℕ). Contains xs id) (sym image.ids_are) held) in
    Stands-contains names id (x.0, image.below x.0 x.1, x.2)) in
    let known = sure part at.1 in_names in
    let child : (flow : Flow) → Contains part.flows flow
    → (number_in names flow.child < length names) × (slice_index names (number_in names flow.child) ≡ flow.child) =
    λ flow held. place_at names flow.child (in_names flow.child (known.flows.inside flow held).0) in
    let parent : (flow : Flow) → Contains part.flows flow
    → (number_in names flow.parent < length names) × (slice_index names (number_in names flow.parent) ≡ flow.parent) =
    λ flow held. place_at names flow.parent (in_names flow.parent (known.flows.inside flow held).1) in
    let moved : Flow → Flow = λ flow. drafts.named (at_places names flow) in
    let cut : q.flows ≡ map moved part.flows =
    ap (map drafts.named) (ap (take (old.flow_end - old.flow_start)) (drop-map (at_places names) old.flow_start flows)
    ∙ take-map (at_places names) (old.flow_end - old.flow_start) (drop old.flow_start flows))
    ∙ map-map drafts.named (at_places names) (own_flows flows old) ∙ ap (map moved) image.flows_are in
    let same : map (renamed_flow (slice_index names)) q.flows ≡ part.flows =
    ap (map (renamed_flow (slice_index names))) cut ∙ map-map (renamed_flow (slice_index names)) moved part.flows
    ∙ same_all (λ (flow : Flow). renamed_flow (slice_index names) (moved flow)) part.flows
    (λ flow held. (λ i. record { child = (child flow held).1 i; parent = (parent flow held).1 i; amount = flow.amount })) in
    let flows_low : (flow : Flow) → Contains q.flows flow → (flow.child < length names) × (flow.parent < length names) = λ flow held.
    (let x = map-Contains moved part.flows flow (subst (λ (fs : List Flow). Contains fs flow) cut held) in
    (subst (λ (f : Flow). f.child < length names) x.2 (child x.0 x.1).0, subst (λ (f : Flow). f.parent < length names) x.2 (parent x.0 x.1).0)) in
    let whole : renamed_part (slice_index names) q ≡ part = (λ i. record { rate = image.rate_is i; ids = image.ids_are i; flows = same i }) in
    record {
      within = image.within;
      known = by_places n names h kept q image.below flows_low (subst (IsKnown (named names h)) (sym whole) known);
      same = same ∙ sym image.flows_are;
      follow = subst₂ (λ (xs : List ℕ) (fs : List Flow). FollowOrder xs (links_of fs)) (sym image.ids_are) (sym image.flows_are) (follows part at.1);
    }

-- ---- behind others

cut_same : {A : Type 0} (s e : ℕ) (xs ys : List A) → s ≤ e → e ≤ length xs → take (e - s) (drop s (xs ++ ys)) ≡ take (e - s) (drop s xs)
cut_same s e xs ys order end =
    ap (take (e - s)) (drop-append-le s xs ys (omega (arith, order, end)))
    ∙ take-append-le (e - s) (drop s xs) ys (let long = length-drop s xs in omega (arith, long, order, end))

cut_new : {A : Type 0} (xs ys zs : List A) (e : ℕ) → zs ≡ xs ++ ys → e ≡ length zs → take (e - length xs) (drop (length xs) zs) ≡ ys
cut_new xs ys zs e is end =
    ap (λ ws. take (e - length xs) (drop (length xs) ws)) is ∙ ap (take (e - length xs)) (drop-append_seam xs ys)
    ∙ take_all (e - length xs) ys (let long = ap length is ∙ length-append xs ys in omega (arith, long, end))

image_grows : (names places more : List ℕ) (flows more_flows : List Flow) (old : OldPart) (part : Part) → IsImage names places flows old part
    → IsImage names (places ++ more) (flows ++ more_flows) old part
image_grows names places more flows more_flows old part image =
    let w = image.within in
    let ids : own_places (places ++ more) old ≡ own_places places old = cut_same old.start old.end places more w.order w.end in
    let own : own_flows (flows ++ more_flows) old ≡ own_flows flows old =
    cut_same old.flow_start old.flow_end flows more_flows w.flow_order w.flow_end in
    record {
      within = record {
        order = w.order;
        end = (let long = length-append places more in let e = w.end in omega (arith, long, e));
        flow_order = w.flow_order;
        flow_end = (let long = length-append flows more_flows in let e = w.flow_end in omega (arith, long, e));
      };
      rate_is = image.rate_is;
      ids_are = ap (map (slice_index names)) ids ∙ image.ids_are;
      flows_are = own ∙ image.flows_are;
      below = λ p here. image.below p (subst (λ (xs : List ℕ). Contains xs p) ids here);
    }

pub images_none : (names : List ℕ) (P : Part → Type 0) (parts : List OldPart) (places : List ℕ) (flows : List Flow) → parts ≡ []
    → AreImages names P parts places flows
images_none names P parts places flows none old here said = absurd (none_in_empty old (subst (λ ps. Contains ps old) none here))

pub images_more : (names : List ℕ) (P Q : Part → Type 0) (places : List ℕ) (flows : List Flow) (parts : List OldPart)
    (places' : List ℕ) (flows' : List Flow) (parts' : List OldPart) → AreImages names P parts places flows
    → PutsPart names Q places flows parts places' flows' parts' → ((part : Part) → Q part → P part) → AreImages names P parts' places' flows'
images_more names P Q places flows parts places' flows' parts' images puts into old here said = elim (puts.each old here said) [
  | inl before ↦
      let at = images old before said in (
        at.0,
        at.1,
        subst₂ (λ (xs : List ℕ) (fs : List Flow). IsImage names xs fs old at.0) (sym puts.places_are) (sym puts.flows_are)
            (image_grows names places puts.more flows puts.more_flows old at.0 at.2),
      )
  | inr new ↦ (new.0, into new.0 new.1, new.2)
]

-- one part put behind others
pub part_put : (names ids : List ℕ) (own : List Flow) (part : Part) (known whole sure : Bool) (places places' : List ℕ) (flows flows' : List Flow)
    (parts parts' : List OldPart) (old : OldPart) → part ≡ record { rate = sum_from old.rate; ids = ids; flows = own }
    → PutsPlaces names ids places places' whole → PutsFlows own flows flows' sure → (sure ≡ true → (known ≡ true) × (whole ≡ true))
    → old.start ≡ length places → old.end ≡ length places' → old.flow_start ≡ length flows → old.flow_end ≡ length flows' → old.known ≡ sure
    → ((o : OldPart) → Contains parts' o → Contains (parts ++ old ∷ []) o)
    → PutsPart names (λ p. (known ≡ true) × (p ≡ part)) places flows parts places' flows' parts'
part_put names ids own part known whole sure places places' flows flows' parts parts' old is put_places put_flows asked start end flow_start flow_end said pushed = record {
  more = put_places.more;
  places_are = put_places.is;
  more_flows = put_flows.more;
  flows_are = put_flows.is;
  each = λ o here o_said. elim (Contains-append_cases parts (old ∷ []) o (pushed o here)) [
    | inl before ↦ inl before
    | inr last ↦
        let same : old ≡ o = Contains-one old o last in
        let sures : sure ≡ true = sym said ∙ ap (λ (x : OldPart). x.known) same ∙ o_said in
        inr (part, ((asked sures).0, refl), subst (λ (x : OldPart). IsImage names places' flows' x part) same (image sures))
  ];
}
  where
    cut_ids : take (old.end - old.start) (drop old.start places') ≡ put_places.more
    cut_ids = ap (λ s. take (old.end - s) (drop s places')) start ∙ cut_new places put_places.more places' old.end put_places.is end

    cut_flows : take (old.flow_end - old.flow_start) (drop old.flow_start flows') ≡ put_flows.more
    cut_flows = ap (λ s. take (old.flow_end - s) (drop s flows')) flow_start ∙ cut_new flows put_flows.more flows' old.flow_end put_flows.is flow_end

    image : sure ≡ true → IsImage names places' flows' old part
    image sures =
        let long = ap length put_places.is ∙ length-append places put_places.more in
        let flows_long = ap length put_flows.is ∙ length-append flows put_flows.more in
        record {
          within = record {
            order = omega (arith, long, start, end);
            end = omega (arith, end);
            flow_order = omega (arith, flows_long, flow_start, flow_end);
            flow_end = omega (arith, flow_end);
          };
          rate_is = sym (ap (λ (p : Part). p.rate) is);
          ids_are = ap (map (slice_index names)) cut_ids ∙ put_places.named (asked sures).1 ∙ sym (ap (λ (p : Part). p.ids) is);
          flows_are = cut_flows ∙ put_flows.all_are sures ∙ sym (ap (λ (p : Part). p.flows) is);
          below = λ p here. put_places.below p (subst (λ xs. Contains xs p) cut_ids here);
        }

-- ---- places and flows, one by one

pub places_more : (names ids one old mid new : List ℕ) (all found both : Bool) → PutsPlaces names ids old mid all → PutsPlaces names one mid new found
    → (both ≡ true → (all ≡ true) × (found ≡ true)) → PutsPlaces names (ids ++ one) old new both
places_more names ids one old mid new all found both first second if_both = record {
  more = first.more ++ second.more;
  is = second.is ∙ ap (λ xs. xs ++ second.more) first.is ∙ append_assoc old first.more second.more;
  named = λ e. map-append (slice_index names) first.more second.more ∙ ap₂ {A = List ℕ} {B = List ℕ} (λ xs ys. xs ++ ys)
      (first.named (if_both e).0) (second.named (if_both e).1);
  below = λ p here. elim (Contains-append_cases first.more second.more p here) [ inl a ↦ first.below p a | inr b ↦ second.below p b ];
}

-- ---- the parts of a cluster, one by one

pub there_at : (parts : List Part) (at : ℕ) (part : Part) → at < length parts → slice_get parts at ≡ Some part → Contains parts part
there_at parts at part low there = (at, low, get_or_from_slice_get parts at part part there)

pub puts_wider : (names : List ℕ) (P Q : Part → Type 0) (places : List ℕ) (flows : List Flow) (parts : List OldPart)
    (places' : List ℕ) (flows' : List Flow) (parts' : List OldPart) → PutsPart names Q places flows parts places' flows' parts'
    → ((part : Part) → Q part → P part) → PutsPart names P places flows parts places' flows' parts'
puts_wider names P Q places flows parts places' flows' parts' puts into = record {
  more = puts.more;
  places_are = puts.places_are;
  more_flows = puts.more_flows;
  flows_are = puts.flows_are;
  each = λ old here said. elim (puts.each old here said) [ inl before ↦ inl before | inr new ↦ inr (new.0, into new.0 new.1, new.2) ];
}

pub puts_nothing : (names : List ℕ) (P : Part → Type 0) (places : List ℕ) (flows : List Flow) (parts : List OldPart)
    → PutsPart names P places flows parts places flows parts
puts_nothing names P places flows parts = record {
  more = [];
  places_are = sym (append-nil places);
  more_flows = [];
  flows_are = sym (append-nil flows);
  each = λ old here said. inl here;
}
