-- Parts that were read are a pick where the parts that they were read from are certified.
use Rattle.std.proofs.Common.{◌≡◌, ℕ, suc, ◌+◌, ◌-◌, ◌<◌, ◌≤◌, List, [], ◌∷◌, ◌++◌, length, map, take, drop, get_or, slice_index, Contains, inl, inr, ◌⊎◌, refl, sym, ap, ◌∙◌, subst, subst₂, arith, length-append}
use Rattle.std.proofs.lemmas.Bool.{cases_eq}
use Rattle.std.proofs.lemmas.List.{length-map, get_or-map, get_or_default, map-append, take-append-drop, get_or-take, length-take-le, get_or_append_left, get_or-append_right}
use Rattle.std.proofs.lemmas.List.Elements.{Contains-get_or}
use Rattle.std.proofs.Math.Seq.{drop-cons}
use Rattle.lists.proofs.Distinct.{one_place, places_apart}
use Rattle.lists.proofs.Entries.{Contains-cases, Contains-head, Contains-later, none_in_empty, Contains-map}
use Rattle.lists.specs.Distinct.{AreDistinct}
use Rattle.std.proofs.lemmas.Simd.{map-map}
use Rattle.fee_rate.specs.declared.rates.Sum.{Sum}
use Rattle.graphs.specs.declared.names.Flow.{Flow}
use Rattle.graphs.specs.Graphs.{Graph, IsCover}
use Rattle.graphs.specs.Rates.{sums, Falls}
use Rattle.graphs.specs.Linearizations.{StandsBefore, IsTopological, IsTogether}
use Rattle.graphs.specs.Certificates.{Part, IsCertificate, Certifies}
use Rattle.graphs.specs.Closing.{renamed_part}
use Rattle.graphs.specs.Merges.{Precedes}
use Rattle.graphs.specs.Picks.{IsPick, FollowOrder, links_of}
use Rattle.linearize.specs.declared.draft.PlaceFlow.{PlaceFlow}
use Rattle.linearize.specs.Drafts.{placed}
use Rattle.cluster.specs.Orders.{named_at, renamed_flow, AreRead, IsInOrder, IsReadPart}
use Rattle.cluster.proofs.Moves.{Certifies-moved}
use Rattle.cluster.proofs.Reading.{rates_read, placed_read}

pub matched : (f : ℕ → ℕ) (order : List ℕ) (ps qs : List Part) → AreRead f order ps qs
    → (q : Part) → Contains qs q → (p : Part) × Contains ps p × IsReadPart f order p q
matched f order [] [] read q here = absurd (none_in_empty q here)
matched f order [] (y ∷ qs) read q here = absurd read
matched f order (x ∷ ps) [] read q here = absurd read
matched f order (x ∷ ps) (y ∷ qs) read q here = elim (Contains-cases y q qs here) [
  | inl same ↦ (x, Contains-head x ps, subst (λ (z : Part). IsReadPart f order x z) same read.0)
  | inr later ↦ let rest = matched f order ps qs read.1 q later in (rest.0, Contains-later x rest.0 ps rest.1, rest.2)
]

placed_renamed : (f : ℕ → ℕ) (ps : List Part) → placed (map (renamed_part f) ps) ≡ map f (placed ps)
placed_renamed f [] = refl
placed_renamed f (p ∷ ps) = ap (λ xs. map f p.ids ++ xs) (placed_renamed f ps) ∙ sym (map-append f p.ids (placed ps))

module _ (rate : ℕ → Sum) (graph : Graph) (IsLink : ℕ → ℕ → Type 0) (names order : List ℕ) (ps qs : List Part) (read : AreRead (slice_index names) order ps qs)
    (certificate : IsCertificate rate graph IsLink (map (renamed_part (slice_index names)) ps)) where
  abbrev f : ℕ → ℕ
  f = slice_index names

  renamed_there : (p : Part) → Contains ps p → Contains (map (renamed_part f) ps) (renamed_part f p)
  renamed_there p here = Contains-map (renamed_part f) ps p here

  rates : map (λ (part : Part). part.rate) qs ≡ map (λ (part : Part). part.rate) (map (renamed_part f) ps)
  rates = rates_read names order ps qs read ∙ sym (map-map (λ (part : Part). part.rate) (renamed_part f) ps)

  certifies : (q : Part) → Contains qs q → Certifies rate IsLink q.ids q.flows
  certifies q here =
      let at = matched f order ps qs read q here in
      let old : Certifies rate IsLink (map f at.0.ids) (map (renamed_flow f) at.0.flows) = certificate.flows (renamed_part f at.0) (renamed_there at.0 at.1) in
      subst (λ (xs : List ℕ). Certifies rate IsLink xs q.flows) (sym at.2.ids_are)
      (Certifies-moved rate IsLink (map f at.0.ids) (map (renamed_flow f) at.0.flows) q.flows at.2.same old)

  pub certificate_read : IsCertificate rate graph IsLink qs
  certificate_read = record {
    filled = λ q here empty.
        (let at = matched f order ps qs read q here in certificate.filled (renamed_part f at.0) (renamed_there at.0 at.1) (sym at.2.ids_are ∙ empty));
    order = record {
      topological = subst (IsTopological graph) (placed_renamed f ps ∙ sym (placed_read names order ps qs read)) certificate.order.topological;
      together = λ q here. (let at = matched f order ps qs read q here in
          subst (IsTogether graph.pairs) (sym at.2.ids_are) (certificate.order.together (renamed_part f at.0) (renamed_there at.0 at.1)));
    };
    falling = record {
      summed = λ q here. (let at = matched f order ps qs read q here in
          at.2.rate_is ∙ certificate.falling.summed (renamed_part f at.0) (renamed_there at.0 at.1) ∙ ap (sums rate) (sym at.2.ids_are));
      falling = subst Falls (sym rates) certificate.falling.falling;
    };
    flows = certifies;
  }

-- ---- the order of flows

in_front : (xs : List ℕ) (i j : ℕ) → i < j → j < length xs → Contains (take j xs) (slice_index xs i)
in_front xs i j before low =
    subst (Contains (take j xs)) (get_or-take j xs i 0 before)
    (Contains-get_or (take j xs) i 0 (let e : length (take j xs) ≡ j = length-take-le j xs (omega arith) in omega arith))

before_at : (xs : List ℕ) (i j : ℕ) → i < j → j < length xs → StandsBefore xs (slice_index xs i) (slice_index xs j)
before_at xs i j before low =
    (take j xs, drop (suc j) xs, sym (take-append-drop j xs) ∙ ap (λ ys. take j xs ++ ys) (drop-cons xs j 0 low), in_front xs i j before low)

-- positions of two entries, of which one precedes the other
precedes_at : {A : Type 0} (xs : List A) (a b d : A) → Precedes xs a b → (i j : ℕ) × (i < j) × (j < length xs) × (get_or xs i d ≡ a) × (get_or xs j d ≡ b)
precedes_at {A} xs a b d p =
    let front : List A = p.0 in
    let rest : List A = p.1 in
    let split : xs ≡ front ++ b ∷ rest = p.2 in
    let here : Contains front a = p.3 in
    let at : get_or front here.0 d ≡ a = get_or_default front here.0 d a here.1 ∙ here.2 in (
      here.0,
      length front,
      here.1,
      (let l : length xs ≡ length front + length (b ∷ rest) =
          ap length split ∙ length-append front (b ∷ rest) in let some : 0 < length (b ∷ rest) = omega arith in omega arith),
      ap (λ ys. get_or ys here.0 d) split ∙ get_or_append_left front (b ∷ rest) d here.0 here.1 ∙ at,
      ap (λ ys. get_or ys (length front) d) split ∙ get_or-append_right front (b ∷ rest) (length front) (length front) d refl (omega arith)
          ∙ ap (λ m. get_or (b ∷ rest) m d) (let e : length front - length front ≡ 0 = omega arith in e),
    )

module _ (order : List ℕ) (new : Part) (once : AreDistinct order)
    (read : IsInOrder order new) (once_links : AreDistinct {A = ℕ × ℕ} (links_of new.flows))
    (inside : (flow : Flow) → Contains new.flows flow → Contains new.ids flow.child × Contains new.ids flow.parent) where
  -- a name of the part by its position in the order
  position : (a : ℕ) → a < length order → Contains new.ids (slice_index order a)
      → (i : ℕ) × (i < length new.ids) × (slice_index new.ids i ≡ slice_index order a) × (a ≡ read.start + i)
  position a low here =
      let at : slice_index new.ids here.0 ≡ slice_index order a = get_or_default new.ids here.0 0 (slice_index order a) here.1 ∙ here.2 in
      let there = read.there here.0 here.1 in
      (here.0, here.1, at, one_place order a (read.start + here.0) 0 once low there.0 (sym at ∙ sym there.1))

  before : (a b : ℕ) → a < b → b < length order → Contains new.ids (slice_index order a)
      → Contains new.ids (slice_index order b) → StandsBefore new.ids (slice_index order a) (slice_index order b)
  before a b earlier low first second =
      let one = position a (omega arith) first in
      let two = position b low second in
      subst₂ (StandsBefore new.ids) one.2 two.2 (before_at new.ids one.0 two.0 (omega (arith, one.3, two.3)) two.1)

  abbrev no_flow : PlaceFlow
  no_flow = record { child = 0; parent = 0; amount = 0 }

  abbrev none : Flow
  none = record { child = 0; parent = 0; amount = 0 }

  abbrev link_of : Flow → ℕ × ℕ
  link_of flow = (flow.child, flow.parent)

  long : length (links_of new.flows) ≡ length read.moved
  long = length-map new.flows link_of ∙ ap length read.flows_are ∙ length-map read.moved (named_at order)

  flow_at : (k : ℕ) → k < length read.moved → get_or new.flows k none ≡ named_at order (get_or read.moved k no_flow)
  flow_at k low = ap (λ (fs : List Flow). get_or fs k none) read.flows_are ∙ get_or-map (named_at order) read.moved k no_flow none low

  flow_there : (k : ℕ) → k < length read.moved → Contains new.flows (named_at order (get_or read.moved k no_flow))
  flow_there k low =
      subst (Contains new.flows) (flow_at k low) (Contains-get_or new.flows k none
      (let l : length new.flows ≡ length read.moved = ap length read.flows_are ∙ length-map read.moved (named_at order) in omega arith))

  link_at : (k : ℕ) → k < length read.moved → get_or (links_of new.flows) k (0, 0) ≡ link_of (named_at order (get_or read.moved k no_flow))
  link_at k low =
      get_or-map link_of new.flows k none (0, 0)
      (let l : length new.flows ≡ length read.moved = ap length read.flows_are ∙ length-map read.moved (named_at order) in omega arith)
      ∙ ap link_of (flow_at k low)

  pub flows_follow : FollowOrder new.ids (links_of new.flows)
  flows_follow a b precedes =
      let at = precedes_at (links_of new.flows) a b (0, 0) precedes in
      let i : ℕ = at.0 in
      let j : ℕ = at.1 in
      let earlier : i < j = at.2 in
      let low : j < length read.moved = subst (λ m. j < m) long at.3 in
      let first : link_of (named_at order (get_or read.moved i no_flow)) ≡ a = sym (link_at i (omega arith)) ∙ at.4 in
      let second : link_of (named_at order (get_or read.moved j no_flow)) ≡ b = sym (link_at j low) ∙ at.5 in
      subst₂ (λ (x y : ℕ × ℕ). StandsBefore new.ids x.0 y.0 ⊎ ((x.0 ≡ y.0) × StandsBefore new.ids x.1 y.1)) first second (in_order i j earlier low)
    where
      in_order : (i j : ℕ) → i < j → j < length read.moved
          → StandsBefore new.ids (slice_index order (get_or read.moved i no_flow).child) (slice_index order (get_or read.moved j no_flow).child)
          ⊎ ((slice_index order (get_or read.moved i no_flow).child ≡ slice_index order (get_or read.moved j no_flow).child)
          × StandsBefore new.ids (slice_index order (get_or read.moved i no_flow).parent) (slice_index order (get_or read.moved j no_flow).parent))
      in_order i j earlier low =
          let one = inside (named_at order (get_or read.moved i no_flow)) (flow_there i (omega arith)) in
          let two = inside (named_at order (get_or read.moved j no_flow)) (flow_there j low) in
          let bounds = read.below (get_or read.moved j no_flow) (Contains-get_or read.moved j no_flow low) in
          elim (read.rises i j no_flow earlier low) [
            | inl children ↦ inl (before (get_or read.moved i no_flow).child (get_or read.moved j no_flow).child children bounds.0 one.0 two.0)
            | inr parents ↦ elim (cases_eq (get_or read.moved i no_flow).parent (get_or read.moved j no_flow).parent) [
              | inl same ↦
                  absurd (places_apart (links_of new.flows) i j (0, 0) once_links earlier (subst (λ m. j < m) (sym long) low)
                  (link_at i (omega arith) ∙ (λ t. (slice_index order (parents.0 t), slice_index order (same t))) ∙ sym (link_at j low)))
              | inr other ↦
                  inr (
                    ap (slice_index order) parents.0,
                    before (get_or read.moved i no_flow).parent (get_or read.moved j no_flow).parent
                        (let e : (get_or read.moved i no_flow).parent ≤ (get_or read.moved j no_flow).parent = parents.1 in omega arith) bounds.1 one.1 two.1,
                  )
            ]
          ]

-- parts that were read from certified ones are a pick
pub pick_read : (rate : ℕ → Sum) (graph : Graph) (names order : List ℕ) (ps qs : List Part) → AreDistinct order → AreRead (slice_index names) order ps qs
    → IsCertificate rate graph (IsCover graph.pairs) (map (renamed_part (slice_index names)) ps) → IsPick rate graph qs
pick_read rate graph names order ps qs once read certificate =
    let whole = certificate_read rate graph (IsCover graph.pairs) names order ps qs read certificate in
    record {
      certificate = whole;
      flows_in_order = λ q here.
          (let at = matched (slice_index names) order ps qs read q here in
          elim at.2.in_order [
            | inl placed_in ↦ flows_follow order q once placed_in (whole.flows q here).once (whole.flows q here).inside
            | inr so ↦ so
          ]);
    }
