-- Picks: what is said of their certificates, with the order in which flows are listed.
use Rattle.std.proofs.Common.{◌≡◌, ℕ, List, [], ◌∷◌, ◌++◌, map, sym, subst, subst₂, ap, refl, inl, inr, ◌⊎◌}
use Rattle.std.specs.Prelude.{Contains}
use Rattle.lists.proofs.Entries.{map-Contains, Contains-map, first_of, rest_of, not_empty}
use Rattle.fee_rate.specs.declared.rates.Sum.{Sum}
use Rattle.graphs.specs.declared.names.Flow.{Flow}
use Rattle.graphs.specs.Graphs.{Graph, IsCover, IsGraph}
use Rattle.graphs.specs.Linearizations.{StandsBefore}
use Rattle.graphs.specs.Certificates.{Part}
use Rattle.graphs.specs.Alikes.{AreAlike}
use Rattle.graphs.specs.Closing.{KeepsApart, IsRenamed, renamed_part}
use Rattle.graphs.specs.Merges.{Precedes, IsMerge}
use Rattle.graphs.specs.Picks.{FollowOrder, links_of, IsPick, PicksAreKept}
use Rattle.graphs.proofs.MergeLemmas.{precedes_map}
use Rattle.graphs.proofs.BestLemmas.{certified_optimal, covers_are_pairs}
use Rattle.graphs.proofs.UnionLemmas.{merged_certificate}
use Rattle.graphs.proofs.RenamingLemmas.{certificates_are_renamed}
use Rattle.graphs.proofs.AlikeLemmas.{alike_back, certificate_to}

-- where a list that a function made is cut, the list that it was made of is cut
abbrev Split : {A B : Type 0} (f : A → B) (xs : List A) (front : List B) (y : B) (rest : List B) → Type 0
Split {A} f xs front y rest = (before : List A) × (x : A) × (after : List A) × (xs ≡ before ++ x ∷ after) × (map f before ≡ front) × (f x ≡ y)

split_map : {A B : Type 0} (f : A → B) (xs : List A) (front : List B) (y : B) (rest : List B) → map f xs ≡ front ++ y ∷ rest → Split f xs front y rest
split_map f [] [] y rest e = absurd (not_empty (sym e))
split_map f [] (z ∷ front) y rest e = absurd (not_empty (sym e))
split_map f (x ∷ xs) [] y rest e = ([], x, xs, refl, refl, first_of e)
split_map f (x ∷ xs) (z ∷ front) y rest e =
    let later = split_map f xs front y rest (rest_of e) in
    (x ∷ later.0, later.1, later.2, ap (λ zs. x ∷ zs) later.3, (λ i. first_of e i ∷ later.4 i), later.5)

-- so entries that stand one before the other come from two that do
pub precedes_back : {A B : Type 0} (f : A → B) (xs : List A) (a b : B) → Precedes (map f xs) a b → (x y : A) × Precedes xs x y × (f x ≡ a) × (f y ≡ b)
precedes_back f xs a b stands =
    let cut = split_map f xs stands.0 b stands.1 stands.2 in
    let held = map-Contains f cut.0 a (subst (λ zs. Contains zs a) (sym cut.4) stands.3) in
    (held.0, cut.1, (cut.0, cut.2, cut.3, held.1), held.2, cut.5)

-- the ends of flows by other names
abbrev ends : (ℕ → ℕ) → ℕ × ℕ → ℕ × ℕ
ends f link = (f link.0, f link.1)

links_renamed : (f : ℕ → ℕ) (flows : List Flow)
    → links_of (map (λ flow. record { child = f flow.child; parent = f flow.parent; amount = flow.amount }) flows) ≡ map (ends f) (links_of flows)
links_renamed f [] = refl
links_renamed f (flow ∷ flows) = ap (λ links. (f flow.child, f flow.parent) ∷ links) (links_renamed f flows)

follow_renamed : (f : ℕ → ℕ) (order : List ℕ) (links : List (ℕ × ℕ)) → FollowOrder order links → FollowOrder (map f order) (map (ends f) links)
follow_renamed f order links follow a b stands =
    let old = precedes_back (ends f) links a b stands in
    subst₂ (λ (x y : ℕ × ℕ). StandsBefore (map f order) x.0 y.0 ⊎ ((x.0 ≡ y.0) × StandsBefore (map f order) x.1 y.1)) old.3 old.4
    (elim (follow old.0 old.1 old.2) [
      | inl child ↦ inl (precedes_map f order old.0.0 old.1.0 child)
      | inr same ↦ inr (ap f same.0, precedes_map f order old.0.1 old.1.1 same.1)
    ])

pick_renamed : (f : ℕ → ℕ) (rate rate' : ℕ → Sum) (old new : Graph) (parts : List Part)
    → ((a b : ℕ) → Contains old.pairs (a, b) → Contains old.names a × Contains old.names b) → KeepsApart f old.names → IsRenamed f old new
    → ((id : ℕ) → Contains old.names id → rate' (f id) ≡ rate id) → IsPick rate old parts → IsPick rate' new (map (renamed_part f) parts)
pick_renamed f rate rate' old new parts within apart renamed rates pick = record {
  certificate = certificates_are_renamed f rate rate' old new parts within apart renamed rates pick.certificate;
  flows_in_order = λ part here.
      let found = map-Contains (renamed_part f) parts part here in
      subst (λ (p : Part). FollowOrder p.ids (links_of p.flows)) found.2
      (subst (FollowOrder (map f found.0.ids)) (sym (links_renamed f found.0.flows))
      (follow_renamed f found.0.ids (links_of found.0.flows) (pick.flows_in_order found.0 found.1)));
}

-- a part of a merged list is one of a component's
part_home : (part : ℕ × ℕ → Part) (components : List (Graph × List (ℕ × ℕ))) (keys : List (ℕ × ℕ)) → IsMerge (map (λ c. c.1) components) keys
    → (p : Part) → Contains (map part keys) p → (c : Graph × List (ℕ × ℕ)) × Contains components c × Contains (map part c.1) p
part_home part components keys merge p here =
    let found = map-Contains part keys p here in
    let list = (merge.exact found.0).0 found.1 in
    let c = map-Contains (λ (c : Graph × List (ℕ × ℕ)). c.1) components list.0 list.1 in
    (c.0, c.1, subst (Contains (map part c.0.1)) found.2 (Contains-map part c.0.1 found.0 (subst (λ ks. Contains ks found.0) (sym c.2) list.2)))

pick_to : (ra rb : ℕ → Sum) (a b : Graph) → AreAlike ra a rb b → IsGraph b → (parts : List Part) → IsPick ra a parts → IsPick rb b parts
pick_to ra rb a b alike other parts pick =
    record { certificate = certificate_to ra rb a b alike other parts pick.certificate; flows_in_order = pick.flows_in_order }

pub picks_are_kept : PicksAreKept
picks_are_kept = record {
  optimal = λ rate graph parts some pick. certified_optimal rate graph (IsCover graph.pairs) parts some (covers_are_pairs graph.pairs) pick.certificate;
  merged = λ rate part components whole keys union each merge falls. record {
    certificate = merged_certificate rate part components whole keys union (λ c here. (each c here).certificate) merge falls;
    flows_in_order = λ p here. let home = part_home part components keys merge p here in (each home.0 home.1).flows_in_order p home.2;
  };
  renamed = pick_renamed;
  alike = λ ra rb a b alike one other parts. (pick_to ra rb a b alike other parts, pick_to rb ra b a (alike_back ra rb a b alike) one parts);
}
