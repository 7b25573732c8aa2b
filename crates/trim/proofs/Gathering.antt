-- One component more over the limits, and what is dropped of it.
use Rattle.std.proofs.Common.{◌≡◌, ℕ, List, [], ◌∷◌, ◌++◌, map, flat_map, inl, inr, refl, sym, ap, ◌∙◌, subst, append_assoc, append-nil}
use Rattle.std.specs.Borrow.{Bor}
use Rattle.std.specs.Prelude.{Contains}
use Rattle.std.proofs.lemmas.List.{map-append}
use Rattle.std.proofs.lemmas.List.Elements.{Contains-push_cases}
use Rattle.lists.proofs.Entries.{map-Contains}
use Rattle.graphs.specs.Certificates.{rate_in}
use Rattle.graphs.specs.Closures.{Closure}
use Rattle.graph_model.specs.declared.names.Limits.{Limits}
use Rattle.graph_model.specs.Limits.{Bounds}
use Rattle.graph_model.specs.Trims.{IsTrimmed}
use Rattle.cluster.specs.Clusters.{Cluster}
use Rattle.links.specs.Links.{Links, AreLinks, graph}
use Rattle.record.specs.Kept.{unordered}
use Rattle.levels.specs.Overs.{AreOvers, LendsOvers}
use Rattle.trim.specs.Trimmed.{AreTrimmed}

abbrev now : Bor Links → Links
now x = x.now

abbrev told : Bor Links → Cluster
told x = unordered x.now

-- one that a walk lends goes from those to come to those that it gave
pub given_one : (given : List (Bor Links)) (l : Bor Links) (old new : List Cluster) → old ≡ told l ∷ new
    → map told given ++ old ≡ map told (given ++ l ∷ []) ++ new
given_one given l old new step =
    ap (λ xs. map told given ++ xs) step ∙ sym (append_assoc (map told given) (told l ∷ []) new)
    ∙ ap (λ xs. xs ++ new) (sym (map-append told given (l ∷ [])))

-- where none is to come, those that it gave are all
pub given_all : (limits : Limits) (graph : Closure) (given : List (Bor Links)) (rest : List Cluster) → LendsOvers limits graph (map told given ++ rest)
    → rest ≡ [] → ((x : Bor Links) → Contains given x → AreLinks x.now) → AreOvers limits graph (map now given)
given_all limits graph given rest lends none whole = lends (map now given) (record {
  links = λ l here. let found = map-Contains now given l here in subst AreLinks found.2 (whole found.0 found.1);
  told = map-map given ∙ sym (append-nil (map told given)) ∙ ap (λ xs. map told given ++ xs) (sym none);
})
  where
    map-map : (xs : List (Bor Links)) → map unordered (map now xs) ≡ map told xs
    map-map [] = refl
    map-map (x ∷ xs) = ap (λ cs. told x ∷ cs) (map-map xs)

pub whole_one : (given : List (Bor Links)) (l : Bor Links) → ((x : Bor Links) → Contains given x → AreLinks x.now) → AreLinks l.now
    → (x : Bor Links) → Contains (given ++ l ∷ []) x → AreLinks x.now
whole_one given l whole one x here = elim (Contains-push_cases given l x here) [
  | inl before ↦ whole x before
  | inr same ↦ subst (λ (y : Bor Links). AreLinks y.now) same one
]

flat_push : {A B : Type 0} (f : A → List B) (xs : List A) (x : A) → flat_map f (xs ++ x ∷ []) ≡ flat_map f xs ++ f x
flat_push f [] x = append-nil (f x)
flat_push f (y ∷ ys) x = ap (λ zs. f y ++ zs) (flat_push f ys x) ∙ sym (append_assoc (f y) (flat_map f ys) (f x))

pub trimmed_push : (bounds : Bounds) (list : List Links) (l : Links) (ids some new : List ℕ) → AreTrimmed bounds list ids
    → IsTrimmed bounds (rate_in l.txs) (graph l) some → new ≡ ids ++ some → AreTrimmed bounds (list ++ l ∷ []) new
trimmed_push bounds list l ids some new was one is = record {
  parts = was.parts ++ (l, some) ∷ [];
  links = map-append (λ (part : Links × List ℕ). part.0) was.parts ((l, some) ∷ []) ∙ ap (λ ls. ls ++ l ∷ []) was.links;
  trimmed = λ part here. elim (Contains-push_cases was.parts (l, some) part here) [
    | inl before ↦ was.trimmed part before
    | inr same ↦ subst (λ (p : Links × List ℕ). IsTrimmed bounds (rate_in p.0.txs) (graph p.0) p.1) same one
  ];
  together = is ∙ ap (λ xs. xs ++ some) was.together ∙ sym (flat_push (λ (part : Links × List ℕ). part.1) was.parts (l, some));
}
