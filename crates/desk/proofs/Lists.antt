-- What iterators gave, and lists that are made of it.
use Rattle.std.proofs.Common.{◌≡◌, ℕ, List, [], ◌∷◌, ◌++◌, map, sym, ap, ◌∙◌, append_assoc, append-nil}
use Rattle.std.specs.Prelude.{flat_map, length}
use Rattle.std.proofs.lemmas.List.{map-append}
use Rattle.std.proofs.lemmas.List.Concat.{flat_map-append}
use Rattle.std.specs.Borrow.{Bor}
use Rattle.cluster.specs.Clusters.{Cluster}
use Rattle.graphs.specs.Certificates.{Part}
use Rattle.desk.specs.declared.listing.Groups.{Groups}
use Rattle.desk.specs.declared.listing.Listing.{Listing}
use Rattle.desk.specs.Copies.{AddsGroup, AddsPart, AreGrouped, IsListed, flow_words, head_of}

pub rest_on : {A B : Type 0} (f : A → B) (all : List B) (given : List A) (now next : List B) (x : A) → all ≡ map f given ++ now → now ≡ f x ∷ next
    → all ≡ map f (given ++ x ∷ []) ++ next
rest_on f all given now next x is step =
    is ∙ ap (λ (ys : List _). map f given ++ ys) step ∙ sym (append_assoc (map f given) (f x ∷ []) next) ∙ ap (λ (ys : List _). ys ++ next)
    (sym (map-append f given (x ∷ [])))

-- where nothing is left, what it gave is all
pub gave_all : {A : Type 0} (all front rest : List A) → all ≡ front ++ rest → rest ≡ [] → front ≡ all
gave_all {A} all front rest is none = sym (is ∙ ap (λ (more : List A). front ++ more) none ∙ append-nil front)

flat_map_push : {B C : Type 0} (g : B → List C) (given : List B) (x : B) → flat_map g (given ++ x ∷ []) ≡ flat_map g given ++ g x
flat_map_push g given x = flat_map-append g given (x ∷ []) ∙ ap (λ (ys : List _). flat_map g given ++ ys) (append-nil (g x))

-- a part behind those that are listed
pub listed_push : (parts : List Part) (part : Part) (old new : Listing) → IsListed parts old → AddsPart part old new → IsListed (parts ++ part ∷ []) new
listed_push parts part old new is adds = record {
  heads = adds.heads ∙ ap (λ (ys : List _). ys ++ head_of part ∷ []) is.heads ∙ sym (map-append head_of parts (part ∷ []));
  names = adds.names ∙ ap (λ (ys : List _). ys ++ part.ids) is.names ∙ sym (flat_map_push (λ p. p.ids) parts part);
  words = adds.words ∙ ap (λ (ys : List _). ys ++ map flow_words part.flows) is.words
      ∙ sym (flat_map_push (λ p. map flow_words p.flows) parts part);
}

-- a list behind those that are told
pub grouped_push : (lists : List (List ℕ)) (list : List ℕ) (old new : Groups) → AreGrouped lists old → AddsGroup list old new
    → AreGrouped (lists ++ list ∷ []) new
grouped_push lists list old new is adds = record {
  counts = adds.counts ∙ ap (λ (ys : List _). ys ++ length list ∷ []) is.counts ∙ sym (map-append length lists (list ∷ []));
  names = adds.names ∙ ap (λ (ys : List _). ys ++ list) is.names ∙ sym (flat_map_push (λ (names : List ℕ). names) lists list);
}

-- a component that is lent, and its names
abbrev pub now : Bor Cluster → Cluster
now x = x.now

abbrev pub names_of : Cluster → List ℕ
names_of c = c.names
