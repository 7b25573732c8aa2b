-- The names behind the first ones join their ring.
use Rattle.std.proofs.Common.{◌≡◌, ◌≤◌, ℕ, List, Some, length, Contains, sym, ap, ◌∙◌, subst, arith}
use Rattle.std.specs.Prelude.{IfSome, slice_index}
use Rattle.std.proofs.lemmas.Option.{same_Some}
use Rattle.lists.specs.Distinct.{AreDistinct}
use Rattle.cluster.specs.Clusters.{Cluster}
use Rattle.name_book.specs.Books.{IsNamed}
use Rattle.name_book.specs.Calls.{GathersMain}
use Rattle.levels.specs.Shelves.{stored_at}
use Rattle.levels.proofs.Regathered.{head_once, joins_by, joins_none}
use Rattle.levels.proofs.moving.gather_last.Given as given
use Rattle.levels.proofs.moving.gather_last.Goals as goal

-- what is asked of the number of the last
abbrev Stands : (g : given.Over) (c : goal.After-gather-arg-then-kept-names-1 g) → ℕ → Type 0
Stands g c number =
    (d : Cluster) × (stored_at c.args.shelves.now.store.clusters number ≡ Some d)
    × (1 ≤ c.args.kept) × (c.args.kept ≤ length d.names) × ((x : ℕ) → Contains d.names x → IsNamed c.args.rings.now.book x)

pub gather-requires-clause-apart : goal.gather-requires-clause-apart
gather-requires-clause-apart g c =
    let stored = c.names-names.ensures in
    let once : AreDistinct c.names-names.result.now = subst AreDistinct (sym stored.names) stored.«record».connected.once in
    let some : 1 ≤ c.args.kept = (subst (λ o. IfSome o (Stands g c)) c.in-Some.is c.requires.there).2 in
    subst (λ (xs : List ℕ). Contains xs (slice_index c.names-names.result.now 0) → ⊥) (sym c.split_at.ensures.back)
    (head_once c.names-names.result.now c.args.kept once some (omega (arith, c.if-kept-names.true)))

pub returns-then-kept-names-clause-gathers : goal.returns-then-kept-names-clause-gathers
returns-then-kept-names-clause-gathers g c d number is at =
    let same : c.in-Some.number ≡ number = same_Some c.in-Some.number number (sym c.in-Some.is ∙ is) in
    let one : c.at.result.now ≡ d =
    same_Some c.at.result.now d (sym c.at.ensures ∙ ap (stored_at c.args.shelves.now.store.clusters) same ∙ at) in
    joins_by c.args.kept d c.at.result.now c.names-names.result.now c.args.rings.now c.gather.new.self c.names-names.ensures.names one
    (subst (λ (xs : List ℕ). GathersMain (slice_index c.names-names.result.now 0) xs c.args.rings.now c.gather.new.self) c.split_at.ensures.back
    c.gather.ensures)

pub returns-else-kept-names-clause-gathers : goal.returns-else-kept-names-clause-gathers
returns-else-kept-names-clause-gathers g c d number is at =
    let same : c.in-Some.number ≡ number = same_Some c.in-Some.number number (sym c.in-Some.is ∙ is) in
    let one : c.at.result.now ≡ d =
    same_Some c.at.result.now d (sym c.at.ensures ∙ ap (stored_at c.args.shelves.now.store.clusters) same ∙ at) in
    let all : length d.names ≤ c.args.kept =
    omega (arith, c.if-kept-names.false, ap length (c.names-names.ensures.names ∙ ap (λ (e : Cluster). e.names) one)) in
    joins_none c.args.kept d c.args.rings.now all
