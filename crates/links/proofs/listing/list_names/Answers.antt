use Rattle.std.proofs.Common.{rules, ◌≡◌, ◌<◌, ℕ, pos, List, [], ◌∷◌, ◌++◌, length, map, get_or, take, sym, ap, ◌∙◌, ◌+◌}
use Rattle.std.proofs.lemmas.List.{map-append, take_more}
use Rattle.std.proofs.lemmas.List.Elements.{Contains-get_or}
use Rattle.links.specs.Kept.{names_of}
use Rattle.places.proofs.Placing.{name_at}
use Rattle.links.proofs.listing.list_names.Goals as goal

pub bounds-txs-place : goal.bounds-txs-place
bounds-txs-place c = c.requires.within _ (Contains-get_or c.args.places.now c.loop-place.place-index 0 c.loop-place-test.true)

pub offset_bounds-txs-place : goal.offset_bounds-txs-place
offset_bounds-txs-place c =
    let place : ℕ = get_or c.args.places.now c.loop-place.place-index 0 in
    let within : place < length c.args.txs.now =
    c.requires.within place (Contains-get_or c.args.places.now c.loop-place.place-index 0 c.loop-place-test.true) in
    search rules

pub loop-place-preserved : goal.loop-place-preserved
loop-place-preserved c =
    let txs = c.args.txs.now in
    let places = c.args.places.now in
    let k = c.loop-place.place-index in
    let place : ℕ = get_or places k 0 in
    let nm : ℕ → ℕ = λ q. get_or (names_of txs) q 0 in
    let within : place < length txs = c.requires.within place (Contains-get_or places k 0 c.loop-place-test.true) in
    let name : (get_or txs place (0, pos 0, 0)).0 ≡ nm place = sym (name_at txs place within) in
    let grown : map nm (take (k + 1) places) ≡ map nm (take k places) ++ nm place ∷ [] =
    ap (map nm) (take_more places k 0 c.loop-place-test.true) ∙ map-append nm (take k places) (place ∷ []) in
    record {
      names = c.push_reserved.ensures.items ∙ ap (λ (l : List ℕ). l ++ (get_or txs place (0, pos 0, 0)).0 ∷ []) c.loop-place.invariant.names
          ∙ ap (λ (x : ℕ). map nm (take k places) ++ x ∷ []) name ∙ sym grown;
      room = c.push_reserved.ensures.capacity ∙ c.loop-place.invariant.room;
    }
