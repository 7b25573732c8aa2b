-- Replies that are read off a pick: with the same pick, states that are the same answer the same.
use Rattle.std.proofs.Common.{◌≡◌, ℕ, Bool, true, false, ◌↔◌, ◌⊎◌, inl, inr, List, [], ◌∷◌, ◌++◌, map, append_assoc, Some, refl, sym, ap, subst, ◌∙◌}
use Rattle.std.specs.Prelude.{Contains}
use Rattle.lists.specs.Distinct.{AreDistinct}
use Rattle.lists.proofs.Entries.{first_of, rest_of, not_empty, map_along}
use Rattle.lists.proofs.Flats.{one_holder}
use Rattle.lists.proofs.Follows.{Follow, follow_once}
use Rattle.fee_rate.specs.declared.rates.Sum.{Sum}
use Rattle.graphs.specs.declared.names.Level.{Level}
use Rattle.graphs.specs.declared.names.Level.TheVariants.{Main}
use Rattle.graphs.specs.Graphs.{Graph, AreConnected, IsCover}
use Rattle.graphs.specs.Rates.{sum_of}
use Rattle.graphs.specs.Linearizations.{StandsBefore}
use Rattle.graphs.specs.Certificates.{Part}
use Rattle.graphs.specs.Alikes.{AreAlike}
use Rattle.graphs.proofs.AlikeLemmas.{stands_trans, cover_to, alike_back}
use Rattle.graphs.proofs.MergeLemmas.{precedes_map}
use Rattle.graph_model.specs.declared.names.Place.{Place}
use Rattle.graph_model.specs.declared.names.Place.TheVariants as places
use Rattle.graph_model.specs.States.{PlainState, Picks, Table, level_of, pick_of, rate_of, sum_in}
use Rattle.graph_model.specs.Changes.{IsLast}
use Rattle.graph_model.specs.Answers.{order_of, ListsCovers, ProvesOrder, StandsTo, Answers}
use Rattle.graph_model.specs.Blocks.{IsBlock, taken_of, ShareComponent}
use Rattle.graph_model.specs.Texts.{Text}
use Rattle.graph_model.specs.Dumps.{DumpText, IsDump}
use Rattle.graph_model.specs.Replies.{Reply, Parts, Proves, OnePart, Stands, Evicted, Built}
use Rattle.graph_model.specs.Commands.{Command, Evict, Order, Proof, Chunk, Before, Block}
use Rattle.graph_model.specs.Validity.{IsValid, ArePicks}
use Rattle.graph_model.specs.SameLaws.{IsSameState, ReadsNoPick}
use Rattle.graph_model.proofs.EdgeLemmas.{not_before_itself, followed}
use Rattle.graph_model.proofs.TxLemmas.{tx_of}
use Rattle.graph_model.proofs.DumpLemmas.{texts_same}
use Rattle.graph_model.proofs.SameLemmas.{back, up_to, linked_to, level_same}
use Rattle.graph_model.proofs.ProofLemmas.{level_pick}

-- ---- parts

pub some_same : {A : Type 0} (x y : A) → Some x ≡ Some y → x ≡ y
some_same x y is = cc

-- the part that holds a name
pub holder_same : (parts : List Part) (p q : Part) (id : ℕ) → AreDistinct (order_of parts) → Contains parts p → Contains p.ids id
    → Contains parts q → Contains q.ids id → p ≡ q
holder_same parts p q id once p_in here q_in there = one_holder (λ (part : Part). part.ids) parts p q id once p_in q_in here there

-- the last of two lists that are the same
end_same : {A : Type 0} (xs ys : List A) (x y : A) → xs ++ x ∷ [] ≡ ys ++ y ∷ [] → x ≡ y
end_same [] [] x y is = first_of is
end_same [] (w ∷ ys) x y is = absurd (longer ys y (rest_of is))
  where
    longer : {A : Type 0} (zs : List A) (z : A) → [] ≡ zs ++ z ∷ [] → ⊥
    longer [] z none = not_empty (sym none)
    longer (v ∷ zs) z none = not_empty (sym none)
end_same (w ∷ xs) [] x y is = absurd (longer xs x (rest_of is))
  where
    longer : {A : Type 0} (zs : List A) (z : A) → zs ++ z ∷ [] ≡ [] → ⊥
    longer [] z none = not_empty none
    longer (v ∷ zs) z none = not_empty none
end_same (w ∷ xs) (v ∷ ys) x y is = end_same xs ys x y (rest_of is)

pub last_same : (parts : List Part) (p q : Part) → IsLast parts p → IsLast parts q → p ≡ q
last_same parts p q one other = end_same one.0 other.0 p q (sym one.1 ∙ other.1)

-- ---- places in an order

module _ (order : List ℕ) (once : AreDistinct order) where
  not_round : (a b : ℕ) → StandsBefore order a b → StandsBefore order b a → ⊥
  not_round a b there back = not_before_itself order a once (stands_trans order a b a once there back)

  not_beside : (a b : ℕ) → a ≡ b → StandsBefore order a b → ⊥
  not_beside a b same stands = not_before_itself order b once (subst (λ (x : ℕ). StandsBefore order x b) same stands)

  -- a name stands to another in one way
  pub place_same : (a b : ℕ) (p q : Place) → StandsTo order a b p → StandsTo order a b q → p ≡ q
  place_same a b places.Before places.Before one other = refl
  place_same a b places.Before places.Same one other = absurd (not_beside a b other one)
  place_same a b places.Before places.After one other = absurd (not_round a b one other)
  place_same a b places.Same places.Before one other = absurd (not_beside a b one other)
  place_same a b places.Same places.Same one other = refl
  place_same a b places.Same places.After one other = absurd (not_beside b a (sym one) other)
  place_same a b places.After places.Before one other = absurd (not_round a b other one)
  place_same a b places.After places.Same one other = absurd (not_beside b a (sym other) one)
  place_same a b places.After places.After one other = refl

  -- an edge before another: its child stands first, or with the same child its parent
  abbrev EdgeBefore : ℕ × ℕ → ℕ × ℕ → Type 0
  EdgeBefore e f = StandsBefore order e.1 f.1 ⊎ ((e.1 ≡ f.1) × StandsBefore order e.0 f.0)

  edges_apart : (e f : ℕ × ℕ) → EdgeBefore e f → EdgeBefore f e → ⊥
  edges_apart e f (inl one) (inl other) = not_round e.1 f.1 one other
  edges_apart e f (inl one) (inr other) = not_beside e.1 f.1 (sym other.0) one
  edges_apart e f (inr one) (inl other) = not_beside f.1 e.1 (sym one.0) other
  edges_apart e f (inr one) (inr other) = not_round e.0 f.0 one.1 other.1

  edges_follow : (graph : Graph) (edges : List (ℕ × ℕ)) → ListsCovers graph order edges → Follow EdgeBefore edges
  edges_follow graph edges covers = followed EdgeBefore edges (λ e f stands.
      covers.in_order (e.1, e.0) (f.1, f.0) (precedes_map (λ (edge : ℕ × ℕ). (edge.1, edge.0)) edges e f stands))

  -- the same covering pairs along the same order
  pub covers_same : (a b : Graph) (xs ys : List (ℕ × ℕ)) → ((x y : ℕ) → IsCover a.pairs x y ↔ IsCover b.pairs x y)
      → ListsCovers a order xs → ListsCovers b order ys → xs ≡ ys
  covers_same a b xs ys same one other =
      follow_once EdgeBefore edges_apart xs ys (edges_follow a xs one) (edges_follow b ys other)
      (λ e here. (other.exact e.0 e.1).1 ((same e.0 e.1).0 ((one.exact e.0 e.1).0 here)))
      (λ e here. (one.exact e.0 e.1).1 ((same e.0 e.1).1 ((other.exact e.0 e.1).0 here)))

-- ---- blocks

marks_alike : (m n : Bool) → (m ≡ true → n ≡ true) → (n ≡ true → m ≡ true) → m ≡ n
marks_alike true n to from = sym (to refl)
marks_alike false true to from = from refl
marks_alike false false to from = refl

shared_to : (a b : Graph) (p q : Part) → ((x y : ℕ) → AreConnected a.pairs x y → AreConnected b.pairs x y) → ShareComponent a p q → ShareComponent b p q
shared_to a b p q linked (x, y, x_in, y_in, trail) = (x, y, x_in, y_in, linked x y trail)

-- Each mark is decided by those before it.
module _ (a b : Graph) (parts : List Part) (size : ℕ) (ta tb : List Part) (same : (x y : ℕ) → AreConnected a.pairs x y ↔ AreConnected b.pairs x y)
    (one : IsBlock a parts size ta) (other : IsBlock b parts size tb) where
  mark_same : (front xs ys : List (Part × Bool)) (part : Part) (m n : Bool) → one.marked ≡ front ++ (part, m) ∷ xs
      → other.marked ≡ front ++ (part, n) ∷ ys → m ≡ n
  mark_same front xs ys part m n cut_a cut_b =
      let by_a = one.marks front xs part m cut_a in
      let by_b = other.marks front ys part n cut_b in
      marks_alike m n
      (λ is. let holds = by_a.0 is in by_b.1
      (λ earlier was here share. holds.0 earlier was here (shared_to b a earlier part (λ x y. (same x y).1) share), holds.1))
      (λ is. let holds = by_b.0 is in by_a.1
      (λ earlier was here share. holds.0 earlier was here (shared_to a b earlier part (λ x y. (same x y).0) share), holds.1))

  rest_same : (front xs ys : List (Part × Bool)) → one.marked ≡ front ++ xs → other.marked ≡ front ++ ys
      → map (λ (entry : Part × Bool). entry.0) xs ≡ map (λ (entry : Part × Bool). entry.0) ys → xs ≡ ys
  rest_same front [] [] cut_a cut_b is = refl
  rest_same front [] (y ∷ ys) cut_a cut_b is = absurd (not_empty (sym is))
  rest_same front (x ∷ xs) [] cut_a cut_b is = absurd (not_empty is)
  rest_same front (x ∷ xs) (y ∷ ys) cut_a cut_b is =
      let part : x.0 ≡ y.0 = first_of is in
      let mark : x.1 ≡ y.1 = mark_same front xs ys x.0 x.1 y.1 cut_a (cut_b ∙ (λ i. front ++ (sym part i, y.1) ∷ ys)) in
      let entry : x ≡ y = λ i. (part i, mark i) in
      let rest : xs ≡ ys = rest_same (front ++ x ∷ []) xs ys (cut_a ∙ sym (append_assoc front (x ∷ []) xs))
      (cut_b ∙ (λ i. front ++ sym entry i ∷ ys) ∙ sym (append_assoc front (x ∷ []) ys)) (rest_of is) in
      λ i. entry i ∷ rest i

  pub block_same : ta ≡ tb
  block_same =
      let marked : one.marked ≡ other.marked = rest_same [] one.marked other.marked refl refl (one.all ∙ sym other.all) in
      one.result ∙ ap taken_of marked ∙ sym other.result

-- ---- the text that proves an order

pub proof_same : (ta tb : Table) (a b : Graph) (pick : List Part) (one other : Text) → ((id : ℕ) → rate_of ta id ≡ rate_of tb id)
    → ((x y : ℕ) → IsCover a.pairs x y ↔ IsCover b.pairs x y) → AreDistinct (order_of pick)
    → ProvesOrder ta a pick one → ProvesOrder tb b pick other → one ≡ other
proof_same ta tb a b pick one other rates covers once first second =
    let listed : map (tx_of (rate_of ta)) (order_of pick) ≡ map (tx_of (rate_of tb)) (order_of pick) =
    map_along (tx_of (rate_of ta)) (tx_of (rate_of tb)) (order_of pick) (λ id here. ap (λ (s : Sum). (id, s.fee, s.size)) (rates id)) in
    let txs : one.txs ≡ other.txs = first.txs ∙ listed ∙ sym second.txs in
    let edges : one.edges ≡ other.edges = covers_same (order_of pick) once a b one.edges other.edges covers first.edges second.edges in
    let parts : one.parts ≡ other.parts = first.parts ∙ sym second.parts in
    λ i. record { txs = txs i; edges = edges i; parts = parts i }

-- ---- states that are the same

module _ (a b : PlainState) (same : IsSameState a b) where
  rates_same : (id : ℕ) → rate_of a.table id ≡ rate_of b.table id
  rates_same id = ap sum_in (same.table id)

  pub level_alike : (level : Level) → AreAlike (rate_of a.table) (level_of a level) (rate_of b.table) (level_of b level)
  level_alike level =
      let graphs = level_same a b level same in
      record {
        names = graphs.names;
        sums = λ id here. rates_same id;
        ancestors = λ x y. (
          up_to (level_of a level) (level_of b level) graphs x y,
          up_to (level_of b level) (level_of a level) (back (level_of a level) (level_of b level) graphs) x y,
        );
      }

  pub level_covers : (level : Level) (x y : ℕ) → IsCover (level_of a level).pairs x y ↔ IsCover (level_of b level).pairs x y
  level_covers level x y =
      let alike = level_alike level in (
        cover_to (rate_of a.table) (rate_of b.table) (level_of a level) (level_of b level) alike x y,
        cover_to (rate_of b.table) (rate_of a.table) (level_of b level) (level_of a level)
            (alike_back (rate_of a.table) (rate_of b.table) (level_of a level) (level_of b level) alike) x y,
      )

  -- their main graphs have one text
  pub dumps_same : (s t : DumpText) → IsDump a.table a.main s → IsDump b.table b.main t → s ≡ t
  dumps_same s t = texts_same a.table b.table a.main b.main s t same.main.names rates_same (level_covers Main)

-- ---- replies

module _ (picks : Picks) (a b : PlainState) (valid_a : IsValid a) (valid_b : IsValid b) (picks_a : ArePicks a picks) (picks_b : ArePicks b picks)
    (same : IsSameState a b) where
  main_linked : (x y : ℕ) → AreConnected a.main.pairs x y ↔ AreConnected b.main.pairs x y
  main_linked x y = (linked_to a.main b.main same.main x y, linked_to b.main a.main (back a.main b.main same.main) x y)

  pick_once : (level : Level) (pick : List Part) → pick_of picks level ≡ Some pick → AreDistinct (order_of pick)
  pick_once level pick is =
      (level_pick (record { plain = a; picks = picks }) level pick (record { plain = valid_a; picks = picks_a }) is).1.certificate.order.topological.once

  picks_same : (level : Level) (p q : List Part) → pick_of picks level ≡ Some p → pick_of picks level ≡ Some q → q ≡ p
  picks_same level p q one other = some_same q p (sym other ∙ one)

  -- what `evict` drops
  pub evicts_same : (p q : List Part) (x y : Part) → pick_of picks Main ≡ Some p → IsLast p x → pick_of picks Main ≡ Some q → IsLast q y → x ≡ y
  evicts_same p q x y one last_x other last_y =
      last_same p x y last_x (subst (λ (ps : List Part). IsLast ps y) (picks_same Main p q one other) last_y)

  proofs_same : (level : Level) (p q : List Part) (s t : Text) → pick_of picks level ≡ Some p → ProvesOrder a.table (level_of a level) p s
      → pick_of picks level ≡ Some q → ProvesOrder b.table (level_of b level) q t → s ≡ t
  proofs_same level p q s t one first other second =
      proof_same a.table b.table (level_of a level) (level_of b level) p s t (rates_same a b same) (level_covers a b same level) (pick_once level p one) first
      (subst (λ (ps : List Part). ProvesOrder b.table (level_of b level) ps t) (picks_same level p q one other) second)

  holders_same : (p q : List Part) (x y : Part) (id : ℕ) → pick_of picks Main ≡ Some p → Contains p x → Contains x.ids id
      → pick_of picks Main ≡ Some q → Contains q y → Contains y.ids id → x ≡ y
  holders_same p q x y id one x_in here other y_in there =
      holder_same p x y id (pick_once Main p one) x_in here (subst (λ (ps : List Part). Contains ps y) (picks_same Main p q one other) y_in) there

  places_same : (p q : List Part) (v w : Place) (x y : ℕ) → pick_of picks Main ≡ Some p → StandsTo (order_of p) x y v
      → pick_of picks Main ≡ Some q → StandsTo (order_of q) x y w → v ≡ w
  places_same p q v w x y one first other second =
      place_same (order_of p) (pick_once Main p one) x y v w first
      (subst (λ (ps : List Part). StandsTo (order_of ps) x y w) (picks_same Main p q one other) second)

  blocks_same : (p q s t : List Part) (size : ℕ) → pick_of picks Main ≡ Some p → IsBlock a.main p size s
      → pick_of picks Main ≡ Some q → IsBlock b.main q size t → s ≡ t
  blocks_same p q s t size one first other second =
      block_same a.main b.main p size s t main_linked first (subst (λ (ps : List Part). IsBlock b.main ps size t) (picks_same Main p q one other) second)

  -- the commands whose answer is read off a pick
  module _ (ra rb : Reply) where
    pub evict_reply : Answers picks a Evict ra → Answers picks b Evict rb → ra ≡ rb
    evict_reply (p, x, one, last_x, said) (q, y, other, last_y, told) =
        said ∙ ap (λ (part : Part). Evicted part.rate part.ids) (evicts_same p q x y one last_x other last_y) ∙ sym told

    pub order_reply : (level : Level) → Answers picks a (Order level) ra → Answers picks b (Order level) rb → ra ≡ rb
    order_reply level (p, one, said) (q, other, told) = said ∙ ap Parts (sym (picks_same level p q one other)) ∙ sym told

    pub proof_reply : (level : Level) → Answers picks a (Proof level) ra → Answers picks b (Proof level) rb → ra ≡ rb
    proof_reply level (p, s, one, first, said) (q, t, other, second, told) =
        said ∙ ap Proves (proofs_same level p q s t one first other second) ∙ sym told

    pub chunk_reply : (id : ℕ) → Answers picks a (Chunk id) ra → Answers picks b (Chunk id) rb → ra ≡ rb
    chunk_reply id (p, x, one, x_in, here, said) (q, y, other, y_in, there, told) =
        said ∙ ap OnePart (holders_same p q x y id one x_in here other y_in there) ∙ sym told

    pub before_reply : (x y : ℕ) → Answers picks a (Before x y) ra → Answers picks b (Before x y) rb → ra ≡ rb
    before_reply x y (p, v, one, first, said) (q, w, other, second, told) =
        said ∙ ap Stands (places_same p q v w x y one first other second) ∙ sym told

    pub block_reply : (size : ℕ) → Answers picks a (Block size) ra → Answers picks b (Block size) rb → ra ≡ rb
    block_reply size (p, s, one, first, said) (q, t, other, second, told) =
        said ∙ ap (λ (taken : List Part). Built (sum_of (map (λ part. part.rate) taken)) (order_of taken)) (blocks_same p q s t size one first other second)
        ∙ sym told

    pub pick_reply : (command : Command) → (ReadsNoPick command → ⊥) → Answers picks a command ra → Answers picks b command rb → ra ≡ rb
    pick_reply Evict reads one other = evict_reply one other
    pick_reply (Order level) reads one other = order_reply level one other
    pick_reply (Proof level) reads one other = proof_reply level one other
    pick_reply (Chunk id) reads one other = chunk_reply id one other
    pick_reply (Before x y) reads one other = before_reply x y one other
    pick_reply (Block size) reads one other = block_reply size one other
    pick_reply _ reads one other = absurd (reads tt)
