-- Texts by their lines: a text is told from them, and what lines take a draft on.
use Rattle.std.proofs.Common.{◌≡◌, ℕ, List, [], ◌∷◌, ◌++◌, refl, sym, ap, ◌∙◌, subst, map, not, Result, Ok, Err, append_assoc, append-nil}
use Rattle.std.specs.Prelude.{flat_map, filter, All}
use Rattle.std.proofs.lemmas.Simd.{map-map}
use Rattle.std.proofs.lemmas.List.{map-append}
use Rattle.std.proofs.lemmas.List.Elements.{All-cons, All-nil, All-head, All-tail, All-append, All-map, filter-append}
use Rattle.lists.proofs.Entries.{All-front, All-back}
use Rattle.graphs.specs.Certificates.{Part}
use Rattle.graph_model.specs.Lines.{without_return, is_quiet}
use Rattle.graph_model.specs.Texts.{Text, HasPartTypes, HasTextTypes, IsText, told, text_lines, part_lines}
use Rattle.wire.specs.declared.texts.draft.Draft.{Draft}
use Rattle.wire.specs.declared.texts.fault.TextFault.{TextFault}
use Rattle.wire.specs.declared.texts.fault.TextFault.TheVariants as faults
use Rattle.wire.specs.declared.texts.row.Row.{Row}
use Rattle.wire.specs.declared.texts.row.Row.TheVariants as rows
use Rattle.wire.specs.Rows.{row_line, HasRowTypes, tx_row, edge_row, part_rows, rows_of, Gives}
use Rattle.wire.specs.Drafts.{Continues, TakesText}
use Rattle.wire.proofs.RowLemmas.{row_same}
use Rattle.wire.proofs.StageLemmas.{AtEnd, stage_same}

All_of_map : {X Y : Type 0} (P : X → Type 0) (f : Y → X) (ys : List Y) → All P (map f ys) → All (λ y. P (f y)) ys
All_of_map P f [] all = All-nil (λ y. P (f y))
All_of_map P f (y ∷ ys) all = All-cons (λ y. P (f y)) y ys (All-head P (f y) (map f ys) all) (All_of_map P f ys (All-tail P (f y) (map f ys) all))

-- the lines of a text, one by one

part_text : (part : Part) → map row_line (part_rows part) ≡ part_lines part
part_text part = ap (λ (xs : List (List ℕ)). row_line (rows.Chunk part.rate part.ids) ∷ xs) (map-map row_line (λ flow. rows.Flow flow) part.flows)

parts_text : (parts : List Part) → map row_line (flat_map part_rows parts) ≡ flat_map part_lines parts
parts_text [] = refl
parts_text (part ∷ parts) = map-append row_line (part_rows part) (flat_map part_rows parts) ∙ (λ i. part_text part i ++ parts_text parts i)

pub rows_text : (text : Text) → text_lines text ≡ map row_line (rows_of text)
rows_text text = simp (map-append, map-map, parts_text, append_assoc)

-- the types of its numbers, line by line

part_typed : (part : Part) → HasPartTypes part → All HasRowTypes (part_rows part)
part_typed part types =
    All-cons HasRowTypes (rows.Chunk part.rate part.ids) (map (λ flow. rows.Flow flow) part.flows) (types.fee, types.size, (types.filled, types.ids))
    (All-map HasRowTypes (λ flow. rows.Flow flow) part.flows (λ k d below. ((types.ends k d below).0, (types.ends k d below).1, types.amounts k d below)))

parts_typed : (parts : List Part) → All HasPartTypes parts → All HasRowTypes (flat_map part_rows parts)
parts_typed [] types = All-nil HasRowTypes
parts_typed (part ∷ parts) types =
    All-append HasRowTypes (part_rows part) (flat_map part_rows parts)
    (part_typed part (All-head HasPartTypes part parts types)) (parts_typed parts (All-tail HasPartTypes part parts types))

pub rows_typed : (text : Text) → HasTextTypes text → All HasRowTypes (rows_of text)
rows_typed text types =
    All-append HasRowTypes (map tx_row text.txs) (map edge_row text.edges ++ (flat_map part_rows text.parts ++ rows.End ∷ []))
    (All-map HasRowTypes tx_row text.txs types.txs)
    (All-append HasRowTypes (map edge_row text.edges) (flat_map part_rows text.parts ++ rows.End ∷ []) (All-map HasRowTypes edge_row text.edges types.edges)
    (All-append HasRowTypes (flat_map part_rows text.parts) (rows.End ∷ [])
    (parts_typed text.parts types.parts) (All-cons HasRowTypes rows.End [] tt (All-nil HasRowTypes))))

typed_part : (part : Part) → All HasRowTypes (part_rows part) → HasPartTypes part
typed_part part typed =
    let chunk = All-head HasRowTypes (rows.Chunk part.rate part.ids) (map (λ flow. rows.Flow flow) part.flows) typed in
    let flows = All_of_map HasRowTypes (λ flow. rows.Flow flow) part.flows
    (All-tail HasRowTypes (rows.Chunk part.rate part.ids) (map (λ flow. rows.Flow flow) part.flows) typed) in
    record {
      fee = chunk.0;
      size = chunk.1;
      filled = chunk.2.0;
      ids = chunk.2.1;
      ends = λ k d below. ((flows k d below).0, (flows k d below).1);
      amounts = λ k d below. (flows k d below).2;
    }

typed_parts : (parts : List Part) → All HasRowTypes (flat_map part_rows parts) → All HasPartTypes parts
typed_parts [] typed = All-nil HasPartTypes
typed_parts (part ∷ parts) typed =
    All-cons HasPartTypes part parts (typed_part part (All-front HasRowTypes (part_rows part) (flat_map part_rows parts) typed))
    (typed_parts parts (All-back HasRowTypes (part_rows part) (flat_map part_rows parts) typed))

pub typed_text : (text : Text) → All HasRowTypes (rows_of text) → HasTextTypes text
typed_text text typed =
    let behind = All-back HasRowTypes (map tx_row text.txs) (map edge_row text.edges ++ (flat_map part_rows text.parts ++ rows.End ∷ [])) typed in
    let parts = All-back HasRowTypes (map edge_row text.edges) (flat_map part_rows text.parts ++ rows.End ∷ []) behind in
    record {
      txs = All_of_map HasRowTypes tx_row text.txs
          (All-front HasRowTypes (map tx_row text.txs) (map edge_row text.edges ++ (flat_map part_rows text.parts ++ rows.End ∷ [])) typed);
      edges =
          All_of_map HasRowTypes edge_row text.edges (All-front HasRowTypes (map edge_row text.edges) (flat_map part_rows text.parts ++ rows.End ∷ []) behind);
      parts = typed_parts text.parts (All-front HasRowTypes (flat_map part_rows text.parts) (rows.End ∷ []) parts);
    }

-- lines that begin as others do go on from them
rows_begin : (xs ys : List Row) (rest : List (List ℕ)) → All HasRowTypes xs → All HasRowTypes ys
    → map row_line xs ≡ map row_line ys ++ rest → (more : List Row) × (xs ≡ ys ++ more) × (rest ≡ map row_line more)
rows_begin xs [] rest one other is = (xs, refl, sym is)
rows_begin [] (y ∷ ys) rest one other is = absurd (let e : [] ≡ row_line y ∷ (map row_line ys ++ rest) = is in cc)
rows_begin (x ∷ xs) (y ∷ ys) rest one other is =
    let e : row_line x ∷ map row_line xs ≡ row_line y ∷ (map row_line ys ++ rest) = is in
    let head : row_line x ≡ row_line y = cc in
    let tail : map row_line xs ≡ map row_line ys ++ rest = cc in
    let first : x ≡ y = row_same x y (All-head HasRowTypes x xs one) (All-head HasRowTypes y ys other) head in
    let go = rows_begin xs ys rest (All-tail HasRowTypes x xs one) (All-tail HasRowTypes y ys other) tail in
    let behind = go.1 in
    (go.0, λ i. first i ∷ behind i, go.2)

pub rows_same : (xs ys : List Row) → All HasRowTypes xs → All HasRowTypes ys → map row_line xs ≡ map row_line ys → xs ≡ ys
rows_same xs ys one other is =
    let go = rows_begin xs ys [] one other (is ∙ sym (append-nil (map row_line ys))) in
    none_more go.0 go.1 go.2
  where
    none_more : (more : List Row) → xs ≡ ys ++ more → [] ≡ map row_line more → xs ≡ ys
    none_more [] whole none = whole ∙ append-nil ys
    none_more (row ∷ more) whole none = absurd (let e : [] ≡ row_line row ∷ map row_line more = none in cc)

-- lines have one text
pub text_same : (lines : List (List ℕ)) (a b : Text) → IsText lines a → IsText lines b → a ≡ b
text_same lines a b one other =
    let is = sym (rows_text a) ∙ sym one.spelled ∙ other.spelled ∙ rows_text b in
    let rows_are = rows_same (rows_of a) (rows_of b) (rows_typed a one.types) (rows_typed b other.types) is in
    let e : AtEnd a ≡ AtEnd b = stage_same (AtEnd a) (AtEnd b) rows_are in cc

-- a line as text that was read, and one that is none

pub text_takes : (old : List Row) (line : List ℕ) (row : Row) (result : Result Draft TextFault) → All HasRowTypes old
    → HasRowTypes row × (line ≡ row_line row) → Continues old row result → TakesText old line result
text_takes old line row (Ok draft) typed read more = (row, read.0, read.1, more)
text_takes old line row (Err faults.Syntax) typed read none = λ text more types spelled.
    let lines_are : map row_line (rows_of text) ≡ map row_line (old ++ row ∷ []) ++ more =
    sym (rows_text text) ∙ spelled ∙ ap (λ (x : List ℕ). map row_line old ++ x ∷ more) read.1 ∙ sym (append_assoc (map row_line old) (row_line row ∷ []) more)
    ∙ ap (λ (xs : List (List ℕ)). xs ++ more) (sym (map-append row_line old (row ∷ []))) in
    let go = rows_begin (rows_of text) (old ++ row ∷ []) more (rows_typed text types)
    (All-append HasRowTypes old (row ∷ []) typed (All-cons HasRowTypes row [] read.0 (All-nil HasRowTypes))) lines_are in
    none text go.0 (go.1 ∙ append_assoc old (row ∷ []) go.0)
text_takes old line row (Err faults.Memory) typed read none = tt

pub text_unread : (old : List Row) (line : List ℕ) (fault : TextFault) → All HasRowTypes old
    → Gives row_line HasRowTypes line (Err fault) → TakesText old line (Err fault)
text_unread old line faults.Syntax typed none = λ text more types spelled.
    let go = rows_begin (rows_of text) old (line ∷ more) (rows_typed text types) typed (sym (rows_text text) ∙ spelled) in
    first go.0 (All-back HasRowTypes old go.0 (subst (All HasRowTypes) go.1 (rows_typed text types))) more go.2
  where
    first : (behind : List Row) → All HasRowTypes behind → (more : List (List ℕ)) → line ∷ more ≡ map row_line behind → ⊥
    first [] fits more is = let e : line ∷ more ≡ [] = is in cc
    first (row ∷ behind) fits more is =
        let e : line ∷ more ≡ row_line row ∷ map row_line behind = is in
        let head : line ≡ row_line row = cc in
        none row (All-head HasRowTypes row behind fits) head
text_unread old line faults.Memory typed none = tt

-- what a line tells

pub told_append : (xs ys : List (List ℕ)) → told (xs ++ ys) ≡ told xs ++ told ys
told_append xs ys = ap (filter (λ line. not (is_quiet line))) (map-append without_return xs ys)
    ∙ filter-append (λ line. not (is_quiet line)) (map without_return xs) (map without_return ys)
