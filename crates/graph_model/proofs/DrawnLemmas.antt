-- Which commands are drawn.
use Rattle.std.proofs.Common.{◌≢◌, ℕ, ℤ, ◌+◌, ◌^◌, ◌<◌, ◌≤◌, pos, ◌-ℤ◌, unsigned_abs, FitsSigned, Bool, true, false, arith}
use Rattle.std.proofs.lemmas.Int.{ints, fits_signed_from_abs}
use Rattle.std.specs.Prelude.{ltb, ◌==◌, if◌then◌else◌}
use mir.Syntax.{w64}
use Rattle.graph_model.specs.Commands.{Command, HasTypes, SetLimits, Add, Dep, SetFee, Remove, Mine, Evict, Stage, Commit, Abort, Settle, Trim, Unmine, Dump, Compare, Order, Diagram, Proof, Cluster, Ancestors, Descendants, Chunk, Before, Block, Count}
use Rattle.graph_model.specs.Generators.{draw, drawn_near, drawn_fee, drawn_command}
use Rattle.graph_model.specs.SameLaws.{ReadsNoPick}

-- a command of a kind that is drawn, whose numbers are of their types
abbrev pub IsDrawn : Command → Type 0
IsDrawn (Add id fee size) = HasTypes (Add id fee size)
IsDrawn (Dep parent child) = HasTypes (Dep parent child)
IsDrawn (SetFee id fee) = HasTypes (SetFee id fee)
IsDrawn (Remove id) = HasTypes (Remove id)
IsDrawn Stage = Unit {0}
IsDrawn Commit = Unit {0}
IsDrawn Abort = Unit {0}
IsDrawn Compare = Unit {0}
IsDrawn command = ⊥

pub of_drawn : (P : Command → Type 0) → ((id : ℕ) (fee : ℤ) (size : ℕ) → HasTypes (Add id fee size) → P (Add id fee size))
    → ((parent child : ℕ) → HasTypes (Dep parent child) → P (Dep parent child)) → ((id : ℕ) (fee : ℤ) → HasTypes (SetFee id fee) → P (SetFee id fee))
    → ((id : ℕ) → HasTypes (Remove id) → P (Remove id)) → P Stage → P Commit → P Abort → P Compare → (command : Command) → IsDrawn command → P command
of_drawn P add dep fee remove stage commit abort compare (Add id f size) types = add id f size types
of_drawn P add dep fee remove stage commit abort compare (Dep parent child) types = dep parent child types
of_drawn P add dep fee remove stage commit abort compare (SetFee id f) types = fee id f types
of_drawn P add dep fee remove stage commit abort compare (Remove id) types = remove id types
of_drawn P add dep fee remove stage commit abort compare Stage types = stage
of_drawn P add dep fee remove stage commit abort compare Commit types = commit
of_drawn P add dep fee remove stage commit abort compare Abort types = abort
of_drawn P add dep fee remove stage commit abort compare Compare types = compare
of_drawn P add dep fee remove stage commit abort compare (SetLimits limits) none = absurd none
of_drawn P add dep fee remove stage commit abort compare (Mine ids) none = absurd none
of_drawn P add dep fee remove stage commit abort compare Evict none = absurd none
of_drawn P add dep fee remove stage commit abort compare Settle none = absurd none
of_drawn P add dep fee remove stage commit abort compare Trim none = absurd none
of_drawn P add dep fee remove stage commit abort compare Unmine none = absurd none
of_drawn P add dep fee remove stage commit abort compare Dump none = absurd none
of_drawn P add dep fee remove stage commit abort compare (Order level) none = absurd none
of_drawn P add dep fee remove stage commit abort compare (Diagram level) none = absurd none
of_drawn P add dep fee remove stage commit abort compare (Proof level) none = absurd none
of_drawn P add dep fee remove stage commit abort compare (Cluster id level) none = absurd none
of_drawn P add dep fee remove stage commit abort compare (Ancestors id level) none = absurd none
of_drawn P add dep fee remove stage commit abort compare (Descendants id level) none = absurd none
of_drawn P add dep fee remove stage commit abort compare (Chunk id) none = absurd none
of_drawn P add dep fee remove stage commit abort compare (Before a b) none = absurd none
of_drawn P add dep fee remove stage commit abort compare (Block size) none = absurd none
of_drawn P add dep fee remove stage commit abort compare (Count level) none = absurd none

pub drawn_types : (command : Command) → IsDrawn command → HasTypes command
drawn_types = of_drawn HasTypes (λ id fee size types. types) (λ parent child types. types) (λ id fee types. types) (λ id types. types) tt tt tt tt

pub drawn_reads : (command : Command) → IsDrawn command → ReadsNoPick command
drawn_reads = of_drawn ReadsNoPick (λ id fee size types. tt) (λ parent child types. tt) (λ id fee types. tt) (λ id types. tt) tt tt tt tt

pub drawn_no_evict : (command : Command) → IsDrawn command → command ≢ Evict
drawn_no_evict = of_drawn (λ c. c ≢ Evict) (λ id fee size types e. cc) (λ parent child types e. cc) (λ id fee types e. cc) (λ id types e. cc)
    (λ e. cc) (λ e. cc) (λ e. cc) (λ e. cc)

near_at_most : (x k : ℕ) → (drawn_near x k).0 ≤ k
near_at_most x k = omega arith

fee_in : (n : ℕ) → n < 10000 → unsigned_abs (pos n -ℤ pos 1000) < 2 ^ 63
fee_in n below = omega (arith, ints, below)

fee_fits : (x : ℕ) → FitsSigned w64 (drawn_fee x).0
fee_fits x = fits_signed_from_abs w64 (drawn_fee x).0 (fee_in (draw x 10000).0 (omega arith))

either : {A : Type 0} (P : A → Type 0) (b : Bool) (x y : A) → P x → P y → P (if b then x else y)
either P true x y first second = first
either P false x y first second = second

pub drawn : (k x : ℕ) → k < 2 ^ 64 → IsDrawn (drawn_command k x).0
drawn k x small =
    let kind = (draw x 20).0 in
    let s = (draw x 20).1 in
    let P : Command × ℕ → Type 0 = λ made. IsDrawn made.0 in
    either P (ltb kind 8) _ _ (small, fee_fits s, size (drawn_fee s).1)
    (either P (ltb kind 14) _ _ (below _ child (near_at_most (drawn_near s k).1 (drawn_near s k).0), below _ small (near_at_most s k))
    (either P (kind == 14) _ _ (below _ small (near_at_most s k), fee_fits (drawn_near s k).1)
    (either P (kind == 15) _ _ (below _ small (near_at_most s k))
    (either P (kind == 16) _ _ tt (either P (kind == 17) _ _ tt (either P (kind == 18) _ _ tt tt))))))
  where
    below : (n : ℕ) {m : ℕ} → m < 2 ^ 64 → n ≤ m → n < 2 ^ 64
    below n {m} few most = omega (arith, few, most)

    child : (drawn_near (draw x 20).1 k).0 < 2 ^ 64
    child = below _ small (near_at_most (draw x 20).1 k)

    size : (x : ℕ) → 100 + (draw x 900).0 < 2 ^ 64
    size x = omega arith
