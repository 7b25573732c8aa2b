-- What is known of a shelf when a call of it ends: its maps of numbers, its store, and that it is in order.
use Rattle.std.proofs.Common.{◌≡◌, ℕ, ◌*◌, Bool, false, List, Contains, Option, Some, None, is_some, IsSome, refl, sym, ap, ap₂, ◌∙◌, true≢false}
use Rattle.std.specs.Prelude.{OnSome, unwrap_or}
use Rattle.cluster.specs.Clusters.{Cluster}
use Rattle.cluster_store.specs.Stores.{Store, IsStore}
use Rattle.staging.specs.Maps.{Maps, top_of}
use Rattle.graph_model.specs.declared.names.Limits.{Limits}
use Rattle.record.specs.Records.{IsFitted}
use Rattle.levels.specs.Shelves.{Shelf, IsInOrder}
use Rattle.levels.specs.Tops.{Exchanged, TopRebuilds}
use Rattle.levels.specs.Views.{Numbers}
use Rattle.levels.proofs.Making.{Shifts}
use Rattle.levels.proofs.Pointing.{on_some}
use Rattle.levels.proofs.Shelved.{order_changed}

abbrev pub shelf_of : Limits → Maps ℕ → Store → Shelf
shelf_of limits numbers store = record { limits = limits; main = numbers.base; staging = numbers.top; store = store }

-- ---- the top level of two maps changes

-- a staging stays one, and where there is one the base stays as it is
pub record Turns (old new : Maps ℕ) : Type 0 where
  pub kept : is_some new.top ≡ is_some old.top
  pub base : IsSome old.top → new.base ≡ old.base

pub turns_same : (old new : Maps ℕ) → new.base ≡ old.base → new.top ≡ old.top → Turns old new
turns_same old new base top = record { kept = ap is_some top; base = λ some. base }

pub turns_by : (old new : Maps ℕ) → is_some new.top ≡ is_some old.top → OnSome old.top (new.base ≡ old.base) → Turns old new
turns_by old new kept base = record { kept = kept; base = on_some old.top base }

pub turns_then : (a b d : Maps ℕ) → Turns a b → Turns b d → Turns a d
turns_then a b d one two = record { kept = two.kept ∙ one.kept; base = λ some. two.base (one.kept ∙ some) ∙ one.base some }

pub same_top : (old new : Maps ℕ) → new.base ≡ old.base → new.top ≡ old.top → top_of new ≡ top_of old
same_top old new base top = ap₂ (λ (o : Option Numbers) (m : Numbers). unwrap_or o m) top base

-- what holds where nothing is staged
pub none_staged : (o : Option Numbers) (staged : Bool) → staged ≡ is_some o → staged ≡ false → o ≡ None
none_staged None staged is shut = refl
none_staged (Some m) staged is shut = absurd (true≢false (sym is ∙ shut))

-- ---- the shelf

pub shifted : (limits : Limits) (staged : Bool) (outs made : List ℕ) (news : List Cluster) (a b : Maps ℕ) (s t : Store) → Turns a b → staged ≡ is_some a.top
    → Exchanged staged outs made news s.clusters t.clusters → Shifts staged outs made news (shelf_of limits a s) (shelf_of limits b t)
shifted limits staged outs made news a b s t turns is exchanged =
    record { exchanged = exchanged; is_staged = is; kept = turns.kept; limits = refl; base = turns.base }

-- what was rebuilt is in order
pub order_shifted : (w : ℕ) (staged : Bool) (outs made : List ℕ) (olds news : List Cluster) (gone : List ℕ) (old new : Shelf) → IsInOrder w old
    → Shifts staged outs made news old new → TopRebuilds w outs made olds news gone old new
    → ((c : Cluster) → Contains news c → IsFitted (64 * w) old.limits c) → IsStore (64 * w) new.store → IsInOrder w new
order_shifted w staged outs made olds news gone old new order s r fitted store =
    order_changed w outs made olds news gone old new order r fitted
    (λ none. s.exchanged.both (s.is_staged ∙ sym s.kept ∙ ap is_some none)) store
