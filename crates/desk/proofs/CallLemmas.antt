-- What calls answer, by the replies of the machine.
use Rattle.std.proofs.Common.{◌≡◌, ℕ, List, Ok, Err, refl, ap, inl, inr, ◌∙◌}
use Rattle.std.specs.Prelude.{◌⊎◌, IfOk}
use Rattle.std.specs.declared.result.Result.{Result}
use Rattle.graph_model.specs.declared.names.Refusal.{Refusal}
use Rattle.graph_model.specs.declared.names.Refusal.TheVariants.{Memory}
use Rattle.graph_model.specs.Commands.{Command}
use Rattle.graph_model.specs.Replies.{Reply, Refused, change_reply, names_reply}
use Rattle.reorg.specs.Kept.{MakesStep}
use Rattle.desk.specs.declared.desk.Desk.{Desk}
use Rattle.desk.specs.declared.desk.Held.{Held}
use Rattle.desk.specs.Calls.{Gathers, LacksRoom}
use Rattle.desk.specs.Numbers.{code_of, kept_of, picked_after}

-- a search picks nothing, and is told as a change is
pub names_picks : (old ids : List ℕ) (r : Result (Unit {0}) Refusal) → old ≡ picked_after old (names_reply r ids)
names_picks old ids (Ok done) = refl
names_picks old ids (Err why) = refl

pub names_code : (ids : List ℕ) (r : Result (Unit {0}) Refusal) → code_of (change_reply r) ≡ code_of (names_reply r ids)
names_code ids (Ok done) = refl
names_code ids (Err why) = refl

pub names_kept : (ids : List ℕ) (r : Result (Unit {0}) Refusal) → kept_of (change_reply r) ≡ kept_of (names_reply r ids)
names_kept ids (Ok done) = refl
names_kept ids (Err why) = refl

-- a reading of a level that is refused, by the machine or for want of memory
pub gathers_none : (desk : Desk) (command : Command) (code kept : ℕ) (why : Refusal) (Shows : Held → Held → Reply → Type 0)
    → Shows desk.held desk.held (Refused why) → code ≡ code_of (Refused why) → kept ≡ kept_of (Refused why)
    → (why ≡ Memory) ⊎ MakesStep desk.pool desk.pool command (Refused why)
    → LacksRoom desk desk code kept ⊎ Gathers desk desk command code kept Shows
gathers_none desk command code kept why Shows same told keeps h = elim h [
  | inl none ↦ inl (record {
    code_is = told ∙ ap (λ (w : Refusal). code_of (Refused w)) none;
    kept_is = keeps ∙ ap (λ (w : Refusal). kept_of (Refused w)) none;
    same = refl;
  })
  | inr step ↦ inr (record { reply = Refused why; step = step; code_is = told; kept_is = keeps; pool = refl; picked = refl; shows = same })
]

pub if_ok : {A E : Type 0} (r : Result A E) (P Q : A → Type 0) → ((x : A) → P x → Q x) → IfOk r P → IfOk r Q
if_ok (Ok x) P Q leads h = leads x h
if_ok (Err e) P Q leads h = tt
