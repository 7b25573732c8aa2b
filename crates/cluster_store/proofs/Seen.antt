-- What is seen of each level when one number changes.
use Rattle.std.proofs.Common.{◌≡◌, ℕ, Bool, true, false, cond, Option, Some, None, IsSome, inl, inr, refl, sym, ap, ◌∙◌, true≢false}
use Rattle.std.specs.Prelude.{option_map}
use Rattle.std.proofs.lemmas.Bool.{cases_eq}
use Rattle.std.proofs.lemmas.Option.{none-some, same_Some}
use Rattle.std.specs.FinMap as finmap
use Rattle.graphs.specs.declared.names.Level.{Level}
use Rattle.graphs.specs.declared.names.Level.TheVariants.{Main, Top}
use Rattle.chunk_index.specs.declared.entry.Tag.{Tag}
use Rattle.chunk_index.specs.declared.entry.Tag.TheVariants.{Both, MainOnly, TopOnly}
use Rattle.chunk_index.specs.Items.{is_in}
use Rattle.cluster.specs.Clusters.{Cluster}
use Rattle.cluster_store.specs.Stores.{Stored, Numbered}
use Rattle.cluster_store.specs.Changes.{Sets, moved_to}
use Rattle.cluster_store.specs.Tops.{AllHave, StandsInTop, left_of, seen_in, seen_at, tag_at, top_tag}

-- what stands in the top level is stored, with its cluster and a tag of the top level
pub record InTop (clusters : Numbered) (number : ℕ) : Type 0 where
  pub stored : Stored
  pub is : finmap.get clusters number ≡ Some stored
  pub top : is_in Top stored.tag ≡ true

in_top_of : (o : Option Stored) → IsSome (seen_in Top o) → (s : Stored) × (o ≡ Some s) × (is_in Top s.tag ≡ true)
in_top_of None some = absurd (true≢false (sym some))
in_top_of (Some s) some = (s, refl, is_true (is_in Top s.tag) some)
  where
    is_true : (b : Bool) → IsSome (cond b (Some s.cluster) None) → b ≡ true
    is_true true e = refl
    is_true false e = absurd (true≢false (sym e))

pub in_top : (clusters : Numbered) (number : ℕ) → StandsInTop clusters number → InTop clusters number
in_top clusters number stands = let at = in_top_of (finmap.get clusters number) stands in record { stored = at.0; is = at.1; top = at.2 }

pub seen_stored : (level : Level) (clusters : Numbered) (number : ℕ) (s : Stored) → finmap.get clusters number ≡ Some s → is_in level s.tag ≡ true
    → seen_at level clusters number ≡ Some s.cluster
seen_stored level clusters number s is there = ap (seen_in level) is ∙ ap (λ b. cond b (Some s.cluster) None) there

pub free_unseen : (level : Level) (clusters : Numbered) (number : ℕ) → finmap.get clusters number ≡ None → seen_at level clusters number ≡ None
free_unseen level clusters number free = ap (seen_in level) free

-- what is seen in a level is stored there
pub seen_is : (level : Level) (o : Option Stored) (c : Cluster) → seen_in level o ≡ Some c → (s : Stored) × (o ≡ Some s) × (s.cluster ≡ c)
seen_is level None c is = absurd (none-some c is)
seen_is level (Some s) c is = from (is_in level s.tag) is
  where
    from : (b : Bool) → cond b (Some s.cluster) None ≡ Some c → (t : Stored) × (Some s ≡ Some t) × (t.cluster ≡ c)
    from true e = (s, refl, same_Some s.cluster c e)
    from false e = absurd (none-some c e)

pub same_seen : (level : Level) (old new : Numbered) (number : ℕ)
    → finmap.get new number ≡ finmap.get old number → seen_at level new number ≡ seen_at level old number
same_seen level old new number same = ap (seen_in level) same

-- ---- the tag of what is new in the top level

pub in_new_tag : (staged : Bool) → is_in Top (top_tag staged) ≡ true
in_new_tag true = refl
in_new_tag false = refl

pub main_of_new : (staged : Bool) (c : Cluster) → staged ≡ true → seen_in Main (Some (record { cluster = c; tag = top_tag staged })) ≡ None
main_of_new true c opened = refl
main_of_new false c opened = absurd (true≢false (sym opened))

pub both_of_new : (staged : Bool) → staged ≡ false → top_tag staged ≡ Both
both_of_new true shut = absurd (true≢false shut)
both_of_new false shut = refl

-- ---- a cluster leaves the top level

left_top : (staged : Bool) (c : Cluster) (t : Tag) → is_in Top t ≡ true
    → seen_in Top (moved_to (left_of staged t) (Some (record { cluster = c; tag = t }))) ≡ None
left_top true c Both top = refl
left_top false c Both top = refl
left_top staged c MainOnly top = absurd (true≢false (sym top))
left_top staged c TopOnly top = refl

left_main : (c : Cluster) (t : Tag) → is_in Top t ≡ true
    → seen_in Main (moved_to (left_of true t) (Some (record { cluster = c; tag = t }))) ≡ seen_in Main (Some (record { cluster = c; tag = t }))
left_main c Both top = refl
left_main c MainOnly top = absurd (true≢false (sym top))
left_main c TopOnly top = refl

left_both : (c : Cluster) (t : Tag) → t ≡ Both → moved_to (left_of false t) (Some (record { cluster = c; tag = t })) ≡ None
left_both c t both = ap (λ tag. moved_to (left_of false tag) (Some (record { cluster = c; tag = tag }))) both

module _ (staged : Bool) (old new : Numbered) (number : ℕ) (tag : Tag) (there : InTop old number) (is : tag_at old number ≡ Some tag)
    (sets : Sets number (moved_to (left_of staged tag) (finmap.get old number)) old new) where
  tag_is : tag ≡ there.stored.tag
  tag_is = same_Some tag there.stored.tag (sym is ∙ ap (option_map (λ (s : Stored). s.tag)) there.is)

  left : finmap.get new number ≡ moved_to (left_of staged there.stored.tag) (Some there.stored)
  left = sets.changed ∙ ap (λ t. moved_to (left_of staged t) (finmap.get old number)) tag_is ∙ ap (moved_to (left_of staged there.stored.tag)) there.is

  pub leave_top : seen_at Top new number ≡ None
  leave_top = ap (seen_in Top) left ∙ left_top staged there.stored.cluster there.stored.tag there.top

  pub leave_main : staged ≡ true → (n : ℕ) → seen_at Main new n ≡ seen_at Main old n
  leave_main opened n = elim (cases_eq n number) [
    | inl same ↦
        ap (seen_at Main new) same ∙ ap (seen_in Main) left
        ∙ ap (λ b. seen_in Main (moved_to (left_of b there.stored.tag) (Some there.stored))) opened
        ∙ left_main there.stored.cluster there.stored.tag there.top ∙ ap (seen_in Main) (sym there.is) ∙ ap (seen_at Main old) (sym same)
    | inr other ↦ same_seen Main old new n (sets.others n other)
  ]

  pub leave_both : staged ≡ false → AllHave Both old → AllHave Both new
  leave_both shut both n s at = elim (cases_eq n number) [
    | inl same ↦ absurd (none-some s (sym (ap (finmap.get new) same ∙ left
        ∙ ap (λ b. moved_to (left_of b there.stored.tag) (Some there.stored)) shut
        ∙ left_both there.stored.cluster there.stored.tag (both number there.stored there.is)) ∙ at))
    | inr other ↦ both n s (sym (sets.others n other) ∙ at)
  ]
