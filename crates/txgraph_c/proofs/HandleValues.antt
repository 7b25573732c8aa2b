-- The machine values of a handle. Assumes `Logic`.
use Rattle.std.proofs.Common.{◌≡◌, List, [], ◌∷◌, ◌++◌, refl, sym, subst, lit<}
use mathlib.Core.Bool.{◌&&◌, true}
use lib.Dec.{T}
use seplogic.Ra.Ura.{Ura}
use mir.Val.{Val, vnull, vstruct, of_list, has_ty, WT}
use types.Logic.{Logic}
use types.Kit.{Item, Goal, Seq, Step, step, ‵, ◌$◌, move, drop, fsplit, fjoin, fpick, fpack, feq_i, feq_l}
use denote.RattleType.{RattleType, Valss}
use denote.RawPtr.{Ptr, ptr_val}
use denote.Steps.{nothing}
use denote.Param.{layout}
use denote.Struct.Struct.{within}
use denote.Struct.Owning.{shape, fields, to}
use mir.Syntax.{impl, tnil, dnil}
use Rattle.core.proofs.alloc.Calls.{Al, handle_tells}
use Rattle.core.proofs.cell.Inside.{Good}
use Rattle.std.specs.Prelude.{Option, None, Some, IsSome}
use Rattle.std_heap.specs.contracts.Global as Heap
use Rattle.std_heap.specs.contracts.GlobalAllocator.TheImpl.{ghosts, dict}
use Rattle.std_heap.proofs.Global.TheLaws as heap
use Rattle.std_alloc.proofs.ResultValues.{and_tt}
use Rattle.txgraph_c.proofs.Values.{both}
use Rattle.txgraph_c.specs.Handles.{handle_owns}
use Rattle.desk.specs.contracts.desk.Desk as Desk
use Rattle.txgraph_c.specs.contracts.handle.Handle as Handle

abbrev pub Z : RattleType
Z = Heap.the_row

abbrev pub al : Al
al = record { row = Z; laws = heap.the_row_laws; g = ghosts; d = dict; drops = impl [] tnil dnil }

-- the value of an option that has one
pub some_of : {X : Type 0} → (o : Option X) → IsSome o → (x : X) × (o ≡ Some x)
some_of (Some x) t = (x, refl)
some_of None t = absurd (subst T (sym t) tt)

pub null_good : (h : Val) → Good (layout Z) h → T (has_ty (layout Z) h && true) × WT (both vnull h)
null_good h fits = (and_tt (has_ty (layout Z) h) fits.0, (record { fits = lit< tt }, (fits.1, tt)))

module _ {M : Type 1} {𝓤 : Ura M} {𝓛 : Logic 𝓤} {K : Type 0} {Γ : List (Item 𝓤)} {G : Goal 𝓤 𝓛.H} where
  -- a handle by value is what it owns beside its allocator
  pub handle_out : K → (d : Handle.the_row.Denot) (vs : List Val)
      → ((h : Val) → vs ≡ both (ptr_val d.at) h ∷ [] → Good (layout Z) h → Seq K 𝓛 (‵ (handle_owns d.alloc d.at d.value) ∷ ‵ (Z.own_val d.alloc (h ∷ [])) ∷ Γ) G)
      → Seq K 𝓛 (‵ (Handle.the_row.own_val d vs) ∷ Γ) G
  handle_out t d vs k =
      fsplit t $ fpick t (λ vss. fsplit t $ feq_l t (λ ev. fsplit t $ feq_l t (λ ep. fsplit t $ handle_tells al t d.alloc vss.1.0 (λ h ea fits. move t (1 ∷ []) $ drop t $ move t (1 ∷ []) $ k h
      (subst (λ (ws : List Val). vs ≡ vstruct (of_list (ptr_val d.at ∷ (ws ++ []))) ∷ []) ea (subst (λ (ps : List Val). vs ≡ vstruct (of_list (ps ++ (vss.1.0 ++ []))) ∷ []) ep ev)) fits))))

  pub handle_in : K → (p : Ptr) (h : Val) (a : Z.Denot) (x : Option Desk.the_row.Denot)
      → Step K 𝓛 (‵ (Handle.the_row.own_val (record { at = p; alloc = a; value = x }) (both (ptr_val p) h ∷ [])) ∷ Γ) G (‵ (handle_owns a p x) ∷ ‵ (Z.own_val a (h ∷ [])) ∷ Γ) G
  handle_in t p h a x = step (λ s. let v : Val = both (ptr_val p) h in
      nothing t $ move t (2 ∷ 0 ∷ []) $ fjoin t $ feq_i t (List Val) (ptr_val p ∷ []) (ptr_val p ∷ []) refl $ fjoin t $ feq_i t (List Val) (v ∷ []) (v ∷ []) refl $ fjoin t $
      fpack t (Valss (fields Handle.the_type)) (within (shape Handle.the_type) (to Handle.the_type (record { at = p; alloc = a; value = x })) (v ∷ [])) (ptr_val p ∷ [], (h ∷ [], tt)) $ fjoin t $ s)
