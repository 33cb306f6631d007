-- `get` borrows the handle's target for any lifetime, since the handle holds a `&'static` to it.
use mathlib.Core.Path.{◌≡◌, refl, sym, subst}
use mathlib.Core.List.{List, [], ◌∷◌, ◌++◌}
use seplogic.Ra.Ura.{Ura}
use mir.Syntax.{named}
use mir.Val.{Val, vptr, vstruct, of_list}
use base.Logic.{SProp, ent, emp, fst∗, never}
use base.Fml.{Lft, ftrue, fsep}
use prog.Memory.{Memory}
use prog.Routine.{Routine}
use prog.Wp.{Env, WpFn, Tables}
use types.Logic.{Logic, sem}
use contract.Monad.{Fun}
use contract.BorrowLft.{⊑_static}
use contract.Running.{tables, tables_of}
use sound.WpLaws.{WpFn-mono}
use types.Kit.{Item, ‵, raw, at_ret, ◌⊛◌, ◌$◌, ◌∵◌, !, qed, by, move, keep, drop, use1, split, fsplit, fpick, feq_l, feq_i}
use types.Kit.{fjoin, suffices, frame, done}
use types.Part.{whole, sub}
use types.Run.{stop, fld, of_opd, addr, first, blocks, exec, returns, enter}
use types.ByLocal.{alloc_all, pass_all, free_all, look_at, get, get_in, through, sets, sets_last, env}
use denote.RattleType.{RattleType}
use denote.Memory.{shared_of}
use denote.RawPtr.{Ptr, ptr_val, in_a_block}
use denote.Ref.{Bor, ShrRef}
use denote.Exit.{yes}
use denote.Opens.{hide}
use denote.SharingLaws.{shortens}
use denote.Signature.{Slot, plain}
use denote.Steps.{nothing}
use denote.Triple.Entry.{alive}
use denote.Triple.Spec.{triple_of}
use denote.Triple.Table.{entered}
use denote.Triple.Walked.{says, Stays, stay_dropped, walk_of, ends_at, Goes-dropped, walk_Meets}
use Rattle.core.specs.Ptr.{static_ref_at}
use Rattle.std_alloc.proofs.VecSteps.Shapes.{after}
use Rattle.waywire_c.specs.contracts.held.HeldTables as Held
use Rattle.waywire_c.proofs.held.HeldTables.TheLaws as held
use Rattle.waywire_c.specs.contracts.tables_handle.TablesHandle as Handle
use Rattle.waywire_c.specs.contracts.tables_handle.TablesHandle.get as F
use Rattle.waywire_c.specs.contracts.tables_handle.TablesHandle.get.Key.{name as #self}
use Rattle.waywire_c.proofs.tables_handle.TablesHandle.get.Statement as stated
use Rattle.waywire_c.proofs.tables_handle.TablesHandle.get.Code as code

abbrev R : RattleType
R = Held.the_row

abbrev From : Slot 1
From = plain (λ _. Handle.the_row)

abbrev stayed : Stays (F.ended).signature.params (F.ended).kept
stayed = (stay_dropped From yes, tt)

module _ {M : Type 1} {𝓤 : Ura M} (𝓛 : Logic 𝓤) (at_mem : Memory → SProp 𝓤) (run : Routine → Fun 𝓤)
    (𝓣 : Tables 𝓤 𝓛.H) where
  open 𝓛 use {H}

  walk : (z : (walk_of 𝓛 F.ended stayed (F.clauses 𝓛 at_mem run)).Ghost)
      → ent 𝓤 ((walk_of 𝓛 F.ended stayed (F.clauses 𝓛 at_mem run)).pre z)
      (WpFn 𝓤 H 𝓣.C 𝓣.Λ code.function (z.0.4.0 ++ []) ((walk_of 𝓛 F.ended stayed (F.clauses 𝓛 at_mem run)).post z))
  walk z =
      let Post = (walk_of 𝓛 F.ended stayed (F.clauses 𝓛 at_mem run)).post z in
      let h = z.0.3.0 in
      let κ : Lft = z.0.0.0 in
      let toks : SProp 𝓤 = alive 𝓛 F.signature z.0.0 z.0.1 in
      let Lent : RattleType = ShrRef (named 0) κ R in
      qed 𝓛 ((raw toks ⊛ ‵ (fsep ((Handle.the_row).own_val h z.0.4.0) ftrue)) ∷ raw (emp 𝓤) ∷ []) ∵
      split ! $ move ! (1 ∷ []) $ fsplit ! $ fsplit ! $ fpick ! (λ vss. fsplit ! $ feq_l ! (λ ev. fsplit ! $ feq_l ! (λ ep.
      drop ! $ in_a_block ! h.ptr (λ (p : Ptr). static_ref_at R p h.held)
      (fst∗ 𝓤 (never 𝓤) (sem 𝓛 (shared_of R h.held 0 0 []))) (λ b o at_b.
      fsplit ! $ drop ! $ use1 𝓛 (‵ (shared_of R h.held b o κ))
      (shortens 𝓛 (shared_of R h.held b o) (held.the_row_laws.shr_laws h.held b o) [] κ (⊑_static κ)) $ hide ! $
      feq_i ! (List Val) (vptr b o ∷ []) (vptr b o ∷ []) refl $ fjoin ! $ keep ! (0 ∷ 2 ∷ []) $
      let r : Bor R.Denot = record { ref_ptr = (b, o); now = h.held } in
      let w : Val = vstruct (of_list (vptr b o ∷ [])) in
      let ws : z.0.4.0 ≡ w ∷ [] =
      subst (λ (p : Ptr). z.0.4.0 ≡ vstruct (of_list (ptr_val p ∷ [])) ∷ []) at_b
      (subst (λ (ps : List Val). z.0.4.0 ≡ vstruct (of_list (ps ++ [])) ∷ []) ep ev) in
      let Γ : List (Item 𝓤) = ‵ (Lent.own_val r (vptr b o ∷ [])) ∷ raw toks ∷ [] in
      by ! (subst (λ (us : List Val). ent 𝓤 (types.Kit.⋆ 𝓛 Γ) (WpFn 𝓤 H 𝓣.C 𝓣.Λ code.function (us ++ []) Post)) (sym ws)
      (qed 𝓛 Γ ∵ enter ! 𝓣.C 𝓣.Λ code.function (w ∷ []) _ $ alloc_all !
      (λ l. pass_all ! refl ((tt, (tt, tt)), tt) $
      let En : Env 𝓤 H = env code.function.locals l in
      sets ! (of_opd ! (get_in ! (fld ! refl (stop !)) (sub ! 0 refl (whole !)))) refl (tt, tt) $
      first ! $ blocks ! $ sets ! (of_opd ! (get ! refl)) refl (tt, tt) $
      sets_last ! (addr ! (through ! refl (stop !))) refl (tt, tt) $
      exec ! 𝓣.C 𝓣.Λ En (after 2 code.function.body) (at_ret En Post) $
      sets ! (of_opd ! (get ! refl)) refl (tt, tt) $
      returns ! (look_at ! 0 refl) $ free_all ! refl $
      suffices ! _ (ends_at 𝓛 F.ended stayed (F.clauses 𝓛 at_mem run) z (vptr b o) r (tt, tt) (tt, tt)) $
      says ! refl $ move ! (1 ∷ []) $ frame ! $ nothing ! $ nothing ! $ fjoin ! $ done !)))))))

pub get_spec : {M : Type 1} → stated.statement M
unfolding tables_of
get_spec 𝓤 𝓛 𝓜 𝓡 wired =
    let 𝓣 : Tables 𝓤 𝓛.H = tables_of 𝓤 𝓛.H 𝓜 (tables 𝓤 𝓛.H 𝓜 𝓡 𝓡.env) in
    entered 𝓤 𝓛.H (triple_of 𝓛 F.signature (F.spec 𝓛 𝓜.mem 𝓡.returns)) 𝓣.C 𝓣.Λ #self code.function
    (code.unfolded 𝓤 𝓛.H 𝓜 𝓡 wired)
    (walk_Meets 𝓛 F.ended stayed (Goes-dropped 𝓛 1 From yes (λ κs x f. refl), tt) (F.clauses 𝓛 𝓜.mem 𝓡.returns)
    (WpFn 𝓤 𝓛.H 𝓣.C 𝓣.Λ code.function) (WpFn-mono 𝓤 𝓛.H 𝓛.laws 𝓣 code.function)
    (walk 𝓛 𝓜.mem 𝓡.returns 𝓣))
