-- `into_raw` gives the address its type again, and the box to its new owner.
use Rattle.std.proofs.Common.{◌≡◌, List, [], ◌∷◌, ◌++◌, refl, sym, subst}
use mir.Syntax.{impl, tnil, dnil}
use mir.Val.{Val, vptr}
use base.Logic.{SProp, ent, emp, id⊢}
use base.Fml.{ftrue}
use prog.Wp.{WpFn}
use types.Kit.{‵, raw, ◌⊛◌, ◌$◌, ◌∵◌, !, qed, by, move, keep, split, fsplit, fjoin, suffices, use0}
use types.Run.{stop, fld, of_opd, no_more, and_then, returns, enter}
use types.ByLocal.{alloc_all, pass_all, free_all, look_at, get, get_in, sets}
use types.Part.{agg, sub, whole}
use contract.Monad.{fact, fact_i}
use contract.Running.{tables}
use denote.Exit.{yes}
use denote.RattleType.{owns}
use denote.Signature.{types_at, plain}
use denote.RawPtr.{block_ptr}
use denote.Steps.{nothing, heard}
use denote.Triple.Walked.{Stays, stay_dropped, walk_of}
use Rattle.core.proofs.alloc.Calls.{Goes-blank, handle_tells}
use Rattle.std.proofs.raw_atomic.Walks.{proved_at, leaves}
use Rattle.std.proofs.alloc.Global.TheLaws.{the_row_laws as LZ}
use Rattle.std.specs.contracts.alloc.Global.{the_row as Z}
use Rattle.std.specs.declared.option.Option.TheVariants.{Some}
use Rattle.std.specs.Prelude.{IsSome}
use Rattle.std.specs.contracts.impls.GlobalAllocator.TheImpl.{ghosts}
use Rattle.q_ports.specs.contracts.Outlet.{the_row as R}
use Rattle.qtree_c.proofs.abi.HeldSteps.{single, found, held_out}
use Rattle.qtree_c.proofs.abi.RawBoxValues.{both, raw_box_good, raw_box_in}
use Rattle.qtree_c.specs.contracts.abi.held_outlet.HeldOutlet.{the_row as HeldOutlet}
use Rattle.qtree_c.specs.contracts.abi.held_outlet.HeldOutlet.into_raw.{ended, clauses}
use Rattle.qtree_c.specs.contracts.abi.held_outlet.HeldOutlet.into_raw.Key.{name as #self}
use Rattle.qtree_c.proofs.abi.held_outlet.HeldOutlet.into_raw.Statement.{statement}
use Rattle.qtree_c.proofs.abi.held_outlet.HeldOutlet.into_raw.Code as code

pub into_raw_spec : {M : Type 1} → statement M
into_raw_spec 𝓤 𝓛 𝓜 𝓡 wired =
    let H = 𝓛.H in let 𝓣 = tables 𝓤 H 𝓜 𝓡 𝓡.env in let c = clauses 𝓛 𝓜.mem 𝓡.returns in
    let hs : Stays ended.signature.params ended.kept = (stay_dropped (plain (λ _. HeldOutlet)) yes, (stay_dropped (plain (λ _. Z)) yes, tt)) in
    proved_at 𝓛 ended hs c 𝓜 𝓡 (
      Goes-blank 𝓛 0 (plain (λ _. HeldOutlet)) yes (λ κs x f. tt),
      (Goes-blank 𝓛 0 (plain (λ _. Z)) yes (λ κs x f. tt), tt),
    ) #self code.function (code.unfolded 𝓤 H 𝓜 𝓡 wired) (λ z are.
    let d = z.0.3.0 in let a = z.0.3.1.0 in let Post : Val → SProp 𝓤 = (walk_of 𝓛 ended hs c).post z in let Run : List Val → SProp 𝓤 = λ ws. WpFn 𝓤 H 𝓣.C 𝓣.Λ code.function ws Post in
    qed 𝓛 ((‵ ftrue ⊛ ‵ (owns (types_at ended.signature.params z.0.0) z.0.3 z.0.4)) ∷ raw (fact 𝓤 (IsSome d.outlet)) ∷ []) ∵ move ! (1 ∷ []) $ heard
    ! (IsSome d.outlet) (λ some. let x = (found d.outlet some).item in let full = (found d.outlet some).is in split ! $ move ! (1 ∷ []) $ fsplit
    ! $
    held_out R ! d.at d.outlet x z.0.4.0 full
    (λ b o e ws. move ! (1 ∷ []) $ fsplit ! $ handle_tells
    (record { row = Z; laws = LZ; g = ghosts; d = impl [] tnil dnil; drops = impl [] tnil dnil }) ! a z.0.4.1.0 (λ h ea fits.
    let v : Val = single (vptr b o) in let w : Val = both (vptr b o) h in
    suffices ! (Run (v ∷ h ∷ [])) (subst (λ (us : List Val). ent 𝓤 (Run (v ∷ h ∷ [])) (Run us)) (sym (λ i. ws i ++ (ea i ++ []))) (id⊢ 𝓤 (Run (v ∷ h ∷ [])))) $
    enter ! 𝓣.C 𝓣.Λ code.function (v ∷ h ∷ []) Post $ alloc_all ! (λ l. pass_all ! refl ((tt, (tt, tt)), (fits, tt)) $
    sets ! (of_opd ! (get_in ! (fld ! refl (stop !)) (sub ! 0 refl (whole !)))) refl (tt, tt) $
    sets ! (of_opd ! (get ! refl)) refl (tt, tt) $
    sets ! (agg ! (and_then ! (get ! refl) (and_then ! (get ! refl) (no_more !)))) refl (raw_box_good R Z LZ ghosts b o h fits) $
    move ! (2 ∷ 0 ∷ []) $ raw_box_in R Z LZ ghosts ! b o h a x $
    use0 𝓛 (raw (fact 𝓤 (d.outlet ≡ Some x))) (fact_i 𝓤 (d.outlet ≡ Some x) (emp 𝓤) full) $ nothing ! $ nothing ! $ fjoin ! $ nothing ! $ fjoin ! $
    returns ! (look_at ! 0 refl) $ free_all ! refl $ nothing ! $ keep ! (0 ∷ 1 ∷ 3 ∷ 2 ∷ []) $ by !
    (leaves 𝓛 ended hs c z w (record { at = block_ptr b o; alloc = a; value = x }) (tt, (tt, tt)) (tt, (tt, tt))))))))
