-- `lend` gives the address its type, and the port to who borrows it, until the borrow ends.
use Rattle.std.proofs.Common.{◌≡◌, ℕ, List, [], ◌∷◌, refl, sym}
use seplogic.Ra.Ura.{Ura}
use base.Fraction.{full_share}
use mir.Syntax.{named}
use mir.Raw.{raw as bare}
use mir.Val.{Val, vptr}
use base.Logic.{SProp, ent, sep, id⊢}
use base.Fml.{GName, Fml, ftrue, fsep, flft}
use types.Logic.{Logic, sem}
use types.Kit.{‵, raw, ◌⊛◌, some, later, at_ret, ◌$◌, ◌∵◌, !, qed, move, keep, drop, split, fsplit, fsplit3, fjoin, join, frame, suffices, use1, await, pick, group, fpack, rewrite, done}
use types.Part.{whole, sub, look_in}
use types.Run.{stop, fld, load, of_opd, first, blocks, exec, returns, enter, addr}
use types.ByLocal.{alloc_all, pass_all, free_all, look_at, get, through, sets, env, sets_last}
use contract.Monad.{fact}
use contract.Running.{tables}
use denote.Exit.{no}
use denote.RattleType.{owns}
use denote.Memory.{part_at, mem, cell_at, part_of, lone}
use denote.RawPtr.{Ptr, block_ptr}
use denote.Ref.{MutRef, mut_vals, mut_Tells}
use denote.Signature.{plain, mut_ref_to}
use denote.Steps.{nothing, heard, opens}
use denote.Follow.{follows, Part, lends_Part}
use denote.Triple.Walked.{says, Stays, stay_dropped, walk_of, ends_at, Goes-spent_ref}
use Rattle.std.proofs.raw_atomic.Walks.{proved}
use Rattle.std.specs.declared.option.Option.TheVariants.{Some}
use Rattle.std.specs.Prelude.{IsSome}
use Rattle.std_alloc.proofs.VecSteps.Shapes.{after}
use Rattle.q_ports.specs.contracts.Port.{the_row as R}
use Rattle.qtree_c.specs.abi.Holding.{token}
use Rattle.qtree_c.specs.abi.Lending.{with_port}
use Rattle.qtree_c.proofs.abi.HeldSteps.{single, found, held_in, held_out, owns_held}
use Rattle.qtree_c.specs.declared.abi.held_port.HeldPort.{HeldPort as Held}
use Rattle.qtree_c.specs.contracts.abi.held_port.HeldPort.{the_row as H'}
use Rattle.qtree_c.specs.contracts.abi.held_port.HeldPort.lend.{ended, clauses}
use Rattle.qtree_c.specs.contracts.abi.held_port.HeldPort.lend.Key.{name as #self}
use Rattle.qtree_c.proofs.abi.held_port.HeldPort.lend.Statement.{statement}
use Rattle.qtree_c.proofs.abi.held_port.HeldPort.lend.Code as code

-- all of the place but the port
abbrev Rest : (rb ro b o : ℕ) → Fml
Rest rb ro b o = fsep (token (bare (lone R.mir)) (block_ptr b o)) (cell_at full_share H'.mir (single (vptr b o) ∷ []) rb ro)

back : {M : Type 1} {𝓤 : Ura M} (𝓛 : Logic 𝓤) (rb ro b o : ℕ) (h : Held) → h.at ≡ block_ptr b o → (w : R.Denot)
    → ent 𝓤 (sep 𝓤 (sem 𝓛 ((mem R).own_at w b o)) (sem 𝓛 (Rest rb ro b o))) (sem 𝓛 ((mem H').own_at (with_port h w) rb ro))
unfolding part_of
back 𝓛 rb ro b o h at_b w =
    qed 𝓛 (‵ (part_at R full_share w b o) ∷ ‵ (Rest rb ro b o) ∷ []) ∵ move ! (1 ∷ []) $ fsplit ! $ move ! (2 ∷ 0 ∷ []) $ fjoin ! $
    held_in R ! b o w $ rewrite ! 0 (λ (p : Ptr). ‵ (owns_held R p (Some w) (single (vptr b o) ∷ []))) (sym at_b) refl $ move ! (1 ∷ 0 ∷ []) $ fjoin ! $
    fpack ! (List Val) (λ us. fsep (cell_at full_share H'.mir us rb ro) (H'.own_val (with_port h w) us)) (single (vptr b o) ∷ []) $ done !

pub lend_spec : {M : Type 1} → statement M
lend_spec 𝓤 𝓛 𝓜 𝓡 wired =
    let 𝓣 = tables 𝓤 𝓛.H 𝓜 𝓡 𝓡.env in let c = clauses 𝓛 𝓜.mem 𝓡.returns in
    let hs : Stays ended.signature.params ended.kept = (stay_dropped (mut_ref_to (0 ∷ []) tt (plain (λ _. H'))) no, tt) in
    proved 𝓛 ended hs c 𝓜 𝓡 (Goes-spent_ref 𝓛 1 (0 ∷ []) tt (plain (λ _. H')), tt) #self code.function (code.unfolded 𝓤 𝓛.H 𝓜 𝓡 wired)
    (λ κs. (mut_vals, tt)) (λ κs. (mut_Tells (named 0) κs.0 H', tt)) (λ κs qs bounds a g are.
    let κ = κs.0 in let q = qs.0 in let rb = a.0.ref_ptr.0 in let ro = a.0.ref_ptr.1 in let γ = a.0.ghost_name in let h = a.0.now in
    let y : (walk_of 𝓛 ended hs c).Ghost = ((κs, qs, bounds, a, (vptr rb ro ∷ [], tt)), g) in let Post : Val → SProp 𝓤 = (walk_of 𝓛 ended hs c).post y in
    qed 𝓛 (((‵ (flft κ q) ⊛ ‵ ftrue) ⊛ ‵ (owns (MutRef (named 0) κ H' ∷ []) a (vptr rb ro ∷ [], tt))) ∷ raw (fact 𝓤 (IsSome h.port)) ∷ []) ∵
    move ! (1 ∷ []) $ heard ! (IsSome h.port) (λ is_some. let x = (found h.port is_some).item in let full = (found h.port is_some).is in split ! $
    enter ! 𝓣.C 𝓣.Λ code.function (vptr rb ro ∷ []) Post $ alloc_all ! (λ l. pass_all ! refl ((tt, tt), tt) $
    move ! (1 ∷ []) $ fsplit ! $ fsplit3 ! $ drop ! $ move ! (3 ∷ []) $ split ! $ move ! (2 ∷ 3 ∷ 0 ∷ []) $
    opens ! tt H' {h = h} rb ro (λ vs. move ! (1 ∷ []) $ held_out R ! h.at h.port x vs full (λ b o at_b ws. fsplit ! $
    rewrite ! 2 (λ (us : List Val). ‵ (cell_at full_share H'.mir us rb ro)) ws refl $
    sets ! (of_opd ! (load ! (through ! refl (fld ! refl (stop !))) (look_in ! 2 (sub ! 0 refl (whole !))))) refl (tt, tt) $
    sets ! (of_opd ! (get ! refl)) refl (tt, tt) $
    first ! $ blocks ! $
    sets_last ! (addr ! (through ! refl (stop !))) refl (tt, tt) $
    exec ! 𝓣.C 𝓣.Λ (env code.function.locals l) (after 3 code.function.body) (at_ret (env code.function.locals l) Post) $
    sets ! (of_opd ! (get ! refl)) refl (tt, tt) $
    move ! (1 ∷ 2 ∷ []) $ fjoin ! $ move ! (2 ∷ 3 ∷ 4 ∷ 1 ∷ 0 ∷ []) $ group ! 5 $
    use1 𝓛 (later (some (λ (γ' : GName). raw (Part 𝓛 H' R (with_port h) (named 0) κ q rb ro b o γ (sem 𝓛 (Rest rb ro b o)) (back 𝓛 rb ro b o h at_b) x γ'))))
    (lends_Part 𝓛 H' R (with_port h) (named 0) κ q rb ro b o γ (sem 𝓛 (Rest rb ro b o)) (back 𝓛 rb ro b o h at_b) (H'.coded.code h) (H'.coded.code h) x) $ await ! tt $ pick ! (λ γ'.
    returns ! (look_at ! 0 refl) $ free_all ! refl $ keep ! (0 ∷ []) $
    use1 𝓛 (‵ ((MutRef (named 0) κ R).own_val (record { ref_ptr = (b, o); ghost_name = γ'; now = x }) (vptr b o ∷ [])) ⊛
    (‵ (flft κ q) ⊛ ‵ (follows H' R γ γ' (with_port h)))) (id⊢ 𝓤 _) $ split ! $ move ! (1 ∷ []) $ split ! $ move ! (2 ∷ 0 ∷ []) $
    suffices ! _ (ends_at 𝓛 ended hs c y (vptr b o) (record { ref_ptr = (b, o); ghost_name = γ'; now = x }) (tt, tt) (tt, tt)) $
    nothing ! $ nothing ! $ fjoin ! $ join ! $ nothing ! $ move ! (2 ∷ 0 ∷ []) $ join ! $ join ! $ frame ! $ says ! full $ done !))))))
