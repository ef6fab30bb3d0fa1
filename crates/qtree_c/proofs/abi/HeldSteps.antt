-- The machine value of a struct that holds the address of a boxed value, and what it owns. Assumes `Logic`.
use Rattle.std.proofs.Common.{◌≡◌, ℕ, List, [], ◌∷◌, ◌++◌, refl, sym, subst, true≢false}
use seplogic.Ra.Ura.{Ura}
use mir.Raw.{raw as bare}
use mir.Val.{Val, vptr, vstruct, vcons, vnil, of_list}
use base.Fml.{Fml, fsep, fex}
use base.Logic.{never, fst∗}
use types.Logic.{Logic, sem}
use types.Kit.{Item, Goal, Seq, Step, step, ‵, ◌$◌, drop, fsplit, fjoin, fpick, fpack, rewrite, feq_i, feq_l}
use denote.RattleType.{RattleType, Valss}
use denote.Builtin.{RawPtr}
use denote.Memory.{lone}
use denote.RawPtr.{Ptr, block_ptr, null_ptr, ptr_val, in_a_block}
use denote.Steps.{nothing}
use denote.Struct.Struct.{Shape, within}
use Rattle.std.specs.declared.option.Option.{Option}
use Rattle.std.specs.declared.option.Option.TheVariants.{None, Some}
use Rattle.std.specs.Prelude.{IsSome}
use Rattle.std.specs.Box.Ownership.{box_owns}
use Rattle.qtree_c.specs.abi.Holding.{token, held_owns}

-- an option that is some, as its item
pub record Found {A : Type 0} (m : Option A) : Type 0 where
  pub item : A
  pub is : m ≡ Some item

pub found : {A : Type 0} (m : Option A) → IsSome m → Found m
found None e = absurd (true≢false (sym e))
found (Some x) e = record { item = x; is = refl }

abbrev pub single : Val → Val
single v = vstruct (vcons v vnil)

-- a struct of one address, whatever its name
abbrev address : Shape
address = record { name = []; args = []; types = []; fields = RawPtr ∷ [] }

module _ (R : RattleType) where
  -- what it owns where it holds this
  abbrev pub owns_held : Ptr → Option R.Denot → List Val → Fml
  owns_held p m vs = fsep (fex (Valss (RawPtr ∷ [])) (within address (p, tt) vs)) (held_owns R p m)

  module _ {M : Type 1} {𝓤 : Ura M} {𝓛 : Logic 𝓤} {K : Type 0} {Γ : List (Item 𝓤)} {G : Goal 𝓤 𝓛.H} where
    pub held_in : K → (b o : ℕ) (x : R.Denot)
        → Step K 𝓛 (‵ (owns_held (block_ptr b o) (Some x) (single (vptr b o) ∷ [])) ∷ Γ) G (‵ (box_owns token R (block_ptr b o) x) ∷ Γ) G
    held_in t b o x = step (λ s. let v : Val = single (vptr b o) in
        nothing t $ feq_i t (List Val) (vptr b o ∷ []) (vptr b o ∷ []) refl $ fjoin t $ feq_i t (List Val) (v ∷ []) (v ∷ []) refl $ fjoin t $
        fpack t (Valss (RawPtr ∷ [])) (within address (block_ptr b o, tt) (v ∷ [])) (vptr b o ∷ [], tt) $ fjoin t $ s)

    pub held_none : K → Step K 𝓛 (‵ (owns_held null_ptr None (single (ptr_val null_ptr) ∷ [])) ∷ Γ) G Γ G
    held_none t = step (λ s. let v : Val = single (ptr_val null_ptr) in
        nothing t $ nothing t $ feq_i t (List Val) (ptr_val null_ptr ∷ []) (ptr_val null_ptr ∷ []) refl $ fjoin t $ feq_i t (List Val) (v ∷ []) (v ∷ []) refl $ fjoin t $
        fpack t (Valss (RawPtr ∷ [])) (within address (null_ptr, tt) (v ∷ [])) (ptr_val null_ptr ∷ [], tt) $ fjoin t $ s)

    pub held_out : K → (p : Ptr) (m : Option R.Denot) (x : R.Denot) (vs : List Val) → m ≡ Some x
        → ((b o : ℕ) → p ≡ block_ptr b o → vs ≡ single (vptr b o) ∷ [] → Seq K 𝓛 (‵ (box_owns token R (block_ptr b o) x) ∷ Γ) G)
        → Seq K 𝓛 (‵ (owns_held p m vs) ∷ Γ) G
    held_out t p m x vs full k =
        fsplit t $ fpick t (λ vss. fsplit t $ feq_l t (λ ev. fsplit t $ feq_l t (λ ep. drop t $ rewrite t 0 (λ (m : Option R.Denot). ‵ (held_owns R p m)) full refl $
        in_a_block t p (λ p. box_owns token R p x) (fst∗ 𝓤 (never 𝓤) (sem 𝓛 (token (bare (lone R.mir)) null_ptr))) (λ b o e. k b o e
        (subst (λ (p : Ptr). vs ≡ vstruct (of_list (ptr_val p ∷ [])) ∷ []) e (subst (λ (ps : List Val). vs ≡ vstruct (of_list (ps ++ [])) ∷ []) ep ev))))))
