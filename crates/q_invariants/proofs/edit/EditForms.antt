-- What a command makes of the node that it is of: its settings, its children, and which nodes beneath it stay.
use Rattle.std.proofs.Common.{◌≡◌, ℕ, zero, suc, Bool, true, ◌⊎◌, inl, inr, List, [], ◌∷◌, ◌++◌, length, map, take, replicate, refl, sym, ap, subst, ◌∙◌, Option, Some, None}
use Rattle.std.specs.Prelude.{is_some, slice_get, ◌==◌, if◌then◌else◌}
use Rattle.std.specs.List.{position, remove}
use Rattle.std.specs.Option.{option_to_list}
use Rattle.std.proofs.lemmas.Option.{none-some}
use Rattle.q_fqcodel.specs.FqState.{FqSettings}
use Rattle.q_fqcodel.specs.FqState as flows
use Rattle.q_bucket.specs.Level.{after_change}
use Rattle.q_drr.specs.Schedule.{Class, Schedule, added, removed, with_quantum}
use Rattle.q_model.specs.Tally.{Note, history}
use Rattle.q_model.specs.Node.{Discipline, Fifo, Prio, Tbf, Drr, FqCodel, Own, Forest, Node, side_by_side, nodes_in, children, shape, blank}
use Rattle.q_model.specs.Beneath.{is_empty}
use Rattle.q_model.specs.Make.{Device, implicit_pfifo}
use Rattle.q_model.specs.Find.{node_at}
use Rattle.q_model.specs.Edit.{Kept, Retuned, Edit, Graft, Remake, child_of, with_own}
use Rattle.q_model.specs.QdiscCommands.{relimited, leaf_of_tbf}
use Rattle.q_invariants.proofs.ask.AskStages.{HasSoMany}
use Rattle.q_invariants.proofs.edit.EditChildren.{kids}
use Rattle.q_invariants.proofs.tree.Forests.{side-nodes}
use Rattle.q_invariants.proofs.tree.Within.{Within, IsOf, HasHandle}

-- ---- the classes of a drr and its children

-- what a command does to them
pub data ClassEdit : Type 0 where
  Stay : ClassEdit
  Retuned_one : ℕ → ℕ → ClassEdit
  Added_one : ℕ → ℕ → Node (List Note) → ClassEdit
  Removed_one : ℕ → ℕ → ClassEdit

abbrev pub Does : ClassEdit → Schedule → List (Node (List Note)) → Schedule → List (Node (List Note)) → Type 0
Does Stay s cs t ks = (t ≡ s) × (ks ≡ cs)
Does (Retuned_one n q) s cs t ks = (t ≡ with_quantum n q s) × (ks ≡ cs)
Does (Added_one n q leaf) s cs t ks = (t ≡ added n q s) × (ks ≡ cs ++ leaf ∷ []) × (is_empty leaf ≡ true)
Does (Removed_one n i) s cs t ks = (t ≡ removed n s) × (ks ≡ remove cs i) × (position (λ (c : Class). n == c.name) s.classes ≡ Some i)

-- ---- the node

abbrev pub IsForm : ℕ → Discipline → List (Node (List Note)) → Discipline → List (Node (List Note)) → Type 0
IsForm now (Tbf b limit) cs (Tbf c most) ks = (c ≡ b) ⊎ ((rate : ℕ) × (burst : ℕ) × (c ≡ after_change b rate burst now))
IsForm now (Drr s) cs (Drr t) ks = (e : ClassEdit) × Does e s cs t ks
IsForm now (FqCodel s) cs (FqCodel t) ks = (t ≡ s) ⊎ ((settings : FqSettings) × (t ≡ flows.after_change s settings))
IsForm now (Fifo limit queue) cs d ks = Unit {0}
IsForm now (Prio priomap) cs d ks = Unit {0}
IsForm now (Tbf b limit) cs d ks = ⊥
IsForm now (Drr s) cs d ks = ⊥
IsForm now (FqCodel s) cs d ks = ⊥

-- nodes with this handle are among those that there were
abbrev pub Keeps : ℕ → List (Node (List Note)) → Forest (List Note) → Type 0
Keeps h ks x = (n : Node (List Note)) → Within n (side_by_side ks) → HasHandle h n → Within n x

pub record IsRemade (now : ℕ) (old : Node (List Note)) (own : Own) (ks : List (Node (List Note))) : Type 0 where
  pub handle : own.handle ≡ old.own.handle
  pub held : own.held ≡ old.own.held
  pub form : IsForm now old.own.discipline (children old) own.discipline ks
  pub keeps : (h : ℕ) → Keeps h ks old.below

abbrev pub FormOf : ℕ → Node (List Note) → Edit → Type 0
FormOf now root (Graft path new) = Unit {0}
FormOf now root (Remake path own below) =
    (old : Node (List Note)) → node_at path root ≡ Some old → HasSoMany old.own.discipline (length (children old)) → IsRemade now old own (kids history (children old) below)

-- ---- which nodes stay

pub keeps-all : (h : ℕ) (x : Forest (List Note)) → Keeps h (nodes_in x) x
keeps-all h x n w e = subst (Within n) (side-nodes x) w

within-append : (n : Node (List Note)) (xs ys : List (Node (List Note))) → Within n (side_by_side (xs ++ ys)) → Within n (side_by_side xs) ⊎ Within n (side_by_side ys)
within-append n [] ys w = inr w
within-append n (x ∷ xs) ys (inl is) = inl (inl is)
within-append n (x ∷ xs) ys (inr (inl w)) = inl (inr (inl w))
within-append n (x ∷ xs) ys (inr (inr w)) = by (within-append n xs ys w)
  where
    by : Within n (side_by_side xs) ⊎ Within n (side_by_side ys) → Within n (side_by_side (x ∷ xs)) ⊎ Within n (side_by_side ys)
    by (inl a) = inl (inr (inr a))
    by (inr b) = inr b

within-removed : (n : Node (List Note)) (xs : List (Node (List Note))) (i : ℕ) → Within n (side_by_side (remove xs i)) → Within n (side_by_side xs)
within-removed n [] zero w = w
within-removed n [] (suc i) w = w
within-removed n (x ∷ xs) zero w = inr (inr w)
within-removed n (x ∷ xs) (suc i) (inl is) = inl is
within-removed n (x ∷ xs) (suc i) (inr (inl w)) = inr (inl w)
within-removed n (x ∷ xs) (suc i) (inr (inr w)) = inr (inr (within-removed n xs i w))

within-taken : (n : Node (List Note)) (k : ℕ) (xs : List (Node (List Note))) → Within n (side_by_side (take k xs)) → Within n (side_by_side xs)
within-taken n zero xs w = absurd w
within-taken n (suc k) [] w = w
within-taken n (suc k) (x ∷ xs) (inl is) = inl is
within-taken n (suc k) (x ∷ xs) (inr (inl w)) = inr (inl w)
within-taken n (suc k) (x ∷ xs) (inr (inr w)) = inr (inr (within-taken n k xs w))

-- an implicit leaf has no handle, nor has what stands beneath it
no-handle : (h : ℕ) (d : Device) (n : Node (List Note)) (k : ℕ) → HasHandle h n → Within n (side_by_side (replicate k (blank history (implicit_pfifo d)))) → ⊥
no-handle h d n zero e w = w
no-handle h d n (suc k) e (inl is) = none-some h (ap (λ (m : Node (List Note)). m.own.handle) is ∙ e)
no-handle h d n (suc k) e (inr (inl w)) = w
no-handle h d n (suc k) e (inr (inr w)) = no-handle h d n k e w

pub keeps-front : (h : ℕ) (d : Device) (x : Forest (List Note)) (m r : ℕ) → Keeps h (take m (nodes_in x) ++ replicate r (blank history (implicit_pfifo d))) x
keeps-front h d x m r n w e = by (within-append n (take m (nodes_in x)) (replicate r (blank history (implicit_pfifo d))) w)
  where
    by : Within n (side_by_side (take m (nodes_in x))) ⊎ Within n (side_by_side (replicate r (blank history (implicit_pfifo d)))) → Within n x
    by (inl a) = subst (Within n) (side-nodes x) (within-taken n m (nodes_in x) a)
    by (inr b) = absurd (no-handle h d n r e b)

pub keeps-more : (h : ℕ) (d : Device) (x : Forest (List Note)) → Keeps h (nodes_in x ++ blank history (implicit_pfifo d) ∷ []) x
keeps-more h d x n w e = by (within-append n (nodes_in x) (blank history (implicit_pfifo d) ∷ []) w)
  where
    by : Within n (side_by_side (nodes_in x)) ⊎ Within n (side_by_side (blank history (implicit_pfifo d) ∷ [])) → Within n x
    by (inl a) = subst (Within n) (side-nodes x) a
    by (inr b) = absurd (no-handle h d n 1 e b)

pub keeps-removed : (h : ℕ) (x : Forest (List Note)) (i : ℕ) → Keeps h (remove (nodes_in x) i) x
keeps-removed h x i n w e = subst (Within n) (side-nodes x) (within-removed n (nodes_in x) i w)

-- the leaf of a tbf, which gets another limit where it is implicit
module _ (bytes : ℕ) where
  pub leaf-kept : (h : ℕ) (cs : List (Node (List Note))) (n : Node (List Note)) (c : Node (List Note)) → slice_get cs 0 ≡ Some c → HasHandle h n
      → Within n (side_by_side (child_of history cs (leaf_of_tbf bytes (shape c)))) → IsOf n c
  leaf-kept h cs n c at e w = by c.own.handle refl w
    where
      kept : Within n (side_by_side (option_to_list (slice_get cs 0))) → IsOf n c
      kept a = here (subst (λ (o : Option (Node (List Note))). Within n (side_by_side (option_to_list o))) at a)
        where
          here : Within n (side_by_side (c ∷ [])) → IsOf n c
          here (inl is) = inl is
          here (inr (inl b)) = inr b
          here (inr (inr b)) = absurd b

      changed : c.own.handle ≡ None → Within n (side_by_side (map (with_own (record c.own { discipline = relimited bytes c.own.discipline })) (option_to_list (slice_get cs 0)))) → IsOf n c
      changed bare a =
          here (subst (λ (o : Option (Node (List Note))). Within n
          (side_by_side (map (with_own (record c.own { discipline = relimited bytes c.own.discipline })) (option_to_list o)))) at a)
        where
          here : Within n (side_by_side (with_own (record c.own { discipline = relimited bytes c.own.discipline }) c ∷ [])) → IsOf n c
          here (inl is) = absurd (none-some h (sym bare ∙ ap (λ (m : Node (List Note)). m.own.handle) is ∙ e))
          here (inr (inl b)) = inr b
          here (inr (inr b)) = absurd b

      by : (o : Option ℕ) → c.own.handle ≡ o
          → Within n (side_by_side (child_of history cs (if is_some c.own.handle then Kept 0 else Retuned 0 (record c.own { discipline = relimited bytes c.own.discipline })))) → IsOf n c
      by None is a =
          changed is (subst (λ (t : Bool). Within n
          (side_by_side (child_of history cs (if t then Kept 0 else Retuned 0 (record c.own { discipline = relimited bytes c.own.discipline })))))
          (ap is_some is) a)
      by (Some k) is a =
          kept (subst (λ (t : Bool). Within n (side_by_side
          (child_of history cs (if t then Kept 0 else Retuned 0 (record c.own { discipline = relimited bytes c.own.discipline })))))
          (ap is_some is) a)
