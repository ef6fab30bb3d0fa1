-- What one event changes of a drr and of each of its classes that stays: what it is granted, and what its child gives.
use Rattle.std.proofs.Common.{◌≡◌, ◌≢◌, ℕ, ◌+◌, ◌-◌, ◌*◌, ◌≤◌, Bool, true, false, ◌⊎◌, inl, inr, List, [], ◌∷◌, ◌++◌, set, refl, sym, ap, subst, ◌∙◌, Option, Some, None, option_and_then, arith, suc, ◌<◌}
use Rattle.std.specs.Prelude.{slice_get, IsSomeAnd}
use Rattle.std.specs.Option.{option_map_or}
use Rattle.std.proofs.lemmas.Bool.{false≢true}
use Rattle.std.proofs.lemmas.List.{append-nil}
use Rattle.std.proofs.lemmas.List.Sums.{sum_by-append}
use Rattle.std.proofs.lemmas.Option.{same_Some}
use Rattle.q_packet.specs.Descriptor.{Descriptor}
use Rattle.q_packet.specs.declared.cause.Cause.TheVariants.{Purged}
use Rattle.q_drr.specs.Schedule.{Class, Schedule, is_active, quantum_of, deficit_of, IsLawful}
use Rattle.q_drr.specs.Stretch.{stands_first}
use Rattle.q_drr.proofs.DifferLemmas.{ClassesDiffer}
use Rattle.q_drr.proofs.KeyLemmas.{others}
use Rattle.q_model.specs.Tally.{Note, history, noted}
use Rattle.q_model.specs.Node.{Discipline, Drr, Node, children, shape}
use Rattle.q_model.specs.Beneath.{is_empty}
use Rattle.q_model.specs.Work.{Worked, booked, losses_of, settled_class, settled_in}
use Rattle.q_model.specs.Put.{queued_in}
use Rattle.q_model.specs.Ask.{length_of, ask}
use Rattle.q_model.specs.Edit.{above, edited_at}
use Rattle.q_model.specs.Stretches.{sent_by, bytes_sent, granted_by, grants_to}
use Rattle.q_invariants.proofs.class.AgainstTurns.{left_before, quiet-against}
use Rattle.q_invariants.proofs.class.ClassChildren.{place_in, child_for, child-at, child-set, child-added, child-removed, child-quantum}
use Rattle.q_invariants.proofs.class.ClassLooks.{booked-child}
use Rattle.q_invariants.proofs.class.SameTurns.{SameTurns, same-all, same-fewer, same-settled, same-quantum}
use Rattle.q_invariants.proofs.class.TakeTurns.{one_if}
use Rattle.q_invariants.proofs.edit.EditComes.{IsAbove}
use Rattle.q_invariants.proofs.edit.EditForms.{ClassEdit, Stay, Retuned_one, Added_one, Removed_one, Does, IsForm}
use Rattle.q_invariants.proofs.put.DrrSettled.{class-settled}
use Rattle.q_invariants.proofs.put.PutKinds.{put-stage}
use Rattle.q_invariants.proofs.put.PutStages.{IsPutOf, quiet-related, along-related}
use Rattle.q_invariants.proofs.sums.NoteSums.{sum-risen, risen-losses, past-sent, past-granted}
use Rattle.q_invariants.proofs.sums.Told.{noted-history}
use Rattle.q_invariants.proofs.tree.Forests.{nodes-side}
use Rattle.q_invariants.proofs.tree.Related.{AllRelated, forget}
use Rattle.q_invariants.proofs.tree.StepNodes.{IsPut, IsRemadeSo, IsEdited, IsNew}

-- one class, whose child became another
pub record ClassStep (c : ℕ) (notes : List Note) (s t : Schedule) (k m : Node (List Note)) : Type 0 where
  pub given : List Note
  pub gives : m.memory ≡ k.memory ++ given
  pub books : bytes_sent given + deficit_of c t.active ≡ grants_to c notes * quantum_of c s.classes + deficit_of c s.active

-- a class that is active before and after
pub record Stays (c : ℕ) (s t : Schedule) : Type 0 where
  pub before : is_active c s.active ≡ true
  pub after : is_active c t.active ≡ true

-- Class i stays active: what the child of class j gave, and what j may still give before i is granted again, is covered by what
-- it could give before and a quantum for each grant to i. A child that is put in anew has given nothing.
abbrev pub IsWithin : ℕ → ℕ → List Note → Schedule → Schedule → Node (List Note) → Node (List Note) → Type 0
IsWithin i j notes s t k m =
    (bytes_sent m.memory - bytes_sent k.memory) + left_before i j (quantum_of j s.classes) t.active ≤ grants_to i notes * quantum_of j s.classes + left_before i j (quantum_of j s.classes) s.active

pub record DrrStep (now : ℕ) (s t : Schedule) (n after : Node (List Note)) : Type 0 where
  pub notes : List Note
  pub is : after.memory ≡ n.memory ++ notes
  pub class : (c : ℕ) (k m : Node (List Note)) → child_for c s.classes (children n) ≡ Some k → child_for c t.classes (children after) ≡ Some m
      → Stays c s t → quantum_of c t.classes ≡ quantum_of c s.classes → is_empty m ≡ false → ClassStep c notes s t k m
  pub even : (i j : ℕ) → i ≢ j → Stays i s t → Stays j s t
      → grants_to i notes + one_if (stands_first i j t.active) ≡ grants_to j notes + one_if (stands_first i j s.active)
  pub short : (c k : ℕ) (kid : Node (List Note)) → child_for c s.classes (children n) ≡ Some kid → grants_to c notes ≡ suc k
      → IsSomeAnd (length_of (ask now (shape kid))) (λ len. deficit_of c s.active + k * quantum_of c s.classes < len)
  pub wakes : (c : ℕ) → is_active c s.active ≡ false → is_active c t.active ≡ true → deficit_of c t.active ≡ quantum_of c t.classes
  pub against : (i j : ℕ) (k m : Node (List Note)) → i ≢ j → Stays i s t → quantum_of j t.classes ≡ quantum_of j s.classes
      → child_for j s.classes (children n) ≡ Some k → child_for j t.classes (children after) ≡ Some m → IsWithin i j notes s t k m

-- a child that gave nothing
abbrev GaveNothing : Node (List Note) → Node (List Note) → Type 0
GaveNothing k m = (given : List Note) × (m.memory ≡ k.memory ++ given) × (bytes_sent given ≡ 0)

no-more-sent : (k m : Node (List Note)) → GaveNothing k m ⊎ IsNew m → bytes_sent m.memory ≤ bytes_sent k.memory
no-more-sent k m (inl g) =
    let sent = g.2 in
    omega (arith, ap bytes_sent g.1, sum_by-append sent_by k.memory g.0, sent)
no-more-sent k m (inr new) = omega (arith, ap bytes_sent new.1)

pub same-gave : (k m : Node (List Note)) → m ≡ k → GaveNothing k m
same-gave k m e = ([], ap (λ (x : Node (List Note)). x.memory) e ∙ sym (append-nil k.memory), refl)

-- without a grant
pub quiet-step : (now : ℕ) (s t : Schedule) (n after : Node (List Note)) (notes : List Note) → after.memory ≡ n.memory ++ notes → ((c : ℕ) → grants_to c notes ≡ 0) → SameTurns s t
    → ((c : ℕ) (k m : Node (List Note)) → child_for c s.classes (children n) ≡ Some k → child_for c t.classes (children after) ≡ Some m → GaveNothing k m ⊎ IsNew m)
    → DrrStep now s t n after
quiet-step now s t n after notes memory grants same gave = record {
  notes = notes;
  is = memory;
  class = λ c k m before later stays quantum queued. class c k m stays quantum queued (gave c k m before later);
  even = λ i j apart a b. omega (arith, grants i, grants j, ap one_if (same.order i j a.before b.before a.after b.after));
  short = λ c k kid there some. absurd (omega (arith, grants c, some));
  wakes = same.wakes;
  against = λ i j k m apart stays quantum before later.
      let less = no-more-sent k m (gave j k m before later) in
      omega (arith, less, quiet-against i j s t same stays.before stays.after quantum);
}
  where
    class : (c : ℕ) (k m : Node (List Note)) → Stays c s t → quantum_of c t.classes ≡ quantum_of c s.classes → is_empty m ≡ false → GaveNothing k m ⊎ IsNew m → ClassStep c notes s t k m
    class c k m stays quantum queued (inr new) = absurd (false≢true (sym queued ∙ new.0))
    class c k m stays quantum queued (inl g) =
        let zero : grants_to c notes * quantum_of c s.classes ≡ 0 = ap (λ x. x * quantum_of c s.classes) (grants c) ∙ omega arith in
        record { given = g.0; gives = g.1; books = let sent = g.2 in omega (arith, zero, sent, same.deficit c stays.before stays.after quantum) }

pub same-schedule : (s t : Schedule) → ◌≡◌ {A = Discipline} (Drr s) (Drr t) → t ≡ s
same-schedule s t e = cc

module _ (now : ℕ) (n : Node (List Note)) (s : Schedule) (is : n.own.discipline ≡ Drr s) where
  -- ---- an arrival

  pub put-step : (p : Descriptor) (after : Node (List Note)) (t : Schedule) → after.own.discipline ≡ Drr t → IsPut now p n after → DrrStep now s t n after
  put-step p after t now_is put =
      let w : Worked = put.worked in
      let st = put-stage now p put.refusal (shape n) w put.way in
      let own = ap (λ (k : Node (List Note)). k.own.discipline) put.is in
      let turned = by st.discipline own in
      let memory : after.memory ≡ n.memory ++ w.memory = ap (λ (k : Node (List Note)). k.memory) (sym put.is) ∙ noted-history n.memory w.memory in
      quiet-step now s t n after w.memory memory (λ c. st.notes (granted_by c) (past-granted c) (λ q. refl)) turned.0
      (λ c k m before later. inl (gave c k m (turned.1) before (subst (λ (x : Node (List Note)). child_for c t.classes (children x) ≡ Some m) (sym put.is) later)))
    where
      -- the schedule, with the same classes
      by : (put.worked.own.discipline ≡ n.own.discipline) ⊎ (put.worked.own.discipline ≡ queued_in p now n.own.discipline) ⊎
          ((i : ℕ) × (emptied : Bool) × (put.worked.own.discipline ≡ settled_in i emptied n.own.discipline))
          → put.worked.own.discipline ≡ after.own.discipline → SameTurns s t × (t.classes ≡ s.classes)
      by (inl e) own =
          let same : t ≡ s = same-schedule s t (sym (sym own ∙ e ∙ is) ∙ now_is) in
          (same-all s t (ap (λ (x : Schedule). x.active) same), ap (λ (x : Schedule). x.classes) same)
      by (inr (inl e)) own =
          let same : t ≡ s = same-schedule s t (sym (sym own ∙ e ∙ ap (queued_in p now) is) ∙ now_is) in
          (same-all s t (ap (λ (x : Schedule). x.active) same), ap (λ (x : Schedule). x.classes) same)
      by (inr (inr e)) own =
          let u : Schedule = settled_class e.0 e.1 s in
          let same : t ≡ u = same-schedule u t (sym (sym own ∙ e.2 ∙ ap (settled_in e.0 e.1) is) ∙ now_is) in
          (subst (SameTurns s) (sym same) (same-settled e.0 e.1 s), ap (λ (x : Schedule). x.classes) same ∙ class-settled e.0 e.1 s)

      related : IsPutOf now p put.refusal (shape n) put.worked → AllRelated (IsPutOf now p put.refusal) (forget n.below) put.worked.below
      related (inl e) = subst (λ (x : Worked). AllRelated (IsPutOf now p put.refusal) (forget n.below) x.below) (sym e) (quiet-related now p put.refusal (shape n)).2
      related (inr e) = subst (λ (x : Worked). AllRelated (IsPutOf now p put.refusal) (forget n.below) x.below) (sym e.1) (along-related now p put.refusal e.0 (shape n)).2

      gave : (c : ℕ) (k m : Node (List Note)) → t.classes ≡ s.classes → child_for c s.classes (children n) ≡ Some k
          → child_for c t.classes (children (booked history n put.worked)) ≡ Some m → GaveNothing k m
      gave c k m classes before later =
          let b =
          booked-child (IsPutOf now p put.refusal) s.classes n.below put.worked.below c m (related put.way)
          (ap (λ cs. child_for c cs (children (booked history n put.worked))) (sym classes) ∙ later) in
          let same : b.child ≡ k = same_Some b.child k (sym b.there ∙ before) in
          let sent = (put-stage now p put.refusal (shape b.child) b.worked b.by).notes sent_by past-sent (λ q. refl) in
          (b.worked.memory, ap (λ (x : Node (List Note)). x.memory) (sym b.is) ∙ noted-history b.child.memory b.worked.memory ∙ ap (λ (x : Node (List Note)). x.memory ++ b.worked.memory) same, sent)

  -- ---- a command

  pub same-step : (after : Node (List Note)) (t : Schedule) → after.own.discipline ≡ Drr t → after ≡ n → DrrStep now s t n after
  same-step after t now_is same =
      let turned : t ≡ s = same-schedule s t (sym is ∙ ap (λ (k : Node (List Note)). k.own.discipline) (sym same) ∙ now_is) in
      quiet-step now s t n after [] (ap (λ (k : Node (List Note)). k.memory) same ∙ sym (append-nil n.memory)) (λ c. refl) (same-all s t (ap (λ (x : Schedule). x.active) turned))
      (λ c k m before later.
      inl (same-gave k m (same_Some m k (sym later ∙ ap (λ (x : Schedule). child_for c x.classes (children after)) turned ∙ ap
      (λ (x : Node (List Note)). child_for c s.classes (children x)) same ∙ before))))

  module _ (law : IsLawful s) (differ : ClassesDiffer s.classes) where
    -- the classes and children as a command leaves them
    form-same : (e : ClassEdit) (t : Schedule) (ks : List (Node (List Note))) → Does e s (children n) t ks → SameTurns s t
    form-same Stay t ks h = same-all s t (ap (λ (x : Schedule). x.active) h.0)
    form-same (Retuned_one m q) t ks h = subst (SameTurns s) (sym h.0) (same-quantum m q s law)
    form-same (Added_one m q leaf) t ks h = same-all s t (ap (λ (x : Schedule). x.active) h.0)
    form-same (Removed_one m i) t ks h = same-fewer m s t (ap (λ (x : Schedule). x.active) h.0)

    form-gave : (e : ClassEdit) (t : Schedule) (ks : List (Node (List Note))) → Does e s (children n) t ks → (c : ℕ) (k m : Node (List Note))
        → child_for c s.classes (children n) ≡ Some k → child_for c t.classes ks ≡ Some m → m ≡ k
    form-gave Stay t ks h c k m before later =
        same_Some m k (sym later ∙ ap (λ (x : Schedule). child_for c x.classes ks) h.0 ∙ ap (child_for c s.classes) h.1 ∙ before)
    form-gave (Retuned_one l q) t ks h c k m before later =
        same_Some m k (sym later ∙ ap (λ (x : Schedule). child_for c x.classes ks) h.0 ∙ child-quantum c l q s.classes ks ∙ ap (child_for c s.classes) h.1 ∙ before)
    form-gave (Added_one l q leaf) t ks h c k m before later =
        same_Some m k (sym later ∙ ap (λ (x : Schedule). child_for c x.classes ks) h.0 ∙ ap (child_for c (s.classes ++ record { name = l; quantum = q } ∷ [])) h.1
        ∙ child-added c s.classes (children n) (record { name = l; quantum = q }) leaf k before)
    form-gave (Removed_one l i) t ks h c k m before later =
        same_Some m k (sym (child-removed c l s.classes (children n) i m differ h.2
        (sym (ap (λ (x : Schedule). child_for c x.classes ks) h.0 ∙ ap (child_for c (others (λ (k : Class). k.name) l s.classes)) h.1) ∙ later))
        ∙ before)

    -- a child that was edited, or beneath which something was
    child-edited : (notes : List Note) (f : Node (List Note) → Node (List Note)) → bytes_sent notes ≡ 0
        → ((old : Node (List Note)) → IsNew (f old) ⊎ ((f old).memory ≡ noted history old.memory notes))
        → (path : List ℕ) (k m : Node (List Note)) → m ≡ edited_at history notes f path k → GaveNothing k m ⊎ IsNew m
    child-edited notes f sent ends [] k m e = by (ends k)
      where
        by : IsNew (f k) ⊎ ((f k).memory ≡ noted history k.memory notes) → GaveNothing k m ⊎ IsNew m
        by (inl new) = inr (subst IsNew (sym e) new)
        by (inr memory) = inl (notes, ap (λ (x : Node (List Note)). x.memory) e ∙ memory ∙ noted-history k.memory notes, sent)
    child-edited notes f sent ends (i ∷ path) k m e = by (slice_get (children k) i) e
      where
        by : (o : Option (Node (List Note))) → m ≡ option_map_or (λ child. above history notes i (edited_at history notes f path child) k) o k → GaveNothing k m ⊎ IsNew m
        by None is = inl (same-gave k m is)
        by (Some c) is = inl (notes, ap (λ (x : Node (List Note)). x.memory) is ∙ noted-history k.memory notes, sent)

    pub edited-step : (after : Node (List Note)) (t : Schedule) → after.own.discipline ≡ Drr t → IsEdited now n after → DrrStep now s t n after
    edited-step after t now_is edit = by edit.by
      where
        granted : (c : ℕ) → grants_to c (losses_of Purged edit.purged) ≡ 0
        granted c = sum-risen (granted_by c) (past-granted c) (losses_of Purged edit.purged) (risen-losses Purged edit.purged)

        sent : bytes_sent (losses_of Purged edit.purged) ≡ 0
        sent = sum-risen sent_by past-sent (losses_of Purged edit.purged) (risen-losses Purged edit.purged)

        remade : (r : IsRemadeSo now (losses_of Purged edit.purged) n after) → IsForm now (Drr s) (children n) (Drr t) r.below → DrrStep now s t n after
        remade r form =
            quiet-step now s t n after (losses_of Purged edit.purged) (ap (λ (k : Node (List Note)). k.memory) r.is ∙ noted-history n.memory (losses_of Purged edit.purged)) granted
            (form-same form.0 t r.below form.1)
            (λ c k m before later.
            inl (same-gave k m (form-gave form.0 t r.below form.1 c k m before
            (sym (ap (λ (x : Node (List Note)). child_for c t.classes (children x)) r.is ∙ ap (child_for c t.classes) (nodes-side r.below)) ∙ later))))

        by : (after ≡ n) ⊎ IsRemadeSo now (losses_of Purged edit.purged) n after ⊎ IsAbove (losses_of Purged edit.purged) edit.f n after → DrrStep now s t n after
        by (inl same) = same-step after t now_is same
        by (inr (inl r)) =
            let d : r.own.discipline ≡ Drr t = ap (λ (k : Node (List Note)). k.own.discipline) (sym r.is) ∙ now_is in
            remade r (subst (λ (x : Discipline). IsForm now (Drr s) (children n) x r.below) d (subst (λ (x : Discipline). IsForm now x (children n) r.own.discipline r.below) is r.form.form))
        by (inr (inr a)) =
            let child : Node (List Note) = edited_at history (losses_of Purged edit.purged) edit.f a.path a.child in
            let emptied : Bool = is_empty child in
            let u : Schedule = settled_class a.place emptied s in
            let same : t ≡ u = same-schedule u t (sym (ap (λ (k : Node (List Note)). k.own.discipline) a.is ∙ ap (settled_in a.place emptied) is) ∙ now_is) in
            let classes : t.classes ≡ s.classes = ap (λ (x : Schedule). x.classes) same ∙ class-settled a.place emptied s in
            quiet-step now s t n after (losses_of Purged edit.purged) (ap (λ (k : Node (List Note)). k.memory) a.is ∙ noted-history n.memory (losses_of Purged edit.purged)) granted
            (subst (SameTurns s) (sym same) (same-settled a.place emptied s))
            (λ c k m before later.
            at-child c k m before
            (child-set c s.classes (children n) a.place child m
            (sym (ap (λ (x : Node (List Note)). child_for c t.classes (children x)) a.is
            ∙ ap (child_for c t.classes) (nodes-side (set (children n) a.place child)) ∙ ap
            (λ cs. child_for c cs (set (children n) a.place child)) classes) ∙ later)).which)
          where
            at-child : (c : ℕ) (k m : Node (List Note)) → child_for c s.classes (children n) ≡ Some k
                → ((place_in c s.classes ≡ Some a.place) × (m ≡ edited_at history (losses_of Purged edit.purged) edit.f a.path a.child)) ⊎
                ((child_for c s.classes (children n) ≡ Some m) × (place_in c s.classes ≡ Some a.place → ⊥))
                → GaveNothing k m ⊎ IsNew m
            at-child c k m before (inr left) = inl (same-gave k m (same_Some m k (sym left.0 ∙ before)))
            at-child c k m before (inl changed) =
                let here : a.child ≡ k = same_Some a.child k (sym (ap (option_and_then (slice_get (children n))) changed.0 ∙ a.at) ∙ child-at c s.classes (children n) ∙ before) in
                child-edited (losses_of Purged edit.purged) edit.f sent edit.ends a.path k m (changed.1 ∙ ap (edited_at history (losses_of Purged edit.purged) edit.f a.path) here)
