-- A class of a drr that is not in front has a quantum at least, from an event to the next: a grant leaves it so, and it sends only in front.
use Rattle.std.proofs.Common.{◌≡◌, ◌≢◌, ℕ, ◌+◌, ◌-◌, ◌*◌, ◌≤◌, ◌⊎◌, inl, inr, Bool, true, false, eqb, not, List, [], ◌∷◌, ◌++◌, refl, sym, ap, subst, ◌∙◌, Some, arith}
use Rattle.std.specs.Prelude.{if◌then◌else◌}
use Rattle.std.proofs.Math.Nat.{add-mul}
use Rattle.std.proofs.lemmas.Bool.{cases_Bool, eqb-true, ne_eqb, false≢true, true≢false}
use Rattle.std.proofs.lemmas.List.Elements.{All-append}
use Rattle.std.proofs.lemmas.List.Sums.{sum_by-append}
use Rattle.std.proofs.lemmas.Option.{same_Some}
use Rattle.q_packet.specs.Descriptor.{Descriptor}
use Rattle.q_packet.specs.declared.cause.Cause.TheVariants.{Purged}
use Rattle.q_drr.specs.Schedule.{Entry, Schedule, is_active, quantum_of, deficit_of, IsLawful}
use Rattle.q_drr.specs.Stretch.{stands_first}
use Rattle.q_drr.specs.Take.{served}
use Rattle.q_drr.proofs.DifferLemmas.{entries_apart}
use Rattle.q_model.specs.declared.event.Event.{Event}
use Rattle.q_model.specs.declared.event.Event.TheVariants as event
use Rattle.q_model.specs.Beneath.{is_empty}
use Rattle.q_model.specs.Edit.{edited_at}
use Rattle.q_model.specs.Events.{IsEvent}
use Rattle.q_model.specs.Node.{Discipline, Drr, Node, children, shape}
use Rattle.q_model.specs.Put.{queued_in}
use Rattle.q_model.specs.Settings.{DeviceSettings, IsInRange}
use Rattle.q_model.specs.Step.{DeviceState, step}
use Rattle.q_model.specs.Stretches.{sent_by, bytes_sent, grants_to, qdisc, ClassAt, class_in}
use Rattle.q_model.specs.Tally.{Note, history}
use Rattle.q_model.specs.Work.{Worked, losses_of, settled_class, settled_in}
use Rattle.q_invariants.proofs.Along.{moves}
use Rattle.q_invariants.proofs.class.AgainstTurns.{left_before, left-at-most, left-behind}
use Rattle.q_invariants.proofs.class.ClassAsks.{AsWas, Nothing, Gave, Served, own-stage}
use Rattle.q_invariants.proofs.class.ClassLooks.{active-of}
use Rattle.q_invariants.proofs.class.ClassMoves.{class-node, drr-lawful, backlogged-active, drr-step}
use Rattle.q_invariants.proofs.class.ClassSteps.{Stays, same-schedule}
use Rattle.q_invariants.proofs.class.ClassTakes.{heads}
use Rattle.q_invariants.proofs.class.Exact.{active-served}
use Rattle.q_invariants.proofs.class.SameTurns.{absent-behind, same-all, same-fewer, same-settled, same-quantum}
use Rattle.q_invariants.proofs.class.TakeTurns.{one_if}
use Rattle.q_invariants.proofs.edit.EditComes.{IsAbove}
use Rattle.q_invariants.proofs.edit.EditForms.{ClassEdit, Stay, Retuned_one, Added_one, Removed_one, Does, IsForm}
use Rattle.q_invariants.proofs.put.PutKinds.{put-stage}
use Rattle.q_invariants.proofs.Replays.{IsKept, step-kept, replay-kept}
use Rattle.q_invariants.proofs.tree.StepNodes.{IsAsked, IsPut, IsRemadeSo, IsEdited, Becomes, becomes}
use Rattle.q_device.specs.Sharing.{device_after}
use Rattle.q_laws.specs.share.Calm.{IsCalm, ClassesAreCalm}
use Rattle.q_laws.specs.share.Service.{IsClass}

-- ---- who is before whom

first-active : (j i : ℕ) (es : List Entry) → stands_first j i es ≡ true → is_active j es ≡ true
first-active j i es front = elim (cases_Bool (is_active j es)) [
  | inl there ↦ there
  | inr absent ↦ absurd (true≢false (sym front ∙ absent-behind i j es absent))
]

not-both : (j i : ℕ) (es : List Entry) → j ≢ i → stands_first j i es ≡ true → stands_first i j es ≡ false
not-both j i [] apart front = absurd (false≢true front)
not-both j i (e ∷ es) apart front = elim (cases_Bool (eqb j e.class)) [
  | inl here ↦
      let far : eqb i e.class ≡ false = ne_eqb i e.class (λ same. apart (eqb-true j e.class here ∙ sym same)) in
      ap (λ (t : Bool). if t then true else (if eqb j e.class then false else stands_first i j es)) far ∙ ap (λ (t : Bool). if t then false else stands_first i j es) here
  | inr there ↦ elim (cases_Bool (eqb i e.class)) [
    | inl here ↦
        absurd (true≢false (sym front ∙ ap (λ (t : Bool). if t then true else (if eqb i e.class then false else stands_first j i es)) there
        ∙ ap (λ (t : Bool). if t then false else stands_first j i es) here))
    | inr far ↦
        let rest : stands_first j i es ≡ true =
        sym (ap (λ (t : Bool). if t then true else (if eqb i e.class then false else stands_first j i es)) there ∙ ap (λ (t : Bool). if t then false else stands_first j i es) far) ∙ front in
        ap (λ (t : Bool). if t then true else (if eqb j e.class then false else stands_first i j es)) far
        ∙ ap (λ (t : Bool). if t then false else stands_first i j es) there ∙ not-both j i es apart rest
  ]
]

-- ---- one that wakes stands behind

abbrev WakesBehind : Schedule → Schedule → Type 0
WakesBehind s t = (i j : ℕ) → is_active i s.active ≡ true → is_active j s.active ≡ false → stands_first j i t.active ≡ false

module _ (now : ℕ) (n after : Node (List Note)) (s t : Schedule) (is : n.own.discipline ≡ Drr s) (now_is : after.own.discipline ≡ Drr t) (law : IsLawful s) where
  settled-behind : (i : ℕ) (emptied : Bool) → after.own.discipline ≡ settled_in i emptied n.own.discipline → WakesBehind s t
  settled-behind i emptied e =
      let same : t ≡ settled_class i emptied s = same-schedule (settled_class i emptied s) t (sym (e ∙ ap (settled_in i emptied) is) ∙ now_is) in
      subst (WakesBehind s) (sym same) (same-settled i emptied s).behind

  stayed-behind : after.own.discipline ≡ n.own.discipline → WakesBehind s t
  stayed-behind e = let same : t ≡ s = same-schedule s t (sym (e ∙ is) ∙ now_is) in (same-all s t (ap (λ (x : Schedule). x.active) same)).behind

  put-behind : (p : Descriptor) → IsPut now p n after → WakesBehind s t
  put-behind p put =
      let st = put-stage now p put.refusal (shape n) put.worked put.way in
      let own : put.worked.own.discipline ≡ after.own.discipline = ap (λ (k : Node (List Note)). k.own.discipline) put.is in
      by own st.discipline
    where
      by : put.worked.own.discipline ≡ after.own.discipline
          → (put.worked.own.discipline ≡ n.own.discipline) ⊎ (put.worked.own.discipline ≡ queued_in p now n.own.discipline)
          ⊎ ((i : ℕ) × (emptied : Bool) × (put.worked.own.discipline ≡ settled_in i emptied n.own.discipline)) → WakesBehind s t
      by own (inl e) = stayed-behind (sym own ∙ e)
      by own (inr (inl e)) = stayed-behind (sym own ∙ e ∙ ap (queued_in p now) is ∙ sym is)
      by own (inr (inr e)) = settled-behind e.0 e.1 (sym own ∙ e.2)

  edited-behind : IsEdited now n after → WakesBehind s t
  edited-behind edit = by edit.by
    where
      form-behind : (e : ClassEdit) (ks : List (Node (List Note))) → Does e s (children n) t ks → WakesBehind s t
      form-behind Stay ks h = (same-all s t (ap (λ (x : Schedule). x.active) h.0)).behind
      form-behind (Retuned_one m q) ks h = subst (WakesBehind s) (sym h.0) (same-quantum m q s law).behind
      form-behind (Added_one m q leaf) ks h = (same-all s t (ap (λ (x : Schedule). x.active) h.0)).behind
      form-behind (Removed_one m i) ks h = (same-fewer m s t (ap (λ (x : Schedule). x.active) h.0)).behind

      remade : (r : IsRemadeSo now (losses_of Purged edit.purged) n after) → IsForm now (Drr s) (children n) (Drr t) r.below → WakesBehind s t
      remade r form = form-behind form.0 r.below form.1

      by : (after ≡ n) ⊎ IsRemadeSo now (losses_of Purged edit.purged) n after ⊎ IsAbove (losses_of Purged edit.purged) edit.f n after → WakesBehind s t
      by (inl same) = stayed-behind (ap (λ (k : Node (List Note)). k.own.discipline) same)
      by (inr (inl r)) =
          let d : r.own.discipline ≡ Drr t = ap (λ (k : Node (List Note)). k.own.discipline) (sym r.is) ∙ now_is in
          remade r (subst (λ (x : Discipline). IsForm now (Drr s) (children n) x r.below) d (subst (λ (x : Discipline). IsForm now x (children n) r.own.discipline r.below) is r.form.form))
      by (inr (inr a)) = settled-behind a.place (is_empty (edited_at history (losses_of Purged edit.purged) edit.f a.path a.child)) (ap (λ (k : Node (List Note)). k.own.discipline) a.is)

  asked-behind : IsAsked now n after → WakesBehind s t
  asked-behind asked =
      let w : Worked = asked.worked in
      let st = own-stage now (shape n).below s (entries_apart s.active law.entries_differ) n.own is w asked.stage in
      let schedule : st.schedule ≡ t = sym (same-schedule st.schedule t (sym st.is ∙ ap (λ (k : Node (List Note)). k.own.discipline) asked.is ∙ now_is)) in
      subst (WakesBehind s) schedule (by st.schedule st.children st.how)
    where
      served-behind : (u : Schedule) (ws : List Worked)
          → Nothing now (shape n).below s (entries_apart s.active law.entries_differ) u ws ⊎ Gave now (shape n).below s (entries_apart s.active law.entries_differ) u ws → WakesBehind s u
      served-behind u ws (inl nothing) i j there absent =
          let shows = heads now (shape n).below s (entries_apart s.active law.entries_differ) in
          absent-behind i j u.active (ap (λ (x : Schedule). is_active j x.active) nothing.schedule ∙ active-served j shows s ∙ absent)
      served-behind u ws (inr gave) i j there absent =
          let shows = heads now (shape n).below s (entries_apart s.active law.entries_differ) in
          ap (λ (x : Schedule). stands_first j i x.active) gave.schedule
          ∙ (same-settled gave.place (is_empty gave.answer.taken) (served shows s)).behind i j (active-served i shows s ∙ there) (active-served j shows s ∙ absent)

      by : (u : Schedule) (ws : List Worked)
          → AsWas now (shape n).below s (entries_apart s.active law.entries_differ) u asked.worked ws ⊎ Served now (shape n).below s (entries_apart s.active law.entries_differ) u asked.worked ws
          → WakesBehind s u
      by u ws (inl h) = (same-all s u (ap (λ (x : Schedule). x.active) h.same)).behind
      by u ws (inr h) = served-behind u ws h.how

wakes-behind : (major : ℕ) (d : DeviceState (List Note)) (e : Event) (n after : Node (List Note)) (s t : Schedule) → IsKept d → IsEvent e
    → qdisc major d ≡ Some n → qdisc major (step history d e).device ≡ Some after
    → n.own.discipline ≡ Drr s → after.own.discipline ≡ Drr t → WakesBehind s t
wakes-behind major d e n after s t kept range there later is now_is = by e now_is (becomes major d e n after kept range there later)
  where
    lawful : IsLawful s
    lawful = (drr-lawful major d n s kept there is).schedule

    by : (e : Event) → after.own.discipline ≡ Drr t → Becomes (step history d e).device.clock e n after → WakesBehind s t
    by (event.Arrive p moment) now_is h = put-behind (step history d (event.Arrive p moment)).device.clock n after s t is now_is lawful p h
    by (event.Poll moment) now_is h = asked-behind (step history d (event.Poll moment)).device.clock n after s t is now_is lawful h
    by (event.Command c moment) now_is (inl same) =
        stayed-behind (step history d (event.Command c moment)).device.clock n after s t is now_is lawful
        (ap (λ (k : Node (List Note)). k.own.discipline) same)
    by (event.Command c moment) now_is (inr edit) = edited-behind (step history d (event.Command c moment)).device.clock n after s t is now_is lawful edit

-- ---- one event

-- Class i of quantum q, whose deficit goes from d to d' as it sends `sent`, while it is granted gi times and the other gj times.
after-grants : (q d d' sent gi gj left : ℕ) → sent + d' ≡ gi * q + d → sent + (d' - q) ≤ gj * q + left → ((gi ≡ gj) × (left + q ≤ d)) ⊎ ((gi ≡ gj + 1) × (left ≤ d)) → q ≤ d'
after-grants q d d' sent gi gj left book within (inl h) =
    let same : gi * q ≡ gj * q = ap (λ n. n * q) h.0 in
    omega (arith, book, within, same, h.1)
after-grants q d d' sent gi gj left book within (inr h) =
    let more : gi * q ≡ gj * q + 1 * q = ap (λ n. n * q) h.0 ∙ add-mul gj 1 q in
    omega (arith, book, within, more, h.1)

module _ (major i quantum : ℕ) where
  -- where it is active
  abbrev IsCalmAt : ClassAt → Type 0
  IsCalmAt x = is_active i x.schedule.active ≡ true → IsCalm i quantum x.schedule.active

  calm-step : (d : DeviceState (List Note)) (e : Event) (x y : ClassAt) → IsKept d → IsEvent e → IsKept (step history d e).device
      → class_in major i d ≡ Some x → class_in major i (step history d e).device ≡ Some y
      → quantum_of i x.schedule.classes ≡ quantum → quantum_of i y.schedule.classes ≡ quantum → IsCalmAt x → IsCalmAt y
  calm-step d e x y kept range kept_next is at same_x same_y calm active j apart front =
      let next : DeviceState (List Note) = (step history d e).device in
      let a = class-node major i d x is in
      let b = class-node major i next y at in
      let s : Schedule = x.schedule in
      let t : Schedule = y.schedule in
      let m = drr-step major d e a.node b.node s t kept range a.there b.there a.discipline b.discipline in
      let law = drr-lawful major next b.node t kept_next b.there b.discipline in
      let queued : is_empty y.child ≡ false =
      is-false (is_empty y.child) (sym (active-of (λ c. is_active c t.active) t.classes (children b.node) i y.child law.exact b.child) ∙ active) in
      elim (cases_Bool (is_active i s.active)) [
        | inr asleep ↦ omega (arith, m.wakes i asleep active, same_y)
        | inl was ↦ elim (cases_Bool (is_active j s.active)) [
          | inr slept ↦ absurd (true≢false (sym front ∙ wakes-behind major d e a.node b.node s t kept range a.there b.there a.discipline b.discipline i j was slept))
          | inl awake ↦
              let mine : Stays i s t = record { before = was; after = active } in
              let theirs : Stays j s t = record { before = awake; after = first-active j i t.active front } in
              let c = m.class i x.child y.child a.child b.child mine (same_y ∙ sym same_x) queued in
              let even = m.even j i apart theirs mine in
              let g = m.against j i x.child y.child apart theirs (same_y ∙ sym same_x) a.child b.child in
              let sent : bytes_sent y.child.memory ≡ bytes_sent x.child.memory + bytes_sent c.given = ap bytes_sent c.gives ∙ sum_by-append sent_by x.child.memory c.given in
              let after : left_before j i (quantum_of i s.classes) t.active ≡ deficit_of i t.active - quantum_of i s.classes =
              left-behind j i (quantum_of i s.classes) t.active (not-both j i t.active apart front) in
              let one : one_if (stands_first j i t.active) ≡ 1 = ap one_if front in
              let q : ℕ = quantum_of i s.classes in
              let di : ℕ = deficit_of i s.active in
              let left : ℕ = left_before j i q s.active in
              let how : ((grants_to i m.notes ≡ grants_to j m.notes) × (left + q ≤ di)) ⊎ ((grants_to i m.notes ≡ grants_to j m.notes + 1) × (left ≤ di)) =
              elim (cases_Bool (stands_first j i s.active)) [
                | inl ahead ↦
                    let least = calm was j apart ahead in
                    let before : left ≡ di - q = left-behind j i q s.active (not-both j i s.active apart ahead) in
                    inl (omega (arith, even, one, ap one_if ahead), omega (arith, before, least, same_x))
                | inr behind ↦ inr (omega (arith, even, one, ap one_if behind), left-at-most j i q s.active)
              ] in
              let book = c.books in
              let all = after-grants q di (deficit_of i t.active) (bytes_sent c.given) (grants_to i m.notes) (grants_to j m.notes) left (omega (arith, book)) (omega (arith, g, sent, after)) how in
              omega (arith, all, same_x)
        ]
      ]
    where
      is-false : (b : Bool) → not b ≡ true → b ≡ false
      is-false true e = absurd (false≢true e)
      is-false false e = refl

  -- ---- over a stretch

  abbrev Moves : DeviceState (List Note) → DeviceState (List Note) → Type 0
  Moves d later = (x y : ClassAt) → class_in major i d ≡ Some x → class_in major i later ≡ Some y → IsCalmAt x → IsCalmAt y

  still : (d : DeviceState (List Note)) → IsKept d → IsClass major i quantum d → Moves d d
  still d kept h x y is at calm = subst IsCalmAt (same_Some x y (sym is ∙ at)) calm

  same-in : (d : DeviceState (List Note)) (x : ClassAt) → IsClass major i quantum d → class_in major i d ≡ Some x → quantum_of i x.schedule.classes ≡ quantum
  same-in d x h is = ap (λ (c : ClassAt). quantum_of i c.schedule.classes) (sym (same_Some h.class x (sym h.there ∙ is))) ∙ h.same_quantum

  one : (d : DeviceState (List Note)) (e : Event) → IsKept d → IsEvent e → IsClass major i quantum d → IsClass major i quantum (step history d e).device → Moves d (step history d e).device
  one d e kept event h k x y is at =
      calm-step d e x y kept event (step-kept d e kept event) is at (same-in d x h is) (same-in (step history d e).device y k at)

  more : (a b c : DeviceState (List Note)) → IsClass major i quantum a → IsClass major i quantum b → Moves a b → Moves b c → Moves a c
  more a b c h k f g x z is at calm = g k.class z k.there at (f x k.class is k.there calm)

pub classes-are-calm : (settings : DeviceSettings) → IsInRange settings → ClassesAreCalm settings
classes-are-calm settings range before since major i quantum first last all_before all_since there is empty at queued =
    let start : DeviceState (List Note) = device_after settings before in
    let end : DeviceState (List Note) = device_after settings (before ++ since) in
    let kept : IsKept start = replay-kept settings before range all_before in
    let kept_last : IsKept end = replay-kept settings (before ++ since) range (All-append IsEvent before since all_before all_since) in
    let a = class-node major i start first is in
    let law = drr-lawful major start a.node first.schedule kept a.there a.discipline in
    let asleep : is_active i first.schedule.active ≡ false =
    active-of (λ c. is_active c first.schedule.active) first.schedule.classes (children a.node) i first.child law.exact a.child ∙ ap not empty in
    let m =
    moves (IsClass major i quantum) (Moves major i quantum) (still major i quantum) (one major i quantum) (more major i quantum) settings before
    since range all_before all_since there first last is at in
    m (λ active. absurd (false≢true (sym asleep ∙ active))) (backlogged-active major i end last kept_last (class-node major i end last at) queued)
