-- A drr that is the child of a class of another, over a stretch in which a packet waits in it: what the outer drr hands up is bounded by a turn of
-- its own for what the inner one hands up.
use Rattle.std.proofs.Common.{◌≡◌, ℕ, suc, ◌+◌, ◌-◌, ◌<◌, ◌≤◌, ◌⊎◌, inl, inr, List, [], ◌∷◌, ◌++◌, refl, sym, ap, subst, ◌∙◌, Some, arith}
use Rattle.std.specs.Prelude.{All, false}
use Rattle.std.specs.Option.{option_map_or}
use Rattle.std.proofs.lemmas.Bool.{cases_lt}
use Rattle.std.proofs.lemmas.List.{append-nil, append_assoc}
use Rattle.std.proofs.lemmas.List.Elements.{All-append, All-cons, All-nil}
use Rattle.std.proofs.lemmas.List.Sums.{sum_by-append}
use Rattle.std.proofs.lemmas.Option.{same_Some}
use Rattle.q_drr.specs.Schedule.{quantum_of}
use Rattle.q_model.specs.declared.event.Event.{Event}
use Rattle.q_model.specs.Ask.{ask}
use Rattle.q_model.specs.Beneath.{is_empty}
use Rattle.q_model.specs.Events.{IsEvent}
use Rattle.q_model.specs.Node.{Node, shape}
use Rattle.q_model.specs.Settings.{DeviceSettings, IsInRange}
use Rattle.q_model.specs.Step.{DeviceState, step}
use Rattle.q_model.specs.Stretches.{sent_by, bytes_sent, grants_to, length_held, ClassAt, class_in, qdisc, IsBackloggedClass, Throughout}
use Rattle.q_model.specs.Tally.{Note, history}
use Rattle.q_invariants.proofs.Along.{counted}
use Rattle.q_invariants.proofs.Replays.{IsKept, replay-kept}
use Rattle.q_invariants.proofs.tree.Members.{All-front}
use Rattle.q_device.specs.promises.Worst.{most_of_turn}
use Rattle.q_device.specs.Sharing.{device_after}
use Rattle.q_laws.specs.nested.NestedTurn.{reached_by, share_at}
use Rattle.q_laws.specs.share.InTime.{IsBeneath, Level}
use Rattle.q_laws.specs.share.Service.{given_so_far, class_sent, HasClasses, IsClass, all_sent}
use Rattle.q_laws.specs.turn.Turn.{shown_by}
use Rattle.q_laws.proofs.nested.NestAsks.{gives-shown, grant-reaches}
use Rattle.q_laws.proofs.share.LeastShare.{drr-node}
use Rattle.q_laws.proofs.share.PassedStretches.{drr-passes}
use Rattle.q_laws.proofs.share.ServiceStretches.{given-at}
use Rattle.q_laws.proofs.turn.MostTurns.{classes-send-at-most}
use Rattle.q_laws.proofs.turn.TurnBounds.{DrrShape}
use Rattle.q_laws.proofs.turn.TurnStretches.{StaysWithin}
use Rattle.q_laws.proofs.turn.TurnWaits.{one-more, reached, reaches, step-serves}

-- ---- what the class of the outer drr sends

-- drr k is the child of a class of drr l
abbrev pub IsPair : Level → Level → DeviceState (List Note) → Type 0
IsPair l k d = HasClasses l.major l.classes d × IsClass l.major l.minor l.quantum d × IsBeneath l k d × HasClasses k.major k.classes d

-- something is queued in a qdisc
abbrev pub IsFull : ℕ → DeviceState (List Note) → Type 0
IsFull major d = (m : Node (List Note)) → qdisc major d ≡ Some m → is_empty m ≡ false

module _ (l k : Level) where
  -- in one event
  record EventSends (d next : DeviceState (List Note)) (n m : Node (List Note)) : Type 0 where
    rises : bytes_sent n.memory ≤ bytes_sent m.memory
    gain : given_so_far l.major l.minor next - given_so_far l.major l.minor d ≡ bytes_sent m.memory - bytes_sent n.memory

  event-sends : (d : DeviceState (List Note)) (e : Event) → IsKept d → IsEvent e → IsPair l k d → IsPair l k (step history d e).device
      → (n m : Node (List Note)) → qdisc k.major d ≡ Some n → qdisc k.major (step history d e).device ≡ Some m
      → EventSends d (step history d e).device n m
  event-sends d e kept happens h j n m is at =
      let next : DeviceState (List Note) = (step history d e).device in
      let p = drr-passes k.major k.classes d e kept happens h.3 j.3 n m is at in
      let sent : bytes_sent m.memory ≡ bytes_sent n.memory + bytes_sent p.notes = ap bytes_sent p.memory ∙ sum_by-append sent_by n.memory p.notes in
      let before : given_so_far l.major l.minor d ≡ bytes_sent n.memory =
      given-at l.major l.minor d h.2.class h.2.there ∙ ap (λ (x : Node (List Note)). bytes_sent x.memory) (same_Some h.2.class.child n (sym h.2.child ∙ is)) in
      let after : given_so_far l.major l.minor next ≡ bytes_sent m.memory =
      given-at l.major l.minor next j.2.class j.2.there ∙ ap (λ (x : Node (List Note)). bytes_sent x.memory) (same_Some j.2.class.child m (sym j.2.child ∙ at)) in
      record { rises = omega (arith, sent); gain = omega (arith, before, after) }

  -- over a stretch
  abbrev Sums : DeviceState (List Note) → List Event → DeviceState (List Note) → Type 0
  Sums d during end =
      (n m : Node (List Note)) → qdisc k.major d ≡ Some n → qdisc k.major end ≡ Some m
      → bytes_sent n.memory + class_sent l.major l.minor d during ≡ bytes_sent m.memory

  sums-still : (d : DeviceState (List Note)) → IsKept d → IsPair l k d → Sums d [] d
  sums-still d kept h n m is at = omega (arith, ap (λ (x : Node (List Note)). bytes_sent x.memory) (same_Some n m (sym is ∙ at)))

  sums-more : (d : DeviceState (List Note)) (e : Event) (during : List Event) (end : DeviceState (List Note)) → IsKept d → IsEvent e → IsPair l k d
      → IsPair l k (step history d e).device → Sums (step history d e).device during end → Sums d (e ∷ during) end
  sums-more d e during end kept happens h j on n o is at =
      let m : Node (List Note) = j.2.class.child in
      let s = event-sends d e kept happens h j n m is j.2.child in
      let rest = on m o j.2.child at in
      let rises = s.rises in
      let gain = s.gain in
      omega (arith, rest, rises, gain)

  -- ---- where the class is granted

  -- drr k had handed up `base`, and reaches no more than `bytes` above that
  module _ (base bytes : ℕ) where
    abbrev Within : DeviceState (List Note) → Type 0
    Within d = IsPair l k d × ((m : Node (List Note)) → qdisc k.major d ≡ Some m → reached m ≤ base + bytes)

    abbrev Moves : DeviceState (List Note) → List Event → DeviceState (List Note) → Type 0
    Moves d during end =
        (sent : ℕ) (n : Node (List Note)) → qdisc k.major d ≡ Some n → bytes_sent n.memory ≡ base + sent
        → StaysWithin l.major l.minor bytes sent d during

    still : (d : DeviceState (List Note)) → IsKept d → Within d → Moves d [] d
    still d kept h sent n is eq = tt

    more : (d : DeviceState (List Note)) (e : Event) (during : List Event) (end : DeviceState (List Note)) → IsKept d → IsEvent e → Within d
        → Within (step history d e).device → Moves (step history d e).device during end → Moves d (e ∷ during) end
    more d e during end kept happens h j on sent n is eq =
        let next : DeviceState (List Note) = (step history d e).device in
        let s = event-sends d e kept happens h.0 j.0 n j.0.2.class.child is j.0.2.child in
        let rises = s.rises in
        let gain = s.gain in
        (granted, on (sent + (given_so_far l.major l.minor next - given_so_far l.major l.minor d)) j.0.2.class.child j.0.2.child (omega (arith, rises, gain, eq)))
      where
        granted : (x y : ClassAt) (c : ℕ) → class_in l.major l.minor d ≡ Some x → class_in l.major l.minor (step history d e).device ≡ Some y
            → grants_to l.minor y.noted ≡ grants_to l.minor x.noted + suc c → sent + shown_by (step history d e).device.clock x ≤ bytes
        granted x y c is_x at_y more_grants =
            let drr = drr-node k.major k.classes d h.0.3 in
            let child_x : drr.node ≡ x.child =
            same_Some drr.node h.0.2.class.child (sym drr.there ∙ h.0.2.child) ∙ ap (λ (z : ClassAt). z.child) (same_Some h.0.2.class x (sym h.0.2.there ∙ is_x)) in
            let shape_x : DrrShape x.child = (drr.schedule, ap (λ (q : Node (List Note)). q.own.discipline) (sym child_x) ∙ drr.discipline) in
            let r = grant-reaches l.major l.minor l.classes d e kept happens h.0.0 j.0.0 x y is_x at_y shape_x c more_grants in
            let bound = j.1 j.0.2.class.child j.0.2.child in
            let sent_x : bytes_sent n.memory ≡ bytes_sent x.child.memory =
            ap (λ (q : Node (List Note)). bytes_sent q.memory) (same_Some n drr.node (sym is ∙ drr.there) ∙ child_x) in
            let reached_y : reached j.0.2.class.child ≡ reached y.child =
            ap (λ (z : ClassAt). reached z.child) (same_Some j.0.2.class y (sym j.0.2.there ∙ at_y)) in
            omega (arith, r, bound, sent_x, reached_y, eq)

-- ---- while something is queued in the inner drr

-- `inner` is drr k at first, which reaches no more than `bytes` above what it had handed up
module _ (settings : DeviceSettings) (range : IsInRange settings) (before during : List Event) (l k : Level) (bytes : ℕ) (earlier : All IsEvent before)
    (happen : All IsEvent during) (stays : Throughout (IsPair l k) settings before during) (inner : Node (List Note))
    (inner-is : qdisc k.major (device_after settings before) ≡ Some inner)
    (inner-reached : (seen later : List Event) → seen ++ later ≡ during → (m : Node (List Note)) → qdisc k.major (device_after settings (before ++ seen)) ≡ Some m
    → reached m ≤ bytes_sent inner.memory + bytes) where
  abbrev start : DeviceState (List Note)
  start = device_after settings before

  abbrev at : List Event → DeviceState (List Note)
  at seen = device_after settings (before ++ seen)

  front-happens : (seen later : List Event) → seen ++ later ≡ during → All IsEvent seen
  front-happens seen later e = All-front IsEvent seen later (subst (All IsEvent) (sym e) happen)

  so-far : (P : DeviceState (List Note) → Type 0) → Throughout P settings before during → (seen later : List Event) → seen ++ later ≡ during
      → Throughout P settings before seen
  so-far P h seen later e xs ys join = h xs (ys ++ later) (sym (append_assoc xs ys later) ∙ ap (λ zs. zs ++ later) join ∙ e)

  sent-since : (seen later : List Event) → seen ++ later ≡ during → (m : Node (List Note)) → qdisc k.major (device_after settings (before ++ seen)) ≡ Some m
      → bytes_sent inner.memory + class_sent l.major l.minor (device_after settings before) seen ≡ bytes_sent m.memory
  sent-since seen later e m is =
      counted (IsPair l k) (Sums l k) (sums-still l k) (sums-more l k) settings before seen range earlier (front-happens seen later e)
      (so-far (IsPair l k) stays seen later e) inner m inner-is is

  backlogged : (seen later : List Event) → seen ++ later ≡ during → IsFull k.major (device_after settings (before ++ seen))
      → IsBackloggedClass l.major l.minor l.quantum (device_after settings (before ++ seen))
  backlogged seen later e full =
      let b = (stays seen later e).2 in
      let c = (stays seen later e).1 in
      record {
        class = b.class;
        there = b.there;
        same_quantum = ap (λ (x : ClassAt). quantum_of l.minor x.schedule.classes) (same_Some b.class c.class (sym b.there ∙ c.there)) ∙ c.same_quantum;
        queued = full b.class.child b.child;
      }

  -- in a state up to which there is
  module _ (seen later : List Event) (e : seen ++ later ≡ during) (full : Throughout (IsFull k.major) settings before seen) where
    waited : Throughout (IsBackloggedClass l.major l.minor l.quantum) settings before seen
    waited xs ys join = backlogged xs (ys ++ later) (sym (append_assoc xs ys later) ∙ ap (λ zs. zs ++ later) join ∙ e) (full xs ys join)

    -- what all classes of drr l have sent, and what the class with drr k sends yet
    outer-sends : (next : ℕ) → class_sent l.major l.minor (device_after settings before) seen + next ≤ bytes
        → all_sent l.major l.classes (device_after settings before) seen + next ≤ most_of_turn settings.mtu bytes (share_at l)
    outer-sends next own =
        let has : Throughout (HasClasses l.major l.classes) settings before seen = λ xs ys join. (so-far (IsPair l k) stays seen later e xs ys join).0 in
        let nothing : bytes_sent inner.memory ≡ bytes_sent inner.memory + 0 = omega arith in
        let within = counted (Within l k (bytes_sent inner.memory) bytes) (Moves l k (bytes_sent inner.memory) bytes) (still l k (bytes_sent inner.memory) bytes)
        (more l k (bytes_sent inner.memory) bytes) settings before seen range earlier (front-happens seen later e)
        (λ xs ys join. (
          so-far (IsPair l k) stays seen later e xs ys join,
          inner-reached xs (ys ++ later) (sym (append_assoc xs ys later) ∙ ap (λ zs. zs ++ later) join ∙ e),
        )) 0 inner inner-is nothing in
        let b = (stays seen later e).2 in
        classes-send-at-most settings range before seen l.major l.minor l.quantum bytes l.classes earlier (front-happens seen later e) has waited within b.class
        b.there next own

    -- what drr l has reached
    outer-reached : (n m : Node (List Note)) → qdisc l.major (device_after settings before) ≡ Some n → qdisc l.major (device_after settings (before ++ seen)) ≡ Some m
        → reached m ≤ reached n + all_sent l.major l.classes (device_after settings before) seen
    outer-reached n m is there =
        reaches l.major l.minor l.classes settings before seen range earlier (front-happens seen later e)
        (λ xs ys join. (so-far (IsPair l k) stays seen later e xs ys join).0) n m is there

    still-waits : (n m : Node (List Note)) → qdisc l.major (device_after settings before) ≡ Some n → qdisc l.major (device_after settings (before ++ seen)) ≡ Some m
        → reached m ≤ reached n + most_of_turn settings.mtu bytes (share_at l)
    still-waits n m is there =
        let b = (stays seen later e).2 in
        let since = sent-since seen later e b.class.child b.child in
        let most = inner-reached seen later e b.class.child b.child in
        let sent = outer-sends 0 (omega (arith, since, most)) in
        let r = outer-reached n m is there in
        omega (arith, sent, r)

pub reached-at : (major : ℕ) (d : DeviceState (List Note)) (n : Node (List Note)) → qdisc major d ≡ Some n → reached_by major d ≡ reached n
reached-at major d n is = ap (λ o. option_map_or (λ (n : Node (List Note)). bytes_sent n.memory + length_held n.own.held) o 0) is

-- with an event after which something is queued in drr k still, or at which it hands something up
module _ (settings : DeviceSettings) (range : IsInRange settings) (before during : List Event) (e : Event) (l k : Level) (bytes : ℕ) (earlier : All IsEvent before)
    (happen : All IsEvent during) (happens : IsEvent e) (stays : Throughout (IsPair l k) settings before (during ++ e ∷ [])) (inner : Node (List Note))
    (inner-is : qdisc k.major (device_after settings before) ≡ Some inner)
    (inner-reached : (seen later : List Event) → seen ++ later ≡ during ++ e ∷ [] → (m : Node (List Note))
    → qdisc k.major (device_after settings (before ++ seen)) ≡ Some m → reached m ≤ bytes_sent inner.memory + bytes)
    (full : Throughout (IsFull k.major) settings before during)
    (next-full : (n m : Node (List Note)) → qdisc k.major (device_after settings (before ++ during)) ≡ Some n
    → qdisc k.major (device_after settings (before ++ (during ++ e ∷ []))) ≡ Some m → bytes_sent m.memory ≤ bytes_sent n.memory
    → Throughout (IsFull k.major) settings before (during ++ e ∷ [])) where
  happen_all : All IsEvent (during ++ e ∷ [])
  happen_all = All-append IsEvent during (e ∷ []) happen (All-cons IsEvent e [] happens (All-nil IsEvent))

  all : (during ++ e ∷ []) ++ [] ≡ during ++ e ∷ []
  all = append-nil (during ++ e ∷ [])

  same : device_after settings (before ++ (during ++ e ∷ [])) ≡ (step history (device_after settings (before ++ during)) e).device
  same = one-more settings before during e

  kept : IsKept (device_after settings (before ++ during))
  kept = replay-kept settings (before ++ during) range (All-append IsEvent before during earlier happen)

  now : IsPair l k (device_after settings (before ++ during))
  now = stays during (e ∷ []) refl

  then : IsPair l k (step history (device_after settings (before ++ during)) e).device
  then = subst (IsPair l k) (one-more settings before during e) (stays (during ++ e ∷ []) [] (append-nil (during ++ e ∷ [])))

  abbrev child_now : Node (List Note)
  child_now = now.2.class.child

  abbrev child_then : Node (List Note)
  child_then = then.2.class.child

  given_now : given_so_far l.major l.minor (device_after settings (before ++ during)) ≡ bytes_sent now.2.class.child.memory
  given_now = given-at l.major l.minor (device_after settings (before ++ during)) now.2.class now.2.there

  given_then : given_so_far l.major l.minor (step history (device_after settings (before ++ during)) e).device ≡ bytes_sent then.2.class.child.memory
  given_then = given-at l.major l.minor (step history (device_after settings (before ++ during)) e).device then.2.class then.2.there

  there : qdisc k.major (device_after settings (before ++ (during ++ e ∷ []))) ≡ Some then.2.class.child
  there = ap (qdisc k.major) (one-more settings before during e) ∙ then.2.child

  -- drr k hands up nothing
  goes-on : bytes_sent then.2.class.child.memory ≤ bytes_sent now.2.class.child.memory → (f o : Node (List Note)) → qdisc l.major (device_after settings before) ≡ Some f
      → qdisc l.major (device_after settings (before ++ (during ++ e ∷ []))) ≡ Some o → reached o ≤ reached f + most_of_turn settings.mtu bytes (share_at l)
  goes-on silent f o is at =
      still-waits settings range before (during ++ e ∷ []) l k bytes earlier happen_all stays inner inner-is inner-reached (during ++ e ∷ []) [] all
      (next-full child_now child_then now.2.child there silent) f o is at

  -- drr k hands something up
  module _ (handed : bytes_sent now.2.class.child.memory < bytes_sent then.2.class.child.memory) where
    gives : bytes_sent then.2.class.child.memory ≡ bytes_sent now.2.class.child.memory + shown_by (step history (device_after settings (before ++ during)) e).device.clock now.2.class
    gives = by (gives-shown k.major (device_after settings (before ++ during)) e kept happens child_now child_then now.2.child then.2.child)
      where
        by : (bytes_sent then.2.class.child.memory ≡ bytes_sent now.2.class.child.memory)
            ⊎ (bytes_sent then.2.class.child.memory ≡ bytes_sent now.2.class.child.memory
            + length_held (ask (step history (device_after settings (before ++ during)) e).device.clock (shape now.2.class.child)).shown)
            → bytes_sent then.2.class.child.memory ≡ bytes_sent now.2.class.child.memory + shown_by (step history (device_after settings (before ++ during)) e).device.clock now.2.class
        by (inl none) = absurd (omega (arith, handed, none))
        by (inr given) = given

    which : (f n m : Node (List Note)) → qdisc l.major (device_after settings before) ≡ Some f → qdisc l.major (device_after settings (before ++ during)) ≡ Some n
        → (reached m ≤ reached n) ⊎ (reached m ≤ bytes_sent n.memory + shown_by (step history (device_after settings (before ++ during)) e).device.clock now.2.class)
        ⊎ (given_so_far l.major l.minor (step history (device_after settings (before ++ during)) e).device ≡ given_so_far l.major l.minor (device_after settings (before ++ during)))
        → reached m ≤ reached f + most_of_turn settings.mtu bytes (share_at l)
    which f n m is at (inl less) =
        let r = still-waits settings range before (during ++ e ∷ []) l k bytes earlier happen_all stays inner inner-is inner-reached during (e ∷ []) refl full f n is at in
        omega (arith, less, r)
    which f n m is at (inr (inr silent)) = absurd (omega (arith, handed, silent, given_now, given_then))
    which f n m is at (inr (inl shown)) =
        let next : DeviceState (List Note) = (step history (device_after settings (before ++ during)) e).device in
        let most = inner-reached (during ++ e ∷ []) [] all child_then there in
        let since = sent-since settings range before (during ++ e ∷ []) l k bytes earlier happen_all stays inner inner-is inner-reached during (e ∷ []) refl child_now now.2.child in
        let sent = outer-sends settings range before (during ++ e ∷ []) l k bytes earlier happen_all stays inner inner-is inner-reached during (e ∷ []) refl full
        (shown_by next.clock now.2.class) (omega (arith, most, since, gives)) in
        let r = outer-reached settings range before (during ++ e ∷ []) l k bytes earlier happen_all stays inner inner-is inner-reached during (e ∷ []) refl full f n is at in
        omega (arith, shown, sent, r)

    leaves : (f o : Node (List Note)) → qdisc l.major (device_after settings before) ≡ Some f → qdisc l.major (device_after settings (before ++ (during ++ e ∷ []))) ≡ Some o
        → reached o ≤ reached f + most_of_turn settings.mtu bytes (share_at l)
    leaves f o is at =
        let d : DeviceState (List Note) = device_after settings (before ++ during) in
        let n = drr-node l.major l.classes d now.0 in
        let s = step-serves l.major l.minor l.classes d e kept happens now.0 then.0 n.node o n.there (sym (ap (qdisc l.major) same) ∙ at) now.2.class then.2.class
        now.2.there then.2.there in
        which f n.node o is n.there s.which

  pub pair-bounded : (f o : Node (List Note)) → qdisc l.major (device_after settings before) ≡ Some f
      → qdisc l.major (device_after settings (before ++ (during ++ e ∷ []))) ≡ Some o → reached o ≤ reached f + most_of_turn settings.mtu bytes (share_at l)
  pair-bounded f o is at = elim (cases_lt (bytes_sent child_now.memory) (bytes_sent child_then.memory)) [
    | inl handed ↦ leaves handed f o is at
    | inr silent ↦ goes-on silent f o is at
  ]
