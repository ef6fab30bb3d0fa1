-- A path of drrs, over a stretch in which a packet waits on it: what each drr hands up is bounded by its turn for what the one below hands up.
use Rattle.std.proofs.Common.{◌≡◌, ℕ, ◌+◌, ◌<◌, ◌≤◌, ◌⊎◌, inl, inr, List, [], ◌∷◌, ◌++◌, length, map, refl, sym, ap, subst, ◌∙◌, Option, Some, None, option_and_then, arith}
use Rattle.std.specs.Prelude.{All, slice_get}
use Rattle.std.proofs.lemmas.Bool.{cases_lt}
use Rattle.std.proofs.lemmas.List.{append-nil, append_assoc, length-append}
use Rattle.std.proofs.lemmas.List.Elements.{All-append, All-cons, All-head, All-nil, All-tail}
use Rattle.std.proofs.lemmas.Option.{same_Some, option_and_then_some}
use Rattle.q_packet.specs.Descriptor.{Descriptor}
use Rattle.q_drr.specs.Schedule.{Class}
use Rattle.q_model.specs.declared.event.Event.{Event}
use Rattle.q_model.specs.Events.{IsEvent}
use Rattle.q_model.specs.Node.{Node, children}
use Rattle.q_model.specs.Replay.{Replay, nothing_yet, replay}
use Rattle.q_model.specs.Settings.{DeviceSettings, IsInRange}
use Rattle.q_model.specs.Step.{DeviceState, step}
use Rattle.q_model.specs.Stretches.{bytes_sent, length_held, qdisc, Throughout}
use Rattle.q_model.specs.Tally.{Note, history}
use Rattle.q_invariants.proofs.Along.{replay-twice}
use Rattle.q_invariants.proofs.class.ClassChildren.{child-at, place_in}
use Rattle.q_invariants.proofs.Replays.{IsKept, replay-kept}
use Rattle.q_invariants.proofs.tree.Members.{All-front}
use Rattle.q_device.specs.Sharing.{device_after}
use Rattle.q_device.proofs.ClassStretches.{at-start}
use Rattle.q_device.proofs.ReplayLemmas.{replay_from-append}
use Rattle.q_laws.specs.nested.NestedTurn.{HoldsPacket, IsPath, KeepsBelow, NestedTurnsAreBounded, StaysOn, bytes_below, most_of_turns, share_at}
use Rattle.q_laws.specs.share.InTime.{Level, last_level}
use Rattle.q_laws.specs.share.Service.{HasClasses, IsClass}
use Rattle.q_laws.specs.turn.FifoTurn.{KeepFifo}
use Rattle.q_laws.specs.turn.TurnWorst.{IsWaiting}
use Rattle.q_laws.proofs.nested.NestTurns.{IsFull, IsPair, pair-bounded, reached-at}
use Rattle.q_laws.proofs.nested.NestWaits.{event-keeps, held-full, waits-on}
use Rattle.q_laws.proofs.share.LeastShare.{drr-node}
use Rattle.q_laws.proofs.share.PromiseWays.{queued-above}
use Rattle.q_laws.proofs.share.ShareInTime.{held-in}
use Rattle.q_laws.proofs.turn.FifoTurns.{keep-fifo, keep-rest, most-rises}
use Rattle.q_laws.proofs.turn.MostTurns.{quantum-some}
use Rattle.q_laws.proofs.turn.TurnAsks.{child-is}
use Rattle.q_laws.proofs.turn.TurnBounds.{all-reached, held-queued, send-at-most, start-drr, waiting-queued}
use Rattle.q_laws.proofs.turn.TurnWaits.{front-of, one-more, one-more-holds, reached, same-first, same-others, step-serves}

-- ---- lists

-- a front of a list in two parts ends in the first, or in the second
split-at : (xs ys ps qs : List Event) (e : Event) → xs ++ ys ≡ ps ++ e ∷ qs
    → ((zs : List Event) × (xs ++ zs ≡ ps)) ⊎ ((zs : List Event) × ((xs ≡ ps ++ e ∷ zs) × (zs ++ ys ≡ qs)))
split-at [] ys ps qs e h = inl (ps, refl)
split-at (x ∷ xs) ys [] qs e h =
    inr (xs, (ap (λ (z : Event). z ∷ xs) (same-first x e (xs ++ ys) qs h), same-others x e (xs ++ ys) qs h))
split-at (x ∷ xs) ys (p ∷ ps) qs e h =
    by (split-at xs ys ps qs e (same-others x p (xs ++ ys) (ps ++ e ∷ qs) h)) (same-first x p (xs ++ ys) (ps ++ e ∷ qs) h)
  where
    by : ((zs : List Event) × (xs ++ zs ≡ ps)) ⊎ ((zs : List Event) × ((xs ≡ ps ++ e ∷ zs) × (zs ++ ys ≡ qs))) → x ≡ p
        → ((zs : List Event) × ((x ∷ xs) ++ zs ≡ p ∷ ps)) ⊎ ((zs : List Event) × ((x ∷ xs ≡ (p ∷ ps) ++ e ∷ zs) × (zs ++ ys ≡ qs)))
    by (inl o) same = inl (o.0, ap (λ (z : Event). z ∷ (xs ++ o.0)) same ∙ ap (λ (zs : List Event). p ∷ zs) o.1)
    by (inr o) same = inr (o.0, (ap (λ (z : Event). z ∷ xs) same ∙ ap (λ (zs : List Event). p ∷ zs) o.1.0, o.1.1))

-- a list is empty, or has a last one
last-of : (xs : List Event) → (xs ≡ []) ⊎ ((ys : List Event) × ((y : Event) × (xs ≡ ys ++ y ∷ [])))
last-of [] = inl refl
last-of (x ∷ xs) = by (last-of xs)
  where
    by : (xs ≡ []) ⊎ ((ys : List Event) × ((y : Event) × (xs ≡ ys ++ y ∷ []))) → (x ∷ xs ≡ []) ⊎ ((ys : List Event) × ((y : Event) × (x ∷ xs ≡ ys ++ y ∷ [])))
    by (inl none) = inr ([], (x, ap (λ (zs : List Event). x ∷ zs) none))
    by (inr o) = inr (x ∷ o.0, (o.1.0, ap (λ (zs : List Event). x ∷ zs) o.1.1))

-- what is before an event of a list with one more at its end is a front of the list
front-before : (seen later during : List Event) (x e : Event) → seen ++ x ∷ later ≡ during ++ e ∷ [] → (zs : List Event) × (seen ++ zs ≡ during)
front-before seen later during x e h = by (front-of seen (x ∷ later) during e h)
  where
    by : ((zs : List Event) × (seen ++ zs ≡ during)) ⊎ (seen ≡ during ++ e ∷ []) → (zs : List Event) × (seen ++ zs ≡ during)
    by (inl o) = o
    by (inr same) =
        let longer = ap (λ (zs : List Event). length zs) h ∙ ap (λ (zs : List Event). length zs) (sym same) in
        absurd (omega (arith, longer, length-append seen (x ∷ later)))

-- ---- while a drr holds a packet it hands up no more than that

module _ (settings : DeviceSettings) (range : IsInRange settings) (major i quantum : ℕ) (classes : List Class) where
  abbrev Stands : DeviceState (List Note) → Type 0
  Stands d = HasClasses major classes d × IsClass major i quantum d

  held-reached : (before during : List Event) → All IsEvent before → All IsEvent during → Throughout Stands settings before during
      → ((seen : List Event) (x : Event) (later : List Event) → seen ++ x ∷ later ≡ during → HoldsPacket major (device_after settings (before ++ seen)))
      → (n m : Node (List Note)) → qdisc major (device_after settings before) ≡ Some n
      → qdisc major (device_after settings (before ++ during)) ≡ Some m → reached m ≤ reached n
  held-reached before [] earlier happen stands holds n m is at =
      let same : n ≡ m =
      same_Some n m (sym is ∙ subst (λ (xs : List Event). qdisc major (device_after settings xs) ≡ Some m) (append-nil before) at) in
      omega (arith, ap reached same)
  held-reached before (x ∷ during) earlier happen stands holds n m is at =
      let d : DeviceState (List Note) = device_after settings before in
      let next : DeviceState (List Note) = (step history d x).device in
      let happens : IsEvent x = All-head IsEvent x during happen in
      let same : device_after settings (before ++ x ∷ []) ≡ next =
      ap (λ (r : Replay (List Note)). r.device) (replay_from-append history (nothing_yet history settings) before x) in
      let here = subst (λ (xs : List Event). Stands (device_after settings xs)) (append-nil before) (stands [] (x ∷ during) refl) in
      let then = subst Stands same (stands (x ∷ []) during refl) in
      let middle = drr-node major classes next then.0 in
      let held = subst (λ (xs : List Event). HoldsPacket major (device_after settings xs)) (append-nil before) (holds [] x during refl) in
      let s = step-serves major i classes d x (replay-kept settings before range earlier) happens here.0 then.0 n middle.node is middle.there
      here.1.class then.1.class here.1.there then.1.there in
      let less = s.holds held.0 (sym (ap (option_and_then (λ (q : Node (List Note)). q.own.held)) is) ∙ held.1) in
      let rest = held-reached (before ++ x ∷ []) during (All-append IsEvent before (x ∷ []) earlier (All-cons IsEvent x [] happens (All-nil IsEvent)))
      (All-tail IsEvent x during happen)
      (λ seen later e. subst (λ (xs : List Event). Stands (device_after settings xs)) (sym (append_assoc before (x ∷ []) seen))
      (stands (x ∷ seen) later (ap (λ (xs : List Event). x ∷ xs) e)))
      (λ seen y later e. subst (λ (xs : List Event). HoldsPacket major (device_after settings xs)) (sym (append_assoc before (x ∷ []) seen))
      (holds (x ∷ seen) y later (ap (λ (xs : List Event). x ∷ xs) e)))
      middle.node m (ap (qdisc major) same ∙ middle.there)
      (subst (λ (xs : List Event). qdisc major (device_after settings xs) ≡ Some m) (sym (append_assoc before (x ∷ []) during)) at) in
      omega (arith, less, rest)

-- ---- a path

All-rest : (xs ys : List Event) → All IsEvent (xs ++ ys) → All IsEvent ys
All-rest [] ys h = h
All-rest (x ∷ xs) ys h = All-rest xs ys (All-tail IsEvent x (xs ++ ys) h)

-- the drr at its top, and the class on the path
pub path-has : (l : Level) (levels : List Level) (d : DeviceState (List Note)) → IsPath l levels d → HasClasses l.major l.classes d
path-has l [] d h = h.0
path-has l (k ∷ levels) d h = h.0

path-class : (l : Level) (levels : List Level) (d : DeviceState (List Note)) → IsPath l levels d → IsClass l.major l.minor l.quantum d
path-class l [] d h = record { class = h.1.class; there = h.1.there; same_quantum = h.1.same_quantum }
path-class l (k ∷ levels) d h = h.1

path-pair : (l k : Level) (levels : List Level) (d : DeviceState (List Note)) → IsPath l (k ∷ levels) d → IsPair l k d
path-pair l k levels d h = (h.0, h.1, h.2, path-has k levels d h.3)

module _ (settings : DeviceSettings) (range : IsInRange settings) (before : List Event) (bytes : ℕ) (earlier : All IsEvent before) where
  abbrev start : DeviceState (List Note)
  start = device_after settings before

  abbrev at : List Event → DeviceState (List Note)
  at seen = device_after settings (before ++ seen)

  -- what is asked of a stretch
  pub record IsStretch (l : Level) (levels : List Level) (events : List Event) : Type 0 where
    pub happen : All IsEvent events
    pub path : Throughout (IsPath l levels) settings before events
    pub keep : KeepsBelow l levels (device_after settings before) events
    pub few : bytes_below l levels (device_after settings before) ≤ bytes

  stretch-front : (l : Level) (levels : List Level) (seen later events : List Event) → seen ++ later ≡ events → IsStretch l levels events → IsStretch l levels seen
  stretch-front l levels seen later events e s = record {
    happen = All-front IsEvent seen later (subst (All IsEvent) (sym e) s.happen);
    path = λ xs ys join. s.path xs (ys ++ later) (sym (append_assoc xs ys later) ∙ ap (λ (zs : List Event). zs ++ later) join ∙ e);
    keep = keep-fifo (last_level l levels).major (last_level l levels).minor start seen later
        (subst (KeepFifo (last_level l levels).major (last_level l levels).minor start) (sym e) s.keep);
    few = s.few;
  }

  stretch-below : (l k : Level) (levels : List Level) (events : List Event) → IsStretch l (k ∷ levels) events → IsStretch k levels events
  stretch-below l k levels events s = record { happen = s.happen; path = λ xs ys join. (s.path xs ys join).3; keep = s.keep; few = s.few }

  kept-at : (l : Level) (levels : List Level) (events : List Event) → IsStretch l levels events → IsKept (device_after settings (before ++ events))
  kept-at l levels events s = replay-kept settings (before ++ events) range (All-append IsEvent before events earlier s.happen)

  end-path : (l : Level) (levels : List Level) (events : List Event) → IsStretch l levels events → IsPath l levels (device_after settings (before ++ events))
  end-path l levels events s = s.path events [] (append-nil events)

  -- ---- fronts

  stays-front : (l : Level) (levels : List Level) (seen later events : List Event) → seen ++ later ≡ events → StaysOn l levels settings before events
      → StaysOn l levels settings before seen
  stays-front l [] seen later events e h = λ xs ys join. h xs (ys ++ later) (sym (append_assoc xs ys later) ∙ ap (λ (zs : List Event). zs ++ later) join ∙ e)
  stays-front l (k ∷ levels) seen later events e (inl h) = inl (stays-front k levels seen later events e h)
  stays-front l (k ∷ levels) seen later events e (inr t) =
      by (λ zs join. stays-front k levels seen zs t.during join t.waits) (split-at seen later t.during t.later t.taken_at (e ∙ sym t.parts))
    where
      by : ((zs : List Event) → seen ++ zs ≡ t.during → StaysOn k levels settings before seen)
          → ((zs : List Event) × (seen ++ zs ≡ t.during)) ⊎ ((zs : List Event) × ((seen ≡ t.during ++ t.taken_at ∷ zs) × (zs ++ later ≡ t.later)))
          → StaysOn l (k ∷ levels) settings before seen
      by front (inl o) = inl (front o.0 o.1)
      by front (inr o) = inr (record {
        during = t.during;
        taken_at = t.taken_at;
        later = o.0;
        parts = sym o.1.0;
        waits = t.waits;
        holds = λ xs ys join. t.holds xs (ys ++ later) (sym (append_assoc xs ys later) ∙ ap (λ (zs : List Event). zs ++ later) join ∙ o.1.1);
      })

  -- where the drr that took it stands last
  taken-end : (during later events : List Event) (e : Event) → during ++ e ∷ later ≡ events → (before ++ (during ++ e ∷ [])) ++ later ≡ before ++ events
  taken-end during later events e parts =
      append_assoc before (during ++ e ∷ []) later ∙ ap (λ (xs : List Event). before ++ xs) (append_assoc during (e ∷ []) later ∙ parts)

  -- ---- something is queued

  full-on : (l : Level) (levels : List Level) (events : List Event) → IsStretch l levels events → StaysOn l levels settings before events
      → IsFull l.major (device_after settings (before ++ events))
  full-on l [] events s h n is =
      waiting-queued settings range before events l.major l.minor l.quantum (most_of_turns settings.mtu bytes (share_at l) []) l.classes earlier s.happen (λ xs ys join. (s.path xs ys join).0)
      (λ xs ys join. (s.path xs ys join).1) s.keep (λ xs y ys join. h xs (y ∷ ys) join)
      (send-at-most settings range before l.major l.minor l.quantum bytes l.classes earlier s.few) events [] (append-nil events) (h events [] (append-nil events)) n is
  full-on l (k ∷ levels) events s (inl h) n is =
      let p = end-path l (k ∷ levels) events s in
      let queued = full-on k levels events (stretch-below l k levels events s) h p.2.class.child p.2.child in
      let always : (at events).clock ≤ (at events).clock = omega arith in
      let child = child-is l.major l.minor l.classes (at events) (at events).clock (kept-at l (k ∷ levels) events s) always p.0 n is p.2.class p.2.there in
      option_and_then_some (slice_get (children n)) (place_in l.minor l.classes) p.2.class.child (child-at l.minor l.classes (children n) ∙ child)
      (λ j placed here. queued-above n p.2.class.child j here queued)
  full-on l (k ∷ levels) events s (inr t) n is =
      let h = subst (λ (xs : List Event). HoldsPacket l.major (device_after settings xs)) (taken-end t.during t.later events t.taken_at t.parts)
      (t.holds t.later [] (append-nil t.later)) in
      held-queued n h.0 (sym (ap (option_and_then (λ (q : Node (List Note)). q.own.held)) is) ∙ h.1)

  -- ---- an event at which the drr hands up nothing

  stays-next : (l : Level) (levels : List Level) (during : List Event) (e : Event) → IsStretch l levels (during ++ e ∷ []) → StaysOn l levels settings before during
      → (n m : Node (List Note)) → qdisc l.major (device_after settings (before ++ during)) ≡ Some n
      → qdisc l.major (device_after settings (before ++ (during ++ e ∷ []))) ≡ Some m → bytes_sent m.memory ≤ bytes_sent n.memory
      → StaysOn l levels settings before (during ++ e ∷ [])
  stays-next l [] during e s h n m is there silent =
      let f = stretch-front l [] during (e ∷ []) (during ++ e ∷ []) refl s in
      let same = one-more settings before during e in
      let happens = All-head IsEvent e [] (All-rest during (e ∷ []) s.happen) in
      let keeps = (subst (λ (r : Replay (List Note)). KeepFifo l.major l.minor r.device (e ∷ [])) (sym (replay-twice (nothing_yet history settings) before during))
      (keep-rest l.major l.minor (replay history settings before) during (e ∷ []) s.keep)).0 in
      let then = subst (IsPath l []) same (end-path l [] (during ++ e ∷ []) s) in
      let yet = waits-on l.major l.minor l.quantum l.classes start (at during) (kept-at l [] during f) e happens (end-path l [] during f) then keeps n m is
      (sym (ap (qdisc l.major) same) ∙ there) silent (h during [] (append-nil during)) in
      one-more-holds (IsWaiting l.major l.minor start) settings before during e h (subst (IsWaiting l.major l.minor start) (sym same) yet)
  stays-next l (k ∷ levels) during e s (inr t) n m is there silent =
      let f = stretch-front l (k ∷ levels) during (e ∷ []) (during ++ e ∷ []) refl s in
      let same = one-more settings before during e in
      let happens = All-head IsEvent e [] (All-rest during (e ∷ []) s.happen) in
      let now = end-path l (k ∷ levels) during f in
      let then = subst (IsPath l (k ∷ levels)) same (end-path l (k ∷ levels) (during ++ e ∷ []) s) in
      let h = subst (λ (xs : List Event). HoldsPacket l.major (device_after settings xs)) (taken-end t.during t.later during t.taken_at t.parts)
      (t.holds t.later [] (append-nil t.later)) in
      let held = sym (ap (option_and_then (λ (q : Node (List Note)). q.own.held)) is) ∙ h.1 in
      let keeps = (event-keeps l.major l.minor l.classes (at during) (kept-at l (k ∷ levels) during f) e happens now.0 then.0 n m is
      (sym (ap (qdisc l.major) same) ∙ there) now.2.class then.2.class now.2.there then.2.there).0 in
      let some = held-full l.major (at during) (kept-at l (k ∷ levels) during f) n is h.0 held in
      let mid : List Event = before ++ (t.during ++ t.taken_at ∷ []) in
      let end_is : mid ++ (t.later ++ e ∷ []) ≡ before ++ (during ++ e ∷ []) =
      taken-end t.during (t.later ++ e ∷ []) (during ++ e ∷ []) t.taken_at (sym (append_assoc t.during (t.taken_at ∷ t.later) (e ∷ [])) ∙ ap (λ (xs : List Event). xs ++ e ∷ []) t.parts) in
      inr (record {
        during = t.during;
        taken_at = t.taken_at;
        later = t.later ++ e ∷ [];
        parts = sym (append_assoc t.during (t.taken_at ∷ t.later) (e ∷ [])) ∙ ap (λ (xs : List Event). xs ++ e ∷ []) t.parts;
        waits = t.waits;
        holds = one-more-holds (HoldsPacket l.major) settings mid t.later e t.holds
            (subst (λ (xs : List Event). HoldsPacket l.major (device_after settings xs)) (sym end_is)
            (holds-some l.major (at (during ++ e ∷ [])) m there (omega (arith, some, keeps, silent))));
      })
    where
      holds-some : (major : ℕ) (d : DeviceState (List Note)) (m : Node (List Note)) → qdisc major d ≡ Some m → 1 ≤ length_held m.own.held → HoldsPacket major d
      holds-some major d m there some = by m.own.held refl some
        where
          by : (o : Option Descriptor) → m.own.held ≡ o → 1 ≤ length_held o → HoldsPacket major d
          by (Some p) e some = (p, ap (option_and_then (λ (q : Node (List Note)). q.own.held)) there ∙ e)
          by None e some = absurd (omega (arith, some))
  stays-next l (k ∷ levels) during e s (inl h) n m is there silent = elim (cases_lt (bytes_sent now.2.class.child.memory) (bytes_sent then.2.class.child.memory)) [
    | inl more ↦ inr (record {
      during = during;
      taken_at = e;
      later = [];
      parts = refl;
      waits = h;
      holds = λ xs ys join. at-end xs ys join (held-now more);
    })
    | inr none ↦ inl (stays-next k levels during e (stretch-below l k levels (during ++ e ∷ []) s) h now.2.class.child then.2.class.child now.2.child
        (ap (qdisc k.major) (one-more settings before during e) ∙ then.2.child) none)
  ]
    where
      f : IsStretch l (k ∷ levels) during
      f = stretch-front l (k ∷ levels) during (e ∷ []) (during ++ e ∷ []) refl s

      now : IsPath l (k ∷ levels) (device_after settings (before ++ during))
      now = end-path l (k ∷ levels) during f

      then : IsPath l (k ∷ levels) (step history (device_after settings (before ++ during)) e).device
      then = subst (IsPath l (k ∷ levels)) (one-more settings before during e) (end-path l (k ∷ levels) (during ++ e ∷ []) s)

      held-now : bytes_sent now.2.class.child.memory < bytes_sent then.2.class.child.memory → HoldsPacket l.major (device_after settings (before ++ (during ++ e ∷ [])))
      held-now more =
          let same = one-more settings before during e in
          let happens = All-head IsEvent e [] (All-rest during (e ∷ []) s.happen) in
          let keeps = event-keeps l.major l.minor l.classes (at during) (kept-at l (k ∷ levels) during f) e happens now.0 then.0 n m is
          (sym (ap (qdisc l.major) same) ∙ there) now.2.class then.2.class now.2.there then.2.there in
          let gains = keeps.1 k.major now.2.child then.2.child in
          by m.own.held refl (omega (arith, gains, more, silent))
        where
          by : (o : Option Descriptor) → m.own.held ≡ o → 1 ≤ length_held o → HoldsPacket l.major (device_after settings (before ++ (during ++ e ∷ [])))
          by (Some p) e some = (p, ap (option_and_then (λ (q : Node (List Note)). q.own.held)) there ∙ e)
          by None e some = absurd (omega (arith, some))

      at-end : (xs ys : List Event) → xs ++ ys ≡ [] → HoldsPacket l.major (device_after settings (before ++ (during ++ e ∷ [])))
          → HoldsPacket l.major (device_after settings ((before ++ (during ++ e ∷ [])) ++ xs))
      at-end [] ys join held = subst (λ (zs : List Event). HoldsPacket l.major (device_after settings zs)) (sym (append-nil (before ++ (during ++ e ∷ [])))) held
      at-end (x ∷ xs) ys join held = let longer = ap (λ (zs : List Event). length zs) join in absurd (omega (arith, longer))

  -- ---- what the drr reaches

  -- the drr at the top of a path, with an event more
  abbrev Reaches : Level → List Level → List Event → Event → Type 0
  Reaches l levels during e =
      IsStretch l levels (during ++ e ∷ []) → StaysOn l levels settings before during → (n m : Node (List Note)) → qdisc l.major (device_after settings before) ≡ Some n
      → qdisc l.major (device_after settings (before ++ (during ++ e ∷ []))) ≡ Some m
      → reached m ≤ reached n + most_of_turns settings.mtu bytes (share_at l) (map share_at levels)

  -- while the packet waits below drr k, which is the child of a class of drr l
  module _ (l k : Level) (levels : List Level) (below : (during : List Event) (e : Event) → Reaches k levels during e) (during : List Event) (e : Event)
      (s : IsStretch l (k ∷ levels) (during ++ e ∷ [])) (h : StaysOn k levels settings before during) where
    first : IsPath l (k ∷ levels) (device_after settings before)
    first = at-start (IsPath l (k ∷ levels)) settings before (during ++ e ∷ []) s.path

    abbrev inner : Node (List Note)
    inner = first.2.class.child

    abbrev turn : ℕ
    turn = length_held inner.own.held + most_of_turns settings.mtu bytes (share_at k) (map share_at levels)

    inner-reached : (seen later : List Event) → seen ++ later ≡ during ++ e ∷ [] → (m : Node (List Note)) → qdisc k.major (device_after settings (before ++ seen)) ≡ Some m
        → reached m ≤ bytes_sent first.2.class.child.memory + (length_held first.2.class.child.own.held + most_of_turns settings.mtu bytes (share_at k) (map share_at levels))
    inner-reached seen later split m is = by (last-of seen)
      where
        by : (seen ≡ []) ⊎ ((ys : List Event) × ((y : Event) × (seen ≡ ys ++ y ∷ [])))
            → reached m ≤ bytes_sent first.2.class.child.memory + (length_held first.2.class.child.own.held + most_of_turns settings.mtu bytes (share_at k) (map share_at levels))
        by (inl none) =
            let there : qdisc k.major (device_after settings before) ≡ Some m =
            subst (λ (xs : List Event). qdisc k.major (device_after settings xs) ≡ Some m) (ap (λ (xs : List Event). before ++ xs) none ∙ append-nil before) is in
            omega (arith, ap reached (same_Some m inner (sym there ∙ first.2.child)))
        by (inr o) =
            let whole : o.0 ++ o.1.0 ∷ later ≡ during ++ e ∷ [] = sym (append_assoc o.0 (o.1.0 ∷ []) later) ∙ ap (λ (xs : List Event). xs ++ later) (sym o.1.1) ∙ split in
            let part = front-before o.0 later during o.1.0 e whole in
            let f = stretch-below l k levels (o.0 ++ o.1.0 ∷ []) (stretch-front l (k ∷ levels) (o.0 ++ o.1.0 ∷ []) later (during ++ e ∷ [])
            (append_assoc o.0 (o.1.0 ∷ []) later ∙ whole) s) in
            let r = below o.0 o.1.0 f (stays-front k levels o.0 part.0 during part.1 h) inner m first.2.child
            (subst (λ (xs : List Event). qdisc k.major (device_after settings (before ++ xs)) ≡ Some m) o.1.1 is) in
            omega (arith, r)

    below-reached : (n m : Node (List Note)) → qdisc l.major (device_after settings before) ≡ Some n → qdisc l.major (device_after settings (before ++ (during ++ e ∷ []))) ≡ Some m
        → reached m ≤ reached n + most_of_turns settings.mtu bytes (share_at l) (share_at k ∷ map share_at levels)
    below-reached n m is there =
        let whole : List Event = during ++ e ∷ [] in
        let b = stretch-below l k levels whole s in
        let r = pair-bounded settings range before during e l k turn earlier (All-front IsEvent during (e ∷ []) s.happen)
        (All-head IsEvent e [] (All-rest during (e ∷ []) s.happen)) (λ xs ys join. path-pair l k levels (at xs) (s.path xs ys join)) inner first.2.child inner-reached
        (λ xs ys join. full-on k levels xs (stretch-front k levels xs (ys ++ e ∷ []) whole (sym (append_assoc xs ys (e ∷ [])) ∙ ap (λ (zs : List Event). zs ++ e ∷ []) join) b)
        (stays-front k levels xs ys during join h))
        (λ x y is_x at_y silent. (let on = stays-next k levels during e b h x y is_x at_y silent in
        λ xs ys join. full-on k levels xs (stretch-front k levels xs ys whole join b) (stays-front k levels xs ys whole join on)))
        n m is there in
        let c = path-class l (k ∷ levels) start first in
        let some : 1 ≤ l.quantum = subst (λ q. 1 ≤ q) c.same_quantum (quantum-some settings range before earlier l.major l.minor c.class c.there) in
        let held = held-in settings range before earlier k.major inner first.2.child in
        let rises = most-rises settings.mtu turn (settings.mtu + most_of_turns settings.mtu bytes (share_at k) (map share_at levels)) (share_at l) some (omega (arith, held)) in
        omega (arith, r, rises)

  reached-on : (l : Level) (levels : List Level) (during : List Event) (e : Event) → Reaches l levels during e
  reached-on l [] during e s h n m is there =
      let waits : (seen : List Event) (x : Event) (later : List Event) → seen ++ x ∷ later ≡ during ++ e ∷ []
      → IsWaiting l.major l.minor (device_after settings before) (device_after settings (before ++ seen)) =
      λ seen x later split. (let o = front-before seen later during x e split in h seen o.0 o.1) in
      let first_drr = start-drr settings range before (during ++ e ∷ []) l.major l.minor l.quantum (most_of_turns settings.mtu bytes (share_at l) [])
      l.classes earlier s.happen (λ xs ys j. (s.path xs ys j).0)
      (λ xs ys j. (s.path xs ys j).1) s.keep waits (send-at-most settings range before l.major l.minor l.quantum bytes l.classes earlier s.few) in
      let r = all-reached settings range before (during ++ e ∷ []) l.major l.minor l.quantum (most_of_turns settings.mtu bytes (share_at l) [])
      l.classes earlier s.happen (λ xs ys j. (s.path xs ys j).0)
      (λ xs ys j. (s.path xs ys j).1) s.keep waits (send-at-most settings range before l.major l.minor l.quantum bytes l.classes earlier s.few)
      (during ++ e ∷ []) [] (append-nil (during ++ e ∷ [])) m there in
      omega (arith, r, ap reached (same_Some first_drr.node n (sym first_drr.there ∙ is)))
  reached-on l (k ∷ levels) during e s (inl h) n m is there = below-reached l k levels (reached-on k levels) during e s h n m is there
  reached-on l (k ∷ levels) during e s (inr t) n m is there =
      let mid : List Event = t.during ++ t.taken_at ∷ [] in
      let rest : List Event = t.later ++ e ∷ [] in
      let parts : t.during ++ t.taken_at ∷ rest ≡ during ++ e ∷ [] =
      sym (append_assoc t.during (t.taken_at ∷ t.later) (e ∷ [])) ∙ ap (λ (xs : List Event). xs ++ e ∷ []) t.parts in
      let split : mid ++ rest ≡ during ++ e ∷ [] = append_assoc t.during (t.taken_at ∷ []) rest ∙ parts in
      let f = stretch-front l (k ∷ levels) mid rest (during ++ e ∷ []) split s in
      let o = drr-node l.major l.classes (at mid) (end-path l (k ∷ levels) mid f).0 in
      let first_part = below-reached l k levels (reached-on k levels) t.during t.taken_at f t.waits n o.node is o.there in
      let end_is = taken-end t.during rest (during ++ e ∷ []) t.taken_at parts in
      let second_part = held-reached settings range l.major l.minor l.quantum l.classes (before ++ mid) rest (All-append IsEvent before mid earlier f.happen)
      (All-rest mid rest (subst (All IsEvent) (sym split) s.happen))
      (λ xs ys j. (let p = s.path (mid ++ xs) ys (append_assoc mid xs ys ∙ ap (λ (zs : List Event). mid ++ zs) j ∙ split) in
      subst (λ (zs : List Event). HasClasses l.major l.classes (device_after settings zs) × IsClass l.major l.minor l.quantum (device_after settings zs))
      (sym (append_assoc before mid xs)) (p.0, p.1)))
      (λ xs y ys j. (let z = front-before xs ys t.later y e j in t.holds xs z.0 z.1))
      o.node m o.there (subst (λ (xs : List Event). qdisc l.major (device_after settings xs) ≡ Some m) (sym end_is) there) in
      omega (arith, first_part, second_part)

-- ---- the law

pub paths-are-bounded : (settings : DeviceSettings) → IsInRange settings → NestedTurnsAreBounded settings
paths-are-bounded settings range before during e l levels bytes earlier happen happens path keep few stays =
    let whole : List Event = during ++ e ∷ [] in
    let happen_all : All IsEvent whole = All-append IsEvent during (e ∷ []) happen (All-cons IsEvent e [] happens (All-nil IsEvent)) in
    let n = drr-node l.major l.classes (device_after settings before) (path-has l levels (device_after settings before) (at-start (IsPath l levels) settings before whole path)) in
    let m = drr-node l.major l.classes (device_after settings (before ++ whole)) (path-has l levels (device_after settings (before ++ whole)) (path whole [] (append-nil whole))) in
    let r = reached-on settings range before bytes earlier l levels during e (record { happen = happen_all; path = path; keep = keep; few = few }) stays n.node m.node n.there m.there in
    omega (arith, r, reached-at l.major (device_after settings before) n.node n.there, reached-at l.major (device_after settings (before ++ whole)) m.node m.there)

-- something is queued in the drr at the top
pub path-full : (settings : DeviceSettings) → IsInRange settings → (before events : List Event) (l : Level) (levels : List Level) (bytes : ℕ) → All IsEvent before → All IsEvent events
    → Throughout (IsPath l levels) settings before events → KeepsBelow l levels (device_after settings before) events → bytes_below l levels (device_after settings before) ≤ bytes
    → StaysOn l levels settings before events → Throughout (IsFull l.major) settings before events
path-full settings range before events l levels bytes earlier happen path keep few stays xs ys join =
    let s : IsStretch settings range before bytes earlier l levels events = record { happen = happen; path = path; keep = keep; few = few } in
    full-on settings range before bytes earlier l levels xs (stretch-front settings range before bytes earlier l levels xs ys events join s)
    (stays-front settings range before bytes earlier l levels xs ys events join stays)

-- what stays so far
pub path-stays : (settings : DeviceSettings) → IsInRange settings → (before : List Event) → All IsEvent before → (l : Level) (levels : List Level) (seen later events : List Event)
    → seen ++ later ≡ events → StaysOn l levels settings before events → StaysOn l levels settings before seen
path-stays settings range before earlier l levels seen later events e h = stays-front settings range before 0 earlier l levels seen later events e h
