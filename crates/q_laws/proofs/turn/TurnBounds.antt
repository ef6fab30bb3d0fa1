-- While a packet waits its turn in a drr, what the drr has handed up and the packet that it shows next are within the most of a turn.
use Rattle.std.proofs.Common.{◌≡◌, ℕ, ◌+◌, ◌≤◌, ◌^◌, max, ◌⊎◌, inl, inr, List, [], ◌∷◌, ◌++◌, length, refl, sym, ap, subst, ◌∙◌, Option, Some, None, option_and_then, option_to_list, arith}
use Rattle.std.specs.Prelude.{All, false, slice_get}
use Rattle.std.specs.List.{flat_map}
use Rattle.std.proofs.lemmas.Bool.{ne_eqb}
use Rattle.std.proofs.lemmas.List.{append-nil, append_assoc, length-append}
use Rattle.std.proofs.lemmas.List.Elements.{All-append, All-cons, All-head, All-nil, All-tail}
use Rattle.std.proofs.lemmas.Option.{same_Some, option_and_then_some}
use Rattle.q_packet.specs.Descriptor.{Descriptor}
use Rattle.q_drr.specs.Schedule.{Class, Schedule}
use Rattle.q_model.specs.declared.event.Event.{Event}
use Rattle.q_model.specs.declared.event.Event.TheVariants as event
use Rattle.q_model.specs.Ask.{ask, ask_own}
use Rattle.q_model.specs.Beneath.{beneath, beneath_own, is_empty, packets_in}
use Rattle.q_model.specs.Events.{IsEvent}
use Rattle.q_model.specs.Node.{Drr, Node, children, each, shape}
use Rattle.q_model.specs.Settings.{DeviceSettings, IsInRange}
use Rattle.q_model.specs.Step.{DeviceState, step}
use Rattle.q_model.specs.Stretches.{bytes_sent, length_held, ClassAt, class_in, qdisc, Throughout}
use Rattle.q_model.specs.Tally.{Note, history}
use Rattle.q_model.specs.Work.{Worked, booked}
use Rattle.q_invariants.proofs.ask.SentStages.{ask-gives}
use Rattle.q_invariants.proofs.class.ClassChildren.{child-at, place_in}
use Rattle.q_invariants.proofs.Replays.{IsKept, not-before, replay-kept, step-kept}
use Rattle.q_invariants.proofs.tree.Members.{All-front}
use Rattle.q_invariants.proofs.tree.StepNodes.{clock-rises}
use Rattle.q_tree.specs.declared.answers.ways.Link.{Link}
use Rattle.q_tree.specs.answers.Ways.{share_among}
use Rattle.q_device.specs.promises.Worst.{most_of_turn}
use Rattle.q_device.specs.Sharing.{device_after}
use Rattle.q_device.proofs.ClassStretches.{at-start}
use Rattle.q_laws.specs.line.Line.{bytes_in}
use Rattle.q_laws.specs.share.Service.{given_so_far, HasClasses, all_sent}
use Rattle.q_laws.specs.turn.FifoTurn.{class_line, IsFifoClass, IsInFifo, KeepFifo}
use Rattle.q_laws.specs.turn.Turn.{shown_by}
use Rattle.q_laws.specs.turn.TurnWorst.{IsWaiting}
use Rattle.q_laws.proofs.rate.LinkAsks.{Leaves}
use Rattle.q_laws.proofs.share.LeastShare.{DrrNode, drr-node}
use Rattle.q_laws.proofs.share.PromiseWays.{queued-above}
use Rattle.q_laws.proofs.share.ServiceStretches.{given-at}
use Rattle.q_laws.proofs.turn.FifoTurns.{IsHere, backlogged-so-far, fifos-wait-at-most, keep-fifo}
use Rattle.q_laws.proofs.turn.TurnAsks.{Serves, Silent, all-hand, child-is, holds, serves}
use Rattle.q_laws.proofs.turn.TurnPolls.{IsOver, IsAskedNext, asked-next, drr-next, fifo-next, has-next, staged}
use Rattle.q_laws.proofs.turn.TurnWaits.{booked-sent, keeps-poll, leaves-of, one-more, one-more-holds, reached, reaches, StepServes, step-serves}

-- a drr, with its schedule
abbrev pub DrrShape : Node (List Note) → Type 0
DrrShape n = (s : Schedule) × (n.own.discipline ≡ Drr s)

-- a drr that was asked hands out what it shows, or holds it
pub handed : (now : ℕ) (n : Node (List Note)) (d : DrrShape n) (w : Worked) → (w ≡ (ask now (shape n)).peeked) ⊎ (w ≡ (ask now (shape n)).taken)
    → bytes_sent w.memory + length_held w.own.held ≡ length_held (ask now (shape n)).shown
handed now n d w stage = by stage
  where
    hand : ((ask now (shape n)).peeked.own.held ≡ (ask now (shape n)).shown) × ((ask now (shape n)).taken.own.held ≡ None)
    hand = all-hand now n.own (each (ask_own now) (shape n).below) d.0 d.1

    by : (w ≡ (ask now (shape n)).peeked) ⊎ (w ≡ (ask now (shape n)).taken) → bytes_sent w.memory + length_held w.own.held ≡ length_held (ask now (shape n)).shown
    by (inl e) =
        let sent = ap (λ (x : Worked). bytes_sent x.memory) e ∙ (ask-gives now (shape n)).peeked in
        let held = ap (λ (x : Worked). length_held x.own.held) e ∙ ap length_held hand.0 in
        omega (arith, sent, held)
    by (inr e) =
        let sent = ap (λ (x : Worked). bytes_sent x.memory) e ∙ (ask-gives now (shape n)).taken in
        let held = ap (λ (x : Worked). length_held x.own.held) e ∙ ap length_held hand.1 in
        omega (arith, sent, held)

-- what holds a packet has one queued
pub held-queued : (n : Node (List Note)) (p : Descriptor) → n.own.held ≡ Some p → is_empty n ≡ false
held-queued n p e =
    let rest : List Descriptor = flat_map (λ packets. packets) (each beneath_own n.below) in
    let front = length-append (option_to_list n.own.held) (packets_in n.own.discipline) in
    let whole = length-append (option_to_list n.own.held ++ packets_in n.own.discipline) rest in
    let one = ap (λ (o : Option Descriptor). length (option_to_list o)) e in
    ne_eqb (length (beneath n)) 0 (λ nothing. absurd (omega (arith, nothing, front, whole, one)))

-- The classes of the drr send no more than this before the packet that is last in the fifo of class i has left.
abbrev pub SendNoMore : DeviceSettings → List Event → ℕ → ℕ → ℕ → List Class → ℕ → Type 0
SendNoMore settings before major i quantum classes most =
    (seen : List Event) (last : ClassAt) (t : ℕ) → All IsEvent seen → Throughout (HasClasses major classes) settings before seen
    → Throughout (IsFifoClass major i quantum) settings before seen → KeepFifo major i (device_after settings before) seen
    → IsInFifo major i (device_after settings before) (device_after settings (before ++ seen))
    → class_in major i (device_after settings (before ++ seen)) ≡ Some last → (device_after settings (before ++ seen)).clock ≤ t → t ≤ 2 ^ 62
    → all_sent major classes (device_after settings before) seen + shown_by t last ≤ most

-- in any state
pub send-at-most : (settings : DeviceSettings) → IsInRange settings → (before : List Event) (major i quantum bytes : ℕ) (classes : List Class)
    → All IsEvent before → bytes_in (class_line major i (device_after settings before)) ≤ bytes
    → SendNoMore settings before major i quantum classes (most_of_turn settings.mtu bytes (share_among (record { name = i; quantum = quantum }) classes))
send-at-most settings range before major i quantum bytes classes earlier few seen last t happen has stays keep inside there order low =
    fifos-wait-at-most settings range before seen major i quantum bytes classes last t earlier happen has stays keep inside few there order low

module _ (settings : DeviceSettings) (range : IsInRange settings) (before during : List Event) (major i quantum most : ℕ) (classes : List Class)
    (earlier : All IsEvent before) (happen : All IsEvent during)
    (has : Throughout (HasClasses major classes) settings before during) (stays : Throughout (IsFifoClass major i quantum) settings before during)
    (keep : KeepFifo major i (device_after settings before) during)
    (waits : (seen : List Event) (x : Event) (later : List Event) → seen ++ x ∷ later ≡ during → IsWaiting major i (device_after settings before) (device_after settings (before ++ seen)))
    (law : SendNoMore settings before major i quantum classes most) where
  abbrev start : DeviceState (List Note)
  start = device_after settings before

  abbrev at : List Event → DeviceState (List Note)
  at seen = device_after settings (before ++ seen)

  front-happens : (seen later : List Event) → seen ++ later ≡ during → All IsEvent seen
  front-happens seen later e = All-front IsEvent seen later (subst (All IsEvent) (sym e) happen)

  so-far : (P : DeviceState (List Note) → Type 0) → Throughout P settings before during → (seen later : List Event) → seen ++ later ≡ during
      → Throughout P settings before seen
  so-far P h seen later e xs ys join = h xs (ys ++ later) (sym (append_assoc xs ys later) ∙ ap (λ zs. zs ++ later) join ∙ e)

  kept-in : (seen later : List Event) → seen ++ later ≡ during → IsKept (at seen)
  kept-in seen later e = replay-kept settings (before ++ seen) range (All-append IsEvent before seen earlier (front-happens seen later e))

  keep-so-far : (seen later : List Event) → seen ++ later ≡ during → KeepFifo major i start seen
  keep-so-far seen later e = keep-fifo major i start seen later (subst (KeepFifo major i start) (sym e) keep)

  pub start-drr : DrrNode major classes (device_after settings before)
  start-drr = drr-node major classes (device_after settings before) (at-start (HasClasses major classes) settings before during has)

  -- what the drr may reach
  abbrev pub top : ℕ
  top = reached start-drr.node + most

  passes : (seen later : List Event) → seen ++ later ≡ during → (m : Node (List Note)) → qdisc major (at seen) ≡ Some m
      → reached m ≤ reached start-drr.node + all_sent major classes start seen
  passes seen later e m is =
      reaches major i classes settings before seen range earlier (front-happens seen later e) (so-far (HasClasses major classes) has seen later e)
      start-drr.node m start-drr.there is

  waits-in-fifo : (seen later : List Event) (e : seen ++ later ≡ during) → IsInFifo major i start (at seen) → (t : ℕ) → (at seen).clock ≤ t → t ≤ 2 ^ 62
      → all_sent major classes start seen + shown_by t (stays seen later e).class ≤ most
  waits-in-fifo seen later e inside t order low =
      law seen (stays seen later e).class t (front-happens seen later e) (so-far (HasClasses major classes) has seen later e)
      (so-far (IsFifoClass major i quantum) stays seen later e) (keep-so-far seen later e) inside (stays seen later e).there order low

  abbrev IsReached : List Event → Type 0
  IsReached seen = (m : Node (List Note)) → qdisc major (at seen) ≡ Some m → reached m ≤ top

  in-fifo : (seen later : List Event) → seen ++ later ≡ during → IsInFifo major i start (at seen) → IsReached seen
  in-fifo seen later e inside m is =
      let kept = kept-in seen later e in
      let p = passes seen later e m is in
      let w = waits-in-fifo seen later e inside (at seen).clock (let always : (at seen).clock ≤ (at seen).clock = omega arith in always) kept.moment in
      omega (arith, p, w)

  -- ---- one event

  on : (seen : List Event) (x : Event) (later : List Event) → seen ++ x ∷ later ≡ during → IsReached seen → IsReached (seen ++ x ∷ [])
  on seen x later e h m is = by (waits seen x later e)
    where
      d : DeviceState (List Note)
      d = device_after settings (before ++ seen)

      then : DeviceState (List Note)
      then = (step history (device_after settings (before ++ seen)) x).device

      rest : (seen ++ x ∷ []) ++ later ≡ during
      rest = append_assoc seen (x ∷ []) later ∙ e

      same : device_after settings (before ++ (seen ++ x ∷ [])) ≡ (step history (device_after settings (before ++ seen)) x).device
      same = one-more settings before seen x

      happens : IsEvent x
      happens = All-head IsEvent x later (All-later seen (subst (All IsEvent) (sym e) happen))
        where
          All-later : (xs : List Event) → All IsEvent (xs ++ x ∷ later) → All IsEvent (x ∷ later)
          All-later [] all = all
          All-later (z ∷ xs) all = All-later xs (All-tail IsEvent z (xs ++ x ∷ later) all)

      drr : DrrNode major classes (device_after settings (before ++ seen))
      drr = drr-node major classes (device_after settings (before ++ seen)) (has seen (x ∷ later) e)

      f : IsFifoClass major i quantum (device_after settings (before ++ seen))
      f = stays seen (x ∷ later) e

      g : IsFifoClass major i quantum (step history (device_after settings (before ++ seen)) x).device
      g = subst (IsFifoClass major i quantum) same (stays (seen ++ x ∷ []) later rest)

      serves-it : StepServes major i classes (device_after settings (before ++ seen)) (step history (device_after settings (before ++ seen)) x).device drr.node m f.class
      serves-it =
          step-serves major i classes (device_after settings (before ++ seen)) x (kept-in seen (x ∷ later) e) happens (has seen (x ∷ later) e)
          (subst (HasClasses major classes) same (has (seen ++ x ∷ []) later rest)) drr.node m drr.there
          (subst (λ (z : DeviceState (List Note)). qdisc major z ≡ Some m) same is) f.class g.class f.there g.there

      so_far : reached drr.node ≤ top
      so_far = h drr.node drr.there

      inside-it : IsInFifo major i start (device_after settings (before ++ seen)) → (reached m ≤ reached drr.node)
          ⊎ (reached m ≤ bytes_sent drr.node.memory + shown_by (step history (device_after settings (before ++ seen)) x).device.clock f.class)
          ⊎ (given_so_far major i (step history (device_after settings (before ++ seen)) x).device ≡ given_so_far major i (device_after settings (before ++ seen)))
          → reached m ≤ top
      inside-it inside (inl less) = omega (arith, less, so_far)
      inside-it inside (inr (inl shown)) =
          let w = waits-in-fifo seen (x ∷ later) e inside (step history (device_after settings (before ++ seen)) x).device.clock
          (clock-rises (device_after settings (before ++ seen)) x)
          (step-kept (device_after settings (before ++ seen)) x (kept-in seen (x ∷ later) e) happens).moment in
          let p = passes seen (x ∷ later) e drr.node drr.there in
          omega (arith, shown, w, p)
      inside-it inside (inr (inr stayed)) =
          in-fifo (seen ++ x ∷ []) later rest
          (let there = ap (given_so_far major i) same in omega (arith, inside, stayed, there)) m is

      by : IsWaiting major i start (device_after settings (before ++ seen)) → reached m ≤ top
      by (inl inside) = inside-it inside serves-it.which
      by (inr o) =
          let held = sym (ap (option_and_then (λ (n : Node (List Note)). n.own.held)) drr.there) ∙ o.1 in
          let less = serves-it.holds o.0 held in
          omega (arith, less, so_far)

  -- ---- every state

  go : (seen later : List Event) → seen ++ later ≡ during → IsReached seen → (more rest : List Event) → more ++ rest ≡ later → IsReached (seen ++ more)
  go seen later e h [] rest split = subst IsReached (sym (append-nil seen)) h
  go seen later e h (x ∷ more) rest split =
      let whole : seen ++ x ∷ (more ++ rest) ≡ during = ap (λ zs. seen ++ zs) split ∙ e in
      subst IsReached (append_assoc seen (x ∷ []) more)
      (go (seen ++ x ∷ []) (more ++ rest) (append_assoc seen (x ∷ []) (more ++ rest) ∙ whole) (on seen x (more ++ rest) whole h) more rest refl)

  begins : IsReached []
  begins m is =
      let there = subst (λ (es : List Event). qdisc major (device_after settings es) ≡ Some m) (append-nil before) is in
      omega (arith, ap reached (same_Some start-drr.node m (sym start-drr.there ∙ there)))

  pub all-reached : (seen later : List Event) → seen ++ later ≡ during → (m : Node (List Note)) → qdisc major (device_after settings (before ++ seen)) ≡ Some m
      → reached m ≤ top
  all-reached seen later e = go [] during refl begins seen later e

  -- ---- something is queued while it waits

  pub waiting-queued : (seen later : List Event) → seen ++ later ≡ during → IsWaiting major i (device_after settings before) (device_after settings (before ++ seen))
      → (n : Node (List Note)) → qdisc major (device_after settings (before ++ seen)) ≡ Some n → is_empty n ≡ false
  waiting-queued seen later e waiting n is = by waiting
    where
      inside-it : IsInFifo major i start (at seen) → is_empty n ≡ false
      inside-it there =
          let b = backlogged-so-far settings range before seen major i quantum classes earlier (front-happens seen later e)
          (so-far (IsHere major i quantum classes) (λ xs ys join. (has xs ys join, stays xs ys join)) seen later e)
          (keep-so-far seen later e) there seen [] (append-nil seen) in
          let always : (at seen).clock ≤ (at seen).clock = omega arith in
          let child = child-is major i classes (at seen) (at seen).clock (kept-in seen later e) always (has seen later e) n is b.class b.there in
          option_and_then_some (slice_get (children n)) (place_in i classes) b.class.child (child-at i classes (children n) ∙ child)
          (λ k placed here. queued-above n b.class.child k here b.queued)

      by : IsWaiting major i start (at seen) → is_empty n ≡ false
      by (inl there) = inside-it there
      by (inr o) = held-queued n o.0 (sym (ap (option_and_then (λ (m : Node (List Note)). m.own.held)) is) ∙ o.1)

  -- ---- the packet that is shown next

  module _ (seen later : List Event) (e : seen ++ later ≡ during) (waiting : IsWaiting major i (device_after settings before) (device_after settings (before ++ seen)))
      (link : Option Link) (over : IsOver link major (device_after settings (before ++ seen)))
      (free : (device_after settings (before ++ seen)).tree.root.own.held ≡ None) (n : Node (List Note))
      (is : qdisc major (device_after settings (before ++ seen)) ≡ Some n) (moment : ℕ) (low : moment ≤ 2 ^ 62) where
    abbrev now : ℕ
    now = max (at seen).clock moment

    abbrev next : DeviceState (List Note)
    next = (step history (at seen) (event.Poll moment)).device

    kept : IsKept (device_after settings (before ++ seen))
    kept = kept-in seen later e

    abbrev f : IsFifoClass major i quantum (device_after settings (before ++ seen))
    f = stays seen later e

    asked : IsAskedNext major (device_after settings (before ++ seen)) moment n
    asked = asked-next major (device_after settings (before ++ seen)) moment link n over free is

    abbrev w : Worked
    w = asked.worked

    hands : bytes_sent w.memory + length_held w.own.held ≡ length_held (ask now (shape n)).shown
    hands =
        let drr = drr-node major classes (at seen) (has seen later e) in
        let mine : drr.node ≡ n = same_Some drr.node n (sym drr.there ∙ is) in
        handed now n (drr.schedule, ap (λ (q : Node (List Note)). q.own.discipline) (sym mine) ∙ drr.discipline) w asked.stage

    so_far : reached n ≤ top
    so_far = all-reached seen later e n is

    -- the class gives nothing in that poll
    gone-on : IsInFifo major i start (at seen) → Silent major i classes (at seen) now kept (not-before (at seen).clock moment) (has seen later e) n is f.class f.there w
        → bytes_sent n.memory + length_held (ask now (shape n)).shown ≤ top
    gone-on inside silent =
        let stand = staged major (at seen) moment n asked in
        let g = fifo-next major (at seen) moment classes kept low (has seen later e) n is stand i quantum f in
        let k = has-next major (at seen) moment classes kept low (has seen later e) n is stand in
        let there = drr-next major (at seen) moment classes kept low (has seen later e) n is stand in
        let kept_next : IsKept next = step-kept (at seen) (event.Poll moment) kept low in
        let always : next.clock ≤ next.clock = omega arith in
        let same = silent g.class.child (child-is major i classes next next.clock kept_next always k (booked history n w) there g.class g.there) in
        let still : IsInFifo major i start next =
        (let a = given-at major i (at seen) f.class f.there in let b = given-at major i next g.class g.there in omega (arith, same, inside, a, b)) in
        let seen_now : List Event = seen ++ event.Poll moment ∷ [] in
        let back : next ≡ device_after settings (before ++ seen_now) = sym (one-more settings before seen (event.Poll moment)) in
        let happen_now : All IsEvent seen_now =
        All-append IsEvent seen (event.Poll moment ∷ []) (front-happens seen later e) (All-cons IsEvent (event.Poll moment) [] low (All-nil IsEvent)) in
        let has_now = one-more-holds (HasClasses major classes) settings before seen (event.Poll moment) (so-far (HasClasses major classes) has seen later e)
        (subst (HasClasses major classes) back k) in
        let stays_now = one-more-holds (IsFifoClass major i quantum) settings before seen (event.Poll moment)
        (so-far (IsFifoClass major i quantum) stays seen later e) (subst (IsFifoClass major i quantum) back g) in
        let clock = ap (λ (z : DeviceState (List Note)). z.clock) back in
        let sends = law seen_now g.class next.clock happen_now has_now stays_now (keeps-poll major i start seen moment (keep-so-far seen later e))
        (subst (IsInFifo major i start) back still) (subst (λ (z : DeviceState (List Note)). class_in major i z ≡ Some g.class) back g.there)
        (omega (arith, clock)) kept_next.moment in
        let sum = reaches major i classes settings before seen_now range earlier happen_now has_now start-drr.node (booked history n w) start-drr.there
        (subst (λ (z : DeviceState (List Note)). qdisc major z ≡ Some (booked history n w)) back there) in
        omega (arith, sends, sum, booked-sent n w, hands)

    shown-next : bytes_sent n.memory + length_held (ask now (shape n)).shown ≤ top
    shown-next = by waiting
      where
        leaves : Leaves (ask now (shape n)) w (bytes_sent w.memory)
        leaves = leaves-of (ask now (shape n)) (ask-gives now (shape n)) w (inr asked.stage)

        inside-it : IsInFifo major i start (at seen)
            → Serves major i classes (at seen) now kept (not-before (at seen).clock moment) (has seen later e) n is f.class f.there w (bytes_sent w.memory)
            → bytes_sent n.memory + length_held (ask now (shape n)).shown ≤ top
        inside-it inside (inl held) = omega (arith, held, hands, so_far)
        inside-it inside (inr (inl shown)) =
            let kept_next : IsKept next = step-kept (at seen) (event.Poll moment) kept low in
            let waits_now = waits-in-fifo seen later e inside now (not-before (at seen).clock moment) kept_next.moment in
            let p = passes seen later e n is in
            omega (arith, shown, waits_now, p, hands)
        inside-it inside (inr (inr silent)) = gone-on inside silent

        by : IsWaiting major i start (at seen) → bytes_sent n.memory + length_held (ask now (shape n)).shown ≤ top
        by (inl inside) =
            inside-it inside
            (serves major i classes (at seen) now kept (not-before (at seen).clock moment) (has seen later e) n is f.class f.there w (bytes_sent w.memory) leaves)
        by (inr o) =
            let held = sym (ap (option_and_then (λ (n : Node (List Note)). n.own.held)) is) ∙ o.1 in
            let less = holds major i classes (at seen) now kept (not-before (at seen).clock moment) (has seen later e) n is f.class f.there w (bytes_sent w.memory) leaves
            o.0 held in
            omega (arith, less, hands, so_far)

  -- whenever it is asked
  pub shown-at : (seen later : List Event) → seen ++ later ≡ during → IsWaiting major i (device_after settings before) (device_after settings (before ++ seen))
      → (link : Option Link) → IsOver link major (device_after settings (before ++ seen))
      → (device_after settings (before ++ seen)).tree.root.own.held ≡ None → (n : Node (List Note)) → qdisc major (device_after settings (before ++ seen)) ≡ Some n
      → (t : ℕ) → (device_after settings (before ++ seen)).clock ≤ t → t ≤ 2 ^ 62 → bytes_sent n.memory + length_held (ask t (shape n)).shown ≤ top
  shown-at seen later e waiting link over free n is t order low =
      let same : max (at seen).clock t ≡ t = omega (arith, order) in
      subst (λ u. bytes_sent n.memory + length_held (ask u (shape n)).shown ≤ top) same (shown-next seen later e waiting link over free n is t low)
