-- What a drr has handed up while a packet in the fifo of a class waits its turn: what the classes send before it, and what the drr held at first.
use Rattle.std.proofs.Common.{◌≡◌, ℕ, ◌+◌, ◌-◌, ◌≤◌, ◌⊎◌, inl, inr, List, [], ◌∷◌, ◌++◌, refl, sym, ap, subst, ◌∙◌, Some, arith}
use Rattle.std.specs.Prelude.{All}
use Rattle.std.proofs.lemmas.List.{append_assoc}
use Rattle.std.proofs.lemmas.List.Sums.{sum_by-append}
use Rattle.std.proofs.lemmas.Option.{same_Some}
use Rattle.q_packet.specs.Descriptor.{Descriptor}
use Rattle.q_drr.specs.Schedule.{Class}
use Rattle.q_model.specs.declared.event.Event.{Event}
use Rattle.q_model.specs.declared.event.Event.TheVariants as event
use Rattle.q_model.specs.Ask.{Asked, ask}
use Rattle.q_model.specs.Events.{IsEvent}
use Rattle.q_model.specs.Node.{Node, children, shape}
use Rattle.q_model.specs.Replay.{Replay, nothing_yet}
use Rattle.q_model.specs.Settings.{DeviceSettings, IsInRange}
use Rattle.q_model.specs.Step.{DeviceState, step}
use Rattle.q_model.specs.Stretches.{sent_by, bytes_sent, length_held, ClassAt, class_in, qdisc, Throughout}
use Rattle.q_model.specs.Tally.{Note, history}
use Rattle.q_model.specs.Work.{Worked, booked}
use Rattle.q_invariants.proofs.Along.{counted}
use Rattle.q_invariants.proofs.ask.AskStages.{IsStageOf}
use Rattle.q_invariants.proofs.ask.SentStages.{Gives, ask-gives}
use Rattle.q_invariants.proofs.class.ClassChildren.{child_for}
use Rattle.q_invariants.proofs.Replays.{IsKept, step-kept}
use Rattle.q_invariants.proofs.sums.Told.{noted-history}
use Rattle.q_invariants.proofs.tree.StepNodes.{Becomes, becomes, clock-rises}
use Rattle.q_device.specs.Sharing.{device_after}
use Rattle.q_device.proofs.ReplayLemmas.{replay_from-append}
use Rattle.q_laws.specs.share.Service.{given_so_far, class_sent, HasClasses, all_sent}
use Rattle.q_laws.specs.turn.FifoTurn.{KeepFifo}
use Rattle.q_laws.specs.turn.Turn.{shown_by}
use Rattle.q_laws.proofs.rate.LinkAsks.{Leaves}
use Rattle.q_laws.proofs.share.LeastShare.{drr-node}
use Rattle.q_laws.proofs.share.PassedStretches.{IsQuiet, command-quiet, drr-passes, put-quiet, sum-both}
use Rattle.q_laws.proofs.share.ServiceStretches.{given-at}
use Rattle.q_laws.proofs.turn.TurnAsks.{Serves, child-is, holds, serves}

-- what a node has handed up, and what it holds
abbrev pub reached : Node (List Note) → ℕ
reached n = bytes_sent n.memory + length_held n.own.held

-- ---- one event

pub leaves-of : (a : Asked) → Gives a → (w : Worked) → IsStageOf a w → Leaves a w (bytes_sent w.memory)
leaves-of a g w (inl e) = inl (e, ap (λ (x : Worked). bytes_sent x.memory) e ∙ g.before)
leaves-of a g w (inr (inl e)) = inr (inl (e, ap (λ (x : Worked). bytes_sent x.memory) e ∙ g.peeked))
leaves-of a g w (inr (inr e)) = inr (inr (e, ap (λ (x : Worked). bytes_sent x.memory) e ∙ g.taken))

pub booked-sent : (n : Node (List Note)) (w : Worked) → reached (booked history n w) ≡ bytes_sent n.memory + (bytes_sent w.memory + length_held w.own.held)
booked-sent n w = omega (arith, ap bytes_sent (noted-history n.memory w.memory), sum_by-append sent_by n.memory w.memory)

pub quiet-reached : (n m : Node (List Note)) → IsQuiet n m → reached m ≡ reached n
quiet-reached n m q =
    let sent = q.sent in
    let held = q.held in
    omega (arith, ap bytes_sent q.memory, sum_by-append sent_by n.memory q.notes, sent, held)

module _ (major i : ℕ) (classes : List Class) where
  -- a drr hands up no more than it had reached, or than the class shows, or the class gives nothing
  pub record StepServes (d next : DeviceState (List Note)) (n m : Node (List Note)) (x : ClassAt) : Type 0 where
    pub which : (reached m ≤ reached n) ⊎ (reached m ≤ bytes_sent n.memory + shown_by next.clock x) ⊎ (given_so_far major i next ≡ given_so_far major i d)
    pub holds : (p : Descriptor) → n.own.held ≡ Some p → reached m ≤ reached n

  quiet-serves : (d next : DeviceState (List Note)) (n m : Node (List Note)) (x : ClassAt) → IsQuiet n m → StepServes d next n m x
  quiet-serves d next n m x q =
      let same = quiet-reached n m q in
      let less : reached m ≤ reached n = omega (arith, same) in
      record { which = inl less; holds = λ p e. less }

  pub step-serves : (d : DeviceState (List Note)) (e : Event) → IsKept d → IsEvent e → HasClasses major classes d → HasClasses major classes (step history d e).device
      → (n m : Node (List Note)) → qdisc major d ≡ Some n → qdisc major (step history d e).device ≡ Some m
      → (x y : ClassAt) → class_in major i d ≡ Some x → class_in major i (step history d e).device ≡ Some y → StepServes d (step history d e).device n m x
  step-serves d e kept happens h k n m is at x y there then = by e happens k at then (becomes major d e n m kept happens is at)
    where
      by : (e : Event) → IsEvent e → HasClasses major classes (step history d e).device → qdisc major (step history d e).device ≡ Some m
          → class_in major i (step history d e).device ≡ Some y → Becomes (step history d e).device.clock e n m → StepServes d (step history d e).device n m x
      by (event.Arrive p moment) happens k at then b =
          let next : DeviceState (List Note) = (step history d (event.Arrive p moment)).device in
          quiet-serves d next n m x (put-quiet next.clock p n m b)
      by (event.Command c moment) happens k at then b =
          let next : DeviceState (List Note) = (step history d (event.Command c moment)).device in
          quiet-serves d next n m x (command-quiet next.clock n m b)
      by (event.Poll moment) happens k at then b =
          let next : DeviceState (List Note) = (step history d (event.Poll moment)).device in
          let now : ℕ = next.clock in
          let later : d.clock ≤ next.clock = clock-rises d (event.Poll moment) in
          let w : Worked = b.worked in
          let leaves = leaves-of (ask now (shape n)) (ask-gives now (shape n)) w b.stage in
          let after : reached m ≡ bytes_sent n.memory + (bytes_sent w.memory + length_held w.own.held) = ap reached (sym b.is) ∙ booked-sent n w in
          record {
            which = which later w b.is after (serves major i classes d now kept later h n is x there w (bytes_sent w.memory) leaves);
            holds = λ p e. (let first = holds major i classes d now kept later h n is x there w (bytes_sent w.memory) leaves p e in omega (arith, first, after));
          }
        where
          which : (later : d.clock ≤ (step history d (event.Poll moment)).device.clock) (w : Worked) → booked history n w ≡ m
              → reached m ≡ bytes_sent n.memory + (bytes_sent w.memory + length_held w.own.held)
              → Serves major i classes d (step history d (event.Poll moment)).device.clock kept later h n is x there w (bytes_sent w.memory)
              → (reached m ≤ reached n) ⊎ (reached m ≤ bytes_sent n.memory + shown_by (step history d (event.Poll moment)).device.clock x)
              ⊎ (given_so_far major i (step history d (event.Poll moment)).device ≡ given_so_far major i d)
          which later w is_w after (inl held) = inl (omega (arith, held, after))
          which later w is_w after (inr (inl shown)) = inr (inl (omega (arith, shown, after)))
          which later w is_w after (inr (inr silent)) =
              let next : DeviceState (List Note) = (step history d (event.Poll moment)).device in
              let kept_next : IsKept next = step-kept d (event.Poll moment) kept happens in
              let always : next.clock ≤ next.clock = omega arith in
              let child = child-is major i classes next next.clock kept_next always k m at y then in
              let same = silent y.child (ap (λ (q : Node (List Note)). child_for i classes (children q)) is_w ∙ child) in
              inr (inr (omega (arith, same, given-at major i d x there, given-at major i next y then)))

  -- ---- a stretch

  abbrev Moves : DeviceState (List Note) → List Event → DeviceState (List Note) → Type 0
  Moves d during end =
      (n m : Node (List Note)) → qdisc major d ≡ Some n → qdisc major end ≡ Some m → reached m ≤ reached n + all_sent major classes d during

  still : (d : DeviceState (List Note)) → IsKept d → HasClasses major classes d → Moves d [] d
  still d kept h n m is at = omega (arith, ap reached (same_Some n m (sym is ∙ at)))

  more : (d : DeviceState (List Note)) (e : Event) (during : List Event) (end : DeviceState (List Note)) → IsKept d → IsEvent e → HasClasses major classes d
      → HasClasses major classes (step history d e).device → Moves (step history d e).device during end → Moves d (e ∷ during) end
  more d e during end kept happens h k on n o is at =
      let next : DeviceState (List Note) = (step history d e).device in
      let middle = drr-node major classes next k in
      let m : Node (List Note) = middle.node in
      let p = drr-passes major classes d e kept happens h k n m is middle.there in
      let rest = on m o middle.there at in
      let passed = p.passed in
      let all = sum-both (λ (c : Class). given_so_far major c.name next - given_so_far major c.name d) (λ (c : Class). class_sent major c.name next during) classes in
      omega (arith, rest, passed, ap bytes_sent p.memory, sum_by-append sent_by n.memory p.notes, all)

  pub reaches : (settings : DeviceSettings) (before during : List Event) → IsInRange settings → All IsEvent before → All IsEvent during
      → Throughout (HasClasses major classes) settings before during → Moves (device_after settings before) during (device_after settings (before ++ during))
  reaches settings before during range earlier happen has =
      counted (HasClasses major classes) Moves still more settings before during range earlier happen has

-- ---- one event more

-- the state after it
pub one-more : (settings : DeviceSettings) (before seen : List Event) (e : Event)
    → device_after settings (before ++ (seen ++ e ∷ [])) ≡ (step history (device_after settings (before ++ seen)) e).device
one-more settings before seen e =
    ap (device_after settings) (sym (append_assoc before seen (e ∷ [])))
    ∙ ap (λ (r : Replay (List Note)). r.device) (replay_from-append history (nothing_yet history settings) (before ++ seen) e)

pub same-first : (x y : Event) (xs ys : List Event) → x ∷ xs ≡ y ∷ ys → x ≡ y
same-first x y xs ys is = cc

pub same-others : (x y : Event) (xs ys : List Event) → x ∷ xs ≡ y ∷ ys → xs ≡ ys
same-others x y xs ys is = cc

none-front : (xs ys : List Event) → xs ++ ys ≡ [] → xs ≡ []
none-front [] ys is = refl
none-front (x ∷ xs) ys is = let wrong : x ∷ (xs ++ ys) ≡ [] = is in cc

-- a front of some events and one more is a front of the others, or all
abbrev pub IsFront : List Event → List Event → Event → Type 0
IsFront xs seen e = ((zs : List Event) × (xs ++ zs ≡ seen)) ⊎ (xs ≡ seen ++ e ∷ [])

pub front-of : (xs ys seen : List Event) (e : Event) → xs ++ ys ≡ seen ++ e ∷ [] → IsFront xs seen e
front-of [] ys seen e is = inl (seen, refl)
front-of (x ∷ xs) ys [] e is =
    let none = none-front xs ys (same-others x e (xs ++ ys) [] is) in
    inr (ap (λ (zs : List Event). x ∷ zs) none ∙ ap (λ (z : Event). z ∷ []) (same-first x e (xs ++ ys) [] is))
front-of (x ∷ xs) ys (s ∷ seen) e is =
    by (same-first x s (xs ++ ys) (seen ++ e ∷ []) is) (front-of xs ys seen e (same-others x s (xs ++ ys) (seen ++ e ∷ []) is))
  where
    by : x ≡ s → IsFront xs seen e → IsFront (x ∷ xs) (s ∷ seen) e
    by first (inl o) = inl (o.0, ap (λ (z : Event). z ∷ (xs ++ o.0)) first ∙ ap (λ (zs : List Event). s ∷ zs) o.1)
    by first (inr same) = inr (ap (λ (z : Event). z ∷ xs) first ∙ ap (λ (zs : List Event). s ∷ zs) same)

-- what holds in each state up to it
pub one-more-holds : (P : DeviceState (List Note) → Type 0) (settings : DeviceSettings) (before seen : List Event) (e : Event)
    → Throughout P settings before seen → P (device_after settings (before ++ (seen ++ e ∷ []))) → Throughout P settings before (seen ++ e ∷ [])
one-more-holds P settings before seen e stays last xs ys split = by (front-of xs ys seen e split)
  where
    by : IsFront xs seen e → P (device_after settings (before ++ xs))
    by (inl o) = stays xs o.0 o.1
    by (inr same) = subst (λ (zs : List Event). P (device_after settings (before ++ zs))) (sym same) last

-- a poll leaves a fifo
pub keeps-poll : (major i : ℕ) (d : DeviceState (List Note)) (seen : List Event) (moment : ℕ) → KeepFifo major i d seen
    → KeepFifo major i d (seen ++ event.Poll moment ∷ [])
keeps-poll major i d [] moment h = (tt, tt)
keeps-poll major i d (e ∷ seen) moment h = (h.0, keeps-poll major i (step history d e).device seen moment h.1)
