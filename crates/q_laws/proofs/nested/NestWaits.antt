-- A packet that waits in a drr waits on there as long as the drr hands up nothing: what its classes give it holds.
use Rattle.std.proofs.Common.{◌≡◌, ℕ, ◌+◌, ◌-◌, ◌≤◌, ◌^◌, ◌⊎◌, inl, inr, List, ◌∷◌, ◌++◌, set, refl, sym, ap, subst, ◌∙◌, Some, None, Option, option_and_then, option_to_list, arith}
use Rattle.std.specs.Prelude.{All, slice_get}
use Rattle.std.specs.List.{flat_map}
use Rattle.std.specs.Option.{option_map_or}
use Rattle.std.proofs.lemmas.Bool.{cases_lt}
use Rattle.std.proofs.lemmas.List.Elements.{All-head}
use Rattle.std.proofs.lemmas.List.Sums.{sum_by-append}
use Rattle.std.proofs.lemmas.Option.{same_Some}
use Rattle.q_packet.specs.Descriptor.{Descriptor}
use Rattle.q_drr.specs.Schedule.{Class, Schedule}
use Rattle.q_drr.specs.Take.{choice_of}
use Rattle.q_model.specs.declared.event.Event.{Event}
use Rattle.q_model.specs.declared.event.Event.TheVariants as event
use Rattle.q_model.specs.Ask.{Asked, ask, ask_discipline, ask_own, befores, class_gives, class_serves, gives_nothing, head_of, holding, is_among, place_met, service_of}
use Rattle.q_model.specs.Beneath.{beneath_own, packets_in}
use Rattle.q_model.specs.Events.{IsEvent}
use Rattle.q_model.specs.Grants.{asked_entries}
use Rattle.q_model.specs.Lawful.{IsLawfulOwn}
use Rattle.q_model.specs.Node.{Discipline, Drr, Node, Own, each, nodes_in, shape, side_by_side}
use Rattle.q_model.specs.Numbers.{IsWithin}
use Rattle.q_model.specs.Step.{DeviceState, step}
use Rattle.q_model.specs.Stretches.{sent_by, bytes_sent, length_held, ClassAt, class_in, qdisc}
use Rattle.q_model.specs.Tally.{Note, history}
use Rattle.q_model.specs.Work.{Worked}
use Rattle.q_invariants.proofs.ask.AskStages.{IsAskOf}
use Rattle.q_invariants.proofs.ask.SentStages.{ask-gives}
use Rattle.q_invariants.proofs.class.ClassChildren.{child_for, child-at, child-set, place_in}
use Rattle.q_invariants.proofs.class.ClassLooks.{BookedChild, LookedAt, before-at, gives-for, looked-at}
use Rattle.q_invariants.proofs.Replays.{IsKept, step-kept}
use Rattle.q_invariants.proofs.sums.Told.{noted-history}
use Rattle.q_invariants.proofs.tree.Forests.{nodes-side}
use Rattle.q_invariants.proofs.tree.StepNodes.{IsAsked, becomes}
use Rattle.q_invariants.proofs.tree.Within.{found, lawful-of}
use Rattle.q_laws.specs.share.Service.{given_so_far, HasClasses}
use Rattle.q_laws.specs.turn.FifoTurn.{KeepsFifo}
use Rattle.q_laws.specs.turn.TurnWorst.{IsWaiting, held_at}
use Rattle.q_laws.proofs.nested.NestAsks.{after, asks, becomes-so, drr, first-child}
use Rattle.q_laws.proofs.rate.LinkAsks.{Leaves}
use Rattle.q_laws.proofs.share.PassedStretches.{IsQuiet, command-quiet, put-quiet}
use Rattle.q_laws.proofs.share.ServiceStretches.{given-at}
use Rattle.q_laws.proofs.turn.FifoTurns.{IsHere, child-put}
use Rattle.q_laws.proofs.turn.TurnWaits.{booked-sent, leaves-of, quiet-reached, reached}

-- ---- what a drr that is asked hands out or holds

module _ (now : ℕ) (own : Own) (below : List Asked) (s : Schedule) (is : own.discipline ≡ Drr s) where
  -- no class gave: it hands out or holds what it held
  pub record NoneGives (w : Worked) (taken : ℕ) : Type 0 where
    pub below_is : (w.below ≡ side_by_side (befores below)) ⊎ (w.below ≡ side_by_side (service_of s below).below)
    pub kept : taken + length_held w.own.held ≡ length_held own.held

  -- the class at this place gave: it held none, and hands out or holds what the class showed
  pub record OneGives (w : Worked) (taken : ℕ) : Type 0 where
    pub place : ℕ
    pub answer : Asked
    pub there : slice_get below place ≡ Some answer
    pub below_is : w.below ≡ side_by_side (set (service_of s below).below place answer.taken)
    pub none : length_held own.held ≡ 0
    pub kept : taken + length_held w.own.held ≡ length_held answer.shown

  abbrev pub Keeps : Worked → ℕ → Type 0
  Keeps w taken = NoneGives w taken ⊎ OneGives w taken

  held-of : (w a : Worked) → w ≡ a → length_held w.own.held ≡ length_held a.own.held
  held-of w a e = ap (λ (x : Worked). length_held x.own.held) e

  nothing : Asked
  nothing = gives_nothing own below (service_of s below)

  held-keeps : (p : Descriptor) → own.held ≡ Some p → (w : Worked) (taken : ℕ) → Leaves (holding own below p) w taken → Keeps w taken
  held-keeps p e w taken (inl h) =
      inl (record { below_is = inl (ap (λ (x : Worked). x.below) h.0); kept = omega (arith, h.1, held-of w (holding own below p).before h.0) })
  held-keeps p e w taken (inr (inl h)) =
      inl (record { below_is = inl (ap (λ (x : Worked). x.below) h.0); kept = omega (arith, h.1, held-of w (holding own below p).peeked h.0) })
  held-keeps p e w taken (inr (inr h)) =
      let held : length_held own.held ≡ p.len = ap length_held e in
      let left : length_held w.own.held ≡ 0 = held-of w (holding own below p).taken h.0 in
      let given : taken ≡ p.len = h.1 in
      inl (record { below_is = inl (ap (λ (x : Worked). x.below) h.0); kept = omega (arith, held, left, given) })

  none-keeps : own.held ≡ None → (w : Worked) (taken : ℕ) → Leaves (gives_nothing own below (service_of s below)) w taken → Keeps w taken
  none-keeps e w taken (inl h) =
      inl (record {
        below_is = inl (ap (λ (x : Worked). x.below) h.0);
        kept = omega (arith, h.1, held-of w (gives_nothing own below (service_of s below)).before h.0);
      })
  none-keeps e w taken (inr (inl h)) =
      let left : length_held w.own.held ≡ 0 = held-of w (gives_nothing own below (service_of s below)).peeked h.0 in
      inl (record { below_is = inr (ap (λ (x : Worked). x.below) h.0); kept = omega (arith, h.1, left, ap length_held e) })
  none-keeps e w taken (inr (inr h)) =
      let left : length_held w.own.held ≡ 0 = held-of w (gives_nothing own below (service_of s below)).taken h.0 in
      let given : taken ≡ 0 = h.1 in
      inl (record { below_is = inr (ap (λ (x : Worked). x.below) h.0); kept = omega (arith, given, left, ap length_held e) })

  gives-keeps : own.held ≡ None → (i : ℕ) (a : Asked) (p : Descriptor) → slice_get below i ≡ Some a → a.shown ≡ Some p
      → (w : Worked) (taken : ℕ) → Leaves (class_gives own below (service_of s below) i a p) w taken → Keeps w taken
  gives-keeps e i a p there shows w taken (inl h) =
      inl (record {
        below_is = inl (ap (λ (x : Worked). x.below) h.0);
        kept = omega (arith, h.1, held-of w (class_gives own below (service_of s below) i a p).before h.0);
      })
  gives-keeps e i a p there shows w taken (inr (inl h)) =
      let left : length_held w.own.held ≡ p.len = held-of w (class_gives own below (service_of s below) i a p).peeked h.0 in
      inr (record {
        place = i;
        answer = a;
        there = there;
        below_is = ap (λ (x : Worked). x.below) h.0;
        none = ap length_held e;
        kept = omega (arith, h.1, left, ap length_held shows);
      })
  gives-keeps e i a p there shows w taken (inr (inr h)) =
      let left : length_held w.own.held ≡ 0 = held-of w (class_gives own below (service_of s below) i a p).taken h.0 in
      let given : taken ≡ p.len = h.1 in
      inr (record {
        place = i;
        answer = a;
        there = there;
        below_is = ap (λ (x : Worked). x.below) h.0;
        none = ap length_held e;
        kept = omega (arith, given, left, ap length_held shows);
      })

  pub drr-keeps : (w : Worked) (taken : ℕ) → Leaves (ask_own now own below) w taken → Keeps w taken
  drr-keeps w taken leaves = by own.held refl leaves
    where
      shows : own.held ≡ None → (i : ℕ) (a : Asked) (o : Option Descriptor) → slice_get below i ≡ Some a → a.shown ≡ o
          → Leaves (option_map_or (class_gives own below (service_of s below) i a) o (gives_nothing own below (service_of s below))) w taken → Keeps w taken
      shows e i a None there shown h = none-keeps e w taken h
      shows e i a (Some p) there shown h = gives-keeps e i a p there shown w taken h

      child : own.held ≡ None → (i : ℕ) (o : Option Asked) → slice_get below i ≡ o
          → Leaves (option_map_or (class_serves own below (service_of s below) i) o (gives_nothing own below (service_of s below))) w taken → Keeps w taken
      child e i None there h = none-keeps e w taken h
      child e i (Some a) there h = shows e i a a.shown there refl h

      met : own.held ≡ None → (o : Option ℕ)
          → Leaves (option_map_or (λ i. option_map_or (class_serves own below (service_of s below) i) (slice_get below i)
          (gives_nothing own below (service_of s below))) o (gives_nothing own below (service_of s below))) w taken
          → Keeps w taken
      met e None h = none-keeps e w taken h
      met e (Some i) h = child e i (slice_get below i) refl h

      by : (o : Option Descriptor) → own.held ≡ o → Leaves (option_map_or (holding own below) o (ask_discipline now own below own.discipline)) w taken → Keeps w taken
      by (Some p) e h = held-keeps p e w taken h
      by None e h = met e (place_met s below) (subst (λ (d : Discipline). Leaves (ask_discipline now own below d) w taken) is h)

-- ---- in a poll

module _ (major i : ℕ) (classes : List Class) (d : DeviceState (List Note)) (moment : ℕ) (kept : IsKept d) (low : moment ≤ 2 ^ 62)
    (h : HasClasses major classes d) (k : HasClasses major classes (step history d (event.Poll moment)).device) (x y : ClassAt)
    (is : class_in major i d ≡ Some x) (at : class_in major i (step history d (event.Poll moment)).device ≡ Some y) where
  abbrev next : DeviceState (List Note)
  next = (step history d (event.Poll moment)).device

  abbrev now : ℕ
  now = (step history d (event.Poll moment)).device.clock

  abbrev n : Node (List Note)
  n = (drr major i classes d moment kept low h k x y is at).node

  abbrev m : Node (List Note)
  m = (after major i classes d moment kept low h k x y is at).node

  abbrev s : Schedule
  s = (drr major i classes d moment kept low h k x y is at).schedule

  abbrev asked : IsAsked (step history d (event.Poll moment)).device.clock n m
  asked = asks major i classes d moment kept low h k x y is at

  abbrev below : List Asked
  below = each (ask_own now) (shape n).below

  b : BookedChild (IsAskOf (step history d (event.Poll moment)).device.clock) classes n.below asked.worked.below i y.child
  b = becomes-so major i classes d moment kept low h k x y is at

  child-sent : bytes_sent y.child.memory ≡ bytes_sent x.child.memory + bytes_sent b.worked.memory
  child-sent =
      let mine : b.child ≡ x.child = same_Some b.child x.child (sym b.there ∙ first-child major i classes d moment kept low h k x y is at) in
      ap (λ (q : Node (List Note)). bytes_sent q.memory) (sym b.is) ∙ ap bytes_sent (noted-history b.child.memory b.worked.memory)
      ∙ sum_by-append sent_by b.child.memory b.worked.memory ∙ ap (λ (q : Node (List Note)). bytes_sent q.memory + bytes_sent b.worked.memory) mine

  -- what the child is, where it is one of these
  listed : (ws : List Worked) → asked.worked.below ≡ side_by_side ws → child_for i classes ws ≡ Some b.worked
  listed ws e = ap (child_for i classes) (sym (ap nodes_in e ∙ nodes-side ws)) ∙ b.becomes

  looks : LookedAt classes below i b.worked → bytes_sent b.worked.memory ≡ 0
  looks l = by l.which
    where
      by : (b.worked ≡ l.answer.peeked) ⊎ (b.worked ≡ l.answer.before) → bytes_sent b.worked.memory ≡ 0
      by (inl e) = ap (λ (w : Worked). bytes_sent w.memory) e ∙ (gives-for now (shape n).below classes i l.answer l.there).peeked
      by (inr e) = ap (λ (w : Worked). bytes_sent w.memory) e ∙ (gives-for now (shape n).below classes i l.answer l.there).before

  served : child_for i classes (service_of s below).below ≡ Some b.worked → bytes_sent b.worked.memory ≡ 0
  served e =
      let own = (drr major i classes d moment kept low h k x y is at).same in
      let l = looked-at (is_among (asked_entries (choice_of (head_of s below) s) s.active)) s.classes below i b.worked
      (ap (λ (cs : List Class). child_for i cs (service_of s below).below) own ∙ e) in
      looks (record { answer = l.answer; there = ap (λ (cs : List Class). child_for i cs below) (sym own) ∙ l.there; which = l.which })

  -- what the class gives, the drr hands up or holds
  pub poll-keeps : reached (drr major i classes d moment kept low h k x y is at).node + (bytes_sent y.child.memory - bytes_sent x.child.memory)
      ≤ reached (after major i classes d moment kept low h k x y is at).node
  poll-keeps =
      by (drr-keeps now n.own below s (drr major i classes d moment kept low h k x y is at).discipline asked.worked (bytes_sent asked.worked.memory)
      (leaves-of (ask now (shape n)) (ask-gives now (shape n)) asked.worked asked.stage))
    where
      reached_is : reached m ≡ bytes_sent n.memory + (bytes_sent asked.worked.memory + length_held asked.worked.own.held)
      reached_is = ap reached (sym asked.is) ∙ booked-sent n asked.worked

      by : Keeps now n.own below s (drr major i classes d moment kept low h k x y is at).discipline asked.worked (bytes_sent asked.worked.memory)
          → reached n + (bytes_sent y.child.memory - bytes_sent x.child.memory) ≤ reached m
      by (inl none) =
          let same = none.kept in
          let gave = quiet none.below_is in
          omega (arith, same, gave, child-sent, reached_is)
        where
          quiet : (asked.worked.below ≡ side_by_side (befores below)) ⊎ (asked.worked.below ≡ side_by_side (service_of s below).below) → bytes_sent b.worked.memory ≡ 0
          quiet (inl e) = looks (before-at classes below i b.worked (listed (befores below) e))
          quiet (inr e) = served (listed (service_of s below).below e)
      by (inr one) =
          let same = one.kept in
          let held = one.none in
          let gave = most (child-set i classes (service_of s below).below one.place one.answer.taken b.worked
          (listed (set (service_of s below).below one.place one.answer.taken) one.below_is)).which in
          omega (arith, same, held, gave, child-sent, reached_is)
        where
          most : ((place_in i classes ≡ Some one.place) × (b.worked ≡ one.answer.taken))
              ⊎ ((child_for i classes (service_of s below).below ≡ Some b.worked) × (place_in i classes ≡ Some one.place → ⊥))
              → bytes_sent b.worked.memory ≤ length_held one.answer.shown
          most (inl o) =
              let got : child_for i classes below ≡ Some one.answer = sym (child-at i classes below) ∙ ap (option_and_then (slice_get below)) o.0 ∙ one.there in
              let sent = ap (λ (v : Worked). bytes_sent v.memory) o.1 ∙ (gives-for now (shape n).below classes i one.answer got).taken in
              omega (arith, sent)
          most (inr o) = let none = served o.0 in omega (arith, none)

-- ---- a packet that is held has a byte

held-byte : (mtu clock : ℕ) (own : Own) (below : List (List Descriptor)) → IsLawfulOwn mtu clock own below → (p : Descriptor) → own.held ≡ Some p → 1 ≤ p.len
held-byte mtu clock own below h p e =
    let rest : List Descriptor = packets_in own.discipline ++ flat_map (λ packets. packets) below in
    let first : beneath_own own below ≡ p ∷ rest =
    ap (λ (o : Option Descriptor). option_to_list o ++ packets_in own.discipline ++ flat_map (λ packets. packets) below) e in
    (All-head (λ (q : Descriptor). IsWithin 1 mtu q.len) p rest (subst (λ ps. All (λ (q : Descriptor). IsWithin 1 mtu q.len) ps) first h.lengths)).0

pub held-full : (major : ℕ) (d : DeviceState (List Note)) → IsKept d → (n : Node (List Note)) → qdisc major d ≡ Some n → (p : Descriptor)
    → n.own.held ≡ Some p → 1 ≤ length_held n.own.held
held-full major d kept n is p e =
    let law = lawful-of d.tree.device.mtu d.clock n d.tree.root kept.lawful (found major d n is).there in
    let least = held-byte d.tree.device.mtu d.clock n.own (each beneath_own n.below) law.0 p e in
    omega (arith, least, ap length_held e)

-- ---- at each event

-- a drr keeps what it has, and what a qdisc gives that is the child of its class
pub event-keeps : (major i : ℕ) (classes : List Class) (d : DeviceState (List Note)) → IsKept d → (e : Event) → IsEvent e → HasClasses major classes d
    → HasClasses major classes (step history d e).device → (n m : Node (List Note)) → qdisc major d ≡ Some n → qdisc major (step history d e).device ≡ Some m
    → (x y : ClassAt) → class_in major i d ≡ Some x → class_in major i (step history d e).device ≡ Some y
    → (reached n ≤ reached m) × ((below : ℕ) → qdisc below d ≡ Some x.child → qdisc below (step history d e).device ≡ Some y.child
    → reached n + (bytes_sent y.child.memory - bytes_sent x.child.memory) ≤ reached m)
event-keeps major i classes d kept e happens h k n m is at x y there then_there = by e happens k at then_there
  where
    quiet-child : (a b : Node (List Note)) → IsQuiet a b → bytes_sent b.memory ≡ bytes_sent a.memory
    quiet-child a b q = let none = q.sent in omega (arith, none, ap bytes_sent q.memory, sum_by-append sent_by a.memory q.notes)

    by : (e : Event) → IsEvent e → HasClasses major classes (step history d e).device → qdisc major (step history d e).device ≡ Some m
        → class_in major i (step history d e).device ≡ Some y → (reached n ≤ reached m) × ((below : ℕ) → qdisc below d ≡ Some x.child
        → qdisc below (step history d e).device ≡ Some y.child → reached n + (bytes_sent y.child.memory - bytes_sent x.child.memory) ≤ reached m)
    by (event.Arrive p moment) range k at at_y =
        let next : DeviceState (List Note) = (step history d (event.Arrive p moment)).device in
        let same = quiet-reached n m (put-quiet next.clock p n m (becomes major d (event.Arrive p moment) n m kept range is at)) in (
          omega (arith, same),
          λ below a b. (let none = quiet-child x.child y.child (put-quiet next.clock p x.child y.child
              (becomes below d (event.Arrive p moment) x.child y.child kept range a b)) in omega (arith, same, none)),
        )
    by (event.Command c moment) range k at at_y =
        let next : DeviceState (List Note) = (step history d (event.Command c moment)).device in
        let same = quiet-reached n m (command-quiet next.clock n m (becomes major d (event.Command c moment) n m kept range is at)) in (
          omega (arith, same),
          λ below a b. (let none = quiet-child x.child y.child (command-quiet next.clock x.child y.child
              (becomes below d (event.Command c moment) x.child y.child kept range a b)) in omega (arith, same, none)),
        )
    by (event.Poll moment) low k at at_y =
        let drr_now = drr major i classes d moment kept low h k x y there at_y in
        let drr_then = after major i classes d moment kept low h k x y there at_y in
        let keeps = poll-keeps major i classes d moment kept low h k x y there at_y in
        let mine = ap reached (same_Some drr_now.node n (sym drr_now.there ∙ is)) in
        let theirs = ap reached (same_Some drr_then.node m (sym drr_then.there ∙ at)) in
        (omega (arith, keeps, mine, theirs), λ below a b. omega (arith, keeps, mine, theirs))

-- ---- it waits on

module _ (major i quantum : ℕ) (classes : List Class) (first d : DeviceState (List Note)) (kept : IsKept d) where
  pub waits-on : (e : Event) → IsEvent e → (h : IsHere major i quantum classes d) → (k : IsHere major i quantum classes (step history d e).device)
      → KeepsFifo major i d e → (n m : Node (List Note)) → qdisc major d ≡ Some n → qdisc major (step history d e).device ≡ Some m
      → bytes_sent m.memory ≤ bytes_sent n.memory → IsWaiting major i first d → IsWaiting major i first (step history d e).device
  waits-on e happens h k keeps n m is at silent waiting = by e happens k keeps at waiting
    where
      -- it holds a packet then
      holds : (next : DeviceState (List Note)) → qdisc major next ≡ Some m → (o : Option Descriptor) → m.own.held ≡ o → 1 ≤ length_held o → IsWaiting major i first next
      holds next at (Some p) e some = inr (p, ap (option_and_then (λ (q : Node (List Note)). q.own.held)) at ∙ e)
      holds next at None e some = absurd (omega (arith, some))

      byte : (p : Descriptor) → n.own.held ≡ Some p → 1 ≤ length_held n.own.held
      byte p e = held-full major d kept n is p e

      held_now : (p : Descriptor) → held_at major d ≡ Some p → n.own.held ≡ Some p
      held_now p e = sym (ap (option_and_then (λ (q : Node (List Note)). q.own.held)) is) ∙ e

      still : (next : DeviceState (List Note)) → qdisc major next ≡ Some m → given_so_far major i next ≡ given_so_far major i d → length_held m.own.held ≡ length_held n.own.held
          → IsWaiting major i first d → IsWaiting major i first next
      still next at given held (inl inside) = inl (omega (arith, inside, given))
      still next at given held (inr o) =
          let some = byte o.0 (held_now o.0 o.1) in
          holds next at m.own.held refl (omega (arith, some, held))

      by : (e : Event) → IsEvent e → (k : IsHere major i quantum classes (step history d e).device) → KeepsFifo major i d e
          → qdisc major (step history d e).device ≡ Some m → IsWaiting major i first d → IsWaiting major i first (step history d e).device
      by (event.Command c moment) range k keeps at waiting =
          let next : DeviceState (List Note) = (step history d (event.Command c moment)).device in
          still next at keeps.1 (command-quiet next.clock n m (becomes major d (event.Command c moment) n m kept range is at)).held waiting
      by (event.Arrive p moment) range k keeps at waiting =
          let next : DeviceState (List Note) = (step history d (event.Arrive p moment)).device in
          let put = becomes major d (event.Arrive p moment) n m kept range is at in
          let child = child-put major i quantum classes d next kept (step-kept d (event.Arrive p moment) kept range) h k n m is at next.clock p put in
          let q = put-quiet next.clock p h.1.class.child k.1.class.child child in
          let none = q.sent in
          let memory = ap bytes_sent q.memory ∙ sum_by-append sent_by h.1.class.child.memory q.notes in
          let given : given_so_far major i next ≡ given_so_far major i d =
          omega (arith, none, memory, given-at major i d h.1.class h.1.there, given-at major i next k.1.class k.1.there) in
          still next at given (put-quiet next.clock p n m put).held waiting
      by (event.Poll moment) low k keeps at waiting =
          let next : DeviceState (List Note) = (step history d (event.Poll moment)).device in
          let drr_now = drr major i classes d moment kept low h.0 k.0 h.1.class k.1.class h.1.there k.1.there in
          let drr_then = after major i classes d moment kept low h.0 k.0 h.1.class k.1.class h.1.there k.1.there in
          let keeps_all = poll-keeps major i classes d moment kept low h.0 k.0 h.1.class k.1.class h.1.there k.1.there in
          let mine = ap reached (same_Some drr_now.node n (sym drr_now.there ∙ is)) in
          let theirs = ap reached (same_Some drr_then.node m (sym drr_then.there ∙ at)) in
          let gave : reached n + (given_so_far major i next - given_so_far major i d) ≤ reached m =
          omega (arith, keeps_all, mine, theirs, given-at major i d h.1.class h.1.there, given-at major i next k.1.class k.1.there) in
          polled next at gave waiting
        where
          polled : (next : DeviceState (List Note)) → qdisc major next ≡ Some m → reached n + (given_so_far major i next - given_so_far major i d) ≤ reached m
              → IsWaiting major i first d → IsWaiting major i first next
          polled next at gave (inr o) =
              let some = byte o.0 (held_now o.0 o.1) in
              holds next at m.own.held refl (omega (arith, some, gave, silent))
          polled next at gave (inl inside) = elim (cases_lt (given_so_far major i d) (given_so_far major i next)) [
            | inl more ↦ holds next at m.own.held refl (omega (arith, more, gave, silent))
            | inr same ↦ inl (omega (arith, same, inside))
          ]
