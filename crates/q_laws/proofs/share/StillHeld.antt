-- What the drr still holds of a class: with it the deficit of the class is as low as without, since it paid for it.
use Rattle.std.proofs.Common.{◌≡◌, ℕ, zero, suc, ◌+◌, ◌-◌, ◌*◌, ◌<◌, ◌≤◌, min, inl, inr, false, List, [], ◌∷◌, ◌++◌, refl, sym, ap, subst, ◌∙◌, Option, Some, None, option_and_then, arith}
use Rattle.std.specs.Prelude.{All, IsSomeAnd}
use Rattle.std.specs.Option.{option_map_or}
use Rattle.std.proofs.Math.Nat.{add-mul}
use Rattle.std.proofs.lemmas.List.Sums.{sum_by-append}
use Rattle.std.proofs.lemmas.Option.{same_Some}
use Rattle.q_packet.specs.Descriptor.{Descriptor}
use Rattle.q_drr.specs.Schedule.{quantum_of, deficit_of}
use Rattle.q_model.specs.declared.event.Event.{Event}
use Rattle.q_model.specs.declared.event.Event.TheVariants as event
use Rattle.q_model.specs.Ask.{Asked, length_of, holding, ask_discipline, ask_own, ask}
use Rattle.q_model.specs.Beneath.{is_empty}
use Rattle.q_model.specs.Events.{IsEvent}
use Rattle.q_model.specs.Node.{Own, Node, each, shape}
use Rattle.q_model.specs.Settings.{DeviceSettings, IsInRange}
use Rattle.q_model.specs.Step.{DeviceState, step}
use Rattle.q_model.specs.Stretches.{sent_by, bytes_sent, granted_by, grants_to, length_held, ClassAt, class_in, IsBackloggedClass, Throughout}
use Rattle.q_model.specs.Tally.{Note, history}
use Rattle.q_model.specs.Work.{Worked}
use Rattle.q_invariants.specs.Kept.{IsLawfulRoot}
use Rattle.q_invariants.proofs.Along.{counted}
use Rattle.q_invariants.proofs.ask.Asks.{forest-answers}
use Rattle.q_invariants.proofs.ask.AskStages.{IsStageOf}
use Rattle.q_invariants.proofs.ask.DrrService.{heads-fit}
use Rattle.q_invariants.proofs.class.ClassChildren.{child-at}
use Rattle.q_invariants.proofs.class.ClassLooks.{answer-for}
use Rattle.q_invariants.proofs.class.ClassMoves.{ClassNode, class-node, class-moves, class-short}
use Rattle.q_invariants.proofs.edit.EditLater.{root-later}
use Rattle.q_invariants.proofs.Replays.{IsKept, step-kept}
use Rattle.q_invariants.proofs.sums.Told.{noted-history}
use Rattle.q_invariants.proofs.tree.Forests.{lawful-with_memory}
use Rattle.q_invariants.proofs.tree.StepNodes.{IsAsked, Becomes, becomes, clock-rises}
use Rattle.q_invariants.proofs.tree.Within.{found, lawful-of}
use Rattle.q_device.specs.Sharing.{device_after}
use Rattle.q_device.proofs.ClassStretches.{at-start, mtu-stays, same-rest, deficits-bounded}
use Rattle.q_laws.specs.share.Handed.{held_by, still_held}
use Rattle.q_laws.specs.share.Service.{given_so_far, class_sent}
use Rattle.q_laws.proofs.share.PassedStretches.{put-quiet, command-quiet}
use Rattle.q_laws.proofs.share.ServiceStretches.{given-at}

-- ---- a drr that holds a packet grants nothing

held-silent : (c now : ℕ) (own : Own) (below : List Asked) (p : Descriptor) → own.held ≡ Some p → (w : Worked) → IsStageOf (ask_own now own below) w → grants_to c w.memory ≡ 0
held-silent c now own below p e w stage =
    by (subst (λ (o : Option Descriptor). IsStageOf (option_map_or (holding own below) o (ask_discipline now own below own.discipline)) w) e stage)
  where
    by : IsStageOf (holding own below p) w → grants_to c w.memory ≡ 0
    by (inl h) = ap (λ (x : Worked). grants_to c x.memory) h
    by (inr (inl h)) = ap (λ (x : Worked). grants_to c x.memory) h
    by (inr (inr h)) = ap (λ (x : Worked). grants_to c x.memory) h

module _ (major i : ℕ) (d : DeviceState (List Note)) (e : Event) (x y : ClassAt) (kept : IsKept d) (range : IsEvent e)
    (is : class_in major i d ≡ Some x) (at : class_in major i (step history d e).device ≡ Some y) where
  abbrev next : DeviceState (List Note)
  next = (step history d e).device

  a : ClassNode major i d x
  a = class-node major i d x is

  b : ClassNode major i next y
  b = class-node major i next y at

  held-is : held_by major d ≡ length_held a.node.own.held
  held-is = ap (λ (o : Option (Node (List Note))). option_map_or (λ (n : Node (List Note)). length_held n.own.held) o 0) a.there

  -- so where it grants, it held none
  grants-free : (notes : List Note) (k : ℕ) → y.noted ≡ x.noted ++ notes → grants_to i notes ≡ suc k → held_by major d ≡ 0
  grants-free notes k noted some =
      by e (becomes major d e a.node b.node kept range a.there b.there)
    where
      -- notes of the drr that are these have that grant
      no-grants : (others : List Note) → b.node.memory ≡ a.node.memory ++ others → grants_to i others ≡ 0 → held_by major d ≡ 0
      no-grants others memory none =
          let same : others ≡ notes = same-rest x.noted others notes (sym (sym b.noted ∙ memory ∙ ap (λ ns. ns ++ others) a.noted) ∙ noted) in
          absurd (omega (arith, some, none, ap (grants_to i) same))

      polled : IsAsked next.clock a.node b.node → held_by major d ≡ 0
      polled asked = held a.node.own.held refl
        where
          held : (o : Option Descriptor) → a.node.own.held ≡ o → held_by major d ≡ 0
          held None none = held-is ∙ ap length_held none
          held (Some p) there =
              no-grants asked.worked.memory (ap (λ (n : Node (List Note)). n.memory) (sym asked.is) ∙ noted-history a.node.memory asked.worked.memory)
              (held-silent i next.clock a.node.own (each (ask_own next.clock) (shape a.node).below) p there asked.worked asked.stage)

      by : (f : Event) → Becomes next.clock f a.node b.node → held_by major d ≡ 0
      by (event.Arrive p moment) put = let q = put-quiet next.clock p a.node b.node put in no-grants q.notes q.memory (q.granted i)
      by (event.Command c moment) edit = let q = command-quiet next.clock a.node b.node edit in no-grants q.notes q.memory (q.granted i)
      by (event.Poll moment) asked = polled asked

  -- the child shows no packet longer than the mtu
  shows-short : (len : ℕ) → length_of (ask next.clock (shape x.child)) ≡ Some len → len ≤ d.tree.device.mtu
  shows-short len shown =
      let now : ℕ = next.clock in
      let mtu : ℕ = d.tree.device.mtu in
      let n : Node (List Note) = a.node in
      let lawful : IsLawfulRoot mtu now (shape n) =
      lawful-with_memory mtu now (λ u. tt) n (lawful-of mtu now n d.tree.root (root-later d.clock now (clock-rises d e) mtu d.tree.root kept.lawful) (found major d n a.there).there) in
      let fits = heads-fit mtu now x.schedule (each (ask_own now) (shape n).below) (forest-answers mtu now kept.least_mtu (step-kept d e kept range).moment (shape n).below lawful.1) in
      fits i len (ap (option_and_then length_of) (child-at i x.schedule.classes (each (ask_own now) (shape n).below) ∙ answer-for now n.below x.schedule.classes i x.child a.child) ∙ shown)

short-of : (mtu deficit : ℕ) (o : Option ℕ) → ((len : ℕ) → o ≡ Some len → len ≤ mtu) → IsSomeAnd o (λ len. deficit < len) → deficit < mtu
short-of mtu deficit None most less = absurd less
short-of mtu deficit (Some len) most less = omega (arith, most len refl, less)

-- ---- over a stretch

module _ (major i quantum mtu : ℕ) where
  abbrev Stays : DeviceState (List Note) → Type 0
  Stays d = IsBackloggedClass major i quantum d × (d.tree.device.mtu ≡ mtu)

  -- so many bytes of the class are still held
  pub record IsLow (d : DeviceState (List Note)) (x : ClassAt) (w : ℕ) : Type 0 where
    pub within : w ≤ held_by major d
    pub low : deficit_of i x.schedule.active + w < quantum + mtu

  abbrev Moves : DeviceState (List Note) → List Event → DeviceState (List Note) → Type 0
  Moves d during end = (x z : ClassAt) (w : ℕ) → class_in major i d ≡ Some x → class_in major i end ≡ Some z → IsLow d x w → IsLow end z (still_held major i w d during)

  still : (d : DeviceState (List Note)) → IsKept d → Stays d → Moves d [] d
  still d kept h x z w is at low = subst (λ (c : ClassAt). IsLow d c w) (same_Some x z (sym is ∙ at)) low

  more : (d : DeviceState (List Note)) (e : Event) (during : List Event) (end : DeviceState (List Note)) → IsKept d → IsEvent e → Stays d → Stays (step history d e).device
      → Moves (step history d e).device during end → Moves d (e ∷ during) end
  more d e during end kept event h k on x z w is at low =
      let next : DeviceState (List Note) = (step history d e).device in
      let y : ClassAt = k.0.class in
      let same : h.0.class ≡ x = same_Some h.0.class x (sym h.0.there ∙ is) in
      let queued : is_empty x.child ≡ false = ap (λ (c : ClassAt). is_empty c.child) (sym same) ∙ h.0.queued in
      let q : quantum_of i x.schedule.classes ≡ quantum = ap (λ (c : ClassAt). quantum_of i c.schedule.classes) (sym same) ∙ h.0.same_quantum in
      let m = class-moves major i d e x y kept event is k.0.there queued k.0.queued (k.0.same_quantum ∙ sym q) in
      let sent : bytes_sent y.child.memory ≡ bytes_sent x.child.memory + bytes_sent m.given = ap bytes_sent m.gives ∙ sum_by-append sent_by x.child.memory m.given in
      let gain : given_so_far major i next - given_so_far major i d ≡ bytes_sent m.given = omega (arith, sent, given-at major i next y k.0.there, given-at major i d x is) in
      let book : bytes_sent m.given + deficit_of i y.schedule.active ≡ grants_to i m.notes * quantum + deficit_of i x.schedule.active =
      (let books = m.books in omega (arith, books, ap (λ n. grants_to i m.notes * n) q)) in
      on y z (min (w + (given_so_far major i next - given_so_far major i d)) (held_by major next)) k.0.there at
      (record { within = omega arith; low = lowest m.notes m.is q (bytes_sent m.given) gain book (grants_to i m.notes) refl })
    where
      lowest : (notes : List Note) → k.0.class.noted ≡ x.noted ++ notes → quantum_of i x.schedule.classes ≡ quantum → (given : ℕ)
          → given_so_far major i (step history d e).device - given_so_far major i d ≡ given
          → given + deficit_of i k.0.class.schedule.active ≡ grants_to i notes * quantum + deficit_of i x.schedule.active
          → (g : ℕ) → grants_to i notes ≡ g
          → deficit_of i k.0.class.schedule.active + min (w + (given_so_far major i (step history d e).device - given_so_far major i d)) (held_by major (step history d e).device) < quantum + mtu
      lowest notes noted q given gain book zero none =
          let less = low.low in
          omega (arith, less, gain, book, ap (λ n. n * quantum) none)
      lowest notes noted q given gain book (suc j) some =
          let free = grants-free major i d e x k.0.class kept event is k.0.there notes j noted some in
          let whole : grants_to i k.0.class.noted ≡ grants_to i x.noted + suc j = ap (grants_to i) noted ∙ sum_by-append (granted_by i) x.noted notes ∙ ap (λ n. grants_to i x.noted + n) some in
          let short = short-of d.tree.device.mtu (deficit_of i x.schedule.active + j * quantum_of i x.schedule.classes) (length_of (ask (step history d e).device.clock (shape x.child)))
          (shows-short major i d e x k.0.class kept event is k.0.there) (class-short major i j d e x k.0.class kept event is k.0.there whole) in
          let within = low.within in
          let last : suc j * quantum ≡ j * quantum + 1 * quantum = ap (λ n. n * quantum) (let s : suc j ≡ j + 1 = omega arith in s) ∙ add-mul j 1 quantum in
          omega (arith, within, free, gain, book, ap (λ n. n * quantum) some, short, last, ap (λ n. j * n) q, h.1)

  pub still-held-low : (settings : DeviceSettings) (before during : List Event) → IsInRange settings → All IsEvent before → All IsEvent during → settings.mtu ≡ mtu
      → Throughout (IsBackloggedClass major i quantum) settings before during → (last : ClassAt) → class_in major i (device_after settings (before ++ during)) ≡ Some last
      → IsLow (device_after settings (before ++ during)) last (still_held major i 0 (device_after settings before) during)
  still-held-low settings before during range all_before all_during same stays last at =
      let h = at-start (IsBackloggedClass major i quantum) settings before during stays in
      let bound = deficits-bounded settings range before major i h.class all_before h.there in
      counted Stays Moves still more settings before during range all_before all_during (λ seen later e. (stays seen later e, mtu-stays settings (before ++ seen) ∙ same)) h.class last 0 h.there at
      (record { within = omega arith; low = omega (arith, bound, h.same_quantum, same) })

-- it is a part of what the class handed over
pub still-within : (major i held : ℕ) (d : DeviceState (List Note)) (events : List Event) → still_held major i held d events ≤ held + class_sent major i d events
still-within major i held d [] = omega arith
still-within major i held d (e ∷ events) =
    let next : DeviceState (List Note) = (step history d e).device in
    let rest = still-within major i (min (held + (given_so_far major i next - given_so_far major i d)) (held_by major next)) next events in
    omega (arith, rest)
