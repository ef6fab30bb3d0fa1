-- What polls give, and what a tbf at the root pays for, is what the drr below has handed up; or what a drr at the root has.
use Rattle.std.proofs.Common.{◌≡◌, ℕ, ◌+◌, ◌≤◌, max, inl, inr, List, [], ◌∷◌, ◌++◌, refl, sym, ap, subst, ◌∙◌, Option, Some, None, Result, Ok, Err, option_to_list, arith}
use Rattle.std.specs.Prelude.{Bool, true, false, All, is_some, slice_get, if◌then◌else◌}
use Rattle.std.specs.List.{filter_map}
use Rattle.std.specs.Option.{option_map_or}
use Rattle.std.proofs.lemmas.List.Sums.{sum_by-append}
use Rattle.std.proofs.lemmas.Option.{same_Some}
use Rattle.q_packet.specs.Descriptor.{Descriptor}
use Rattle.q_bucket.specs.Level.{TokenBucket, allows}
use Rattle.q_model.specs.declared.event.Event.{Event}
use Rattle.q_model.specs.declared.event.Event.TheVariants as event
use Rattle.q_model.specs.declared.refusal.Refusal.{Refusal}
use Rattle.q_model.specs.declared.reply.Reply.{Reply}
use Rattle.q_model.specs.Ask.{Asked, ask, ask_discipline, ask_own, holding, spends, take_from, waits}
use Rattle.q_model.specs.Beneath.{is_empty}
use Rattle.q_model.specs.Edit.{Edit}
use Rattle.q_model.specs.Events.{IsEvent}
use Rattle.q_model.specs.Node.{Discipline, Tbf, Own, Node, children, each, more, none, nodes_in, shape}
use Rattle.q_model.specs.Settings.{DeviceSettings, IsInRange}
use Rattle.q_model.specs.Step.{DeviceState, answered, step}
use Rattle.q_model.specs.Stretches.{sent_by, spent_by, bytes_sent, bytes_spent, length_held, qdisc, Throughout}
use Rattle.q_model.specs.Tally.{Note, history}
use Rattle.q_model.specs.TreeState.{given, plan}
use Rattle.q_model.specs.Work.{Worked, booked, each_booked}
use Rattle.q_invariants.proofs.Along.{counted}
use Rattle.q_invariants.proofs.ask.AskStages.{IsStageOf}
use Rattle.q_invariants.proofs.ask.SentStages.{Gives, ask-gives}
use Rattle.q_invariants.proofs.Replays.{IsKept}
use Rattle.q_invariants.proofs.sums.NoteSums.{AreRisen}
use Rattle.q_invariants.proofs.sums.Risen.{all-rise}
use Rattle.q_invariants.proofs.sums.Told.{noted-history}
use Rattle.q_invariants.proofs.tree.Related.{forget}
use Rattle.q_invariants.proofs.tree.StepNodes.{Becomes, IsAsked, becomes}
use Rattle.q_tree.specs.declared.answers.ways.Link.{Link}
use Rattle.q_device.specs.Laws.{given_in}
use Rattle.q_device.specs.Sharing.{device_after}
use Rattle.q_laws.specs.line.Line.{bytes_in}
use Rattle.q_laws.specs.order.Order.{answers}
use Rattle.q_laws.specs.rate.Delay.{next_below, paid_so_far}
use Rattle.q_laws.proofs.line.LineInTime.{root-is}
use Rattle.q_laws.proofs.line.LineStretches.{given-is}
use Rattle.q_laws.proofs.rate.LinkAsks.{Leaves, TakesOf, root-takes}
use Rattle.q_laws.proofs.rate.LinkStretches.{root-at}
use Rattle.q_laws.proofs.share.PassedStretches.{IsQuiet, command-quiet, only-child, put-quiet, same-head}
use Rattle.q_laws.proofs.turn.FifoTurns.{bytes-one}
use Rattle.q_laws.proofs.turn.TurnPolls.{IsOver}

-- what is taken of a node it sends
leaves-sent : (a : Asked) → Gives a → (w : Worked) (taken : ℕ) → Leaves a w taken → bytes_sent w.memory ≡ taken
leaves-sent a g w taken (inl h) = ap (λ (x : Worked). bytes_sent x.memory) h.0 ∙ g.before ∙ sym h.1
leaves-sent a g w taken (inr (inl h)) = ap (λ (x : Worked). bytes_sent x.memory) h.0 ∙ g.peeked ∙ sym h.1
leaves-sent a g w taken (inr (inr h)) = ap (λ (x : Worked). bytes_sent x.memory) h.0 ∙ g.taken ∙ sym h.1

more-sent : (n m : Node (List Note)) (notes : List Note) → m.memory ≡ n.memory ++ notes → bytes_sent m.memory ≡ bytes_sent n.memory + bytes_sent notes
more-sent n m notes e = ap bytes_sent e ∙ sum_by-append sent_by n.memory notes

more-spent : (n m : Node (List Note)) (notes : List Note) → m.memory ≡ n.memory ++ notes → bytes_spent m.memory ≡ bytes_spent n.memory + bytes_spent notes
more-spent n m notes e = ap bytes_spent e ∙ sum_by-append spent_by n.memory notes

-- ---- a drr below a tbf

module _ (link : Link) (major : ℕ) where
  abbrev Stays : DeviceState (List Note) → Type 0
  Stays d = IsOver (Some link) major d

  abbrev paid : DeviceState (List Note) → ℕ
  paid d = paid_so_far link.handle d

  abbrev Moves : DeviceState (List Note) → List Event → DeviceState (List Note) → Type 0
  Moves d during end = (n m : Node (List Note)) → qdisc major d ≡ Some n → qdisc major end ≡ Some m → paid end + bytes_sent n.memory ≡ paid d + bytes_sent m.memory

  -- one event
  abbrev Pays : DeviceState (List Note) → DeviceState (List Note) → Type 0
  Pays d next = Moves d [] next

  quiet-pays : (d next : DeviceState (List Note)) → Stays d → Stays next → IsQuiet d.tree.root next.tree.root → (n m : Node (List Note)) → IsQuiet n m
      → paid next + bytes_sent n.memory ≡ paid d + bytes_sent m.memory
  quiet-pays d next h k q n m r =
      let before = root-is link.handle link.rate link.burst d h.0 in
      let after = root-is link.handle link.rate link.burst next k.0 in
      let spent = q.spent in
      let sent = r.sent in
      omega (arith, before.paid, after.paid, more-spent d.tree.root next.tree.root q.notes q.memory, spent, more-sent n m r.notes r.memory, sent)

  poll-pays : (d next : DeviceState (List Note)) (now : ℕ) → Stays d → Stays next → IsAsked now d.tree.root next.tree.root
      → (n m : Node (List Note)) → qdisc major d ≡ Some n → qdisc major next ≡ Some m → paid next + bytes_sent n.memory ≡ paid d + bytes_sent m.memory
  poll-pays d next now h k asked n m is at =
      let root : Node (List Note) = d.tree.root in
      let w : Worked = asked.worked in
      let before = root-is link.handle link.rate link.burst d h.0 in
      let after = root-is link.handle link.rate link.burst next k.0 in
      let only : root.below ≡ more n.own n.memory n.below none =
      only-child root n (h.3 ∙ ap (λ (q : Node (List Note)). q ∷ []) (same_Some h.1 n (sym h.2 ∙ is))) in
      let last : children next.tree.root ≡ m ∷ [] = k.3 ∙ ap (λ (q : Node (List Note)). q ∷ []) (same_Some k.1 m (sym k.2 ∙ at)) in
      let a : Asked = ask now (shape n) in
      let alone : each (ask_own now) (shape root).below ≡ a ∷ [] = ap (λ x. each (ask_own now) (forget x)) only in
      let risen : AreRisen a.rises = (all-rise now (more n.own tt (shape n).below none)).0 in
      let takes : TakesOf a w =
      root-takes now root.own a risen before.bucket before.limit before.is w (subst (λ xs. IsStageOf (ask_own now root.own xs) w) alone asked.stage) in
      let below_now : nodes_in (booked history root w).below ≡ booked history n takes.child ∷ [] =
      ap (λ x. nodes_in (each_booked history x w.below)) only ∙ ap (λ y. nodes_in (each_booked history (more n.own n.memory n.below none) y)) takes.below_is in
      let child : booked history n takes.child ≡ m = same-head (booked history n takes.child) m (sym below_now ∙ ap children asked.is ∙ last) in
      let sent = leaves-sent a (ask-gives now (shape n)) takes.child (bytes_spent w.memory) takes.leaves in
      let memory_root = ap (λ (q : Node (List Note)). q.memory) (sym asked.is) ∙ noted-history root.memory w.memory in
      let memory_drr = ap (λ (q : Node (List Note)). q.memory) (sym child) ∙ noted-history n.memory takes.child.memory in
      omega (
        arith,
        before.paid,
        after.paid,
        more-spent root next.tree.root w.memory memory_root,
        more-sent n m takes.child.memory memory_drr,
        sent,
      )

  event-pays : (d : DeviceState (List Note)) (e : Event) → IsKept d → IsEvent e → Stays d → Stays (step history d e).device
      → (n m : Node (List Note)) → qdisc major d ≡ Some n → qdisc major (step history d e).device ≡ Some m
      → paid (step history d e).device + bytes_sent n.memory ≡ paid d + bytes_sent m.memory
  event-pays d e kept happens h k n m is at =
      by e happens k at
      (becomes link.handle d e d.tree.root (step history d e).device.tree.root kept happens (root-at link.handle d h.0.root)
      (root-at link.handle (step history d e).device k.0.root)) (becomes major d e n m kept happens is at)
    where
      by : (e : Event) → IsEvent e → Stays (step history d e).device → qdisc major (step history d e).device ≡ Some m
          → Becomes (step history d e).device.clock e d.tree.root (step history d e).device.tree.root → Becomes (step history d e).device.clock e n m
          → paid (step history d e).device + bytes_sent n.memory ≡ paid d + bytes_sent m.memory
      by (event.Arrive p moment) happens k at a b =
          let next : DeviceState (List Note) = (step history d (event.Arrive p moment)).device in
          quiet-pays d next h k (put-quiet next.clock p d.tree.root next.tree.root a) n m (put-quiet next.clock p n m b)
      by (event.Command c moment) happens k at a b =
          let next : DeviceState (List Note) = (step history d (event.Command c moment)).device in
          quiet-pays d next h k (command-quiet next.clock d.tree.root next.tree.root a) n m (command-quiet next.clock n m b)
      by (event.Poll moment) happens k at a b =
          let next : DeviceState (List Note) = (step history d (event.Poll moment)).device in
          poll-pays d next next.clock h k a n m is at

  still : (d : DeviceState (List Note)) → IsKept d → Stays d → Moves d [] d
  still d kept h n m is at = ap (λ (q : Node (List Note)). paid d + bytes_sent q.memory) (same_Some n m (sym is ∙ at))

  more-pays : (d : DeviceState (List Note)) (e : Event) (during : List Event) (end : DeviceState (List Note)) → IsKept d → IsEvent e → Stays d
      → Stays (step history d e).device → Moves (step history d e).device during end → Moves d (e ∷ during) end
  more-pays d e during end kept happens h k on n o is at =
      let m : Node (List Note) = k.1 in
      let here = event-pays d e kept happens h k n m is k.2 in
      let rest = on m o k.2 at in
      omega (arith, here, rest)

  pub pays : (settings : DeviceSettings) (before during : List Event) → IsInRange settings → All IsEvent before → All IsEvent during
      → Throughout Stays settings before during → Moves (device_after settings before) during (device_after settings (before ++ during))
  pays settings before during range earlier happen stays = counted Stays Moves still more-pays settings before during range earlier happen stays

  -- what the child of the root shows is what the drr shows
  pub next-is-drr : (t : ℕ) (d : DeviceState (List Note)) (n : Node (List Note)) → Stays d → qdisc major d ≡ Some n → next_below t d ≡ length_held (ask t (shape n)).shown
  next-is-drr t d n h is =
      let only : children d.tree.root ≡ n ∷ [] = h.3 ∙ ap (λ (q : Node (List Note)). q ∷ []) (same_Some h.1 n (sym h.2 ∙ is)) in
      ap (λ (ns : List (Node (List Note))). option_map_or (λ (c : Node (List Note)). length_held (ask t (shape c)).shown) (slice_get ns 0) 0) only

  -- and a tbf that holds no packet shows no longer one
  pub given-next : (t : ℕ) (d : DeviceState (List Note)) (n : Node (List Note)) → Stays d → d.tree.root.own.held ≡ None → qdisc major d ≡ Some n
      → length_held (given t d.tree) ≤ length_held (ask t (shape n)).shown
  given-next t d n h free is =
      let root : Node (List Note) = d.tree.root in
      let top = root-is link.handle link.rate link.burst d h.0 in
      let only : root.below ≡ more n.own n.memory n.below none =
      only-child root n (h.3 ∙ ap (λ (q : Node (List Note)). q ∷ []) (same_Some h.1 n (sym h.2 ∙ is))) in
      let alone : each (ask_own t) (shape root).below ≡ ask t (shape n) ∷ [] = ap (λ x. each (ask_own t) (forget x)) only in
      subst (λ (xs : List Asked). length_held (ask_own t root.own xs).shown ≤ length_held (ask t (shape n)).shown) (sym alone)
      (shows root.own (ask t (shape n)) top.bucket top.limit top.is free)
    where
      shows : (own : Own) (a : Asked) (b : TokenBucket) (limit : ℕ) → own.discipline ≡ Tbf b limit → own.held ≡ None
          → length_held (ask_own t own (a ∷ [])).shown ≤ length_held a.shown
      shows own a b limit is free =
          subst (λ (o : Option Descriptor). length_held (option_map_or (holding own (a ∷ [])) o (ask_discipline t own (a ∷ []) own.discipline)).shown ≤ length_held a.shown)
          (sym free)
          (subst (λ (k : Discipline). length_held (ask_discipline t own (a ∷ []) k).shown ≤ length_held a.shown) (sym is) (by a.shown refl))
        where
          may : (p : Descriptor) (ok : Bool) → a.shown ≡ Some p
              → length_held (if ok then spends own (a ∷ []) b limit t a p else waits own (a ∷ []) a).shown ≤ length_held a.shown
          may p true e = omega (arith, ap length_held e)
          may p false e = omega arith

          by : (o : Option Descriptor) → a.shown ≡ o
              → length_held (option_map_or (λ (p : Descriptor). if allows b t p.len then spends own (a ∷ []) b limit t a p else waits own (a ∷ []) a) o
              (waits own (a ∷ []) a)).shown ≤ length_held a.shown
          by None e = omega arith
          by (Some p) e = may p (allows b t p.len) e

-- ---- a drr at the root

module _ (major : ℕ) where
  abbrev IsRoot : DeviceState (List Note) → Type 0
  IsRoot d = IsOver None major d

  abbrev gives : DeviceState (List Note) → List Event → ℕ
  gives d during = bytes_in (filter_map given_in (answers d during))

  abbrev Sends : DeviceState (List Note) → List Event → DeviceState (List Note) → Type 0
  Sends d during end = bytes_sent end.tree.root.memory ≡ bytes_sent d.tree.root.memory + gives d during

  sends-none : (d : DeviceState (List Note)) → IsKept d → IsRoot d → Sends d [] d
  sends-none d kept h = omega arith

  polled-sent : (now : ℕ) (root : Node (List Note)) → bytes_sent (booked history root (take_from now (shape root)).node).memory
      ≡ bytes_sent root.memory + length_held (ask now (shape root)).shown
  polled-sent now root =
      let w : Worked = (take_from now (shape root)).node in
      let memory = noted-history root.memory w.memory in
      omega (arith, more-sent root (booked history root w) w.memory memory, by (ask now (shape root)).shown refl)
    where
      by : (o : Option Descriptor) → (ask now (shape root)).shown ≡ o
          → bytes_sent (if is_some o then (ask now (shape root)).taken else (ask now (shape root)).peeked).memory ≡ length_held (ask now (shape root)).shown
      by None e = (ask-gives now (shape root)).peeked ∙ sym (ap length_held e)
      by (Some p) e = (ask-gives now (shape root)).taken

  sends-more : (d : DeviceState (List Note)) (e : Event) (during : List Event) (end : DeviceState (List Note)) → IsKept d → IsEvent e → IsRoot d
      → IsRoot (step history d e).device → Sends (step history d e).device during end → Sends d (e ∷ during) end
  sends-more d e during end kept happens h k on =
      by e happens k on
      (becomes major d e d.tree.root (step history d e).device.tree.root kept happens (root-at major d h) (root-at major (step history d e).device k))
    where
      by : (e : Event) → IsEvent e → IsRoot (step history d e).device → Sends (step history d e).device during end
          → Becomes (step history d e).device.clock e d.tree.root (step history d e).device.tree.root → Sends d (e ∷ during) end
      by (event.Arrive p moment) happens k on put =
          let next : DeviceState (List Note) = (step history d (event.Arrive p moment)).device in
          let q = put-quiet next.clock p d.tree.root next.tree.root put in
          let sent = q.sent in
          omega (arith, on, more-sent d.tree.root next.tree.root q.notes q.memory, sent)
      by (event.Poll moment) happens k on asked =
          let now : ℕ = max d.clock moment in
          let next : DeviceState (List Note) = (step history d (event.Poll moment)).device in
          let shown : Option Descriptor = (ask now (shape d.tree.root)).shown in
          let rest : List Descriptor = filter_map given_in (answers next during) in
          let all = ap bytes_in (given-is shown (is_empty (shape next.tree.root)) (answers next during)) in
          let parts = sum_by-append (λ (q : Descriptor). q.len) (option_to_list shown) rest in
          omega (arith, on, polled-sent now d.tree.root, all, parts, bytes-one shown)
      by (event.Command c moment) happens k on edit =
          let next : DeviceState (List Note) = (step history d (event.Command c moment)).device in
          let q = command-quiet next.clock d.tree.root next.tree.root edit in
          let sent = q.sent in
          let none = ap bytes_in (nothing (plan d.tree.device (max d.clock moment) c (shape d.tree.root)) (answers next during)) in
          omega (arith, on, more-sent d.tree.root next.tree.root q.notes q.memory, sent, none)
        where
          nothing : (answer : Result Edit Refusal) (rest : List Reply)
              → filter_map given_in ((answered history answer (max d.clock moment) d).reply ∷ rest) ≡ filter_map given_in rest
          nothing (Ok edit) rest = refl
          nothing (Err refusal) rest = refl

  pub sends : (settings : DeviceSettings) (before during : List Event) → IsInRange settings → All IsEvent before → All IsEvent during
      → Throughout IsRoot settings before during → Sends (device_after settings before) during (device_after settings (before ++ during))
  sends settings before during range earlier happen stays = counted IsRoot Sends sends-none sends-more settings before during range earlier happen stays
