-- A tbf at the root pays for what polls give, packet by packet, since it holds none between events.
use Rattle.std.proofs.Common.{◌≡◌, ℕ, ◌+◌, ◌≤◌, max, refl, sym, ap, subst, ◌∙◌, List, [], ◌∷◌, ◌++◌, Option, Some, None, Result, Ok, Err, option_to_list, arith}
use Rattle.std.specs.Prelude.{Bool, true, false, All, is_some, if◌then◌else◌}
use Rattle.std.specs.List.{filter_map}
use Rattle.std.specs.Option.{option_map_or}
use Rattle.std.proofs.lemmas.List.Elements.{filter_map-append}
use Rattle.std.proofs.lemmas.List.Sums.{sum_by-append, sum_by-cons}
use Rattle.q_packet.specs.Descriptor.{Descriptor}
use Rattle.q_bucket.specs.Level.{TokenBucket, allows}
use Rattle.q_model.specs.declared.event.Event.{Event}
use Rattle.q_model.specs.declared.event.Event.TheVariants as event
use Rattle.q_model.specs.declared.refusal.Refusal.{Refusal}
use Rattle.q_model.specs.declared.reply.Reply.{Reply}
use Rattle.q_model.specs.Ask.{Asked, spends, waits, ask_child, ask_tbf, ask_discipline, ask_own, ask, holding, take_from}
use Rattle.q_model.specs.Beneath.{is_empty}
use Rattle.q_model.specs.Edit.{Edit}
use Rattle.q_model.specs.Events.{IsEvent}
use Rattle.q_model.specs.Node.{Discipline, Tbf, Own, Node, each, shape}
use Rattle.q_model.specs.Settings.{DeviceSettings, IsInRange}
use Rattle.q_model.specs.Step.{DeviceState, answered, step}
use Rattle.q_model.specs.Stretches.{spent_by, bytes_spent, length_held, Throughout}
use Rattle.q_model.specs.Tally.{Note, Sent, Spent, history}
use Rattle.q_model.specs.TreeState.{plan}
use Rattle.q_model.specs.Work.{Worked, booked}
use Rattle.q_invariants.proofs.Along.{counted}
use Rattle.q_invariants.proofs.Replays.{IsKept}
use Rattle.q_invariants.proofs.sums.NoteSums.{AreRisen, sum-risen, past-spent}
use Rattle.q_invariants.proofs.sums.Risen.{AllRise, all-rise}
use Rattle.q_invariants.proofs.sums.Told.{noted-history}
use Rattle.q_invariants.proofs.tree.StepNodes.{Becomes, becomes}
use Rattle.q_device.specs.Laws.{given_in}
use Rattle.q_device.specs.Sharing.{device_after}
use Rattle.q_laws.specs.line.Line.{IsLink, KeepLine, bytes_in, line_at_root, line_below_root, BeginsWith}
use Rattle.q_laws.specs.order.Order.{answers}
use Rattle.q_laws.specs.rate.Delay.{paid_so_far}
use Rattle.q_laws.proofs.line.LineInTime.{below-line, root-is}
use Rattle.q_laws.proofs.line.LineStretches.{given-is}
use Rattle.q_laws.proofs.rate.LinkStretches.{root-at}
use Rattle.q_laws.proofs.share.PassedStretches.{IsQuiet, put-quiet, command-quiet}

-- ---- one poll

-- what is left of a node of which a packet was asked, and taken where it shows one
abbrev left_of : Asked → Worked
left_of a = if is_some a.shown then a.taken else a.peeked

-- it paid for what it showed
abbrev PaysShown : Asked → Type 0
PaysShown a = bytes_spent (left_of a).memory ≡ length_held a.shown

module _ (now : ℕ) (own : Own) (below : List Asked) (b : TokenBucket) (limit : ℕ) where
  waits-pays : (a : Asked) → AreRisen a.rises → PaysShown (waits own below a)
  waits-pays a rises = omega (arith, sum-risen spent_by past-spent a.rises rises, sum_by-append spent_by a.rises [])

  spends-pays : (a : Asked) (p : Descriptor) → AreRisen a.rises → PaysShown (spends own below b limit now a p)
  spends-pays a p rises =
      omega (
        arith,
        sum-risen spent_by past-spent a.rises rises,
        sum_by-append spent_by a.rises (Spent p.len ∷ []),
        sum_by-append spent_by
            (a.rises ++ Spent p.len ∷ []) (Sent p ∷ []),
        sum_by-cons spent_by (Spent p.len) [],
        sum_by-cons spent_by (Sent p) [],
      )

  child-pays : (a : Asked) → AreRisen a.rises → PaysShown (ask_child now own below b limit a)
  child-pays a rises = by a.shown
    where
      may : (p : Descriptor) (t : Bool) → PaysShown (if t then spends own below b limit now a p else waits own below a)
      may p true = spends-pays a p rises
      may p false = waits-pays a rises

      by : (o : Option Descriptor) → PaysShown (option_map_or (λ (p : Descriptor). if allows b now p.len then spends own below b limit now a p else waits own below a) o (waits own below a))
      by None = waits-pays a rises
      by (Some p) = may p (allows b now p.len)

tbf-pays : (now : ℕ) (own : Own) (below : List Asked) (b : TokenBucket) (limit : ℕ) → AllRise below → PaysShown (ask_tbf now own below b limit)
tbf-pays now own [] b limit rise = refl
tbf-pays now own (a ∷ below) b limit rise = child-pays now own (a ∷ below) b limit a rise.0

root-pays : (now : ℕ) (own : Own) (below : List Asked) (b : TokenBucket) (limit : ℕ) → AllRise below → own.held ≡ None → own.discipline ≡ Tbf b limit → PaysShown (ask_own now own below)
root-pays now own below b limit rise none is =
    subst (λ (o : Option Descriptor). PaysShown (option_map_or (holding own below) o (ask_discipline now own below own.discipline))) (sym none)
    (subst (λ (d : Discipline). PaysShown (ask_discipline now own below d)) (sym is) (tbf-pays now own below b limit rise))

bytes-held : (o : Option Descriptor) → bytes_in (option_to_list o) ≡ length_held o
bytes-held None = refl
bytes-held (Some p) = omega (arith, sum_by-cons (λ (q : Descriptor). q.len) p [])

-- ---- over a stretch

module _ (major rate burst : ℕ) where
  abbrev Holds : DeviceState (List Note) → Type 0
  Holds d = IsLink major rate burst d × (d.tree.root.own.held ≡ None)

  abbrev gives : DeviceState (List Note) → List Event → ℕ
  gives d during = bytes_in (filter_map given_in (answers d during))

  abbrev Moves : DeviceState (List Note) → List Event → DeviceState (List Note) → Type 0
  Moves d during end = paid_so_far major end ≡ paid_so_far major d + gives d during

  quiet-paid : (d next : DeviceState (List Note)) → IsLink major rate burst d → IsLink major rate burst next → IsQuiet d.tree.root next.tree.root → paid_so_far major next ≡ paid_so_far major d
  quiet-paid d next h k q =
      let before = root-is major rate burst d h in
      let after = root-is major rate burst next k in
      let sum : bytes_spent next.tree.root.memory ≡ bytes_spent d.tree.root.memory + bytes_spent q.notes = ap bytes_spent q.memory ∙ sum_by-append spent_by d.tree.root.memory q.notes in
      omega (arith, before.paid, after.paid, sum, q.spent)

  polled-paid : (d next : DeviceState (List Note)) (now : ℕ) → Holds d → IsLink major rate burst next → next.tree.root ≡ booked history d.tree.root (take_from now (shape d.tree.root)).node
      → paid_so_far major next ≡ paid_so_far major d + length_held (ask now (shape d.tree.root)).shown
  polled-paid d next now h k is =
      let before = root-is major rate burst d h.0 in
      let after = root-is major rate burst next k in
      let work : Worked = (take_from now (shape d.tree.root)).node in
      let memory : next.tree.root.memory ≡ d.tree.root.memory ++ work.memory = ap (λ (n : Node (List Note)). n.memory) is ∙ noted-history d.tree.root.memory work.memory in
      let sum : bytes_spent next.tree.root.memory ≡ bytes_spent d.tree.root.memory + bytes_spent work.memory = ap bytes_spent memory ∙ sum_by-append spent_by d.tree.root.memory work.memory in
      let pays = root-pays now d.tree.root.own (each (ask_own now) (shape d.tree.root).below) before.bucket before.limit (all-rise now (shape d.tree.root).below) h.1 before.is in
      omega (arith, before.paid, after.paid, sum, pays)

  still : (d : DeviceState (List Note)) → IsKept d → Holds d → Moves d [] d
  still d kept h = omega arith

  more : (d : DeviceState (List Note)) (e : Event) (during : List Event) (end : DeviceState (List Note)) → IsKept d → IsEvent e → Holds d → Holds (step history d e).device
      → Moves (step history d e).device during end → Moves d (e ∷ during) end
  more d e during end kept range h k on =
      by e range k on (becomes major d e d.tree.root (step history d e).device.tree.root kept range (root-at major d h.0.root) (root-at major (step history d e).device k.0.root))
    where
      by : (e : Event) → IsEvent e → Holds (step history d e).device → Moves (step history d e).device during end
          → Becomes (step history d e).device.clock e d.tree.root (step history d e).device.tree.root
          → Moves d (e ∷ during) end
      by (event.Arrive p moment) range k on put =
          let next : DeviceState (List Note) = (step history d (event.Arrive p moment)).device in
          let quiet = quiet-paid d next h.0 k.0 (put-quiet next.clock p d.tree.root next.tree.root put) in
          omega (arith, quiet, on)
      by (event.Poll moment) range k on asked =
          let now : ℕ = max d.clock moment in
          let next : DeviceState (List Note) = (step history d (event.Poll moment)).device in
          let shown : Option Descriptor = (ask now (shape d.tree.root)).shown in
          let paid = polled-paid d next now h k.0 refl in
          let rest : List Descriptor = filter_map given_in (answers next during) in
          let all = ap bytes_in (given-is shown (is_empty (shape next.tree.root)) (answers next during)) in
          let parts = sum_by-append (λ (q : Descriptor). q.len) (option_to_list shown) rest in
          omega (arith, paid, on, all, parts, bytes-held shown)
      by (event.Command c moment) range k on edit =
          let next : DeviceState (List Note) = (step history d (event.Command c moment)).device in
          let quiet = quiet-paid d next h.0 k.0 (command-quiet next.clock d.tree.root next.tree.root edit) in
          let none = ap bytes_in (nothing (plan d.tree.device (max d.clock moment) c (shape d.tree.root)) (answers next during)) in
          omega (arith, quiet, on, none)
        where
          nothing : (answer : Result Edit Refusal) (rest : List Reply) → filter_map given_in ((answered history answer (max d.clock moment) d).reply ∷ rest) ≡ filter_map given_in rest
          nothing (Ok edit) rest = refl
          nothing (Err refusal) rest = refl

  pub given-paid : (settings : DeviceSettings) (before during : List Event) → IsInRange settings → All IsEvent before → All IsEvent during → Throughout Holds settings before during
      → paid_so_far major (device_after settings (before ++ during)) ≡ paid_so_far major (device_after settings before) + gives (device_after settings before) during
  given-paid settings before during range all_before all_during stays = counted Holds Moves still more settings before during range all_before all_during stays

  -- the line of such a device is that below its root
  pub same-line : (d : DeviceState (List Note)) → Holds d → line_at_root d ≡ line_below_root d
  same-line d h =
      let r = root-is major rate burst d h.0 in
      below-line d.tree.root r.bucket r.limit r.is ∙ ap (λ (o : Option Descriptor). option_to_list o ++ line_below_root d) h.1

  abbrev Keeps : DeviceState (List Note) → List Event → DeviceState (List Note) → Type 0
  Keeps d during end = KeepLine line_at_root d during → KeepLine line_below_root d during

  keeps-more : (d : DeviceState (List Note)) (e : Event) (during : List Event) (end : DeviceState (List Note)) → IsKept d → IsEvent e → Holds d → Holds (step history d e).device
      → Keeps (step history d e).device during end → Keeps d (e ∷ during) end
  keeps-more d (event.Arrive p moment) during end kept range h k on keep = (tt, on keep.1)
  keeps-more d (event.Poll moment) during end kept range h k on keep = (tt, on keep.1)
  keeps-more d (event.Command c moment) during end kept range h k on keep =
      let next : DeviceState (List Note) = (step history d (event.Command c moment)).device in
      (subst (λ (xs : List Descriptor). BeginsWith xs (line_below_root next)) (same-line d h) (subst (λ (xs : List Descriptor). BeginsWith (line_at_root d) xs) (same-line next k) keep.0), on keep.1)

  pub keeps-below : (settings : DeviceSettings) (before during : List Event) → IsInRange settings → All IsEvent before → All IsEvent during → Throughout Holds settings before during
      → KeepLine line_at_root (device_after settings before) during → KeepLine line_below_root (device_after settings before) during
  keeps-below settings before during range all_before all_during stays = counted Holds Keeps (λ d kept h keep. tt) keeps-more settings before during range all_before all_during stays

-- ---- answers so far

answers-front : (d : DeviceState (List Note)) (xs ys : List Event) → (rest : List Reply) × (answers d (xs ++ ys) ≡ answers d xs ++ rest)
answers-front d [] ys = (answers d ys, refl)
answers-front d (x ∷ xs) ys = let r = answers-front (step history d x).device xs ys in (r.0, ap (λ rs. (step history d x).reply ∷ rs) r.1)

pub given-front : (d : DeviceState (List Note)) (xs ys : List Event) → bytes_in (filter_map given_in (answers d xs)) ≤ bytes_in (filter_map given_in (answers d (xs ++ ys)))
given-front d xs ys =
    let r = answers-front d xs ys in
    let all = ap bytes_in (ap (filter_map given_in) r.1 ∙ filter_map-append given_in (answers d xs) r.0) in
    let parts = sum_by-append (λ (q : Descriptor). q.len) (filter_map given_in (answers d xs)) (filter_map given_in r.0) in
    omega (arith, all, parts)
