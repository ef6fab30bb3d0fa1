-- The line of a device over a stretch: what polls give, and then what is in line, begins with what was in line at first.
use Rattle.std.proofs.Common.{◌≡◌, ℕ, ◌≤◌, ◌^◌, max, refl, sym, ap, subst, ◌∙◌, List, [], ◌∷◌, ◌++◌, Option, Some, None, Result, Ok, Err, option_to_list}
use Rattle.std.specs.Prelude.{Bool, true, false, nat_lt, is_some, if◌then◌else◌}
use Rattle.std.specs.List.{filter_map}
use Rattle.std.proofs.lemmas.Bool.{ltb-false}
use Rattle.std.proofs.lemmas.List.{append_assoc}
use Rattle.q_packet.specs.Descriptor.{Descriptor}
use Rattle.q_model.specs.declared.event.Event.{Event}
use Rattle.q_model.specs.declared.event.Event.TheVariants as event
use Rattle.q_model.specs.declared.refusal.Refusal.{Refusal}
use Rattle.q_model.specs.declared.reply.Reply.{Reply}
use Rattle.q_model.specs.declared.reply.Reply.TheVariants as reply
use Rattle.q_model.specs.Ask.{ask, take_from}
use Rattle.q_model.specs.Beneath.{is_empty}
use Rattle.q_model.specs.Edit.{Edit}
use Rattle.q_model.specs.Events.{IsEvent}
use Rattle.q_model.specs.Node.{Node, Shape, shape}
use Rattle.q_model.specs.Route.{route}
use Rattle.q_model.specs.Settings.{DeviceSettings, IsInRange}
use Rattle.q_model.specs.Step.{DeviceState, polled_of, answered, step}
use Rattle.q_model.specs.Tally.{Note, history}
use Rattle.q_model.specs.TreeState.{put_on, plan}
use Rattle.q_model.specs.Work.{Worked, quiet, booked}
use Rattle.q_model.proofs.ShrinkLemmas.{each-each_memory}
use Rattle.q_invariants.specs.Kept.{IsLawfulRoot}
use Rattle.q_invariants.proofs.Along.{counted}
use Rattle.q_invariants.proofs.ask.Answer.{IsAnswer}
use Rattle.q_invariants.proofs.ask.Asks.{before-root, ask-answers}
use Rattle.q_invariants.proofs.edit.EditLater.{root-later}
use Rattle.q_invariants.proofs.put.Puts.{along-put}
use Rattle.q_invariants.proofs.Replays.{IsKept, not-before, not-after}
use Rattle.q_invariants.proofs.sums.Told.{IsRootTold, root-memory, root-booked}
use Rattle.q_invariants.proofs.tree.Forests.{lawful-with_memory}
use Rattle.q_invariants.proofs.tree.Quiet.{one-quiet}
use Rattle.q_device.specs.Laws.{given_in}
use Rattle.q_laws.specs.line.Line.{line_own, line, line_at_root, BeginsWith, KeepLine, IsAlone, LinesLeaveFirst}
use Rattle.q_laws.specs.order.Order.{answers}
use Rattle.q_laws.proofs.line.LineAsks.{begins-refl, IsLined, root-lined}
use Rattle.q_laws.proofs.line.LinePuts.{line-quiet, along-line}
use Rattle.q_laws.proofs.work.WorkTrees.{no-tbfs, tbfs-memory}

-- what begins with what begins with a line
pub begins-on : (xs given ys zs : List Descriptor) → BeginsWith xs (given ++ ys) → BeginsWith ys zs → BeginsWith xs (given ++ zs)
begins-on xs given ys zs h k =
    (h.0 ++ k.0, ap (λ ws. given ++ ws) k.1 ∙ sym (append_assoc given ys k.0) ∙ ap (λ ws. ws ++ k.0) h.1 ∙ append_assoc xs h.0 k.0)

module _ (d : DeviceState (List Note)) (now : ℕ) (kept : IsKept d) (later : d.clock ≤ now) (low : now ≤ 2 ^ 62) (alone : IsAlone d) where
  abbrev root : Node (List Note)
  root = d.tree.root

  abbrev bare : Shape
  bare = shape root

  lawful : IsLawfulRoot d.tree.device.mtu now bare
  lawful = lawful-with_memory d.tree.device.mtu now (λ m. tt) root (root-later d.clock now later d.tree.device.mtu root kept.lawful)

  bare-is : line bare ≡ line root
  bare-is = ap (line_own root.own) (each-each_memory line_own (λ m. tt) root.below)

  told-root : (w : Worked) → IsRootTold (quiet bare) w → IsRootTold root w
  told-root w t = root-memory (λ m. tt) root w (root-memory (λ u. []) bare w t)

  booked-line : (given : List Descriptor) (w : Worked) → IsRootTold (quiet bare) w → BeginsWith (line bare) (given ++ line w) → BeginsWith (line root) (given ++ line (booked history root w))
  booked-line given w t begins =
      subst (λ (xs : List Descriptor). BeginsWith (line root) (given ++ xs)) (sym (root-booked history line_own root w (told-root w t)))
      (subst (λ (xs : List Descriptor). BeginsWith xs (given ++ line w)) bare-is begins)

  pub poll-line : BeginsWith (line root) (option_to_list (ask now bare).shown ++ line (booked history root (take_from now bare).node))
  poll-line = by (ask now bare).shown refl
    where
      answer : IsAnswer d.tree.device.mtu now (ask now bare)
      answer = ask-answers d.tree.device.mtu now kept.least_mtu low bare lawful

      lined : IsLined (line bare) (ask now bare)
      lined = root-lined now bare (tbfs-memory (λ m. tt) root.below (no-tbfs root.below alone))

      quiet-told : (w : Worked) → IsRootTold (ask now bare).before w → IsRootTold (quiet bare) w
      quiet-told w t = subst (λ (n : Worked). IsRootTold n w) (before-root now bare) t

      by : (o : Option Descriptor) → (ask now bare).shown ≡ o
          → BeginsWith (line root) (option_to_list o ++ line
          (booked history root (if is_some o then (ask now bare).taken else (ask now bare).peeked)))
      by None e = booked-line [] (ask now bare).peeked (quiet-told (ask now bare).peeked answer.told_peeked) lined.peeked
      by (Some p) e =
          booked-line (p ∷ []) (ask now bare).taken (quiet-told (ask now bare).taken answer.told_taken)
          (subst (λ (o : Option Descriptor). BeginsWith (line bare) (option_to_list o ++ line (ask now bare).taken)) e lined.taken)

  pub put-line : (p : Descriptor) → 1 ≤ p.len → (long : Bool) → nat_lt d.tree.device.mtu p.len ≡ long
      → BeginsWith (line root) (line (booked history root (put_on now p (if long then None else Some (route p bare)) bare).node))
  put-line p byte true e = booked-line [] (quiet bare) (one-quiet bare) (subst (BeginsWith (line bare)) (sym (line-quiet bare)) (begins-refl (line bare)))
  put-line p byte false e =
      let r = route p bare in
      let put = along-put d.tree.device.mtu now kept.least_mtu p (byte, ltb-false d.tree.device.mtu p.len e) r.path r.refusal bare refl lawful in
      booked-line [] (put_on now p (Some r) bare).node put.told (along-line now p r.path r.refusal bare)

pub given-is : (o : Option Descriptor) (empty : Bool) (rest : List Reply) → filter_map given_in (reply.Polled (polled_of o empty) ∷ rest) ≡ option_to_list o ++ filter_map given_in rest
given-is (Some p) empty rest = refl
given-is None true rest = refl
given-is None false rest = refl

abbrev Moves : DeviceState (List Note) → List Event → DeviceState (List Note) → Type 0
Moves d during end = KeepLine line_at_root d during → BeginsWith (line_at_root d) (filter_map given_in (answers d during) ++ line_at_root end)

still : (d : DeviceState (List Note)) → IsKept d → IsAlone d → Moves d [] d
still d kept h keep = begins-refl (line_at_root d)

more : (d : DeviceState (List Note)) (e : Event) (during : List Event) (end : DeviceState (List Note)) → IsKept d → IsEvent e → IsAlone d → IsAlone (step history d e).device
    → Moves (step history d e).device during end → Moves d (e ∷ during) end
more d (event.Arrive p moment) during end kept range h k on keep =
    let next : DeviceState (List Note) = (step history d (event.Arrive p moment)).device in
    let gives : List Descriptor = filter_map given_in (answers next during) in
    let here = put-line d (max d.clock moment) kept (not-before d.clock moment) (not-after d.clock moment (2 ^ 62) kept.moment range.1) h p range.0.len.0 (nat_lt d.tree.device.mtu p.len) refl in
    begins-on (line_at_root d) [] (line_at_root next) (gives ++ line_at_root end) here (on keep.1)
more d (event.Poll moment) during end kept range h k on keep =
    let next : DeviceState (List Note) = (step history d (event.Poll moment)).device in
    let shown : Option Descriptor = (ask (max d.clock moment) (shape d.tree.root)).shown in
    let gives : List Descriptor = filter_map given_in (answers next during) in
    let here = poll-line d (max d.clock moment) kept (not-before d.clock moment) (not-after d.clock moment (2 ^ 62) kept.moment range) h in
    subst (λ (xs : List Descriptor). BeginsWith (line_at_root d) xs)
    (sym (ap (λ xs. xs ++ line_at_root end) (given-is shown (is_empty (shape next.tree.root)) (answers next during)) ∙ append_assoc (option_to_list shown) gives (line_at_root end)))
    (begins-on (line_at_root d) (option_to_list shown) (line_at_root next) (gives ++ line_at_root end) here (on keep.1))
more d (event.Command c moment) during end kept range h k on keep =
    let e : Event = event.Command c moment in
    let next : DeviceState (List Note) = (step history d e).device in
    let gives : List Descriptor = filter_map given_in (answers next during) in
    subst (λ (xs : List Descriptor). BeginsWith (line_at_root d) (xs ++ line_at_root end)) (sym (nothing (plan d.tree.device (max d.clock moment) c (shape d.tree.root)) (answers next during)))
    (begins-on (line_at_root d) [] (line_at_root next) (gives ++ line_at_root end) keep.0 (on keep.1))
  where
    nothing : (answer : Result Edit Refusal) (rest : List Reply) → filter_map given_in ((answered history answer (max d.clock moment) d).reply ∷ rest) ≡ filter_map given_in rest
    nothing (Ok edit) rest = refl
    nothing (Err refusal) rest = refl

pub lines-leave-first : (settings : DeviceSettings) → IsInRange settings → LinesLeaveFirst settings
lines-leave-first settings range before during all_before all_during alone keep =
    counted IsAlone Moves still more settings before during range all_before all_during alone keep
