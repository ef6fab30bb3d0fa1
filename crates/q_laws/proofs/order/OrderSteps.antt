-- Packets of one flow leave a device in the order in which they came, over an interval without an accepted command.
use Rattle.std.proofs.Common.{◌≡◌, ℕ, ◌≤◌, ◌^◌, max, refl, sym, ap, subst, ◌∙◌, List, [], ◌∷◌, ◌++◌, Option, Some, None, Result, Ok, Err, option_to_list}
use Rattle.std.specs.Prelude.{Bool, true, false, All, nat_lt, is_some, if◌then◌else◌}
use Rattle.std.specs.List.{filter_map}
use Rattle.std.proofs.lemmas.Bool.{true≢false, ltb-false}
use Rattle.std.proofs.lemmas.List.{append_assoc}
use Rattle.std.proofs.lemmas.List.Elements.{All-head, All-tail}
use Rattle.q_packet.specs.Descriptor.{Descriptor}
use Rattle.q_model.specs.declared.event.Event.{Event}
use Rattle.q_model.specs.declared.event.Event.TheVariants as event
use Rattle.q_model.specs.declared.refusal.Refusal.{Refusal}
use Rattle.q_model.specs.declared.reply.Reply.{Reply}
use Rattle.q_model.specs.declared.reply.Reply.TheVariants as reply
use Rattle.q_model.specs.Ask.{ask, take_from}
use Rattle.q_model.specs.Beneath.{beneath_own, beneath, is_empty}
use Rattle.q_model.specs.Edit.{Edit}
use Rattle.q_model.specs.Events.{IsEvent}
use Rattle.q_model.specs.Node.{Node, Shape, shape}
use Rattle.q_model.specs.Route.{route}
use Rattle.q_model.specs.Settings.{DeviceSettings, IsInRange}
use Rattle.q_model.specs.Step.{DeviceState, polled_of, answered, step}
use Rattle.q_model.specs.Tally.{Note, history}
use Rattle.q_model.specs.TreeState.{put_on, plan}
use Rattle.q_model.specs.Work.{Worked, quiet, booked}
use Rattle.q_model.proofs.ShrinkLemmas.{each-each_memory}
use Rattle.q_invariants.specs.Kept.{IsLawfulRoot}
use Rattle.q_invariants.proofs.ask.Answer.{IsAnswer}
use Rattle.q_invariants.proofs.ask.Asks.{before-root, ask-answers}
use Rattle.q_invariants.proofs.edit.EditLater.{root-later}
use Rattle.q_invariants.proofs.put.Puts.{along-put}
use Rattle.q_invariants.proofs.Replays.{IsKept, not-before, not-after, step-kept, replay-kept}
use Rattle.q_invariants.proofs.sums.Told.{IsRootTold, root-memory, root-booked}
use Rattle.q_invariants.proofs.tree.Forests.{lawful-with_memory}
use Rattle.q_invariants.proofs.tree.Quiet.{beneath-quiet, one-quiet}
use Rattle.q_device.specs.Laws.{brought, given_in}
use Rattle.q_device.specs.Sharing.{device_after}
use Rattle.q_laws.specs.order.Order.{flow_among, IsPartOf, answers, is_done, NoCommandIsDone, FlowsKeepOrder}
use Rattle.q_laws.proofs.order.OrderAsks.{Keeps, ask-keeps}
use Rattle.q_laws.proofs.order.OrderFlows.{less-trans, less-after}
use Rattle.q_laws.proofs.order.OrderParts.{IsLess, less-append, skip-front}
use Rattle.q_laws.proofs.order.OrderPuts.{along-puts}
use Rattle.q_laws.proofs.order.OrderWays.{IsRootOnWay, none-on-way, way-with_memory, way-booked}
use Rattle.q_laws.proofs.order.PartLemmas.{part-refl}

module _ (c : Descriptor) where
  -- what a step leaves at the root, which gives `given` in it while `come` arrives
  record Leaves (given come : List Descriptor) (n after : Node (List Note)) : Type 0 where
    less : IsLess c (given ++ beneath after) (beneath n ++ come)
    way : IsRootOnWay c after

  module _ (d : DeviceState (List Note)) (now : ℕ) (kept : IsKept d) (later : d.clock ≤ now) (low : now ≤ 2 ^ 62) (h : IsRootOnWay c d.tree.root) where
    abbrev root : Node (List Note)
    root = d.tree.root

    abbrev bare : Shape
    bare = shape root

    lawful : IsLawfulRoot d.tree.device.mtu now bare
    lawful = lawful-with_memory d.tree.device.mtu now (λ m. tt) root (root-later d.clock now later d.tree.device.mtu root kept.lawful)

    bare-way : IsRootOnWay c bare
    bare-way = way-with_memory c (λ m. tt) root h

    bare-is : beneath bare ≡ beneath root
    bare-is = ap (beneath_own root.own) (each-each_memory beneath_own (λ m. tt) root.below)

    told-root : (w : Worked) → IsRootTold (quiet bare) w → IsRootTold root w
    told-root w t = root-memory (λ m. tt) root w (root-memory (λ u. []) bare w t)

    booked-leaves : (given come : List Descriptor) (w : Worked) → IsRootTold (quiet bare) w → IsLess c (given ++ beneath w) (beneath bare ++ come)
        → IsRootOnWay c w → Leaves given come root (booked history root w)
    booked-leaves given come w t less way = record {
      less = subst (λ (ps : List Descriptor). IsLess c (given ++ ps) (beneath root ++ come)) (sym (root-booked history beneath_own root w (told-root w t)))
          (subst (λ (ps : List Descriptor). IsLess c (given ++ beneath w) (ps ++ come)) bare-is less);
      way = way-booked c history root w (told-root w t) way;
    }

    -- a poll
    poll-leaves : Leaves (option_to_list (ask now bare).shown) [] root (booked history root (take_from now bare).node)
    poll-leaves = by (ask now bare).shown refl
      where
        answer : IsAnswer d.tree.device.mtu now (ask now bare)
        answer = ask-answers d.tree.device.mtu now kept.least_mtu low bare lawful

        keeps : Keeps c (ask now bare)
        keeps = ask-keeps c d.tree.device.mtu now bare lawful bare-way

        quiet-told : (w : Worked) → IsRootTold (ask now bare).before w → IsRootTold (quiet bare) w
        quiet-told w t = subst (λ (n : Worked). IsRootTold n w) (before-root now bare) t

        from : (ps : List Descriptor) → IsLess c ps (beneath (ask now bare).before) → IsLess c ps (beneath bare ++ [])
        from ps less = less-after c [] ps (beneath bare) (subst (λ (qs : List Descriptor). IsLess c ps qs) (ap beneath (before-root now bare) ∙ beneath-quiet bare) less)

        by : (o : Option Descriptor) → (ask now bare).shown ≡ o → Leaves (option_to_list o) [] root (booked history root (if is_some o then (ask now bare).taken else (ask now bare).peeked))
        by None e = booked-leaves [] [] (ask now bare).peeked (quiet-told (ask now bare).peeked answer.told_peeked) (from (beneath (ask now bare).peeked) keeps.peeks) keeps.peeked
        by (Some p) e =
            let gives : IsLess c (p ∷ beneath (ask now bare).taken) (beneath (ask now bare).before) =
            subst (λ (o : Option Descriptor). IsLess c (option_to_list o ++ beneath (ask now bare).taken) (beneath (ask now bare).before)) e keeps.gives in
            booked-leaves (p ∷ []) [] (ask now bare).taken (quiet-told (ask now bare).taken answer.told_taken) (from (p ∷ beneath (ask now bare).taken) gives) keeps.taken

    -- an arrival
    put-leaves : (p : Descriptor) → 1 ≤ p.len → (long : Bool) → nat_lt d.tree.device.mtu p.len ≡ long
        → Leaves [] (p ∷ []) root (booked history root (put_on now p (if long then None else Some (route p bare)) bare).node)
    put-leaves p byte true e =
        booked-leaves [] (p ∷ []) (quiet bare) (one-quiet bare)
        (less-after c (p ∷ []) (beneath (quiet bare)) (beneath bare) (subst (IsLess c (beneath (quiet bare))) (beneath-quiet bare) (part-refl (flow_among c (beneath (quiet bare))))))
        (way-with_memory c (λ u. []) bare bare-way)
    put-leaves p byte false e =
        let r = route p bare in
        let put = along-put d.tree.device.mtu now kept.least_mtu p (byte, ltb-false d.tree.device.mtu p.len e) r.path r.refusal bare refl lawful in
        let puts = along-puts c p now d.tree.device.mtu r.path r.refusal bare refl lawful bare-way in
        booked-leaves [] (p ∷ []) (put_on now p (Some r) bare).node put.told puts.less puts.way

  -- ---- along the events

  given-is : (o : Option Descriptor) (empty : Bool) (rest : List Reply) → filter_map given_in (reply.Polled (polled_of o empty) ∷ rest) ≡ option_to_list o ++ filter_map given_in rest
  given-is (Some p) empty rest = refl
  given-is None true rest = refl
  given-is None false rest = refl

  -- what is given after a step, and by it
  follows : (given come left rest ps qs : List Descriptor) → IsLess c (given ++ left) (ps ++ come) → IsLess c rest (left ++ qs) → IsLess c (given ++ rest) (ps ++ (come ++ qs))
  follows given come left rest ps qs here later =
      less-trans c (given ++ rest) (given ++ (left ++ qs)) (ps ++ (come ++ qs))
      (less-append c given given rest (left ++ qs) (part-refl (flow_among c given)) later)
      (subst (λ (xs : List Descriptor). IsLess c xs (ps ++ (come ++ qs))) (append_assoc given left qs)
      (subst (IsLess c ((given ++ left) ++ qs)) (append_assoc ps come qs) (less-append c (given ++ left) (ps ++ come) qs qs here (part-refl (flow_among c qs)))))

  abbrev InOrder : DeviceState (List Note) → List Event → Type 0
  InOrder d events = IsLess c (filter_map given_in (answers d events)) (beneath d.tree.root ++ filter_map brought events)

  in-order : (d : DeviceState (List Note)) (events : List Event) → IsKept d → All IsEvent events → NoCommandIsDone d events → IsRootOnWay c d.tree.root → InOrder d events
  in-order d [] kept all still h = tt
  in-order d (event.Arrive p moment ∷ events) kept all still h =
      let e : Event = event.Arrive p moment in
      let next : DeviceState (List Note) = (step history d e).device in
      let range : IsEvent e = All-head IsEvent e events all in
      let leaves = put-leaves d (max d.clock moment) kept (not-before d.clock moment) (not-after d.clock moment (2 ^ 62) kept.moment range.1) h p range.0.len.0 (nat_lt d.tree.device.mtu p.len) refl in
      let rest : InOrder next events =
      in-order next events (step-kept d e kept range) (All-tail IsEvent e events all)
      (All-tail (λ (r : Reply). is_done r ≡ false) (step history d e).reply (answers next events) still) leaves.way in
      follows [] (p ∷ []) (beneath next.tree.root) (filter_map given_in (answers next events)) (beneath d.tree.root) (filter_map brought events) leaves.less rest
  in-order d (event.Poll moment ∷ events) kept all still h =
      let e : Event = event.Poll moment in
      let next : DeviceState (List Note) = (step history d e).device in
      let range : IsEvent e = All-head IsEvent e events all in
      let now : ℕ = max d.clock moment in
      let shown : Option Descriptor = (ask now (shape d.tree.root)).shown in
      let leaves = poll-leaves d now kept (not-before d.clock moment) (not-after d.clock moment (2 ^ 62) kept.moment range) h in
      let rest : InOrder next events =
      in-order next events (step-kept d e kept range) (All-tail IsEvent e events all)
      (All-tail (λ (r : Reply). is_done r ≡ false) (step history d e).reply (answers next events) still) leaves.way in
      subst (λ (ps : List Descriptor). IsLess c ps (beneath d.tree.root ++ filter_map brought events)) (sym (given-is shown (is_empty (shape next.tree.root)) (answers next events)))
      (follows (option_to_list shown) [] (beneath next.tree.root) (filter_map given_in (answers next events)) (beneath d.tree.root) (filter_map brought events) leaves.less rest)
  in-order d (event.Command k moment ∷ events) kept all still h =
      by (plan d.tree.device (max d.clock moment) k (shape d.tree.root))
      (All-head (λ (r : Reply). is_done r ≡ false) (step history d (event.Command k moment)).reply (answers (step history d (event.Command k moment)).device events) still)
      (All-tail (λ (r : Reply). is_done r ≡ false) (step history d (event.Command k moment)).reply (answers (step history d (event.Command k moment)).device events) still)
      (λ quiet. in-order d events kept (All-tail IsEvent (event.Command k moment) events all) quiet h)
    where
      by : (answer : Result Edit Refusal) → is_done (answered history answer (max d.clock moment) d).reply ≡ false → NoCommandIsDone (answered history answer (max d.clock moment) d).device events
          → (NoCommandIsDone d events → InOrder d events)
          → IsLess c (filter_map given_in ((answered history answer (max d.clock moment) d).reply ∷ answers
          (answered history answer (max d.clock moment) d).device events)) (beneath d.tree.root ++ filter_map brought events)
      by (Ok edit) refused quiet rest = absurd (true≢false refused)
      by (Err refusal) refused quiet rest = rest quiet

pub flows-keep-order : (settings : DeviceSettings) → IsInRange settings → FlowsKeepOrder settings
flows-keep-order settings range before during p all_before all_during still absent =
    let d : DeviceState (List Note) = device_after settings before in
    let h : InOrder p d during = in-order p d during (replay-kept settings before range all_before) all_during still (none-on-way p d.tree.root absent) in
    subst (IsPartOf (flow_among p (filter_map given_in (answers d during)))) (skip-front p (beneath d.tree.root) (filter_map brought during) absent) h
