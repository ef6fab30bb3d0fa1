-- Polls at the moments from which a device is ready, one after another.
use Rattle.std.proofs.Common.{◌≡◌, ◌∙◌, ℕ, ◌+◌, ◌<◌, ◌≤◌, ◌^◌, Bool, true, false, List, [], ◌∷◌, ◌++◌, length, map, Option, Some, None, option_to_list, if◌then◌else◌, refl, ap, subst, arith, inl, inr}
use Rattle.std.proofs.lemmas.Bool.{cases_lt, cond-true, cond-false, le-ltb}
use Rattle.std.proofs.lemmas.List.{length-append}
use Rattle.std.proofs.lemmas.List.Sums.{fold-append}
use Rattle.q_packet.specs.Descriptor.{Descriptor}
use Rattle.q_model.specs.declared.event.Event.TheVariants as event
use Rattle.q_model.specs.Beneath.{beneath}
use Rattle.q_model.specs.Step.{counts_at, step}
use Rattle.q_model.specs.Tally.{Counts, Note, Sent, counted, noted, totals}
use Rattle.q_model.specs.TreeState.{asked, given}
use Rattle.q_device.specs.device.DeviceSeen.{DeviceSeen, Memory, polled_memory, with_event}
use Rattle.q_device.specs.DeviceLaws.{TellsItsLosses}
use Rattle.q_device.specs.Waiting.{ReadyPassesEmptyPolls, ready}
use Rattle.q_device.proofs.CountLemmas.{noted-rises}
use Rattle.q_tree.specs.answers.ReadyAt.{is_before}
use Rattle.q_drive.specs.Drained.{IsPolledWhenReady, polled, polls_left}

-- what a poll leaves, with its memory
pub polled_is : (at : ℕ) (d after : DeviceSeen) → after ≡ record (with_event (event.Poll at) d) { memory = after.memory }
    → after.memory ≡ polled_memory after.device.clock d.memory → after ≡ polled at d
polled_is at d after is memory =
    let clock = ap (λ (x : DeviceSeen). x.device.clock) is in
    is ∙ ap (λ (m : Memory). record (with_event (event.Poll at) d) { memory = m }) (memory ∙ ap (λ (t : ℕ). polled_memory t d.memory) clock)

-- one poll more
pub polls-more : (moments : List ℕ) (before d : DeviceSeen) (at : ℕ) → IsPolledWhenReady moments before d → ready d.device ≡ Some at → IsPolledWhenReady (moments ++ at ∷ []) before (polled at d)
polls-more [] before d at h e = (subst (λ (x : DeviceSeen). ready x.device ≡ Some at) h e, ap (polled at) h)
polls-more (m ∷ moments) before d at h e = (h.0, polls-more moments (polled m before) d at h.1 e)

-- a packet that was given was sent
sent-more : (top : Counts) (rises : List Note) (o : Option Descriptor) (p : Descriptor) → o ≡ Some p → top.sent.packets + 1 ≤ (noted totals top (rises ++ map Sent (option_to_list o))).sent.packets
sent-more top rises None p e = cc
sent-more top rises (Some q) p e =
    let r = noted-rises top rises in
    let last = ap (λ (c : Counts). c.sent.packets) (fold-append counted top rises (Sent q ∷ [])) in
    omega (arith, r.sent.packets, last)

-- no more are queued after a poll, and fewer where so many were sent
fewer-queued : (d : DeviceSeen) (at n : ℕ) → TellsItsLosses d → TellsItsLosses (polled at d) → (polled at d).device.tree.top.arrived ≡ d.device.tree.top.arrived
    → d.device.tree.top.sent.packets + n ≤ (polled at d).device.tree.top.sent.packets → length (beneath (polled at d).device.tree.root) + n ≤ length (beneath d.device.tree.root)
fewer-queued d at n told after same sent =
    let lost = length-append d.waiting (step totals d.device (event.Poll at)).losses in
    omega (arith, told.arrived, after.arrived, ap (λ t. t.packets) same, lost, sent)

-- one where the device is ready at once
abbrev at_once : DeviceSeen → ℕ
at_once d = if is_before (Some d.device.clock) (ready d.device) then 0 else 1

one_at_most : (d : DeviceSeen) → at_once d ≤ 1
one_at_most d = by (is_before (Some d.device.clock) (ready d.device))
  where
    by : (b : Bool) → (if b then 0 else 1) ≤ 1
    by true = omega arith
    by false = omega arith

-- each poll at the moment from which the device is ready leaves fewer to come
pub fewer : (d : DeviceSeen) (at : ℕ) → ready d.device ≡ Some at → at ≤ 2 ^ 62 → TellsItsLosses d → TellsItsLosses (polled at d) → ReadyPassesEmptyPolls d
    → (polled at d).device.tree.top.arrived ≡ d.device.tree.top.arrived → polls_left (polled at d) < polls_left d
fewer d at is range told after passes same = by (given (counts_at at d.device) d.device.tree) refl
  where
    by : (o : Option Descriptor) → given (counts_at at d.device) d.device.tree ≡ o → polls_left (polled at d) < polls_left d
    by (Some p) e =
        let sent = sent-more d.device.tree.top (asked (counts_at at d.device) d.device.tree).rises (given (counts_at at d.device) d.device.tree) p e in
        let queued = fewer-queued d at 1 told after same sent in
        omega (arith, queued, one_at_most (polled at d))
    by None e =
        let rises = noted-rises d.device.tree.top ((asked (counts_at at d.device) d.device.tree).rises ++ map Sent (option_to_list (given (counts_at at d.device) d.device.tree))) in
        let queued = fewer-queued d at 0 told after same (omega (arith, rises.sent.packets)) in
        let none : at_once (polled at d) ≡ 0 = cond-true (is_before (Some (polled at d).device.clock) (ready (polled at d).device)) 0 1 (passes at range e) in
        elim (cases_lt d.device.clock at) [
          | inl lt ↦ omega (arith, queued, none, lt, range)
          | inr ge ↦
              let now : at_once d ≡ 1 = cond-false (is_before (Some d.device.clock) (ready d.device)) 0 1 (ap (is_before (Some d.device.clock)) is ∙ le-ltb d.device.clock at ge) in
              omega (arith, queued, none, now, ge)
        ]
