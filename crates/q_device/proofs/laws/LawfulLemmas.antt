-- A device that is the replay of events is lawful, and its counters tell of what was queued and lost.
use Rattle.std.proofs.Common.{◌≡◌, ℕ, ◌+◌, ◌≤◌, ◌^◌, List, [], ◌∷◌, length, sym, ap, subst, arith, ◌∙◌}
use Rattle.std.specs.Prelude.{All}
use Rattle.std.proofs.lemmas.List.{length-append, length-drop}
use Rattle.q_model.specs.declared.event.Event.{Event}
use Rattle.q_model.specs.declared.totals.Totals.{Totals}
use Rattle.q_model.specs.Ask.{ask}
use Rattle.q_model.specs.Beneath.{beneath}
use Rattle.q_model.specs.Events.{IsEvent}
use Rattle.q_model.specs.Lawful.{IsLawfulTree}
use Rattle.q_model.specs.Node.{Shape, shape}
use Rattle.q_model.specs.Replay.{Replay, nothing_yet, with_step, replay_from, replay}
use Rattle.q_model.specs.Settings.{DeviceSettings, IsInRange}
use Rattle.q_model.specs.Step.{DeviceState, step}
use Rattle.q_model.specs.Tally.{Counts, counts_in, history, totals}
use Rattle.q_model.specs.TreeState.{asked}
use Rattle.q_model.proofs.ShrinkLemmas.{shape-with_memory}
use Rattle.q_invariants.proofs.ask.Asks.{ask-quiet}
use Rattle.q_invariants.proofs.Replays.{replay-kept}
use Rattle.q_invariants.proofs.Sound.{kept-totals}
use Rattle.q_device.specs.Counters.{arrived_after, sent_by}
use Rattle.q_device.specs.device.DeviceSeen.{DeviceSeen}
use Rattle.q_device.specs.Replayed.{IsReplayOf}
use Rattle.q_device.proofs.device.ToldLemmas.{AreLosses, quiet-are}
use Rattle.q_device.proofs.laws.CountLemmas.{step-rises, step-lost, step-arrived, step-sent}
use Rattle.q_device.proofs.laws.ShrinkLemmas.{replay-shrunk}

pub replay-lawful : (settings : DeviceSettings) (events : List Event) → IsInRange settings → All IsEvent events → (let d = (replay totals settings events).device in IsLawfulTree totals d.clock d.tree)
replay-lawful settings events range all =
    let d = (replay history settings events).device in
    subst (λ (x : DeviceState Counts). IsLawfulTree totals x.clock x.tree) (replay-shrunk settings events).device
    (kept-totals d.clock d.tree (replay-kept settings events range all))

module _ (events : List Event) (d : DeviceSeen) (h : IsReplayOf events d) (range : IsInRange d.settings) (all : All IsEvent events) where
  pub seen-lawful : IsLawfulTree totals d.device.clock d.device.tree
  seen-lawful = subst (λ (x : DeviceState Counts). IsLawfulTree totals x.clock x.tree) (sym h.device) (replay-lawful d.settings events range all)

  -- asking its tree loses and marks alone
  seen-quiet : (now : ℕ) → d.device.clock ≤ now → now ≤ 2 ^ 62 → AreLosses (asked now d.device.tree).rises
  seen-quiet now later low =
      let x = (replay history d.settings events).device in
      let same = (replay-shrunk d.settings events).device ∙ sym h.device in
      let clock : x.clock ≡ d.device.clock = ap (λ (y : DeviceState Counts). y.clock) same in
      let forms : shape x.tree.root ≡ shape d.device.tree.root = sym (shape-with_memory counts_in x.tree.root) ∙ ap (λ (y : DeviceState Counts). shape y.tree.root) same in
      subst (λ (s : Shape). AreLosses (ask now s).rises) forms
      (quiet-are (asked now x.tree).rises (ask-quiet x.clock now x.tree (replay-kept d.settings events range all) (omega (arith, later, clock)) low))

  pub seen-arrived : (e : Event) → IsEvent e → (step totals d.device e).device.tree.top.arrived ≡ arrived_after e d.device.tree.top.arrived
  seen-arrived e is = step-arrived d.device e seen-quiet seen-lawful.moment is

  pub seen-sent : (e : Event) → IsEvent e → (step totals d.device e).device.tree.top.sent.packets ≡ d.device.tree.top.sent.packets + sent_by e d.device
  seen-sent e is = step-sent d.device e seen-quiet seen-lawful.moment is

-- what is queued after an event, and lost by it, was queued before or has arrived
pub queued-after : (before after : DeviceState Counts) (e : Event) → IsLawfulTree totals before.clock before.tree → IsLawfulTree totals after.clock after.tree → after ≡ (step totals before e).device
    → after.tree.top.arrived ≡ arrived_after e before.tree.top.arrived
    → length (beneath after.tree.root) + length (step totals before e).losses + before.tree.top.arrived.packets ≤ length (beneath before.tree.root) + (arrived_after e before.tree.top.arrived).packets
queued-after before after e b a is arrived =
    let rises = step-rises before e in
    omega (
      arith,
      b.device.packets,
      a.device.packets,
      rises.sent.packets,
      step-lost before e,
      ap (λ (x : DeviceState Counts). x.tree.top.sent.packets) is,
      ap (λ (x : DeviceState Counts). x.tree.top.refused.packets) is,
      ap (λ (x : DeviceState Counts). x.tree.top.dropped.packets) is,
      ap (λ (t : Totals). t.packets) arrived,
    )

-- each loss of a replay was refused or dropped
replay_from-lost : (r : Replay Counts) (events : List Event) → r.device.tree.top.refused.packets + r.device.tree.top.dropped.packets ≡ length r.losses
    → (replay_from totals r events).device.tree.top.refused.packets + (replay_from totals r events).device.tree.top.dropped.packets ≡ length (replay_from totals r events).losses
replay_from-lost r [] h = h
replay_from-lost r (e ∷ events) h =
    let s = step totals r.device e in
    replay_from-lost (with_step r s) events (omega (arith, h, step-lost r.device e, length-append r.losses s.losses))

-- and was handed out, or waits
pub losses-told : (events : List Event) (d : DeviceSeen) → IsReplayOf events d → d.handed_out + length d.waiting ≡ d.device.tree.top.refused.packets + d.device.tree.top.dropped.packets
losses-told events d h =
    let r = replay totals d.settings events in
    omega (
      arith,
      h.handed_out,
      ap length h.waiting,
      length-drop d.handed_out r.losses,
      replay_from-lost (nothing_yet totals d.settings) events (omega arith),
      ap (λ (x : DeviceState Counts). x.tree.top.refused.packets) h.device,
      ap (λ (x : DeviceState Counts). x.tree.top.dropped.packets) h.device,
    )
