-- Every step keeps a device's tree, and so does every replay.
use Rattle.std.proofs.Common.{◌≡◌, ℕ, ◌≤◌, ◌^◌, max, List, [], ◌∷◌, refl, Result, Ok, Err, arith}
use Rattle.std.specs.Prelude.{All}
use Rattle.std.proofs.lemmas.List.Elements.{All-head, All-tail}
use Rattle.q_model.specs.declared.refusal.Refusal.{Refusal}
use Rattle.q_model.specs.declared.event.Event.{Event}
use Rattle.q_model.specs.declared.event.Event.TheVariants as event
use Rattle.q_model.specs.Edit.{Edit}
use Rattle.q_model.specs.Events.{IsEvent}
use Rattle.q_model.specs.Node.{shape}
use Rattle.q_model.specs.Replay.{Replay, with_step, replay_from, replay, nothing_yet}
use Rattle.q_model.specs.Settings.{DeviceSettings, IsInRange}
use Rattle.q_model.specs.Step.{DeviceState, answered, step}
use Rattle.q_model.specs.Tally.{Note, history}
use Rattle.q_model.specs.TreeState.{plan}
use Rattle.q_invariants.specs.Kept.{IsKeptTree}
use Rattle.q_invariants.proofs.ask.Asks.{take-kept}
use Rattle.q_invariants.proofs.edit.Edits.{edit-keeps, new-kept}
use Rattle.q_invariants.proofs.put.Puts.{put-kept}

abbrev pub IsKept : DeviceState (List Note) → Type 0
IsKept d = IsKeptTree d.clock d.tree

pub not-before : (clock moment : ℕ) → clock ≤ max clock moment
not-before clock moment = omega arith

pub not-after : (clock moment most : ℕ) → clock ≤ most → moment ≤ most → max clock moment ≤ most
not-after clock moment most a b = omega (arith, a, b)

pub step-kept : (d : DeviceState (List Note)) (e : Event) → IsKept d → IsEvent e → IsKept (step history d e).device
step-kept d (event.Arrive p moment) h e =
    put-kept d.clock (max d.clock moment) d.tree p h (not-before d.clock moment) (not-after d.clock moment (2 ^ 62) h.moment e.1) e.0.len.0
step-kept d (event.Poll moment) h e = take-kept d.clock (max d.clock moment) d.tree h (not-before d.clock moment) (not-after d.clock moment (2 ^ 62) h.moment e)
step-kept d (event.Command c moment) h e = by (plan d.tree.device (max d.clock moment) c (shape d.tree.root)) refl
  where
    by : (answer : Result Edit Refusal) → plan d.tree.device (max d.clock moment) c (shape d.tree.root) ≡ answer → IsKept (answered history answer (max d.clock moment) d).device
    by (Ok edit) is = edit-keeps d.tree d.clock (max d.clock moment) c edit h (not-before d.clock moment) (not-after d.clock moment (2 ^ 62) h.moment e.1) e.0 is
    by (Err refusal) is = h

replay_from-kept : (r : Replay (List Note)) (events : List Event) → IsKept r.device → All IsEvent events → IsKept (replay_from history r events).device
replay_from-kept r [] h all = h
replay_from-kept r (e ∷ events) h all =
    replay_from-kept (with_step r (step history r.device e)) events (step-kept r.device e h (All-head IsEvent e events all)) (All-tail IsEvent e events all)

pub new-kept-device : (settings : DeviceSettings) → IsInRange settings → IsKept (nothing_yet history settings).device
new-kept-device settings range = new-kept (record { mtu = settings.mtu; txqueuelen = settings.txqueuelen }) range.mtu range.most_mtu

pub replay-kept : (settings : DeviceSettings) (events : List Event) → IsInRange settings → All IsEvent events → IsKept (replay history settings events).device
replay-kept settings events range all = replay_from-kept (nothing_yet history settings) events (new-kept-device settings range) all
