-- While no command is accepted, a device can hold no more packets than before.
use Rattle.std.proofs.Common.{◌≡◌, ℕ, ◌≤◌, ◌^◌, max, List, [], ◌∷◌, ◌++◌, refl, ap, Result, Ok, Err, arith}
use Rattle.std.specs.Prelude.{◌≢◌, All}
use Rattle.std.proofs.lemmas.List.Elements.{All-append, All-head, All-tail}
use Rattle.q_model.specs.declared.event.Event.{Event}
use Rattle.q_model.specs.declared.event.Event.TheVariants as event
use Rattle.q_model.specs.declared.refusal.Refusal.{Refusal}
use Rattle.q_model.specs.declared.reply.Reply.TheVariants as reply
use Rattle.q_model.specs.Edit.{Edit}
use Rattle.q_model.specs.Events.{IsEvent}
use Rattle.q_model.specs.Node.{shape}
use Rattle.q_model.specs.Replay.{Replay, nothing_yet, with_step, replay_from, replay}
use Rattle.q_model.specs.Settings.{DeviceSettings, IsInRange}
use Rattle.q_model.specs.Step.{DeviceState, answered, step}
use Rattle.q_model.specs.Tally.{Note, history}
use Rattle.q_model.specs.TreeState.{plan}
use Rattle.q_invariants.specs.Kept.{IsLawfulRoot}
use Rattle.q_invariants.proofs.Along.{replay-twice}
use Rattle.q_invariants.proofs.edit.EditLater.{root-later}
use Rattle.q_invariants.proofs.Replays.{IsKept, not-before, not-after, step-kept, replay-kept}
use Rattle.q_tree.specs.answers.MostPackets.{most_packets}
use Rattle.q_tree.proofs.MostPacketsLemmas.{queued-within-most}
use Rattle.q_tree.proofs.MostPacketsTrees.{put-least, take-least}
use Rattle.q_device.specs.Buffers.{AcceptsNoCommand, NoMoreIsHeld}
use Rattle.q_device.specs.Sharing.{device_after}

abbrev most_in : DeviceState (List Note) → ℕ
most_in d = most_packets d.tree.root

lawful-at : (d : DeviceState (List Note)) (moment : ℕ) → IsKept d → IsLawfulRoot d.tree.device.mtu (max d.clock moment) d.tree.root
lawful-at d moment kept = root-later d.clock (max d.clock moment) (not-before d.clock moment) d.tree.device.mtu d.tree.root kept.lawful

-- along the events
holds-from : (r : Replay (List Note)) (events : List Event) → IsKept r.device → All IsEvent events → AcceptsNoCommand r.device events → most_in (replay_from history r events).device ≤ most_in r.device
holds-from r [] kept all still = omega arith
holds-from r (event.Arrive p moment ∷ events) kept all still =
    let d : DeviceState (List Note) = r.device in
    let e : Event = event.Arrive p moment in
    let range : IsEvent e = All-head IsEvent e events all in
    omega (
      arith,
      holds-from (with_step r (step history d e)) events (step-kept d e kept range) (All-tail IsEvent e events all) still.1,
      put-least history (max d.clock moment) d.tree kept.least_mtu (not-after d.clock moment (2 ^ 62) kept.moment range.1) (lawful-at d moment kept) p range.0.len.0,
    )
holds-from r (event.Poll moment ∷ events) kept all still =
    let d : DeviceState (List Note) = r.device in
    let e : Event = event.Poll moment in
    let range : IsEvent e = All-head IsEvent e events all in
    omega (
      arith,
      holds-from (with_step r (step history d e)) events (step-kept d e kept range) (All-tail IsEvent e events all) still.1,
      take-least history (max d.clock moment) d.tree kept.least_mtu (not-after d.clock moment (2 ^ 62) kept.moment range) (lawful-at d moment kept),
    )
holds-from r (event.Command k moment ∷ events) kept all still =
    let d : DeviceState (List Note) = r.device in
    let e : Event = event.Command k moment in
    omega (
      arith,
      holds-from (with_step r (step history d e)) events (step-kept d e kept (All-head IsEvent e events all)) (All-tail IsEvent e events all) still.1,
      by d (plan d.tree.device (max d.clock moment) k (shape d.tree.root)) still.0,
    )
  where
    -- a refused command leaves the device
    by : (d : DeviceState (List Note)) (answer : Result Edit Refusal)
        → (answered history answer (max d.clock moment) d).reply ≢ reply.Done (Ok (record {}))
        → most_in (answered history answer (max d.clock moment) d).device ≤ most_in d
    by d (Ok edit) refused = absurd (refused refl)
    by d (Err refusal) refused = omega arith

pub no-more-is-held : (settings : DeviceSettings) → IsInRange settings → NoMoreIsHeld settings
no-more-is-held settings range before during all_before all_during still =
    let first : Replay (List Note) = replay history settings before in
    let goes : device_after settings (before ++ during) ≡ (replay_from history first during).device =
    ap (λ (r : Replay (List Note)). r.device) (replay-twice (nothing_yet history settings) before during) in
    let kept : IsKept (device_after settings (before ++ during)) = replay-kept settings (before ++ during) range (All-append IsEvent before during all_before all_during) in
    let after : DeviceState (List Note) = device_after settings (before ++ during) in
    let less = holds-from first during (replay-kept settings before range all_before) all_during still in
    record {
      most = omega (arith, less, ap most_in goes);
      queued = omega (arith, queued-within-most after.tree.device.mtu after.clock after.tree.root kept.lawful, less, ap most_in goes);
    }
