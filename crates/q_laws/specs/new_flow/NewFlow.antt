-- What leaves an fq_codel before the first packet of a flow that joins it, over every interval of every replay: what the flows of the new
-- list that have credits let it give, whatever comes meanwhile. RFC 8290, section 4.2.
use Rattle.std.specs.Prelude.{◌≡◌, ℕ, ◌+◌, ◌≤◌, ℤ, pos, int_lt, true, false, if◌then◌else◌, List, [], ◌∷◌, ◌++◌, All, Some, sum_by}
use Rattle.q_fqcodel.specs.Entry.{Entry}
use Rattle.q_fqcodel.specs.Put.{is_listed}
use Rattle.q_model.specs.declared.event.Event.{Event}
use Rattle.q_model.specs.Events.{IsEvent}
use Rattle.q_model.specs.Settings.{DeviceSettings}
use Rattle.q_model.specs.Stretches.{bytes_given, reach, FqAt, fq_in, Throughout}
use Rattle.q_model.specs.Tally.{Note, FlowGave}
use Rattle.q_device.specs.Sharing.{device_after}
use Rattle.q_laws.specs.share.Service.{IsQueuedFlow}

-- the bytes that flows gave, whichever they are
abbrev pub given_by_any : Note → ℕ
given_by_any (FlowGave n bytes) = bytes
given_by_any other = 0

abbrev pub all_given : List Note → ℕ
all_given notes = sum_by given_by_any notes

-- What a flow of the new list may give before one that joins behind it: what it can before it waits for a quantum, and nothing where it has
-- no credits left, since it is granted first then, and goes to the old list.
abbrev pub reach_before : ℕ → ℤ → ℕ
reach_before mtu credits = if int_lt (pos 0) credits then reach mtu credits else 0

abbrev pub reaches : ℕ → List Entry → ℕ
reaches mtu entries = sum_by (λ (e : Entry). reach_before mtu e.credits) entries

-- A packet joined flow j, which was in neither list. From then on, as long as the flow stays backlogged and has given nothing, all others
-- together gave at most what those in the new list could give at first.
abbrev pub NewFlowsGoBefore : DeviceSettings → Type 0
NewFlowsGoBefore settings =
    (before : List Event) (e : Event) (during : List Event) (major j : ℕ) (first next last : FqAt) → All IsEvent before → IsEvent e → All IsEvent during
    → fq_in major (device_after settings before) ≡ Some first → fq_in major (device_after settings (before ++ e ∷ [])) ≡ Some next
    → fq_in major (device_after settings (before ++ e ∷ during)) ≡ Some last
    → is_listed j (first.state.new_flows ++ first.state.old_flows) ≡ false → is_listed j (next.state.new_flows ++ next.state.old_flows) ≡ true
    → Throughout (IsQueuedFlow major j) settings (before ++ e ∷ []) during → bytes_given j last.noted ≡ bytes_given j first.noted
    → all_given last.noted ≤ all_given first.noted + reaches settings.mtu first.state.new_flows
