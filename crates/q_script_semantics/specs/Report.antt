-- The report of a script: what each of its lines makes of a new device, and the text that it writes.
-- An allocation may fail at some lines; such a line says so, and the device stays as it was.
use Rattle.std.specs.Prelude.{ℕ, zero, suc, Bool, true, false, List, [], ◌∷◌, ◌++◌, if◌then◌else◌, None, Result, Ok, Err, unwrap_or}
use Rattle.std.specs.List.{flat_map}
use Rattle.q_packet.specs.Descriptor.{Descriptor}
use Rattle.q_packet.specs.Key.{key_bytes}
use Rattle.q_packet.specs.declared.head.Head.{Head}
use Rattle.q_packet.specs.OneAtATime.{one_at_a_time}
use Rattle.q_codel.specs.declared.loss.Loss.{Loss}
use Rattle.q_model.specs.declared.command.Command.{Command}
use Rattle.q_model.specs.declared.refusal.Refusal.{Refusal}
use Rattle.q_model.specs.declared.refusal.Refusal.TheVariants.{Memory}
use Rattle.q_model.specs.Edit.{Edit}
use Rattle.q_model.specs.Node.{shape}
use Rattle.q_model.specs.Tally.{Tally, Note, history}
use Rattle.q_model.specs.TreeState.{plan, given}
use Rattle.q_model.specs.Beneath.{is_empty, beneath, row_of}
use Rattle.q_model.specs.Conserved.{every_node}
use Rattle.q_model.specs.Views.{views, class_views, filter_views}
use Rattle.q_model.specs.Settings.{DeviceSettings}
use Rattle.q_model.specs.Step.{DeviceState, Step, new_device, arrive, poll, done, counts_at, polled_of}
use Rattle.q_line.specs.Grammar.{line_of}
use Rattle.q_line.specs.declared.arrival.Arrival.{Arrival}
use Rattle.q_line.specs.declared.line.Line.{Line}
use Rattle.q_line.specs.declared.line.Line.TheVariants as line
use Rattle.q_script.specs.Script.{lines_of, is_starved, fault_line}
use Rattle.q_words.specs.declared.line_fault.LineFault.{LineFault}
use Rattle.q_line.specs.declared.show.Show.{Show}
use Rattle.q_line.specs.declared.object.Object.TheVariants as object
use Rattle.q_script_semantics.specs.Text.{refused_line, poll_line, lost_line, device_line, qdisc_text, class_line, filter_line}

-- What a script's lines have made so far: the device, the losses that wait to be reaped, the time of the lines that
-- follow, how many packets were numbered, and how many lines had a fault or were refused.
pub record SessionState (M : Type 0) : Type 0 where
  pub device : DeviceState M
  pub waiting : List Loss
  pub moment : ℕ
  pub packets : ℕ
  pub not_done : ℕ

-- what a line writes, and what it leaves
pub record Effect (M : Type 0) : Type 0 where
  pub text : List ℕ
  pub session : SessionState M

abbrev pub new_session : {M : Type 0} → Tally M → DeviceSettings → SessionState M
new_session t settings = record { device = new_device t settings; waiting = []; moment = 0; packets = 0; not_done = 0 }

abbrev pub silent : {M : Type 0} → SessionState M → Effect M
silent s = record { text = []; session = s }

-- a line is refused, and changes nothing else
abbrev pub refusing : {M : Type 0} → List ℕ → SessionState M → Effect M
refusing text s = record { text = text; session = record s { not_done = suc s.not_done } }

-- an event happens: what it loses waits from then on
abbrev pub after : {M : Type 0} → Step M → SessionState M → SessionState M
after step s = record s { device = step.device; waiting = s.waiting ++ step.losses }

-- the packet that the n-th arrival brings: its buffer has its number, and its hash is that of its key where none is given
abbrev pub numbered_packet : ℕ → ℕ → Arrival → Descriptor
numbered_packet seed n a = record {
  port = 0;
  number = n;
  buf = n;
  len = a.len;
  key = a.key;
  hash = unwrap_or a.hash (one_at_a_time seed (key_bytes a.key));
  prio = a.prio;
  ecn = a.ecn;
}

-- the arrival of a frame, of which its head says all but the length
abbrev pub framed : ℕ → Head → Arrival
framed len head = record { len = len; key = head.key; prio = head.prio; ecn = head.ecn; hash = None }

-- an arrival takes its number first, also where there is no memory for it
abbrev pub arrival : {M : Type 0} → Tally M → ℕ → Bool → ℕ → Arrival → SessionState M → Effect M
arrival t seed starved k a s =
    let numbered = record s { packets = suc s.packets } in
    if starved then refusing (refused_line k Memory) numbered
    else silent (after (arrive t (numbered_packet seed (suc s.packets) a) (counts_at s.moment s.device) s.device) numbered)

-- so many polls, one after another
abbrev pub polls : {M : Type 0} → Tally M → ℕ → SessionState M → Effect M
polls t zero s = silent s
polls t (suc n) s =
    let now = counts_at s.moment s.device in
    let step = poll t now s.device in
    let rest = polls t n (after step s) in
    record rest { text = poll_line (polled_of (given now s.device.tree) (is_empty (shape step.device.tree.root))) ++ rest.text }

-- a command is done, refused, or refused since an allocation failed
abbrev pub planned : {M : Type 0} → Tally M → Bool → ℕ → Result Edit Refusal → SessionState M → Effect M
planned t starved k (Err refusal) s = refusing (refused_line k refusal) s
planned t starved k (Ok edit) s =
    if starved then refusing (refused_line k Memory) s
    else silent (after (done t edit (counts_at s.moment s.device) s.device) s)

abbrev pub commanded : {M : Type 0} → Tally M → Bool → ℕ → Command → SessionState M → Effect M
commanded t starved k c s =
    planned t starved k (plan s.device.tree.device (counts_at s.moment s.device) c (shape s.device.tree.root)) s

-- each qdisc, class or filter, node by node from the root down
abbrev pub show_text : {M : Type 0} → Tally M → Show → DeviceState M → List ℕ
show_text t show d = elim show.object [
  | object.Qdisc ↦ flat_map (qdisc_text show.counters) (views t d.tree)
  | object.Class ↦ flat_map (λ n. flat_map class_line (class_views n)) (every_node d.tree.root)
  | object.Filter ↦ flat_map (λ n. flat_map filter_line (filter_views n)) (every_node d.tree.root)
]

-- what a line does that has no fault; k is its number, and starved says that an allocation failed at it
abbrev pub answered : {M : Type 0} → Tally M → ℕ → Bool → ℕ → Line → SessionState M → Effect M
answered t seed starved k line.Blank s = silent s
answered t seed starved k (line.At moment) s = silent (record s { moment = moment })
answered t seed starved k (line.Pkt a) s = arrival t seed starved k a s
answered t seed starved k (line.Frame len head) s = arrival t seed starved k (framed len head) s
answered t seed starved k (line.Poll n) s = polls t n s
answered t seed starved k (line.Tc c) s = commanded t starved k c s
answered t seed starved k (line.Show show) s = record { text = show_text t show s.device; session = s }
answered t seed starved k line.Reap s = record { text = flat_map lost_line s.waiting; session = record s { waiting = [] } }
answered t seed starved k line.Totals s = record {
  text = device_line (row_of (t.counts_of s.device.tree.top) (beneath s.device.tree.root));
  session = s;
}

abbrev pub effect : {M : Type 0} → Tally M → ℕ → Bool → ℕ → Result Line LineFault → SessionState M → Effect M
effect t seed starved k (Err fault) s = refusing (fault_line k fault) s
effect t seed starved k (Ok l) s = answered t seed starved k l s

-- the lines in turn, the first of which has this number
abbrev pub replayed : {M : Type 0} → Tally M → ℕ → (ℕ → Bool) → ℕ → List (List ℕ) → SessionState M → Effect M
replayed t seed starved k [] s = silent s
replayed t seed starved k (l ∷ lines) s =
    let first = effect t seed (starved k) k (line_of l) s in
    let rest = replayed t seed starved (suc k) lines first.session in
    record rest { text = first.text ++ rest.text }

-- a script's replay on a new device, with an allocation failure at these lines
abbrev pub replay_with : {M : Type 0} → Tally M → DeviceSettings → ℕ → List ℕ → List ℕ → Effect M
replay_with t settings seed script starved =
    replayed t seed (is_starved starved) 1 (lines_of script) (new_session t settings)

-- the replay that a report is made of keeps every note
abbrev pub replay : DeviceSettings → ℕ → List ℕ → List ℕ → Effect (List Note)
replay settings seed script starved = replay_with history settings seed script starved

abbrev pub report : DeviceSettings → ℕ → List ℕ → List ℕ → List ℕ
report settings seed script starved = (replay settings seed script starved).text
