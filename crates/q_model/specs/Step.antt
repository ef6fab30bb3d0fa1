-- What an event makes of a device: the device after it, what it is answered, and the packets that are lost, in order.
-- The clock is the latest time that counted; an event before it happens then. A refused command is no event.
use Rattle.std.specs.Prelude.{ℕ, max, Bool, if◌then◌else◌, List, [], Option, Some, None, Result, Ok, Err}
use Rattle.std.specs.List.{filter_map}
use Rattle.q_packet.specs.Descriptor.{Descriptor}
use Rattle.q_packet.specs.declared.cause.Cause.{Cause}
use Rattle.q_codel.specs.declared.loss.Loss.{Loss}
use Rattle.q_model.specs.declared.command.Command.{Command}
use Rattle.q_model.specs.Tally.{Tally, Note, Arrived, Sent, Lost, Marked, Granted, Spent, FlowGranted, FlowGave}
use Rattle.q_model.specs.Node.{shape}
use Rattle.q_model.specs.Beneath.{is_empty}
use Rattle.q_model.specs.Edit.{Edit, lost_by}
use Rattle.q_model.specs.TreeState.{TreeState, new_tree, put, own_loss, noted_by_put, given, noted_by_take, take_packet, plan, with_edit}
use Rattle.q_model.specs.declared.event.Event.{Event}
use Rattle.q_model.specs.declared.event.Event.TheVariants as event
use Rattle.q_model.specs.declared.fate.Fate.{Fate}
use Rattle.q_model.specs.declared.fate.Fate.TheVariants as fate
use Rattle.q_model.specs.declared.polled.Polled.{Polled}
use Rattle.q_model.specs.declared.polled.Polled.TheVariants as polled
use Rattle.q_model.specs.declared.reply.Reply.{Reply}
use Rattle.q_model.specs.declared.reply.Reply.TheVariants as reply
use Rattle.q_model.specs.declared.refusal.Refusal.{Refusal}
use Rattle.q_model.specs.Settings.{DeviceSettings}

pub record DeviceState (M : Type 0) : Type 0 where
  pub clock : ℕ
  pub tree : TreeState M

pub record Step (M : Type 0) : Type 0 where
  pub device : DeviceState M
  pub reply : Reply
  pub losses : List Loss

abbrev pub new_device : {M : Type 0} → Tally M → DeviceSettings → DeviceState M
new_device t s = record { clock = 0; tree = new_tree t (record { mtu = s.mtu; txqueuelen = s.txqueuelen }) }

-- the losses among notes
abbrev pub loss_in : Note → Option Loss
loss_in (Lost p cause) = Some (record { packet = p; cause = cause })
loss_in (Arrived p) = None
loss_in (Sent p) = None
loss_in (Marked p) = None
loss_in (Granted class times) = None
loss_in (Spent bytes) = None
loss_in (FlowGranted flow times) = None
loss_in (FlowGave flow bytes) = None

abbrev pub losses_in : List Note → List Loss
losses_in notes = filter_map loss_in notes

abbrev pub fate_of : Option Cause → Fate
fate_of None = fate.Kept
fate_of (Some cause) = fate.Lost cause

-- what a poll is answered, by the packet that it hands out and whether nothing is queued after it
abbrev pub polled_of : Option Descriptor → Bool → Polled
polled_of (Some p) empty = polled.Packet p
polled_of None empty = if empty then polled.Idle else polled.Later

abbrev pub arrive : {M : Type 0} → Tally M → Descriptor → ℕ → DeviceState M → Step M
arrive t p now d = record {
  device = record { clock = now; tree = put t now p d.tree };
  reply = reply.Fate (fate_of (own_loss now p d.tree.device (shape d.tree.root)));
  losses = losses_in (noted_by_put now p d.tree);
}

abbrev pub poll : {M : Type 0} → Tally M → ℕ → DeviceState M → Step M
poll t now d =
    let after = take_packet t now d.tree in
    record {
      device = record { clock = now; tree = after };
      reply = reply.Polled (polled_of (given now d.tree) (is_empty (shape after.root)));
      losses = losses_in (noted_by_take now d.tree);
    }

-- a command that is done, and one that is refused
abbrev pub done : {M : Type 0} → Tally M → Edit → ℕ → DeviceState M → Step M
done t edit now d = record {
  device = record { clock = now; tree = with_edit t edit d.tree };
  reply = reply.Done (Ok (record {}));
  losses = losses_in (lost_by edit (shape d.tree.root));
}

abbrev pub not_done : {M : Type 0} → Refusal → DeviceState M → Step M
not_done refusal d = record { device = d; reply = reply.Done (Err refusal); losses = [] }

abbrev pub answered : {M : Type 0} → Tally M → Result Edit Refusal → ℕ → DeviceState M → Step M
answered t (Ok edit) now d = done t edit now d
answered t (Err refusal) now d = not_done refusal d

abbrev pub command : {M : Type 0} → Tally M → Command → ℕ → DeviceState M → Step M
command t c now d = answered t (plan d.tree.device now c (shape d.tree.root)) now d

-- the time at which an event counts
abbrev pub counts_at : {M : Type 0} → ℕ → DeviceState M → ℕ
counts_at moment d = max d.clock moment

abbrev pub step : {M : Type 0} → Tally M → DeviceState M → Event → Step M
step t d (event.Arrive p moment) = arrive t p (counts_at moment d) d
step t d (event.Poll moment) = poll t (counts_at moment d) d
step t d (event.Command c moment) = command t c (counts_at moment d) d
