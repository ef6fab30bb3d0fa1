-- The texts of a report: what a poll gave, what was lost or refused, and the device's counters.
-- What show prints of a tree has its texts in q_show.
use Rattle.std.specs.Prelude.{ℕ, ◌==◌, List, [], ◌++◌, codes, decimal, if◌then◌else◌}
use Rattle.q_packet.specs.Descriptor.{Descriptor}
use Rattle.q_packet.specs.Cause.{cause_name}
use Rattle.q_packet.specs.Ecn.{codepoint}
use Rattle.q_codel.specs.declared.loss.Loss.{Loss}
use Rattle.q_model.specs.declared.refusal.Refusal.{Refusal}
use Rattle.q_model.specs.declared.row.Row.{Row}
use Rattle.q_model.specs.Refusal.{refusal_text}
use Rattle.q_model.specs.declared.polled.Polled.{Polled}
use Rattle.q_model.specs.declared.polled.Polled.TheVariants as polled
use Rattle.q_script.specs.Script.{newline, line_text}
pub use Rattle.q_show.specs.ShowText.{counters_text, handle_text, qdisc_text, class_line, filter_line}

abbrev pub refused_line : ℕ → Refusal → List ℕ
refused_line k refusal = line_text k ++ refusal_text refusal ++ newline

-- a packet, by its number and length
abbrev pub packet_text : Descriptor → List ℕ
packet_text p = decimal p.number ++ codes " " ++ decimal p.len

abbrev pub poll_line : Polled → List ℕ
poll_line (polled.Packet p) = codes "sent " ++ packet_text p ++ (if codepoint p.ecn == 3 then codes " ce" else []) ++ newline
poll_line polled.Idle = codes "idle" ++ newline
poll_line polled.Later = codes "later" ++ newline

abbrev pub lost_line : Loss → List ℕ
lost_line l = codes "lost " ++ packet_text l.packet ++ codes " " ++ cause_name l.cause ++ newline

abbrev pub device_line : Row → List ℕ
device_line r = codes "device" ++ counters_text r ++ newline
