-- What a drive writes behind what standard input came to: three lines, perhaps one on what was drained, and perhaps the device's
-- counters and the qdiscs; or that an allocation failed.
-- The texts are this project's own.
use Rattle.std.specs.Prelude.{ℕ, Bool, true, List, [], ◌++◌, if◌then◌else◌, codes, decimal, Option, Some, None}
use Rattle.q_line.specs.declared.object.Object.TheVariants.{Qdisc}
use Rattle.q_line.specs.declared.show.Show.{Show}
use Rattle.q_model.specs.Beneath.{beneath, row_of}
use Rattle.q_model.specs.Refusal.{refusal_text}
use Rattle.q_model.specs.Tally.{totals}
use Rattle.q_model.specs.declared.refusal.Refusal.TheVariants.{Memory}
use Rattle.q_model.specs.declared.totals.Totals.{Totals}
use Rattle.q_script_semantics.specs.Report.{show_text}
use Rattle.q_script_semantics.specs.Text.{device_line}
use Rattle.q_script.specs.Script.{newline}
use Rattle.q_drive.specs.declared.draining.Drained.{Drained}
use Rattle.q_drive.specs.declared.driving.Driven.{Driven}

-- `Pp Bb`, and the end of the line
abbrev pub amount_text : Totals → List ℕ
amount_text t = decimal t.packets ++ codes "p " ++ decimal t.bytes ++ codes "b" ++ newline

abbrev pub settled_line : Totals → List ℕ
settled_line t = codes "settled " ++ amount_text t

abbrev pub arrived_line : Totals → List ℕ
arrived_line t = codes "arrived " ++ amount_text t

abbrev pub given_up_line : ℕ → List ℕ
given_up_line n = codes "given up " ++ decimal n ++ newline

-- what polls sent until nothing went any more, and the clock then
abbrev pub drained_line : Drained → List ℕ
drained_line d =
    codes "drained " ++ decimal d.amount.packets ++ codes "p " ++ decimal d.amount.bytes ++ codes "b at " ++ decimal d.at ++ newline

abbrev pub drained_text : Option Drained → List ℕ
drained_text None = []
drained_text (Some d) = drained_line d

abbrev pub memory_line : List ℕ
memory_line = refusal_text Memory ++ newline

-- as `tc -s qdisc show` asks
abbrev pub qdiscs : Show
qdiscs = record { object = Qdisc; counters = true }

abbrev pub shown_text : Bool → Driven → List ℕ
shown_text show d = if show then show_text totals qdiscs d.device.device else []

-- what the device itself counts, as `totals` writes it: a packet longer than the mtu is lost there, above the root
abbrev pub totals_line : Bool → Driven → List ℕ
totals_line show d =
    if show then device_line (row_of d.device.device.tree.top (beneath d.device.device.tree.root)) else []

-- the settled share, what the device counts as arrived, and the packets that were given up; and if they are asked for what was
-- drained, and all that the device counts
abbrev pub driven_lines : Bool → Driven → List ℕ
driven_lines show d =
    settled_line d.settled ++ arrived_line d.device.device.tree.top.arrived ++ given_up_line d.given_up ++ drained_text d.drained
    ++ totals_line show d

-- and the qdiscs if they are asked for
abbrev pub driven_text : Bool → Driven → List ℕ
driven_text show d = driven_lines show d ++ shown_text show d

abbrev pub ending_text : Bool → Option Driven → List ℕ
ending_text show None = memory_line
ending_text show (Some d) = driven_text show d
