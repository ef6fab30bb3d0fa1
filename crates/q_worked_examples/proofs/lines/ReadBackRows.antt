-- What show prints, read by the grammar: as it stands, and as the command that makes it.
-- The lines are those of docs/LANGUAGE.md, "tc lines" and "Show texts".
use Rattle.std.proofs.Common.{◌≡◌, ℕ, ◌+◌, ◌-◌, ◌^◌, List, [], ◌∷◌, ◌++◌, length, map, take, drop, Option, Some, None, refl}
use Rattle.std.specs.Prelude.{codes, replicate, true, Result, Ok, Err}
use Rattle.std.specs.Fmt.{digits}
use Rattle.q_fqcodel.specs.FqState.{FqSettings}
use Rattle.q_line.specs.Grammar.{line_of}
use Rattle.q_line.specs.declared.line.Line.{Line}
use Rattle.q_line.specs.declared.line.Line.TheVariants.{Tc}
use Rattle.q_model.specs.declared.class_id.ClassId.{ClassId}
use Rattle.q_model.specs.declared.class_kind.ClassKind.TheVariants as class
use Rattle.q_model.specs.declared.command.Command.TheVariants as command
use Rattle.q_model.specs.declared.filter_keys.FilterKeys.{FilterKeys}
use Rattle.q_model.specs.declared.filter_view.FilterView.{FilterView}
use Rattle.q_model.specs.declared.ip_version.IpVersion.TheVariants.{V4, V6}
use Rattle.q_model.specs.declared.node_view.NodeView.{NodeView}
use Rattle.q_model.specs.declared.place.Place.{Place}
use Rattle.q_model.specs.declared.place.Place.TheVariants as place
use Rattle.q_model.specs.declared.protocol.Protocol.{Protocol}
use Rattle.q_model.specs.declared.protocol.Protocol.TheVariants.{All, Ip, Ipv6}
use Rattle.q_model.specs.declared.qdisc_view.QdiscView.{QdiscView}
use Rattle.q_model.specs.declared.qdisc_view.QdiscView.TheVariants as qdisc
use Rattle.q_model.specs.declared.totals.Totals.{Totals}
use Rattle.q_words.specs.declared.line_fault.LineFault.{LineFault}
use Rattle.q_words.specs.declared.line_fault.LineFault.TheVariants as fault
use Rattle.q_script_semantics.specs.ReadBack.{class_command, filter_added, filter_command, kind_shown, qdisc_command}
use Rattle.q_show.specs.ShowText.{class_line, filter_line, qdisc_line}
use Rattle.q_worked_examples.proofs.SharedRules.{line_rules}

none : Totals
none = record { packets = 0; bytes = 0 }

node : Option ℕ → Place → QdiscView → NodeView
node handle place kind = record {
  handle = handle;
  place = place;
  qdisc = kind;
  row = record { arrived = none; sent = none; refused = none; dropped = none; queued = none; marked = none };
}

in_class : ℕ → ℕ → Place
in_class major minor = place.Class (record { major = major; minor = minor })

fq_codel : FqSettings
fq_codel = record { limit = 10240; flows = 1024; quantum = 1514; target = 5000000; interval = 100000000; ecn = true; drop_batch = 1; mtu = 1514 }

-- a shown line behind `tc OBJECT add dev eth0`, without its own first word and its end
added : List ℕ → List ℕ → List ℕ
added object line = codes "tc " ++ object ++ codes " add dev eth0 " ++ take (length line - length object - 2) (drop (length object + 1) line)

fault_in : List ℕ → Option LineFault
fault_in bytes = elim (line_of bytes) [ Ok line ↦ None | Err fault ↦ Some fault ]

-- a shown line is no command: the kind of a qdisc ends its head, so the handle behind it is unknown
shown_qdiscs_are_no_commands :
    map (λ kind. fault_in (added (codes "qdisc") (qdisc_line (node (Some 1) place.Root kind))))
    (qdisc.Pfifo 1000 ∷ qdisc.Bfifo 1000 ∷ qdisc.Prio 2 (replicate 16 0) ∷ qdisc.Tbf 1000 1514 3000 ∷ qdisc.Drr ∷ qdisc.FqCodel fq_codel ∷ []) ≡
    Some (fault.UnknownWord 7) ∷ Some (fault.UnknownWord 7) ∷ Some (fault.UnknownWord 7) ∷ Some (fault.UnknownWord 7) ∷ Some (fault.UnknownWord 7) ∷ Some (fault.UnknownWord 7) ∷ []
unfolding line_rules digits node added none fq_codel fault_in
shown_qdiscs_are_no_commands = refl

-- no class of a prio or a tbf is added, and the name of a drr's stands before the kind
shown_classes_are_no_commands :
    map (λ kind. fault_in (added (codes "class") (class_line (record { class = record { major = 1; minor = 1 }; kind = kind }))))
    (class.Prio ∷ class.Tbf ∷ class.Drr 1514 None ∷ class.Drr 1514 (Some 0) ∷ []) ≡
    Some (fault.UnknownWord 6) ∷ Some (fault.UnknownWord 6) ∷ Some (fault.UnknownWord 7) ∷ Some (fault.UnknownWord 7) ∷ []
unfolding line_rules digits added fault_in
shown_classes_are_no_commands = refl

no_keys : FilterKeys
no_keys = record { ip_proto = None; src_ip = None; dst_ip = None; src_port = None; dst_port = None }

filtering : ℕ → ℕ → Protocol → FilterKeys → ℕ → FilterView
filtering parent prio protocol keys minor = record { parent = parent; filter = record { prio = prio; protocol = protocol; keys = keys; minor = minor } }

-- a filter's keys stand behind `flower`, which show does not print
shown_filters_are_no_commands :
    map (λ keys. fault_in (added (codes "filter") (filter_line (filtering 1 1 All keys 1))))
    (no_keys ∷ record no_keys { ip_proto = Some 17 } ∷ []) ≡
    Some (fault.UnknownWord 12) ∷ Some (fault.UnknownWord 12) ∷ []
unfolding line_rules digits added no_keys filtering fault_in
shown_filters_are_no_commands = refl

-- as the command that makes it

reads : NodeView → Result Line LineFault
reads n = line_of (qdisc_command (codes "eth0") n)

makes : NodeView → Option (Result Line LineFault)
makes n = elim (kind_shown n.qdisc) [ Some kind ↦ Some (Ok (Tc (command.QdiscAdd n.place n.handle kind))) | None ↦ None ]

bfifos : map (λ n. Some (reads n)) (node (Some 1) place.Root (qdisc.Bfifo 0) ∷ node (Some 0xfffe) (in_class 0xfffe 0xffff) (qdisc.Bfifo (2 ^ 32 - 1)) ∷ []) ≡
    map makes (node (Some 1) place.Root (qdisc.Bfifo 0) ∷ node (Some 0xfffe) (in_class 0xfffe 0xffff) (qdisc.Bfifo (2 ^ 32 - 1)) ∷ [])
unfolding line_rules digits node in_class none reads makes
bfifos = refl

prios : map (λ n. Some (reads n)) (node (Some 1) place.Root (qdisc.Prio 2 (replicate 16 1)) ∷ node (Some 1) (in_class 0x10 0xa) (qdisc.Prio 16 (replicate 15 15 ++ 0 ∷ [])) ∷ []) ≡
    map makes (node (Some 1) place.Root (qdisc.Prio 2 (replicate 16 1)) ∷ node (Some 1) (in_class 0x10 0xa) (qdisc.Prio 16 (replicate 15 15 ++ 0 ∷ [])) ∷ [])
unfolding line_rules digits node in_class none reads makes
prios = refl

tbfs : map (λ n. Some (reads n)) (node (Some 1) place.Root (qdisc.Tbf 1 1 0) ∷ node (Some 1) place.Root (qdisc.Tbf (10 ^ 12) (2 ^ 32 - 1) (2 ^ 32 - 1)) ∷ []) ≡
    map makes (node (Some 1) place.Root (qdisc.Tbf 1 1 0) ∷ node (Some 1) place.Root (qdisc.Tbf (10 ^ 12) (2 ^ 32 - 1) (2 ^ 32 - 1)) ∷ [])
unfolding line_rules digits node in_class none reads makes
tbfs = refl

drrs : map (λ n. Some (reads n)) (node (Some 1) place.Root qdisc.Drr ∷ node (Some 0x8001) (in_class 1 0x100) qdisc.Drr ∷ []) ≡
    map makes (node (Some 1) place.Root qdisc.Drr ∷ node (Some 0x8001) (in_class 1 0x100) qdisc.Drr ∷ [])
unfolding line_rules digits node in_class none reads makes
drrs = refl

-- a limit in packets is no number; an implicit leaf has no handle that could be given; a tbf's shown limit, which a latency
-- made, can be above that of a command
not_read :
    map (λ n. reads n)
    (node (Some 1) place.Root (qdisc.Pfifo 1000) ∷ node (Some 1) place.Root (qdisc.FqCodel fq_codel) ∷ node None (in_class 1 1) (qdisc.Bfifo 1000)
    ∷ node (Some 1) place.Root (qdisc.Tbf 1 1 (2 ^ 32)) ∷ []) ≡
    Err (fault.BadNumber 11) ∷ Err (fault.BadNumber 11) ∷ Err (fault.OutOfRange 9) ∷ Err (fault.OutOfRange 15) ∷ []
unfolding line_rules digits node in_class none fq_codel reads
not_read = refl

classes : map (λ (c : ClassId). line_of (class_command (codes "eth0") c 1514)) (record { major = 1; minor = 1 } ∷ record { major = 0xfffe; minor = 0xffff } ∷ []) ≡
    map (λ (c : ClassId). Ok (Tc (command.ClassAdd c.major c (Some 1514)))) (record { major = 1; minor = 1 } ∷ record { major = 0xfffe; minor = 0xffff } ∷ [])
unfolding line_rules digits
classes = refl

least : FilterView
least = filtering 1 1 All (record {
  ip_proto = Some 0;
  src_ip = Some (record { version = V4; address = 0; len = 0 });
  dst_ip = Some (record { version = V4; address = 2 ^ 32 - 1; len = 32 });
  src_port = Some 0;
  dst_port = Some 0;
}) 1

greatest : FilterView
greatest = filtering 0xfffe 65535 Ipv6 (record {
  ip_proto = Some 255;
  src_ip = Some (record { version = V6; address = 0; len = 0 });
  dst_ip = Some (record { version = V6; address = 2 ^ 128 - 1; len = 128 });
  src_port = Some 65535;
  dst_port = Some 65535;
}) 0xffff

-- the bits behind a prefix's length are read back too
one_prefix : FilterView
one_prefix = filtering 1 1 Ip (record no_keys { src_ip = Some (record { version = V4; address = 0x0a010203; len = 8 }) }) 2

filters : map (λ f. line_of (filter_command (codes "eth0") f)) (filtering 1 1 All no_keys 1 ∷ least ∷ greatest ∷ one_prefix ∷ []) ≡
    map (λ f. Ok (Tc (filter_added f))) (filtering 1 1 All no_keys 1 ∷ least ∷ greatest ∷ one_prefix ∷ [])
unfolding line_rules digits filtering no_keys least greatest one_prefix
filters = refl
