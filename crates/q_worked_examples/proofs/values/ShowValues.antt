-- What show prints of one qdisc, class or filter: each kind, each key, the least and the greatest numbers.
-- The texts are those of docs/LANGUAGE.md, "Show texts", in the manner of tc(8).
use Rattle.std.proofs.Common.{◌≡◌, ℕ, ◌-◌, ◌^◌, List, [], ◌∷◌, ◌++◌, Option, Some, None, true, false, refl}
use Rattle.std.specs.Prelude.{codes, replicate}
use Rattle.std.specs.Fmt.{digits}
use Rattle.q_fqcodel.specs.FqState.{FqSettings}
use Rattle.q_model.specs.declared.class_kind.ClassKind.{ClassKind}
use Rattle.q_model.specs.declared.class_kind.ClassKind.TheVariants as class
use Rattle.q_model.specs.declared.filter_keys.FilterKeys.{FilterKeys}
use Rattle.q_model.specs.declared.ip_version.IpVersion.TheVariants.{V4, V6}
use Rattle.q_model.specs.declared.node_view.NodeView.{NodeView}
use Rattle.q_model.specs.declared.place.Place.{Place}
use Rattle.q_model.specs.declared.place.Place.TheVariants as place
use Rattle.q_model.specs.declared.protocol.Protocol.{Protocol}
use Rattle.q_model.specs.declared.protocol.Protocol.TheVariants.{All, Ip, Ipv6}
use Rattle.q_model.specs.declared.qdisc_view.QdiscView.{QdiscView}
use Rattle.q_model.specs.declared.qdisc_view.QdiscView.TheVariants as qdisc
use Rattle.q_model.specs.declared.row.Row.{Row}
use Rattle.q_show.specs.ShowText.{qdisc_text, class_line, filter_line}

-- a counter each with numbers of its own
counted : Row
counted = record {
  arrived = record { packets = 7; bytes = 700 };
  sent = record { packets = 1; bytes = 60 };
  refused = record { packets = 2; bytes = 140 };
  dropped = record { packets = 3; bytes = 400 };
  queued = record { packets = 0; bytes = 0 };
  marked = record { packets = 4; bytes = 2 ^ 64 - 1 };
}

node : Option ℕ → Place → QdiscView → NodeView
node handle place kind = record { handle = handle; place = place; qdisc = kind; row = counted }

-- without counters, at the root, with the handle 1:
shown : QdiscView → List ℕ
shown kind = qdisc_text false (node (Some 1) place.Root kind)

defaults : FqSettings
defaults = record { limit = 10240; flows = 1024; quantum = 1514; target = 5000000; interval = 100000000; ecn = true; drop_batch = 1; mtu = 1514 }

greatest : FqSettings
greatest = record { limit = 2 ^ 32 - 1; flows = 65536; quantum = 2 ^ 32 - 1; target = 10 ^ 12; interval = 10 ^ 12; ecn = false; drop_batch = 65536; mtu = 65535 }

least : FqSettings
least = record { limit = 1; flows = 1; quantum = 1; target = 0; interval = 1000; ecn = true; drop_batch = 1; mtu = 1 }

pfifo : shown (qdisc.Pfifo 1000) ≡ codes "qdisc pfifo 1: root limit 1000p\n"
unfolding shown node digits
pfifo = refl

bfifo : shown (qdisc.Bfifo 0) ≡ codes "qdisc bfifo 1: root limit 0b\n"
unfolding shown node digits
bfifo = refl

greatest_limit : shown (qdisc.Bfifo (2 ^ 64 - 1)) ≡ codes "qdisc bfifo 1: root limit 18446744073709551615b\n"
unfolding shown node digits
greatest_limit = refl

prio : shown (qdisc.Prio 3 (1 ∷ 2 ∷ 2 ∷ 2 ∷ 1 ∷ 2 ∷ 0 ∷ 0 ∷ 1 ∷ 1 ∷ 1 ∷ 1 ∷ 1 ∷ 1 ∷ 1 ∷ 1 ∷ [])) ≡ codes "qdisc prio 1: root bands 3 priomap 1 2 2 2 1 2 0 0 1 1 1 1 1 1 1 1\n"
unfolding shown node digits
prio = refl

sixteen_bands : shown (qdisc.Prio 16 (replicate 15 15 ++ 0 ∷ [])) ≡ codes "qdisc prio 1: root bands 16 priomap 15 15 15 15 15 15 15 15 15 15 15 15 15 15 15 0\n"
unfolding shown node digits
sixteen_bands = refl

tbf : shown (qdisc.Tbf 1000000 1514 3000) ≡ codes "qdisc tbf 1: root rate 1000000bit burst 1514b limit 3000b\n"
unfolding shown node digits
tbf = refl

drr : shown qdisc.Drr ≡ codes "qdisc drr 1: root\n"
unfolding shown node digits
drr = refl

fq_codel : shown (qdisc.FqCodel defaults) ≡ codes "qdisc fq_codel 1: root limit 10240p flows 1024 quantum 1514 target 5000000ns interval 100000000ns ecn drop_batch 1\n"
unfolding shown node defaults digits
fq_codel = refl

least_fq_codel : shown (qdisc.FqCodel least) ≡ codes "qdisc fq_codel 1: root limit 1p flows 1 quantum 1 target 0ns interval 1000ns ecn drop_batch 1\n"
unfolding shown node least digits
least_fq_codel = refl

greatest_fq_codel : shown (qdisc.FqCodel greatest) ≡ codes "qdisc fq_codel 1: root limit 4294967295p flows 65536 quantum 4294967295 target 1000000000000ns interval 1000000000000ns noecn drop_batch 65536\n"
unfolding shown node greatest digits
greatest_fq_codel = refl

-- handles and places: an implicit leaf, and majors of each length
implicit_leaf : qdisc_text false (node None (place.Class (record { major = 1; minor = 1 })) (qdisc.Pfifo 1000)) ≡ codes "qdisc pfifo 0: parent 1:1 limit 1000p\n"
unfolding node digits
implicit_leaf = refl

two_digits : qdisc_text false (node (Some 0x10) (place.Class (record { major = 0xff; minor = 0x100 })) qdisc.Drr) ≡ codes "qdisc drr 10: parent ff:100\n"
unfolding node digits
two_digits = refl

greatest_handle : qdisc_text false (node (Some 0xfffe) (place.Class (record { major = 0xfffe; minor = 0xffff })) qdisc.Drr) ≡ codes "qdisc drr fffe: parent fffe:ffff\n"
unfolding node digits
greatest_handle = refl

-- counters stand on a line of their own, and marks are an fq_codel's alone
counters : qdisc_text true (node (Some 1) place.Root (qdisc.Pfifo 2)) ≡
    codes "qdisc pfifo 1: root limit 2p\n" ++ codes " arrived 7p 700b sent 1p 60b refused 2p 140b dropped 3p 400b queued 0p 0b\n"
unfolding node counted digits
counters = refl

counters_with_marks : qdisc_text true (node (Some 1) place.Root (qdisc.FqCodel least)) ≡
    codes "qdisc fq_codel 1: root limit 1p flows 1 quantum 1 target 0ns interval 1000ns ecn drop_batch 1\n" ++ codes " arrived 7p 700b sent 1p 60b refused 2p 140b dropped 3p 400b queued 0p 0b marked 4p 18446744073709551615b\n"
unfolding node counted least digits
counters_with_marks = refl

-- classes
of_kind : ClassKind → List ℕ
of_kind kind = class_line (record { class = record { major = 0xfffe; minor = 0xa }; kind = kind })

class_of_prio : of_kind class.Prio ≡ codes "class prio fffe:a\n"
unfolding of_kind digits
class_of_prio = refl

class_of_tbf : of_kind class.Tbf ≡ codes "class tbf fffe:a\n"
unfolding of_kind digits
class_of_tbf = refl

asleep : of_kind (class.Drr 1 None) ≡ codes "class drr fffe:a quantum 1 asleep\n"
unfolding of_kind digits
asleep = refl

active : of_kind (class.Drr (2 ^ 32 - 1) (Some 0)) ≡ codes "class drr fffe:a quantum 4294967295 active deficit 0\n"
unfolding of_kind digits
active = refl

greatest_deficit : of_kind (class.Drr 1514 (Some (2 ^ 64 - 1))) ≡ codes "class drr fffe:a quantum 1514 active deficit 18446744073709551615\n"
unfolding of_kind digits
greatest_deficit = refl

-- filters
no_keys : FilterKeys
no_keys = record { ip_proto = None; src_ip = None; dst_ip = None; src_port = None; dst_port = None }

with_keys : ℕ → ℕ → Protocol → FilterKeys → List ℕ
with_keys parent prio protocol keys = filter_line (record { parent = parent; filter = record { prio = prio; protocol = protocol; keys = keys; minor = 2 } })

without_keys : with_keys 1 1 All no_keys ≡ codes "filter parent 1: prio 1 protocol all classid 1:2\n"
unfolding with_keys no_keys digits
without_keys = refl

greatest_prio : with_keys 0xfffe 65535 Ipv6 no_keys ≡ codes "filter parent fffe: prio 65535 protocol ipv6 classid fffe:2\n"
unfolding with_keys no_keys digits
greatest_prio = refl

udp : with_keys 1 1 Ip (record no_keys { ip_proto = Some 17 }) ≡ codes "filter parent 1: prio 1 protocol ip ip_proto 11 classid 1:2\n"
unfolding with_keys no_keys digits
udp = refl

-- the bits behind the length are shown too
source : with_keys 1 1 Ip (record no_keys { src_ip = Some (record { version = V4; address = 0x0a010203; len = 8 }) }) ≡ codes "filter parent 1: prio 1 protocol ip src_ip 10.1.2.3/8 classid 1:2\n"
unfolding with_keys no_keys digits
source = refl

destination : with_keys 1 1 Ipv6 (record no_keys { dst_ip = Some (record { version = V6; address = 0x20010db8000000000000000000000001; len = 64 }) }) ≡ codes "filter parent 1: prio 1 protocol ipv6 dst_ip 2001:db8:0:0:0:0:0:1/64 classid 1:2\n"
unfolding with_keys no_keys digits
destination = refl

ports : with_keys 1 1 All (record no_keys { src_port = Some 0; dst_port = Some 65535 }) ≡ codes "filter parent 1: prio 1 protocol all src_port 0 dst_port 65535 classid 1:2\n"
unfolding with_keys no_keys digits
ports = refl

least_keys : with_keys 1 1 All (record {
  ip_proto = Some 0;
  src_ip = Some (record { version = V4; address = 0; len = 0 });
  dst_ip = Some (record { version = V4; address = 2 ^ 32 - 1; len = 32 });
  src_port = Some 0;
  dst_port = Some 0;
}) ≡ codes "filter parent 1: prio 1 protocol all ip_proto 0 src_ip 0.0.0.0/0 dst_ip 255.255.255.255/32 src_port 0 dst_port 0 classid 1:2\n"
unfolding with_keys digits
least_keys = refl

greatest_keys : with_keys 0xfffe 65535 Ipv6 (record {
  ip_proto = Some 255;
  src_ip = Some (record { version = V6; address = 0; len = 0 });
  dst_ip = Some (record { version = V6; address = 2 ^ 128 - 1; len = 128 });
  src_port = Some 65535;
  dst_port = Some 65535;
}) ≡ codes "filter parent fffe: prio 65535 protocol ipv6 ip_proto ff src_ip 0:0:0:0:0:0:0:0/0 dst_ip ffff:ffff:ffff:ffff:ffff:ffff:ffff:ffff/128 src_port 65535 dst_port 65535 classid fffe:2\n"
unfolding with_keys digits
greatest_keys = refl
