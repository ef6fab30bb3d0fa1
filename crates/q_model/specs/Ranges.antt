-- The ranges of a command's fields and of a packet's, as their types keep them.
-- Those of its numbers one by one are in specs/Numbers.antt, with their sources.
use Rattle.std.specs.Prelude.{ℕ, ◌≤◌, ◌<◌, ◌^◌, IfSome, IsTrue}
use Rattle.q_packet.specs.Descriptor.{Descriptor}
use Rattle.q_packet.specs.Key.{Key, IsKey, is_family}
use Rattle.q_model.specs.declared.class_id.ClassId.{ClassId}
use Rattle.q_model.specs.declared.command.Command.{Command}
use Rattle.q_model.specs.declared.command.Command.TheVariants.{QdiscAdd, QdiscChange, QdiscDel, ClassAdd, ClassChange, ClassDel, FilterAdd, FilterDel}
use Rattle.q_model.specs.declared.filter.Filter.{Filter}
use Rattle.q_model.specs.declared.kind.Kind.{Kind}
use Rattle.q_model.specs.declared.kind.Kind.TheVariants as kind
use Rattle.q_model.specs.declared.place.Place.{Place}
use Rattle.q_model.specs.declared.place.Place.TheVariants as place
use Rattle.q_model.specs.declared.tbf_limit.TbfLimit.{TbfLimit}
use Rattle.q_model.specs.declared.tbf_limit.TbfLimit.TheVariants as limit
use Rattle.q_model.specs.Options.{IsPrio, IsFqCodelOptions, IsPrefix}
use Rattle.q_model.specs.Numbers.{IsWithin, most_u32, IsHandle, IsMinor, IsQuantum, IsRate, IsBurst, IsLatency, IsFilterPrio}

pub record IsClassId (c : ClassId) : Type 0 where
  pub major : IsHandle c.major
  pub minor : IsMinor c.minor

abbrev pub IsPlace : Place → Type 0
IsPlace place.Top = Unit {0}
IsPlace place.Root = Unit {0}
IsPlace (place.Class class) = IsClassId class

abbrev pub IsTbfLimit : TbfLimit → Type 0
IsTbfLimit (limit.Bytes n) = n ≤ most_u32
IsTbfLimit (limit.Latency ns) = IsLatency ns

pub record IsTbf (rate burst : ℕ) (limit : TbfLimit) : Type 0 where
  pub bits : IsRate rate
  pub bytes : IsBurst burst
  pub most : IsTbfLimit limit

abbrev pub IsKind : Kind → Type 0
IsKind (kind.Pfifo limit) = IfSome limit (IsWithin 0 most_u32)
IsKind (kind.Bfifo limit) = IfSome limit (IsWithin 0 most_u32)
IsKind (kind.Prio settings) = IsPrio settings
IsKind (kind.Tbf rate burst limit) = IsTbf rate burst limit
IsKind kind.Drr = Unit {0}
IsKind (kind.FqCodel options) = IsFqCodelOptions options

pub record IsFilter (f : Filter) : Type 0 where
  pub prio : IsFilterPrio f.prio
  pub ip_proto : IfSome f.keys.ip_proto (IsWithin 0 0xff)
  pub src_ip : IfSome f.keys.src_ip IsPrefix
  pub dst_ip : IfSome f.keys.dst_ip IsPrefix
  pub src_port : IfSome f.keys.src_port (IsWithin 0 0xffff)
  pub dst_port : IfSome f.keys.dst_port (IsWithin 0 0xffff)
  pub minor : IsMinor f.minor

abbrev pub IsCommand : Command → Type 0
IsCommand (QdiscAdd place handle kind) = IsPlace place × IfSome handle IsHandle × IsKind kind
IsCommand (QdiscChange place handle kind) = IfSome place IsPlace × IfSome handle IsHandle × IsKind kind
IsCommand (QdiscDel place handle) = IfSome place IsPlace × IfSome handle IsHandle
IsCommand (ClassAdd parent class quantum) = IsHandle parent × IsClassId class × IfSome quantum IsQuantum
IsCommand (ClassChange parent class quantum) = IfSome parent IsHandle × IsClassId class × IfSome quantum IsQuantum
IsCommand (ClassDel parent class) = IfSome parent IsHandle × IsClassId class
IsCommand (FilterAdd parent major filter) = IsHandle parent × IsHandle major × IsFilter filter
IsCommand (FilterDel parent prio) = IsHandle parent × IsFilterPrio prio

pub record IsPacket (p : Descriptor) : Type 0 where
  pub port : p.port ≤ most_u32
  pub number : p.number < 2 ^ 64
  pub buf : p.buf ≤ most_u32
  pub len : IsWithin 1 65535 p.len
  pub key : IsKey p.key
  pub hash : p.hash ≤ most_u32
  pub prio : p.prio ≤ 15

-- The fields of a key, each in the range of its type: an address may have 128 bits in every family, also in IPv4.
pub record HasKeyFields (k : Key) : Type 0 where
  pub family : IsTrue (is_family k.family)
  pub proto : k.proto < 2 ^ 8
  pub src : k.src < 2 ^ 128
  pub dst : k.dst < 2 ^ 128
  pub sport : k.sport < 2 ^ 16
  pub dport : k.dport < 2 ^ 16

-- The fields of a packet, each in the range of its type. The laws over events ask no more; `IsPacket` is a part of this.
pub record HasPacketFields (p : Descriptor) : Type 0 where
  pub port : p.port ≤ most_u32
  pub number : p.number < 2 ^ 64
  pub buf : p.buf ≤ most_u32
  pub len : IsWithin 1 65535 p.len
  pub key : HasKeyFields p.key
  pub hash : p.hash ≤ most_u32
  pub prio : p.prio ≤ 15
