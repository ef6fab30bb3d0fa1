-- A test that an event has its fields in their ranges, for the forms of events that the replays have.
use Rattle.std.proofs.Common.{◌≡◌, ℕ, ◌<◌, ◌^◌, Option, Some, None}
use Rattle.std.specs.Prelude.{Bool, true, false, ◌&&◌, ◌==◌, nat_le, nat_lt, IfSome, List, All, length}
use Rattle.std.specs.List.{list_all}
use Rattle.std.specs.Option.{option_map_or}
use Rattle.std.proofs.lemmas.Bool.{and_parts, false≢true, leb-true, ltb-true, eqb-true}
use Rattle.q_packet.specs.Descriptor.{Descriptor}
use Rattle.q_packet.specs.Key.{is_family}
use Rattle.q_fqcodel.specs.Ranges as ranges
use Rattle.q_model.specs.declared.class_id.ClassId.{ClassId}
use Rattle.q_model.specs.declared.command.Command.{Command}
use Rattle.q_model.specs.declared.command.Command.TheVariants.{QdiscAdd, QdiscChange, QdiscDel, ClassAdd, ClassChange, ClassDel, FilterAdd, FilterDel}
use Rattle.q_model.specs.declared.event.Event.{Event}
use Rattle.q_model.specs.declared.event.Event.TheVariants as event
use Rattle.q_model.specs.declared.filter.Filter.{Filter}
use Rattle.q_model.specs.declared.kind.Kind.{Kind}
use Rattle.q_model.specs.declared.kind.Kind.TheVariants as kind
use Rattle.q_model.specs.declared.place.Place.{Place}
use Rattle.q_model.specs.declared.place.Place.TheVariants as place
use Rattle.q_model.specs.declared.tbf_limit.TbfLimit.{TbfLimit}
use Rattle.q_model.specs.declared.tbf_limit.TbfLimit.TheVariants as limit
use Rattle.q_model.specs.Events.{IsEvent}
use Rattle.q_model.specs.Numbers.{IsWithin, most_u32}
use Rattle.q_model.specs.Options.{FqOptions, IsFqCodelOptions, PrioSettings, IsPrio, IsPrefix}
use Rattle.q_model.specs.Ranges.{IsClassId, IsCommand, IsFilter, IsKind, IsPlace, IsTbfLimit, HasPacketFields}
use Rattle.q_law_examples.proofs.ByTest.{all-by}

abbrev within : ℕ → ℕ → ℕ → Bool
within least most n = nat_le least n && nat_le n most

is-within : (least most n : ℕ) → within least most n ≡ true → IsWithin least most n
is-within least most n h =
    let parts = and_parts (nat_le least n) (nat_le n most) h in
    (leb-true least n parts.0, leb-true n most parts.1)

-- a number that may be left out
abbrev within_if : ℕ → ℕ → Option ℕ → Bool
within_if least most o = option_map_or (within least most) o true

is-within-if : (least most : ℕ) (o : Option ℕ) → within_if least most o ≡ true → IfSome o (IsWithin least most)
is-within-if least most None h = tt
is-within-if least most (Some n) h = is-within least most n h

-- ---- packets

abbrev packet_fits : Descriptor → Bool
packet_fits p =
    nat_le p.port most_u32 && (nat_lt p.number (2 ^ 64) && (nat_le p.buf most_u32 && (within 1 65535 p.len && (nat_le p.hash most_u32 && (nat_le p.prio 15
    && (is_family p.key.family && (nat_lt p.key.proto (2 ^ 8) && (nat_lt p.key.src (2 ^ 128) && (nat_lt p.key.dst (2 ^ 128) && (nat_lt p.key.sport (2 ^ 16)
    && nat_lt p.key.dport (2 ^ 16)))))))))))

packet-fits : (p : Descriptor) → packet_fits p ≡ true → HasPacketFields p
packet-fits p h =
    let a = and_parts _ _ h in
    let b = and_parts _ _ a.1 in
    let c = and_parts _ _ b.1 in
    let d = and_parts _ _ c.1 in
    let e = and_parts _ _ d.1 in
    let f = and_parts _ _ e.1 in
    let g = and_parts _ _ f.1 in
    let i = and_parts _ _ g.1 in
    let j = and_parts _ _ i.1 in
    let k = and_parts _ _ j.1 in
    let l = and_parts _ _ k.1 in
    record {
      port = leb-true p.port most_u32 a.0;
      number = ltb-true p.number (2 ^ 64) b.0;
      buf = leb-true p.buf most_u32 c.0;
      len = is-within 1 65535 p.len d.0;
      key = record {
        family = g.0;
        proto = ltb-true p.key.proto (2 ^ 8) i.0;
        src = ltb-true p.key.src (2 ^ 128) j.0;
        dst = ltb-true p.key.dst (2 ^ 128) k.0;
        sport = ltb-true p.key.sport (2 ^ 16) l.0;
        dport = ltb-true p.key.dport (2 ^ 16) l.1;
      };
      hash = leb-true p.hash most_u32 e.0;
      prio = leb-true p.prio 15 f.0;
    }

-- ---- commands

abbrev class_fits : ClassId → Bool
class_fits c = within 1 0xfffe c.major && within 1 0xffff c.minor

class-fits : (c : ClassId) → class_fits c ≡ true → IsClassId c
class-fits c h =
    let parts = and_parts (within 1 0xfffe c.major) (within 1 0xffff c.minor) h in
    record { major = is-within 1 0xfffe c.major parts.0; minor = is-within 1 0xffff c.minor parts.1 }

abbrev place_fits : Place → Bool
place_fits place.Top = true
place_fits place.Root = true
place_fits (place.Class c) = class_fits c

place-fits : (p : Place) → place_fits p ≡ true → IsPlace p
place-fits place.Top h = tt
place-fits place.Root h = tt
place-fits (place.Class c) h = class-fits c h

abbrev limit_fits : TbfLimit → Bool
limit_fits (limit.Bytes n) = nat_le n most_u32
limit_fits (limit.Latency ns) = nat_le ns (10 ^ 12)

limit-fits : (l : TbfLimit) → limit_fits l ≡ true → IsTbfLimit l
limit-fits (limit.Bytes n) h = leb-true n most_u32 h
limit-fits (limit.Latency ns) h = leb-true ns (10 ^ 12) h

abbrev prio_fits : PrioSettings → Bool
prio_fits s = within 2 16 s.bands && (length s.priomap == 16 && list_all (λ band. nat_lt band s.bands) s.priomap)

prio-fits : (s : PrioSettings) → prio_fits s ≡ true → IsPrio s
prio-fits s h =
    let a = and_parts _ _ h in
    let b = and_parts _ _ a.1 in
    record {
      few = is-within 2 16 s.bands a.0;
      each = eqb-true (length s.priomap) 16 b.0;
      there = all-by (λ band. band < s.bands) (λ band. nat_lt band s.bands) (λ band. ltb-true band s.bands) s.priomap b.1;
    }

abbrev flows_fit : FqOptions → Bool
flows_fit o =
    within_if 1 ranges.most o.limit && (within_if 1 ranges.most_flows o.flows && (within_if 1 ranges.most o.quantum
    && (within_if 0 ranges.longest o.target && (within_if ranges.shortest_interval ranges.longest o.interval && within_if 1 ranges.most_batch o.drop_batch))))

flows-fit : (o : FqOptions) → flows_fit o ≡ true → IsFqCodelOptions o
flows-fit o h =
    let a = and_parts _ _ h in
    let b = and_parts _ _ a.1 in
    let c = and_parts _ _ b.1 in
    let d = and_parts _ _ c.1 in
    let e = and_parts _ _ d.1 in
    record {
      limit = is-within-if 1 ranges.most o.limit a.0;
      flows = is-within-if 1 ranges.most_flows o.flows b.0;
      quantum = is-within-if 1 ranges.most o.quantum c.0;
      target = is-within-if 0 ranges.longest o.target d.0;
      interval = is-within-if ranges.shortest_interval ranges.longest o.interval e.0;
      drop_batch = is-within-if 1 ranges.most_batch o.drop_batch e.1;
    }

abbrev kind_fits : Kind → Bool
kind_fits (kind.Pfifo most) = within_if 0 most_u32 most
kind_fits (kind.Bfifo most) = within_if 0 most_u32 most
kind_fits (kind.Prio s) = prio_fits s
kind_fits (kind.Tbf rate burst most) = within 1 (10 ^ 12) rate && (within 1 most_u32 burst && limit_fits most)
kind_fits kind.Drr = true
kind_fits (kind.FqCodel o) = flows_fit o

kind-fits : (k : Kind) → kind_fits k ≡ true → IsKind k
kind-fits (kind.Pfifo most) h = is-within-if 0 most_u32 most h
kind-fits (kind.Bfifo most) h = is-within-if 0 most_u32 most h
kind-fits (kind.Prio s) h = prio-fits s h
kind-fits (kind.Tbf rate burst most) h =
    let a = and_parts _ _ h in
    let b = and_parts _ _ a.1 in
    record { bits = is-within 1 (10 ^ 12) rate a.0; bytes = is-within 1 most_u32 burst b.0; most = limit-fits most b.1 }
kind-fits kind.Drr h = tt
kind-fits (kind.FqCodel o) h = flows-fit o h

abbrev is_none : {A : Type 0} → Option A → Bool
is_none None = true
is_none (Some x) = false

none-fits : {A : Type 0} (P : A → Type 0) (o : Option A) → is_none o ≡ true → IfSome o P
none-fits P None h = tt
none-fits P (Some x) h = absurd (false≢true h)

-- filters by the source port alone
abbrev filter_fits : Filter → Bool
filter_fits f =
    within 1 0xffff f.prio && (is_none f.keys.ip_proto && (is_none f.keys.src_ip && (is_none f.keys.dst_ip && (within_if 0 0xffff f.keys.src_port
    && (is_none f.keys.dst_port && within 1 0xffff f.minor)))))

filter-fits : (f : Filter) → filter_fits f ≡ true → IsFilter f
filter-fits f h =
    let a = and_parts _ _ h in
    let b = and_parts _ _ a.1 in
    let c = and_parts _ _ b.1 in
    let d = and_parts _ _ c.1 in
    let e = and_parts _ _ d.1 in
    let g = and_parts _ _ e.1 in
    record {
      prio = is-within 1 0xffff f.prio a.0;
      ip_proto = none-fits (IsWithin 0 0xff) f.keys.ip_proto b.0;
      src_ip = none-fits IsPrefix f.keys.src_ip c.0;
      dst_ip = none-fits IsPrefix f.keys.dst_ip d.0;
      src_port = is-within-if 0 0xffff f.keys.src_port e.0;
      dst_port = none-fits (IsWithin 0 0xffff) f.keys.dst_port g.0;
      minor = is-within 1 0xffff f.minor g.1;
    }

abbrev command_fits : Command → Bool
command_fits (QdiscAdd p handle k) = place_fits p && (within_if 1 0xfffe handle && kind_fits k)
command_fits (ClassAdd parent c quantum) = within 1 0xfffe parent && (class_fits c && within_if 1 most_u32 quantum)
command_fits (FilterAdd parent major f) = within 1 0xfffe parent && (within 1 0xfffe major && filter_fits f)
command_fits (QdiscChange p handle k) = false
command_fits (QdiscDel p handle) = false
command_fits (ClassChange parent c quantum) = false
command_fits (ClassDel parent c) = false
command_fits (FilterDel parent prio) = false

command-fits : (c : Command) → command_fits c ≡ true → IsCommand c
command-fits (QdiscAdd p handle k) h =
    let a = and_parts _ _ h in
    let b = and_parts _ _ a.1 in
    (place-fits p a.0, is-within-if 1 0xfffe handle b.0, kind-fits k b.1)
command-fits (ClassAdd parent c quantum) h =
    let a = and_parts _ _ h in
    let b = and_parts _ _ a.1 in
    (is-within 1 0xfffe parent a.0, class-fits c b.0, is-within-if 1 most_u32 quantum b.1)
command-fits (FilterAdd parent major f) h =
    let a = and_parts _ _ h in
    let b = and_parts _ _ a.1 in
    (is-within 1 0xfffe parent a.0, is-within 1 0xfffe major b.0, filter-fits f b.1)
command-fits (QdiscChange p handle k) h = absurd (false≢true h)
command-fits (QdiscDel p handle) h = absurd (false≢true h)
command-fits (ClassChange parent c quantum) h = absurd (false≢true h)
command-fits (ClassDel parent c) h = absurd (false≢true h)
command-fits (FilterDel parent prio) h = absurd (false≢true h)

-- ---- events

abbrev pub event_fits : Event → Bool
event_fits (event.Arrive p moment) = packet_fits p && nat_le moment (2 ^ 62)
event_fits (event.Poll moment) = nat_le moment (2 ^ 62)
event_fits (event.Command c moment) = command_fits c && nat_le moment (2 ^ 62)

pub event-fits : (e : Event) → event_fits e ≡ true → IsEvent e
event-fits (event.Arrive p moment) h =
    let a = and_parts (packet_fits p) (nat_le moment (2 ^ 62)) h in
    (packet-fits p a.0, leb-true moment (2 ^ 62) a.1)
event-fits (event.Poll moment) h = leb-true moment (2 ^ 62) h
event-fits (event.Command c moment) h =
    let a = and_parts (command_fits c) (nat_le moment (2 ^ 62)) h in
    (command-fits c a.0, leb-true moment (2 ^ 62) a.1)

pub events-fit : (events : List Event) → list_all event_fits events ≡ true → All IsEvent events
events-fit events h = all-by IsEvent event_fits event-fits events h
