-- From which time on a tree may give its next packet, as long as nothing arrives and no command comes.
-- tc-tbf(8): a packet goes once the level covers its length. Others give at once: tc-pfifo(8), tc-prio(8), tc-drr(8), tc-fq_codel(8).
use Rattle.std.specs.Prelude.{ℕ, ◌+◌, ◌-◌, ◌*◌, ◌^◌, max, min, Bool, true, false, nat_le, nat_lt, ◌==◌, if◌then◌else◌, List, [], ◌∷◌, Option, Some, None, option_map, option_and_then, slice_get}
use Rattle.std.specs.Int.{div_ceil}
use Rattle.std.specs.Option.{option_map_or}
use Rattle.q_packet.specs.Descriptor.{Descriptor}
use Rattle.q_fqcodel.specs.FqState as fq_codel
use Rattle.q_bucket.specs.Level.{TokenBucket, units_in_byte}
use Rattle.q_drr.specs.Schedule.{Entry, Schedule}
use Rattle.q_model.specs.Node.{Discipline, Fifo, Prio, Tbf, Drr, FqCodel, Own, Node, from_below}
use Rattle.q_model.specs.Beneath.{packets_of}
use Rattle.q_model.specs.Route.{class_at}
use Rattle.q_tree.specs.declared.answers.ready_at.Outlook.{Outlook}

-- the later of two times, none where either never comes; whether one comes before the other; the sooner one
abbrev pub later : Option ℕ → Option ℕ → Option ℕ
later a b = option_and_then (λ x. option_map (max x) b) a

abbrev pub is_before : Option ℕ → Option ℕ → Bool
is_before None b = false
is_before (Some x) None = true
is_before (Some x) (Some y) = nat_lt x y

abbrev pub sooner : Option ℕ → Option ℕ → Option ℕ
sooner None b = b
sooner (Some x) None = Some x
sooner (Some x) (Some y) = Some (min x y)

-- no packet; one that is at hand; and packets of which no more is known than that none comes before and none is shorter
abbrev pub no_packet : Outlook
no_packet = record { at = None; least = 0; len = None; until = None }

abbrev pub at_hand : ℕ → ℕ → Outlook
at_hand now len = record { at = Some now; least = len; len = Some len; until = None }

abbrev pub at_best : Option ℕ → ℕ → Outlook
at_best at least = record { at = at; least = least; len = None; until = at }

-- A fifo shows its head. What an fq_codel shows is a packet at once, whose length depends on the time at which CoDel is asked.
abbrev pub of_fifo : ℕ → Option Descriptor → Outlook
of_fifo now head = option_map_or (λ (p : Descriptor). at_hand now p.len) head no_packet

abbrev pub of_flows : ℕ → ℕ → Outlook
of_flows now packets = if packets == 0 then no_packet else at_best (Some now) 0

-- the least time from its last spend on at which a bucket covers this length, up to the latest time
abbrev pub moment_at : ℕ → Option ℕ
moment_at ns = if nat_le ns (2 ^ 62) then Some ns else None

abbrev pub covers_at : TokenBucket → ℕ → Option ℕ
covers_at b len = if nat_lt b.burst len then None else moment_at (b.last + div_ceil (len * units_in_byte - b.level) b.rate)

-- A tbf shows what its child shows once the level covers it: the length that is known, before the child shows another; else at
-- best the least length.
abbrev pub shaped_after : TokenBucket → Outlook → Option ℕ → Outlook
shaped_after b o from = at_best (later from (covers_at b o.least)) o.least

abbrev pub shaped_known : TokenBucket → Outlook → Option ℕ → Outlook
shaped_known b o at = if is_before at o.until then record o { at = at } else shaped_after b o o.until

abbrev pub shaped : TokenBucket → Outlook → Outlook
shaped b o = option_map_or (λ len. shaped_known b o (later o.at (covers_at b len))) o.len (shaped_after b o o.at)

-- A prio shows a band's packet until one of the bands before it has one.
abbrev pub joined : Outlook → Outlook → ℕ → ℕ → Outlook
joined first next x y =
    let least = min first.least next.least in
    if nat_lt y x then record next { least = least; until = sooner (Some x) next.until } else record first { least = least }

abbrev pub with_next : Outlook → Outlook → ℕ → Option ℕ → Outlook
with_next first next x None = first
with_next first next x (Some y) = joined first next x y

abbrev pub after_first : Outlook → Outlook → Option ℕ → Outlook
after_first first next None = next
after_first first next (Some x) = with_next first next x next.at

abbrev pub with_band : Outlook → Outlook → Outlook
with_band first next = after_first first next first.at

abbrev pub with_bands : Outlook → List Outlook → Outlook
with_bands first [] = first
with_bands first (o ∷ others) = with_bands (with_band first o) others

-- A drr shows nothing before the class in front does, and that one's packet where its deficit covers it; else that of another.
abbrev pub if_paid : ℕ → Outlook → ℕ → Outlook
if_paid deficit o len = if nat_le len deficit then record o { least = 0 } else at_best o.at 0

abbrev pub paid : ℕ → Outlook → Outlook
paid deficit o = option_map_or (if_paid deficit o) o.len (at_best o.at 0)

abbrev pub of_class : Schedule → List Outlook → Option Entry → Outlook
of_class s below None = no_packet
of_class s below (Some e) = option_map_or (paid e.deficit) (option_and_then (slice_get below) (class_at e.class s)) no_packet

abbrev pub outlook_in : ℕ → List Outlook → Discipline → Outlook
outlook_in now below (Fifo limit queue) = of_fifo now (slice_get (packets_of queue) 0)
outlook_in now below (Prio priomap) = with_bands no_packet below
outlook_in now below (Tbf bucket limit) = option_map_or (shaped bucket) (slice_get below 0) no_packet
outlook_in now below (Drr s) = of_class s below (slice_get s.active 0)
outlook_in now below (FqCodel s) = of_flows now (fq_codel.packets_of s.flows)

-- a node that holds a packet shows that one
abbrev pub outlook_own : ℕ → Own → List Outlook → Outlook
outlook_own now own below = option_map_or (λ (p : Descriptor). at_hand now p.len) own.held (outlook_in now below own.discipline)

abbrev pub outlook : {M : Type 0} → ℕ → Node M → Outlook
outlook now n = from_below (outlook_own now) n

-- Before this time no take gives a packet; no take ever does where there is none.
abbrev pub ready_at : {M : Type 0} → ℕ → Node M → Option ℕ
ready_at now n = (outlook now n).at

-- Whether a take at that time gives one for sure: a tbf's child has at hand what it shows then, and a drr's front class pays.
abbrev pub is_sure : {M : Type 0} → ℕ → Node M → Bool
is_sure now n = let o = outlook now n in is_before o.at o.until
