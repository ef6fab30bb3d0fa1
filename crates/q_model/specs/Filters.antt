-- Which packets a filter takes, and which of a node's filters decides.
-- tc-flower(8); filters of one node are asked in rising priority, equal ones in the order in which they were added.
use Rattle.std.specs.Prelude.{ℕ, ◌-◌, ◌/◌, ◌^◌, Bool, true, ◌&&◌, ◌==◌, nat_le, if◌then◌else◌, List, [], ◌∷◌, Option, option_map}
use Rattle.std.specs.List.{find}
use Rattle.std.specs.Option.{option_map_or}
use Rattle.q_packet.specs.Key.{Key}
use Rattle.q_packet.specs.Descriptor.{Descriptor}
use Rattle.q_model.specs.declared.ip_version.IpVersion.{IpVersion}
use Rattle.q_model.specs.declared.ip_version.IpVersion.TheVariants.{V4, V6}
use Rattle.q_model.specs.declared.protocol.Protocol.{Protocol}
use Rattle.q_model.specs.declared.protocol.Protocol.TheVariants as protocol
use Rattle.q_model.specs.declared.filter_keys.FilterKeys.{FilterKeys}
use Rattle.q_model.specs.declared.filter.Filter.{Filter}
use Rattle.q_model.specs.Options.{Prefix, bits_of}

-- the family of a flow key
abbrev pub family_of : IpVersion → ℕ
family_of V4 = 4
family_of V6 = 6

-- an address of the same version whose first bits are the prefix's
abbrev pub has_prefix : Prefix → Key → ℕ → Bool
has_prefix p key address =
    let rest = 2 ^ (bits_of p.version - p.len) in key.family == family_of p.version && address / rest == p.address / rest

abbrev pub is_of : Protocol → Key → Bool
is_of protocol.All key = true
is_of protocol.Ip key = key.family == 4
is_of protocol.Ipv6 key = key.family == 6

-- a key that is not given agrees with every packet
abbrev pub agrees : {A : Type 0} → Option A → (A → Bool) → Bool
agrees key test = option_map_or test key true

abbrev pub takes_key : FilterKeys → Key → Bool
takes_key keys key =
    agrees keys.ip_proto (λ n. n == key.proto)
    && agrees keys.src_ip (λ p. has_prefix p key key.src)
    && agrees keys.dst_ip (λ p. has_prefix p key key.dst)
    && agrees keys.src_port (λ n. n == key.sport)
    && agrees keys.dst_port (λ n. n == key.dport)

abbrev pub matches : Descriptor → Filter → Bool
matches p f = is_of f.protocol p.key && takes_key f.keys p.key

-- the class that the first matching filter names
abbrev pub named_class : List Filter → Descriptor → Option ℕ
named_class filters p = option_map (λ (f : Filter). f.minor) (find (matches p) filters)

-- a filter more, behind those of its priority and before those of a higher one
abbrev pub with_filter : Filter → List Filter → List Filter
with_filter f [] = f ∷ []
with_filter f (g ∷ filters) = if nat_le g.prio f.prio then g ∷ with_filter f filters else f ∷ g ∷ filters

-- whether one of them names this class
abbrev pub names_class : ℕ → Filter → Bool
names_class minor f = f.minor == minor
