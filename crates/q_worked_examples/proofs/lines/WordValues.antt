-- Words of the language, and the values that they are read as: every unit, the ends of every range, forms before ranges.
-- The rules are those of docs/LANGUAGE.md; ranges are those of docs/DISCIPLINES.md.
use Rattle.std.proofs.Common.{◌≡◌, ◌-◌, ◌^◌, [], ◌∷◌, map, refl}
use Rattle.std.specs.Prelude.{codes, Ok, Err}
use Rattle.q_model.specs.declared.ip_version.IpVersion.TheVariants.{V4, V6}
use Rattle.q_model.specs.declared.protocol.Protocol.TheVariants.{All, Ip, Ipv6}
use Rattle.q_words.specs.Values.{handle_of}
use Rattle.q_words.specs.declared.wrong.Wrong.TheVariants.{UnknownWord, BadNumber, OutOfRange}
use Rattle.q_words.specs.Units.{rate_in, size_in, time_in}
use Rattle.q_words.specs.Addresses.{class_of, address_of, prefix_of, protocol_number, protocol_of, frame_of}
use Rattle.q_worked_examples.proofs.SharedRules.{value_rules}

-- rates, in bits a second: every unit, both ends of the range, and what is rounded down
rates :
    map (rate_in)
    (codes "1" ∷
    codes "1bit" ∷
    codes "1kbit" ∷
    codes "1Mbit" ∷
    codes "1gbit" ∷
    codes "1TBIT" ∷
    codes "1bps" ∷
    codes "1kbps" ∷
    codes "1.5mbps" ∷
    codes "1gbps" ∷
    codes "0.125tbps" ∷
    codes "1000000000000" ∷
    codes "1000000000001" ∷
    codes "1tbps" ∷
    codes "0" ∷
    codes "0.9bit" ∷
    codes "1.5" ∷
    codes "1.999999999kbit" ∷
    codes "1.1234567890kbit" ∷
    codes "1." ∷
    codes ".5" ∷
    codes "1.2.3" ∷
    codes "1mib" ∷
    codes "kbit" ∷
    codes "1kbits" ∷ []) ≡
    (Ok 1 ∷
    Ok 1 ∷
    Ok 1000 ∷
    Ok 1000000 ∷
    Ok 1000000000 ∷
    Ok 1000000000000 ∷
    Ok 8 ∷
    Ok 8000 ∷
    Ok 12000000 ∷
    Ok 8000000000 ∷
    Ok 1000000000000 ∷
    Ok 1000000000000 ∷
    Err OutOfRange ∷
    Err OutOfRange ∷
    Err OutOfRange ∷
    Err OutOfRange ∷
    Ok 1 ∷
    Ok 1999 ∷
    Err BadNumber ∷
    Err BadNumber ∷
    Err BadNumber ∷
    Err BadNumber ∷
    Err BadNumber ∷
    Err BadNumber ∷
    Err BadNumber ∷ [])
unfolding value_rules
rates = refl

-- sizes, in bytes
sizes :
    map (size_in 0 (2 ^ 32 - 1))
    (codes "1" ∷
    codes "1b" ∷
    codes "1k" ∷
    codes "1kb" ∷
    codes "1m" ∷
    codes "1MB" ∷
    codes "1g" ∷
    codes "1gb" ∷
    codes "1kbit" ∷
    codes "1mbit" ∷
    codes "1gbit" ∷
    codes "2.5" ∷
    codes "1.5k" ∷
    codes "0.9b" ∷
    codes "4294967295" ∷
    codes "4294967296" ∷
    codes "4g" ∷
    codes "3.999999999g" ∷
    codes "1tb" ∷
    codes "1bit" ∷
    codes "-1" ∷ []) ≡
    (Ok 1 ∷
    Ok 1 ∷
    Ok 1024 ∷
    Ok 1024 ∷
    Ok 1048576 ∷
    Ok 1048576 ∷
    Ok 1073741824 ∷
    Ok 1073741824 ∷
    Ok 128 ∷
    Ok 131072 ∷
    Ok 134217728 ∷
    Ok 2 ∷
    Ok 1536 ∷
    Ok 0 ∷
    Ok 4294967295 ∷
    Err OutOfRange ∷
    Err OutOfRange ∷
    Ok 4294967294 ∷
    Err BadNumber ∷
    Err BadNumber ∷
    Err BadNumber ∷ [])
unfolding value_rules
sizes = refl

-- times, in nanoseconds; without a unit they are in microseconds
times :
    map (time_in 0 (10 ^ 12))
    (codes "1" ∷
    codes "0.5" ∷
    codes "1us" ∷
    codes "1usec" ∷
    codes "1usecs" ∷
    codes "1ms" ∷
    codes "1msec" ∷
    codes "1MSECS" ∷
    codes "1s" ∷
    codes "1sec" ∷
    codes "1secs" ∷
    codes "0.0005us" ∷
    codes "0.999us" ∷
    codes "1000s" ∷
    codes "1000.000000001s" ∷
    codes "1ns" ∷
    codes "1m" ∷ []) ≡
    (Ok 1000 ∷
    Ok 500 ∷
    Ok 1000 ∷
    Ok 1000 ∷
    Ok 1000 ∷
    Ok 1000000 ∷
    Ok 1000000 ∷
    Ok 1000000 ∷
    Ok 1000000000 ∷
    Ok 1000000000 ∷
    Ok 1000000000 ∷
    Ok 0 ∷
    Ok 999 ∷
    Ok 1000000000000 ∷
    Err OutOfRange ∷
    Err BadNumber ∷
    Err BadNumber ∷ [])
unfolding value_rules
times = refl

-- an interval is at least a microsecond
intervals :
    map (time_in 1000 (10 ^ 12))
    (codes "0.999us" ∷
    codes "1us" ∷
    codes "1000s" ∷ []) ≡
    (Err OutOfRange ∷
    Ok 1000 ∷
    Ok 1000000000000 ∷ [])
unfolding value_rules
intervals = refl

-- handles, by their major number
handles :
    map (handle_of)
    (codes "1" ∷
    codes "1:" ∷
    codes "1:0" ∷
    codes "fffe:" ∷
    codes "FFFE" ∷
    codes "0fe:0" ∷
    codes "ffff:" ∷
    codes "0" ∷
    codes "10000:" ∷
    codes "00001" ∷
    codes "1:1" ∷
    codes "1:00" ∷
    codes "g" ∷
    codes ":" ∷
    codes ":0" ∷
    codes "1:g" ∷
    codes "12345:g" ∷ []) ≡
    (Ok 1 ∷
    Ok 1 ∷
    Ok 1 ∷
    Ok 65534 ∷
    Ok 65534 ∷
    Ok 254 ∷
    Err OutOfRange ∷
    Err OutOfRange ∷
    Err OutOfRange ∷
    Err OutOfRange ∷
    Err OutOfRange ∷
    Err OutOfRange ∷
    Err BadNumber ∷
    Err BadNumber ∷
    Err BadNumber ∷
    Err BadNumber ∷
    Err BadNumber ∷ [])
unfolding value_rules
handles = refl

-- class ids
classes :
    map (class_of)
    (codes "1:1" ∷
    codes "fffe:ffff" ∷
    codes "A:b" ∷
    codes "0001:0001" ∷
    codes "ffff:1" ∷
    codes "0:1" ∷
    codes "1:0" ∷
    codes "1:10000" ∷
    codes "1:00001" ∷
    codes "00001:1" ∷
    codes "1:" ∷
    codes ":1" ∷
    codes "1" ∷
    codes "1:g" ∷
    codes "12345:g" ∷
    codes "0:1:1" ∷ []) ≡
    (Ok (record { major = 1; minor = 1 }) ∷
    Ok (record { major = 65534; minor = 65535 }) ∷
    Ok (record { major = 10; minor = 11 }) ∷
    Ok (record { major = 1; minor = 1 }) ∷
    Err OutOfRange ∷
    Err OutOfRange ∷
    Err OutOfRange ∷
    Err OutOfRange ∷
    Err OutOfRange ∷
    Err OutOfRange ∷
    Err BadNumber ∷
    Err BadNumber ∷
    Err BadNumber ∷
    Err BadNumber ∷
    Err BadNumber ∷
    Err BadNumber ∷ [])
unfolding value_rules
classes = refl

-- addresses of both versions
addresses :
    map (address_of)
    (codes "10.0.0.1" ∷
    codes "010.0.0.001" ∷
    codes "1.2.3.4" ∷
    codes "255.255.255.255" ∷
    codes "1.2.3.256" ∷
    codes "1.2.3.00256" ∷
    codes "0001.2.3.256" ∷
    codes "1.2.3.0004" ∷
    codes "1.2.3" ∷
    codes "1.2.3.4.5" ∷
    codes "1.2.3." ∷
    codes "1.2.3.x" ∷
    codes "::" ∷
    codes "::1" ∷
    codes "1::" ∷
    codes "fe80::1:2" ∷
    codes "FE80::A" ∷
    codes "1:2:3:4:5:6:7::" ∷
    codes "::2:3:4:5:6:7:8" ∷
    codes "1:2:3:4:5:6:7:8" ∷
    codes "1:2:3::ffff" ∷
    codes "1:2:3:4:5:6:7:8::" ∷
    codes "1:2:3" ∷
    codes ":::" ∷
    codes "1::2::3" ∷
    codes "12345::" ∷
    codes "::g" ∷
    codes "::1.2.3.4" ∷
    codes "1:" ∷
    codes ":1" ∷ []) ≡
    (Ok (record { version = V4; address = 167772161 }) ∷
    Ok (record { version = V4; address = 167772161 }) ∷
    Ok (record { version = V4; address = 16909060 }) ∷
    Ok (record { version = V4; address = 4294967295 }) ∷
    Err OutOfRange ∷
    Err OutOfRange ∷
    Err OutOfRange ∷
    Err BadNumber ∷
    Err BadNumber ∷
    Err BadNumber ∷
    Err BadNumber ∷
    Err BadNumber ∷
    Ok (record { version = V6; address = 0 }) ∷
    Ok (record { version = V6; address = 1 }) ∷
    Ok (record { version = V6; address = 5192296858534827628530496329220096 }) ∷
    Ok (record { version = V6; address = 338288524927261089654018896841347760130 }) ∷
    Ok (record { version = V6; address = 338288524927261089654018896841347694602 }) ∷
    Ok (record { version = V6; address = 5192455318486707404433266433261568 }) ∷
    Ok (record { version = V6; address = 158459951879775902770104041480 }) ∷
    Ok (record { version = V6; address = 5192455318486707404433266433261576 }) ∷
    Ok (record { version = V6; address = 5192455318486633616049570941304831 }) ∷
    Err BadNumber ∷
    Err BadNumber ∷
    Err BadNumber ∷
    Err BadNumber ∷
    Err BadNumber ∷
    Err BadNumber ∷
    Err BadNumber ∷
    Err BadNumber ∷
    Err BadNumber ∷ [])
unfolding value_rules
addresses = refl

-- prefixes: of what is wrong, the form of either part comes first
prefixes :
    map (prefix_of)
    (codes "10.0.0.0/8" ∷
    codes "10.0.0.1/8" ∷
    codes "10.0.0.1" ∷
    codes "10.0.0.1/0" ∷
    codes "10.0.0.1/32" ∷
    codes "10.0.0.1/008" ∷
    codes "::/0" ∷
    codes "::1/128" ∷
    codes "::1" ∷
    codes "10.0.0.1/33" ∷
    codes "::/129" ∷
    codes "1.2.3.256/8" ∷
    codes "10.0.0.1/" ∷
    codes "10.0.0.1/x" ∷
    codes "1.2.3.256/x" ∷
    codes "1.2.3/33" ∷
    codes "1.2.3.4/8/8" ∷ []) ≡
    (Ok (record { version = V4; address = 167772160; len = 8 }) ∷
    Ok (record { version = V4; address = 167772161; len = 8 }) ∷
    Ok (record { version = V4; address = 167772161; len = 32 }) ∷
    Ok (record { version = V4; address = 167772161; len = 0 }) ∷
    Ok (record { version = V4; address = 167772161; len = 32 }) ∷
    Ok (record { version = V4; address = 167772161; len = 8 }) ∷
    Ok (record { version = V6; address = 0; len = 0 }) ∷
    Ok (record { version = V6; address = 1; len = 128 }) ∷
    Ok (record { version = V6; address = 1; len = 128 }) ∷
    Err OutOfRange ∷
    Err OutOfRange ∷
    Err OutOfRange ∷
    Err BadNumber ∷
    Err BadNumber ∷
    Err BadNumber ∷
    Err BadNumber ∷
    Err BadNumber ∷ [])
unfolding value_rules
prefixes = refl

-- protocols above IP: a name or a hexadecimal number
ip_protos :
    map (protocol_number)
    (codes "tcp" ∷
    codes "udp" ∷
    codes "sctp" ∷
    codes "icmp" ∷
    codes "icmpv6" ∷
    codes "0" ∷
    codes "ff" ∷
    codes "FF" ∷
    codes "0011" ∷
    codes "100" ∷
    codes "foo" ∷
    codes "UDP" ∷
    codes "ip" ∷ []) ≡
    (Ok 6 ∷
    Ok 17 ∷
    Ok 132 ∷
    Ok 1 ∷
    Ok 58 ∷
    Ok 0 ∷
    Ok 255 ∷
    Ok 255 ∷
    Ok 17 ∷
    Err OutOfRange ∷
    Err BadNumber ∷
    Err BadNumber ∷
    Err BadNumber ∷ [])
unfolding value_rules
ip_protos = refl

-- protocols of a filter
protocols :
    map (protocol_of)
    (codes "ip" ∷
    codes "ipv6" ∷
    codes "all" ∷
    codes "IP" ∷
    codes "foo" ∷ []) ≡
    (Ok Ip ∷
    Ok Ipv6 ∷
    Ok All ∷
    Err UnknownWord ∷
    Err UnknownWord ∷ [])
unfolding value_rules
protocols = refl

-- the bytes of a frame
frames :
    map (frame_of)
    (codes "45" ∷
    codes "aBc0" ∷
    codes "4" ∷
    codes "4g" ∷
    codes "0x45" ∷ []) ≡
    (Ok (69 ∷ []) ∷
    Ok (171 ∷ 192 ∷ []) ∷
    Err BadNumber ∷
    Err BadNumber ∷
    Err BadNumber ∷ [])
unfolding value_rules
frames = refl
