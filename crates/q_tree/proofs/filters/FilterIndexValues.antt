-- The definitions of the index of filters computed on worked examples.
use Rattle.std.proofs.Common.{◌≡◌, None, Some, refl, ◌+◌}
use Rattle.q_packet.specs.Key.{Key}
use Rattle.q_model.specs.declared.filter.Filter.{Filter}
use Rattle.q_model.specs.declared.ip_version.IpVersion.TheVariants.{V4}
use Rattle.q_model.specs.declared.protocol.Protocol.TheVariants.{Ip}
use Rattle.q_tree.specs.filters.FilterShapes.{folded, parts_of, parts_wanted, shape_of, spread, with_addresses}
use Rattle.q_tree.specs.filters.IndexOfFilters.{home_of}

-- to port 80, and to 10.0.0.1 alone
abbrev web : Filter
web = record { keys = record { src_ip = None; dst_ip = None; src_port = None; dst_port = Some 80; ip_proto = None }; prio = 1; minor = 1; protocol = Ip }

abbrev to_one : Filter
to_one =
    record {
      keys = record {
        src_ip = None;
        dst_ip = Some (record { version = V4; address = 0x0a000001; len = 32 });
        src_port = None;
        dst_port =
            None;
        ip_proto = None;
      };
      prio = 1;
      minor = 2;
      protocol = Ip;
    }

-- a packet of TCP from 10.0.0.2 and port 5000 to both
abbrev to_both : Key
to_both = record { family = 4; proto = 6; src = 0x0a000002; dst = 0x0a000001; sport = 5000; dport = 80 }

pub shape_of_web : shape_of web ≡ record { mask = 0xff00ffff0000; src_rest = 128; dst_rest = 128 }
shape_of_web = refl

pub shape_of_one : shape_of to_one ≡ record { mask = 0xff0000000000; src_rest = 128; dst_rest = 0 }
shape_of_one = refl

pub parts_by_port : parts_of (shape_of web) to_both ≡ parts_wanted web
parts_by_port = refl

pub parts_by_address : parts_of (shape_of to_one) to_both ≡ parts_wanted to_one
parts_by_address = refl

pub home_of_web : home_of 0 (parts_wanted web) ≡ 51
unfolding spread with_addresses folded
home_of_web = refl

pub home_of_one : home_of 1 (parts_wanted to_one) ≡ 256 + 62
unfolding spread with_addresses folded
home_of_one = refl
