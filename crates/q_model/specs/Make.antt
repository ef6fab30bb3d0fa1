-- What a new qdisc is, with its defaults and the implicit leaves that it brings.
-- tc-pfifo(8), tc-prio(8), tc-tbf(8), tc-drr(8), tc-fq_codel(8); that each place has an implicit leaf is this project's choice.
use Rattle.std.specs.Prelude.{ℕ, ◌+◌, ◌*◌, ◌/◌, List, [], ◌∷◌, Option, None, replicate, unwrap_or}
use Rattle.q_codel.specs.declared.limit.Limit.TheVariants.{Packets, Bytes}
use Rattle.q_fqcodel.specs.FqState.{FqSettings, first_state, settings_by_default}
use Rattle.q_bucket.specs.Level.{units_in_byte, full}
use Rattle.q_drr.specs.Schedule.{no_classes}
use Rattle.q_model.specs.declared.tbf_limit.TbfLimit.{TbfLimit}
use Rattle.q_model.specs.declared.tbf_limit.TbfLimit.TheVariants as limit
use Rattle.q_model.specs.declared.kind.Kind.{Kind}
use Rattle.q_model.specs.declared.kind.Kind.TheVariants as kind
use Rattle.q_model.specs.Options.{FqOptions}
use Rattle.q_model.specs.Node.{Discipline, Fifo, Prio, Tbf, Drr, FqCodel, Shape, side_by_side}

-- the device's mtu in bytes, and the packets of its queue (ip-link(8), `mtu` and `txqueuelen`)
pub record Device : Type 0 where
  pub mtu : ℕ
  pub txqueuelen : ℕ

abbrev pub node_of : Option ℕ → Discipline → List Shape → Shape
node_of handle discipline below = record {
  own = record { handle = handle; discipline = discipline; held = None; since = 0; filters = [] };
  memory = tt;
  below = side_by_side below;
}

-- implicit leaves: a pfifo of the device's queue length; below a tbf a bfifo of its limit
abbrev pub implicit_pfifo : Device → Shape
implicit_pfifo d = node_of None (Fifo (Packets d.txqueuelen) []) []

abbrev pub implicit_bfifo : ℕ → Shape
implicit_bfifo limit = node_of None (Fifo (Bytes limit) []) []

-- the leaf that is in a class of a node where nothing else is
abbrev pub implicit_beneath : Device → Discipline → Shape
implicit_beneath d (Tbf bucket limit) = implicit_bfifo limit
implicit_beneath d (Prio priomap) = implicit_pfifo d
implicit_beneath d (Drr s) = implicit_pfifo d
implicit_beneath d (Fifo limit queue) = implicit_pfifo d
implicit_beneath d (FqCodel s) = implicit_pfifo d

-- the bytes that a tbf's implicit bfifo holds: as given, or what the rate brings in the latency, and the burst
abbrev pub limit_bytes : ℕ → ℕ → TbfLimit → ℕ
limit_bytes rate burst (limit.Bytes n) = n
limit_bytes rate burst (limit.Latency ns) = rate * ns / units_in_byte + burst

-- the settings of a new fq_codel where no option is given
abbrev pub default_settings : Device → FqSettings
default_settings d = settings_by_default d.mtu

-- the settings with those that are given in place of theirs
abbrev pub with_options : FqOptions → FqSettings → FqSettings
with_options o s = record {
  limit = unwrap_or o.limit s.limit;
  flows = unwrap_or o.flows s.flows;
  quantum = unwrap_or o.quantum s.quantum;
  target = unwrap_or o.target s.target;
  interval = unwrap_or o.interval s.interval;
  ecn = unwrap_or o.ecn s.ecn;
  drop_batch = unwrap_or o.drop_batch s.drop_batch;
  mtu = s.mtu;
}

-- a new qdisc with this handle, made at `now`: a bucket begins full, a drr without classes
abbrev pub made : Device → ℕ → Option ℕ → Kind → Shape
made d now handle (kind.Pfifo limit) = node_of handle (Fifo (Packets (unwrap_or limit d.txqueuelen)) []) []
made d now handle (kind.Bfifo limit) = node_of handle (Fifo (Bytes (unwrap_or limit (d.txqueuelen * d.mtu))) []) []
made d now handle (kind.Prio s) = node_of handle (Prio s.priomap) (replicate s.bands (implicit_pfifo d))
made d now handle (kind.Tbf rate burst limit) =
    let bytes = limit_bytes rate burst limit in node_of handle (Tbf (full rate burst now) bytes) (implicit_bfifo bytes ∷ [])
made d now handle kind.Drr = node_of handle (Drr (no_classes d.mtu)) []
made d now handle (kind.FqCodel options) = node_of handle (FqCodel (first_state (with_options options (default_settings d)))) []
