-- A new qdisc of each kind, and each implicit leaf, is lawful and has no packet.
use Rattle.std.proofs.Common.{◌≡◌, ℕ, zero, suc, ◌*◌, ◌<◌, ◌≤◌, ◌^◌, true, List, [], ◌∷◌, ◌++◌, length, replicate, refl, sym, ap, ap₂, subst, Option, Some, None, arith}
use Rattle.std.specs.Prelude.{IfSome, is_some, unwrap_or}
use Rattle.std.specs.List.{All}
use Rattle.std.proofs.lemmas.Bool.{false≢true}
use Rattle.std.proofs.lemmas.List.Elements.{All-nil, All-cons, All-replicate}
use Rattle.q_packet.specs.Descriptor.{Descriptor}
use Rattle.q_packet.specs.declared.stamped.Stamped.{Stamped}
use Rattle.q_codel.specs.declared.limit.Limit.{Limit}
use Rattle.q_codel.specs.declared.limit.Limit.TheVariants.{Packets, Bytes}
use Rattle.q_fqcodel.specs.FqState.{FqSettings, Flow, first_flow, first_state, all_packets}
use Rattle.q_fqcodel.specs.Ranges as settings
use Rattle.q_fqcodel.proofs.LawfulLemmas.{lawful_first}
use Rattle.q_bucket.specs.Level.{full}
use Rattle.q_drr.specs.Schedule.{Class, no_classes}
use Rattle.q_drr.proofs.ChangeLemmas.{empty_lawful}
use Rattle.q_model.specs.declared.filter.Filter.{Filter}
use Rattle.q_model.specs.declared.kind.Kind.{Kind}
use Rattle.q_model.specs.declared.kind.Kind.TheVariants as kind
use Rattle.q_model.specs.Numbers.{IsWithin, IsMinor}
use Rattle.q_model.specs.Options.{FqOptions, IsFqCodelOptions}
use Rattle.q_model.specs.Ranges.{IsKind}
use Rattle.q_model.specs.Node.{Discipline, Fifo, Prio, Tbf, Drr, FqCodel, Shape, each, side_by_side}
use Rattle.q_model.specs.Beneath.{packets_in, packets_of, beneath_own}
use Rattle.q_model.specs.Find.{class_in}
use Rattle.q_model.specs.Make.{Device, node_of, implicit_pfifo, implicit_bfifo, implicit_beneath, limit_bytes, default_settings, with_options, made}
use Rattle.q_model.specs.Lawful.{IsLawfulDiscipline, IsLawfulOwn, IsLawfulFlow}
use Rattle.q_invariants.specs.Kept.{AllLawful}
use Rattle.q_invariants.proofs.edit.EditHandles.{times_below}
use Rattle.q_invariants.proofs.edit.EditNew.{IsNew, AllIdle, idle_beneath}
use Rattle.q_invariants.proofs.tree.Stamps.{stamped-nil}

module _ (mtu clock : ℕ) where
  -- a node without filters that holds nothing
  own_made : (handle : Option ℕ) (d : Discipline) (below : List (List Descriptor)) → beneath_own (record { handle = handle; discipline = d; held = None; since = 0; filters = [] }) below ≡ []
      → IsLawfulDiscipline mtu clock below d → IsLawfulOwn mtu clock (record { handle = handle; discipline = d; held = None; since = 0; filters = [] }) below
  own_made handle d below empty h = record {
    discipline = h;
    lengths = subst (All (λ (p : Descriptor). IsWithin 1 mtu p.len)) (sym empty) (All-nil (λ (p : Descriptor). IsWithin 1 mtu p.len));
    held = λ e. absurd (false≢true e);
    filters = omega arith;
    in_order = λ i j d lt within. absurd (omega arith);
    named = All-nil (λ (f : Filter). is_some (class_in (length below) f.minor d) ≡ true);
  }

  -- a node of it above such nodes without handles
  new_node : (handle : Option ℕ) (d : Discipline) (below : List Shape) → packets_in d ≡ [] → AllIdle (side_by_side below) → AllLawful mtu clock (side_by_side below)
      → ((h : ℕ) → times_below h (side_by_side below) ≡ 0) → IsLawfulDiscipline mtu clock (each beneath_own (side_by_side below)) d → IsNew mtu clock handle (node_of handle d below)
  new_node handle d below packets idle lawful handles h = record {
    idle = (refl, packets);
    idle_below = idle;
    lawful = (
      own_made handle d (each beneath_own (side_by_side below))
          (ap₂ (λ (a : List Descriptor) (b : List Descriptor). a ++ b) packets (idle_beneath (side_by_side below) idle)) h,
      lawful,
    );
    handles = λ k. omega (arith, handles k);
  }

  pub new_leaf : (handle : Option ℕ) (limit : Limit) → IsNew mtu clock handle (node_of handle (Fifo limit []) [])
  new_leaf handle limit = new_node handle (Fifo limit []) [] refl tt tt (λ h. refl) (record { stamps = stamped-nil clock; none = refl })

  -- leaves side by side
  module _ (leaf : Shape) (new : IsNew mtu clock None leaf) where
    pub leaves_idle : (k : ℕ) → AllIdle (side_by_side (replicate k leaf))
    leaves_idle zero = tt
    leaves_idle (suc k) = (new.idle, new.idle_below, leaves_idle k)

    pub leaves_lawful : (k : ℕ) → AllLawful mtu clock (side_by_side (replicate k leaf))
    leaves_lawful zero = tt
    leaves_lawful (suc k) = (new.lawful.0, new.lawful.1, leaves_lawful k)

    pub leaves_handles : (h k : ℕ) → times_below h (side_by_side (replicate k leaf)) ≡ 0
    leaves_handles h zero = refl
    leaves_handles h (suc k) = omega (arith, new.handles h, leaves_handles h k)

    pub leaves_length : (k : ℕ) → length (each beneath_own (side_by_side (replicate k leaf))) ≡ k
    leaves_length zero = refl
    leaves_length (suc k) = ap suc (leaves_length k)

  pub new_implicit : (d : Device) (discipline : Discipline) → IsNew mtu clock None (implicit_beneath d discipline)
  new_implicit d (Fifo limit queue) = new_leaf None (Packets d.txqueuelen)
  new_implicit d (Prio priomap) = new_leaf None (Packets d.txqueuelen)
  new_implicit d (Tbf b limit) = new_leaf None (Bytes limit)
  new_implicit d (Drr s) = new_leaf None (Packets d.txqueuelen)
  new_implicit d (FqCodel s) = new_leaf None (Packets d.txqueuelen)

-- ---- settings of an fq_codel

pub or_within : (least most : ℕ) (o : Option ℕ) (k : ℕ) → IfSome o (IsWithin least most) → IsWithin least most k → IsWithin least most (unwrap_or o k)
or_within least most None k h e = e
or_within least most (Some n) k h e = h

pub options_in_range : (o : FqOptions) (s : FqSettings) → IsFqCodelOptions o → settings.IsInRange s → settings.IsInRange (with_options o s)
options_in_range o s h r =
    let limit = or_within 1 settings.most o.limit s.limit h.limit (r.limit_low, r.limit_high) in
    let flows = or_within 1 settings.most_flows o.flows s.flows h.flows (r.flows_low, r.flows_high) in
    let quantum = or_within 1 settings.most o.quantum s.quantum h.quantum (r.quantum_low, r.quantum_high) in
    let target = or_within 0 settings.longest o.target s.target h.target (omega arith, r.target_high) in
    let interval = or_within settings.shortest_interval settings.longest o.interval s.interval h.interval (r.interval_low, r.interval_high) in
    let batch = or_within 1 settings.most_batch o.drop_batch s.drop_batch h.drop_batch (r.batch_low, r.batch_high) in
    record {
      limit_low = limit.0;
      limit_high = limit.1;
      flows_low = flows.0;
      flows_high = flows.1;
      quantum_low = quantum.0;
      quantum_high = quantum.1;
      target_high = target.1;
      interval_low = interval.0;
      interval_high = interval.1;
      batch_low = batch.0;
      batch_high = batch.1;
      mtu_low = r.mtu_low;
    }

no_packets : (f : Flow) (k : ℕ) → f.queue ≡ [] → all_packets (replicate k f) ≡ []
unfolding all_packets
no_packets f zero e = refl
no_packets f (suc k) e = ap₂ (λ (a : List Stamped) (b : List Stamped). a ++ b) e (no_packets f k e)

pub first_is_lawful : (mtu clock : ℕ) (s : FqSettings) → settings.IsInRange s → s.mtu ≡ mtu → mtu < 2 ^ 16 → IsLawfulDiscipline mtu clock [] (FqCodel (first_state s))
first_is_lawful mtu clock s r same small = record {
  settings = r;
  longest = same;
  lists = lawful_first s;
  flows = All-replicate (IsLawfulFlow clock s) s.flows (first_flow s) (record {
    settings = record { target = r.target_high; interval_low = r.interval_low; interval_high = r.interval_high; mtu = omega (arith, same, small) };
    state = record { first_above_time = omega arith; drop_next = omega arith; count = omega arith; lastcount = omega arith };
    agrees = record { target = refl; interval = refl; ecn = refl; mtu = refl };
    stamps = stamped-nil clock;
  });
  none = refl;
}

-- ---- each kind

pub new_made : (d : Device) (now : ℕ) (handle : Option ℕ) (k : Kind) → 1 ≤ d.mtu → d.mtu < 2 ^ 16 → IsKind k → IsNew d.mtu now handle (made d now handle k)
new_made d now handle (kind.Pfifo limit) positive small r = new_leaf d.mtu now handle (Packets (unwrap_or limit d.txqueuelen))
new_made d now handle (kind.Bfifo limit) positive small r = new_leaf d.mtu now handle (Bytes (unwrap_or limit (d.txqueuelen * d.mtu)))
new_made d now handle (kind.Prio s) positive small r =
    let leaf : Shape = implicit_pfifo d in
    let new : IsNew d.mtu now None leaf = new_leaf d.mtu now None (Packets d.txqueuelen) in
    let bands : length (each beneath_own (side_by_side (replicate s.bands leaf))) ≡ s.bands = leaves_length d.mtu now leaf new s.bands in
    new_node d.mtu now handle (Prio s.priomap) (replicate s.bands leaf) refl (leaves_idle d.mtu now leaf new s.bands) (leaves_lawful d.mtu now leaf new s.bands)
    (λ h. leaves_handles d.mtu now leaf new h s.bands) (record {
      least = omega (arith, bands, r.few.0);
      most = omega (arith, bands, r.few.1);
      each = r.each;
      bands = subst (λ n. All (λ band. band < n) s.priomap) (sym bands) r.there;
    })
new_made d now handle (kind.Tbf rate burst limit) positive small r =
    let bytes : ℕ = limit_bytes rate burst limit in
    let new : IsNew d.mtu now None (implicit_bfifo bytes) = new_leaf d.mtu now None (Bytes bytes) in
    new_node d.mtu now handle (Tbf (full rate burst now) bytes) (implicit_bfifo bytes ∷ []) refl (leaves_idle d.mtu now (implicit_bfifo bytes) new 1)
    (leaves_lawful d.mtu now (implicit_bfifo bytes) new 1) (λ h. leaves_handles d.mtu now (implicit_bfifo bytes) new h 1) (record {
      level = record { rate_from = r.bits.0; rate_to = r.bits.1; burst_from = r.bytes.0; burst_to = r.bytes.1; within_burst = omega arith };
      last = omega arith;
      one = refl;
      short =
          All-cons (λ packets. All (λ (p : Descriptor). p.len ≤ burst) packets) [] [] (All-nil (λ (p : Descriptor). p.len ≤ burst))
          (All-nil (λ packets. All (λ (p : Descriptor). p.len ≤ burst) packets));
    })
new_made d now handle kind.Drr positive small r =
    new_node d.mtu now handle (Drr (no_classes d.mtu)) [] refl tt tt (λ h. refl)
    (record { schedule = empty_lawful d.mtu; longest = refl; minors = All-nil (λ (c : Class). IsMinor c.name); exact = tt })
new_made d now handle (kind.FqCodel options) positive small r =
    let s : FqSettings = with_options options (default_settings d) in
    let default : settings.IsInRange (default_settings d) = record {
      limit_low = omega arith;
      limit_high = omega arith;
      flows_low = omega arith;
      flows_high = omega arith;
      quantum_low = omega arith;
      quantum_high = omega arith;
      target_high = omega arith;
      interval_low = omega arith;
      interval_high = omega arith;
      batch_low = omega arith;
      batch_high = omega arith;
      mtu_low = positive;
    } in
    new_node d.mtu now handle (FqCodel (first_state s)) [] (ap packets_of (no_packets (first_flow s) s.flows refl)) tt tt (λ h. refl)
    (first_is_lawful d.mtu now s (options_in_range options (default_settings d) r default) refl small)
