-- Worked scripts of tbf and prio: tokens to the nanosecond, a packet that is too long, bands, and a change of bands.
use Rattle.std.proofs.Common.{◌≡◌, ℕ, List, [], ◌∷◌, ◌++◌, refl}
use Rattle.std.specs.Prelude.{Some, None, replicate}
use Rattle.q_packet.specs.declared.cause.Cause.TheVariants.{TooLong, Purged}
use Rattle.q_model.specs.declared.command.Command.TheVariants.{QdiscChange}
use Rattle.q_model.specs.declared.kind.Kind.{Kind}
use Rattle.q_model.specs.declared.kind.Kind.TheVariants.{Tbf}
use Rattle.q_model.specs.declared.tbf_limit.TbfLimit.TheVariants.{Bytes}
use Rattle.q_model.specs.declared.place.Place.TheVariants.{Top, Root}
use Rattle.q_model.specs.Tally.{no_totals}
use Rattle.q_model.specs.declared.event.Event.{Event}
use Rattle.q_model.specs.declared.refusal.Refusal.TheVariants.{SmallBurst}
use Rattle.q_worked_examples.proofs.scripts.Script.{run, seen, packet, with_prio, arrives, polls, tc, add_root, add_in, ok, not_done, kept, lost, sent, idle, later, loss, pb, in_class, prio}

-- 8000 bits a second are a byte in 1000000 ns: the second packet of 1000 bytes goes at 500000000 ns, and not before
tokens : List Event
tokens =
    add_root None (Tbf 8000 1500 (Bytes 3000)) ∷ arrives 0 (packet 1 1000) ∷ arrives 0 (packet 2 1000)
    ∷ polls 0 2 ++ polls 499999999 1 ++ polls 500000000 1

tokens_runs : seen [] (run tokens) ≡ record {
  replies = ok ∷ kept ∷ kept ∷ sent (packet 1 1000) ∷ later ∷ later ∷ sent (packet 2 1000) ∷ [];
  losses = [];
  rows = [];
}
unfolding tokens
tokens_runs = refl

-- a moment before the latest counts at that one: 8 gbit a second are a byte in a nanosecond
back : List Event
back =
    add_root None (Tbf 8000000000 1000 (Bytes 5000)) ∷ arrives 0 (packet 1 1000) ∷ arrives 0 (packet 2 1000)
    ∷ polls 0 1 ++ polls 999 1 ++ polls 5 1 ++ polls 1000 1

back_runs : seen [] (run back) ≡ record {
  replies = ok ∷ kept ∷ kept ∷ sent (packet 1 1000) ∷ later ∷ later ∷ sent (packet 2 1000) ∷ [];
  losses = [];
  rows = [];
}
unfolding back
back_runs = refl

-- longer than the burst, or than the mtu; and a change to a burst below both the present one and the mtu
abbrev new_tbf : ℕ → Kind
new_tbf burst = Tbf 8000 burst (Bytes 5000)

bursts : List Event
bursts =
    add_root (Some 1) (new_tbf 1000) ∷ arrives 0 (packet 1 1001) ∷ arrives 0 (packet 2 2000)
    ∷ tc (QdiscChange (Some Root) None (new_tbf 900)) ∷ tc (QdiscChange (Some Root) None (new_tbf 2000)) ∷ []

bursts_runs : seen (Root ∷ (in_class 1 1) ∷ Top ∷ []) (run bursts) ≡ record {
  replies = ok ∷ lost TooLong ∷ lost TooLong ∷ not_done SmallBurst ∷ ok ∷ [];
  losses = loss (packet 1 1001) TooLong ∷ loss (packet 2 2000) TooLong ∷ [];
  rows =
      Some (record { arrived = pb 1 1001; sent = no_totals; refused = pb 1 1001; dropped = no_totals; queued = no_totals; marked = no_totals })
      ∷ Some (record { arrived = no_totals; sent = no_totals; refused = no_totals; dropped = no_totals; queued = no_totals; marked = no_totals })
      ∷ Some (record { arrived = pb 2 3001; sent = no_totals; refused = pb 2 3001; dropped = no_totals; queued = no_totals; marked = no_totals })
      ∷ [];
}
unfolding bursts
bursts_runs = refl

-- the default priomap of tc-prio(8)
abbrev priomap : List ℕ
priomap = 1 ∷ 2 ∷ 2 ∷ 2 ∷ 1 ∷ 2 ∷ 0 ∷ 0 ∷ 1 ∷ 1 ∷ 1 ∷ 1 ∷ 1 ∷ 1 ∷ 1 ∷ 1 ∷ []

-- a first band whose tbf waits for tokens is passed over; what it holds still waits
bands : List Event
bands =
    add_root (Some 1) (prio 3 priomap) ∷ add_in 1 1 (Some 0x10) (Tbf 8000 1000 (Bytes 5000))
    ∷ arrives 0 (with_prio 6 1 1000) ∷ arrives 0 (with_prio 6 2 1000) ∷ arrives 0 (with_prio 0 3 500) ∷ polls 0 3

bands_runs : seen (Root ∷ []) (run bands) ≡ record {
  replies = ok ∷ ok ∷ kept ∷ kept ∷ kept ∷ sent (with_prio 6 1 1000) ∷ sent (with_prio 0 3 500) ∷ later ∷ [];
  losses = [];
  rows = Some (record { arrived = pb 3 2500; sent = pb 2 1500; refused = no_totals; dropped = no_totals; queued = pb 1 1000; marked = no_totals }) ∷ [];
}
unfolding bands
bands_runs = refl

-- four bands become two: what waits in the two highest is lost, the third band before the fourth; the others keep theirs
fewer : List Event
fewer =
    add_root (Some 1) (prio 4 (0 ∷ 1 ∷ 2 ∷ 3 ∷ replicate 12 0))
    ∷ arrives 0 (with_prio 3 1 100) ∷ arrives 0 (with_prio 2 2 200) ∷ arrives 0 (with_prio 2 3 300) ∷ arrives 0 (with_prio 1 4 400)
    ∷ tc (QdiscChange (Some Root) None (prio 2 (replicate 16 1))) ∷ polls 0 2

fewer_runs : seen (Root ∷ []) (run fewer) ≡ record {
  replies = ok ∷ kept ∷ kept ∷ kept ∷ kept ∷ ok ∷ sent (with_prio 1 4 400) ∷ idle ∷ [];
  losses = loss (with_prio 2 2 200) Purged ∷ loss (with_prio 2 3 300) Purged ∷ loss (with_prio 3 1 100) Purged ∷ [];
  rows = Some (record { arrived = pb 4 1000; sent = pb 1 400; refused = no_totals; dropped = pb 3 600; queued = no_totals; marked = no_totals }) ∷ [];
}
unfolding fewer
fewer_runs = refl
