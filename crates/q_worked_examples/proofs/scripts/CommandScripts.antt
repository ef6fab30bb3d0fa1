-- Worked scripts of commands: purges, refusals, and the deepest tree.
use Rattle.std.proofs.Common.{◌≡◌, ◌+◌, List, [], ◌∷◌, ◌++◌, refl}
use Rattle.std.specs.Prelude.{ℕ, Bool, true, false, Some, None, map, replicate, is_some}
use Rattle.q_packet.specs.declared.cause.Cause.TheVariants.{Purged, CoDel, TooLong}
use Rattle.q_model.specs.declared.command.Command.TheVariants.{QdiscAdd, QdiscChange, QdiscDel, ClassAdd, FilterDel}
use Rattle.q_model.specs.declared.kind.Kind.{Kind}
use Rattle.q_model.specs.declared.kind.Kind.TheVariants.{Pfifo, Tbf, Drr, FqCodel}
use Rattle.q_model.specs.declared.tbf_limit.TbfLimit.TheVariants.{Bytes}
use Rattle.q_model.specs.declared.place.Place.TheVariants.{Top, Root}
use Rattle.q_model.specs.Options.{FqOptions}
use Rattle.q_model.specs.Tally.{no_totals, totals}
use Rattle.q_model.specs.TreeState.{stats}
use Rattle.q_model.specs.declared.event.Event.{Event}
use Rattle.q_model.specs.declared.refusal.Refusal.TheVariants.{NoParent, Exists, NoQdisc, HandleTaken, NoClass, CannotChange, TooDeep, NoFilter}
use Rattle.q_worked_examples.proofs.scripts.Script.{run, seen, class, packet, arrives, polls, tc, add_root, add_in, add_class, add_filter, no_keys, no_options, ok, not_done, kept, lost, sent, idle, later, loss, pb, in_class, prio}
use Rattle.q_worked_examples.proofs.SharedRules.{shared_rules}

-- a drr with one class, an fq_codel in it, and a filter that takes every packet
abbrev drr_over_fq_codel : FqOptions → List Event
drr_over_fq_codel options =
    add_root (Some 1) Drr ∷ add_class 1 1 None ∷ add_in 1 1 (Some 0x10) (FqCodel options) ∷ add_filter 1 1 no_keys 1 ∷ []

-- what a removed qdisc holds is lost at every node above, and its class leaves the active list
purge : List Event
purge =
    drr_over_fq_codel (record no_options { flows = Some 4 })
    ++ arrives 0 (packet 1 100) ∷ arrives 0 (packet 2 200) ∷ arrives 0 (packet 3 300)
    ∷ tc (QdiscDel (Some (in_class 1 1)) None) ∷ polls 0 1

purge_runs : seen (Root ∷ (in_class 1 1) ∷ []) (run purge) ≡ record {
  replies = ok ∷ ok ∷ ok ∷ ok ∷ kept ∷ kept ∷ kept ∷ ok ∷ idle ∷ [];
  losses = loss (packet 1 100) Purged ∷ loss (packet 2 200) Purged ∷ loss (packet 3 300) Purged ∷ [];
  rows =
      Some (record { arrived = pb 3 600; sent = no_totals; refused = no_totals; dropped = pb 3 600; queued = no_totals; marked = no_totals })
      ∷ Some (record { arrived = no_totals; sent = no_totals; refused = no_totals; dropped = no_totals; queued = no_totals; marked = no_totals })
      ∷ [];
}
unfolding purge shared_rules
purge_runs = refl

-- a drop by CoDel is counted at the fq_codel and at the drr above it (times divided by 10^5)
drop_below : List Event
drop_below =
    drr_over_fq_codel (record no_options { flows = Some 2; target = Some 50; interval = Some 1000 })
    ++ map (λ n. arrives 0 (packet n 1000)) (1 ∷ 2 ∷ 3 ∷ 4 ∷ 5 ∷ 6 ∷ 7 ∷ 8 ∷ 9 ∷ 10 ∷ [])
    ++ polls 100 1 ++ polls 1100 1

drop_below_runs : seen (Root ∷ (in_class 1 1) ∷ []) (run drop_below) ≡ record {
  replies = ok ∷ ok ∷ ok ∷ ok ∷ replicate 10 kept ++ sent (packet 1 1000) ∷ sent (packet 3 1000) ∷ [];
  losses = loss (packet 2 1000) CoDel ∷ [];
  rows =
      Some (record { arrived = pb 10 10000; sent = pb 2 2000; refused = no_totals; dropped = pb 1 1000; queued = pb 7 7000; marked = no_totals })
      ∷ Some (record { arrived = pb 10 10000; sent = pb 2 2000; refused = no_totals; dropped = pb 1 1000; queued = pb 7 7000; marked = no_totals })
      ∷ [];
}
unfolding drop_below shared_rules
drop_below_runs = refl

-- An fq_codel that was asked by a tbf without tokens holds a packet, and shows the same one when it is asked again; as it is
-- removed, that packet is lost before those of its flows.
held : List Event
held =
    add_root (Some 1) (Tbf 8000 1000 (Bytes 5000)) ∷ add_in 1 1 (Some 2) (FqCodel (record no_options { flows = Some 2 }))
    ∷ arrives 0 (packet 1 1000) ∷ arrives 0 (packet 2 900) ∷ arrives 0 (packet 3 800)
    ∷ polls 0 3 ++ tc (QdiscDel None (Some 2)) ∷ polls 0 1

held_runs : seen (Root ∷ in_class 1 1 ∷ []) (run held) ≡ record {
  replies = ok ∷ ok ∷ kept ∷ kept ∷ kept ∷ sent (packet 1 1000) ∷ later ∷ later ∷ ok ∷ idle ∷ [];
  losses = loss (packet 2 900) Purged ∷ loss (packet 3 800) Purged ∷ [];
  rows =
      Some (record { arrived = pb 3 2700; sent = pb 1 1000; refused = no_totals; dropped = pb 2 1700; queued = no_totals; marked = no_totals })
      ∷ Some (record { arrived = no_totals; sent = no_totals; refused = no_totals; dropped = no_totals; queued = no_totals; marked = no_totals })
      ∷ [];
}
unfolding held shared_rules
held_runs = refl

-- the default priomap of tc-prio(8)
abbrev new_prio : Kind
new_prio = prio 3 (1 ∷ 2 ∷ 2 ∷ 2 ∷ 1 ∷ 2 ∷ 0 ∷ 0 ∷ 1 ∷ 1 ∷ 1 ∷ 1 ∷ 1 ∷ 1 ∷ 1 ∷ 1 ∷ [])

-- A removal two levels below a drr: the prio in its class loses what its band holds, and the class, now empty, falls asleep.
deep : List Event
deep =
    add_root (Some 1) Drr ∷ add_class 1 1 None ∷ add_filter 1 1 no_keys 1
    ∷ add_in 1 1 (Some 2) new_prio ∷ add_in 2 2 (Some 3) (Pfifo None)
    ∷ arrives 0 (packet 1 100) ∷ arrives 0 (packet 2 200)
    ∷ tc (QdiscDel None (Some 3)) ∷ arrives 0 (packet 3 300) ∷ polls 0 2

deep_runs : seen (Root ∷ (in_class 1 1) ∷ (in_class 2 2) ∷ []) (run deep) ≡ record {
  replies = ok ∷ ok ∷ ok ∷ ok ∷ ok ∷ kept ∷ kept ∷ ok ∷ kept ∷ sent (packet 3 300) ∷ idle ∷ [];
  losses = loss (packet 1 100) Purged ∷ loss (packet 2 200) Purged ∷ [];
  rows =
      Some (record { arrived = pb 3 600; sent = pb 1 300; refused = no_totals; dropped = pb 2 300; queued = no_totals; marked = no_totals })
      ∷ Some (record { arrived = pb 3 600; sent = pb 1 300; refused = no_totals; dropped = pb 2 300; queued = no_totals; marked = no_totals })
      ∷ Some (record { arrived = pb 1 300; sent = pb 1 300; refused = no_totals; dropped = no_totals; queued = no_totals; marked = no_totals })
      ∷ [];
}
unfolding deep shared_rules
deep_runs = refl

-- the first refusal that holds is answered
refusals : List Event
refusals =
    add_root (Some 1) new_prio
    ∷ add_root (Some 2) (Pfifo None)
    ∷ add_in 5 1 None (Pfifo None)
    ∷ add_in 1 4 None (Pfifo None)
    ∷ add_in 1 1 (Some 1) (Pfifo None)
    ∷ tc (ClassAdd 1 (class 1 9) None)
    ∷ tc (QdiscChange (Some (in_class 1 2)) None (Pfifo (Some 5)))
    ∷ tc (FilterDel 1 3)
    ∷ []

refusals_runs : seen [] (run refusals) ≡ record {
  replies = ok ∷ not_done Exists ∷ not_done NoParent ∷ not_done NoClass ∷ not_done HandleTaken ∷ not_done CannotChange ∷ not_done NoQdisc ∷ not_done NoFilter ∷ [];
  losses = [];
  rows = [];
}
unfolding refusals
refusals_runs = refl

-- seven tbf, one in the other, have their last leaf at depth 8: there a pfifo may stand, but no tbf
abbrev inner : ℕ → Event
inner n = add_in n 1 (Some (n + 1)) (Tbf 1000000 2048 (Bytes 9216))

deepest : List Event
deepest =
    add_root (Some 1) (Tbf 1000000 2048 (Bytes 9216)) ∷ map inner (1 ∷ 2 ∷ 3 ∷ 4 ∷ 5 ∷ 6 ∷ 7 ∷ []) ++ add_in 7 1 (Some 8) (Pfifo None) ∷ []

deepest_runs : seen [] (run deepest) ≡ record {
  replies = ok ∷ ok ∷ ok ∷ ok ∷ ok ∷ ok ∷ ok ∷ not_done TooDeep ∷ ok ∷ [];
  losses = [];
  rows = [];
}
unfolding deepest
deepest_runs = refl

-- the first add removes the implicit root, and what waits there
implicit_root : List Event
implicit_root = arrives 0 (packet 1 100) ∷ add_root None (Pfifo (Some 2)) ∷ polls 0 1 ++ add_root None (Pfifo None) ∷ []

implicit_root_runs : seen [] (run implicit_root) ≡ record {
  replies = kept ∷ ok ∷ idle ∷ not_done Exists ∷ [];
  losses = loss (packet 1 100) Purged ∷ [];
  rows = [];
}
unfolding implicit_root
implicit_root_runs = refl

-- the place of the device itself is taken, and no qdisc stands there
device_named : seen [] (run (
    tc (QdiscAdd Top None (Pfifo None)) ∷ add_root (Some 1) (Pfifo None) ∷ tc (QdiscAdd Top (Some 2) Drr) ∷
    tc (QdiscChange (Some Top) None (Pfifo None)) ∷ tc (QdiscDel (Some Top) None) ∷ tc (QdiscDel (Some Top) (Some 1)) ∷ [])) ≡ record {
      replies = not_done Exists ∷ ok ∷ not_done Exists ∷ not_done NoQdisc ∷ not_done NoQdisc ∷ not_done NoQdisc ∷ [];
      losses = [];
      rows = [];
    }
unfolding shared_rules
device_named = refl

-- the bands of a prio are classes 1 to 3, and none is class 0
is_class : ℕ → Bool
is_class minor = is_some (stats totals (in_class 1 minor) (run (add_root (Some 1) (prio 3 (replicate 16 0)) ∷ [])).device.tree)

classes_of_a_prio : map is_class (0 ∷ 1 ∷ 3 ∷ 4 ∷ []) ≡ false ∷ true ∷ true ∷ false ∷ []
unfolding is_class shared_rules
classes_of_a_prio = refl

-- an arrival is told that its packet is lost exactly where it is longer than the mtu
too_long_told : seen [] (run (arrives 0 (packet 1 1515) ∷ arrives 0 (packet 2 1514) ∷ [])) ≡ record {
  replies = lost TooLong ∷ kept ∷ [];
  losses = loss (packet 1 1515) TooLong ∷ [];
  rows = [];
}
unfolding shared_rules
too_long_told = refl
