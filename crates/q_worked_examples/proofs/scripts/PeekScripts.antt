-- What a peek leaves of a tree, and what the calls show of it one by one: a node, a class of it, a filter of it.
use Rattle.std.proofs.Common.{◌≡◌, ℕ, ◌*◌, List, [], ◌∷◌, refl}
use Rattle.std.specs.Prelude.{Option, Some, None, map}
use Rattle.q_model.specs.declared.class_kind.ClassKind.TheVariants as kind
use Rattle.q_model.specs.declared.filter_view.FilterView.{FilterView}
use Rattle.q_model.specs.declared.kind.Kind.TheVariants.{Drr, FqCodel}
use Rattle.q_model.specs.declared.place.Place.TheVariants.{Top, Root}
use Rattle.q_model.specs.declared.qdisc_view.QdiscView.TheVariants as qdisc
use Rattle.q_model.specs.declared.row.Row.{Row}
use Rattle.q_model.specs.Tally.{Counts, no_totals, totals}
use Rattle.q_model.specs.TreeState.{TreeState, given, peek_packet, take_packet, stats}
use Rattle.q_model.specs.Views.{node, class_of, filter_of}
use Rattle.q_worked_examples.proofs.scripts.Script.{run, class, in_class, from_port, packet, arrives, polls, add_root, add_class, filter_port, no_options, pb}
use Rattle.q_worked_examples.proofs.SharedRules.{shared_rules}

-- a drr with a packet in its one class
tree : TreeState Counts
tree = (run (add_root (Some 1) Drr ∷ add_class 1 1 (Some 1000) ∷ filter_port 1 7 1 1 ∷ arrives 0 (from_port 1 1 600) ∷ [])).device.tree

rows_of : TreeState Counts → List (Option Row)
rows_of s = map (λ p. stats totals p s) (Top ∷ Root ∷ in_class 1 1 ∷ [])

with_sent_and_queued : ℕ → ℕ → Option Row
with_sent_and_queued sent queued = Some (record { arrived = pb 1 600; sent = pb sent (600 * sent); refused = no_totals; dropped = no_totals; queued = pb queued (600 * queued); marked = no_totals })

-- the drr dequeues the packet that it shows and holds it: it has left the class, and waits at the drr
peek_holds : rows_of (peek_packet totals 0 tree) ≡ with_sent_and_queued 0 1 ∷ with_sent_and_queued 0 1 ∷ with_sent_and_queued 1 0 ∷ []
unfolding tree rows_of with_sent_and_queued shared_rules
peek_holds = refl

-- a second peek shows the same packet and changes nothing
second_peek : peek_packet totals 5 (peek_packet totals 0 tree) ≡ peek_packet totals 0 tree
unfolding tree shared_rules
second_peek = refl

shown_twice : given 5 (peek_packet totals 0 tree) ≡ given 0 tree
unfolding tree shared_rules
shown_twice = refl

-- a take after it gives the packet, once
take_after_peek : rows_of (take_packet totals 5 (peek_packet totals 0 tree)) ≡ with_sent_and_queued 1 0 ∷ with_sent_and_queued 1 0 ∷ with_sent_and_queued 1 0 ∷ []
unfolding tree rows_of with_sent_and_queued shared_rules
take_after_peek = refl

-- four packets beneath CoDel, of which one was sent and the next is late
standing : TreeState Counts
standing = (run (
    add_root (Some 1) (FqCodel (record no_options { flows = Some 1; target = Some 0; interval = Some 1000 })) ∷
    arrives 0 (packet 1 1000) ∷ arrives 0 (packet 2 1000) ∷ arrives 0 (packet 3 1000) ∷ arrives 0 (packet 4 1000) ∷
    polls 10 1)).device.tree

one_dropped : Option Row
one_dropped = Some (record { arrived = pb 4 4000; sent = pb 1 1000; refused = no_totals; dropped = pb 1 1000; queued = pb 2 2000; marked = no_totals })

-- what a peek drops is noted by the device too, and nothing is sent by it
peek_drops : map (λ p. stats totals p (peek_packet totals 1010 standing)) (Top ∷ Root ∷ []) ≡ one_dropped ∷ one_dropped ∷ []
unfolding standing one_dropped shared_rules
peek_drops = refl

-- node by node, class by class, filter by filter; none past the last
nodes_shown : map (λ i. node totals i tree) (0 ∷ 1 ∷ 2 ∷ []) ≡
    Some (record {
      handle = Some 1;
      place = Root;
      qdisc = qdisc.Drr;
      row = record
          { arrived = pb 1 600; sent = no_totals; refused = no_totals; dropped = no_totals; queued = pb 1 600; marked = no_totals };
    })
    ∷ Some (record {
      handle = None;
      place = in_class 1 1;
      qdisc = qdisc.Pfifo 1000;
      row = record
          { arrived = pb 1 600; sent = no_totals; refused = no_totals; dropped = no_totals; queued = pb 1 600; marked = no_totals };
    })
    ∷ None ∷ []
unfolding tree shared_rules
nodes_shown = refl

classes_shown : map (λ j. class_of 0 j tree) (0 ∷ 1 ∷ []) ≡ Some (record { class = class 1 1; kind = kind.Drr 1000 (Some 1000) }) ∷ None ∷ []
unfolding tree shared_rules
classes_shown = refl

classes_of_a_leaf : class_of 1 0 tree ≡ None
unfolding tree shared_rules
classes_of_a_leaf = refl

prio_of : Option FilterView → ℕ
prio_of None = 0
prio_of (Some f) = f.filter.prio

filters_shown : map (λ j. prio_of (filter_of 0 j tree)) (0 ∷ 1 ∷ []) ≡ 7 ∷ 0 ∷ []
unfolding tree prio_of shared_rules
filters_shown = refl
