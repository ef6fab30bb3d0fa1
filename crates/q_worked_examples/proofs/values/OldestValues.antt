-- When the packet arrived that has been queued longest, computed place by place for small trees.
use Rattle.std.proofs.Common.{◌≡◌, ℕ, List, [], ◌∷◌, ◌++◌, refl}
use Rattle.std.specs.Prelude.{Option, Some, None, map}
use Rattle.q_model.specs.declared.event.Event.{Event}
use Rattle.q_model.specs.declared.kind.Kind.TheVariants.{Pfifo, Tbf, Drr, FqCodel}
use Rattle.q_model.specs.declared.place.Place.{Place}
use Rattle.q_model.specs.declared.place.Place.TheVariants.{Top, Root}
use Rattle.q_model.specs.declared.tbf_limit.TbfLimit.TheVariants.{Bytes}
use Rattle.q_model.specs.Oldest.{oldest_at}
use Rattle.q_model.specs.Tally.{Counts, totals}
use Rattle.q_model.specs.TreeState.{TreeState, peek_packet}
use Rattle.q_worked_examples.proofs.scripts.Script.{run, in_class, packet, hashed, with_prio, from_port, arrives, polls, prio, add_root, add_in, add_class, filter_port, no_options}
use Rattle.q_worked_examples.proofs.SharedRules.{shared_rules}

tree : List Event → TreeState Counts
tree events = (run events).device.tree

in_places : List Place → TreeState Counts → List (Option ℕ)
in_places places s = map (λ p. oldest_at p s) places

-- the first that came to a pfifo; once it was sent, the second
two : List Event
two = add_root (Some 1) (Pfifo None) ∷ arrives 3 (packet 1 100) ∷ arrives 5 (packet 2 100) ∷ []

first_of_two : in_places (Top ∷ Root ∷ []) (tree two) ≡ Some 3 ∷ Some 3 ∷ []
unfolding tree in_places two shared_rules
first_of_two = refl

second_of_two : in_places (Root ∷ []) (tree (two ++ polls 9 1)) ≡ Some 5 ∷ []
unfolding tree in_places two shared_rules
second_of_two = refl

none_of_two : in_places (Top ∷ Root ∷ []) (tree (two ++ polls 9 2)) ≡ None ∷ None ∷ []
unfolding tree in_places two shared_rules
none_of_two = refl

-- in a prio the packet of a band that waits for a better one
bands : List Event
bands = add_root (Some 1) (prio 3 (0 ∷ 2 ∷ [])) ∷ arrives 3 (with_prio 1 1 100) ∷ arrives 5 (with_prio 0 2 100) ∷ []

band_by_band : in_places (Root ∷ in_class 1 1 ∷ in_class 1 2 ∷ in_class 1 3 ∷ []) (tree bands) ≡ Some 3 ∷ Some 5 ∷ None ∷ Some 3 ∷ []
unfolding tree in_places bands shared_rules
band_by_band = refl

-- the packet that a drr has dequeued and holds is queued there since it arrived, and not since it was asked for
held : List Event
held = add_root (Some 1) Drr ∷ add_class 1 1 None ∷ filter_port 1 7 1 1 ∷ arrives 4 (from_port 1 1 600) ∷ arrives 6 (from_port 1 2 600) ∷ []

before_it_is_held : in_places (Top ∷ Root ∷ in_class 1 1 ∷ []) (tree held) ≡ Some 4 ∷ Some 4 ∷ Some 4 ∷ []
unfolding tree in_places held shared_rules
before_it_is_held = refl

while_it_is_held : in_places (Top ∷ Root ∷ in_class 1 1 ∷ []) (peek_packet totals 9 (tree held)) ≡ Some 4 ∷ Some 4 ∷ Some 6 ∷ []
unfolding tree in_places held shared_rules
while_it_is_held = refl

-- one that a tbf's child holds, until the bucket has filled
shaped : List Event
shaped = add_root (Some 1) (Tbf 8000 1514 (Bytes 9000)) ∷ add_in 1 1 (Some 2) Drr ∷ add_class 2 1 None ∷ filter_port 2 1 7 1
    ∷ arrives 0 (from_port 7 1 1514) ∷ arrives 2 (from_port 7 2 1514) ∷ polls 8 2

held_below : in_places (Root ∷ in_class 1 1 ∷ in_class 2 1 ∷ []) (tree shaped) ≡ Some 2 ∷ Some 2 ∷ None ∷ []
unfolding tree in_places shaped shared_rules
held_below = refl

-- in an fq_codel that of the flow that has waited longest, whichever sends next
flows : List Event
flows = add_root (Some 1) (FqCodel no_options) ∷ arrives 3 (hashed 1 1 100) ∷ arrives 5 (hashed 2 2 100) ∷ arrives 6 (hashed 1 3 100) ∷ []

oldest_of_flows : in_places (Root ∷ []) (tree flows) ≡ Some 3 ∷ []
unfolding tree in_places flows shared_rules
oldest_of_flows = refl

-- and no class where none is
no_class : in_places (in_class 1 1 ∷ in_class 9 1 ∷ []) (tree two) ≡ None ∷ None ∷ []
unfolding tree in_places two shared_rules
no_class = refl
