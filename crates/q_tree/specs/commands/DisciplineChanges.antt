-- What a command makes of a discipline and of its children, and what is lost with the children that go
-- (tc-prio(8), tc-tbf(8), tc-drr(8), tc-fq_codel(8)). An edit that is not for this discipline changes nothing.
use Rattle.std.specs.Prelude.{◌≡◌, ℕ, ◌<◌, ◌^◌, Bool, true, false, not, nat_lt, List, [], ◌∷◌, ◌++◌, map, take, drop, length, Option, None, Some, is_some, option_and_then, option_map, slice_get, All, if◌then◌else◌}
use Rattle.std.specs.List.{remove}
use Rattle.std.specs.Option.{option_map_or}
use Rattle.q_codel.specs.declared.limit.Limit.{Limit}
use Rattle.q_bucket.specs.Level.{TokenBucket}
use Rattle.q_drr.specs.Schedule as schedule
use Rattle.q_drr.specs.Schedule.{Schedule, added, has_class, place_of, with_quantum}
use Rattle.q_fqcodel.specs.FqState.{FqSettings, after_change}
use Rattle.q_packet.specs.Descriptor.{Descriptor}
use Rattle.q_model.specs.Beneath.{beneath, totals_in}
use Rattle.q_model.specs.Make.{with_options}
use Rattle.q_model.specs.Node as spec
use Rattle.q_model.specs.Node.{Node}
use Rattle.q_model.specs.Options.{FqOptions}
use Rattle.q_model.specs.QdiscCommands.{relimited}
use Rattle.q_model.specs.Tally.{no_counts}
use Rattle.q_tree.specs.arrival.PutSteps.{packets_beneath}
use Rattle.q_tree.specs.Kept.{Kept}
use Rattle.q_tree.specs.Seen.{children_seen, discipline_seen, places_seen}
use Rattle.q_tree.specs.declared.node.Discipline.{Discipline}
use Rattle.q_tree.specs.declared.commands.discipline_change.DisciplineChange.{DisciplineChange}
use Rattle.q_tree.specs.declared.commands.discipline_change.DisciplineChange.TheVariants.{Nothing, SetLimit, SetBands, SetBucket, SetOptions, AddClass, SetQuantum, RemoveClass}

-- ---- a drr

-- another schedule
abbrev pub rescheduled : (Schedule → Schedule) → spec.Discipline → spec.Discipline
rescheduled f (spec.Drr s) = spec.Drr (f s)
rescheduled f (spec.Fifo limit queue) = spec.Fifo limit queue
rescheduled f (spec.Prio priomap) = spec.Prio priomap
rescheduled f (spec.Tbf bucket limit) = spec.Tbf bucket limit
rescheduled f (spec.FqCodel s) = spec.FqCodel s

-- another quantum for a class that is there, where one is given
abbrev pub requantum : ℕ → Option ℕ → Schedule → Schedule
requantum class None s = s
requantum class (Some quantum) s = if has_class class s.classes then with_quantum class quantum s else s

-- whether a class of this number can be added
abbrev pub can_join : ℕ → spec.Discipline → Bool
can_join class (spec.Drr s) = not (has_class class s.classes)
can_join class (spec.Fifo limit queue) = false
can_join class (spec.Prio priomap) = false
can_join class (spec.Tbf bucket limit) = false
can_join class (spec.FqCodel s) = false

-- the place of a class, and the child in it
abbrev pub place_in : ℕ → spec.Discipline → Option ℕ
place_in class (spec.Drr s) = place_of class s.classes
place_in class (spec.Fifo limit queue) = None
place_in class (spec.Prio priomap) = None
place_in class (spec.Tbf bucket limit) = None
place_in class (spec.FqCodel s) = None

abbrev pub class_child : ℕ → spec.Discipline → List (Node Kept) → Option (ℕ × Node Kept)
class_child class d children = option_and_then (λ i. option_map {U = ℕ × Node Kept} (λ (c : Node Kept). (i, c)) (slice_get children i)) (place_in class d)

-- ---- the others

abbrev pub limited : Limit → spec.Discipline → spec.Discipline
limited new (spec.Fifo limit queue) = spec.Fifo new queue
limited new (spec.Prio priomap) = spec.Prio priomap
limited new (spec.Tbf bucket limit) = spec.Tbf bucket limit
limited new (spec.Drr s) = spec.Drr s
limited new (spec.FqCodel s) = spec.FqCodel s

abbrev pub remapped : List ℕ → spec.Discipline → spec.Discipline
remapped new (spec.Prio priomap) = spec.Prio new
remapped new (spec.Fifo limit queue) = spec.Fifo limit queue
remapped new (spec.Tbf bucket limit) = spec.Tbf bucket limit
remapped new (spec.Drr s) = spec.Drr s
remapped new (spec.FqCodel s) = spec.FqCodel s

-- the bands with the new ones, of which those in front stay and the others go
abbrev pub bands_staying : ℕ → List (Node Kept) → spec.Discipline → List (Node Kept) → List (Node Kept)
bands_staying bands new (spec.Prio priomap) children = take bands (children ++ new)
bands_staying bands new (spec.Fifo limit queue) children = children
bands_staying bands new (spec.Tbf bucket limit) children = children
bands_staying bands new (spec.Drr s) children = children
bands_staying bands new (spec.FqCodel s) children = children

abbrev pub bands_going : ℕ → List (Node Kept) → spec.Discipline → List (Node Kept) → List (Node Kept)
bands_going bands new (spec.Prio priomap) children = drop bands (children ++ new)
bands_going bands new (spec.Fifo limit queue) children = []
bands_going bands new (spec.Tbf bucket limit) children = []
bands_going bands new (spec.Drr s) children = []
bands_going bands new (spec.FqCodel s) children = []

-- an implicit bfifo below a tbf has the tbf's limit; a qdisc with a handle has its own
abbrev pub leaf_limited : ℕ → Node Kept → Node Kept
leaf_limited limit leaf = if is_some leaf.own.handle then leaf else record leaf { own = record leaf.own { discipline = relimited limit leaf.own.discipline } }

abbrev pub leaves_limited : ℕ → spec.Discipline → List (Node Kept) → List (Node Kept)
leaves_limited new (spec.Tbf bucket limit) children = map (leaf_limited new) children
leaves_limited new (spec.Fifo limit queue) children = children
leaves_limited new (spec.Prio priomap) children = children
leaves_limited new (spec.Drr s) children = children
leaves_limited new (spec.FqCodel s) children = children

-- the settings with the options that are given; the number of flows stays
abbrev pub resettled : FqOptions → FqSettings → FqSettings
resettled o s = record (with_options o s) { flows = s.flows }

abbrev pub reoptioned : FqOptions → spec.Discipline → spec.Discipline
reoptioned o (spec.FqCodel s) = spec.FqCodel (after_change s (resettled o s.settings))
reoptioned o (spec.Fifo limit queue) = spec.Fifo limit queue
reoptioned o (spec.Prio priomap) = spec.Prio priomap
reoptioned o (spec.Tbf bucket limit) = spec.Tbf bucket limit
reoptioned o (spec.Drr s) = spec.Drr s

abbrev pub rebucketed : TokenBucket → ℕ → spec.Discipline → spec.Discipline
rebucketed bucket limit (spec.Tbf old was) = spec.Tbf bucket limit
rebucketed bucket limit (spec.Fifo most queue) = spec.Fifo most queue
rebucketed bucket limit (spec.Prio priomap) = spec.Prio priomap
rebucketed bucket limit (spec.Drr s) = spec.Drr s
rebucketed bucket limit (spec.FqCodel s) = spec.FqCodel s

-- ---- each

abbrev pub discipline_after : DisciplineChange → spec.Discipline → List (Node Kept) → spec.Discipline
discipline_after Nothing d children = d
discipline_after (SetLimit limit) d children = limited limit d
discipline_after (SetBands options leaves) d children = remapped options.priomap d
discipline_after (SetBucket bucket limit) d children = rebucketed bucket limit d
discipline_after (SetOptions options) d children = reoptioned options d
discipline_after (AddClass class quantum leaf) d children = if can_join class d then rescheduled (added class quantum) d else d
discipline_after (SetQuantum class quantum) d children = rescheduled (requantum class quantum) d
discipline_after (RemoveClass class) d children = option_map_or (λ x. rescheduled (schedule.removed class) d) (class_child class d children) d

abbrev pub children_after : DisciplineChange → spec.Discipline → List (Node Kept) → List (Node Kept)
children_after Nothing d children = children
children_after (SetLimit limit) d children = children
children_after (SetBands options leaves) d children = bands_staying options.bands leaves.items d children
children_after (SetBucket bucket limit) d children = leaves_limited limit d children
children_after (SetOptions options) d children = children
children_after (AddClass class quantum leaf) d children = if can_join class d then children ++ leaf ∷ [] else children
children_after (SetQuantum class quantum) d children = children
children_after (RemoveClass class) d children = option_map_or (λ (x : ℕ × Node Kept). remove children x.0) (class_child class d children) children

-- what is lost with the children that go, in class order
abbrev pub lost_with : DisciplineChange → spec.Discipline → List (Node Kept) → List Descriptor
lost_with Nothing d children = []
lost_with (SetLimit limit) d children = []
lost_with (SetBands options leaves) d children = packets_beneath (bands_going options.bands leaves.items d children)
lost_with (SetBucket bucket limit) d children = []
lost_with (SetOptions options) d children = []
lost_with (AddClass class quantum leaf) d children = []
lost_with (SetQuantum class quantum) d children = []
lost_with (RemoveClass class) d children = option_map_or (λ (x : ℕ × Node Kept). beneath x.1) (class_child class d children) []

-- a child that is added is new: it has counted nothing, and nothing is queued there
pub record IsFresh (n : Node Kept) : Type 0 where
  pub counts : n.memory.counts ≡ no_counts
  pub alone : beneath n ≡ []

-- the counters can count these packets
pub record FitsCounters (lost : List Descriptor) : Type 0 where
  pub packets : (totals_in lost).packets < 2 ^ 64
  pub bytes : (totals_in lost).bytes < 2 ^ 64

abbrev pub AreReady : DisciplineChange → Type 0
AreReady Nothing = Unit {0}
AreReady (SetLimit limit) = Unit {0}
AreReady (SetBands options leaves) = All IsFresh leaves.items
AreReady (SetBucket bucket limit) = Unit {0}
AreReady (SetOptions options) = Unit {0}
AreReady (AddClass class quantum leaf) = IsFresh leaf
AreReady (SetQuantum class quantum) = Unit {0}
AreReady (RemoveClass class) = Unit {0}

-- whether it brings children
abbrev pub adds_children : DisciplineChange → Bool
adds_children Nothing = false
adds_children (SetLimit limit) = false
adds_children (SetBands options leaves) = nat_lt 0 (length leaves.items)
adds_children (SetBucket bucket limit) = false
adds_children (SetOptions options) = false
adds_children (AddClass class quantum leaf) = true
adds_children (SetQuantum class quantum) = false
adds_children (RemoveClass class) = false

-- those that take memory: for children more
abbrev pub TakesMore : DisciplineChange → Type 0
TakesMore Nothing = ⊥
TakesMore (SetLimit limit) = ⊥
TakesMore (SetBands options leaves) = 0 < length leaves.items
TakesMore (SetBucket bucket limit) = ⊥
TakesMore (SetOptions options) = ⊥
TakesMore (AddClass class quantum leaf) = Unit {0}
TakesMore (SetQuantum class quantum) = ⊥
TakesMore (RemoveClass class) = ⊥

-- those that lose nothing
abbrev pub KeepsAll : DisciplineChange → Type 0
KeepsAll Nothing = Unit {0}
KeepsAll (SetLimit limit) = Unit {0}
KeepsAll (SetBands options leaves) = ⊥
KeepsAll (SetBucket bucket limit) = Unit {0}
KeepsAll (SetOptions options) = Unit {0}
KeepsAll (AddClass class quantum leaf) = Unit {0}
KeepsAll (SetQuantum class quantum) = Unit {0}
KeepsAll (RemoveClass class) = ⊥

-- a discipline of the code once it is changed
pub record IsChangedBy (r : DisciplineChange) (old new : Discipline) : Type 0 where
  pub discipline : discipline_seen new ≡ discipline_after r (discipline_seen old) (children_seen old)
  pub children : children_seen new ≡ children_after r (discipline_seen old) (children_seen old)
  pub places : places_seen new ≡ places_seen old

-- one that is as it was
pub record IsUnchanged (old new : Discipline) : Type 0 where
  pub discipline : discipline_seen new ≡ discipline_seen old
  pub children : children_seen new ≡ children_seen old
  pub places : places_seen new ≡ places_seen old
