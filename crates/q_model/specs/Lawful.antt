-- What every step on a tree is to keep: of each node, of the whole tree, and, with the device's clock, of the times in it.
-- tc-prio(8), tc-tbf(8), tc-drr(8) and RFC 8290, section 4, for the lists and levels; the bounds are this project's choice.
use Rattle.std.specs.Prelude.{◌≡◌, ℕ, ◌<◌, ◌≤◌, ◌^◌, ◌==◌, Bool, not, List, [], ◌∷◌, All, length, IsSome, is_some}
use Rattle.std.specs.List.{AllZip, AllPairs}
use Rattle.q_packet.specs.Descriptor.{Descriptor}
use Rattle.q_packet.specs.declared.stamped.Stamped.{Stamped}
use Rattle.q_codel.specs.Codel.{CodelState}
use Rattle.q_codel.specs.Codel as codel
use Rattle.q_fqcodel.specs.FqState.{FqSettings, Flow, FqState}
use Rattle.q_fqcodel.specs.Ranges as settings
use Rattle.q_fqcodel.specs.Lawful as flows
use Rattle.q_bucket.specs.Level.{TokenBucket}
use Rattle.q_bucket.specs.Level as bucket
use Rattle.q_drr.specs.Schedule.{Class, Schedule, is_active}
use Rattle.q_drr.specs.Schedule as drr
use Rattle.q_model.specs.declared.filter.Filter.{Filter}
use Rattle.q_model.specs.Numbers.{IsWithin, IsMinor}
use Rattle.q_model.specs.Tally.{Tally}
use Rattle.q_model.specs.Node.{Discipline, Fifo, Prio, Tbf, Drr, FqCodel, Own, Node, each}
use Rattle.q_model.specs.Beneath.{beneath_own, beneath, row, row_of}
use Rattle.q_model.specs.Conserved.{every_node, held_beneath, IsBalanced, AreMarksBounded}
use Rattle.q_model.specs.Find.{Address, addresses, class_in, depth, count_nodes}
use Rattle.q_model.specs.Refusals.{most_levels, most_nodes, most_filters}
use Rattle.q_model.specs.TreeState.{TreeState}

-- each packet of a queue was stamped at or after those in front of it
abbrev pub AreInOrder : List Stamped → Type 0
AreInOrder [] = Unit {0}
AreInOrder (s ∷ queue) = All (λ (behind : Stamped). s.at ≤ behind.at) queue × AreInOrder queue

-- no packet is stamped with a time that is yet to come, and none before one that is in front of it
pub record IsStampedBy (clock : ℕ) (queue : List Stamped) : Type 0 where
  pub past : All (λ (s : Stamped). s.at ≤ clock) queue
  pub in_order : AreInOrder queue

-- What is said of a node's children is said of the packets below each, in class order.

-- a fifo: no class
pub record IsLawfulFifo (clock : ℕ) (queue : List Stamped) (below : List (List Descriptor)) : Type 0 where
  pub stamps : IsStampedBy clock queue
  pub none : below ≡ []

-- a drr: a child for each class, whose name is a minor number, and active are exactly the classes whose child has something
-- queued; each is once in the active list, and its deficit is below its quantum and the mtu together
pub record IsLawfulDrr (mtu : ℕ) (s : Schedule) (below : List (List Descriptor)) : Type 0 where
  pub schedule : drr.IsLawful s
  pub longest : s.max_len ≡ mtu
  pub minors : All (λ (c : Class). IsMinor c.name) s.classes
  pub exact : AllZip (λ (c : Class) (packets : List Descriptor). is_active c.name s.active ≡ not (length packets == 0)) s.classes below

-- a tbf: the level is at most the burst, and nothing below its one child is longer than that, since it could never pass
pub record IsLawfulTbf (clock : ℕ) (b : TokenBucket) (below : List (List Descriptor)) : Type 0 where
  pub level : bucket.IsInRange b
  pub last : b.last ≤ clock
  pub one : length below ≡ 1
  pub short : All (λ packets. All (λ (p : Descriptor). p.len ≤ b.burst) packets) below

-- a prio: 2 to 16 bands, and a band for each of 16 priorities
pub record IsLawfulPrio (priomap : List ℕ) (below : List (List Descriptor)) : Type 0 where
  pub least : 2 ≤ length below
  pub most : length below ≤ 16
  pub each : length priomap ≡ 16
  pub bands : All (λ band. band < length below) priomap

-- the CoDel of a flow runs with the settings of its fq_codel
pub record AgreesWith (s : FqSettings) (c : CodelState) : Type 0 where
  pub target : c.target ≡ s.target
  pub interval : c.interval ≡ s.interval
  pub ecn : c.ecn ≡ s.ecn
  pub mtu : c.mtu ≡ s.mtu

pub record IsLawfulFlow (clock : ℕ) (s : FqSettings) (f : Flow) : Type 0 where
  pub settings : codel.IsCodelParams (codel.params_of f.codel)
  pub state : codel.IsCodelVars (codel.vars_of f.codel)
  pub agrees : AgreesWith s f.codel
  pub stamps : IsStampedBy clock f.queue

-- an fq_codel: settings in their ranges, with the device's mtu; each flow at most once in the two lists, and every flow with
-- packets in one; no class
pub record IsLawfulFqCodel (mtu clock : ℕ) (s : FqState) (below : List (List Descriptor)) : Type 0 where
  pub settings : settings.IsInRange s.settings
  pub longest : s.settings.mtu ≡ mtu
  pub lists : flows.IsLawful s
  pub flows : All (IsLawfulFlow clock s.settings) s.flows
  pub none : below ≡ []

abbrev pub IsLawfulDiscipline : ℕ → ℕ → List (List Descriptor) → Discipline → Type 0
IsLawfulDiscipline mtu clock below (Fifo limit queue) = IsLawfulFifo clock queue below
IsLawfulDiscipline mtu clock below (Prio priomap) = IsLawfulPrio priomap below
IsLawfulDiscipline mtu clock below (Tbf b limit) = IsLawfulTbf clock b below
IsLawfulDiscipline mtu clock below (Drr s) = IsLawfulDrr mtu s below
IsLawfulDiscipline mtu clock below (FqCodel s) = IsLawfulFqCodel mtu clock s below

-- only these hold a packet: to show one, they have to dequeue it (the others show what stays where it is)
abbrev pub CanHold : Discipline → Type 0
CanHold (Tbf b limit) = Unit {0}
CanHold (Drr s) = Unit {0}
CanHold (FqCodel s) = Unit {0}
CanHold (Fifo limit queue) = ⊥
CanHold (Prio priomap) = ⊥

-- what a node is: every packet has a byte and none is longer than the mtu, its filters are in order of rising priority, and the
-- class that each names is there
pub record IsLawfulOwn (mtu clock : ℕ) (own : Own) (below : List (List Descriptor)) : Type 0 where
  pub discipline : IsLawfulDiscipline mtu clock below own.discipline
  pub lengths : All (λ (p : Descriptor). IsWithin 1 mtu p.len) (beneath_own own below)
  pub held : IsSome own.held → CanHold own.discipline
  pub filters : length own.filters ≤ most_filters
  pub in_order : AllPairs (λ (f g : Filter). f.prio ≤ g.prio) own.filters
  pub named : All (λ (f : Filter). is_some (class_in (length below) f.minor own.discipline) ≡ Bool.true) own.filters

-- a node of a tree, with its counters
pub record IsLawfulNode {M : Type 0} (t : Tally M) (mtu clock : ℕ) (n : Node M) : Type 0 where
  pub own : IsLawfulOwn mtu clock n.own (each beneath_own n.below)
  pub balanced : IsBalanced (row t n)
  pub marks : AreMarksBounded (t.counts_of n.memory) (held_beneath n)

-- the whole tree, with the device above the root, at a clock: the latest time that the device has seen, up to 2^62 ns
pub record IsLawfulTree {M : Type 0} (t : Tally M) (clock : ℕ) (s : TreeState M) : Type 0 where
  pub moment : clock ≤ 2 ^ 62
  pub least_mtu : 1 ≤ s.device.mtu
  pub most_mtu : s.device.mtu < 2 ^ 16
  pub device : IsBalanced (row_of (t.counts_of s.top) (beneath s.root))
  pub marks : AreMarksBounded (t.counts_of s.top) (held_beneath s.root)
  pub nodes : All (IsLawfulNode t s.device.mtu clock) (every_node s.root)
  pub handles : AllPairs (λ (a b : Address). (a.handle ≡ b.handle) → ⊥) (addresses s.root)
  pub levels : depth s.root ≤ most_levels
  pub few : count_nodes s.root ≤ most_nodes
