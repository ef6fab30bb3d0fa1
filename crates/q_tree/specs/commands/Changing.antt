-- What a change makes of a qdisc of the same kind (tc(8), `change`; tc-pfifo(8), tc-prio(8), tc-tbf(8), tc-fq_codel(8)), or
-- the first refusal that holds.
use Rattle.std.specs.Prelude.{◌≡◌, ℕ, ◌+◌, ◌-◌, Bool, true, false, IsTrue, List, ◌++◌, drop, length, map, unwrap_or, Option, Result, Ok, Err}
use Rattle.std.specs.List.{flat_map, list_any, sum}
use Rattle.q_codel.specs.declared.limit.Limit.TheVariants.{Packets, Bytes}
use Rattle.q_bucket.specs.Level.{after_change}
use Rattle.q_model.specs.declared.kind.Kind.{Kind}
use Rattle.q_model.specs.declared.kind.Kind.TheVariants as kind
use Rattle.q_model.specs.declared.refusal.Refusal.{Refusal}
use Rattle.q_model.specs.declared.refusal.Refusal.TheVariants.{CannotChange}
use Rattle.q_model.specs.declared.tbf_limit.TbfLimit.{TbfLimit}
use Rattle.q_model.specs.Edit as model
use Rattle.q_model.specs.Edit.{Child, Remake, beneath_removed, child_of}
use Rattle.q_model.specs.Find.{count_nodes}
use Rattle.q_model.specs.Make.{limit_bytes}
use Rattle.q_model.specs.Node.{Discipline, Fifo, Prio, Tbf, Drr, FqCodel, Own, Node, children, shape}
use Rattle.q_model.specs.Options.{FqOptions}
use Rattle.q_model.specs.QdiscCommands.{bands_check, burst_check, flows_check}
use Rattle.q_model.specs.Refusals.{done_unless}
use Rattle.q_invariants.specs.Sizes.{numbers}
use Rattle.q_tree.specs.commands.Commands.{IsRefused}
use Rattle.q_tree.specs.commands.DisciplineChanges.{AreReady, TakesMore, children_after, discipline_after, lost_with}
use Rattle.q_tree.specs.Kept.{Kept, kept}
use Rattle.q_tree.specs.declared.commands.discipline_change.DisciplineChange.{DisciplineChange}
use Rattle.q_tree.specs.declared.commands.discipline_change.DisciplineChange.TheVariants.{Nothing, SetLimit, SetBucket, SetOptions}

abbrev pub pfifo_answer : Option ℕ → Discipline → Result DisciplineChange Refusal
pfifo_answer limit (Fifo (Packets old) queue) = Ok (SetLimit (Packets (unwrap_or limit old)))
pfifo_answer limit (Fifo (Bytes old) queue) = Err CannotChange
pfifo_answer limit (Prio priomap) = Err CannotChange
pfifo_answer limit (Tbf bucket old) = Err CannotChange
pfifo_answer limit (Drr s) = Err CannotChange
pfifo_answer limit (FqCodel s) = Err CannotChange

abbrev pub bfifo_answer : Option ℕ → Discipline → Result DisciplineChange Refusal
bfifo_answer limit (Fifo (Packets old) queue) = Err CannotChange
bfifo_answer limit (Fifo (Bytes old) queue) = Ok (SetLimit (Bytes (unwrap_or limit old)))
bfifo_answer limit (Prio priomap) = Err CannotChange
bfifo_answer limit (Tbf bucket old) = Err CannotChange
bfifo_answer limit (Drr s) = Err CannotChange
bfifo_answer limit (FqCodel s) = Err CannotChange

-- the bucket fills up to now at its old rate
abbrev pub tbf_answer : ℕ → ℕ → ℕ → ℕ → TbfLimit → Discipline → Result DisciplineChange Refusal
tbf_answer mtu now rate burst limit (Fifo most queue) = Err CannotChange
tbf_answer mtu now rate burst limit (Prio priomap) = Err CannotChange
tbf_answer mtu now rate burst limit (Tbf bucket old) =
    done_unless (burst_check bucket.burst burst mtu) (SetBucket (after_change bucket rate burst now) (limit_bytes rate burst limit))
tbf_answer mtu now rate burst limit (Drr s) = Err CannotChange
tbf_answer mtu now rate burst limit (FqCodel s) = Err CannotChange

-- a drr has no settings of its own
abbrev pub drr_same : Discipline → Result DisciplineChange Refusal
drr_same (Fifo limit queue) = Err CannotChange
drr_same (Prio priomap) = Err CannotChange
drr_same (Tbf bucket limit) = Err CannotChange
drr_same (Drr s) = Ok Nothing
drr_same (FqCodel s) = Err CannotChange

abbrev pub fq_codel_answer : FqOptions → Discipline → Result DisciplineChange Refusal
fq_codel_answer o (Fifo limit queue) = Err CannotChange
fq_codel_answer o (Prio priomap) = Err CannotChange
fq_codel_answer o (Tbf bucket limit) = Err CannotChange
fq_codel_answer o (Drr s) = Err CannotChange
fq_codel_answer o (FqCodel s) = done_unless (flows_check o.flows s.settings.flows) (SetOptions o)

-- how many nodes are at the children from this place on, and below them
abbrev pub nodes_from : ℕ → Node Kept → ℕ
nodes_from place n = sum (map count_nodes (drop place (children n)))

-- how many leaves a prio needs for so many bands, in a tree of so many nodes
abbrev pub leaves_answer : ℕ → ℕ → Node Kept → Discipline → Result ℕ Refusal
leaves_answer bands nodes n (Fifo limit queue) = Err CannotChange
leaves_answer bands nodes n (Prio priomap) =
    let more = bands - length (children n) in
    done_unless (bands_check bands (shape n) ++ numbers (nodes + more - nodes_from bands n)) more
leaves_answer bands nodes n (Tbf bucket limit) = Err CannotChange
leaves_answer bands nodes n (Drr s) = Err CannotChange
leaves_answer bands nodes n (FqCodel s) = Err CannotChange

-- whether a child is new
abbrev pub is_new : Child → Bool
is_new (model.Kept i) = false
is_new (model.Retuned i own) = false
is_new (model.New s) = true

-- the plan gives a qdisc a child that it did not have
abbrev pub MakesChildren : Result model.Edit Refusal → Type 0
MakesChildren (Ok (model.Graft path new)) = ⊥
MakesChildren (Ok (Remake path own below)) = IsTrue (list_any is_new below)
MakesChildren (Err refusal) = ⊥

-- of the changes that of a prio alone takes memory, and that where it gets more bands
abbrev pub NeedsMore : Kind → Result model.Edit Refusal → Type 0
NeedsMore (kind.Pfifo limit) plan = ⊥
NeedsMore (kind.Bfifo limit) plan = ⊥
NeedsMore (kind.Prio options) plan = MakesChildren plan
NeedsMore (kind.Tbf rate burst limit) plan = ⊥
NeedsMore kind.Drr plan = ⊥
NeedsMore (kind.FqCodel options) plan = ⊥

-- a change of this node is the remaking that the model plans for it, whichever path leads there
pub record IsRemade (plan : List ℕ → Result model.Edit Refusal) (n : Node Kept) (r : DisciplineChange) : Type 0 where
  pub own : Own
  pub below : List Child
  pub planned : (path : List ℕ) → plan path ≡ Ok (Remake path own below)
  pub own_is : ◌≡◌ {A = Own} (record n.own { discipline = discipline_after r n.own.discipline (children n) }) own
  pub kids_is : children_after r n.own.discipline (children n) ≡ flat_map (child_of kept (children n)) below
  pub lost_is : lost_with r n.own.discipline (children n) ≡ beneath_removed below (shape n)
  pub ready : AreReady r

-- the change that the model plans, or the refusal; memory last, of a plan that takes some
abbrev pub IsChange : (Result model.Edit Refusal → Type 0) → (List ℕ → Result model.Edit Refusal) → Node Kept → Result DisciplineChange Refusal → Type 0
IsChange memory plan n (Ok r) = IsRemade plan n r × ((path : List ℕ) → TakesMore r → memory (plan path))
IsChange memory plan n (Err refusal) = (path : List ℕ) → IsRefused (memory (plan path)) (plan path) refusal
