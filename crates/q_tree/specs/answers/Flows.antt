-- How many flows an fq_codel has in its lists of new and of old flows (RFC 8290, section 4.2), as `tc -s qdisc show` prints them
-- (tc-fq_codel(8)).
use Rattle.std.specs.Prelude.{ℕ, length, Option, Some, None, option_and_then, slice_get}
use Rattle.q_fqcodel.specs.FqState.{FqState}
use Rattle.q_model.specs.Conserved.{every_node}
use Rattle.q_model.specs.Node.{Discipline, FqCodel}
use Rattle.q_model.specs.TreeState.{TreeState}
use Rattle.q_tree.specs.declared.answers.listed_flows.ListedFlows.{ListedFlows}

abbrev pub listed : FqState → ListedFlows
listed s = record { new_flows = length s.new_flows; old_flows = length s.old_flows }

-- no other discipline lists flows
abbrev pub listed_flows : Discipline → Option ListedFlows
listed_flows (FqCodel s) = Some (listed s)
listed_flows other = None

-- those of the i-th node in the order of show
abbrev pub flows_of : {M : Type 0} → ℕ → TreeState M → Option ListedFlows
flows_of i s = option_and_then (λ n. listed_flows n.own.discipline) (slice_get (every_node s.root) i)
