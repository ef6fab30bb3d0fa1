-- Tests of a state of a device, each of which shows a premise of the laws.
use Rattle.std.proofs.Common.{◌≡◌, ℕ, ◌+◌, List, refl, ap, Option, Some, None}
use Rattle.std.specs.Prelude.{Bool, true, false, ◌&&◌, ◌==◌, not, nat_lt}
use Rattle.std.specs.List.{list_all}
use Rattle.std.specs.Option.{option_map_or}
use Rattle.std.proofs.lemmas.Bool.{and_parts, eqb-true, false≢true, ltb-true}
use Rattle.q_fqcodel.specs.FqState.{is_idle}
use Rattle.q_model.specs.Beneath.{is_empty}
use Rattle.q_model.specs.Conserved.{nodes_of}
use Rattle.q_model.specs.Node.{Node}
use Rattle.q_model.specs.Step.{DeviceState}
use Rattle.q_model.specs.Stretches.{FqAt, TbfAt, fq_in, tbf_in, IsBackloggedFlow, IsTbf}
use Rattle.q_model.specs.Tally.{Note}
use Rattle.q_tree.specs.answers.Ways.{is_tbf}
use Rattle.q_laws.specs.line.Line.{bytes_in, line_below_root, IsAlone, IsInLine, IsLink}
use Rattle.q_laws.specs.rate.Delay.{paid_so_far}
use Rattle.q_laws.specs.rate.Rate.{IsBackloggedLink}
use Rattle.q_laws.specs.share.Service.{IsQueuedFlow}
use Rattle.q_law_examples.proofs.ByTest.{all-by, passing}

is-false : (b : Bool) → not b ≡ true → b ≡ false
is-false true h = absurd (false≢true h)
is-false false h = refl

-- ---- a tbf and the root

abbrev tbf_is : ℕ → ℕ → TbfAt → Bool
tbf_is rate burst t = t.bucket.rate == rate && t.bucket.burst == burst

abbrev pub tbf_test : ℕ → ℕ → ℕ → DeviceState (List Note) → Bool
tbf_test major rate burst d = option_map_or (tbf_is rate burst) (tbf_in major d) false

pub tbf-there : (major rate burst : ℕ) (d : DeviceState (List Note)) → tbf_test major rate burst d ≡ true → IsTbf major rate burst d
tbf-there major rate burst d h =
    let f = passing (tbf_is rate burst) (tbf_in major d) h in
    let parts = and_parts (f.value.bucket.rate == rate) (f.value.bucket.burst == burst) f.passes in
    record { tbf = f.value; there = f.is; same_rate = eqb-true f.value.bucket.rate rate parts.0; same_burst = eqb-true f.value.bucket.burst burst parts.1 }

abbrev not_tbf : Node (List Note) → Bool
not_tbf n = not (is_tbf n.own.discipline)

abbrev pub alone_test : DeviceState (List Note) → Bool
alone_test d = list_all not_tbf (nodes_of d.tree.root.below)

pub alone-there : (d : DeviceState (List Note)) → alone_test d ≡ true → IsAlone d
alone-there d h = all-by (λ (n : Node (List Note)). is_tbf n.own.discipline ≡ false) not_tbf (λ n. is-false (is_tbf n.own.discipline)) (nodes_of d.tree.root.below) h

abbrev root_test : ℕ → DeviceState (List Note) → Bool
root_test major d = option_map_or (λ h. h == major) d.tree.root.own.handle false

root-there : (major : ℕ) (o : Option ℕ) → option_map_or (λ h. h == major) o false ≡ true → o ≡ Some major
root-there major None h = absurd (false≢true h)
root-there major (Some n) h = ap Some (eqb-true n major h)

abbrev pub link_test : ℕ → ℕ → ℕ → DeviceState (List Note) → Bool
link_test major rate burst d = tbf_test major rate burst d && (root_test major d && alone_test d)

pub link-there : (major rate burst : ℕ) (d : DeviceState (List Note)) → link_test major rate burst d ≡ true → IsLink major rate burst d
link-there major rate burst d h =
    let a = and_parts (tbf_test major rate burst d) (root_test major d && alone_test d) h in
    let b = and_parts (root_test major d) (alone_test d) a.1 in
    record { tbf = tbf-there major rate burst d a.0; root = root-there major d.tree.root.own.handle b.0; alone = alone-there d b.1 }

abbrev pub queued_link_test : ℕ → ℕ → ℕ → DeviceState (List Note) → Bool
queued_link_test major rate burst d = link_test major rate burst d && not (is_empty d.tree.root)

pub queued-link-there : (major rate burst : ℕ) (d : DeviceState (List Note)) → queued_link_test major rate burst d ≡ true → IsBackloggedLink major rate burst d
queued-link-there major rate burst d h =
    let a = and_parts (link_test major rate burst d) (not (is_empty d.tree.root)) h in
    let link = link-there major rate burst d a.0 in
    record { tbf = link.tbf; root = link.root; alone = link.alone; queued = is-false (is_empty d.tree.root) a.1 }

abbrev pub in_line_test : ℕ → DeviceState (List Note) → DeviceState (List Note) → Bool
in_line_test major first d = nat_lt (paid_so_far major d) (paid_so_far major first + bytes_in (line_below_root first))

pub in-line-there : (major : ℕ) (first d : DeviceState (List Note)) → in_line_test major first d ≡ true → IsInLine major first d
in-line-there major first d h = ltb-true (paid_so_far major d) (paid_so_far major first + bytes_in (line_below_root first)) h

-- ---- flows

abbrev flow_is : ℕ → FqAt → Bool
flow_is flow fq = not (is_idle fq.state.flows flow)

abbrev pub queued_flow_test : ℕ → ℕ → DeviceState (List Note) → Bool
queued_flow_test major flow d = option_map_or (flow_is flow) (fq_in major d) false

pub queued-flow-there : (major flow : ℕ) (d : DeviceState (List Note)) → queued_flow_test major flow d ≡ true → IsQueuedFlow major flow d
queued-flow-there major flow d h =
    let f = passing (flow_is flow) (fq_in major d) h in
    record { fq = f.value; there = f.is; queued = is-false (is_idle f.value.state.flows flow) f.passes }

abbrev flow_with : ℕ → ℕ → FqAt → Bool
flow_with flow quantum fq = fq.state.settings.quantum == quantum && not (is_idle fq.state.flows flow)

abbrev pub flow_test : ℕ → ℕ → ℕ → DeviceState (List Note) → Bool
flow_test major flow quantum d = option_map_or (flow_with flow quantum) (fq_in major d) false

pub flow-there : (major flow quantum : ℕ) (d : DeviceState (List Note)) → flow_test major flow quantum d ≡ true → IsBackloggedFlow major flow quantum d
flow-there major flow quantum d h =
    let f = passing (flow_with flow quantum) (fq_in major d) h in
    let parts = and_parts (f.value.state.settings.quantum == quantum) (not (is_idle f.value.state.flows flow)) f.passes in
    record {
      fq = f.value;
      there = f.is;
      same_quantum = eqb-true f.value.state.settings.quantum quantum parts.0;
      queued = is-false (is_idle f.value.state.flows flow) parts.1;
    }
