use Rattle.std.proofs.Common.{◌≡◌, ℕ, ◌≤◌, max, subst, arith}
use Rattle.q_model.specs.Step.{DeviceState}
use Rattle.q_model.specs.TreeState.{take_packet}
use Rattle.q_tree.specs.arrival.Places.{places_at}
use Rattle.q_tree.specs.Kept.{Kept, kept}
use Rattle.q_laws.proofs.memory.polls_keep_places.Goals as goal

pub returns : goal.returns
returns c = λ path.
    let d : DeviceState Kept = c.args.device.now.memory.tree in
    let at : c.later-at.result ≡ max c.args.device.now.device.clock c.args.now = omega (arith, c.later-at.ensures, c.clock.ensures) in
    let same = c.take_keeps_places.ensures.take path in
    subst (λ (t : ℕ). places_at path d.tree.root ≤ places_at path (take_packet kept t d.tree).root) at
    (subst (λ (x : DeviceState Kept). places_at path x.tree.root ≤ places_at path (take_packet kept c.later-at.result x.tree).root) c.tree.ensures.memory
    (omega (arith, same)))
