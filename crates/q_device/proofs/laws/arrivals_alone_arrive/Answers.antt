use Rattle.q_device.proofs.laws.LawfulLemmas.{seen-arrived}
use Rattle.q_device.proofs.laws.arrivals_alone_arrive.Goals as goal

pub returns : goal.returns
returns c =
    let r = c.kept.ensures.replayed in
    seen-arrived r.happened c.args.device.now r.replayed c.kept.ensures.settings r.events
