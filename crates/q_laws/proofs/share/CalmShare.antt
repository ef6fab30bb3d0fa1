-- The least share of a class of a drr that is calm at first: a product of the quanta more than that of any.
use Rattle.std.proofs.Common.{◌≡◌, ℕ, ◌+◌, ◌*◌, List, ◌++◌, sym, ap, arith}
use Rattle.std.specs.Prelude.{All}
use Rattle.std.proofs.lemmas.List.Elements.{All-append}
use Rattle.q_model.specs.Events.{IsEvent}
use Rattle.q_model.specs.Settings.{DeviceSettings, IsInRange}
use Rattle.q_model.specs.Step.{DeviceState}
use Rattle.q_model.specs.Stretches.{IsBackloggedClass}
use Rattle.q_model.specs.Tally.{Note}
use Rattle.q_device.specs.Sharing.{device_after}
use Rattle.q_device.proofs.ClassStretches.{at-end, deficits-bounded}
use Rattle.q_laws.specs.share.Calm.{CalmClassesGetTheirParts}
use Rattle.q_laws.specs.share.Service.{class_sent, all_sent}
use Rattle.q_laws.proofs.share.LeastShare.{all-there, its-part, own-part}
use Rattle.q_laws.proofs.share.OwnParts.{one}

pub calm-classes-get-their-parts : (settings : DeviceSettings) → IsInRange settings → CalmClassesGetTheirParts settings
calm-classes-get-their-parts settings range before during major i quantum classes first all_before all_during there stays is calm =
    let start : DeviceState (List Note) = device_after settings before in
    let k = at-end (IsBackloggedClass major i quantum) settings before during stays in
    let own : ℕ = class_sent major i start during in
    let whole : own ≡ own + 0 = omega arith in
    let all : All IsEvent (before ++ during) = All-append IsEvent before during all_before all_during in
    let low = deficits-bounded settings range (before ++ during) major i k.class all k.there in
    let p = its-part settings range before during all_before all_during major i quantum classes there stays own 1
    (own-part settings range before during all_before all_during major i quantum classes there stays own 1 (omega arith) (λ c owned apart.
    one settings range before during all_before all_during major i quantum stays first k.class is k.there own 0 whole (omega (arith, low, k.same_quantum)) c apart
    (all-there settings range before during all_before all_during major i quantum classes there stays c owned) calm)) in
    let part = p.part in
    let same : (own + p.total) * quantum ≡ all_sent major classes start during * quantum = ap (λ n. n * quantum) (sym p.sum) in
    omega (arith, part, same)
