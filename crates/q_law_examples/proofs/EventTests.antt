-- Tests of a list of events from a state of a device on, each of which shows a premise of the laws.
use Rattle.std.proofs.Common.{◌≡◌, ℕ, ◌+◌, ◌-◌, ◌*◌, ◌≤◌, List, [], ◌∷◌, Option, Some, None}
use Rattle.std.specs.Prelude.{Bool, true, ◌&&◌, IfSome, nat_le}
use Rattle.std.specs.Option.{option_map_or}
use Rattle.std.proofs.lemmas.Bool.{and_parts, leb-true}
use Rattle.q_bucket.specs.Level.{capacity}
use Rattle.q_model.specs.declared.event.Event.{Event}
use Rattle.q_model.specs.Step.{DeviceState, step}
use Rattle.q_model.specs.Stretches.{TbfAt, tbf_in}
use Rattle.q_model.specs.Tally.{Note, history}
use Rattle.q_tree.specs.answers.ReadyAt.{ready_at}
use Rattle.q_laws.specs.rate.Rate.{due_in, IsDrained, IsDrainedFrom, IsNeverLate, IsNowhereCut}

some-within : (o : Option ℕ) (f : ℕ → ℕ) (n : ℕ) → option_map_or (λ at. nat_le n (f at)) o true ≡ true → IfSome o (λ at. n ≤ f at)
some-within None f n h = tt
some-within (Some at) f n h = leb-true n (f at) h

-- ---- no event comes later than the time that is due

abbrev drained_test : ℕ → Option ℕ → DeviceState (List Note) → List Event → Bool
drained_test late due d [] = true
drained_test late due d (e ∷ events) =
    let next = (step history d e).device in option_map_or (λ at. nat_le next.clock (at + late)) due true && drained_test late (due_in due next) next events

drained-from : (late : ℕ) (due : Option ℕ) (d : DeviceState (List Note)) (events : List Event) → drained_test late due d events ≡ true → IsDrainedFrom late due d events
drained-from late due d [] h = tt
drained-from late due d (e ∷ events) h =
    let next : DeviceState (List Note) = (step history d e).device in
    let parts = and_parts (option_map_or (λ at. nat_le next.clock (at + late)) due true) (drained_test late (due_in due next) next events) h in
    (some-within due (λ at. at + late) next.clock parts.0, drained-from late (due_in due next) next events parts.1)

pub drained-there : (late : ℕ) (d : DeviceState (List Note)) (events : List Event) → drained_test late (ready_at d.clock d.tree.root) d events ≡ true → IsDrained late d events
drained-there late d events h = drained-from late (ready_at d.clock d.tree.root) d events h

-- ---- nor later than the time that is said right before it

abbrev never_late_test : DeviceState (List Note) → List Event → Bool
never_late_test d [] = true
never_late_test d (e ∷ events) =
    let next = (step history d e).device in option_map_or (λ at. nat_le next.clock at) (ready_at d.clock d.tree.root) true && never_late_test next events

pub never-late-there : (d : DeviceState (List Note)) (events : List Event) → never_late_test d events ≡ true → IsNeverLate d events
never-late-there d [] h = tt
never-late-there d (e ∷ events) h =
    let next : DeviceState (List Note) = (step history d e).device in
    let parts = and_parts (option_map_or (λ at. nat_le next.clock at) (ready_at d.clock d.tree.root) true) (never_late_test next events) h in
    (some-within (ready_at d.clock d.tree.root) (λ at. at) next.clock parts.0, never-late-there next events parts.1)

-- ---- a level is not cut by its burst

abbrev uncut_test : ℕ → DeviceState (List Note) → Event → Bool
uncut_test major d e =
    option_map_or (λ (tbf : TbfAt). nat_le (tbf.bucket.level + tbf.bucket.rate * ((step history d e).device.clock - tbf.bucket.last)) (capacity tbf.bucket))
    (tbf_in major d) true

uncut-there : (o : Option TbfAt) (clock : ℕ)
    → option_map_or (λ (tbf : TbfAt). nat_le (tbf.bucket.level + tbf.bucket.rate * (clock - tbf.bucket.last)) (capacity tbf.bucket)) o true ≡ true
    → IfSome o (λ tbf. tbf.bucket.level + tbf.bucket.rate * (clock - tbf.bucket.last) ≤ capacity tbf.bucket)
uncut-there None clock h = tt
uncut-there (Some tbf) clock h = leb-true (tbf.bucket.level + tbf.bucket.rate * (clock - tbf.bucket.last)) (capacity tbf.bucket) h

abbrev nowhere_cut_test : ℕ → DeviceState (List Note) → List Event → Bool
nowhere_cut_test major d [] = true
nowhere_cut_test major d (e ∷ events) = uncut_test major d e && nowhere_cut_test major (step history d e).device events

pub nowhere-cut-there : (major : ℕ) (d : DeviceState (List Note)) (events : List Event) → nowhere_cut_test major d events ≡ true → IsNowhereCut major d events
nowhere-cut-there major d [] h = tt
nowhere-cut-there major d (e ∷ events) h =
    let parts = and_parts (uncut_test major d e) (nowhere_cut_test major (step history d e).device events) h in
    (uncut-there (tbf_in major d) (step history d e).device.clock parts.0, nowhere-cut-there major (step history d e).device events parts.1)
