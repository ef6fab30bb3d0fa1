-- A device whose events come no later than the time that it says to be ready is drained without lateness.
use Rattle.std.proofs.Common.{◌≡◌, ℕ, ◌+◌, ◌≤◌, Bool, true, false, List, [], ◌∷◌, refl, subst, Option, Some, None, arith}
use Rattle.std.specs.Prelude.{IfSome, nat_lt, if◌then◌else◌, option_and_then}
use Rattle.std.proofs.lemmas.Bool.{ltb-false}
use Rattle.q_model.specs.declared.event.Event.{Event}
use Rattle.q_model.specs.Step.{DeviceState, step}
use Rattle.q_model.specs.Tally.{Note, history}
use Rattle.q_invariants.proofs.tree.StepNodes.{clock-rises}
use Rattle.q_tree.specs.answers.ReadyAt.{ready_at}
use Rattle.q_laws.specs.rate.Rate.{due_in, IsDrainedFrom, IsNeverLate, NeverLateIsDrained}

-- what comes by the time that the device says comes by the time that is due
abbrev Covers : Option ℕ → DeviceState (List Note) → Type 0
Covers due d = (t : ℕ) → d.clock ≤ t → IfSome (ready_at d.clock d.tree.root) (λ at. t ≤ at) → IfSome due (λ at. t ≤ at + 0)

covers-said : (d : DeviceState (List Note)) → Covers (ready_at d.clock d.tree.root) d
covers-said d t from early = by (ready_at d.clock d.tree.root) early
  where
    by : (o : Option ℕ) → IfSome o (λ at. t ≤ at) → IfSome o (λ at. t ≤ at + 0)
    by None early = tt
    by (Some at) early = omega (arith, early)

covers-on : (due : Option ℕ) (d : DeviceState (List Note)) → IfSome due (λ at. d.clock ≤ at + 0) → Covers (due_in due d) d
covers-on due d here t from early = by (ready_at d.clock d.tree.root) early
  where
    by : (o : Option ℕ) → IfSome o (λ at. t ≤ at) → IfSome (option_and_then (λ at. if nat_lt d.clock at then Some at else due) o) (λ at. t ≤ at + 0)
    by None early = tt
    by (Some at) early = said (nat_lt d.clock at) refl
      where
        said : (b : Bool) → nat_lt d.clock at ≡ b → IfSome (if b then Some at else due) (λ n. t ≤ n + 0)
        said true e = omega (arith, early)
        said false e =
            let past = ltb-false d.clock at e in
            let same : d.clock ≡ t = omega (arith, past, early, from) in
            subst (λ n. IfSome due (λ m. n ≤ m + 0)) same here

drained : (due : Option ℕ) (d : DeviceState (List Note)) (events : List Event) → Covers due d → IsNeverLate d events → IsDrainedFrom 0 due d events
drained due d [] covers early = tt
drained due d (e ∷ events) covers early =
    let next : DeviceState (List Note) = (step history d e).device in
    let here : IfSome due (λ at. next.clock ≤ at + 0) = covers next.clock (clock-rises d e) early.0 in
    (here, drained (due_in due next) next events (covers-on due next here) early.1)

pub never-late-is-drained : NeverLateIsDrained
never-late-is-drained d events early = drained (ready_at d.clock d.tree.root) d events (covers-said d) early
