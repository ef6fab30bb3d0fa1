-- Where one event lists a flow of an fq_codel, it is an arrival, and the flow begins in the new list with one quantum.
use Rattle.std.proofs.Common.{◌≡◌, ℕ, ◌≤◌, Bool, true, false, ◌⊎◌, inl, inr, List, [], ◌∷◌, ◌++◌, refl, sym, ap, ◌∙◌, Some, pos, arith}
use Rattle.std.specs.Prelude.{◌==◌, if◌then◌else◌}
use Rattle.std.proofs.lemmas.Bool.{cases_Bool, eqb-true, eqb-false}
use Rattle.q_packet.specs.Descriptor.{Descriptor}
use Rattle.q_fqcodel.specs.Entry.{Entry}
use Rattle.q_fqcodel.specs.FqState.{FqSettings, FqState}
use Rattle.q_fqcodel.specs.Lawful.{times}
use Rattle.q_fqcodel.specs.Laws.{credits_of}
use Rattle.q_fqcodel.specs.Put.{flow_of, is_listed, appended, cut_back, after_put}
use Rattle.q_fqcodel.specs.Take.{selected}
use Rattle.q_fqcodel.proofs.LawfulLemmas.{times-cons, times-append, one_other}
use Rattle.q_fqcodel.proofs.InLemmas.{one_at}
use Rattle.q_fqcodel.proofs.ListedLemmas.{times_selected, times_sent}
use Rattle.q_fqcodel.proofs.PutLemmas.{listed_not, listed_yes}
use Rattle.q_model.specs.declared.event.Event.{Event}
use Rattle.q_model.specs.Events.{IsEvent}
use Rattle.q_model.specs.Tally.{Note, history}
use Rattle.q_model.specs.Step.{DeviceState, step}
use Rattle.q_model.specs.Stretches.{FqAt, fq_in}
use Rattle.q_invariants.proofs.flow.FlowLists.{credits-here, credits-behind}
use Rattle.q_invariants.proofs.flow.FlowMoves.{fq-step}
use Rattle.q_invariants.proofs.flow.FlowSteps.{lists_of, SameLists, same-whole, Changes}
use Rattle.q_invariants.proofs.Replays.{IsKept}

-- the entry of a flow behind those of others
pub credits-last : (n : ℕ) (x : Entry) (es : List Entry) → times n es ≡ 0 → (x.flow == n) ≡ true → credits_of n (es ++ x ∷ []) ≡ Some x.credits
credits-last n x [] none own = credits-here n x [] own
credits-last n x (e ∷ es) none own = elim (cases_Bool (e.flow == n)) [
  | inl here ↦ absurd (omega (arith, none, times-cons n e es, one_at n e (eqb-true e.flow n here)))
  | inr other ↦ credits-behind n e (es ++ x ∷ []) other ∙ credits-last n x es (omega (arith, none, times-cons n e es)) own
]

put-settings : (s : FqState) (p : Descriptor) (now : ℕ) → (after_put s p now).settings ≡ s.settings
unfolding appended cut_back
put-settings s p now = refl

put-begins : (n : ℕ) (s : FqState) (p : Descriptor) (now : ℕ) → times n (lists_of s) ≡ 0 → 1 ≤ times n (lists_of (after_put s p now))
    → credits_of n (after_put s p now).new_flows ≡ Some (pos s.settings.quantum)
unfolding appended cut_back
put-begins n s p now none some = by (is_listed (flow_of s p) (lists_of s)) some
  where
    new : Entry
    new = record { flow = flow_of s p; credits = pos s.settings.quantum }

    by : (t : Bool) → 1 ≤ times n ((if t then s.new_flows else s.new_flows ++ new ∷ []) ++ s.old_flows)
        → credits_of n (if t then s.new_flows else s.new_flows ++ new ∷ []) ≡ Some (pos s.settings.quantum)
    by true listed = absurd (omega (arith, none, listed))
    by false listed = elim (cases_Bool (new.flow == n)) [
      | inl own ↦ credits-last n new s.new_flows (omega (arith, none, times-append n s.new_flows s.old_flows)) own
      | inr other ↦
          absurd (omega (
            arith,
            none,
            listed,
            times-append n s.new_flows s.old_flows,
            times-append n (s.new_flows ++ new ∷ []) s.old_flows,
            times-append n s.new_flows (new ∷ []),
            times-cons n new [],
            one_other n new (eqb-false new.flow n other),
          ))
    ]

step-begins : (n now : ℕ) (s t : FqState) (notes : List Note) → Changes now s t notes → times n (lists_of s) ≡ 0 → 1 ≤ times n (lists_of t) → credits_of n t.new_flows ≡ Some (pos t.settings.quantum)
step-begins n now s t notes (inl quiet) none some = by quiet.lists
  where
    by : SameLists s t ⊎ ((p : Descriptor) × (at : ℕ) × (t ≡ after_put s p at)) → credits_of n t.new_flows ≡ Some (pos t.settings.quantum)
    by (inl same) = absurd (omega (arith, none, some, ap (times n) (same-whole s t same)))
    by (inr put) =
        ap (λ (x : FqState). credits_of n x.new_flows) put.2
        ∙ put-begins n s put.0 put.1 none (omega (arith, some, ap (λ (x : FqState). times n (lists_of x)) put.2))
        ∙ sym (ap (λ (x : FqState). Some (pos x.settings.quantum)) put.2 ∙ ap (λ (settings : FqSettings). Some (pos settings.quantum)) (put-settings s put.0 put.1))
step-begins n now s t notes (inr take) none some =
    absurd (omega (arith, none, some, ap (λ (x : FqState). times n (lists_of x)) take.is, times_sent n now (selected s), times_selected n s))

pub flow-begins : (major n : ℕ) (d : DeviceState (List Note)) (e : Event) (x y : FqAt) → IsKept d → IsEvent e → fq_in major d ≡ Some x → fq_in major (step history d e).device ≡ Some y
    → is_listed n (lists_of x.state) ≡ false → is_listed n (lists_of y.state) ≡ true → credits_of n y.state.new_flows ≡ Some (pos y.state.settings.quantum)
flow-begins major n d e x y kept range is at apart listed =
    let s = fq-step major d e x y kept range is at in
    step-begins n (step history d e).device.clock x.state y.state s.notes s.by (listed_not n (lists_of x.state) apart) (listed_yes n (lists_of y.state) listed)
