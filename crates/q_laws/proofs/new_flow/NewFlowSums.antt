-- What the flows of the new list give before one that joins, summed over the list.
use Rattle.std.proofs.Common.{◌≡◌, ◌≢◌, ℕ, suc, ◌+◌, ◌≤◌, ℤ, pos, Bool, true, false, cond, ◌||◌, List, [], ◌∷◌, ◌++◌, refl, sym, ap, ◌∙◌, inl, inr, Some, eq-eqb, arith}
use Rattle.std.specs.Prelude.{◌==◌, sum_by, option_map, if◌then◌else◌}
use Rattle.std.specs.List.{find}
use Rattle.std.proofs.lemmas.Bool.{cases_Bool, eqb-true, eqb-false, false≢true, or_left, or_right}
use Rattle.std.proofs.lemmas.List.Sums.{sum_by-cons, sum_by-append}
use Rattle.std.proofs.lemmas.Option.{none-some}
use Rattle.q_fqcodel.specs.Entry.{Entry}
use Rattle.q_fqcodel.specs.Lawful.{times}
use Rattle.q_fqcodel.specs.Laws.{credits_of}
use Rattle.q_fqcodel.specs.Put.{is_listed}
use Rattle.q_fqcodel.proofs.LawfulLemmas.{times-cons, times-append}
use Rattle.q_fqcodel.proofs.PutLemmas.{listed_not, listed_yes}
use Rattle.q_fqcodel.proofs.QuantaLemmas.{lt_test, le_test}
use Rattle.q_model.specs.Settings.{DeviceSettings, IsInRange}
use Rattle.q_model.specs.Stretches.{given_by, bytes_given, reach}
use Rattle.q_model.specs.Tally.{Note, Arrived, Sent, Lost, Marked, Granted, Spent, FlowGranted, FlowGave}
use Rattle.q_invariants.proofs.flow.FlowMoves.{fq-node, fq-lawful}
use Rattle.q_invariants.proofs.flow.FlowVisits.{cases-credits}
use Rattle.q_invariants.proofs.Replays.{replay-kept}
use Rattle.q_device.specs.Sharing.{device_after}
use Rattle.q_laws.specs.new_flow.NewFlow.{given_by_any, all_given, reach_before, reaches, NewFlowsGoBefore}
use Rattle.q_laws.proofs.new_flow.NewFlowService.{GoesOn, new-flow-goes}

-- ---- what all gave is what those of a list gave, where others gave nothing

abbrev from_list : List Entry → List Note → ℕ
from_list es notes = sum_by (λ (e : Entry). bytes_given e.flow notes) es

abbrev in_note : List Entry → Note → ℕ
in_note es x = sum_by (λ (e : Entry). given_by e.flow x) es

from-more : (es : List Entry) (x : Note) (notes : List Note) → from_list es (x ∷ notes) ≡ in_note es x + from_list es notes
from-more [] x notes = refl
from-more (e ∷ es) x notes =
    omega (
      arith,
      from-more es x notes,
      sum_by-cons (λ (k : Entry). bytes_given k.flow (x ∷ notes)) e es,
      sum_by-cons (λ (k : Entry). bytes_given k.flow notes) e es,
      sum_by-cons (λ (k : Entry). given_by k.flow x) e es,
      sum_by-cons (given_by e.flow) x notes,
    )

own-given : (n bytes : ℕ) → given_by n (FlowGave n bytes) ≡ bytes
own-given n bytes = ap (λ (t : Bool). if t then bytes else 0) (eq-eqb n n refl)

listed-given : (es : List Entry) (n bytes : ℕ) → is_listed n es ≡ true → bytes ≤ in_note es (FlowGave n bytes)
listed-given [] n bytes listed = absurd (false≢true listed)
listed-given (e ∷ es) n bytes listed = elim (cases_Bool (e.flow == n)) [
  | inl own ↦
      let mine : given_by e.flow (FlowGave n bytes) ≡ bytes = ap (λ (t : Bool). if t then bytes else 0) own in
      omega (arith, mine, sum_by-cons (λ (k : Entry). given_by k.flow (FlowGave n bytes)) e es)
  | inr other ↦
      let rest = listed-given es n bytes (sym (ap (λ (t : Bool). t || is_listed n es) other) ∙ listed) in
      omega (arith, rest, sum_by-cons (λ (k : Entry). given_by k.flow (FlowGave n bytes)) e es)
]

-- flows that are not listed gave nothing
abbrev Quiet : List Entry → List Note → Type 0
Quiet es notes = (n : ℕ) → is_listed n es ≡ false → bytes_given n notes ≡ 0

note-within : (es : List Entry) (x : Note) (notes : List Note) → Quiet es (x ∷ notes) → given_by_any x ≤ in_note es x
note-within es (FlowGave n bytes) notes quiet = elim (cases_Bool (is_listed n es)) [
  | inl listed ↦ listed-given es n bytes listed
  | inr gone ↦
      let none = quiet n gone in
      let own = own-given n bytes in
      omega (arith, none, own, sum_by-cons (given_by n) (FlowGave n bytes) notes)
]
note-within es (Arrived p) notes quiet = omega arith
note-within es (Sent p) notes quiet = omega arith
note-within es (Lost p cause) notes quiet = omega arith
note-within es (Marked p) notes quiet = omega arith
note-within es (Granted class times) notes quiet = omega arith
note-within es (Spent bytes) notes quiet = omega arith
note-within es (FlowGranted flow times) notes quiet = omega arith

all-within : (es : List Entry) (notes : List Note) → Quiet es notes → all_given notes ≤ from_list es notes
all-within es [] quiet = omega arith
all-within es (x ∷ notes) quiet =
    let rest = all-within es notes (λ n gone. omega (arith, quiet n gone, sum_by-cons (given_by n) x notes)) in
    let here = note-within es x notes quiet in
    omega (arith, rest, here, sum_by-cons given_by_any x notes, from-more es x notes)

-- ---- each gave what it could

credits-listed : (n : ℕ) (es : List Entry) (c : ℤ) → credits_of n es ≡ Some c → is_listed n es ≡ true
credits-listed n [] c e = absurd (none-some c e)
credits-listed n (k ∷ es) c e = elim (cases_Bool (k.flow == n)) [
  | inl own ↦ or_left (k.flow == n) (is_listed n es) own
  | inr other ↦
      or_right (k.flow == n) (is_listed n es)
      (credits-listed n es c (sym (ap (λ (t : Bool). option_map (λ (x : Entry). x.credits) (cond t (Some k) (find (λ (x : Entry). x.flow == n) es))) other) ∙ e))
]

each-within : (mtu : ℕ) (es : List Entry) (notes : List Note) → ((n : ℕ) → times n es ≤ 1)
    → ((n : ℕ) (c : ℤ) → credits_of n es ≡ Some c → bytes_given n notes ≤ reach_before mtu c) → from_list es notes ≤ reaches mtu es
each-within mtu [] notes once most = omega arith
each-within mtu (e ∷ es) notes once most =
    let here = most e.flow e.credits (ap (λ (t : Bool). option_map (λ (x : Entry). x.credits) (cond t (Some e) (find (λ (x : Entry). x.flow == e.flow) es))) (eq-eqb e.flow e.flow refl)) in
    let rest = each-within mtu es notes (λ n. omega (arith, once n, times-cons n e es)) (λ n c credits. most n c (behind n c credits)) in
    omega (arith, here, rest, sum_by-cons (λ (k : Entry). bytes_given k.flow notes) e es, sum_by-cons (λ (k : Entry). reach_before mtu k.credits) e es)
  where
    behind : (n : ℕ) (c : ℤ) → credits_of n es ≡ Some c → credits_of n (e ∷ es) ≡ Some c
    behind n c credits = elim (cases_Bool (e.flow == n)) [
      | inl own ↦
          let twice = listed_yes n es (credits-listed n es c credits) in
          let one : ◌≡◌ {A = ℕ} (cond (e.flow == n) 1 0) 1 = ap (λ (t : Bool). cond t 1 0) own in
          absurd (omega (arith, twice, once n, times-cons n e es, one))
      | inr other ↦ ap (λ (t : Bool). option_map (λ (x : Entry). x.credits) (cond t (Some e) (find (λ (x : Entry). x.flow == n) es))) other ∙ credits
    ]

-- ---- over a stretch

pub new-flows-go-before : (settings : DeviceSettings) → IsInRange settings → NewFlowsGoBefore settings
new-flows-go-before settings range before e during major j first next last all_before event all_during is next_is at absent listed stays silent =
    let any = goes (suc j) (λ same. absurd (omega (arith, same))) in
    let new : List Entry = first.state.new_flows in
    let whole : all_given last.noted ≡ all_given first.noted + all_given any.notes = ap all_given any.is ∙ sum_by-append given_by_any first.noted any.notes in
    let gave : (n : ℕ) → bytes_given n last.noted ≡ bytes_given n first.noted + bytes_given n any.notes = λ n. ap (bytes_given n) any.is ∙ sum_by-append (given_by n) first.noted any.notes in
    let law = fq-lawful major (device_after settings before) first (replay-kept settings before range all_before) (fq-node major (device_after settings before) first is) in
    let once : (n : ℕ) → times n new ≤ 1 = λ n. omega (arith, law.lists.once n, times-append n new first.state.old_flows) in
    let unlisted : times j new ≡ 0 = omega (arith, listed_not j (new ++ first.state.old_flows) absent, times-append j new first.state.old_flows) in
    let all = all-within new any.notes (λ n gone. quiet n gone (gave n)) in
    let each = each-within settings.mtu new any.notes once (λ n c credits. most n c credits (gave n) unlisted) in
    omega (arith, whole, all, each)
  where
    goes : (k : ℕ) → j ≢ k → GoesOn k settings.mtu first last
    goes k apart = new-flow-goes settings range before e during major j k first next last apart all_before event all_during is next_is at absent listed stays silent

    quiet : (n : ℕ) → is_listed n first.state.new_flows ≡ false → {g : ℕ} → bytes_given n last.noted ≡ bytes_given n first.noted + g → g ≡ 0
    quiet n gone {g} gave = elim (cases_Bool (j == n)) [
      | inl same ↦ omega (arith, gave, silent, ap (λ m. bytes_given m last.noted) (eqb-true j n same), ap (λ m. bytes_given m first.noted) (eqb-true j n same))
      | inr apart ↦ omega (arith, gave, (goes n (eqb-false j n apart)).first_goes.others gone)
    ]

    most : (n : ℕ) (c : ℤ) → credits_of n first.state.new_flows ≡ Some c → {g : ℕ} → bytes_given n last.noted ≡ bytes_given n first.noted + g
        → times j first.state.new_flows ≡ 0 → g ≤ reach_before settings.mtu c
    most n c credits {g} gave unlisted = elim (cases_Bool (j == n)) [
      | inl same ↦
          let there = listed_yes n first.state.new_flows (credits-listed n first.state.new_flows c credits) in
          absurd (omega (arith, there, unlisted, ap (λ m. times m first.state.new_flows) (eqb-true j n same)))
      | inr apart ↦
          let first = (goes n (eqb-false j n apart)).first_goes in
          elim (cases-credits c) [
            | inl low ↦
                let none = first.spent c credits low in
                let nothing : reach_before settings.mtu c ≡ 0 = ap (λ (t : Bool). if t then reach settings.mtu c else 0) (le_test (pos 0) c low) in
                omega (arith, gave, none, nothing)
            | inr high ↦
                let all : reach_before settings.mtu c ≡ reach settings.mtu c = ap (λ (t : Bool). if t then reach settings.mtu c else 0) (lt_test (pos 0) c high) in
                omega (arith, gave, all, first.in_new c credits)
          ]
    ]
