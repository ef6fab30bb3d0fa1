-- Sums over notes: those of a longer history, and those of notes that rise through a tree, which are losses and marks alone.
use Rattle.std.proofs.Common.{◌≡◌, ℕ, List, [], ◌∷◌, ◌++◌, refl, arith}
use Rattle.std.specs.Prelude.{sum_by}
use Rattle.std.proofs.lemmas.List.Sums.{sum_by-cons}
use Rattle.q_packet.specs.Descriptor.{Descriptor}
use Rattle.q_packet.specs.declared.cause.Cause.{Cause}
use Rattle.q_model.specs.Tally.{Note, Arrived, Sent, Lost, Marked, Granted, Spent, FlowGranted, FlowGave}
use Rattle.q_model.specs.Work.{losses_of}
use Rattle.q_model.specs.Stretches.{sent_by, spent_by, granted_by, flow_granted_by, given_by}

-- a loss or a mark: nothing else rises from a node to the one above
abbrev pub IsRisen : Note → Type 0
IsRisen (Lost p cause) = Unit {0}
IsRisen (Marked p) = Unit {0}
IsRisen (Arrived p) = ⊥
IsRisen (Sent p) = ⊥
IsRisen (Granted class times) = ⊥
IsRisen (Spent bytes) = ⊥
IsRisen (FlowGranted flow times) = ⊥
IsRisen (FlowGave flow bytes) = ⊥

abbrev pub AreRisen : List Note → Type 0
AreRisen [] = Unit {0}
AreRisen (n ∷ notes) = IsRisen n × AreRisen notes

pub risen-append : (ms ns : List Note) → AreRisen ms → AreRisen ns → AreRisen (ms ++ ns)
risen-append [] ns a b = b
risen-append (m ∷ ms) ns a b = (a.0, risen-append ms ns a.1 b)

pub risen-losses : (cause : Cause) (ps : List Descriptor) → AreRisen (losses_of cause ps)
risen-losses cause [] = tt
risen-losses cause (p ∷ ps) = (tt, risen-losses cause ps)

-- a count that takes no loss and no mark in
abbrev pub LooksPast : (Note → ℕ) → Type 0
LooksPast f = (n : Note) → IsRisen n → f n ≡ 0

pub sum-risen : (f : Note → ℕ) → LooksPast f → (notes : List Note) → AreRisen notes → sum_by f notes ≡ 0
sum-risen f past [] h = refl
sum-risen f past (n ∷ notes) h = omega (arith, sum_by-cons f n notes, past n h.0, sum-risen f past notes h.1)

-- a count that finds 0 at every loss and every mark
past : (f : Note → ℕ) → ((p : Descriptor) (cause : Cause) → f (Lost p cause) ≡ 0) → ((p : Descriptor) → f (Marked p) ≡ 0) → LooksPast f
past f lost marked (Lost p cause) h = lost p cause
past f lost marked (Marked p) h = marked p
past f lost marked (Arrived p) h = absurd h
past f lost marked (Sent p) h = absurd h
past f lost marked (Granted class times) h = absurd h
past f lost marked (Spent bytes) h = absurd h
past f lost marked (FlowGranted flow times) h = absurd h
past f lost marked (FlowGave flow bytes) h = absurd h

pub past-sent : LooksPast sent_by
past-sent = past sent_by (λ p cause. refl) (λ p. refl)

pub past-spent : LooksPast spent_by
past-spent = past spent_by (λ p cause. refl) (λ p. refl)

pub past-granted : (class : ℕ) → LooksPast (granted_by class)
past-granted class = past (granted_by class) (λ p cause. refl) (λ p. refl)

pub past-flow_granted : (flow : ℕ) → LooksPast (flow_granted_by flow)
past-flow_granted flow = past (flow_granted_by flow) (λ p cause. refl) (λ p. refl)

pub past-given : (flow : ℕ) → LooksPast (given_by flow)
past-given flow = past (given_by flow) (λ p cause. refl) (λ p. refl)
