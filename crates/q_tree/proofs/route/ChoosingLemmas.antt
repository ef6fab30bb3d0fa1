-- What follows from where a discipline sends a packet.
use Rattle.std.proofs.Common.{◌≡◌, ℕ, ◌<◌, ◌≤◌, List, length, refl, sym, ap, subst, Option, Some, None, arith}
use Rattle.std.specs.Prelude.{Bool, true, false, if◌then◌else◌, nat_lt}
use Rattle.std.specs.Option.{option_map_or}
use Rattle.std.proofs.lemmas.Bool.{ltb-false, ltb-true}
use Rattle.std.proofs.lemmas.Option.{slice_get_past}
use Rattle.q_packet.specs.Descriptor.{Descriptor}
use Rattle.q_packet.specs.declared.cause.Cause.{Cause}
use Rattle.q_packet.specs.declared.cause.Cause.TheVariants.{NoClass, OverLimit, TooLong}
use Rattle.q_model.specs.Node.{Node}
use Rattle.q_model.specs.Route.{refused, through}
use Rattle.q_tree.specs.Kept.{Kept}
use Rattle.q_tree.specs.route.Ahead.{ways}
use Rattle.q_tree.specs.route.Choosing.{child_of, drr_choice}
use Rattle.q_tree.specs.declared.route.choice.Choice.{Choice}
use Rattle.q_tree.specs.declared.route.choice.Choice.TheVariants.{Here, Child, Refused}
use Rattle.q_tree.proofs.arrival.Arriving.{through-past}

abbrev place-in : Choice → ℕ
place-in Here = 0
place-in (Child i) = i
place-in (Refused cause) = 0

abbrev cause-in : Choice → Cause
cause-in Here = NoClass
cause-in (Child i) = NoClass
cause-in (Refused cause) = cause

-- a child of so many
pub child-there : (n k i : ℕ) → Child i ≡ child_of n k → (i ≡ k) × (i < n)
child-there n k i e = by (nat_lt k n) refl e
  where
    by : (b : Bool) → nat_lt k n ≡ b → Child i ≡ (if b then Child k else Refused NoClass) → (i ≡ k) × (i < n)
    by true is e = (ap place-in e, subst (λ (x : ℕ). x < n) (sym (ap place-in e)) (ltb-true k n is))
    by false is e = cc

pub child-missing : (n k : ℕ) (cause : Cause) → Refused cause ≡ child_of n k → (cause ≡ NoClass) × (n ≤ k)
child-missing n k cause e = by (nat_lt k n) refl e
  where
    by : (b : Bool) → nat_lt k n ≡ b → Refused cause ≡ (if b then Child k else Refused NoClass) → (cause ≡ NoClass) × (n ≤ k)
    by true is e = cc
    by false is e = (ap cause-in e, omega (arith, ltb-false k n is))

-- what a fifo chose
pub fifo-here : (b : Bool) → Here ≡ (if b then Here else Refused OverLimit) → b ≡ true
fifo-here true e = refl
fifo-here false e = cc

pub fifo-refused : (b : Bool) (cause : Cause) → Refused cause ≡ (if b then Here else Refused OverLimit) → (b ≡ false) × (cause ≡ OverLimit)
fifo-refused true cause e = cc
fifo-refused false cause e = (refl, ap cause-in e)

-- what a tbf chose
pub tbf-child : (b : Bool) (i : ℕ) → Child i ≡ (if b then Refused TooLong else Child 0) → b ≡ false
tbf-child true i e = cc
tbf-child false i e = refl

pub tbf-refused : (b : Bool) (cause : Cause) → Refused cause ≡ (if b then Refused TooLong else Child 0) → (b ≡ true) × (cause ≡ TooLong)
tbf-refused true cause e = (refl, ap cause-in e)
tbf-refused false cause e = cc

-- what a drr chose
pub drr-child : (n i : ℕ) (o : Option ℕ) → Child i ≡ drr_choice n o → (o ≡ Some i) × (i < n)
drr-child n i None e = cc
drr-child n i (Some k) e =
    let h = child-there n k i e in
    (ap (λ (x : ℕ). Some x) (sym h.0), h.1)

pub drr-refused : (p : Descriptor) (ns : List (Node Kept)) (n : ℕ) (cause : Cause) (o : Option ℕ) → n ≡ length ns
    → Refused cause ≡ drr_choice n o
    → (cause ≡ NoClass) × (option_map_or (through (ways p ns)) o (refused NoClass) ≡ refused NoClass)
drr-refused p ns n cause None all e = (ap cause-in e, refl)
drr-refused p ns n cause (Some k) all e =
    let h = child-missing n k cause e in
    (h.0, through-past p ns k (slice_get_past ns k (omega (arith, h.1, all))))
