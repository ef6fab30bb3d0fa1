-- Packets weighed: any weight that a packet's ECN codepoint does not change. A weight of 1 counts packets, the length adds up
-- their bytes, and a weight that asks for one packet tells how often it is there.
use Rattle.std.proofs.Common.{◌≡◌, ℕ, ◌+◌, ◌≤◌, List, [], ◌∷◌, ◌++◌, map, length, refl, ap, Option, Some, None, arith}
use Rattle.std.specs.Prelude.{Bool, true, false, All, sum_by, if◌then◌else◌}
use Rattle.std.specs.Option.{option_to_list}
use Rattle.std.proofs.lemmas.List.Elements.{All-nil, All-cons, All-head, All-tail}
use Rattle.std.proofs.lemmas.List.Sums.{sum_by-cons, sum_by-append}
use Rattle.q_packet.specs.Cause.{is_refusal}
use Rattle.q_packet.specs.Descriptor.{Descriptor}
use Rattle.q_packet.specs.declared.cause.Cause.{Cause}
use Rattle.q_packet.specs.declared.ecn.Ecn.TheVariants.{NotEct}
use Rattle.q_model.specs.Tally.{Note, Arrived, Sent, Lost, Marked, Granted, Spent, FlowGranted, FlowGave}
use Rattle.q_model.specs.Work.{losses_of}
use Rattle.q_invariants.specs.Weights.{plain, weight, weigh, arrival, sending, loss, dropping, mark, arrived, sent, lost, dropped, marked}

pub weigh-nil : (w : Descriptor → ℕ) → weigh w [] ≡ 0
unfolding weigh
weigh-nil w = refl

pub weigh-cons : (w : Descriptor → ℕ) (p : Descriptor) (ps : List Descriptor) → weigh w (p ∷ ps) ≡ w (plain p) + weigh w ps
unfolding weigh
weigh-cons w p ps = sum_by-cons (weight w) p ps

pub weigh-append : (w : Descriptor → ℕ) (ps qs : List Descriptor) → weigh w (ps ++ qs) ≡ weigh w ps + weigh w qs
unfolding weigh
weigh-append w ps qs = sum_by-append (weight w) ps qs

pub arrived-nil : (w : Descriptor → ℕ) → arrived w [] ≡ 0
unfolding arrived
arrived-nil w = refl

pub arrived-cons : (w : Descriptor → ℕ) (n : Note) (ns : List Note) → arrived w (n ∷ ns) ≡ arrival w n + arrived w ns
unfolding arrived
arrived-cons w n ns = sum_by-cons (arrival w) n ns

pub arrived-append : (w : Descriptor → ℕ) (ms ns : List Note) → arrived w (ms ++ ns) ≡ arrived w ms + arrived w ns
unfolding arrived
arrived-append w ms ns = sum_by-append (arrival w) ms ns

pub sent-nil : (w : Descriptor → ℕ) → sent w [] ≡ 0
unfolding sent
sent-nil w = refl

pub sent-cons : (w : Descriptor → ℕ) (n : Note) (ns : List Note) → sent w (n ∷ ns) ≡ sending w n + sent w ns
unfolding sent
sent-cons w n ns = sum_by-cons (sending w) n ns

pub sent-append : (w : Descriptor → ℕ) (ms ns : List Note) → sent w (ms ++ ns) ≡ sent w ms + sent w ns
unfolding sent
sent-append w ms ns = sum_by-append (sending w) ms ns

pub lost-nil : (w : Descriptor → ℕ) → lost w [] ≡ 0
unfolding lost
lost-nil w = refl

pub lost-cons : (w : Descriptor → ℕ) (n : Note) (ns : List Note) → lost w (n ∷ ns) ≡ loss w n + lost w ns
unfolding lost
lost-cons w n ns = sum_by-cons (loss w) n ns

pub lost-append : (w : Descriptor → ℕ) (ms ns : List Note) → lost w (ms ++ ns) ≡ lost w ms + lost w ns
unfolding lost
lost-append w ms ns = sum_by-append (loss w) ms ns

pub dropped-nil : (w : Descriptor → ℕ) → dropped w [] ≡ 0
unfolding dropped
dropped-nil w = refl

pub dropped-cons : (w : Descriptor → ℕ) (n : Note) (ns : List Note) → dropped w (n ∷ ns) ≡ dropping w n + dropped w ns
unfolding dropped
dropped-cons w n ns = sum_by-cons (dropping w) n ns

pub dropped-append : (w : Descriptor → ℕ) (ms ns : List Note) → dropped w (ms ++ ns) ≡ dropped w ms + dropped w ns
unfolding dropped
dropped-append w ms ns = sum_by-append (dropping w) ms ns

pub marked-nil : (w : Descriptor → ℕ) → marked w [] ≡ 0
unfolding marked
marked-nil w = refl

pub marked-cons : (w : Descriptor → ℕ) (n : Note) (ns : List Note) → marked w (n ∷ ns) ≡ mark w n + marked w ns
unfolding marked
marked-cons w n ns = sum_by-cons (mark w) n ns

pub marked-append : (w : Descriptor → ℕ) (ms ns : List Note) → marked w (ms ++ ns) ≡ marked w ms + marked w ns
unfolding marked
marked-append w ms ns = sum_by-append (mark w) ms ns

-- notes of which none is of an arrival or of a packet sent, and no loss is a refusal: what a node hands up of its own
pub record IsQuiet (notes : List Note) : Type 0 where
  pub no_arrival : (w : Descriptor → ℕ) → arrived w notes ≡ 0
  pub nothing_sent : (w : Descriptor → ℕ) → sent w notes ≡ 0
  pub all_dropped : (w : Descriptor → ℕ) → dropped w notes ≡ lost w notes

pub quiet-nil : IsQuiet []
quiet-nil = record { no_arrival = arrived-nil; nothing_sent = sent-nil; all_dropped = λ w. omega (arith, dropped-nil w, lost-nil w) }

pub quiet-append : (ms ns : List Note) → IsQuiet ms → IsQuiet ns → IsQuiet (ms ++ ns)
quiet-append ms ns a b = record {
  no_arrival = λ w. omega (arith, arrived-append w ms ns, a.no_arrival w, b.no_arrival w);
  nothing_sent = λ w. omega (arith, sent-append w ms ns, a.nothing_sent w, b.nothing_sent w);
  all_dropped = λ w. omega (arith, dropped-append w ms ns, lost-append w ms ns, a.all_dropped w, b.all_dropped w);
}

-- packets lost for one reason
pub arrived-losses : (w : Descriptor → ℕ) (cause : Cause) (ps : List Descriptor) → arrived w (losses_of cause ps) ≡ 0
arrived-losses w cause [] = arrived-nil w
arrived-losses w cause (p ∷ ps) = omega (arith, arrived-cons w (Lost p cause) (losses_of cause ps), arrived-losses w cause ps)

pub sent-losses : (w : Descriptor → ℕ) (cause : Cause) (ps : List Descriptor) → sent w (losses_of cause ps) ≡ 0
sent-losses w cause [] = sent-nil w
sent-losses w cause (p ∷ ps) = omega (arith, sent-cons w (Lost p cause) (losses_of cause ps), sent-losses w cause ps)

pub lost-losses : (w : Descriptor → ℕ) (cause : Cause) (ps : List Descriptor) → lost w (losses_of cause ps) ≡ weigh w ps
lost-losses w cause [] = omega (arith, lost-nil w, weigh-nil w)
lost-losses w cause (p ∷ ps) = omega (arith, lost-cons w (Lost p cause) (losses_of cause ps), lost-losses w cause ps, weigh-cons w p ps)

pub marked-losses : (w : Descriptor → ℕ) (cause : Cause) (ps : List Descriptor) → marked w (losses_of cause ps) ≡ 0
marked-losses w cause [] = marked-nil w
marked-losses w cause (p ∷ ps) = omega (arith, marked-cons w (Lost p cause) (losses_of cause ps), marked-losses w cause ps)

pub dropped-losses : (w : Descriptor → ℕ) (cause : Cause) (ps : List Descriptor) → is_refusal cause ≡ false → dropped w (losses_of cause ps) ≡ weigh w ps
dropped-losses w cause [] e = omega (arith, dropped-nil w, weigh-nil w)
dropped-losses w cause (p ∷ ps) e =
    let one : dropping w (Lost p cause) ≡ w (plain p) = ap (λ b. if b then 0 else w (plain p)) e in
    omega (arith, dropped-cons w (Lost p cause) (losses_of cause ps), dropped-losses w cause ps e, weigh-cons w p ps, one)

pub quiet-losses : (cause : Cause) (ps : List Descriptor) → is_refusal cause ≡ false → IsQuiet (losses_of cause ps)
quiet-losses cause ps e = record {
  no_arrival = λ w. arrived-losses w cause ps;
  nothing_sent = λ w. sent-losses w cause ps;
  all_dropped = λ w. omega (arith, dropped-losses w cause ps e, lost-losses w cause ps);
}

-- a packet that is sent, or none
pub sent-given : (w : Descriptor → ℕ) (shown : Option Descriptor) → sent w (map Sent (option_to_list shown)) ≡ weigh w (option_to_list shown)
sent-given w None = omega (arith, sent-nil w, weigh-nil w)
sent-given w (Some p) = omega (arith, sent-cons w (Sent p) [], sent-nil w, weigh-nil w, weigh-cons w p [])

pub arrived-given : (w : Descriptor → ℕ) (shown : Option Descriptor) → arrived w (map Sent (option_to_list shown)) ≡ 0
arrived-given w None = arrived-nil w
arrived-given w (Some p) = omega (arith, arrived-cons w (Sent p) [], arrived-nil w)

pub lost-given : (w : Descriptor → ℕ) (shown : Option Descriptor) → lost w (map Sent (option_to_list shown)) ≡ 0
lost-given w None = lost-nil w
lost-given w (Some p) = omega (arith, lost-cons w (Sent p) [], lost-nil w)

pub dropped-given : (w : Descriptor → ℕ) (shown : Option Descriptor) → dropped w (map Sent (option_to_list shown)) ≡ 0
dropped-given w None = dropped-nil w
dropped-given w (Some p) = omega (arith, dropped-cons w (Sent p) [], dropped-nil w)

pub marked-given : (w : Descriptor → ℕ) (shown : Option Descriptor) → marked w (map Sent (option_to_list shown)) ≡ 0
marked-given w None = marked-nil w
marked-given w (Some p) = omega (arith, marked-cons w (Sent p) [], marked-nil w)

-- a packet, or none
pub weigh-one : (w : Descriptor → ℕ) (p : Descriptor) → weigh w (p ∷ []) ≡ w (plain p)
weigh-one w p = omega (arith, weigh-cons w p [], weigh-nil w)

-- packets of a kind that none of these is
abbrev pub one_if : Bool → ℕ
one_if true = 1
one_if false = 0

one_if-zero : (b : Bool) → one_if b ≡ 0 → b ≡ false
one_if-zero true h = absurd (omega (arith, h))
one_if-zero false h = refl

abbrev pub counting : (Descriptor → Bool) → Descriptor → ℕ
counting bad p = one_if (bad p)

abbrev pub IsNone : (Descriptor → Bool) → Descriptor → Type 0
IsNone bad p = bad (plain p) ≡ false

pub weigh-none : (bad : Descriptor → Bool) (ps : List Descriptor) → weigh (counting bad) ps ≡ 0 → All (IsNone bad) ps
weigh-none bad [] e = All-nil (IsNone bad)
weigh-none bad (p ∷ ps) e =
    All-cons (IsNone bad) p ps
    (one_if-zero (bad (plain p)) (omega (arith, e, weigh-cons (counting bad) p ps)))
    (weigh-none bad ps (omega (arith, e, weigh-cons (counting bad) p ps)))

pub weigh-all : (bad : Descriptor → Bool) (ps : List Descriptor) → All (IsNone bad) ps → weigh (counting bad) ps ≡ 0
weigh-all bad [] h = weigh-nil (counting bad)
weigh-all bad (p ∷ ps) h =
    let none : one_if (bad (plain p)) ≡ 0 = ap one_if (All-head (IsNone bad) p ps h) in
    omega (arith, weigh-cons (counting bad) p ps, none, weigh-all bad ps (All-tail (IsNone bad) p ps h))

-- what weighs no more than packets of which none is bad, has none
pub none-among : (bad : Descriptor → Bool) (ps qs : List Descriptor) → ((w : Descriptor → ℕ) → weigh w qs ≤ weigh w ps) → All (IsNone bad) ps → All (IsNone bad) qs
none-among bad ps qs fewer h = weigh-none bad qs (omega (arith, fewer (counting bad), weigh-all bad ps h))

-- the weight of one each is how many there are
pub weigh-count : (ps : List Descriptor) → weigh (λ p. 1) ps ≡ length ps
weigh-count [] = weigh-nil (λ p. 1)
weigh-count (p ∷ ps) = omega (arith, weigh-cons (λ q. 1) p ps, weigh-count ps)
