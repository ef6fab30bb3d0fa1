-- The numbers of a promise: what a class may lack is that of the law, rounded up at each drr, and its part is rounded down.
use Rattle.std.proofs.Common.{◌≡◌, ℕ, ◌+◌, ◌-◌, ◌*◌, ◌/◌, ◌^◌, ◌<◌, ◌≤◌, List, [], ◌∷◌, map, length, max, sym, ap, ◌∙◌, inl, inr, arith}
use Rattle.std.specs.Prelude.{All}
use Rattle.std.proofs.Math.Nat.{add-mul, div-mul-le_self, lt-div-mul-add, mul-add, mul-le-mul, mul-le-mul_left, mul-le-mul_right, mul_assoc, mul_comm, one-le-mul}
use Rattle.std.proofs.lemmas.Bool.{cases_lt}
use Rattle.std.proofs.lemmas.Grind.{div_ceil_times}
use Rattle.std.proofs.lemmas.List.Elements.{All-head, All-tail}
use Rattle.q_bucket.specs.Level.{units_in_byte}
use Rattle.q_tree.specs.declared.answers.ways.Link.{Link}
use Rattle.q_tree.specs.declared.answers.ways.Share.{Share}
use Rattle.q_tree.specs.answers.Ways.{DrrClass, share_of}
use Rattle.q_device.specs.promises.Promise.{lacks_of_bytes, lack_at, late_on, slack_on, part_of}
use Rattle.q_device.proofs.LackNumbers.{cancel-lt}
use Rattle.q_laws.specs.rate.Rate.{HasRoom}
use Rattle.q_laws.specs.share.Delivered.{IsPart, level_of, levels_of}
use Rattle.q_laws.specs.share.InTime.{quanta_on, sums_on, lacks_on}

abbrev pub shares : List DrrClass → List Share
shares ds = map share_of ds

abbrev pub AreParts : List DrrClass → Type 0
AreParts ds = All IsPart (shares ds)

first-part : (d : DrrClass) (ds : List DrrClass) → AreParts (d ∷ ds) → IsPart (share_of d)
first-part d ds h = All-head IsPart (share_of d) (shares ds) h

other-parts : (d : DrrClass) (ds : List DrrClass) → AreParts (d ∷ ds) → AreParts ds
other-parts d ds h = All-tail IsPart (share_of d) (shares ds) h

-- ---- the slack

-- x may lack of what comes, y at this level, q of Q is its part, and A what it may lack of that; P of R is the part further down
enough-numbers : (x q P A m Q L S R y : ℕ) → x * q + A ≤ y * Q → (y + m) * P + L ≤ S * R → x * (q * P) + ((A + m * Q) * P + Q * L) ≤ S * (Q * R)
enough-numbers x q P A m Q L S R y here rest =
    let a : (x * q + A) * P ≤ (y * Q) * P = mul-le-mul_right P here in
    let b : Q * ((y + m) * P + L) ≤ Q * (S * R) = mul-le-mul_left Q rest in
    let a_left : (x * q + A) * P ≡ (x * q) * P + A * P = add-mul (x * q) A P in
    let a_first : (x * q) * P ≡ x * (q * P) = mul_assoc x q P in
    let a_right : (y * Q) * P ≡ Q * (y * P) = ap (λ k. k * P) (mul_comm y Q) ∙ mul_assoc Q y P in
    let b_left : Q * ((y + m) * P + L) ≡ Q * ((y + m) * P) + Q * L = mul-add Q ((y + m) * P) L in
    let b_both : (y + m) * P ≡ y * P + m * P = add-mul y m P in
    let b_split : Q * ((y + m) * P) ≡ Q * (y * P) + Q * (m * P) = ap (λ k. Q * k) b_both ∙ mul-add Q (y * P) (m * P) in
    let b_right : Q * (S * R) ≡ S * (Q * R) = sym (mul_assoc Q S R) ∙ ap (λ k. k * R) (mul_comm Q S) ∙ mul_assoc S Q R in
    let held : (A + m * Q) * P ≡ A * P + (m * Q) * P = add-mul A (m * Q) P in
    let held_same : (m * Q) * P ≡ Q * (m * P) = ap (λ k. k * P) (mul_comm m Q) ∙ mul_assoc Q m P in
    omega (arith, a, b, a_left, a_first, a_right, b_left, b_split, b_right, held, held_same)

pub enough : (mtu x : ℕ) (d : DrrClass) (ds : List DrrClass) → AreParts (d ∷ ds)
    → x * quanta_on (level_of d) (levels_of ds) + lacks_on mtu (level_of d) (levels_of ds) ≤ slack_on mtu x (shares (d ∷ ds)) * sums_on (level_of d) (levels_of ds)
enough mtu x d [] h =
    let s : Share = share_of d in
    let part = first-part d [] h in
    (div_ceil_times (x * s.quantum + lacks_of_bytes s.classes s.quantum s.quanta mtu) s.quanta (omega (arith, part.positive, part.part))).0
enough mtu x d (e ∷ ds) h =
    let s : Share = share_of d in
    let part = first-part d (e ∷ ds) h in
    let A : ℕ = lacks_of_bytes s.classes s.quantum s.quanta mtu in
    let y : ℕ = lack_at mtu x s in
    let here : x * s.quantum + A ≤ y * s.quanta = (div_ceil_times (x * s.quantum + A) s.quanta (omega (arith, part.positive, part.part))).0 in
    enough-numbers x s.quantum (quanta_on (level_of e) (levels_of ds)) A mtu s.quanta (lacks_on mtu (level_of e) (levels_of ds))
    (slack_on mtu (y + mtu) (shares (e ∷ ds))) (sums_on (level_of e) (levels_of ds)) y here
    (enough mtu (y + mtu) e ds (other-parts d (e ∷ ds) h))

-- a part is no more than the whole
pub no-more-than-sums : (d : DrrClass) (ds : List DrrClass) → AreParts (d ∷ ds) → quanta_on (level_of d) (levels_of ds) ≤ sums_on (level_of d) (levels_of ds)
no-more-than-sums d [] h = (first-part d [] h).part
no-more-than-sums d (e ∷ ds) h = mul-le-mul (first-part d (e ∷ ds) h).part (no-more-than-sums e ds (other-parts d (e ∷ ds) h))

pub some-quanta : (d : DrrClass) (ds : List DrrClass) → AreParts (d ∷ ds) → 1 ≤ quanta_on (level_of d) (levels_of ds)
some-quanta d [] h = (first-part d [] h).positive
some-quanta d (e ∷ ds) h = one-le-mul (first-part d (e ∷ ds) h).positive (some-quanta e ds (other-parts d (e ∷ ds) h))

pub some-sums : (d : DrrClass) (ds : List DrrClass) → AreParts (d ∷ ds) → 1 ≤ sums_on (level_of d) (levels_of ds)
some-sums d ds h = omega (arith, some-quanta d ds h, no-more-than-sums d ds h)

no-more-numbers : (x q P A m Q L S R y k n : ℕ) → y * Q < x * q + A + Q → S * R < (y + m) * P + L + k * R → P ≤ R → 1 ≤ Q → n ≡ k + 1
    → S * (Q * R) < x * (q * P) + ((A + m * Q) * P + Q * L) + n * (Q * R)
no-more-numbers x q P A m Q L S R y k n here rest whole one next =
    let a : (y * Q) * P ≤ (x * q + A + Q) * P = mul-le-mul_right P (omega (arith, here)) in
    let b : Q * (S * R + 1) ≤ Q * ((y + m) * P + L + k * R) = mul-le-mul_left Q (omega (arith, rest)) in
    let c : Q * P ≤ Q * R = mul-le-mul_left Q whole in
    let a_left : (y * Q) * P ≡ Q * (y * P) = ap (λ k. k * P) (mul_comm y Q) ∙ mul_assoc Q y P in
    let a_right : (x * q + A + Q) * P ≡ (x * q) * P + A * P + Q * P = add-mul (x * q + A) Q P ∙ ap (λ n. n + Q * P) (add-mul (x * q) A P) in
    let a_first : (x * q) * P ≡ x * (q * P) = mul_assoc x q P in
    let b_left : Q * (S * R + 1) ≡ Q * (S * R) + Q * 1 = mul-add Q (S * R) 1 in
    let b_same : Q * (S * R) ≡ S * (Q * R) = sym (mul_assoc Q S R) ∙ ap (λ k. k * R) (mul_comm Q S) ∙ mul_assoc S Q R in
    let b_right : Q * ((y + m) * P + L + k * R) ≡ Q * ((y + m) * P) + Q * L + Q * (k * R) = mul-add Q ((y + m) * P + L) (k * R) ∙ ap (λ n. n + Q * (k * R)) (mul-add Q ((y + m) * P) L) in
    let b_split : Q * ((y + m) * P) ≡ Q * (y * P) + Q * (m * P) = ap (λ k. Q * k) (add-mul y m P) ∙ mul-add Q (y * P) (m * P) in
    let b_more : Q * (k * R) ≡ k * (Q * R) = sym (mul_assoc Q k R) ∙ ap (λ n. n * R) (mul_comm Q k) ∙ mul_assoc k Q R in
    let held : (A + m * Q) * P ≡ A * P + (m * Q) * P = add-mul A (m * Q) P in
    let held_same : (m * Q) * P ≡ Q * (m * P) = ap (λ k. k * P) (mul_comm m Q) ∙ mul_assoc Q m P in
    let steps : n * (Q * R) ≡ k * (Q * R) + 1 * (Q * R) = ap (λ j. j * (Q * R)) next ∙ add-mul k 1 (Q * R) in
    omega (arith, a, b, c, a_left, a_right, a_first, b_left, b_same, b_right, b_split, b_more, held, held_same, steps, one)

pub no-more : (mtu x : ℕ) (d : DrrClass) (ds : List DrrClass) → AreParts (d ∷ ds)
    → slack_on mtu x (shares (d ∷ ds)) * sums_on (level_of d) (levels_of ds) < x * quanta_on (level_of d) (levels_of ds)
    + lacks_on mtu (level_of d) (levels_of ds) + (length (levels_of ds) + 1) * sums_on (level_of d) (levels_of ds)
no-more mtu x d [] h =
    let s : Share = share_of d in
    let part = first-part d [] h in
    let most = (div_ceil_times (x * s.quantum + lacks_of_bytes s.classes s.quantum s.quanta mtu) s.quanta (omega (arith, part.positive, part.part))).1 in
    omega (arith, most)
no-more mtu x d (e ∷ ds) h =
    let s : Share = share_of d in
    let part = first-part d (e ∷ ds) h in
    let A : ℕ = lacks_of_bytes s.classes s.quantum s.quanta mtu in
    let y : ℕ = lack_at mtu x s in
    let some : 1 ≤ s.quanta = omega (arith, part.positive, part.part) in
    let here : y * s.quanta < x * s.quantum + A + s.quanta = (div_ceil_times (x * s.quantum + A) s.quanta some).1 in
    let rest : AreParts (e ∷ ds) = other-parts d (e ∷ ds) h in
    no-more-numbers x s.quantum (quanta_on (level_of e) (levels_of ds)) A mtu s.quanta (lacks_on mtu (level_of e) (levels_of ds))
    (slack_on mtu (y + mtu) (shares (e ∷ ds))) (sums_on (level_of e) (levels_of ds)) y
    (length (levels_of ds) + 1) (length (levels_of (e ∷ ds)) + 1) here (no-more mtu (y + mtu) e ds rest) (no-more-than-sums e ds rest) some (omega arith)

-- ---- the part

part-numbers : (p v w q Q P R : ℕ) → v * Q ≤ w * q → p * R ≤ v * P → p * (Q * R) ≤ w * (q * P)
part-numbers p v w q Q P R here rest =
    let a : (v * Q) * P ≤ (w * q) * P = mul-le-mul_right P here in
    let b : Q * (p * R) ≤ Q * (v * P) = mul-le-mul_left Q rest in
    let a_left : (v * Q) * P ≡ Q * (v * P) = ap (λ k. k * P) (mul_comm v Q) ∙ mul_assoc Q v P in
    let a_right : (w * q) * P ≡ w * (q * P) = mul_assoc w q P in
    let b_left : Q * (p * R) ≡ p * (Q * R) = sym (mul_assoc Q p R) ∙ ap (λ k. k * R) (mul_comm Q p) ∙ mul_assoc p Q R in
    omega (arith, a, b, a_left, a_right, b_left)

pub rounded-down : (w : ℕ) (d : DrrClass) (ds : List DrrClass) → part_of (shares (d ∷ ds)) w * sums_on (level_of d) (levels_of ds) ≤ w * quanta_on (level_of d) (levels_of ds)
rounded-down w d [] = div-mul-le_self (w * (share_of d).quantum) (share_of d).quanta
rounded-down w d (e ∷ ds) =
    let s : Share = share_of d in
    let v : ℕ = w * s.quantum / s.quanta in
    part-numbers (part_of (shares (e ∷ ds)) v) v w s.quantum s.quanta (quanta_on (level_of e) (levels_of ds)) (sums_on (level_of e) (levels_of ds))
    (div-mul-le_self (w * s.quantum) s.quanta) (rounded-down v e ds)

-- a factor on both sides
pub cancel-le : (a b k : ℕ) → 1 ≤ k → a * k ≤ b * k → a ≤ b
cancel-le a b k one h = elim (cases_lt b a) [
  | inr no_more ↦ no_more
  | inl more ↦
      let turned : (b + 1) * k ≤ a * k = mul-le-mul_right k (omega (arith, more)) in
      let split : (b + 1) * k ≡ b * k + 1 * k = add-mul b 1 k in
      absurd (omega (arith, h, turned, split, one))
]

-- ---- together

-- what is sent in a time of t, at r, of which P of R is the class's; the slack S is enough for what lacks
pub timed-numbers : (r t P R sent lacking S U : ℕ) → r * t * P < (sent * R + lacking) * U → lacking ≤ S * R → r * t * P < (sent + S) * R * U
timed-numbers r t P R sent lacking S U less fits =
    let most : (sent * R + lacking) * U ≤ ((sent + S) * R) * U = mul-le-mul_right U (omega (arith, fits, add-mul sent S R)) in
    omega (arith, less, most)

pub timed-part : (part r t P R X U : ℕ) → part * R ≤ r * P → r * t * P < X * R * U → part * t < X * U
timed-part part r t P R X U rounded less =
    cancel-lt (part * t) (X * U) R
    (let most : t * (part * R) ≤ t * (r * P) = mul-le-mul_left t rounded in
    let left : (part * t) * R ≡ t * (part * R) = ap (λ k. k * R) (mul_comm part t) ∙ mul_assoc t part R in
    let right : t * (r * P) ≡ r * t * P = sym (mul_assoc t r P) ∙ ap (λ k. k * P) (mul_comm t r) in
    let whole : (X * U) * R ≡ X * R * U = mul_assoc X U R ∙ ap (λ k. X * k) (mul_comm U R) ∙ sym (mul_assoc X R U) in
    omega (arith, most, left, right, whole, less))

pub shared-part : (part all P R X : ℕ) → 1 ≤ R → part * R ≤ all * P → all * P ≤ X * R → part ≤ X
shared-part part all P R X one rounded fits = cancel-le part X R one (omega (arith, rounded, fits))

-- ---- the lateness

pub late-room : (mtu late : ℕ) (link : Link) → mtu * units_in_byte + link.rate ≤ link.burst * units_in_byte → late ≡ late_on mtu link → HasRoom mtu late link.rate link.burst
late-room mtu late link room is =
    let r : ℕ = link.rate in
    let spare : ℕ = (link.burst - mtu) * units_in_byte - r in
    let most : spare / max r 1 * max r 1 ≤ spare = div-mul-le_self spare (max r 1) in
    let part : late * r ≤ spare / max r 1 * max r 1 = mul-le-mul (omega (arith, is)) (omega arith) in
    let split : r * (late + 1) ≡ r * late + r * 1 = mul-add r late 1 in
    omega (arith, room, most, part, split, mul_comm r late)

pub late-most : (mtu late : ℕ) (link : Link) → 1 ≤ link.rate → mtu * units_in_byte + link.rate ≤ link.burst * units_in_byte → late ≡ late_on mtu link → late < 2 ^ 62
    → HasRoom mtu (late + 1) link.rate link.burst → ⊥
late-most mtu late link one room is less more =
    let r : ℕ = link.rate in
    let spare : ℕ = (link.burst - mtu) * units_in_byte - r in
    let whole : max r 1 ≡ r = omega (arith, one) in
    let over : spare < spare / r * r + r = lt-div-mul-add (omega (arith, one)) in
    let same : late ≡ spare / r = (let cut : late ≡ spare / max r 1 = omega (arith, is, less) in cut) ∙ ap (λ n. spare / n) whole in
    let split : r * (late + 1 + 1) ≡ r * late + r * 2 = ap (λ n. r * n) (let two : late + 1 + 1 ≡ late + 2 = omega arith in two) ∙ mul-add r late 2 in
    let turned : r * late ≡ spare / r * r = ap (λ n. r * n) same ∙ mul_comm r (spare / r) in
    omega (arith, over, split, turned, more, room)
