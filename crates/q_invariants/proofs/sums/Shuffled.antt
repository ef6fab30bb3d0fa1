-- Packets that weigh the same by every weight are the same packets, in another order, but for their codepoints.
use Rattle.std.proofs.Common.{◌≡◌, ℕ, ◌<◌, List, [], ◌∷◌, ◌++◌, map, refl, sym, ap, subst, arith, ◌∙◌}
use Rattle.std.specs.Prelude.{Bool, true, false, ◌&&◌, ◌==◌}
use Rattle.std.specs.List.{filter_map}
use Rattle.std.specs.List.Sorted.{IsPermutation}
use Rattle.std.proofs.lemmas.Bool.{and_parts, eqb-true, eq-eqb, and_from}
use Rattle.std.proofs.lemmas.List.{map-append}
use Rattle.std.proofs.lemmas.List.Sorted.{IsPermutation-refl, IsPermutation-sym, IsPermutation-trans, IsPermutation-cons, IsPermutation-middle}
use Rattle.q_packet.specs.Descriptor.{Descriptor}
use Rattle.q_packet.specs.Key.{Key}
use Rattle.q_packet.specs.declared.ecn.Ecn.TheVariants.{NotEct}
use Rattle.q_model.specs.Tally.{Note, Arrived, Sent, Lost, Marked, Granted, Spent, FlowGranted, FlowGave}
use Rattle.q_model.specs.Conserved.{arrival_in, sent_in, lost_in}
use Rattle.q_model.specs.Conserved as node
use Rattle.q_invariants.specs.Kept.{AreCounted}
use Rattle.q_invariants.specs.Weights.{arrived, lost, plain, sent, weigh}
use Rattle.q_invariants.proofs.sums.Weights.{weigh-nil, weigh-cons, weigh-append, one_if, counting, arrived-nil, sent-nil, lost-nil, arrived-cons, sent-cons, lost-cons}

-- the same packet, but for its codepoint
abbrev same_key : Key → Key → Bool
same_key a b = (a.family == b.family) && (a.proto == b.proto) && (a.src == b.src) && (a.dst == b.dst) && (a.sport == b.sport) && (a.dport == b.dport)

abbrev same : Descriptor → Descriptor → Bool
same a b = (a.port == b.port) && (a.number == b.number) && (a.buf == b.buf) && (a.len == b.len) && same_key a.key b.key && (a.hash == b.hash) && (a.prio == b.prio)

-- records with equal fields are equal
key-made : (f1 p1 s1 d1 sp1 dp1 f2 p2 s2 d2 sp2 dp2 : ℕ) → f1 ≡ f2 → p1 ≡ p2 → s1 ≡ s2 → d1 ≡ d2 → sp1 ≡ sp2 → dp1 ≡ dp2
    → ◌≡◌ {A = Key} (record { family = f1; proto = p1; src = s1; dst = d1; sport = sp1; dport = dp1 }) (record { family = f2; proto = p2; src = s2; dst = d2; sport = sp2; dport = dp2 })
key-made f1 p1 s1 d1 sp1 dp1 f2 p2 s2 d2 sp2 dp2 e1 e2 e3 e4 e5 e6 = cc

packet-made : (p1 n1 b1 l1 : ℕ) (k1 : Key) (h1 q1 p2 n2 b2 l2 : ℕ) (k2 : Key) (h2 q2 : ℕ) → p1 ≡ p2 → n1 ≡ n2 → b1 ≡ b2 → l1 ≡ l2 → k1 ≡ k2 → h1 ≡ h2 → q1 ≡ q2
    → ◌≡◌ {A = Descriptor} (record { port = p1; number = n1; buf = b1; len = l1; key = k1; hash = h1; prio = q1; ecn = NotEct })
    (record { port = p2; number = n2; buf = b2; len = l2; key = k2; hash = h2; prio = q2; ecn = NotEct })
packet-made p1 n1 b1 l1 k1 h1 q1 p2 n2 b2 l2 k2 h2 q2 e1 e2 e3 e4 e5 e6 e7 = cc

pub key-is : (a b : Key) → same_key a b ≡ true → a ≡ b
key-is a b h =
    let h5 = and_parts ((a.family == b.family) && (a.proto == b.proto) && (a.src == b.src) && (a.dst == b.dst) && (a.sport == b.sport)) (a.dport == b.dport) h in
    let h4 = and_parts ((a.family == b.family) && (a.proto == b.proto) && (a.src == b.src) && (a.dst == b.dst)) (a.sport == b.sport) h5.0 in
    let h3 = and_parts ((a.family == b.family) && (a.proto == b.proto) && (a.src == b.src)) (a.dst == b.dst) h4.0 in
    let h2 = and_parts ((a.family == b.family) && (a.proto == b.proto)) (a.src == b.src) h3.0 in
    let h1 = and_parts (a.family == b.family) (a.proto == b.proto) h2.0 in
    let family = eqb-true a.family b.family h1.0 in
    let proto = eqb-true a.proto b.proto h1.1 in
    let src = eqb-true a.src b.src h2.1 in
    let dst = eqb-true a.dst b.dst h3.1 in
    let sport = eqb-true a.sport b.sport h4.1 in
    let dport = eqb-true a.dport b.dport h5.1 in
    key-made a.family a.proto a.src a.dst a.sport a.dport b.family b.proto b.src b.dst b.sport b.dport family proto src dst sport dport

same-is : (a b : Descriptor) → same a b ≡ true → plain a ≡ plain b
same-is a b h =
    let h6 = and_parts ((a.port == b.port) && (a.number == b.number) && (a.buf == b.buf) && (a.len == b.len) && same_key a.key b.key && (a.hash == b.hash)) (a.prio == b.prio) h in
    let h5 = and_parts ((a.port == b.port) && (a.number == b.number) && (a.buf == b.buf) && (a.len == b.len) && same_key a.key b.key) (a.hash == b.hash) h6.0 in
    let h4 = and_parts ((a.port == b.port) && (a.number == b.number) && (a.buf == b.buf) && (a.len == b.len)) (same_key a.key b.key) h5.0 in
    let h3 = and_parts ((a.port == b.port) && (a.number == b.number) && (a.buf == b.buf)) (a.len == b.len) h4.0 in
    let h2 = and_parts ((a.port == b.port) && (a.number == b.number)) (a.buf == b.buf) h3.0 in
    let h1 = and_parts (a.port == b.port) (a.number == b.number) h2.0 in
    let port = eqb-true a.port b.port h1.0 in
    let number = eqb-true a.number b.number h1.1 in
    let buf = eqb-true a.buf b.buf h2.1 in
    let len = eqb-true a.len b.len h3.1 in
    let key = key-is a.key b.key h4.1 in
    let hash = eqb-true a.hash b.hash h5.1 in
    let prio = eqb-true a.prio b.prio h6.1 in
    packet-made a.port a.number a.buf a.len a.key a.hash a.prio b.port b.number b.buf b.len b.key b.hash b.prio port number buf len key hash prio

itself : (n : ℕ) → (n == n) ≡ true
itself n = eq-eqb n n refl

key-itself : (k : Key) → same_key k k ≡ true
key-itself k =
    and_from ((k.family == k.family) && (k.proto == k.proto) && (k.src == k.src) && (k.dst == k.dst) && (k.sport == k.sport)) (k.dport == k.dport)
    (and_from ((k.family == k.family) && (k.proto == k.proto) && (k.src == k.src) && (k.dst == k.dst)) (k.sport == k.sport)
    (and_from ((k.family == k.family) && (k.proto == k.proto) && (k.src == k.src)) (k.dst == k.dst)
    (and_from ((k.family == k.family) && (k.proto == k.proto)) (k.src == k.src)
    (and_from (k.family == k.family) (k.proto == k.proto) (itself k.family) (itself k.proto)) (itself k.src)) (itself k.dst)) (itself k.sport)) (itself k.dport)

same-itself : (a : Descriptor) → same a a ≡ true
same-itself a =
    and_from ((a.port == a.port) && (a.number == a.number) && (a.buf == a.buf) && (a.len == a.len) && same_key a.key a.key && (a.hash == a.hash)) (a.prio == a.prio)
    (and_from ((a.port == a.port) && (a.number == a.number) && (a.buf == a.buf) && (a.len == a.len) && same_key a.key a.key) (a.hash == a.hash)
    (and_from ((a.port == a.port) && (a.number == a.number) && (a.buf == a.buf) && (a.len == a.len)) (same_key a.key a.key)
    (and_from ((a.port == a.port) && (a.number == a.number) && (a.buf == a.buf)) (a.len == a.len)
    (and_from ((a.port == a.port) && (a.number == a.number)) (a.buf == a.buf)
    (and_from (a.port == a.port) (a.number == a.number) (itself a.port) (itself a.number)) (itself a.buf)) (itself a.len)) (key-itself a.key)) (itself a.hash)) (itself a.prio)

-- a packet among others, where it weighs
record IsAmong (x : Descriptor) (ys : List Descriptor) : Type 0 where
  front : List Descriptor
  it : Descriptor
  rest : List Descriptor
  is : ys ≡ front ++ it ∷ rest
  alike : plain x ≡ plain it

find-it : (x : Descriptor) (ys : List Descriptor) → 0 < weigh (counting (same x)) ys → IsAmong x ys
find-it x [] h = absurd (omega (arith, h, weigh-nil (counting (same x))))
find-it x (y ∷ ys) h = by (same x y) refl (find-it x ys)
  where
    by : (b : Bool) → same x y ≡ b → (0 < weigh (counting (same x)) ys → IsAmong x ys) → IsAmong x (y ∷ ys)
    by true e behind = record { front = []; it = y; rest = ys; is = refl; alike = same-is x y e }
    by false e behind =
        let none : one_if (same x y) ≡ 0 = ap one_if e in
        let r = behind (omega (arith, h, weigh-cons (counting (same x)) y ys, none)) in
        record { front = y ∷ r.front; it = r.it; rest = r.rest; is = ap (λ zs. y ∷ zs) r.is; alike = r.alike }

weighs-some : (y : Descriptor) (ys : List Descriptor) → weigh (λ p. 1) (y ∷ ys) ≡ 0 → ⊥
weighs-some y ys e = omega (arith, e, weigh-cons (λ p. 1) y ys)

pub shuffled : (xs ys : List Descriptor) → ((w : Descriptor → ℕ) → weigh w xs ≡ weigh w ys) → IsPermutation (map plain xs) (map plain ys)
shuffled [] [] h = IsPermutation-refl []
shuffled [] (y ∷ ys) h = absurd (weighs-some y ys (omega (arith, h (λ p. 1), weigh-nil (λ p. 1))))
shuffled (x ∷ xs) ys h =
    let one : one_if (same x x) ≡ 1 = ap one_if (same-itself x) in
    let found = find-it x ys (omega (arith, h (counting (same x)), weigh-cons (counting (same x)) x xs, one)) in
    let rest : List Descriptor = found.front ++ found.rest in
    let fewer : (w : Descriptor → ℕ) → weigh w xs ≡ weigh w rest = λ w. omega (
      arith,
      h w,
      weigh-cons w x xs,
      ap (weigh w) found.is,
      weigh-append w found.front (found.it ∷ found.rest),
      weigh-cons w found.it found.rest,
      ap w found.alike,
      weigh-append w found.front found.rest,
    ) in
    let moved : IsPermutation (plain x ∷ map plain rest) (map plain ys) =
    subst (λ zs. IsPermutation (plain x ∷ map plain rest) zs) (sym (ap (map plain) found.is ∙ map-append plain found.front (found.it ∷ found.rest)))
    (subst (λ zs. IsPermutation (plain x ∷ zs) (map plain found.front ++ plain found.it ∷ map plain found.rest)) (sym (map-append plain found.front found.rest))
    (subst (λ z. IsPermutation (z ∷ (map plain found.front ++ map plain found.rest)) (map plain found.front ++ plain found.it ∷ map plain found.rest)) (sym found.alike)
    (IsPermutation-sym (map plain found.front ++ plain found.it ∷ map plain found.rest)
    (plain found.it ∷ (map plain found.front ++ map plain found.rest))
    (IsPermutation-middle (map plain found.front) (plain found.it) (map plain found.rest))))) in
    IsPermutation-trans (plain x ∷ map plain xs) (plain x ∷ map plain rest) (map plain ys)
    (IsPermutation-cons (plain x) (map plain xs) (map plain rest) (shuffled xs rest fewer)) moved

-- the packets among notes, weighed
pub weigh-arrivals : (w : Descriptor → ℕ) (notes : List Note) → weigh w (filter_map arrival_in notes) ≡ arrived w notes
weigh-arrivals w [] = omega (arith, weigh-nil w, arrived-nil w)
weigh-arrivals w (Arrived p ∷ notes) = omega (arith, weigh-cons w p (filter_map arrival_in notes), arrived-cons w (Arrived p) notes, weigh-arrivals w notes)
weigh-arrivals w (Sent p ∷ notes) = omega (arith, arrived-cons w (Sent p) notes, weigh-arrivals w notes)
weigh-arrivals w (Lost p cause ∷ notes) = omega (arith, arrived-cons w (Lost p cause) notes, weigh-arrivals w notes)
weigh-arrivals w (Marked p ∷ notes) = omega (arith, arrived-cons w (Marked p) notes, weigh-arrivals w notes)
weigh-arrivals w (Granted c k ∷ notes) = omega (arith, arrived-cons w (Granted c k) notes, weigh-arrivals w notes)
weigh-arrivals w (Spent b ∷ notes) = omega (arith, arrived-cons w (Spent b) notes, weigh-arrivals w notes)
weigh-arrivals w (FlowGranted f k ∷ notes) = omega (arith, arrived-cons w (FlowGranted f k) notes, weigh-arrivals w notes)
weigh-arrivals w (FlowGave f b ∷ notes) = omega (arith, arrived-cons w (FlowGave f b) notes, weigh-arrivals w notes)

pub weigh-sent : (w : Descriptor → ℕ) (notes : List Note) → weigh w (filter_map sent_in notes) ≡ sent w notes
weigh-sent w [] = omega (arith, weigh-nil w, sent-nil w)
weigh-sent w (Arrived p ∷ notes) = omega (arith, sent-cons w (Arrived p) notes, weigh-sent w notes)
weigh-sent w (Sent p ∷ notes) = omega (arith, weigh-cons w p (filter_map sent_in notes), sent-cons w (Sent p) notes, weigh-sent w notes)
weigh-sent w (Lost p cause ∷ notes) = omega (arith, sent-cons w (Lost p cause) notes, weigh-sent w notes)
weigh-sent w (Marked p ∷ notes) = omega (arith, sent-cons w (Marked p) notes, weigh-sent w notes)
weigh-sent w (Granted c k ∷ notes) = omega (arith, sent-cons w (Granted c k) notes, weigh-sent w notes)
weigh-sent w (Spent b ∷ notes) = omega (arith, sent-cons w (Spent b) notes, weigh-sent w notes)
weigh-sent w (FlowGranted f k ∷ notes) = omega (arith, sent-cons w (FlowGranted f k) notes, weigh-sent w notes)
weigh-sent w (FlowGave f b ∷ notes) = omega (arith, sent-cons w (FlowGave f b) notes, weigh-sent w notes)

weigh-lost : (w : Descriptor → ℕ) (notes : List Note) → weigh w (filter_map lost_in notes) ≡ lost w notes
weigh-lost w [] = omega (arith, weigh-nil w, lost-nil w)
weigh-lost w (Arrived p ∷ notes) = omega (arith, lost-cons w (Arrived p) notes, weigh-lost w notes)
weigh-lost w (Sent p ∷ notes) = omega (arith, lost-cons w (Sent p) notes, weigh-lost w notes)
weigh-lost w (Lost p cause ∷ notes) = omega (arith, weigh-cons w p (filter_map lost_in notes), lost-cons w (Lost p cause) notes, weigh-lost w notes)
weigh-lost w (Marked p ∷ notes) = omega (arith, lost-cons w (Marked p) notes, weigh-lost w notes)
weigh-lost w (Granted c k ∷ notes) = omega (arith, lost-cons w (Granted c k) notes, weigh-lost w notes)
weigh-lost w (Spent b ∷ notes) = omega (arith, lost-cons w (Spent b) notes, weigh-lost w notes)
weigh-lost w (FlowGranted f k ∷ notes) = omega (arith, lost-cons w (FlowGranted f k) notes, weigh-lost w notes)
weigh-lost w (FlowGave f b ∷ notes) = omega (arith, lost-cons w (FlowGave f b) notes, weigh-lost w notes)

pub is-conserved : (notes : List Note) (waiting held : List Descriptor) → AreCounted notes waiting held → node.IsConserved notes waiting
is-conserved notes waiting held c = shuffled (filter_map arrival_in notes) (filter_map sent_in notes ++ filter_map lost_in notes ++ waiting)
    (λ w. omega (
      arith,
      c.conserved w,
      weigh-arrivals w notes,
      weigh-sent w notes,
      weigh-lost w notes,
      weigh-append w (filter_map sent_in notes ++ filter_map lost_in notes) waiting,
      weigh-append w (filter_map sent_in notes) (filter_map lost_in notes),
    ))
