-- Packets that come to a ring, and leave it, one after another.
use Rattle.std.proofs.Common.{◌≡◌, ℕ, zero, suc, ◌+◌, ◌-◌, ◌*◌, ◌^◌, ◌<◌, ◌≤◌, List, [], ◌∷◌, ◌++◌, refl, sym, ap, ap₂, subst, ◌∙◌, append_assoc, arith, Some, None, inl, inr}
use Rattle.std.specs.Prelude.{All, IfSome, drop, length, map, min, set, slice_get, slice_index_or, sum_by, take}
use Rattle.std.proofs.lemmas.List.{drop-drop, length-append, length-drop, length-map, take-append-drop}
use Rattle.std.proofs.lemmas.List.Sums.{sum_by-cons, sum_by_push}
use Rattle.std.proofs.lemmas.List.Elements.{All-append, All-drop, All-map, All-nil, All-push, All-same, All-weaker}
use Rattle.std.proofs.lemmas.Bool.{cases_lt}
use Rattle.std.proofs.lemmas.Option.{none-some, same_Some}
use Rattle.q_packet.specs.Descriptor.{Descriptor}
use Rattle.q_packet.specs.Stored.{descriptor}
use Rattle.q_packet.specs.Totals.{size}
use Rattle.q_packet.proofs.TotalsLemmas.{size-cons, size_push}
use Rattle.q_packet.specs.declared.stamped.Stamped.{Stamped}
use Rattle.q_packet.specs.declared.stored_packet.StoredPacket.{StoredPacket}
use Rattle.q_codel.specs.Bursts.{HasWidths, IsShort, stamped_at}
use Rattle.q_codel.specs.FifoState.{IsKept}
use Rattle.q_codel.specs.Ring.{RingState}
use Rattle.q_codel.proofs.Counted.{one_more}

bytes_of : List StoredPacket → ℕ
bytes_of cs = sum_by (λ (p : Descriptor). p.len) (map descriptor cs)

-- ---- in

-- the first `i` packets were appended
pub record IsPushing (i now longest : ℕ) (packets : List StoredPacket) (sum : ℕ) (before ring : RingState) : Type 0 where
  pub taken : All (IsShort longest) (take i packets)
  pub widths : All HasWidths (take i packets)
  pub bytes : sum ≡ sum_by (λ (p : Descriptor). p.len) (map descriptor (take i packets))
  pub bound : sum ≤ i * 65535
  pub after : ring ≡ record before { packets = before.packets ++ stamped_at now (map descriptor (take i packets)) }

map-more : {A B : Type 0} (f : A → B) (xs : List A) (x : A) → map f (xs ++ x ∷ []) ≡ map f xs ++ f x ∷ []
map-more f [] x = refl
map-more f (w ∷ xs) x = ap (λ ys. f w ∷ ys) (map-more f xs x)

append-none : {A : Type 0} (xs : List A) → xs ≡ xs ++ []
append-none [] = refl
append-none (x ∷ xs) = ap (λ ys. x ∷ ys) (append-none xs)

pub pushing-begins : (now longest : ℕ) (packets : List StoredPacket) (ring : RingState) → IsPushing 0 now longest packets 0 ring ring
pushing-begins now longest packets ring = record {
  taken = All-nil (IsShort longest);
  widths = All-nil HasWidths;
  bytes = refl;
  bound = omega arith;
  after = ap (λ (ps : List Stamped). record ring { packets = ps }) (append-none ring.packets);
}

pub pushing-more : (i now longest : ℕ) (packets : List StoredPacket) (bytes : ℕ) (before after after2 : RingState) (c : StoredPacket) → IsPushing i now longest packets bytes before after
    → take (i + 1) packets ≡ take i packets ++ c ∷ [] → IsShort longest c → HasWidths c → after2 ≡ record after { packets = after.packets ++ record { packet = descriptor c; at = now } ∷ [] }
    → IsPushing (i + 1) now longest packets (bytes + c.len) before after2
pushing-more i now longest packets bytes before after after2 c inv more short widths is =
    let firsts = take i packets in
    let queued : stamped_at now (map descriptor (take (i + 1) packets)) ≡ stamped_at now (map descriptor firsts) ++ record { packet = descriptor c; at = now } ∷ [] =
    ap (λ (cs : List StoredPacket). stamped_at now (map descriptor cs)) more
    ∙ (ap (λ (ps : List Descriptor). stamped_at now ps) (map-more descriptor firsts c)
    ∙ map-more (λ (p : Descriptor). record { packet = p; at = now }) (map descriptor firsts) (descriptor c)) in
    record {
      taken = All-same (IsShort longest) (take (i + 1) packets) (firsts ++ c ∷ []) more (All-push (IsShort longest) firsts c inv.taken short);
      widths = All-same HasWidths (take (i + 1) packets) (firsts ++ c ∷ []) more (All-push HasWidths firsts c inv.widths widths);
      bytes = ap (λ n. n + c.len) inv.bytes
          ∙ sym (ap (λ (cs : List StoredPacket). sum_by (λ (p : Descriptor). p.len) (map descriptor cs)) more
          ∙ (ap (λ (ps : List Descriptor). sum_by (λ (p : Descriptor). p.len) ps) (map-more descriptor firsts c)
          ∙ sum_by_push (λ (p : Descriptor). p.len) (map descriptor firsts) (descriptor c)));
      bound = omega (arith, inv.bound, widths.len);
      after = is
          ∙ (ap (λ (r : RingState). record r { packets = r.packets ++ record { packet = descriptor c; at = now } ∷ [] }) inv.after
          ∙ ap (λ (ps : List Stamped). record before { packets = ps })
          (append_assoc before.packets (stamped_at now (map descriptor firsts)) (record { packet = descriptor c; at = now } ∷ []) ∙ ap (λ (ps : List Stamped). before.packets ++ ps) (sym queued)));
    }

-- ---- out

-- the first `i` packets were taken, and are told of in the first places
pub record IsPopping {A : Type 0} (told : Descriptor → A) (i sum : ℕ) (before_places places : List A) (before after : RingState) : Type 0 where
  pub bytes : sum ≡ size (take i before.packets)
  pub bound : sum ≤ i * 65535
  pub tells : places ≡ map (λ (s : Stamped). told s.packet) (take i before.packets) ++ drop i before_places
  pub rest : after ≡ record before { packets = drop i before.packets }

pub popping-begins : {A : Type 0} (told : Descriptor → A) (places : List A) (ring : RingState) → IsPopping told 0 0 places places ring ring
popping-begins told places ring = record { bytes = refl; bound = omega arith; tells = refl; rest = refl }

-- the first ones are filled with `xs`, and `x` comes next
filled-more : {A : Type 0} (xs ys : List A) (x : A) → length xs < length ys → set (xs ++ drop (length xs) ys) (length xs) x ≡ (xs ++ x ∷ []) ++ drop (suc (length xs)) ys
filled-more [] (y ∷ ys) x lt = refl
filled-more (w ∷ xs) (y ∷ ys) x lt = ap (λ zs. w ∷ zs) (filled-more xs ys x (omega (arith, lt)))
filled-more [] [] x lt = absurd (omega (arith, lt))
filled-more (w ∷ xs) [] x lt = absurd (omega (arith, lt))

taken-next : (i : ℕ) (xs : List Stamped) (x : Stamped) → slice_get (drop i xs) 0 ≡ Some x → take (suc i) xs ≡ take i xs ++ x ∷ []
taken-next zero [] x e = absurd (none-some x e)
taken-next zero (w ∷ xs) x e = ap (λ (y : Stamped). y ∷ []) (same_Some w x e)
taken-next (suc i) [] x e = absurd (none-some x e)
taken-next (suc i) (w ∷ xs) x e = ap (λ (ys : List Stamped). w ∷ ys) (taken-next i xs x e)

length-taken : (i : ℕ) (xs : List Stamped) → i ≤ length xs → length (take i xs) ≡ i
length-taken zero xs le = refl
length-taken (suc i) [] le = absurd (omega (arith, le))
length-taken (suc i) (w ∷ xs) le = ap suc (length-taken i xs (omega (arith, le)))

pub popping-more : {A : Type 0} (told : Descriptor → A) (i bytes len : ℕ) (before_places after_places : List A) (before after after2 : RingState) (s : Stamped) (t : A)
    → IsPopping told i bytes before_places after_places before after → i < length before.packets → i < length before_places → slice_get after.packets 0 ≡ Some s → len ≡ s.packet.len → len < 2 ^ 16
    → t ≡ told s.packet → after2 ≡ record after { packets = drop 1 after.packets }
    → IsPopping told (i + 1) (bytes + len) before_places (set after_places i t) before after2
popping-more {A = A} told i bytes len before_places after_places before after after2 s t inv lt place front is_len short is_told rest =
    let next : suc i ≡ i + 1 = omega arith in
    let at : slice_get (drop i before.packets) 0 ≡ Some s = ap (λ (r : RingState). slice_get r.packets 0) (sym inv.rest) ∙ front in
    let more : take (i + 1) before.packets ≡ take i before.packets ++ s ∷ [] = subst (λ (k : ℕ). take k before.packets ≡ take i before.packets ++ s ∷ []) next (taken-next i before.packets s at) in
    let xs : List A = map (λ (x : Stamped). told x.packet) (take i before.packets) in
    let counted : length xs ≡ i = length-map (take i before.packets) (λ (x : Stamped). told x.packet) ∙ length-taken i before.packets (omega (arith, lt)) in
    record {
      bytes = ap₂ (λ m n. m + n) inv.bytes is_len ∙ sym (ap (λ (q : List Stamped). size q) more ∙ size_push (take i before.packets) s);
      bound = omega (arith, inv.bound, short);
      tells = ap (λ (ys : List A). set ys i t) inv.tells
          ∙ (subst (λ (k : ℕ). set (xs ++ drop k before_places) k t ≡ (xs ++ t ∷ []) ++ drop (suc k) before_places) counted (filled-more xs before_places t (omega (arith, counted, place)))
          ∙ ap₂ (λ (ys : List A) (k : ℕ). ys ++ drop k before_places)
          (ap (λ (y : A). xs ++ y ∷ []) is_told ∙ sym
          (ap (λ (q : List Stamped). map (λ (x : Stamped). told x.packet) q) more ∙ map-more (λ (x : Stamped). told x.packet)
          (take i before.packets) s)) next);
      rest = rest
          ∙ (ap (λ (r : RingState). record r { packets = drop 1 r.packets }) inv.rest
          ∙ ap (λ (ps : List Stamped). record before { packets = ps }) (drop-drop 1 i before.packets));
    }

-- past the last there is none
pub none-behind : (cs : List StoredPacket) → slice_get cs (length cs) ≡ None
none-behind [] = refl
none-behind (c ∷ cs) = none-behind cs

-- where this one is in its place
pub next-not : {A : Type 0} (P : A → Type 0) (xs : List A) (i : ℕ) (d : A) → i < length xs → (P (slice_index_or xs i d) → ⊥) → IfSome (slice_get xs i) (λ x. P x → ⊥)
next-not P [] i d lt is_not = absurd (omega (arith, lt))
next-not P (x ∷ xs) zero d lt is_not = is_not
next-not P (x ∷ xs) (suc i) d lt is_not = next-not P xs i d (omega (arith, lt)) is_not

length-stamped : (now : ℕ) (ps : List Descriptor) → length (stamped_at now ps) ≡ length ps
length-stamped now ps = length-map ps (λ (p : Descriptor). record { packet = p; at = now })

pub length-first : {A : Type 0} (i : ℕ) (xs : List A) → i ≤ length xs → length (take i xs) ≡ i
length-first zero xs le = refl
length-first (suc i) [] le = absurd (omega (arith, le))
length-first (suc i) (w ∷ xs) le = ap suc (length-first i xs (omega (arith, le)))

-- there is a place for the next one
pub pushing-room : (i now longest : ℕ) (packets : List StoredPacket) (sum : ℕ) (before after : RingState) → IsPushing i now longest packets sum before after → i < length packets
    → length before.packets + length packets ≤ before.places → length after.packets < after.places
pushing-room i now longest packets sum before after inv lt room =
    let more = stamped_at now (map descriptor (take i packets)) in
    let count : length more ≡ i = length-stamped now (map descriptor (take i packets)) ∙ (length-map (take i packets) descriptor ∙ length-first i packets (omega (arith, lt))) in
    omega (arith, lt, room, count, length-append before.packets more, ap (λ (r : RingState). length r.packets) inv.after, ap (λ (r : RingState). r.places) inv.after)

pub pushing-ends : (i now longest : ℕ) (packets : List StoredPacket) (sum : ℕ) (before after : RingState) → IsPushing i now longest packets sum before after → i ≡ length packets
    → IsPushing (length packets) now longest packets sum before after
pushing-ends i now longest packets sum before after inv end = subst (λ (k : ℕ). IsPushing k now longest packets sum before after) end inv

-- one is left to take
pub popping-left : {A : Type 0} (told : Descriptor → A) (i sum : ℕ) (before_places places : List A) (before after : RingState) → IsPopping told i sum before_places places before after
    → i < length before.packets → 0 < length after.packets
popping-left told i sum before_places places before after inv lt = omega (arith, lt, length-drop i before.packets, ap (λ (r : RingState). length r.packets) inv.rest)

pub popping-ends : {A : Type 0} (told : Descriptor → A) (i most sum : ℕ) (before_places places : List A) (before after : RingState) → IsPopping told i sum before_places places before after
    → i ≡ most → IsPopping told most sum before_places places before after
popping-ends told i most sum before_places places before after inv end = subst (λ (k : ℕ). IsPopping told k sum before_places places before after) end inv

-- ---- the queue

size-append : (xs ys : List Stamped) → size (xs ++ ys) ≡ size xs + size ys
size-append [] ys = omega arith
size-append (x ∷ xs) ys = omega (arith, size-cons x (xs ++ ys), size-cons x xs, size-append xs ys)

size-stamped : (now : ℕ) (ps : List Descriptor) → size (stamped_at now ps) ≡ sum_by (λ (p : Descriptor). p.len) ps
size-stamped now [] = refl
size-stamped now (p ∷ ps) = omega (arith, size-cons (record { packet = p; at = now }) (stamped_at now ps), sum_by-cons (λ (x : Descriptor). x.len) p ps, size-stamped now ps)

short-stamped : (now : ℕ) (cs : List StoredPacket) → All HasWidths cs → All (λ (s : Stamped). s.packet.len < 2 ^ 16) (stamped_at now (map descriptor cs))
short-stamped now cs h =
    All-map (λ (s : Stamped). s.packet.len < 2 ^ 16) (λ (p : Descriptor). record { packet = p; at = now }) (map descriptor cs)
    (All-map (λ (p : Descriptor). p.len < 2 ^ 16) descriptor cs (All-weaker HasWidths (λ (c : StoredPacket). c.len < 2 ^ 16) (λ c w. w.len) cs h))

-- with these packets behind the others
pub kept-more : (bytes sum now : ℕ) (before after : RingState) (cs : List StoredPacket) → IsKept bytes before.packets before.places
    → after ≡ record before { packets = before.packets ++ stamped_at now (map descriptor cs) } → All HasWidths cs → sum ≡ sum_by (λ (p : Descriptor). p.len) (map descriptor cs)
    → length before.packets + length cs ≤ before.places → IsKept (bytes + sum) after.packets after.places
kept-more bytes sum now before after cs k is widths total room =
    let more : List Stamped = stamped_at now (map descriptor cs) in
    let counted : length more ≡ length cs = length-stamped now (map descriptor cs) ∙ length-map cs descriptor in
    subst (λ (r : RingState). IsKept (bytes + sum) r.packets r.places) (sym is) (record {
      counted = record {
        summed = omega (arith, k.counted.summed, total, size-append before.packets more, size-stamped now (map descriptor cs));
        short = All-append (λ (s : Stamped). s.packet.len < 2 ^ 16) before.packets more k.counted.short (short-stamped now cs widths);
        few = omega (arith, k.usable, room, counted, length-append before.packets more);
      };
      usable = k.usable;
    })

pub kept-fits : (bytes : ℕ) (packets : List Stamped) (places : ℕ) → IsKept bytes packets places → bytes < 2 ^ 64
kept-fits bytes packets places k = omega (arith, one_more bytes packets 0 k.counted (omega arith))

-- and without the first ones
pub kept-rest : (bytes sum n : ℕ) (before after : RingState) → IsKept bytes before.packets before.places
    → after ≡ record before { packets = drop n before.packets } → sum ≡ size (take n before.packets)
    → IsKept (bytes - sum) after.packets after.places
kept-rest bytes sum n before after k is total =
    let whole : size before.packets ≡ size (take n before.packets) + size (drop n before.packets) =
    sym (ap (λ (q : List Stamped). size q) (take-append-drop n before.packets)) ∙ size-append (take n before.packets) (drop n before.packets) in
    subst (λ (r : RingState). IsKept (bytes - sum) r.packets r.places) (sym is) (record {
      counted = record {
        summed = omega (arith, k.counted.summed, total, whole);
        short = All-drop (λ (s : Stamped). s.packet.len < 2 ^ 16) n before.packets k.counted.short;
        few = omega (arith, k.counted.few, length-drop n before.packets);
      };
      usable = k.usable;
    })

pub rest-within : (bytes n : ℕ) (packets : List Stamped) (places : ℕ) → IsKept bytes packets places → size (take n packets) ≤ bytes
rest-within bytes n packets places k =
    let whole : size packets ≡ size (take n packets) + size (drop n packets) = sym (ap (λ (q : List Stamped). size q) (take-append-drop n packets)) ∙ size-append (take n packets) (drop n packets) in
    omega (arith, k.counted.summed, whole)

-- what is there among the first ones
get-take : {A : Type 0} (n i : ℕ) (xs : List A) → i < n → slice_get (take n xs) i ≡ slice_get xs i
get-take zero i xs lt = absurd (omega (arith, lt))
get-take (suc n) i [] lt = refl
get-take (suc n) zero (x ∷ xs) lt = refl
get-take (suc n) (suc i) (x ∷ xs) lt = get-take n i xs (omega (arith, lt))

get-past : {A : Type 0} (i : ℕ) (xs : List A) → length xs ≤ i → slice_get xs i ≡ None
get-past i [] le = refl
get-past zero (x ∷ xs) le = absurd (omega (arith, le))
get-past (suc i) (x ∷ xs) le = get-past i xs (omega (arith, le))

pub get-first : {A : Type 0} (P : A → Type 0) (n i room : ℕ) (xs : List A) → n ≡ min room (length xs) → IfSome (slice_get (take n xs) i) P → i < room → IfSome (slice_get xs i) P
get-first P n i room xs is h lt = elim (cases_lt i n) [
  | inl below ↦ subst (λ o. IfSome o P) (get-take n i xs below) h
  | inr above ↦ subst (λ o. IfSome o P) (sym (get-past i xs (omega (arith, is, above, lt)))) tt
]
