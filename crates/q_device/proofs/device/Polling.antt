-- Polls into lent places, in each of which something is told of a packet, after so many of them.
use Rattle.std.proofs.Common.{◌≡◌, ℕ, suc, ◌+◌, ◌-◌, ◌<◌, ◌≤◌, List, [], ◌∷◌, ◌++◌, refl, sym, ap, ap₂, subst, ◌∙◌, append_assoc, arith, true≢false, Bool, true, false, Option, Some, None}
use Rattle.std.specs.Prelude.{drop, length, map, option_map, set, take}
use Rattle.std.specs.List.{between}
use Rattle.std.proofs.lemmas.List.{append-nil, drop-drop, drop_at, length-append, length-drop, length-map, map-append, take_at}
use Rattle.std.proofs.lemmas.Slice.{between_to_end}
use Rattle.std.proofs.Math.ListN.{drop_of_length-le}
use borrow.Rule.Slice.PartMut.{put_mid}
use Rattle.q_packet.specs.Descriptor.{Descriptor}
use Rattle.q_model.specs.declared.event.Event.TheVariants.{Poll}
use Rattle.q_device.specs.device.DeviceSeen.{DeviceSeen}
use Rattle.q_device.specs.device.Polls.{after_poll, given_at, given_by, or_last, polled_by}
use Rattle.q_device.specs.Events.{reply_to}
use Rattle.q_device.proofs.device.PollLemmas.{given-more, given-none, polled-more, polled-none}
use Rattle.q_device.specs.declared.given.Given.{Given}
use Rattle.q_device.specs.declared.given.Given.TheVariants as given
use Rattle.q_device.specs.device.Bursts.{AreGivenAt, IsPolledFirst, IsPolling, IsPolls, after_polls, answer_by, given_as}
use Rattle.q_device.proofs.device.PlaceLemmas.{filled-more, length-more, map-more, none-is-none, some-item}

-- ---- a poll more

-- the packet of which this is told
record IsOf {A : Type 0} (told : Descriptor → A) (given : Option Descriptor) (t : A) : Type 0 where
  pub packet : Descriptor
  pub gives : given ≡ Some packet
  pub is : told packet ≡ t

told-of : {A : Type 0} (told : Descriptor → A) (given : Option Descriptor) (t : A) → option_map told given ≡ Some t → IsOf told given t
told-of told None t e = absurd (none-is-none e)
told-of told (Some p) t e = record { packet = p; gives = refl; is = some-item e }

-- the answer after a poll that gave a packet, and after one that gave none
answer-more : (n now : ℕ) (d d' : DeviceSeen) (p : Descriptor) → given_at now d ≡ Some p → d' ≡ after_poll now d → answer_by (suc n) now d ≡ answer_by n now d'
answer-more n now d d' p gives is =
    ap (λ (o : Option Descriptor). or_last o (given_as (reply_to (Poll now) d)) (answer_by n now (after_poll now d))) gives ∙ ap (λ (x : DeviceSeen). answer_by n now x) (sym is)

answer-none : (n now : ℕ) (d : DeviceSeen) → given_at now d ≡ None → answer_by (suc n) now d ≡ given_as (reply_to (Poll now) d)
answer-none n now d none = ap (λ (o : Option Descriptor). or_last o (given_as (reply_to (Poll now) d)) (answer_by n now (after_poll now d))) none

-- ---- all polls

-- where the first of them gave a packet each
given-burst : (ps : List Descriptor) (m now : ℕ) (d : DeviceSeen) → AreGivenAt now ps d → ps ++ given_by m now (after_polls now (length ps) d) ≡ given_by (length ps + m) now d
given-burst [] m now d h = ap (λ (k : ℕ). given_by k now d) (omega arith)
given-burst (p ∷ ps) m now d h =
    let more : suc (length ps + m) ≡ suc (length ps) + m = omega arith in
    ap (λ (qs : List Descriptor). p ∷ qs) (given-burst ps m now (after_poll now d) h.1) ∙ (sym (given-more (length ps + m) now d (after_poll now d) p h.0 refl) ∙ ap (λ (k : ℕ). given_by k now d) more)

polled-burst : (ps : List Descriptor) (m now : ℕ) (d : DeviceSeen) → AreGivenAt now ps d → polled_by m now (after_polls now (length ps) d) ≡ polled_by (length ps + m) now d
polled-burst [] m now d h = ap (λ (k : ℕ). polled_by k now d) (omega arith)
polled-burst (p ∷ ps) m now d h =
    let more : suc (length ps + m) ≡ suc (length ps) + m = omega arith in
    polled-burst ps m now (after_poll now d) h.1 ∙ (sym (polled-more (length ps + m) now d (after_poll now d) p h.0 refl) ∙ ap (λ (k : ℕ). polled_by k now d) more)

answer-burst : (ps : List Descriptor) (m now : ℕ) (d : DeviceSeen) → AreGivenAt now ps d → answer_by m now (after_polls now (length ps) d) ≡ answer_by (length ps + m) now d
answer-burst [] m now d h = ap (λ (k : ℕ). answer_by k now d) (omega arith)
answer-burst (p ∷ ps) m now d h =
    let more : suc (length ps + m) ≡ suc (length ps) + m = omega arith in
    answer-burst ps m now (after_poll now d) h.1 ∙ (sym (answer-more (length ps + m) now d (after_poll now d) p h.0 refl) ∙ ap (λ (k : ℕ). answer_by k now d) more)

pub polling-more : {A : Type 0} (told : Descriptor → A) (i n now : ℕ) (before after : List A) (d d' d'' : DeviceSeen) (t : A) → IsPolling told i n now before after d d' → i < n → length before ≡ n
    → option_map told (given_at now d') ≡ Some t → d'' ≡ after_poll now d' → IsPolling told (i + 1) n now before (set after i t) d d''
polling-more {A = A} told i n now before after d d' d'' t inv lt len gives is =
    let it : IsOf told (given_at now d') t = told-of told (given_at now d') t gives in
    let p : Descriptor = it.packet in
    let xs : List A = map told inv.firsts in
    let left : n - i ≡ suc (n - (i + 1)) = omega (arith, lt) in
    let next : suc i ≡ i + 1 = omega arith in
    let counted : length xs ≡ i = length-map inv.firsts told ∙ inv.counted in
    let tells : map told (inv.firsts ++ p ∷ []) ≡ xs ++ t ∷ [] = map-more told inv.firsts p ∙ ap (λ (x : A). xs ++ x ∷ []) it.is in
    let more : given_by (n - i) now d' ≡ p ∷ given_by (n - (i + 1)) now d'' = ap (λ (k : ℕ). given_by k now d') left ∙ given-more (n - (i + 1)) now d' d'' p it.gives is in
    record {
      firsts = inv.firsts ++ p ∷ [];
      counted = length-more inv.firsts p ∙ (ap suc inv.counted ∙ next);
      places = ap (λ (ys : List A). set ys i t) inv.places
          ∙ (subst (λ (k : ℕ). set (xs ++ drop k before) k t ≡ (xs ++ t ∷ []) ++ drop (suc k) before) counted
          (filled-more xs before t (omega (arith, counted, lt, len)))
          ∙ (ap (λ (k : ℕ). (xs ++ t ∷ []) ++ drop k before) next ∙ ap (λ (ys : List A). ys ++ drop (i + 1) before) (sym tells)));
      given = append_assoc inv.firsts (p ∷ []) (given_by (n - (i + 1)) now d'') ∙ (ap (λ (ps : List Descriptor). inv.firsts ++ ps) (sym more) ∙ inv.given);
      polled = sym (ap (λ (k : ℕ). polled_by k now d') left ∙ polled-more (n - (i + 1)) now d' d'' p it.gives is) ∙ inv.polled;
      answer = sym (ap (λ (k : ℕ). answer_by k now d') left ∙ answer-more (n - (i + 1)) now d' d'' p it.gives is) ∙ inv.answer;
    }

-- so many more polls gave a packet each, of which the places behind the first ones tell
pub polling-part : {A : Type 0} (told : Descriptor → A) (i k n now : ℕ) (before after part : List A) (d d' d'' : DeviceSeen) → IsPolling told i n now before after d d'
    → IsPolledFirst told now k (between i (length after) after) part d' d'' → i + k ≤ n → length after ≡ n
    → IsPolling told (i + k) n now before (put_mid i (length after - i) after part) d d''
polling-part {A = A} told i k n now before after part d d' d'' inv first within len =
    let ps : List Descriptor = first.packets in
    let fs : List A = map told inv.firsts in
    let m : ℕ = n - (i + k) in
    let whole : length ps + m ≡ n - i = omega (arith, first.counted, within) in
    let is : d'' ≡ after_polls now (length ps) d' = first.polled ∙ ap (λ (j : ℕ). after_polls now j d') (sym first.counted) in
    let counted : length fs ≡ i = length-map inv.firsts told ∙ inv.counted in
    let front : take i after ≡ fs = ap (λ (xs : List A). take i xs) inv.places ∙ take_at fs (drop i before) i counted in
    let back : drop i after ≡ drop i before = ap (λ (xs : List A). drop i xs) inv.places ∙ drop_at fs (drop i before) i counted in
    let left : between i (length after) after ≡ drop i after = between_to_end after i (length after) (omega arith) in
    let past : drop (length after - i) (drop i after) ≡ [] = drop-drop (length after - i) i after ∙ drop_of_length-le after (omega (arith, len, within)) in
    let more : ps ++ given_by m now d'' ≡ given_by (n - i) now d' =
    ap (λ (x : DeviceSeen). ps ++ given_by m now x) is ∙ (given-burst ps m now d' first.given ∙ ap (λ (j : ℕ). given_by j now d') whole) in
    record {
      firsts = inv.firsts ++ ps;
      counted = omega (arith, length-append inv.firsts ps, inv.counted, first.counted);
      places = ap (λ (xs : List A). take i after ++ (part ++ xs)) past
          ∙ (ap (λ (xs : List A). take i after ++ xs) (append-nil part ∙ (first.places ∙ ap (λ (xs : List A). map told ps ++ drop k xs) left))
          ∙ (ap₂ (λ (xs ys : List A). xs ++ (map told ps ++ drop k ys)) front back
          ∙ (ap (λ (ys : List A). fs ++ (map told ps ++ ys)) (drop-drop k i before)
          ∙ (sym (append_assoc fs (map told ps) (drop (i + k) before)) ∙ ap (λ (xs : List A). xs ++ drop (i + k) before) (sym (map-append told inv.firsts ps))))));
      given = append_assoc inv.firsts ps (given_by m now d'') ∙ (ap (λ (qs : List Descriptor). inv.firsts ++ qs) more ∙ inv.given);
      polled = ap (λ (x : DeviceSeen). polled_by m now x) is ∙ (polled-burst ps m now d' first.given ∙ (ap (λ (j : ℕ). polled_by j now d') whole ∙ inv.polled));
      answer = ap (λ (x : DeviceSeen). answer_by m now x) is ∙ (answer-burst ps m now d' first.given ∙ (ap (λ (j : ℕ). answer_by j now d') whole ∙ inv.answer));
    }

-- there are still as many places
pub polling-long : {A : Type 0} (told : Descriptor → A) (i n now : ℕ) (before after : List A) (d d' : DeviceSeen) → IsPolling told i n now before after d d'
    → length before ≡ n → i ≤ n → length after ≡ n
polling-long told i n now before after d d' inv len within =
    omega (
      arith,
      ap length inv.places,
      length-append (map told inv.firsts) (drop i before),
      length-map inv.firsts told,
      inv.counted,
      length-drop i before,
      len,
      within,
    )

-- before the first of them
pub polling-starts : {A : Type 0} (told : Descriptor → A) (n now : ℕ) (before : List A) (d : DeviceSeen) → IsPolling told 0 n now before before d d
polling-starts told n now before d =
    let all : n - 0 ≡ n = omega arith in
    record {
      firsts = [];
      counted = refl;
      places = refl;
      given = ap (λ (k : ℕ). given_by k now d) all;
      polled = ap (λ (k : ℕ). polled_by k now d) all;
      answer = ap (λ (k : ℕ). answer_by k now d) all;
    }

-- nothing is left of them to give
polls-of : {A : Type 0} (told : Descriptor → A) (i n now : ℕ) (code : Given) (before after : List A) (d d' d'' : DeviceSeen) → (inv : IsPolling told i n now before after d d') → length before ≡ n
    → given_by (n - i) now d' ≡ [] → d'' ≡ polled_by (n - i) now d' → code ≡ answer_by (n - i) now d' → IsPolls told now code i before after d d''
polls-of {A = A} told i n now code before after d d' d'' inv len rest is answer =
    let given : inv.firsts ≡ given_by n now d = sym (append-nil inv.firsts) ∙ (ap (λ (ps : List Descriptor). inv.firsts ++ ps) (sym rest) ∙ inv.given) in
    record {
      polled = is ∙ (inv.polled ∙ ap (λ (k : ℕ). polled_by k now d) (sym len));
      answered = answer ∙ (inv.answer ∙ ap (λ (k : ℕ). answer_by k now d) (sym len));
      given = sym inv.counted ∙ (ap length given ∙ ap (λ (k : ℕ). length (given_by k now d)) (sym len));
      packets = inv.places
          ∙ (ap (λ (ps : List Descriptor). map told ps ++ drop i before) given ∙ ap (λ (k : ℕ). map told (given_by k now d) ++ drop i before) (sym len));
    }

-- all of them gave a packet
pub polling-ends : {A : Type 0} (told : Descriptor → A) (i n now : ℕ) (before after : List A) (d d' : DeviceSeen) → IsPolling told i n now before after d d' → i ≡ n → length before ≡ n
    → IsPolls told now given.Packet i before after d d'
polling-ends told i n now before after d d' inv end len =
    let none : 0 ≡ n - i = omega (arith, end) in
    polls-of told i n now given.Packet before after d d' d' inv len
    (ap (λ (k : ℕ). given_by k now d') (sym none)) (ap (λ (k : ℕ). polled_by k now d') none) (ap (λ (k : ℕ). answer_by k now d') none)

-- the next one gave none
pub polling-stops : {A : Type 0} (told : Descriptor → A) (i n now : ℕ) (code : Given) (before after : List A) (d d' d'' : DeviceSeen)
    → IsPolling told i n now before after d d' → i < n → length before ≡ n
    → given_at now d' ≡ None → d'' ≡ after_poll now d' → code ≡ given_as (reply_to (Poll now) d') → IsPolls told now code i before after d d''
polling-stops told i n now code before after d d' d'' inv lt len gives is answer =
    let left : n - i ≡ suc (n - (i + 1)) = omega (arith, lt) in
    polls-of told i n now code before after d d' d'' inv len
    (ap (λ (k : ℕ). given_by k now d') left ∙ given-none (n - (i + 1)) now d' gives)
    (is ∙ sym (ap (λ (k : ℕ). polled_by k now d') left ∙ polled-none (n - (i + 1)) now d' gives))
    (answer ∙ sym (ap (λ (k : ℕ). answer_by k now d') left ∙ answer-none (n - (i + 1)) now d' gives))

-- a poll that is answered so gave no packet
gives : Given → Bool
gives given.Packet = true
gives given.Idle = false
gives given.Later = false

pub idle-gives_none : given.Idle ≡ given.Packet → ⊥
unfolding gives
idle-gives_none e = true≢false (sym (ap gives e))

pub later-gives_none : given.Later ≡ given.Packet → ⊥
unfolding gives
later-gives_none e = true≢false (sym (ap gives e))
