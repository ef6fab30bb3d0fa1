-- Packets that arrive in order, after so many of them.
use Rattle.std.proofs.Common.{◌≡◌, ℕ, zero, suc, ◌+◌, ◌-◌, ◌<◌, ◌≤◌, List, [], ◌∷◌, ◌++◌, refl, sym, ap, ap₂, subst, ◌∙◌, append_assoc, arith, Some, None}
use Rattle.std.specs.Prelude.{All, IfSome, drop, length, map, replicate, set, slice_get, slice_index_or, take}
use Rattle.std.specs.List.{between}
use Rattle.std.proofs.lemmas.List.{append-nil, drop-drop, drop_at, length-drop, length-map, map-append, take_at}
use Rattle.std.proofs.lemmas.Slice.{between_to_end}
use Rattle.std.proofs.Math.ListN.{drop_of_length-le}
use Rattle.std.proofs.Math.Seq.{take-add}
use borrow.Rule.Slice.PartMut.{put_mid}
use Rattle.std.proofs.lemmas.List.Elements.{All-append, All-cons, All-nil, All-same}
use Rattle.q_packet.specs.Stored.{IsStored}
use Rattle.q_packet.specs.declared.stored_packet.StoredPacket.{StoredPacket}
use Rattle.q_model.specs.declared.fate.Fate.{Fate}
use Rattle.q_model.specs.declared.fate.Fate.TheVariants.{Kept}
use Rattle.q_device.specs.declared.bursts.Stopped.{Stopped}
use Rattle.q_device.specs.declared.bursts.Stopped.TheVariants as stopped
use Rattle.q_device.specs.device.Bursts.{IsArrivals, IsArriving, IsNotNext, IsStoppedAt, arrival, arrived_by, fate_in, fates_by}
use Rattle.q_device.specs.device.DeviceSeen.{DeviceSeen}
use Rattle.q_device.specs.device.Room.{KeepsPlaces}
use Rattle.q_device.specs.Events.{after_event, reply_to, with_memory}
use Rattle.q_device.proofs.device.BurstEvents.{arrived-memory, fates-memory}
use Rattle.q_device.proofs.device.EventMemory.{after-memory, reply-memory}
use Rattle.q_device.proofs.device.PlaceLemmas.{filled-more, length-front, map-more, some-is-none}
use Rattle.q_device.proofs.device.RoomLemmas.{keeps-same, keeps-then}

-- ---- one packet more

arrived-more : (now : ℕ) (cs : List StoredPacket) (c : StoredPacket) (d : DeviceSeen) → arrived_by now (cs ++ c ∷ []) d ≡ after_event (arrival now c) (arrived_by now cs d)
arrived-more now [] c d = refl
arrived-more now (x ∷ cs) c d = arrived-more now cs c (after_event (arrival now x) d)

fates-more : (now : ℕ) (cs : List StoredPacket) (c : StoredPacket) (d : DeviceSeen)
    → fates_by now (cs ++ c ∷ []) d ≡ fates_by now cs d ++ fate_in (reply_to (arrival now c) (arrived_by now cs d)) ∷ []
fates-more now [] c d = refl
fates-more now (x ∷ cs) c d = ap (λ fs. fate_in (reply_to (arrival now x) d) ∷ fs) (fates-more now cs c (after_event (arrival now x) d))

pub fates-length : (now : ℕ) (cs : List StoredPacket) (d : DeviceSeen) → length (fates_by now cs d) ≡ length cs
fates-length now [] d = refl
fates-length now (x ∷ cs) d = ap suc (fates-length now cs (after_event (arrival now x) d))

map-replicate : {A B : Type 0} (f : A → B) (n : ℕ) (x : A) → map f (replicate n x) ≡ replicate n (f x)
map-replicate f zero x = refl
map-replicate f (suc n) x = ap (λ ys. f x ∷ ys) (map-replicate f n x)

-- before the first of them
pub arriving-starts : {A : Type 0} (answer : Fate → A) (now : ℕ) (packets : List StoredPacket) (before : List A) (d : DeviceSeen) → IsArriving answer 0 now packets before before d d
arriving-starts answer now packets before d = record { arrived = refl; fates = refl; in_range = All-nil IsStored; places = keeps-same d; first = λ none. refl }

pub arriving-more : {A : Type 0} (answer : Fate → A) (i now : ℕ) (packets : List StoredPacket) (before after : List A) (d d' d'' : DeviceSeen) (c : StoredPacket) (f : Fate) (x : A)
    → IsArriving answer i now packets before after d d' → i < length packets → length packets ≤ length before → take (i + 1) packets ≡ take i packets ++ c ∷ []
    → d'' ≡ with_memory d''.memory (after_event (arrival now c) d') → f ≡ fate_in (reply_to (arrival now c) d') → IsStored c → KeepsPlaces d' d'' → x ≡ answer f
    → IsArriving answer (i + 1) now packets before (set after i x) d d''
arriving-more {A = A} answer i now packets before after d d' d'' c f x inv lt room more event fate stored places is =
    let next : suc i ≡ i + 1 = omega arith in
    let firsts = take i packets in
    let y = arrived_by now firsts d in
    let fs : List A = map answer (fates_by now firsts d) in
    let counted : length fs ≡ i = length-map (fates_by now firsts d) answer ∙ fates-length now firsts d ∙ length-front i packets (omega (arith, lt)) in
    let told : x ≡ answer (fate_in (reply_to (arrival now c) y)) =
    is ∙ ap answer (fate ∙ (ap (λ (z : DeviceSeen). fate_in (reply_to (arrival now c) z)) inv.arrived ∙ ap fate_in (reply-memory (arrival now c) d'.memory y))) in
    record {
      arrived = event
          ∙ (ap (λ (z : DeviceSeen). with_memory d''.memory (after_event (arrival now c) z)) inv.arrived
          ∙ (ap (λ (z : DeviceSeen). with_memory d''.memory z) (after-memory (arrival now c) d'.memory y)
          ∙ ap (λ (z : DeviceSeen). with_memory d''.memory z) (sym (ap (λ (cs : List StoredPacket). arrived_by now cs d) more ∙ arrived-more now firsts c d))));
      fates = ap (λ (xs : List A). set xs i x) inv.fates
          ∙ (subst (λ (k : ℕ). set (fs ++ drop k before) k x ≡ (fs ++ x ∷ []) ++ drop (suc k) before) counted (filled-more fs before x (omega (arith, counted, lt, room)))
          ∙ ap₂ (λ (xs : List A) (k : ℕ). xs ++ drop k before)
          (ap (λ (z : A). fs ++ z ∷ []) told
          ∙ sym (ap (λ (cs : List StoredPacket). map answer (fates_by now cs d)) more ∙ ap (λ (gs : List Fate). map answer gs) (fates-more now firsts c d)
          ∙ map-more answer (fates_by now firsts d) (fate_in (reply_to (arrival now c) y)))) next);
      in_range = All-same IsStored (take (i + 1) packets) (firsts ++ c ∷ []) more (All-append IsStored firsts (c ∷ []) inv.in_range (All-cons IsStored c [] stored (All-nil IsStored)));
      places = keeps-then d d' d'' inv.places places;
      first = λ e. absurd (omega (arith, e));
    }

-- ---- many packets more

arrived-join : (now : ℕ) (cs ds : List StoredPacket) (d : DeviceSeen) → arrived_by now (cs ++ ds) d ≡ arrived_by now ds (arrived_by now cs d)
arrived-join now [] ds d = refl
arrived-join now (c ∷ cs) ds d = arrived-join now cs ds (after_event (arrival now c) d)

fates-join : (now : ℕ) (cs ds : List StoredPacket) (d : DeviceSeen) → fates_by now (cs ++ ds) d ≡ fates_by now cs d ++ fates_by now ds (arrived_by now cs d)
fates-join now [] ds d = refl
fates-join now (c ∷ cs) ds d = ap (λ (fs : List Fate). fate_in (reply_to (arrival now c) d) ∷ fs) (fates-join now cs ds (after_event (arrival now c) d))

-- so many more were kept, all at once
pub arriving-burst : {A : Type 0} (answer : Fate → A) (i k now : ℕ) (packets : List StoredPacket) (before after ends : List A) (d d' d'' : DeviceSeen)
    → IsArriving answer i now packets before after d d' → i ≤ length packets → d'' ≡ with_memory d''.memory (arrived_by now (take k (drop i packets)) d')
    → fates_by now (take k (drop i packets)) d' ≡ replicate k Kept → ends ≡ take i after ++ (replicate k (answer Kept) ++ drop k (drop i after))
    → All IsStored (take k (drop i packets)) → KeepsPlaces d' d'' → (k ≡ 0 → d'' ≡ d') → IsArriving answer (i + k) now packets before ends d d''
arriving-burst {A = A} answer i k now packets before after ends d d' d'' inv within arrived fates written in_range places none =
    let firsts : List StoredPacket = take i packets in
    let more : List StoredPacket = take k (drop i packets) in
    let both : take (i + k) packets ≡ firsts ++ more = take-add i k packets in
    let y : DeviceSeen = arrived_by now firsts d in
    let fs : List A = map answer (fates_by now firsts d) in
    let gs : List A = map answer (fates_by now more y) in
    let counted : length fs ≡ i = length-map (fates_by now firsts d) answer ∙ fates-length now firsts d ∙ length-front i packets within in
    let here : fates_by now more d' ≡ fates_by now more y = ap (λ (x : DeviceSeen). fates_by now more x) inv.arrived ∙ fates-memory now more d'.memory y in
    let told : replicate k (answer Kept) ≡ gs = sym (map-replicate answer k Kept) ∙ ap (λ (hs : List Fate). map answer hs) (sym fates ∙ here) in
    let front : take i after ≡ fs = ap (λ (xs : List A). take i xs) inv.fates ∙ take_at fs (drop i before) i counted in
    let back : drop i after ≡ drop i before = ap (λ (xs : List A). drop i xs) inv.fates ∙ drop_at fs (drop i before) i counted in
    record {
      arrived = arrived
          ∙ (ap (λ (x : DeviceSeen). with_memory d''.memory (arrived_by now more x)) inv.arrived
          ∙ (ap (λ (x : DeviceSeen). with_memory d''.memory x) (arrived-memory now more d'.memory y)
          ∙ ap (λ (x : DeviceSeen). with_memory d''.memory x) (sym (ap (λ (cs : List StoredPacket). arrived_by now cs d) both ∙ arrived-join now firsts more d))));
      fates = written
          ∙ (ap₂ (λ (xs ys : List A). xs ++ (replicate k (answer Kept) ++ drop k ys)) front back
          ∙ (ap₂ (λ (xs ys : List A). fs ++ (xs ++ ys)) told (drop-drop k i before)
          ∙ (sym (append_assoc fs gs (drop (i + k) before))
          ∙ ap (λ (xs : List A). xs ++ drop (i + k) before)
          (sym (ap (λ (cs : List StoredPacket). map answer (fates_by now cs d)) both ∙ ap (λ (hs : List Fate). map answer hs) (fates-join now firsts more d)
          ∙ map-append answer (fates_by now firsts d) (fates_by now more y))))));
      in_range = All-same IsStored (take (i + k) packets) (firsts ++ more) both (All-append IsStored firsts more inv.in_range in_range);
      places = keeps-then d d' d'' inv.places places;
      first = λ e. none (omega (arith, e)) ∙ inv.first (omega (arith, e));
    }

-- the same where packets and places are the parts behind the first ones
pub arriving-part : {A : Type 0} (answer : Fate → A) (i k now : ℕ) (packets : List StoredPacket) (before after part : List A) (d d' d'' : DeviceSeen)
    → IsArriving answer i now packets before after d d' → i ≤ length packets → d'' ≡ with_memory d''.memory (arrived_by now (take k (between i (length packets) packets)) d')
    → fates_by now (take k (between i (length packets) packets)) d' ≡ replicate k Kept → part ≡ replicate k (answer Kept) ++ drop k (between i (length after) after)
    → All IsStored (take k (between i (length packets) packets)) → KeepsPlaces d' d'' → (k ≡ 0 → d'' ≡ d')
    → IsArriving answer (i + k) now packets before (put_mid i (length after - i) after part) d d''
arriving-part {A = A} answer i k now packets before after part d d' d'' inv within arrived fates written in_range places none =
    let rest : between i (length packets) packets ≡ drop i packets = between_to_end packets i (length packets) (omega arith) in
    let left : between i (length after) after ≡ drop i after = between_to_end after i (length after) (omega arith) in
    let past : drop (length after - i) (drop i after) ≡ [] = drop-drop (length after - i) i after ∙ drop_of_length-le after (omega arith) in
    arriving-burst answer i k now packets before after (put_mid i (length after - i) after part) d d' d'' inv within
    (subst (λ (cs : List StoredPacket). d'' ≡ with_memory d''.memory (arrived_by now (take k cs) d')) rest arrived)
    (subst (λ (cs : List StoredPacket). fates_by now (take k cs) d' ≡ replicate k Kept) rest fates)
    (ap (λ (xs : List A). take i after ++ (part ++ xs)) past
    ∙ ap (λ (xs : List A). take i after ++ xs) (append-nil part ∙ written ∙ ap (λ (xs : List A). replicate k (answer Kept) ++ drop k xs) left))
    (subst (λ (cs : List StoredPacket). All IsStored (take k cs)) rest in_range) places none

-- so many of those behind the first ones are among all
pub part-within : {A : Type 0} (i k : ℕ) (xs : List A) → k ≤ length (between i (length xs) xs) → i ≤ length xs → i + k ≤ length xs
part-within i k xs few within = omega (arith, few, within, ap length (between_to_end xs i (length xs) (omega arith)), length-drop i xs)

-- all of them arrived
pub arriving-ends : {A : Type 0} (answer : Fate → A) (i now : ℕ) (packets : List StoredPacket) (before after : List A) (d d' : DeviceSeen)
    → IsArriving answer i now packets before after d d' → i ≡ length packets → IsArrivals answer now packets None i before after d d'
arriving-ends answer i now packets before after d d' inv end = record {
  arrived = inv.arrived;
  fates = inv.fates;
  in_range = inv.in_range;
  most = omega (arith, end);
  all = λ _. end;
  stopped = tt;
  next = tt;
  places = inv.places;
}

there : {A : Type 0} (P : A → Type 0) (xs : List A) (i : ℕ) (d : A) → i < length xs → P (slice_index_or xs i d) → IfSome (slice_get xs i) P
there P [] i d lt is = absurd (omega (arith, lt))
there P (x ∷ xs) zero d lt is = is
there P (x ∷ xs) (suc i) d lt is = there P xs i d (omega (arith, lt)) is

-- the next one did not
pub arriving-stops : {A : Type 0} (answer : Fate → A) (i now : ℕ) (why : Stopped) (packets : List StoredPacket) (before after : List A) (d d' d'' : DeviceSeen) (z : StoredPacket)
    → IsArriving answer i now packets before after d d' → i < length packets → IsNotNext (slice_index_or packets i z) why d' d'' → KeepsPlaces d' d''
    → IsArrivals answer now packets (Some why) i before after d d''
arriving-stops answer i now why packets before after d d' d'' z inv lt did places =
    let c : StoredPacket = slice_index_or packets i z in
    let cs = take i packets in
    let still = stays why did in
    record {
      arrived = still;
      fates = inv.fates;
      in_range = inv.in_range;
      most = omega (arith, lt);
      all = λ e. absurd (some-is-none e);
      stopped = there (λ next. IsStoppedAt now cs next why d d'') packets i z lt (stops why did);
      next = lt;
      places = keeps-then d d' d'' inv.places places;
    }
  where
    stays : (w : Stopped) → IsNotNext (slice_index_or packets i z) w d' d'' → d'' ≡ with_memory d''.memory (arrived_by now (take i packets) d)
    stays stopped.OutOfRange h = h.1 ∙ inv.arrived ∙ ap (λ (y : DeviceSeen). with_memory y.memory (arrived_by now (take i packets) d)) (sym h.1)
    stays stopped.Memory h = h.stays.stays ∙ ap (λ (y : DeviceSeen). with_memory d''.memory y) inv.arrived

    stops : (w : Stopped) → IsNotNext (slice_index_or packets i z) w d' d'' → IsStoppedAt now (take i packets) (slice_index_or packets i z) w d d''
    stops stopped.OutOfRange h = (h.0, stays stopped.OutOfRange h)
    stops stopped.Memory h = (
      h.stored,
      record {
        full = d';
        made = inv.arrived;
        places = inv.places;
        first = λ none. inv.first (omega (arith, none, length-front i packets (omega (arith, lt))));
        memory = h.memory;
        room = h.room;
        stays = h.stays;
      },
    )
