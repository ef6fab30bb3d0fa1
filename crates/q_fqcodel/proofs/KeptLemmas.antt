-- Each call keeps a lawful state lawful, and the selection keeps the packets.
use Rattle.std.proofs.Common.{◌≡◌, ◌≢◌, ℕ, zero, suc, ◌+◌, ◌<◌, ◌≤◌, ◌⊎◌, inl, inr, pos, ◌≤ℤ◌, ◌<ℤ◌, true, false, ℤ, negsuc, List, [], ◌∷◌, ◌++◌, All, length, get_or, set, drop, Option, Some, None, option_map, refl, sym, ap, ◌∙◌, arith, ⊎_elim, subst, length-append}
use Rattle.std.specs.Prelude.{slice_get}
use Rattle.std.proofs.lemmas.Bool.{cases_Bool, cases_eq, cases_lt}
use Rattle.std.proofs.lemmas.Int.{ints}
use Rattle.std.proofs.lemmas.List.Sums.{sum_by-cons, sum_by_push}
use Rattle.std.proofs.lemmas.List.Elements.{All-head, All-tail}
use Rattle.q_packet.specs.Totals.{count, size}
use Rattle.q_packet.specs.Descriptor.{Descriptor}
use Rattle.q_packet.specs.declared.stamped.Stamped.{Stamped}
use Rattle.q_fqcodel.specs.Cleared.{adjust, clear}
use Rattle.q_fqcodel.specs.Entry.{Entry}
use Rattle.q_fqcodel.specs.Selection.{arranged}
use Rattle.q_fqcodel.specs.FqState.{Flow, FqState, queue_of, is_idle, packets_of, rested_flow}
use Rattle.q_fqcodel.specs.Lawful.{IsLawful}
use Rattle.q_fqcodel.specs.Put.{flow_of, joined, shortened, appended, fattest, shed_count, after_put}
use Rattle.q_fqcodel.specs.Ranges.{IsInRange}
use Rattle.q_fqcodel.specs.Take.{selected, flow_after, front, paid, sent_from, after_sending}
use Rattle.q_fqcodel.specs.Turns.{GoesOn, turns}
use Rattle.q_fqcodel.specs.Laws.{SelectionKeepsPackets, HasBytes, PutKeepsLawful, TakeKeepsLawful}
use Rattle.q_fqcodel.proofs.FatLemmas.{fat_some, fattest_most}
use Rattle.q_fqcodel.proofs.FlowLemmas.{length-adjust}
use Rattle.q_fqcodel.proofs.LawLemmas.{queues-clear, packets_of-appended}
use Rattle.q_fqcodel.proofs.LawfulLemmas.{lawful_shrunk, lawful_written}
use Rattle.q_fqcodel.proofs.PutLemmas.{own_queue, other_queue, busy_put, busy_shed, cut_none, cut_some, lawful_put, packets_of-shortened, shed_within, shed_positive}
use Rattle.q_fqcodel.proofs.SentLemmas.{front_is, front_none, after_none, after_sending_written, lists_written, written, count_after, flow-paid}
use Rattle.q_fqcodel.proofs.TurnLemmas.{LeadsOn, new_granted, new_moves, new_ready, old_granted, old_leaves, old_ready, none_left}

-- ---- the selection keeps the packets

adjust_get : {F : Type 0} (r : F → F) (m n : ℕ) (xs : List F) → (slice_get (adjust r m xs) n ≡ slice_get xs n) ⊎ (slice_get (adjust r m xs) n ≡ option_map r (slice_get xs n))
unfolding adjust
adjust_get r m n [] = inl refl
adjust_get r zero zero (x ∷ xs) = inr refl
adjust_get r zero (suc n) (x ∷ xs) = inl refl
adjust_get r (suc m) zero (x ∷ xs) = inl refl
adjust_get r (suc m) (suc n) (x ∷ xs) = adjust_get r m n xs

twice : {F : Type 0} (r : F → F) → ((x : F) → r (r x) ≡ r x) → (o : Option F) → option_map r (option_map r o) ≡ option_map r o
twice r same None = refl
twice r same (Some x) = ap (λ (y : _). Some y) (same x)

clear_get : {F : Type 0} (r : F → F) → ((x : F) → r (r x) ≡ r x) → (ns : List ℕ) (n : ℕ) (xs : List F)
    → (slice_get (clear r ns xs) n ≡ slice_get xs n) ⊎ (slice_get (clear r ns xs) n ≡ option_map r (slice_get xs n))
unfolding clear
clear_get r same [] n xs = inl refl
clear_get {F} r same (m ∷ ns) n xs =
    let ys : List F = adjust r m xs in
    ⊎_elim
    (λ (kept : slice_get (clear r ns ys) n ≡ slice_get ys n).
    ⊎_elim (λ (before : slice_get ys n ≡ slice_get xs n). inl (kept ∙ before)) (λ (now : slice_get ys n ≡ option_map r (slice_get xs n)). inr (kept ∙ now)) (adjust_get r m n xs))
    (λ (rests : slice_get (clear r ns ys) n ≡ option_map r (slice_get ys n)).
    ⊎_elim
    (λ (before : slice_get ys n ≡ slice_get xs n). inr (rests ∙ ap (option_map r) before))
    (λ (now : slice_get ys n ≡ option_map r (slice_get xs n)). inr (rests ∙ ap (option_map r) now ∙ twice r same (slice_get xs n)))
    (adjust_get r m n xs))
    (clear_get r same ns n ys)

rested_twice : (f : Flow) → rested_flow (rested_flow f) ≡ rested_flow f
unfolding rested_flow
rested_twice f = refl

pub selection_keeps_packets : SelectionKeepsPackets
unfolding selected
selection_keeps_packets s n =
    let gone : List ℕ = (arranged s.settings.quantum (is_idle s.flows) s.new_flows s.old_flows).gone in (
      ap (λ (qs : List (List Stamped)). get_or qs n []) (queues-clear (λ (_ : Stamped). 0) gone s.flows),
      clear_get rested_flow rested_twice gone n s.flows,
    )

-- ---- the selection keeps the state lawful, since each look at a front does

-- what is left to show once a look has led on to t
abbrev Onward : FqState → Type 0
Onward s = (t : FqState) → GoesOn s t → IsLawful t → 1 ≤ t.settings.quantum → IsLawful (selected t)

led_on : (s t : FqState) → Onward s → LeadsOn s t → 1 ≤ t.settings.quantum → IsLawful (selected s)
led_on s t onward led positive = subst (λ (x : FqState). IsLawful x) led.on.same (onward t led.on led.lawful positive)

stops : (s : FqState) → IsLawful s → selected s ≡ s → IsLawful (selected s)
stops s lawful chosen = subst (λ (x : FqState). IsLawful x) (sym chosen) lawful

cases_credits : (z : ℤ) → (z ≤ℤ pos 0) ⊎ (pos 0 <ℤ z)
cases_credits (pos zero) = inl (omega (arith, ints))
cases_credits (pos (suc n)) = inr (omega (arith, ints))
cases_credits (negsuc n) = inl (omega (arith, ints))

at_new : (s : FqState) (e : Entry) (rest : List Entry) → s.new_flows ≡ e ∷ rest → IsLawful s → 1 ≤ s.settings.quantum → Onward s → IsLawful (selected s)
at_new s e rest front lawful positive onward =
    ⊎_elim
    (λ (low : e.credits ≤ℤ pos 0). led_on s _ onward (new_granted s lawful e rest front positive low) positive)
    (λ (high : pos 0 <ℤ e.credits).
    ⊎_elim
    (λ (empty : is_idle s.flows e.flow ≡ true). led_on s _ onward (new_moves s lawful e rest front high empty) positive)
    (λ (busy : is_idle s.flows e.flow ≡ false). stops s lawful (new_ready s lawful e rest front high busy))
    (cases_Bool (is_idle s.flows e.flow)))
    (cases_credits e.credits)

at_old : (s : FqState) (e : Entry) (rest : List Entry) → s.new_flows ≡ [] → s.old_flows ≡ e ∷ rest → IsLawful s → 1 ≤ s.settings.quantum → Onward s → IsLawful (selected s)
at_old s e rest none front lawful positive onward =
    ⊎_elim
    (λ (low : e.credits ≤ℤ pos 0). led_on s _ onward (old_granted s lawful e rest none front positive low) positive)
    (λ (high : pos 0 <ℤ e.credits).
    ⊎_elim
    (λ (empty : is_idle s.flows e.flow ≡ true). led_on s _ onward (old_leaves s lawful e rest none front high empty) positive)
    (λ (busy : is_idle s.flows e.flow ≡ false). stops s lawful (old_ready s lawful e rest none front high busy))
    (cases_Bool (is_idle s.flows e.flow)))
    (cases_credits e.credits)

at_front : (s : FqState) (new_flows old_flows : List Entry) → s.new_flows ≡ new_flows → s.old_flows ≡ old_flows → IsLawful s → 1 ≤ s.settings.quantum → Onward s → IsLawful (selected s)
at_front s [] [] new old lawful positive onward = stops s lawful (none_left s new old)
at_front s [] (e ∷ rest) new old lawful positive onward = at_old s e rest new old lawful positive onward
at_front s (e ∷ rest) old_flows new old lawful positive onward = at_new s e rest new lawful positive onward

-- with fewer looks left than k
selected_within : (k : ℕ) (s : FqState) → turns s < k → IsLawful s → 1 ≤ s.settings.quantum → IsLawful (selected s)
selected_within zero s h lawful positive = absurd (omega arith)
selected_within (suc k) s h lawful positive =
    at_front s s.new_flows s.old_flows refl refl lawful positive (λ t on lawful' positive'. selected_within k t (omega (arith, h, on.fewer)) lawful' positive')

lawful_selected : (s : FqState) → IsLawful s → 1 ≤ s.settings.quantum → IsLawful (selected s)
lawful_selected s lawful positive = selected_within (suc (turns s)) s (omega arith) lawful positive

sent_with : (s : FqState) (now : ℕ) (o : Option Entry) → front s ≡ o → IsLawful s → IsLawful (after_sending now s)
sent_with s now None h lawful =
    let none = front_none s h in
    subst (λ (x : FqState). IsLawful x) (sym (after_none s now none.0 none.1)) lawful
sent_with s now (Some e) h lawful =
    let m : Entry = paid (sent_from now s) e in
    let t : FqState = record s { flows = adjust (flow_after now) e.flow s.flows } in
    subst (λ (x : FqState). IsLawful x) (sym (after_sending_written s e now h))
    (lawful_written t e m (drop 1 (s.new_flows ++ s.old_flows)) (set s.new_flows 0 m) (written m s.new_flows s.old_flows)
    (lawful_shrunk s (flow_after now) (count_after now) e.flow lawful) (front_is s e h) (flow-paid (sent_from now s) e) (lists_written s m e h))

pub lawful_after_sending : (s : FqState) (now : ℕ) → IsLawful s → IsLawful (after_sending now s)
lawful_after_sending s now lawful = sent_with s now (front s) refl lawful

pub take_keeps_lawful : TakeKeepsLawful
take_keeps_lawful s now lawful positive =
    let chosen = lawful_selected s lawful positive in
    (chosen, lawful_after_sending (selected s) now chosen)

-- ---- a put

count_size : (q : List Stamped) → All (λ (x : Stamped). 1 ≤ x.packet.len) q → count q ≤ size q
count_size [] h = omega arith
count_size (x ∷ xs) h =
    omega (arith, All-head (λ (x : Stamped). 1 ≤ x.packet.len) x xs h, count_size xs (All-tail (λ (x : Stamped). 1 ≤ x.packet.len) x xs h), sum_by-cons (λ (x : Stamped). x.packet.len) x xs)

bytes_at : (flows : List Flow) (k : ℕ) → All HasBytes flows → count (queue_of flows k) ≤ size (queue_of flows k)
bytes_at [] k h = omega arith
bytes_at (f ∷ fs) zero h = count_size f.queue (All-head HasBytes f fs h)
bytes_at (f ∷ fs) (suc k) h = bytes_at fs k (All-tail HasBytes f fs h)

bytes_joined : (p : Stamped) (n k : ℕ) (flows : List Flow) → n < length flows → All HasBytes flows → 1 ≤ p.packet.len
    → count (queue_of (adjust (joined p) n flows) k) ≤ size (queue_of (adjust (joined p) n flows) k)
bytes_joined p n k flows within all byte =
    ⊎_elim
    (λ (own : k ≡ n).
    let queue : queue_of (adjust (joined p) n flows) k ≡ queue_of flows n ++ p ∷ [] = ap (queue_of (adjust (joined p) n flows)) own ∙ own_queue p n flows within in
    omega (arith, ap count queue, ap size queue, length-append (queue_of flows n) (p ∷ []), sum_by_push (λ (x : Stamped). x.packet.len) (queue_of flows n) p, bytes_at flows n all, byte))
    (λ (other : k ≢ n). let queue = other_queue (joined p) n k flows other in omega (arith, ap count queue, ap size queue, bytes_at flows k all))
    (cases_eq k n)

-- past the limit the fat flow has to have a packet to lose
pub lawful_after_put : (s : FqState) (packet : Descriptor) (now : ℕ) → IsLawful s → IsInRange s.settings
    → (s.settings.limit < packets_of (appended s packet now).flows → 0 < count
    (queue_of (appended s packet now).flows (fattest (appended s packet now).flows)))
    → IsLawful (after_put s packet now)
unfolding appended
lawful_after_put s packet now lawful range fat =
    let n : ℕ = flow_of s packet in
    let p : Stamped = record { packet = packet; at = now } in
    let a : FqState = appended s packet now in
    let low : n < s.settings.flows = omega (arith, range.flows_low) in
    let within : n < length s.flows = omega (arith, low, lawful.each_flow) in
    let more : packets_of a.flows ≡ packets_of s.flows + 1 = packets_of-appended s packet now within in
    ⊎_elim
    (λ (over : s.settings.limit < packets_of a.flows).
    let k : ℕ = fattest a.flows in
    let lost : ℕ = shed_count a.flows a.settings.drop_batch in
    let t : FqState = record a { flows = adjust (shortened lost) k a.flows } in
    subst (λ (x : FqState). IsLawful x) (sym (cut_some a k lost over refl refl))
    (lawful_put s t n lawful refl
    (length-adjust (shortened lost) k a.flows ∙ length-adjust (joined p) n s.flows) low
    (λ m h. busy_shed p n m lost k s.flows h)
    (omega (
      arith,
      packets_of-shortened lost k a.flows (shed_within a.flows a.settings.drop_batch),
      shed_positive a.flows a.settings.drop_batch range.batch_low (omega (arith, over, range.limit_low)) (fat over),
      more,
      lawful.few,
    )) s.settings.quantum refl refl))
    (λ (in_limit : packets_of a.flows ≤ s.settings.limit).
    subst (λ (x : FqState). IsLawful x) (sym (cut_none a in_limit))
    (lawful_put s a n lawful refl (length-adjust (joined p) n s.flows) low (λ m h. busy_put p n m s.flows h) (omega (arith, in_limit, range.limit_high)) s.settings.quantum refl refl))
    (cases_lt s.settings.limit (packets_of a.flows))

fat_in : (s : FqState) (packet : Descriptor) (now : ℕ) → IsLawful s → IsInRange s.settings → All HasBytes s.flows → 1 ≤ packet.len → s.settings.limit < packets_of (appended s packet now).flows
    → 0 < count (queue_of (appended s packet now).flows (fattest (appended s packet now).flows))
unfolding appended
fat_in s packet now lawful range all byte over =
    let n : ℕ = flow_of s packet in
    let p : Stamped = record { packet = packet; at = now } in
    let flows : List Flow = adjust (joined p) n s.flows in
    let within : n < length s.flows = omega (arith, range.flows_low, lawful.each_flow) in
    fat_some flows (fattest flows) (size (queue_of flows (fattest flows))) refl (λ k h. fattest_most flows k h) (λ k h. bytes_joined p n k s.flows within all byte) (omega (arith, over))

pub put_keeps_lawful : PutKeepsLawful
put_keeps_lawful s packet now lawful range all byte = lawful_after_put s packet now lawful range (fat_in s packet now lawful range all byte)
