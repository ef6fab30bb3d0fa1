-- Each flow stays listed at most once, and each flow with packets exactly once, over a turn and over a packet that is sent.
use Rattle.std.proofs.Common.{◌≡◌, ◌≢◌, ℕ, zero, suc, ◌+◌, ◌<◌, ◌≤◌, ◌==◌, Bool, true, false, cond, List, [], ◌∷◌, ◌++◌, length, refl, sym, ap, ◌∙◌, arith, ⊎_elim, length-append, map, replicate, nat_eq, sum_by}
use Rattle.std.proofs.lemmas.List.{length-map, length-replicate}
use Rattle.q_packet.specs.declared.stamped.Stamped.{Stamped}
use Rattle.std.proofs.lemmas.Bool.{eq-eqb, ne_eqb, cases_lt, true≢false, cond-true, cond-false, true_from_ne_false}
use Rattle.std.proofs.lemmas.List.Sums.{sum_by-cons, sum_by-append}
use Rattle.q_packet.specs.Totals.{count}
use Rattle.q_fqcodel.specs.Cleared.{adjust}
use Rattle.q_fqcodel.specs.FqState.{FqSettings, Flow, FqState, queues, is_idle, packets_of, rested_flow, first_flow, first_state, retuned, after_change}
use Rattle.q_fqcodel.specs.Lawful.{times, IsLawful}
use Rattle.q_fqcodel.specs.Entry.{Entry}
use Rattle.q_fqcodel.proofs.FlowLemmas.{length-adjust, is_idle-rested_flow, packets_of-rested_flow, busy_shrunk, packets_shrunk, packets_none, packets_of-nil, packets_of-cons, packets_by_queues, idle_in}

-- 1 where the entry is of flow n
abbrev pub one : ℕ → Entry → ℕ
one n e = cond (e.flow == n) 1 0

pub times-cons : (n : ℕ) (e : Entry) (es : List Entry) → times n (e ∷ es) ≡ one n e + times n es
times-cons n e es = sum_by-cons (λ (e : Entry). cond (e.flow == n) 1 0) e es

pub times-append : (n : ℕ) (xs ys : List Entry) → times n (xs ++ ys) ≡ times n xs + times n ys
times-append n xs ys = sum_by-append (λ (e : Entry). cond (e.flow == n) 1 0) xs ys

pub one_same : (n : ℕ) (e m : Entry) → m.flow ≡ e.flow → one n m ≡ one n e
one_same n e m same = ap (λ (k : ℕ). cond (k == n) 1 0) same

pub one_own : (e : Entry) → one e.flow e ≡ 1
one_own e = cond-true (e.flow == e.flow) 1 0 (eq-eqb e.flow e.flow refl)

pub one_other : (n : ℕ) (e : Entry) → e.flow ≢ n → one n e ≡ 0
one_other n e ne = cond-false (e.flow == n) 1 0 (ne_eqb e.flow n ne)

-- fewer entries, but none fewer of a flow with packets
pub IsLawful_from : (s t : FqState) → IsLawful s → t.settings.flows ≡ s.settings.flows → length t.flows ≡ length s.flows
    → ((n : ℕ) → times n (t.new_flows ++ t.old_flows) ≤ times n (s.new_flows ++ s.old_flows))
    → ((n : ℕ) → is_idle t.flows n ≡ false → (is_idle s.flows n ≡ false) × (times n (s.new_flows ++ s.old_flows) ≤ times n (t.new_flows ++ t.old_flows)))
    → length t.new_flows + length t.old_flows ≤ length s.new_flows + length s.old_flows → packets_of t.flows ≤ packets_of s.flows → IsLawful t
IsLawful_from s t lawful settings flows no_more no_fewer short packets = record {
  each_flow = flows ∙ lawful.each_flow ∙ sym settings;
  in_range = λ n h. omega (arith, no_more n, lawful.in_range n (omega (arith, h, settings)));
  within = omega (arith, lawful.within, short, settings);
  once = λ n. omega (arith, no_more n, lawful.once n);
  busy = λ n h. omega (arith, (no_fewer n h).1, lawful.busy n (no_fewer n h).0);
  few = omega (arith, packets, lawful.few);
}

-- the flow in front of either list is one of the flows
pub front_within : (s : FqState) (e : Entry) (rest : List Entry) → IsLawful s → s.new_flows ++ s.old_flows ≡ e ∷ rest → e.flow < s.settings.flows
front_within s e rest lawful front =
    ⊎_elim (λ (h : e.flow < s.settings.flows). h)
    (λ (h : s.settings.flows ≤ e.flow).
    let none : times e.flow (s.new_flows ++ s.old_flows) ≡ 0 = lawful.in_range e.flow h in
    let some : times e.flow (s.new_flows ++ s.old_flows) ≡ one e.flow e + times e.flow rest = ap (times e.flow) front ∙ times-cons e.flow e rest in
    absurd (omega (arith, none, some, one_own e)))
    (cases_lt e.flow s.settings.flows)

-- other lists of the same flows, each as often as before
lawful_relisted : (s : FqState) (new_flows old_flows : List Entry) → IsLawful s
    → ((n : ℕ) → times n (new_flows ++ old_flows) ≡ times n (s.new_flows ++ s.old_flows))
    → length new_flows + length old_flows ≤ length s.new_flows + length s.old_flows
    → IsLawful (record s { new_flows = new_flows; old_flows = old_flows })
lawful_relisted s new_flows old_flows lawful even short =
    IsLawful_from s (record s { new_flows = new_flows; old_flows = old_flows }) lawful refl refl (λ n. omega (arith, even n)) (λ n h. (h, omega (arith, even n))) short (omega arith)

-- how often a flow is in two lists, of which one begins with e, or ends with m
times_front : (n : ℕ) (e : Entry) (xs rest ys : List Entry) → xs ≡ e ∷ rest → times n (xs ++ ys) ≡ one n e + times n rest + times n ys
times_front n e xs rest ys front = omega (arith, times-append n xs ys, ap (times n) front, times-cons n e rest)

times_last : (n : ℕ) (m : Entry) (xs ys : List Entry) → times n (xs ++ (ys ++ m ∷ [])) ≡ times n xs + times n ys + one n m
times_last n m xs ys = omega (arith, times-append n xs (ys ++ m ∷ []), times-append n ys (m ∷ []), times-cons n m [])

-- a flow leaves the front of the new list, and is then the last of the old one
pub lawful_moved : (s : FqState) (e m : Entry) (rest : List Entry) → IsLawful s → s.new_flows ≡ e ∷ rest → m.flow ≡ e.flow → IsLawful (record s { new_flows = rest; old_flows = s.old_flows ++ m ∷ [] })
lawful_moved s e m rest lawful front same =
    lawful_relisted s rest (s.old_flows ++ m ∷ []) lawful
    (λ n. omega (arith, times_last n m rest s.old_flows, times_front n e s.new_flows rest s.old_flows front, one_same n e m same))
    (omega (arith, ap length front, length-append s.old_flows (m ∷ [])))

-- the front of the old list goes to its end
pub lawful_turned : (s : FqState) (e m : Entry) (rest : List Entry) → IsLawful s → s.old_flows ≡ e ∷ rest → m.flow ≡ e.flow → IsLawful (record s { old_flows = rest ++ m ∷ [] })
lawful_turned s e m rest lawful front same =
    lawful_relisted s s.new_flows (rest ++ m ∷ []) lawful
    (λ n. omega (arith, times_last n m s.new_flows rest, times-append n s.new_flows s.old_flows, ap (times n) front, times-cons n e rest, one_same n e m same))
    (omega (arith, ap length front, length-append rest (m ∷ [])))

-- an empty flow leaves the front of the old list
pub lawful_left : (s : FqState) (e : Entry) (rest : List Entry) → IsLawful s → s.old_flows ≡ e ∷ rest → is_idle s.flows e.flow ≡ true → IsLawful (record s { old_flows = rest })
lawful_left s e rest lawful front empty =
    let t : FqState = record s { old_flows = rest } in
    let less : (n : ℕ) → times n (s.new_flows ++ s.old_flows) ≡ one n e + times n (s.new_flows ++ rest) = λ n.
    omega (arith, times-append n s.new_flows rest, times-append n s.new_flows s.old_flows, ap (times n) front, times-cons n e rest) in
    IsLawful_from s t lawful refl refl (λ n. omega (arith, less n))
    (λ n h. (h, omega (arith, less n, one_other n e (λ same. true≢false (sym empty ∙ ap (is_idle s.flows) same ∙ h)))))
    (omega (arith, ap length front)) (omega arith)

-- what CoDel knows of a flow changes
pub lawful_rested : (s : FqState) (n : ℕ) → IsLawful s → IsLawful (record s { flows = adjust rested_flow n s.flows })
lawful_rested s n lawful =
    let t : FqState = record s { flows = adjust rested_flow n s.flows } in
    IsLawful_from s t lawful refl (length-adjust rested_flow n s.flows) (λ m. omega arith)
    (λ m h. (ap (λ (i : ℕ → Bool). i m) (sym (is_idle-rested_flow n s.flows)) ∙ h, omega arith))
    (omega arith) (omega (arith, packets_of-rested_flow n s.flows))

-- packets leave a flow
pub lawful_shrunk : (s : FqState) (g : Flow → Flow) → ((f : Flow) → count (g f).queue ≤ count f.queue) → (n : ℕ) → IsLawful s → IsLawful (record s { flows = adjust g n s.flows })
lawful_shrunk s g fewer n lawful =
    let t : FqState = record s { flows = adjust g n s.flows } in
    IsLawful_from s t lawful refl (length-adjust g n s.flows) (λ m. omega arith)
    (λ m h. (busy_shrunk g fewer n m s.flows h, omega arith))
    (omega arith) (packets_shrunk g fewer n s.flows)

-- the credits of the front change
pub lawful_written : (s : FqState) (e m : Entry) (rest new_flows old_flows : List Entry) → IsLawful s → s.new_flows ++ s.old_flows ≡ e ∷ rest
    → m.flow ≡ e.flow → new_flows ++ old_flows ≡ m ∷ rest → IsLawful (record s { new_flows = new_flows; old_flows = old_flows })
lawful_written s e m rest new_flows old_flows lawful front same written =
    lawful_relisted s new_flows old_flows lawful
    (λ n. omega (arith, ap (times n) written, times-cons n m rest, ap (times n) front, times-cons n e rest, one_same n e m same))
    (omega (arith, ap length written, ap length front, length-append new_flows old_flows, length-append s.new_flows s.old_flows))

-- where both lists are empty no flow has a packet
pub none_waits : (s : FqState) → IsLawful s → s.new_flows ≡ [] → s.old_flows ≡ [] → packets_of s.flows ≡ 0
none_waits s lawful no_new no_old =
    packets_none s.flows (λ n. true_from_ne_false (is_idle s.flows n)
    (λ busy. absurd (omega (arith, lawful.busy n busy, times-append n s.new_flows s.old_flows, ap (times n) no_new, ap (times n) no_old))))

-- ---- a new fq_codel, and one with other settings

idle_first : (f : Flow) (n m : ℕ) → f.queue ≡ [] → is_idle (replicate n f) m ≡ true
idle_first f zero m empty = refl
idle_first f (suc n) zero empty = ap (λ (q : List Stamped). nat_eq (count q) 0) empty
idle_first f (suc n) (suc m) empty = idle_first f n m empty

pub packets_first : (f : Flow) (n : ℕ) → f.queue ≡ [] → packets_of (replicate n f) ≡ 0
packets_first f zero empty = packets_of-nil
packets_first f (suc n) empty = omega (arith, packets_of-cons f (replicate n f), ap (λ (q : List Stamped). count q) empty, packets_first f n empty)

pub lawful_first : (settings : FqSettings) → IsLawful (first_state settings)
lawful_first settings =
    let none : packets_of (replicate settings.flows (first_flow settings)) ≡ 0 = packets_first (first_flow settings) settings.flows refl in
    record {
      each_flow = length-replicate settings.flows (first_flow settings);
      in_range = λ n h. refl;
      within = omega arith;
      once = λ n. omega arith;
      busy = λ n h. absurd (true≢false (sym (idle_first (first_flow settings) settings.flows n refl) ∙ h));
      few = omega (arith, none);
    }

queues-retuned : (target interval : ℕ) (ecn : Bool) (flows : List Flow) → queues (map (retuned target interval ecn) flows) ≡ queues flows
unfolding retuned
queues-retuned target interval ecn [] = refl
queues-retuned target interval ecn (f ∷ fs) = ap (λ (l : List (List Stamped)). f.queue ∷ l) (queues-retuned target interval ecn fs)

pub lawful_changed : (s : FqState) (settings : FqSettings) → IsLawful s → settings.flows ≡ s.settings.flows → IsLawful (after_change s settings)
lawful_changed s settings lawful flows =
    let t : FqState = after_change s settings in
    let qs = queues-retuned settings.target settings.interval settings.ecn s.flows in
    IsLawful_from s t lawful flows (length-map s.flows (retuned settings.target settings.interval settings.ecn)) (λ n. omega arith)
    (λ n h. (ap (λ (l : List (List Stamped)). idle_in l n) (sym qs) ∙ h, omega arith))
    (omega arith) (omega (arith, packets_by_queues t.flows, packets_by_queues s.flows, ap (λ (l : List (List Stamped)). sum_by (λ (q : List Stamped). count q) l) qs))
