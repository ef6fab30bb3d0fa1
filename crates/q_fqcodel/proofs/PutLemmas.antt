-- A put: the flow that the packet joins is listed once, there is a place in the new list for it, and the packets stay few.
use Rattle.std.proofs.Common.{◌≡◌, ◌≢◌, ℕ, zero, suc, ◌+◌, ◌<◌, ◌≤◌, ◌^◌, ◌==◌, ◌&&◌, min, pos, true, false, cond, nat_eq, nat_le, List, [], ◌∷◌, ◌++◌, length, take, ◌⊎◌, inl, inr, refl, sym, ap, ap₂, ◌∙◌, arith, ⊎_elim, length-append}
use Rattle.std.proofs.lemmas.Bool.{cases_eq, cases_lt, cases_Bool, cond-true, cond-false, le-leb, lt-leb, eqb-true, eqb-false, true≢false, or_parts, or_cases, and_right}
use Rattle.std.proofs.lemmas.List.{length-drop}
use Rattle.q_packet.specs.Totals.{count}
use Rattle.q_packet.specs.Descriptor.{Descriptor}
use Rattle.q_packet.specs.declared.stamped.Stamped.{Stamped}
use Rattle.q_fqcodel.specs.Cleared.{adjust}
use Rattle.q_fqcodel.specs.FqState.{Flow, FqState, queue_of, is_idle, packets_of}
use Rattle.q_fqcodel.specs.Lawful.{times, IsLawful}
use Rattle.q_fqcodel.specs.Put.{flow_of, is_listed, joined, appended, fattest, shed_count, overflow, shortened, cut_back, shed, is_lost_itself}
use Rattle.q_fqcodel.specs.Entry.{Entry}
use Rattle.q_fqcodel.proofs.FlowLemmas.{packets_of-cons, busy_shrunk}
use Rattle.q_fqcodel.proofs.ShedLemmas.{shortened_none}
use Rattle.q_fqcodel.proofs.LawfulLemmas.{one, times-cons, times-append, one_own, one_other}

-- ---- how many entries a list has, flow by flow

sum_below : (ℕ → ℕ) → ℕ → ℕ
sum_below f zero = 0
sum_below f (suc n) = f n + sum_below f n

sum_below_same : (f g : ℕ → ℕ) (n : ℕ) → ((k : ℕ) → f k ≡ g k) → sum_below f n ≡ sum_below g n
unfolding sum_below
sum_below_same f g zero h = refl
sum_below_same f g (suc n) h = ap₂ (λ (a b : ℕ). a + b) (h n) (sum_below_same f g n h)

sum_below_add : (f g : ℕ → ℕ) (n : ℕ) → sum_below (λ k. f k + g k) n ≡ sum_below f n + sum_below g n
unfolding sum_below
sum_below_add f g zero = refl
sum_below_add f g (suc n) = omega (arith, sum_below_add f g n)

sum_below_none : (f : ℕ → ℕ) (n : ℕ) → ((k : ℕ) → k < n → f k ≡ 0) → sum_below f n ≡ 0
unfolding sum_below
sum_below_none f zero h = refl
sum_below_none f (suc n) h = omega (arith, h n (omega arith), sum_below_none f n (λ k l. h k (omega arith)))

sum_below-one : (e : Entry) (n : ℕ) → e.flow < n → sum_below (λ k. one k e) n ≡ 1
unfolding sum_below
sum_below-one e zero h = absurd (omega arith)
sum_below-one e (suc n) h =
    ⊎_elim
    (λ (here : e.flow ≡ n). omega (arith, sum_below_none (λ k. one k e) n (λ k l. one_other k e (λ same. absurd (omega (arith, same, here, l)))), ap (λ (k : ℕ). one k e) here, one_own e))
    (λ (before : e.flow ≢ n). omega (arith, one_other n e before, sum_below-one e n (omega (arith, before))))
    (cases_eq e.flow n)

sum_below_within : (f : ℕ → ℕ) (n : ℕ) → ((k : ℕ) → f k ≤ 1) → sum_below f n ≤ n
unfolding sum_below
sum_below_within f zero h = omega arith
sum_below_within f (suc n) h = omega (arith, h n, sum_below_within f n h)

sum_below_short : (f : ℕ → ℕ) (n m : ℕ) → ((k : ℕ) → f k ≤ 1) → m < n → f m ≡ 0 → sum_below f n < n
unfolding sum_below
sum_below_short f zero m h l none = absurd (omega arith)
sum_below_short f (suc n) m h l none =
    ⊎_elim
    (λ (here : m ≡ n). omega (arith, ap f here, none, sum_below_within f n h))
    (λ (before : m ≢ n). omega (arith, h n, sum_below_short f n m h (omega (arith, before)) none))
    (cases_eq m n)

length_by_times : (n : ℕ) (es : List Entry) → ((k : ℕ) → n ≤ k → times k es ≡ 0) → length es ≡ sum_below (λ k. times k es) n
length_by_times n [] h = sym (sum_below_none (λ k. times k []) n (λ k l. refl))
length_by_times n (e ∷ es) h =
    let within : e.flow < n =
    ⊎_elim (λ (l : e.flow < n). l) (λ (l : n ≤ e.flow). absurd (omega (arith, h e.flow l, times-cons e.flow e es, one_own e))) (cases_lt e.flow n) in
    omega (
      arith,
      length_by_times n es (λ k l. omega (arith, h k l, times-cons k e es)),
      sum_below_same (λ k. times k (e ∷ es)) (λ k. one k e + times k es) n (λ k. times-cons k e es),
      sum_below_add (λ k. one k e) (λ k. times k es) n,
      sum_below-one e n within,
    )

-- a flow that is not listed has a place
pub place_for : (s : FqState) (n : ℕ) → IsLawful s → n < s.settings.flows → times n (s.new_flows ++ s.old_flows) ≡ 0 → length s.new_flows + length s.old_flows < s.settings.flows
place_for s n lawful within absent =
    let all : List Entry = s.new_flows ++ s.old_flows in
    omega (
      arith,
      length-append s.new_flows s.old_flows,
      length_by_times s.settings.flows all lawful.in_range,
      sum_below_short (λ k. times k all) s.settings.flows n lawful.once within absent,
    )

pub listed_not : (n : ℕ) (es : List Entry) → is_listed n es ≡ false → times n es ≡ 0
listed_not n [] h = refl
listed_not n (e ∷ es) h =
    let parts = or_parts (e.flow == n) (is_listed n es) h in
    omega (arith, times-cons n e es, one_other n e (eqb-false e.flow n parts.0), listed_not n es parts.1)

pub listed_yes : (n : ℕ) (es : List Entry) → is_listed n es ≡ true → 1 ≤ times n es
listed_yes n [] h = absurd (true≢false (sym h))
listed_yes n (e ∷ es) h =
    ⊎_elim
    (λ (own : (e.flow == n) ≡ true). omega (arith, times-cons n e es, ap (λ (k : ℕ). one k e) (eqb-true e.flow n own), one_own e))
    (λ (rest : is_listed n es ≡ true). omega (arith, times-cons n e es, listed_yes n es rest))
    (or_cases (e.flow == n) (is_listed n es) h)

-- ---- packets come and go

pub packets_of-joined : (p : Stamped) (n : ℕ) (flows : List Flow) → n < length flows → packets_of (adjust (joined p) n flows) ≡ packets_of flows + 1
unfolding adjust
packets_of-joined p n [] h = absurd (omega arith)
packets_of-joined p zero (f ∷ fs) h = omega (arith, packets_of-cons f fs, packets_of-cons (joined p f) fs, length-append f.queue (p ∷ []))
packets_of-joined p (suc n) (f ∷ fs) h = omega (arith, packets_of-cons f fs, packets_of-cons f (adjust (joined p) n fs), packets_of-joined p n fs (omega arith))

-- also of a flow that is not there
joined_most : (p : Stamped) (n : ℕ) (flows : List Flow) → packets_of (adjust (joined p) n flows) ≤ packets_of flows + 1
unfolding adjust
joined_most p n [] = omega arith
joined_most p zero (f ∷ fs) = omega (arith, packets_of-cons f fs, packets_of-cons (joined p f) fs, length-append f.queue (p ∷ []))
joined_most p (suc n) (f ∷ fs) = omega (arith, packets_of-cons f fs, packets_of-cons f (adjust (joined p) n fs), joined_most p n fs)

pub packets_of-shortened : (k n : ℕ) (flows : List Flow) → k ≤ count (queue_of flows n) → packets_of (adjust (shortened k) n flows) + k ≡ packets_of flows
unfolding adjust
packets_of-shortened k n [] h = omega arith
packets_of-shortened k zero (f ∷ fs) h = omega (arith, packets_of-cons f fs, packets_of-cons (shortened k f) fs, length-drop k f.queue)
packets_of-shortened k (suc n) (f ∷ fs) h = omega (arith, packets_of-cons f fs, packets_of-cons f (adjust (shortened k) n fs), packets_of-shortened k n fs h)

-- another flow is as it was
pub other_queue : (g : Flow → Flow) (n m : ℕ) (flows : List Flow) → m ≢ n → queue_of (adjust g n flows) m ≡ queue_of flows m
unfolding adjust
other_queue g n m [] ne = refl
other_queue g zero zero (f ∷ fs) ne = absurd (ne refl)
other_queue g zero (suc m) (f ∷ fs) ne = refl
other_queue g (suc n) zero (f ∷ fs) ne = refl
other_queue g (suc n) (suc m) (f ∷ fs) ne = other_queue g n m fs (λ e. ne (ap suc e))

-- who has packets once one was put into flow n, and some have left
pub busy_put : (p : Stamped) (n m : ℕ) (flows : List Flow) → is_idle (adjust (joined p) n flows) m ≡ false → (m ≡ n) ⊎ (is_idle flows m ≡ false)
busy_put p n m flows busy =
    ⊎_elim
    (λ (own : m ≡ n). inl own)
    (λ (other : m ≢ n). inr (ap (λ (q : List Stamped). nat_eq (count q) 0) (sym (other_queue (joined p) n m flows other)) ∙ busy))
    (cases_eq m n)

pub busy_shed : (p : Stamped) (n m k fat : ℕ) (flows : List Flow) → is_idle (adjust (shortened k) fat (adjust (joined p) n flows)) m ≡ false → (m ≡ n) ⊎ (is_idle flows m ≡ false)
busy_shed p n m k fat flows busy =
    busy_put p n m flows (busy_shrunk (shortened k) (λ f. omega (arith, length-drop k f.queue)) fat m (adjust (joined p) n flows) busy)

-- the flow is listed, or goes to the end of the new list
pub enlisted_cases : (n q : ℕ) (new_flows new_flows' old_flows : List Entry)
    → new_flows' ≡ cond (is_listed n (new_flows ++ old_flows)) new_flows (new_flows ++ record { flow = n; credits = pos q } ∷ [])
    → ((new_flows' ≡ new_flows) × (1 ≤ times n (new_flows ++ old_flows))) ⊎ ((new_flows' ≡ new_flows ++ record { flow = n; credits = pos q } ∷ []) × (times n (new_flows ++ old_flows) ≡ 0))
enlisted_cases n q new_flows new_flows' old_flows e =
    ⊎_elim
    (λ (yes' : is_listed n (new_flows ++ old_flows) ≡ true). inl (e ∙ cond-true _ _ _ yes', listed_yes n (new_flows ++ old_flows) yes'))
    (λ (no' : is_listed n (new_flows ++ old_flows) ≡ false). inr (e ∙ cond-false _ _ _ no', listed_not n (new_flows ++ old_flows) no'))
    (cases_Bool (is_listed n (new_flows ++ old_flows)))

-- ---- what the definition computes to

pub appended_is : (s : FqState) (packet : Descriptor) (now n q : ℕ) (flows : List Flow) (new_flows : List Entry) → n ≡ flow_of s packet → q ≡ s.settings.quantum
    → flows ≡ adjust (joined (record { packet = packet; at = now })) n s.flows
    → new_flows ≡ cond (is_listed n (s.new_flows ++ s.old_flows)) s.new_flows (s.new_flows ++ record { flow = n; credits = pos q } ∷ [])
    → record s { flows = flows; new_flows = new_flows } ≡ appended s packet now
unfolding appended
appended_is s packet now n q flows new_flows at quantum joins lists =
    ap₂ (λ (f : List Flow) (l : List Entry). record s { flows = f; new_flows = l }) joins lists
    ∙ ap₂ (λ (m k : ℕ). record s {
      flows = adjust (joined (record { packet = packet; at = now })) m s.flows;
      new_flows = cond (is_listed m (s.new_flows ++ s.old_flows)) s.new_flows (s.new_flows ++ record { flow = m; credits = pos k } ∷ []);
    }) at quantum

overflow_none : (a : FqState) → packets_of a.flows ≤ a.settings.limit → overflow a ≡ 0
unfolding overflow
overflow_none a h = cond-true (nat_le (packets_of a.flows) a.settings.limit) _ _ (le-leb _ _ h)

pub overflow_some : (a : FqState) → a.settings.limit < packets_of a.flows → overflow a ≡ shed_count a.flows a.settings.drop_batch
unfolding overflow
overflow_some a h = cond-false (nat_le (packets_of a.flows) a.settings.limit) _ _ (lt-leb _ _ h)

pub cut_none : (a : FqState) → packets_of a.flows ≤ a.settings.limit → cut_back a ≡ a
unfolding cut_back
cut_none a h =
    ap (λ (n : ℕ). record a { flows = adjust (shortened n) (fattest a.flows) a.flows }) (overflow_none a h)
    ∙ ap (λ (f : List Flow). record a { flows = f }) (shortened_none (fattest a.flows) a.flows)

pub shed_none : (a : FqState) → packets_of a.flows ≤ a.settings.limit → shed a ≡ []
unfolding shed
shed_none a h = ap (λ (n : ℕ). take n (queue_of a.flows (fattest a.flows))) (overflow_none a h)

pub cut_some : (a : FqState) (fat lost : ℕ) → a.settings.limit < packets_of a.flows → fat ≡ fattest a.flows → lost ≡ shed_count a.flows a.settings.drop_batch
    → cut_back a ≡ record a { flows = adjust (shortened lost) fat a.flows }
unfolding cut_back
cut_some a fat lost h same all = ap₂ (λ (n m : ℕ). record a { flows = adjust (shortened n) m a.flows }) (overflow_some a h ∙ sym all) (sym same)

pub shed_some : (a : FqState) (fat lost : ℕ) → a.settings.limit < packets_of a.flows → fat ≡ fattest a.flows → lost ≡ shed_count a.flows a.settings.drop_batch
    → shed a ≡ take lost (queue_of a.flows fat)
unfolding shed
shed_some a fat lost h same all = ap₂ (λ (n m : ℕ). take n (queue_of a.flows m)) (overflow_some a h ∙ sym all) (sym same)

-- what the flow has that a packet has joined
pub own_queue : (p : Stamped) (n : ℕ) (flows : List Flow) → n < length flows → queue_of (adjust (joined p) n flows) n ≡ queue_of flows n ++ p ∷ []
unfolding adjust
own_queue p n [] h = absurd (omega arith)
own_queue p zero (f ∷ fs) h = refl
own_queue p (suc n) (f ∷ fs) h = own_queue p n fs (omega arith)

-- the flow that a packet has joined has one
pub own_some : (p : Stamped) (n : ℕ) (flows : List Flow) → n < length flows → 1 ≤ count (queue_of (adjust (joined p) n flows) n)
own_some p n flows h = omega (arith, ap count (own_queue p n flows h), length-append (queue_of flows n) (p ∷ []))

pub lost_itself : (s a : FqState) (packet : Descriptor) (now n : ℕ) → a ≡ appended s packet now → n ≡ flow_of s packet
    → is_lost_itself s packet now ≡ ((fattest a.flows == n) && nat_le (count (queue_of a.flows n)) (overflow a))
unfolding is_lost_itself
lost_itself s a packet now n same at =
    ap₂ (λ (x : FqState) (m : ℕ). (fattest x.flows == m) && nat_le (count (queue_of x.flows m)) (overflow x)) (sym same) (sym at)

pub lost_none : (s a : FqState) (packet : Descriptor) (now n : ℕ) (p : Stamped) → a ≡ appended s packet now → n ≡ flow_of s packet → packets_of a.flows ≤ a.settings.limit
    → a.flows ≡ adjust (joined p) n s.flows → n < length s.flows → is_lost_itself s packet now ≡ false
lost_none s a packet now n p same at h joins within =
    lost_itself s a packet now n same at
    ∙ and_right (fattest a.flows == n) _ (lt-leb _ _ (omega (arith, overflow_none a h, own_some p n s.flows within, ap (λ (f : List Flow). count (queue_of f n)) joins)))

pub lost_some : (s a : FqState) (packet : Descriptor) (now n fat lost : ℕ) → a ≡ appended s packet now → n ≡ flow_of s packet → a.settings.limit < packets_of a.flows
    → fat ≡ fattest a.flows → lost ≡ shed_count a.flows a.settings.drop_batch → is_lost_itself s packet now ≡ ((fat == n) && nat_le (count (queue_of a.flows n)) lost)
lost_some s a packet now n fat lost same at h one all =
    lost_itself s a packet now n same at
    ∙ ap₂ (λ (m k : ℕ). (m == n) && nat_le (count (queue_of a.flows n)) k) (sym one) (overflow_some a h ∙ sym all)

-- a batch is no more than the fat flow has, and at least one where that flow has one and there are two
pub shed_within : (flows : List Flow) (batch : ℕ) → shed_count flows batch ≤ count (queue_of flows (fattest flows))
unfolding shed_count
shed_within flows batch = omega arith

pub shed_batch : (flows : List Flow) (batch : ℕ) → shed_count flows batch ≤ min batch (packets_of flows)
unfolding shed_count
shed_batch flows batch = omega arith

pub shed_positive : (flows : List Flow) (batch : ℕ) → 1 ≤ batch → 2 ≤ packets_of flows → 0 < count (queue_of flows (fattest flows)) → 1 ≤ shed_count flows batch
unfolding shed_count
shed_positive flows batch some two fat = omega arith

-- with the flow n listed once, and packets in no flow that had none but n
module _ (s t : FqState) (n : ℕ) (lawful : IsLawful s) (settings : t.settings.flows ≡ s.settings.flows) (flows : length t.flows ≡ length s.flows) (within : n < s.settings.flows)
    (busy : (m : ℕ) → is_idle t.flows m ≡ false → (m ≡ n) ⊎ (is_idle s.flows m ≡ false)) (few : packets_of t.flows < 2 ^ 32) where
  lawful_listed : t.new_flows ≡ s.new_flows → t.old_flows ≡ s.old_flows → 1 ≤ times n (s.new_flows ++ s.old_flows) → IsLawful t
  lawful_listed new_flows old_flows listed =
      let same : (m : ℕ) → times m (t.new_flows ++ t.old_flows) ≡ times m (s.new_flows ++ s.old_flows) = λ m. ap₂ (λ (l k : List Entry). times m (l ++ k)) new_flows old_flows in
      record {
        each_flow = flows ∙ lawful.each_flow ∙ sym settings;
        in_range = λ m h. omega (arith, same m, lawful.in_range m (omega (arith, h, settings)));
        within = omega (arith, ap length new_flows, ap length old_flows, lawful.within, settings);
        once = λ m. omega (arith, same m, lawful.once m);
        busy =
            λ m h. ⊎_elim (λ (own : m ≡ n). omega (arith, same m, ap (λ (k : ℕ). times k (s.new_flows ++ s.old_flows)) own, listed))
            (λ (was : is_idle s.flows m ≡ false). omega (arith, same m, lawful.busy m was)) (busy m h);
        few = few;
      }

  lawful_enlisted : (e : Entry) → e.flow ≡ n → t.new_flows ≡ s.new_flows ++ e ∷ [] → t.old_flows ≡ s.old_flows → times n (s.new_flows ++ s.old_flows) ≡ 0 → IsLawful t
  lawful_enlisted e own new_flows old_flows absent =
      let more : (m : ℕ) → times m (t.new_flows ++ t.old_flows) ≡ times m (s.new_flows ++ s.old_flows) + one m e = λ m.
      omega (
        arith,
        ap₂ (λ (l k : List Entry). times m (l ++ k)) new_flows old_flows,
        times-append m (s.new_flows ++ e ∷ []) s.old_flows,
        times-append m s.new_flows (e ∷ []),
        times-cons m e [],
        times-append m s.new_flows s.old_flows,
      ) in
      record {
        each_flow = flows ∙ lawful.each_flow ∙ sym settings;
        in_range = λ m h. omega (arith, more m, lawful.in_range m (omega (arith, h, settings)), one_other m e (λ same. absurd (omega (arith, same, own, h, settings, within))));
        within = omega (arith, ap length new_flows, ap length old_flows, length-append s.new_flows (e ∷ []), place_for s n lawful within absent, settings);
        once = λ m.
            ⊎_elim
            (λ (same : e.flow ≡ m). omega (arith, more m, ap (λ (k : ℕ). times k (s.new_flows ++ s.old_flows)) (sym own ∙ same), absent, ap (λ (k : ℕ). one k e) same, one_own e))
            (λ (other : e.flow ≢ m). omega (arith, more m, lawful.once m, one_other m e other))
            (cases_eq e.flow m);
        busy = λ m h.
            ⊎_elim
            (λ (same : m ≡ n). omega (arith, more m, ap (λ (k : ℕ). one k e) (own ∙ sym same), one_own e))
            (λ (was : is_idle s.flows m ≡ false). omega (arith, more m, lawful.busy m was))
            (busy m h);
        few = few;
      }

  pub lawful_put : (q : ℕ)
      → t.new_flows ≡ cond (is_listed n (s.new_flows ++ s.old_flows)) s.new_flows (s.new_flows ++ record { flow = n; credits = pos q } ∷ [])
      → t.old_flows ≡ s.old_flows → IsLawful t
  lawful_put q new_flows old_flows =
      ⊎_elim
      (λ (w : (t.new_flows ≡ s.new_flows) × (1 ≤ times n (s.new_flows ++ s.old_flows))). lawful_listed w.0 old_flows w.1)
      (λ (w : (t.new_flows ≡ s.new_flows ++ record { flow = n; credits = pos q } ∷ []) × (times n (s.new_flows ++ s.old_flows) ≡ 0)). lawful_enlisted
      (record { flow = n; credits = pos q }) refl w.0 old_flows w.1)
      (enlisted_cases n q s.new_flows t.new_flows s.old_flows new_flows)

-- ---- where one packet more stays within the limit

within_limit : (s : FqState) (packet : Descriptor) (now : ℕ) → packets_of s.flows < s.settings.limit → packets_of (appended s packet now).flows ≤ (appended s packet now).settings.limit
unfolding appended
within_limit s packet now h = omega (arith, h, joined_most (record { packet = packet; at = now }) (flow_of s packet) s.flows)

pub none_lost_within : (s : FqState) (packet : Descriptor) (now : ℕ) → packets_of s.flows < s.settings.limit → shed (appended s packet now) ≡ []
none_lost_within s packet now h = shed_none (appended s packet now) (within_limit s packet now h)

pub stays_within : (s : FqState) (packet : Descriptor) (now : ℕ) → packets_of s.flows < s.settings.limit → flow_of s packet < length s.flows → is_lost_itself s packet now ≡ false
unfolding appended
stays_within s packet now h within =
    lost_none s (appended s packet now) packet now (flow_of s packet) (record { packet = packet; at = now }) refl refl (within_limit s packet now h) refl within
