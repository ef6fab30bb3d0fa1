-- The promise to new flows: the flow that sends is one of the new list as long as one of it is ready.
use Rattle.std.proofs.Common.{◌≡◌, ◌≢◌, ℕ, suc, ◌+◌, ◌<◌, ◌≤◌, ◌==◌, pos, ◌<ℤ◌, ◌⊎◌, inl, inr, Bool, false, nat_eq, List, [], ◌∷◌, ◌++◌, All, length, map, take, drop, Option, Some, option_to_list, refl, sym, ap, ◌∙◌, arith, ⊎_elim, subst}
use Rattle.std.specs.Prelude.{slice_get, ⊤}
use Rattle.std.proofs.lemmas.Bool.{cases_eq, cond-true, cond-false, eq-eqb, ne_eqb, false_from_ne_true}
use Rattle.std.proofs.lemmas.Int.{ints}
use Rattle.std.proofs.lemmas.List.Elements.{All-nil, All-cons}
use Rattle.q_packet.specs.Totals.{count}
use Rattle.q_packet.specs.Descriptor.{Descriptor}
use Rattle.q_packet.specs.declared.stamped.Stamped.{Stamped}
use Rattle.q_fqcodel.specs.Cleared.{adjust}
use Rattle.q_fqcodel.specs.Quanta.{need}
use Rattle.q_fqcodel.specs.Selection.{arranged, first_ready, with_rest, moved}
use Rattle.q_fqcodel.specs.FqState.{FqSettings, FqState, queues, queue_of, is_idle}
use Rattle.q_fqcodel.specs.Lawful.{times}
use Rattle.q_fqcodel.specs.Put.{flow_of, is_listed, joined, appended}
use Rattle.q_fqcodel.specs.Take.{selected, flow_after, front, sent_from, paid, after_sending}
use Rattle.q_fqcodel.specs.NewFlow.{HasCredits, IsNew, served, served_before, BecomesNew, NewBeforeOld}
use Rattle.q_fqcodel.specs.Entry.{Entry}
use Rattle.q_fqcodel.proofs.QuantaLemmas.{need_none}
use Rattle.q_fqcodel.proofs.SelectionLemmas.{first_passes}
use Rattle.q_fqcodel.proofs.LawfulLemmas.{times-cons, times-append, one_own}
use Rattle.q_fqcodel.proofs.LawLemmas.{queues-clear, packets_of-appended}
use Rattle.q_fqcodel.proofs.FlowLemmas.{idle_in}
use Rattle.q_fqcodel.proofs.PutLemmas.{other_queue, own_some, listed_yes, cut_none}
use Rattle.q_fqcodel.proofs.SentLemmas.{after_new_flows, flow-paid}

-- of each entry
abbrev Each : (ℕ → Type 0) → List Entry → Type 0
Each P [] = ⊤
Each P (e ∷ es) = P e.flow × Each P es

-- the first ready flow of a list, and what stands behind it
record Ready (P : ℕ → Type 0) (n : ℕ) (new_flows : List Entry) : Type 0 where
  first : Entry
  behind : List Entry
  is : new_flows ≡ first ∷ behind
  good : P first.flow
  others : Each P behind
  still : (first.flow ≡ n) ⊎ HasCredits n behind

ready_of : (P : ℕ → Type 0) (q n : ℕ) (idle : ℕ → Bool) → idle n ≡ false → (new_flows : List Entry) → Each P new_flows → HasCredits n new_flows
    → Ready P n (drop (first_ready q idle new_flows) new_flows)
ready_of P q n idle busy [] each has = absurd has
ready_of P q n idle busy (e ∷ es) each has =
    ⊎_elim
    (λ (here : first_ready q idle (e ∷ es) ≡ 0).
    subst (λ (p : ℕ). Ready P n (drop p (e ∷ es))) (sym here)
    (record { first = e; behind = es; is = refl; good = each.0; others = each.1; still = ⊎_elim (λ (h : (e.flow ≡ n) × (pos 0 <ℤ e.credits)). inl h.0) (λ (h : HasCredits n es). inr h) has }))
    (λ (w : (first_ready q idle (e ∷ es) ≡ suc (first_ready q idle es)) × ((idle e.flow ≡ false → need q e ≡ 0 → ⊥))).
    subst (λ (p : ℕ). Ready P n (drop p (e ∷ es))) (sym w.0)
    (ready_of P q n idle busy es each.1
    (⊎_elim (λ (h : (e.flow ≡ n) × (pos 0 <ℤ e.credits)). absurd (w.1 (ap idle h.0 ∙ busy) (need_none q e h.1))) (λ (h : HasCredits n es). h) has)))
    (first_passes q idle e es)

-- the new list once the flow that sends is in front
selected-new_flows : (s : FqState) (e : Entry) (es : List Entry) → drop (first_ready s.settings.quantum (is_idle s.flows) s.new_flows) s.new_flows ≡ e ∷ es → (selected s).new_flows ≡ e ∷ es
unfolding selected arranged with_rest
selected-new_flows s e es h =
    ap (λ (l : List Entry). (with_rest s.settings.quantum (is_idle s.flows) l
    (s.old_flows ++ map (moved s.settings.quantum) (take (first_ready s.settings.quantum (is_idle s.flows) s.new_flows) s.new_flows))).new_flows)
    h

selected-queues : (s : FqState) → queues (selected s).flows ≡ queues s.flows
unfolding selected
selected-queues s = queues-clear (λ (_ : Stamped). 0) (arranged s.settings.quantum (is_idle s.flows) s.new_flows s.old_flows).gone s.flows

front_is : (s : FqState) (e : Entry) (es : List Entry) → s.new_flows ≡ e ∷ es → front s ≡ Some e
unfolding front
front_is s e es h = ap (λ (l : List Entry). slice_get (l ++ s.old_flows) 0) h

served_step : (n m : ℕ) (P : ℕ → Type 0) (rest : List ℕ) → P m → (m ≢ n → All P (served_before n rest)) → All P (served_before n (m ∷ rest))
served_step n m P rest good more =
    ⊎_elim
    (λ (own : m ≡ n). subst (All P) (sym (cond-true (m == n) [] (m ∷ served_before n rest) (eq-eqb m n own))) (All-nil P))
    (λ (other : m ≢ n). subst (All P) (sym (cond-false (m == n) [] (m ∷ served_before n rest) (ne_eqb m n other))) (All-cons P m (served_before n rest) good (more other)))
    (cases_eq m n)

-- as long as n has not sent, it stays new
stays_new : (n now : ℕ) (s : FqState) (e : Entry) (es : List Entry) → (selected s).new_flows ≡ e ∷ es → is_idle s.flows n ≡ false → n ≢ e.flow
    → is_idle (after_sending now (selected s)).flows n ≡ false
stays_new n now s e es at busy other =
    ap (λ (x : FqState). is_idle x.flows n) (after_new_flows (selected s) e es now at)
    ∙ ap (λ (l : List Stamped). nat_eq (count l) 0) (other_queue (flow_after now) e.flow n (selected s).flows other)
    ∙ ap (λ (l : List (List Stamped)). idle_in l n) (selected-queues s)
    ∙ busy

goes_on : (P : ℕ → Type 0) (n : ℕ) (nows : List ℕ) (s : FqState) → Each P s.new_flows → HasCredits n s.new_flows → is_idle s.flows n ≡ false → All P (served_before n (served nows s))
goes_on P n [] s each has busy = All-nil P
goes_on P n (now ∷ nows) s each has busy =
    let r = ready_of P s.settings.quantum n (is_idle s.flows) busy s.new_flows each has in
    let e : Entry = r.first in
    let es : List Entry = r.behind in
    let at : (selected s).new_flows ≡ e ∷ es = selected-new_flows s e es r.is in
    let t : FqState = after_sending now (selected s) in
    let m : Entry = paid (sent_from now (selected s)) e in
    let new_flows : t.new_flows ≡ m ∷ es = ap (λ (x : FqState). x.new_flows) (after_new_flows (selected s) e es now at) in
    let first : served (now ∷ nows) s ≡ e.flow ∷ served nows t = ap (λ (o : Option Entry). map (λ (e : Entry). e.flow) (option_to_list o) ++ served nows t) (front_is (selected s) e es at) in
    subst (λ (l : List ℕ). All P (served_before n l)) (sym first)
    (served_step n e.flow P (served nows t) r.good
    (λ other.
    goes_on P n nows t
    (subst (Each P) (sym new_flows) (subst P (sym (flow-paid (sent_from now (selected s)) e)) r.good, r.others))
    (subst (HasCredits n) (sym new_flows) (inr (⊎_elim (λ (own : e.flow ≡ n). absurd (other own)) (λ (h : HasCredits n es). h) r.still)))
    (stays_new n now s e es at busy (λ same. other (sym same)))))

-- a flow of the new list is not in the old one
each_new : (old_flows new_flows : List Entry) → ((n : ℕ) → times n new_flows + times n old_flows ≤ 1) → Each (λ m. is_listed m old_flows ≡ false) new_flows
each_new old_flows [] once = tt
each_new old_flows (e ∷ es) once = (
  false_from_ne_true (is_listed e.flow old_flows) (λ listed. absurd (omega (arith, once e.flow, times-cons e.flow e es, one_own e, listed_yes e.flow old_flows listed))),
  each_new old_flows es (λ n. omega (arith, once n, times-cons n e es)),
)

pub new_before_old : NewBeforeOld
new_before_old s n lawful new nows =
    goes_on (λ m. is_listed m s.old_flows ≡ false) n nows s
    (each_new s.old_flows s.new_flows (λ m. omega (arith, lawful.once m, times-append m s.new_flows s.old_flows))) new.listed new.busy

credits_last : (n : ℕ) (es : List Entry) (e : Entry) → e.flow ≡ n → pos 0 <ℤ e.credits → HasCredits n (es ++ e ∷ [])
credits_last n [] e own high = inl (own, high)
credits_last n (x ∷ xs) e own high = inr (credits_last n xs e own high)

becomes_new' : (s : FqState) (packet : Descriptor) (now : ℕ) → 1 ≤ s.settings.quantum → flow_of s packet < length s.flows
    → is_listed (flow_of s packet) (s.new_flows ++ s.old_flows) ≡ false → IsNew (flow_of s packet) (appended s packet now)
unfolding appended
becomes_new' s packet now positive within absent =
    let n : ℕ = flow_of s packet in
    let e : Entry = record { flow = n; credits = pos s.settings.quantum } in
    let p : Stamped = record { packet = packet; at = now } in
    record {
      listed =
          subst (HasCredits n) (sym (cond-false (is_listed n (s.new_flows ++ s.old_flows)) s.new_flows (s.new_flows ++ e ∷ []) absent))
          (credits_last n s.new_flows e refl (omega (arith, ints, positive)));
      busy = let some = own_some p n s.flows within in ne_eqb (count (queue_of (adjust (joined p) n s.flows) n)) 0 (λ none. absurd (omega (arith, some, none)));
    }

appended-settings : (s : FqState) (packet : Descriptor) (now : ℕ) → (appended s packet now).settings ≡ s.settings
unfolding appended
appended-settings s packet now = refl

pub becomes_new : BecomesNew
becomes_new s packet now lawful positive within absent under =
    let n : ℕ = flow_of s packet in
    let there : n < length s.flows = omega (arith, within, lawful.each_flow) in
    subst (IsNew n) (sym (cut_none (appended s packet now) (omega (arith, under, packets_of-appended s packet now there, ap (λ (x : FqSettings). x.limit) (appended-settings s packet now)))))
    (becomes_new' s packet now positive there absent)
