-- An fq_codel that shows nothing has no packet left (RFC 8290, section 4.2).
use Rattle.std.proofs.Common.{◌≡◌, ℕ, zero, suc, ◌<◌, ◌≤◌, ℤ, pos, negsuc, ◌≤ℤ◌, ◌<ℤ◌, ◌⊎◌, inl, inr, Bool, true, false, List, [], ◌∷◌, ◌++◌, length, get_or, drop, refl, sym, ap, ap₂, subst, ◌∙◌, Option, Some, None, option_map, arith, ⊎_elim}
use Rattle.std.specs.Prelude.{slice_get, option_and_then, nat_eq, IfSome, IsSome}
use Rattle.std.proofs.lemmas.Bool.{cases_Bool, true≢false}
use Rattle.std.proofs.lemmas.Int.{ints}
use Rattle.std.proofs.lemmas.Option.{none-some, slice_get-get_or, get_or_from_slice_get, slice_get-map}
use Rattle.q_packet.specs.Descriptor.{Descriptor}
use Rattle.q_packet.specs.declared.stamped.Stamped.{Stamped}
use Rattle.q_codel.specs.Codel.{CodelState, drops, marks, leaving, taken}
use Rattle.q_codel.specs.declared.codel.Taken.{Taken}
use Rattle.q_codel.proofs.Promises.{last_packet_stays_holds}
use Rattle.q_fqcodel.specs.Entry.{Entry}
use Rattle.q_fqcodel.specs.FqState.{Flow, FqState, is_idle, queue_of, queues, packets_of}
use Rattle.q_fqcodel.specs.Lawful.{IsLawful}
use Rattle.q_fqcodel.specs.Take.{selected, front, packet_sent, sent_from, after_sending}
use Rattle.q_fqcodel.specs.Turns.{turns, GoesOn, IsSettled}
use Rattle.q_fqcodel.proofs.KeptLemmas.{take_keeps_lawful}
use Rattle.q_fqcodel.proofs.LawfulLemmas.{front_within, none_waits}
use Rattle.q_fqcodel.proofs.SentLemmas.{slice_there, sender_found, front_is, front_none, after_none}
use Rattle.q_fqcodel.proofs.TurnLemmas.{LeadsOn, new_granted, new_moves, new_ready, old_granted, old_leaves, old_ready, none_left, Looks, settled_at, settled_none}

-- ---- the selection leaves in front a flow with packets, or none

abbrev Onward : FqState → Type 0
Onward s = (t : FqState) → GoesOn s t → IsLawful t → 1 ≤ t.settings.quantum → IsSettled (selected t)

led_on : (s t : FqState) → Onward s → LeadsOn s t → 1 ≤ t.settings.quantum → IsSettled (selected s)
led_on s t onward led positive = subst (λ (x : FqState). IsSettled x) led.on.same (onward t led.on led.lawful positive)

stops : (s : FqState) → selected s ≡ s → IsSettled s → IsSettled (selected s)
stops s chosen h = subst (λ (x : FqState). IsSettled x) (sym chosen) h

cases_credits : (z : ℤ) → (z ≤ℤ pos 0) ⊎ (pos 0 <ℤ z)
cases_credits (pos zero) = inl (omega (arith, ints))
cases_credits (pos (suc n)) = inr (omega (arith, ints))
cases_credits (negsuc n) = inl (omega (arith, ints))

module _ (s : FqState) (e : Entry) (rest : List Entry) (lawful : IsLawful s) (positive : 1 ≤ s.settings.quantum) (onward : Onward s) where
  looks : (behind : List Entry) → s.new_flows ++ s.old_flows ≡ e ∷ behind → Looks s s e e behind
  looks behind first = record { opened = refl; lawful = lawful; read = refl; first = first }

  at_new : s.new_flows ≡ e ∷ rest → IsSettled (selected s)
  at_new new = ⊎_elim
      (λ (low : e.credits ≤ℤ pos 0). led_on s _ onward (new_granted s lawful e rest new positive low) positive)
      (λ (high : pos 0 <ℤ e.credits). ⊎_elim
      (λ (empty : is_idle s.flows e.flow ≡ true). led_on s _ onward (new_moves s lawful e rest new high empty) positive)
      (λ (busy : is_idle s.flows e.flow ≡ false).
      let chosen : selected s ≡ s = new_ready s lawful e rest new high busy in
      stops s chosen (settled_at (looks (rest ++ s.old_flows) (ap (λ (es : List Entry). es ++ s.old_flows) new)) chosen high busy))
      (cases_Bool (is_idle s.flows e.flow)))
      (cases_credits e.credits)

  at_old : s.new_flows ≡ [] → s.old_flows ≡ e ∷ rest → IsSettled (selected s)
  at_old none old = ⊎_elim
      (λ (low : e.credits ≤ℤ pos 0). led_on s _ onward (old_granted s lawful e rest none old positive low) positive)
      (λ (high : pos 0 <ℤ e.credits). ⊎_elim
      (λ (empty : is_idle s.flows e.flow ≡ true). led_on s _ onward (old_leaves s lawful e rest none old high empty) positive)
      (λ (busy : is_idle s.flows e.flow ≡ false).
      let chosen : selected s ≡ s = old_ready s lawful e rest none old high busy in
      stops s chosen (settled_at (looks rest (ap₂ (λ (a b : List Entry). a ++ b) none old)) chosen high busy))
      (cases_Bool (is_idle s.flows e.flow)))
      (cases_credits e.credits)

at_front : (s : FqState) (new_flows old_flows : List Entry) → s.new_flows ≡ new_flows → s.old_flows ≡ old_flows → IsLawful s
    → 1 ≤ s.settings.quantum → Onward s → IsSettled (selected s)
at_front s [] [] new old lawful positive onward = stops s (none_left s new old) (settled_none s new old)
at_front s [] (e ∷ rest) new old lawful positive onward = at_old s e rest lawful positive onward new old
at_front s (e ∷ rest) old_flows new old lawful positive onward = at_new s e rest lawful positive onward new

-- with fewer looks left than k
settled_within : (k : ℕ) (s : FqState) → turns s < k → IsLawful s → 1 ≤ s.settings.quantum → IsSettled (selected s)
settled_within zero s h lawful positive = absurd (omega arith)
settled_within (suc k) s h lawful positive =
    at_front s s.new_flows s.old_flows refl refl lawful positive (λ t on lawful' positive'. settled_within k t (omega (arith, h, on.fewer)) lawful' positive')

pub settled_selected : (s : FqState) → IsLawful s → 1 ≤ s.settings.quantum → IsSettled (selected s)
settled_selected s lawful positive = settled_within (suc (turns s)) s (omega arith) lawful positive

-- ---- a flow with packets sends one

abbrev pub given : Option Taken → Option Descriptor
given o = option_map (λ (t : Taken). t.packet) o

taken_some : (c : CodelState) (now : ℕ) (queue : List Stamped) → given (taken c now queue) ≡ None → queue ≡ []
taken_some c now [] e = refl
taken_some c now (s ∷ queue) e =
    let d : ℕ = drops c now (s ∷ queue) in
    let there = slice_get-get_or (s ∷ queue) d s (last_packet_stays_holds c now (s ∷ queue) (omega arith)) in
    let m : Bool = marks c now (s ∷ queue) in
    absurd (none-some (leaving m (get_or (s ∷ queue) d s).packet)
    (sym e ∙ ap (λ (o : Option Stamped). given (option_map (λ (head : Stamped). record { packet = leaving m head.packet; marked = m }) o)) there))

-- the flow at this place
queue_at : (flows : List Flow) (n : ℕ) (f : Flow) → slice_get flows n ≡ Some f → queue_of flows n ≡ f.queue
queue_at flows n f e =
    get_or_from_slice_get (queues flows) n f.queue [] (slice_get-map (λ (g : Flow). g.queue) flows n ∙ ap (option_map (λ (g : Flow). g.queue)) e)

-- where nothing is sent, no flow is in front
pub sends_none : (now : ℕ) (x : FqState) → IsLawful x → IsSettled x → given (sent_from now x) ≡ None
    → (x.new_flows ≡ []) × (x.old_flows ≡ [])
unfolding sent_from packet_sent
sends_none now x lawful settled e = front_none x (by (front x) refl settled.busy)
  where
    at : (n : Entry) → is_idle x.flows n.flow ≡ false → (o : Option Flow) → slice_get x.flows n.flow ≡ o → IsSome o
        → given (option_and_then (packet_sent now) o) ≡ None → ⊥
    at n busy None there some e = absurd cc
    at n busy (Some f) there some e =
        let empty : queue_of x.flows n.flow ≡ [] = queue_at x.flows n.flow f there ∙ taken_some f.codel now f.queue e in
        true≢false (sym (ap (λ (q : List Stamped). nat_eq (length q) 0) empty) ∙ busy)

    by : (o : Option Entry) → front x ≡ o → IfSome o (λ n. is_idle x.flows n.flow ≡ false) → o ≡ None
    by None first busy = refl
    by (Some n) first busy =
        let listed : x.new_flows ++ x.old_flows ≡ n ∷ drop 1 (x.new_flows ++ x.old_flows) = front_is x n first in
        let within : n.flow < length x.flows = omega (arith, front_within x n (drop 1 (x.new_flows ++ x.old_flows)) lawful listed, lawful.each_flow) in
        absurd (at n busy (slice_get x.flows n.flow) refl (slice_there x.flows n.flow within)
        (ap (λ (o : Option Flow). given (option_and_then (packet_sent now) o)) (sym (sender_found x n (drop 1 (x.new_flows ++ x.old_flows)) listed)) ∙ e))

-- ---- so none waits

pub take_leaves_none : (now : ℕ) (s : FqState) → IsLawful s → 1 ≤ s.settings.quantum → given (sent_from now (selected s)) ≡ None → packets_of (after_sending now (selected s)).flows ≡ 0
take_leaves_none now s lawful positive e =
    let chosen : IsLawful (selected s) = (take_keeps_lawful s now lawful positive).0 in
    let empty = sends_none now (selected s) chosen (settled_selected s lawful positive) e in
    ap (λ (x : FqState). packets_of x.flows) (after_none (selected s) now empty.0 empty.1) ∙ none_waits (selected s) chosen empty.0 empty.1
