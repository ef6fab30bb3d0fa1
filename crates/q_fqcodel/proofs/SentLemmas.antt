-- CoDel at one flow: it drops no more packets than the flow has, and an empty flow sends nothing.
use Rattle.std.proofs.Common.{◌≡◌, ℕ, zero, suc, ◌+◌, ◌-◌, ◌<◌, ◌≤◌, nat_lt, Bool, true, false, cond, List, [], ◌∷◌, length, take, Option, Some, None, IsSome, option_map, ◌++◌, IfSome, option_and_then, unwrap_or, pos, ◌-ℤ◌, refl, sym, ap, ap₂, ◌∙◌, arith, subst, drop, set, ◌==◌, if◌then◌else◌, not}
use Rattle.std.specs.Prelude.{slice_get}
use Rattle.std.proofs.lemmas.Bool.{cond-false, lt-ltb, ne_eqb, eqb-true, not-false}
use Rattle.std.proofs.lemmas.List.{length-take, length-drop, nil_from_length}
use Rattle.q_packet.specs.Totals.{count}
use Rattle.q_packet.specs.declared.stamped.Stamped.{Stamped}
use Rattle.q_codel.specs.Codel.{CodelState, drops, sent, taken, left}
use Rattle.q_codel.specs.declared.codel.Taken.{Taken}
use Rattle.q_fqcodel.specs.Cleared.{adjust}
use Rattle.q_fqcodel.specs.FqState.{Flow, FqState}
use Rattle.q_fqcodel.specs.Take.{packet_sent, packets_dropped, flow_after, front, sender, head_sent, sent_from, dropped_from, paid, with_sent, after_sending}
use Rattle.q_fqcodel.specs.Entry.{Entry}

drops_empty : (s : CodelState) (now : ℕ) → drops s now [] ≡ 0
drops_empty s now = empty_if s.dropping
  where
    empty_if : (b : Bool) → cond b zero zero ≡ zero
    empty_if true = refl
    empty_if false = refl

pub slice_within : (q : List Stamped) (n : ℕ) → IsSome (slice_get q n) → n < length q
slice_within [] n h = absurd cc
slice_within (x ∷ xs) zero h = omega arith
slice_within (x ∷ xs) (suc n) h = omega (arith, slice_within xs n h)

mapped_some : {A B : Type 0} (f : A → B) (o : Option A) → IsSome (option_map f o) → IsSome o
mapped_some f None h = h
mapped_some f (Some x) h = h

-- no more are dropped than the flow has
pub drops_within : (s : CodelState) (now : ℕ) (q : List Stamped) → (0 < count q → IsSome (taken s now q)) → drops s now q ≤ count q
drops_within s now [] some = omega (arith, drops_empty s now)
drops_within s now (x ∷ xs) some =
    let within : drops s now (x ∷ xs) < length (x ∷ xs) = slice_within (x ∷ xs) (drops s now (x ∷ xs)) (mapped_some _ (slice_get (x ∷ xs) (drops s now (x ∷ xs))) (some (omega arith))) in
    omega (arith, within)

-- and one fewer where it sends
pub drops_below : (s : CodelState) (now : ℕ) (q : List Stamped) → IsSome (taken s now q) → drops s now q < count q
drops_below s now q some = slice_within q (drops s now q) (mapped_some _ (slice_get q (drops s now q)) some)

-- what the flow has then, and what it had
pub rest_count : (held rest : ℕ) (s : CodelState) (now : ℕ) (q l : List Stamped) → held ≡ count q → rest ≡ count l → l ≡ left s now q → IsSome (taken s now q)
    → rest + suc (drops s now q) ≡ held
rest_count held rest s now q l h r is some =
    omega (arith, h, r, ap count is, length-drop (suc (drops s now q)) q, drops_below s now q some)

more_than_one : (n : ℕ) → nat_lt 1 (suc n) ≡ not (n == 0)
more_than_one zero = refl
more_than_one (suc n) = lt-ltb 1 (suc (suc n)) (omega arith) ∙ sym (ap not (ne_eqb (suc n) 0 (omega arith)))

-- the packets dropped are so many
pub count_dropped : (s : CodelState) (now : ℕ) (q : List Stamped) → (0 < count q → IsSome (taken s now q)) → count (take (drops s now q) q) ≡ drops s now q
count_dropped s now q some = omega (arith, length-take (drops s now q) q, drops_within s now q some)

-- more than one packet has left exactly where one was dropped
pub drops_told : (held rest : ℕ) (s : CodelState) (now : ℕ) (q : List Stamped) → rest + suc (drops s now q) ≡ held → IsSome (taken s now q)
    → nat_lt 1 (held - rest) ≡ not (count (take (drops s now q) q) == 0)
drops_told held rest s now q h some =
    let gone : held - rest ≡ suc (drops s now q) = omega (arith, h) in
    ap (nat_lt 1) gone ∙ more_than_one (drops s now q) ∙ ap (λ (n : ℕ). not (n == 0)) (sym (count_dropped s now q (λ _. some)))

-- ---- the flow in front sends

pub slice_there : {X : Type 0} (xs : List X) (n : ℕ) → n < length xs → IsSome (slice_get xs n)
slice_there [] n h = absurd (omega arith)
slice_there (x ∷ xs) zero h = refl
slice_there (x ∷ xs) (suc n) h = slice_there xs n (omega arith)

-- the sender is the flow of the entry in front
pub sender_found : (s : FqState) (e : Entry) (rest : List Entry) → s.new_flows ++ s.old_flows ≡ e ∷ rest → sender s ≡ slice_get s.flows e.flow
unfolding sender front
sender_found s e rest h = ap (λ (l : List Entry). option_and_then (λ (e : Entry). slice_get s.flows e.flow) (slice_get l 0)) h

sent_of : (now : ℕ) (o : Option Flow) (r : Option Taken) → IsSome o → IfSome o (λ f. r ≡ packet_sent now f) → option_and_then (packet_sent now) o ≡ r
sent_of now None r some h = absurd cc
sent_of now (Some f) r some h = sym h

pub sent_is : (s : FqState) (e : Entry) (rest : List Entry) (now : ℕ) (r : Option Taken) → s.new_flows ++ s.old_flows ≡ e ∷ rest → e.flow < length s.flows
    → IfSome (slice_get s.flows e.flow) (λ f. r ≡ packet_sent now f) → sent_from now s ≡ r
unfolding sent_from
sent_is s e rest now r front within h =
    ap (option_and_then (packet_sent now)) (sender_found s e rest front)
    ∙ sent_of now (slice_get s.flows e.flow) r (slice_there s.flows e.flow within) h

dropped_of : (now : ℕ) (o : Option Flow) (P : List Stamped → Type 0) → IsSome o → IfSome o (λ f. P (packets_dropped now f)) → P (unwrap_or (option_map (packets_dropped now) o) [])
dropped_of now None P some h = absurd cc
dropped_of now (Some f) P some h = h

-- what is known of the packet that CoDel sends, as it was queued
head_of : (now : ℕ) (o : Option Flow) (P : Option Stamped → Type 0) → IsSome o → IfSome o (λ f. P (sent f.codel now f.queue)) → P (option_and_then (λ (f : Flow). sent f.codel now f.queue) o)
head_of now None P some h = absurd cc
head_of now (Some f) P some h = h

pub head_is : (s : FqState) (e : Entry) (rest : List Entry) (now : ℕ) (P : Option Stamped → Type 0) → s.new_flows ++ s.old_flows ≡ e ∷ rest → e.flow < length s.flows
    → IfSome (slice_get s.flows e.flow) (λ f. P (sent f.codel now f.queue)) → P (head_sent now s)
unfolding head_sent
head_is s e rest now P front within h =
    subst (λ (o : Option Flow). P (option_and_then (λ (f : Flow). sent f.codel now f.queue) o)) (sym (sender_found s e rest front))
    (head_of now (slice_get s.flows e.flow) P (slice_there s.flows e.flow within) h)

-- what is known of the packets that CoDel drops
pub dropped_is : (s : FqState) (e : Entry) (rest : List Entry) (now : ℕ) (P : List Stamped → Type 0) → s.new_flows ++ s.old_flows ≡ e ∷ rest → e.flow < length s.flows
    → IfSome (slice_get s.flows e.flow) (λ f. P (packets_dropped now f)) → P (dropped_from now s)
unfolding dropped_from
dropped_is s e rest now P front within h =
    subst (λ (o : Option Flow). P (unwrap_or (option_map (packets_dropped now) o) [])) (sym (sender_found s e rest front))
    (dropped_of now (slice_get s.flows e.flow) P (slice_there s.flows e.flow within) h)

pub after_new_flows : (s : FqState) (e : Entry) (rest : List Entry) (now : ℕ) → s.new_flows ≡ e ∷ rest
    → after_sending now s ≡ record s { flows = adjust (flow_after now) e.flow s.flows; new_flows = paid (sent_from now s) e ∷ rest }
unfolding after_sending with_sent
after_new_flows s e rest now front = ap (λ (l : List Entry). with_sent now s l s.old_flows) front

pub after_none : (s : FqState) (now : ℕ) → s.new_flows ≡ [] → s.old_flows ≡ [] → after_sending now s ≡ s
unfolding after_sending with_sent
after_none s now no_new no_old =
    ap₂ (λ (l m : List Entry). with_sent now s l m) no_new no_old
    ∙ ap₂ (λ (l m : List Entry). record s { new_flows = l; old_flows = m }) (sym no_new) (sym no_old)

pub sent_none : (s : FqState) (now : ℕ) → s.new_flows ≡ [] → s.old_flows ≡ [] → sent_from now s ≡ None
unfolding sent_from sender front
sent_none s now no_new no_old =
    ap₂ (λ (l m : List Entry). option_and_then (packet_sent now) (option_and_then (λ (e : Entry). slice_get s.flows e.flow) (slice_get (l ++ m) 0))) no_new no_old

pub head_none : (s : FqState) (now : ℕ) → s.new_flows ≡ [] → s.old_flows ≡ [] → head_sent now s ≡ None
unfolding head_sent sender front
head_none s now no_new no_old =
    ap₂ (λ (l m : List Entry). option_and_then (λ (f : Flow). sent f.codel now f.queue) (option_and_then (λ (e : Entry). slice_get s.flows e.flow) (slice_get (l ++ m) 0))) no_new no_old

pub dropped_none : (s : FqState) (now : ℕ) → s.new_flows ≡ [] → s.old_flows ≡ [] → dropped_from now s ≡ []
unfolding dropped_from sender front
dropped_none s now no_new no_old =
    ap₂ (λ (l m : List Entry). unwrap_or (option_map (packets_dropped now) (option_and_then (λ (e : Entry). slice_get s.flows e.flow) (slice_get (l ++ m) 0))) []) no_new no_old

-- a flow that has sent has no more packets than before
pub count_after : (now : ℕ) (f : Flow) → count (flow_after now f).queue ≤ count f.queue
unfolding flow_after
count_after now f = omega (arith, length-drop (suc (drops f.codel now f.queue)) f.queue)

pub paid_is : (o : Option Taken) (t : Taken) (e : Entry) → o ≡ Some t → paid o e ≡ record e { credits = e.credits -ℤ pos t.packet.len }
unfolding paid
paid_is o t e h = ap (λ (p : Option Taken). paid p e) h

pub flow-paid : (o : Option Taken) (e : Entry) → (paid o e).flow ≡ e.flow
unfolding paid
flow-paid None e = refl
flow-paid (Some t) e = refl

pub sender_none : (s : FqState) → s.new_flows ≡ [] → s.old_flows ≡ [] → sender s ≡ None
unfolding sender front
sender_none s no_new no_old =
    ap₂ (λ (l m : List Entry). option_and_then (λ (e : Entry). slice_get s.flows e.flow) (slice_get (l ++ m) 0)) no_new no_old

-- ---- for the code, which reads the front of both lists

list_front : (xs : List Entry) (e : Entry) → slice_get xs 0 ≡ Some e → xs ≡ e ∷ drop 1 xs
list_front [] e h = absurd cc
list_front (x ∷ xs) e h = ap (λ (o : Option Entry). unwrap_or o x ∷ xs) h

pub front_is : (s : FqState) (e : Entry) → front s ≡ Some e → s.new_flows ++ s.old_flows ≡ e ∷ drop 1 (s.new_flows ++ s.old_flows)
unfolding front
front_is s e h = list_front (s.new_flows ++ s.old_flows) e h

none_in : (xs ys : List Entry) → slice_get (xs ++ ys) 0 ≡ None → (xs ≡ []) × (ys ≡ [])
none_in [] [] h = (refl, refl)
none_in [] (y ∷ ys) h = absurd cc
none_in (x ∷ xs) ys h = absurd cc

pub front_none : (s : FqState) → front s ≡ None → (s.new_flows ≡ []) × (s.old_flows ≡ [])
unfolding front
front_none s h = none_in s.new_flows s.old_flows h

pub empty_of : {X : Type 0} (xs : List X) → not (length xs == 0) ≡ false → xs ≡ []
empty_of xs h = nil_from_length xs (eqb-true (length xs) 0 (not-false (length xs == 0) h))

-- the old list once the front is written: it stands there where the new list is empty
abbrev pub written : Entry → List Entry → List Entry → List Entry
written m new_flows old_flows = if length new_flows == 0 then set old_flows 0 m else old_flows

with_sent_written : (now : ℕ) (s : FqState) (e : Entry) (new_flows old_flows : List Entry) → slice_get (new_flows ++ old_flows) 0 ≡ Some e
    → with_sent now s new_flows old_flows ≡ record s {
      flows = adjust (flow_after now) e.flow s.flows;
      new_flows = set new_flows 0 (paid (sent_from now s) e);
      old_flows = written
          (paid (sent_from now s) e) new_flows old_flows;
    }
unfolding with_sent
with_sent_written now s e [] [] h = absurd cc
with_sent_written now s e [] (x ∷ xs) h =
    ap (λ (o : Option Entry). record s { flows = adjust (flow_after now) (unwrap_or o x).flow s.flows; new_flows = []; old_flows = paid (sent_from now s) (unwrap_or o x) ∷ xs }) h
with_sent_written now s e (x ∷ xs) old_flows h =
    ap (λ (o : Option Entry). record s { flows = adjust (flow_after now) (unwrap_or o x).flow s.flows; new_flows = paid (sent_from now s) (unwrap_or o x) ∷ xs; old_flows = old_flows }) h
    ∙ ap (λ (l : List Entry). record s { flows = adjust (flow_after now) e.flow s.flows; new_flows = paid (sent_from now s) e ∷ xs; old_flows = l })
    (sym (cond-false (length (x ∷ xs) == 0) (set old_flows 0 (paid (sent_from now s) e)) old_flows (ne_eqb (length (x ∷ xs)) 0 (omega arith))))

pub after_sending_written : (s : FqState) (e : Entry) (now : ℕ) → front s ≡ Some e
    → after_sending now s ≡ record s {
      flows = adjust (flow_after now) e.flow s.flows;
      new_flows = set s.new_flows 0 (paid (sent_from now s) e);
      old_flows = written (paid (sent_from now s) e) s.new_flows s.old_flows;
    }
unfolding after_sending front
after_sending_written s e now h = with_sent_written now s e s.new_flows s.old_flows h

written_lists : (m e : Entry) (new_flows old_flows : List Entry) → slice_get (new_flows ++ old_flows) 0 ≡ Some e
    → set new_flows 0 m ++ written m new_flows old_flows ≡ m ∷ drop 1 (new_flows ++ old_flows)
written_lists m e [] [] h = absurd cc
written_lists m e [] (x ∷ xs) h = refl
written_lists m e (x ∷ xs) old_flows h = ap (λ (l : List Entry). m ∷ (xs ++ l)) (cond-false (length (x ∷ xs) == 0) (set old_flows 0 m) old_flows (ne_eqb (length (x ∷ xs)) 0 (omega arith)))

pub lists_written : (s : FqState) (m e : Entry) → front s ≡ Some e → set s.new_flows 0 m ++ written m s.new_flows s.old_flows ≡ m ∷ drop 1 (s.new_flows ++ s.old_flows)
unfolding front
lists_written s m e h = written_lists m e s.new_flows s.old_flows h
