-- Where the packet that was put is itself lost: by its place in its flow, and as the last of those lost.
use Rattle.std.proofs.Common.{◌≡◌, ◌≢◌, ℕ, zero, suc, ◌+◌, ◌<◌, ◌≤◌, ◌==◌, ◌&&◌, nat_le, true, List, [], ◌∷◌, ◌++◌, Contains, length, take, drop, refl, sym, ap, ◌∙◌, arith, ⊎_elim, subst, length-append}
use Rattle.std.proofs.lemmas.Bool.{cases_eq, cases_lt, le-leb, and_from, and_parts, eq-eqb, eqb-true, leb-true}
use Rattle.std.proofs.lemmas.List.{length-take, take-append-drop, take-append-le, take_all}
use Rattle.std.proofs.lemmas.List.Elements.{Contains-append_left, Contains-append_right, Contains-push}
use Rattle.q_packet.specs.Totals.{count}
use Rattle.q_packet.specs.Descriptor.{Descriptor}
use Rattle.q_packet.specs.declared.stamped.Stamped.{Stamped}
use Rattle.q_fqcodel.specs.Cleared.{adjust}
use Rattle.q_fqcodel.specs.FqState.{Flow, FqState, queue_of, all_packets}
use Rattle.q_fqcodel.specs.Put.{flow_of, joined, appended, fattest, overflow, shed, lost_by_put, is_lost_itself}
use Rattle.q_fqcodel.specs.Laws.{LostByPlace, LostIsLast}
use Rattle.q_fqcodel.proofs.LawLemmas.{all_packets-cons}
use Rattle.q_fqcodel.proofs.PutLemmas.{own_queue, other_queue}

-- a packet of one flow is one of all
contains_all : (x : Stamped) (n : ℕ) (flows : List Flow) → Contains (queue_of flows n) x → Contains (all_packets flows) x
contains_all x n [] h = absurd (omega (arith, h.1))
contains_all x zero (f ∷ fs) h = subst (λ (l : List Stamped). Contains l x) (sym (all_packets-cons f fs)) (Contains-append_left f.queue (all_packets fs) x h)
contains_all x (suc n) (f ∷ fs) h = subst (λ (l : List Stamped). Contains l x) (sym (all_packets-cons f fs)) (Contains-append_right f.queue (all_packets fs) x (contains_all x n fs h))

-- the packets in front of a queue are of the queue
contains_front : (x : Stamped) (k : ℕ) (queue before : List Stamped) → take k queue ≡ before ++ x ∷ [] → Contains queue x
contains_front x k queue before h =
    subst (λ (l : List Stamped). Contains l x) (take-append-drop k queue)
    (Contains-append_left (take k queue) (drop k queue) x (subst (λ (l : List Stamped). Contains l x) (sym h) (Contains-push before x)))

lost_is : (s : FqState) (packet : Descriptor) (now : ℕ) → (let a = appended s packet now in lost_by_put s packet now ≡ take (overflow a) (queue_of a.flows (fattest a.flows)))
unfolding shed
lost_is s packet now = refl

itself_is : (s : FqState) (packet : Descriptor) (now : ℕ)
    → (let a = appended s packet now in is_lost_itself s packet now ≡
    ((fattest a.flows == flow_of s packet) && nat_le (count (queue_of a.flows (flow_of s packet))) (overflow a)))
unfolding is_lost_itself
itself_is s packet now = refl

flows-appended : (s : FqState) (packet : Descriptor) (now : ℕ) → (appended s packet now).flows ≡ adjust (joined (record { packet = packet; at = now })) (flow_of s packet) s.flows
unfolding appended
flows-appended s packet now = refl

module _ (s : FqState) (packet : Descriptor) (now : ℕ) (within : flow_of s packet < length s.flows) where
  n : ℕ
  n = flow_of s packet

  newcomer : Stamped
  newcomer = record { packet = packet; at = now }

  a : FqState
  a = appended s packet now

  own : queue_of a.flows n ≡ queue_of s.flows n ++ newcomer ∷ []
  unfolding n newcomer a
  own = ap (λ (f : List Flow). queue_of f (flow_of s packet)) (flows-appended s packet now) ∙ own_queue (record { packet = packet; at = now }) (flow_of s packet) s.flows within

  others : (m : ℕ) → m ≢ n → queue_of a.flows m ≡ queue_of s.flows m
  unfolding n a
  others m ne = ap (λ (f : List Flow). queue_of f m) (flows-appended s packet now) ∙ other_queue (joined (record { packet = packet; at = now })) (flow_of s packet) m s.flows ne

  -- both say the same
  lost_parts : is_lost_itself s packet now ≡ true → (fattest a.flows ≡ n) × (count (queue_of a.flows n) ≤ overflow a)
  unfolding n a
  lost_parts h =
      let parts = and_parts (fattest a.flows == n) (nat_le (count (queue_of a.flows n)) (overflow a)) (sym (itself_is s packet now) ∙ h) in
      (eqb-true (fattest a.flows) n parts.0, leb-true (count (queue_of a.flows n)) (overflow a) parts.1)

  lost_from : fattest a.flows ≡ n → count (queue_of a.flows n) ≤ overflow a → is_lost_itself s packet now ≡ true
  unfolding n a
  lost_from same all =
      itself_is s packet now ∙ and_from (fattest a.flows == n) (nat_le (count (queue_of a.flows n)) (overflow a)) (eq-eqb (fattest a.flows) n same) (le-leb _ _ all)

  lost_all : fattest a.flows ≡ n → lost_by_put s packet now ≡ take (overflow a) (queue_of s.flows n ++ newcomer ∷ [])
  unfolding a
  lost_all same = lost_is s packet now ∙ ap (λ (q : List Stamped). take (overflow a) q) (ap (queue_of a.flows) same ∙ own)

  count_own : count (queue_of a.flows n) ≡ count (queue_of s.flows n) + 1
  count_own = omega (arith, ap count own, length-append (queue_of s.flows n) (newcomer ∷ []))

  by_place : is_lost_itself s packet now ≡ true → (fattest a.flows ≡ n) × (count (queue_of s.flows n) < count (lost_by_put s packet now))
  by_place h =
      let parts = lost_parts h in
      (parts.0, omega (arith, ap count (lost_all parts.0), length-take (overflow a) (queue_of s.flows n ++ newcomer ∷ []), length-append (queue_of s.flows n) (newcomer ∷ []), parts.1, count_own))

  from_place : (fattest a.flows ≡ n) × (count (queue_of s.flows n) < count (lost_by_put s packet now)) → is_lost_itself s packet now ≡ true
  from_place h =
      lost_from h.0 (omega (arith, h.1, ap count (lost_all h.0), length-take (overflow a) (queue_of s.flows n ++ newcomer ∷ []), count_own))

  is_last : is_lost_itself s packet now ≡ true → (before : List Stamped) × (lost_by_put s packet now ≡ before ++ newcomer ∷ [])
  is_last h =
      let parts = lost_parts h in
      (queue_of s.flows n, lost_all parts.0 ∙ take_all (overflow a) (queue_of s.flows n ++ newcomer ∷ []) (omega (arith, ap count own, parts.1)))

  from_last : (Contains (all_packets s.flows) newcomer → ⊥) → (before : List Stamped) → lost_by_put s packet now ≡ before ++ newcomer ∷ [] → is_lost_itself s packet now ≡ true
  unfolding a
  from_last new before last =
      ⊎_elim
      (λ (same : fattest a.flows ≡ n).
      ⊎_elim
      (λ (short : overflow a < suc (count (queue_of s.flows n))).
      absurd (new (contains_all newcomer n s.flows
      (contains_front newcomer (overflow a) (queue_of s.flows n) before
      (sym (take-append-le (overflow a) (queue_of s.flows n) (newcomer ∷ []) (omega arith)) ∙ sym (lost_all same) ∙ last)))))
      (λ (all : suc (count (queue_of s.flows n)) ≤ overflow a). lost_from same (omega (arith, all, count_own)))
      (cases_lt (overflow a) (suc (count (queue_of s.flows n)))))
      (λ (other : fattest a.flows ≢ n).
      absurd (new (contains_all newcomer (fattest a.flows) s.flows
      (contains_front newcomer (overflow a) (queue_of s.flows (fattest a.flows)) before
      (ap (take (overflow a)) (sym (others (fattest a.flows) other)) ∙ sym (lost_is s packet now) ∙ last)))))
      (cases_eq (fattest a.flows) n)

pub lost_by_place : LostByPlace
unfolding n a
lost_by_place s packet now within = (by_place s packet now within, from_place s packet now within)

pub lost_is_last : LostIsLast
unfolding newcomer
lost_is_last s packet now within new = (is_last s packet now within, λ h. from_last s packet now within new h.0 h.1)
