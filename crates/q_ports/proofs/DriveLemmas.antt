-- What senders hand back is of the rings of their ports.
use Rattle.std.proofs.Common.{◌≡◌, ◌∙◌, ℕ, ◌+◌, ◌<◌, ◌≤◌, List, [], ◌∷◌, ◌++◌, length, get_or, drop, map, true, false, Bool, refl, sym, ap, subst, arith, ⊎_elim, length-append}
use Rattle.std.proofs.lemmas.Bool.{cases_lt}
use Rattle.std.proofs.lemmas.List.{append_assoc, get_or-map, get_or_append_left, get_or_push, drop_more, length-drop, length-map, map_push, same_lists}
use Rattle.std.proofs.lemmas.List.Sums.{sum_by-cons}
use Rattle.std.specs.Prelude.{sum_by}
use Rattle.std.specs.List.{fold}
use Rattle.q_packet.specs.Descriptor.{Descriptor}
use Rattle.q_ports.specs.declared.sender.Sent.{Sent}
use Rattle.q_ports.specs.declared.driving.Started.{Started}
use Rattle.q_ports.specs.Driven.{AllOffered, AreBack, Drove, port_in, promised_load, promised_port}
use Rattle.q_ports.specs.Offered.{Offer, Offered, given_up_in, offering, packet_in}
use Rattle.q_ports.specs.Placed.{PortSeen, port_seen, ring_of_port}
use Rattle.q_ports.specs.Rings.{RingSeen, ring_id}
use Rattle.q_ports.proofs.RingLemmas.{no_ring}

no_port : PortSeen
no_port = port_seen 0 no_ring.ring []

no_sent : Sent
no_sent = record { port = no_port; given_up = 0; ran = false }

offering-ring : (v : PortSeen) (p : Descriptor) (b : Bool) → (offering v (record { packet = p; placed = b })).ring ≡ v.ring
offering-ring v p true = refl
offering-ring v p false = refl

offers-ring : (v : PortSeen) (os : List Offer) → (fold offering v os).ring ≡ v.ring
offers-ring v [] = refl
offers-ring v (o ∷ os) = offers-ring (offering v o) os ∙ offering-ring v o.packet o.placed

-- the ports that all senders handed back are of the rings of those that they got
pub drove-rings : (tries : ℕ) (before : List PortSeen) (loads : List (List Descriptor)) (after : List Sent) → Drove tries before loads after
    → map ring_of_port (map port_in after) ≡ map ring_of_port before
drove-rings tries before loads after d =
    let one = length-map after port_in in
    let two = length-map (map port_in after) ring_of_port in
    let long = length-map before ring_of_port in
    same_lists (map ring_of_port (map port_in after)) (map ring_of_port before)
    (two ∙ (one ∙ (d.count ∙ sym long)))
    (λ k r h.
    let hk : k < length after = omega (arith, h, one, two) in
    let o = d.each k no_port no_sent hk in
    get_or-map ring_of_port (map port_in after) k no_port r (omega (arith, hk, one))
    ∙ (ap ring_of_port (get_or-map port_in after k no_sent no_port hk)
    ∙ (ap ring_of_port o.after_is
    ∙ (offers-ring (get_or before k no_port) o.offers
    ∙ sym (get_or-map ring_of_port before k no_port r (omega (arith, hk, d.count)))))))

-- so they are of the drain's rings
pub back-again : (tries : ℕ) (before : List PortSeen) (loads : List (List Descriptor)) (after : List Sent) (back : List PortSeen)
    (rings rings' : List RingSeen)
    → Drove tries before loads after → back ≡ map port_in after
    → map ring_of_port before ≡ map ring_id rings → map ring_id rings' ≡ map ring_id rings → map ring_of_port back ≡ map ring_id rings'
back-again tries before loads after back rings rings' drove is pairs same =
    ap (λ (ps : List PortSeen). map ring_of_port ps) is ∙ (drove-rings tries before loads after drove ∙ (pairs ∙ sym same))

-- as ports show it
pub sent-back : (tries : ℕ) (before : List PortSeen) (loads : List (List Descriptor)) (after : List Sent) (back : List PortSeen)
    → AllOffered tries before loads after → back ≡ map port_in after → AreBack tries before loads back
sent-back tries before loads after back each is k p lt =
    let s : Sent = record { port = p; given_up = 0; ran = false } in
    let hk : k < length after = omega (arith, lt, ap (λ (ps : List PortSeen). length ps) is, length-map after port_in) in
    let at : (get_or after k s).port ≡ get_or back k p = sym (get_or-map port_in after k s p hk) ∙ ap (λ (ps : List PortSeen). get_or ps k p) (sym is) in
    record {
      ran = (get_or after k s).ran;
      given_up = (get_or after k s).given_up;
      offered = subst (λ (x : PortSeen). Offered tries (get_or after k s).ran (get_or before k p) (get_or loads k []) x (get_or after k s).given_up) at (each k p s hk);
    }

-- ---- where no sender ran

declined : Descriptor → Offer
declined p = record { packet = p; placed = false }

declined-all : (load : List Descriptor) → map packet_in (map declined load) ≡ load
unfolding declined
declined-all [] = refl
declined-all (p ∷ ps) = ap (λ (qs : List Descriptor). p ∷ qs) (declined-all ps)

declined-port : (v : PortSeen) (load : List Descriptor) → v ≡ fold offering v (map declined load)
unfolding declined
declined-port v [] = refl
declined-port v (p ∷ ps) = declined-port v ps

declined-count : (load : List Descriptor) → length load ≡ sum_by given_up_in (map declined load)
unfolding declined
declined-count [] = refl
declined-count (p ∷ ps) =
    omega (arith, sum_by-cons given_up_in (declined p) (map declined ps), declined-count ps)

-- nothing was offered, and all is given up
pub offered-nothing : (tries : ℕ) (v : PortSeen) (load : List Descriptor) → Offered tries false v load v (length load)
offered-nothing tries v load = record { offers = map declined load; all = declined-all load; after_is = declined-port v load; rest = declined-count load; full = λ ran t. cc }

pub none-sent : (tries : ℕ) (before : List PortSeen) (loads : List (List Descriptor)) → AreBack tries before loads before
none-sent tries before loads k p lt =
    let load = get_or loads k [] in
    record { ran = false; given_up = length load; offered = offered-nothing tries (get_or before k p) load }

-- ---- starting and joining one sender more

-- what is taken from the front of one list is put behind another
pub moved : {A B : Type 0} (f : A → B) (old new : List A) (x : A) (more rest all : List B) → new ≡ old ++ x ∷ [] → more ≡ f x ∷ rest → map f old ++ more ≡ all → map f new ++ rest ≡ all
moved {A} {B} f old new x more rest all pushed taken whole =
    ap (λ (xs : List A). map f xs ++ rest) pushed
    ∙ (ap (λ (ys : List B). ys ++ rest) (map_push f old x)
    ∙ (append_assoc (map f old) (f x ∷ []) rest
    ∙ (ap (λ (ys : List B). map f old ++ ys) (sym taken) ∙ whole)))

pub next-left : (running : List Started) (n : ℕ) (h : Started) (rest : List Started) → drop n running ≡ h ∷ rest → n < length running
next-left running n h rest e = omega (arith, length-drop n running, ap (λ (hs : List Started). length hs) e)

pub next-rest : (running : List Started) (n : ℕ) (h : Started) (rest : List Started) → drop n running ≡ h ∷ rest → drop (n + 1) running ≡ rest
next-rest running n h rest e = ap (λ (hs : List Started). drop 1 hs) (sym (drop_more running n h (next-left running n h rest e)) ∙ e)

next-is : (running : List Started) (n : ℕ) (h : Started) (rest : List Started) → drop n running ≡ h ∷ rest → get_or running n h ≡ h
next-is running n h rest e = ap (λ (hs : List Started). get_or hs 0 h) (sym (drop_more running n h (next-left running n h rest e)) ∙ e)

pub offered-next : (tries : ℕ) (running : List Started) (sent : List Sent) (h : Started) (rest : List Started) (r : Sent)
    → AllOffered tries (map promised_port running) (map promised_load running) sent → drop (length sent) running ≡ h ∷ rest
    → Offered tries r.ran (promised_port h) (promised_load h) r.port r.given_up → AllOffered tries (map promised_port running) (map promised_load running) (sent ++ r ∷ [])
offered-next tries running sent h rest r each e new k p s lt =
    let ps = map promised_port running in
    let ls = map promised_load running in
    ⊎_elim
    (λ (l : k < length sent). subst (λ (x : Sent). Offered tries x.ran (get_or ps k p) (get_or ls k []) x.port x.given_up) (sym (get_or_append_left sent (r ∷ []) s k l)) (each k p s l))
    (λ (g : length sent ≤ k).
    let is : length sent ≡ k = omega (arith, lt, g, length-append sent (r ∷ [])) in
    let e' : drop k running ≡ h ∷ rest = subst (λ (j : ℕ). drop j running ≡ h ∷ rest) is e in
    let low = next-left running k h rest e' in
    let a : promised_port h ≡ get_or ps k p = sym (get_or-map promised_port running k h p low ∙ ap promised_port (next-is running k h rest e')) in
    let b : promised_load h ≡ get_or ls k [] = sym (get_or-map promised_load running k h [] low ∙ ap promised_load (next-is running k h rest e')) in
    subst (λ (x : Sent). Offered tries x.ran (get_or ps k p) (get_or ls k []) x.port x.given_up) (sym (get_or_push sent r s k is))
    (subst (λ (x : PortSeen). Offered tries r.ran x (get_or ls k []) r.port r.given_up) a (subst (λ (l : List Descriptor). Offered tries r.ran (promised_port h) l r.port r.given_up) b new)))
    (cases_lt k (length sent))
