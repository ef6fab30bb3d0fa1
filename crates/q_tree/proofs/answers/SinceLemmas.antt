-- When the packet arrived that a node has at hand, and that an fq_codel sends.
use Rattle.std.proofs.Common.{◌≡◌, ℕ, zero, suc, ◌+◌, ◌≤◌, ◌<◌, ◌∙◌, List, [], ◌∷◌, map, drop, length, refl, sym, ap, Option, Some, None, option_map, option_and_then, arith}
use Rattle.std.specs.Prelude.{Bool, false, not, cond, is_some, slice_get, slice_index_or}
use Rattle.std.proofs.lemmas.List.{drop_more, drop_all}
use Rattle.std.specs.List.{position_or_len}
use Rattle.std.specs.Option.{option_map_or}
use Rattle.std.proofs.lemmas.Option.{none-some}
use Rattle.q_packet.specs.Descriptor.{Descriptor}
use Rattle.q_packet.specs.declared.stamped.Stamped.{Stamped}
use Rattle.q_model.specs.Node.{Discipline, Fifo, Prio, Tbf, Drr, FqCodel, Own, Forest, none, more, Node, each}
use Rattle.q_model.specs.Pop.{Popping, first_ready, pop_own, pop}
use Rattle.q_model.specs.Since.{since_of, first_since, since_in, since_own, at_hand_since}
use Rattle.q_codel.specs.Codel.{leaving, marks, sent}
use Rattle.q_fqcodel.specs.FqState.{Flow, FqState}
use Rattle.q_fqcodel.specs.Take.{head_sent, packet_sent, sender, sent_from}
use Rattle.q_tree.specs.Kept.{Kept}
use Rattle.q_tree.proofs.disciplines.TakeCounts.{packet_of}
use Rattle.std.proofs.lemmas.Bool.{false≢true}
use Rattle.q_invariants.proofs.tree.Forests.{each-side}
use Rattle.q_tree.specs.departure.Holding.{packet_held, since_held}
use Rattle.q_tree.specs.Seen.{seen, discipline_seen, children_seen}
use Rattle.q_tree.specs.declared.node.Node.TheInside.{Inside}

-- a time for each packet that is at hand
abbrev pub AreTimed : List (Option ℕ) → List Popping → Type 0
AreTimed [] [] = Unit {0}
AreTimed (t ∷ ts) (b ∷ bs) = (is_some t ≡ is_some b.shown) × AreTimed ts bs
AreTimed ts bs = ⊥

abbrev first_timed : List (Option ℕ) → ℕ
first_timed ts = position_or_len (λ (o : Option ℕ). is_some o) ts

-- the same place
first-alike : (ts : List (Option ℕ)) (bs : List Popping) → AreTimed ts bs → first_timed ts ≡ first_ready bs
first-alike [] [] h = refl
first-alike (t ∷ ts) (b ∷ bs) h =
    ap (λ (n : ℕ). cond (not (is_some t)) (1 + n) 0) (first-alike ts bs h.1) ∙ ap (λ (x : Bool). cond (not x) (1 + first_ready bs) 0) h.0
first-alike [] (b ∷ bs) h = absurd h
first-alike (t ∷ ts) [] h = absurd h

at-alike : (ts : List (Option ℕ)) (bs : List Popping) (k : ℕ) → AreTimed ts bs
    → is_some (option_and_then (λ (o : Option ℕ). o) (slice_get ts k)) ≡ is_some (option_and_then (λ (b : Popping). b.shown) (slice_get bs k))
at-alike [] [] k h = refl
at-alike (t ∷ ts) (b ∷ bs) zero h = h.0
at-alike (t ∷ ts) (b ∷ bs) (suc k) h = at-alike ts bs k h.1
at-alike [] (b ∷ bs) k h = absurd h
at-alike (t ∷ ts) [] k h = absurd h

-- a node has a time exactly where it has a packet at hand
node-alike : (own : Own) (ts : List (Option ℕ)) (bs : List Popping) → AreTimed ts bs → is_some (since_own own ts) ≡ is_some (pop_own own bs).shown
node-alike own ts bs h = by own.held own.discipline
  where
    by : (o : Option Descriptor) (d : Discipline)
        → is_some (option_map_or (λ (p : Descriptor). Some own.since) o (since_in ts d)) ≡ is_some (pop_own (record own { held = o; discipline = d }) bs).shown
    by (Some p) d = refl
    by None (Fifo limit []) = refl
    by None (Fifo limit (s ∷ queue)) = refl
    by None (Prio priomap) =
        ap (λ (k : ℕ). is_some (option_and_then (λ (o : Option ℕ). o) (slice_get ts k))) (first-alike ts bs h) ∙ at-alike ts bs (first_ready bs) h
    by None (Tbf b limit) = refl
    by None (Drr s) = refl
    by None (FqCodel s) = refl

all-alike : {M : Type 0} (x : Forest M) → AreTimed (each since_own x) (each pop_own x)
all-alike none = tt
all-alike (more own m below others) = (node-alike own (each since_own below) (each pop_own below) (all-alike below), all-alike others)

pub since-alike : {M : Type 0} (n : Node M) → is_some (at_hand_since n) ≡ is_some (pop n).shown
since-alike n = node-alike n.own (each since_own n.below) (each pop_own n.below) (all-alike n.below)

-- what an fq_codel sends
pub sent-since : (o : Option Descriptor) (head : Option Stamped) (at : ℕ) → (o ≡ None → head ≡ None) → Some at ≡ option_map (λ (s : Stamped). s.at) head
    → since_of o at ≡ option_map_or (λ (s : Stamped). s.at) head 0
sent-since o None at unsent e = absurd (none-some at (sym e))
sent-since None (Some s) at unsent e = absurd (none-some s (sym (unsent refl)))
sent-since (Some p) (Some s) at unsent e = time (Some at) (Some s.at) e
  where
    or_zero : Option ℕ → ℕ
    or_zero None = 0
    or_zero (Some x) = x

    time : (a b : Option ℕ) → a ≡ b → or_zero a ≡ or_zero b
    time a b e = ap or_zero e

-- an fq_codel that sends none
pub unsent : (now : ℕ) (s : FqState) → packet_of (sent_from now s) ≡ None → head_sent now s ≡ None
unfolding sent_from packet_sent head_sent
unsent now s e = by (sender s) e
  where
    gone : (marked : Bool) (o : Option Stamped) → packet_of (option_map (λ (h : Stamped). record { packet = leaving marked h.packet; marked = marked }) o) ≡ None → o ≡ None
    gone marked None e = refl
    gone marked (Some h) e = absurd (none-some (leaving marked h.packet) (sym e))

    by : (o : Option Flow) → packet_of (option_and_then (packet_sent now) o) ≡ None → option_and_then (λ (f : Flow). sent f.codel now f.queue) o ≡ None
    by None e = refl
    by (Some f) e = gone (marks f.codel now f.queue) (sent f.codel now f.queue) e

-- a node of the code that holds no packet
pub own-since : (a : Inside) → packet_held a.held ≡ None → since_in (map at_hand_since (children_seen a.discipline)) (discipline_seen a.discipline) ≡ at_hand_since (seen a)
own-since a e =
    ap (λ (ts : List (Option ℕ)). since_in ts (discipline_seen a.discipline)) (sym (each-side since_own (children_seen a.discipline)))
    ∙ sym (ap (λ (o : Option Descriptor). option_map_or (λ (p : Descriptor). Some (since_held a.held)) o (since_in (each since_own (seen a).below) (discipline_seen a.discipline))) e)

-- one that has no packet at hand
pub none-since : (n : Node Kept) → (pop n).shown ≡ None → None ≡ at_hand_since n
none-since n e = by (at_hand_since n) (since-alike n ∙ ap is_some e)
  where
    by : (o : Option ℕ) → is_some o ≡ false → None ≡ o
    by None h = refl
    by (Some x) h = absurd (false≢true (sym h))

-- bands in order
next : (n : ℕ) → 1 + n ≡ suc n
next n = omega arith

since-some : (o : Option ℕ) (ts : List (Option ℕ)) (t : ℕ) → o ≡ Some t → first_since (o ∷ ts) ≡ Some t
since-some o ts t e = ap (λ (x : Option ℕ). first_since (x ∷ ts)) e

since-none : (o : Option ℕ) (ts : List (Option ℕ)) → o ≡ None → first_since (o ∷ ts) ≡ first_since ts
since-none o ts e =
    ap (λ (x : Option ℕ). first_since (x ∷ ts)) e
    ∙ ap (λ (n : ℕ). option_and_then (λ (x : Option ℕ). x) (slice_get (None ∷ ts) n)) (next (first_timed ts))

times-of : (ns : List (Node Kept)) (i : ℕ) (x : Node Kept) → i < length ns → x ≡ slice_index_or ns i x
    → map at_hand_since (drop i ns) ≡ at_hand_since x ∷ map at_hand_since (drop (i + 1) ns)
times-of ns i x inside is =
    ap (map (λ (n : Node Kept). at_hand_since n)) (drop_more ns i x inside) ∙ ap (λ (y : Node Kept). at_hand_since y ∷ map at_hand_since (drop (i + 1) ns)) (sym is)

pub found-since : (ns : List (Node Kept)) (i : ℕ) (x : Node Kept) (t : ℕ) → i < length ns → x ≡ slice_index_or ns i x
    → first_since (map at_hand_since (drop i ns)) ≡ first_since (map at_hand_since ns) → at_hand_since x ≡ Some t → Some t ≡ first_since (map at_hand_since ns)
found-since ns i x t inside is same e =
    sym (since-some (at_hand_since x) (map at_hand_since (drop (i + 1) ns)) t e) ∙ sym (ap first_since (times-of ns i x inside is)) ∙ same

pub passed-since : (ns : List (Node Kept)) (i : ℕ) (x : Node Kept) → i < length ns → x ≡ slice_index_or ns i x
    → first_since (map at_hand_since (drop i ns)) ≡ first_since (map at_hand_since ns) → at_hand_since x ≡ None
    → first_since (map at_hand_since (drop (i + 1) ns)) ≡ first_since (map at_hand_since ns)
passed-since ns i x inside is same e =
    sym (since-none (at_hand_since x) (map at_hand_since (drop (i + 1) ns)) e) ∙ sym (ap first_since (times-of ns i x inside is)) ∙ same

pub nobody-since : (ns : List (Node Kept)) (i : ℕ) → length ns ≤ i → first_since (map at_hand_since (drop i ns)) ≡ first_since (map at_hand_since ns)
    → None ≡ first_since (map at_hand_since ns)
nobody-since ns i past same = sym (ap (λ (xs : List (Node Kept)). first_since (map at_hand_since xs)) (drop_all i ns past)) ∙ same

-- what a discipline has, of a node that holds none
pub kind-since : (a : Inside) (d : Discipline) (ns : List (Node Kept)) → packet_held a.held ≡ None → discipline_seen a.discipline ≡ d → ns ≡ children_seen a.discipline
    → since_in (map at_hand_since ns) d ≡ at_hand_since (seen a)
kind-since a d ns empty is kids =
    ap (λ (xs : List (Node Kept)). since_in (map at_hand_since xs) d) kids
    ∙ sym (ap (since_in (map at_hand_since (children_seen a.discipline))) is)
    ∙ own-since a empty
