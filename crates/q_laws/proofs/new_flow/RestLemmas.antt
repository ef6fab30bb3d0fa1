-- A flow that leaves the lists of an fq_codel is forgotten by CoDel.
use Rattle.std.proofs.Common.{◌≡◌, ◌≢◌, ℕ, zero, suc, ◌<◌, ◌≤◌, ◌⊎◌, inl, inr, ⊎_elim, Bool, true, false, List, [], ◌∷◌, ◌++◌, map, take, drop, length, Option, Some, None, refl, sym, ap, ap₂, subst, ◌∙◌, pos}
use Rattle.std.specs.Prelude.{◌==◌, ◌&&◌, ◌||◌, not, nat_lt, nat_le, if◌then◌else◌}
use Rattle.std.specs.List.{list_any}
use Rattle.std.proofs.lemmas.Bool.{cases_lt, eqb-true, eq-eqb, or_left, or_right, or_cases, true≢false}
use Rattle.std.proofs.lemmas.List.{take-append-drop}
use Rattle.std.proofs.lemmas.List.Folds.{list_any-append}
use Rattle.std.proofs.lemmas.Option.{none-some, same_Some}
use Rattle.q_packet.specs.Choice.{Choice}
use Rattle.q_packet.specs.Descriptor.{Descriptor}
use Rattle.q_packet.specs.Least.{least}
use Rattle.q_packet.specs.declared.stamped.Stamped.{Stamped}
use Rattle.q_codel.specs.Codel.{CodelState, is_late, is_markable, is_standing, stops, moment, drops, marks}
use Rattle.q_fqcodel.specs.Cleared.{adjust, clear}
use Rattle.q_fqcodel.specs.Entry.{Entry}
use Rattle.q_fqcodel.specs.FqState.{Flow, FqState, is_idle, rested_flow}
use Rattle.q_fqcodel.specs.Put.{flow_of, is_listed, appended, cut_back, after_put}
use Rattle.q_fqcodel.specs.Quanta.{need, given, stay, leave}
use Rattle.q_fqcodel.specs.Selection.{Lists, chosen, turned, first_ready, moved, with_rest, arranged}
use Rattle.q_fqcodel.specs.Take.{selected, flow_after, front, paid, sent_from, after_sending}
use Rattle.q_fqcodel.proofs.QuantaLemmas.{flow-given, stay_kept, stay_dropped, leave_kept, leave_dropped}
use Rattle.q_fqcodel.proofs.SentLemmas.{flow-paid, front_is, front_none, after_none, after_sending_written, lists_written}
use Rattle.q_invariants.proofs.flow.FlowSteps.{lists_of}
use Rattle.q_laws.specs.new_flow.Rest.{IsAtRest, FlowRests, IsSparing}

-- ---- CoDel at rest

module _ (c : CodelState) (above : c.first_above_time ≡ 0) (dropping : c.dropping ≡ false) (now : ℕ) (queue : List Stamped) where
  pub never-late : is_late c now queue ≡ false
  never-late = ap (λ (t : ℕ). is_standing c now queue && nat_lt 0 t && nat_le t now) above ∙ by (is_standing c now queue)
    where
      by : (b : Bool) → (b && false && nat_le 0 now) ≡ false
      by true = refl
      by false = refl

  pub spares-drops : drops c now queue ≡ 0
  spares-drops = ap₂ (λ (d late : Bool). if d then least (stops c now queue) (length queue) else if late && not (is_markable c queue) then 1 else 0) dropping never-late

  pub spares-marks : marks c now queue ≡ false
  spares-marks =
      ap₂ (λ (d late : Bool). if d then (let j = drops c now queue in is_late c now (drop j queue) && nat_le (moment c j) now && is_markable c
      (drop j queue)) else late && is_markable c queue) dropping never-late

pub sparing : (f : Flow) → IsAtRest f → IsSparing f.codel
sparing f h = record { drops_none = spares-drops f.codel h.not_above h.not_dropping; marks_none = spares-marks f.codel h.not_above h.not_dropping }

-- ---- flows changed one by one

pub rests-adjust : (g : Flow → Flow) → ((f : Flow) → IsAtRest f → IsAtRest (g f)) → (n m : ℕ) (flows : List Flow) → FlowRests n flows → FlowRests n (adjust g m flows)
unfolding adjust
rests-adjust g keeps n m [] h f e = h f e
rests-adjust g keeps zero zero (x ∷ flows) h f e = subst IsAtRest (same_Some (g x) f e) (keeps x (h x refl))
rests-adjust g keeps (suc n) zero (x ∷ flows) h f e = h f e
rests-adjust g keeps zero (suc m) (x ∷ flows) h f e = h f e
rests-adjust g keeps (suc n) (suc m) (x ∷ flows) h f e = rests-adjust g keeps n m flows h f e

pub rests-other : (g : Flow → Flow) (n m : ℕ) (flows : List Flow) → m ≢ n → FlowRests n flows → FlowRests n (adjust g m flows)
unfolding adjust
rests-other g n m [] apart h f e = h f e
rests-other g zero zero (x ∷ flows) apart h f e = absurd (apart refl)
rests-other g (suc n) zero (x ∷ flows) apart h f e = h f e
rests-other g zero (suc m) (x ∷ flows) apart h f e = h f e
rests-other g (suc n) (suc m) (x ∷ flows) apart h f e = rests-other g n m flows (λ same. apart (ap suc same)) h f e

rests-own : (g : Flow → Flow) → ((f : Flow) → IsAtRest (g f)) → (n : ℕ) (flows : List Flow) → FlowRests n (adjust g n flows)
unfolding adjust
rests-own g makes n [] f e = absurd (none-some f e)
rests-own g makes zero (x ∷ flows) f e = subst IsAtRest (same_Some (g x) f e) (makes x)
rests-own g makes (suc n) (x ∷ flows) f e = rests-own g makes n flows f e

rested : (f : Flow) → IsAtRest (rested_flow f)
unfolding rested_flow
rested f = record { not_above = refl; not_dropping = refl }

pub rests-clear : (n : ℕ) (gone : List ℕ) (flows : List Flow) → FlowRests n flows → FlowRests n (clear rested_flow gone flows)
unfolding clear
rests-clear n [] flows h = h
rests-clear n (m ∷ gone) flows h = rests-clear n gone (adjust rested_flow m flows) (rests-adjust rested_flow (λ f at. rested f) n m flows h)

abbrev IsGone : ℕ → List ℕ → Type 0
IsGone n gone = list_any (λ (m : ℕ). m == n) gone ≡ true

gone-rests : (n : ℕ) (gone : List ℕ) (flows : List Flow) → IsGone n gone → FlowRests n (clear rested_flow gone flows)
unfolding clear
gone-rests n [] flows h = absurd (true≢false (sym h))
gone-rests n (m ∷ gone) flows h = elim (or_cases (m == n) (list_any (λ (k : ℕ). k == n) gone) h) [
  | inl here ↦ rests-clear n gone (adjust rested_flow m flows) (subst (λ (k : ℕ). FlowRests n (adjust rested_flow k flows)) (sym (eqb-true m n here)) (rests-own rested_flow rested n flows))
  | inr later ↦ gone-rests n gone (adjust rested_flow m flows) later
]

-- ---- a flow that was listed is listed still, or gone

abbrev pub In : ℕ → List Entry → Type 0
In n es = is_listed n es ≡ true

in-append : (n : ℕ) (xs ys : List Entry) → In n xs ⊎ In n ys → In n (xs ++ ys)
in-append n xs ys (inl h) = list_any-append (λ (e : Entry). e.flow == n) xs ys ∙ or_left (is_listed n xs) (is_listed n ys) h
in-append n xs ys (inr h) = list_any-append (λ (e : Entry). e.flow == n) xs ys ∙ or_right (is_listed n xs) (is_listed n ys) h

in-split : (n : ℕ) (xs ys : List Entry) → In n (xs ++ ys) → In n xs ⊎ In n ys
in-split n xs ys h = or_cases (is_listed n xs) (is_listed n ys) (sym (list_any-append (λ (e : Entry). e.flow == n) xs ys) ∙ h)

gone-append : (n : ℕ) (xs ys : List ℕ) → IsGone n xs ⊎ IsGone n ys → IsGone n (xs ++ ys)
gone-append n xs ys (inl h) = list_any-append (λ (m : ℕ). m == n) xs ys ∙ or_left (list_any (λ (m : ℕ). m == n) xs) (list_any (λ (m : ℕ). m == n) ys) h
gone-append n xs ys (inr h) = list_any-append (λ (m : ℕ). m == n) xs ys ∙ or_right (list_any (λ (m : ℕ). m == n) xs) (list_any (λ (m : ℕ). m == n) ys) h

abbrev Has : ℕ → List Entry → List ℕ → Type 0
Has n es gone = In n es ⊎ IsGone n gone

all-gone : (n : ℕ) (es : List Entry) → In n es → IsGone n (map (λ (e : Entry). e.flow) es)
all-gone n [] h = h
all-gone n (e ∷ es) h = elim (or_cases (e.flow == n) (is_listed n es) h) [
  | inl here ↦ or_left (e.flow == n) (list_any (λ (m : ℕ). m == n) (map (λ (x : Entry). x.flow) es)) here
  | inr later ↦ or_right (e.flow == n) (list_any (λ (m : ℕ). m == n) (map (λ (x : Entry). x.flow) es)) (all-gone n es later)
]

in-cons : (n : ℕ) (e x : Entry) (es : List Entry) → x.flow ≡ e.flow → (e.flow == n) ≡ true → In n (x ∷ es)
in-cons n e x es same here = or_left (x.flow == n) (is_listed n es) (ap (λ (m : ℕ). m == n) same ∙ here)

stay-or-leave : (n q k : ℕ) (es : List Entry) → In n es → Has n (stay q k es) (leave q k es)
stay-or-leave n q k [] h = absurd (true≢false (sym h))
stay-or-leave n q k (e ∷ es) h = ⊎_elim (few (stay-or-leave n q k es)) (more (stay-or-leave n q k es)) (cases_lt (need q e) k)
  where
    few : (In n es → Has n (stay q k es) (leave q k es)) → need q e < k → Has n (stay q k (e ∷ es)) (leave q k (e ∷ es))
    few behind less =
        subst (λ (xs : List Entry). Has n xs (leave q k (e ∷ es))) (sym (stay_dropped q k e es less))
        (subst (λ (ns : List ℕ). Has n (stay q k es) ns) (sym (leave_dropped q k e es less))
        (elim (or_cases (e.flow == n) (is_listed n es) h) [
          | inl here ↦ inr (or_left (e.flow == n) (list_any (λ (m : ℕ). m == n) (leave q k es)) here)
          | inr later ↦ elim (behind later) [
            | inl a ↦ inl a
            | inr b ↦ inr (or_right (e.flow == n) (list_any (λ (m : ℕ). m == n) (leave q k es)) b)
          ]
        ]))

    more : (In n es → Has n (stay q k es) (leave q k es)) → k ≤ need q e → Has n (stay q k (e ∷ es)) (leave q k (e ∷ es))
    more behind least =
        subst (λ (xs : List Entry). Has n xs (leave q k (e ∷ es))) (sym (stay_kept q k e es least))
        (subst (λ (ns : List ℕ). Has n (given q k e ∷ stay q k es) ns) (sym (leave_kept q k e es least))
        (elim (or_cases (e.flow == n) (is_listed n es) h) [
          | inl here ↦ inl (in-cons n e (given q k e) (stay q k es) (flow-given q k e) here)
          | inr later ↦ elim (behind later) [
            | inl a ↦ inl (or_right ((given q k e).flow == n) (is_listed n (stay q k es)) a)
            | inr b ↦ inr b
          ]
        ]))

abbrev Holds : ℕ → Lists → Type 0
Holds n l = Has n (l.new_flows ++ l.old_flows) l.gone

turned-holds : (n q : ℕ) (es : List Entry) (o : Option Choice) → In n es → Holds n (turned q es o)
unfolding turned
turned-holds n q es None h = inr (all-gone n es h)
turned-holds n q es (Some c) h = elim (in-split n (take c.place es) (drop c.place es) (subst (In n) (sym (take-append-drop c.place es)) h)) [
  | inl front ↦ elim (stay-or-leave n q (suc c.rounds) (take c.place es) front) [
    | inl a ↦ inl (in-append n (stay q c.rounds (drop c.place es)) (stay q (suc c.rounds) (take c.place es)) (inr a))
    | inr b ↦ inr (gone-append n (leave q c.rounds (drop c.place es)) (leave q (suc c.rounds) (take c.place es)) (inr b))
  ]
  | inr rest ↦ elim (stay-or-leave n q c.rounds (drop c.place es) rest) [
    | inl a ↦ inl (in-append n (stay q c.rounds (drop c.place es)) (stay q (suc c.rounds) (take c.place es)) (inl a))
    | inr b ↦ inr (gone-append n (leave q c.rounds (drop c.place es)) (leave q (suc c.rounds) (take c.place es)) (inl b))
  ]
]

flow-moved : (q : ℕ) (e : Entry) → (moved q e).flow ≡ e.flow
unfolding moved
flow-moved q e = by (need q e == 0)
  where
    by : (b : Bool) → (if b then e else given q 1 e).flow ≡ e.flow
    by true = refl
    by false = flow-given q 1 e

in-moved : (n q : ℕ) (es : List Entry) → In n es → In n (map (moved q) es)
in-moved n q [] h = h
in-moved n q (e ∷ es) h = elim (or_cases (e.flow == n) (is_listed n es) h) [
  | inl here ↦ in-cons n e (moved q e) (map (moved q) es) (flow-moved q e) here
  | inr later ↦ or_right ((moved q e).flow == n) (is_listed n (map (moved q) es)) (in-moved n q es later)
]

rest-holds : (n q : ℕ) (idle : ℕ → Bool) (es old : List Entry) → In n es ⊎ In n old → Holds n (with_rest q idle es old)
unfolding with_rest
rest-holds n q idle [] old (inl h) = absurd (true≢false (sym h))
rest-holds n q idle [] old (inr h) = turned-holds n q old (chosen q idle old) h
rest-holds n q idle (e ∷ es) old h = inl (in-append n (e ∷ es) old h)

arranged-holds : (n q : ℕ) (idle : ℕ → Bool) (new old : List Entry) → In n (new ++ old) → Holds n (arranged q idle new old)
unfolding arranged
arranged-holds n q idle new old h = with-gone (rest-holds n q idle (drop p new) (old ++ map (moved q) (take p new)) where-now)
  where
    p : ℕ
    p = first_ready q idle new

    where-now : In n (drop (first_ready q idle new) new) ⊎ In n (old ++ map (moved q) (take (first_ready q idle new) new))
    where-now = elim (in-split n new old h) [
      | inl a ↦ elim (in-split n (take (first_ready q idle new) new) (drop (first_ready q idle new) new) (subst (In n) (sym (take-append-drop (first_ready q idle new) new)) a)) [
        | inl first ↦ inr (in-append n old (map (moved q) (take (first_ready q idle new) new)) (inr (in-moved n q (take (first_ready q idle new) new) first)))
        | inr later ↦ inl later
      ]
      | inr b ↦ inr (in-append n old (map (moved q) (take (first_ready q idle new) new)) (inl b))
    ]

    with-gone : (let rest = with_rest q idle (drop (first_ready q idle new) new) (old ++ map (moved q) (take (first_ready q idle new) new)) in
        Holds n rest → Has n (rest.new_flows ++ rest.old_flows) (leave q 1 (take (first_ready q idle new) new) ++ rest.gone))
    with-gone (inl a) = inl a
    with-gone (inr b) =
        inr (gone-append n (leave q 1 (take (first_ready q idle new) new))
        (with_rest q idle (drop (first_ready q idle new) new) (old ++ map (moved q) (take (first_ready q idle new) new))).gone (inr b))

-- ---- a take

pub selected-keeps : (j : ℕ) (s : FqState) → FlowRests j s.flows → FlowRests j (selected s).flows
unfolding selected
selected-keeps j s h = rests-clear j (arranged s.settings.quantum (is_idle s.flows) s.new_flows s.old_flows).gone s.flows h

selected-rests : (n : ℕ) (s : FqState) → In n (lists_of s) → is_listed n (lists_of (selected s)) ≡ false → FlowRests n (selected s).flows
unfolding selected
selected-rests n s h absent = elim (arranged-holds n s.settings.quantum (is_idle s.flows) s.new_flows s.old_flows h) [
  | inl there ↦ absurd (true≢false (sym there ∙ absent))
  | inr gone ↦ gone-rests n (arranged s.settings.quantum (is_idle s.flows) s.new_flows s.old_flows).gone s.flows gone
]

pub sent-rests : (n now : ℕ) (s : FqState) → is_listed n (lists_of (after_sending now s)) ≡ false → (is_listed n (lists_of s) ≡ false → FlowRests n s.flows) → FlowRests n (after_sending now s).flows
sent-rests n now s absent h = by (front s) refl
  where
    by : (o : Option Entry) → front s ≡ o → FlowRests n (after_sending now s).flows
    by None e =
        let none = front_none s e in
        let same : after_sending now s ≡ s = after_none s now none.0 none.1 in
        subst (λ (t : FqState). FlowRests n t.flows) (sym same) (h (sym (ap (λ (t : FqState). is_listed n (lists_of t)) same) ∙ absent))
    by (Some e) at =
        let rest : List Entry = drop 1 (lists_of s) in
        let m : Entry = paid (sent_from now s) e in
        let after : lists_of (after_sending now s) ≡ m ∷ rest = ap lists_of (after_sending_written s e now at) ∙ lists_written s m e at in
        let before : lists_of s ≡ e ∷ rest = front_is s e at in
        let same : is_listed n (m ∷ rest) ≡ is_listed n (e ∷ rest) = ap (λ (k : ℕ). (k == n) || is_listed n rest) (flow-paid (sent_from now s) e) in
        let gone : is_listed n (e ∷ rest) ≡ false = sym same ∙ sym (ap (is_listed n) after) ∙ absent in
        let other : e.flow ≢ n = λ own. true≢false (sym (or_left (e.flow == n) (is_listed n rest) (eq-eqb e.flow n own)) ∙ gone) in
        subst (λ (t : FqState). FlowRests n t.flows) (sym (after_sending_written s e now at)) (rests-other (flow_after now) n e.flow s.flows other (h (ap (is_listed n) before ∙ gone)))

-- a selection that leaves the flow listed is not followed by one that does not
pub take-rests : (n now : ℕ) (s : FqState) → In n (lists_of s) → is_listed n (lists_of (after_sending now (selected s))) ≡ false → FlowRests n (after_sending now (selected s)).flows
take-rests n now s h absent = sent-rests n now (selected s) absent (selected-rests n s h)

-- ---- an event

pub put-listed : (n : ℕ) (s : FqState) (p : Descriptor) (now : ℕ) → In n (lists_of s) → In n (lists_of (after_put s p now))
unfolding appended cut_back
put-listed n s p now h = by (is_listed (flow_of s p) (lists_of s))
  where
    by : (t : Bool) → In n ((if t then s.new_flows else s.new_flows ++ record { flow = flow_of s p; credits = pos s.settings.quantum } ∷ []) ++ s.old_flows)
    by true = h
    by false =
        let new : Entry = record { flow = flow_of s p; credits = pos s.settings.quantum } in
        in-append n (s.new_flows ++ new ∷ []) s.old_flows (elim (in-split n s.new_flows s.old_flows h) [
          | inl a ↦ inl (in-append n s.new_flows (new ∷ []) (inl a))
          | inr b ↦ inr b
        ])
