-- The credits of a flow in the lists of an fq_codel, over a put, a selection and a packet that is sent.
use Rattle.std.proofs.Common.{◌≡◌, ℕ, ◌+◌, ◌*◌, ◌≤◌, ℤ, pos, ◌+ℤ◌, Bool, true, false, List, [], ◌∷◌, ◌++◌, map, filter, find, drop, refl, sym, ap, ap₂, ◌∙◌, Option, Some, None, option_map, inl, inr, eq-eqb, arith}
use Rattle.std.specs.Prelude.{◌==◌, nat_lt, if◌then◌else◌}
use Rattle.std.proofs.Math.Nat.{add-mul}
use Rattle.std.proofs.lemmas.Bool.{cases_Bool, cond-true, cond-false, eqb-true, eqb-false, ne_eqb, false≢true, ltb-false, or_left, or_right}
use Rattle.std.proofs.lemmas.Int.{ints}
use Rattle.std.proofs.lemmas.Option.{none-some, same_Some}
use Rattle.std.proofs.lemmas.List.Sums.{sum_by-cons}
use Rattle.q_packet.specs.Descriptor.{Descriptor}
use Rattle.q_codel.specs.declared.codel.Taken.{Taken}
use Rattle.q_fqcodel.specs.Entry.{Entry}
use Rattle.q_fqcodel.specs.FqState.{FqState}
use Rattle.q_fqcodel.specs.Lawful.{times, IsLawful}
use Rattle.q_fqcodel.specs.Laws.{credits_of}
use Rattle.q_fqcodel.specs.Put.{flow_of, is_listed, appended, cut_back, after_put}
use Rattle.q_fqcodel.specs.QuantaGiven.{Grant, quanta_given, grants}
use Rattle.q_fqcodel.specs.Take.{front, paid, sent_from, after_sending}
use Rattle.q_fqcodel.proofs.LawfulLemmas.{times-cons, one, one_other}
use Rattle.q_fqcodel.proofs.SentLemmas.{flow-paid, paid_is, front_is, front_none, after_sending_written, lists_written}
use Rattle.q_model.specs.Tally.{FlowGranted}
use Rattle.q_model.specs.Quanta.{flows_granted, flow_gave}
use Rattle.q_model.specs.Stretches.{flow_granted_by, flow_grants_to, bytes_given}

pub paid-none : (e : Entry) → paid None e ≡ e
unfolding paid
paid-none e = refl

module _ (n : ℕ) where
  pub credits-here : (e : Entry) (es : List Entry) → (e.flow == n) ≡ true → credits_of n (e ∷ es) ≡ Some e.credits
  credits-here e es h = ap (option_map (λ (e : Entry). e.credits)) (cond-true (e.flow == n) (Some e) (find (λ (e : Entry). e.flow == n) es) h)

  pub credits-behind : (e : Entry) (es : List Entry) → (e.flow == n) ≡ false → credits_of n (e ∷ es) ≡ credits_of n es
  credits-behind e es h = ap (option_map (λ (e : Entry). e.credits)) (cond-false (e.flow == n) (Some e) (find (λ (e : Entry). e.flow == n) es) h)

  -- a flow that is listed has credits
  pub listed-credits : (es : List Entry) → 1 ≤ times n es → (z : ℤ) × (credits_of n es ≡ Some z)
  listed-credits [] h = absurd (omega (arith, h))
  listed-credits (e ∷ es) h = elim (cases_Bool (e.flow == n)) [
    | inl own ↦ (e.credits, credits-here e es own)
    | inr other ↦
        let rest = listed-credits es (omega (arith, h, times-cons n e es, one_other n e (eqb-false e.flow n other))) in
        (rest.0, credits-behind e es other ∙ rest.1)
  ]

  credits-listed : (es : List Entry) (z : ℤ) → credits_of n es ≡ Some z → is_listed n es ≡ true
  credits-listed [] z h = absurd (none-some z h)
  credits-listed (e ∷ es) z h = elim (cases_Bool (e.flow == n)) [
    | inl own ↦ or_left (e.flow == n) (is_listed n es) own
    | inr other ↦ or_right (e.flow == n) (is_listed n es) (credits-listed es z (sym (credits-behind e es other) ∙ h))
  ]

  -- ---- a put

  pub credits-joined : (x : Entry) (xs ys : List Entry) → (x.flow == n) ≡ false → credits_of n ((xs ++ x ∷ []) ++ ys) ≡ credits_of n (xs ++ ys)
  credits-joined x [] ys other = credits-behind x ys other
  credits-joined x (e ∷ xs) ys other = elim (cases_Bool (e.flow == n)) [
    | inl own ↦ credits-here e ((xs ++ x ∷ []) ++ ys) own ∙ sym (credits-here e (xs ++ ys) own)
    | inr apart ↦ credits-behind e ((xs ++ x ∷ []) ++ ys) apart ∙ credits-joined x xs ys other ∙ sym (credits-behind e (xs ++ ys) apart)
  ]

  pub credits-put : (s : FqState) (p : Descriptor) (now : ℕ) (z : ℤ) → credits_of n (s.new_flows ++ s.old_flows) ≡ Some z
      → credits_of n ((after_put s p now).new_flows ++ (after_put s p now).old_flows) ≡ Some z
  unfolding appended cut_back
  credits-put s p now z h = by (is_listed (flow_of s p) (s.new_flows ++ s.old_flows)) refl
    where
      by : (t : Bool) → is_listed (flow_of s p) (s.new_flows ++ s.old_flows) ≡ t
          → credits_of n ((if t then s.new_flows else s.new_flows ++ record { flow = flow_of s p; credits = pos s.settings.quantum } ∷ []) ++ s.old_flows) ≡ Some z
      by true e = h
      by false e =
          credits-joined (record { flow = flow_of s p; credits = pos s.settings.quantum }) s.new_flows s.old_flows
          (ne_eqb (flow_of s p) n (λ same. false≢true (sym e ∙ ap (λ k. is_listed k (s.new_flows ++ s.old_flows)) same ∙ credits-listed (s.new_flows ++ s.old_flows) z h))) ∙ h

  -- ---- a packet that is sent

  pub record Sends (now : ℕ) (s : FqState) (o : Option Taken) (z after : ℤ) : Type 0 where
    pub is : credits_of n ((after_sending now s).new_flows ++ (after_sending now s).old_flows) ≡ Some after
    pub pays : after +ℤ pos (bytes_given n (flow_gave (front s) o)) ≡ z

  pub credits-sent : (now : ℕ) (s : FqState) (o : Option Taken) → sent_from now s ≡ o → (z : ℤ) → credits_of n (s.new_flows ++ s.old_flows) ≡ Some z → (after : ℤ) × Sends now s o z after
  credits-sent now s o sent z h = by (front s) refl
    where
      lists : (m e : Entry) → front s ≡ Some e → m ≡ paid (sent_from now s) e → (after_sending now s).new_flows ++ (after_sending now s).old_flows ≡ m ∷ drop 1 (s.new_flows ++ s.old_flows)
      lists m e f is =
          ap (λ (t : FqState). t.new_flows ++ t.old_flows) (after_sending_written s e now f) ∙ lists_written s (paid (sent_from now s) e) e f
          ∙ ap (λ (x : Entry). x ∷ drop 1 (s.new_flows ++ s.old_flows)) (sym is)

      behind : (e : Entry) (o : Option Taken) → (e.flow == n) ≡ false → bytes_given n (flow_gave (Some e) o) ≡ 0
      behind e None other = refl
      behind e (Some t) other = ap (λ (b : Bool). 0 + (if b then t.packet.len else 0)) (ne_eqb n e.flow (λ same. false≢true (sym other ∙ eq-eqb e.flow n (sym same)))) ∙ omega arith

      own-sent : (e : Entry) (o : Option Taken) → (e.flow == n) ≡ true → ((paid o e).credits +ℤ pos (bytes_given n (flow_gave (Some e) o))) ≡ e.credits
      own-sent e None own = ap (λ (x : Entry). x.credits +ℤ pos 0) (paid-none e) ∙ omega (arith, ints)
      own-sent e (Some t) own =
          let gave : bytes_given n (flow_gave (Some e) (Some t)) ≡ t.packet.len =
          ap (λ (b : Bool). 0 + (if b then t.packet.len else 0)) (eq-eqb n e.flow (sym (eqb-true e.flow n own))) ∙ omega arith in
          let credits = ap (λ (x : Entry). x.credits) (paid_is (Some t) t e refl) in
          ap (λ k. (paid (Some t) e).credits +ℤ pos k) gave ∙ omega (arith, ints, credits)

      by : (f : Option Entry) → front s ≡ f → (after : ℤ) × Sends now s o z after
      by None f =
          let none = front_none s f in
          absurd (none-some z (sym (ap (λ es. credits_of n es) (ap₂ (λ (a b : List Entry). a ++ b) none.0 none.1)) ∙ h))
      by (Some e) f =
          let m : Entry = paid o e in
          let here : m ≡ paid (sent_from now s) e = ap (λ (r : Option Taken). paid r e) (sym sent) in
          let whole : credits_of n (e ∷ drop 1 (s.new_flows ++ s.old_flows)) ≡ Some z = ap (credits_of n) (sym (front_is s e f)) ∙ h in
          let gave : bytes_given n (flow_gave (front s) o) ≡ bytes_given n (flow_gave (Some e) o) = ap (λ (x : Option Entry). bytes_given n (flow_gave x o)) f in
          elim (cases_Bool (e.flow == n)) [
            | inl own ↦ (
              m.credits,
              record {
                is = ap (credits_of n) (lists m e f here) ∙ credits-here m (drop 1 (s.new_flows ++ s.old_flows)) (ap (λ k. k == n) (flow-paid o e) ∙ own);
                pays = ap (λ k. m.credits +ℤ pos k) gave ∙ own-sent e o own ∙ same_Some e.credits z (sym (credits-here e (drop 1 (s.new_flows ++ s.old_flows)) own) ∙ whole);
              },
            )
            | inr other ↦ (
              z,
              record {
                is =
                    ap (credits_of n) (lists m e f here) ∙ credits-behind m (drop 1 (s.new_flows ++ s.old_flows))
                    (ap (λ k. k == n) (flow-paid o e) ∙ other) ∙ sym (credits-behind e (drop 1 (s.new_flows ++ s.old_flows)) other) ∙ whole;
                pays = ap (λ k. z +ℤ pos k) (gave ∙ behind e o other) ∙ omega (arith, ints);
              },
            )
          ]

  -- ---- what is noted of quanta

  noted-quanta : (s : FqState) (es : List Entry)
      → flow_grants_to n (map (λ (g : Grant). FlowGranted g.flow g.quanta)
      (filter (λ (g : Grant). nat_lt 0 g.quanta) (map (λ (e : Entry). record { flow = e.flow; quanta = quanta_given s e.flow }) es)))
      ≡ times n es * quanta_given s n
  noted-quanta s [] = omega arith
  noted-quanta s (e ∷ es) =
      let rest = noted-quanta s es in
      let split : times n (e ∷ es) * quanta_given s n ≡ one n e * quanta_given s n + times n es * quanta_given s n =
      ap (λ k. k * quanta_given s n) (times-cons n e es) ∙ add-mul (one n e) (times n es) (quanta_given s n) in
      elim (cases_Bool (nat_lt 0 (quanta_given s e.flow))) [
        | inl some ↦
            let kept = cond-true (nat_lt 0 (quanta_given s e.flow)) (record { flow = e.flow; quanta = quanta_given s e.flow } ∷ later es) (later es) some in
            ap (λ gs. flow_grants_to n (map (λ (g : Grant). FlowGranted g.flow g.quanta) gs)) kept
            ∙ omega (arith, sum_by-cons (flow_granted_by n) (FlowGranted e.flow (quanta_given s e.flow)) (map (λ (g : Grant). FlowGranted g.flow g.quanta) (later es)), rest, split, own-part)
        | inr zero_given ↦
            let left = cond-false (nat_lt 0 (quanta_given s e.flow)) (record { flow = e.flow; quanta = quanta_given s e.flow } ∷ later es) (later es) zero_given in
            let none : quanta_given s e.flow ≡ 0 = (let z = ltb-false 0 (quanta_given s e.flow) zero_given in omega (arith, z)) in
            let part : one n e * quanta_given s n ≡ 0 = sym own-part ∙ ap (λ k. if n == e.flow then k else 0) none ∙ nothing (n == e.flow) in
            ap (λ gs. flow_grants_to n (map (λ (g : Grant). FlowGranted g.flow g.quanta) gs)) left ∙ omega (arith, rest, split, part)
      ]
    where
      later : List Entry → List Grant
      later es = filter (λ (g : Grant). nat_lt 0 g.quanta) (map (λ (e : Entry). record { flow = e.flow; quanta = quanta_given s e.flow }) es)

      nothing : (b : Bool) → ◌≡◌ {A = ℕ} (if b then 0 else 0) 0
      nothing true = refl
      nothing false = refl

      own-part : (if n == e.flow then quanta_given s e.flow else 0) ≡ one n e * quanta_given s n
      own-part = elim (cases_Bool (e.flow == n)) [
        | inl own ↦
            let same : e.flow ≡ n = eqb-true e.flow n own in
            let first : one n e ≡ 1 = cond-true (e.flow == n) 1 0 own in
            ap (λ (b : Bool). if b then quanta_given s e.flow else 0) (eq-eqb n e.flow (sym same)) ∙ ap (quanta_given s) same ∙ sym (ap (λ k. k * quanta_given s n) first ∙ omega arith)
        | inr other ↦
            let first : one n e ≡ 0 = cond-false (e.flow == n) 1 0 other in
            ap (λ (b : Bool). if b then quanta_given s e.flow else 0) (ne_eqb n e.flow (λ same. false≢true (sym other ∙ eq-eqb e.flow n (sym same))))
            ∙ sym (ap (λ k. k * quanta_given s n) first ∙ omega arith)
      ]

  pub quanta-noted : (s : FqState) → IsLawful s → 1 ≤ times n (s.new_flows ++ s.old_flows) → flow_grants_to n (flows_granted s) ≡ quanta_given s n
  unfolding grants
  quanta-noted s law listed =
      let once : times n (s.new_flows ++ s.old_flows) ≡ 1 = (let most = law.once n in omega (arith, listed, most)) in
      noted-quanta s (s.new_flows ++ s.old_flows) ∙ ap (λ k. k * quanta_given s n) once ∙ omega arith
