-- One turn of the scheduler: what it does to the state, and that the selection stays the same.
use Rattle.std.proofs.Common.{◌≡◌, ℕ, suc, ◌+◌, ◌<◌, ◌≤◌, pos, ◌≤ℤ◌, ◌<ℤ◌, Bool, true, false, List, [], ◌∷◌, ◌++◌, length, drop, sum_by, refl, sym, ap, ap₂, ◌∙◌, subst, subst₂, arith, IfSome, Some, None, IsSome, ◌*◌, inl, inr}
use Rattle.std.specs.Prelude.{slice_get}
use Rattle.std.proofs.lemmas.Bool.{cases_lt}
use Rattle.std.proofs.lemmas.List.Sums.{sum_by-cons, sum_by_push}
use Rattle.q_fqcodel.specs.Cleared.{adjust, clear}
use Rattle.q_fqcodel.specs.Quanta.{need, given, stay, leave}
use Rattle.q_fqcodel.specs.Rounds.{OldNeed, rounds_given}
use Rattle.q_fqcodel.specs.Selection.{Lists, chosen, turned, arranged}
use Rattle.q_fqcodel.specs.FqState.{FqSettings, Flow, FqState, is_idle, rested_flow}
use Rattle.q_fqcodel.specs.Lawful.{IsLawful}
use Rattle.q_fqcodel.specs.Take.{selected, front}
use Rattle.q_fqcodel.specs.Turns.{GoesOn, IsSettled, turns}
use Rattle.q_fqcodel.specs.Entry.{Entry}
use Rattle.q_fqcodel.proofs.ClearedLemmas.{clear-nil, clear-cons}
use Rattle.q_fqcodel.proofs.FlowLemmas.{is_idle-rested_flow, packets_of-rested_flow}
use Rattle.q_fqcodel.proofs.LawfulLemmas.{lawful_moved, lawful_turned, lawful_left, lawful_rested, front_within}
use Rattle.q_fqcodel.proofs.QuantaLemmas.{need_none, need_more, need-given, flow-given, stay_kept, stay_dropped, stay-nil}
use Rattle.q_fqcodel.proofs.RoundLemmas.{rounds_turned}
use Rattle.q_fqcodel.proofs.VisitLemmas.{is_idle-clear}
use Rattle.q_fqcodel.proofs.SelectionLemmas.{Agree, same_lists, turned_granted, turned_leaves, turned_ready, arranged-nil, arranged_granted, arranged_moves, arranged_ready}

with_lists : FqState → List Flow → List Entry → List Entry → FqState
with_lists s flows new_flows old_flows = record s { flows = flows; new_flows = new_flows; old_flows = old_flows }

arranged_in : FqState → Lists
arranged_in s = arranged s.settings.quantum (is_idle s.flows) s.new_flows s.old_flows

selected_is : (s : FqState) → selected s ≡ with_lists s (clear rested_flow (arranged_in s).gone s.flows) (arranged_in s).new_flows (arranged_in s).old_flows
unfolding selected with_lists arranged_in
selected_is s = refl

-- two states that select the same
same_selected : (s t : FqState) → s.settings ≡ t.settings → Agree rested_flow s.flows t.flows (arranged_in s) (arranged_in t) → selected s ≡ selected t
unfolding with_lists
same_selected s t settings agree =
    selected_is s
    ∙ ap (λ (x : FqSettings). record s { settings = x; flows = clear rested_flow (arranged_in s).gone s.flows; new_flows = (arranged_in s).new_flows; old_flows = (arranged_in s).old_flows }) settings
    ∙ ap (λ (x : List Flow). record t { flows = x; new_flows = (arranged_in s).new_flows; old_flows = (arranged_in s).old_flows }) agree.flows
    ∙ ap₂ (λ (x y : List Entry). record t { flows = clear rested_flow (arranged_in t).gone t.flows; new_flows = x; old_flows = y }) agree.new_flows agree.old_flows
    ∙ sym (selected_is t)

new_turns : ℕ → Entry → ℕ
new_turns q e = suc (suc (need q e))

old_turns : ℕ → Entry → ℕ
old_turns q e = suc (need q e)

turns_is : (s : FqState) → turns s ≡ sum_by (new_turns s.settings.quantum) s.new_flows + sum_by (old_turns s.settings.quantum) s.old_flows
unfolding turns new_turns old_turns
turns_is s = refl

new_turns_is : (q : ℕ) (e : Entry) → new_turns q e ≡ suc (suc (need q e))
unfolding new_turns
new_turns_is q e = refl

old_turns_is : (q : ℕ) (e : Entry) → old_turns q e ≡ suc (need q e)
unfolding old_turns
old_turns_is q e = refl

-- the entry in front, where there is one, and where no flow is listed
pub first_in_front : (s : FqState) (e : Entry) (rest : List Entry) → s.new_flows ++ s.old_flows ≡ e ∷ rest → Some e ≡ front s
unfolding front
first_in_front s e rest first = ap (λ (l : List Entry). slice_get l 0) (sym first)

pub none_in_front : (s : FqState) → s.new_flows ≡ [] → s.old_flows ≡ [] → None ≡ front s
unfolding front
none_in_front s new old = ap₂ (λ (l m : List Entry). slice_get (l ++ m) 0) (sym new) (sym old)

-- a look at a front that leads from s on to t: the lists stay lawful, too
pub record LeadsOn (s t : FqState) : Type 0 where
  pub lawful : IsLawful t
  pub on : GoesOn s t

-- ---- the new list

module _ (s : FqState) (lawful : IsLawful s) (e : Entry) (rest : List Entry) (front : s.new_flows ≡ e ∷ rest) where
  new_granted_on : 1 ≤ s.settings.quantum → e.credits ≤ℤ pos 0 → GoesOn s (record s { new_flows = rest; old_flows = s.old_flows ++ given s.settings.quantum 1 e ∷ [] })
  unfolding arranged_in
  new_granted_on positive low =
      let q : ℕ = s.settings.quantum in
      let t : FqState = record s { new_flows = rest; old_flows = s.old_flows ++ given q 1 e ∷ [] } in
      let lists : arranged_in s ≡ arranged_in t =
      ap (λ (l : List Entry). arranged q (is_idle s.flows) l s.old_flows) front ∙ arranged_granted q (is_idle s.flows) e rest s.old_flows positive low in
      record {
        same = sym (same_selected s t refl (same_lists rested_flow s.flows (arranged_in s) (arranged_in t) lists));
        fewer =
            let a : sum_by (new_turns q) s.new_flows ≡ new_turns q e + sum_by (new_turns q) rest = ap (sum_by (new_turns q)) front ∙ sum_by-cons (new_turns q) e rest in
            let b : sum_by (old_turns q) (s.old_flows ++ given q 1 e ∷ []) ≡ sum_by (old_turns q) s.old_flows + old_turns q (given q 1 e) = sum_by_push (old_turns q) s.old_flows (given q 1 e) in
            omega (arith, a, b, turns_is s, turns_is t, new_turns_is q e, old_turns_is q (given q 1 e), need_more q e positive low);
        packets = refl;
      }

  pub new_granted : 1 ≤ s.settings.quantum → e.credits ≤ℤ pos 0 → LeadsOn s (record s { new_flows = rest; old_flows = s.old_flows ++ given s.settings.quantum 1 e ∷ [] })
  new_granted positive low = record { lawful = lawful_moved s e (given s.settings.quantum 1 e) rest lawful front (flow-given s.settings.quantum 1 e); on = new_granted_on positive low }

  new_moves_on : pos 0 <ℤ e.credits → is_idle s.flows e.flow ≡ true → GoesOn s (record s { flows = adjust rested_flow e.flow s.flows; new_flows = rest; old_flows = s.old_flows ++ e ∷ [] })
  unfolding arranged_in
  new_moves_on high empty =
      let q : ℕ = s.settings.quantum in
      let t : FqState = record s { flows = adjust rested_flow e.flow s.flows; new_flows = rest; old_flows = s.old_flows ++ e ∷ [] } in
      let ready : need q e ≡ 0 = need_none q e high in
      let after : Lists = arranged q (is_idle s.flows) rest (s.old_flows ++ e ∷ []) in
      let lists : arranged_in s ≡ record after { gone = e.flow ∷ after.gone } =
      ap (λ (l : List Entry). arranged q (is_idle s.flows) l s.old_flows) front ∙ arranged_moves q (is_idle s.flows) e rest s.old_flows ready empty in
      let lists' : after ≡ arranged_in t = ap (λ (i : ℕ → Bool). arranged q i rest (s.old_flows ++ e ∷ [])) (sym (is_idle-rested_flow e.flow s.flows)) in
      record {
        same = sym (same_selected s t refl (record {
          new_flows = ap (λ (l : Lists). l.new_flows) lists ∙ ap (λ (l : Lists). l.new_flows) lists';
          old_flows = ap (λ (l : Lists). l.old_flows) lists ∙ ap (λ (l : Lists). l.old_flows) lists';
          flows =
              ap (λ (l : Lists). clear rested_flow l.gone s.flows) lists
              ∙ clear-cons rested_flow e.flow after.gone s.flows
              ∙ ap (λ (l : Lists). clear rested_flow l.gone t.flows) lists';
        }));
        fewer =
            let a : sum_by (new_turns q) s.new_flows ≡ new_turns q e + sum_by (new_turns q) rest = ap (sum_by (new_turns q)) front ∙ sum_by-cons (new_turns q) e rest in
            let b : sum_by (old_turns q) (s.old_flows ++ e ∷ []) ≡ sum_by (old_turns q) s.old_flows + old_turns q e = sum_by_push (old_turns q) s.old_flows e in
            omega (arith, a, b, turns_is s, turns_is t, new_turns_is q e, old_turns_is q e);
        packets = packets_of-rested_flow e.flow s.flows;
      }

  pub new_moves : pos 0 <ℤ e.credits → is_idle s.flows e.flow ≡ true → LeadsOn s (record s { flows = adjust rested_flow e.flow s.flows; new_flows = rest; old_flows = s.old_flows ++ e ∷ [] })
  new_moves high empty =
      record {
        lawful = lawful_rested (record s { new_flows = rest; old_flows = s.old_flows ++ e ∷ [] }) e.flow
            (lawful_moved s e e rest lawful front refl);
        on = new_moves_on high empty;
      }

  pub new_ready : pos 0 <ℤ e.credits → is_idle s.flows e.flow ≡ false → selected s ≡ s
  unfolding arranged_in with_lists
  new_ready high busy =
      let q : ℕ = s.settings.quantum in
      let lists : arranged_in s ≡ record { new_flows = s.new_flows; old_flows = s.old_flows; gone = [] } =
      ap (λ (l : List Entry). arranged q (is_idle s.flows) l s.old_flows) front
      ∙ arranged_ready q (is_idle s.flows) e rest s.old_flows (need_none q e high) busy
      ∙ ap (λ (l : List Entry). record { new_flows = l; old_flows = s.old_flows; gone = [] }) (sym front) in
      selected_is s
      ∙ ap (λ (l : Lists). with_lists s (clear rested_flow l.gone s.flows) l.new_flows l.old_flows) lists
      ∙ ap (λ (l : List Flow). with_lists s l s.new_flows s.old_flows) (clear-nil rested_flow s.flows)

-- ---- the old list

module _ (s : FqState) (lawful : IsLawful s) (e : Entry) (rest : List Entry) (none : s.new_flows ≡ []) (front : s.old_flows ≡ e ∷ rest) where
  old_lists : arranged_in s ≡ turned s.settings.quantum (e ∷ rest) (chosen s.settings.quantum (is_idle s.flows) (e ∷ rest))
  unfolding arranged_in
  old_lists =
      ap₂ (λ (l m : List Entry). arranged s.settings.quantum (is_idle s.flows) l m) none front
      ∙ arranged-nil s.settings.quantum (is_idle s.flows) (e ∷ rest)

  old_granted_on : 1 ≤ s.settings.quantum → e.credits ≤ℤ pos 0 → GoesOn s (record s { old_flows = rest ++ given s.settings.quantum 1 e ∷ [] })
  unfolding arranged_in
  old_granted_on positive low =
      let q : ℕ = s.settings.quantum in
      let last : List Entry = rest ++ given q 1 e ∷ [] in
      let t : FqState = record s { old_flows = last } in
      let lists' : arranged_in t ≡ turned q last (chosen q (is_idle s.flows) last) =
      ap (λ (l : List Entry). arranged q (is_idle s.flows) l last) none ∙ arranged-nil q (is_idle s.flows) last in
      let agree = turned_granted rested_flow q positive e low rest (is_idle s.flows) s.flows in
      record {
        same = sym (same_selected s t refl
            (subst (λ (b : Lists). Agree rested_flow s.flows s.flows (arranged_in s) b) (sym lists')
            (subst (λ (a : Lists). Agree rested_flow s.flows s.flows a (turned q last (chosen q (is_idle s.flows) last))) (sym old_lists) agree)));
        fewer =
            let a : sum_by (old_turns q) s.old_flows ≡ old_turns q e + sum_by (old_turns q) rest = ap (sum_by (old_turns q)) front ∙ sum_by-cons (old_turns q) e rest in
            let b : sum_by (old_turns q) last ≡ sum_by (old_turns q) rest + old_turns q (given q 1 e) = sum_by_push (old_turns q) rest (given q 1 e) in
            omega (arith, a, b, turns_is s, turns_is t, old_turns_is q e, old_turns_is q (given q 1 e), need_more q e positive low);
        packets = refl;
      }

  pub old_granted : 1 ≤ s.settings.quantum → e.credits ≤ℤ pos 0 → LeadsOn s (record s { old_flows = rest ++ given s.settings.quantum 1 e ∷ [] })
  old_granted positive low = record { lawful = lawful_turned s e (given s.settings.quantum 1 e) rest lawful front (flow-given s.settings.quantum 1 e); on = old_granted_on positive low }

  old_leaves_on : pos 0 <ℤ e.credits → is_idle s.flows e.flow ≡ true → GoesOn s (record s { flows = adjust rested_flow e.flow s.flows; old_flows = rest })
  unfolding arranged_in
  old_leaves_on high empty =
      let q : ℕ = s.settings.quantum in
      let flows' : List Flow = adjust rested_flow e.flow s.flows in
      let t : FqState = record s { flows = flows'; old_flows = rest } in
      let lists' : arranged_in t ≡ turned q rest (chosen q (is_idle s.flows) rest) =
      ap₂ (λ (i : ℕ → Bool) (l : List Entry). arranged q i l rest) (is_idle-rested_flow e.flow s.flows) none ∙ arranged-nil q (is_idle s.flows) rest in
      let agree = turned_leaves rested_flow q e rest (need_none q e high) (is_idle s.flows) empty s.flows in
      record {
        same = sym (same_selected s t refl
            (subst (λ (b : Lists). Agree rested_flow s.flows flows' (arranged_in s) b) (sym lists')
            (subst (λ (a : Lists). Agree rested_flow s.flows flows' a (turned q rest (chosen q (is_idle s.flows) rest))) (sym old_lists) agree)));
        fewer =
            let a : sum_by (old_turns q) s.old_flows ≡ old_turns q e + sum_by (old_turns q) rest = ap (sum_by (old_turns q)) front ∙ sum_by-cons (old_turns q) e rest in
            omega (arith, a, turns_is s, turns_is t, old_turns_is q e);
        packets = packets_of-rested_flow e.flow s.flows;
      }

  pub old_leaves : pos 0 <ℤ e.credits → is_idle s.flows e.flow ≡ true → LeadsOn s (record s { flows = adjust rested_flow e.flow s.flows; old_flows = rest })
  old_leaves high empty = record { lawful = lawful_rested (record s { old_flows = rest }) e.flow (lawful_left s e rest lawful front empty); on = old_leaves_on high empty }

  pub old_ready : pos 0 <ℤ e.credits → is_idle s.flows e.flow ≡ false → selected s ≡ s
  unfolding with_lists
  old_ready high busy =
      let q : ℕ = s.settings.quantum in
      let lists : arranged_in s ≡ record { new_flows = s.new_flows; old_flows = s.old_flows; gone = [] } =
      old_lists
      ∙ turned_ready q e rest (need_none q e high) (is_idle s.flows) busy
      ∙ ap₂ (λ (l m : List Entry). record { new_flows = l; old_flows = m; gone = [] }) (sym none) (sym front) in
      selected_is s
      ∙ ap (λ (l : Lists). with_lists s (clear rested_flow l.gone s.flows) l.new_flows l.old_flows) lists
      ∙ ap (λ (l : List Flow). with_lists s l s.new_flows s.old_flows) (clear-nil rested_flow s.flows)

-- ---- rounds of the old list in which no flow sends

pub rounds_selected : (n : ℕ) (s : FqState) → s.new_flows ≡ [] → 1 ≤ s.settings.quantum → OldNeed n s → selected (rounds_given n s) ≡ selected s
unfolding arranged_in
rounds_selected n s none positive needed =
    let q : ℕ = s.settings.quantum in
    let es : List Entry = s.old_flows in
    let t : FqState = rounds_given n s in
    let before : arranged_in s ≡ turned q es (chosen q (is_idle s.flows) es) =
    ap (λ (l : List Entry). arranged q (is_idle s.flows) l es) none ∙ arranged-nil q (is_idle s.flows) es in
    let after : arranged_in t ≡ turned q (stay q n es) (chosen q (is_idle s.flows) (stay q n es)) =
    ap₂ (λ (i : ℕ → Bool) (l : List Entry). arranged q i l (stay q n es)) (is_idle-clear (leave q n es) s.flows) none
    ∙ arranged-nil q (is_idle s.flows) (stay q n es) in
    sym (same_selected s t refl
    (subst₂ (λ (a b : Lists). Agree rested_flow s.flows t.flows a b) (sym before) (sym after)
    (rounds_turned rested_flow q (is_idle s.flows) positive n es needed s.flows)))

-- the work that is left: k is 1 where a round was given, or 0
turns_stay : (q n k : ℕ) → 1 ≤ q → k ≤ n → k ≤ 1 → (es : List Entry) → sum_by (old_turns q) (stay q n es) + k * length es ≤ sum_by (old_turns q) es
turns_stay q n k positive some one [] = omega (arith, ap (sum_by (old_turns q)) (stay-nil q n))
turns_stay q n k positive some one (e ∷ es) =
    let rest = turns_stay q n k positive some one es in
    let all : sum_by (old_turns q) (e ∷ es) ≡ old_turns q e + sum_by (old_turns q) es = sum_by-cons (old_turns q) e es in
    let more : k * length (e ∷ es) ≡ k + k * length es = omega arith in
    elim (cases_lt (need q e) n) [
      | inl few ↦ omega (arith, rest, all, more, old_turns_is q e, ap (sum_by (old_turns q)) (stay_dropped q n e es few))
      | inr enough ↦
          let kept = ap (sum_by (old_turns q)) (stay_kept q n e es enough) ∙ sum_by-cons (old_turns q) (given q n e) (stay q n es) in
          omega (arith, rest, all, more, old_turns_is q e, old_turns_is q (given q n e), kept, need-given q n e positive enough)
    ]

pub turns_rounds : (n k : ℕ) (s : FqState) → 1 ≤ s.settings.quantum → k ≤ n → k ≤ 1 → turns (rounds_given n s) + k * length s.old_flows ≤ turns s
turns_rounds n k s positive some one =
    omega (arith, turns_is s, turns_is (rounds_given n s), turns_stay s.settings.quantum n k positive some one s.old_flows)

pub none_left : (s : FqState) → s.new_flows ≡ [] → s.old_flows ≡ [] → selected s ≡ s
unfolding with_lists arranged_in chosen turned
none_left s no_new no_old =
    let q : ℕ = s.settings.quantum in
    let lists : arranged_in s ≡ record { new_flows = s.new_flows; old_flows = s.old_flows; gone = [] } =
    ap₂ (λ (l m : List Entry). arranged q (is_idle s.flows) l m) no_new no_old
    ∙ arranged-nil q (is_idle s.flows) []
    ∙ ap₂ (λ (l m : List Entry). record { new_flows = l; old_flows = m; gone = [] }) (sym no_new) (sym no_old) in
    selected_is s
    ∙ ap (λ (l : Lists). with_lists s (clear rested_flow l.gone s.flows) l.new_flows l.old_flows) lists
    ∙ ap (λ (l : List Flow). with_lists s l s.new_flows s.old_flows) (clear-nil rested_flow s.flows)

-- ---- for the code, which knows its lists by equations

-- What is known where the code looks at a front: s is the state that it opened, e the flow in front of both lists, and x the
-- copy of e that it reads.
pub record Looks (a s : FqState) (e x : Entry) (rest : List Entry) : Type 0 where
  pub opened : s ≡ a
  pub lawful : IsLawful s
  pub read : x ≡ e
  pub first : s.new_flows ++ s.old_flows ≡ e ∷ rest

module _ {a s : FqState} {e x : Entry} {rest : List Entry} (look : Looks a s e x rest) where
  pub in_flows : x.flow < length s.flows
  in_flows = omega (arith, front_within s e rest look.lawful look.first, look.lawful.each_flow, ap (λ (y : Entry). y.flow) look.read)

  pub is_spent : x.credits ≤ℤ pos 0 → e.credits ≤ℤ pos 0
  is_spent h = subst (λ (y : Entry). y.credits ≤ℤ pos 0) look.read h

  pub has_credits : pos 0 <ℤ x.credits → pos 0 <ℤ e.credits
  has_credits h = subst (λ (y : Entry). pos 0 <ℤ y.credits) look.read h

  pub idle_is : (i b : Bool) → i ≡ is_idle s.flows x.flow → i ≡ b → is_idle s.flows e.flow ≡ b
  idle_is i b is h = ap (λ (y : Entry). is_idle s.flows y.flow) (sym look.read) ∙ sym is ∙ h

  pub rested_is : (flows : List Flow) → flows ≡ adjust rested_flow x.flow s.flows → flows ≡ adjust rested_flow e.flow s.flows
  rested_is flows h = h ∙ ap (λ (y : Entry). adjust rested_flow y.flow s.flows) look.read

  pub goes_from : (t : FqState) → LeadsOn s t → GoesOn a t
  goes_from t led = subst (λ (y : FqState). GoesOn y t) look.opened led.on

  pub settled_at : selected s ≡ s → pos 0 <ℤ e.credits → is_idle s.flows e.flow ≡ false → IsSettled a
  unfolding front
  settled_at chosen high busy = subst (λ (y : FqState). IsSettled y) look.opened (record {
    chosen = chosen;
    credits = subst (λ (l : List Entry). IfSome (slice_get l 0) (λ (e : Entry). pos 0 <ℤ e.credits)) (sym look.first) high;
    busy = subst (λ (l : List Entry). IfSome (slice_get l 0) (λ (e : Entry). is_idle s.flows e.flow ≡ false)) (sym look.first) busy;
  })

-- no flow is listed
pub settled_none : (s : FqState) → s.new_flows ≡ [] → s.old_flows ≡ [] → IsSettled s
unfolding front
settled_none s no_new no_old =
    let none : s.new_flows ++ s.old_flows ≡ [] = ap₂ (λ (l m : List Entry). l ++ m) no_new no_old in
    record {
      chosen = none_left s no_new no_old;
      credits = subst (λ (l : List Entry). IfSome (slice_get l 0) (λ (e : Entry). pos 0 <ℤ e.credits)) (sym none) tt;
      busy = subst (λ (l : List Entry). IfSome (slice_get l 0) (λ (e : Entry). is_idle s.flows e.flow ≡ false)) (sym none) tt;
    }

pub front_at : {X : Type 0} (xs : List X) (e : X) → slice_get xs 0 ≡ Some e → xs ≡ e ∷ drop 1 xs
front_at [] e read = absurd cc
front_at (x ∷ xs) e read = let p : x ≡ e = cc in ap (λ (y : _). y ∷ xs) p

pub front_some : {X : Type 0} (xs : List X) → 0 < length xs → IsSome (slice_get xs 0)
front_some [] some = absurd (omega arith)
front_some (x ∷ xs) some = refl
