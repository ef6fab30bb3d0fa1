-- One turn of the scheduler leaves the selection as it is: what is chosen from the lists before it is chosen from those
-- after it.
use Rattle.std.proofs.Common.{◌-◌, ◌⊎◌, inl, inr, ◌≡◌, ℕ, zero, suc, ◌<◌, ◌≤◌, pos, ◌≤ℤ◌, ◌==◌, Bool, true, false, cond, List, [], ◌∷◌, ◌++◌, map, length, take, drop, Option, Some, None, IfSome, refl, sym, ap, ap₂, ◌∙◌, arith, ⊎_elim, append_assoc, append-nil, subst, subst₂}
use Rattle.std.proofs.lemmas.Bool.{cases_Bool, cases_eq, true≢false, eq-eqb, ne_eqb, cases_lt, cond-true, cond-false}
use Rattle.std.proofs.lemmas.List.{length-map, map-append, drop-append-le, take-append-le, drop_at, take_at}
use Rattle.q_fqcodel.specs.Cleared.{adjust, clear}
use Rattle.q_fqcodel.specs.Quanta.{need, given, stay, leave}
use Rattle.q_packet.specs.Choice.{Choice, later, sooner, choose}
use Rattle.q_packet.proofs.ChoiceLemmas.{sooner_none, sooner_within, sooner_past, sooner_first, last_one, last_one_within, last_one_past, choose_if, choose_end_if, choose_within}
use Rattle.q_fqcodel.specs.Selection.{Lists, chosen, turned, first_ready, moved, with_rest, arranged}
use Rattle.q_fqcodel.specs.Entry.{Entry}
use Rattle.q_fqcodel.proofs.ClearedLemmas.{clear_middle, clear-cons}
use Rattle.q_fqcodel.proofs.QuantaLemmas.{need_more, flow-given, stay-append, leave-append, stay_dropped, leave_kept, leave_dropped, stay-nil, leave-nil, stay_shift, leave_shift, stay_none, leave_none}

-- ---- the choice

needs : ℕ → (ℕ → Bool) → List Entry → List (Option ℕ)
needs q idle es = map (λ (e : Entry). cond (idle e.flow) None (Some (need q e))) es

-- one flow more in front
pub chosen-cons : (q : ℕ) (idle : ℕ → Bool) (e : Entry) (es : List Entry) → chosen q idle (e ∷ es) ≡ cond (idle e.flow) (later (chosen q idle es)) (Some (sooner (need q e) (chosen q idle es)))
unfolding chosen needs
chosen-cons q idle e es = choose_if (idle e.flow) (need q e) (needs q idle es)

-- one flow more at the end
chosen_end : (q : ℕ) (idle : ℕ → Bool) (es : List Entry) (x : Entry) → chosen q idle (es ++ x ∷ []) ≡ cond (idle x.flow) (chosen q idle es) (Some (last_one (need q x) (length es) (chosen q idle es)))
unfolding chosen needs
chosen_end q idle es x =
    ap choose (map-append (λ (e : Entry). cond (idle e.flow) None (Some (need q e))) es (x ∷ []))
    ∙ choose_end_if (idle x.flow) (need q x) (needs q idle es)
    ∙ ap (λ (n : ℕ). cond (idle x.flow) (choose (needs q idle es)) (Some (last_one (need q x) n (choose (needs q idle es)))))
    (length-map es (λ (e : Entry). cond (idle e.flow) None (Some (need q e))))

-- a choice stands within its list
pub chosen_within : (q : ℕ) (idle : ℕ → Bool) (es : List Entry) → IfSome (chosen q idle es) (λ c. c.place < length es)
unfolding chosen needs
chosen_within q idle es =
    subst (λ (n : ℕ). IfSome (choose (needs q idle es)) (λ (c : Choice). c.place < n))
    (length-map es (λ (e : Entry). cond (idle e.flow) None (Some (need q e)))) (choose_within (needs q idle es))

-- ---- one turn of the old list

-- Two selections are the same: equal lists, and the same flows changed.
pub record Agree {F : Type 0} (r : F → F) (fs gs : List F) (a b : Lists) : Type 0 where
  pub new_flows : a.new_flows ≡ b.new_flows
  pub old_flows : a.old_flows ≡ b.old_flows
  pub flows : clear r a.gone fs ≡ clear r b.gone gs

turned_some : (q : ℕ) (es : List Entry) (c : Choice) → turned q es (Some c) ≡ record {
  new_flows = [];
  old_flows = stay q c.rounds (drop c.place es) ++ stay q (suc c.rounds) (take c.place es);
  gone = leave q c.rounds (drop c.place es) ++ leave q (suc c.rounds) (take c.place es);
}
unfolding turned
turned_some q es c = refl

-- lists that are equal as records
pub same_lists : {F : Type 0} (r : F → F) (flows : List F) (a b : Lists) → a ≡ b → Agree r flows flows a b
same_lists r flows a b e = record {
  new_flows = ap (λ (l : Lists). l.new_flows) e;
  old_flows = ap (λ (l : Lists). l.old_flows) e;
  flows = ap (λ (l : Lists). clear r l.gone flows) e;
}

-- What is made of those behind a place, and then of those before it, is the same once the front has gone to the end as m:
-- for those who stay and for those who leave.
module _ {X : Type 0} (f : ℕ → List Entry → List X) (e m : Entry) (es : List Entry) (nil : (n : ℕ) → f n [] ≡ [])
    (append : (n : ℕ) (xs ys : List Entry) → f n (xs ++ ys) ≡ f n xs ++ f n ys) (shift : (n : ℕ) → f (suc n) (e ∷ []) ≡ f n (m ∷ [])) where
  last : List Entry
  last = m ∷ []

  front_first : (k : ℕ) (xs : List Entry) → f (suc k) (e ∷ xs) ≡ f k last ++ f (suc k) xs
  unfolding last
  front_first k xs = append (suc k) (e ∷ []) xs ∙ ap (λ (l : List X). l ++ f (suc k) xs) (shift k)

  one_behind : (k p : ℕ) → p < length es → f k (drop p es) ++ f (suc k) (e ∷ take p es) ≡ f k (drop p (es ++ last)) ++ f (suc k) (take p (es ++ last))
  one_behind k p within =
      ap (λ (l : List X). f k (drop p es) ++ l) (front_first k (take p es))
      ∙ sym (append_assoc (f k (drop p es)) (f k last) (f (suc k) (take p es)))
      ∙ ap (λ (l : List X). l ++ f (suc k) (take p es)) (sym (append k (drop p es) last))
      ∙ ap₂ (λ (a b : List Entry). f k a ++ f (suc k) b) (sym (drop-append-le p es last (omega arith))) (sym (take-append-le p es last (omega arith)))

  the_front : (k : ℕ) → f (suc k) (e ∷ es) ++ f (suc (suc k)) [] ≡ f k (drop (length es) (es ++ last)) ++ f (suc k) (take (length es) (es ++ last))
  the_front k =
      ap (λ (l : List X). f (suc k) (e ∷ es) ++ l) (nil (suc (suc k)))
      ∙ append-nil (f (suc k) (e ∷ es))
      ∙ front_first k es
      ∙ ap₂ (λ (a b : List Entry). f k a ++ f (suc k) b) (sym (drop_at es last (length es) refl)) (sym (take_at es last (length es) refl))

module _ {F : Type 0} (r : F → F) (q : ℕ) (positive : 1 ≤ q) (e : Entry) (low : e.credits ≤ℤ pos 0) (es : List Entry) where
  -- one of those behind is chosen
  granted_behind : (c : Choice) → c.place < length es → (flows : List F)
      → turned q (e ∷ es) (Some (record { rounds = c.rounds; place = suc c.place })) ≡ turned q (es ++ given q 1 e ∷ []) (Some c)
  unfolding last
  granted_behind c within flows =
      turned_some q (e ∷ es) (record { rounds = c.rounds; place = suc c.place })
      ∙ ap₂ (λ (s : List Entry) (g : List ℕ). record { new_flows = []; old_flows = s; gone = g })
      (one_behind (stay q) e (given q 1 e) es (stay-nil q) (stay-append q) (λ n. stay_shift q n e positive low) c.rounds c.place within)
      (one_behind (leave q) e (given q 1 e) es (leave-nil q) (leave-append q) (λ n. leave_shift q n e positive low) c.rounds c.place within)
      ∙ sym (turned_some q (es ++ given q 1 e ∷ []) c)

  -- the one that got the quantum is chosen, now from the end
  granted_front : (k : ℕ)
      → turned q (e ∷ es) (Some (record { rounds = suc k; place = 0 })) ≡ turned q (es ++ given q 1 e ∷ []) (Some (record { rounds = k; place = length es }))
  unfolding last
  granted_front k =
      turned_some q (e ∷ es) (record { rounds = suc k; place = 0 })
      ∙ ap₂ (λ (s : List Entry) (g : List ℕ). record { new_flows = []; old_flows = s; gone = g })
      (the_front (stay q) e (given q 1 e) es (stay-nil q) (stay-append q) (λ n. stay_shift q n e positive low) k)
      (the_front (leave q) e (given q 1 e) es (leave-nil q) (leave-append q) (λ n. leave_shift q n e positive low) k)
      ∙ sym (turned_some q (es ++ given q 1 e ∷ []) (record { rounds = k; place = length es }))

  -- nobody is chosen
  granted_none : (flows : List F) → Agree r flows flows (turned q (e ∷ es) None) (turned q (es ++ given q 1 e ∷ []) None)
  unfolding turned
  granted_none flows = record {
    new_flows = refl;
    old_flows = refl;
    flows =
        clear-cons r e.flow (map (λ (e : Entry). e.flow) es) flows
        ∙ ap (λ (l : List ℕ). clear r l (adjust r e.flow flows)) (sym (append-nil (map (λ (e : Entry). e.flow) es)))
        ∙ sym (clear_middle r (map (λ (e : Entry). e.flow) es) e.flow [] flows)
        ∙ ap (λ (n : ℕ). clear r (map (λ (e : Entry). e.flow) es ++ n ∷ []) flows) (sym (flow-given q 1 e))
        ∙ ap (λ (l : List ℕ). clear r l flows) (sym (map-append (λ (e : Entry). e.flow) es (given q 1 e ∷ [])));
  }

  -- with a choice o from those behind, and the one in front empty or not
  granted_idle : (o : Option Choice) → IfSome o (λ c. c.place < length es) → (flows : List F)
      → Agree r flows flows (turned q (e ∷ es) (later o)) (turned q (es ++ given q 1 e ∷ []) o)
  granted_idle None within flows = granted_none flows
  granted_idle (Some c) within flows = same_lists r flows _ _ (granted_behind c within flows)

  granted_busy : (k : ℕ) (o : Option Choice) → IfSome o (λ c. c.place < length es) → (flows : List F)
      → turned q (e ∷ es) (Some (sooner (suc k) o)) ≡ turned q (es ++ given q 1 e ∷ []) (Some (last_one k (length es) o))
  granted_busy k None within flows =
      ap (λ (c : Choice). turned q (e ∷ es) (Some c)) (sooner_none (suc k)) ∙ granted_front k
  granted_busy k (Some c) within flows =
      ⊎_elim
      (λ (behind : c.rounds < suc k).
      ap (λ (c : Choice). turned q (e ∷ es) (Some c)) (sooner_past (suc k) c behind)
      ∙ granted_behind c within flows
      ∙ ap (λ (c : Choice). turned q (es ++ given q 1 e ∷ []) (Some c)) (sym (last_one_within k (length es) c (omega arith))))
      (λ (front : suc k ≤ c.rounds).
      ap (λ (c : Choice). turned q (e ∷ es) (Some c)) (sooner_within (suc k) c front)
      ∙ granted_front k
      ∙ ap (λ (c : Choice). turned q (es ++ given q 1 e ∷ []) (Some c)) (sym (last_one_past k (length es) c (omega arith))))
      (cases_lt c.rounds (suc k))

  granted_if : (b : Bool) (o : Option Choice) → IfSome o (λ c. c.place < length es) → (flows : List F)
      → Agree r flows flows (turned q (e ∷ es) (cond b (later o) (Some (sooner (need q e) o))))
      (turned q (es ++ given q 1 e ∷ []) (cond b o (Some (last_one (need q (given q 1 e)) (length es) o))))
  granted_if true o within flows = granted_idle o within flows
  granted_if false o within flows =
      same_lists r flows _ _
      (ap (λ (n : ℕ). turned q (e ∷ es) (Some (sooner n o))) (need_more q e positive low)
      ∙ granted_busy (need q (given q 1 e)) o within flows)

  -- A flow in front without credits gets a quantum and goes to the end.
  pub turned_granted : (idle : ℕ → Bool) (flows : List F)
      → Agree r flows flows (turned q (e ∷ es) (chosen q idle (e ∷ es))) (turned q (es ++ given q 1 e ∷ []) (chosen q idle (es ++ given q 1 e ∷ [])))
  turned_granted idle flows =
      let last : Entry = given q 1 e in
      let o : Option Choice = chosen q idle es in
      let at_end : chosen q idle (es ++ last ∷ []) ≡ cond (idle e.flow) o (Some (last_one (need q last) (length es) o)) =
      chosen_end q idle es last ∙ ap (λ (n : ℕ). cond (idle n) o (Some (last_one (need q last) (length es) o))) (flow-given q 1 e) in
      subst₂ (λ (a b : Option Choice). Agree r flows flows (turned q (e ∷ es) a) (turned q (es ++ last ∷ []) b))
      (sym (chosen-cons q idle e es)) (sym at_end) (granted_if (idle e.flow) o (chosen_within q idle es) flows)

-- An empty flow in front with credits leaves.
leaves_some : {F : Type 0} (r : F → F) (q : ℕ) (e : Entry) (es : List Entry) → need q e ≡ 0 → (o : Option Choice) → (flows : List F)
    → Agree r flows (adjust r e.flow flows) (turned q (e ∷ es) (later o)) (turned q es o)
unfolding turned
leaves_some r q e es ready None flows = record { new_flows = refl; old_flows = refl; flows = clear-cons r e.flow (map (λ (e : Entry). e.flow) es) flows }
leaves_some r q e es ready (Some c) flows = record {
  new_flows = refl;
  old_flows = ap (λ (l : List Entry). stay q c.rounds (drop c.place es) ++ l) (stay_dropped q (suc c.rounds) e (take c.place es) (omega arith));
  flows =
      ap (λ (l : List ℕ). clear r (leave q c.rounds (drop c.place es) ++ l) flows) (leave_dropped q (suc c.rounds) e (take c.place es) (omega arith))
      ∙ clear_middle r (leave q c.rounds (drop c.place es)) e.flow (leave q (suc c.rounds) (take c.place es)) flows;
}

pub turned_leaves : {F : Type 0} (r : F → F) (q : ℕ) (e : Entry) (es : List Entry) → need q e ≡ 0 → (idle : ℕ → Bool) → idle e.flow ≡ true → (flows : List F)
    → Agree r flows (adjust r e.flow flows) (turned q (e ∷ es) (chosen q idle (e ∷ es))) (turned q es (chosen q idle es))
turned_leaves r q e es ready idle empty flows =
    subst (λ (o : Option Choice). Agree r flows (adjust r e.flow flows) (turned q (e ∷ es) o) (turned q es (chosen q idle es)))
    (sym (chosen-cons q idle e es ∙ cond-true (idle e.flow) (later (chosen q idle es)) (Some (sooner (need q e) (chosen q idle es))) empty))
    (leaves_some r q e es ready (chosen q idle es) flows)

-- A flow in front with credits and a packet is the one.
pub turned_ready : (q : ℕ) (e : Entry) (es : List Entry) → need q e ≡ 0 → (idle : ℕ → Bool) → idle e.flow ≡ false
    → turned q (e ∷ es) (chosen q idle (e ∷ es)) ≡ record { new_flows = []; old_flows = e ∷ es; gone = [] }
turned_ready q e es ready idle busy =
    ap (turned q (e ∷ es))
    (chosen-cons q idle e es
    ∙ cond-false (idle e.flow) (later (chosen q idle es)) (Some (sooner (need q e) (chosen q idle es))) busy
    ∙ ap (λ (n : ℕ). Some (sooner n (chosen q idle es))) ready
    ∙ ap (λ (c : Choice). Some c) (sooner_first (chosen q idle es)))
    ∙ turned_some q (e ∷ es) (record { rounds = 0; place = 0 })
    ∙ ap₂ (λ (s : List Entry) (g : List ℕ). record { new_flows = []; old_flows = s; gone = g })
    (ap₂ (λ (a b : List Entry). a ++ b) (stay_none q (e ∷ es)) (stay-nil q 1) ∙ append-nil (e ∷ es))
    (ap₂ (λ (a b : List ℕ). a ++ b) (leave_none q (e ∷ es)) (leave-nil q 1))

-- ---- one turn of the new list

pub arranged-nil : (q : ℕ) (idle : ℕ → Bool) (old_flows : List Entry) → arranged q idle [] old_flows ≡ turned q old_flows (chosen q idle old_flows)
unfolding arranged with_rest first_ready
arranged-nil q idle old_flows =
    ap₂ (λ (l : List Entry) (g : List ℕ). let t = turned q l (chosen q idle l) in record t { gone = g ++ t.gone }) (append-nil old_flows) (leave-nil q 1)

-- both lists where the new one is passed over up to this place
arranged_at : ℕ → (ℕ → Bool) → List Entry → List Entry → ℕ → Lists
arranged_at q idle new_flows old_flows p =
    let rest = with_rest q idle (drop p new_flows) (old_flows ++ map (moved q) (take p new_flows)) in
    record rest { gone = leave q 1 (take p new_flows) ++ rest.gone }

skip_if : (i z : Bool) (n : ℕ) → z ≡ false → cond i (suc n) (cond z zero (suc n)) ≡ suc n
skip_if true z n h = refl
skip_if false z n h = cond-false z zero (suc n) h

first_short : (q : ℕ) (idle : ℕ → Bool) (e : Entry) (es : List Entry) (n : ℕ) → need q e ≡ suc n → first_ready q idle (e ∷ es) ≡ suc (first_ready q idle es)
unfolding first_ready
first_short q idle e es n k = skip_if (idle e.flow) (need q e == 0) (first_ready q idle es) (ne_eqb (need q e) 0 (λ z. absurd (omega (arith, k, z))))

first_idle : (q : ℕ) (idle : ℕ → Bool) (e : Entry) (es : List Entry) → idle e.flow ≡ true → first_ready q idle (e ∷ es) ≡ suc (first_ready q idle es)
unfolding first_ready
first_idle q idle e es empty = cond-true (idle e.flow) _ _ empty

pub first_ready_zero : (q : ℕ) (idle : ℕ → Bool) (e : Entry) (es : List Entry) → need q e ≡ 0 → idle e.flow ≡ false → first_ready q idle (e ∷ es) ≡ 0
unfolding first_ready
first_ready_zero q idle e es ready busy = cond-false (idle e.flow) _ _ busy ∙ cond-true (need q e == 0) zero (suc (first_ready q idle es)) (eq-eqb _ _ ready)

pub first_passes : (q : ℕ) (idle : ℕ → Bool) (e : Entry) (es : List Entry)
    → (first_ready q idle (e ∷ es) ≡ 0) ⊎ ((first_ready q idle (e ∷ es) ≡ suc (first_ready q idle es)) × (idle e.flow ≡ false → need q e ≡ 0 → ⊥))
first_passes q idle e es =
    ⊎_elim
    (λ (empty : idle e.flow ≡ true). inr (first_idle q idle e es empty, λ busy ready. true≢false (sym empty ∙ busy)))
    (λ (busy : idle e.flow ≡ false).
    ⊎_elim
    (λ (ready : need q e ≡ 0). inl (first_ready_zero q idle e es ready busy))
    (λ (short : need q e ≡ 0 → ⊥).
    let n : ℕ = need q e - 1 in
    let k : need q e ≡ suc n = omega (arith, short) in
    inr (first_short q idle e es n k, λ _ ready. short ready))
    (cases_eq (need q e) 0))
    (cases_Bool (idle e.flow))

moved_short : (q : ℕ) (e : Entry) (n : ℕ) → need q e ≡ suc n → moved q e ≡ given q 1 e
unfolding moved
moved_short q e n k = cond-false (need q e == 0) e (given q 1 e) (ne_eqb (need q e) 0 (λ z. absurd (omega (arith, k, z))))

moved_ready : (q : ℕ) (e : Entry) → need q e ≡ 0 → moved q e ≡ e
unfolding moved
moved_ready q e ready = cond-true (need q e == 0) e (given q 1 e) (eq-eqb _ _ ready)

arranged_is : (q : ℕ) (idle : ℕ → Bool) (new_flows old_flows : List Entry) (p : ℕ) → first_ready q idle new_flows ≡ p → arranged q idle new_flows old_flows ≡ arranged_at q idle new_flows old_flows p
unfolding arranged arranged_at
arranged_is q idle new_flows old_flows p h = ap (arranged_at q idle new_flows old_flows) h

-- the lists where the flow in front of the new one is passed over, and goes to the old one as m
passed : (q : ℕ) (idle : ℕ → Bool) (e m : Entry) (es old_flows : List Entry) (p : ℕ) → moved q e ≡ m
    → arranged_at q idle (e ∷ es) old_flows (suc p)
    ≡ (let a = arranged_at q idle es (old_flows ++ m ∷ []) p in
    record a { gone = leave q 1 ((e ∷ []) ++ take p es) ++ (with_rest q idle (drop p es) ((old_flows ++ m ∷ []) ++ map (moved q) (take p es))).gone })
unfolding arranged_at
passed q idle e m es old_flows p h =
    let l : old_flows ++ (moved q e ∷ map (moved q) (take p es)) ≡ (old_flows ++ m ∷ []) ++ map (moved q) (take p es) =
    ap (λ (x : Entry). old_flows ++ (x ∷ map (moved q) (take p es))) h ∙ sym (append_assoc old_flows (m ∷ []) (map (moved q) (take p es))) in
    ap (λ (l : List Entry). let rest = with_rest q idle (drop p es) l in record rest { gone = leave q 1 ((e ∷ []) ++ take p es) ++ rest.gone }) l

-- A new flow without credits gets a quantum and goes to the end of the old list.
pub arranged_granted : (q : ℕ) (idle : ℕ → Bool) (e : Entry) (es old_flows : List Entry) → 1 ≤ q → e.credits ≤ℤ pos 0
    → arranged q idle (e ∷ es) old_flows ≡ arranged q idle es (old_flows ++ given q 1 e ∷ [])
unfolding arranged_at
arranged_granted q idle e es old_flows positive low =
    let n : ℕ = need q (given q 1 e) in
    let k : need q e ≡ suc n = need_more q e positive low in
    let p : ℕ = first_ready q idle es in
    arranged_is q idle (e ∷ es) old_flows (suc p) (first_short q idle e es n k)
    ∙ passed q idle e (given q 1 e) es old_flows p (moved_short q e n k)
    ∙ ap (λ (g : List ℕ). let rest = with_rest q idle (drop p es) ((old_flows ++ given q 1 e ∷ []) ++ map (moved q) (take p es)) in record rest { gone = g ++ rest.gone })
    (leave_kept q 1 e (take p es) (omega arith))
    ∙ sym (arranged_is q idle es (old_flows ++ given q 1 e ∷ []) p refl)

-- An empty new flow with credits goes to the end of the old list.
pub arranged_moves : (q : ℕ) (idle : ℕ → Bool) (e : Entry) (es old_flows : List Entry) → need q e ≡ 0 → idle e.flow ≡ true
    → arranged q idle (e ∷ es) old_flows ≡ (let a = arranged q idle es (old_flows ++ e ∷ []) in record a { gone = e.flow ∷ a.gone })
unfolding arranged_at
arranged_moves q idle e es old_flows ready empty =
    let p : ℕ = first_ready q idle es in
    arranged_is q idle (e ∷ es) old_flows (suc p) (first_idle q idle e es empty)
    ∙ passed q idle e e es old_flows p (moved_ready q e ready)
    ∙ ap (λ (g : List ℕ). let rest = with_rest q idle (drop p es) ((old_flows ++ e ∷ []) ++ map (moved q) (take p es)) in record rest { gone = g ++ rest.gone })
    (leave_dropped q 1 e (take p es) (omega arith))
    ∙ ap (λ (a : Lists). record a { gone = e.flow ∷ a.gone }) (sym (arranged_is q idle es (old_flows ++ e ∷ []) p refl))

-- A new flow with credits and a packet is the one.
pub arranged_ready : (q : ℕ) (idle : ℕ → Bool) (e : Entry) (es old_flows : List Entry) → need q e ≡ 0 → idle e.flow ≡ false
    → arranged q idle (e ∷ es) old_flows ≡ record { new_flows = e ∷ es; old_flows = old_flows; gone = [] }
unfolding arranged_at with_rest
arranged_ready q idle e es old_flows ready busy =
    arranged_is q idle (e ∷ es) old_flows 0 (first_ready_zero q idle e es ready busy)
    ∙ ap₂ (λ (l : List Entry) (g : List ℕ). record { new_flows = e ∷ es; old_flows = l; gone = g ++ [] }) (append-nil old_flows) (leave-nil q 1)
