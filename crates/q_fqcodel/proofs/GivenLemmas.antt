-- The quanta that a flow is given, joined with its credits, and how many that is by its place in the old list.
use Rattle.std.proofs.Common.{◌≡◌, ℕ, zero, suc, ◌+◌, ◌*◌, ◌<◌, ◌≤◌, min, nat_lt, ◌==◌, ℤ, pos, ◌+ℤ◌, Bool, false, cond, List, All, [], ◌∷◌, ◌++◌, map, filter, take, drop, Option, Some, None, refl, sym, ap, ◌∙◌, arith, ⊎_elim, subst, add-mul}
use Rattle.std.specs.Prelude.{slice_get, slice_index_or}
use Rattle.std.proofs.lemmas.Bool.{cases_eq, cases_lt, cond-true, cond-false, eq-eqb, ne_eqb, lt-ltb, le-ltb, ltb-true}
use Rattle.std.proofs.lemmas.Int.{ints}
use Rattle.std.proofs.lemmas.List.{take-append-drop}
use Rattle.std.proofs.lemmas.List.Elements.{All-map, All-filter, filter_passes}
use Rattle.q_packet.specs.Choice.{Choice, IsChosen}
use Rattle.q_packet.proofs.ChoiceLemmas.{chosen_is}
use Rattle.q_fqcodel.specs.Entry.{Entry}
use Rattle.q_fqcodel.specs.Quanta.{need, given, stay}
use Rattle.q_fqcodel.specs.Selection.{chosen, turned, first_ready, moved, with_rest, arranged}
use Rattle.q_fqcodel.specs.FqState.{is_idle}
use Rattle.q_fqcodel.specs.Lawful.{times}
use Rattle.q_fqcodel.specs.QuantaGiven.{Grant, grants, quanta_in, visits, quanta_turned, passed_over, old_list, quanta_old, quanta_given}
use Rattle.q_fqcodel.specs.Take.{selected}
use Rattle.q_fqcodel.specs.Laws.{CreditsByQuanta, GrantsAreSome, QuantaByPlace}
use Rattle.q_fqcodel.proofs.LawfulLemmas.{times-cons, times-append, one_same}
use Rattle.q_fqcodel.proofs.QuantaLemmas.{flow-given}
use Rattle.q_fqcodel.proofs.InLemmas.{In, In_either, In_left, In_right, In_taken, In_dropped, In_mapped, In_stayed, In_before, In_behind, In_found, In_counted, same_entry, sum_none, sum_once}

pub times_split : (n k : ℕ) (es : List Entry) → times n es ≡ times n (take k es) + times n (drop k es)
times_split n k es = ap (times n) (sym (take-append-drop k es)) ∙ times-append n (take k es) (drop k es)

-- ---- one flow, visited so often

quanta_in_once : (q n visits : ℕ) (e : Entry) (es : List Entry) → In e es → e.flow ≡ n → times n es ≤ 1 → quanta_in q n visits es ≡ min visits (need q e)
unfolding quanta_in
quanta_in_once q n visits e es h own once = sum_once n (λ (e : Entry). min visits (need q e)) e es h own once

quanta_in_none : (q n visits : ℕ) (es : List Entry) → times n es ≡ 0 → quanta_in q n visits es ≡ 0
unfolding quanta_in
quanta_in_none q n visits es none = sum_none n (λ (e : Entry). min visits (need q e)) es none

credits-given : (q k : ℕ) (e : Entry) → (given q k e).credits ≡ e.credits +ℤ pos (k * q)
unfolding given
credits-given q k e = refl

pub flow-moved : (q : ℕ) (e : Entry) → (moved q e).flow ≡ e.flow
unfolding moved
flow-moved q e =
    ⊎_elim
    (λ (none : need q e ≡ 0). ap (λ (x : Entry). x.flow) (cond-true (need q e == 0) e (given q 1 e) (eq-eqb _ _ none)))
    (λ (some : need q e ≡ 0 → ⊥). ap (λ (x : Entry). x.flow) (cond-false (need q e == 0) e (given q 1 e) (ne_eqb _ _ some)) ∙ flow-given q 1 e)
    (cases_eq (need q e) 0)

credits-moved : (q : ℕ) (e : Entry) → (moved q e).credits ≡ e.credits +ℤ pos (min 1 (need q e) * q)
unfolding moved
credits-moved q e =
    ⊎_elim
    (λ (none : need q e ≡ 0).
    ap (λ (x : Entry). x.credits) (cond-true (need q e == 0) e (given q 1 e) (eq-eqb _ _ none))
    ∙ (let z : e.credits ≡ e.credits +ℤ pos (0 * q) = omega (arith, ints) in z)
    ∙ ap (λ (k : ℕ). e.credits +ℤ pos (k * q)) (let m : 0 ≡ min 1 (need q e) = omega (arith, none) in m))
    (λ (some : need q e ≡ 0 → ⊥).
    ap (λ (x : Entry). x.credits) (cond-false (need q e == 0) e (given q 1 e) (ne_eqb _ _ some))
    ∙ credits-given q 1 e
    ∙ ap (λ (k : ℕ). e.credits +ℤ pos (k * q)) (let m : 1 ≡ min 1 (need q e) = omega (arith, some) in m))
    (cases_eq (need q e) 0)

pub times-moved : (q n : ℕ) (es : List Entry) → times n (map (moved q) es) ≡ times n es
times-moved q n [] = refl
times-moved q n (x ∷ xs) = omega (arith, times-cons n (moved q x) (map (moved q) xs), times-cons n x xs, one_same n x (moved q x) (flow-moved q x), times-moved q n xs)

-- what a flow of the old list is given in the turn
pub turned_some : (q n : ℕ) (es : List Entry) (c : Choice) → quanta_turned q n es (Some c) ≡ quanta_in q n c.rounds (drop c.place es) + quanta_in q n (suc c.rounds) (take c.place es)
unfolding quanta_turned
turned_some q n es c = refl

behind_chosen : (q n : ℕ) (es : List Entry) (c : Choice) (e : Entry) → times n es ≤ 1 → e.flow ≡ n → In e (drop c.place es) → quanta_turned q n es (Some c) ≡ min c.rounds (need q e)
behind_chosen q n es c e once own h =
    let split = times_split n c.place es in
    let some = In_counted n e (drop c.place es) h own in
    let here = quanta_in_once q n c.rounds e (drop c.place es) h own (omega (arith, split, once)) in
    let none = quanta_in_none q n (suc c.rounds) (take c.place es) (omega (arith, split, once, some)) in
    omega (arith, turned_some q n es c, here, none)

before_chosen : (q n : ℕ) (es : List Entry) (c : Choice) (e : Entry) → times n es ≤ 1 → e.flow ≡ n → In e (take c.place es) → quanta_turned q n es (Some c) ≡ min (suc c.rounds) (need q e)
before_chosen q n es c e once own h =
    let split = times_split n c.place es in
    let some = In_counted n e (take c.place es) h own in
    let here = quanta_in_once q n (suc c.rounds) e (take c.place es) h own (omega (arith, split, once)) in
    let none = quanta_in_none q n c.rounds (drop c.place es) (omega (arith, split, once, some)) in
    omega (arith, turned_some q n es c, here, none)

-- one that has stayed in the turn
turned_credits : (q n : ℕ) (es : List Entry) (c : Choice) (a : Entry) → times n es ≤ 1 → a.flow ≡ n
    → In a (stay q c.rounds (drop c.place es) ++ stay q (suc c.rounds) (take c.place es))
    → (x : Entry) × In x es × (x.flow ≡ n) × (a.credits ≡ x.credits +ℤ pos (quanta_turned q n es (Some c) * q))
turned_credits q n es c a once own h =
    ⊎_elim
    (λ (behind : In a (stay q c.rounds (drop c.place es))).
    let r = In_stayed q c.rounds a (drop c.place es) behind in
    let x : Entry = r.0 in
    let own' : x.flow ≡ n = sym (flow-given q c.rounds x) ∙ ap (λ (y : Entry). y.flow) r.3 ∙ own in
    let k : quanta_turned q n es (Some c) ≡ c.rounds = omega (arith, behind_chosen q n es c x once own' r.1, r.2) in
    (x, In_dropped x c.place es r.1, own', ap (λ (y : Entry). y.credits) (sym r.3) ∙ credits-given q c.rounds x ∙ ap (λ (k : ℕ). x.credits +ℤ pos (k * q)) (sym k)))
    (λ (before : In a (stay q (suc c.rounds) (take c.place es))).
    let r = In_stayed q (suc c.rounds) a (take c.place es) before in
    let x : Entry = r.0 in
    let own' : x.flow ≡ n = sym (flow-given q (suc c.rounds) x) ∙ ap (λ (y : Entry). y.flow) r.3 ∙ own in
    let k : quanta_turned q n es (Some c) ≡ suc c.rounds = omega (arith, before_chosen q n es c x once own' r.1, r.2) in
    (x, In_taken x c.place es r.1, own', ap (λ (y : Entry). y.credits) (sym r.3) ∙ credits-given q (suc c.rounds) x ∙ ap (λ (k : ℕ). x.credits +ℤ pos (k * q)) (sym k)))
    (In_either a (stay q c.rounds (drop c.place es)) (stay q (suc c.rounds) (take c.place es)) h)

-- so many quanta, and then so many
quanta_more : (z : ℤ) (j k q : ℕ) → (z +ℤ pos (j * q)) +ℤ pos (k * q) ≡ z +ℤ pos ((j + k) * q)
quanta_more z j k q = let m : (j + k) * q ≡ j * q + k * q = add-mul j k q in omega (arith, ints, m)

-- ---- a whole selection, of lists that hold flow n at most once

module _ (q n : ℕ) (idle : ℕ → Bool) (new_flows old_flows : List Entry) (p : ℕ) (once : times n (new_flows ++ old_flows) ≤ 1) (e : Entry)
    (listed : In e (new_flows ++ old_flows)) (own : e.flow ≡ n) where
  over : List Entry
  over = take p new_flows

  old : List Entry
  old = old_flows ++ map (moved q) over

  at_most : times n (take p new_flows) + times n (drop p new_flows) + times n old_flows ≤ 1
  at_most = omega (arith, once, times-append n new_flows old_flows, times_split n p new_flows)

  old_once : times n old ≤ 1
  unfolding old over
  old_once = omega (arith, at_most, times-append n old_flows (map (moved q) (take p new_flows)), times-moved q n (take p new_flows))

  -- an entry of flow n that the selection has not touched
  untouched : (x : Entry) → In x (new_flows ++ old_flows) → x.flow ≡ n → times n (take p new_flows) ≡ 0 → x.credits ≡ e.credits +ℤ pos (quanta_in q n 1 over * q)
  unfolding over
  untouched x h own' none =
      let same : x ≡ e = same_entry n x e (new_flows ++ old_flows) h listed own' own once in
      let k : quanta_in q n 1 (take p new_flows) ≡ 0 = quanta_in_none q n 1 (take p new_flows) none in
      let z : e.credits ≡ e.credits +ℤ pos (0 * q) = omega (arith, ints) in
      ap (λ (y : Entry). y.credits) same ∙ z ∙ ap (λ (k : ℕ). e.credits +ℤ pos (k * q)) (sym k)

  -- the old list, once the new flows that were passed over have gone there
  old_credits : (x : Entry) → In x old → x.flow ≡ n → x.credits ≡ e.credits +ℤ pos (quanta_in q n 1 over * q)
  unfolding old over
  old_credits x h own' =
      ⊎_elim
      (λ (stayed : In x old_flows). untouched x (In_right x new_flows old_flows stayed) own' (omega (arith, at_most, In_counted n x old_flows stayed own')))
      (λ (came : In x (map (moved q) (take p new_flows))).
      let r = In_mapped (moved q) x (take p new_flows) came in
      let y : Entry = r.0 in
      let own'' : y.flow ≡ n = sym (flow-moved q y) ∙ ap (λ (z : Entry). z.flow) r.2 ∙ own' in
      let same : y ≡ e = same_entry n y e (new_flows ++ old_flows) (In_left y new_flows old_flows (In_taken y p new_flows r.1)) listed own'' own once in
      let k : quanta_in q n 1 (take p new_flows) ≡ min 1 (need q y) = quanta_in_once q n 1 y (take p new_flows) r.1 own'' (omega (arith, at_most)) in
      ap (λ (z : Entry). z.credits) (sym r.2)
      ∙ credits-moved q y
      ∙ ap (λ (k : ℕ). y.credits +ℤ pos (k * q)) (sym k)
      ∙ ap (λ (z : Entry). z.credits +ℤ pos (quanta_in q n 1 (take p new_flows) * q)) same)
      (In_either x old_flows (map (moved q) (take p new_flows)) h)

  after_turn : (a : Entry) (o : Option Choice) → In a (turned q old o).old_flows → a.flow ≡ n → a.credits ≡ e.credits +ℤ pos ((quanta_in q n 1 over + quanta_turned q n old o) * q)
  unfolding turned
  after_turn a None h own' = absurd h
  after_turn a (Some c) h own' =
      let r = turned_credits q n old c a old_once own' h in
      r.3
      ∙ ap (λ (z : ℤ). z +ℤ pos (quanta_turned q n old (Some c) * q)) (old_credits r.0 r.1 r.2)
      ∙ quanta_more e.credits (quanta_in q n 1 over) (quanta_turned q n old (Some c)) q

  no_new : (a : Entry) (o : Option Choice) → In a ((turned q old o).new_flows ++ (turned q old o).old_flows) → In a (turned q old o).old_flows
  unfolding turned
  no_new a None h = h
  no_new a (Some c) h = h

  after_all : (a : Entry) (rest : List Entry) → drop p new_flows ≡ rest → In a ((with_rest q idle rest old).new_flows ++ (with_rest q idle rest old).old_flows) → a.flow ≡ n
      → a.credits ≡ e.credits +ℤ pos ((quanta_in q n 1 over + quanta_old q idle n rest old) * q)
  unfolding with_rest quanta_old
  after_all a [] none h own' = after_turn a (chosen q idle old) (no_new a (chosen q idle old) h) own'
  after_all a (r ∷ rs) left h own' =
      let same : e.credits +ℤ pos (quanta_in q n 1 over * q) ≡ e.credits +ℤ pos ((quanta_in q n 1 over + 0) * q) =
      ap (λ (k : ℕ). e.credits +ℤ pos (k * q)) (let z : quanta_in q n 1 over ≡ quanta_in q n 1 over + 0 = omega arith in z) in
      ⊎_elim
      (λ (new : In a (r ∷ rs)).
      let there : In a (drop p new_flows) = subst (In a) (sym left) new in
      untouched a (In_left a new_flows old_flows (In_dropped a p new_flows there)) own' (omega (arith, at_most, In_counted n a (drop p new_flows) there own')) ∙ same)
      (λ (before : In a old). old_credits a before own' ∙ same)
      (In_either a (r ∷ rs) old h)

pub credits_by_quanta : CreditsByQuanta
unfolding selected arranged quanta_given passed_over old_list over old
credits_by_quanta s n before after lawful was is =
    let q : ℕ = s.settings.quantum in
    let p : ℕ = first_ready q (is_idle s.flows) s.new_flows in
    let b = In_found n (s.new_flows ++ s.old_flows) before was in
    let a = In_found n ((selected s).new_flows ++ (selected s).old_flows) after is in
    sym a.3
    ∙ after_all q n (is_idle s.flows) s.new_flows s.old_flows p (lawful.once n) b.0 b.1 b.2 a.0 (drop p s.new_flows) refl a.1 a.2
    ∙ ap (λ (z : ℤ). z +ℤ pos (quanta_given s n * q)) b.3

pub grants_are_some : GrantsAreSome
unfolding grants
grants_are_some s =
    let is_some : Grant → Bool = λ g. nat_lt 0 g.quanta in
    let grant : Entry → Grant = λ e. record { flow = e.flow; quanta = quanta_given s e.flow } in
    let all : List Grant = map grant (s.new_flows ++ s.old_flows) in
    let says : All (λ (g : Grant). g.quanta ≡ quanta_given s g.flow) all = All-map (λ (g : Grant). g.quanta ≡ quanta_given s g.flow) grant (s.new_flows ++ s.old_flows) (λ k d within. refl) in
    λ k d within. (
      ltb-true 0 (slice_index_or (filter is_some all) k d).quanta (filter_passes is_some all k d within),
      All-filter is_some (λ (g : Grant). g.quanta ≡ quanta_given s g.flow) all says k d within,
    )

-- ---- by the place in the old list

-- what the flow at a place needs, as the choice has it
pub need_at : (q : ℕ) (idle : ℕ → Bool) (es : List Entry) (i : ℕ) (e : Entry) → slice_get es i ≡ Some e → idle e.flow ≡ false
    → slice_index_or (map (λ (e : Entry). cond (idle e.flow) None (Some (need q e))) es) i None ≡ Some (need q e)
need_at q idle [] i e h busy = absurd cc
need_at q idle (x ∷ xs) zero e h busy =
    let same : x ≡ e = cc in
    ap (λ (y : Entry). cond (idle y.flow) None (Some (need q y))) same ∙ cond-false (idle e.flow) None (Some (need q e)) busy
need_at q idle (x ∷ xs) (suc i) e h busy = need_at q idle xs i e h busy

pub chosen_least : (q : ℕ) (idle : ℕ → Bool) (es : List Entry) (c : Choice) → chosen q idle es ≡ Some c → IsChosen (map (λ (e : Entry). cond (idle e.flow) None (Some (need q e))) es) c
unfolding chosen
chosen_least q idle es c h = chosen_is (map (λ (e : Entry). cond (idle e.flow) None (Some (need q e))) es) c h

visits_before : (c : Choice) (i : ℕ) → i < c.place → visits c i ≡ suc c.rounds
unfolding visits
visits_before c i h = cond-true (nat_lt i c.place) (suc c.rounds) c.rounds (lt-ltb i c.place h)

visits_behind : (c : Choice) (i : ℕ) → c.place ≤ i → visits c i ≡ c.rounds
unfolding visits
visits_behind c i h = cond-false (nat_lt i c.place) (suc c.rounds) c.rounds (le-ltb i c.place h)

pub quanta_by_place : QuantaByPlace
quanta_by_place q idle es c place e once is there busy =
    let least = chosen_least q idle es c is in
    let needs = need_at q idle es place e there busy in
    ⊎_elim
    (λ (before : place < c.place).
    omega (arith, visits_before c place before, least.first place (need q e) before needs, before_chosen q e.flow es c e once refl (In_before e place c.place es there before)))
    (λ (behind : c.place ≤ place).
    omega (arith, visits_behind c place behind, least.least place (need q e) needs, behind_chosen q e.flow es c e once refl (In_behind e place c.place es there behind)))
    (cases_lt place c.place)
