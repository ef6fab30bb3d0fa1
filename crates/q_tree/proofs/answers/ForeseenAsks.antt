-- What is known of a node before it is asked, against what it shows when it is: a prio, a drr, an fq_codel, and a whole tree.
use Rattle.std.proofs.Common.{◌≡◌, ℕ, zero, suc, ◌+◌, ◌<◌, ◌≤◌, ◌^◌, ◌∙◌, ◌⊎◌, refl, sym, ap, subst, arith, inl, inr, List, [], ◌∷◌, ◌++◌, Option, Some, None, option_map, option_and_then, option_to_list}
use Rattle.std.specs.Prelude.{Bool, true, false, not, cond, min, nat_lt, nat_le, ◌==◌, if◌then◌else◌, is_some, slice_get}
use Rattle.std.specs.Option.{option_map_or}
use Rattle.std.proofs.lemmas.Bool.{cases_Bool, cond-true, cond-false, leb-true, ltb-true, ltb-false, lt-ltb, eqb-true}
use Rattle.std.proofs.lemmas.Option.{none-some}
use Rattle.std.proofs.lemmas.List.{nil_from_length}
use Rattle.q_packet.specs.Descriptor.{Descriptor}
use Rattle.q_packet.specs.declared.stamped.Stamped.{Stamped}
use Rattle.q_bucket.specs.Level.{TokenBucket, allows}
use Rattle.q_drr.specs.Schedule.{Entry, Schedule, IsLawful}
use Rattle.q_drr.specs.Take.{met_in}
use Rattle.q_drr.specs.declared.take.Met.{Met}
use Rattle.q_drr.proofs.TakeLemmas.{Front, prepared_ready, prepared_empty, need_at}
use Rattle.q_fqcodel.specs.FqState as fq
use Rattle.q_fqcodel.specs.FqState.{FqState}
use Rattle.q_model.specs.declared.filter.Filter.{Filter}
use Rattle.q_model.specs.Ask.{Asked, class_answer, length_of, head_of, Service, service_of, place_met, gives_nothing, class_gives, class_serves, ask_prio, ask_drr, ask_tbf, spends, waits, ask_own, ask}
use Rattle.q_model.specs.Beneath.{beneath, beneath_own, packets_of}
use Rattle.q_model.specs.Lawful.{IsLawfulOwn}
use Rattle.q_model.specs.Node.{Discipline, Fifo, Prio, Tbf, Drr, FqCodel, Own, Forest, none, more, Node, Shape, each, shape}
use Rattle.q_model.specs.Route.{class_at}
use Rattle.q_model.proofs.ShrinkLemmas.{each-each_memory}
use Rattle.q_invariants.specs.Kept.{AllLawful, IsLawfulRoot}
use Rattle.q_invariants.specs.Weights.{weigh}
use Rattle.q_invariants.proofs.ask.Answer.{one}
use Rattle.q_invariants.proofs.ask.Asks.{ask-answers, before-root}
use Rattle.q_invariants.proofs.sums.Weights.{weigh-cons, weigh-nil}
use Rattle.q_invariants.proofs.tree.Forests.{lawful-with_memory}
use Rattle.q_tree.specs.answers.ReadyAt.{is_before, sooner, no_packet, at_best, shaped, joined, with_next, after_first, with_band, with_bands, if_paid, paid, of_fifo, of_flows, of_class, outlook_own, outlook}
use Rattle.q_tree.specs.declared.answers.ready_at.Outlook.{Outlook}
use Rattle.q_tree.proofs.answers.Foreseeing.{Comes, Foresees, no_packet-foreseen, hand-foreseen, best-foreseen, through, shaped-foreseen}
use Rattle.q_tree.proofs.disciplines.FlowCounts.{count-sum, packets-all}

-- ---- a prio

abbrev pub or_else : Option Descriptor → Option Descriptor → Option Descriptor
or_else None b = b
or_else (Some p) b = Some p

abbrev pub first_of : List Asked → Option Descriptor
first_of [] = None
first_of (a ∷ below) = or_else a.shown (first_of below)

or_none : (a : Option Descriptor) → or_else a None ≡ a
or_none None = refl
or_none (Some p) = refl

or_or : (a b c : Option Descriptor) → or_else (or_else a b) c ≡ or_else a (or_else b c)
or_or None b c = refl
or_or (Some p) b c = refl

which : (a b : Option Descriptor) (p : Descriptor) → or_else a b ≡ Some p → (a ≡ Some p) ⊎ ((a ≡ None) × (b ≡ Some p))
which None b p e = inr (refl, e)
which (Some q) b p e = inl e

next : (n : ℕ) → 1 + n ≡ suc n
next n = omega arith

pub prio-shown : (own : Own) (below : List Asked) → (ask_prio own below).shown ≡ first_of below
prio-shown own [] = refl
prio-shown own (a ∷ below) = by (prio-shown own below) a.shown refl
  where
    at : Option Descriptor → Option Descriptor
    at o = option_and_then (λ (x : Asked). x.shown) (slice_get (a ∷ below) (cond (not (is_some o)) (1 + Rattle.std.specs.List.position_or_len (λ (x : Asked). is_some x.shown) below) 0))

    by : (ask_prio own below).shown ≡ first_of below → (o : Option Descriptor) → a.shown ≡ o → (ask_prio own (a ∷ below)).shown ≡ or_else a.shown (first_of below)
    by others None e =
        ap at e
        ∙ ap (λ n. option_and_then (λ (x : Asked). x.shown) (slice_get (a ∷ below) n)) (next (Rattle.std.specs.List.position_or_len (λ (x : Asked). is_some x.shown) below))
        ∙ others ∙ sym (ap (λ (o : Option Descriptor). or_else o (first_of below)) e)
    by others (Some p) e = ap at e ∙ e ∙ sym (ap (λ (o : Option Descriptor). or_else o (first_of below)) e)

module _ (now t : ℕ) where
  pub nothing-shown : (o : Outlook) (shown : Option Descriptor) → Foresees now t o shown → o.at ≡ None → shown ≡ None
  nothing-shown o None h e = refl
  nothing-shown o (Some p) h e = let comes = h.early p refl in absurd (none-some comes.at (sym e ∙ comes.is))

  pub not-yet : (o : Outlook) (shown : Option Descriptor) (x : ℕ) → Foresees now t o shown → o.at ≡ Some x → t < x → shown ≡ None
  not-yet o None x h e before = refl
  not-yet o (Some p) x h e before =
      let comes = h.early p refl in
      let same : Some x ≡ Some comes.at = sym e ∙ comes.is in
      let is : x ≡ comes.at = cc in
      absurd (omega (arith, comes.past))

  before-either : (x : ℕ) (u : Option ℕ) → is_before (Some t) (sooner (Some x) u) ≡ true → (t < x) × (is_before (Some t) u ≡ true)
  before-either x None e = (ltb-true t x e, refl)
  before-either x (Some y) e = let lt = ltb-true t (min x y) e in (omega (arith, lt), lt-ltb t y (omega (arith, lt)))

  sooner-from : (x : ℕ) (u : Option ℕ) → now ≤ x → ((y : ℕ) → u ≡ Some y → now ≤ y) → (z : ℕ) → sooner (Some x) u ≡ Some z → now ≤ z
  sooner-from x None h k z e = let is : x ≡ z = cc in omega arith
  sooner-from x (Some y) h k z e = let is : min x y ≡ z = cc in let low = k y refl in omega (arith, low)

  module _ (a b : Outlook) (A B : Option Descriptor) (ha : Foresees now t a A) (hb : Foresees now t b B) where
    joined-foreseen : (x y : ℕ) → a.at ≡ Some x → b.at ≡ Some y → Foresees now t (joined a b x y) (or_else A B)
    joined-foreseen x y ex ey = elim (cases_Bool (nat_lt y x)) [
      | inl sooner_y ↦ subst (λ (o : Outlook). Foresees now t o (or_else A B))
          (sym (cond-true (nat_lt y x) (record b { least = min a.least b.least; until = sooner (Some x) b.until })
          (record a { least = min a.least b.least }) sooner_y)) (later-band (ltb-true y x sooner_y))
      | inr not_sooner ↦ subst (λ (o : Outlook). Foresees now t o (or_else A B))
          (sym (cond-false (nat_lt y x) (record b { least = min a.least b.least; until = sooner (Some x) b.until })
          (record a { least = min a.least b.least }) not_sooner)) (first-band (ltb-false y x not_sooner))
    ]
      where
        later-band : y < x → Foresees now t (record b { least = min a.least b.least; until = sooner (Some x) b.until }) (or_else A B)
        later-band lt = record {
          early = λ p e. elim (which A B p e) [
            | inl is ↦
                let comes = ha.early p is in
                let same : Some x ≡ Some comes.at = sym ex ∙ comes.is in
                let at : x ≡ comes.at = cc in
                record { at = y; is = ey; past = omega (arith, comes.past); long = omega (arith, comes.long) }
            | inr both ↦ let comes = hb.early p both.1 in record { at = comes.at; is = comes.is; past = comes.past; long = omega (arith, comes.long) }
          ];
          known = λ at e past ahead.
              let early = before-either x b.until ahead in
              let shows = hb.known at e past early.1 in
              record { packet = shows.packet; is = ap (λ (o : Option Descriptor). or_else o B) (not-yet a A x ha ex early.0) ∙ shows.is; len = shows.len };
          from = hb.from;
          until = sooner-from x b.until (ha.from x ex) hb.until;
        }

        first-band : x ≤ y → Foresees now t (record a { least = min a.least b.least }) (or_else A B)
        first-band le = record {
          early = λ p e. elim (which A B p e) [
            | inl is ↦ let comes = ha.early p is in record { at = comes.at; is = comes.is; past = comes.past; long = omega (arith, comes.long) }
            | inr both ↦
                let comes = hb.early p both.1 in
                let same : Some y ≡ Some comes.at = sym ey ∙ comes.is in
                let at : y ≡ comes.at = cc in
                record { at = x; is = ex; past = omega (arith, comes.past); long = omega (arith, comes.long) }
          ];
          known = λ at e past ahead.
              let shows = ha.known at e past ahead in
              record { packet = shows.packet; is = ap (λ (o : Option Descriptor). or_else o B) shows.is; len = shows.len };
          from = ha.from;
          until = ha.until;
        }

    with_band-foreseen : Foresees now t (with_band a b) (or_else A B)
    with_band-foreseen = by a.at refl
      where
        once : (x : ℕ) → a.at ≡ Some x → (y : Option ℕ) → b.at ≡ y → Foresees now t (with_next a b x y) (or_else A B)
        once x ex None ey = subst (Foresees now t a) (sym (or_none A) ∙ ap (or_else A) (sym (nothing-shown b B hb ey))) ha
        once x ex (Some y) ey = joined-foreseen x y ex ey

        by : (x : Option ℕ) → a.at ≡ x → Foresees now t (after_first a b x) (or_else A B)
        by None e = subst (Foresees now t b) (sym (ap (λ (o : Option Descriptor). or_else o B) (nothing-shown a A ha e))) hb
        by (Some x) e = once x e b.at refl

  abbrev AllForesee : List Outlook → List Asked → Type 0
  AllForesee [] [] = Unit {0}
  AllForesee [] (a ∷ below) = ⊥
  AllForesee (o ∷ outlooks) [] = ⊥
  AllForesee (o ∷ outlooks) (a ∷ below) = Foresees now t o a.shown × AllForesee outlooks below

  bands-foreseen : (o : Outlook) (shown : Option Descriptor) → Foresees now t o shown → (os : List Outlook) (below : List Asked) → AllForesee os below
      → Foresees now t (with_bands o os) (or_else shown (first_of below))
  bands-foreseen o shown h [] [] all = subst (Foresees now t o) (sym (or_none shown)) h
  bands-foreseen o shown h [] (a ∷ below) all = absurd all
  bands-foreseen o shown h (b ∷ os) [] all = absurd all
  bands-foreseen o shown h (b ∷ os) (a ∷ below) all =
      subst (Foresees now t (with_bands (with_band o b) os)) (or_or shown a.shown (first_of below))
      (bands-foreseen (with_band o b) (or_else shown a.shown) (with_band-foreseen o b shown a.shown h all.0) os below all.1)

  -- ---- a drr

  abbrev BothForesee : Option Outlook → Option Asked → Type 0
  BothForesee None None = Unit {0}
  BothForesee None (Some a) = ⊥
  BothForesee (Some o) None = ⊥
  BothForesee (Some o) (Some a) = Foresees now t o a.shown

  at-place : (os : List Outlook) (below : List Asked) → AllForesee os below → (i : ℕ) → BothForesee (slice_get os i) (slice_get below i)
  at-place [] [] all i = tt
  at-place [] (a ∷ below) all i = absurd all
  at-place (o ∷ os) [] all i = absurd all
  at-place (o ∷ os) (a ∷ below) all zero = all.0
  at-place (o ∷ os) (a ∷ below) all (suc i) = at-place os below all.1 i

  -- what a drr shows that shows nothing where its front class does, and that class's packet where its deficit covers it
  pub record Follows (deficit : ℕ) (front shown : Option Descriptor) : Type 0 where
    pub nothing : front ≡ None → shown ≡ None
    pub covered : (p : Descriptor) → front ≡ Some p → p.len ≤ deficit → shown ≡ Some p

  paid-foreseen : (deficit : ℕ) (o : Outlook) (front shown : Option Descriptor) → Foresees now t o front → Follows deficit front shown → Foresees now t (paid deficit o) shown
  paid-foreseen deficit o front shown h f = by o.len refl
    where
      comes : (p : Descriptor) → shown ≡ Some p → Comes t (at_best o.at 0) p
      comes p e = from front refl
        where
          from : (q : Option Descriptor) → front ≡ q → Comes t (at_best o.at 0) p
          from None hidden = absurd (none-some p (sym (f.nothing hidden) ∙ e))
          from (Some q) shows = let c = h.early q shows in record { at = c.at; is = c.is; past = c.past; long = omega arith }

      best : Foresees now t (at_best o.at 0) shown
      best = best-foreseen now t o.at 0 shown comes h.from

      pays : (len : ℕ) → o.len ≡ Some len → len ≤ deficit → Foresees now t (record o { least = 0 }) shown
      pays len e fits = record {
        early = λ p s. let c = comes p s in record { at = c.at; is = c.is; past = c.past; long = c.long };
        known = λ at is past ahead.
            let shows = h.known at is past ahead in
            let long = shows.len len e in
            record { packet = shows.packet; is = f.covered shows.packet shows.is (omega (arith, long)); len = shows.len };
        from = h.from;
        until = h.until;
      }

      by : (l : Option ℕ) → o.len ≡ l → Foresees now t (option_map_or (if_paid deficit o) l (at_best o.at 0)) shown
      by None e = best
      by (Some len) e = elim (cases_Bool (nat_le len deficit)) [
        | inl fits ↦ subst (λ (x : Outlook). Foresees now t x shown) (sym (cond-true (nat_le len deficit) (record o { least = 0 }) (at_best o.at 0) fits)) (pays len e (leb-true len deficit fits))
        | inr over ↦ subst (λ (x : Outlook). Foresees now t x shown) (sym (cond-false (nat_le len deficit) (record o { least = 0 }) (at_best o.at 0) over)) best
      ]

-- what a drr shows is what the class shows that is met
pub met-shown : (own : Own) (s : Schedule) (below : List Asked)
    → (ask_drr own below s).shown ≡ option_and_then (λ (a : Asked). a.shown) (option_and_then (slice_get below) (place_met s below))
met-shown own s below = by (place_met s below)
  where
    v : Service
    v = service_of s below

    nothing : Asked
    nothing = gives_nothing own below v

    shows : (i : ℕ) (a : Asked) (o : Option Descriptor) → (option_map_or (class_gives own below v i a) o nothing).shown ≡ o
    shows i a None = refl
    shows i a (Some p) = refl

    child : (i : ℕ) (o : Option Asked) → (option_map_or (class_serves own below v i) o nothing).shown ≡ option_and_then (λ (a : Asked). a.shown) o
    child i None = refl
    child i (Some a) = shows i a a.shown

    by : (o : Option ℕ) → (option_map_or (λ i. option_map_or (class_serves own below v i) (slice_get below i) nothing) o nothing).shown
        ≡ option_and_then (λ (a : Asked). a.shown) (option_and_then (slice_get below) o)
    by None = refl
    by (Some i) = child i (slice_get below i)

abbrev pub front_shown : Schedule → List Asked → Entry → Option Descriptor
front_shown s below e = option_and_then (λ (a : Asked). a.shown) (class_answer s below e.class)

head-is : (o : Option Asked) → option_and_then length_of o ≡ option_map (λ (p : Descriptor). p.len) (option_and_then (λ (a : Asked). a.shown) o)
head-is None = refl
head-is (Some a) = refl

module _ (own : Own) (s : Schedule) (below : List Asked) (lawful : IsLawful s) where
  pub asleep-shown : s.active ≡ [] → (ask_drr own below s).shown ≡ None
  asleep-shown idle =
      met-shown own s below
      ∙ ap (λ (es : List Entry). option_and_then (λ (a : Asked). a.shown) (option_and_then (slice_get below) (option_and_then (λ (m : Met). class_at m.class s) (met_in (head_of s below) es))))
      (ap (λ (x : Schedule). x.active) (prepared_empty (head_of s below) s lawful idle) ∙ idle)

  module _ (e : Entry) (rest : List Entry) (is : s.active ≡ e ∷ rest) where
    abbrev front : Front e.class s
    front = record { first = e; rest = rest; is = is; class = refl }

    front-met : (h : Option ℕ) → head_of s below e.class ≡ h → ((len : ℕ) → h ≡ Some len → len ≤ e.deficit) → (ask_drr own below s).shown ≡ front_shown s below e
    front-met h head covers =
        let ready = prepared_ready (head_of s below) s e.class front lawful (need_at (head_of s below) s e.class front h head covers) in
        met-shown own s below
        ∙ ap (λ (es : List Entry). option_and_then (λ (a : Asked). a.shown) (option_and_then (slice_get below) (option_and_then (λ (m : Met). class_at m.class s) (met_in (head_of s below) es))))
        (ap (λ (x : Schedule). x.active) ready ∙ is)

    head-front : head_of s below e.class ≡ option_map (λ (p : Descriptor). p.len) (front_shown s below e)
    head-front = head-is (class_answer s below e.class)

    pub follows : (now t : ℕ) → Follows now t e.deficit (front_shown s below e) (ask_drr own below s).shown
    follows now t = record {
      nothing = λ hidden. front-met None (head-front ∙ ap (option_map (λ (p : Descriptor). p.len)) hidden) (λ len some. absurd (none-some len some)) ∙ hidden;
      covered = λ p some fits. front-met (Some p.len) (head-front ∙ ap (option_map (λ (p : Descriptor). p.len)) some) (λ len same. let is : p.len ≡ len = cc in omega arith) ∙ some;
    }

pub drr-foreseen : (now t : ℕ) (own : Own) (s : Schedule) (os : List Outlook) (below : List Asked) → IsLawful s → AllForesee now t os below
    → Foresees now t (of_class s os (slice_get s.active 0)) (ask_drr own below s).shown
drr-foreseen now t own s os below lawful all = by s.active refl
  where
    child : (e : Entry) (o : Option Outlook) (a : Option Asked) → BothForesee now t o a → Follows now t e.deficit (option_and_then (λ (x : Asked). x.shown) a) (ask_drr own below s).shown
        → Foresees now t (option_map_or (paid e.deficit) o no_packet) (ask_drr own below s).shown
    child e None None both f = subst (Foresees now t no_packet) (sym (f.nothing refl)) (no_packet-foreseen now t)
    child e None (Some a) both f = absurd both
    child e (Some o) None both f = absurd both
    child e (Some o) (Some a) both f = paid-foreseen now t e.deficit o a.shown (ask_drr own below s).shown both f

    place : (i : Option ℕ) → BothForesee now t (option_and_then (slice_get os) i) (option_and_then (slice_get below) i)
    place None = tt
    place (Some i) = at-place now t os below all i

    by : (es : List Entry) → s.active ≡ es → Foresees now t (of_class s os (slice_get es 0)) (ask_drr own below s).shown
    by [] idle = subst (Foresees now t no_packet) (sym (asleep-shown own s below lawful idle)) (no_packet-foreseen now t)
    by (e ∷ rest) is =
        child e (option_and_then (slice_get os) (class_at e.class s)) (option_and_then (slice_get below) (class_at e.class s)) (place (class_at e.class s))
        (follows own s below lawful e rest is now t)

-- ---- a tbf, a fifo and an fq_codel

pub tbf-shown : (t : ℕ) (own : Own) (a : Asked) (below : List Asked) (b : TokenBucket) (limit : ℕ) → (ask_tbf t own (a ∷ below) b limit).shown ≡ through b t a.shown
tbf-shown t own a below b limit = by a.shown
  where
    may : (p : Descriptor) (ok : Bool) → (if ok then spends own (a ∷ below) b limit t a p else waits own (a ∷ below) a).shown ≡ (if ok then Some p else None)
    may p true = refl
    may p false = refl

    by : (o : Option Descriptor)
        → (option_map_or (λ (p : Descriptor). if allows b t p.len then spends own (a ∷ below) b limit t a p else waits own (a ∷ below) a) o (waits own (a ∷ below) a)).shown ≡ through b t o
    by None = refl
    by (Some p) = may p (allows b t p.len)

fifo-foreseen : (now t : ℕ) (o : Option Descriptor) → now ≤ t → Foresees now t (of_fifo now o) o
fifo-foreseen now t None h = no_packet-foreseen now t
fifo-foreseen now t (Some p) h = hand-foreseen now t p h

flows-foreseen : (now t packets : ℕ) (shown : Option Descriptor) → now ≤ t → (packets ≡ 0 → shown ≡ None) → Foresees now t (of_flows now packets) shown
flows-foreseen now t packets shown h silent = elim (cases_Bool (packets == 0)) [
  | inl idle ↦
      subst (λ (o : Outlook). Foresees now t o shown) (sym (cond-true (packets == 0) no_packet (at_best (Some now) 0) idle))
      (subst (Foresees now t no_packet) (sym (silent (eqb-true packets 0 idle))) (no_packet-foreseen now t))
  | inr busy ↦
      subst (λ (o : Outlook). Foresees now t o shown) (sym (cond-false (packets == 0) no_packet (at_best (Some now) 0) busy))
      (best-foreseen now t (Some now) 0 shown (λ p e. record { at = now; is = refl; past = h; long = omega arith }) (λ x e. let is : now ≡ x = cc in omega arith))
]

-- ---- a whole tree

nothing-left : (shown : Option Descriptor) → weigh one (option_to_list shown) ≡ 0 → shown ≡ None
nothing-left None e = refl
nothing-left (Some p) e = absurd (omega (arith, e, weigh-cons one p []))

module _ (mtu now t : ℕ) (least : 1 ≤ mtu) (low : t ≤ 2 ^ 62) (order : now ≤ t) where
  silent : (n : Shape) → IsLawfulRoot mtu t n → beneath n ≡ [] → (ask t n).shown ≡ None
  silent n lawful empty =
      let h = ask-answers mtu t least low n lawful in
      let before : weigh one (beneath (ask t n).before) ≡ 0 =
      ap (λ x. weigh one (beneath x)) (before-root t n) ∙ ap (λ ps. weigh one (beneath_own n.own ps)) (each-each_memory beneath_own (λ u. []) n.below)
      ∙ ap (weigh one) empty ∙ weigh-nil one in
      nothing-left (ask t n).shown (omega (arith, h.peeks one, h.gives one, before))

  own-foreseen : (handle : Option ℕ) (filters : List Filter) (since : ℕ) (held : Option Descriptor) (d : Discipline) (os : List Outlook) (below : List Asked) (packets : List (List Descriptor))
      → (let own : Own = record { handle = handle; discipline = d; held = held; since = since; filters = filters } in
      IsLawfulOwn mtu t own packets → (beneath_own own packets ≡ [] → (ask_own t own below).shown ≡ None) → AllForesee now t os below
      → Foresees now t (outlook_own now own os) (ask_own t own below).shown)
  own-foreseen handle filters since (Some p) d os below packets h quiet all = hand-foreseen now t p order
  own-foreseen handle filters since None (Fifo limit queue) os below packets h quiet all = fifo-foreseen now t (slice_get (packets_of queue) 0) order
  own-foreseen handle filters since None (Prio priomap) os below packets h quiet all =
      subst (Foresees now t (with_bands no_packet os)) (sym (prio-shown (record { handle = handle; discipline = Prio priomap; held = None; since = since; filters = filters }) below))
      (bands-foreseen now t no_packet None (no_packet-foreseen now t) os below all)
  own-foreseen handle filters since None (Tbf b limit) [] [] packets h quiet all = no_packet-foreseen now t
  own-foreseen handle filters since None (Tbf b limit) [] (a ∷ below) packets h quiet all = absurd all
  own-foreseen handle filters since None (Tbf b limit) (o ∷ os) [] packets h quiet all = absurd all
  own-foreseen handle filters since None (Tbf b limit) (o ∷ os) (a ∷ below) packets h quiet all =
      subst (Foresees now t (shaped b o)) (sym (tbf-shown t (record { handle = handle; discipline = Tbf b limit; held = None; since = since; filters = filters }) a below b limit))
      (shaped-foreseen now t b h.discipline.level h.discipline.last low o a.shown all.0)
  own-foreseen handle filters since None (Drr s) os below packets h quiet all =
      drr-foreseen now t (record { handle = handle; discipline = Drr s; held = None; since = since; filters = filters }) s os below h.discipline.schedule all
  own-foreseen handle filters since None (FqCodel s) os below packets h quiet all =
      let own : Own = record { handle = handle; discipline = FqCodel s; held = None; since = since; filters = filters } in
      flows-foreseen now t (fq.packets_of s.flows) (ask_own t own below).shown order
      (λ idle. quiet (ap (λ ps. beneath_own own ps) h.discipline.none ∙ ap (λ (queue : List Stamped). packets_of queue ++ [])
      (nil_from_length (fq.all_packets s.flows) (sym (count-sum (fq.all_packets s.flows)) ∙ sym (packets-all s.flows) ∙ idle))))

  pub forest-foreseen : (x : Forest (Unit {0})) → AllLawful mtu t x → AllForesee now t (each (outlook_own now) x) (each (ask_own t) x)
  forest-foreseen none h = tt
  forest-foreseen (more own m below others) h = (
    own-foreseen own.handle own.filters own.since own.held own.discipline (each (outlook_own now) below) (each (ask_own t) below) (each beneath_own below) h.0
        (silent (record { own = own; memory = m; below = below }) (h.0, h.1)) (forest-foreseen below h.1),
    forest-foreseen others h.2,
  )

  pub foreseen : {M : Type 0} (n : Node M) → IsLawfulRoot mtu t n → Foresees now t (outlook now n) (ask t (shape n)).shown
  foreseen n lawful =
      let h = lawful-with_memory mtu t (λ m. tt) n lawful in
      subst (λ (o : Outlook). Foresees now t o (ask t (shape n)).shown) (ap (outlook_own now n.own) (each-each_memory (outlook_own now) (λ m. tt) n.below))
      (own-foreseen n.own.handle n.own.filters n.own.since n.own.held n.own.discipline (each (outlook_own now) (shape n).below)
      (each (ask_own t) (shape n).below) (each beneath_own (shape n).below) h.0
      (silent (shape n) h) (forest-foreseen (shape n).below h.1))
