-- What is known of a node before it is asked, against what it shows when it is: a packet at hand, a tbf, a prio and a drr.
use Rattle.std.proofs.Common.{◌≡◌, ℕ, ◌+◌, ◌-◌, ◌*◌, ◌<◌, ◌≤◌, ◌^◌, ◌∙◌, refl, sym, ap, subst, arith, inl, inr, Option, Some, None}
use Rattle.std.specs.Prelude.{true, false, max, nat_lt, nat_le, if◌then◌else◌}
use Rattle.std.specs.Int.{div_ceil}
use Rattle.std.specs.Option.{option_map_or}
use Rattle.std.proofs.Math.Nat.{mul-add, mul-le-mul_left, mul_comm}
use Rattle.std.proofs.lemmas.Grind.{div_ceil_times}
use Rattle.std.proofs.lemmas.Bool.{cases_Bool, cases_lt, cond-true, cond-false, leb-true, le-leb, lt-ltb, ltb-true, ltb-false, le-ltb, false≢true}
use Rattle.std.proofs.lemmas.Option.{none-some}
use Rattle.q_packet.specs.Descriptor.{Descriptor}
use Rattle.q_bucket.specs.Level.{TokenBucket, IsInRange, units_in_byte, level_at, allows}
use Rattle.q_tree.specs.answers.ReadyAt.{later, is_before, no_packet, at_hand, at_best, covers_at, moment_at, shaped_after, shaped_known, shaped}
use Rattle.q_tree.specs.declared.answers.ready_at.Outlook.{Outlook}

-- what a packet that is shown at a moment says of what was known
pub record Comes (t : ℕ) (o : Outlook) (p : Descriptor) : Type 0 where
  pub at : ℕ
  pub is : o.at ≡ Some at
  pub past : at ≤ t
  pub long : o.least ≤ p.len

-- a packet of the length that was known
pub record Shows (o : Outlook) (shown : Option Descriptor) : Type 0 where
  pub packet : Descriptor
  pub is : shown ≡ Some packet
  pub len : (n : ℕ) → o.len ≡ Some n → packet.len ≡ n

-- what is shown at a moment is as was foreseen
pub record Foresees (now t : ℕ) (o : Outlook) (shown : Option Descriptor) : Type 0 where
  pub early : (p : Descriptor) → shown ≡ Some p → Comes t o p
  pub known : (at : ℕ) → o.at ≡ Some at → at ≤ t → is_before (Some t) o.until ≡ true → Shows o shown
  pub from : (at : ℕ) → o.at ≡ Some at → now ≤ at
  pub until : (u : ℕ) → o.until ≡ Some u → now ≤ u

-- ---- moments

ended : (t : ℕ) (u : Option ℕ) → is_before (Some t) u ≡ false → (x : ℕ) × (u ≡ Some x) × (x ≤ t)
ended t None h = absurd (false≢true (sym h))
ended t (Some x) h = (x, refl, ltb-false t x h)

pub no_packet-foreseen : (now t : ℕ) → Foresees now t no_packet None
no_packet-foreseen now t = record {
  early = λ p e. absurd (none-some p e);
  known = λ at e past ahead. absurd (none-some at e);
  from = λ at e. absurd (none-some at e);
  until = λ u e. absurd (none-some u e);
}

pub hand-foreseen : (now t : ℕ) (p : Descriptor) → now ≤ t → Foresees now t (at_hand now p.len) (Some p)
hand-foreseen now t p h = record {
  early = λ q e. let same : p ≡ q = cc in record { at = now; is = refl; past = h; long = subst (λ (x : Descriptor). p.len ≤ x.len) same (omega arith) };
  known = λ at e past ahead. record { packet = p; is = refl; len = λ n e. cc };
  from = λ at e. let same : now ≡ at = cc in omega arith;
  until = λ u e. absurd (none-some u e);
}

not-ahead : (t a : ℕ) (u : Option ℕ) → u ≡ Some a → a ≤ t → is_before (Some t) u ≡ true → ⊥
not-ahead t a u e past ahead = let lt : nat_lt t a ≡ true = sym (ap (is_before (Some t)) e) ∙ ahead in omega (arith, ltb-true t a lt)

pub best-foreseen : (now t : ℕ) (at : Option ℕ) (least : ℕ) (shown : Option Descriptor) → ((p : Descriptor) → shown ≡ Some p → Comes t (at_best at least) p)
    → ((x : ℕ) → at ≡ Some x → now ≤ x) → Foresees now t (at_best at least) shown
best-foreseen now t at least shown early from = record {
  early = early;
  known = λ a e past ahead. absurd (not-ahead t a at e past ahead);
  from = from;
  until = from;
}

later-some : (a b : Option ℕ) (x y : ℕ) → a ≡ Some x → b ≡ Some y → later a b ≡ Some (max x y)
later-some a b x y e f = ap (λ (o : Option ℕ). later o b) e ∙ ap (later (Some x)) f

later-of : (a b : Option ℕ) (z : ℕ) → later a b ≡ Some z → (x : ℕ) × (y : ℕ) × (a ≡ Some x) × (b ≡ Some y) × (z ≡ max x y)
later-of None b z e = absurd (none-some z e)
later-of (Some x) None z e = absurd (none-some z e)
later-of (Some x) (Some y) z e = (x, y, refl, refl, cc)

-- ---- when a bucket covers a length

abbrev lack : TokenBucket → ℕ → ℕ
lack b len = len * units_in_byte - b.level

abbrev wait : TokenBucket → ℕ → ℕ
wait b len = div_ceil (lack b len) b.rate

wait-enough : (b : TokenBucket) (len k : ℕ) → 1 ≤ b.rate → wait b len ≤ k → lack b len ≤ b.rate * k
wait-enough b len k one h =
    let bound = (div_ceil_times (lack b len) b.rate (omega arith)).0 in
    let more : b.rate * wait b len ≤ b.rate * k = mul-le-mul_left b.rate h in
    let turned = mul_comm (wait b len) b.rate in
    omega (arith, bound, more, turned)

wait-least : (b : TokenBucket) (len k : ℕ) → 1 ≤ b.rate → lack b len ≤ b.rate * k → wait b len ≤ k
wait-least b len k one h = elim (cases_lt k (wait b len)) [
  | inl less ↦
      let bound = (div_ceil_times (lack b len) b.rate (omega arith)).1 in
      let more : b.rate * (k + 1) ≤ b.rate * wait b len = mul-le-mul_left b.rate (omega arith) in
      let split = mul-add b.rate k 1 in
      let turned = mul_comm (wait b len) b.rate in
      omega (arith, bound, more, split, turned)
  | inr done ↦ done
]

pub covers-some : (b : TokenBucket) (len c : ℕ) → covers_at b len ≡ Some c → (len ≤ b.burst) × (c ≡ b.last + wait b len) × (c ≤ 2 ^ 62)
covers-some b len c e = elim (cases_Bool (nat_lt b.burst len)) [
  | inl over ↦ absurd (none-some c (sym (cond-true (nat_lt b.burst len) None (moment_at (b.last + wait b len)) over) ∙ e))
  | inr fits ↦
      let at : moment_at (b.last + wait b len) ≡ Some c = sym (cond-false (nat_lt b.burst len) None (moment_at (b.last + wait b len)) fits) ∙ e in
      elim (cases_Bool (nat_le (b.last + wait b len) (2 ^ 62))) [
        | inl low ↦
            let same : Some (b.last + wait b len) ≡ Some c = sym (cond-true (nat_le (b.last + wait b len) (2 ^ 62)) (Some (b.last + wait b len)) None low) ∙ at in
            let is : b.last + wait b len ≡ c = cc in
            (ltb-false b.burst len fits, sym is, omega (arith, leb-true (b.last + wait b len) (2 ^ 62) low))
        | inr high ↦ absurd (none-some c (sym (cond-false (nat_le (b.last + wait b len) (2 ^ 62)) (Some (b.last + wait b len)) None high) ∙ at))
      ]
]

pub covers-is : (b : TokenBucket) (len : ℕ) → len ≤ b.burst → b.last + wait b len ≤ 2 ^ 62 → covers_at b len ≡ Some (b.last + wait b len)
covers-is b len fits low =
    cond-false (nat_lt b.burst len) None (moment_at (b.last + wait b len)) (le-ltb b.burst len fits)
    ∙ cond-true (nat_le (b.last + wait b len) (2 ^ 62)) (Some (b.last + wait b len)) None (le-leb (b.last + wait b len) (2 ^ 62) low)

pub record Covers (t : ℕ) (o : Option ℕ) : Type 0 where
  pub at : ℕ
  pub is : o ≡ Some at
  pub past : at ≤ t

-- a length that may go is covered from some moment on, and one that is covered may go
pub covered : (b : TokenBucket) (t len : ℕ) → IsInRange b → b.last ≤ t → t ≤ 2 ^ 62 → allows b t len ≡ true → Covers t (covers_at b len)
covered b t len range order low may =
    let fits = leb-true (len * units_in_byte) (level_at b t) may in
    let least : wait b len ≤ t - b.last = wait-least b len (t - b.last) range.rate_from (omega (arith, fits)) in
    record { at = b.last + wait b len; is = covers-is b len (omega (arith, fits)) (omega (arith, least)); past = omega (arith, least) }

pub lets-go : (b : TokenBucket) (t len c : ℕ) → IsInRange b → covers_at b len ≡ Some c → c ≤ t → allows b t len ≡ true
lets-go b t len c range e past =
    let some = covers-some b len c e in
    let burst = some.0 in
    let is = some.1 in
    let enough : lack b len ≤ b.rate * (t - b.last) = wait-enough b len (t - b.last) range.rate_from (omega (arith, is)) in
    le-leb (len * units_in_byte) (level_at b t) (omega (arith, enough, burst))

-- what may go of a length may go of a shorter one
shorter-goes : (b : TokenBucket) (t len short : ℕ) → short ≤ len → allows b t len ≡ true → allows b t short ≡ true
shorter-goes b t len short h may = le-leb (short * units_in_byte) (level_at b t) (omega (arith, leb-true (len * units_in_byte) (level_at b t) may))

-- the least moment at which a length may go is where it is covered from
pub covers-found : (b : TokenBucket) (len x : ℕ) → IsInRange b → b.last ≤ x → x ≤ 2 ^ 62 → allows b x len ≡ true
    → ((t : ℕ) → b.last ≤ t → t < x → allows b t len ≡ false) → Some x ≡ covers_at b len
covers-found b len x range from low may least =
    let c = covered b x len range from low may in
    let is = (covers-some b len c.at c.is).1 in
    elim (cases_lt c.at x) [
      | inl less ↦ absurd (false≢true (sym (least c.at (omega (arith, is)) less) ∙ lets-go b c.at len c.at range c.is (omega arith)))
      | inr same ↦ let e : x ≡ c.at = omega (arith, c.past) in ap Some e ∙ sym c.is
    ]

pub covers-none : (b : TokenBucket) (len : ℕ) → IsInRange b → ((t : ℕ) → b.last ≤ t → t ≤ 2 ^ 62 → allows b t len ≡ false) → None ≡ covers_at b len
covers-none b len range never = by (covers_at b len) refl
  where
    by : (o : Option ℕ) → covers_at b len ≡ o → None ≡ o
    by None e = refl
    by (Some c) e =
        let some = covers-some b len c e in
        let is = some.1 in
        let low = some.2 in
        absurd (false≢true (sym (never c (omega (arith, is)) low) ∙ lets-go b c len c range e (omega arith)))

-- ---- a tbf

abbrev pub through : TokenBucket → ℕ → Option Descriptor → Option Descriptor
through b t shown = option_map_or (λ (p : Descriptor). if allows b t p.len then Some p else None) shown None

pub record Goes (b : TokenBucket) (t : ℕ) (shown : Option Descriptor) (p : Descriptor) : Type 0 where
  pub is : shown ≡ Some p
  pub may : allows b t p.len ≡ true

goes : (b : TokenBucket) (t : ℕ) (shown : Option Descriptor) (p : Descriptor) → through b t shown ≡ Some p → Goes b t shown p
goes b t None p e = absurd (none-some p e)
goes b t (Some q) p e = elim (cases_Bool (allows b t q.len)) [
  | inl may ↦
      let same : Some q ≡ Some p = sym (cond-true (allows b t q.len) (Some q) None may) ∙ e in
      let is : q ≡ p = cc in
      record { is = same; may = subst (λ (x : Descriptor). allows b t x.len ≡ true) is may }
  | inr stays ↦ absurd (none-some p (sym (cond-false (allows b t q.len) (Some q) None stays) ∙ e))
]

lets : (b : TokenBucket) (t : ℕ) (shown : Option Descriptor) (p : Descriptor) → shown ≡ Some p → allows b t p.len ≡ true → through b t shown ≡ Some p
lets b t shown p e may = ap (through b t) e ∙ cond-true (allows b t p.len) (Some p) None may

module _ (now t : ℕ) (b : TokenBucket) (range : IsInRange b) (order : b.last ≤ t) (low : t ≤ 2 ^ 62) (o : Outlook) (shown : Option Descriptor) (h : Foresees now t o shown) where
  -- where nothing goes before this moment
  shaped_after-foreseen : (from : Option ℕ) → ((p : Descriptor) → through b t shown ≡ Some p → Covers t from) → ((x : ℕ) → from ≡ Some x → now ≤ x)
      → Foresees now t (shaped_after b o from) (through b t shown)
  shaped_after-foreseen from begun ge =
      best-foreseen now t (later from (covers_at b o.least)) o.least (through b t shown)
      (λ p e.
      let g = goes b t shown p e in
      let comes = h.early p g.is in
      let f = begun p e in
      let c = covered b t o.least range order low (shorter-goes b t p.len o.least comes.long g.may) in
      record { at = max f.at c.at; is = later-some from (covers_at b o.least) f.at c.at f.is c.is; past = omega (arith, f.past, c.past); long = comes.long })
      (λ x e. let parts = later-of from (covers_at b o.least) x e in let y = ge parts.0 parts.2 in omega (arith, y, parts.4))

  shaped_known-foreseen : (len : ℕ) (at : Option ℕ) → o.len ≡ Some len → at ≡ later o.at (covers_at b len) → Foresees now t (shaped_known b o at) (through b t shown)
  shaped_known-foreseen len at known is = elim (cases_Bool (is_before at o.until)) [
    | inl before ↦ subst (λ (x : Outlook). Foresees now t x (through b t shown)) (sym (cond-true (is_before at o.until) (record o { at = at }) (shaped_after b o o.until) before)) (in-time before)
    | inr over ↦ subst (λ (x : Outlook). Foresees now t x (through b t shown)) (sym (cond-false (is_before at o.until) (record o { at = at }) (shaped_after b o o.until) over)) (too-late over)
  ]
    where
      -- what goes while the length is known goes once that is covered
      while-ahead : (p : Descriptor) → through b t shown ≡ Some p → is_before (Some t) o.until ≡ true → Covers t at
      while-ahead p e ahead =
          let g = goes b t shown p e in
          let comes = h.early p g.is in
          let shows = h.known comes.at comes.is comes.past ahead in
          let same : shows.packet ≡ p = cc (shows.is, g.is) in
          let long : p.len ≡ len = sym (ap (λ (x : Descriptor). x.len) same) ∙ shows.len len known in
          let c = covered b t len range order low (subst (λ n. allows b t n ≡ true) long g.may) in
          record { at = max comes.at c.at; is = is ∙ later-some o.at (covers_at b len) comes.at c.at comes.is c.is; past = omega (arith, comes.past, c.past) }

      some-at : is_before at o.until ≡ true → (x : ℕ) × (at ≡ Some x)
      some-at before = by at refl before
        where
          by : (a : Option ℕ) → at ≡ a → is_before a o.until ≡ true → (x : ℕ) × (at ≡ Some x)
          by None e h = absurd (false≢true h)
          by (Some x) e h = (x, e)

      at-from : (x : ℕ) → at ≡ Some x → now ≤ x
      at-from x e = let parts = later-of o.at (covers_at b len) x (sym is ∙ e) in let y = h.from parts.0 parts.2 in omega (arith, y, parts.4)

      in-time : is_before at o.until ≡ true → Foresees now t (record o { at = at }) (through b t shown)
      in-time before = record {
        early = λ p e.
            let g = goes b t shown p e in
            let comes = h.early p g.is in
            elim (cases_Bool (is_before (Some t) o.until)) [
              | inl ahead ↦ let w = while-ahead p e ahead in record { at = w.at; is = w.is; past = w.past; long = comes.long }
              | inr closed ↦
                  let end = ended t o.until closed in
                  let k = some-at before in
                  let lt : nat_lt k.0 end.0 ≡ true = sym (ap (is_before (Some k.0)) end.1) ∙ sym (ap (λ (a : Option ℕ). is_before a o.until) k.1) ∙ before in
                  let early = ltb-true k.0 end.0 lt in
                  let past = end.2 in
                  record { at = k.0; is = k.1; past = omega (arith, early, past); long = comes.long }
            ];
        known = λ k e past ahead.
            let parts = later-of o.at (covers_at b len) k (sym is ∙ e) in
            let shows = h.known parts.0 parts.2 (omega (arith, past, parts.4)) ahead in
            let may = subst (λ n. allows b t n ≡ true) (sym (shows.len len known)) (lets-go b t len parts.1 range parts.3 (omega (arith, past, parts.4))) in
            record { packet = shows.packet; is = lets b t shown shows.packet shows.is may; len = shows.len };
        from = at-from;
        until = h.until;
      }

      too-late : is_before at o.until ≡ false → Foresees now t (shaped_after b o o.until) (through b t shown)
      too-late over = shaped_after-foreseen o.until
          (λ p e. elim (cases_Bool (is_before (Some t) o.until)) [
            | inl ahead ↦
                let w = while-ahead p e ahead in
                let past = w.past in
                absurd (false≢true (sym over ∙ ap (λ (a : Option ℕ). is_before a o.until) w.is ∙ sooner-before w.at o.until past ahead))
            | inr closed ↦ let end = ended t o.until closed in record { at = end.0; is = end.1; past = end.2 }
          ]) h.until
        where
          sooner-before : (k : ℕ) (u : Option ℕ) → k ≤ t → is_before (Some t) u ≡ true → is_before (Some k) u ≡ true
          sooner-before k None past ahead = refl
          sooner-before k (Some x) past ahead = let lt = ltb-true t x ahead in lt-ltb k x (omega (arith, lt, past))

  pub shaped-foreseen : Foresees now t (shaped b o) (through b t shown)
  shaped-foreseen = by o.len refl
    where
      by : (l : Option ℕ) → o.len ≡ l → Foresees now t (option_map_or (λ len. shaped_known b o (later o.at (covers_at b len))) l (shaped_after b o o.at)) (through b t shown)
      by None e = shaped_after-foreseen o.at (λ p e. let comes = h.early p (goes b t shown p e).is in record { at = comes.at; is = comes.is; past = comes.past }) h.from
      by (Some len) e = shaped_known-foreseen len (later o.at (covers_at b len)) e refl
