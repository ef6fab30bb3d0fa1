-- What is known of a node, against what is known of it at a later moment: its packet comes no sooner, and what was sure is so still.
use Rattle.std.proofs.Common.{◌≡◌, ℕ, ◌*◌, ◌<◌, ◌≤◌, ◌∙◌, ◌⊎◌, refl, sym, ap, subst, arith, inl, inr, Option, Some, None}
use Rattle.std.specs.Prelude.{true, false, max, min}
use Rattle.std.specs.Option.{option_map_or}
use Rattle.std.proofs.lemmas.Bool.{cases_Bool, cases_lt, cond-true, cond-false, leb-true, le-leb, lt-ltb, ltb-true, ltb-false, false≢true}
use Rattle.std.proofs.lemmas.Option.{none-some}
use Rattle.q_packet.specs.Descriptor.{Descriptor}
use Rattle.q_bucket.specs.Level.{TokenBucket, IsInRange, units_in_byte, level_at}
use Rattle.q_tree.specs.answers.ReadyAt.{later, is_before, sooner, no_packet, at_hand, at_best, covers_at, shaped_after, shaped_known, shaped}
use Rattle.q_tree.proofs.Foreseeing.{Foresees, Covers, covered, covers-some, lets-go}

-- what is known of a node, as q_tree has it
abbrev result_of : {A B C : Type 0} → (A → B → C) → Type 0
result_of {A} {B} {C} f = C

abbrev pub Outlook : Type 0
Outlook = result_of at_best

-- it may show a packet at this moment, and for sure one of the length that is known
pub record IsOpen (y : ℕ) (o : Outlook) : Type 0 where
  pub at : Covers y o.at
  pub ahead : is_before (Some y) o.until ≡ true

pub record Stays (y : ℕ) (o p : Outlook) : Type 0 where
  pub there : IsOpen y p
  pub len : (n : ℕ) → o.len ≡ Some n → p.len ≡ Some n

-- what is known at a moment is of no moment before it
pub record Formed (t : ℕ) (o : Outlook) : Type 0 where
  pub from : (y : ℕ) → Covers y o.at → t ≤ y
  pub until : (y : ℕ) → Covers y o.until → Covers y o.at
  pub short : (n : ℕ) → o.len ≡ Some n → o.least ≤ n

-- what is known at t is as good as what was known before
pub record Renews (t : ℕ) (o p : Outlook) : Type 0 where
  pub formed : Formed t p
  pub at : (y : ℕ) → Covers y p.at → Covers y o.at
  pub least : (y : ℕ) → Covers y p.at → o.least ≤ p.least
  pub known : (y : ℕ) → t ≤ y → IsOpen y o → Stays y o p

-- ---- moments

pub never : (y : ℕ) (o : Option ℕ) → o ≡ None → Covers y o → ⊥
never y o e c = none-some c.at (sym e ∙ c.is)

pub covers-in : (x y : ℕ) (o : Option ℕ) → o ≡ Some x → Covers y o → x ≤ y
covers-in x y o e c = let same : Some x ≡ Some c.at = sym e ∙ c.is in let is : x ≡ c.at = cc in omega (arith, c.past)

pub covers-late : (x y : ℕ) (o : Option ℕ) → x ≤ y → Covers x o → Covers y o
covers-late x y o h c = record { at = c.at; is = c.is; past = omega (arith, c.past) }

both-cover : (y : ℕ) (a b : Option ℕ) → Covers y a → Covers y b → Covers y (later a b)
both-cover y None b c d = absurd (never y None refl c)
both-cover y (Some x) None c d = absurd (never y None refl d)
both-cover y (Some x) (Some z) c d = let low = covers-in x y (Some x) refl c in let high = covers-in z y (Some z) refl d in record { at = max x z; is = refl; past = omega arith }

later-covers : (y : ℕ) (a b : Option ℕ) → Covers y (later a b) → Covers y a × Covers y b
later-covers y None b c = absurd (never y None refl c)
later-covers y (Some x) None c = absurd (never y None refl c)
later-covers y (Some x) (Some z) c =
    let past = covers-in (max x z) y (Some (max x z)) refl c in
    (record { at = x; is = refl; past = omega arith }, record { at = z; is = refl; past = omega arith })

pub not-past : (y : ℕ) (u : Option ℕ) → is_before (Some y) u ≡ true → Covers y u → ⊥
not-past y None h c = never y None refl c
not-past y (Some x) h c = let low = covers-in x y (Some x) refl c in omega (arith, ltb-true y x h)

closed : (y : ℕ) (u : Option ℕ) → is_before (Some y) u ≡ false → Covers y u
closed y None h = absurd (false≢true (sym h))
closed y (Some x) h = record { at = x; is = refl; past = ltb-false y x h }

-- what comes by y comes before what is ahead of y; and where it does so, it comes by each moment by which the other does
pub comes-before : (y : ℕ) (x u : Option ℕ) → Covers y x → is_before (Some y) u ≡ true → is_before x u ≡ true
comes-before y None u c h = absurd (never y None refl c)
comes-before y (Some x) None c h = refl
comes-before y (Some x) (Some z) c h = let low = covers-in x y (Some x) refl c in lt-ltb x z (omega (arith, ltb-true y z h))

before-covers : (y : ℕ) (x u : Option ℕ) → is_before x u ≡ true → Covers y u → Covers y x
before-covers y None u h c = absurd (false≢true h)
before-covers y (Some x) None h c = absurd (never y None refl c)
before-covers y (Some x) (Some z) h c = let low = covers-in z y (Some z) refl c in record { at = x; is = refl; past = omega (arith, ltb-true x z h) }

pub sooner-ahead : (x y : ℕ) (u : Option ℕ) → is_before (Some y) (sooner (Some x) u) ≡ true → (y < x) × (is_before (Some y) u ≡ true)
sooner-ahead x y None e = (ltb-true y x e, refl)
sooner-ahead x y (Some z) e = let lt = ltb-true y (min x z) e in (omega (arith, lt), lt-ltb y z (omega (arith, lt)))

pub ahead-sooner : (x y : ℕ) (u : Option ℕ) → y < x → is_before (Some y) u ≡ true → is_before (Some y) (sooner (Some x) u) ≡ true
ahead-sooner x y None h e = lt-ltb y x h
ahead-sooner x y (Some z) h e = lt-ltb y (min x z) (omega (arith, ltb-true y z e))

pub sooner-covers : (x y : ℕ) (u : Option ℕ) → Covers y (sooner (Some x) u) → (x ≤ y) ⊎ Covers y u
sooner-covers x y None c = inl (covers-in x y (Some x) refl c)
sooner-covers x y (Some z) c = by (cases_lt y x)
  where
    past : min x z ≤ y
    past = covers-in (min x z) y (Some (min x z)) refl c

    by : (y < x) ⊎ (x ≤ y) → (x ≤ y) ⊎ Covers y (Some z)
    by (inl less) = inr (record { at = z; is = refl; past = omega (arith, past) })
    by (inr done) = inl done

-- a shorter packet is covered no later
shorter : (b : TokenBucket) (len short y : ℕ) → IsInRange b → short ≤ len → Covers y (covers_at b len) → Covers y (covers_at b short)
shorter b len short y range h c =
    let some = covers-some b len c.at c.is in
    let is = some.1 in
    let may = lets-go b c.at len c.at range c.is (omega arith) in
    let fits = leb-true (len * units_in_byte) (level_at b c.at) may in
    let goes = le-leb (short * units_in_byte) (level_at b c.at) (omega (arith, fits)) in
    covers-late c.at y (covers_at b short) c.past (covered b c.at short range (omega (arith, is)) some.2 goes)

pub same-some : (x y : ℕ) (o : Option ℕ) → o ≡ Some x → o ≡ Some y → x ≡ y
same-some x y o e f = let same : Some x ≡ Some y = sym e ∙ f in cc

-- ---- one packet, and none

pub best-closed : (y : ℕ) (at : Option ℕ) (least : ℕ) → IsOpen y (at_best at least) → ⊥
best-closed y at least h = not-past y at h.ahead h.at

pub best-formed : (t : ℕ) (at : Option ℕ) (least : ℕ) → ((y : ℕ) → Covers y at → t ≤ y) → Formed t (at_best at least)
best-formed t at least from = record { from = from; until = λ y c. c; short = λ n e. absurd (none-some n e) }

pub best-renews : (t : ℕ) (at : Option ℕ) (least : ℕ) (p : Outlook) → Formed t p → ((y : ℕ) → Covers y p.at → Covers y at) → ((y : ℕ) → Covers y p.at → least ≤ p.least) → Renews t (at_best at least) p
best-renews t at least p formed earlier long = record { formed = formed; at = earlier; least = long; known = λ y late h. absurd (best-closed y at least h) }

pub none-formed : (t : ℕ) → Formed t no_packet
none-formed t = record { from = λ y c. absurd (never y None refl c); until = λ y c. c; short = λ n e. absurd (none-some n e) }

pub none-renews : (t : ℕ) (o : Outlook) → o.at ≡ None → Renews t o no_packet
none-renews t o e = record {
  formed = none-formed t;
  at = λ y c. absurd (never y None refl c);
  least = λ y c. absurd (never y None refl c);
  known = λ y late h. absurd (never y o.at e h.at);
}

pub hand-formed : (t len : ℕ) → Formed t (at_hand t len)
hand-formed t len = record {
  from = λ y c. covers-in t y (Some t) refl c;
  until = λ y c. absurd (never y None refl c);
  short = λ n e. let is = same-some len n (Some len) refl e in omega arith;
}

pub hand-renews : (now t len : ℕ) → now ≤ t → Renews t (at_hand now len) (at_hand t len)
hand-renews now t len h = record {
  formed = hand-formed t len;
  at = λ y c. let past = covers-in t y (Some t) refl c in record { at = now; is = refl; past = omega arith };
  least = λ y c. omega arith;
  known = λ y late opened. record { there = record { at = record { at = t; is = refl; past = late }; ahead = refl }; len = λ n e. e };
}

-- a packet that was shown, and is held since
pub held-renews : (now t : ℕ) (o : Outlook) (p : Descriptor) → Foresees now t o (Some p) → Renews t o (at_hand t p.len)
held-renews now t o p h =
    let comes = h.early p refl in
    record {
      formed = hand-formed t p.len;
      at = λ y c. let past = covers-in t y (Some t) refl c in record { at = comes.at; is = comes.is; past = omega (arith, comes.past) };
      least = λ y c. comes.long;
      known = λ y late opened.
          let shows = h.known comes.at comes.is comes.past (before-late t y o.until late opened.ahead) in
          let same : p ≡ shows.packet = cc (shows.is) in
          record { there = record { at = record { at = t; is = refl; past = late }; ahead = refl }; len = λ n e. ap Some (ap (λ (x : Descriptor). x.len) same ∙ shows.len n e) };
    }
  where
    before-late : (t y : ℕ) (u : Option ℕ) → t ≤ y → is_before (Some y) u ≡ true → is_before (Some t) u ≡ true
    before-late t y u late ahead = comes-before y (Some t) u (record { at = t; is = refl; past = late }) ahead

-- ---- a tbf

module _ (b : TokenBucket) (o : Outlook) where
  shaped-cases : (P : Outlook → Type 0) → (o.len ≡ None → P (shaped_after b o o.at))
      → ((n : ℕ) → o.len ≡ Some n → is_before (later o.at (covers_at b n)) o.until ≡ true → P (record o { at = later o.at (covers_at b n) }))
      → ((n : ℕ) → o.len ≡ Some n → is_before (later o.at (covers_at b n)) o.until ≡ false → P (shaped_after b o o.until)) → P (shaped b o)
  shaped-cases P unknown known after = by o.len refl
    where
      by : (l : Option ℕ) → o.len ≡ l → P (option_map_or (λ len. shaped_known b o (later o.at (covers_at b len))) l (shaped_after b o o.at))
      by None e = unknown e
      by (Some n) e = elim (cases_Bool (is_before (later o.at (covers_at b n)) o.until)) [
        | inl before ↦ subst P (sym (cond-true (is_before (later o.at (covers_at b n)) o.until) (record o { at = later o.at (covers_at b n) }) (shaped_after b o o.until) before)) (known n e before)
        | inr over ↦ subst P (sym (cond-false (is_before (later o.at (covers_at b n)) o.until) (record o { at = later o.at (covers_at b n) }) (shaped_after b o o.until) over)) (after n e over)
      ]

  shaped-least : (shaped b o).least ≡ o.least
  shaped-least = shaped-cases (λ s. s.least ≡ o.least) (λ e. refl) (λ n e before. refl) (λ n e over. refl)

  after-formed : (t : ℕ) (from : Option ℕ) → ((y : ℕ) → Covers y from → t ≤ y) → Formed t (shaped_after b o from)
  after-formed t from h = best-formed t (later from (covers_at b o.least)) o.least (λ y c. h y (later-covers y from (covers_at b o.least) c).0)

  pub shaped-formed : (t : ℕ) → Formed t o → Formed t (shaped b o)
  shaped-formed t f = shaped-cases (Formed t) (λ e. after-formed t o.at f.from)
      (λ n e before. record {
        from = λ y c. f.from y (later-covers y o.at (covers_at b n) c).0;
        until = λ y c. before-covers y (later o.at (covers_at b n)) o.until before c;
        short = f.short;
      })
      (λ n e over. after-formed t o.until (λ y c. f.from y (f.until y c)))

  -- what it shows is there beneath, and the bucket covers the least length
  pub shaped-covers : (t y : ℕ) → IsInRange b → Formed t o → Covers y (shaped b o).at → Covers y o.at × Covers y (covers_at b o.least)
  shaped-covers t y range f = shaped-cases (λ s. Covers y s.at → Covers y o.at × Covers y (covers_at b o.least))
      (λ e c. later-covers y o.at (covers_at b o.least) c)
      (λ n e before c. let parts = later-covers y o.at (covers_at b n) c in (parts.0, shorter b n o.least y range (f.short n e) parts.1))
      (λ n e over c. let parts = later-covers y o.until (covers_at b o.least) c in (f.until y parts.0, parts.1))

  -- while the length is known, the bucket covers it
  pub known-covers : (y n : ℕ) → o.len ≡ Some n → is_before (Some y) o.until ≡ true → Covers y (shaped b o).at → Covers y (covers_at b n)
  known-covers y n len ahead = shaped-cases (λ s. Covers y s.at → Covers y (covers_at b n))
      (λ e c. absurd (none-some n (sym e ∙ len)))
      (λ m e before c. subst (λ k. Covers y (covers_at b k)) (same-some m n o.len e len) (later-covers y o.at (covers_at b m) c).1)
      (λ m e over c. absurd (not-past y o.until ahead (later-covers y o.until (covers_at b o.least) c).0))

  record IsCovered (y : ℕ) (s : Outlook) : Type 0 where
    opened : IsOpen y o
    size : ℕ
    is : o.len ≡ Some size
    covers : Covers y (covers_at b size)
    same : s.len ≡ o.len

  open-shaped : (y : ℕ) → IsOpen y (shaped b o) → IsCovered y (shaped b o)
  open-shaped y = shaped-cases (λ s. IsOpen y s → IsCovered y s)
      (λ e h. absurd (best-closed y (later o.at (covers_at b o.least)) o.least h))
      (λ n e before h. let parts = later-covers y o.at (covers_at b n) h.at in record { opened = record { at = parts.0; ahead = h.ahead }; size = n; is = e; covers = parts.1; same = refl })
      (λ n e over h. absurd (best-closed y (later o.until (covers_at b o.least)) o.least h))

  pub shaped-open : (y n : ℕ) → o.len ≡ Some n → IsOpen y o → Covers y (covers_at b n) → IsOpen y (shaped b o) × ((shaped b o).len ≡ Some n)
  shaped-open y n len h covers = shaped-cases (λ s. IsOpen y s × (s.len ≡ Some n))
      (λ e. absurd (none-some n (sym e ∙ len)))
      (λ m e before. (record { at = both-cover y o.at (covers_at b m) h.at (subst (λ k. Covers y (covers_at b k)) (same-some n m o.len len e) covers); ahead = h.ahead }, len))
      (λ m e over. absurd (false≢true (sym over ∙ comes-before y (later o.at (covers_at b m)) o.until
      (both-cover y o.at (covers_at b m) h.at (subst (λ k. Covers y (covers_at b k)) (same-some n m o.len len e) covers)) h.ahead)))

module _ (t : ℕ) (b : TokenBucket) (range : IsInRange b) (o p : Outlook) (r : Renews t o p) where
  shaped-no-sooner : (y : ℕ) → Covers y (shaped b p).at → Covers y (shaped b o).at
  shaped-no-sooner y c =
      let parts = shaped-covers b p t y range r.formed c in
      let there : Covers y o.at = r.at y parts.0 in
      let least : Covers y (covers_at b o.least) = shorter b p.least o.least y range (r.least y parts.0) parts.1 in
      let late : t ≤ y = r.formed.from y parts.0 in
      let sized : (n : ℕ) → o.len ≡ Some n → is_before (Some y) o.until ≡ true → Covers y (covers_at b n)
      = λ n e ahead. let st = r.known y late (record { at = there; ahead = ahead }) in known-covers b p y n (st.len n e) st.there.ahead c in
      shaped-cases b o (λ s. Covers y s.at)
      (λ e. both-cover y o.at (covers_at b o.least) there least)
      (λ n e before. elim (cases_Bool (is_before (Some y) o.until)) [
        | inl ahead ↦ both-cover y o.at (covers_at b n) there (sized n e ahead)
        | inr over ↦ before-covers y (later o.at (covers_at b n)) o.until before (closed y o.until over)
      ])
      (λ n e past. elim (cases_Bool (is_before (Some y) o.until)) [
        | inl ahead ↦ absurd (false≢true (sym past ∙ comes-before y (later o.at (covers_at b n)) o.until (both-cover y o.at (covers_at b n) there (sized n e ahead)) ahead))
        | inr over ↦ both-cover y o.until (covers_at b o.least) (closed y o.until over) least
      ])

  pub shaped-renews : Renews t (shaped b o) (shaped b p)
  shaped-renews = record {
    formed = shaped-formed b p t r.formed;
    at = shaped-no-sooner;
    least = λ y c. let long = r.least y (shaped-covers b p t y range r.formed c).0 in omega (arith, shaped-least b o, shaped-least b p);
    known = λ y late h.
        let k = open-shaped b o y h in
        let st = r.known y late k.opened in
        let s = shaped-open b p y k.size (st.len k.size k.is) st.there k.covers in
        record { there = s.0; len = λ n e. s.1 ∙ sym k.is ∙ sym k.same ∙ e };
  }
