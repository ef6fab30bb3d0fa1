-- What is known of the bands of a prio and of the front class of a drr, against what is known at a later moment.
use Rattle.std.proofs.Common.{◌≡◌, ℕ, ◌<◌, ◌≤◌, ◌∙◌, ◌⊎◌, refl, sym, ap, subst, arith, inl, inr, List, [], ◌∷◌, Option, Some, None}
use Rattle.std.specs.Prelude.{min, nat_lt, nat_le}
use Rattle.std.specs.Option.{option_map_or}
use Rattle.std.proofs.lemmas.Bool.{cases_Bool, cond-true, cond-false, leb-true, leb-false, ltb-true, ltb-false}
use Rattle.std.proofs.lemmas.Option.{none-some}
use Rattle.q_tree.specs.answers.ReadyAt.{sooner, at_best, joined, with_next, after_first, with_band, with_bands, if_paid, paid}
use Rattle.q_tree.proofs.Foreseeing.{Covers}
use Rattle.q_device.proofs.waiting.Renewed.{Outlook, IsOpen, Stays, Formed, Renews, never, covers-in, covers-late, comes-before, sooner-ahead, ahead-sooner, sooner-covers, same-some, best-closed, best-formed}

-- a moment that none comes by
nobody : (o : Option ℕ) → ((y : ℕ) → Covers y o → ⊥) → o ≡ None
nobody None h = refl
nobody (Some x) h = absurd (h x (record { at = x; is = refl; past = omega arith }))

here : (x : ℕ) (o : Option ℕ) → o ≡ Some x → Covers x o
here x o e = record { at = x; is = e; past = omega arith }

-- ---- two bands

abbrev sooner_band : Outlook → Outlook → ℕ → Outlook
sooner_band a b x = record b { least = min a.least b.least; until = sooner (Some x) b.until }

abbrev first_band : Outlook → Outlook → Outlook
first_band a b = record a { least = min a.least b.least }

module _ (a b : Outlook) where
  pub band-cases : (P : Outlook → Type 0) → (a.at ≡ None → P b) → ((x : ℕ) → a.at ≡ Some x → b.at ≡ None → P a)
      → ((x y : ℕ) → a.at ≡ Some x → b.at ≡ Some y → y < x → P (sooner_band a b x))
      → ((x y : ℕ) → a.at ≡ Some x → b.at ≡ Some y → x ≤ y → P (first_band a b)) → P (with_band a b)
  band-cases P none alone later first = by a.at refl
    where
      twice : (x y : ℕ) → a.at ≡ Some x → b.at ≡ Some y → P (joined a b x y)
      twice x y ex ey = elim (cases_Bool (nat_lt y x)) [
        | inl less ↦ subst P (sym (cond-true (nat_lt y x) (sooner_band a b x) (first_band a b) less)) (later x y ex ey (ltb-true y x less))
        | inr more ↦ subst P (sym (cond-false (nat_lt y x) (sooner_band a b x) (first_band a b) more)) (first x y ex ey (ltb-false y x more))
      ]

      once : (x : ℕ) → a.at ≡ Some x → (o : Option ℕ) → b.at ≡ o → P (with_next a b x o)
      once x ex None ey = alone x ex ey
      once x ex (Some y) ey = twice x y ex ey

      by : (o : Option ℕ) → a.at ≡ o → P (after_first a b o)
      by None e = none e
      by (Some x) e = once x e b.at refl

  pub either : (z : ℕ) → Covers z (with_band a b).at → Covers z a.at ⊎ Covers z b.at
  either z = band-cases (λ s. Covers z s.at → Covers z a.at ⊎ Covers z b.at) (λ e c. inr c) (λ x e f c. inl c) (λ x y e f less c. inr c) (λ x y e f more c. inl c)

  from-first : (z : ℕ) → Covers z a.at → Covers z (with_band a b).at
  from-first z c = band-cases (λ s. Covers z s.at) (λ e. absurd (never z a.at e c)) (λ x e f. c)
      (λ x y e f less. let past = covers-in x z a.at e c in record { at = y; is = f; past = omega arith }) (λ x y e f more. c)

  from-next : (z : ℕ) → Covers z b.at → Covers z (with_band a b).at
  from-next z c = band-cases (λ s. Covers z s.at) (λ e. c) (λ x e f. absurd (never z b.at f c)) (λ x y e f less. c)
      (λ x y e f more. let past = covers-in y z b.at f c in record { at = x; is = e; past = omega arith })

  least-first : (z : ℕ) → Covers z a.at → (with_band a b).least ≤ a.least
  least-first z c = band-cases (λ s. s.least ≤ a.least) (λ e. absurd (never z a.at e c)) (λ x e f. omega arith) (λ x y e f less. omega arith) (λ x y e f more. omega arith)

  least-next : (z : ℕ) → Covers z b.at → (with_band a b).least ≤ b.least
  least-next z c = band-cases (λ s. s.least ≤ b.least) (λ e. omega arith) (λ x e f. absurd (never z b.at f c)) (λ x y e f less. omega arith) (λ x y e f more. omega arith)

  pub band-formed : (t : ℕ) → Formed t a → Formed t b → Formed t (with_band a b)
  band-formed t fa fb = band-cases (Formed t) (λ e. fb) (λ x e f. fa)
      (λ x y e f less. record {
        from = fb.from;
        until = λ z c. elim (sooner-covers x z b.until c) [
          | inl past ↦ record { at = y; is = f; past = omega arith }
          | inr ends ↦ fb.until z ends
        ];
        short = λ n len. let low = fb.short n len in omega (arith, low);
      })
      (λ x y e f more. record { from = fa.from; until = fa.until; short = λ n len. let low = fa.short n len in omega (arith, low) })

module _ (t : ℕ) (a b p q : Outlook) (ra : Renews t a p) (rb : Renews t b q) where
  no-first : a.at ≡ None → p.at ≡ None
  no-first e = nobody p.at (λ y c. never y a.at e (ra.at y c))

  no-next : b.at ≡ None → q.at ≡ None
  no-next e = nobody q.at (λ y c. never y b.at e (rb.at y c))

  band-least : (z : ℕ) → Covers z (with_band p q).at → (with_band a b).least ≤ (with_band p q).least
  band-least z = band-cases p q (λ s. Covers z s.at → (with_band a b).least ≤ s.least)
      (λ e c. let low = least-next a b z (rb.at z c) in omega (arith, low, rb.least z c))
      (λ x e f c. let low = least-first a b z (ra.at z c) in omega (arith, low, ra.least z c))
      (λ x y e f less c. both x y e f)
      (λ x y e f more c. both x y e f)
    where
      both : (x y : ℕ) → p.at ≡ Some x → q.at ≡ Some y → (with_band a b).least ≤ min p.least q.least
      both x y e f =
          let cx = here x p.at e in
          let cy = here y q.at f in
          let lx = least-first a b x (ra.at x cx) in
          let ly = least-next a b y (rb.at y cy) in
          omega (arith, lx, ly, ra.least x cx, rb.least y cy)

  abbrev Goal : ℕ → Outlook → Type 0
  Goal z s = Stays z s (with_band p q)

  -- the first band alone, or the next one
  stays-next : (z : ℕ) → a.at ≡ None → Stays z b q → Goal z b
  stays-next z e st = subst (λ (s : Outlook). Stays z b s) (sym (ap (after_first p q) (no-first e))) st

  stays-first : (z : ℕ) → b.at ≡ None → Stays z a p → Goal z a
  stays-first z e st = band-cases p q (λ s. Stays z a s) (λ f. absurd (never z p.at f st.there.at)) (λ x f g. st) (λ x y f g less. absurd (none-some y (sym (no-next e) ∙ g)))
      (λ x y f g more. absurd (none-some y (sym (no-next e) ∙ g)))

  -- the next one, before the first has one
  stays-sooner : (z x : ℕ) → a.at ≡ Some x → z < x → (least : ℕ) (until : Option ℕ) → Stays z b q → Goal z (record b { least = least; until = until })
  stays-sooner z x e before least until st = band-cases p q (λ s. Stays z (record b { least = least; until = until }) s)
      (λ f. record { there = st.there; len = st.len })
      (λ x' f g. absurd (never z q.at g st.there.at))
      (λ x' y' f g less.
      let late = covers-in x x' a.at e (ra.at x' (here x' p.at f)) in
      record { there = record { at = st.there.at; ahead = ahead-sooner x' z q.until (omega arith) st.there.ahead }; len = st.len })
      (λ x' y' f g more.
      let late = covers-in x x' a.at e (ra.at x' (here x' p.at f)) in
      let past = covers-in y' z q.at g st.there.at in
      absurd (omega arith))

  -- the first one, where the next has none before
  stays-before : (z x y : ℕ) → a.at ≡ Some x → b.at ≡ Some y → x ≤ y → IsOpen z a → (least : ℕ) → Stays z a p → Goal z (record a { least = least })
  stays-before z x y e f order opened least st = band-cases p q (λ s. Stays z (record a { least = least }) s)
      (λ g. absurd (never z p.at g st.there.at))
      (λ x' g h. record { there = st.there; len = st.len })
      (λ x' y' g h less.
      let cy = here y' q.at h in
      let late = rb.formed.from y' cy in
      let past = covers-in y y' b.at f (rb.at y' cy) in
      let ends = covers-in x' z p.at g st.there.at in
      let again =
      ra.known y' late (record {
        at = record { at = x; is = e; past = omega arith };
        ahead = comes-before z (Some y') a.until
            (record { at = y'; is = refl; past = omega arith }) opened.ahead;
      }) in
      let low = covers-in x' y' p.at g again.there.at in
      absurd (omega arith))
      (λ x' y' g h more. record { there = record { at = st.there.at; ahead = st.there.ahead }; len = st.len })

  band-known : (z : ℕ) → t ≤ z → IsOpen z (with_band a b) → Stays z (with_band a b) (with_band p q)
  band-known z late = band-cases a b (λ s. IsOpen z s → Goal z s)
      (λ e h. stays-next z e (rb.known z late h))
      (λ x e f h. stays-first z f (ra.known z late h))
      (λ x y e f less h.
      let parts = sooner-ahead x z b.until h.ahead in
      stays-sooner z x e parts.0 (min a.least b.least) (sooner (Some x) b.until) (rb.known z late (record { at = h.at; ahead = parts.1 })))
      (λ x y e f more h.
      let opened : IsOpen z a = record { at = h.at; ahead = h.ahead } in
      stays-before z x y e f more opened (min a.least b.least) (ra.known z late opened))

  pub band-renews : Renews t (with_band a b) (with_band p q)
  band-renews = record {
    formed = band-formed p q t ra.formed rb.formed;
    at = λ z c. elim (either p q z c) [
      | inl first ↦ from-first a b z (ra.at z first)
      | inr next ↦ from-next a b z (rb.at z next)
    ];
    least = band-least;
    known = band-known;
  }

-- ---- bands in order

abbrev pub AllRenew : ℕ → List Outlook → List Outlook → Type 0
AllRenew t [] [] = Unit {0}
AllRenew t [] (p ∷ ps) = ⊥
AllRenew t (o ∷ os) [] = ⊥
AllRenew t (o ∷ os) (p ∷ ps) = Renews t o p × AllRenew t os ps

pub bands-renew : (t : ℕ) (o p : Outlook) → Renews t o p → (os ps : List Outlook) → AllRenew t os ps → Renews t (with_bands o os) (with_bands p ps)
bands-renew t o p r [] [] all = r
bands-renew t o p r [] (q ∷ ps) all = absurd all
bands-renew t o p r (b ∷ os) [] all = absurd all
bands-renew t o p r (b ∷ os) (q ∷ ps) all = bands-renew t (with_band o b) (with_band p q) (band-renews t o b p q r all.0) os ps all.1

-- ---- the front of a drr

module _ (deficit : ℕ) (o : Outlook) where
  paid-cases : (P : Outlook → Type 0) → (((n : ℕ) → o.len ≡ Some n → deficit < n) → P (at_best o.at 0)) → ((n : ℕ) → o.len ≡ Some n → n ≤ deficit → P (record o { least = 0 })) → P (paid deficit o)
  paid-cases P short pays = by o.len refl
    where
      by : (l : Option ℕ) → o.len ≡ l → P (option_map_or (if_paid deficit o) l (at_best o.at 0))
      by None e = short (λ n f. absurd (none-some n (sym e ∙ f)))
      by (Some len) e = elim (cases_Bool (nat_le len deficit)) [
        | inl fits ↦ subst P (sym (cond-true (nat_le len deficit) (record o { least = 0 }) (at_best o.at 0) fits)) (pays len e (leb-true len deficit fits))
        | inr over ↦ subst P (sym (cond-false (nat_le len deficit) (record o { least = 0 }) (at_best o.at 0) over))
            (short (λ n f. let is = same-some len n o.len e f in omega (arith, leb-false len deficit over)))
      ]

  pub paid-at : (paid deficit o).at ≡ o.at
  paid-at = paid-cases (λ s. s.at ≡ o.at) (λ short. refl) (λ n e fits. refl)

  pub paid-least : (paid deficit o).least ≡ 0
  paid-least = paid-cases (λ s. s.least ≡ 0) (λ short. refl) (λ n e fits. refl)

  pub paid-formed : (t : ℕ) → Formed t o → Formed t (paid deficit o)
  paid-formed t f = paid-cases (Formed t) (λ short. best-formed t o.at 0 f.from) (λ n e fits. record { from = f.from; until = f.until; short = λ m len. omega arith })

  -- while it is known to show a packet, its deficit covers that
  pub record Pays (y : ℕ) : Type 0 where
    pub opened : IsOpen y o
    pub size : ℕ
    pub is : o.len ≡ Some size
    pub fits : size ≤ deficit
    pub same : (paid deficit o).len ≡ o.len

  pub paid-open : (y : ℕ) → IsOpen y (paid deficit o) → Pays y
  paid-open y h = by (paid deficit o) refl h
    where
      by : (s : Outlook) → paid deficit o ≡ s → IsOpen y s → Pays y
      by s e h = paid-cases (λ x. paid deficit o ≡ x → IsOpen y x → Pays y)
          (λ short f k. absurd (best-closed y o.at 0 k))
          (λ n len fits f k. record { opened = record { at = k.at; ahead = k.ahead }; size = n; is = len; fits = fits; same = ap (λ (x : Outlook). x.len) f }) refl (subst (IsOpen y) (sym e) h)

pub paid-renews : (t deficit : ℕ) (o p : Outlook) → Renews t o p → Renews t (paid deficit o) (paid deficit p)
paid-renews t deficit o p r = record {
  formed = paid-formed deficit p t r.formed;
  at = λ y c. subst (Covers y) (sym (paid-at deficit o)) (r.at y (subst (Covers y) (paid-at deficit p) c));
  least = λ y c. omega (arith, paid-least deficit o);
  known = λ y late h.
      let k = paid-open deficit o y h in
      let st = r.known y late k.opened in
      let len : p.len ≡ Some k.size = st.len k.size k.is in
      paid-cases deficit p (λ s. Stays y (paid deficit o) s)
      (λ short. let more = short k.size len in let fits = k.fits in absurd (omega arith))
      (λ n e fits. record { there = record { at = st.there.at; ahead = st.there.ahead }; len = λ m f. st.len m (sym k.same ∙ f) });
}

-- what is known where the packet could have come already, and none is known for sure
pub past-renews : (t : ℕ) (o p : Outlook) → Formed t p → Covers t o.at → o.least ≡ 0 → ((y : ℕ) → t ≤ y → IsOpen y o → ⊥) → Renews t o p
past-renews t o p formed past none shut = record {
  formed = formed;
  at = λ y c. covers-late t y o.at (formed.from y c) past;
  least = λ y c. omega (arith, none);
  known = λ y late h. absurd (shut y late h);
}
