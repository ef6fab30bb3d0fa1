-- Where a node showed nothing its packet comes after that moment, and where it showed one that is at hand: bands, a tbf.
use Rattle.std.proofs.Common.{◌≡◌, ℕ, suc, ◌<◌, ◌∙◌, refl, sym, ap, subst, arith, inl, inr, List, [], ◌∷◌, map, Option, Some, None}
use Rattle.std.specs.Prelude.{false, is_some}
use Rattle.std.proofs.lemmas.Bool.{cases_lt, false≢true}
use Rattle.std.proofs.lemmas.Option.{none-some}
use Rattle.q_packet.specs.Descriptor.{Descriptor}
use Rattle.q_bucket.specs.Level.{TokenBucket, IsInRange, allows}
use Rattle.q_model.specs.Ask.{Asked, befores}
use Rattle.q_invariants.proofs.again.SecondPrio.{ready, ready-here, ready-later}
use Rattle.q_invariants.proofs.ask.AskPrio.{peeked_to}
use Rattle.q_tree.specs.answers.ReadyAt.{no_packet, at_hand, shaped, with_band, with_bands, outlook}
use Rattle.q_tree.proofs.Foreseeing.{Covers, lets-go}
use Rattle.q_tree.proofs.ForeseenAsks.{or_else, first_of}
use Rattle.q_device.proofs.waiting.Renewed.{Outlook, IsOpen, Formed, never, covers-in, ahead-sooner, shaped-covers, known-covers}
use Rattle.q_device.proofs.waiting.RenewedBands.{band-cases, either}

-- a packet that is at hand at this moment
pub record HasAtHand (t : ℕ) (p : Outlook) (q : Descriptor) : Type 0 where
  pub opened : IsOpen t p
  pub len : p.len ≡ Some q.len

pub record Moves (t : ℕ) (shown : Option Descriptor) (p : Outlook) : Type 0 where
  pub hidden : shown ≡ None → Covers t p.at → ⊥
  pub shows : (q : Descriptor) → shown ≡ Some q → HasAtHand t p q

pub none-moves : (t : ℕ) → Moves t None no_packet
none-moves t = record { hidden = λ e c. never t None refl c; shows = λ q e. absurd (none-some q e) }

pub hand-moves : (t : ℕ) (p : Descriptor) → Moves t (Some p) (at_hand t p.len)
hand-moves t p = record {
  hidden = λ e c. none-some p (sym e);
  shows = λ q e. record { opened = record { at = record { at = t; is = refl; past = omega arith }; ahead = refl }; len = cc };
}

-- ---- bands

module _ (t : ℕ) (a b : Outlook) where
  -- the first one has a packet at hand
  first-moves : (q : Descriptor) → HasAtHand t a q → Formed t b → Moves t (Some q) (with_band a b)
  first-moves q h f = record {
    hidden = λ e c. none-some q (sym e);
    shows = λ r e. band-cases a b (λ s. HasAtHand t s r)
        (λ g. absurd (never t a.at g h.opened.at))
        (λ x g k. record { opened = h.opened; len = h.len ∙ by r e })
        (λ x y g k less.
        let past = covers-in x t a.at g h.opened.at in
        let late = f.from y (record { at = y; is = k; past = omega arith }) in
        absurd (omega arith))
        (λ x y g k more. record { opened = record { at = h.opened.at; ahead = h.opened.ahead }; len = h.len ∙ by r e });
  }
    where
      by : (r : Descriptor) → Some q ≡ Some r → Some q.len ≡ Some r.len
      by r e = cc

  -- the first one showed nothing
  next-moves : (shown : Option Descriptor) → Moves t None a → Moves t shown b → Moves t shown (with_band a b)
  next-moves shown ma mb = record {
    hidden = λ e c. elim (either a b t c) [
      | inl first ↦ ma.hidden refl first
      | inr next ↦ mb.hidden e next
    ];
    shows = λ q e. let h = mb.shows q e in band-cases a b (λ s. HasAtHand t s q)
        (λ g. h)
        (λ x g k. absurd (never t b.at k h.opened.at))
        (λ x y g k less. record { opened = record { at = h.opened.at; ahead = ahead-sooner x t b.until (after x g) h.opened.ahead }; len = h.len })
        (λ x y g k more.
        let past = covers-in y t b.at k h.opened.at in
        let late = after x g in
        absurd (omega arith));
  }
    where
      after : (x : ℕ) → a.at ≡ Some x → t < x
      after x g = elim (cases_lt t x) [
        | inl less ↦ less
        | inr past ↦ absurd (ma.hidden refl (record { at = x; is = g; past = past }))
      ]

-- a node that was asked at t: what is known of it, whether it was or not
pub record IsMoved (t : ℕ) (a : Asked) : Type 0 where
  pub moved : Moves t a.shown (outlook t a.peeked)
  pub before : Formed t (outlook t a.before)
  pub peeked : Formed t (outlook t a.peeked)

abbrev pub AreMoved : ℕ → List Asked → Type 0
AreMoved t [] = Unit {0}
AreMoved t (a ∷ below) = IsMoved t a × AreMoved t below

module _ (t : ℕ) where
  rest-move : (q : Descriptor) (o : Outlook) → Moves t (Some q) o → (below : List Asked) → AreMoved t below → Moves t (Some q) (with_bands o (map (outlook t) (befores below)))
  rest-move q o m [] all = m
  rest-move q o m (a ∷ below) all = rest-move q (with_band o (outlook t a.before)) (first-moves t o (outlook t a.before) q (m.shows q refl) all.0.before) below all.1

  pub bands-move : (o : Outlook) → Moves t None o → (below : List Asked) → AreMoved t below → Moves t (first_of below) (with_bands o (map (outlook t) (peeked_to (ready below) below)))
  bands-move o m [] all = m
  bands-move o m (a ∷ below) all = by a.shown refl (λ k. bands-move (with_band o (outlook t a.peeked)) k below all.1)
    where
      P : Option Descriptor → ℕ → Type 0
      P shown k = Moves t (or_else shown (first_of below)) (with_bands o (map (outlook t) (peeked_to k (a ∷ below))))

      next : Moves t a.shown (with_band o (outlook t a.peeked))
      next = next-moves t o (outlook t a.peeked) a.shown m all.0.moved

      by : (x : Option Descriptor) → a.shown ≡ x
          → (Moves t None (with_band o (outlook t a.peeked)) → Moves t (first_of below)
          (with_bands (with_band o (outlook t a.peeked)) (map (outlook t) (peeked_to (ready below) below))))
          → P a.shown (ready (a ∷ below))
      by None e later =
          subst (λ k. P a.shown k) (sym (ready-later a below (ap is_some e)))
          (subst (λ (x : Option Descriptor). P x (suc (ready below))) (sym e) (later (subst (λ (x : Option Descriptor). Moves t x (with_band o (outlook t a.peeked))) e next)))
      by (Some q) e later =
          subst (λ k. P a.shown k) (sym (ready-here a below (ap is_some e)))
          (subst (λ (x : Option Descriptor). P x 0) (sym e)
          (rest-move q (with_band o (outlook t a.peeked))
          (subst (λ (x : Option Descriptor). Moves t x (with_band o (outlook t a.peeked))) e next) below all.1))

-- ---- a tbf that waits: its child shows nothing, or a packet that the bucket does not allow

pub shaped-hidden : (t : ℕ) (b : TokenBucket) → IsInRange b → (p : Outlook) → Formed t p → Moves t None p → Moves t None (shaped b p)
shaped-hidden t b range p f m = record { hidden = λ e c. m.hidden refl (shaped-covers b p t t range f c).0; shows = λ q e. absurd (none-some q e) }

pub shaped-waits : (t : ℕ) (b : TokenBucket) → IsInRange b → (p : Outlook) (q : Descriptor) → HasAtHand t p q → allows b t q.len ≡ false → Moves t None (shaped b p)
shaped-waits t b range p q h stays = record {
  hidden = λ e c.
      let covers = known-covers b p t q.len h.len h.opened.ahead c in
      false≢true (sym stays ∙ lets-go b t q.len covers.at range covers.is covers.past);
  shows = λ r e. absurd (none-some r e);
}
