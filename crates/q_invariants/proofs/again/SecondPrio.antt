-- A prio that is asked once more stops at the same band.
use Rattle.std.proofs.Common.{◌≡◌, ℕ, suc, List, [], ◌∷◌, ◌++◌, map, ◌+◌, refl, sym, ap, ap₂, subst, ◌∙◌, Option, None, arith}
use Rattle.std.specs.Prelude.{Bool, true, false, not, cond, is_some}
use Rattle.std.specs.List.{position_or_len}
use Rattle.q_model.specs.declared.filter.Filter.{Filter}
use Rattle.q_model.specs.Tally.{Note}
use Rattle.q_model.specs.Node.{Prio, Own}
use Rattle.q_model.specs.Work.{Worked, worked}
use Rattle.q_model.specs.Ask.{Asked, befores, showing, ask_prio}
use Rattle.q_invariants.proofs.again.SecondPeek.{Repeats, again, IsStable, AreStable, again-worked, second-by, node}
use Rattle.q_invariants.proofs.ask.AskPrio.{peeked_to, taken_at, notes_to, packet_at}

-- the first band that shows a packet
abbrev pub ready : List Asked → ℕ
ready below = position_or_len (λ (a : Asked). is_some a.shown) below

-- the bands once more, where those up to this one were asked
pub record IsSame (k : ℕ) (below bands : List Asked) : Type 0 where
  pub place : ready bands ≡ k
  pub rises : notes_to k bands ≡ []
  pub peeked : peeked_to k bands ≡ befores bands
  pub packet : packet_at k bands ≡ packet_at k below

pub ready-here : (a : Asked) (below : List Asked) → is_some a.shown ≡ true → ready (a ∷ below) ≡ 0
ready-here a below e = ap (λ (t : Bool). cond (not t) (1 + ready below) 0) e

pub ready-later : (a : Asked) (below : List Asked) → is_some a.shown ≡ false → ready (a ∷ below) ≡ suc (ready below)
ready-later a below e = ap (λ (t : Bool). cond (not t) (1 + ready below) 0) e ∙ omega arith

module _ (now : ℕ) where
  abbrev pub bands : ℕ → List Asked → List Asked
  bands k below = map (again now) (peeked_to k below)

  -- the band that shows a packet, and those behind it
  same-here : (a : Asked) (below : List Asked) → IsStable now a → AreStable now below → is_some a.shown ≡ true
      → IsSame 0 (a ∷ below) (bands 0 (a ∷ below))
  same-here a below h all e = record {
    place = ready-here (again now a.peeked) (map (again now) (befores below)) (ap is_some h.second.shown ∙ e);
    rises = ap (λ (ns : List Note). ns ++ []) h.second.rises;
    peeked = ap (λ (w : Worked). w ∷ befores (map (again now) (befores below))) h.second.peeked;
    packet = h.second.shown;
  }

  same-later : (a : Asked) (below : List Asked) (k : ℕ) → IsStable now a → is_some a.shown ≡ false
      → IsSame k below (bands k below) → IsSame (suc k) (a ∷ below) (bands (suc k) (a ∷ below))
  same-later a below k h e rest = record {
    place = ready-later (again now a.peeked) (bands k below) (ap is_some h.second.shown ∙ e) ∙ ap suc rest.place;
    rises = ap₂ (λ (xs ys : List Note). xs ++ ys) h.second.rises rest.rises;
    peeked = ap₂ (λ (w : Worked) (ws : List Worked). w ∷ ws) h.second.peeked rest.peeked;
    packet = rest.packet;
  }

  pub bands-same : (below : List Asked) → AreStable now below → IsSame (ready below) below (bands (ready below) below)
  bands-same [] h = record { place = refl; rises = refl; peeked = refl; packet = refl }
  bands-same (a ∷ below) h = by (is_some a.shown) refl (bands-same below h.1)
    where
      P : ℕ → Type 0
      P k = IsSame k (a ∷ below) (bands k (a ∷ below))

      by : (t : Bool) → is_some a.shown ≡ t → IsSame (ready below) below (bands (ready below) below)
          → P (ready (a ∷ below))
      by true e rest = subst P (sym (ready-here a below e)) (same-here a below h.0 h.1 e)
      by false e rest = subst P (sym (ready-later a below e)) (same-later a below (ready below) h.0 e rest)

  module _ (handle : Option ℕ) (filters : List Filter) (since : ℕ) (priomap : List ℕ) where
    abbrev pub prio : Own
    prio = node now handle filters since (Prio priomap) None

    abbrev pub prio_at : ℕ → List Asked → Asked
    prio_at k below = showing below (record { own = prio; own_taken = prio; peeked = peeked_to k below; taken = taken_at k below; notes = notes_to k below; packet = packet_at k below })

    pub again-prio : (below : List Asked) → AreStable now below
        → again now (ask_prio prio below).peeked ≡ prio_at (ready below) (bands (ready below) below)
    again-prio below h =
        let k : ℕ = ready below in
        again-worked now prio (notes_to k below) (peeked_to k below) ∙ ap (λ (j : ℕ). prio_at j (bands k below)) (bands-same below h).place

    pub second-prio : (below : List Asked) → AreStable now below → Repeats now (ask_prio prio below)
    second-prio below h =
        let k : ℕ = ready below in
        let same : IsSame k below (bands k below) = bands-same below h in
        second-by now (ask_prio prio below) (again now (ask_prio prio below).peeked) (prio_at k (bands k below)) (again-prio below h) (record {
          shown = same.packet;
          rises = same.rises;
          peeked = ap₂ (λ (notes : List Note) (ws : List Worked). worked prio notes ws) same.rises same.peeked;
        })
