-- A prio whose packet is taken right after a peek: the bands up to the one that gives it have noted the same in all.
use Rattle.std.proofs.Common.{◌≡◌, ℕ, suc, List, [], ◌∷◌, ◌++◌, map, refl, sym, ap₂, subst, Option, Some, None}
use Rattle.std.specs.Prelude.{Bool, true, false, is_some}
use Rattle.std.specs.Option.{option_to_list}
use Rattle.std.proofs.lemmas.Bool.{false≢true}
use Rattle.q_packet.specs.Descriptor.{Descriptor}
use Rattle.q_model.specs.declared.filter.Filter.{Filter}
use Rattle.q_model.specs.Tally.{Note, Sent}
use Rattle.q_model.specs.Work.{Worked}
use Rattle.q_model.specs.Ask.{Asked, befores, ask_prio}
use Rattle.q_invariants.proofs.again.SecondPeek.{IsStable, AreStable}
use Rattle.q_invariants.proofs.again.SecondPrio.{ready, ready-here, ready-later, IsSame, bands, bands-same, prio, again-prio}
use Rattle.q_invariants.proofs.again.TakeJoined.{IsJoined, AreJoined, joined-side, before-joined, all-before, TakesSo, TakeSo}
use Rattle.q_invariants.proofs.ask.AskPrio.{peeked_to, taken_at, notes_to}

module _ (now : ℕ) where
  -- the bands, where this one gives its packet
  abbrev AreSo : ℕ → List Asked → Type 0
  AreSo k below = AreJoined (peeked_to k below) (taken_at k (bands now k below)) (taken_at k below)

  so-here : (a : Asked) (below : List Asked) → TakesSo now a → is_some a.shown ≡ true → AreSo 0 (a ∷ below)
  so-here a below h e = by a.shown refl e
    where
      by : (o : Option Descriptor) → a.shown ≡ o → is_some o ≡ true → AreSo 0 (a ∷ below)
      by None is e = absurd (false≢true e)
      by (Some p) is e = (h p is, all-before now (befores below))

  so-later : (a : Asked) (below : List Asked) (k : ℕ) → IsStable now a → AreSo k below → AreSo (suc k) (a ∷ below)
  so-later a below k h rest = (subst (λ (w : Worked). IsJoined a.peeked w a.peeked) (sym h.second.peeked) (before-joined now a.peeked), rest)

  bands-so : (below : List Asked) → AreStable now below → TakeSo now below → AreSo (ready below) below
  bands-so [] h all = tt
  bands-so (a ∷ below) h all = by (is_some a.shown) refl (bands-so below h.1 all.1)
    where
      P : ℕ → Type 0
      P k = AreSo k (a ∷ below)

      by : (t : Bool) → is_some a.shown ≡ t → AreSo (ready below) below → P (ready (a ∷ below))
      by true e rest = subst P (sym (ready-here a below e)) (so-here a below all.0 e)
      by false e rest = subst P (sym (ready-later a below e)) (so-later a below (ready below) h.0 rest)

  module _ (handle : Option ℕ) (filters : List Filter) (since : ℕ) (priomap : List ℕ) where
    pub prio-so : (below : List Asked) → AreStable now below → TakeSo now below
        → TakesSo now (ask_prio (prio now handle filters since priomap) below)
    prio-so below h all p e =
        let k : ℕ = ready below in
        let bs : List Asked = bands now k below in
        let same : IsSame k below bs = bands-same now below h in
        let a : Asked = ask_prio (prio now handle filters since priomap) below in
        subst (λ (b : Asked). IsJoined a.peeked b.taken a.taken) (sym (again-prio now handle filters since priomap below h)) (
          refl,
          ap₂ (λ (notes : List Note) (o : Option Descriptor). notes_to k below ++ (notes ++ map Sent (option_to_list o))) same.rises same.packet,
          joined-side (peeked_to k below) (taken_at k bs) (taken_at k below) (bands-so below h all),
        )
