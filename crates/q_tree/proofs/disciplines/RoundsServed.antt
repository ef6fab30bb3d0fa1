-- A drr in the midst of it, where rounds in which every class is granted are given at once.
use Rattle.std.proofs.Common.{◌≡◌, ℕ, ◌+◌, ◌*◌, ◌-◌, ◌≤◌, ◌<◌, ◌^◌, ◌∙◌, List, [], ◌∷◌, set, take, length, refl, sym, ap, subst, inl, inr, Option, Some, arith}
use Rattle.std.specs.Prelude.{true, false, nat_lt, option_and_then, slice_get, map}
use Rattle.std.specs.List.{sum_by}
use Rattle.std.proofs.lemmas.Bool.{cases_Bool, ltb-false, ltb-true}
use Rattle.std.proofs.lemmas.List.{take_all}
use Rattle.q_packet.specs.Descriptor.{Descriptor}
use Rattle.q_codel.specs.Losses.{SinkState}
use Rattle.q_drr.specs.Changes.{HeadsFit}
use Rattle.q_drr.specs.Rounds.{CanGo, HasGone, IsRound}
use Rattle.q_drr.specs.Schedule.{Entry, Schedule, quantum_of, turned, turn_answer, front_of}
use Rattle.q_drr.specs.Take.{need}
use Rattle.q_drr.specs.declared.active.Turn.TheVariants.{Granted}
use Rattle.q_drr.specs.declared.round.Round.{Round}
use Rattle.q_drr.proofs.ChangeLemmas.{turned_lawful}
use Rattle.q_drr.proofs.RoundLemmas.{measure_gone, none_needed}
use Rattle.q_drr.proofs.TakeLemmas.{falls_short}
use Rattle.q_drr.proofs.ServingLemmas.{IsServing}
use Rattle.q_drr.proofs.ServingRounds.{serving_rounds}
use Rattle.q_model.specs.Ask.{peeked_classes}
use Rattle.q_model.specs.Node.{Node}
use Rattle.q_model.proofs.ClassesAsked.{rises_of}
use Rattle.q_invariants.specs.Kept.{AreLawful}
use Rattle.q_invariants.proofs.ask.Answer.{AreAnswers}
use Rattle.q_invariants.proofs.ask.DrrService.{heads-fit}
use Rattle.q_tree.specs.departure.AskSteps.{IsToldOf, answers}
use Rattle.q_tree.specs.departure.Shown.{Shown}
use Rattle.q_tree.specs.Kept.{Kept}
use Rattle.q_tree.proofs.departure.Asking.{IsAsking, answered}
use Rattle.q_tree.proofs.departure.AskOnce.{IsCounted}
use Rattle.q_tree.proofs.disciplines.ServeLemmas.{AreClassesAsked, IsMet, IsClassShown, heads_of, classes-go-on, fewer-grants, offered-head, short-enough}

-- no round is begun while classes are to be asked
pub record IsInRound (now : ℕ) (first s : Schedule) (ns : List (Node Kept)) (unasked : ℕ) (r : Round) : Type 0 where
  pub begins : nat_lt 0 unasked ≡ true → r ≡ record { left = 0; fewest = 0 }
  pub round : IsRound (heads_of now first ns) r s

pub round-starts : (now : ℕ) (first s : Schedule) (ns : List (Node Kept)) (unasked : ℕ) (r : Round) → r ≡ record { left = 0; fewest = 0 } → IsInRound now first s ns unasked r
round-starts now first s ns unasked r is = record {
  begins = λ _. is;
  round = subst (λ (q : Round). IsRound (heads_of now first ns) q s) (sym is) (none_needed (heads_of now first ns) s.classes s.active);
}

-- every child answers as a lawful node does
all-answered : (mtu now : ℕ) → 1 ≤ mtu → now ≤ 2 ^ 62 → (ns : List (Node Kept)) → AreLawful mtu now ns → AreAnswers mtu now (answers now ns)
all-answered mtu now least moment [] h = tt
all-answered mtu now least moment (n ∷ ns) h = (answered now n (record { mtu = mtu; least = least; moment = moment; lawful = h.0 }), all-answered mtu now least moment ns h.1)

module _ {now : ℕ} {first s : Schedule} {ns ms : List (Node Kept)} {unasked : ℕ} {so_far : Shown} {sink sink2 : SinkState} {place : ℕ} (met : IsMet now first s ns ms unasked so_far sink sink2 place)
    {d : Node Kept} {result : Shown} {sink3 : SinkState} (shows : IsClassShown now first ns ms met.asked.turns place met.at.child d result sink sink3)
    {len : ℕ} (offer : (x : Descriptor) × (result.packet ≡ Some x) × (x.len ≡ len)) {r : Round} (h : IsInRound now first s ns unasked r) where
  abbrev pub heads : ℕ → Option ℕ
  heads = heads_of now first ns

  pub front-shown : option_and_then heads (front_of s) ≡ Some len
  front-shown =
      ap (λ (es : List Entry). option_and_then heads (slice_get (map (λ (e : Entry). e.class) es) 0)) met.front.is ∙ ap heads met.front.class ∙ offered-head met shows offer

  pub fit : HeadsFit heads s.max_len
  fit = subst (HeadsFit heads) (sym (met.asked.serving.longest ∙ met.can.longest))
      (heads-fit met.can.each.mtu now first (answers now ns) (all-answered met.can.each.mtu now met.can.each.least met.can.each.moment ns met.can.each.lawful))

  -- the head of the class in front is one of those that the round is of
  abbrev pub can-go : CanGo len r s
  can-go = record { heads = heads_of now first ns; fit = fit; shown = front-shown; round = h.round }

  module _ (granted : Granted ≡ turn_answer len s.active) {s1 : Schedule} {r2 : Round} (asks : nat_lt 0 unasked ≡ true → (s1 ≡ turned len s) × (r2 ≡ r))
      (goes : nat_lt 0 unasked ≡ false → (h : CanGo len r s) → HasGone h.heads len s s1 r2) where
    fits : len ≤ s.max_len
    fits = short-enough met shows offer

    pub fewer-needed : sum_by (need (λ m. quantum_of m s1.classes) (heads_of now first ns)) s1.active < sum_by (need (λ m. quantum_of m s.classes) (heads_of now first ns)) s.active
    fewer-needed = elim (cases_Bool (nat_lt 0 unasked)) [
      | inl some ↦ fewer-grants met shows offer granted (asks some).0
      | inr none ↦ measure_gone heads s s1 met.class len r2 met.lawful met.front (offered-head met shows offer) (falls_short s met.class len met.front granted) fits (goes none can-go)
    ]

    module _ {left : ℕ} (count : left ≡ unasked - 1) where
      late-go-on : nat_lt 0 unasked ≡ false → HasGone heads len s s1 r2 → AreClassesAsked now first (turned len s) ns (set ms place d) left result sink sink3
          → AreClassesAsked now first s1 ns (set ms place d) left result sink sink3
      late-go-on none g base =
          let late : length first.active ≤ base.turns = omega (arith, ltb-false 0 unasked none, count, base.remaining) in
          let turns : ℕ = base.turns + g.rounds * length (turned len s).active in
          let same : take base.turns first.active ≡ take turns first.active = take_all base.turns first.active late ∙ sym (take_all turns first.active (omega (arith, late))) in
          record {
            turns = turns;
            serving = subst (λ (t : Schedule). IsServing heads first t turns) (sym g.after)
                (serving_rounds heads first (turned len s) base.turns g.rounds base.serving (turned_lawful s len met.lawful fits) g.needed late);
            remaining = omega (arith, base.remaining, late);
            asking = subst (λ (es : List Entry). IsAsking ns (set ms place d) (peeked_classes first es (answers now ns)) (rises_of first es (answers now ns))) same base.asking;
            counted = subst (λ (es : List Entry). IsCounted (rises_of first es (answers now ns)) result) same base.counted;
            told = subst (λ (es : List Entry). IsToldOf (rises_of first es (answers now ns)) sink sink3) same base.told;
          }

      pub rounds-go-on : AreClassesAsked now first s1 ns (set ms place d) left result sink sink3
      rounds-go-on = elim (cases_Bool (nat_lt 0 unasked)) [
        | inl some ↦ classes-go-on met shows offer granted (asks some).0 count
        | inr none ↦ late-go-on none (goes none can-go) (classes-go-on met shows offer granted refl count)
      ]

      pub round-goes-on : IsInRound now first s1 ns left r2
      round-goes-on = elim (cases_Bool (nat_lt 0 unasked)) [
        | inl some ↦ round-starts now first s1 ns left r2 ((asks some).1 ∙ h.begins some)
        | inr none ↦ record {
          begins = λ more. absurd (omega (arith, ltb-false 0 unasked none, ltb-true 0 left more, count));
          round = (goes none can-go).round;
        }
      ]
