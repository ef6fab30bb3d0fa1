use Rattle.std.proofs.Common.{◌≡◌, ◌<◌, ℕ, ◌-◌, length, drop, sym, ap, ◌∙◌, subst, arith}
use Rattle.std.proofs.Common.{inl, inr}
use Rattle.std.specs.Prelude.{Option}
use Rattle.std.proofs.lemmas.Bool.{cases_lt}
use Rattle.q_drr.specs.Schedule.{Schedule, turned, IsLawful}
use Rattle.q_drr.specs.Rounds.{AllNeed, AreWithin, CanGo, IsRound, rounds_given}
use Rattle.q_drr.specs.declared.round.Round.{Round}
use Rattle.q_drr.proofs.ChangeLemmas.{turned_lawful}
use Rattle.q_drr.proofs.TakeLemmas.{Front}
use Rattle.q_drr.proofs.RoundLemmas.{need_zero, need_covered, answer_covers, answer_short, front_some, front_head, are_within, rounds_zero, round_more, none_left, none_needed, turned_long}
use Rattle.q_drr.proofs.round.Round.turn.Goals.{After-turn-turn, After-min-self, then-self-eq0, else-self-eq0}
use Rattle.q_drr.proofs.round.Round.turn.Goals as goal

abbrev s0 : After-turn-turn → Schedule
s0 c = c.args.active.now

front : (c : After-turn-turn) → (n : ℕ) × Front n (s0 c)
front c = front_some c.args.active.now c.requires.front

pub returns-then-needed-eq0-clause-goes : goal.returns-then-needed-eq0-clause-goes
returns-then-needed-eq0-clause-goes c = λ granted h.
    let f = front (goal.at.returns-then-needed-eq0-clause-goes c).After-turn-turn in
    let long = need_zero c.args.active.now f.0 c.args.head_len f.1 c.grants_needed-needed.ensures.lawful (sym c.if-needed-eq0.true ∙ c.grants_needed-needed.ensures.value) in
    let send = answer_covers c.args.active.now f.0 c.args.head_len f.1 long in
    let other = sym granted ∙ c.turn-turn.ensures.answer ∙ send in cc

-- some grant is needed, so it was granted
short : (c : After-min-self) → let f = front_some c.args.active.now c.requires.front in f.1.first.deficit < c.args.head_len
short c =
    let f = front_some c.args.active.now c.requires.front in
    elim (cases_lt f.1.first.deficit c.args.head_len) [
      | inl less ↦ less
      | inr long ↦ absurd (c.if-needed-eq0.false (c.grants_needed-needed.ensures.value ∙ sym (need_covered c.args.active.now f.0 c.args.head_len f.1 long)))
    ]

lawful : (c : After-min-self) → IsLawful c.args.active.now
lawful c = c.grants_needed-needed.ensures.lawful

lawful_after : (c : After-min-self) → IsLawful (turned c.args.head_len c.args.active.now)
lawful_after c = turned_lawful c.args.active.now c.args.head_len (lawful c) c.requires.in_range

-- the round as it stood before the turn, or a new one
begun : (c : After-min-self) (h : CanGo c.args.head_len c.args.self.now c.args.active.now) → IsRound h.heads c.if-self-eq0.self c.args.active.now
begun c h =
    let f = front_some c.args.active.now c.requires.front in
    elim c.if-self-eq0.branch [
      | then-self-eq0 w ↦ subst (λ (r : Round). IsRound h.heads r c.args.active.now) (sym w.self-is)
          (none_left h.heads _ c.args.active.now _ (w.active_count-self.ensures ∙ ap (λ (v : Schedule). length v.active) c.turn-turn.ensures.after ∙ turned_long c.args.active.now f.0 c.args.head_len f.1 (short c)))
      | else-self-eq0 w ↦ subst (λ (r : Round). IsRound h.heads r c.args.active.now) (sym w.self-is) h.round
    ]

some_left : (c : After-min-self) → 0 < c.if-self-eq0.self.left
some_left c =
    let f = front_some c.args.active.now c.requires.front in
    elim c.if-self-eq0.branch [
      | then-self-eq0 w ↦ omega (arith, ap (λ (r : Round). r.left) w.self-is, w.active_count-self.ensures, ap (λ (v : Schedule). length v.active) c.turn-turn.ensures.after, turned_long c.args.active.now f.0 c.args.head_len f.1 (short c), c.requires.front)
      | else-self-eq0 w ↦ omega (arith, ap (λ (r : Round). r.left) w.self-is, w.if-self-eq0.false)
    ]

more : (c : After-min-self) (h : CanGo c.args.head_len c.args.self.now c.args.active.now)
    → AllNeed h.heads c.min-self.result c.args.active.now.classes (drop (c.if-self-eq0.self.left - 1) (turned c.args.head_len c.args.active.now).active)
more c h =
    let f = front_some c.args.active.now c.requires.front in
    round_more h.heads c.args.active.now f.0 c.args.head_len f.1 (lawful c) (front_head h.heads c.args.active.now f.0 f.1 c.args.head_len h.shown) (short c)
    c.grants_needed-needed.result c.grants_needed-needed.ensures.value c.if-self-eq0.self.left (c.if-self-eq0.self.left - 1) c.if-self-eq0.self.fewest c.min-self.result
    (omega (arith, some_left c)) c.min-self.ensures (begun c h)

-- the round is over
over : (c : After-min-self) (h : CanGo c.args.head_len c.args.self.now c.args.active.now) → c.if-self-eq0.self.left - 1 ≡ 0
    → AllNeed h.heads c.min-self.result c.args.active.now.classes (turned c.args.head_len c.args.active.now).active
over c h none = subst (λ (m : ℕ). AllNeed h.heads c.min-self.result c.args.active.now.classes (drop m (turned c.args.head_len c.args.active.now).active)) none (more c h)

pub grant_rounds-requires : goal.grant_rounds-requires
grant_rounds-requires c =
    let a = (goal.at.grant_rounds-requires c).After-min-self in
    let h = c.requires.round in
    record {
      within = subst (AreWithin c.min-self.result) (sym c.turn-turn.ensures.after)
          (are_within h.heads c.min-self.result (turned c.args.head_len c.args.active.now) (lawful_after a) h.fit (over a h c.if-self-eq0-2.true));
    }

pub returns-then-self-eq0-2-clause-sends : goal.returns-then-self-eq0-2-clause-sends
returns-then-self-eq0-2-clause-sends c = λ sends.
    let a = (goal.at.returns-then-self-eq0-2-clause-sends c).After-min-self in
    let f = front_some c.args.active.now c.requires.front in
    let granted = answer_short c.args.active.now f.0 c.args.head_len f.1 (short a) in
    let other = sym sends ∙ c.turn-turn.ensures.answer ∙ granted in cc

pub returns-then-self-eq0-2-clause-goes : goal.returns-then-self-eq0-2-clause-goes
returns-then-self-eq0-2-clause-goes c = λ granted h.
    let a = (goal.at.returns-then-self-eq0-2-clause-goes c).After-min-self in
    let after = c.grant_rounds.ensures ∙ ap (rounds_given c.min-self.result) c.turn-turn.ensures.after in
    record {
      rounds = c.min-self.result;
      needed = over a h c.if-self-eq0-2.true;
      after = after;
      round = subst2 h.heads (c.if-self-eq0.self.left - 1) c.if-self-eq0-2.true c.grant_rounds.new.self;
    }
  where
    subst2 : (heads : ℕ → Option ℕ) (left : ℕ) → left ≡ 0 → (t : Schedule) → IsRound heads (record { left = left; fewest = 0 }) t
    subst2 heads left none t = subst (λ (m : ℕ). AllNeed heads 0 t.classes (drop m t.active)) (sym none) (none_needed heads t.classes t.active)

pub returns-else-self-eq0-2-clause-goes : goal.returns-else-self-eq0-2-clause-goes
returns-else-self-eq0-2-clause-goes c = λ granted h.
    let a = (goal.at.returns-else-self-eq0-2-clause-goes c).After-min-self in
    record {
      rounds = 0;
      needed = none_needed h.heads c.args.active.now.classes (turned c.args.head_len c.args.active.now).active;
      after = c.turn-turn.ensures.after ∙ rounds_zero (turned c.args.head_len c.args.active.now) (lawful_after a);
      round = subst (λ (t : Schedule). AllNeed h.heads c.min-self.result t.classes (drop (c.if-self-eq0.self.left - 1) t.active)) (sym c.turn-turn.ensures.after) (more a h);
    }
