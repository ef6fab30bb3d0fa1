-- What one event changes of a tbf: what its bucket pays, what it sends, and the packet that it holds.
use Rattle.std.proofs.Common.{◌≡◌, ℕ, ◌+◌, ◌-◌, ◌*◌, ◌≤◌, Bool, true, false, ◌⊎◌, inl, inr, List, [], ◌∷◌, ◌++◌, map, refl, sym, ap, subst, ◌∙◌, Option, Some, None, option_to_list, arith}
use Rattle.std.specs.Prelude.{slice_get, if◌then◌else◌}
use Rattle.std.specs.Option.{option_map_or}
use Rattle.std.proofs.Math.Nat.{mul-add}
use Rattle.std.proofs.lemmas.Bool.{cond-true, leb-true}
use Rattle.std.proofs.lemmas.Option.{none-some, same_Some}
use Rattle.std.proofs.lemmas.List.Sums.{sum_by-append}
use Rattle.q_packet.specs.Descriptor.{Descriptor}
use Rattle.q_bucket.specs.Level.{TokenBucket, units_in_byte, capacity, level_at, allows, after_spend, after_change}
use Rattle.q_model.specs.Tally.{Sent, Spent}
use Rattle.q_model.specs.Node.{Tbf, Own}
use Rattle.q_model.specs.Work.{Worked}
use Rattle.q_model.specs.Ask.{Asked, holding, Dequeue, dequeued, waits, spends, ask_child, ask_tbf, since_shown}
use Rattle.q_model.specs.Stretches.{sent_by, spent_by, bytes_sent, bytes_spent, length_held}
use Rattle.q_invariants.proofs.ask.AskStages.{IsStageOf}
use Rattle.q_invariants.proofs.sums.NoteSums.{AreRisen, sum-risen, past-sent, past-spent}
use Rattle.q_invariants.proofs.sums.Risen.{AllRise}

-- ---- levels

-- what a bucket had and what its rate has brought since, up to a moment, are within its burst
abbrev pub IsUncutAt : ℕ → TokenBucket → Type 0
IsUncutAt now b = b.level + b.rate * (now - b.last) ≤ capacity b

-- what is paid and what is left: no more than there was and the rate brought, and just as much where the burst cuts nothing off
pub record IsPaid (clock now : ℕ) (b c : TokenBucket) (paid : ℕ) : Type 0 where
  pub level : paid * units_in_byte + level_at c now ≤ level_at b clock + b.rate * (now - clock)
  pub exact : c.burst ≡ b.burst → IsUncutAt now b → paid * units_in_byte + level_at c now ≡ level_at b clock + b.rate * (now - clock)
  pub uncut : IsUncutAt now b → IsUncutAt now c

module _ (b : TokenBucket) (clock now : ℕ) (old : b.last ≤ clock) (later : clock ≤ now) where
  -- what the rate brings is brought until the clock and from then on
  brought : b.rate * (now - b.last) ≡ b.rate * (clock - b.last) + b.rate * (now - clock)
  brought =
      let whole : (clock - b.last) + (now - clock) ≡ now - b.last = omega (arith, old, later) in
      ap (λ n. b.rate * n) (sym whole) ∙ mul-add b.rate (clock - b.last) (now - clock)

  level-later : level_at b now ≤ level_at b clock + b.rate * (now - clock)
  level-later = omega (arith, brought)

  level-exact : IsUncutAt now b → level_at b now ≡ level_at b clock + b.rate * (now - clock)
  level-exact uncut = omega (arith, brought, uncut)

  -- time that has not passed brings nothing
  no-time : (rate : ℕ) → rate * (now - now) ≡ 0
  no-time rate = (let none : now - now ≡ 0 = omega arith in ap (λ n. rate * n) none) ∙ omega arith

  pub paid-nothing : IsPaid clock now b b 0
  paid-nothing = record { level = omega (arith, level-later); exact = λ same uncut. omega (arith, level-exact uncut); uncut = λ uncut. uncut }

  pub paid-spend : (len : ℕ) → allows b now len ≡ true → IsPaid clock now b (after_spend b now len) len
  paid-spend len may =
      let c : TokenBucket = record b { level = level_at b now - len * units_in_byte; last = now } in
      let is : after_spend b now len ≡ c = cond-true (allows b now len) c b may in
      let fits : len * units_in_byte ≤ level_at b now = leb-true (len * units_in_byte) (level_at b now) may in
      subst (λ (x : TokenBucket). IsPaid clock now b x len) (sym is) (record {
        level = omega (arith, fits, no-time b.rate, level-later);
        exact = λ same uncut. omega (arith, fits, no-time b.rate, level-exact uncut);
        uncut = λ uncut. omega (arith, no-time b.rate);
      })

  pub paid-change : (rate burst : ℕ) → IsPaid clock now b (after_change b rate burst now) 0
  paid-change rate burst = record {
    level = omega (arith, no-time rate, level-later);
    exact = λ same uncut. omega (arith, no-time rate, level-exact uncut, ap (λ n. n * units_in_byte) same);
    uncut = λ uncut. omega (arith, no-time rate);
  }

-- ---- a take

module _ (now : ℕ) (b : TokenBucket) (w : Worked) where
  pub record IsTbfStage (held : Option Descriptor) : Type 0 where
    pub bucket : TokenBucket
    pub limit : ℕ
    pub paid : ℕ
    pub sent : ℕ
    pub is : w.own.discipline ≡ Tbf bucket limit
    pub paid_is : bytes_spent w.memory ≡ paid
    pub sent_is : bytes_sent w.memory ≡ sent
    pub moved : ((bucket ≡ b) × (paid ≡ 0)) ⊎ ((allows b now paid ≡ true) × (bucket ≡ after_spend b now paid))
    pub held_is : sent + length_held w.own.held ≡ paid + length_held held

pub given-bytes : (o : Option Descriptor) → (bytes_sent (map Sent (option_to_list o)) ≡ length_held o) × (bytes_spent (map Sent (option_to_list o)) ≡ 0)
given-bytes None = (refl, refl)
given-bytes (Some p) = (omega arith, omega arith)

module _ (now : ℕ) (own : Own) (below : List Asked) (b : TokenBucket) (limit : ℕ) (is : own.discipline ≡ Tbf b limit) (none : own.held ≡ None) where
  no-length : length_held own.held ≡ 0
  no-length = ap length_held none

  dequeued-stage : (d : Dequeue) (c : TokenBucket) (most paid : ℕ) → d.after.discipline ≡ Tbf c most → AreRisen d.rises → bytes_spent d.mine ≡ paid → bytes_sent d.mine ≡ 0
      → ((c ≡ b) × (paid ≡ 0)) ⊎ ((allows b now paid ≡ true) × (c ≡ after_spend b now paid)) → length_held d.packet ≡ paid
      → (w : Worked) → IsStageOf (dequeued own below d) w → IsTbfStage now b w own.held
  dequeued-stage d c most paid after rises spent sent moved packet w stage =
      let past = sum-risen spent_by past-spent d.rises rises in
      let gone = sum-risen sent_by past-sent d.rises rises in
      let mine_spent = sum_by-append spent_by d.rises d.mine in
      let mine_sent = sum_by-append sent_by d.rises d.mine in
      let all_spent = sum_by-append spent_by (d.rises ++ d.mine) (map Sent (option_to_list d.packet)) in
      let all_sent = sum_by-append sent_by (d.rises ++ d.mine) (map Sent (option_to_list d.packet)) in
      let given = given-bytes d.packet in
      by stage (record {
        bucket = c;
        limit = most;
        paid = paid;
        sent = 0;
        is = after;
        paid_is = omega (arith, past, mine_spent, spent);
        sent_is = omega (arith, gone, mine_sent, sent);
        moved = moved;
        held_is = omega (arith, packet, no-length);
      }) (record {
        bucket = c;
        limit = most;
        paid = paid;
        sent = paid;
        is = after;
        paid_is = omega (arith, past, mine_spent, spent, all_spent, given.1);
        sent_is = omega (arith, gone, mine_sent, sent, all_sent, given.0, packet);
        moved = moved;
        held_is = omega (arith, packet, no-length);
      })
    where
      by : IsStageOf (dequeued own below d) w → IsTbfStage now b (dequeued own below d).peeked own.held → IsTbfStage now b (dequeued own below d).taken own.held → IsTbfStage now b w own.held
      by (inl e) peeked taken = subst (λ (x : Worked). IsTbfStage now b x own.held) (sym e) (record {
        bucket = b;
        limit = limit;
        paid = 0;
        sent = 0;
        is = is;
        paid_is = refl;
        sent_is = refl;
        moved = inl (refl, refl);
        held_is = omega arith;
      })
      by (inr (inl e)) peeked taken = subst (λ (x : Worked). IsTbfStage now b x own.held) (sym e) peeked
      by (inr (inr e)) peeked taken = subst (λ (x : Worked). IsTbfStage now b x own.held) (sym e) taken

  child-stage : (a : Asked) → AreRisen a.rises → (o : Option Descriptor) (w : Worked)
      → IsStageOf (option_map_or (λ (p : Descriptor). if allows b now p.len then spends own below b limit now a p else waits own below a) o (waits own below a)) w → IsTbfStage now b w own.held
  child-stage a rises None w stage =
      dequeued-stage (record { after = own; children = a.peeked ∷ []; rises = a.rises; mine = []; packet = None; since = 0 }) b limit 0 is rises refl refl (inl (refl, refl)) refl w stage
  child-stage a rises (Some p) w stage = by (allows b now p.len) refl stage
    where
      by : (may : Bool) → allows b now p.len ≡ may → IsStageOf (if may then spends own below b limit now a p else waits own below a) w → IsTbfStage now b w own.held
      by true e st =
          dequeued-stage (record {
            after = record own { discipline = Tbf (after_spend b now p.len) limit };
            children = a.taken ∷ [];
            rises = a.rises;
            mine = Spent p.len ∷ [];
            packet = Some p;
            since = since_shown a;
          }) (after_spend b now p.len) limit p.len refl rises (omega arith) refl (inr (e, refl)) refl w st
      by false e st =
          dequeued-stage (record { after = own; children = a.peeked ∷ []; rises = a.rises; mine = []; packet = None; since = 0 }) b limit 0 is rises refl refl (inl (refl, refl)) refl w st

  pub tbf-stage : AllRise below → (w : Worked) → IsStageOf (ask_tbf now own below b limit) w → IsTbfStage now b w own.held
  tbf-stage rises w stage = by (slice_get below 0) (at below rises) stage
    where
      at : (xs : List Asked) → AllRise xs → (a : Asked) → slice_get xs 0 ≡ Some a → AreRisen a.rises
      at [] h a e = absurd (none-some a e)
      at (x ∷ xs) h a e = subst (λ (y : Asked). AreRisen y.rises) (same_Some x a e) h.0

      by : (o : Option Asked) → ((a : Asked) → o ≡ Some a → AreRisen a.rises)
          → IsStageOf (option_map_or (ask_child now own below b limit) o
          (dequeued own below (record { after = own; children = []; rises = []; mine = []; packet = None; since = 0 }))) w
          → IsTbfStage now b w own.held
      by None h st = dequeued-stage (record { after = own; children = []; rises = []; mine = []; packet = None; since = 0 }) b limit 0 is tt refl refl (inl (refl, refl)) refl w st
      by (Some a) h st = child-stage a (h a refl) a.shown w st

pub holding-stage : (now : ℕ) (own : Own) (below : List Asked) (b : TokenBucket) (limit : ℕ) (p : Descriptor) → own.discipline ≡ Tbf b limit → own.held ≡ Some p
    → (w : Worked) → IsStageOf (holding own below p) w → IsTbfStage now b w own.held
holding-stage now own below b limit p is held w stage = by stage
  where
    same : (x : Worked) → x.own ≡ own → x.memory ≡ [] → IsTbfStage now b x own.held
    same x e none = record {
      bucket = b;
      limit = limit;
      paid = 0;
      sent = 0;
      is = ap (λ (o : Own). o.discipline) e ∙ is;
      paid_is = ap bytes_spent none;
      sent_is = ap bytes_sent none;
      moved = inl (refl, refl);
      held_is = omega (arith, ap (λ (o : Own). length_held o.held) e);
    }

    by : IsStageOf (holding own below p) w → IsTbfStage now b w own.held
    by (inl e) = subst (λ (x : Worked). IsTbfStage now b x own.held) (sym e) (same (holding own below p).before refl refl)
    by (inr (inl e)) = subst (λ (x : Worked). IsTbfStage now b x own.held) (sym e) (same (holding own below p).peeked refl refl)
    by (inr (inr e)) = subst (λ (x : Worked). IsTbfStage now b x own.held) (sym e) (record {
      bucket = b;
      limit = limit;
      paid = 0;
      sent = p.len;
      is = is;
      paid_is = omega arith;
      sent_is = omega arith;
      moved = inl (refl, refl);
      held_is = let l : length_held own.held ≡ p.len = ap length_held held in omega (arith, l);
    })
