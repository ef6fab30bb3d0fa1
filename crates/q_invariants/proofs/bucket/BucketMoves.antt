-- What one event, and then a stretch of events, comes to at a tbf.
use Rattle.std.proofs.Common.{◌≡◌, ℕ, ◌+◌, ◌-◌, ◌*◌, ◌≤◌, Bool, true, ◌⊎◌, inl, inr, List, [], ◌++◌, refl, sym, ap, subst, ◌∙◌, Option, Some, None, arith}
use Rattle.std.specs.Option.{option_map_or}
use Rattle.std.proofs.Math.Nat.{mul-add}
use Rattle.std.proofs.lemmas.List.{append-nil, append_assoc}
use Rattle.std.proofs.lemmas.List.Sums.{sum_by-append}
use Rattle.std.proofs.lemmas.Option.{none-some, same_Some, option_and_then_some}
use Rattle.q_packet.specs.Descriptor.{Descriptor}
use Rattle.q_packet.specs.declared.cause.Cause.TheVariants.{Purged}
use Rattle.q_bucket.specs.Level.{TokenBucket, units_in_byte, level_at, allows, after_spend, after_change}
use Rattle.q_model.specs.declared.event.Event.{Event}
use Rattle.q_model.specs.declared.event.Event.TheVariants as event
use Rattle.q_model.specs.Events.{IsEvent}
use Rattle.q_model.specs.Tally.{Note, history}
use Rattle.q_model.specs.Node.{Discipline, Fifo, Prio, Tbf, Drr, FqCodel, Own, Node, children, shape, each}
use Rattle.q_model.specs.Beneath.{beneath_own, is_empty}
use Rattle.q_model.specs.Work.{Worked, losses_of, settled_in}
use Rattle.q_model.specs.Put.{queued_in}
use Rattle.q_model.specs.Ask.{Asked, holding, ask_discipline, ask_own}
use Rattle.q_model.specs.Edit.{edited_at}
use Rattle.q_model.specs.Lawful.{IsLawfulDiscipline}
use Rattle.q_model.specs.Step.{DeviceState, step}
use Rattle.q_model.specs.Stretches.{sent_by, spent_by, bytes_sent, bytes_spent, length_held, qdisc, TbfAt, tbf_of, tbf_in}
use Rattle.q_invariants.proofs.ask.AskStages.{IsStageOf}
use Rattle.q_invariants.proofs.bucket.BucketSteps.{IsPaid, paid-nothing, paid-spend, paid-change, IsTbfStage, tbf-stage, holding-stage}
use Rattle.q_invariants.proofs.edit.EditComes.{IsAbove}
use Rattle.q_invariants.proofs.edit.EditForms.{IsForm}
use Rattle.q_invariants.proofs.put.PutKinds.{put-stage}
use Rattle.q_invariants.proofs.Replays.{IsKept}
use Rattle.q_invariants.proofs.sums.NoteSums.{sum-risen, risen-losses, past-sent, past-spent}
use Rattle.q_invariants.proofs.sums.Risen.{AllRise, all-rise}
use Rattle.q_invariants.proofs.sums.Told.{noted-history}
use Rattle.q_invariants.proofs.tree.StepNodes.{IsAsked, IsPut, IsRemadeSo, IsEdited, Becomes, becomes, clock-rises}
use Rattle.q_invariants.proofs.tree.Within.{found, lawful-of}

pub same-bucket : (b c : TokenBucket) (l m : ℕ) → ◌≡◌ {A = Discipline} (Tbf b l) (Tbf c m) → b ≡ c
same-bucket b c l m e = cc

-- what one event makes of a node of one bucket, with another
pub record TbfStep (clock now : ℕ) (x y : TbfAt) : Type 0 where
  pub notes : List Note
  pub is : y.noted ≡ x.noted ++ notes
  pub paid : IsPaid clock now x.bucket y.bucket (bytes_spent notes)
  pub held : bytes_sent notes + length_held y.held ≡ bytes_spent notes + length_held x.held
  pub later : clock ≤ now

-- what several events make of it
pub record TbfMoves (clock now : ℕ) (x y : TbfAt) : Type 0 where
  pub notes : List Note
  pub is : y.noted ≡ x.noted ++ notes
  pub level : bytes_spent notes * units_in_byte + level_at y.bucket now ≤ level_at x.bucket clock + x.bucket.rate * (now - clock)
  pub held : bytes_sent notes + length_held y.held ≡ bytes_spent notes + length_held x.held
  pub later : clock ≤ now

abbrev at_node : TokenBucket → Node (List Note) → TbfAt
at_node b n = record { bucket = b; held = n.own.held; noted = n.memory }

module _ (clock now : ℕ) (b : TokenBucket) (limit : ℕ) (n : Node (List Note)) (is : n.own.discipline ≡ Tbf b limit) (old : b.last ≤ clock) (later : clock ≤ now) where
  -- nothing was spent, and nothing sent
  quiet-step : (c : TokenBucket) (after : Node (List Note)) (notes : List Note) → after.memory ≡ n.memory ++ notes → bytes_spent notes ≡ 0 → bytes_sent notes ≡ 0 → after.own.held ≡ n.own.held
      → IsPaid clock now b c 0 → TbfStep clock now (at_node b n) (at_node c after)
  quiet-step c after notes memory spent sent held paid = record {
    notes = notes;
    is = memory;
    paid = subst (IsPaid clock now b c) (sym spent) paid;
    held = omega (arith, spent, sent, ap length_held held);
    later = later;
  }

  ask-stage : (below : List Asked) → AllRise below → (w : Worked) → IsStageOf (ask_own now n.own below) w → IsTbfStage now b w n.own.held
  ask-stage below rises w stage = by n.own.held refl stage
    where
      by : (o : Option Descriptor) → n.own.held ≡ o → IsStageOf (option_map_or (holding n.own below) o (ask_discipline now n.own below n.own.discipline)) w → IsTbfStage now b w n.own.held
      by (Some p) e st = holding-stage now n.own below b limit p is e w st
      by None e st =
          tbf-stage now n.own below b limit is e rises w
          (subst (λ (d : Discipline). IsStageOf (ask_discipline now n.own below d) w) is st)

  asked-step : (c : TokenBucket) (most : ℕ) (after : Node (List Note)) → after.own.discipline ≡ Tbf c most → IsAsked now n after → TbfStep clock now (at_node b n) (at_node c after)
  asked-step c most after now_is asked =
      let w : Worked = asked.worked in
      let st = ask-stage (each (ask_own now) (shape n).below) (all-rise now (shape n).below) w asked.stage in
      let own : w.own ≡ after.own = ap (λ (k : Node (List Note)). k.own) asked.is in
      let bucket : st.bucket ≡ c = same-bucket st.bucket c st.limit most (sym st.is ∙ ap (λ (o : Own). o.discipline) own ∙ now_is) in
      let paid : IsPaid clock now b c st.paid = subst (λ (x : TokenBucket). IsPaid clock now b x st.paid) bucket (pays st) in
      record {
        notes = w.memory;
        is = ap (λ (k : Node (List Note)). k.memory) (sym asked.is) ∙ noted-history n.memory w.memory;
        paid = subst (IsPaid clock now b c) (sym st.paid_is) paid;
        held = omega (arith, st.held_is, st.paid_is, st.sent_is, ap (λ (o : Own). length_held o.held) own);
        later = later;
      }
    where
      pays : (st : IsTbfStage now b asked.worked n.own.held) → IsPaid clock now b st.bucket st.paid
      pays st = by st.moved
        where
          by : ((st.bucket ≡ b) × (st.paid ≡ 0)) ⊎ ((allows b now st.paid ≡ true) × (st.bucket ≡ after_spend b now st.paid)) → IsPaid clock now b st.bucket st.paid
          by (inl e) = subst (λ (x : TokenBucket). IsPaid clock now b x st.paid) (sym e.0) (subst (IsPaid clock now b b) (sym e.1) (paid-nothing b clock now old later))
          by (inr e) = subst (λ (x : TokenBucket). IsPaid clock now b x st.paid) (sym e.1) (paid-spend b clock now old later st.paid e.0)

  unpaid : (c : TokenBucket) → b ≡ c → IsPaid clock now b c 0
  unpaid c e = subst (λ (x : TokenBucket). IsPaid clock now b x 0) e (paid-nothing b clock now old later)

  put-step : (p : Descriptor) (c : TokenBucket) (most : ℕ) (after : Node (List Note)) → after.own.discipline ≡ Tbf c most → IsPut now p n after → TbfStep clock now (at_node b n) (at_node c after)
  put-step p c most after now_is put =
      let w : Worked = put.worked in
      let st = put-stage now p put.refusal (shape n) w put.way in
      let own : w.own ≡ after.own = ap (λ (k : Node (List Note)). k.own) put.is in
      quiet-step c after w.memory (ap (λ (k : Node (List Note)). k.memory) (sym put.is) ∙ noted-history n.memory w.memory)
      (st.notes spent_by past-spent (λ q. refl)) (st.notes sent_by past-sent (λ q. refl))
      (ap (λ (o : Own). o.held) (sym own) ∙ st.held)
      (unpaid c (same-bucket b c limit most (sym (by st.discipline) ∙ ap (λ (o : Own). o.discipline) own ∙ now_is)))
    where
      by : (put.worked.own.discipline ≡ n.own.discipline) ⊎ (put.worked.own.discipline ≡ queued_in p now n.own.discipline) ⊎
          ((i : ℕ) × (emptied : Bool) × (put.worked.own.discipline ≡ settled_in i emptied n.own.discipline))
          → put.worked.own.discipline ≡ Tbf b limit
      by (inl e) = e ∙ is
      by (inr (inl e)) = e ∙ ap (queued_in p now) is
      by (inr (inr e)) = e.2 ∙ ap (settled_in e.0 e.1) is

  same-step : (c : TokenBucket) (most : ℕ) (after : Node (List Note)) → after.own.discipline ≡ Tbf c most → after ≡ n → TbfStep clock now (at_node b n) (at_node c after)
  same-step c most after now_is same =
      quiet-step c after [] (ap (λ (k : Node (List Note)). k.memory) same ∙ sym (append-nil n.memory)) refl refl (ap (λ (k : Node (List Note)). k.own.held) same)
      (unpaid c (same-bucket b c limit most (sym is ∙ ap (λ (k : Node (List Note)). k.own.discipline) (sym same) ∙ now_is)))

  edited-step : (c : TokenBucket) (most : ℕ) (after : Node (List Note)) → after.own.discipline ≡ Tbf c most → IsEdited now n after → TbfStep clock now (at_node b n) (at_node c after)
  edited-step c most after now_is edit = by edit.by
    where
      notes : List Note
      notes = losses_of Purged edit.purged

      spent : bytes_spent (losses_of Purged edit.purged) ≡ 0
      spent = sum-risen spent_by past-spent (losses_of Purged edit.purged) (risen-losses Purged edit.purged)

      sent : bytes_sent (losses_of Purged edit.purged) ≡ 0
      sent = sum-risen sent_by past-sent (losses_of Purged edit.purged) (risen-losses Purged edit.purged)

      changed : (x : TokenBucket) → (x ≡ b) ⊎ ((rate : ℕ) × (burst : ℕ) × (x ≡ after_change b rate burst now)) → IsPaid clock now b x 0
      changed x (inl e) = unpaid x (sym e)
      changed x (inr e) = subst (λ (y : TokenBucket). IsPaid clock now b y 0) (sym e.2) (paid-change b clock now old later e.0 e.1)

      by : (after ≡ n) ⊎ IsRemadeSo now (losses_of Purged edit.purged) n after ⊎ IsAbove (losses_of Purged edit.purged) edit.f n after → TbfStep clock now (at_node b n) (at_node c after)
      by (inl same) = same-step c most after now_is same
      by (inr (inl r)) =
          let d : r.own.discipline ≡ Tbf c most = ap (λ (k : Node (List Note)). k.own.discipline) (sym r.is) ∙ now_is in
          let form : IsForm now (Tbf b limit) (children n) (Tbf c most) r.below =
          subst (λ (x : Discipline). IsForm now (Tbf b limit) (children n) x r.below) d (subst (λ (x : Discipline). IsForm now x (children n) r.own.discipline r.below) is r.form.form) in
          quiet-step c after (losses_of Purged edit.purged) (ap (λ (k : Node (List Note)). k.memory) r.is ∙ noted-history n.memory (losses_of Purged edit.purged)) spent sent
          (ap (λ (k : Node (List Note)). k.own.held) r.is ∙ r.form.held) (changed c form)
      by (inr (inr a)) =
          let d : after.own.discipline ≡ Tbf b limit =
          ap (λ (k : Node (List Note)). k.own.discipline) a.is ∙ ap
          (settled_in a.place (is_empty (edited_at history (losses_of Purged edit.purged) edit.f a.path a.child))) is in
          quiet-step c after (losses_of Purged edit.purged) (ap (λ (k : Node (List Note)). k.memory) a.is ∙ noted-history n.memory (losses_of Purged edit.purged)) spent sent
          (ap (λ (k : Node (List Note)). k.own.held) a.is) (unpaid c (same-bucket b c limit most (sym d ∙ now_is)))

  event-step : (e : Event) (c : TokenBucket) (most : ℕ) (after : Node (List Note)) → after.own.discipline ≡ Tbf c most → Becomes now e n after → TbfStep clock now (at_node b n) (at_node c after)
  event-step (event.Arrive p moment) c most after now_is h = put-step p c most after now_is h
  event-step (event.Poll moment) c most after now_is h = asked-step c most after now_is h
  event-step (event.Command command moment) c most after now_is (inl same) = same-step c most after now_is same
  event-step (event.Command command moment) c most after now_is (inr edit) = edited-step c most after now_is edit

-- ---- what stands in a device

pub record TbfNode (major : ℕ) (d : DeviceState (List Note)) (x : TbfAt) : Type 0 where
  pub node : Node (List Note)
  pub limit : ℕ
  pub there : qdisc major d ≡ Some node
  pub discipline : node.own.discipline ≡ Tbf x.bucket limit
  pub is : at_node x.bucket node ≡ x

pub tbf-node : (major : ℕ) (d : DeviceState (List Note)) (x : TbfAt) → tbf_in major d ≡ Some x → TbfNode major d x
tbf-node major d x e = option_and_then_some (λ (n : Node (List Note)). tbf_of n n.own.discipline) (qdisc major d) x e (λ n there at. by n n.own.discipline refl there at)
  where
    by : (n : Node (List Note)) (k : Discipline) → n.own.discipline ≡ k → qdisc major d ≡ Some n → tbf_of n k ≡ Some x → TbfNode major d x
    by n (Tbf b limit) is there at =
        let same : at_node b n ≡ x = same_Some (at_node b n) x at in
        let bucket : b ≡ x.bucket = ap (λ (y : TbfAt). y.bucket) same in
        record { node = n; limit = limit; there = there; discipline = is ∙ ap (λ c. Tbf c limit) bucket; is = subst (λ c. at_node c n ≡ x) bucket same }
    by n (Fifo limit queue) is there at = absurd (none-some x at)
    by n (Prio priomap) is there at = absurd (none-some x at)
    by n (Drr s) is there at = absurd (none-some x at)
    by n (FqCodel s) is there at = absurd (none-some x at)

-- its bucket was brought up no later than at the clock, and is within its burst
pub tbf-lawful : (major : ℕ) (d : DeviceState (List Note)) (x : TbfAt) → IsKept d → tbf_in major d ≡ Some x → x.bucket.last ≤ d.clock
tbf-lawful major d x kept e =
    let t = tbf-node major d x e in
    let f = found major d t.node t.there in
    let law = (lawful-of d.tree.device.mtu d.clock t.node d.tree.root kept.lawful f.there).0.discipline in
    (subst (λ (k : Discipline). IsLawfulDiscipline d.tree.device.mtu d.clock (each beneath_own t.node.below) k) t.discipline law).last

pub tbf-step : (major : ℕ) (d : DeviceState (List Note)) (e : Event) (x y : TbfAt) → IsKept d → IsEvent e → tbf_in major d ≡ Some x → tbf_in major (step history d e).device ≡ Some y
    → TbfStep d.clock (step history d e).device.clock x y
tbf-step major d e x y kept range is at =
    let t = tbf-node major d x is in
    let u = tbf-node major (step history d e).device y at in
    let now : ℕ = (step history d e).device.clock in
    let made : TbfStep d.clock now (at_node x.bucket t.node) (at_node y.bucket u.node) =
    event-step d.clock now x.bucket t.limit t.node t.discipline (tbf-lawful major d x kept is) (clock-rises d e) e y.bucket u.limit u.node u.discipline
    (becomes major d e t.node u.node kept range t.there u.there) in
    subst (λ (k : TbfAt). TbfStep d.clock now k y) t.is (subst (λ (k : TbfAt). TbfStep d.clock now (at_node x.bucket t.node) k) u.is made)

pub step-moves : (major : ℕ) (d : DeviceState (List Note)) (e : Event) (x y : TbfAt) → IsKept d → IsEvent e → tbf_in major d ≡ Some x → tbf_in major (step history d e).device ≡ Some y
    → TbfMoves d.clock (step history d e).device.clock x y
step-moves major d e x y kept range is at =
    let s = tbf-step major d e x y kept range is at in
    record { notes = s.notes; is = s.is; level = s.paid.level; held = s.held; later = s.later }

-- two moves at one rate
pub more-moves : (r s t : ℕ) (x y z : TbfAt) → y.bucket.rate ≡ x.bucket.rate → TbfMoves r s x y → TbfMoves s t y z → TbfMoves r t x z
more-moves r s t x y z rate a b =
    let split = mul-add x.bucket.rate (s - r) (t - s) in
    let whole : (s - r) + (t - s) ≡ t - r = omega (arith, a.later, b.later) in
    let brought = ap (λ n. x.bucket.rate * n) whole in
    let same = ap (λ n. n * (t - s)) rate in
    let spent = sum_by-append spent_by a.notes b.notes in
    let sent = sum_by-append sent_by a.notes b.notes in
    record {
      notes = a.notes ++ b.notes;
      is = b.is ∙ ap (λ ns. ns ++ b.notes) a.is ∙ append_assoc x.noted a.notes b.notes;
      level = let first = a.level in let second = b.level in omega (arith, spent, split, brought, same, first, second);
      held = let first = a.held in let second = b.held in omega (arith, spent, sent, first, second);
      later = omega (arith, a.later, b.later);
    }

pub no-moves : (clock : ℕ) (x : TbfAt) → TbfMoves clock clock x x
no-moves clock x = record {
  notes = [];
  is = sym (append-nil x.noted);
  level = omega arith;
  held = omega arith;
  later = omega arith;
}
