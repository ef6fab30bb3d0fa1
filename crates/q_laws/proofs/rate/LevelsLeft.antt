-- What one event leaves in a bucket: the level that it had then, but for what it pays, even where its burst cuts it.
use Rattle.std.proofs.Common.{◌≡◌, ℕ, ◌+◌, ◌-◌, ◌*◌, ◌≤◌, ◌⊎◌, inl, inr, Bool, true, ◌++◌, refl, sym, ap, subst, ◌∙◌, List, Option, Some, None, arith}
use Rattle.std.specs.Option.{option_map_or}
use Rattle.std.proofs.lemmas.Bool.{cond-true, leb-true}
use Rattle.q_packet.specs.Descriptor.{Descriptor}
use Rattle.q_packet.specs.declared.cause.Cause.TheVariants.{Purged}
use Rattle.q_bucket.specs.Level.{TokenBucket, units_in_byte, level_at, allows, after_spend, after_change}
use Rattle.q_model.specs.declared.event.Event.{Event}
use Rattle.q_model.specs.declared.event.Event.TheVariants as event
use Rattle.q_model.specs.Ask.{Asked, holding, ask_discipline, ask_own}
use Rattle.q_model.specs.Beneath.{is_empty}
use Rattle.q_model.specs.Edit.{edited_at}
use Rattle.q_model.specs.Events.{IsEvent}
use Rattle.q_model.specs.Node.{Discipline, Tbf, Node, children, shape, each}
use Rattle.q_model.specs.Put.{queued_in}
use Rattle.q_model.specs.Step.{DeviceState, step}
use Rattle.q_model.specs.Stretches.{bytes_spent, TbfAt, tbf_in}
use Rattle.q_model.specs.Tally.{Note, history}
use Rattle.q_model.specs.Work.{Worked, losses_of, settled_in}
use Rattle.q_invariants.proofs.ask.AskStages.{IsStageOf}
use Rattle.q_invariants.proofs.bucket.BucketMoves.{same-bucket, tbf-node}
use Rattle.q_invariants.proofs.bucket.BucketSteps.{IsTbfStage, tbf-stage, holding-stage}
use Rattle.q_invariants.proofs.edit.EditComes.{IsAbove}
use Rattle.q_invariants.proofs.edit.EditForms.{IsForm}
use Rattle.q_invariants.proofs.put.PutKinds.{put-stage}
use Rattle.q_invariants.proofs.Replays.{IsKept}
use Rattle.q_invariants.proofs.sums.Risen.{AllRise, all-rise}
use Rattle.q_invariants.proofs.sums.Told.{noted-history}
use Rattle.q_invariants.proofs.tree.StepNodes.{IsAsked, IsPut, IsRemadeSo, IsEdited, Becomes, becomes}
use Rattle.q_device.proofs.ClassStretches.{same-rest}

-- a bucket of the same burst that has so much at least, but for what was paid
abbrev pub Leaves : ℕ → TokenBucket → TokenBucket → ℕ → Type 0
Leaves now b c paid = c.burst ≡ b.burst → level_at b now ≤ paid * units_in_byte + level_at c now

module _ (now : ℕ) (b : TokenBucket) where
  as-was : (c : TokenBucket) (paid : ℕ) → c ≡ b → Leaves now b c paid
  as-was c paid e same = subst (λ (x : TokenBucket). level_at b now ≤ paid * units_in_byte + level_at x now) (sym e) (omega arith)

  spent-left : (paid : ℕ) → allows b now paid ≡ true → Leaves now b (after_spend b now paid) paid
  spent-left paid may =
      let c : TokenBucket = record b { level = level_at b now - paid * units_in_byte; last = now } in
      let is : after_spend b now paid ≡ c = cond-true (allows b now paid) c b may in
      let fits : paid * units_in_byte ≤ level_at b now = leb-true (paid * units_in_byte) (level_at b now) may in
      subst (λ (x : TokenBucket). Leaves now b x paid) (sym is) (λ same. omega (arith, fits))

  changed-left : (rate burst paid : ℕ) → Leaves now b (after_change b rate burst now) paid
  changed-left rate burst paid same = omega (arith, ap (λ n. n * units_in_byte) same)

  stage-left : (w : Worked) (held : Option Descriptor) (st : IsTbfStage now b w held) → Leaves now b st.bucket st.paid
  stage-left w held st = by st.moved
    where
      by : ((st.bucket ≡ b) × (st.paid ≡ 0)) ⊎ ((allows b now st.paid ≡ true) × (st.bucket ≡ after_spend b now st.paid)) → Leaves now b st.bucket st.paid
      by (inl e) = as-was st.bucket st.paid e.0
      by (inr e) = subst (λ (x : TokenBucket). Leaves now b x st.paid) (sym e.1) (spent-left st.paid e.0)

  module _ (limit : ℕ) (n : Node (List Note)) (is : n.own.discipline ≡ Tbf b limit) (c : TokenBucket) (most : ℕ) (after : Node (List Note)) (now_is : after.own.discipline ≡ Tbf c most) where
    ask-left : (below : List Asked) → AllRise below → (w : Worked) → IsStageOf (ask_own now n.own below) w → IsTbfStage now b w n.own.held
    ask-left below rises w stage = by n.own.held refl stage
      where
        by : (o : Option Descriptor) → n.own.held ≡ o → IsStageOf (option_map_or (holding n.own below) o (ask_discipline now n.own below n.own.discipline)) w → IsTbfStage now b w n.own.held
        by (Some p) e st = holding-stage now n.own below b limit p is e w st
        by None e st =
            tbf-stage now n.own below b limit is e rises w
            (subst (λ (d : Discipline). IsStageOf (ask_discipline now n.own below d) w) is st)

    asked-left : (notes : List Note) → after.memory ≡ n.memory ++ notes → IsAsked now n after → Leaves now b c (bytes_spent notes)
    asked-left notes memory asked =
        let w : Worked = asked.worked in
        let st = ask-left (each (ask_own now) (shape n).below) (all-rise now (shape n).below) w asked.stage in
        let bucket : st.bucket ≡ c = same-bucket st.bucket c st.limit most (sym st.is ∙ ap (λ (k : Node (List Note)). k.own.discipline) asked.is ∙ now_is) in
        let noted : w.memory ≡ notes = same-rest n.memory w.memory notes (sym (noted-history n.memory w.memory) ∙ ap (λ (k : Node (List Note)). k.memory) asked.is ∙ memory) in
        let paid : st.paid ≡ bytes_spent notes = sym st.paid_is ∙ ap bytes_spent noted in
        subst (λ n. Leaves now b c n) paid (subst (λ (x : TokenBucket). Leaves now b x st.paid) bucket (stage-left w n.own.held st))

    put-left : (p : Descriptor) (paid : ℕ) → IsPut now p n after → Leaves now b c paid
    put-left p paid put =
        let st = put-stage now p put.refusal (shape n) put.worked put.way in
        as-was c paid (same-bucket c b most limit (sym now_is ∙ ap (λ (k : Node (List Note)). k.own.discipline) (sym put.is) ∙ by st.discipline))
      where
        by : (put.worked.own.discipline ≡ n.own.discipline) ⊎ (put.worked.own.discipline ≡ queued_in p now n.own.discipline) ⊎
            ((i : ℕ) × (emptied : Bool) × (put.worked.own.discipline ≡ settled_in i emptied n.own.discipline))
            → put.worked.own.discipline ≡ Tbf b limit
        by (inl e) = e ∙ is
        by (inr (inl e)) = e ∙ ap (queued_in p now) is
        by (inr (inr e)) = e.2 ∙ ap (settled_in e.0 e.1) is

    same-left : (paid : ℕ) → after ≡ n → Leaves now b c paid
    same-left paid same = as-was c paid (same-bucket c b most limit (sym now_is ∙ ap (λ (k : Node (List Note)). k.own.discipline) same ∙ is))

    edited-left : (paid : ℕ) → IsEdited now n after → Leaves now b c paid
    edited-left paid edit = by edit.by
      where
        changed : (c ≡ b) ⊎ ((rate : ℕ) × (burst : ℕ) × (c ≡ after_change b rate burst now)) → Leaves now b c paid
        changed (inl e) = as-was c paid e
        changed (inr e) = subst (λ (x : TokenBucket). Leaves now b x paid) (sym e.2) (changed-left e.0 e.1 paid)

        by : (after ≡ n) ⊎ IsRemadeSo now (losses_of Purged edit.purged) n after ⊎ IsAbove (losses_of Purged edit.purged) edit.f n after → Leaves now b c paid
        by (inl same) = same-left paid same
        by (inr (inl r)) =
            let d : r.own.discipline ≡ Tbf c most = ap (λ (k : Node (List Note)). k.own.discipline) (sym r.is) ∙ now_is in
            changed (subst (λ (x : Discipline). IsForm now (Tbf b limit) (children n) x r.below) d (subst (λ (x : Discipline). IsForm now x (children n) r.own.discipline r.below) is r.form.form))
        by (inr (inr a)) =
            let d : after.own.discipline ≡ Tbf b limit =
            ap (λ (k : Node (List Note)). k.own.discipline) a.is ∙ ap
            (settled_in a.place (is_empty (edited_at history (losses_of Purged edit.purged) edit.f a.path a.child))) is in
            as-was c paid (same-bucket c b most limit (sym now_is ∙ d))

    event-left : (e : Event) (notes : List Note) → after.memory ≡ n.memory ++ notes → Becomes now e n after → Leaves now b c (bytes_spent notes)
    event-left (event.Arrive p moment) notes memory h = put-left p (bytes_spent notes) h
    event-left (event.Poll moment) notes memory h = asked-left notes memory h
    event-left (event.Command command moment) notes memory (inl same) = same-left (bytes_spent notes) same
    event-left (event.Command command moment) notes memory (inr edit) = edited-left (bytes_spent notes) edit

-- what an event leaves of a tbf that is there before it and after it
pub level-left : (major : ℕ) (d : DeviceState (List Note)) (e : Event) (x y : TbfAt) (kept : IsKept d) (happens : IsEvent e)
    (is : tbf_in major d ≡ Some x) (at : tbf_in major (step history d e).device ≡ Some y)
    (notes : List Note) → y.noted ≡ x.noted ++ notes → Leaves (step history d e).device.clock x.bucket y.bucket (bytes_spent notes)
level-left major d e x y kept happens is at notes noted =
    let t = tbf-node major d x is in
    let u = tbf-node major (step history d e).device y at in
    let memory : u.node.memory ≡ t.node.memory ++ notes =
    ap (λ (k : TbfAt). k.noted) u.is ∙ noted ∙ ap (λ (k : TbfAt). k.noted ++ notes) (sym t.is) in
    event-left (step history d e).device.clock x.bucket t.limit t.node t.discipline y.bucket u.limit u.node u.discipline e notes memory
    (becomes major d e t.node u.node kept happens t.there u.there)
