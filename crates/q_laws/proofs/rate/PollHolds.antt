-- After a poll that gives nothing the drr below a tbf at the root holds a packet: it showed one that is longer than what the bucket had left.
use Rattle.std.proofs.Common.{◌≡◌, ℕ, ◌≤◌, max, List, [], ◌∷◌, ◌++◌, refl, sym, ap, subst, ◌∙◌, Option, Some, None, arith}
use Rattle.std.specs.Prelude.{Bool, true, false, is_some, IsSomeAnd, slice_get, if◌then◌else◌}
use Rattle.std.specs.Option.{option_map_or}
use Rattle.std.proofs.lemmas.Option.{none-some, same_Some}
use Rattle.q_packet.specs.Descriptor.{Descriptor}
use Rattle.q_bucket.specs.Level.{TokenBucket, allows}
use Rattle.q_drr.specs.Schedule.{Class, Schedule}
use Rattle.q_model.specs.declared.event.Event.{Event}
use Rattle.q_model.specs.declared.event.Event.TheVariants as event
use Rattle.q_model.specs.declared.polled.Polled.TheVariants as polled
use Rattle.q_model.specs.declared.reply.Reply.{Reply}
use Rattle.q_model.specs.declared.reply.Reply.TheVariants as reply
use Rattle.q_model.specs.Ask.{Asked, holding, spends, waits, ask_tbf, service_of, place_met, gives_nothing, class_gives, class_serves, ask_drr, ask_discipline, ask_own, ask}
use Rattle.q_model.specs.Beneath.{is_empty}
use Rattle.q_model.specs.Events.{IsEvent}
use Rattle.q_model.specs.Node.{Discipline, Tbf, Drr, Own, none, more, Node, nodes_in, side_by_side, children, each, shape}
use Rattle.q_model.specs.Replay.{Replay, nothing_yet}
use Rattle.q_model.specs.Settings.{DeviceSettings, IsInRange}
use Rattle.q_model.specs.Step.{DeviceState, polled_of, step}
use Rattle.q_model.specs.Stretches.{length_held}
use Rattle.q_model.specs.Tally.{Note, history}
use Rattle.q_model.specs.Work.{Worked, booked, each_booked}
use Rattle.q_invariants.proofs.bucket.BucketMoves.{tbf-node}
use Rattle.q_invariants.proofs.Replays.{IsKept, step-kept, replay-kept, not-before}
use Rattle.q_invariants.proofs.tree.Related.{forget}
use Rattle.q_device.specs.Sharing.{device_after}
use Rattle.q_device.proofs.ClassStretches.{at-start, at-end}
use Rattle.q_device.proofs.ReplayLemmas.{replay_from-append}
use Rattle.q_laws.specs.share.Handed.{IsHolding, PollsLeaveHolding}
use Rattle.q_laws.specs.share.InTime.{IsLinkOver}
use Rattle.q_laws.specs.share.Service.{HasClasses}
use Rattle.q_laws.proofs.rate.HoldsNone.{holds-none}
use Rattle.q_laws.proofs.rate.LinkStretches.{at-root, polled-next}
use Rattle.q_laws.proofs.share.LeastShare.{drr-node}
use Rattle.q_laws.proofs.share.PassedStretches.{only-child}

-- ---- what a drr shows it holds

abbrev HoldsShown : Asked → Type 0
HoldsShown a = (p : Descriptor) → a.shown ≡ Some p → a.peeked.own.held ≡ Some p

drr-holds : (own : Own) (below : List Asked) (s : Schedule) → HoldsShown (ask_drr own below s)
drr-holds own below s = met (place_met s below)
  where
    shows : (i : ℕ) (a : Asked) (o : Option Descriptor) → HoldsShown (option_map_or (class_gives own below (service_of s below) i a) o (gives_nothing own below (service_of s below)))
    shows i a None p e = absurd (none-some p e)
    shows i a (Some q) p e = e

    child : (i : ℕ) (o : Option Asked) → HoldsShown (option_map_or (class_serves own below (service_of s below) i) o (gives_nothing own below (service_of s below)))
    child i None p e = absurd (none-some p e)
    child i (Some a) p e = shows i a a.shown p e

    met : (o : Option ℕ)
        → HoldsShown (option_map_or (λ i. option_map_or (class_serves own below (service_of s below) i) (slice_get below i)
        (gives_nothing own below (service_of s below))) o (gives_nothing own below (service_of s below)))
    met None p e = absurd (none-some p e)
    met (Some i) p e = child i (slice_get below i) p e

own-holds : (now : ℕ) (own : Own) (below : List Asked) (s : Schedule) → own.discipline ≡ Drr s → HoldsShown (ask_own now own below)
own-holds now own below s is = by own.held refl
  where
    by : (o : Option Descriptor) → own.held ≡ o → HoldsShown (option_map_or (holding own below) o (ask_discipline now own below own.discipline))
    by (Some q) held p e = held ∙ e
    by None held p e = subst (λ (d : Discipline). HoldsShown (ask_discipline now own below d)) (sym is) (drr-holds own below s) p e

-- ---- a tbf that gives nothing has peeked its child

module _ (now : ℕ) (own : Own) (a : Asked) (b : TokenBucket) (limit : ℕ) where
  abbrev KeepsPeeked : Asked → Type 0
  KeepsPeeked x = x.shown ≡ None → x.peeked.below ≡ side_by_side (a.peeked ∷ [])

  tbf-keeps : KeepsPeeked (ask_tbf now own (a ∷ []) b limit)
  tbf-keeps = by a.shown
    where
      may : (p : Descriptor) (ok : Bool) → KeepsPeeked (if ok then spends own (a ∷ []) b limit now a p else waits own (a ∷ []) a)
      may p true e = absurd (none-some p (sym e))
      may p false e = refl

      by : (o : Option Descriptor) → KeepsPeeked (option_map_or (λ (p : Descriptor). if allows b now p.len then spends own (a ∷ []) b limit now a p else waits own (a ∷ []) a) o (waits own (a ∷ []) a))
      by None e = refl
      by (Some p) e = may p (allows b now p.len) e

  root-keeps : own.held ≡ None → own.discipline ≡ Tbf b limit → KeepsPeeked (ask_own now own (a ∷ []))
  root-keeps free is =
      subst (λ (o : Option Descriptor). KeepsPeeked (option_map_or (holding own (a ∷ [])) o (ask_discipline now own (a ∷ []) own.discipline))) (sym free)
      (subst (λ (d : Discipline). KeepsPeeked (ask_discipline now own (a ∷ []) d)) (sym is) tbf-keeps)

-- what a poll that gives nothing leaves
peeked-left : (a : Asked) → a.shown ≡ None → (if is_some a.shown then a.taken else a.peeked) ≡ a.peeked
peeked-left a silent = ap (λ (o : Option Descriptor). if is_some o then a.taken else a.peeked) silent

-- ---- a poll that is answered Later

later-silent : (o : Option Descriptor) (empty : Bool) → ◌≡◌ {A = Reply} (reply.Polled (polled_of o empty)) (reply.Polled polled.Later) → o ≡ None
later-silent None empty e = refl
later-silent (Some p) empty e = let wrong : reply.Polled (polled.Packet p) ≡ reply.Polled polled.Later = e in cc

module _ (link rate burst major : ℕ) (classes : List Class) (d : DeviceState (List Note)) (moment : ℕ) (kept : IsKept d)
    (range : IsEvent (event.Poll moment)) (h : IsLinkOver link rate burst major d) (has : HasClasses major classes d)
    (free : d.tree.root.own.held ≡ None) where
  abbrev now : ℕ
  now = max d.clock moment

  abbrev next : DeviceState (List Note)
  next = (step history d (event.Poll moment)).device

  abbrev a : Asked
  a = ask now (shape h.drr)

  alone : each (ask_own now) (shape d.tree.root).below ≡ a ∷ []
  alone = ap (λ x. each (ask_own now) (forget x)) (only-child d.tree.root h.drr h.child)

  module _ (silent : (ask now (shape d.tree.root)).shown ≡ None) where
    -- the drr shows a packet
    shows : (p : Descriptor) × (a.shown ≡ Some p)
    shows =
        let short = polled-next link rate burst d h.rated now kept (not-before d.clock moment) (step-kept d (event.Poll moment) kept range).moment silent in
        by a.shown refl (let less = short.0 in omega (
          arith,
          less,
          ap (λ (ns : List (Node (List Note))). option_map_or (λ (c : Node (List Note)). length_held (ask now (shape c)).shown)
              (slice_get ns 0) 0) h.child,
        ))
      where
        by : (o : Option Descriptor) → a.shown ≡ o → 1 ≤ length_held a.shown → (p : Descriptor) × (a.shown ≡ Some p)
        by (Some p) e some = (p, e)
        by None e some = absurd (omega (arith, some, ap length_held e))

    -- and holds it
    left-holding : (m : Node (List Note)) → children next.tree.root ≡ m ∷ [] → is_some m.own.held ≡ true
    left-holding m only =
        let root : Node (List Note) = d.tree.root in
        let tbf = root-tbf in
        let A : Asked = ask now (shape root) in
        let whole : A ≡ ask_own now root.own (a ∷ []) = ap (ask_own now root.own) alone in
        let below : A.peeked.below ≡ side_by_side (a.peeked ∷ []) =
        subst (λ (x : Asked). x.shown ≡ None → x.peeked.below ≡ side_by_side (a.peeked ∷ [])) (sym whole) (root-keeps now root.own a tbf.0 tbf.1 free tbf.2) silent in
        let after : children (booked history root A.peeked) ≡ booked history h.drr a.peeked ∷ [] =
        ap (λ x. nodes_in (each_booked history x A.peeked.below)) (only-child root h.drr h.child)
        ∙ ap (λ y. nodes_in (each_booked history (more h.drr.own h.drr.memory h.drr.below none) y)) below in
        let node : children next.tree.root ≡ children (booked history root A.peeked) = ap (λ (w : Worked). children (booked history root w)) (peeked-left A silent) in
        let same : booked history h.drr a.peeked ≡ m =
        same_Some (booked history h.drr a.peeked) m (ap (λ (ns : List (Node (List Note))). slice_get ns 0) (sym (node ∙ after) ∙ only)) in
        let held : a.peeked.own.held ≡ Some shows.0 = own-holds now h.drr.own (each (ask_own now) (shape h.drr).below) drr.0 drr.1 shows.0 shows.1 in
        ap (λ (n : Node (List Note)). is_some n.own.held) (sym same) ∙ ap (λ (o : Option Descriptor). is_some o) held
      where
        root-tbf : (b : TokenBucket) × (limit : ℕ) × (d.tree.root.own.discipline ≡ Tbf b limit)
        root-tbf =
            let t = tbf-node link d h.rated.tbf.tbf h.rated.tbf.there in
            let here : t.node ≡ d.tree.root = same_Some t.node d.tree.root (sym t.there ∙ at-root link rate burst d h.rated) in
            (h.rated.tbf.tbf.bucket, t.limit, ap (λ (n : Node (List Note)). n.own.discipline) (sym here) ∙ t.discipline)

        drr : (s : Schedule) × (h.drr.own.discipline ≡ Drr s)
        drr =
            let n = drr-node major classes d has in
            let same : n.node ≡ h.drr = same_Some n.node h.drr (sym n.there ∙ h.there) in
            (n.schedule, ap (λ (k : Node (List Note)). k.own.discipline) (sym same) ∙ n.discipline)

pub polls-leave-holding : (settings : DeviceSettings) → IsInRange settings → PollsLeaveHolding settings
polls-leave-holding settings range before moment link rate burst major classes all happens over same later =
    let d : DeviceState (List Note) = device_after settings before in
    let e : Event = event.Poll moment in
    let next : DeviceState (List Note) = (step history d e).device in
    let stepped : device_after settings (before ++ e ∷ []) ≡ next = ap (λ (r : Replay (List Note)). r.device) (replay_from-append history (nothing_yet history settings) before e) in
    let h = at-start (IsLinkOver link rate burst major) settings before (e ∷ []) over in
    let k : IsLinkOver link rate burst major next = subst (IsLinkOver link rate burst major) stepped (at-end (IsLinkOver link rate burst major) settings before (e ∷ []) over) in
    let silent = later-silent (ask (max d.clock moment) (shape d.tree.root)).shown (is_empty (shape next.tree.root)) later in
    let holds =
    left-holding link rate burst major classes d moment (replay-kept settings before range all) happens h
    (at-start (HasClasses major classes) settings before (e ∷ []) same) (holds-none settings before range all) silent k.drr k.child in
    subst (IsHolding major) (sym stepped) (subst (λ (o : Option (Node (List Note))). IsSomeAnd o (λ (n : Node (List Note)). is_some n.own.held ≡ true)) (sym k.there) holds)
