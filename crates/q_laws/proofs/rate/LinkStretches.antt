-- A tbf at the root that is polled in time, over a stretch: its level is nowhere cut, so it keeps within a packet of its rate.
use Rattle.std.proofs.Common.{◌≡◌, ℕ, ◌+◌, ◌-◌, ◌*◌, ◌<◌, ◌≤◌, ◌^◌, inl, inr, List, [], ◌∷◌, ◌++◌, length, map, refl, sym, ap, subst, ◌∙◌, Option, Some, None, arith, eq-eqb}
use Rattle.std.specs.Prelude.{Bool, true, false, nat_lt, if◌then◌else◌, All, IfSome, find, ◌==◌, slice_get, option_and_then}
use Rattle.std.specs.Option.{option_map_or, option_to_list}
use Rattle.std.proofs.Math.Nat.{mul-add, mul-le-mul_left}
use Rattle.std.proofs.lemmas.Bool.{cases_Bool, cases_lt, cond-true, leb-false, ltb-true, ltb-false, true≢false}
use Rattle.std.proofs.lemmas.List.{length-map}
use Rattle.std.proofs.lemmas.List.Elements.{All-append}
use Rattle.std.proofs.lemmas.Option.{none-some, same_Some}
use Rattle.q_packet.specs.Descriptor.{Descriptor}
use Rattle.q_bucket.specs.Level.{TokenBucket, units_in_byte, level_at, allows}
use Rattle.q_model.specs.declared.event.Event.{Event}
use Rattle.q_model.specs.Ask.{Asked, befores, holding, ask_discipline, ask_own, ask_tbf, ask}
use Rattle.q_model.specs.Beneath.{beneath_own, beneath, packets_in}
use Rattle.q_model.specs.Conserved.{nodes_of}
use Rattle.q_model.specs.Events.{IsEvent}
use Rattle.q_model.specs.Lawful.{IsLawfulDiscipline}
use Rattle.q_model.specs.Node.{Discipline, Tbf, Own, Forest, Node, Shape, nodes_in, children, from_below, each, shape}
use Rattle.q_model.specs.Settings.{DeviceSettings, IsInRange}
use Rattle.q_model.specs.Step.{DeviceState, step}
use Rattle.q_model.specs.Stretches.{bytes_spent, length_held, has_major, qdisc, TbfAt, tbf_in, Throughout}
use Rattle.q_model.specs.Tally.{Note, history}
use Rattle.q_model.specs.TreeState.{given}
use Rattle.q_model.proofs.ShrinkLemmas.{each-each_memory, is_empty-with_memory}
use Rattle.q_invariants.specs.Kept.{IsLawfulRoot}
use Rattle.q_invariants.proofs.again.SecondPeeks.{asked-shape, kept-shape}
use Rattle.q_invariants.proofs.Along.{counted}
use Rattle.q_invariants.proofs.ask.Answer.{AreAnswers, waiting}
use Rattle.q_invariants.proofs.ask.Asks.{beneath-befores, forest-answers}
use Rattle.q_invariants.proofs.ask.DrrService.{shown-short}
use Rattle.q_invariants.proofs.bucket.BucketMoves.{tbf-node, tbf-lawful, tbf-step}
use Rattle.q_invariants.proofs.bucket.BucketSteps.{IsUncutAt, IsPaid}
use Rattle.q_invariants.proofs.Replays.{IsKept, step-kept, replay-kept}
use Rattle.q_invariants.proofs.tree.Forests.{each-nodes}
use Rattle.q_invariants.proofs.tree.StepNodes.{clock-rises}
use Rattle.q_tree.proofs.Foreseeing.{through}
use Rattle.q_tree.proofs.ForeseenAsks.{tbf-shown}
use Rattle.q_tree.specs.answers.ReadyAt.{ready_at}
use Rattle.q_device.specs.Sharing.{device_after}
use Rattle.q_device.proofs.ClassStretches.{at-start, at-end, mtu-stays}
use Rattle.q_device.proofs.waiting.RenewedTrees.{sees}
use Rattle.q_laws.specs.rate.Delay.{next_below}
use Rattle.q_laws.specs.rate.Rate.{IsNowhereCut, IsBackloggedLink, due_in, IsDrained, IsDrainedFrom, IsPolledOut, HasRoom, SpendsWhatComes, RateIsDelivered}
use Rattle.q_laws.proofs.rate.RateStretches.{rate-is-spent}
use Rattle.q_laws.proofs.work.WorkAsks.{AreRests, own-length, queued-more}
use Rattle.q_laws.proofs.work.WorkTrees.{NoTbfs, no-tbfs, tbfs-memory, forest-rests}

-- ---- a tbf that shows nothing, though its child has a packet

-- the length of the packet that the first of these shows, and 0 where none is shown
abbrev pub first_length : List Asked → ℕ
first_length below = option_map_or (λ (a : Asked). length_held a.shown) (slice_get below 0) 0

-- it is at most the mtu
first-short : (mtu u : ℕ) (below : List Asked) → AreAnswers mtu u below → first_length below ≤ mtu
first-short mtu u [] answers = omega arith
first-short mtu u (a ∷ below) answers = by a.shown refl
  where
    by : (o : Option Descriptor) → a.shown ≡ o → length_held o ≤ mtu
    by None e = omega arith
    by (Some p) e = shown-short mtu u a p answers.0 e

module _ (mtu u : ℕ) (own : Own) (b : TokenBucket) (limit : ℕ) (is : own.discipline ≡ Tbf b limit) where
  child-short : (below : List Asked) → own.held ≡ None → length below ≡ 1 → AreRests below → (length (waiting own (befores below)) ≡ 0 → ⊥)
      → (ask_tbf u own below b limit).shown ≡ None → level_at b u < first_length below * units_in_byte
  child-short [] none one rests some silent = absurd (omega (arith, one))
  child-short (a ∷ c ∷ below) none one rests some silent = absurd (omega (arith, one))
  child-short (a ∷ []) none one rests some silent = by a.shown refl (sym (tbf-shown u own a [] b limit) ∙ silent)
    where
      by : (o : Option Descriptor) → a.shown ≡ o → through b u o ≡ None → level_at b u < length_held o * units_in_byte
      by None e waits =
          absurd (some (omega (
            arith,
            own-length own (a ∷ []),
            ap (λ (h : Option Descriptor). length (option_to_list h)) none,
            ap (λ (d : Discipline). length (packets_in d)) is,
            queued-more (beneath a.before) [],
            rests.0 e,
          )))
      by (Some p) e waits = elim (cases_Bool (allows b u p.len)) [
        | inl may ↦ absurd (none-some p (sym waits ∙ cond-true (allows b u p.len) (Some p) None may))
        | inr stays ↦ leb-false (p.len * units_in_byte) (level_at b u) stays
      ]

  link-short : (x : Forest (Unit {0})) → 1 ≤ mtu → u ≤ 2 ^ 62 → IsLawfulRoot mtu u (record { own = own; memory = tt; below = x }) → NoTbfs x
      → (length (beneath_own own (each beneath_own x)) ≡ 0 → ⊥) → (ask_own u own (each (ask_own u) x)).shown ≡ None → level_at b u < first_length (each (ask_own u) x) * units_in_byte
  link-short x least low lawful other some silent = by own.held refl silent
    where
      below : List Asked
      below = each (ask_own u) x

      one : length (each beneath_own x) ≡ 1
      one = (subst (IsLawfulDiscipline mtu u (each beneath_own x)) is lawful.0.discipline).one

      by : (h : Option Descriptor) → own.held ≡ h → (option_map_or (holding own below) h (ask_discipline u own below own.discipline)).shown ≡ None → level_at b u < first_length below * units_in_byte
      by (Some p) e shows = absurd (none-some p (sym shows))
      by None e shows =
          child-short below e (omega (arith, one, ap length (beneath-befores u x), length-map (befores below) beneath, length-map below (λ (a : Asked). a.before)))
          (forest-rests mtu u least low x lawful.1 other)
          (λ none. some (ap (λ ps. length (beneath_own own ps)) (sym (beneath-befores u x)) ∙ none))
          (subst (λ (d : Discipline). (ask_discipline u own below d).shown ≡ None) is shows)

-- ---- in a device

-- what a rate brings from a to c, by way of b
pub rate-splits : (r a b c : ℕ) → a ≤ b → b ≤ c → r * (c - a) ≡ r * (b - a) + r * (c - b)
rate-splits r a b c first next = let whole : (b - a) + (c - b) ≡ c - a = omega (arith, first, next) in ap (λ n. r * n) (sym whole) ∙ mul-add r (b - a) (c - b)

-- what the child of a root shows
pub next-is : (u : ℕ) (root : Node (List Note))
    → first_length (each (ask_own u) (shape root).below) ≡ option_map_or (λ (c : Node (List Note)). length_held (ask u (shape c)).shown)
    (slice_get (children root) 0) 0
next-is u root = ap first_length (each-each_memory (ask_own u) (λ m. tt) root.below ∙ each-nodes (ask_own u) root.below) ∙ by (nodes_in root.below)
  where
    by : (ns : List (Node (List Note))) → first_length (map (from_below (ask_own u)) ns) ≡ option_map_or (λ (c : Node (List Note)). length_held (ask u (shape c)).shown) (slice_get ns 0) 0
    by [] = refl
    by (c ∷ ns) = ap (λ (a : Asked). length_held a.shown) (sym (asked-shape u c))

-- a qdisc at the root is found there
pub root-at : (major : ℕ) (d : DeviceState (List Note)) → d.tree.root.own.handle ≡ Some major → qdisc major d ≡ Some d.tree.root
root-at major d is =
    cond-true (has_major major d.tree.root) (Some d.tree.root) (find (has_major major) (nodes_of d.tree.root.below))
    (ap (λ (o : Option ℕ). option_map_or (λ (k : ℕ). k == major) o false) is ∙ eq-eqb major major refl)

-- what is in time at first is so where the clock is what was due
pub due-begins : (late : ℕ) (d : DeviceState (List Note)) (t : ℕ) → IfSome (ready_at d.clock d.tree.root) (λ at. t ≤ at + late) → IfSome (due_in (Some d.clock) d) (λ at. t ≤ at + late)
due-begins late d t until = by (ready_at d.clock d.tree.root) until
  where
    by : (o : Option ℕ) → IfSome o (λ at. t ≤ at + late) → IfSome (option_and_then (λ at. if nat_lt d.clock at then Some at else Some d.clock) o) (λ at. t ≤ at + late)
    by None until = tt
    by (Some at) until = said (nat_lt d.clock at) refl
      where
        said : (b : Bool) → nat_lt d.clock at ≡ b → IfSome (if b then Some at else Some d.clock) (λ n. t ≤ n + late)
        said true e = until
        said false e = let no_more = ltb-false d.clock at e in omega (arith, no_more, until)

module _ (major rate burst : ℕ) where
  module _ (d : DeviceState (List Note)) (h : IsBackloggedLink major rate burst d) where
    abbrev bucket : TokenBucket
    bucket = h.tbf.tbf.bucket

    pub at-root : qdisc major d ≡ Some d.tree.root
    at-root = root-at major d h.root

    -- a poll that gives nothing finds less than the packet takes that the child shows
    pub polled-next : (u : ℕ) → IsKept d → d.clock ≤ u → u ≤ 2 ^ 62 → given u d.tree ≡ None → (level_at bucket u < next_below u d * units_in_byte) × (next_below u d ≤ d.tree.device.mtu)
    polled-next u kept order low silent =
        let t = tbf-node major d h.tbf.tbf h.tbf.there in
        let same : t.node ≡ d.tree.root = same_Some t.node d.tree.root (sym t.there ∙ at-root) in
        let s : Shape = shape d.tree.root in
        let lawful = kept-shape d.clock u d.tree kept order low in
        let is = next-is u d.tree.root in
        let short =
        link-short d.tree.device.mtu u s.own bucket t.limit (ap (λ (n : Node (List Note)). n.own.discipline) (sym same) ∙ t.discipline) s.below kept.least_mtu low
        lawful (tbfs-memory (λ m. tt) d.tree.root.below (no-tbfs d.tree.root.below h.alone))
        (λ none. true≢false (sym (ap (λ n. n == 0) none) ∙ is_empty-with_memory (λ m. tt) d.tree.root ∙ h.queued)) silent in
        let most = first-short d.tree.device.mtu u (each (ask_own u) s.below) (forest-answers d.tree.device.mtu u kept.least_mtu low s.below lawful.1) in
        (omega (arith, short, is), omega (arith, most, is))

    polled-short : (u : ℕ) → IsKept d → d.clock ≤ u → u ≤ 2 ^ 62 → given u d.tree ≡ None → level_at bucket u < d.tree.device.mtu * units_in_byte
    polled-short u kept order low silent = let next = polled-next u kept order low silent in omega (arith, next.0, next.1)

  module _ (mtu late : ℕ) (room : HasRoom mtu late rate burst) where
    abbrev Stays : DeviceState (List Note) → Type 0
    Stays d = IsBackloggedLink major rate burst d × (d.tree.device.mtu ≡ mtu)

    -- a level that is short at some time is not cut until a poll would be later than there is room for
    short-uncut : (b : TokenBucket) (u t : ℕ) → b.burst ≡ burst → b.rate ≡ rate → b.last ≤ u → level_at b u < mtu * units_in_byte → u ≤ t → t ≤ u + (late + 1) → IsUncutAt t b
    short-uncut b u t same_burst same_rate old short from until =
        let same : b.burst * units_in_byte ≡ burst * units_in_byte = ap (λ n. n * units_in_byte) same_burst in
        let before : b.level + b.rate * (u - b.last) < mtu * units_in_byte = omega (arith, short, room, same) in
        let split = rate-splits b.rate b.last u t old from in
        let most : b.rate * (t - u) ≤ b.rate * (late + 1) = mul-le-mul_left b.rate (omega (arith, until)) in
        let rates : b.rate * (late + 1) ≡ rate * (late + 1) = ap (λ n. n * (late + 1)) same_rate in
        omega (arith, before, split, most, rates, room, same)

    -- from some time on, and up to so late after the time that is due, if there is one, the level is not cut
    abbrev pub Lasts : ℕ → Option ℕ → ℕ → TokenBucket → Type 0
    Lasts since due now b = (t : ℕ) → now ≤ t → t ≤ 2 ^ 62 → since ≤ t → IfSome due (λ at. t ≤ at + late) → IsUncutAt t b

    module _ (d : DeviceState (List Note)) (kept : IsKept d) (h : Stays d) where
      abbrev mine : TokenBucket
      mine = bucket d h.0

      silent-uncut : (u t : ℕ) → d.clock ≤ u → u ≤ 2 ^ 62 → given u d.tree ≡ None → u ≤ t → t ≤ u + (late + 1) → IsUncutAt t mine
      silent-uncut u t order low silent from until =
          let last = tbf-lawful major d h.0.tbf.tbf kept h.0.tbf.there in
          short-uncut mine u t h.0.tbf.same_burst h.0.tbf.same_rate (omega (arith, last, order))
          (subst (λ m. level_at mine u < m * units_in_byte) h.1 (polled-short d h.0 u kept order low silent)) from until

      -- before the time at which it says to be ready it gives nothing
      pub silent-before : (u : ℕ) → d.clock ≤ u → u ≤ 2 ^ 62 → IfSome (ready_at d.clock d.tree.root) (λ at. u < at) → given u d.tree ≡ None
      silent-before u order low early = by (given u d.tree) refl
        where
          by : (o : Option Descriptor) → given u d.tree ≡ o → given u d.tree ≡ None
          by None e = e
          by (Some p) e =
              let comes = (sees history d.clock u d.tree kept.least_mtu low order (kept-shape d.clock u d.tree kept order low)).early p e in
              let soon : u < comes.at = subst (λ (o : Option ℕ). IfSome o (λ at. u < at)) comes.is early in
              absurd (omega (arith, soon, comes.past))

      -- so its level lasts until that time, or as long as before
      pub lasts-on : (since : ℕ) (due : Option ℕ) → (since ≤ d.clock → IsUncutAt d.clock mine) → Lasts since due d.clock mine → Lasts since (due_in due d) d.clock mine
      lasts-on since due here lasts t from low after until = elim (cases_lt d.clock t) [
        | inl less ↦ by (ready_at d.clock d.tree.root) refl less until
        | inr past ↦ let same : d.clock ≡ t = omega (arith, past, from) in subst (λ n. IsUncutAt n mine) same (here (omega (arith, after, same)))
      ]
        where
          ahead : (at : ℕ) → ready_at d.clock d.tree.root ≡ Some at → d.clock < t → d.clock < at → t ≤ at + late → IsUncutAt t mine
          ahead at is less further until = elim (cases_lt (t - 1) at) [
            | inl soon ↦
                let low_before : t - 1 ≤ 2 ^ 62 = omega (arith, low) in
                let order : d.clock ≤ t - 1 = omega (arith, less) in
                let early : IfSome (ready_at d.clock d.tree.root) (λ n. t - 1 < n) = subst (λ (o : Option ℕ). IfSome o (λ n. t - 1 < n)) (sym is) soon in
                silent-uncut (t - 1) t order low_before (silent-before (t - 1) order low_before early) (omega (arith, less)) (omega (arith, less))
            | inr past ↦
                let low_before : at - 1 ≤ 2 ^ 62 = omega (arith, low, past) in
                let order : d.clock ≤ at - 1 = omega (arith, further) in
                let early : IfSome (ready_at d.clock d.tree.root) (λ n. at - 1 < n) =
                subst (λ (o : Option ℕ). IfSome o (λ n. at - 1 < n)) (sym is) (let one : at - 1 < at = omega (arith, further) in one) in
                silent-uncut (at - 1) t order low_before (silent-before (at - 1) order low_before early) (omega (arith, past)) (omega (arith, until, further))
          ]

          by : (o : Option ℕ) → ready_at d.clock d.tree.root ≡ o → d.clock < t → IfSome (option_and_then (λ at. if nat_lt d.clock at then Some at else due) o) (λ at. t ≤ at + late) → IsUncutAt t mine
          by None is less until =
              let low_before : t - 1 ≤ 2 ^ 62 = omega (arith, low) in
              let order : d.clock ≤ t - 1 = omega (arith, less) in
              let early : IfSome (ready_at d.clock d.tree.root) (λ n. t - 1 < n) = subst (λ (o : Option ℕ). IfSome o (λ n. t - 1 < n)) (sym is) tt in
              silent-uncut (t - 1) t order low_before (silent-before (t - 1) order low_before early) (omega (arith, less)) (omega (arith, less))
          by (Some at) is less until = said (nat_lt d.clock at) refl until
            where
              said : (b : Bool) → nat_lt d.clock at ≡ b → IfSome (if b then Some at else due) (λ n. t ≤ n + late) → IsUncutAt t mine
              said true e until = ahead at is less (ltb-true d.clock at e) until
              said false e until = lasts t from low after until

    -- a bucket that pays is cut no sooner
    pub paid-uncut : (b c : TokenBucket) (clock now paid t : ℕ) → IsPaid clock now b c paid → b.last ≤ clock → c.last ≤ now → clock ≤ now → now ≤ t → c.rate ≡ b.rate → c.burst ≡ b.burst
        → IsUncutAt now b → IsUncutAt t b → IsUncutAt t c
    paid-uncut b c clock now paid t pays old young later from same_rate same_burst here uncut =
        let least = pays.level in
        let left = pays.uncut here in
        let early = rate-splits b.rate b.last clock now old later in
        let whole = rate-splits b.rate b.last now t (omega (arith, old, later)) from in
        let other = rate-splits c.rate c.last now t young from in
        let brings : c.rate * (t - now) ≡ b.rate * (t - now) = ap (λ n. n * (t - now)) same_rate in
        omega (arith, least, left, early, whole, other, brings, uncut, ap (λ n. n * units_in_byte) same_burst)

    abbrev Moves : DeviceState (List Note) → List Event → DeviceState (List Note) → Type 0
    Moves d during end = (x : TbfAt) (due : Option ℕ) → tbf_in major d ≡ Some x → Lasts 0 due d.clock x.bucket → IsDrainedFrom late due d during → IsNowhereCut major d during

    still : (d : DeviceState (List Note)) → IsKept d → Stays d → Moves d [] d
    still d kept h x due is lasts drained = tt

    more : (d : DeviceState (List Note)) (e : Event) (during : List Event) (end : DeviceState (List Note)) → IsKept d → IsEvent e → Stays d → Stays (step history d e).device
        → Moves (step history d e).device during end → Moves d (e ∷ during) end
    more d e during end kept event h k on x due is lasts drained =
        let next : DeviceState (List Note) = (step history d e).device in
        let kept_next : IsKept next = step-kept d e kept event in
        let later : d.clock ≤ next.clock = clock-rises d e in
        let here : IsUncutAt next.clock x.bucket = lasts next.clock later kept_next.moment (omega arith) drained.0 in
        let y : TbfAt = k.0.tbf.tbf in
        let s = tbf-step major d e x y kept event is k.0.tbf.there in
        let same : h.0.tbf.tbf ≡ x = same_Some h.0.tbf.tbf x (sym h.0.tbf.there ∙ is) in
        let same_rate : y.bucket.rate ≡ x.bucket.rate = k.0.tbf.same_rate ∙ sym (ap (λ (z : TbfAt). z.bucket.rate) (sym same) ∙ h.0.tbf.same_rate) in
        let same_burst : y.bucket.burst ≡ x.bucket.burst = k.0.tbf.same_burst ∙ sym (ap (λ (z : TbfAt). z.bucket.burst) (sym same) ∙ h.0.tbf.same_burst) in
        let old : x.bucket.last ≤ d.clock = tbf-lawful major d x kept is in
        let young : y.bucket.last ≤ next.clock = tbf-lawful major next y kept_next k.0.tbf.there in
        let kept_on : Lasts 0 due next.clock y.bucket =
        λ t from low after until. paid-uncut x.bucket y.bucket d.clock next.clock (bytes_spent s.notes) t s.paid old young later from same_rate
        same_burst here (lasts t (omega (arith, later, from)) low after until) in (
          subst (λ (o : Option TbfAt). IfSome o (λ z. IsUncutAt next.clock z.bucket)) (sym is) here,
          on y (due_in due next) k.0.tbf.there (lasts-on next kept_next k 0 due (λ after. s.paid.uncut here) kept_on) drained.1,
        )

    -- where a poll has just given nothing
    begins : (d : DeviceState (List Note)) (kept : IsKept d) (h : Stays d) → IsPolledOut d → Lasts 0 (ready_at d.clock d.tree.root) d.clock (bucket d h.0)
    begins d kept h silent t from low after until = lasts-on d kept h 0 (Some d.clock) (λ at. silent-uncut d kept h d.clock d.clock (omega arith) kept.moment silent (omega arith) (omega arith))
        (λ u order low at soon. silent-uncut d kept h d.clock u (omega arith) kept.moment silent order (omega (arith, soon))) t from low after (due-begins late d t until)

-- from a poll that gives nothing on, what the tbf pays and has left is what it had and what its rate brings
pub link-spends : (settings : DeviceSettings) → IsInRange settings → (before during : List Event) (major rate burst late : ℕ) (first last : TbfAt) → All IsEvent before → All IsEvent during
    → HasRoom settings.mtu late rate burst
    → Throughout (IsBackloggedLink major rate burst) settings before during → IsDrained late (device_after settings before) during → IsPolledOut (device_after settings before)
    → tbf_in major (device_after settings before) ≡ Some first → tbf_in major (device_after settings (before ++ during)) ≡ Some last
    → SpendsWhatComes rate (device_after settings before).clock (device_after settings (before ++ during)).clock first last
link-spends settings range before during major rate burst late first last all_before all_during room stays drained polled_before is at =
    let start : DeviceState (List Note) = device_after settings before in
    let mtu : ℕ = settings.mtu in
    let along : Throughout (Stays major rate burst mtu late room) settings before during = λ seen later e. (stays seen later e, mtu-stays settings (before ++ seen)) in
    let s = at-start (Stays major rate burst mtu late room) settings before during along in
    let kept : IsKept start = replay-kept settings before range all_before in
    let first_is : s.0.tbf.tbf ≡ first = same_Some s.0.tbf.tbf first (sym s.0.tbf.there ∙ is) in
    let lasts =
    subst (λ (x : TbfAt). Lasts major rate burst mtu late room 0 (ready_at start.clock start.tree.root) start.clock x.bucket) first_is
    (begins major rate burst mtu late room start kept s polled_before) in
    let uncut : IsNowhereCut major start during =
    counted (Stays major rate burst mtu late room) (Moves major rate burst mtu late room) (still major rate burst mtu late room)
    (more major rate burst mtu late room) settings before during range all_before all_during along first
    (ready_at start.clock start.tree.root) is lasts drained in
    rate-is-spent settings range before during major rate burst first last all_before all_during (λ seen later e. (stays seen later e).tbf) uncut is at

-- where a poll gives nothing less is left than the packet takes that the child shows
pub left-short : (settings : DeviceSettings) → IsInRange settings → (events : List Event) (major rate burst : ℕ) (tbf : TbfAt) → All IsEvent events
    → IsBackloggedLink major rate burst (device_after settings events)
    → IsPolledOut (device_after settings events) → tbf_in major (device_after settings events) ≡ Some tbf
    → (level_at tbf.bucket (device_after settings events).clock < next_below (device_after settings events).clock (device_after settings events) * units_in_byte)
    × (next_below (device_after settings events).clock (device_after settings events) ≤ settings.mtu)
left-short settings range events major rate burst tbf all h polled is =
    let d : DeviceState (List Note) = device_after settings events in
    let kept : IsKept d = replay-kept settings events range all in
    let next = polled-next major rate burst d h d.clock kept (omega arith) kept.moment polled in
    let same : h.tbf.tbf ≡ tbf = same_Some h.tbf.tbf tbf (sym h.tbf.there ∙ is) in
    (subst (λ (x : TbfAt). level_at x.bucket d.clock < next_below d.clock d * units_in_byte) same next.0, subst (λ m. next_below d.clock d ≤ m) (mtu-stays settings events) next.1)

pub rate-is-delivered : (settings : DeviceSettings) → IsInRange settings → RateIsDelivered settings
rate-is-delivered settings range before during major rate burst late first last all_before all_during room stays drained polled_before polled_after is at =
    let all : All IsEvent (before ++ during) = All-append IsEvent before during all_before all_during in
    let exact = link-spends settings range before during major rate burst late first last all_before all_during room stays drained polled_before is at in
    let short = left-short settings range before major rate burst first all_before (at-start (IsBackloggedLink major rate burst) settings before during stays) polled_before is in
    let short_last = left-short settings range (before ++ during) major rate burst last all (at-end (IsBackloggedLink major rate burst) settings before during stays) polled_after at in
    record {
      notes = exact.notes;
      goes_on = exact.goes_on;
      no_less = let spent = exact.spent in omega (arith, spent, short_last.0, short_last.1);
      no_more = let spent = exact.spent in omega (arith, spent, short.0, short.1);
    }
