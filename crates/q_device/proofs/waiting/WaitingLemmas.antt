-- Polls that come before a device is ready, one after another: none gives a packet, and the device is ready no sooner for them.
use Rattle.std.proofs.Common.{◌≡◌, ℕ, ◌≤◌, ◌^◌, ◌∙◌, refl, sym, ap, ap₂, subst, arith, inl, inr, List, [], ◌∷◌, ◌++◌, map, length, Option, Some, None}
use Rattle.std.specs.Prelude.{All, true, false, max, ◌==◌}
use Rattle.std.proofs.lemmas.Bool.{cases_lt, lt-ltb, ltb-true, le-ltb, false≢true}
use Rattle.std.proofs.lemmas.List.Elements.{All-nil, All-head, All-tail, All-push}
use Rattle.q_packet.specs.Descriptor.{Descriptor}
use Rattle.q_model.specs.declared.event.Event.{Event}
use Rattle.q_model.specs.declared.event.Event.TheVariants as event
use Rattle.q_model.specs.declared.reply.Reply.{Reply}
use Rattle.q_model.specs.declared.reply.Reply.TheVariants as reply
use Rattle.q_model.specs.Beneath.{beneath_own, is_empty}
use Rattle.q_model.specs.Events.{IsEvent}
use Rattle.q_model.specs.Lawful.{IsLawfulTree}
use Rattle.q_model.specs.Node.{Node, shape}
use Rattle.q_model.specs.Replay.{Replay, nothing_yet, replay, replay_from, with_step}
use Rattle.q_model.specs.Settings.{DeviceSettings, IsInRange}
use Rattle.q_model.specs.Step.{DeviceState, counts_at, polled_of, step}
use Rattle.q_model.specs.Tally.{Counts, totals}
use Rattle.q_model.specs.TreeState.{given, take_packet}
use Rattle.q_model.proofs.ShrinkLemmas.{each-each_memory}
use Rattle.q_invariants.proofs.again.SecondPeeks.{lawful-shape}
use Rattle.q_invariants.proofs.Replays.{not-after, not-before}
use Rattle.q_tree.specs.answers.ReadyAt.{is_before, is_sure, outlook}
use Rattle.q_tree.proofs.Foreseeing.{Foresees, Covers}
use Rattle.q_device.specs.device.DeviceSeen.{DeviceSeen}
use Rattle.q_device.specs.DeviceLaws.{IsReplayed}
use Rattle.q_device.proofs.laws.LawfulLemmas.{replay-lawful, seen-lawful}
use Rattle.q_device.proofs.laws.ReplayLemmas.{replay_from-append}
use Rattle.q_device.specs.Waiting.{ready, after_polls, IsTooEarly, empty_handed, EarlyPollsGiveNothing, ReadyPassesEmptyPolls}
use Rattle.q_device.proofs.waiting.Moved.{Moves}
use Rattle.q_device.proofs.waiting.MovedTrees.{take-moves}
use Rattle.q_device.proofs.waiting.Renewed.{Outlook, Renews, never, not-past, covers-in}
use Rattle.q_device.proofs.waiting.RenewedTrees.{sees, take-renews, take-empty}

-- ---- moments

no-sooner-by : (a b : Option ℕ) → ((y : ℕ) → Covers y b → Covers y a) → is_before b a ≡ false
no-sooner-by a None h = refl
no-sooner-by None (Some y) h = absurd (never y None refl (h y (record { at = y; is = refl; past = omega arith })))
no-sooner-by (Some x) (Some y) h = le-ltb y x (covers-in x y (Some x) refl (h y (record { at = y; is = refl; past = omega arith })))

later-early : (clock m n : ℕ) (u : Option ℕ) → is_before (Some (max clock m)) u ≡ true → is_before (Some (max clock n)) u ≡ true → is_before (Some (max (max clock m) n)) u ≡ true
later-early clock m n None e f = refl
later-early clock m n (Some z) e f = lt-ltb (max (max clock m) n) z (omega (arith, ltb-true (max clock m) z e, ltb-true (max clock n) z f))

-- where a tree is sure to be ready at a moment that is yet to come, it is so still
record IsExact (o p : Outlook) : Type 0 where
  at : p.at ≡ o.at
  sure : is_before p.at p.until ≡ true

exact-by : (t : ℕ) (o p : Outlook) → Renews t o p → is_before o.at o.until ≡ true → is_before (Some t) o.at ≡ true → IsExact o p
exact-by t o p r sure early = by o.at refl sure early
  where
    by : (at : Option ℕ) → o.at ≡ at → is_before at o.until ≡ true → is_before (Some t) at ≡ true → IsExact o p
    by None e sure early = absurd (false≢true sure)
    by (Some x) e sure early =
        let there : Covers x o.at = record { at = x; is = e; past = omega arith } in
        let st = r.known x (omega (arith, ltb-true t x early)) (record { at = there; ahead = sure }) in
        let z = st.there.at.at in
        let is = st.there.at.is in
        let past = st.there.at.past in
        let back = covers-in x z o.at e (r.at z (record { at = z; is = is; past = omega arith })) in
        let same : z ≡ x = omega (arith, past, back) in
        record { at = is ∙ ap Some same ∙ sym e; sure = ap (λ (a : Option ℕ). is_before a p.until) (is ∙ ap Some same) ∙ st.there.ahead }

shape-empty : {M : Type 0} (n : Node M) → is_empty (shape n) ≡ is_empty n
shape-empty n = ap (λ ps. length (beneath_own n.own ps) == 0) (each-each_memory beneath_own (λ m. tt) n.below)

-- ---- one poll after another

module _ (settings : DeviceSettings) (range : IsInRange settings) (d : DeviceState Counts) where
  -- a device that was polled in vain, which was d before
  record IsAlong (r : Replay Counts) : Type 0 where
    happened : List Event
    events : All IsEvent happened
    device : r.device ≡ (replay totals settings happened).device
    early : (m : ℕ) → IsTooEarly d m → is_before (Some (counts_at m r.device)) (ready d) ≡ true
    at : (y : ℕ) → Covers y (ready r.device) → Covers y (ready d)
    empty : is_empty r.device.tree.root ≡ is_empty d.tree.root
    exact : is_sure d.clock d.tree.root ≡ true → (ready r.device ≡ ready d) × (is_sure r.device.clock r.device.tree.root ≡ true)
    replies : All (λ (reply : Reply). reply ≡ empty_handed d) r.replies

  step-along : (r : Replay Counts) → IsAlong r → (m : ℕ) → IsTooEarly d m → IsAlong (with_step r (step totals r.device (event.Poll m)))
  step-along r h m soon =
      let x : DeviceState Counts = r.device in
      let t : ℕ = counts_at m x in
      let lawful : IsLawfulTree totals x.clock x.tree = subst (λ (y : DeviceState Counts). IsLawfulTree totals y.clock y.tree) (sym h.device) (replay-lawful settings h.happened range h.events) in
      let low : t ≤ 2 ^ 62 = not-after x.clock m (2 ^ 62) lawful.moment soon.0 in
      let order : x.clock ≤ t = not-before x.clock m in
      let shaped = lawful-shape totals x.clock t x.tree lawful order in
      let known : Foresees x.clock t (outlook x.clock x.tree.root) (given t x.tree) = sees totals x.clock t x.tree lawful.least_mtu low order shaped in
      let early : is_before (Some t) (ready d) ≡ true = h.early m soon in
      let silent : given t x.tree ≡ None = nothing t x h.at known early (given t x.tree) refl in
      let renews : Renews t (outlook x.clock x.tree.root) (outlook t (take_packet totals t x.tree).root) = take-renews totals x.clock t x.tree lawful.least_mtu low order shaped silent in
      let empty : is_empty (take_packet totals t x.tree).root ≡ is_empty d.tree.root = take-empty totals x.clock t x.tree lawful.least_mtu low order shaped silent ∙ h.empty in
      let e : Event = event.Poll m in
      let answer : (step totals x e).reply ≡ empty_handed d = ap₂ (λ g b. reply.Polled (polled_of g b)) silent (shape-empty (take_packet totals t x.tree).root ∙ empty) in
      record {
        happened = h.happened ++ e ∷ [];
        events = All-push IsEvent h.happened e h.events soon.0;
        device = ap (λ (y : DeviceState Counts). (step totals y e).device) h.device ∙ sym (ap (λ (y : Replay Counts). y.device) (replay_from-append totals (nothing_yet totals settings) h.happened e));
        early = λ n first. later-early x.clock m n (ready d) early (h.early n first);
        at = λ y c. h.at y (renews.at y c);
        empty = empty;
        exact = λ sure.
            let k = h.exact sure in
            let same = exact-by t (outlook x.clock x.tree.root) (outlook t (take_packet totals t x.tree).root) renews k.1 (ap (is_before (Some t)) k.0 ∙ early) in
            (same.at ∙ k.0, same.sure);
        replies = All-push (λ (y : Reply). y ≡ empty_handed d) r.replies (step totals x e).reply h.replies answer;
      }
    where
      nothing : (t : ℕ) (x : DeviceState Counts) → ((y : ℕ) → Covers y (ready x) → Covers y (ready d))
          → Foresees x.clock t (outlook x.clock x.tree.root) (given t x.tree) → is_before (Some t) (ready d) ≡ true
          → (o : Option Descriptor) → given t x.tree ≡ o → given t x.tree ≡ None
      nothing t x no_sooner known early None e = e
      nothing t x no_sooner known early (Some p) e =
          let comes = known.early p e in
          absurd (not-past t (ready d) early (no_sooner t (record { at = comes.at; is = comes.is; past = comes.past })))

  polls-along : (moments : List ℕ) → All (IsTooEarly d) moments → (r : Replay Counts) → IsAlong r → IsAlong (replay_from totals r (map event.Poll moments))
  polls-along [] all r h = h
  polls-along (m ∷ moments) all r h =
      polls-along moments (All-tail (IsTooEarly d) m moments all) (with_step r (step totals r.device (event.Poll m)))
      (step-along r h m (All-head (IsTooEarly d) m moments all))

pub early-polls : (d : DeviceSeen) → IsReplayed d → IsInRange d.settings → EarlyPollsGiveNothing d
early-polls d r range moments all =
    let first : IsAlong d.settings range d.device (record { device = d.device; replies = []; losses = [] }) = record {
      happened = r.happened;
      events = r.events;
      device = r.replayed.device;
      early = λ m soon. soon.1;
      at = λ y c. c;
      empty = refl;
      exact = λ sure. (refl, sure);
      replies = All-nil (λ (y : Reply). y ≡ empty_handed d.device);
    } in
    let h = polls-along d.settings range d.device moments all (record { device = d.device; replies = []; losses = [] }) first in
    record {
      replies = h.replies;
      no_sooner = no-sooner-by (ready d.device) (ready (after_polls moments d.device).device) h.at;
      same = λ sure. (h.exact sure).0;
      sure = λ sure. (h.exact sure).1;
    }

-- ---- one poll that gave nothing

still-ahead : (t : ℕ) (u : Option ℕ) → (Covers t u → ⊥) → is_before (Some t) u ≡ true
still-ahead t None h = refl
still-ahead t (Some x) h = elim (cases_lt t x) [
  | inl less ↦ lt-ltb t x less
  | inr past ↦ absurd (h (record { at = x; is = refl; past = past }))
]

pub empty-polls : (d : DeviceSeen) → IsReplayed d → IsInRange d.settings → ReadyPassesEmptyPolls d
empty-polls d r range m within silent =
    let x : DeviceState Counts = d.device in
    let t : ℕ = counts_at m x in
    let lawful : IsLawfulTree totals x.clock x.tree = seen-lawful r.happened d r.replayed range r.events in
    let low : t ≤ 2 ^ 62 = not-after x.clock m (2 ^ 62) lawful.moment within in
    let moves : Moves t None (outlook t (take_packet totals t x.tree).root) =
    take-moves totals t x.tree lawful.least_mtu low (lawful-shape totals x.clock t x.tree lawful (not-before x.clock m)) silent in
    still-ahead t (outlook t (take_packet totals t x.tree).root).at (moves.hidden refl)
