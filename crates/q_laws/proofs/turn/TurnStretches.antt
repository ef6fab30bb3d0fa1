-- How often a class of a drr is granted while a packet is left of its first so many bytes: it is granted only where its deficit is short.
use Rattle.std.proofs.Common.{◌≡◌, ℕ, zero, suc, ◌+◌, ◌-◌, ◌*◌, ◌<◌, ◌≤◌, ◌⊎◌, inl, inr, List, [], ◌∷◌, ◌++◌, refl, sym, ap, subst, ◌∙◌, Option, Some, None, option_map, arith}
use Rattle.std.specs.Prelude.{false, All, IsSomeAnd}
use Rattle.std.specs.Int.{div_ceil}
use Rattle.std.proofs.Math.Nat.{add-mul, mul_comm, mul-le-mul_left}
use Rattle.std.proofs.lemmas.Bool.{cases_lt}
use Rattle.std.proofs.lemmas.Grind.{div_ceil_times}
use Rattle.std.proofs.lemmas.List.Elements.{All-head, All-tail}
use Rattle.std.proofs.lemmas.List.Sums.{sum_by-append}
use Rattle.std.proofs.lemmas.Option.{same_Some}
use Rattle.q_packet.specs.Descriptor.{Descriptor}
use Rattle.q_drr.specs.Schedule.{quantum_of, deficit_of}
use Rattle.q_model.specs.declared.event.Event.{Event}
use Rattle.q_model.specs.Ask.{ask}
use Rattle.q_model.specs.Beneath.{is_empty}
use Rattle.q_model.specs.Events.{IsEvent}
use Rattle.q_model.specs.Node.{shape}
use Rattle.q_model.specs.Settings.{DeviceSettings, IsInRange}
use Rattle.q_model.specs.Step.{DeviceState, step}
use Rattle.q_model.specs.Stretches.{sent_by, bytes_sent, granted_by, grants_to, length_held, ClassAt, class_in, IsBackloggedClass, Throughout}
use Rattle.q_model.specs.Tally.{Note, history}
use Rattle.q_invariants.proofs.Along.{counted}
use Rattle.q_invariants.proofs.class.ClassMoves.{class-moves, class-short}
use Rattle.q_invariants.proofs.Replays.{IsKept, step-kept}
use Rattle.q_invariants.proofs.tree.StepNodes.{clock-rises}
use Rattle.q_device.specs.Sharing.{device_after}
use Rattle.q_laws.specs.share.Service.{given_so_far, class_sent}
use Rattle.q_laws.specs.turn.Turn.{IsClassLeft, StaysLeft, shown_by}
use Rattle.q_laws.proofs.share.ServiceStretches.{given-at}

-- so many grants are enough, where the last one came while less than the bytes was covered
pub few-grants : (g quantum d0 bytes : ℕ) → 1 ≤ quantum → (g * quantum ≡ 0) ⊎ (g * quantum + d0 < bytes + quantum) → g ≤ div_ceil (bytes - d0) quantum
few-grants g quantum d0 bytes some short = elim (cases_lt (div_ceil (bytes - d0) quantum) g) [
  | inl more ↦
      let n : ℕ = div_ceil (bytes - d0) quantum in
      let enough = (div_ceil_times (bytes - d0) quantum (omega (arith, some))).0 in
      let least : quantum * (n + 1) ≤ quantum * g = mul-le-mul_left quantum (omega (arith, more)) in
      let parts : (n + 1) * quantum ≡ n * quantum + 1 * quantum = add-mul n 1 quantum in
      let turned = mul_comm quantum (n + 1) in
      let over = mul_comm quantum g in
      absurd (by (omega (arith, least, parts, turned, over)) (omega (arith, enough)) short)
  | inr past ↦ omega (arith, past)
]
  where
    by : div_ceil (bytes - d0) quantum * quantum + quantum ≤ g * quantum → bytes - d0 ≤ div_ceil (bytes - d0) quantum * quantum → (g * quantum ≡ 0) ⊎ (g * quantum + d0 < bytes + quantum) → ⊥
    by least enough (inl none) = omega (arith, least, none, some)
    by least enough (inr less) = omega (arith, least, enough, less)

-- ---- how much it has sent where it is granted

module _ (major i bytes : ℕ) where
  -- Where this event grants the class, which has sent so many, those and the packet that its child shows are among the bytes.
  abbrev GrantedWithin : ℕ → DeviceState (List Note) → Event → Type 0
  GrantedWithin sent d e =
      (x y : ClassAt) (k : ℕ) → class_in major i d ≡ Some x → class_in major i (step history d e).device ≡ Some y
      → grants_to i y.noted ≡ grants_to i x.noted + suc k → sent + shown_by (step history d e).device.clock x ≤ bytes

  -- at each event from a first state on, in which it has sent so many
  abbrev pub StaysWithin : ℕ → DeviceState (List Note) → List Event → Type 0
  StaysWithin sent d [] = Unit {0}
  StaysWithin sent d (e ∷ events) =
      let next = (step history d e).device in
      GrantedWithin sent d e × StaysWithin (sent + (given_so_far major i next - given_so_far major i d)) next events

  -- so it is as long as a packet is left
  pub left-within : (d : DeviceState (List Note)) (during : List Event) (sent : ℕ) → IsKept d → All IsEvent during → StaysLeft major i bytes sent d during
      → StaysWithin sent d during
  left-within d [] sent kept all left = tt
  left-within d (e ∷ during) sent kept all left =
      let next : DeviceState (List Note) = (step history d e).device in
      let kept_next : IsKept next = step-kept d e kept (All-head IsEvent e during all) in (
        λ x y k is at granted. left.0 x next.clock is (clock-rises d e) kept_next.moment,
        left-within next during (sent + (given_so_far major i next - given_so_far major i d)) kept_next (All-tail IsEvent e during all) left.1,
      )

module _ (major i quantum bytes d0 : ℕ) where
  abbrev Stays : DeviceState (List Note) → Type 0
  Stays d = IsBackloggedClass major i quantum d

  -- it has sent so many and was granted so often, each time while it was short
  pub record Short (sent grants : ℕ) (x : ClassAt) : Type 0 where
    pub book : sent + deficit_of i x.schedule.active ≡ grants * quantum + d0
    pub short : (grants ≡ 0) ⊎ (grants * quantum + d0 < bytes + quantum)

  pub record Waits (sent : ℕ) (z : ClassAt) : Type 0 where
    pub grants : ℕ
    pub short : Short sent grants z

  abbrev Moves : DeviceState (List Note) → List Event → DeviceState (List Note) → Type 0
  Moves d during end =
      (x z : ClassAt) (sent grants : ℕ) → class_in major i d ≡ Some x → class_in major i end ≡ Some z → Short sent grants x
      → StaysWithin major i bytes sent d during → Waits (sent + class_sent major i d during) z

  still : (d : DeviceState (List Note)) → IsKept d → Stays d → Moves d [] d
  still d kept h x z sent grants is at short within =
      subst (λ n. Waits n z) (let same : sent ≡ sent + 0 = omega arith in same)
      (subst (Waits sent) (same_Some x z (sym is ∙ at)) (record { grants = grants; short = short }))

  -- one that is granted at this event was short right before its last grant
  granted-short : (d next_clock : ℕ) (sent grants k deficit q : ℕ) (o : Option Descriptor) → q ≡ quantum → sent + deficit ≡ grants * quantum + d0 → sent + length_held o ≤ bytes
      → IsSomeAnd (option_map (λ (p : Descriptor). p.len) o) (λ len. deficit + k * q < len) → (grants + suc k) * quantum + d0 < bytes + quantum
  granted-short d next_clock sent grants k deficit q None same book left less = absurd less
  granted-short d next_clock sent grants k deficit q (Some p) same book left less =
      let parts : (grants + suc k) * quantum ≡ grants * quantum + suc k * quantum = add-mul grants (suc k) quantum in
      let one : suc k * quantum ≡ k * quantum + 1 * quantum = ap (λ n. n * quantum) (let s : suc k ≡ k + 1 = omega arith in s) ∙ add-mul k 1 quantum in
      omega (arith, book, left, less, parts, one, ap (λ n. k * n) same)

  more : (d : DeviceState (List Note)) (e : Event) (during : List Event) (end : DeviceState (List Note)) → IsKept d → IsEvent e → Stays d → Stays (step history d e).device
      → Moves (step history d e).device during end → Moves d (e ∷ during) end
  more d e during end kept event h k on x z sent grants is at short within =
      let next : DeviceState (List Note) = (step history d e).device in
      let y : ClassAt = k.class in
      let same : h.class ≡ x = same_Some h.class x (sym h.there ∙ is) in
      let queued : is_empty x.child ≡ false = ap (λ (c : ClassAt). is_empty c.child) (sym same) ∙ h.queued in
      let q : quantum_of i x.schedule.classes ≡ quantum = ap (λ (c : ClassAt). quantum_of i c.schedule.classes) (sym same) ∙ h.same_quantum in
      let m = class-moves major i d e x y kept event is k.there queued k.queued (k.same_quantum ∙ sym q) in
      let gain : ℕ = given_so_far major i next - given_so_far major i d in
      let gave : gain ≡ bytes_sent m.given =
      (let all : bytes_sent y.child.memory ≡ bytes_sent x.child.memory + bytes_sent m.given = ap bytes_sent m.gives ∙ sum_by-append sent_by x.child.memory m.given in
      omega (arith, all, given-at major i next y k.there, given-at major i d x is)) in
      let own : bytes_sent m.given + deficit_of i y.schedule.active ≡ grants_to i m.notes * quantum + deficit_of i x.schedule.active =
      (let books = m.books in omega (arith, books, ap (λ n. grants_to i m.notes * n) q)) in
      let book = short.book in
      let parts : (grants + grants_to i m.notes) * quantum ≡ grants * quantum + grants_to i m.notes * quantum = add-mul grants (grants_to i m.notes) quantum in
      let book_next : (sent + gain) + deficit_of i y.schedule.active ≡ (grants + grants_to i m.notes) * quantum + d0 = omega (arith, book, own, gave, parts) in
      let rest = on y z (sent + gain) (grants + grants_to i m.notes) k.there at (record { book = book_next; short = by m.notes m.is short.short (grants_to i m.notes) refl }) within.1 in
      subst (λ n. Waits n z) (let whole : (sent + gain) + class_sent major i next during ≡ sent + (gain + class_sent major i next during) = omega arith in whole) rest
    where
      by : (notes : List Note) → k.class.noted ≡ x.noted ++ notes → (grants ≡ 0) ⊎ (grants * quantum + d0 < bytes + quantum) → (g : ℕ) → grants_to i notes ≡ g
          → (grants + g ≡ 0) ⊎ ((grants + g) * quantum + d0 < bytes + quantum)
      by notes noted before zero none = elim before [
        | inl never ↦ inl (omega (arith, never))
        | inr less ↦ inr (let same : grants + 0 ≡ grants = omega arith in omega (arith, less, ap (λ n. n * quantum) same))
      ]
      by notes noted before (suc j) some =
          let next : DeviceState (List Note) = (step history d e).device in
          let same : h.class ≡ x = same_Some h.class x (sym h.there ∙ is) in
          let q : quantum_of i x.schedule.classes ≡ quantum = ap (λ (c : ClassAt). quantum_of i c.schedule.classes) (sym same) ∙ h.same_quantum in
          let whole : grants_to i k.class.noted ≡ grants_to i x.noted + suc j =
          ap (grants_to i) noted ∙ sum_by-append (granted_by i) x.noted notes ∙ ap (λ n. grants_to i x.noted + n) some in
          inr (granted-short 0 0 sent grants j (deficit_of i x.schedule.active) (quantum_of i x.schedule.classes) (ask next.clock (shape x.child)).shown q short.book
          (within.0 x k.class j is k.there whole)
          (class-short major i j d e x k.class kept event is k.there whole))

  pub class-waits : (settings : DeviceSettings) (before during : List Event) → IsInRange settings → All IsEvent before → All IsEvent during → Throughout Stays settings before during
      → (first last : ClassAt) → class_in major i (device_after settings before) ≡ Some first → class_in major i (device_after settings (before ++ during)) ≡ Some last
      → deficit_of i first.schedule.active ≡ d0 → StaysWithin major i bytes 0 (device_after settings before) during
      → Waits (0 + class_sent major i (device_after settings before) during) last
  class-waits settings before during range all_before all_during stays first last is at begin within =
      counted Stays Moves still more settings before during range all_before all_during stays first last 0 0 is at (record { book = omega (arith, begin); short = inl refl }) within

  -- ---- a packet that is left is left at the end

  abbrev StillLeft : DeviceState (List Note) → List Event → DeviceState (List Note) → Type 0
  StillLeft d during end = (sent : ℕ) → StaysLeft major i bytes sent d during → IsClassLeft major i bytes (sent + class_sent major i d during) end

  left-still : (d : DeviceState (List Note)) → IsKept d → Stays d → StillLeft d [] d
  left-still d kept h sent left = subst (λ n. IsClassLeft major i bytes n d) (let same : sent ≡ sent + 0 = omega arith in same) left

  left-more : (d : DeviceState (List Note)) (e : Event) (during : List Event) (end : DeviceState (List Note)) → IsKept d → IsEvent e → Stays d
      → Stays (step history d e).device → StillLeft (step history d e).device during end → StillLeft d (e ∷ during) end
  left-more d e during end kept event h k on sent left =
      let next : DeviceState (List Note) = (step history d e).device in
      let gain : ℕ = given_so_far major i next - given_so_far major i d in
      subst (λ n. IsClassLeft major i bytes n end)
      (let whole : (sent + gain) + class_sent major i next during ≡ sent + (gain + class_sent major i next during) = omega arith in whole)
      (on (sent + gain) left.1)

  pub left-at-end : (settings : DeviceSettings) (before during : List Event) → IsInRange settings → All IsEvent before → All IsEvent during
      → Throughout Stays settings before during → StaysLeft major i bytes 0 (device_after settings before) during
      → IsClassLeft major i bytes (0 + class_sent major i (device_after settings before) during) (device_after settings (before ++ during))
  left-at-end settings before during range all_before all_during stays left =
      counted Stays StillLeft left-still left-more settings before during range all_before all_during stays 0 left
