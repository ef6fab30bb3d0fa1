-- A node that keeps its first children and gets new leaves behind them, as a prio with other bands and a drr with a class more.
use Rattle.std.proofs.Common.{◌≡◌, ℕ, zero, suc, ◌+◌, ◌-◌, ◌<◌, ◌≤◌, min, Bool, true, false, ◌||◌, List, ◌++◌, length, map, take, drop, replicate, get_or, ◌&&◌, refl, sym, ap, ap₂, subst, ◌∙◌, Some, None, inl, inr, arith}
use Rattle.std.specs.Prelude.{is_some, nat_le, nat_lt, if◌then◌else◌}
use Rattle.std.specs.List.{All, list_any}
use Rattle.std.proofs.lemmas.Bool.{leb-true, le-leb, ltb-false, and_from, cases_Bool, false≢true}
use Rattle.std.proofs.lemmas.Option.{slice_get-get_or}
use Rattle.std.proofs.lemmas.List.{length-map, length-append, length-take, length-replicate, take-append-drop, drop-map}
use Rattle.std.proofs.lemmas.List.Elements.{All-append, All-take, All-replicate}
use Rattle.q_packet.specs.Descriptor.{Descriptor}
use Rattle.q_model.specs.declared.filter.Filter.{Filter}
use Rattle.q_model.specs.Tally.{Note, history}
use Rattle.q_model.specs.Node.{Discipline, Prio, Own, Node, Shape, children, shape, blank}
use Rattle.q_model.specs.Beneath.{packets_in, beneath}
use Rattle.q_model.specs.Find.{class_in}
use Rattle.q_model.specs.Edit.{Child, New, keeps}
use Rattle.q_model.specs.Options.{PrioSettings, IsPrio}
use Rattle.q_model.specs.Lawful.{IsLawfulOwn, CanHold}
use Rattle.q_invariants.specs.Kept.{IsCountedRoot, IsLawfulRoot}
use Rattle.q_invariants.specs.Weights.{weigh}
use Rattle.q_invariants.proofs.edit.EditChildren.{kept_from, kids, kids-append, kids_kept, kids_new, kept_there, kept_above, new_keeps, any-append, gone_past}
use Rattle.q_invariants.proofs.edit.EditNew.{IsNew, new_beneath, new_lawful, new_counted, new_times}
use Rattle.q_invariants.proofs.edit.EditRemade.{waits, holds, times_in, waits-append, holds-append, times-append, holds-le-waits, own_changed, Remakes}
use Rattle.q_invariants.proofs.edit.EditRetuned.{own_lawful, children_lawful, children_counted}
use Rattle.q_invariants.proofs.edit.EditSuits.{gone_from, length-shape}
use Rattle.q_invariants.proofs.sums.Joined.{joined, weigh-joined-cons}
use Rattle.q_invariants.proofs.sums.Weights.{weigh-nil}
use Rattle.q_invariants.proofs.tree.Members.{fails-at}

abbrev pub front_and_new : ℕ → ℕ → Shape → List Child
front_and_new m r leaf = kept_from 0 m ++ replicate r (New leaf)

module _ (mtu now : ℕ) (leaf : Shape) (new : IsNew mtu now None leaf) where
  abbrev pub leaves : ℕ → List (Node (List Note))
  leaves r = replicate r (blank history leaf)

  leaves_wait : (w : Descriptor → ℕ) (r : ℕ) → waits w (leaves r) ≡ 0
  leaves_wait w zero = weigh-nil w
  leaves_wait w (suc r) =
      omega (arith, weigh-joined-cons w (beneath (blank history leaf)) (map beneath (leaves r)), ap (weigh w) (new_beneath mtu now None leaf new), weigh-nil w, leaves_wait w r)

  leaves_handles : (h r : ℕ) → times_in h (leaves r) ≡ 0
  leaves_handles h zero = refl
  leaves_handles h (suc r) = omega (arith, new_times mtu now None leaf new h, leaves_handles h r)

  module _ (old : Node (List Note)) (lawful : IsLawfulRoot mtu now old) (counted : IsCountedRoot old) (m r : ℕ) (most : m ≤ length (children old)) where
    abbrev pub front : List (Node (List Note))
    front = take m (children old) ++ leaves r

    front_kids : kids history (children old) (front_and_new m r leaf) ≡ front
    front_kids =
        kids-append history (children old) (kept_from 0 m) (replicate r (New leaf))
        ∙ ap₂ (λ (a : List (Node (List Note))) (b : List (Node (List Note))). a ++ b) (kids_kept history (children old) 0 m) (kids_new history (children old) leaf r)

    front_gone : gone_from (front_and_new m r leaf) old ≡ joined (drop m (map beneath (children old)))
    front_gone =
        gone_past (λ j. list_any (keeps j) (front_and_new m r leaf)) 0 m (map beneath (children old))
        (λ j le lt. any-append (keeps j) (kept_from 0 m) (replicate r (New leaf)) ∙ ap (λ t. t || list_any (keeps j) (replicate r (New leaf))) (kept_there j 0 m le lt))
        (λ j le. any-append (keeps j) (kept_from 0 m) (replicate r (New leaf)) ∙ ap₂ (λ s t. s || t) (kept_above j 0 m le) (new_keeps j leaf r))

    gone_waits : (w : Descriptor → ℕ) → weigh w (gone_from (front_and_new m r leaf) old) ≡ waits w (drop m (children old))
    gone_waits w = ap (weigh w) front_gone ∙ ap (λ b. weigh w (joined b)) (drop-map beneath m (children old))

    split_waits : (w : Descriptor → ℕ) → waits w (children old) ≡ waits w (take m (children old)) + waits w (drop m (children old))
    split_waits w = ap (waits w) (sym (take-append-drop m (children old))) ∙ waits-append w (take m (children old)) (drop m (children old))

    split_holds : (w : Descriptor → ℕ) → holds w (children old) ≡ holds w (take m (children old)) + holds w (drop m (children old))
    split_holds w = ap (holds w) (sym (take-append-drop m (children old))) ∙ holds-append w (take m (children old)) (drop m (children old))

    split_times : (h : ℕ) → times_in h (children old) ≡ times_in h (take m (children old)) + times_in h (drop m (children old))
    split_times h = ap (times_in h) (sym (take-append-drop m (children old))) ∙ times-append h (take m (children old)) (drop m (children old))

    pub front_waits : (w : Descriptor → ℕ) → waits w front ≡ waits w (take m (children old))
    front_waits w = omega (arith, waits-append w (take m (children old)) (leaves r), leaves_wait w r)

    pub front_fewer : (w : Descriptor → ℕ) → waits w front ≤ waits w (children old)
    front_fewer w = omega (arith, front_waits w, split_waits w)

    pub front_length : length (map beneath front) ≡ m + r
    front_length =
        omega (arith, length-map front beneath, length-append (take m (children old)) (leaves r), length-take m (children old), length-replicate r (blank history leaf), most)

    pub remakes_front : (own : Own) → own.handle ≡ old.own.handle → own.held ≡ old.own.held → packets_in own.discipline ≡ packets_in old.own.discipline
        → IsLawfulOwn mtu now own (map beneath front) → Remakes mtu now (gone_from (front_and_new m r leaf) old) old own (kids history (children old) (front_and_new m r leaf))
    remakes_front own handle held packets own_is =
        subst (Remakes mtu now (gone_from (front_and_new m r leaf) old) old own) (sym front_kids) (record {
          handle = handle;
          held = held;
          packets = packets;
          lawful = own_is;
          lawful_below = All-append (IsLawfulRoot mtu now) (take m (children old)) (leaves r)
              (All-take (IsLawfulRoot mtu now) m (children old) (children_lawful mtu now old lawful counted))
              (All-replicate (IsLawfulRoot mtu now) r (blank history leaf) (new_lawful mtu now None leaf new));
          counted_below = All-append IsCountedRoot (take m (children old)) (leaves r)
              (All-take IsCountedRoot m (children old) (children_counted mtu now old lawful counted))
              (All-replicate IsCountedRoot r (blank history leaf) (new_counted mtu now None leaf new));
          waiting = λ w. omega (arith, front_waits w, split_waits w, gone_waits w);
          held_below = λ w. omega (arith, split_holds w, holds-append w (take m (children old)) (leaves r), gone_waits w, holds-le-waits w (drop m (children old)));
          handles_below = λ h. omega (arith, split_times h, times-append h (take m (children old)) (leaves r), leaves_handles h r);
        })

-- ---- a prio with other bands

class_within : (bands minor : ℕ) (priomap : List ℕ) → is_some (class_in bands minor (Prio priomap)) ≡ true → 1 ≤ minor
class_within bands minor priomap e = elim (cases_Bool (nat_le 1 minor)) [
  | inl t ↦ leb-true 1 minor t
  | inr f ↦ absurd (false≢true (sym (ap (λ (t : Bool). is_some (if t && nat_le minor bands then Some (minor - 1) else None)) f) ∙ e))
]

class_there : (bands minor : ℕ) (priomap : List ℕ) → 1 ≤ minor → minor ≤ bands → is_some (class_in bands minor (Prio priomap)) ≡ true
class_there bands minor priomap least most =
    ap (λ (t : Bool). is_some (if t then Some (minor - 1) else None)) (and_from (nat_le 1 minor) (nat_le minor bands) (le-leb 1 minor least) (le-leb minor bands most))

pub remakes_bands : (mtu now : ℕ) (leaf : Shape) (new : IsNew mtu now None leaf) (old : Node (List Note)) (lawful : IsLawfulRoot mtu now old) (counted : IsCountedRoot old)
    (priomap : List ℕ) (s : PrioSettings) → old.own.discipline ≡ Prio priomap → IsPrio s → list_any (λ (f : Filter). nat_lt s.bands f.minor) old.own.filters ≡ false
    → let n : ℕ = length (children (shape old)) in
    Remakes mtu now (gone_from (front_and_new (min n s.bands) (s.bands - n) leaf) old) old (record old.own { discipline = Prio s.priomap })
    (kids history (children old) (front_and_new (min n s.bands) (s.bands - n) leaf))
remakes_bands mtu now leaf new old lawful counted priomap s is range busy =
    let n : ℕ = length (children (shape old)) in
    let m : ℕ = min n s.bands in
    let r : ℕ = s.bands - n in
    let most : m ≤ length (children old) = omega (arith, length-shape old) in
    let own : Own = record old.own { discipline = Prio s.priomap } in
    let left : List (List Descriptor) = map beneath (front mtu now leaf new old lawful counted m r most) in
    let bands : length left ≡ s.bands = omega (arith, front_length mtu now leaf new old lawful counted m r most) in
    let was : IsLawfulOwn mtu now old.own (map beneath (children old)) = own_lawful mtu now old lawful counted in
    remakes_front mtu now leaf new old lawful counted m r most own refl refl (ap packets_in (sym is))
    (own_changed mtu now old.own own (map beneath (children old)) left was refl (ap packets_in (sym is))
    (front_fewer mtu now leaf new old lawful counted m r most)
    (record {
      least = omega (arith, bands, range.few.0);
      most = omega (arith, bands, range.few.1);
      each = range.each;
      bands = subst (λ k. All (λ band. band < k) s.priomap) (sym bands) range.there;
    })
    (λ c. absurd (subst CanHold is c)) was.filters was.in_order
    (λ k d lt.
    let f : Filter = get_or old.own.filters k d in
    let named : is_some (class_in (length (map beneath (children old))) f.minor (Prio priomap)) ≡ true =
    ap (λ (x : Discipline). is_some (class_in (length (map beneath (children old))) f.minor x)) (sym is) ∙ was.named k d lt in
    let low : 1 ≤ f.minor = class_within (length (map beneath (children old))) f.minor priomap named in
    let high : f.minor ≤ s.bands = ltb-false s.bands f.minor (fails-at (λ (g : Filter). nat_lt s.bands g.minor) old.own.filters k f busy (slice_get-get_or old.own.filters k d lt)) in
    class_there (length left) f.minor s.priomap low (omega (arith, bands, high))))
