-- A packet that is put: what the node at which it ends, or which it passes, keeps.
use Rattle.std.proofs.Common.{◌≡◌, ℕ, ◌+◌, List, [], ◌∷◌, map, refl, sym, ap, subst, Some, arith}
use Rattle.q_packet.specs.Descriptor.{Descriptor}
use Rattle.q_packet.specs.declared.cause.Cause.{Cause}
use Rattle.q_model.specs.Tally.{Note, Arrived, Lost}
use Rattle.q_model.specs.Node.{Own, Shape, side_by_side, children}
use Rattle.q_model.specs.Beneath.{beneath_own, beneath}
use Rattle.q_model.specs.Conserved.{held_own, held_beneath}
use Rattle.q_model.specs.Lawful.{IsLawfulOwn}
use Rattle.q_model.specs.Work.{Worked, Work, worked, quiet}
use Rattle.q_model.specs.Put.{put_here}
use Rattle.q_model.proofs.ShrinkLemmas.{each-each_memory}
use Rattle.q_invariants.specs.Kept.{AreLawful, IsLawfulRoot}
use Rattle.q_invariants.specs.Weights.{arrived, lost, marked, plain, sent, weigh}
use Rattle.q_invariants.proofs.ask.Answer.{waiting, holds, beneath-worked, held-worked, lawful-worked}
use Rattle.q_invariants.proofs.sums.Told.{AllTold, IsRootTold}
use Rattle.q_invariants.proofs.sums.Weights.{arrived-cons, sent-cons, lost-cons, marked-cons, arrived-nil, sent-nil, lost-nil, marked-nil}
use Rattle.q_invariants.proofs.tree.Forests.{AreTold, told-side}
use Rattle.q_invariants.proofs.tree.Quiet.{quiets, side-quiet, waiting-quiet, holds-quiet, beneath-quiets, quiets-told, quiets-lawful}

pub record IsPut (mtu now : ℕ) (p : Descriptor) (s : Shape) (w : Work) : Type 0 where
  pub lawful : IsLawfulRoot mtu now w.node
  pub told : IsRootTold (quiet s) w.node
  pub no_arrival : (f : Descriptor → ℕ) → arrived f w.rises ≡ 0
  pub nothing_sent : (f : Descriptor → ℕ) → sent f w.rises ≡ 0
  pub nothing_marked : (f : Descriptor → ℕ) → marked f w.rises ≡ 0
  pub conserved : (f : Descriptor → ℕ) → f (plain p) + weigh f (beneath s) ≡ lost f w.rises + weigh f (beneath w.node)
  pub held : (f : Descriptor → ℕ) → weigh f (held_beneath s) ≡ weigh f (held_beneath w.node)

-- the parts: the node as it is then, what rises, and its children
pub record ArePut (mtu now : ℕ) (p : Descriptor) (s : Shape) (own : Own) (rises : List Note) (below : List Worked) : Type 0 where
  pub handle : own.handle ≡ s.own.handle
  pub lawful : IsLawfulOwn mtu now own (map beneath below)
  pub all : AreLawful mtu now below
  pub told : AreTold (quiets s) below
  pub no_arrival : (f : Descriptor → ℕ) → arrived f rises ≡ 0
  pub nothing_sent : (f : Descriptor → ℕ) → sent f rises ≡ 0
  pub nothing_marked : (f : Descriptor → ℕ) → marked f rises ≡ 0
  pub conserved : (f : Descriptor → ℕ) → f (plain p) + weigh f (waiting s.own (quiets s)) ≡ lost f rises + weigh f (waiting own below)
  pub held : (f : Descriptor → ℕ) → weigh f (holds s.own (quiets s)) ≡ weigh f (holds own below)

pub put-parts : (mtu now : ℕ) (p : Descriptor) (s : Shape) (own : Own) (rises : List Note) (below : List Worked) → ArePut mtu now p s own rises below
    → IsPut mtu now p s (record { node = worked own (Arrived p ∷ rises) below; rises = rises })
put-parts mtu now p s own rises below h =
    let node : Worked = worked own (Arrived p ∷ rises) below in
    let before_is : (f : Descriptor → ℕ) → weigh f (beneath (quiet s)) ≡ weigh f (beneath s) = λ f. ap (λ bs. weigh f (beneath_own s.own bs)) (each-each_memory beneath_own (λ u. []) s.below) in
    let held_before : (f : Descriptor → ℕ) → weigh f (held_beneath (quiet s)) ≡ weigh f (held_beneath s) = λ f. ap (λ bs. weigh f (held_own s.own bs)) (each-each_memory held_own (λ u. []) s.below) in
    let b0 = λ (f : Descriptor → ℕ). ap (weigh f) (waiting-quiet s) in
    let b1 = λ (f : Descriptor → ℕ). ap (weigh f) (beneath-worked own (Arrived p ∷ rises) below) in
    let h0 = λ (f : Descriptor → ℕ). ap (weigh f) (holds-quiet s) in
    let h1 = λ (f : Descriptor → ℕ). ap (weigh f) (held-worked own (Arrived p ∷ rises) below) in
    record {
      lawful = lawful-worked mtu now own (Arrived p ∷ rises) below h.lawful h.all;
      told = (
        record {
          conserved = λ f. omega (
            arith,
            h.conserved f,
            before_is f,
            b0 f,
            b1 f,
            h.no_arrival f,
            h.nothing_sent f,
            arrived-cons f (Arrived p) rises,
            sent-cons f (Arrived p) rises,
            lost-cons f (Arrived p) rises,
          );
          marks = λ f. omega (arith, h.held f, held_before f, h0 f, h1 f, h.nothing_marked f, h.nothing_sent f, marked-cons f (Arrived p) rises);
        },
        h.handle,
        subst (λ x. AllTold x (side_by_side below)) (side-quiet s.below) (told-side (quiets s) below h.told),
      );
      no_arrival = h.no_arrival;
      nothing_sent = h.nothing_sent;
      nothing_marked = h.nothing_marked;
      conserved = λ f. omega (arith, h.conserved f, b0 f, b1 f);
      held = λ f. omega (arith, h.held f, h0 f, h1 f);
    }

-- a packet that is refused where its way ends
pub refused-put : (mtu now : ℕ) (p : Descriptor) (s : Shape) (cause : Cause) → IsLawfulRoot mtu now s → IsPut mtu now p s (put_here now p (Some cause) s)
refused-put mtu now p s cause h = put-parts mtu now p s s.own (Lost p cause ∷ []) (quiets s) (record {
  handle = refl;
  lawful = subst (IsLawfulOwn mtu now s.own) (sym (beneath-quiets s)) h.0;
  all = quiets-lawful mtu now s.below h.1;
  told = quiets-told (children s);
  no_arrival = λ f. omega (arith, arrived-cons f (Lost p cause) [], arrived-nil f);
  nothing_sent = λ f. omega (arith, sent-cons f (Lost p cause) [], sent-nil f);
  nothing_marked = λ f. omega (arith, marked-cons f (Lost p cause) [], marked-nil f);
  conserved = λ f. omega (arith, lost-cons f (Lost p cause) [], lost-nil f);
  held = λ f. refl;
})
