-- A node without packets, of which nothing has been noted, in the place of another: what was beneath that one is purged.
use Rattle.std.proofs.Common.{◌≡◌, ℕ, ◌+◌, ◌≤◌, List, [], ◌++◌, refl, sym, ap, ap₂, subst, ◌∙◌, Option, None, arith}
use Rattle.std.specs.Option.{option_to_list}
use Rattle.q_packet.specs.Descriptor.{Descriptor}
use Rattle.q_model.proofs.ShrinkLemmas.{each-each_memory}
use Rattle.q_model.specs.Tally.{Note, history}
use Rattle.q_model.specs.Node.{Own, Forest, none, more, Node, Shape, each, each_memory, blank}
use Rattle.q_model.specs.Beneath.{packets_in, beneath_own, beneath}
use Rattle.q_model.specs.Conserved.{held_own, held_beneath}
use Rattle.q_invariants.specs.Kept.{AllCounted, AreCounted, IsCountedRoot, IsLawfulRoot}
use Rattle.q_invariants.specs.Weights.{weigh}
use Rattle.q_invariants.proofs.edit.EditAbove.{Becomes}
use Rattle.q_invariants.proofs.edit.EditHandles.{one, times_below, times}
use Rattle.q_invariants.proofs.sums.Joined.{joined, weigh-joined-cons, weigh-beneath, weigh-held, counted_nothing}
use Rattle.q_invariants.proofs.sums.Weights.{weigh-nil}
use Rattle.q_invariants.proofs.tree.Forests.{lawful-with_memory}

-- nothing is held there, and nothing is in its own lists
abbrev pub IsIdle : Own → Type 0
IsIdle own = (own.held ≡ None) × (packets_in own.discipline ≡ [])

abbrev pub AllIdle : {M : Type 0} → Forest M → Type 0
AllIdle none = Unit {0}
AllIdle (more own m below others) = IsIdle own × AllIdle below × AllIdle others

-- a node that may be put in place of another, with this handle at most
pub record IsNew (mtu clock : ℕ) (fresh : Option ℕ) (s : Shape) : Type 0 where
  pub idle : IsIdle s.own
  pub idle_below : AllIdle s.below
  pub lawful : IsLawfulRoot mtu clock s
  pub handles : (h : ℕ) → times h s ≤ one h fresh

-- ---- nothing beneath

idle_own : (own : Own) (below : List (List Descriptor)) → IsIdle own → joined below ≡ [] → beneath_own own below ≡ []
idle_own own below h e = ap₂ (λ (a : List Descriptor) (b : List Descriptor). a ++ b) (ap₂ (λ (a : List Descriptor) (b : List Descriptor). a ++ b) (ap option_to_list h.0) h.1) e

idle_held : (own : Own) (below : List (List Descriptor)) → IsIdle own → joined below ≡ [] → held_own own below ≡ []
idle_held own below h e = ap₂ (λ (a : List Descriptor) (b : List Descriptor). a ++ b) (ap option_to_list h.0) e

pub idle_beneath : {M : Type 0} (x : Forest M) → AllIdle x → joined (each beneath_own x) ≡ []
idle_beneath none h = refl
idle_beneath (more own m below others) h =
    ap₂ (λ (a : List Descriptor) (b : List Descriptor). a ++ b) (idle_own own (each beneath_own below) h.0 (idle_beneath below h.1)) (idle_beneath others h.2)

pub idle_held_beneath : {M : Type 0} (x : Forest M) → AllIdle x → joined (each held_own x) ≡ []
idle_held_beneath none h = refl
idle_held_beneath (more own m below others) h =
    ap₂ (λ (a : List Descriptor) (b : List Descriptor). a ++ b) (idle_held own (each held_own below) h.0 (idle_held_beneath below h.1)) (idle_held_beneath others h.2)

counted_empty : (waiting held : List Descriptor) → waiting ≡ [] → held ≡ [] → AreCounted [] waiting held
counted_empty waiting held e f =
    subst (λ (k : List Descriptor). AreCounted [] waiting k) (sym f) (subst (λ (k : List Descriptor). AreCounted [] k []) (sym e) counted_nothing)

abbrev forgotten : Forest (Unit {0}) → Forest (List Note)
forgotten x = each_memory (λ u. []) x

pub idle_counted : (x : Forest (Unit {0})) → AllIdle x → AllCounted (forgotten x)
idle_counted none h = tt
idle_counted (more own m below others) h = (
  counted_empty (beneath_own own (each beneath_own (forgotten below))) (held_own own (each held_own (forgotten below)))
      (ap (beneath_own own) (each-each_memory beneath_own (λ u. []) below) ∙ idle_own own (each beneath_own below) h.0 (idle_beneath below h.1))
      (ap (held_own own) (each-each_memory held_own (λ u. []) below) ∙ idle_held own (each held_own below) h.0 (idle_held_beneath below h.1)),
  idle_counted below h.1,
  idle_counted others h.2,
)

pub times-memory : {M N : Type 0} (h : ℕ) (f : M → N) (x : Forest M) → times_below h (each_memory f x) ≡ times_below h x
times-memory h f none = refl
times-memory h f (more own m below others) = ap₂ (λ a b. one h own.handle + a + b) (times-memory h f below) (times-memory h f others)

-- ---- what is held waits

held_waits : {M : Type 0} (w : Descriptor → ℕ) (x : Forest M) → weigh w (joined (each held_own x)) ≤ weigh w (joined (each beneath_own x))
held_waits w none = omega arith
held_waits w (more own m below others) =
    let held = each held_own below in
    let waiting = each beneath_own below in
    omega (
      arith,
      weigh-joined-cons w (held_own own held) (each held_own others),
      weigh-joined-cons w (beneath_own own waiting) (each beneath_own others),
      weigh-held w own held,
      weigh-beneath w own waiting,
      held_waits w below,
      held_waits w others,
    )

pub held-le-beneath : {M : Type 0} (w : Descriptor → ℕ) (n : Node M) → weigh w (held_beneath n) ≤ weigh w (beneath n)
held-le-beneath w n =
    omega (arith, weigh-held w n.own (each held_own n.below), weigh-beneath w n.own (each beneath_own n.below), held_waits w n.below)

-- ---- the new node

module _ (mtu clock : ℕ) (fresh : Option ℕ) (s : Shape) (new : IsNew mtu clock fresh s) where
  pub new_beneath : beneath (blank history s) ≡ []
  new_beneath = ap (beneath_own s.own) (each-each_memory beneath_own (λ u. []) s.below) ∙ idle_own s.own (each beneath_own s.below) new.idle (idle_beneath s.below new.idle_below)

  pub new_held : held_beneath (blank history s) ≡ []
  new_held = ap (held_own s.own) (each-each_memory held_own (λ u. []) s.below) ∙ idle_held s.own (each held_own s.below) new.idle (idle_held_beneath s.below new.idle_below)

  pub new_lawful : IsLawfulRoot mtu clock (blank history s)
  new_lawful = lawful-with_memory mtu clock (λ u. []) s new.lawful

  pub new_counted : IsCountedRoot (blank history s)
  new_counted = (counted_empty (beneath (blank history s)) (held_beneath (blank history s)) new_beneath new_held, idle_counted s.below new.idle_below)

  pub new_times : (h : ℕ) → times h (blank history s) ≤ one h fresh
  new_times h = omega (arith, times-memory {N = List Note} h (λ u. []) s.below, new.handles h)

  pub becomes-new : (purged : List Descriptor) (old : Node (List Note)) → purged ≡ beneath old → Becomes mtu clock fresh purged old (blank history s)
  becomes-new purged old all = record {
    conserved = λ w. omega (arith, ap (weigh w) new_beneath, weigh-nil w, ap (weigh w) all);
    held = λ w. omega (arith, held-le-beneath w old, ap (weigh w) all);
    lawful = new_lawful;
    counted = new_counted;
    handles = λ h. omega (arith, new_times h);
  }
