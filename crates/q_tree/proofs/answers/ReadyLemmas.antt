-- The moment from which a tree may give its next packet, against what a take gives at each moment.
use Rattle.std.proofs.Common.{◌≡◌, ℕ, ◌<◌, ◌≤◌, ◌^◌, ◌∙◌, refl, sym, ap, subst, arith, Option, Some, None}
use Rattle.std.specs.Prelude.{true, IsSome}
use Rattle.q_packet.specs.Descriptor.{Descriptor}
use Rattle.q_model.specs.Ask.{ask}
use Rattle.q_model.specs.Node.{Node, shape}
use Rattle.q_invariants.specs.Kept.{IsLawfulRoot}
use Rattle.q_tree.specs.answers.ReadyAt.{is_before, is_sure, outlook, ready_at}
use Rattle.q_tree.specs.TreeSeen.{IsKeptDevice}
use Rattle.q_tree.specs.declared.tree.Tree.TheInside.{Inside}
use Rattle.q_tree.proofs.answers.ForeseenAsks.{foreseen, not-yet, nothing-shown}
use Rattle.q_tree.proofs.TreeLemmas.{lawful-root}

module _ {M : Type 0} (mtu now : ℕ) (n : Node M) (least : 1 ≤ mtu) (present : now ≤ 2 ^ 62) (lawful : (t : ℕ) → now ≤ t → t ≤ 2 ^ 62 → IsLawfulRoot mtu t n) where
  pub ready-from : (at : ℕ) → ready_at now n ≡ Some at → now ≤ at
  ready-from at e = (foreseen mtu now now least present (omega arith) n (lawful now (omega arith) present)).from at e

  pub ready-early : (at : ℕ) → ready_at now n ≡ Some at → at ≤ 2 ^ 62 → (t : ℕ) → now ≤ t → t < at → (ask t (shape n)).shown ≡ None
  ready-early at e low t order before =
      let h = foreseen mtu now t least (omega arith) order n (lawful t order (omega arith)) in
      not-yet now t (outlook now n) (ask t (shape n)).shown at h e before

  pub ready-some : (at : ℕ) → ready_at now n ≡ Some at → at ≤ 2 ^ 62 → is_sure now n ≡ true → IsSome (ask at (shape n)).shown
  ready-some at e low sure =
      let order = ready-from at e in
      let h = foreseen mtu now at least low order n (lawful at order low) in
      let shows = h.known at e (omega arith) (sym (ap (λ (x : Option ℕ). is_before x (outlook now n).until) e) ∙ sure) in
      subst (λ (o : Option Descriptor). IsSome o) (sym shows.is) refl

  pub ready-never : ready_at now n ≡ None → (t : ℕ) → now ≤ t → t ≤ 2 ^ 62 → (ask t (shape n)).shown ≡ None
  ready-never e t order low =
      let h = foreseen mtu now t least low order n (lawful t order low) in
      nothing-shown now t (outlook now n) (ask t (shape n)).shown h e

-- a tree of the code is lawful at each later moment
pub lawful-later : (a : Inside) → IsKeptDevice a → (now : ℕ) → a.clock ≤ now → (t : ℕ) → now ≤ t → t ≤ 2 ^ 62 → IsLawfulRoot a.mtu t a.root
lawful-later a k now past t order low = lawful-root a k t (omega arith) low
