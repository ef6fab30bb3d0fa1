-- A whole tree that was polled in vain: its next packet comes after that moment.
use Rattle.std.proofs.Common.{◌≡◌, ℕ, ◌≤◌, ◌^◌, sym, subst, arith, Option, None}
use Rattle.q_packet.specs.Descriptor.{Descriptor}
use Rattle.q_model.specs.Ask.{ask_own, ask}
use Rattle.q_model.specs.Node.{Own, Forest, none, more, Shape, each, shape}
use Rattle.q_model.specs.Tally.{Tally}
use Rattle.q_model.specs.TreeState.{TreeState, given, take_packet}
use Rattle.q_model.specs.Lawful.{IsLawfulOwn}
use Rattle.q_invariants.specs.Kept.{AllLawful, IsLawfulRoot}
use Rattle.q_invariants.proofs.ask.Asks.{beneath-befores}
use Rattle.q_tree.specs.answers.ReadyAt.{outlook_own, outlook}
use Rattle.q_device.proofs.waiting.Moved.{Moves, AreMoved}
use Rattle.q_device.proofs.waiting.MovedAsks.{asked-moves}
use Rattle.q_device.proofs.waiting.RenewedTrees.{own-renewed, forest-renewed, left}

module _ (mtu t : ℕ) (least : 1 ≤ mtu) (low : t ≤ 2 ^ 62) where
  own-moves : (own : Own) (x : Forest (Unit {0})) → IsLawfulRoot mtu t (record { own = own; memory = tt; below = x }) → AreMoved t (each (ask_own t) x)
      → Moves t (ask_own t own (each (ask_own t) x)).shown (outlook t (ask_own t own (each (ask_own t) x)).peeked)
  own-moves own x lawful all = asked-moves t own.handle own.filters own.since mtu own.held own.discipline (each (ask_own t) x) (subst (IsLawfulOwn mtu t own) (sym (beneath-befores t x)) lawful.0) all

  forest-moved : (x : Forest (Unit {0})) → AllLawful mtu t x → AreMoved t (each (ask_own t) x)
  forest-moved none h = tt
  forest-moved (more own m below others) h =
      let renewed = own-renewed mtu t t least low (omega arith) own below (h.0, h.1) (forest-renewed mtu t t least low (omega arith) below h.1) in (
        record { moved = own-moves own below (h.0, h.1) (forest-moved below h.1); before = renewed.before.formed; peeked = renewed.peeked.formed },
        forest-moved others h.2,
      )

  shape-moves : (n : Shape) → IsLawfulRoot mtu t n → Moves t (ask t n).shown (outlook t (ask t n).peeked)
  shape-moves n lawful = own-moves n.own n.below lawful (forest-moved n.below lawful.1)

pub take-moves : {M : Type 0} (tally : Tally M) (t : ℕ) (s : TreeState M) → 1 ≤ s.device.mtu → t ≤ 2 ^ 62 → IsLawfulRoot s.device.mtu t (shape s.root)
    → given t s ≡ None → Moves t None (outlook t (take_packet tally t s).root)
take-moves tally t s least low lawful silent =
    subst (Moves t None) (sym (left tally t t s least low (omega arith) lawful silent (outlook_own t)))
    (subst (λ (o : Option Descriptor). Moves t o (outlook t (ask t (shape s.root)).peeked)) silent (shape-moves s.device.mtu t least low (shape s.root) lawful))
