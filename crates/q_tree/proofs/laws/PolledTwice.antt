-- A poll that gives nothing leaves what a peek leaves, and so a second one changes nothing.
use Rattle.std.proofs.Common.{◌≡◌, ℕ, ◌≤◌, ◌^◌, ◌∙◌, List, [], ◌++◌, map, sym, ap, Option, None, option_to_list}
use Rattle.std.specs.Prelude.{is_some, if◌then◌else◌}
use Rattle.std.proofs.lemmas.List.{append-nil}
use Rattle.q_packet.specs.Descriptor.{Descriptor}
use Rattle.q_model.specs.Node.{shape}
use Rattle.q_model.specs.Tally.{Note, Sent}
use Rattle.q_model.specs.TreeState.{TreeState, asked, given, noted_by_take, peek_packet, take_packet, with_work}
use Rattle.q_invariants.specs.Kept.{IsLawfulRoot}
use Rattle.q_invariants.proofs.again.SecondPeeks.{given-again, noted-again, second-peek}
use Rattle.q_tree.specs.Kept.{Kept, kept}

pub none-is-peek : (now : ℕ) (s : TreeState Kept) → given now s ≡ None → take_packet kept now s ≡ peek_packet kept now s
none-is-peek now s e =
    let a = asked now s in
    ap (λ (o : Option Descriptor). with_work kept (a.rises ++ map Sent (option_to_list o)) (if is_some o then a.taken else a.peeked) s) e
    ∙ ap (λ (notes : List Note). with_work kept notes a.peeked s) (append-nil a.rises)

pub record IsPolledTwice (now : ℕ) (s : TreeState Kept) : Type 0 where
  pub packet : given now (take_packet kept now s) ≡ None
  pub quiet : noted_by_take now (take_packet kept now s) ≡ []
  pub same : take_packet kept now (take_packet kept now s) ≡ take_packet kept now s

pub polled-twice : (now : ℕ) (s : TreeState Kept) → 1 ≤ s.device.mtu → now ≤ 2 ^ 62 → IsLawfulRoot s.device.mtu now (shape s.root) → given now s ≡ None → IsPolledTwice now s
polled-twice now s least low lawful none =
    let first : take_packet kept now s ≡ peek_packet kept now s = none-is-peek now s none in
    let packet : given now (take_packet kept now s) ≡ None = ap (λ (x : TreeState Kept). given now x) first ∙ given-again kept now s least low lawful ∙ none in
    record {
      packet = packet;
      quiet = ap (λ (x : TreeState Kept). noted_by_take now x) first ∙ noted-again kept now s least low lawful;
      same = none-is-peek now (take_packet kept now s) packet ∙ ap (λ (x : TreeState Kept). peek_packet kept now x) first ∙ second-peek kept now s least low lawful ∙ sym first;
    }
