-- A tree can hold no more after an arrival, a peek or a take than before, whatever its nodes remember.
use Rattle.std.proofs.Common.{◌≡◌, ℕ, ◌≤◌, ◌^◌, [], ap, subst, Option, Some, None, arith, refl}
use Rattle.std.specs.Prelude.{Bool, true, false, nat_lt, is_some, if◌then◌else◌}
use Rattle.std.proofs.lemmas.Bool.{ltb-false}
use Rattle.q_packet.specs.Descriptor.{Descriptor}
use Rattle.q_model.specs.Ask.{ask}
use Rattle.q_model.specs.Node.{Shape, shape}
use Rattle.q_model.specs.Route.{route}
use Rattle.q_model.specs.Tally.{Tally}
use Rattle.q_model.specs.TreeState.{TreeState, put_on, put, peek_packet, take_packet}
use Rattle.q_model.specs.Work.{Worked, quiet, booked}
use Rattle.q_model.proofs.ShrinkLemmas.{each-each_memory}
use Rattle.q_invariants.specs.Kept.{IsLawfulRoot}
use Rattle.q_invariants.proofs.ask.Answer.{IsAnswer}
use Rattle.q_invariants.proofs.ask.Asks.{before-root, ask-answers}
use Rattle.q_invariants.proofs.put.Puts.{along-put}
use Rattle.q_invariants.proofs.sums.Told.{IsRootTold, root-memory, root-booked}
use Rattle.q_invariants.proofs.tree.Forests.{lawful-with_memory}
use Rattle.q_invariants.proofs.tree.Quiet.{one-quiet}
use Rattle.q_tree.specs.answers.MostPackets.{most_own, most_packets}
use Rattle.q_tree.proofs.answers.MostPacketsAsks.{asks-less}
use Rattle.q_tree.proofs.answers.MostPacketsPuts.{most-quiet, along-least}

module _ {M : Type 0} (t : Tally M) (now : ℕ) (s : TreeState M) (least : 1 ≤ s.device.mtu) (low : now ≤ 2 ^ 62) (lawful : IsLawfulRoot s.device.mtu now s.root) where
  abbrev bare : Shape
  bare = shape s.root

  bare-lawful : IsLawfulRoot s.device.mtu now bare
  bare-lawful = lawful-with_memory s.device.mtu now (λ m. tt) s.root lawful

  bare-most : most_packets bare ≡ most_packets s.root
  bare-most = ap (most_own s.root.own) (each-each_memory most_own (λ m. tt) s.root.below)

  -- what the nodes note does not count
  booked-least : (w : Worked) → IsRootTold (quiet bare) w → most_packets w ≤ most_packets bare → most_packets (booked t s.root w) ≤ most_packets s.root
  booked-least w told less =
      omega (arith, root-booked t most_own s.root w (root-memory (λ m. tt) s.root w (root-memory (λ u. []) bare w told)), less, bare-most)

  pub put-least : (p : Descriptor) → 1 ≤ p.len → most_packets (put t now p s).root ≤ most_packets s.root
  put-least p byte = by (nat_lt s.device.mtu p.len) refl
    where
      by : (long : Bool) → nat_lt s.device.mtu p.len ≡ long → most_packets (booked t s.root (put_on now p (if long then None else Some (route p bare)) bare).node) ≤ most_packets s.root
      by true e = booked-least (quiet bare) (one-quiet bare) (omega (arith, most-quiet bare))
      by false e =
          let r = route p bare in
          booked-least (put_on now p (Some r) bare).node (along-put s.device.mtu now least p (byte, ltb-false s.device.mtu p.len e) r.path r.refusal bare refl bare-lawful).told
          (along-least s.device.mtu now p (byte, ltb-false s.device.mtu p.len e) r.path r.refusal bare refl bare-lawful)

  answer : IsAnswer s.device.mtu now (ask now bare)
  answer = ask-answers s.device.mtu now least low bare bare-lawful

  asked-least : (w : Worked) → IsRootTold (ask now bare).before w → most_packets w ≤ most_packets (ask now bare).before → most_packets (booked t s.root w) ≤ most_packets s.root
  asked-least w told less =
      booked-least w (subst (λ (n : Worked). IsRootTold n w) (before-root now bare) told) (omega (arith, less, ap (λ (n : Worked). most_packets n) (before-root now bare), most-quiet bare))

  pub peek-least : most_packets (peek_packet t now s).root ≤ most_packets s.root
  peek-least = asked-least (ask now bare).peeked answer.told_peeked (asks-less now bare).peeked

  pub take-least : most_packets (take_packet t now s).root ≤ most_packets s.root
  take-least = by (ask now bare).shown
    where
      by : (o : Option Descriptor) → most_packets (booked t s.root (if is_some o then (ask now bare).taken else (ask now bare).peeked)) ≤ most_packets s.root
      by None = peek-least
      by (Some p) = asked-least (ask now bare).taken answer.told_taken (asks-less now bare).taken
