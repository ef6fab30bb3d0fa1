use Rattle.std.proofs.Common.{◌≡◌, ◌∙◌, ◌∷◌, ◌+◌, ℕ, List, length, drop, map, sym, ap, subst, arith}
use Rattle.std.proofs.lemmas.List.{length_push}
use Rattle.std.proofs.lemmas.List.Elements.{All-rest}
use Rattle.std.specs.Prelude.{All}
use Rattle.std.specs.Vec.Iter.{into_iter_items}
use Rattle.q_ports.specs.declared.sender.Sent.{Sent}
use Rattle.q_ports.specs.declared.driving.Started.{Started}
use Rattle.q_ports.specs.Driven.{promised_load, promised_port, AllOffered, HasKept}
use Rattle.q_ports.proofs.DriveLemmas.{next-rest, offered-next}
use Rattle.q_ports.proofs.driving.join_all.Goals as goal

pub loop-sender-preserved : goal.loop-sender-preserved
loop-sender-preserved g c =
    let hs = c.args.started.items in
    let sent = c.loop-sender.sent.items in
    let h = c.in-Some.sender in
    let rest = into_iter_items c.next.new.self in
    let at = c.loop-sender.invariant in
    let step = c.in-Some.ensures.steps.0 in
    let first : drop (length sent) hs ≡ h ∷ rest = at.left ∙ step in
    let pushed = c.push_reserved.ensures.items in
    let one : length c.push_reserved.new.self.items ≡ length sent + 1 = ap (λ (ss : List Sent). length ss) pushed ∙ length_push sent c.join.result in
    let fewer = ap (λ (xs : List Started). length xs) step in
    record {
      each =
          λ tries all.
          subst (λ (ss : List Sent). AllOffered tries (map promised_port hs) (map promised_load hs) ss) (sym pushed)
          (offered-next tries hs sent h rest c.join.result (at.each tries all) first
          (c.join.ensures tries (subst (λ (ss : List Started). All (HasKept tries) ss) step (at.kept tries all) 0 h (omega arith))));
      left = subst (λ (n : ℕ). drop n hs ≡ rest) (sym one) (next-rest hs (length sent) h rest first);
      kept = λ tries all. All-rest (HasKept tries) h rest (into_iter_items c.loop-sender.sender-iterator) step (at.kept tries all);
      count = omega (arith, at.count, fewer, one);
      room = omega (arith, at.room, fewer, c.push_reserved.ensures.len, c.push_reserved.ensures.capacity);
    }
