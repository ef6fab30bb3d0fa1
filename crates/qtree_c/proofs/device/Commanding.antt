-- A command that was done, or refused.
use Rattle.std.proofs.Common.{◌≡◌, ℕ, Ok, ap, arith, refl, sym}
use Rattle.q_device.specs.device.DeviceSeen.{DeviceSeen, IsRefusal, IsRefusedAt}
use Rattle.q_model.specs.Refusal.{refusal_number}
use Rattle.q_model.specs.declared.command.Command.{Command}
use Rattle.q_model.specs.declared.event.Event.TheVariants as event
use Rattle.q_model.specs.declared.refusal.Refusal.{Refusal}
use Rattle.q_model.specs.declared.refusal.Refusal.TheVariants.{NoParent, Exists, NoQdisc, HandleTaken, NotClassful, NoClass, Busy, CannotChange, TooDeep, TooMany, SmallBurst, NoFilter, Memory}
use Rattle.q_model.specs.declared.reply.Reply.TheVariants as reply
use Rattle.q_tree.specs.commands.Commanding.{MayTakeMemory}
use Rattle.q_device.specs.Events.{after_event, reply_to, with_memory}
use Rattle.qtree_c.specs.abi.Codes.{reply_number}
use Rattle.qtree_c.specs.device.Lines.{IsCommand}

pub not-done : (r : Refusal) → refusal_number r ≡ 0 → ⊥
not-done NoParent e = omega (arith, e)
not-done Exists e = omega (arith, e)
not-done NoQdisc e = omega (arith, e)
not-done HandleTaken e = omega (arith, e)
not-done NotClassful e = omega (arith, e)
not-done NoClass e = omega (arith, e)
not-done Busy e = omega (arith, e)
not-done CannotChange e = omega (arith, e)
not-done TooDeep e = omega (arith, e)
not-done TooMany e = omega (arith, e)
not-done SmallBurst e = omega (arith, e)
not-done NoFilter e = omega (arith, e)
not-done Memory e = omega (arith, e)

pub command-done : (c : Command) (now : ℕ) (d n : DeviceSeen) → n ≡ with_memory n.memory (after_event (event.Command c now) d)
    → reply.Done (Ok (record {})) ≡ reply_to (event.Command c now) d → IsCommand c now 0 d n
command-done c now d n is told = record {
  done = λ _. is;
  allowed = λ _. sym (ap (λ r. reply_number r) told);
  refused = λ ne. absurd (ne refl);
  same = λ ne. absurd (ne refl);
}

pub command-refused : (c : Command) (now : ℕ) (d n : DeviceSeen) (r : Refusal) → IsRefusal (MayTakeMemory c) (reply_to (event.Command c now) d) r
    → IsRefusedAt c now d r → n ≡ d → IsCommand c now (refusal_number r) d n
command-refused c now d n r told memory is = record {
  done = λ e. absurd (not-done r e);
  allowed = λ e. absurd (not-done r e);
  refused = λ _. (r, refl, told, memory);
  same = λ _. is;
}
