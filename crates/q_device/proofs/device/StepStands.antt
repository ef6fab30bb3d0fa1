-- A step of a device whose nodes remember something else.
use Rattle.std.proofs.Common.{◌≡◌, ℕ, ◌∙◌, refl, sym, ap, Result, Ok, Err}
use Rattle.std.specs.Prelude.{max}
use Rattle.q_packet.specs.Descriptor.{Descriptor}
use Rattle.q_model.specs.declared.command.Command.{Command}
use Rattle.q_model.specs.declared.event.Event.{Event}
use Rattle.q_model.specs.declared.event.Event.TheVariants as event
use Rattle.q_model.specs.declared.refusal.Refusal.{Refusal}
use Rattle.q_model.specs.declared.reply.Reply.TheVariants as reply
use Rattle.q_model.specs.Ask.{ask}
use Rattle.q_model.specs.Beneath.{is_empty}
use Rattle.q_model.specs.Edit.{Edit, lost_by}
use Rattle.q_model.specs.Node.{Shape, shape}
use Rattle.q_model.specs.Shrink.{StandsFor, remembering}
use Rattle.q_model.specs.Step.{DeviceState, Step, losses_in, fate_of, polled_of, arrive, poll, command, answered, step}
use Rattle.q_model.specs.Tally.{Tally}
use Rattle.q_model.specs.TreeState.{put_work, own_loss, given, plan, take_packet}
use Rattle.q_model.proofs.ShrinkLemmas.{shape-with_memory}
use Rattle.q_model.proofs.ShrinkSteps.{put-stands, take-stands, with_edit-stands}

-- the device that remembers something else
abbrev pub remembered : {M N : Type 0} → (M → N) → DeviceState M → DeviceState N
remembered f d = record { clock = d.clock; tree = remembering f d.tree }

-- the second step is the first one on such a device
pub record Stands {M N : Type 0} (f : M → N) (s : Step M) (r : Step N) : Type 0 where
  pub device : remembered f s.device ≡ r.device
  pub reply : s.reply ≡ r.reply
  pub losses : s.losses ≡ r.losses

module _ {M N : Type 0} (t : Tally M) (u : Tally N) (f : M → N) (h : StandsFor t u f) where
  -- its root has the same shape
  same_shape : (d : DeviceState M) → shape (remembered f d).tree.root ≡ shape d.tree.root
  same_shape d = shape-with_memory f d.tree.root

  pub arrive-stands : (p : Descriptor) (now : ℕ) (d : DeviceState M) → Stands f (arrive t p now d) (arrive u p now (remembered f d))
  arrive-stands p now d = record {
    device = ap (λ s. record { clock = now; tree = s }) (put-stands t u f h now p d.tree);
    reply = sym (ap (λ (r : Shape). reply.Fate (fate_of (own_loss now p d.tree.device r))) (same_shape d));
    losses = sym (ap (λ (r : Shape). losses_in (put_work now p d.tree.device r).rises) (same_shape d));
  }

  pub poll-stands : (now : ℕ) (d : DeviceState M) → Stands f (poll t now d) (poll u now (remembered f d))
  poll-stands now d =
      let after = take-stands t u f h now d.tree in
      record {
        device = ap (λ s. record { clock = now; tree = s }) after;
        reply =
            sym (ap (λ (r : Shape). reply.Polled (polled_of (ask now r).shown (is_empty (shape (take_packet t now d.tree).root)))) (same_shape d))
            ∙ ap (λ (r : Shape). reply.Polled (polled_of (given now (remembered f d).tree) (is_empty r)))
            (sym (shape-with_memory f (take_packet t now d.tree).root) ∙ ap (λ s. shape s.root) after);
        losses = sym (ap (λ (r : Shape). losses_in (ask now r).rises) (same_shape d));
      }

  answered-stands : (answer : Result Edit Refusal) (now : ℕ) (d : DeviceState M) → Stands f (answered t answer now d) (answered u answer now (remembered f d))
  answered-stands (Ok edit) now d = record {
    device = ap (λ s. record { clock = now; tree = s }) (with_edit-stands t u f h edit d.tree);
    reply = refl;
    losses = sym (ap (λ (r : Shape). losses_in (lost_by edit r)) (same_shape d));
  }
  answered-stands (Err refusal) now d = record { device = refl; reply = refl; losses = refl }

  -- the plan of a command is the same
  pub command-stands : (c : Command) (now : ℕ) (d : DeviceState M) → Stands f (command t c now d) (command u c now (remembered f d))
  command-stands c now d =
      let s = answered-stands (plan d.tree.device now c (shape d.tree.root)) now d in
      let e = ap (λ (r : Shape). answered u (plan d.tree.device now c r) now (remembered f d)) (same_shape d) in
      record {
        device = s.device ∙ sym (ap (λ (x : Step N). x.device) e);
        reply = s.reply ∙ sym (ap (λ (x : Step N). x.reply) e);
        losses = s.losses ∙ sym (ap (λ (x : Step N). x.losses) e);
      }

  pub step-stands : (d : DeviceState M) (e : Event) → Stands f (step t d e) (step u (remembered f d) e)
  step-stands d (event.Arrive p moment) = arrive-stands p (max d.clock moment) d
  step-stands d (event.Poll moment) = poll-stands (max d.clock moment) d
  step-stands d (event.Command c moment) = command-stands c (max d.clock moment) d
