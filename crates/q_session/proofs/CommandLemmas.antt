-- What a command does to a session, by the device's answer.
use Rattle.std.proofs.Common.{◌≡◌, ℕ, Bool, true, false, Result, Ok, Err, sym, ap}
use Rattle.q_model.specs.declared.command.Command.{Command}
use Rattle.q_model.specs.declared.event.Event.TheVariants as event
use Rattle.q_model.specs.declared.refusal.Refusal.{Refusal}
use Rattle.q_model.specs.declared.reply.Reply.{Reply}
use Rattle.q_model.specs.declared.reply.Reply.TheVariants as reply
use Rattle.q_model.specs.Edit.{Edit}
use Rattle.q_model.specs.Node.{shape}
use Rattle.q_model.specs.Step.{answered, counts_at, step}
use Rattle.q_model.specs.Tally.{Counts, totals}
use Rattle.q_model.specs.TreeState.{plan}
use Rattle.q_device.specs.device.DeviceSeen.{IsRefusal}
use Rattle.q_script_semantics.specs.Report.{SessionState, commanded, planned, refusing}
use Rattle.q_script_semantics.specs.Text.{refused_line}

abbrev IsDone : Reply → Type 0
IsDone (reply.Done (Ok done)) = Unit {0}
IsDone other = ⊥

module _ (k : ℕ) (c : Command) (s : SessionState Counts) where
  abbrev at : ℕ
  at = counts_at s.moment s.device

  abbrev answer : Result Edit Refusal
  answer = plan s.device.tree.device at c (shape s.device.tree.root)

  pub refused-effect : (memory : Type 0) (refusal : Refusal) → IsRefusal memory (step totals s.device (event.Command c s.moment)).reply refusal
      → (starved : Bool) × (commanded totals starved k c s ≡ refusing (refused_line k refusal) s)
  refused-effect memory refusal told = by answer told where
    by : (p : Result Edit Refusal) → IsRefusal memory (answered totals p at s.device).reply refusal → (starved : Bool) × (planned totals starved k p s ≡ refusing (refused_line k refusal) s)
    by (Ok edit) e = (true, ap (λ r. refusing (refused_line k r) s) (sym e.0))
    by (Err first) e = (false, ap (λ r. refusing (refused_line k r) s) (sym e))
