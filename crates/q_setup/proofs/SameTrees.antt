-- Devices whose trees differ in what they remember alone do the same commands.
use Rattle.std.proofs.Common.{◌≡◌, ◌∙◌, ℕ, zero, suc, List, [], ◌∷◌, refl, sym, ap, Result, Ok, Err, arith}
use Rattle.std.specs.Prelude.{Bool, true, false, max, take, slice_get, Some}
use Rattle.std.proofs.lemmas.Bool.{false≢true}
use Rattle.std.proofs.lemmas.Option.{none-some, same_Some}
use Rattle.q_model.specs.declared.command.Command.{Command}
use Rattle.q_model.specs.declared.event.Event.TheVariants as event
use Rattle.q_model.specs.declared.refusal.Refusal.{Refusal}
use Rattle.q_model.specs.declared.reply.Reply.{Reply}
use Rattle.q_model.specs.declared.reply.Reply.TheVariants as reply
use Rattle.q_model.specs.Edit.{Edit}
use Rattle.q_model.specs.Node.{shape}
use Rattle.q_model.specs.Shrink.{StandsFor, remembering}
use Rattle.q_model.specs.Step.{DeviceState, answered, command, step}
use Rattle.q_model.specs.Tally.{Counts, totals}
use Rattle.q_model.specs.TreeState.{TreeState, nothing, plan}
use Rattle.q_device.proofs.StepStands.{Stands, command-stands, remembered}
use Rattle.q_setup.specs.Anew.{AllAreDone, after_all}

-- a tree that remembers nothing
abbrev pub forgotten : TreeState Counts → TreeState (Unit {0})
forgotten s = remembering (λ (c : Counts). tt) s

forgets : StandsFor totals nothing (λ (c : Counts). tt)
forgets = record { nothing = refl; one_more = λ m n. refl }

abbrev pub done_reply : Reply
done_reply = reply.Done (Ok (record {}))

abbrev is_done : Reply → Bool
is_done (reply.Done (Ok done)) = true
is_done (reply.Done (Err refusal)) = false
is_done (reply.Fate fate) = false
is_done (reply.Polled polled) = false

not_both : (refusal : Refusal) → reply.Done (Err refusal) ≡ done_reply → ⊥
not_both refusal e = false≢true (ap is_done e)

-- what a device without memory answers, and its tree afterwards, do not rest on its clock
replies : (answer : Result Edit Refusal) (at k l : ℕ) (s : TreeState (Unit {0}))
    → (answered nothing answer at (record { clock = k; tree = s })).reply ≡ (answered nothing answer at (record { clock = l; tree = s })).reply
replies (Ok edit) at k l s = refl
replies (Err refusal) at k l s = refl

trees : (answer : Result Edit Refusal) (at k l : ℕ) (s : TreeState (Unit {0}))
    → (answered nothing answer at (record { clock = k; tree = s })).device.tree ≡ (answered nothing answer at (record { clock = l; tree = s })).device.tree
trees (Ok edit) at k l s = refl
trees (Err refusal) at k l s = refl

-- a command that is done counts at its time, and each leaves the settings
clock-done : (answer : Result Edit Refusal) (at : ℕ) (d : DeviceState Counts) → (answered totals answer at d).reply ≡ done_reply → (answered totals answer at d).device.clock ≡ at
clock-done (Ok edit) at d e = refl
clock-done (Err refusal) at d e = absurd (not_both refusal e)

module _ (c : Command) (at : ℕ) (d t : DeviceState Counts) (same : forgotten d.tree ≡ forgotten t.tree) where
  of_d : Stands (λ (m : Counts). tt) (command totals c at d) (command nothing c at (remembered (λ (m : Counts). tt) d))
  of_d = command-stands totals nothing (λ (m : Counts). tt) forgets c at d

  of_t : Stands (λ (m : Counts). tt) (command totals c at t) (command nothing c at (remembered (λ (m : Counts). tt) t))
  of_t = command-stands totals nothing (λ (m : Counts). tt) forgets c at t

  abbrev planned : TreeState (Unit {0}) → Result Edit Refusal
  planned s = plan s.device at c (shape s.root)

  pub same-reply : (command totals c at d).reply ≡ (command totals c at t).reply
  same-reply =
      of_d.reply
      ∙ ap (λ (s : TreeState (Unit {0})). (command nothing c at (record { clock = d.clock; tree = s })).reply) same
      ∙ replies (planned (forgotten t.tree)) at d.clock t.clock (forgotten t.tree)
      ∙ sym of_t.reply

  pub same-tree : forgotten (command totals c at d).device.tree ≡ forgotten (command totals c at t).device.tree
  same-tree =
      ap (λ (x : DeviceState (Unit {0})). x.tree) of_d.device
      ∙ ap (λ (s : TreeState (Unit {0})). (command nothing c at (record { clock = d.clock; tree = s })).device.tree) same
      ∙ trees (planned (forgotten t.tree)) at d.clock t.clock (forgotten t.tree)
      ∙ sym (ap (λ (x : DeviceState (Unit {0})). x.tree) of_t.device)

-- Two devices that differ in what they remember and in their clocks: what happens to one now happens to the other at that time.
pub record AreLike (now at : ℕ) (d t : DeviceState Counts) : Type 0 where
  pub tree : forgotten d.tree ≡ forgotten t.tree
  pub here : max d.clock now ≡ at
  pub there : max t.clock at ≡ at

pub record GoOnAlike (now at : ℕ) (commands : List Command) (d t : DeviceState Counts) : Type 0 where
  pub done : AllAreDone now commands d
  pub like : AreLike now at (after_all now commands d) (after_all at commands t)

module _ (now at : ℕ) (c : Command) (d t : DeviceState Counts) (like : AreLike now at d t) (done : (step totals t (event.Command c at)).reply ≡ done_reply) where
  step-there : step totals t (event.Command c at) ≡ command totals c at t
  step-there = ap (λ k. command totals c k t) like.there

  step-here : step totals d (event.Command c now) ≡ command totals c at d
  step-here = ap (λ k. command totals c k d) like.here

  done_there : (command totals c at t).reply ≡ done_reply
  done_there = sym (ap (λ s. s.reply) step-there) ∙ done

  done_at : (command totals c at d).reply ≡ done_reply
  done_at = same-reply c at d t like.tree ∙ done_there

  pub done_here : (step totals d (event.Command c now)).reply ≡ done_reply
  done_here = ap (λ s. s.reply) step-here ∙ done_at

  clock_here : (step totals d (event.Command c now)).device.clock ≡ at
  clock_here = ap (λ s. s.device.clock) step-here ∙ clock-done (plan d.tree.device at c (shape d.tree.root)) at d done_at

  clock_there : (step totals t (event.Command c at)).device.clock ≡ at
  clock_there = ap (λ s. s.device.clock) step-there ∙ clock-done (plan t.tree.device at c (shape t.tree.root)) at t done_there

  pub like_then : AreLike now at (step totals d (event.Command c now)).device (step totals t (event.Command c at)).device
  like_then = record {
    tree = ap (λ s. forgotten s.device.tree) step-here ∙ same-tree c at d t like.tree ∙ sym (ap (λ s. forgotten s.device.tree) step-there);
    here = let first = clock_here in let passed = like.here in omega (arith, first, passed);
    there = let first = clock_there in omega (arith, first);
  }

-- the same commands one after the other
pub go_on_alike : (now at : ℕ) (commands : List Command) (d t : DeviceState Counts) → AreLike now at d t → AllAreDone at commands t → GoOnAlike now at commands d t
go_on_alike now at [] d t like all = record { done = tt; like = like }
go_on_alike now at (c ∷ commands) d t like all =
    let rest = go_on_alike now at commands (step totals d (event.Command c now)).device (step totals t (event.Command c at)).device (like_then now at c d t like all.0) all.1 in
    record { done = (done_here now at c d t like all.0, rest.done); like = rest.like }

-- of commands that are all done, the one in each place is done after those before it
pub done_in_place : (now : ℕ) (commands : List Command) (d : DeviceState Counts) → AllAreDone now commands d → (i : ℕ) (c : Command) → slice_get commands i ≡ Some c
    → (step totals (after_all now (take i commands) d) (event.Command c now)).reply ≡ done_reply
done_in_place now [] d all i c e = absurd (none-some c e)
done_in_place now (b ∷ commands) d all zero c e = ap (λ (x : Command). (step totals d (event.Command x now)).reply) (sym (same_Some b c e)) ∙ all.0
done_in_place now (b ∷ commands) d all (suc i) c e = done_in_place now commands (step totals d (event.Command b now)).device all.1 i c e
