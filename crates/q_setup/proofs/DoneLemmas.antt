-- One command more.
use Rattle.std.proofs.Common.{◌≡◌, ◌∙◌, ℕ, suc, ◌+◌, ◌<◌, List, [], ◌∷◌, ◌++◌, length, get_or, take, refl, sym, ap, arith, subst}
use Rattle.std.proofs.Math.Seq.{take-suc}
use Rattle.q_model.specs.declared.command.Command.{Command}
use Rattle.q_model.specs.declared.event.Event.TheVariants as event
use Rattle.q_device.specs.device.DeviceSeen.{DeviceSeen, with_event}
use Rattle.q_setup.specs.Done.{AreAccepted, IsAccepted, after_commands}

pub after-snoc : (now : ℕ) (cs : List Command) (c : Command) (d : DeviceSeen) → after_commands now (cs ++ c ∷ []) d ≡ with_event (event.Command c now) (after_commands now cs d)
after-snoc now [] c d = refl
after-snoc now (b ∷ cs) c d = after-snoc now cs c (with_event (event.Command b now) d)

pub accepted_snoc : (now : ℕ) (cs : List Command) (c : Command) (d : DeviceSeen) → AreAccepted now cs d → IsAccepted now c (after_commands now cs d) → AreAccepted now (cs ++ c ∷ []) d
accepted_snoc now [] c d all last = (last, tt)
accepted_snoc now (b ∷ cs) c d all last = (all.0, accepted_snoc now cs c (with_event (event.Command b now) d) all.1 last)

-- what was done so far, with other memory
pub record IsDone (now : ℕ) (cs : List Command) (old new : DeviceSeen) : Type 0 where
  pub after : new ≡ record (after_commands now cs old) { memory = new.memory }
  pub accepted : AreAccepted now cs old

pub done-none : (now : ℕ) (d : DeviceSeen) → IsDone now [] d d
done-none now d = record { after = refl; accepted = tt }

-- acceptance does not read the memory
accepted_with : (now : ℕ) (c : Command) (new old : DeviceSeen) → new ≡ record old { memory = new.memory } → IsAccepted now c new → IsAccepted now c old
accepted_with now c new old is h = subst (IsAccepted now c) is h

next : (now : ℕ) (c : Command) (mid old : DeviceSeen) → mid ≡ record old { memory = mid.memory } → (new : DeviceSeen) → new ≡ record (with_event (event.Command c now) mid) { memory = new.memory }
    → new ≡ record (with_event (event.Command c now) old) { memory = new.memory }
next now c mid old is new h = h ∙ ap (λ (d : DeviceSeen). record (with_event (event.Command c now) d) { memory = new.memory }) is

next_done : (now : ℕ) (all : List Command) (i : ℕ) (c : Command) → i < length all → c ≡ get_or all i c → (old mid new : DeviceSeen) → IsDone now (take i all) old mid
    → IsAccepted now c mid → new ≡ record (with_event (event.Command c now) mid) { memory = new.memory } → IsDone now (take (suc i) all) old new
next_done now all i c within is old mid new so_far accepted after =
    let front = take-suc all i c within ∙ ap (λ (x : Command). take i all ++ x ∷ []) (sym is) in
    subst (λ (cs : List Command). IsDone now cs old new) (sym front) (record {
      after = next now c mid (after_commands now (take i all) old) so_far.after new after
          ∙ ap (λ (d : DeviceSeen). record d { memory = new.memory }) (sym (after-snoc now (take i all) c old));
      accepted = accepted_snoc now (take i all) c old so_far.accepted (accepted_with now c mid (after_commands now (take i all) old) so_far.after accepted);
    })

-- the command in the next place is done
pub done_next : (now : ℕ) (all : List Command) (i : ℕ) (c : Command) → i < length all → c ≡ get_or all i c → (old mid new : DeviceSeen) → IsDone now (take i all) old mid
    → IsAccepted now c mid → new ≡ record (with_event (event.Command c now) mid) { memory = new.memory } → IsDone now (take (i + 1) all) old new
done_next now all i c within is old mid new so_far accepted after =
    let more : suc i ≡ i + 1 = omega arith in
    subst (λ k. IsDone now (take k all) old new) more (next_done now all i c within is old mid new so_far accepted after)
