-- How many lines are tried, and what those that are done make of the new device.
use Rattle.std.proofs.Common.{◌≡◌, ◌∙◌, ℕ, ◌+◌, List, [], ◌∷◌, ◌++◌, length, max, Result, Ok, Err, refl, sym, ap, subst, arith}
use Rattle.std.proofs.lemmas.List.{append-nil}
use Rattle.q_line.specs.Grammar.{line_of}
use Rattle.q_line.specs.declared.line.Line.{Line}
use Rattle.q_line.specs.declared.line.Line.TheVariants as line
use Rattle.q_model.specs.declared.command.Command.{Command}
use Rattle.q_model.specs.declared.event.Event.TheVariants as event
use Rattle.q_model.specs.declared.refusal.Refusal.{Refusal}
use Rattle.q_model.specs.Edit.{Edit}
use Rattle.q_model.specs.Node.{shape}
use Rattle.q_model.specs.Settings.{DeviceSettings}
use Rattle.q_model.specs.Step.{DeviceState, Step, answered, new_device, step}
use Rattle.q_model.specs.Tally.{Counts, totals}
use Rattle.q_model.specs.TreeState.{plan}
use Rattle.q_script.specs.Script.{lines_of}
use Rattle.q_words.specs.declared.line_fault.LineFault.{LineFault}
use Rattle.q_setup.specs.Anew.{AllAreDone, IsTrial, after_all}
use Rattle.q_setup.specs.Tried.{Tried, done_by, nothing_tried, tried, why_refused, with_line, with_lines, with_read}
use Rattle.q_setup.proofs.SameTrees.{done_reply}

pub lines-tried : (now : ℕ) (t : Tried) (lines : List (List ℕ)) → (with_lines now t lines).lines ≡ t.lines + length lines
lines-tried now t [] = omega arith
lines-tried now t (l ∷ lines) = let rest = lines-tried now (with_line now t l) lines in omega (arith, rest)

pub lines-all : (settings : DeviceSettings) (text : List ℕ) (now : ℕ) → (tried settings text now).lines ≡ length (lines_of text)
lines-all settings text now = let all = lines-tried now (nothing_tried settings) (lines_of text) in omega (arith, all)

-- one command more
done_snoc : (now : ℕ) (cs : List Command) (c : Command) (d : DeviceState Counts) → AllAreDone now cs d → (step totals (after_all now cs d) (event.Command c now)).reply ≡ done_reply
    → AllAreDone now (cs ++ c ∷ []) d
done_snoc now [] c d all last = (last, tt)
done_snoc now (b ∷ cs) c d all last = (all.0, done_snoc now cs c (step totals d (event.Command b now)).device all.1 last)

after-all-snoc : (now : ℕ) (cs : List Command) (c : Command) (d : DeviceState Counts) → after_all now (cs ++ c ∷ []) d ≡ (step totals (after_all now cs d) (event.Command c now)).device
after-all-snoc now [] c d = refl
after-all-snoc now (b ∷ cs) c d = after-all-snoc now cs c (step totals d (event.Command b now)).device

-- these commands are all done by this device, and make this one of it
record Did (now : ℕ) (first : DeviceState Counts) (cs : List Command) (d : DeviceState Counts) : Type 0 where
  done : AllAreDone now cs first
  device : d ≡ after_all now cs first

same_did : (now : ℕ) (first : DeviceState Counts) (cs : List Command) (d : DeviceState Counts) → Did now first cs d → Did now first (cs ++ []) d
same_did now first cs d h = subst (λ (xs : List Command). Did now first xs d) (sym (append-nil cs)) h

-- by what is planned for a command of a line
answered_did : (now : ℕ) (first : DeviceState Counts) (cs : List Command) (d : DeviceState Counts) (c : Command) → Did now first cs d → (answer : Result Edit Refusal)
    → step totals d (event.Command c now) ≡ answered totals answer (max d.clock now) d
    → Did now first (cs ++ done_by (Ok (line.Tc c)) (why_refused (answered totals answer (max d.clock now) d).reply)) (answered totals answer (max d.clock now) d).device
answered_did now first cs d c h (Ok edit) is = record {
  done = done_snoc now cs c first h.done
      (sym (ap (λ (x : DeviceState Counts). (step totals x (event.Command c now)).reply) h.device) ∙ ap (λ (s : Step Counts). s.reply) is);
  device = sym (ap (λ (s : Step Counts). s.device) is) ∙ ap (λ (x : DeviceState Counts). (step totals x (event.Command c now)).device) h.device ∙ sym (after-all-snoc now cs c first);
}
answered_did now first cs d c h (Err refusal) is = same_did now first cs d h

read_did : (now : ℕ) (first : DeviceState Counts) (t : Tried) (read : Result Line LineFault) → Did now first t.commands t.device
    → Did now first (with_read now t read).commands (with_read now t read).device
read_did now first t (Err fault) h = same_did now first t.commands t.device h
read_did now first t (Ok line.Blank) h = same_did now first t.commands t.device h
read_did now first t (Ok (line.Tc c)) h =
    answered_did now first t.commands t.device c h (plan t.device.tree.device (max t.device.clock now) c (shape t.device.tree.root)) refl
read_did now first t (Ok (line.Show show)) h = same_did now first t.commands t.device h
read_did now first t (Ok (line.At moment)) h = same_did now first t.commands t.device h
read_did now first t (Ok (line.Pkt arrival)) h = same_did now first t.commands t.device h
read_did now first t (Ok (line.Frame len head)) h = same_did now first t.commands t.device h
read_did now first t (Ok (line.Poll polls)) h = same_did now first t.commands t.device h
read_did now first t (Ok line.Reap) h = same_did now first t.commands t.device h
read_did now first t (Ok line.Totals) h = same_did now first t.commands t.device h

lines_did : (now : ℕ) (first : DeviceState Counts) (t : Tried) (lines : List (List ℕ)) → Did now first t.commands t.device
    → Did now first (with_lines now t lines).commands (with_lines now t lines).device
lines_did now first t [] h = h
lines_did now first t (l ∷ lines) h = lines_did now first (with_line now t l) lines (read_did now first t (line_of l) h)

-- the lines of a file
pub is_trial : (settings : DeviceSettings) (text : List ℕ) (now : ℕ) → IsTrial settings now (tried settings text now)
is_trial settings text now =
    let h = lines_did now (new_device totals settings) (nothing_tried settings) (lines_of text) (record { done = tt; device = refl }) in
    record { done = h.done; device = h.device }
