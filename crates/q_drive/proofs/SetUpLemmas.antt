-- What lines do that set up a device.
use Rattle.std.proofs.Common.{◌≡◌, ◌∙◌, ℕ, Bool, true, false, List, [], ◌∷◌, if◌then◌else◌, codes, bytes_eq, Result, Ok, Err, refl, sym, ap, subst, ne_eqb, nat_eq}
use Rattle.std.specs.List.{starts_with}
use Rattle.std.specs.Prelude.{IsUtf8}
use Rattle.std.proofs.lemmas.Str.{is_utf8-from_IsUtf8}
use Rattle.q_line.specs.Grammar.{line_of, line_of_words}
use Rattle.q_line.proofs.Steps.{not_utf8}
use Rattle.q_model.specs.declared.command.Command.{Command}
use Rattle.q_model.specs.declared.refusal.Refusal.{Refusal}
use Rattle.q_model.specs.Edit.{Edit, lost_by, packets_removed}
use Rattle.q_model.specs.Node.{shape}
use Rattle.q_model.specs.Step.{counts_at}
use Rattle.q_model.specs.Tally.{Counts, totals}
use Rattle.q_model.specs.TreeState.{plan}
use Rattle.q_device.proofs.CountLemmas.{none-arrived}
use Rattle.q_device.proofs.ToldLemmas.{losses-are}
use Rattle.q_packet.specs.declared.cause.Cause.TheVariants.{Purged}
use Rattle.q_script_semantics.specs.Report.{SessionState, commanded, planned}
use Rattle.q_session.specs.Session.{SessionSeen, seen}
use Rattle.q_words.specs.Words.{is_blank_line, words_in}
use Rattle.q_words.specs.declared.line_fault.LineFault.{LineFault}
use Rattle.q_words.specs.declared.line_fault.LineFault.TheVariants.{BadUtf8, UnknownWord}
use Rattle.q_drive.specs.SetUp.{IsUnused, by_first_word, narrowed_line, said, said_by_words}
use Rattle.q_drive.specs.declared.set_up_line.SetUpLine.{SetUpLine}
use Rattle.q_drive.specs.declared.set_up_line.SetUpLine.TheVariants.{Blank}

-- no comment
not_comment : (word : List ℕ) (rest : List (List ℕ)) → starts_with nat_eq word (35 ∷ []) ≡ false → is_blank_line (word ∷ rest) ≡ false
not_comment [] rest h = refl
not_comment (b ∷ bytes) rest h =
    ne_eqb b 35 (λ e. let same : true ≡ false = subst (λ (x : ℕ). starts_with nat_eq (x ∷ bytes) (35 ∷ []) ≡ false) e h in cc)

-- a line that is no comment says what its first word lets it say
pub said_word : (line word : List ℕ) (rest : List (List ℕ)) → words_in line ≡ word ∷ rest → starts_with nat_eq word (35 ∷ []) ≡ false → by_first_word word (narrowed_line (line_of line)) ≡ said line
said_word line word rest e h =
    let read : List (List ℕ) → Result SetUpLine LineFault = λ ws. by_first_word word (narrowed_line (line_of_words ws)) in
    ap read e
    ∙ (sym (ap (λ (x : Bool). if x then Ok Blank else read (word ∷ rest)) (not_comment word rest h))
    ∙ sym (ap said_by_words e))

-- a first word that is not UTF-8
pub bad_word : (word : List ℕ) (read : Result SetUpLine LineFault) → ¬ (IsUtf8 word) → by_first_word word read ≡ Err (BadUtf8 1)
bad_word word read h = ap (λ (b : Bool). if b then (if bytes_eq word (codes "tc") then read else Err (UnknownWord 1)) else Err (BadUtf8 1)) (not_utf8 word h)

-- one that is, but another than `tc`
pub other_word : (word : List ℕ) (read : Result SetUpLine LineFault) → IsUtf8 word → bytes_eq word (codes "tc") ≡ false → by_first_word word read ≡ Err (UnknownWord 1)
other_word word read h other =
    ap (λ (b : Bool). if b then (if bytes_eq word (codes "tc") then read else Err (UnknownWord 1)) else Err (BadUtf8 1)) (is_utf8-from_IsUtf8 word h)
    ∙ ap (λ (b : Bool). if b then read else Err (UnknownWord 1)) other

-- nothing arrives by a command
planned_arrived : (starved : Bool) (k : ℕ) (answer : Result Edit Refusal) (s : SessionState Counts)
    → (planned totals starved k answer s).session.device.tree.top.arrived ≡ s.device.tree.top.arrived
planned_arrived starved k (Err refusal) s = refl
planned_arrived true k (Ok edit) s = refl
planned_arrived false k (Ok edit) s =
    none-arrived s.device.tree.top (lost_by edit (shape s.device.tree.root)) (losses-are Purged (packets_removed edit (shape s.device.tree.root))).none_arrived

pub still_unused : (starved : Bool) (k : ℕ) (c : Command) (old new : SessionSeen) → IsUnused old → new ≡ (seen old (commanded totals starved k c old.state)).session → IsUnused new
still_unused starved k c old new unused is =
    ap (λ (s : SessionSeen). s.state.device.tree.top.arrived) is
    ∙ (planned_arrived starved k (plan old.state.device.tree.device (counts_at old.state.moment old.state.device) c (shape old.state.device.tree.root)) old.state
    ∙ unused)
