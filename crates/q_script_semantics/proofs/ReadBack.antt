-- What show prints of a class of a drr is read back: a quantum is shown without the unit that a line writes behind it.
use Rattle.std.proofs.Common.{ℕ, ◌^◌, ◌-◌, List, [], ◌∷◌, ◌++◌, false, Some, None, refl, ap, arith, codes, lit<}
use Rattle.std.specs.Fmt.{decimal}
use Rattle.q_line.specs.Laws.{IsName}
use Rattle.q_model.specs.Numbers.{IsQuantum}
use Rattle.q_model.specs.Ranges.{IsClassId}
use Rattle.q_model.specs.declared.class_id.ClassId.{ClassId}
use Rattle.q_model.specs.declared.command.Command.TheVariants.{ClassAdd}
use Rattle.q_line.specs.Drafts.{Verb, of_class}
use Rattle.q_line.specs.Grammar.{value}
use Rattle.q_line.specs.Positions
use Rattle.q_line.specs.Positions.{first, head, quantum_of, quantum_value}
use Rattle.q_line.specs.Spelling.{change_words, class_word, handle_word}
use Rattle.q_line.specs.declared.class_verb.ClassVerb.TheVariants.{Add}
use Rattle.q_line.specs.declared.head_draft.HeadDraft.{HeadDraft}
use Rattle.q_line.specs.declared.line.Line.TheVariants.{Tc}
use Rattle.q_line.proofs.SpelledCommands.{class_path, named, owned, parent_path, starts}
use Rattle.q_line.proofs.SpelledLines.{line_read}
use Rattle.q_line.proofs.SpelledSteps.{Path, Says, chain, ended_says, pair, unit_is_word, word}
use Rattle.q_line.proofs.SpelledValues.{size_read}
use Rattle.q_script_semantics.specs.ReadBack.{ClassesAreReadBack}

abbrev verb : Verb
verb = of_class Add

-- the words behind the device's name
abbrev quantum_words : ℕ → List (List ℕ)
quantum_words quantum = codes "quantum" ∷ (decimal quantum ++ []) ∷ []

abbrev class_words : ClassId → ℕ → List (List ℕ)
class_words c quantum = codes "parent" ∷ handle_word c.major ∷ codes "classid" ∷ class_word c ∷ codes "drr" ∷ quantum_words quantum

quantum_path : (h : HeadDraft) (quantum : ℕ) → IsQuantum quantum → Path (quantum_of Add h None) (quantum_of Add h (Some quantum)) (quantum_words quantum)
quantum_path h quantum is =
    let few = is.1 in
    pair (quantum_of Add h None) (quantum_value Add h) (quantum_of Add h (Some quantum)) (codes "quantum") (decimal quantum ++ []) (refl, refl) (unit_is_word quantum [] (omega arith) refl refl) (λ i. refl)
    (λ i. ap (λ r. value r (λ n. quantum_of Add h (Some n))) (size_read 1 (2 ^ 32 - 1) quantum is.0 few (lit< tt)))

class_says : (name : List ℕ) (c : ClassId) (quantum : ℕ) → IsName name → IsClassId c → IsQuantum quantum
    → Says first (Tc (ClassAdd c.major c (Some quantum))) (change_words (codes "class") (codes "add") name ++ class_words c quantum)
class_says name c quantum is_name is bytes =
    let h = owned (Some c.major) (Some c) in
    let start = head verb named in
    let one = head verb (owned (Some c.major) None) in
    let two = head verb h in
    let three = quantum_of Add h None in
    let four = quantum_of Add h (Some quantum) in
    let parent = codes "parent" ∷ handle_word c.major ∷ [] in
    let class = codes "classid" ∷ class_word c ∷ [] in
    let behind = quantum_words quantum in
    ended_says first four (Tc (ClassAdd c.major c (Some quantum))) (change_words (codes "class") (codes "add") name ++ class_words c quantum)
    (chain first start four (change_words (codes "class") (codes "add") name) (class_words c quantum)
    (starts (codes "class") (codes "add") name (Positions.class false) verb (refl, refl) (refl, refl) (λ i. refl) (λ i. refl) is_name)
    (chain start one four parent (class ++ (codes "drr" ∷ behind)) (parent_path Add (Some c.major) is.major)
    (chain one two four class (codes "drr" ∷ behind) (class_path Add (Some c.major) c is)
    (chain two three four (codes "drr" ∷ []) behind (word two three (codes "drr") (refl, refl) (λ i. refl)) (quantum_path h quantum bytes)))))
    (λ i. refl)

pub classes_read_back : ClassesAreReadBack
classes_read_back name c quantum is_name handle minor bytes =
    line_read (Tc (ClassAdd c.major c (Some quantum))) _ _ (class_says name c quantum is_name (record { major = handle; minor = minor }) bytes) refl
