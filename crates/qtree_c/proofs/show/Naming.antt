-- The names of causes, refusals and faults are those that reports write.
use Rattle.std.proofs.Common.{◌≡◌, ◌∙◌, ℕ, List, refl, subst, sym}
use Rattle.q_model.specs.Refusal.{refusal_name, refusal_number}
use Rattle.q_model.specs.declared.refusal.Refusal.{Refusal}
use Rattle.q_model.specs.declared.refusal.Refusal.TheVariants.{NoParent, Exists, NoQdisc, HandleTaken, NotClassful, NoClass, Busy, CannotChange, TooDeep, TooMany, SmallBurst, NoFilter, Memory}
use Rattle.q_packet.specs.Cause.{cause_name, cause_number}
use Rattle.q_packet.specs.declared.cause.Cause.{Cause}
use Rattle.q_packet.specs.declared.cause.Cause.TheVariants as cause
use Rattle.q_words.specs.FaultText.{fault_name, fault_number}
use Rattle.q_words.specs.declared.line_fault.LineFault.{LineFault}
use Rattle.q_words.specs.declared.line_fault.LineFault.TheVariants as fault
use Rattle.qtree_c.specs.show.Names.{code_in_words, fault_in_words}

cause-name : (c : Cause) → code_in_words (cause_number c) ≡ cause_name c
cause-name cause.TooLong = refl
cause-name cause.NoClass = refl
cause-name cause.OverLimit = refl
cause-name cause.CoDel = refl
cause-name cause.FatFlow = refl
cause-name cause.Purged = refl

refusal-name : (r : Refusal) → code_in_words (refusal_number r) ≡ refusal_name r
refusal-name NoParent = refl
refusal-name Exists = refl
refusal-name NoQdisc = refl
refusal-name HandleTaken = refl
refusal-name NotClassful = refl
refusal-name NoClass = refl
refusal-name Busy = refl
refusal-name CannotChange = refl
refusal-name TooDeep = refl
refusal-name TooMany = refl
refusal-name SmallBurst = refl
refusal-name NoFilter = refl
refusal-name Memory = refl

fault-name : (f : LineFault) → fault_in_words (fault_number f) ≡ fault_name f
fault-name (fault.UnknownWord word) = refl
fault-name (fault.Missing word) = refl
fault-name (fault.BadNumber word) = refl
fault-name (fault.OutOfRange word) = refl
fault-name (fault.Twice word) = refl
fault-name (fault.BadUtf8 word) = refl

pub cause-named : (n : ℕ) (name : List ℕ) → name ≡ code_in_words n → (c : Cause) → n ≡ cause_number c → name ≡ cause_name c
cause-named n name is c e = is ∙ subst (λ (m : ℕ). code_in_words m ≡ cause_name c) (sym e) (cause-name c)

pub refusal-named : (n : ℕ) (name : List ℕ) → name ≡ code_in_words n → (r : Refusal) → n ≡ refusal_number r → name ≡ refusal_name r
refusal-named n name is r e = is ∙ subst (λ (m : ℕ). code_in_words m ≡ refusal_name r) (sym e) (refusal-name r)

pub fault-named : (n : ℕ) (name : List ℕ) → name ≡ fault_in_words n → (f : LineFault) → n ≡ fault_number f → name ≡ fault_name f
fault-named n name is f e = is ∙ subst (λ (m : ℕ). fault_in_words m ≡ fault_name f) (sym e) (fault-name f)
