-- A word of a line that fits, and the name of an option behind the options so far.
use Rattle.std.proofs.Common.{◌≡◌, ◌∙◌, ℕ, suc, Bool, true, false, List, ◌∷◌, Option, Some, None, Result, Ok, Err, refl, sym, ap, if◌then◌else◌}
use Rattle.std.specs.Str.{is_utf8}
use Rattle.q_words.specs.declared.line_fault.LineFault.TheVariants as fault
use Rattle.q_words.specs.declared.wrong.Wrong.{Wrong}
use Rattle.q_words.specs.declared.wrong.Wrong.TheVariants as wrong
use Rattle.q_line.specs.Drafts.{OptionDraft}
use Rattle.q_line.specs.Grammar.{after, fits, numbered, rest_of}
use Rattle.q_line.specs.Positions.{Position, once, options}
use Rattle.q_line.specs.declared.head_draft.HeadDraft.{HeadDraft}
use Rattle.q_line.specs.declared.kind_name.KindName.{KindName}
use Rattle.q_line.specs.declared.line.Line.{Line}
use Rattle.q_line.specs.declared.qdisc_verb.QdiscVerb.{QdiscVerb}
use Rattle.q_line.proofs.OptionEntries.{Entry, entries, entry_in, entered, found, has, behind}
use Rattle.q_line.proofs.Steps.{continued, rest_of-cons, word_fits}

pub record Fitted (p : Position) (i : ℕ) (w : List ℕ) (ws : List (List ℕ)) (line : Line) : Type 0 where
  pub next : Position
  pub text : is_utf8 w ≡ true
  pub fits_is : fits i p w ≡ Ok next
  pub rest : rest_of next (suc i) ws ≡ Ok line

pub utf8_after : (i : ℕ) (p : Position) (w : List ℕ) → is_utf8 w ≡ true → after i p w ≡ fits i p w
utf8_after i p w h = ap (λ (b : Bool). if b then fits i p w else Err wrong.BadUtf8) h

pub word_fitted : (p : Position) (i : ℕ) (w : List ℕ) (ws : List (List ℕ)) (line : Line) → rest_of p i (w ∷ ws) ≡ Ok line → Fitted p i w ws line
word_fitted p i w ws line e = by_text (is_utf8 w) refl
  where
    by_fit : is_utf8 w ≡ true → (r : Result Position Wrong) → fits i p w ≡ r → Fitted p i w ws line
    by_fit t (Ok q) h = record { next = q; text = t; fits_is = h; rest = sym (word_fits p q i w ws (utf8_after i p w t ∙ h)) ∙ e }
    by_fit t (Err x) h = absurd (
        let says : rest_of p i (w ∷ ws) ≡ Err (numbered x i) = rest_of-cons p i w ws ∙ ap (λ r. continued r i ws) (utf8_after i p w t ∙ h) in
        let both : Err (numbered x i) ≡ Ok line = sym says ∙ e in cc)

    by_text : (b : Bool) → is_utf8 w ≡ b → Fitted p i w ws line
    by_text true t = by_fit t (fits i p w) refl
    by_text false t = absurd (
        let bad : after i p w ≡ Err wrong.BadUtf8 = ap (λ (b : Bool). if b then fits i p w else Err wrong.BadUtf8) t in
        let says : rest_of p i (w ∷ ws) ≡ Err (fault.BadUtf8 i) = rest_of-cons p i w ws ∙ ap (λ r. continued r i ws) bad in
        let both : Err (fault.BadUtf8 i) ≡ Ok line = sym says ∙ e in cc)

-- the name of an option
pub record Named (v : QdiscVerb) (h : HeadDraft) (k : KindName) (o : OptionDraft) (w : List ℕ) (q : Position) : Type 0 where
  pub entry : Entry
  pub is : entry_in (entries k) w ≡ Some entry
  pub fresh : has entry k o ≡ false
  pub leads : q ≡ behind entry v h k o

pub named : (v : QdiscVerb) (h : HeadDraft) (k : KindName) (o : OptionDraft) (i : ℕ) (w : List ℕ) (q : Position) → fits i (options v h k o) w ≡ Ok q → Named v h k o w q
named v h k o i w q e = by_entry (entry_in (entries k) w) refl
  where
    by_given : (x : Entry) → entry_in (entries k) w ≡ Some x → (b : Bool) → has x k o ≡ b → Named v h k o w q
    by_given x is true g = absurd (
        let twice : fits i (options v h k o) w ≡ Err wrong.Twice = found v h k o w ∙ ap (entered v h k o) is ∙ ap (λ (b : Bool). once b (behind x v h k o)) g in
        let both : Err wrong.Twice ≡ Ok q = sym twice ∙ e in cc)
    by_given x is false g =
        let leads : fits i (options v h k o) w ≡ Ok (behind x v h k o) = found v h k o w ∙ ap (entered v h k o) is ∙ ap (λ (b : Bool). once b (behind x v h k o)) g in
        let both : Ok (behind x v h k o) ≡ Ok q = sym leads ∙ e in
        record { entry = x; is = is; fresh = g; leads = cc }

    by_entry : (r : Option Entry) → entry_in (entries k) w ≡ r → Named v h k o w q
    by_entry (Some x) is = by_given x is (has x k o) refl
    by_entry None is = absurd (
        let unknown : fits i (options v h k o) w ≡ Err wrong.UnknownWord = found v h k o w ∙ ap (entered v h k o) is in
        let both : Err wrong.UnknownWord ≡ Ok q = sym unknown ∙ e in cc)

pub name_leads : (v : QdiscVerb) (h : HeadDraft) (k : KindName) (o : OptionDraft) (i : ℕ) (w : List ℕ) (x : Entry) → is_utf8 w ≡ true → entry_in (entries k) w ≡ Some x
    → has x k o ≡ false → after i (options v h k o) w ≡ Ok (behind x v h k o)
name_leads v h k o i w x t is g = utf8_after i (options v h k o) w t ∙ found v h k o w ∙ ap (entered v h k o) is ∙ ap (λ (b : Bool). once b (behind x v h k o)) g
