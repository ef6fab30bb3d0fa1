-- A script on its way: what its lines have written so far, and what is left of it.
use Rattle.std.proofs.Common.{◌≡◌, ℕ, suc, Bool, true, false, List, [], ◌∷◌, ◌++◌, Option, refl, sym, ap, ◌∙◌, subst, append_assoc, append-nil, arith}
use Rattle.std.proofs.KnownBytes.{Appends-nil}
use Rattle.std.specs.Io.KnownBytes.{Appends}
use Rattle.q_script.specs.Script.{lines_of, is_starved}
use Rattle.q_script.specs.Step.{Effect, replayed, HasEffect, FailsWithin, IsWholeRun, IsPartlyRun}
use Rattle.q_show.specs.Written.{AppendsFront, IsBuffered}
use Rattle.q_script.proofs.StarvedLines.{AllBelow, AllFrom, below-later, below-push, from-earlier, starved-here, starved-not}
use Rattle.q_script.proofs.WrittenLemmas.{buffered-all, buffered-trans, buffered-more, front-of, front-longer}

-- what each line does to a session
abbrev pub LineEffect : Type 0 → Type 0
LineEffect S = Bool → ℕ → List ℕ → S → Effect S

-- an effect with a text in front
abbrev pub preceded : {S : Type 0} → List ℕ → Effect S → Effect S
preceded text e = record e { text = text ++ e.text }

-- the replay of these lines, with memory refused at those lines
abbrev pub replay : {S : Type 0} → LineEffect S → List ℕ → ℕ → List (List ℕ) → S → Effect S
replay effect starved k lines s = replayed effect (is_starved starved) k lines s

pub record Playing {S : Type 0} (effect : LineEffect S) (held holds : Option (List ℕ)) (buffered : List ℕ) (all left : List (List ℕ)) (k : ℕ) (first now : S) : Type 0 where
  pub starved : List ℕ
  pub produced : List ℕ
  pub below : AllBelow k starved
  pub goes_on : (later : List ℕ) → AllFrom k later → replay effect (starved ++ later) 1 all first ≡ preceded produced (replay effect (starved ++ later) k left now)
  pub written : IsBuffered held holds buffered produced

pub playing-start : {S : Type 0} (effect : LineEffect S) (held : Option (List ℕ)) (all : List (List ℕ)) (first : S) → Playing effect held held [] all all 1 first first
playing-start effect held all first = record {
  starved = [];
  produced = [];
  below = tt;
  goes_on = λ later h. refl;
  written = ([], Appends-nil held, refl);
}

-- the replay of a line and those behind it
step_of : {S : Type 0} (effect : LineEffect S) (starved : List ℕ) (k : ℕ) (line : List ℕ) (left : List (List ℕ)) (s : S) (b : Bool) → is_starved starved k ≡ b
    → replay effect starved k (line ∷ left) s ≡ preceded (effect b k line s).text (replay effect starved (suc k) left (effect b k line s).session)
step_of effect starved k line left s b h = ap (λ (b : Bool). preceded (effect b k line s).text (replay effect starved (suc k) left (effect b k line s).session)) h

preceded-twice : {S : Type 0} (a b : List ℕ) (e : Effect S) → preceded a (preceded b e) ≡ preceded (a ++ b) e
preceded-twice a b e = ap (λ (l : List ℕ). record e { text = l }) (sym (append_assoc a b e.text))

-- the lines at which memory was refused, with this one or without
abbrev now_starved : Bool → List ℕ → ℕ → List ℕ
now_starved true starved k = starved ++ k ∷ []
now_starved false starved k = starved

now_below : (b : Bool) (starved : List ℕ) (k : ℕ) → AllBelow k starved → AllBelow (suc k) (now_starved b starved k)
now_below true starved k h = below-push k starved h
now_below false starved k h = below-later k starved h

-- the whole replay, as far as this line and on from it
through_line : {S : Type 0} (effect : LineEffect S) (all left : List (List ℕ)) (line produced starved : List ℕ) (k : ℕ) (first now : S)
    → AllBelow k starved
    → ((later : List ℕ) → AllFrom k later → replay effect (starved ++ later) 1 all first ≡ preceded produced (replay effect (starved ++ later) k (line ∷ left) now))
    → (b : Bool) (later : List ℕ) → AllFrom (suc k) later
    → replay effect (now_starved b starved k ++ later) 1 all first
    ≡ preceded (produced ++ (effect b k line now).text)
    (replay effect (now_starved b starved k ++ later) (suc k) left (effect b k line now).session)
through_line effect all left line produced starved k first now below goes_on true later from =
    let e = effect true k line now in
    let joined : (starved ++ k ∷ []) ++ later ≡ starved ++ k ∷ later = append_assoc starved (k ∷ []) later in
    rw joined
    (goes_on (k ∷ later) (omega arith, from-earlier k later from)
    ∙ ap (preceded produced) (step_of effect (starved ++ k ∷ later) k line left now true (starved-here k starved later))
    ∙ preceded-twice produced e.text (replay effect (starved ++ k ∷ later) (suc k) left e.session))
through_line effect all left line produced starved k first now below goes_on false later from =
    let e = effect false k line now in
    goes_on later (from-earlier k later from)
    ∙ ap (preceded produced) (step_of effect (starved ++ later) k line left now false (starved-not k starved later below from))
    ∙ preceded-twice produced e.text (replay effect (starved ++ later) (suc k) left e.session)

pub playing-next : {S : Type 0} (effect : LineEffect S) (held a b : Option (List ℕ)) (buffered after : List ℕ) (all left : List (List ℕ)) (line : List ℕ) (k : ℕ) (first now next : S)
    → Playing effect held a buffered all (line ∷ left) k first now → HasEffect effect k line now next a b buffered after → Playing effect held b after all left (suc k) first next
playing-next effect held a b buffered after all left line k first now next p h =
    let text = (effect h.0 k line now).text in
    let on = through_line effect all left line p.produced p.starved k first now p.below p.goes_on h.0 in
    record {
      starved = now_starved h.0 p.starved k;
      produced = p.produced ++ text;
      below = now_below h.0 p.starved k p.below;
      goes_on = λ later from. rw h.1 (on later from);
      written = buffered-trans held a b after (buffered ++ text) (p.produced ++ text) (buffered-more held a buffered p.produced text p.written) h.2;
    }

pub playing-fails : {S : Type 0} (effect : LineEffect S) (held a b : Option (List ℕ)) (buffered script : List ℕ) (left : List (List ℕ)) (line : List ℕ) (k : ℕ) (first now : S)
    → Playing effect held a buffered (lines_of script) (line ∷ left) k first now → FailsWithin effect k line now a b buffered → IsPartlyRun effect script first held b
playing-fails effect held a b buffered script left line k first now p h =
    let e = effect h.0 k line now in
    let starved = now_starved h.0 p.starved k ++ [] in
    let rest = replay effect starved (suc k) left e.session in
    let whole = through_line effect (lines_of script) left line p.produced p.starved k first now p.below p.goes_on h.0 [] tt in
    let front = front-of held a b (buffered ++ e.text) (p.produced ++ e.text) (buffered-more held a buffered p.produced e.text p.written) h.1 in
    (starved, subst (AppendsFront held b) (sym (ap (λ x. x.text) whole)) (front-longer held b (p.produced ++ e.text) rest.text front))

pub playing-flush : {S : Type 0} (effect : LineEffect S) (held a b : Option (List ℕ)) (buffered script : List ℕ) (k : ℕ) (first now : S)
    → Playing effect held a buffered (lines_of script) [] k first now → AppendsFront a b buffered → IsPartlyRun effect script first held b
playing-flush effect held a b buffered script k first now p w =
    (p.starved ++ [], subst (AppendsFront held b) (sym (ap (λ x. x.text) (p.goes_on [] tt) ∙ append-nil p.produced)) (front-of held a b buffered p.produced p.written w))

pub playing-end : {S : Type 0} (effect : LineEffect S) (held a b : Option (List ℕ)) (buffered script : List ℕ) (k : ℕ) (first now : S)
    → Playing effect held a buffered (lines_of script) [] k first now → Appends a b buffered → IsWholeRun effect script first now held b
playing-end effect held a b buffered script k first now p w =
    let whole = buffered-all held a b buffered p.produced p.written w in
    record {
      starved = p.starved ++ [];
      text = subst (Appends held b) (sym (ap (λ x. x.text) (p.goes_on [] tt) ∙ append-nil p.produced)) whole;
      session = sym (ap (λ x. x.session) (p.goes_on [] tt));
    }

-- the lines that are left, cut at the first
pub playing-cut : {S : Type 0} (effect : LineEffect S) (held holds : Option (List ℕ)) (buffered : List ℕ) (all rest left : List (List ℕ)) (line : List ℕ) (k : ℕ) (first now : S)
    → Playing effect held holds buffered all rest k first now → rest ≡ line ∷ left → Playing effect held holds buffered all (line ∷ left) k first now
playing-cut effect held holds buffered all rest left line k first now p cut = subst (λ (l : List (List ℕ)). Playing effect held holds buffered all l k first now) cut p

-- no line is left
pub playing-empty : {S : Type 0} (effect : LineEffect S) (held holds : Option (List ℕ)) (buffered : List ℕ) (all rest : List (List ℕ)) (k : ℕ) (first now : S)
    → Playing effect held holds buffered all rest k first now → rest ≡ [] → Playing effect held holds buffered all [] k first now
playing-empty effect held holds buffered all rest k first now p none = subst (λ (l : List (List ℕ)). Playing effect held holds buffered all l k first now) none p
