-- Lemmas on texts that are written bit by bit.
use Rattle.std.proofs.Common.{ℕ, List, ◌++◌, Option, sym, ap, ◌∙◌, subst, append_assoc, arith, length-append}
use Rattle.std.specs.Io.KnownBytes.{Appends}
use Rattle.std.proofs.KnownBytes.{Appends-trans}
use Rattle.q_show.specs.Written.{AppendsFront, IsBuffered}

-- what is buffered is written in part, and the rest of it stays buffered
pub buffered-trans : (a b c : Option (List ℕ)) (left mid text : List ℕ) → IsBuffered a b mid text → IsBuffered b c left mid → IsBuffered a c left text
buffered-trans a b c left mid text h w =
    (h.0 ++ w.0, Appends-trans a b c h.0 w.0 h.1 w.1, h.2 ∙ (ap (λ l. h.0 ++ l) w.2 ∙ sym (append_assoc h.0 w.0 left)))

-- more is buffered
pub buffered-more : (a b : Option (List ℕ)) (buffered text more : List ℕ) → IsBuffered a b buffered text → IsBuffered a b (buffered ++ more) (text ++ more)
buffered-more a b buffered text more h = (h.0, h.1, ap (λ l. l ++ more) h.2 ∙ append_assoc h.0 buffered more)

-- a writer that failed within what is buffered has a front of the text
pub front-of : (a b c : Option (List ℕ)) (buffered text : List ℕ) → IsBuffered a b buffered text → AppendsFront b c buffered → AppendsFront a c text
front-of a b c buffered text h w =
    (h.0 ++ w.0, w.1, Appends-trans a b c h.0 w.0 h.1 w.2, w.3, h.2 ∙ (ap (λ l. h.0 ++ l) w.4 ∙ sym (append_assoc h.0 w.0 w.1)))

-- a front of a text is a front of a longer one
pub front-longer : (a b : Option (List ℕ)) (text more : List ℕ) → AppendsFront a b text → AppendsFront a b (text ++ more)
front-longer a b text more w = (w.0, w.1 ++ more, w.2, omega (arith, length-append w.1 more, w.3), ap (λ l. l ++ more) w.4 ∙ append_assoc w.0 w.1 more)

-- all that was buffered is written
pub buffered-all : (a b c : Option (List ℕ)) (buffered text : List ℕ) → IsBuffered a b buffered text → Appends b c buffered → Appends a c text
buffered-all a b c buffered text h w = subst (Appends a c) (sym h.2) (Appends-trans a b c h.0 buffered h.1 w)
