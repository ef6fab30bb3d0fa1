-- A drr that shows nothing when it is asked: the class that it met shows nothing, and the list that it left begins with that class.
use Rattle.std.proofs.Common.{◌≡◌, ℕ, ◌∙◌, refl, sym, ap, List, ◌∷◌, Option, Some, None, option_map, option_and_then}
use Rattle.std.specs.Prelude.{slice_get}
use Rattle.q_packet.specs.Descriptor.{Descriptor}
use Rattle.q_drr.specs.Schedule.{Entry, Schedule}
use Rattle.q_drr.specs.Take.{prepared, served, met_in}
use Rattle.q_drr.specs.declared.take.Met.{Met}
use Rattle.q_drr.proofs.TakeLemmas.{Front, served_nothing}
use Rattle.q_model.specs.Ask.{Asked, class_answer, length_of, head_of, place_met, ask_drr}
use Rattle.q_model.specs.Node.{Own}
use Rattle.q_model.specs.Route.{class_at}
use Rattle.q_tree.proofs.ForeseenAsks.{met-shown}

headless : (o : Option Asked) → option_and_then (λ (a : Asked). a.shown) o ≡ None → option_and_then length_of o ≡ None
headless None e = refl
headless (Some a) e = ap (option_map (λ (p : Descriptor). p.len)) e

module _ (s : Schedule) (below : List Asked) (e : Entry) (rest : List Entry) (first : (prepared (head_of s below) s).active ≡ e ∷ rest) where
  abbrev heads : ℕ → Option ℕ
  heads = head_of s below

  pub place-front : place_met s below ≡ class_at e.class s
  place-front = ap (λ (es : List Entry). option_and_then (λ (m : Met). class_at m.class s) (met_in heads es)) first

  module _ (own : Own) (silent : (ask_drr own below s).shown ≡ None) where
    pub hides : option_and_then (λ (a : Asked). a.shown) (class_answer s below e.class) ≡ None
    hides = ap (λ i. option_and_then (λ (a : Asked). a.shown) (option_and_then (slice_get below) i)) (sym place-front) ∙ sym (met-shown own s below) ∙ silent

    pub list-left : (served (head_of s below) s).active ≡ e ∷ rest
    list-left =
        let front : Front e.class (prepared heads s) = record { first = e; rest = rest; is = first; class = refl } in
        ap (λ (x : Schedule). x.active) (sym (served_nothing heads s (prepared heads s) e.class front (headless (class_answer s below e.class) hides) refl)) ∙ first
