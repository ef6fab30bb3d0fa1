use Rattle.std.proofs.Common.{◌≡◌, ◌∙◌, ◌+◌, ◌==◌, ◌++◌, ◌∷◌, [], Bool, true, false, List, length, sym, ap, subst, arith, MatchBool}
use Rattle.std.proofs.lemmas.Bool.{false≢true}
use Rattle.std.proofs.lemmas.Bool.Decides.{nat_tests}
use Rattle.std.proofs.lemmas.List.{length_push}
use Rattle.q_model.specs.declared.row.Row.{Row}
use Rattle.q_ports.specs.Rows.{RowHistorySeen, MayFollow}
use Rattle.q_ports.proofs.Adding.{adds_moves}
use Rattle.q_ports.proofs.note.Note.try_add.Goals as goal

match-true : {A : Type 0} (B : Type 0) (b : Bool) → b ≡ true → MatchBool b A B → A
match-true B true e h = h
match-true B false e h = absurd (false≢true e)

pub compare_exchange-found-requires : goal.compare_exchange-found-requires
compare_exchange-found-requires c =
    let h = c.requires.head in
    let seen = c.again-seen.ensures in
    let log : c.again-seen.result.log ≡ c.args.self.now.rows = ap (λ s. s.log) seen ∙ ap (λ (f : RowHistorySeen). f.rows) c.self.view_is in
    let book : c.again-seen.result.book ≡ c.args.self.now.book = ap (λ s. s.book) seen ∙ ap (λ (f : RowHistorySeen). f.book) c.self.view_is in
    let offer = c.plain-offer.ensures in
    let pen = c.no_pen-pen.ensures in
    let len : length c.again-seen.result.log ≡ c.self.inside.count = ap (λ s. length s.log) seen ∙ sym c.self.invariant in
    let may : MayFollow c.again-seen.result.log c.args.row = subst (λ (xs : List Row). MayFollow xs c.args.row) (sym log) c.requires.follows in (
      ap (λ w. w.tracked) h,
      book ∙ sym (ap (λ w. w.book) h),
      pen.0 ∙ (book ∙ sym (ap (λ w. w.book) h)),
      offer.0,
      rw (ap (λ w. w.key) h, pen.1, offer.1, offer.3) (adds_moves c.again-seen.result.log c.args.row c.self.inside.count c.in-Some.more len c.in-Some.ensures.1 may),
    )

pub invariant_of-self : goal.invariant_of-self
invariant_of-self c =
    let now = c.again-seen.result.log in
    let next = c.compare_exchange-found.new.seen.log in
    let here : (c.compare_exchange-found.result == c.self.inside.count) ≡ true = grind (arith, nat_tests) in
    let told = match-true _ (c.compare_exchange-found.result == c.self.inside.count) here c.compare_exchange-found.ensures.7 in
    let after : next ≡ now ++ c.args.row ∷ [] = told.0 ∙ ap (λ (r : Row). now ++ r ∷ []) c.plain-offer.ensures.1 in
    let long : length next ≡ length now + 1 = ap (λ (xs : List Row). length xs) after ∙ length_push now c.args.row in
    let len : length now ≡ c.self.inside.count = ap (λ s. length s.log) c.again-seen.ensures ∙ sym c.self.invariant in omega (arith, long, len, c.in-Some.ensures.1)
