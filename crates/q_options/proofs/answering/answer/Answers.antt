use Rattle.std.proofs.Common.{rules, ◌∙◌, inl, inr, refl, subst, map, string_bytes}
use Rattle.clap.specs.Words.{kind_of as clap_kind}
use Rattle.q_options.specs.CommandLine.{IsAsked, IsRefused}
use Rattle.q_options.specs.Answer.{IsTold}
use Rattle.q_options.specs.Usage.{IsToldBy}
use Rattle.q_options.specs.declared.program_options.Options.{Options as Asked}
use Rattle.q_options.proofs.answering.answer.Goals as goal

pub returns-in-Err-clause-not_utf8 : goal.returns-in-Err-clause-not_utf8
returns-in-Err-clause-not_utf8 g c =
    rw (c.in-Err.is) (λ kind. subst (λ fault. IsTold fault (g.E.Write.contents c.args.errors.now) (g.E.Write.contents c.tell.new.errors))
    (c.of_words.ensures.utf8 (c.kind.ensures ∙ kind)) c.tell.ensures)

pub returns-in-Err-clause-no_memory : goal.returns-in-Err-clause-no_memory
returns-in-Err-clause-no_memory g c =
    rw (c.in-Err.is) (λ kind. subst (λ fault. IsTold fault (g.E.Write.contents c.args.errors.now) (g.E.Write.contents c.tell.new.errors))
    (c.of_words.ensures.memory (λ same. kind (search rules))) c.tell.ensures)

pub returns-in-Err-options-clause-answer : goal.returns-in-Err-options-clause-answer
returns-in-Err-options-clause-answer g c =
    let refused = subst (λ words. IsRefused (map string_bytes words) (clap_kind c.in-Err-options.error)) c.deref.ensures.value c.in-Err-options.ensures.refused in
    inl (
      record { unread = refl; shown_or_refused = c.show.ensures.status; silent = c.show.ensures.silent; kept = c.show.ensures.kept },
      rw (c.in-Ok.is) (clap_kind c.in-Err-options.error, refused, c.show.ensures.shown),
    )

pub returns-in-Play-clause-answer : goal.returns-in-Play-clause-answer
returns-in-Play-clause-answer g c =
    let asked = subst (λ words. IsAsked (map string_bytes words) c.in-Ok-options.options) c.deref.ensures.value c.in-Ok-options.ensures.asked in
    inr (inl (c.in-Play.options, rw (c.in-Ok.is) (subst (λ options. IsAsked (map string_bytes c.in-Ok.words.items) options) c.in-Play.is asked), c.play_asked.ensures.played))

pub returns-clause-answer : goal.returns-clause-answer
returns-clause-answer g c =
    let asked = subst (λ words. IsAsked (map string_bytes words) c.in-Ok-options.options) c.deref.ensures.value c.in-Ok-options.ensures.asked in
    inr (inr (c.in-Drive.options, rw (c.in-Ok.is) (subst (λ options. IsAsked (map string_bytes c.in-Ok.words.items) options) c.in-Drive.is asked), c.drive_of.ensures.driven))

pub returns-in-Err-options-clause-wrong_usage : goal.returns-in-Err-options-clause-wrong_usage
returns-in-Err-options-clause-wrong_usage g c =
    let kind = clap_kind c.in-Err-options.error in
    let old = g.E.Write.contents c.args.errors.now in
    let new = g.E.Write.contents c.show.new.errors in
    let refused = subst (λ words. IsRefused (map string_bytes words) kind) c.deref.ensures.value c.in-Err-options.ensures.refused in
    rw (c.in-Ok.is) (λ _ two. (kind, refused, subst (λ words. IsToldBy (map string_bytes words) kind c.show.new.target.writes old new) c.deref-in-Err-options.ensures.value (c.show.ensures.told two)))

pub returns-in-Play-clause-wrong_usage : goal.returns-in-Play-clause-wrong_usage
returns-in-Play-clause-wrong_usage g c =
    let asked = subst (λ words. IsAsked (map string_bytes words) c.in-Ok-options.options) c.deref.ensures.value c.in-Ok-options.ensures.asked in
    let is = subst (λ options. IsAsked (map string_bytes c.in-Ok.words.items) options) c.in-Play.is asked in
    rw (c.in-Ok.is) (λ nothing _. absurd (nothing (Asked.Play c.in-Play.options) is))

pub returns-clause-wrong_usage : goal.returns-clause-wrong_usage
returns-clause-wrong_usage g c =
    let asked = subst (λ words. IsAsked (map string_bytes words) c.in-Ok-options.options) c.deref.ensures.value c.in-Ok-options.ensures.asked in
    let is = subst (λ options. IsAsked (map string_bytes c.in-Ok.words.items) options) c.in-Drive.is asked in
    rw (c.in-Ok.is) (λ nothing _. absurd (nothing (Asked.Drive c.in-Drive.options) is))
