use Rattle.std.proofs.Common.{◌≡◌, ◌∙◌, ap, sym, refl, Bool, true, false, List, ℕ, Option, Some, None, Result, Ok, Err, if◌then◌else◌}
use Rattle.std.specs.List.{list_any, before_first, after_first}
use Rattle.q_model.specs.Options.{Prefix}
use Rattle.q_words.specs.Addresses.{Address, address_of, is_slash, prefix_from, prefix_of, has_bad_length}
use Rattle.q_words.specs.Parts.{prefix_with}
use Rattle.q_words.specs.declared.wrong.Wrong.{Wrong}
use Rattle.q_words.specs.declared.wrong.Wrong.TheVariants.{BadNumber}
use Rattle.q_words.proofs.prefixes.prefix.Goals as goal

same : (r : Result Address Wrong) (len : Option (List ℕ))
    → prefix_with r len ≡ (elim r as (λ _. Result Prefix Wrong) [ Ok a ↦ prefix_from a len | Err e ↦ if has_bad_length len then Err BadNumber else Err e ])
same (Ok a) len = refl
same (Err e) len = refl

prefix_is : (word : List ℕ) (b : Bool) → list_any is_slash word ≡ b
    → prefix_with (address_of (before_first is_slash word)) (if b then Some (after_first is_slash word) else None) ≡ prefix_of word
prefix_is word b e = rw (← e) (same (address_of (before_first is_slash word)) (if list_any is_slash word then Some (after_first is_slash word) else None))

pub returns-then-has_slash : goal.returns-then-has_slash
returns-then-has_slash c =
    let w = c.args.word.now in
    c.with_length.ensures
    ∙ ap (λ r. prefix_with r (Some c.cut_at_slash.result.1.now)) (c.address-read.ensures ∙ ap address_of c.cut_at_slash.ensures.before)
    ∙ ap (λ b. prefix_with (address_of (before_first is_slash w)) (Some b)) c.cut_at_slash.ensures.after
    ∙ prefix_is w true (sym c.has_slash.ensures ∙ c.if-has_slash.true)

pub returns-else-has_slash : goal.returns-else-has_slash
returns-else-has_slash c =
    let w = c.args.word.now in
    c.whole.ensures
    ∙ ap (λ r. prefix_with r None) (c.address-read.ensures ∙ ap address_of c.cut_at_slash.ensures.before)
    ∙ prefix_is w false (sym c.has_slash.ensures ∙ c.if-has_slash.false)
