-- One poll of several, and one loss of those that wait.
use Rattle.std.proofs.Common.{◌≡◌, ◌∙◌, ℕ, suc, List, [], ◌∷◌, ◌++◌, Option, Some, None, sym, ap, ap₂, refl}
use Rattle.std.specs.Prelude.{drop, slice_get, unwrap_or}
use Rattle.std.specs.List.{flat_map}
use Rattle.std.proofs.lemmas.Option.{none-some}
use Rattle.q_codel.specs.declared.loss.Loss.{Loss}
use Rattle.q_model.specs.declared.event.Event.TheVariants as event
use Rattle.q_model.specs.declared.polled.Polled.{Polled}
use Rattle.q_model.specs.declared.polled.Polled.TheVariants as polled
use Rattle.q_model.specs.declared.reply.Reply.{Reply}
use Rattle.q_model.specs.declared.reply.Reply.TheVariants as reply
use Rattle.q_model.specs.Step.{step}
use Rattle.q_model.specs.Tally.{Counts, totals}
use Rattle.q_script_semantics.specs.Report.{SessionState, after, polls}
use Rattle.q_script_semantics.specs.Text.{lost_line, poll_line}

abbrev polled_in : Reply → Polled
polled_in (reply.Polled p) = p
polled_in other = polled.Idle

module _ (n left : ℕ) (s next : SessionState Counts) (told : Polled) (one : left ≡ suc n) (is : next ≡ after (step totals s.device (event.Poll s.moment)) s)
    (said : reply.Polled told ≡ (step totals s.device (event.Poll s.moment)).reply) where
  pub poll-text : (polls totals left s).text ≡ poll_line told ++ (polls totals n next).text
  poll-text =
      ap (λ k. (polls totals k s).text) one
      ∙ ap₂ (λ (p : Polled) (r : SessionState Counts). poll_line p ++ (polls totals n r).text) (sym (ap polled_in said)) (sym is)

  pub poll-session : (polls totals left s).session ≡ (polls totals n next).session
  poll-session = ap (λ k. (polls totals k s).session) one ∙ ap (λ (r : SessionState Counts). (polls totals n r).session) (sym is)

-- the oldest loss
pub lost-first : (waiting : List Loss) (lost : Loss) → Some lost ≡ slice_get waiting 0 → flat_map lost_line waiting ≡ lost_line lost ++ flat_map lost_line (drop 1 waiting)
lost-first [] lost e = absurd (none-some lost (sym e))
lost-first (l ∷ waiting) lost e = ap (λ (x : Loss). lost_line x ++ flat_map lost_line waiting) (sym (ap (λ (o : Option Loss). unwrap_or o lost) e))

pub lost-none : (waiting : List Loss) → None ≡ slice_get waiting 0 → waiting ≡ []
lost-none [] e = refl
lost-none (l ∷ waiting) e = absurd (none-some l e)
