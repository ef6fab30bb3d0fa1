use Rattle.std.proofs.Common.{◌≡◌, ◌-◌, map, sym, ap, ◌∙◌, subst}
use Rattle.std.specs.List.{remove}
use Rattle.q_drr.specs.Links.{without, is_among, moved_down}
use Rattle.q_drr.specs.States.{names_in}
use Rattle.q_drr.specs.Kept.{shown, IsSound}
use Rattle.q_drr.specs.Schedule.{removed}
use Rattle.q_drr.proofs.NameLemmas.{without_absent}
use Rattle.q_drr.proofs.ScheduleLemmas.{there_of, not_among_without}
use Rattle.q_drr.proofs.SoundLemmas.{stands_found, sound_removed, shown_removed}
use Rattle.q_drr.proofs.active.Active.remove.Goals.{Joined-contains, then-contains, else-contains}
use Rattle.q_drr.proofs.active.Active.remove.Goals as goal

pub find-place-requires : goal.find-place-requires
find-place-requires c = there_of _ _ _ _ _ c.args.class c.self.view_is c.requires

-- the place is out of the circle either way
out_of_circle : (c : Joined-contains) → c.if-contains.self-inside ≡ record c.self.inside { ring = record c.self.inside.ring { order = without c.find-place.result c.self.inside.ring.order } }
out_of_circle c = elim c.if-contains.branch [
  | then-contains w ↦ w.self-inside-is ∙ ap (λ r. record c.self.inside { ring = r }) w.remove.ensures
  | else-contains w ↦ w.self-inside-is
      ∙ ap (λ ns. record c.self.inside { ring = record c.self.inside.ring { order = ns } }) (sym (without_absent c.find-place.result c.self.inside.ring.order (sym w.if-contains.ensures)))
]

pub close_gap-requires-clause-empty : goal.close_gap-requires-clause-empty
close_gap-requires-clause-empty c =
    ap (λ a. is_among c.find-place.result a.ring.order) (out_of_circle (goal.at.close_gap-requires-clause-empty c).Joined-contains) ∙ not_among_without c.find-place.result c.self.inside.ring.order

pub invariant_of-self : goal.invariant_of-self
invariant_of-self c =
    let s = c.self.inside in
    let i = c.if-contains.self-inside in
    let place = c.find-place.result in
    let stands = stands_found s.max_len s.turns s.table s.ring c.self.invariant c.args.class c.find-place.result c.find-place.ensures in
    let out = out_of_circle (goal.at.invariant_of-self c).Joined-contains in
    subst (λ t. IsSound i.max_len i.turns t c.close_gap.new.self) (sym c.remove-2.ensures)
    (subst (IsSound i.max_len i.turns (remove i.table place)) (sym c.close_gap.ensures)
    (subst (λ a. IsSound a.max_len a.turns (remove a.table place) (record { order = map (moved_down place) a.ring.order; room = a.ring.room - 1 })) (sym out)
    (sound_removed s.max_len s.turns s.table s.ring c.self.invariant place c.args.class stands)))

pub returns : goal.returns
returns c =
    let s = c.self.inside in
    let i = c.if-contains.self-inside in
    let place = c.find-place.result in
    let stands = stands_found s.max_len s.turns s.table s.ring c.self.invariant c.args.class c.find-place.result c.find-place.ensures in
    let out = out_of_circle (goal.at.returns c).Joined-contains in
    ap (λ t. shown i.max_len i.turns t (names_in t c.close_gap.new.self.order)) c.remove-2.ensures
    ∙ ap (λ r. let t = remove i.table place in shown i.max_len i.turns t (names_in t r.order)) c.close_gap.ensures
    ∙ ap (λ a. let t = remove a.table place in shown a.max_len a.turns t (names_in t (map (moved_down place) a.ring.order))) out
    ∙ shown_removed s.max_len s.turns s.table s.ring c.self.invariant place c.args.class stands ∙ ap (removed c.args.class) c.self.view_is
