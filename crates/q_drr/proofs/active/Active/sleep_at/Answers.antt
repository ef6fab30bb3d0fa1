use Rattle.std.proofs.Common.{◌≡◌, ◌<◌, length, sym, ap, ◌∙◌, subst, arith}
use Rattle.std.proofs.lemmas.List.{length-map}
use Rattle.q_drr.specs.States.{names_in, name_in, class_in}
use Rattle.q_drr.specs.Schedule.{asleep}
use Rattle.q_drr.specs.Kept.{shown, IsSound}
use Rattle.q_drr.proofs.ScheduleLemmas.{asleep_stays}
use Rattle.q_drr.proofs.SoundLemmas.{stands_at, stands_named, among, sound_asleep, shown_asleep}
use Rattle.q_drr.proofs.active.Active.sleep_at.Goals as goal

pub invariant_of-self : goal.invariant_of-self
invariant_of-self c =
    let s = c.self.inside in
    let within : c.args.place < length s.table = omega (arith, c.requires, length-map s.table class_in, ap (λ v. length v.classes) c.self.view_is) in
    subst (IsSound s.max_len s.turns s.table) (sym c.remove.ensures)
    (sound_asleep s.max_len s.turns s.table s.ring c.self.invariant c.args.place (name_in s.table c.args.place)
    (stands_at s.max_len s.turns s.table s.ring c.self.invariant c.args.place within))

pub returns-then-contains : goal.returns-then-contains
returns-then-contains c = λ class so.
    let s = c.self.inside in
    let stands = stands_named s.max_len s.turns s.table s.ring c.self.invariant c.args.self.now class c.args.place c.self.view_is so in
    ap (λ r. shown s.max_len s.turns s.table (names_in s.table r.order)) c.remove.ensures
    ∙ shown_asleep s.max_len s.turns s.table s.ring c.self.invariant c.args.place class stands ∙ ap (asleep class) c.self.view_is

pub returns-else-contains : goal.returns-else-contains
returns-else-contains c = λ class so.
    let s = c.self.inside in
    let stands = stands_named s.max_len s.turns s.table s.ring c.self.invariant c.args.self.now class c.args.place c.self.view_is so in
    subst (λ v. v ≡ asleep class v) c.self.view_is
    (asleep_stays s.max_len s.turns s.table (names_in s.table s.ring.order) class (among s.max_len s.turns s.table s.ring c.self.invariant c.args.place class stands ∙ sym c.if-contains.ensures))
