use Rattle.q_drr.proofs.ScheduleLemmas.{there_of}
use Rattle.q_drr.proofs.SoundLemmas.{stands_found, name_shown}
use Rattle.q_drr.proofs.active.Active.wake.Goals as goal

pub find-place-requires : goal.find-place-requires
find-place-requires c = there_of _ _ _ _ _ c.args.class c.self.view_is c.requires

pub returns : goal.returns
returns c =
    let s = c.self.inside in
    let stands = stands_found s.max_len s.turns s.table s.ring c.self.invariant c.args.class c.find-place.result c.find-place.ensures in
    c.wake_at.ensures c.args.class (name_shown s.max_len s.turns s.table s.ring c.self.invariant c.args.self.now c.find-place.result c.args.class c.self.view_is stands)
