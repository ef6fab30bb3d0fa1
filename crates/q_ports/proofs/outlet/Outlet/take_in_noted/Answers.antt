use Rattle.std.proofs.Common.{◌∙◌, ℕ, arith, refl, sym, subst, ap}
use Rattle.q_device.specs.log.LastNoted.{all_noted, with_noted}
use Rattle.q_model.specs.declared.event.Event.TheVariants.{Arrive}
use Rattle.q_ports.specs.NotedIn.{arrivals_between}
use Rattle.q_ports.specs.Rings.{RingSeen}
use Rattle.q_ports.specs.TakenIn.{HasNoRoomForFirst, TakesIn}
use Rattle.q_ports.proofs.NotedLemmas.{between-look, between-push, between-same, counts_again}
use Rattle.q_ports.proofs.TakeInLemmas.{takes-look, takes-memory, takes-more, takes-none}
use Rattle.q_ports.proofs.outlet.Outlet.take_in_noted.Goals as goal

pub loop-taken-init : goal.loop-taken-init
loop-taken-init c = record {
  takes = takes-none c.args.now c.args.self.now c.args.device.now;
  first = λ _. refl;
  noted = between-same c.args.now c.args.device.now c.args.self.now c.args.last.now;
  clock = refl;
}

pub loop-taken-preserved : goal.loop-taken-preserved
loop-taken-preserved c =
    let look =
    takes-look c.args.now c.args.self.now c.loop-taken.self c.is_empty.new.self c.args.device.now c.loop-taken.device c.loop-taken.taken
    c.loop-taken.invariant.takes c.is_empty.ensures.looked c.is_empty.ensures.longer in
    let noted =
    between-look c.args.now c.args.device.now c.args.self.now c.loop-taken.self c.is_empty.new.self c.args.last.now c.loop-taken.last
    c.is_empty.ensures.looked c.loop-taken.invariant.noted in
    let first = c.in-Ok.ensures.taken in
    record {
      takes = takes-more c.args.now c.args.self.now c.is_empty.new.self c.take_first_noted.new.self c.args.device.now c.loop-taken.device c.take_first_noted.new.device c.loop-taken.taken look first;
      first = λ e. absurd (omega (arith, e));
      noted = between-push c.args.now c.loop-taken.taken c.args.device.now c.loop-taken.device c.args.self.now c.is_empty.new.self c.take_first_noted.new.self first.packet
          c.args.last.now c.loop-taken.last c.take_first_noted.new.last look first.received c.loop-taken.invariant.clock noted
          (c.in-Ok.ensures.noted first.packet first.first ∙ ap (λ (m : ℕ). with_noted (Arrive first.packet m) c.loop-taken.last) c.in-Ok.ensures.clock);
      clock = counts_again c.args.now c.loop-taken.device.device c.take_first_noted.new.device.device c.in-Ok.ensures.clock ∙ c.loop-taken.invariant.clock;
    }

pub returns-in-Err-clause-taken : goal.returns-in-Err-clause-taken
returns-in-Err-clause-taken c =
    let look =
    takes-look c.args.now c.args.self.now c.loop-taken.self c.is_empty.new.self c.args.device.now c.loop-taken.device c.loop-taken.taken
    c.loop-taken.invariant.takes c.is_empty.ensures.looked c.is_empty.ensures.longer in
    let same = takes-memory c.args.now c.args.self.now c.is_empty.new.self c.args.device.now c.loop-taken.device c.take_first_noted.new.device c.loop-taken.taken look c.in-Err.ensures.same_device in
    subst (λ (r : RingSeen). TakesIn c.args.now c.args.self.now r c.args.device.now c.take_first_noted.new.device c.loop-taken.taken) (sym c.in-Err.ensures.same) same

pub returns-in-Err-clause-stopped : goal.returns-in-Err-clause-stopped
returns-in-Err-clause-stopped c h =
    let look =
    takes-look c.args.now c.args.self.now c.loop-taken.self c.is_empty.new.self c.args.device.now c.loop-taken.device c.loop-taken.taken
    c.loop-taken.invariant.takes c.is_empty.ensures.looked c.is_empty.ensures.longer in
    record {
      full = c.loop-taken.device;
      takes = subst (λ (r : RingSeen). TakesIn c.args.now c.args.self.now r c.args.device.now c.loop-taken.device c.loop-taken.taken) (sym c.in-Err.ensures.same) look;
      first = c.loop-taken.invariant.first;
      next = subst (HasNoRoomForFirst c.loop-taken.device) (sym c.in-Err.ensures.same) c.in-Err.ensures.refused;
      stays = c.in-Err.ensures.same_device;
    }

pub returns-in-Err-clause-noted : goal.returns-in-Err-clause-noted
returns-in-Err-clause-noted c =
    let noted =
    between-look c.args.now c.args.device.now c.args.self.now c.loop-taken.self c.is_empty.new.self c.args.last.now c.loop-taken.last
    c.is_empty.ensures.looked c.loop-taken.invariant.noted in
    c.in-Err.ensures.unnoted ∙ noted
    ∙ ap (λ (r : RingSeen). all_noted (arrivals_between c.args.now c.args.device.now c.args.self.now r) c.args.last.now) (sym c.in-Err.ensures.same)
