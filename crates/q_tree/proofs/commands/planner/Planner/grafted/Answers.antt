use Rattle.std.proofs.Common.{◌≡◌, ◌<◌, ◌^◌, ◌∙◌, [], Some, refl, sym, ap, subst, Ok}
use Rattle.std.specs.Prelude.{is_some, true, unwrap_or}
use Rattle.std.specs.Result.{result_map_both}
use Rattle.q_model.specs.declared.command.Command.TheVariants.{QdiscAdd}
use Rattle.q_model.specs.declared.refusal.Refusal.TheVariants.{Memory}
use Rattle.q_model.specs.Find.{free_handle, node_at, place_path}
use Rattle.q_model.specs.Make.{Device, made}
use Rattle.q_model.specs.Node.{shape}
use Rattle.q_model.specs.QdiscCommands.{new_qdisc, place_checks}
use Rattle.q_model.specs.Refusals.{done_unless}
use Rattle.q_model.specs.TreeState.{plan}
use Rattle.q_model.specs.Edit as model
use Rattle.q_invariants.proofs.edit.EditMade.{new_made}
use Rattle.q_invariants.proofs.edit.EditSuits.{done_is}
use Rattle.q_tree.specs.commands.Commands.{IsRefused}
use Rattle.q_tree.specs.commands.Grafting.{graft_checks}
use Rattle.q_tree.specs.commands.Making.{IsNewNode, NeedsMemory}
use Rattle.q_tree.specs.declared.commands.edit.Edit.TheVariants.{Graft}
use Rattle.q_tree.proofs.commands.GraftLemmas.{free-shape, graft-planned, graft-planned-for, graft-refused, made-takes, place-refused, there}
use Rattle.q_tree.proofs.commands.Plans.{refused-plan}
use Rattle.q_tree.specs.commands.Planning.{IsPlanBy, device_of, root_of}
use Rattle.q_tree.proofs.commands.Plans.{bounded-by, err-passed, numbered-by}
use Rattle.q_tree.proofs.commands.planner.Planner.grafted.Goals as goal

pub returns-in_err-path : goal.returns-in_err-path
returns-in_err-path c =
    let root = root_of c.args.self.now in
    let d : Device = device_of c.args.self.now in
    let e = c.in_err-path.field-0.0 in
    record {
      plan = err-passed c.from_residual.result e (IsPlanBy c.args.self.now (NeedsMemory c.args.kind.now) (QdiscAdd c.args.place c.args.handle c.args.kind.now)) c.from_residual.ensures.1
          (refused-plan (NeedsMemory c.args.kind.now) (plan d c.args.self.now.moment (QdiscAdd c.args.place c.args.handle c.args.kind.now) (shape root)) e
          (place-refused root (bounded-by c.args.self.now) (numbered-by c.args.self.now c.requires.lawful) d c.args.self.now.moment c.args.place
          c.args.handle c.args.kind.now c.requires.ranges.2 (unwrap_or (place_path c.args.place (shape root)) []) e
          (sym c.way_in.ensures ∙ ap (result_map_both (λ p. p.items) (λ e. e)) c.in_err-path.was)));
    }

pub can_graft-requires : goal.can_graft-requires
can_graft-requires c =
    let root = root_of c.args.self.now in
    let d : Device = device_of c.args.self.now in
    let way = unwrap_or (place_path c.args.place (shape root)) [] in
    let passed = sym c.way_in.ensures ∙ ap (result_map_both (λ p. p.items) (λ e. e)) c.in_ok-path.was in
    let way_is = (done_is (place_checks c.args.place (shape root)) way c.in_ok-path.path.items passed).1 in
    record {
      there = subst (λ p. is_some (node_at p root) ≡ true) (way_is ∙ sym c.deref.ensures.0)
          (there root (bounded-by c.args.self.now) (numbered-by c.args.self.now c.requires.lawful) d c.args.self.now.moment c.args.place c.args.handle c.args.kind.now c.requires.ranges.2);
    }

pub returns-in_err-can_graft : goal.returns-in_err-can_graft
returns-in_err-can_graft c =
    let root = root_of c.args.self.now in
    let d : Device = device_of c.args.self.now in
    let way = unwrap_or (place_path c.args.place (shape root)) [] in
    let passed = sym c.way_in.ensures ∙ ap (result_map_both (λ p. p.items) (λ e. e)) c.in_ok-path.was in
    let same = (done_is (place_checks c.args.place (shape root)) way c.in_ok-path.path.items passed).1 ∙ sym c.deref.ensures.0 in
    let e = c.in_err-can_graft.field-0.0 in
    record {
      plan =
          err-passed c.from_residual-in_err-can_graft.result e
          (IsPlanBy c.args.self.now (NeedsMemory c.args.kind.now) (QdiscAdd c.args.place c.args.handle c.args.kind.now))
          c.from_residual-in_err-can_graft.ensures.1
          (refused-plan (NeedsMemory c.args.kind.now) (plan d c.args.self.now.moment (QdiscAdd c.args.place c.args.handle c.args.kind.now) (shape root)) e
          (graft-refused root (bounded-by c.args.self.now) (numbered-by c.args.self.now c.requires.lawful) d c.args.self.now.moment c.args.place
          c.args.handle c.args.kind.now c.requires.ranges.2 way c.in_ok-path.path.items passed e
          (ap (λ p. done_unless (graft_checks c.args.handle c.args.kind.now p root) tt) same ∙ sym c.can_graft.ensures ∙ c.in_err-can_graft.was)));
    }

pub returns-in_default : goal.returns-in_default
returns-in_default c =
    let root = root_of c.args.self.now in
    let d : Device = device_of c.args.self.now in
    let way = unwrap_or (place_path c.args.place (shape root)) [] in
    let passed = sym c.way_in.ensures ∙ ap (result_map_both (λ p. p.items) (λ e. e)) c.in_ok-path.was in
    let same = (done_is (place_checks c.args.place (shape root)) way c.in_ok-path.path.items passed).1 ∙ sym c.deref.ensures.0 in
    let planned =
    graft-planned root (bounded-by c.args.self.now) (numbered-by c.args.self.now c.requires.lawful) d c.args.self.now.moment c.args.place
    c.args.handle c.args.kind.now c.requires.ranges.2 way c.in_ok-path.path.items passed
    (ap (λ p. done_unless (graft_checks c.args.handle c.args.kind.now p root) tt) same ∙ sym c.can_graft.ensures ∙ c.in_ok-can_graft.was) in
    record { plan = subst (λ q. IsRefused (NeedsMemory c.args.kind.now) q Memory) (sym planned) (refl, c.in_default.ensures.memory) }

pub returns : goal.returns
returns c =
    let root = root_of c.args.self.now in
    let d : Device = device_of c.args.self.now in
    let k = c.args.kind.now in
    let way = unwrap_or (place_path c.args.place (shape root)) [] in
    let passed = sym c.way_in.ensures ∙ ap (result_map_both (λ p. p.items) (λ e. e)) c.in_ok-path.was in
    let way_is = (done_is (place_checks c.args.place (shape root)) way c.in_ok-path.path.items passed).1 in
    let planned =
    graft-planned root (bounded-by c.args.self.now) (numbered-by c.args.self.now c.requires.lawful) d c.args.self.now.moment c.args.place
    c.args.handle k c.requires.ranges.2 way c.in_ok-path.path.items passed
    (ap (λ p. done_unless (graft_checks c.args.handle k p root) tt) (way_is ∙ sym c.deref.ensures.0) ∙ sym c.can_graft.ensures ∙ c.in_ok-can_graft.was) in
    let h = unwrap_or c.args.handle (free_handle (shape root)) in
    let handle_is : c.handle_or_free-handle.result ≡ h = c.handle_or_free-handle.ensures ∙ ap (unwrap_or c.args.handle) (sym (free-shape root)) in
    let new : IsNewNode c.in-Ok.node (new_qdisc d c.args.self.now.moment c.args.handle k (shape root)) =
    subst (λ m. IsNewNode c.in-Ok.node (made d c.args.self.now.moment (Some m) k)) handle_is c.in-Ok.ensures.new in
    let small : d.mtu < 2 ^ 16 = c.args.self.now.small in
    record {
      plan =
          graft-planned-for (NeedsMemory k) d root (record { path = c.in_ok-path.path; edit = Graft c.in-Ok.node }) c.in-Ok.node
          (new_qdisc d c.args.self.now.moment c.args.handle k (shape root)) new d.mtu c.args.self.now.moment (Some h)
          (new_made d c.args.self.now.moment (Some h) k c.args.self.now.positive small c.requires.ranges.2) (QdiscAdd c.args.place c.args.handle k) c.requires.ranges c.args.self.now.moment
          (planned ∙ ap (λ p. Ok (model.Graft p (new_qdisc d c.args.self.now.moment c.args.handle k (shape root)))) way_is)
          (subst (λ p. is_some (node_at p root) ≡ true) way_is
          (there root (bounded-by c.args.self.now) (numbered-by c.args.self.now c.requires.lawful) d c.args.self.now.moment c.args.place
          c.args.handle k c.requires.ranges.2))
          (made-takes k d c.args.self.now.moment (Some c.handle_or_free-handle.result) c.in-Ok.node c.in-Ok.ensures.new);
    }
