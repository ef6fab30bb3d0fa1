-- A session whose nodes keep totals writes what one whose nodes keep histories writes.
use Rattle.std.proofs.Common.{◌≡◌, ℕ, zero, suc, ◌∙◌, Bool, true, false, List, [], ◌∷◌, ◌++◌, refl, sym, ap, ap₂, subst, Result, Ok, Err}
use Rattle.q_packet.specs.Descriptor.{Descriptor}
use Rattle.q_codel.specs.declared.loss.Loss.{Loss}
use Rattle.q_model.specs.declared.command.Command.{Command}
use Rattle.q_model.specs.declared.refusal.Refusal.{Refusal}
use Rattle.q_model.specs.Tally.{Note, Counts, counts_in, history, totals}
use Rattle.q_model.specs.Node.{Shape, shape}
use Rattle.q_model.specs.Edit.{Edit, lost_by}
use Rattle.q_model.specs.TreeState.{TreeState, plan, given, take_packet}
use Rattle.q_model.specs.Ask.{ask}
use Rattle.q_model.specs.Beneath.{is_empty, row_of}
use Rattle.q_model.proofs.ShrinkLemmas.{totals_for_history, shape-with_memory}
use Rattle.q_model.proofs.ShrinkSteps.{new_tree-stands, take-stands, with_edit-stands}
use Rattle.q_model.specs.declared.event.Event.TheVariants as event
use Rattle.q_model.specs.Settings.{DeviceSettings}
use Rattle.q_model.specs.Step.{DeviceState, Step, losses_in, polled_of, arrive, poll, done, counts_at}
use Rattle.q_model.specs.ShrinkDevice.{shrunk, IsShrunkStep}
use Rattle.q_device.proofs.ShrinkLemmas.{step-shrunk}
use Rattle.q_line.specs.Grammar.{line_of}
use Rattle.q_line.specs.declared.arrival.Arrival.{Arrival}
use Rattle.q_line.specs.declared.line.Line.{Line}
use Rattle.q_line.specs.declared.line.Line.TheVariants as line
use Rattle.q_words.specs.declared.line_fault.LineFault.{LineFault}
use Rattle.q_script.specs.Script.{lines_of, is_starved}
use Rattle.q_script_semantics.specs.Text.{poll_line, device_line}
use Rattle.q_script_semantics.specs.Report.{SessionState, new_session, after, numbered_packet, framed, arrival, polls, planned, commanded, answered, effect, replayed}
use Rattle.q_script_semantics.specs.Laws.{shrunk_session, IsShrunkEffect, TotalsAreEnough}
use Rattle.q_script_semantics.proofs.ShownLemmas.{beneath-shrunk, show_text-shrunk}

-- the shrunk root has the same shape
same_shape : (d : DeviceState (List Note)) → shape (shrunk d).tree.root ≡ shape d.tree.root
same_shape d = shape-with_memory counts_in d.tree.root

-- an event that happens to a session
after-shrunk : (a : Step (List Note)) (b : Step Counts) → IsShrunkStep a b → (s : SessionState (List Note)) → shrunk_session (after a s) ≡ after b (shrunk_session s)
after-shrunk a b h s =
    ap₂ (λ (d : DeviceState Counts) (losses : List Loss). record { device = d; waiting = s.waiting ++ losses; moment = s.moment; packets = s.packets; not_done = s.not_done }) h.device h.losses

done-shrunk : (edit : Edit) (now : ℕ) (d : DeviceState (List Note)) → IsShrunkStep (done history edit now d) (done totals edit now (shrunk d))
done-shrunk edit now d = record {
  device = ap (λ (t : TreeState Counts). record { clock = now; tree = t }) (with_edit-stands history totals counts_in totals_for_history edit d.tree);
  reply = refl;
  losses = sym (ap (λ (r : Shape). losses_in (lost_by edit r)) (same_shape d));
}

arrival-shrunk : (seed : ℕ) (starved : Bool) (k : ℕ) (a : Arrival) (s : SessionState (List Note))
    → IsShrunkEffect (arrival history seed starved k a s) (arrival totals seed starved k a (shrunk_session s))
arrival-shrunk seed true k a s = record { text = refl; session = refl }
arrival-shrunk seed false k a s =
    let p = numbered_packet seed (suc s.packets) a in
    let now = counts_at s.moment s.device in
    record {
      text = refl;
      session = after-shrunk (arrive history p now s.device) (arrive totals p now (shrunk s.device)) (step-shrunk s.device (event.Arrive p s.moment)) (record s { packets = suc s.packets });
    }

-- what a poll's line says
poll_line-shrunk : (now : ℕ) (d : DeviceState (List Note))
    → poll_line (polled_of (given now d.tree) (is_empty (shape (poll history now d).device.tree.root)))
    ≡ poll_line (polled_of (given now (shrunk d).tree) (is_empty (shape (poll totals now (shrunk d)).device.tree.root)))
poll_line-shrunk now d =
    sym (ap (λ (r : Shape). poll_line (polled_of (ask now r).shown (is_empty (shape (take_packet history now d.tree).root)))) (same_shape d))
    ∙ ap (λ (r : Shape). poll_line (polled_of (given now (shrunk d).tree) (is_empty r)))
    (sym (shape-with_memory counts_in (take_packet history now d.tree).root) ∙ ap (λ (t : TreeState Counts). shape t.root) (take-stands history totals counts_in totals_for_history now d.tree))

polls-shrunk : (n : ℕ) (s : SessionState (List Note)) → IsShrunkEffect (polls history n s) (polls totals n (shrunk_session s))
polls-shrunk zero s = record { text = refl; session = refl }
polls-shrunk (suc n) s =
    let now = counts_at s.moment s.device in
    let first = poll history now s.device in
    let second = poll totals now (shrunk s.device) in
    let rest =
    subst (λ (r : SessionState Counts). IsShrunkEffect (polls history n (after first s)) (polls totals n r))
    (after-shrunk first second (step-shrunk s.device (event.Poll s.moment)) s) (polls-shrunk n (after first s)) in
    record { text = ap₂ (λ (a b : List ℕ). a ++ b) (poll_line-shrunk now s.device) rest.text; session = rest.session }

planned-shrunk : (starved : Bool) (k : ℕ) (answer : Result Edit Refusal) (s : SessionState (List Note))
    → IsShrunkEffect (planned history starved k answer s) (planned totals starved k answer (shrunk_session s))
planned-shrunk starved k (Err refusal) s = record { text = refl; session = refl }
planned-shrunk true k (Ok edit) s = record { text = refl; session = refl }
planned-shrunk false k (Ok edit) s =
    let now = counts_at s.moment s.device in
    record { text = refl; session = after-shrunk (done history edit now s.device) (done totals edit now (shrunk s.device)) (done-shrunk edit now s.device) s }

-- the plan of a command is the same
commanded-shrunk : (starved : Bool) (k : ℕ) (c : Command) (s : SessionState (List Note)) → IsShrunkEffect (commanded history starved k c s) (commanded totals starved k c (shrunk_session s))
commanded-shrunk starved k c s =
    let answer = λ (r : Shape). plan s.device.tree.device (counts_at s.moment s.device) c r in
    subst (λ (r : Shape). IsShrunkEffect (commanded history starved k c s) (planned totals starved k (answer r) (shrunk_session s))) (sym (same_shape s.device))
    (planned-shrunk starved k (answer (shape s.device.tree.root)) s)

answered-shrunk : (seed : ℕ) (starved : Bool) (k : ℕ) (l : Line) (s : SessionState (List Note))
    → IsShrunkEffect (answered history seed starved k l s) (answered totals seed starved k l (shrunk_session s))
answered-shrunk seed starved k line.Blank s = record { text = refl; session = refl }
answered-shrunk seed starved k (line.At moment) s = record { text = refl; session = refl }
answered-shrunk seed starved k (line.Pkt a) s = arrival-shrunk seed starved k a s
answered-shrunk seed starved k (line.Frame len head) s = arrival-shrunk seed starved k (framed len head) s
answered-shrunk seed starved k (line.Poll n) s = polls-shrunk n s
answered-shrunk seed starved k (line.Tc c) s = commanded-shrunk starved k c s
answered-shrunk seed starved k (line.Show what) s = record { text = show_text-shrunk what s.device; session = refl }
answered-shrunk seed starved k line.Reap s = record { text = refl; session = refl }
answered-shrunk seed starved k line.Totals s = record {
  text = ap (λ (waiting : List Descriptor). device_line (row_of (counts_in s.device.tree.top) waiting)) (beneath-shrunk s.device.tree.root);
  session = refl;
}

effect-shrunk : (seed : ℕ) (starved : Bool) (k : ℕ) (l : Result Line LineFault) (s : SessionState (List Note))
    → IsShrunkEffect (effect history seed starved k l s) (effect totals seed starved k l (shrunk_session s))
effect-shrunk seed starved k (Err fault) s = record { text = refl; session = refl }
effect-shrunk seed starved k (Ok l) s = answered-shrunk seed starved k l s

replayed-shrunk : (seed : ℕ) (starved : ℕ → Bool) (k : ℕ) (lines : List (List ℕ)) (s : SessionState (List Note))
    → IsShrunkEffect (replayed history seed starved k lines s) (replayed totals seed starved k lines (shrunk_session s))
replayed-shrunk seed starved k [] s = record { text = refl; session = refl }
replayed-shrunk seed starved k (l ∷ lines) s =
    let first = effect history seed (starved k) k (line_of l) s in
    let same = effect-shrunk seed (starved k) k (line_of l) s in
    let rest =
    subst (λ (r : SessionState Counts). IsShrunkEffect (replayed history seed starved (suc k) lines first.session)
    (replayed totals seed starved (suc k) lines r)) same.session (replayed-shrunk seed starved (suc k) lines first.session) in
    record { text = ap₂ (λ (a b : List ℕ). a ++ b) same.text rest.text; session = rest.session }

new_session-shrunk : (settings : DeviceSettings) → shrunk_session (new_session history settings) ≡ new_session totals settings
new_session-shrunk settings =
    ap (λ (t : TreeState Counts). record { device = record { clock = 0; tree = t }; waiting = []; moment = 0; packets = 0; not_done = 0 })
    (new_tree-stands history totals counts_in totals_for_history (record { mtu = settings.mtu; txqueuelen = settings.txqueuelen }))

pub replay-shrunk : TotalsAreEnough
replay-shrunk settings seed script starved =
    subst (λ (r : SessionState Counts). IsShrunkEffect
    (replayed history seed (is_starved starved) 1 (lines_of script) (new_session history settings))
    (replayed totals seed (is_starved starved) 1 (lines_of script) r)) (new_session-shrunk settings)
    (replayed-shrunk seed (is_starved starved) 1 (lines_of script) (new_session history settings))
