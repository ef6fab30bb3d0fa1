-- A text on its way to the writer: what is written or buffered of it so far, and what is left.
use Rattle.std.proofs.Common.{◌≡◌, ◌∙◌, ℕ, List, [], ◌++◌, Option, Result, Ok, Err, IsErr, refl, sym, ap, subst, append_assoc, append-nil}
use Rattle.std.proofs.KnownBytes.{Appends-nil}
use Rattle.q_show.specs.Writes.{MayWrite}
use Rattle.q_show.specs.Written.{AppendsFront, HasPut, HasWrittenWhole, IsBuffered}
use Rattle.q_show.specs.declared.target.Target.{Target}
use Rattle.q_show.specs.declared.write_fault.WriteFault.{WriteFault}
use Rattle.q_script.proofs.WrittenLemmas.{buffered-all, buffered-trans, buffered-more, front-of, front-longer}

pub record Writing {W : Type 0} (contents : W → Option (List ℕ)) (old new : Target W) (before buffered whole left : List ℕ) : Type 0 where
  pub same_writer : new.writer.ghost_name ≡ old.writer.ghost_name
  pub produced : List ℕ
  pub rest : whole ≡ produced ++ left
  pub written : IsBuffered (contents old.writer.now) (contents new.writer.now) buffered (before ++ produced)
  pub going : MayWrite new.writes

pub writing-start : {W : Type 0} {contents : W → Option (List ℕ)} {old : Target W} {before whole left : List ℕ} → MayWrite old.writes → whole ≡ left → Writing contents old old before before whole left
writing-start {contents = contents} {old = old} {before = before} going all = record {
  same_writer = refl;
  produced = [];
  rest = all;
  written = ([], Appends-nil (contents old.writer.now), append-nil before);
  going = going;
}

module _ {W : Type 0} {contents : W → Option (List ℕ)} {old a b : Target W} {before buffered whole left : List ℕ} (w : Writing contents old a before buffered whole left) where
  -- a part of it was put
  pub writing-part : {out : List ℕ} (text rest : List ℕ) → HasPut contents a b out (buffered ++ text) (Ok tt) → left ≡ text ++ rest → Writing contents old b before out whole rest
  writing-part {out = out} text rest put cut =
      let held = contents old.writer.now in
      let more = buffered-more held (contents a.writer.now) buffered (before ++ w.produced) text w.written in
      record {
        same_writer = put.same_writer ∙ w.same_writer;
        produced = w.produced ++ text;
        rest = w.rest ∙ ap (λ l. w.produced ++ l) cut ∙ sym (append_assoc w.produced text rest);
        written =
            subst (IsBuffered held (contents b.writer.now) out) (append_assoc before w.produced text)
            (buffered-trans held (contents a.writer.now) (contents b.writer.now) out (buffered ++ text) ((before ++ w.produced) ++ text) more put.ok);
        going = put.going;
      }

  -- a bit more of it, for which room was made
  pub writing-next : {roomy out : List ℕ} (text rest : List ℕ) → HasPut contents a b roomy buffered (Ok tt) → left ≡ text ++ rest → out ≡ roomy ++ text → Writing contents old b before out whole rest
  writing-next {roomy = roomy} text rest room cut put =
      writing-part text rest (record { same_writer = room.same_writer; ok = rw put (buffered-more _ _ roomy buffered text room.ok); err = tt; going = room.going; failed = tt }) cut

  -- a write failed within a part
  pub writing-part-fails : {out : List ℕ} (result : Result (Unit {0}) WriteFault) (text rest : List ℕ) → HasPut contents a b out (buffered ++ text) result → left ≡ text ++ rest
      → IsErr result → HasPut contents old b out (before ++ whole) result
  writing-part-fails (Ok _) text rest failed cut is = cc
  writing-part-fails (Err fault) text rest failed cut is =
      let held = contents old.writer.now in
      let holds = contents b.writer.now in
      let more = buffered-more held (contents a.writer.now) buffered (before ++ w.produced) text w.written in
      let front = front-of held (contents a.writer.now) holds (buffered ++ text) ((before ++ w.produced) ++ text) more failed.err in
      let all : ((before ++ w.produced) ++ text) ++ rest ≡ before ++ whole = rw (w.rest, cut) (simp append_assoc) in
      record {
        same_writer = failed.same_writer ∙ w.same_writer;
        ok = tt;
        err = subst (AppendsFront held holds) all (front-longer held holds ((before ++ w.produced) ++ text) rest front);
        going = tt;
        failed = failed.failed;
      }

  -- the write failed that was to make room
  pub writing-fails : {out : List ℕ} (result : Result (Unit {0}) WriteFault) → HasPut contents a b out buffered result → IsErr result → HasPut contents old b out (before ++ whole) result
  writing-fails result failed is = writing-part-fails result [] left (rw append-nil failed) refl is

pub writing-end : {W : Type 0} {contents : W → Option (List ℕ)} {old new : Target W} {before buffered whole left : List ℕ}
    → Writing contents old new before buffered whole left → left ≡ [] → HasPut contents old new buffered (before ++ whole) (Ok tt)
writing-end {contents = contents} {old = old} {new = new} {before = before} {buffered = buffered} w none = record {
  same_writer = w.same_writer;
  ok =
      subst (λ l. IsBuffered (contents old.writer.now) (contents new.writer.now) buffered (before ++ l))
      (sym (append-nil w.produced) ∙ ap (λ l. w.produced ++ l) (sym none) ∙ sym w.rest) w.written;
  err = tt;
  going = w.going;
  failed = tt;
}

-- what was put is written out
pub written-out : {W : Type 0} {contents : W → Option (List ℕ)} {old a b : Target W} {buffered text : List ℕ} (result : Result (Unit {0}) WriteFault)
    → HasPut contents old a buffered text (Ok tt) → HasWrittenWhole contents a b buffered result → HasWrittenWhole contents old b text result
written-out {buffered = buffered} {text = text} (Ok _) put out = record {
  same_writer = out.same_writer ∙ put.same_writer;
  ok = buffered-all _ _ _ buffered text put.ok out.ok;
  err = tt;
  going = out.going;
  failed = tt;
}
written-out {buffered = buffered} {text = text} (Err fault) put out = record {
  same_writer = out.same_writer ∙ put.same_writer;
  ok = tt;
  err = front-of _ _ _ buffered text put.ok out.err;
  going = tt;
  failed = out.failed;
}
