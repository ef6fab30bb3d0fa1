use Rattle.std.proofs.Common.{◌≡◌, ◌<◌, ◌+◌, ◌∙◌, Bool, false, ℕ, suc, true, drop, map, length, Some, sym, ap, arith}
use Rattle.std.specs.Prelude.{slice_get}
use Rattle.std.proofs.lemmas.Grind.{common_steps}
use Rattle.std.proofs.lemmas.List.{length-map}
use Rattle.q_drr.specs.States.{class_in, entry_in, name_in, names_in}
use Rattle.q_drr.specs.Waiting.{left_along}
use Rattle.q_drr.proofs.AheadSteps.{among-at, drop-whole, left_of, no-first, nothing-left, placed-at, shown-ahead, step-before, step-behind, step-own}
use Rattle.q_drr.proofs.ScheduleLemmas.{there_of}
use Rattle.q_drr.proofs.SoundLemmas.{stands_at, state_at}
use Rattle.q_drr.proofs.active.Active.deficits_ahead.Goals.{In-loop-passed, then-is_behind, else-is_behind+then-place-own, else-is_behind+else-place-own}
use Rattle.q_drr.proofs.active.Active.deficits_ahead.Goals as goal

pub find-own-requires : goal.find-own-requires
find-own-requires c = there_of _ _ _ _ _ c.args.class c.self.view_is c.requires

pub returns-in_default-clause-value : goal.returns-in_default-clause-value
returns-in_default-clause-value c =
    let s = c.self.inside in
    let none = no-first s.ring.order (sym c.front.ensures ∙ c.in_default.is) in
    ap (λ ns. left_along c.args.class (map class_in s.table) (map (entry_in s.table) (names_in s.table ns))) (sym none)
    ∙ shown-ahead s.max_len s.turns s.table s.ring c.self.invariant c.args.class c.args.self.now c.self.view_is

at : (c : In-loop-passed) → slice_get c.self.inside.ring.order c.loop-passed._passed ≡ Some c.loop-passed.place
at c = let less = c.loop-passed-test.true in let size = c.len-passed-end.ensures.value in c.loop-passed.invariant.0 (omega (arith, less, size))

within : (c : In-loop-passed) → c.loop-passed.place < length c.self.inside.table
within c = placed-at c.self.inside.ring.order (length c.self.inside.table) c.loop-passed._passed c.loop-passed.place c.self.invariant.placed (at c)

pub get-state-requires : goal.get-state-requires
get-state-requires c = within c

pub after-place-requires : goal.after-place-requires
after-place-requires c =
    among-at c.self.inside.ring.order c.loop-passed._passed c.loop-passed.place (at (goal.at.after-place-requires c).In-loop-passed)

pub loop-passed-preserved : goal.loop-passed-preserved
loop-passed-preserved c =
    let s = c.self.inside in
    let p = (goal.at.loop-passed-preserved c).In-loop-passed in
    let k = c.loop-passed._passed in
    let place = c.loop-passed.place in
    let name = name_in s.table place in
    let active = map (entry_in s.table) (names_in s.table s.ring.order) in
    let next : c.loop-passed._passed + 1 ≡ suc c.loop-passed._passed = omega arith in
    let stands = stands_at s.max_len s.turns s.table s.ring c.self.invariant place (within p) in
    let read = state_at s.max_len s.turns s.table s.ring c.self.invariant place name _ stands c.get-state.ensures in
    let deficit = ap (λ z. z.deficit) read in
    let quantum = ap (λ z. z.quantum) read in
    let so_far = c.loop-passed.invariant.1 in
    let few = c.loop-passed.invariant.2 in
    let step = λ (t : Bool). ap (λ (n : ℕ). left_of t c.args.class (map class_in s.table) (drop n active)) next in (
      λ less. ap (λ n. slice_get s.ring.order n) next ∙ c.after-place.ensures.next k (at p) (omega (arith, less)),
      elim c.if-is_behind.branch [
        | then-is_behind w ↦
            let behind = w.is_behind-is ∙ w.if-is_behind.true in
            let now = ap (λ (t : Bool). left_of t c.args.class (map class_in s.table) (drop k active)) w.if-is_behind.true in
            let then_on = ap (λ (t : Bool). left_of t c.args.class (map class_in s.table) (drop (k + 1) active)) behind in
            let one = step-behind s.max_len s.turns s.table s.ring c.self.invariant c.args.class c.find-own.result c.find-own.ensures k place (at p) in
            let bytes = w.bytes-is in
            omega (arith, so_far, now, then_on, step true, one, bytes, w.from-bytes.ensures, w.saturating_sub.ensures, w.from.ensures, deficit, quantum)
        | else-is_behind+then-place-own w ↦
            let now = ap (λ (t : Bool). left_of t c.args.class (map class_in s.table) (drop k active)) w.if-is_behind.false in
            let then_on = ap (λ (t : Bool). left_of t c.args.class (map class_in s.table) (drop (k + 1) active)) w.is_behind-is in
            let one = step-own s.max_len s.turns s.table s.ring c.self.invariant c.args.class c.find-own.result c.find-own.ensures k place (at p)
            w.if-place-own.true in
            let bytes = w.bytes-is in
            omega (arith, so_far, now, then_on, step true, one, bytes)
        | else-is_behind+else-place-own w ↦
            let now = ap (λ (t : Bool). left_of t c.args.class (map class_in s.table) (drop k active)) w.if-is_behind.false in
            let then_on = ap (λ (t : Bool). left_of t c.args.class (map class_in s.table) (drop (k + 1) active)) (w.is_behind-is ∙ w.if-is_behind.false) in
            let one = step-before s.max_len s.turns s.table s.ring c.self.invariant c.args.class c.find-own.result c.find-own.ensures k place (at p)
            w.if-place-own.false (within p) in
            let bytes = w.bytes-is in
            omega (arith, so_far, now, then_on, step false, one, bytes, w.from-bytes-else-place-own.ensures, deficit)
      ],
      elim c.if-is_behind.branch [
        | then-is_behind w ↦ let bytes = w.bytes-is in omega (arith, few, bytes, w.from-bytes.ensures, w.saturating_sub.type_inv)
        | else-is_behind+then-place-own w ↦ let bytes = w.bytes-is in omega (arith, few, bytes)
        | else-is_behind+else-place-own w ↦ let bytes = w.bytes-is in let fits = c.get-state.type_inv in grind (arith, common_steps, few, bytes, fits, w.from-bytes-else-place-own.ensures)
      ],
    )

pub returns-clause-value : goal.returns-clause-value
returns-clause-value c =
    let s = c.self.inside in
    let active = map (entry_in s.table) (names_in s.table s.ring.order) in
    let so_far = c.loop-passed.invariant.1 in
    let over = c.loop-passed-test.false in
    let ended = c.loop-passed.auto._passed-end in
    let size = c.len-passed-end.ensures.value in
    let names = length-map s.ring.order (name_in s.table) in
    let all = length-map (names_in s.table s.ring.order) (entry_in s.table) in
    let none = drop-whole active c.loop-passed._passed (omega (arith, over, ended, size, names, all)) in
    let left = ap (left_of c.loop-passed.is_behind c.args.class (map class_in s.table)) none ∙ nothing-left c.loop-passed.is_behind c.args.class (map class_in s.table) in
    let same : c.loop-passed.bytes ≡ left_along c.args.class (map class_in s.table) active = omega (arith, so_far, left) in
    same ∙ shown-ahead s.max_len s.turns s.table s.ring c.self.invariant c.args.class c.args.self.now c.self.view_is
