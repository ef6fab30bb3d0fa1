-- When the line below a tbf at the root has left: it is a part of the first bytes that the tbf pays.
use Rattle.std.proofs.Common.{◌≡◌, ℕ, ◌+◌, ◌-◌, ◌*◌, ◌<◌, ◌≤◌, inl, inr, sym, ap, subst, ◌∙◌, List, [], ◌∷◌, ◌++◌, drop, length, flat_map, Option, option_to_list, arith}
use Rattle.std.specs.Prelude.{false, All, unwrap_or, slice_get}
use Rattle.std.specs.Int.{div_ceil}
use Rattle.std.proofs.Math.Nat.{add-mul, mul_comm, mul-le-mul_left}
use Rattle.std.proofs.lemmas.Bool.{ne_eqb, cases_lt}
use Rattle.std.proofs.lemmas.Grind.{div_ceil_times}
use Rattle.std.proofs.lemmas.List.{append_assoc, length-append}
use Rattle.std.proofs.lemmas.List.Sums.{sum_by-cons}
use Rattle.std.proofs.lemmas.Option.{same_Some, slice_get-map}
use Rattle.q_packet.specs.Descriptor.{Descriptor}
use Rattle.q_bucket.specs.Level.{units_in_byte, level_at}
use Rattle.q_model.specs.declared.event.Event.{Event}
use Rattle.q_model.specs.Ask.{Asked, ask_own}
use Rattle.q_model.specs.Beneath.{beneath_own, beneath, is_empty, packets_in}
use Rattle.q_model.specs.Events.{IsEvent}
use Rattle.q_model.specs.Node.{Discipline, Fifo, Prio, Tbf, Drr, FqCodel, Own, Forest, none, more, Node, nodes_in, each, shape, from_below}
use Rattle.q_model.specs.Settings.{DeviceSettings, IsInRange}
use Rattle.q_model.specs.Step.{DeviceState, step}
use Rattle.q_model.specs.Stretches.{length_held, TbfAt, Throughout}
use Rattle.q_model.specs.Tally.{Note, history}
use Rattle.q_model.proofs.ShrinkLemmas.{each-each_memory}
use Rattle.q_invariants.proofs.Replays.{replay-kept}
use Rattle.q_invariants.proofs.tree.Forests.{each-nodes}
use Rattle.q_invariants.proofs.tree.Members.{All-front}
use Rattle.q_device.specs.Sharing.{device_after}
use Rattle.q_device.proofs.ClassStretches.{at-start}
use Rattle.q_laws.specs.line.Line.{line_in, line_own, line, line_below_root, bytes_in, KeepLine, IsLink, LinesLeaveInTime, LimitsAreDelays}
use Rattle.q_laws.specs.rate.Delay.{next_below, IsLeft, latest, level_counted, PaysInTime}
use Rattle.q_laws.specs.rate.Rate.{IsBackloggedLink}
use Rattle.q_laws.proofs.line.LineAsks.{AreLined, forest-lined}
use Rattle.q_laws.proofs.line.LineInTime.{Passes, line-passes}
use Rattle.q_laws.proofs.rate.LinkStretches.{first_length, next-is}
use Rattle.q_laws.proofs.rate.PaidInTime.{rate-some, bytes-are-paid}
use Rattle.q_laws.proofs.work.WorkTrees.{no-tbfs, tbfs-memory}

-- ---- the first packet of a line

-- where less was taken than was in line, the next packet of the line is there
record NextInLine (ls taken left : List Descriptor) : Type 0 where
  next : Descriptor
  others : List Descriptor
  is : left ≡ next ∷ others
  within : bytes_in taken + next.len ≤ bytes_in ls

next-in-line : (ls rest taken left : List Descriptor) → taken ++ left ≡ ls ++ rest → bytes_in taken < bytes_in ls → NextInLine ls taken left
next-in-line [] rest taken left e less = absurd (omega (arith, less))
next-in-line (l ∷ ls) rest [] left e less = record { next = l; others = ls ++ rest; is = e; within = omega (arith, sum_by-cons (λ (p : Descriptor). p.len) l ls) }
next-in-line (l ∷ ls) rest (t ∷ taken) left e less =
    let head : t ≡ l = same_Some t l (ap (λ xs. slice_get xs 0) e) in
    let len : t.len ≡ l.len = ap (λ (p : Descriptor). p.len) head in
    let first = sum_by-cons (λ (p : Descriptor). p.len) t taken in
    let whole = sum_by-cons (λ (p : Descriptor). p.len) l ls in
    let n = next-in-line ls rest taken left (ap (λ (xs : List Descriptor). drop 1 xs) e) (omega (arith, less, len, first, whole)) in
    record { next = n.next; others = n.others; is = n.is; within = let within = n.within in omega (arith, within, len, first, whole) }

head-shown : (lines : List (List Descriptor)) (below : List Asked) → AreLined lines below → (p : Descriptor) (others : List Descriptor)
    → unwrap_or (slice_get lines 0) [] ≡ p ∷ others → first_length below ≡ p.len
head-shown [] [] h p others e = let wrong : [] ≡ p ∷ others = e in cc
head-shown [] (a ∷ below) h p others e = absurd h
head-shown (ls ∷ lines) [] h p others e = absurd h
head-shown (ls ∷ lines) (a ∷ below) h p others e = ap length_held (h.1 p others e)

-- ---- a line is a part of what is queued

own-within : (own : Own) (lines packets : List (List Descriptor))
    → length (unwrap_or (slice_get lines 0) []) ≤ length (flat_map (λ (ps : List Descriptor). ps) packets)
    → length (line_own own lines) ≤ length (beneath_own own packets)
own-within own lines packets h =
    let all : List Descriptor = flat_map (λ (ps : List Descriptor). ps) packets in
    let here = by own.discipline in
    omega (
      arith,
      here,
      length-append (option_to_list own.held) (line_in own.discipline lines),
      length-append
          (option_to_list own.held ++ packets_in own.discipline) all,
      length-append (option_to_list own.held) (packets_in own.discipline),
    )
  where
    by : (d : Discipline) → length (line_in d lines) ≤ length (packets_in d) + length (flat_map (λ (ps : List Descriptor). ps) packets)
    by (Fifo limit queue) = omega arith
    by (Prio priomap) = omega (arith, h)
    by (Tbf b limit) = omega (arith, h)
    by (Drr s) = omega arith
    by (FqCodel s) = omega arith

first-within : {M : Type 0} (x : Forest M) → length (unwrap_or (slice_get (each line_own x) 0) []) ≤ length (flat_map (λ (ps : List Descriptor). ps) (each beneath_own x))
first-within none = omega arith
first-within (more own m below others) =
    let here = own-within own (each line_own below) (each beneath_own below) (first-within below) in
    let own_packets : List Descriptor = beneath_own own (each beneath_own below) in
    omega (arith, here, length-append own_packets (flat_map (λ (ps : List Descriptor). ps) (each beneath_own others)))

pub line-within : (n : Node (List Note)) → length (line n) ≤ length (beneath n)
line-within n = own-within n.own (each line_own n.below) (each beneath_own n.below) (first-within n.below)

-- ---- over a stretch

pub keep-front : (line_of : DeviceState (List Note) → List Descriptor) (d : DeviceState (List Note)) (seen later : List Event) → KeepLine line_of d (seen ++ later) → KeepLine line_of d seen
keep-front line_of d [] later h = tt
keep-front line_of d (e ∷ seen) later h = (h.0, keep-front line_of (step history d e).device seen later h.1)

module _ (link rate burst : ℕ) (d : DeviceState (List Note)) (h : IsLink link rate burst d) (p : Descriptor) (others : List Descriptor) (is : line_below_root d ≡ p ∷ others) where
  bare-line : unwrap_or (slice_get (each line_own (shape d.tree.root).below) 0) [] ≡ line_below_root d
  bare-line =
      ap (λ ls. unwrap_or (slice_get ls 0) []) (each-each_memory line_own (λ m. tt) d.tree.root.below ∙ each-nodes line_own d.tree.root.below)
      ∙ ap (λ (o : Option (List Descriptor)). unwrap_or o []) (slice_get-map (from_below line_own) (nodes_in d.tree.root.below) 0)

  shows-next : (t : ℕ) → next_below t d ≡ p.len
  shows-next t =
      sym (next-is t d.tree.root)
      ∙ head-shown (each line_own (shape d.tree.root).below) (each (ask_own t) (shape d.tree.root).below)
      (forest-lined t (shape d.tree.root).below (tbfs-memory (λ m. tt) d.tree.root.below (no-tbfs d.tree.root.below h.alone))) p others (bare-line ∙ is)

  queued : is_empty d.tree.root ≡ false
  queued =
      let n : Node (List Note) = d.tree.root in
      let first : unwrap_or (slice_get (each line_own n.below) 0) [] ≡ line_below_root d =
      ap (λ ls. unwrap_or (slice_get ls 0) []) (each-nodes line_own n.below) ∙ ap (λ (o : Option (List Descriptor)). unwrap_or o []) (slice_get-map (from_below line_own) (nodes_in n.below) 0) in
      let some : length (unwrap_or (slice_get (each line_own n.below) 0) []) ≡ length (p ∷ others) = ap length (first ∙ is) in
      let all : List Descriptor = flat_map (λ (ps : List Descriptor). ps) (each beneath_own n.below) in
      let whole : length (beneath n) ≡ length (option_to_list n.own.held ++ packets_in n.own.discipline) + length all = length-append (option_to_list n.own.held ++ packets_in n.own.discipline) all in
      let within = first-within n.below in
      ne_eqb (length (beneath n)) 0 (λ e. absurd (omega (arith, e, whole, within, some)))

  backlogged : IsBackloggedLink link rate burst d
  backlogged = record { tbf = h.tbf; root = h.root; alone = h.alone; queued = queued }

pub lines-leave-in-time : (settings : DeviceSettings) → IsInRange settings → LinesLeaveInTime settings
lines-leave-in-time settings range before during e link rate burst late first all_before all_during happens room stays waits keep drained is =
    bytes-are-paid settings range before during e link rate burst late (bytes_in (line_below_root start)) first all_before all_during happens room
    (λ seen later es. let n = next seen later es in backlogged link rate burst (device_after settings (before ++ seen)) (stays seen later es) n.next n.others n.is)
    left drained is
  where
    start : DeviceState (List Note)
    start = device_after settings before

    passes : (seen later : List Event) → seen ++ later ≡ during → Passes link rate burst (device_after settings before) (device_after settings (before ++ seen))
    passes seen later es =
        line-passes link rate burst settings before seen range all_before (All-front IsEvent seen later (subst (All IsEvent) (sym es) all_during))
        (λ xs ys split. stays xs (ys ++ later) (sym (append_assoc xs ys later) ∙ ap (λ zs. zs ++ later) split ∙ es))
        (keep-front line_below_root (device_after settings before) seen later (subst (KeepLine line_below_root (device_after settings before)) (sym es) keep))

    next : (seen later : List Event) (es : seen ++ later ≡ during)
        → NextInLine (line_below_root (device_after settings before)) (passes seen later es).taken
        (line_below_root (device_after settings (before ++ seen)))
    next seen later es =
        let p = passes seen later es in
        let less = waits seen later es in
        next-in-line (line_below_root (device_after settings before)) p.begins.0 p.taken (line_below_root (device_after settings (before ++ seen)))
        p.begins.1 (let paid = p.paid in omega (arith, less, paid))

    left : Throughout (IsLeft link (bytes_in (line_below_root (device_after settings before))) (device_after settings before)) settings before during
    left seen later es t order low =
        let d : DeviceState (List Note) = device_after settings (before ++ seen) in
        let p = passes seen later es in
        let n = next seen later es in
        let within = n.within in
        let paid = p.paid in
        let shown = shows-next link rate burst d (stays seen later es) n.next n.others n.is t in
        omega (arith, within, paid, shown)

-- ---- within a limit

pub ceil-under : (x q r : ℕ) → 1 ≤ r → x ≤ r * q → div_ceil x r ≤ q
ceil-under x q r some less = elim (cases_lt q (div_ceil x r)) [
  | inl over ↦
      let first = (div_ceil_times x r (omega (arith, some))).1 in
      let most : r * (q + 1) ≤ r * div_ceil x r = mul-le-mul_left r (omega (arith, over)) in
      let parts : (q + 1) * r ≡ q * r + 1 * r = add-mul q 1 r in
      absurd (omega (arith, first, most, parts, less, mul_comm r q, mul_comm r (q + 1), mul_comm r (div_ceil x r)))
  | inr past ↦ omega (arith, past)
]

pub ceil-rises : (x y r : ℕ) → 1 ≤ r → x ≤ y → div_ceil x r ≤ div_ceil y r
ceil-rises x y r some less =
    let last = (div_ceil_times y r (omega (arith, some))).0 in
    ceil-under x (div_ceil y r) r some (omega (arith, last, less, mul_comm r (div_ceil y r)))

pub later-still : (at by late : ℕ) (d next : DeviceState (List Note)) → at ≤ by → PaysInTime at late d next → PaysInTime by late d next
later-still at by late d next after h = record { in_time = let soon = h.in_time in omega (arith, soon, after); polled_out = λ out. let soon = h.polled_out out in omega (arith, soon, after) }

pub limits-are-delays : (settings : DeviceSettings) → IsInRange settings → LimitsAreDelays settings
limits-are-delays settings range before during e link rate burst late limit all_before all_during happens room stays waits keep drained within =
    let start : DeviceState (List Note) = device_after settings before in
    let h = at-start (IsLink link rate burst) settings before during stays in
    let first : TbfAt = h.tbf.tbf in
    let level : ℕ = level_counted late rate burst (level_at first.bucket start.clock) in
    let bytes : ℕ = bytes_in (line_below_root start) in
    let some : 1 ≤ rate = subst (λ n. 1 ≤ n) h.tbf.same_rate (rate-some link start first (replay-kept settings before range all_before) h.tbf.there) in
    let rises = ceil-rises (bytes * units_in_byte - level) (limit * units_in_byte) rate some (omega (arith, within)) in
    later-still (latest start.clock rate level bytes) (start.clock + div_ceil (limit * units_in_byte) rate) late
    (device_after settings (before ++ during)) (step history (device_after settings (before ++ during)) e).device
    (omega (arith, rises)) (lines-leave-in-time settings range before during e link rate burst late first all_before all_during happens room stays waits keep drained h.tbf.there)
