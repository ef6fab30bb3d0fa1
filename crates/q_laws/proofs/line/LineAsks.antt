-- What asking a node leaves of the line before it: all of it, but for a packet that is taken, which is the first of it.
use Rattle.std.proofs.Common.{◌≡◌, ℕ, zero, suc, ◌+◌, ◌∙◌, refl, sym, ap, ap₂, subst, List, [], ◌∷◌, ◌++◌, map, take, drop, Option, Some, None, option_to_list}
use Rattle.std.specs.Prelude.{Bool, true, false, not, cond, is_some, unwrap_or, slice_get, option_map, if◌then◌else◌}
use Rattle.std.specs.List.{position_or_len}
use Rattle.std.specs.Option.{option_map_or}
use Rattle.std.proofs.lemmas.List.{append-nil}
use Rattle.std.proofs.lemmas.Option.{none-some}
use Rattle.q_packet.specs.Descriptor.{Descriptor}
use Rattle.q_codel.specs.declared.limit.Limit.{Limit}
use Rattle.q_packet.specs.declared.stamped.Stamped.{Stamped}
use Rattle.q_bucket.specs.Level.{TokenBucket, allows, after_spend}
use Rattle.q_model.specs.declared.filter.Filter.{Filter}
use Rattle.q_model.specs.Ask.{Asked, befores, holding, waits, spends, ask_prio, ask_drr, ask_fq_codel, ask_discipline, ask_own, ask, since_shown}
use Rattle.q_model.specs.Beneath.{packets_of}
use Rattle.q_model.specs.Node.{Discipline, Fifo, Prio, Tbf, Drr, FqCodel, Own, Forest, none, more, Shape, each}
use Rattle.q_model.specs.Tally.{Note}
use Rattle.q_model.specs.Work.{Worked, worked}
use Rattle.q_invariants.proofs.ask.Asks.{before-is}
use Rattle.q_invariants.proofs.tree.Forests.{each-side}
use Rattle.q_tree.specs.answers.Ways.{is_tbf}
use Rattle.q_tree.proofs.ForeseenAsks.{first_of, or_else, prio-shown}
use Rattle.q_laws.specs.line.Line.{line_in, line_own, line, BeginsWith}
use Rattle.q_laws.proofs.work.WorkTrees.{NoTbfs}

pub begins-refl : (xs : List Descriptor) → BeginsWith xs xs
begins-refl xs = ([], sym (append-nil xs))

begins-nil : (xs ys : List Descriptor) → xs ≡ [] → BeginsWith xs ys
begins-nil xs ys e = (ys, ap (λ zs. zs ++ ys) (sym e))

-- what asking leaves of a line
pub record IsLined (ls : List Descriptor) (a : Asked) : Type 0 where
  pub before : line a.before ≡ ls
  pub peeked : BeginsWith ls (line a.peeked)
  pub taken : BeginsWith ls (option_to_list a.shown ++ line a.taken)

-- the first packet of the line is shown
abbrev pub Shows : List Descriptor → Asked → Type 0
Shows ls a = (p : Descriptor) (rest : List Descriptor) → ls ≡ p ∷ rest → a.shown ≡ Some p

abbrev pub AreLined : List (List Descriptor) → List Asked → Type 0
AreLined [] [] = Unit {0}
AreLined [] (a ∷ below) = ⊥
AreLined (ls ∷ lines) [] = ⊥
AreLined (ls ∷ lines) (a ∷ below) = IsLined ls a × Shows ls a × AreLined lines below

pub line-worked : (own : Own) (notes : List Note) (ws : List Worked) → line (worked own notes ws) ≡ line_own own (map line ws)
line-worked own notes ws = ap (line_own own) (each-side line_own ws)

lines-befores : (lines : List (List Descriptor)) (below : List Asked) → AreLined lines below → map line (befores below) ≡ lines
lines-befores [] [] h = refl
lines-befores [] (a ∷ below) h = absurd h
lines-befores (ls ∷ lines) [] h = absurd h
lines-befores (ls ∷ lines) (a ∷ below) h = ap₂ (λ (x : List Descriptor) (xs : List (List Descriptor)). x ∷ xs) h.0.before (lines-befores lines below h.2)

-- the first child of what is left
first-line : (ws : List Worked) (w : Worked) → slice_get ws 0 ≡ Some w → unwrap_or (slice_get (map line ws) 0) [] ≡ line w
first-line [] w e = absurd (none-some w e)
first-line (v ∷ ws) w e = ap (λ (o : Option Worked). unwrap_or (option_map line o) []) e

module _ (now : ℕ) (handle : Option ℕ) (filters : List Filter) (since : ℕ) where
  abbrev node : Discipline → Option Descriptor → Own
  node d held = record { handle = handle; discipline = d; held = held; since = since; filters = filters }

  before-lined : (own : Own) (lines : List (List Descriptor)) (below : List Asked) → AreLined lines below → line (worked own [] (befores below)) ≡ line_own own lines
  before-lined own lines below h = line-worked own [] (befores below) ∙ ap (line_own own) (lines-befores lines below h)

  -- a packet that is held
  held-lined : (p : Descriptor) (d : Discipline) (lines : List (List Descriptor)) (below : List Asked) → AreLined lines below
      → IsLined (line_own (node d (Some p)) lines) (holding (node d (Some p)) below p)
  held-lined p d lines below h =
      let own : Own = node d (Some p) in
      let free : Own = node d None in
      let ls : List Descriptor = line_own own lines in
      let same : line (worked own [] (befores below)) ≡ ls = before-lined own lines below h in
      record {
        before = same;
        peeked = subst (BeginsWith ls) (sym same) (begins-refl ls);
        taken =
            subst (λ (xs : List Descriptor). BeginsWith ls (p ∷ xs))
            (sym (line-worked free ((holding own below p).taken.memory) (befores below) ∙ ap (line_own free) (lines-befores lines below h)))
            (begins-refl ls);
      }

  -- a fifo
  queue-lined : (limit : Limit) (queue : List Stamped) → packets_of queue ≡ option_to_list (slice_get (packets_of queue) 0) ++ packets_of (drop 1 queue)
  queue-lined limit [] = refl
  queue-lined limit (s ∷ queue) = refl

  fifo-lined : (limit : Limit) (queue : List Stamped) (lines : List (List Descriptor)) (below : List Asked)
      → IsLined (packets_of queue) (ask_discipline now (node (Fifo limit queue) None) below (Fifo limit queue))
  fifo-lined limit queue lines below = record {
    before = refl;
    peeked = begins-refl (packets_of queue);
    taken = ([], sym (queue-lined limit queue) ∙ sym (append-nil (packets_of queue)));
  }

  fifo-shows : (limit : Limit) (queue : List Stamped) (below : List Asked) → Shows (packets_of queue) (ask_discipline now (node (Fifo limit queue) None) below (Fifo limit queue))
  fifo-shows limit queue below p rest e = ap (λ (xs : List Descriptor). slice_get xs 0) e

  -- a prio: the first band was asked in any case, and its packet is taken where it shows one
  module _ (priomap : List ℕ) where
    abbrev prio : Own
    prio = node (Prio priomap) None

    abbrev passed : ℕ → List Asked → List Worked
    passed k below = map (λ (a : Asked). a.peeked) (take k below)

    peeked-front : (k : ℕ) (a : Asked) (below : List Asked)
        → slice_get (passed k (a ∷ below) ++ map (λ (x : Asked). x.peeked) (drop k (take (suc k) (a ∷ below))) ++ befores (drop (suc k) (a ∷ below))) 0 ≡ Some a.peeked
    peeked-front zero a below = refl
    peeked-front (suc k) a below = refl

    prio-peeks : (ls : List Descriptor) (lines : List (List Descriptor)) (a : Asked) (below : List Asked) → IsLined ls a → BeginsWith ls (line (ask_prio prio (a ∷ below)).peeked)
    prio-peeks ls lines a below h =
        let k : ℕ = position_or_len (λ (x : Asked). is_some x.shown) (a ∷ below) in
        let ws : List Worked = passed k (a ∷ below) ++ map (λ (x : Asked). x.peeked) (drop k (take (suc k) (a ∷ below))) ++ befores (drop (suc k) (a ∷ below)) in
        subst (BeginsWith ls) (sym (line-worked prio (ask_prio prio (a ∷ below)).peeked.memory ws ∙ first-line ws a.peeked (peeked-front k a below))) h.peeked

    -- which band gives, by whether the first shows a packet
    abbrev gives_at : Bool → List Asked → ℕ
    gives_at t below = cond (not t) (1 + position_or_len (λ (x : Asked). is_some x.shown) below) 0

    abbrev taken_at : List Asked → ℕ → List Worked
    taken_at below k = passed k below ++ map (λ (x : Asked). x.taken) (drop k (take (suc k) below)) ++ befores (drop (suc k) below)

    prio-takes : (ls : List Descriptor) (a : Asked) (below : List Asked) → IsLined ls a → Shows ls a
        → BeginsWith ls (option_to_list (ask_prio prio (a ∷ below)).shown ++ line (ask_prio prio (a ∷ below)).taken)
    prio-takes ls a below h shows = by a.shown refl
      where
        line-taken : line (ask_prio prio (a ∷ below)).taken ≡ unwrap_or (slice_get (map line (taken_at (a ∷ below) (gives_at (is_some a.shown) below))) 0) []
        line-taken = line-worked prio (ask_prio prio (a ∷ below)).taken.memory (taken_at (a ∷ below) (gives_at (is_some a.shown) below))

        none-left : a.shown ≡ None → (xs : List Descriptor) → xs ≡ ls → xs ≡ []
        none-left e [] is = refl
        none-left e (p ∷ rest) is = absurd (none-some p (sym e ∙ shows p rest (sym is)))

        by : (o : Option Descriptor) → a.shown ≡ o → BeginsWith ls (option_to_list (ask_prio prio (a ∷ below)).shown ++ line (ask_prio prio (a ∷ below)).taken)
        by None e = begins-nil ls (option_to_list (ask_prio prio (a ∷ below)).shown ++ line (ask_prio prio (a ∷ below)).taken) (none-left e ls refl)
        by (Some p) e =
            let shown : (ask_prio prio (a ∷ below)).shown ≡ a.shown = prio-shown prio (a ∷ below) ∙ ap (λ (o : Option Descriptor). or_else o (first_of below)) e ∙ sym e in
            let line_is : line (ask_prio prio (a ∷ below)).taken ≡ line a.taken =
            line-taken ∙ ap (λ (o : Option Descriptor). unwrap_or (slice_get (map line (taken_at (a ∷ below) (gives_at (is_some o) below))) 0)
            []) e in
            subst (BeginsWith ls) (ap₂ (λ (o : Option Descriptor) (xs : List Descriptor). option_to_list o ++ xs) (sym shown) (sym line_is)) h.taken

    prio-lined : (lines : List (List Descriptor)) (below : List Asked) → AreLined lines below → IsLined (line_own prio lines) (ask_prio prio below)
    prio-lined [] [] h = record { before = refl; peeked = begins-refl []; taken = begins-refl [] }
    prio-lined [] (a ∷ below) h = absurd h
    prio-lined (ls ∷ lines) [] h = absurd h
    prio-lined (ls ∷ lines) (a ∷ below) h = record {
      before = before-lined prio (ls ∷ lines) (a ∷ below) h;
      peeked = prio-peeks ls lines a below h.0;
      taken = prio-takes ls a below h.0 h.1;
    }

    prio-shows : (lines : List (List Descriptor)) (below : List Asked) → AreLined lines below → Shows (line_own prio lines) (ask_prio prio below)
    prio-shows [] [] h p rest e = let wrong : [] ≡ p ∷ rest = e in cc
    prio-shows [] (a ∷ below) h p rest e = absurd h
    prio-shows (ls ∷ lines) [] h p rest e = absurd h
    prio-shows (ls ∷ lines) (a ∷ below) h p rest e = prio-shown prio (a ∷ below) ∙ ap (λ (o : Option Descriptor). or_else o (first_of below)) (h.1 p rest e)

  -- a qdisc that holds no packet and has no line of its own
  no-line : (d : Discipline) (lines : List (List Descriptor)) (below : List Asked) (a : Asked) → line_in d lines ≡ [] → AreLined lines below → a.before ≡ worked (node d None) [] (befores below)
      → IsLined (line_own (node d None) lines) a
  no-line d lines below a empty h was = record {
    before = ap line was ∙ before-lined (node d None) lines below h;
    peeked = begins-nil (line_in d lines) (line a.peeked) empty;
    taken = begins-nil (line_in d lines) (option_to_list a.shown ++ line a.taken) empty;
  }

  no-shows : (ls : List Descriptor) (a : Asked) → ls ≡ [] → Shows ls a
  no-shows ls a empty p rest e = let wrong : [] ≡ p ∷ rest = sym empty ∙ e in cc

  -- every qdisc but a tbf
  pub own-lined : (held : Option Descriptor) (d : Discipline) (lines : List (List Descriptor)) (below : List Asked) → is_tbf d ≡ false → AreLined lines below
      → IsLined (line_own (node d held) lines) (ask_own now (node d held) below) × Shows (line_own (node d held) lines) (ask_own now (node d held) below)
  own-lined (Some p) d lines below other h = (held-lined p d lines below h, λ q rest e. ap (λ (xs : List Descriptor). slice_get xs 0) e)
  own-lined None (Fifo limit queue) lines below other h = (fifo-lined limit queue lines below, fifo-shows limit queue below)
  own-lined None (Prio priomap) lines below other h = (prio-lined priomap lines below h, prio-shows priomap lines below h)
  own-lined None (Tbf b limit) lines below other h = let wrong : true ≡ false = other in cc
  own-lined None (Drr s) lines below other h = (
    no-line (Drr s) lines below (ask_drr (node (Drr s) None) below s) refl h (before-is now (node (Drr s) None) below),
    no-shows []
        (ask_drr (node (Drr s) None) below s) refl,
  )
  own-lined None (FqCodel s) lines below other h =
      (no-line (FqCodel s) lines below (ask_fq_codel now (node (FqCodel s) None) below s) refl h refl, no-shows [] (ask_fq_codel now (node (FqCodel s) None) below s) refl)

pub forest-lined : (now : ℕ) (x : Forest (Unit {0})) → NoTbfs x → AreLined (each line_own x) (each (ask_own now) x)
forest-lined now none h = tt
forest-lined now (more own m below others) h =
    let own_is = own-lined now own.handle own.filters own.since own.held own.discipline (each line_own below) (each (ask_own now) below) h.0 (forest-lined now below h.1) in
    (own_is.0, own_is.1, forest-lined now others h.2)

-- a whole tree, whatever is at its root
module _ (now : ℕ) (s : Shape) (other : NoTbfs s.below) where
  abbrev lines : List (List Descriptor)
  lines = each line_own s.below

  abbrev below : List Asked
  below = each (ask_own now) s.below

  -- what a tbf takes from its child
  module _ (handle : Option ℕ) (filters : List Filter) (since : ℕ) (b : TokenBucket) (limit : ℕ) where
    abbrev tbf : Own
    tbf = record { handle = handle; discipline = Tbf b limit; held = None; since = since; filters = filters }

    waits-lined : (ls : List Descriptor) (ks : List (List Descriptor)) (a : Asked) (cs : List Asked) → IsLined ls a → BeginsWith ls (line (waits tbf (a ∷ cs) a).peeked)
    waits-lined ls ks a cs h = subst (BeginsWith ls) (sym (line-worked tbf (waits tbf (a ∷ cs) a).peeked.memory (a.peeked ∷ []))) h.peeked

    tbf-peeks : (ls : List Descriptor) (a : Asked) (cs : List Asked) → IsLined ls a → (o : Option Descriptor) → a.shown ≡ o
        → (let t : Asked = option_map_or (λ (p : Descriptor). if allows b now p.len then spends tbf (a ∷ cs) b limit now a p else waits tbf (a ∷ cs) a) o (waits tbf (a ∷ cs) a) in
        BeginsWith ls (line t.peeked) × BeginsWith ls (option_to_list t.shown ++ line t.taken))
    tbf-peeks ls a cs h None e = (waits-lined ls [] a cs h, subst (BeginsWith ls) (sym (line-worked tbf (waits tbf (a ∷ cs) a).taken.memory (a.peeked ∷ []))) h.peeked)
    tbf-peeks ls a cs h (Some p) e = by (allows b now p.len)
      where
        given : BeginsWith ls (p ∷ line a.taken)
        given = subst (λ (o : Option Descriptor). BeginsWith ls (option_to_list o ++ line a.taken)) e h.taken

        by : (may : Bool) → (let t : Asked = if may then spends tbf (a ∷ cs) b limit now a p else waits tbf (a ∷ cs) a in
            BeginsWith ls (line t.peeked) × BeginsWith ls (option_to_list t.shown ++ line t.taken))
        by false = (waits-lined ls [] a cs h, subst (BeginsWith ls) (sym (line-worked tbf (waits tbf (a ∷ cs) a).taken.memory (a.peeked ∷ []))) h.peeked)
        by true =
            let after : Own = record tbf { discipline = Tbf (after_spend b now p.len) limit } in (
              subst (BeginsWith ls) (sym (line-worked (record after { held = Some p; since = since_shown a }) (spends tbf (a ∷ cs) b limit now a p).peeked.memory (a.taken ∷ []))) given,
              subst (λ (xs : List Descriptor). BeginsWith ls (p ∷ xs)) (sym (line-worked after (spends tbf (a ∷ cs) b limit now a p).taken.memory (a.taken ∷ []))) given,
            )

    tbf-lined : (ks : List (List Descriptor)) (cs : List Asked) → AreLined ks cs → IsLined (line_own tbf ks) (ask_own now tbf cs)
    tbf-lined [] [] h = record { before = refl; peeked = begins-refl []; taken = begins-refl [] }
    tbf-lined [] (a ∷ cs) h = absurd h
    tbf-lined (ls ∷ ks) [] h = absurd h
    tbf-lined (ls ∷ ks) (a ∷ cs) h =
        let left = tbf-peeks ls a cs h.0 a.shown refl in
        record { before = ap line (before-is now tbf (a ∷ cs)) ∙ before-lined now handle filters since tbf (ls ∷ ks) (a ∷ cs) h; peeked = left.0; taken = left.1 }

  pub root-lined : IsLined (line s) (ask now s)
  root-lined = by s.own.held s.own.discipline
    where
      by : (held : Option Descriptor) (d : Discipline) → (let own : Own = record s.own { discipline = d; held = held } in IsLined (line_own own lines) (ask_own now own below))
      by held (Fifo limit queue) = (own-lined now s.own.handle s.own.filters s.own.since held (Fifo limit queue) lines below refl (forest-lined now s.below other)).0
      by held (Prio priomap) = (own-lined now s.own.handle s.own.filters s.own.since held (Prio priomap) lines below refl (forest-lined now s.below other)).0
      by held (Drr t) = (own-lined now s.own.handle s.own.filters s.own.since held (Drr t) lines below refl (forest-lined now s.below other)).0
      by held (FqCodel t) = (own-lined now s.own.handle s.own.filters s.own.since held (FqCodel t) lines below refl (forest-lined now s.below other)).0
      by (Some p) (Tbf b limit) = held-lined now s.own.handle s.own.filters s.own.since p (Tbf b limit) lines below (forest-lined now s.below other)
      by None (Tbf b limit) = tbf-lined s.own.handle s.own.filters s.own.since b limit lines below (forest-lined now s.below other)
