-- A tbf: it takes the packet that its child shows where the bucket allows it, and else shows nothing.
use Rattle.std.proofs.Common.{◌≡◌, ℕ, ◌+◌, ◌*◌, ◌-◌, ◌≤◌, List, [], ◌∷◌, map, length, refl, sym, ap, subst, Option, Some, None, option_to_list, arith}
use Rattle.std.specs.Prelude.{Bool, true, false, All, if◌then◌else◌}
use Rattle.std.specs.Option.{option_map_or}
use Rattle.std.proofs.lemmas.List.Elements.{All-nil, All-cons, All-head}
use Rattle.q_packet.specs.Descriptor.{Descriptor}
use Rattle.q_bucket.specs.Level.{TokenBucket, IsInRange, units_in_byte, level_at, allows, after_spend}
use Rattle.q_model.specs.declared.filter.Filter.{Filter}
use Rattle.q_model.specs.Tally.{Spent}
use Rattle.q_model.specs.Node.{Tbf, Own}
use Rattle.q_model.specs.Beneath.{beneath}
use Rattle.q_model.specs.Lawful.{IsLawfulOwn}
use Rattle.q_model.specs.Work.{Worked}
use Rattle.q_model.specs.Ask.{Asked, befores, spends, waits, ask_tbf, since_shown}
use Rattle.q_invariants.specs.Weights.{weigh}
use Rattle.q_invariants.proofs.ask.Answer.{one, IsAnswer, AreAnswers, IsSilent, silent-nil, waiting, is-dequeued}
use Rattle.q_invariants.proofs.sums.Lengths.{IsShort, lengths-among, short-among}
use Rattle.q_invariants.proofs.sums.Sums.{weigh-waiting, weigh-holds, befores-lawful, befores-told}
use Rattle.q_invariants.proofs.sums.Weights.{weigh-nil, weigh-one, arrived-nil, sent-nil, lost-nil, dropped-nil, marked-nil, arrived-cons, sent-cons, lost-cons, dropped-cons, marked-cons}

-- what a spend leaves, whether it may go or not
abbrev spent : Bool → TokenBucket → ℕ → ℕ → TokenBucket
spent may b now len = if may then record b { level = level_at b now - len * units_in_byte; last = now } else b

spent-in_range : (may : Bool) (b : TokenBucket) (now len : ℕ) → IsInRange b → IsInRange (spent may b now len)
spent-in_range true b now len h = record {
  rate_from = h.rate_from;
  rate_to = h.rate_to;
  burst_from = h.burst_from;
  burst_to = h.burst_to;
  within_burst = omega arith;
}
spent-in_range false b now len h = h

spent-last : (may : Bool) (b : TokenBucket) (now len : ℕ) → b.last ≤ now → (spent may b now len).last ≤ now
spent-last true b now len h = omega arith
spent-last false b now len h = h

spent-burst : (may : Bool) (b : TokenBucket) (now len : ℕ) → (spent may b now len).burst ≡ b.burst
spent-burst true b now len = refl
spent-burst false b now len = refl

pub spent-note : (bytes : ℕ) → IsSilent (Spent bytes ∷ [])
spent-note bytes = record {
  no_arrival = λ w. omega (arith, arrived-cons w (Spent bytes) [], arrived-nil w);
  nothing_sent = λ w. omega (arith, sent-cons w (Spent bytes) [], sent-nil w);
  nothing_lost = λ w. omega (arith, lost-cons w (Spent bytes) [], lost-nil w);
  nothing_dropped = λ w. omega (arith, dropped-cons w (Spent bytes) [], dropped-nil w);
  nothing_marked = λ w. omega (arith, marked-cons w (Spent bytes) [], marked-nil w);
}

module _ (mtu now : ℕ) (handle : Option ℕ) (filters : List Filter) (since : ℕ) (limit : ℕ) where
  abbrev tbf : TokenBucket → Option Descriptor → ℕ → Own
  tbf b held at = record { handle = handle; discipline = Tbf b limit; held = held; since = at; filters = filters }

  -- another bucket of the same burst, another child with no more than the old one had, and a packet held
  tbf-lawful : (b c : TokenBucket) (held : Option Descriptor) (at : ℕ) (before after : Worked) → IsInRange c → c.last ≤ now → c.burst ≡ b.burst
      → ((w : Descriptor → ℕ) → weigh w (option_to_list held) + weigh w (beneath after) ≤ weigh w (beneath before))
      → IsLawfulOwn mtu now (tbf b None since) (map beneath (before ∷ [])) → IsLawfulOwn mtu now (tbf c held at) (map beneath (after ∷ []))
  tbf-lawful b c held at before after range last burst fewer h = record {
    discipline = record {
      level = range;
      last = last;
      one = refl;
      short = All-cons (λ packets. All (IsShort c.burst) packets) (beneath after) []
          (subst (λ n. All (IsShort n) (beneath after)) (sym burst)
          (short-among b.burst (beneath before) (beneath after) (λ w. omega (arith, fewer w)) (All-head (λ packets. All (IsShort b.burst) packets) (beneath before) [] h.discipline.short)))
          (All-nil (λ packets. All (IsShort c.burst) packets));
    };
    lengths = lengths-among mtu (waiting (tbf b None since) (before ∷ [])) (waiting (tbf c held at) (after ∷ []))
        (λ w. omega (arith, fewer w, weigh-waiting w (tbf b None since) (before ∷ []), weigh-waiting w (tbf c held at) (after ∷ []), weigh-nil w)) h.lengths;
    held = λ some. tt;
    filters = h.filters;
    in_order = h.in_order;
    named = h.named;
  }

  spends-answers : (b : TokenBucket) (a : Asked) (p : Descriptor) → a.shown ≡ Some p → IsLawfulOwn mtu now (tbf b None since) (map beneath (befores (a ∷ []))) → AreAnswers mtu now (a ∷ [])
      → IsAnswer mtu now (spends (tbf b None since) (a ∷ []) b limit now a p)
  spends-answers b a p e h all =
      let after : TokenBucket = after_spend b now p.len in
      let may : Bool = allows b now p.len in
      let shown : (w : Descriptor → ℕ) → weigh w (option_to_list a.shown) ≡ weigh w (option_to_list (Some p)) = λ w. ap (λ (o : Option Descriptor). weigh w (option_to_list o)) e in
      let range = spent-in_range may b now p.len h.discipline.level in
      let last = spent-last may b now p.len h.discipline.last in
      let burst = spent-burst may b now p.len in
      is-dequeued mtu now (tbf b None since) (a ∷ []) (record {
        after = tbf after None since;
        children = a.taken ∷ [];
        rises = a.rises;
        mine = Spent p.len ∷ [];
        packet = Some p;
        since = since_shown a;
      }) (record {
        handle_peeked = refl;
        handle_taken = refl;
        lawful = h;
        lawful_peeked = tbf-lawful b after (Some p) (since_shown a) a.before a.taken range last burst (λ w. omega (arith, all.0.peeks w, all.0.gives w, shown w)) h;
        lawful_taken = tbf-lawful b after None 0 a.before a.taken range last burst (λ w. omega (arith, all.0.peeks w, all.0.gives w, weigh-nil w)) h;
        all_before = befores-lawful mtu now (a ∷ []) all;
        all_peeked = (all.0.lawful_taken, tt);
        all_taken = (all.0.lawful_taken, tt);
        told_before = befores-told mtu now (a ∷ []) all;
        told_peeked = (all.0.told_taken, tt);
        told_taken = (all.0.told_taken, tt);
        quiet = all.0.quiet;
        peeks =
            λ w. omega (
              arith,
              all.0.peeks w,
              all.0.gives w,
              shown w,
              weigh-nil w,
              weigh-waiting w (tbf b None since) (a.before ∷ []),
              weigh-waiting
                  w (tbf after (Some p) (since_shown a)) (a.taken ∷ []),
            );
        gives = λ w. omega (arith, weigh-nil w, weigh-waiting w (tbf after None 0) (a.taken ∷ []), weigh-waiting w (tbf after (Some p) (since_shown a)) (a.taken ∷ []));
        marks =
            λ w. omega (
              arith,
              all.0.marks w,
              all.0.marks_given w,
              shown w,
              weigh-nil w,
              weigh-holds w (tbf b None since) (a.before ∷ []),
              weigh-holds w (tbf after (Some p) (since_shown a)) (a.taken ∷ []),
            );
        marks_given = λ w. omega (arith, weigh-nil w, weigh-holds w (tbf after None 0) (a.taken ∷ []), weigh-holds w (tbf after (Some p) (since_shown a)) (a.taken ∷ []));
        stays = λ none. absurd (omega (arith, none, weigh-one one p, weigh-waiting one (tbf after (Some p) (since_shown a)) (a.taken ∷ [])));
      }) (spent-note p.len)

  waits-answers : (b : TokenBucket) (a : Asked) → IsLawfulOwn mtu now (tbf b None since) (map beneath (befores (a ∷ [])))
      → AreAnswers mtu now (a ∷ []) → IsAnswer mtu now (waits (tbf b None since) (a ∷ []) a)
  waits-answers b a h all =
      let after = tbf-lawful b b None 0 a.before a.peeked h.discipline.level h.discipline.last refl (λ w. omega (arith, all.0.peeks w, weigh-nil w)) h in
      is-dequeued mtu now (tbf b None since) (a ∷ []) (record {
        after = tbf b None since;
        children = a.peeked ∷ [];
        rises = a.rises;
        mine = [];
        packet = None;
        since = 0;
      }) (record {
        handle_peeked = refl;
        handle_taken = refl;
        lawful = h;
        lawful_peeked = after;
        lawful_taken = after;
        all_before = befores-lawful mtu now (a ∷ []) all;
        all_peeked = (all.0.lawful_peeked, tt);
        all_taken = (all.0.lawful_peeked, tt);
        told_before = befores-told mtu now (a ∷ []) all;
        told_peeked = (all.0.told_peeked, tt);
        told_taken = (all.0.told_peeked, tt);
        quiet = all.0.quiet;
        peeks = λ w. omega (arith, all.0.peeks w, weigh-waiting w (tbf b None since) (a.before ∷ []), weigh-waiting w (tbf b None 0) (a.peeked ∷ []));
        gives = λ w. omega (arith, weigh-nil w);
        marks = λ w. omega (arith, all.0.marks w, weigh-holds w (tbf b None since) (a.before ∷ []), weigh-holds w (tbf b None 0) (a.peeked ∷ []));
        marks_given = λ w. omega (arith, weigh-nil w);
        stays = λ none. omega (arith, weigh-nil one, weigh-waiting one (tbf b None since) (a.before ∷ []), all.0.stays (omega (arith, none, weigh-waiting one (tbf b None 0) (a.peeked ∷ []))));
      }) silent-nil

  -- whether the bucket allows it or not
  may-answer : (b : TokenBucket) (a : Asked) (p : Descriptor) (may : Bool) → a.shown ≡ Some p → IsLawfulOwn mtu now (tbf b None since) (map beneath (befores (a ∷ []))) → AreAnswers mtu now (a ∷ [])
      → IsAnswer mtu now (if may then spends (tbf b None since) (a ∷ []) b limit now a p else waits (tbf b None since) (a ∷ []) a)
  may-answer b a p true e h all = spends-answers b a p e h all
  may-answer b a p false e h all = waits-answers b a h all

  child-answers : (b : TokenBucket) (a : Asked) (o : Option Descriptor) → a.shown ≡ o → IsLawfulOwn mtu now (tbf b None since) (map beneath (befores (a ∷ []))) → AreAnswers mtu now (a ∷ [])
      → IsAnswer mtu now (option_map_or (λ (p : Descriptor). if allows b now p.len then spends (tbf b None since) (a ∷ []) b limit now a p else waits
      (tbf b None since) (a ∷ []) a) o (waits (tbf b None since) (a ∷ []) a))
  child-answers b a None e h all = waits-answers b a h all
  child-answers b a (Some p) e h all = may-answer b a p (allows b now p.len) e h all

  pub tbf-answers : (b : TokenBucket) (below : List Asked) → IsLawfulOwn mtu now (tbf b None since) (map beneath (befores below))
      → AreAnswers mtu now below → IsAnswer mtu now (ask_tbf now (tbf b None since) below b limit)
  tbf-answers b [] h all = absurd (let none : 0 ≡ 1 = h.discipline.one in omega (arith, none))
  tbf-answers b (a ∷ []) h all = child-answers b a a.shown refl h all
  tbf-answers b (a ∷ c ∷ below) h all = absurd (let many : length (map beneath (befores (a ∷ c ∷ below))) ≡ 1 = h.discipline.one in omega (arith, many))
