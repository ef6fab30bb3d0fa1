-- A take keeps the ranges of the state.
use Rattle.std.proofs.Common.{◌≡◌, ℕ, zero, suc, ◌+◌, ◌*◌, ◌-◌, ◌^◌, ◌<◌, ◌≤◌, List, drop, refl, subst, arith}
use Rattle.std.specs.Prelude.{Bool, true, false, ◌&&◌, ◌==◌, nat_lt, if◌then◌else◌}
use Rattle.q_packet.specs.declared.stamped.Stamped.{Stamped}
use Rattle.q_packet.proofs.LeastLemmas.{least_le}
use Rattle.q_codel.specs.Gap.{gap_of}
use Rattle.q_codel.specs.Codel.{CodelState, IsCodelParams, IsCodelVars, params_of, vars_of, count_after, count_begun, is_standing, is_late, moment, drops, marks, begun, gone_on, after}
use Rattle.q_codel.specs.Laws.{StatesStayInRange}
use Rattle.q_codel.proofs.Promises.{at_their_moments_holds}

gap_within : (interval count : ℕ) → gap_of interval count ≤ interval
unfolding gap_of
gap_within interval count = least_le (λ d. nat_lt (interval * interval) ((d + 1) * (d + 1) * count)) interval

-- the moments that have come, and the one after
abbrev bound : ℕ
bound = 2 ^ 62 + 10 ^ 12

module _ (s : CodelState) (now : ℕ) (queue : List Stamped) (p : IsCodelParams (params_of s)) (v : IsCodelVars (vars_of s)) (low : now ≤ 2 ^ 62) where
  later : (i : ℕ) → moment s i ≤ now → moment s (suc i) ≤ bound
  later i come = omega (arith, come, low, p.interval_high, gap_within s.interval (count_after s (suc i)))

  -- the moment of a head before which all were dropped
  come_to : (j : ℕ) → ((i : ℕ) → i < j → moment s i ≤ now) → moment s j ≤ bound
  come_to zero dropped = v.drop_next
  come_to (suc i) dropped = later i (dropped i (omega arith))

  ended_at : (j : ℕ) → ((i : ℕ) → i < j → moment s i ≤ now) → moment s (j - 1) ≤ bound
  ended_at zero dropped = v.drop_next
  ended_at (suc i) dropped =
      let before : i ≡ suc i - 1 = omega arith in
      let come : moment s i ≤ bound = omega (arith, dropped i (omega arith), low) in
      subst (λ n. moment s n ≤ bound) before come

  counted : (n : ℕ) → count_after s n < 2 ^ 32
  counted n = omega arith

  in_order : (n : ℕ) → s.lastcount ≤ count_after s n
  in_order n = omega (arith, v.count, v.lastcount)

  gone_in_range : (j : ℕ) (marked late : Bool) → ((i : ℕ) → i < j → moment s i ≤ now) → (marked ≡ true → moment s j ≤ now) → IsCodelVars (vars_of (gone_on s j marked late))
  gone_in_range j true late dropped come = record { first_above_time = v.first_above_time; drop_next = later j (come refl); count = counted (suc j); lastcount = in_order (suc j) }
  gone_in_range j false true dropped come = record { first_above_time = v.first_above_time; drop_next = come_to j dropped; count = counted j; lastcount = in_order j }
  gone_in_range j false false dropped come = record { first_above_time = v.first_above_time; drop_next = ended_at j dropped; count = counted j; lastcount = in_order j }

  gone_settings : (j : ℕ) (marked late : Bool) → params_of (gone_on s j marked late) ≡ params_of s
  gone_settings j true late = refl
  gone_settings j false true = refl
  gone_settings j false false = refl

  begun_counted : (b : Bool) → (if b then s.count - s.lastcount else 1) < 2 ^ 32
  begun_counted true = omega (arith, v.count)
  begun_counted false = omega arith

  begun_in_range : IsCodelVars (vars_of (begun s now))
  begun_in_range = record {
    first_above_time = v.first_above_time;
    drop_next = omega (arith, low, p.interval_high, gap_within s.interval (count_begun s now));
    count = begun_counted (nat_lt 1 (s.count - s.lastcount) && nat_lt now (s.drop_next + 16 * s.interval));
    lastcount = omega arith;
  }

  control_in_range : (dropping late : Bool) → s.dropping ≡ dropping
      → IsCodelVars (vars_of (if dropping then gone_on s (drops s now queue) (marks s now queue) (is_late s now (drop (drops s now queue) queue)) else if late then begun s now else s))
  control_in_range true late is =
      let law = at_their_moments_holds s now queue is in
      gone_in_range (drops s now queue) (marks s now queue) (is_late s now (drop (drops s now queue) queue)) law.dropped law.marked
  control_in_range false true is = begun_in_range
  control_in_range false false is = v

  control_settings : (dropping late : Bool)
      → params_of (if dropping then gone_on s (drops s now queue) (marks s now queue) (is_late s now (drop (drops s now queue) queue)) else if late then begun s now else s) ≡ params_of s
  control_settings true late = gone_settings (drops s now queue) (marks s now queue) (is_late s now (drop (drops s now queue) queue))
  control_settings false true = refl
  control_settings false false = refl

  above_in_range : (standing first : Bool) → (if standing then (if first then now + s.interval else s.first_above_time) else 0) ≤ bound
  above_in_range true true = omega (arith, low, p.interval_high)
  above_in_range true false = v.first_above_time
  above_in_range false first = omega arith

  pub stays : record {
    settings : params_of (after s now queue) ≡ params_of s;
    state : IsCodelVars (vars_of (after s now queue));
  }
  stays =
      let control = control_in_range s.dropping (is_late s now queue) refl in
      record {
        settings = control_settings s.dropping (is_late s now queue);
        state = record {
          first_above_time = above_in_range (is_standing s now (drop (drops s now queue) queue)) (s.first_above_time == 0);
          drop_next = control.drop_next;
          count = control.count;
          lastcount = control.lastcount;
        };
      }

pub states_stay_in_range_holds : StatesStayInRange
states_stay_in_range_holds s now queue p v low = stays s now queue p v low
