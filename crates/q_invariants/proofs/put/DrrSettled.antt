-- A drr whose class at one place has other packets beneath it, and is settled, stays lawful and keeps its classes.
use Rattle.std.proofs.Common.{◌≡◌, ℕ, ◌≤◌, List, length, set, refl, sym, ap, subst, Option, Some, None, eq-eqb, ◌∙◌}
use Rattle.std.specs.Prelude.{Bool, true, false, ◌==◌, All, slice_get}
use Rattle.std.specs.Option.{option_map_or}
use Rattle.q_packet.specs.Descriptor.{Descriptor}
use Rattle.q_drr.specs.Schedule.{Class, Schedule, has_class, is_active}
use Rattle.q_drr.specs.Schedule as drr
use Rattle.q_model.specs.Numbers.{IsMinor}
use Rattle.q_drr.proofs.ChangeLemmas.{asleep_lawful, woken_lawful}
use Rattle.q_drr.proofs.DifferLemmas.{differ_from_pairs}
use Rattle.q_model.specs.Node.{Discipline, Fifo, Prio, Tbf, Drr, FqCodel}
use Rattle.q_model.specs.Beneath.{packets_in}
use Rattle.q_model.specs.Lawful.{IsLawfulDrr}
use Rattle.q_model.specs.Work.{settled_class, settled_in}
use Rattle.q_invariants.proofs.class.Exact.{AreExact, class-there, settled_schedule, exact-settled, settled-at, settled-classes, settled-longest}
use Rattle.q_invariants.proofs.tree.Members.{passes-at}

-- a schedule after a change that leaves its classes
pub record IsNext (mtu : ℕ) (s t : Schedule) : Type 0 where
  pub classes : t.classes ≡ s.classes
  pub lawful : drr.IsLawful t
  pub longest : t.max_len ≡ mtu

pub settled-lawful : (emptied : Bool) (c : Class) (s : Schedule) → drr.IsLawful s → 1 ≤ s.max_len → has_class c.name s.classes ≡ true → drr.IsLawful (settled_schedule emptied c s)
settled-lawful true c s h least there = asleep_lawful s c.name h
settled-lawful false c s h least there = woken_lawful s c.name h least there

pub next-settled : (mtu : ℕ) (s t : Schedule) (emptied : Bool) (i : ℕ) (c : Class) → 1 ≤ mtu → IsNext mtu s t → slice_get s.classes i ≡ Some c → IsNext mtu s (settled_schedule emptied c t)
next-settled mtu s t emptied i c least h there =
    let at : slice_get t.classes i ≡ Some c = ap (λ cs. slice_get cs i) h.classes ∙ there in
    record {
      classes = settled-classes emptied c t ∙ h.classes;
      lawful = settled-lawful emptied c t h.lawful (subst (λ n. 1 ≤ n) (sym h.longest) least) (passes-at (λ (d : Class). c.name == d.name) t.classes i c at (eq-eqb c.name c.name refl));
      longest = settled-longest emptied c t ∙ h.longest;
    }

pub class-settled : (i : ℕ) (emptied : Bool) (s : Schedule) → (settled_class i emptied s).classes ≡ s.classes
class-settled i emptied s = by (slice_get s.classes i)
  where
    by : (o : Option Class) → (option_map_or (λ (c : Class). settled_schedule emptied c s) o s).classes ≡ s.classes
    by None = refl
    by (Some c) = settled-classes emptied c s

pub drr-settled : (mtu : ℕ) (s : Schedule) (below : List (List Descriptor)) (i : ℕ) (old packets : List Descriptor) → IsLawfulDrr mtu s below → 1 ≤ mtu
    → slice_get below i ≡ Some old → IsLawfulDrr mtu (settled_class i (length packets == 0) s) (set below i packets)
drr-settled mtu s below i old packets h least e =
    let found = class-there (λ n. is_active n s.active) s.classes below i old h.exact e in
    let emptied : Bool = length packets == 0 in
    let next : IsNext mtu s (settled_schedule emptied found.0 s) =
    next-settled mtu s s emptied i found.0 least (record { classes = refl; lawful = h.schedule; longest = h.longest }) found.1 in
    subst (λ (t : Schedule). IsLawfulDrr mtu t (set below i packets)) (sym (settled-at i emptied s found.0 found.1)) (record {
      schedule = next.lawful;
      longest = next.longest;
      minors = subst (All (λ (c : Class). IsMinor c.name)) (sym next.classes) h.minors;
      exact = subst (λ cs. AreExact (λ n. is_active n (settled_schedule emptied found.0 s).active) cs (set below i packets)) (sym next.classes)
          (exact-settled s s.classes below i found.0 packets found.1 (differ_from_pairs (λ (c : Class). c.name) s.classes h.schedule.classes_differ) h.exact);
    })

pub settled-packets : (i : ℕ) (emptied : Bool) (d : Discipline) → packets_in (settled_in i emptied d) ≡ packets_in d
settled-packets i emptied (Fifo limit queue) = refl
settled-packets i emptied (Prio priomap) = refl
settled-packets i emptied (Tbf b limit) = refl
settled-packets i emptied (Drr s) = refl
settled-packets i emptied (FqCodel s) = refl
