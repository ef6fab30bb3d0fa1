-- How a proof tells two nodes apart, and how large a node is: a node that leads back to itself needs both.
-- Nothing here is of a standard.
use Rattle.std.specs.Prelude.{◌≡◌, ℕ, suc, ◌+◌, List, Option, refl}
use Rattle.std.proofs.Common.{sym, ap, subst}
use Rattle.std.specs.Coded.{Coded, code_by, coded×, coded⊎, coded_ℕ, coded_list, coded_option}
use mathlib.Core.Logic.{◌⊎◌, inl, inr}
use base.Stored.{Gv, gnil, gnum, gcons}
use Rattle.q_packet.specs.Descriptor.{Descriptor}
use Rattle.q_packet.specs.declared.stamped.Stamped.{Stamped}
use Rattle.q_codel.specs.declared.limit.Limit.{Limit}
use Rattle.q_fqcodel.specs.FqState.{FqState, FqView}
use Rattle.q_bucket.specs.Level.{TokenBucket}
use Rattle.q_drr.specs.Schedule.{Schedule}
use Rattle.q_model.specs.declared.filter.Filter.{Filter}
use Rattle.q_model.specs.declared.totals.Totals.{Totals}
use Rattle.q_model.specs.Make.{Device}
use Rattle.q_model.specs.Step.{DeviceState}
use Rattle.q_model.specs.Tally.{Counts}
use Rattle.q_tree.specs.Kept.{Kept}
use Rattle.q_model.specs.Node.{Discipline, Fifo, Prio, Tbf, Drr, FqCodel, Own, Forest, none, more, Node}
use Rattle.q_packet.specs.contracts.packet.Packet as packet
use Rattle.q_packet.specs.contracts.stamped.Stamped as stamped
use Rattle.q_codel.specs.contracts.limit.Limit as limit
use Rattle.q_fqcodel.specs.contracts.fq_codel.FqCodel as fq_codel
use Rattle.q_bucket.specs.contracts.bucket.Bucket as bucket
use Rattle.q_drr.specs.contracts.active.Active as active
use Rattle.q_model.specs.contracts.filter.Filter as filter
use Rattle.q_model.specs.contracts.totals.Totals as totals

-- an fq_codel's state, as its view without places
abbrev pub fq_code : Coded FqState
fq_code = code_by FqView fq_codel.the_row.coded (λ s. record { state = s; places = 0 }) (λ v. v.state) (λ _. refl)

-- a discipline is stored as one of five
abbrev pub Cases : Type 0
Cases = (Limit × List Stamped) ⊎ (List ℕ ⊎ ((TokenBucket × ℕ) ⊎ (Schedule ⊎ FqState)))

abbrev pub cases : Discipline → Cases
cases (Fifo l queue) = inl (l, queue)
cases (Prio priomap) = inr (inl priomap)
cases (Tbf b l) = inr (inr (inl (b, l)))
cases (Drr s) = inr (inr (inr (inl s)))
cases (FqCodel s) = inr (inr (inr (inr s)))

abbrev pub discipline : Cases → Discipline
discipline (inl p) = Fifo p.0 p.1
discipline (inr (inl priomap)) = Prio priomap
discipline (inr (inr (inl p))) = Tbf p.0 p.1
discipline (inr (inr (inr (inl s)))) = Drr s
discipline (inr (inr (inr (inr s)))) = FqCodel s

pub discipline_cases : (d : Discipline) → discipline (cases d) ≡ d
discipline_cases (Fifo l queue) = refl
discipline_cases (Prio priomap) = refl
discipline_cases (Tbf b l) = refl
discipline_cases (Drr s) = refl
discipline_cases (FqCodel s) = refl

abbrev pub discipline_code : Coded Discipline
discipline_code =
    code_by Cases
    (coded⊎ (coded× limit.the_row.coded (coded_list stamped.the_row.coded))
    (coded⊎ (coded_list coded_ℕ) (coded⊎ (coded× bucket.the_row.coded coded_ℕ) (coded⊎ active.the_row.coded fq_code))))
    cases discipline discipline_cases

abbrev pub own_code : Coded Own
own_code =
    code_by (Option ℕ × (Discipline × (Option Descriptor × (ℕ × List Filter))))
    (coded× (coded_option coded_ℕ) (coded× discipline_code (coded× (coded_option packet.the_row.coded) (coded× coded_ℕ (coded_list filter.the_row.coded)))))
    (λ o. (o.handle, (o.discipline, (o.held, (o.since, o.filters)))))
    (λ p. record { handle = p.0; discipline = p.1.0; held = p.1.1.0; since = p.1.1.1.0; filters = p.1.1.1.1 })
    (λ _. refl)

abbrev pub counts_code : Coded Counts
counts_code =
    let t = totals.the_row.coded in
    code_by (Totals × (Totals × (Totals × (Totals × Totals))))
    (coded× t (coded× t (coded× t (coded× t t))))
    (λ c. (c.arrived, (c.sent, (c.refused, (c.dropped, c.marked)))))
    (λ p. record { arrived = p.0; sent = p.1.0; refused = p.1.1.0; dropped = p.1.1.1.0; marked = p.1.1.1.1 })
    (λ _. refl)

-- the halves of a stored pair
abbrev pub first : Gv → Gv
first gnil = gnil
first (gnum n) = gnil
first (gcons a b) = a

abbrev pub second : Gv → Gv
second gnil = gnil
second (gnum n) = gnil
second (gcons a b) = b

abbrev pub IsPair : Gv → Type 0
IsPair gnil = ⊥
IsPair (gnum n) = ⊥
IsPair (gcons a b) = Unit {0}

module _ {M : Type 0} (o : Coded Own) (m : Coded M) where
  abbrev pub code_forest : Forest M → Gv
  code_forest none = gnil
  code_forest (more own memory below others) =
      gcons (gcons (o.code own) (m.code memory)) (gcons (code_forest below) (code_forest others))

  pub forest_inj : (x y : Forest M) → code_forest x ≡ code_forest y → x ≡ y
  forest_inj none none e = refl
  forest_inj none (more own memory below others) e = absurd (subst IsPair (sym e) tt)
  forest_inj (more own memory below others) none e = absurd (subst IsPair e tt)
  forest_inj (more own memory below others) (more own2 memory2 below2 others2) e = λ i.
      more (o.inj own own2 (ap (λ g. first (first g)) e) i)
      (m.inj memory memory2 (ap (λ g. second (first g)) e) i)
      (forest_inj below below2 (ap (λ g. first (second g)) e) i)
      (forest_inj others others2 (ap (λ g. second (second g)) e) i)

  abbrev pub forest_code : Coded (Forest M)
  forest_code = record { code = code_forest; inj = forest_inj }

  abbrev pub node_code_by : Coded (Node M)
  node_code_by =
      code_by (Own × (M × Forest M)) (coded× o (coded× m forest_code))
      (λ n. (n.own, (n.memory, n.below))) (λ p. record { own = p.0; memory = p.1.0; below = p.1.1 }) (λ _. refl)

abbrev pub kept_code : Coded Kept
kept_code = code_by (Counts × ℕ) (coded× counts_code coded_ℕ) (λ k. (k.counts, k.places)) (λ p. record { counts = p.0; places = p.1 }) (λ _. refl)

abbrev pub node_code : Coded (Node Kept)
node_code = node_code_by own_code kept_code

-- a device with its tree
abbrev pub device_code : Coded (DeviceState Kept)
device_code =
    code_by (ℕ × (Device × (Kept × Node Kept)))
    (coded× coded_ℕ (coded× (code_by (ℕ × ℕ) (coded× coded_ℕ coded_ℕ) (λ d. (d.mtu, d.txqueuelen)) (λ p. record { mtu = p.0; txqueuelen = p.1 }) (λ _. refl)) (coded× kept_code node_code)))
    (λ d. (d.clock, (d.tree.device, (d.tree.top, d.tree.root))))
    (λ p. record { clock = p.0; tree = record { device = p.1.0; top = p.1.1.0; root = p.1.1.1 } })
    (λ _. refl)

-- how large a node is: more than each of its children, and more than the list of them
abbrev pub forest_size : {M : Type 0} → Forest M → ℕ
forest_size none = 0
forest_size (more own m below others) = suc (suc (forest_size below + forest_size others))

abbrev pub node_size : {M : Type 0} → Node M → ℕ
node_size n = suc (forest_size n.below)
