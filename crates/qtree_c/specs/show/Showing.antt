-- The texts of show that C asks for.
-- The texts are those of the show lines of tc, and the numbers of what is shown this project's own.
use Rattle.std.specs.Prelude.{◌≡◌, ◌≢◌, ℕ, ◌<◌, ◌≤◌, ◌==◌, ◌++◌, true, false, List, drop, if◌then◌else◌, length}
use Rattle.std.specs.List.{flat_map}
use Rattle.q_device.specs.device.DeviceSeen.{DeviceSeen}
use Rattle.q_model.specs.Tally.{Counts, totals}
use Rattle.q_model.specs.TreeState.{TreeState}
use Rattle.q_model.specs.Views.{class_views, filter_views, views}
use Rattle.q_script_semantics.specs.Text.{class_line, filter_line, qdisc_text}
use Rattle.q_session.specs.Shown.{listed_text}

-- the text of a tree: 0 its qdiscs, 1 those with their counters, 2 its classes, 3 its filters
abbrev pub shown_text : ℕ → TreeState Counts → List ℕ
shown_text what tree =
    if what == 0 then flat_map (qdisc_text false) (views totals tree) else
    if what == 1 then flat_map (qdisc_text true) (views totals tree) else
    if what == 2 then listed_text class_line class_views tree else listed_text filter_line filter_views tree

-- The text is written into the first of the lent bytes (0); or there are too few of them (43) or an allocation fails (90), and
-- nothing is written. How many bytes it needs is reported unless an allocation fails.
pub record IsShow (what code needed : ℕ) (before after : List ℕ) (d n : DeviceSeen) : Type 0 where
  pub same : n ≡ d
  pub long : code ≢ 90 → needed ≡ length (shown_text what d.device.tree)
  pub text : code ≡ 0 → after ≡ shown_text what d.device.tree ++ drop needed before
  pub fits : code ≡ 0 → needed ≤ length before
  pub kept : code ≢ 0 → after ≡ before
  pub room : code ≢ 0 → code ≢ 90 → (code ≡ 43) × (length before < needed)
  pub memory : code ≡ 90 → needed ≡ 0
