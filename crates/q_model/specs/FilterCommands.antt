-- `tc filter add` and `del`: which edit of the tree each is, and when it is refused.
-- tc(8) and tc-flower(8); which nodes have filters, and how many, is this project's choice.
use Rattle.std.specs.Prelude.{ℕ, Bool, not, ◌||◌, ◌==◌, nat_le, List, [], ◌∷◌, length, Result, is_none}
use Rattle.std.specs.List.{filter, list_any}
use Rattle.q_model.specs.declared.filter.Filter.{Filter}
use Rattle.q_model.specs.declared.refusal.Refusal.{Refusal}
use Rattle.q_model.specs.declared.refusal.Refusal.TheVariants.{NoQdisc, NotClassful, NoClass, TooMany, NoFilter}
use Rattle.q_model.specs.Filters.{with_filter}
use Rattle.q_model.specs.Node.{Shape}
use Rattle.q_model.specs.Find.{path_of, class_place}
use Rattle.q_model.specs.Edit.{Edit, Remake}
use Rattle.q_model.specs.Refusals.{Check, refuse, done_unless, has_filters, most_filters}
use Rattle.q_model.specs.QdiscCommands.{at_target, all_kept}

abbrev pub with_filters : List ℕ → Shape → List Filter → Edit
with_filters path n filters = Remake path (record n.own { filters = filters }) (all_kept n)

-- refusals of a new filter, where `major` is that of the class which it names
abbrev pub filter_add_checks : ℕ → ℕ → Filter → Shape → List Check
filter_add_checks parent major f n =
    refuse NotClassful (not (has_filters n.own.discipline))
    ∷ refuse NoClass (not (major == parent) || is_none (class_place f.minor n))
    ∷ refuse TooMany (nat_le most_filters (length n.own.filters))
    ∷ []

abbrev pub filter_added : ℕ → ℕ → Filter → List ℕ → Shape → Result Edit Refusal
filter_added parent major f path n = done_unless (filter_add_checks parent major f n) (with_filters path n (with_filter f n.own.filters))

abbrev pub filter_add : ℕ → ℕ → Filter → Shape → Result Edit Refusal
filter_add parent major f root = at_target NoQdisc (path_of parent root) (filter_added parent major f) root

-- all filters of a priority go
abbrev pub has_prio : ℕ → Filter → Bool
has_prio prio f = f.prio == prio

abbrev pub filter_del_checks : ℕ → Shape → List Check
filter_del_checks prio n =
    refuse NotClassful (not (has_filters n.own.discipline))
    ∷ refuse NoFilter (not (list_any (has_prio prio) n.own.filters))
    ∷ []

abbrev pub filters_removed : ℕ → List ℕ → Shape → Result Edit Refusal
filters_removed prio path n =
    done_unless (filter_del_checks prio n) (with_filters path n (filter (λ f. not (has_prio prio f)) n.own.filters))

abbrev pub filter_del : ℕ → ℕ → Shape → Result Edit Refusal
filter_del parent prio root = at_target NoQdisc (path_of parent root) (filters_removed prio) root
