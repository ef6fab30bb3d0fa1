-- The path from the root of a tree down to a class, where nothing but drrs is on it, below a tbf at the root or none. tc(8) names a
-- class by the handle of its qdisc and a number; the classes of a drr have quanta (tc-drr(8)), and a tbf has one class (tc-tbf(8)).
use Rattle.std.specs.Prelude.{ℕ, ◌*◌, ◌^◌, ◌≤◌, Bool, true, false, ◌||◌, if◌then◌else◌, List, [], ◌∷◌, map, length, Option, Some, None, option_map, option_and_then, slice_get, sum_by}
use Rattle.std.specs.List.{list_any}
use Rattle.q_drr.specs.Schedule.{Class}
use Rattle.q_model.specs.declared.class_id.ClassId.{ClassId}
use Rattle.q_model.specs.Find.{class_path}
use Rattle.q_model.specs.Node.{Discipline, Fifo, Prio, Tbf, Drr, FqCodel, Own, Node, children, from_below}
use Rattle.q_tree.specs.declared.answers.ways.Link.{Link}
use Rattle.q_tree.specs.declared.answers.ways.Share.{Share}

-- a class of a drr, with the handle and all classes of that drr
pub record DrrClass : Type 0 where
  pub major : ℕ
  pub class : Class
  pub classes : List Class

abbrev pub class_of_drr : ℕ → ℕ → Discipline → Option DrrClass
class_of_drr i major (Drr s) = option_map (λ c. record { major = major; class = c; classes = s.classes }) (slice_get s.classes i)
class_of_drr i major (Fifo limit queue) = None
class_of_drr i major (Prio priomap) = None
class_of_drr i major (Tbf bucket limit) = None
class_of_drr i major (FqCodel s) = None

-- the class of the child in this place, if the qdisc is a drr
abbrev pub drr_class : ℕ → Own → Option DrrClass
drr_class i own = option_and_then (λ major. class_of_drr i major own.discipline) own.handle

-- the classes on a path down, if each is one of a drr
abbrev pub drrs_on : {M : Type 0} → List ℕ → Node M → Option (List DrrClass)
drrs_on [] n = Some []
drrs_on (i ∷ path) n =
    option_and_then (λ (d : DrrClass). option_map (λ (rest : List DrrClass). d ∷ rest) (option_and_then (drrs_on path) (slice_get (children n) i))) (drr_class i n.own)

abbrev pub is_tbf : Discipline → Bool
is_tbf (Tbf bucket limit) = true
is_tbf (Fifo limit queue) = false
is_tbf (Prio priomap) = false
is_tbf (Drr s) = false
is_tbf (FqCodel s) = false

-- whether a tbf is here or below
abbrev pub has_tbf : {M : Type 0} → Node M → Bool
has_tbf n = from_below (λ own below. is_tbf own.discipline || list_any (λ b. b) below) n

-- a path: the tbf at the root, if there is one, and the classes of drrs, from the root down
pub record Way : Type 0 where
  pub link : Option Link
  pub drrs : List DrrClass

-- below a tbf at the root there has to be a drr on the path, and no other tbf anywhere
abbrev pub way_below : {M : Type 0} → Link → List ℕ → Node M → Option Way
way_below link [] n = None
way_below link (i ∷ path) n = if has_tbf n then None else option_map (λ (ds : List DrrClass). record { link = Some link; drrs = ds }) (drrs_on (i ∷ path) n)

abbrev pub way_from : {M : Type 0} → List ℕ → Node M → Discipline → Option Way
way_from [] n d = None
way_from (i ∷ path) n (Tbf b limit) =
    option_and_then (λ handle. option_and_then (way_below (record { handle = handle; rate = b.rate; burst = b.burst }) path) (slice_get (children n) i)) n.own.handle
way_from (i ∷ path) n (Drr s) = option_map (λ (ds : List DrrClass). record { link = None; drrs = ds }) (drrs_on (i ∷ path) n)
way_from (i ∷ path) n (Fifo limit queue) = None
way_from (i ∷ path) n (Prio priomap) = None
way_from (i ∷ path) n (FqCodel s) = None

abbrev pub way_to : {M : Type 0} → ClassId → Node M → Option Way
way_to class n = option_and_then (λ path. way_from path n n.own.discipline) (class_path class n)

-- ---- in numbers

-- a class's quantum, the sum of the quanta of its drr, and the number of its classes
abbrev pub share_among : Class → List Class → Share
share_among c classes = record { quantum = c.quantum; quanta = sum_by (λ (k : Class). k.quantum) classes; classes = length classes }

abbrev pub share_of : DrrClass → Share
share_of d = share_among d.class d.classes

abbrev pub shares_of : Way → List Share
shares_of w = map share_of w.drrs

-- a quantum has a byte at least, and is one of those that are summed
pub record IsShare (s : Share) : Type 0 where
  pub positive : 1 ≤ s.quantum
  pub part : s.quantum ≤ s.quanta
  pub some : 1 ≤ s.classes
  pub few : s.classes ≤ 2 ^ 16
  pub bounded : s.quanta ≤ s.classes * 2 ^ 32
