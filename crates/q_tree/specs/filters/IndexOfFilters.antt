-- An index of filters by what they compare: each filter has its group, of those that compare the same, and its bucket there.
-- Nothing here is of a standard.
use Rattle.std.specs.Prelude.{◌≡◌, ℕ, ◌+◌, ◌*◌, ◌<◌, ◌≤◌, List, length, slice_get, Some}
use Rattle.q_model.specs.Ranges.{IsFilter}
use Rattle.q_model.specs.declared.filter.Filter.{Filter}
use Rattle.q_tree.specs.filters.FilterShapes.{Parts, bucket, parts_wanted, shape_of}
use Rattle.q_tree.specs.declared.filters.filter_shape.FilterShape.{FilterShape}
use Rattle.q_tree.specs.declared.filters.filter_index.FilterIndex.{FilterIndex}

-- the buckets of all groups are side by side, 256 for each
abbrev pub home_of : ℕ → Parts → ℕ
home_of group parts = group * 256 + bucket parts

-- a filter has its place in the group of its shape
pub record IsHome (shapes : List FilterShape) (f : Filter) (home : ℕ) : Type 0 where
  pub group : ℕ
  pub shape : slice_get shapes group ≡ Some (shape_of f)
  pub is : home ≡ home_of group (parts_wanted f)
  pub range : IsFilter f

abbrev pub AreHomes : List FilterShape → List Filter → List ℕ → Type 0
AreHomes shapes filters homes = (j home : ℕ) (f : Filter) → slice_get filters j ≡ Some f → slice_get homes j ≡ Some home → IsHome shapes f home

pub record IsIndexOf (index : FilterIndex) (filters : List Filter) : Type 0 where
  pub long : length index.chains ≡ length filters
  pub few : length index.shapes.items ≤ 256
  pub each : AreHomes index.shapes.items filters index.chains

-- no two groups compare the same
abbrev pub AreDistinct : List FilterShape → Type 0
AreDistinct shapes = (i j : ℕ) (s : FilterShape) → slice_get shapes i ≡ Some s → slice_get shapes j ≡ Some s → i ≡ j

-- one of the filters compares this
pub record IsShapeIn (filters : List Filter) (s : FilterShape) : Type 0 where
  pub place : ℕ
  pub filter : Filter
  pub there : slice_get filters place ≡ Some filter
  pub is : s ≡ shape_of filter

abbrev pub AreShapesIn : List Filter → List FilterShape → Type 0
AreShapesIn filters shapes = (i : ℕ) (s : FilterShape) → slice_get shapes i ≡ Some s → IsShapeIn filters s

-- The filters compare so many different things that a group has fewer than four of them on average: to find the bucket of each group
-- would take longer than to compare one by one.
pub record AreOfManyShapes (filters : List Filter) : Type 0 where
  pub shapes : List FilterShape
  pub distinct : AreDistinct shapes
  pub each : AreShapesIn filters shapes
  pub many : length filters < length shapes * 4
