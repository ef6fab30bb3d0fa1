use Rattle.std.proofs.Common.{◌≡◌, ◌≤◌, ◌+◌, ◌*◌, ◌++◌, take, length}
use Rattle.std.specs.Prelude.{codes, decimal}
use Rattle.std.specs.List.{flat_map}
use Rattle.q_spelling.proofs.kinds.put_bands.Given as goal

-- the bands so far
abbrev pub invariant-loop-band : goal.invariant-loop-band
invariant-loop-band l = record {
  so_far : l.text ≡ l.initial.text ++ flat_map (λ band. codes " " ++ decimal band) (take l.band-index l.priomap);
  short : length l.text ≤ length l.initial.text + l.band-index * 21;
}
