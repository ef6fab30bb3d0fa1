use Rattle.std.proofs.Common.{◌*◌, ◌+◌, ◌-◌, min, sym, ap, ◌∙◌}
use Rattle.std.proofs.Math.Nat.{mul-sub}
use Rattle.q_bucket.specs.Level.{TokenBucket, units_in_byte, capacity}
use Rattle.q_bucket.proofs.bucket.Bucket.level_at.Goals as goal

pub returns : goal.returns
returns c =
    let b = c.args.self.now in
    let full = c.self.invariant.1 in
    let brought = c.brought_at.ensures ∙ ap (λ (v : TokenBucket). v.rate * c.args.now) c.self.view_is in
    ap (λ n. n - c.missing_at.result) full
    ∙ ap (λ (v : TokenBucket). v.burst * units_in_byte - c.missing_at.result) c.self.view_is
    ∙ c.missing_at.ensures.level
    ∙ ap (λ n. min (capacity b) (b.level + (n - b.rate * b.last))) brought
    ∙ ap (λ n. min (capacity b) (b.level + n)) (sym (mul-sub b.rate c.args.now b.last))
