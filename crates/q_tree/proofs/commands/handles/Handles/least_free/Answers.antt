use Rattle.std.proofs.Common.{◌≡◌, ◌<◌, ◌+◌, ◌∙◌, length, sym, ap, arith}
use Rattle.std.specs.Prelude.{true, false, not}
use Rattle.q_tree.specs.commands.Index.{has_among}
use Rattle.q_tree.proofs.commands.IndexLemmas.{first-free, free-is, is_free, none-free, taken}
use Rattle.q_tree.proofs.commands.handles.Handles.least_free.Goals as goal

pub returns-then-not-has : goal.returns-then-not-has
returns-then-not-has c =
    let found = c.args.self.now.addresses in
    let k = c.loop-k.k in
    let inside : k < length found = omega (arith, c.loop-k-test.true, c.len-count.ensures) in
    let free : is_free found k ≡ true = ap not (ap (λ h. has_among h found) (sym c.numbered-handle.ensures) ∙ sym c.has.ensures ∙ c.if-not-has.true) in
    c.numbered-handle.ensures ∙ ap (λ m. 0x8001 + m) (sym (first-free found k inside free) ∙ c.loop-k.invariant) ∙ free-is found

pub loop-k-preserved : goal.loop-k-preserved
loop-k-preserved c =
    let found = c.args.self.now.addresses in
    let k = c.loop-k.k in
    let inside : k < length found = omega (arith, c.loop-k-test.true, c.len-count.ensures) in
    let not_free : is_free found k ≡ false = ap not (ap (λ h. has_among h found) (sym c.numbered-handle.ensures) ∙ sym c.has.ensures ∙ c.if-not-has.false) in
    taken found k inside not_free ∙ c.loop-k.invariant

pub returns : goal.returns
returns c =
    let found = c.args.self.now.addresses in
    let all : c.len-count.result ≡ length found = c.len-count.ensures in
    let last : c.loop-k.k ≡ length found = omega (arith, c.loop-k-test.false, c.loop-k.auto.k-end, all) in
    c.numbered.ensures
    ∙ ap (λ m. 0x8001 + m) (omega (arith, all, last) ∙ sym (none-free found c.loop-k.k last) ∙ c.loop-k.invariant)
    ∙ free-is found
