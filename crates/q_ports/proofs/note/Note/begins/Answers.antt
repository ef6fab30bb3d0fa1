use Rattle.std.proofs.Common.{◌≡◌, ◌≤◌, ◌<◌, Bool, true, false, length, List, MatchBool, refl, ap, arith, subst}
use Rattle.std.proofs.lemmas.Bool.Decides.{nat_tests}
use lib.Dec.{leb}
use mathlib.Core.List.{IsPrefix}
use Rattle.q_model.specs.declared.row.Row.{Row}
use Rattle.q_ports.specs.Rows.{RowHistorySeen}
use Rattle.q_ports.proofs.Prefixes.{prefix_same, prefix_shorter}
use Rattle.q_ports.proofs.note.Note.begins.Goals as goal

match-of : (P Q : Type 0) (b : Bool) → (b ≡ true → P) → (b ≡ false → Q) → MatchBool b P Q
match-of P Q true p q = p refl
match-of P Q false p q = q refl

pub returns : goal.returns
returns c =
    let both = c.learn.new.self.log in
    let mine = c.self.inside.seen.log in
    let theirs = c.other.inside.seen.log in
    let m = c.self.inside.count in
    let n = c.other.inside.count in
    let this : IsPrefix mine both = subst (λ (l : List Row). IsPrefix l both) (ap (λ s. s.log) c.again-both.ensures) c.learn.ensures.2 in
    let here : mine ≡ c.args.self.now.rows = ap (λ (f : RowHistorySeen). f.rows) c.self.view_is in
    let there : theirs ≡ c.args.other.now.rows = ap (λ (f : RowHistorySeen). f.rows) c.other.view_is in
    match-of _ _ (leb m n)
    (λ (e : leb m n ≡ true).
    let few : m ≤ n = grind (arith, nat_tests) in
    prefix_same c.args.self.now.rows c.args.other.now.rows mine theirs here there (prefix_shorter mine theirs both this c.learn.ensures.3 (omega (arith, few, c.self.invariant, c.other.invariant))))
    (λ (e : leb m n ≡ false).
    let many : n < m = grind (arith, nat_tests) in
    let one : length mine ≡ length c.args.self.now.rows = ap (λ (rows : List Row). length rows) here in
    let two : length theirs ≡ length c.args.other.now.rows = ap (λ (rows : List Row). length rows) there in
    omega (arith, many, one, two, c.self.invariant, c.other.invariant))
