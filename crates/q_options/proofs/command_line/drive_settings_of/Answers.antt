use Rattle.std.proofs.Common.{rules, arith, ◌≡◌, ◌≤◌, ◌<◌}
use Rattle.clap.specs.Words.{found_of, one_text}
use Rattle.q_options.proofs.FoundOptions.{drive_out_of_range}
use Rattle.q_options.proofs.command_line.drive_settings_of.Goals as goal

pub returns-in_err-ok-2-clause-refused : goal.returns-in_err-ok-2-clause-refused
returns-in_err-ok-2-clause-refused c = λ none.
    let long : 65535 < c.in_ok-len.len = search rules in
    drive_out_of_range (one_text (found_of c.args.drive.now)) c.in_ok-senders.senders c.in_ok-count.count c.in_ok-len.len c.in_ok-ring.ring c.in_ok-senders.ensures.given c.in_ok-count.ensures.given
    c.in_ok-len.ensures.given c.in_ok-ring.ensures.given (λ a b l d. let most = l.1 in omega arith)

pub returns-clause-refused : goal.returns-clause-refused
returns-clause-refused c = λ none.
    let senders : c.in_ok-ok.field-0 ≡ c.in_ok-senders.senders = search rules in
    let len : c.in_ok-ok-2.field-0 ≡ c.in_ok-len.len = search rules in
    let few : (1 ≤ c.in_ok-senders.senders) × (c.in_ok-senders.senders ≤ 64) → (1 ≤ c.in_ok-ok.field-0) × (c.in_ok-ok.field-0 ≤ 64) = λ a. let l = a.0 in let m = a.1 in (omega arith, omega arith) in
    let short : (1 ≤ c.in_ok-len.len) × (c.in_ok-len.len ≤ 65535) → (1 ≤ c.in_ok-ok-2.field-0) × (c.in_ok-ok-2.field-0 ≤ 65535) = λ a. let l = a.0 in let m = a.1 in (omega arith, omega arith) in
    drive_out_of_range (one_text (found_of c.args.drive.now)) c.in_ok-senders.senders c.in_ok-count.count c.in_ok-len.len c.in_ok-ring.ring c.in_ok-senders.ensures.given c.in_ok-count.ensures.given
    c.in_ok-len.ensures.given c.in_ok-ring.ensures.given (λ a b l d. let some = c.new.ensures.in_range.1 (record { senders = few a; count = b; len = short l; ring = d }) in cc)
