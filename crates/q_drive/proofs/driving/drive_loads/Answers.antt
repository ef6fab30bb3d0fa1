use Rattle.std.proofs.Common.{map}
use Rattle.q_ports.specs.Driven.{packets_of}
use Rattle.q_drive.proofs.Accounts.{accounted, at_pace}
use Rattle.q_drive.proofs.driving.drive_loads.Goals as goal

pub returns-in-Ok-clause-all : goal.returns-in-Ok-clause-all
returns-in-Ok-clause-all g c =
    let opened = c.in-Some.ensures in
    let driven = c.in-Ok in
    let a =
    accounted c.args.settings.now c.in-Some.ports.items (map packets_of c.args.loads.items) driven.driven.settled driven.driven.given_up
    c.ranges-2.ensures opened.count opened.placed c.requires.loads driven.ensures.driven in
    a.all

pub returns-in-Ok-clause-bytes : goal.returns-in-Ok-clause-bytes
returns-in-Ok-clause-bytes g c =
    let opened = c.in-Some.ensures in
    let driven = c.in-Ok in
    let a =
    accounted c.args.settings.now c.in-Some.ports.items (map packets_of c.args.loads.items) driven.driven.settled driven.driven.given_up
    c.ranges-2.ensures opened.count opened.placed c.requires.loads driven.ensures.driven in
    a.bytes

pub returns-in-Ok-clause-paced : goal.returns-in-Ok-clause-paced
returns-in-Ok-clause-paced g c =
    let opened = c.in-Some.ensures in
    let pace = c.drive_pace-start.ensures in
    at_pace _ _ _ _ _ c.in-Some.ports.items (map packets_of c.args.loads.items) _ _ pace.start pace.step pace.tries opened.placed opened.lengths c.requires.loads c.in-Ok.ensures.driven
