use Rattle.std.proofs.Common.{◌+◌}
use Rattle.q_device.specs.declared.given.Given.TheVariants as given
use Rattle.q_device.proofs.Polling.{idle-gives_none, later-gives_none}
use Rattle.qtree_c.proofs.device.Polling.{none-clock, packets-clock, polls-are, polls-with}
use Rattle.qtree_c.proofs.events.NotingLemmas.{noted-polls}
use Rattle.qtree_c.proofs.device.giving.poll_many.Goals as goal

pub returns-in-Packet-clause-polls : goal.returns-in-Packet-clause-polls
returns-in-Packet-clause-polls g c =
    polls-are g.T.Told.told c.args.now given.Packet c.poll_many-given.result.0 c.args.places.now c.poll_many-given.new.places
    c.args.opened.now.device c.poll_many-given.new.self
    (polls-with g.T.Told.told c.args.now c.poll_many-given.result.0 c.args.places.now c.poll_many-given.new.places c.args.opened.now.device
    c.poll_many-given.new.self _ given.Packet c.in-Packet.is c.poll_many-given.ensures)

pub returns-in-Packet-clause-noted : goal.returns-in-Packet-clause-noted
returns-in-Packet-clause-noted g c =
    noted-polls c.args.now c.poll_many-given.result.0 c.args.opened.now.device c.poll_many-given.new.self c.args.opened.now.last c.note_polls.new.last
    (packets-clock g.T.Told.told c.args.now c.poll_many-given.result.0 c.args.places.now c.poll_many-given.new.places c.args.opened.now.device
    c.poll_many-given.new.self (polls-with g.T.Told.told c.args.now c.poll_many-given.result.0 c.args.places.now c.poll_many-given.new.places
    c.args.opened.now.device c.poll_many-given.new.self _ given.Packet c.in-Packet.is c.poll_many-given.ensures)) c.note_polls.ensures

pub returns-in-Idle-clause-polls : goal.returns-in-Idle-clause-polls
returns-in-Idle-clause-polls g c =
    polls-are g.T.Told.told c.args.now given.Idle c.poll_many-given.result.0 c.args.places.now c.poll_many-given.new.places c.args.opened.now.device
    c.poll_many-given.new.self (polls-with g.T.Told.told c.args.now c.poll_many-given.result.0 c.args.places.now c.poll_many-given.new.places
    c.args.opened.now.device c.poll_many-given.new.self _ given.Idle c.in-Idle.is c.poll_many-given.ensures)

pub returns-in-Idle-clause-noted : goal.returns-in-Idle-clause-noted
returns-in-Idle-clause-noted g c =
    noted-polls c.args.now (c.poll_many-given.result.0 + 1) c.args.opened.now.device c.poll_many-given.new.self c.args.opened.now.last c.note_polls_to_none.new.last
    (λ some. none-clock g.T.Told.told c.args.now c.poll_many-given.result.0 c.args.places.now c.poll_many-given.new.places c.args.opened.now.device
    c.poll_many-given.new.self given.Idle idle-gives_none
    (polls-with g.T.Told.told c.args.now c.poll_many-given.result.0 c.args.places.now c.poll_many-given.new.places c.args.opened.now.device
    c.poll_many-given.new.self _ given.Idle c.in-Idle.is c.poll_many-given.ensures)) c.note_polls_to_none.ensures

pub returns-in-Later-clause-polls : goal.returns-in-Later-clause-polls
returns-in-Later-clause-polls g c =
    polls-are g.T.Told.told c.args.now given.Later c.poll_many-given.result.0 c.args.places.now c.poll_many-given.new.places c.args.opened.now.device
    c.poll_many-given.new.self (polls-with g.T.Told.told c.args.now c.poll_many-given.result.0 c.args.places.now c.poll_many-given.new.places
    c.args.opened.now.device c.poll_many-given.new.self _ given.Later c.in-Later.is c.poll_many-given.ensures)

pub returns-in-Later-clause-noted : goal.returns-in-Later-clause-noted
returns-in-Later-clause-noted g c =
    noted-polls c.args.now (c.poll_many-given.result.0 + 1) c.args.opened.now.device c.poll_many-given.new.self c.args.opened.now.last c.note_polls_to_none-in-Later.new.last
    (λ some. none-clock g.T.Told.told c.args.now c.poll_many-given.result.0 c.args.places.now c.poll_many-given.new.places c.args.opened.now.device
    c.poll_many-given.new.self given.Later later-gives_none
    (polls-with g.T.Told.told c.args.now c.poll_many-given.result.0 c.args.places.now c.poll_many-given.new.places c.args.opened.now.device
    c.poll_many-given.new.self _ given.Later c.in-Later.is c.poll_many-given.ensures)) c.note_polls_to_none-in-Later.ensures
