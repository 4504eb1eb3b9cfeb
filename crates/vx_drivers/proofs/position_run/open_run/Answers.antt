use Rattle.std.proofs.Common.{◌∙◌, sym, subst, ap, refl, []}
use Rattle.vx_desk.specs.declared.device.Slot.TheVariants.{Feed, Out, Certs}
use Rattle.vx_desk.specs.Told.{Told}
use Rattle.vx_desk.specs.Calls.{IsStep}
use Rattle.vx_reading.specs.FeedReading.{feed_told}
use Rattle.vx_reading.specs.WhatWasRead.{EventsRead}
use Rattle.vx_reading.proofs.FeedLemmas.{events_read}
use Rattle.vx_drivers.specs.declared.exit.Exit.{Exit}
use Rattle.vx_drivers.specs.declared.exit.Exit.TheVariants.{NoMemory}
use Rattle.vx_drivers.specs.Exits.{exit_calls}
use Rattle.vx_drivers.specs.Held.{held_in}
use Rattle.vx_drivers.specs.PositionExits.{IsPositionExit}
use Rattle.vx_drivers.specs.PositionSteps.{HasEndedPositions}
use Rattle.vx_drivers.specs.Sending.{Sent, Text}
use Rattle.vx_drivers.specs.TickSteps.{CutsBoth}
use Rattle.vx_drivers.proofs.ExitLemmas.{certs_not_feed, memory_not_side, out_not_feed, stop_named}
use Rattle.vx_drivers.proofs.PositionRunLemmas.{feed_stops, nothing_sent, opening_cut, opening_sent, stop_exit}
use Rattle.vx_drivers.proofs.position_run.open_run.Goals as goal

pub returns-in-Err-clause-opens : goal.returns-in-Err-clause-opens
returns-in-Err-clause-opens g c = λ positions side.
    nothing_sent g.B.Sheet.SettlesPositions.rules (held_in (g.D.Desk.told c.args.desk.now)) (feed_told (g.D.Desk.told c.args.desk.now)) positions
    (g.D.Desk.told c.args.desk.now)
    (g.D.Desk.told c.args.desk.now) NoMemory refl refl refl memory_not_side

pub returns-in-Err-read_to_end-clause-opens : goal.returns-in-Err-read_to_end-clause-opens
returns-in-Err-read_to_end-clause-opens g c = λ positions side.
    let told = g.D.Desk.told c.args.desk.now in
    subst (λ (e : Exit). HasEndedPositions g.B.Sheet.SettlesPositions.rules (held_in told) (feed_told told) positions told
    (g.D.Desk.told c.read_to_end.new.desk) e) (sym c.from.ensures)
    (feed_stops g.B.Sheet.SettlesPositions.rules g.B.TakesEvents.StandsFor (held_in told) (feed_told told) positions c.read_to_end.new.self told
    (g.D.Desk.told c.read_to_end.new.desk)
    c.in-Err-read_to_end.stop (c.in-Err-read_to_end.ensures.others Out out_not_feed) (c.in-Err-read_to_end.ensures.others Certs certs_not_feed)
    (c.in-Err-read_to_end.ensures.reads (told Feed).left (feed_told told) [] (c.in-Ok.ensures told)))

pub returns-in-Err-read_to_end-clause-exits : goal.returns-in-Err-read_to_end-clause-exits
returns-in-Err-read_to_end-clause-exits g c =
    let told = g.D.Desk.told c.args.desk.now in
    subst (λ (e : Exit). IsPositionExit e) (sym c.from.ensures)
    (stop_exit g.B.TakesEvents.StandsFor (told Feed).left (feed_told told) c.read_to_end.new.self
    (g.D.Desk.told c.read_to_end.new.desk) c.in-Err-read_to_end.stop
    (c.in-Err-read_to_end.ensures.reads (told Feed).left (feed_told told) [] (c.in-Ok.ensures told)))

pub returns-in-Err-read_to_end-clause-step : goal.returns-in-Err-read_to_end-clause-step
returns-in-Err-read_to_end-clause-step g c =
    subst (λ f. IsStep f (g.D.Desk.told c.args.desk.now) (g.D.Desk.told c.read_to_end.new.desk))
    (sym (ap exit_calls c.from.ensures ∙ stop_named c.in-Err-read_to_end.stop))
    c.in-Err-read_to_end.ensures.step

pub returns-in-Err-answer_opening-clause-opens : goal.returns-in-Err-answer_opening-clause-opens
returns-in-Err-answer_opening-clause-opens g c = λ positions side.
    nothing_sent g.B.Sheet.SettlesPositions.rules (held_in (g.D.Desk.told c.args.desk.now)) (feed_told (g.D.Desk.told c.args.desk.now)) positions
    (g.D.Desk.told c.args.desk.now)
    (g.D.Desk.told c.read_to_end.new.desk) NoMemory (c.in-Ok-read_to_end.ensures.others Out out_not_feed)
    (c.in-Ok-read_to_end.ensures.others Certs certs_not_feed) refl memory_not_side

pub returns-in-Ok-send_both-clause-opens : goal.returns-in-Ok-send_both-clause-opens
returns-in-Ok-send_both-clause-opens g c =
    let told = g.D.Desk.told c.args.desk.now in
    let read = g.D.Desk.told c.read_to_end.new.desk in
    let sent = g.D.Desk.told c.send_both.new.desk in
    let reads = c.in-Ok-read_to_end.ensures.reads (told Feed).left (feed_told told) [] (c.in-Ok.ensures told) in
    let opens = c.in-Ok-answer_opening.ensures reads.0 (c.taker.ensures (told Feed).left (feed_told told) reads.0 read reads.1) reads.1.taken_up.lawful in
    let both = c.in-Ok-send_both.ensures.sends in
    let were_read = subst (λ (t : Told). EventsRead reads.0 (told Feed).left t) (sym c.in-Ok-send_both.ensures.feed)
    (events_read (told Feed).left reads.0 c.read_to_end.new.self read reads.1.read) in
    opening_sent g.B.Sheet.SettlesPositions.rules g.B.Sheet.SettlesPositions.StandsAt (told Feed).left
    (feed_told told) reads.0 c.answer_opening.new.certificate.items c.answer_opening.new.line.items
    c.in-Ok-answer_opening.sheet _ told read sent reads.2 were_read opens
    (c.in-Ok-read_to_end.ensures.others Out out_not_feed) (c.in-Ok-read_to_end.ensures.others Certs certs_not_feed)
    (subst (λ (t : Text). Sent t (read Certs) (sent Certs)) c.as_slice.ensures.value both.0)
    (subst (λ (t : Text). Sent t (read Out) (sent Out)) c.as_slice-2.ensures.value both.1) refl refl c.new-in-Ok-send_both.ensures.items

pub returns-clause-opens : goal.returns-clause-opens
returns-clause-opens g c = λ positions side.
    let told = g.D.Desk.told c.args.desk.now in
    let read = g.D.Desk.told c.read_to_end.new.desk in
    let sent = g.D.Desk.told c.send_both.new.desk in
    let reads = c.in-Ok-read_to_end.ensures.reads (told Feed).left (feed_told told) [] (c.in-Ok.ensures told) in
    let opens = c.in-Ok-answer_opening.ensures reads.0 (c.taker.ensures (told Feed).left (feed_told told) reads.0 read reads.1) reads.1.taken_up.lawful in
    let were_read = subst (λ (t : Told). EventsRead reads.0 (told Feed).left t) (sym c.in-Err-send_both.ensures.feed)
    (events_read (told Feed).left reads.0 c.read_to_end.new.self read reads.1.read) in
    let first = subst (λ (t : Text). CutsBoth t c.as_slice-2.result.now read sent c.in-Err-send_both.exit) c.as_slice.ensures.value c.in-Err-send_both.ensures.sends in
    let cuts = subst (λ (t : Text). CutsBoth c.answer_opening.new.certificate.items t read sent c.in-Err-send_both.exit) c.as_slice-2.ensures.value first in
    opening_cut g.B.Sheet.SettlesPositions.rules g.B.Sheet.SettlesPositions.StandsAt (held_in told)
    (feed_told told) positions reads.0 c.answer_opening.new.certificate.items c.answer_opening.new.line.items
    c.in-Ok-answer_opening.sheet told read sent c.in-Err-send_both.exit reads.2 were_read side opens
    (c.in-Ok-read_to_end.ensures.others Out out_not_feed) (c.in-Ok-read_to_end.ensures.others Certs certs_not_feed) cuts

pub answer_opening-requires-clause-book : goal.answer_opening-requires-clause-book
answer_opening-requires-clause-book g c =
    let told = g.D.Desk.told c.args.desk.now in
    let read = g.D.Desk.told c.read_to_end.new.desk in
    let reads = c.in-Ok-read_to_end.ensures.reads (told Feed).left (feed_told told) [] (c.in-Ok.ensures told) in
    (reads.0, c.taker.ensures (told Feed).left (feed_told told) reads.0 read reads.1, reads.1.taken_up.lawful)

pub read_to_end-requires-clause-reading : goal.read_to_end-requires-clause-reading
read_to_end-requires-clause-reading g c =
    let told = g.D.Desk.told c.args.desk.now in
    ((told Feed).left, feed_told told, [], c.in-Ok.ensures told)
