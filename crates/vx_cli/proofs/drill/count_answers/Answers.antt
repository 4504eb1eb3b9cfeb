use Rattle.std.proofs.Common.{List, ℕ, [], Ok, Err, subst}
use Rattle.vx_desk.specs.declared.device.Slot.TheVariants.{Feed}
use Rattle.vx_reading.specs.FeedReading.{feed_told}
use Rattle.vx_cli.specs.DrillRuns.{CountsText}
use Rattle.vx_cli.specs.TextDesk.{told_text}
use Rattle.vx_cli.proofs.CountLemmas.{text_counted, text_stopped}
use Rattle.vx_cli.proofs.drill.count_answers.Goals as goal

pub read_to_end-requires-clause-reading : goal.read_to_end-requires-clause-reading
read_to_end-requires-clause-reading c =
    let told = told_text c.new-desk.result.left.now in ((told Feed).left, feed_told told, [], c.in_ok-feed.ensures told)

pub returns : goal.returns
returns c =
    let text = c.new-desk.result.left.now in
    subst (λ (t : List ℕ). CountsText t (Err c.in-Err.stop)) c.new-desk.ensures
    (text_stopped (told_text text Feed).left c.read_to_end.new.self text c.read_to_end.new.desk.left.now c.in-Err.stop
    (c.in-Err.ensures.reads (told_text text Feed).left (feed_told (told_text text)) [] (c.in_ok-feed.ensures (told_text text))) c.in-Err.ensures.step)

pub returns-in-Ok : goal.returns-in-Ok
returns-in-Ok c =
    let text = c.new-desk.result.left.now in
    subst (λ (t : List ℕ). CountsText t (Ok c.taker.result.now.counts)) c.new-desk.ensures
    (text_counted (told_text text Feed).left c.read_to_end.new.self text c.read_to_end.new.desk.left.now c.taker.result.now.counts
    (λ whole events told at. (c.taker.ensures (told_text text Feed).left whole events told at).counted)
    (c.in-Ok.ensures.reads (told_text text Feed).left (feed_told (told_text text)) [] (c.in_ok-feed.ensures (told_text text))))
