use Rattle.std.proofs.Common.{◌∙◌, sym, ap}
use Rattle.std.specs.Prelude.{map, option_map, string_bytes, Some}
use Rattle.vx_cli.specs.Requests.{asked}
use Rattle.vx_drivers.specs.declared.exit.Exit.TheVariants.{NoMemory}
use Rattle.vx_cli.specs.Words.{check, command_of, drill, make, replay, settle}
use Rattle.vx_cli.proofs.CheckLemmas.{nothing_done}
use Rattle.vx_cli.proofs.HeadlineLemmas.{headline_by, headline_of}
use Rattle.vx_cli.proofs.LawfulExitLemmas.{lawful_by}
use Rattle.vx_cli.proofs.program.run.Goals as goal

pub returns-in-Err-clause-sends : goal.returns-in-Err-clause-sends
returns-in-Err-clause-sends g c =
    nothing_done (command_of (map string_bytes c.args.words.now)) (g.D.Desk.holds c.args.desk.now) (g.D.Desk.told c.args.desk.now) c.requires.closed

pub returns-in-Err-clause-headline : goal.returns-in-Err-clause-headline
returns-in-Err-clause-headline g c =
    headline_of (g.D.Desk.told c.args.desk.now) (g.D.Desk.told c.args.desk.now) NoMemory
    (command_of (map string_bytes c.args.words.now)) (g.D.Desk.holds c.args.desk.now)
    (nothing_done (command_of (map string_bytes c.args.words.now)) (g.D.Desk.holds c.args.desk.now) (g.D.Desk.told c.args.desk.now) c.requires.closed)

pub returns-in-Ok-Some-Replay-clause-headline : goal.returns-in-Ok-Some-Replay-clause-headline
returns-in-Ok-Some-Replay-clause-headline g c =
    headline_by (g.D.Desk.told c.args.desk.now) (g.D.Desk.told c.replay_files.new.desk) c.replay_files.result
    (Some (replay c.in-Ok-Some-Replay.feed.now c.in-Ok-Some-Replay.certs.now)) (command_of (map string_bytes c.args.words.now)) (g.D.Desk.holds c.args.desk.now)
    (sym (ap (option_map asked) (c.in-Ok-Some-Replay.field-0-is ∙ ap Some c.in-Ok-Some-Replay.field-0-0-is)) ∙ c.in-Ok-Some-Replay.ensures.asked) c.replay_files.ensures.sends

pub returns-in-Ok-Some-Replay-clause-exits_of_lawful : goal.returns-in-Ok-Some-Replay-clause-exits_of_lawful
returns-in-Ok-Some-Replay-clause-exits_of_lawful g c =
    lawful_by (replay c.in-Ok-Some-Replay.feed.now c.in-Ok-Some-Replay.certs.now) (command_of (map string_bytes c.args.words.now)) (g.D.Desk.holds c.args.desk.now)
    (g.D.Desk.told c.args.desk.now) (g.D.Desk.told c.replay_files.new.desk) c.replay_files.result
    (sym (ap (option_map asked) (c.in-Ok-Some-Replay.field-0-is ∙ ap Some c.in-Ok-Some-Replay.field-0-0-is)) ∙ c.in-Ok-Some-Replay.ensures.asked) c.replay_files.ensures.failures c.replay_files.ensures.exits c.replay_files.ensures.sends

pub returns-in-Ok-Some-Check-clause-headline : goal.returns-in-Ok-Some-Check-clause-headline
returns-in-Ok-Some-Check-clause-headline g c =
    headline_by (g.D.Desk.told c.args.desk.now) (g.D.Desk.told c.check_files.new.desk) c.check_files.result
    (Some (check c.in-Ok-Some-Check.feed.now c.in-Ok-Some-Check.certs.now)) (command_of (map string_bytes c.args.words.now)) (g.D.Desk.holds c.args.desk.now)
    (sym (ap (option_map asked) (c.in-Ok-Some-Check.field-0-is ∙ ap Some c.in-Ok-Some-Check.field-0-0-is)) ∙ c.in-Ok-Some-Check.ensures.asked) c.check_files.ensures.sends

pub returns-in-Ok-Some-Check-clause-exits_of_lawful : goal.returns-in-Ok-Some-Check-clause-exits_of_lawful
returns-in-Ok-Some-Check-clause-exits_of_lawful g c =
    lawful_by (check c.in-Ok-Some-Check.feed.now c.in-Ok-Some-Check.certs.now) (command_of (map string_bytes c.args.words.now)) (g.D.Desk.holds c.args.desk.now)
    (g.D.Desk.told c.args.desk.now) (g.D.Desk.told c.check_files.new.desk) c.check_files.result
    (sym (ap (option_map asked) (c.in-Ok-Some-Check.field-0-is ∙ ap Some c.in-Ok-Some-Check.field-0-0-is)) ∙ c.in-Ok-Some-Check.ensures.asked) c.check_files.ensures.failures c.check_files.ensures.exits c.check_files.ensures.sends

pub returns-in-Ok-Some-Settle-clause-headline : goal.returns-in-Ok-Some-Settle-clause-headline
returns-in-Ok-Some-Settle-clause-headline g c =
    headline_by (g.D.Desk.told c.args.desk.now) (g.D.Desk.told c.settle_files.new.desk) c.settle_files.result
    (Some (settle c.in-Ok-Some-Settle.feed.now c.in-Ok-Some-Settle.positions.now c.in-Ok-Some-Settle.certs.now)) (command_of (map string_bytes c.args.words.now)) (g.D.Desk.holds c.args.desk.now)
    (sym (ap (option_map asked) (c.in-Ok-Some-Settle.field-0-is ∙ ap Some c.in-Ok-Some-Settle.field-0-0-is)) ∙ c.in-Ok-Some-Settle.ensures.asked) c.settle_files.ensures.sends

pub returns-in-Ok-Some-Settle-clause-exits_of_lawful : goal.returns-in-Ok-Some-Settle-clause-exits_of_lawful
returns-in-Ok-Some-Settle-clause-exits_of_lawful g c =
    lawful_by (settle c.in-Ok-Some-Settle.feed.now c.in-Ok-Some-Settle.positions.now c.in-Ok-Some-Settle.certs.now) (command_of (map string_bytes c.args.words.now)) (g.D.Desk.holds c.args.desk.now)
    (g.D.Desk.told c.args.desk.now) (g.D.Desk.told c.settle_files.new.desk) c.settle_files.result
    (sym (ap (option_map asked) (c.in-Ok-Some-Settle.field-0-is ∙ ap Some c.in-Ok-Some-Settle.field-0-0-is)) ∙ c.in-Ok-Some-Settle.ensures.asked) c.settle_files.ensures.failures c.settle_files.ensures.exits c.settle_files.ensures.sends

pub returns-in-Ok-Some-Make-clause-exits_of_lawful : goal.returns-in-Ok-Some-Make-clause-exits_of_lawful
returns-in-Ok-Some-Make-clause-exits_of_lawful g c =
    lawful_by (make c.in-Ok-Some-Make.number c.in-Ok-Some-Make.ticks) (command_of (map string_bytes c.args.words.now)) (g.D.Desk.holds c.args.desk.now)
    (g.D.Desk.told c.args.desk.now) (g.D.Desk.told c.send_sample.new.desk) c.send_sample.result
    (sym (ap (option_map asked) (c.in-Ok-Some-Make.field-0-is ∙ ap Some c.in-Ok-Some-Make.field-0-0-is)) ∙ c.in-Ok-Some-Make.ensures.asked) c.send_sample.ensures.failures c.send_sample.ensures.exits c.send_sample.ensures.makes

pub returns-in-Ok-Some-Drill-clause-exits_of_lawful : goal.returns-in-Ok-Some-Drill-clause-exits_of_lawful
returns-in-Ok-Some-Drill-clause-exits_of_lawful g c =
    lawful_by (drill c.in-Ok-Some-Drill.number c.in-Ok-Some-Drill.ticks) (command_of (map string_bytes c.args.words.now)) (g.D.Desk.holds c.args.desk.now)
    (g.D.Desk.told c.args.desk.now) (g.D.Desk.told c.drill_sample.new.desk) c.drill_sample.result
    (sym (ap (option_map asked) (c.in-Ok-Some-Drill.field-0-is ∙ ap Some c.in-Ok-Some-Drill.field-0-0-is)) ∙ c.in-Ok-Some-Drill.ensures.asked) c.drill_sample.ensures.failures c.drill_sample.ensures.exits c.drill_sample.ensures.drills
