use Rattle.std.proofs.Common.{◌≡◌, ◌==◌, false, Some, Decides}
use Rattle.std.specs.Option.{option_map_or}
use Rattle.std.proofs.lemmas.Bool.Decides.{Decides-and, Decides-eqb, Decides-at}
use Rattle.vx_check.specs.Reached.{shows_tick}
use Rattle.vx_check.proofs.Decisions.{some_nat}
use Rattle.vx_check.proofs.AtTick.{tick_seen, tick_shown}
use Rattle.vx_check.proofs.tick.is_tick_at.Goals as goal

pub returns : goal.returns
returns c = λ events reached.
    let book = c.args.book.now in
    let line = c.args.line in
    let time = c.args.time in
    let both : Decides (shows_tick book line time) ((book.lines ≡ line) × (book.tick ≡ Some time)) =
    Decides-and (book.lines == line) (option_map_or (λ minute. minute == time) book.tick false) (Decides-eqb book.lines line) (some_nat book.tick time) in
    let shown = Decides-at c.shows_tick.result (shows_tick book line time) c.shows_tick.ensures both in
    (λ t. tick_seen book events line reached time (shown.0 t), λ at. shown.1 (tick_shown book events line reached time at))
