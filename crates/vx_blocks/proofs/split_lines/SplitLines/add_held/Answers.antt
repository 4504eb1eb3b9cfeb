use Rattle.std.proofs.Common.{refl}
use Rattle.vx_blocks.proofs.BlockLemmas.{held_whole, none_passed, takes_text, text_comes, text_read}
use Rattle.vx_blocks.specs.declared.split_lines.SplitLines.{SplitLines}
use Rattle.vx_blocks.proofs.split_lines.SplitLines.add_held.Goals as goal

pub plain_lines-text-requires : goal.plain_lines-text-requires
plain_lines-text-requires c = record { whole = held_whole c.args.self.now.lines _ c.held_text.result.now c.held_text.ensures }

pub push_text-requires-clause-whole : goal.push_text-requires-clause-whole
push_text-requires-clause-whole c =
    (takes_text c.args.self.now.lines _ c.held_text.result.now c.plain_lines-text.result.now c.held_text.ensures c.plain_lines-text.ensures.head c.plain_lines-text.ensures.begins).whole

pub push_text-requires-clause-plain : goal.push_text-requires-clause-plain
push_text-requires-clause-plain c =
    (takes_text c.args.self.now.lines _ c.held_text.result.now c.plain_lines-text.result.now c.held_text.ensures c.plain_lines-text.ensures.head c.plain_lines-text.ensures.begins).plain

pub returns-clause-steps : goal.returns-clause-steps
returns-clause-steps c = λ told.
    let old = c.args.self.now in
    let new : SplitLines = record old { lines = c.pass.new.self; block = c.push_text.new.self } in
    let takes = takes_text old.lines _ c.held_text.result.now c.plain_lines-text.result.now c.held_text.ensures c.plain_lines-text.ensures.head c.plain_lines-text.ensures.begins in
    text_read old new c.plain_lines-text.result.now _ told c.requires.reading c.requires.more takes c.pass.ensures refl c.in_ok-push_text.ensures.ok

pub returns-clause-comes_on : goal.returns-clause-comes_on
returns-clause-comes_on c = λ told.
    let old = c.args.self.now in
    let new : SplitLines = record old { lines = c.pass.new.self; block = c.push_text.new.self } in
    let takes = takes_text old.lines _ c.held_text.result.now c.plain_lines-text.result.now c.held_text.ensures c.plain_lines-text.ensures.head c.plain_lines-text.ensures.begins in
    text_comes old new c.plain_lines-text.result.now _ told takes c.pass.ensures

pub returns-clause-none : goal.returns-clause-none
returns-clause-none c = λ same.
    let old = c.args.self.now in
    let new : SplitLines = record old { lines = c.pass.new.self; block = c.push_text.new.self } in
    let takes = takes_text old.lines _ c.held_text.result.now c.plain_lines-text.result.now c.held_text.ensures c.plain_lines-text.ensures.head c.plain_lines-text.ensures.begins in
    none_passed old new c.plain_lines-text.result.now _ takes c.pass.ensures c.in_ok-push_text.ensures.ok same
