-- Each piece stands in front of those behind it.
use Rattle.std.proofs.Common.{rules, ◌≡◌, ◌∙◌, ap, pos, [], ◌∷◌, ◌++◌, codes, drop}
use Rattle.vx_num.specs.Written.{signed_text}
use Rattle.vx_feed.specs.Written.{count_text}
use Rattle.vx_cli.specs.SettleText.{amount_text, contract_word}
use Rattle.vx_cli.proofs.LineLemmas.{piece_before, pieces_more}
use Rattle.vx_cli.proofs.settle_lines.push_position.Goals as goal

pub returns : goal.returns
returns c =
    let p = c.args.position.now in
    let number = count_text c.args.number in
    let word = contract_word p.contract in
    let quantity = signed_text p.quantity 0 in
    let last = signed_text (pos p.last) 4 in
    let amount = amount_text c.args.amount in
    let amount_is : drop c.put_amount-amount.result c.put_amount-amount.new.bytes ≡ 44 ∷ (amount ++ drop c.put-end.result c.put-end.new.bytes) = search rules in
    let last_is : drop c.put_field-last.result c.put_field-last.new.bytes ≡ 44 ∷ (last ++ drop c.put_amount-amount.result c.put_amount-amount.new.bytes) = search rules in
    let quantity_is : drop c.put_field-quantity.result c.put_field-quantity.new.bytes ≡ 44 ∷ (quantity ++ drop c.put_field-last.result c.put_field-last.new.bytes) = search rules in
    let from_amount = amount_is ∙ ap (λ t. 44 ∷ (amount ++ t)) c.put-end.ensures.written in
    let from_last = last_is ∙ ap (λ t. 44 ∷ t) (piece_before last amount [] _ from_amount) in
    let from_quantity = quantity_is ∙ ap (λ t. 44 ∷ t) (piece_before quantity last (amount ∷ []) _ from_last) in
    let from_word = c.put_contract-contract.ensures.written ∙ ap (λ t. 44 ∷ t) (piece_before word quantity (last ∷ amount ∷ []) _ from_quantity) in
    let from_number = piece_before number word (quantity ∷ last ∷ amount ∷ []) _ from_word in
    let line = c.put_start-start.ensures.written ∙ ap (λ t. codes "POS" ++ 44 ∷ t) from_number ∙ pieces_more (codes "POS") [] number (word ∷ quantity ∷ last ∷ amount ∷ []) in
    c.in_ok-extend_from_slice.ensures.items ∙ ap (λ t. c.args.line.now.items ++ t) (c.written.ensures ∙ line)
