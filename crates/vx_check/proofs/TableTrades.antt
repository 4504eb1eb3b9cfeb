-- The trades of one table after one more.
use Rattle.std.proofs.Common.{◌≡◌, ℕ, true, List, [], ◌∷◌, get_or, set, Option, Some, None, refl, sym, ◌∙◌, ap, subst}
use Rattle.std.specs.List.{insert}
use Rattle.vx_symbol.specs.declared.symbols.Side.{Side}
use Rattle.vx_symbol.specs.declared.symbols.Side.TheVariants.{Call, Put}
use Rattle.vx_symbol.specs.declared.rows.Price.{Price}
use Rattle.vx_symbol.specs.declared.rows.StrikeRow.{StrikeRow}
use Rattle.vx_check.specs.declared.table.Half.{Half}
use Rattle.vx_check.specs.declared.trades.FirstTrades.{FirstTrades}
use Rattle.vx_check.specs.Rising.{Rises, StandsAt, FitsAt, IsWith, item_at}
use Rattle.vx_check.specs.Tables.{row_strike}
use Rattle.vx_check.specs.Trades.{SetsTrade, is_listed_in, no_trades, trades_strike, trades_when_traded, with_first_trade, with_trade}
use Rattle.vx_check.proofs.Rising.{item_that_stands, key_that_stands, none_that_fits, with_inserted, with_set}

keeps_strike : (side : Side) (price : Price) (trades : FirstTrades) → trades_strike (with_trade side price trades) ≡ trades_strike trades
keeps_strike Put price trades = refl
keeps_strike Call price trades = refl

-- the strike had trades
pub kept_at : (side : Side) (price : Price) (k place : ℕ) (trades : List FirstTrades) (t y : FirstTrades)
    → StandsAt trades_strike k place trades → Rises trades_strike trades → t ≡ get_or trades place t → y ≡ with_trade side price t
    → SetsTrade true side k price trades (set trades place y)
kept_at side price k place trades t y s r is e =
    let item : item_at trades_strike k trades ≡ Some t = item_that_stands trades_strike k place trades t s ∙ ap Some (sym is) in
    let its_strike : trades_strike y ≡ k = ap trades_strike e ∙ keeps_strike side price t ∙ ap trades_strike is
    ∙ key_that_stands trades_strike k place trades t s in
    let due : Some y ≡ trades_when_traded true side k price (item_at trades_strike k trades) = ap Some e
    ∙ sym (ap (λ o. Some (with_first_trade side k price o)) item) in
    subst (λ (o : Option FirstTrades). IsWith trades_strike k o trades (set trades place y)) due
    (with_set trades_strike y k place trades its_strike s r)

-- it had none
pub kept_new : (side : Side) (price : Price) (k place : ℕ) (trades new : List FirstTrades) (y : FirstTrades)
    → FitsAt trades_strike k place trades → Rises trades_strike trades → y ≡ with_trade side price (no_trades k)
    → new ≡ insert trades place y → SetsTrade true side k price trades new
kept_new side price k place trades new y s r e added =
    let item : item_at trades_strike k trades ≡ None = none_that_fits trades_strike k place 0 trades s r in
    let its_strike : trades_strike y ≡ k = ap trades_strike e ∙ keeps_strike side price (no_trades k) in
    let due : Some y ≡ trades_when_traded true side k price (item_at trades_strike k trades) = ap Some e
    ∙ sym (ap (λ o. Some (with_first_trade side k price o)) item) in
    let fits : FitsAt trades_strike (trades_strike y) place trades = subst (λ n. FitsAt trades_strike n place trades) (sym its_strike) s in
    let own : IsWith trades_strike (trades_strike y) (Some y) trades
    (insert trades place y) = with_inserted trades_strike y place trades fits r in
    let at_strike : IsWith trades_strike k (Some y) trades (insert trades place y) = subst
    (λ n. IsWith trades_strike n (Some y) trades (insert trades place y)) its_strike own in
    subst (λ (l : List FirstTrades). IsWith trades_strike k (trades_when_traded true side k price
    (item_at trades_strike k trades)) trades l) (sym added)
    (subst (λ (o : Option FirstTrades). IsWith trades_strike k o trades (insert trades place y)) due at_strike)

-- a strike with a row has both sides listed
pub listed_in_row : (side : Side) (k place : ℕ) (rows : List StrikeRow) (half : Option Half) → StandsAt row_strike k place rows
    → true ≡ is_listed_in side (item_at row_strike k rows) half
listed_in_row side k place [] half s = absurd s
listed_in_row side k place (r ∷ rows) half s = sym (ap (λ o. is_listed_in side o half) (item_that_stands row_strike k place (r ∷ rows) r s))
