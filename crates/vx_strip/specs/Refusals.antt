-- Why rows have no strip at a level. The conditions are those of the formula; their order is this project's own.
use Rattle.std.specs.Prelude.{ℕ, List}
use Rattle.vx_symbol.specs.declared.rows.StrikeRow.{StrikeRow}
use Rattle.vx_formula.specs.Refusal.{LacksMoney, HasNoPut, HasNoCall}
use Rattle.vx_strip.specs.declared.fault.StripRefusal.{StripRefusal}
use Rattle.vx_strip.specs.declared.fault.StripRefusal.TheVariants.{NoMemory, NoMoney, NoPut, NoCall}

-- this refusal is the first of its order that holds; want of memory has no cause
abbrev pub IsStripRefusal : List StrikeRow → ℕ → StripRefusal → Type 0
IsStripRefusal rows level NoMemory = Unit {0}
IsStripRefusal rows level NoMoney = LacksMoney rows level
IsStripRefusal rows level NoPut = ¬ LacksMoney rows level × HasNoPut rows level
IsStripRefusal rows level NoCall = ¬ LacksMoney rows level × ¬ HasNoPut rows level × HasNoCall rows level

-- none of them holds
pub record HasNoStripRefusal (rows : List StrikeRow) (level : ℕ) : Type 0 where
  pub has_money : ¬ LacksMoney rows level
  pub has_put : ¬ HasNoPut rows level
  pub has_call : ¬ HasNoCall rows level
