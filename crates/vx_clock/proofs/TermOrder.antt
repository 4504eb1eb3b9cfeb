-- The orders in which terms are taken are reflexive and transitive.
use Rattle.std.proofs.Common.{pos, arith}
use Rattle.vx_clock.specs.declared.terms.Root.TheVariants.{Spx}
use Rattle.vx_clock.specs.declared.terms.Expiry.{Expiry}
use Rattle.vx_clock.specs.Terms.{IsTakenBeforeAsNear, IsTakenBeforeAsNext}
use Rattle.jiff_core.proofs.SignedLemmas.{signed_arith}

-- what a look-up past the end gives
abbrev pub some_expiry : Expiry
some_expiry = record { root = Spx; date = record { 0 = pos 0 } }

-- the order in which near terms are taken is reflexive
pub near-reflexive : (e : Expiry) → IsTakenBeforeAsNear e e
near-reflexive e = grind (arith, signed_arith)

-- and transitive
pub near-transitive : (a b c : Expiry) → IsTakenBeforeAsNear a b → IsTakenBeforeAsNear b c → IsTakenBeforeAsNear a c
near-transitive a b c h k = grind (arith, signed_arith)

-- the order in which next terms are taken is reflexive
pub next-reflexive : (e : Expiry) → IsTakenBeforeAsNext e e
next-reflexive e = grind (arith, signed_arith)

-- and transitive
pub next-transitive : (a b c : Expiry) → IsTakenBeforeAsNext a b → IsTakenBeforeAsNext b c → IsTakenBeforeAsNext a c
next-transitive a b c h k = grind (arith, signed_arith)
