-- What two ends around a forward say of the level.
use Rattle.std.proofs.Common.{ℕ, ◌*◌, ◌≤◌, ℤ, pos, ◌*ℤ◌, ◌≤ℤ◌, ◌<ℤ◌, inl, inr, arith}
use Rattle.std.proofs.lemmas.Int.{ints}
use Rattle.vx_num.specs.Fraction.{Fraction, IsProper, whole, ◌*ᶠ◌, ◌≤ᶠ◌, ◌<ᶠ◌}
use Rattle.vx_num.proofs.Whole.{mul_mono, mul_strict}
use Rattle.vx_formula.specs.declared.limits.TheConstants.{FORWARD_UNITS}
use Rattle.vx_formula.specs.Pair.{Pair}
use Rattle.vx_formula.specs.Term.{exponent}
use Rattle.vx_formula.specs.Forward.{forward_at}
use Rattle.vx_formula.specs.Between.{forward_units}
use Rattle.vx_bracket.proofs.Members.{bracket_has_member}
use Rattle.vx_formula.proofs.Ends.{whole_at_most}
use Rattle.vx_formula.proofs.LevelLemmas.{exponent_proper}
use Rattle.vx_formula.specs.StrikesByEnds.{EndsAreInOrder, AllAboveIsBelowAll, LevelByEndsIsLevel, EndsDecideOrNot}
use Rattle.vx_formula.proofs.StrikeCases.{lie_one_way}

-- a fraction t/b by its bounds in units
below_at : (t hi : ℤ) (b s : ℕ) → 1 ≤ b → (pos FORWARD_UNITS *ℤ t) ≤ℤ (hi *ℤ pos b) → hi <ℤ (pos FORWARD_UNITS *ℤ pos s) → t <ℤ pos (s * b)
below_at t hi b s proper within beyond =
    let product = mul_strict hi (pos FORWARD_UNITS *ℤ pos s) (pos b) (omega (arith, ints)) beyond in
    omega (arith, ints)

at_least_at : (t lo : ℤ) (b k : ℕ) → (lo *ℤ pos b) ≤ℤ (pos FORWARD_UNITS *ℤ t) → (pos FORWARD_UNITS *ℤ pos k) ≤ℤ lo → pos (k * b) ≤ℤ t
at_least_at t lo b k above low =
    let product = mul_mono (pos FORWARD_UNITS *ℤ pos k) lo (pos b) (omega (arith, ints)) low in
    omega (arith, ints)

below_strike : (f : Fraction) (hi : ℤ) (s : ℕ) → IsProper f → (whole (pos FORWARD_UNITS) *ᶠ f) ≤ᶠ whole hi → hi <ℤ (pos FORWARD_UNITS *ℤ pos s) → f <ᶠ whole (pos s)
below_strike f hi s proper within beyond =
    let less = below_at f.top hi f.bottom s proper (omega (arith, ints)) beyond in
    omega (arith, ints)

at_most_forward : (f : Fraction) (lo : ℤ) (k : ℕ) → whole lo ≤ᶠ (whole (pos FORWARD_UNITS) *ᶠ f) → (pos FORWARD_UNITS *ℤ pos k) ≤ℤ lo → whole (pos k) ≤ᶠ f
at_most_forward f lo k above low =
    let least = at_least_at f.top lo f.bottom k (omega (arith, ints)) low in
    omega (arith, ints)

forward_proper : (pair : Pair) (e : Fraction) → IsProper e → IsProper (forward_at pair e)
forward_proper pair e proper = omega arith

pub ends_are_in_order : EndsAreInOrder
ends_are_in_order term lo hi h =
    let member = bracket_has_member h.depth (exponent term.rate term.minutes) (exponent_proper term.rate term.minutes) in
    whole_at_most lo hi (forward_units term member.0) (omega (arith, forward_proper term.pair member.0 member.1.proper)) (h.at_least member.0 member.1) (h.at_most member.0 member.1)

pub all_above_is_below_all : AllAboveIsBelowAll
all_above_is_below_all term lo hi h above = record {
  depth = h.depth;
  holds = λ e member strike listed.
      below_strike (forward_at term.pair e) hi strike (forward_proper term.pair e member.proper) (h.at_most e member) (above strike listed);
}

pub greatest_at_most_is_level : LevelByEndsIsLevel
greatest_at_most_is_level term lo hi k h greatest = record {
  depth = h.depth;
  holds = λ e member.
      let forward = forward_at term.pair e in
      record {
        is_listed = greatest.listed;
        at_most = at_most_forward forward lo k (h.at_least e member) greatest.at_most;
        others_above = λ other listed less.
            below_strike forward hi other (forward_proper term.pair e member.proper) (h.at_most e member) (greatest.others_above other listed less);
      };
}

pub ends_decide_or_not : EndsDecideOrNot
ends_decide_or_not term lo hi h narrow =
    elim (lie_one_way term.rows lo hi) [
      | inl found ↦ inl (
        found.0,
        record {
          between = h;
          narrow = narrow;
          listed = found.1.listed;
          straddles = found.1.straddles;
          lowest = found.1.lowest;
        },
      )
      | inr placed ↦ elim placed [
        | inl above ↦ inr (inl (all_above_is_below_all term lo hi h above))
        | inr greatest ↦ inr (inr (greatest.0, greatest_at_most_is_level term lo hi greatest.0 h greatest.1))
      ]
    ]
