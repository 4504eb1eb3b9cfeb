use Rattle.std.proofs.Common.{◌≡◌, ◌∙◌, ◌+◌, ◌*◌, refl, sym, ap, arith}
use Rattle.std.specs.Int.{div_ceil}
use Rattle.vx_bounds.specs.Exponential.{high_term, high_sum_to}
use Rattle.vx_bounds.proofs.EndLemmas.{high_at_most, high_so_far, high_first}
use Rattle.vx_bounds.proofs.Steps.{high_next_is, high_sum_next, high_sum_first, collects_none, collects_more, terms_done}
use Rattle.vx_bounds.proofs.exponential.high_terms.Goals as goal

pub loop-k-init : goal.loop-k-init
loop-k-init c =
    let first = sym (high_first c.args.first c.args.p c.args.q) in
    collects_none _ _ _ _ _ refl first first (sym (high_sum_first c.args.first c.args.p c.args.q))

pub next_high-term-requires : goal.next_high-term-requires
next_high-term-requires c =
    let e = c.loop-k.invariant.last_is in let b = high_at_most c.args.first c.args.p c.args.q c.loop-k.k c.requires.divisor.0 c.requires.small in let f = c.requires.bounded in
    record { bounded = omega arith; place = omega arith; divisor = c.requires.divisor; small = c.requires.small }

pub overflow_add-sum : goal.overflow_add-sum
overflow_add-sum c =
    let next : c.next_high-term.result ≡ high_term c.args.first c.args.p c.args.q (c.loop-k.k + 1) =
    c.next_high-term.ensures ∙ ap (λ z. div_ceil (z * c.args.p) (c.args.q * (c.loop-k.k + 1))) c.loop-k.invariant.last_is ∙ sym (high_next_is c.args.first c.args.p c.args.q c.loop-k.k) in
    let added = c.loop-k.invariant.added_is in
    let more = high_sum_next c.args.first c.args.p c.args.q c.loop-k.k in
    let so_far = high_so_far c.args.first c.args.p c.args.q (c.loop-k.k + 1) c.requires.divisor.0 c.requires.small in
    let f = c.requires.bounded in
    omega arith

pub loop-k-preserved : goal.loop-k-preserved
loop-k-preserved c =
    let next : c.next_high-term.result ≡ high_term c.args.first c.args.p c.args.q (c.loop-k.k + 1) =
    c.next_high-term.ensures ∙ ap (λ z. div_ceil (z * c.args.p) (c.args.q * (c.loop-k.k + 1))) c.loop-k.invariant.last_is ∙ sym (high_next_is c.args.first c.args.p c.args.q c.loop-k.k) in
    collects_more _ _ _ _ _ _ _ (omega arith) c.loop-k.invariant next (high_sum_next c.args.first c.args.p c.args.q c.loop-k.k)

pub next_high-requires : goal.next_high-requires
next_high-requires c =
    let e = c.loop-k.invariant.last_is in let b = high_at_most c.args.first c.args.p c.args.q c.loop-k.k c.requires.divisor.0 c.requires.small in let f = c.requires.bounded in
    record { bounded = omega arith; place = omega arith; divisor = c.requires.divisor; small = c.requires.small }

pub returns : goal.returns
returns c =
    let last : c.loop-k.k ≡ 12 = omega arith in
    let e = c.loop-k.invariant.last_is ∙ ap (high_term c.args.first c.args.p c.args.q) last in
    let next : c.next_high.result ≡ high_term c.args.first c.args.p c.args.q 13 =
    c.next_high.ensures ∙ ap (λ z. div_ceil (z * c.args.p) (c.args.q * 13)) e ∙ sym (high_next_is c.args.first c.args.p c.args.q 12) in
    record {
      terms = terms_done _ _ _ _ _ _ _ last c.loop-k.invariant next;
      sum = c.loop-k.invariant.added_is ∙ ap (high_sum_to c.args.first c.args.p c.args.q) last;
    }
